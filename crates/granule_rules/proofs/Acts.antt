-- When delegation is OK, and what it then does. Assumes nothing.
use Rattle.std.specs.Prelude.{Option, Some, None}
use Prim.Native.Nat.{ℕ, ◌/◌, ◌<◌}
use mathlib.Core.Path.{◌≡◌, refl, sym, ap, ◌∙◌}
use mathlib.Core.Bool.{true, false, false≢true}
use native.Mathlib.Omega.{arith}
use lib.ListN.{length, get_or, set, length-set}
use lib.Seq.{get_or-set_same, get_or-set_other}
use borrow.Author.Tests.{eqb-true, eqb-false, eq-eqb, ne_eqb}
use Rattle.words.specs.Tests.{Yes}
use Rattle.banks.specs.Banks.{Granules, record_ok, granule_count, granule_at, address_of}
use Rattle.boot.specs.declared.Params.{Params}
use Rattle.boot.specs.declared.Record.{Record}
use Rattle.codes.specs.Codes.{is_up, boot_params, is_ok, when_up, answer_of}
use Rattle.codes.specs.declared.Code.TheVariants.{Ok, BadAddr}
use Rattle.codes.proofs.Gates.{fails-ok, unless-ok}
use Rattle.realm_words.specs.Bits.{words_for, bit_at, realm_bit, put_bit}
use Rattle.realm_words.proofs.Laws.{realm-lt, put_same, put_other, put-length}
use Rattle.banks.proofs.Laws.{falls, index_below, index-named, one_address}
use Rattle.granule_rules.specs.Granules.{GranuleTable, from_byte, to_byte, is_shared_page, granule_code, move_code, granule_set, moved}
use Rattle.granule_rules.specs.Granules.{Moved, moved_by, when_fit, fitting, move_of, moved_to}
use Rattle.granule_rules.specs.Steps.{move_at}
use Rattle.granule_rules.specs.Acts.{MoveActed}
use Rattle.granule_rules.specs.declared.Direction.{Direction}
use Rattle.granule_rules.specs.declared.Direction.TheVariants.{Delegate, Undelegate}
use Rattle.granule_rules.proofs.Moving.{move-addr, move-shared, move-ok, move_up}

-- ---- granule i of a table has one address, that of its bank
module _ (g : Granules) (n i : ℕ) where
  pub granule-on : Yes (record_ok g) → granule_count g ≡ n → i < n → granule_at g n (address_of g i) ≡ Some i
  granule-on ok e h = rw (← e) (index-named g i ok (omega arith))

  pub granule-address : (addr : ℕ) → granule_at g n addr ≡ Some i → addr ≡ address_of g i
  granule-address addr h =
      let f = falls g n addr i h in
      one_address g n addr (address_of g i) i h (granule-on f.ok f.count (index_below g n addr i h))

-- A call is refused only if CM2 or CM3 refuses it. The answer is OK if the number of words is right, the record is up, the address is that
-- of a granule of the table (when undelegating, not of the shared page), and its byte is 0 (delegate) or 1 (undelegate).
pub move-passes : (s : Record) (g : Granules) (d : Direction) (t : GranuleTable) (addr i : ℕ) →
    length t.words ≡ words_for (granule_count g) → is_up s ≡ true → granule_at g (length t.bytes) addr ≡ Some i →
    (d ≡ Undelegate → addr ≡ (boot_params s).base → ⊥) → get_or t.bytes i 0 ≡ from_byte d → (move_of s g d t addr).answer ≡ answer_of Ok 0 0
unfolding moved_to is_shared_page
move-passes s g d t addr i f u e n b =
    ap (λ (m : Moved). m.answer) (sym (move-ok (boot_params s) g d t.bytes t.words addr i e (go d n) b (to_byte d) refl ∙
    move_up s g d t addr (eq-eqb (length t.words) (words_for (granule_count g)) f) u))
  where
    go : (d : Direction) → (d ≡ Undelegate → addr ≡ (boot_params s).base → ⊥) → is_shared_page (boot_params s) d addr ≡ false
    go Delegate n = refl
    go Undelegate n = ne_eqb addr (boot_params s).base (n refl)

-- Request E8: with the right number of words and the record up, undelegating the shared page is BAD_ADDR, for any table
pub shared-refused : (s : Record) (g : Granules) (t : GranuleTable) → length t.words ≡ words_for (granule_count g) → is_up s ≡ true →
    move_of s g Undelegate t (boot_params s).base ≡ record { answer = answer_of BadAddr 0 0; table = t }
unfolding moved_to is_shared_page
shared-refused s g t f u =
    sym (go (granule_at g (length t.bytes) (boot_params s).base) refl ∙
    move_up s g Undelegate t (boot_params s).base (eq-eqb (length t.words) (words_for (granule_count g)) f) u)
  where
    go : (k : Option ℕ) → granule_at g (length t.bytes) (boot_params s).base ≡ k →
        ◌≡◌ {A = Moved} (record { answer = answer_of BadAddr 0 0; table = t }) (move_at (boot_params s) g Undelegate t (boot_params s).base)
    go None e = move-addr (boot_params s) g Undelegate t.bytes t.words (boot_params s).base e
    go (Some i) e =
        move-shared (boot_params s) g Undelegate t.bytes t.words (boot_params s).base i e
        (eq-eqb (boot_params s).base (boot_params s).base refl)

-- the granule's bit is in one of the words
word_of : (g : Granules) (t : GranuleTable) (addr i : ℕ) → length t.words ≡ words_for (granule_count g) →
    granule_at g (length t.bytes) addr ≡ Some i → i / 64 < length t.words
unfolding words_for
word_of g t addr i f e =
    let l : i < length t.bytes = index_below g (length t.bytes) addr i e in
    let n : granule_count g ≡ length t.bytes = (falls g (length t.bytes) addr i e).count in
    omega arith

acted : (u : Params) (g : Granules) (d : Direction) (t : GranuleTable) (addr : ℕ) (k : Option ℕ) →
    length t.words ≡ words_for (granule_count g) → granule_at g (length t.bytes) addr ≡ k → granule_code u d t addr k ≡ Ok →
    MoveActed g d t (granule_set d t k) addr
unfolding granule_code granule_set from_byte to_byte realm_bit
acted u g d t addr None f e h = absurd (false≢true (ap is_ok h))
acted u g d t addr (Some i) f e h =
    let was : get_or t.bytes i 0 ≡ from_byte d = eqb-true _ _ (unless-ok _ _ _ refl (fails-ok _ _ _ refl h).1).0 in
    let becomes : get_or (set t.bytes i (to_byte d)) i 0 ≡ to_byte d = get_or-set_same t.bytes i (to_byte d) 0 (index_below g (length t.bytes) addr i e) in
    let bit : bit_at (put_bit t.words i (realm_bit (to_byte d))) i ≡ realm_bit (to_byte d) = put_same t.words i _ (word_of g t addr i f e)
    (realm-lt (to_byte d)) in
    record {
      granule = i;
      own = e;
      was = was;
      becomes = becomes;
      others = λ j n. get_or-set_other t.bytes i j _ 0 n;
      whole = length-set t.bytes i _;
      bit = bit;
      other_bits = λ j n. put_other t.words i j _ (realm-lt (to_byte d)) n;
      whole_words = put-length t.words i _;
      delegated = λ q. (was ∙ ap from_byte q, becomes ∙ ap to_byte q, bit ∙ ap (λ (x : Direction). realm_bit (to_byte x)) q);
      undelegated = λ q. (was ∙ ap from_byte q, becomes ∙ ap to_byte q, bit ∙ ap (λ (x : Direction). realm_bit (to_byte x)) q);
    }

-- what follows from OK for the checks that read no byte
free : (u : Params) (d : Direction) (t : GranuleTable) (addr : ℕ) (k : Option ℕ) → granule_code u d t addr k ≡ Ok →
    is_shared_page u d addr ≡ false
unfolding granule_code
free u d t addr None h = absurd (false≢true (ap is_ok h))
free u d t addr (Some i) h = (fails-ok _ _ _ refl h).0

pub move-free : (s : Record) (g : Granules) (d : Direction) (t : GranuleTable) (addr : ℕ) → (move_of s g d t addr).answer.code ≡ Ok →
    (fitting g t ≡ true) × (is_up s ≡ true) × (is_shared_page (boot_params s) d addr ≡ false)
unfolding move_of moved_by move_code when_fit when_up answer_of
move-free s g d t addr h =
    let p = unless-ok _ _ _ refl h in
    let q = unless-ok _ _ _ refl p.1 in
    (p.0, q.0, free (boot_params s) d t addr _ q.1)

-- and only with the right number of words, the record up, and not to undelegate the shared page; `MoveActed` has the rest of what follows
-- from OK
pub move-only : (s : Record) (g : Granules) (d : Direction) (t : GranuleTable) (addr : ℕ) → (move_of s g d t addr).answer.code ≡ Ok →
    (length t.words ≡ words_for (granule_count g)) × (is_up s ≡ true) × (d ≡ Undelegate → addr ≡ (boot_params s).base → ⊥)
unfolding is_shared_page fitting
move-only s g d t addr h =
    let p = move-free s g d t addr h in (eqb-true _ _ p.0, p.1, λ e. eqb-false addr (boot_params s).base (rw e at p.2))

-- "Then it becomes 1 or 0."
pub move-acts : (s : Record) (g : Granules) (d : Direction) (t : GranuleTable) (addr : ℕ) → (move_of s g d t addr).answer.code ≡ Ok →
    MoveActed g d t (move_of s g d t addr).table addr
unfolding move_of moved_by move_code moved when_fit when_up answer_of
move-acts s g d t addr h =
    let p = unless-ok _ _ _ refl h in rw h (acted _ g d t addr _ (eqb-true _ _ p.0) refl (unless-ok _ _ _ refl p.1).1)
