-- Delegation, return by return, and what a refusal leaves. Assumes nothing.
use Rattle.std.specs.Prelude.{Option, Some, None, Result, Err, Ok as Go}
use Prim.Native.Nat.{ℕ, ◌+◌, ◌/◌, ◌<◌}
use mathlib.Core.Path.{◌≡◌, refl, sym, ap, ◌∙◌}
use mathlib.Core.Bool.{Bool, true, false, false≢true}
use mathlib.Core.List.{List}
use native.Mathlib.Omega.{arith}
use lib.ListN.{length, get_or, set, length-set}
use lib.Dec.{eqb}
use borrow.Author.Tests.{eqb-true, eq-eqb, ne_eqb}
use Rattle.words.specs.Tests.{Yes}
use Rattle.realm_words.specs.Bits.{realm_bit, put_bit, words_for}
use Rattle.realm_words.specs.Answers.{words_fit}
use Rattle.banks.specs.Banks.{Granules, granule_count, granule_at}
use Rattle.boot.specs.declared.Params.{Params}
use Rattle.boot.specs.declared.Record.{Record}
use Rattle.codes.specs.Codes.{is_up, is_false, fails, boot_params, when_up, is_ok, answer_of}
use Rattle.codes.specs.declared.Code.{Code}
use Rattle.codes.specs.declared.Code.TheVariants.{Ok, Unk, BadAddr, BadPas, Inval}
use Rattle.codes.proofs.Gates.{if-ok-by, went, stood, stops, goes}
use Rattle.codes.specs.declared.Answer.{Answer}
use Rattle.banks.proofs.Laws.{falls, index_below}
use Rattle.banks.proofs.Fast.{table_fits, table-fits, table-unfit}
use Rattle.granule_rules.specs.Granules.{GranuleTable, table_of, from_byte, to_byte, is_shared_page, granule_code, move_code, granule_set}
use Rattle.granule_rules.specs.Granules.{moved, Moved, moved_by, fitting, when_fit, move_of, moved_to}
use Rattle.granule_rules.specs.Steps.{Inside, shared_code, move_at, MoveResult}
use Rattle.granule_rules.specs.declared.Direction.{Direction}

-- ---- the granule of an address is within the table
pub granule-inside : (g : Granules) (t ws : List ℕ) (addr : ℕ) (k : Option ℕ) → Yes (words_fit ws (granule_count g)) →
    k ≡ granule_at g (length t) addr → Inside k t ws
unfolding words_for
granule-inside g t ws addr k f e i h =
    let n : granule_count g ≡ length t = (falls g (length t) addr i (sym e ∙ h)).count in
    let b : i < length t = index_below g (length t) addr i (sym e ∙ h) in
    let w : length ws ≡ (granule_count g + 63) / 64 = eqb-true _ _ f in
    (b, omega arith)

-- words of the same number fit as well
pub fit-long : (ws old : List ℕ) (n : ℕ) → length ws ≡ length old → Yes (words_fit old n) → Yes (words_fit ws n)
fit-long ws old n e f = ap (λ m. eqb m (words_for n)) e ∙ f

-- ---- a record that is up
module _ (u : Params) (g : Granules) (d : Direction) (t ws : List ℕ) (addr : ℕ) where
  pub move-addr : granule_at g (length t) addr ≡ None → moved_to (answer_of BadAddr 0 0) t ws ≡ move_at u g d (table_of t ws) addr
  unfolding moved_to move_at moved_by move_code granule_code moved granule_set
  move-addr e = rw e

  module _ (i : ℕ) (e : granule_at g (length t) addr ≡ Some i) where
    pub move-shared : is_shared_page u d addr ≡ true → moved_to (answer_of BadAddr 0 0) t ws ≡ move_at u g d (table_of t ws) addr
    unfolding moved_to move_at moved_by move_code granule_code moved granule_set fails
    move-shared k = rw (e, k)

    module _ (k : is_shared_page u d addr ≡ false) where
      pub move-pas : (get_or t i 0 ≡ from_byte d → ⊥) → moved_to (answer_of BadPas 0 0) t ws ≡ move_at u g d (table_of t ws) addr
      unfolding moved_to move_at moved_by move_code granule_code moved granule_set is_false fails
      move-pas n = rw (e, k, ne_eqb (get_or t i 0) (from_byte d) n)

      pub move-ok : get_or t i 0 ≡ from_byte d → (v : ℕ) → v ≡ to_byte d → moved_to (answer_of Ok 0 0) (set t i v) (put_bit ws i (realm_bit v)) ≡ move_at u g d (table_of t ws) addr
      unfolding moved_to move_at moved_by move_code granule_code moved granule_set is_false fails
      move-ok b v y = rw (e, k, eq-eqb (get_or t i 0) (from_byte d) b, y)

-- no call changes the number of bytes or words
abbrev pub AsLong : GranuleTable → GranuleTable → Type 0
AsLong t after = (length after.bytes ≡ length t.bytes) × (length after.words ≡ length t.words)

set-lengths : (d : Direction) (t : GranuleTable) (k : Option ℕ) → AsLong t (granule_set d t k)
unfolding granule_set put_bit
set-lengths d t None = (refl, refl)
set-lengths d t (Some i) = (length-set t.bytes i _, length-set t.words (i / 64) _)

by_lengths : (k : Code) (g : Granules) (d : Direction) (t : GranuleTable) (addr : ℕ) → AsLong t (moved_by k (moved g d t addr) t).table
unfolding moved_by moved
by_lengths k g d t addr = if-ok-by (AsLong t) k _ t (λ e. set-lengths d t _) (λ e. (refl, refl))

move-lengths : (u : Params) (g : Granules) (d : Direction) (t : GranuleTable) (addr : ℕ) → AsLong t (move_at u g d t addr).table
unfolding move_at
move-lengths u g d t addr = by_lengths (move_code u g d t addr) g d t addr

-- the same for a move m that equals `move_at`
pub told-lengths : (u : Params) (g : Granules) (d : Direction) (t : GranuleTable) (addr : ℕ) (m : Moved) → m ≡ move_at u g d t addr →
    AsLong t m.table
told-lengths u g d t addr m e = rw e (move-lengths u g d t addr)

-- ---- any record
module _ (s : Record) (g : Granules) (d : Direction) (t : GranuleTable) (addr : ℕ) where
  pub lengths-kept : AsLong t (move_of s g d t addr).table
  unfolding move_of
  lengths-kept = by_lengths _ g d t addr

  pub move-unfit : fitting g t ≡ false → moved_by Inval t t ≡ move_of s g d t addr
  unfolding move_of moved_by when_fit is_false fails
  move-unfit h = rw h

  module _ (f : fitting g t ≡ true) where
    pub move_down : is_up s ≡ false → moved_by Unk t t ≡ move_of s g d t addr
    unfolding move_of moved_by when_fit when_up is_false fails
    move_down h = rw (f, h)

    pub move_up : is_up s ≡ true → move_at (boot_params s) g d t addr ≡ move_of s g d t addr
    unfolding move_of move_at when_fit when_up is_false fails
    move_up h = rw (f, h)

    pub result_up : is_up s ≡ true → (u : Params) → u ≡ boot_params s → (r : Result (Unit {0}) Code) (bytes words : List ℕ) →
        MoveResult r bytes words (move_at u g d t addr) → MoveResult r bytes words (move_of s g d t addr)
    result_up h u v r bytes words m = rw (← move_up h, ← v) m

    -- the address is on no granule of the table
    move-nowhere : is_up s ≡ true → granule_at g (length t.bytes) addr ≡ None →
        moved_to (answer_of BadAddr 0 0) t.bytes t.words ≡ move_of s g d t addr
    move-nowhere h e = move-addr (boot_params s) g d t.bytes t.words addr e ∙ move_up h

    -- the right number of words stays right
    pub fit-kept : fitting g (move_of s g d t addr).table ≡ true
    fit-kept = fit-long (move_of s g d t addr).table.words t.words (granule_count g) lengths-kept.1 f

-- ---- the checks that do not depend on the address
module _ (s : Record) (g : Granules) (t : GranuleTable) (k : Code) (e : k ≡ shared_code s g (length t.bytes) t.words) where
  -- refused, they give the code of each call
  pub shared-refused : is_ok k ≡ false → (d : Direction) (addr : ℕ) (r : Answer) → r ≡ answer_of k 0 0 →
      moved_to r t.bytes t.words ≡ move_of s g d t addr
  unfolding shared_code is_false fails moved_to moved_by
  shared-refused n d addr r q = rw (q, e) (go (fitting g t) (is_up s) (table_fits g (length t.bytes)) refl refl refl (rw e at n))
    where
      go : (a b c : Bool) → fitting g t ≡ a → is_up s ≡ b → table_fits g (length t.bytes) ≡ c
          → is_ok (fails (is_false a) Inval (fails (is_false b) Unk (fails (is_false c) BadAddr Ok))) ≡ false
          → moved_to (answer_of (fails (is_false a) Inval (fails (is_false b) Unk (fails (is_false c) BadAddr Ok))) 0 0) t.bytes t.words
          ≡ move_of s g d t addr
      go false b c f u w n = move-unfit s g d t addr f
      go true false c f u w n = move_down s g d t addr f u
      go true true false f u w n = move-nowhere s g d t addr f u (table-unfit g (length t.bytes) addr w)
      go true true true f u w n = absurd (false≢true (sym n))

  -- passed, they say this
  pub record Passed : Type 0 where
    pub fit : fitting g t ≡ true
    pub up : is_up s ≡ true
    pub some : 0 < granule_count g
    pub count : granule_count g ≡ length t.bytes

  pub shared-passed : is_ok k ≡ true → Passed
  unfolding shared_code is_false fails
  shared-passed y = go (fitting g t) (is_up s) (table_fits g (length t.bytes)) refl refl refl (rw e at y)
    where
      go : (a b c : Bool) → fitting g t ≡ a → is_up s ≡ b → table_fits g (length t.bytes) ≡ c
          → is_ok (fails (is_false a) Inval (fails (is_false b) Unk (fails (is_false c) BadAddr Ok))) ≡ true → Passed
      go false b c f u w y = absurd (false≢true y)
      go true false c f u w y = absurd (false≢true y)
      go true true false f u w y = absurd (false≢true y)
      go true true true f u w y = let h = table-fits g (length t.bytes) w in record { fit = f; up = u; some = h.0; count = h.1 }

-- a refused move leaves the table unchanged, with zeros in x1 and x2
pub move-refused : (s : Record) (g : Granules) (d : Direction) (t : GranuleTable) (addr : ℕ) →
    is_ok (move_of s g d t addr).answer.code ≡ false →
    move_of s g d t addr ≡ record { answer = answer_of (move_of s g d t addr).answer.code 0 0; table = t }
unfolding move_of moved_by answer_of
move-refused s g d t addr h = rw h

-- ---- the result of a call in place of its code
module _ (m : Moved) (t ws : List ℕ) where
  pub result-ok : moved_to (answer_of Ok 0 0) t ws ≡ m → MoveResult (Go tt) t ws m
  unfolding moved_to answer_of
  result-ok e = (goes _ _ _ (ap (λ (x : Moved). x.answer.code) (sym e)) refl, ap (λ (x : Moved). x.table) e)

  pub result-err : (k : Code) → is_ok k ≡ false → moved_to (answer_of k 0 0) t ws ≡ m → MoveResult (Err k) t ws m
  unfolding moved_to answer_of
  result-err k n e = (stops _ _ k (ap (λ (x : Moved). x.answer.code) (sym e)) n, ap (λ (x : Moved). x.table) e)

  -- and back, for a call that has zeros in x1 and x2
  module _ (p : m.answer ≡ answer_of m.answer.code 0 0) where
    pub moved-ok : MoveResult (Go tt) t ws m → moved_to (answer_of Ok 0 0) t ws ≡ m
    unfolding moved_to
    moved-ok h = rw (← (went m.answer.code tt tt (sym h.0)).0, ← p, h.1)

    pub moved-err : (k : Code) → MoveResult (Err k) t ws m → (moved_to (answer_of k 0 0) t ws ≡ m) × (is_ok k ≡ false)
    unfolding moved_to
    moved-err k h = let g = stood m.answer.code tt k (sym h.0) in (rw (← g.0, ← p, h.1), g.1)

pub at-zeros : (u : Params) (g : Granules) (d : Direction) (t : GranuleTable) (addr : ℕ) →
    (move_at u g d t addr).answer ≡ answer_of (move_at u g d t addr).answer.code 0 0
unfolding move_at moved_by answer_of
at-zeros u g d t addr = refl

pub of-zeros : (s : Record) (g : Granules) (d : Direction) (t : GranuleTable) (addr : ℕ) →
    (move_of s g d t addr).answer ≡ answer_of (move_of s g d t addr).answer.code 0 0
unfolding move_of moved_by answer_of
of-zeros s g d t addr = refl
