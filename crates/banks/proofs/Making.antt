-- The set-up: the record that it makes has the banks shown, and when it refuses. Assumes nothing.
use Rattle.std.proofs.Common.{◌≡◌, ℕ, zero, suc, ◌+◌, ◌-◌, ◌*◌, ◌%◌, ◌<◌, ◌≤◌, take, drop, ◌++◌, Bool, true, false, cond, eqb, List, ◌∷◌, length, get_or, set, replicate, sym, refl, ap, ◌∙◌, append_assoc, add-one, arith, lt-ltb, eq-eqb, ne_eqb, eqb-true}
use mathlib.Core.Bool.{false≢true}
use lib.ListN.{get_or-append, replicate-append-replicate}
use Rattle.std.proofs.lemmas.List.{take-replicate, drop-replicate, set-append_left}
use lib.Seq.{set_at}
use borrow.Author.Tests.{lt-leb}
use Rattle.words.specs.Tests.{both, Yes}
use Rattle.words.specs.Word.{word_at, words_of}
use Rattle.words.proofs.Tests.{both_l, both_r}
use Rattle.codes.specs.declared.Code.TheVariants.{Ok, Inval}
use Rattle.codes.proofs.Gates.{unless-ok}
use Rattle.words.proofs.Read.{words_of-at, words_of-length, words_of-suc}
use Rattle.banks.specs.Banks.{Granules, Bank, banks_by, bank_at, bank_count, banks_of, ascend, banks_ok, record_ok, total, granule_count}
use Rattle.banks.specs.Banks.{bank_in, banks_in, shown_count, takes, set_up_code, record_from, set_up_of}
use Rattle.banks.specs.Steps.{record_part}
use Rattle.banks.proofs.Passing.{Follows, follows_is}

-- ---- the words, one by one
pub fill_none : (n : ℕ) (shown : List ℕ) → n ∷ replicate 32 0 ≡ record_part n 0 shown
unfolding record_part words_of
fill_none n shown = refl

pub fill_more : (n i : ℕ) (shown : List ℕ) → i < 32 → set (record_part n i shown) (i + 1) (word_at (8 * i) shown) ≡ record_part n (i + 1) shown
unfolding record_part
fill_more n i shown h =
    let e : 32 - i ≡ suc (31 - i) = omega arith in
    let f : 32 - suc i ≡ 31 - i = omega arith in
    rw (add-one, e, f, words_of-suc, append_assoc) (ap (λ l. n ∷ l)
    (set_at (words_of i shown) 0 (replicate (31 - i) 0) (word_at (8 * i) shown) i (words_of-length i shown)))

pub record-whole : (n : ℕ) (shown : List ℕ) → record_part n (2 * n) shown ≡ record_from n shown
unfolding record_part
record-whole n shown = refl

-- in the loop, which goes over the words of the banks alone: zeros lie after them
pub words-none : (n k : ℕ) (shown : List ℕ) → n ≤ 16 → k ≡ 2 * n → n ∷ take k (replicate 32 0) ++ replicate (32 - 2 * n) 0 ≡ record_part n 0 shown
words-none n k shown h e =
    let j : k + (32 - 2 * n) ≡ 32 = omega arith in
    ap (λ l. n ∷ l) (rw (take-replicate {X = ℕ} k 32 0 (omega arith)) (replicate-append-replicate {A = ℕ} k (32 - 2 * n) 0 ∙ ap (λ m. replicate m 0) j)) ∙
    fill_none n shown

pub words-more : (n i : ℕ) (shown items : List ℕ) → i < 32 → i < length items → n ∷ items ++ replicate (32 - 2 * n) 0 ≡ record_part n i shown →
    n ∷ set items i (word_at (8 * i) shown) ++ replicate (32 - 2 * n) 0 ≡ record_part n (i + 1) shown
words-more n i shown items h k e =
    ap (λ l. n ∷ l) (sym (set-append_left items (replicate (32 - 2 * n) 0) i (word_at (8 * i) shown) k)) ∙
    (let z : suc i ≡ i + 1 = omega arith in ap (λ j. set (n ∷ items ++ replicate (32 - 2 * n) 0) j (word_at (8 * i) shown)) z) ∙
    ap (λ l. set l (i + 1) (word_at (8 * i) shown)) e ∙ fill_more n i shown h

pub words-whole : (n k : ℕ) (shown items : List ℕ) → k ≡ 2 * n → n ∷ items ++ replicate (32 - 2 * n) 0 ≡ record_part n (2 * n) shown →
    n ∷ items ++ drop k (replicate 32 0) ≡ record_from n shown
words-whole n k shown items e h =
    ap (λ l. n ∷ items ++ l) (drop-replicate {X = ℕ} k 32 0 ∙ ap (λ m. replicate (32 - m) 0) e) ∙ h ∙ record-whole n shown

-- ---- the banks of the record made
pub word-in : (n i : ℕ) (shown : List ℕ) → i < 2 * n → get_or (record_from n shown) (suc i) 0 ≡ word_at (8 * i) shown
word-in n i shown h =
    get_or-append (words_of (2 * n) shown) (replicate (32 - 2 * n) 0) 0 i (rw (words_of-length (2 * n) shown) h) ∙
    words_of-at (2 * n) shown i h

pub banks-same : (f g : ℕ → Bank) (i n : ℕ) → ((j : ℕ) → j < i + n → f j ≡ g j) → banks_by f i n ≡ banks_by g i n
unfolding banks_by
banks-same f g i zero h = refl
banks-same f g i (suc n) h = rw (h i (omega arith), banks-same f g (suc i) n (λ j l. h j (omega arith)))

bank-made : (n : ℕ) (shown : List ℕ) (j : ℕ) → j < n → bank_at (record_from n shown) j ≡ bank_in shown j
bank-made n shown j h =
    let a : 1 + 2 * j ≡ suc (2 * j) = omega arith in
    let b : 2 + 2 * j ≡ suc (2 * j + 1) = omega arith in
    let d : 8 * (2 * j) ≡ 16 * j = omega arith in
    let e : 8 * (2 * j + 1) ≡ 16 * j + 8 = omega arith in
    rw (a, b, word-in n (2 * j) shown (omega arith), word-in n (2 * j + 1) shown (omega arith), d, e)

pub count-made : (n : ℕ) (shown : List ℕ) → bank_count (record_from n shown) ≡ n
count-made n shown = refl

pub banks-made : (n : ℕ) (shown : List ℕ) → banks_of (record_from n shown) ≡ banks_in n shown
banks-made n shown =
    rw (count-made n shown) (banks-same (bank_at (record_from n shown)) (bank_in shown) 0 n (λ j l. bank-made n shown j (omega arith)))

pub granules-made : (n : ℕ) (shown : List ℕ) → granule_count (record_from n shown) ≡ cond (banks_ok n (banks_in n shown))
    (total (banks_in n shown)) 0
unfolding granule_count record_ok
granules-made n shown = rw (banks-made n shown, count-made n shown)

-- ---- what the set-up accepts
both-no : (b : Bool) (t n : ℕ) → (cond b t 0 ≡ n → ⊥) → both b (eqb t n) ≡ false
unfolding both
both-no true t n h = ne_eqb t n h
both-no false t n h = refl

both_yes : (b : Bool) (t n : ℕ) → cond b t 0 ≡ n → (n ≡ 0 → ⊥) → both b (eqb t n) ≡ true
unfolding both
both_yes true t n h z = eq-eqb t n h
both_yes false t n h z = absurd (z (sym h))

both_zero : (b : Bool) (t : ℕ) → (Yes b → 0 < t) → both b (eqb t 0) ≡ false
unfolding both
both_zero true t h = let p = h refl in ne_eqb t 0 (λ e. omega arith)
both_zero false t h = refl

pub banks-some : (n : ℕ) (f : ℕ → Bank) → Yes (banks_ok n (banks_by f 0 n)) → 0 < total (banks_by f 0 n)
unfolding banks_ok banks_by ascend total
banks-some zero f h = absurd (false≢true (both_l _ _ h))
banks-some (suc n) f h =
    let p : Follows 0 (f 0).base (f 0).size = follows_is 0 (f 0).base (f 0).size (both_l _ _ (both_r _ _ (both_r _ _ h))) in
    omega arith

-- the tests after the first
abbrev fine : List ℕ → Bool
fine shown = banks_ok (shown_count shown) (banks_in (shown_count shown) shown)

abbrev sum : List ℕ → ℕ
sum shown = total (banks_in (shown_count shown) shown)

module _ (shown : List ℕ) (n : ℕ) (whole : length shown % 16 ≡ 0) where
  pub not_taken : (granule_count (record_from (shown_count shown) shown) ≡ n → ⊥) → takes shown n ≡ false
  unfolding takes both
  not_taken h =
      simp (eq-eqb (length shown % 16) 0 whole) (both-no (fine shown) (sum shown) n (λ e. h (granules-made (shown_count shown) shown ∙ e)))

  pub taken : granule_count (record_from (shown_count shown) shown) ≡ n → (n ≡ 0 → ⊥) → takes shown n ≡ true
  unfolding takes both
  taken h z =
      simp (eq-eqb (length shown % 16) 0 whole) (both_yes (fine shown) (sum shown) n (sym (granules-made (shown_count shown) shown) ∙ h) z)

  pub none-taken : n ≡ 0 → takes shown n ≡ false
  unfolding takes both
  none-taken z =
      simp (z, eq-eqb (length shown % 16) 0 whole) (both_zero (fine shown) (sum shown) (banks-some (shown_count shown) (bank_in shown)))

  pub many-not : 16 < shown_count shown → takes shown n ≡ false
  unfolding takes banks_ok both
  many-not h = simp (eq-eqb (length shown % 16) 0 whole, lt-ltb 0 (shown_count shown) (omega arith), lt-leb (shown_count shown) 16 h)

pub part-not : (shown : List ℕ) (n : ℕ) → (length shown % 16 ≡ 0 → ⊥) → takes shown n ≡ false
unfolding takes both
part-not shown n h = simp (ne_eqb (length shown % 16) 0 h)

-- ---- what the set-up makes
module _ (shown : List ℕ) (n : ℕ) (g : Granules) (h : set_up_code shown n ≡ Ok) where
  made-is : (set_up_of shown n g).granules ≡ record_from (shown_count shown) shown
  unfolding set_up_of
  made-is = rw h

  took : Yes (takes shown n)
  unfolding set_up_code
  took = (unless-ok (takes shown n) Inval Ok refl h).0

  took-banks : Yes (fine shown)
  unfolding takes
  took-banks = both_l _ _ (both_r _ _ took)

  took-sum : sum shown ≡ n
  unfolding takes
  took-sum = eqb-true _ _ (both_r _ _ (both_r _ _ took))

  -- a record that the set-up makes is accepted, and has as many granules as the table
  pub made-good : Yes (record_ok (set_up_of shown n g).granules) × (granule_count (set_up_of shown n g).granules ≡ n)
  unfolding record_ok
  made-good =
      rw made-is (
        rw (banks-made (shown_count shown) shown, count-made (shown_count shown) shown) took-banks,
        granules-made (shown_count shown) shown ∙ rw took-banks took-sum,
      )

module _ (shown : List ℕ) (n : ℕ) (g : Granules) (l : length shown ≡ 16) (h : set_up_code shown n ≡ Ok) where
  -- for 16 bytes: one bank, whose base is their first word
  pub made_one : (bank_count (set_up_of shown n g).granules ≡ 1) × (get_or (set_up_of shown n g).granules 1 0 ≡ word_at 0 shown)
  made_one =
      let c : shown_count shown ≡ 1 = omega arith in
      rw (made-is shown n g h, c) (count-made 1 shown, word-in 1 0 shown (omega arith))
