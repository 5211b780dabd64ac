-- Laws of the checks of four lists. Assumes nothing.
use Rattle.std.proofs.Common.{rules, IsTrue, All, ◌↔◌, drop, ltb-true, eqb-true, ◌≡◌, ℕ, zero, suc, ◌+◌, ◌-◌, ◌*◌, ◌/◌, ◌%◌, ◌^◌, ◌<◌, ◌≤◌, Bool, true, false, cond, eqb, ltb, leb, List, [], ◌∷◌, length, get_or, take, sym, refl, ap, ◌∙◌, mul-zero, mul-suc, add-zero, add-one, arith, length-append, length-drop, take-suc, lt-ltb, eq-eqb, ne_eqb, le-leb, leb-true, true≢false, Option, Some, None}
use Rattle.std.specs.Bool.{then_some}
use Rattle.std.specs.Simd.{first_chunks}
use lib.Seq.{take-length}
use borrow.Author.Tests.{lt-leb}
use mathlib.Core.Logic.{◌⊎◌, inl, inr}
use Rattle.std.proofs.lemmas.Bool.{cases_lt}
use Rattle.std.proofs.lemmas.List.{get_or-drop, get_or-take}
use Rattle.std.proofs.lemmas.List.Elements.{All-get_or, All-from_get_or}
use Rattle.words.specs.Tests.{Yes, both, either, every}
use Rattle.words.proofs.Tests.{either_l, either_r, either-cases, every_of, every-at, every-none, same_test}
use Rattle.words.specs.Word.{joined}
use Rattle.versions.specs.Edition.{section_count, core}
use Rattle.versions.proofs.Editions.{section-count-most}
use Rattle.entries.specs.Entry.{words_per_entry, bank_ok, console_ok, entry_rule, entry_ok, entries_ok, sum}
use Rattle.entries.proofs.Entries.{per-other, sum-snoc}
use Rattle.fields.specs.Fields.{end_mark}
use Rattle.writer_checks.specs.Description.{four_lists, description_of, list_ok, lists_ok, later_sections_empty, with_mark, plat_bytes, used}
use Rattle.writer_checks.specs.declared.Totals.{Totals}
use Rattle.writer_checks.specs.Fast.{sums_of, totals_of, sums_number}
use Rattle.writer_checks.specs.Steps.{sum_to, late_to}

-- ---- one list, entry by entry
pub described-none : (w k : ℕ) (ws : List ℕ) → entries_ok w k 0 ws ≡ true
unfolding entries_ok
described-none w k ws = every-none (λ i. entry_ok w k ws (words_per_entry k * i))

described-step : (w k i : ℕ) (ws : List ℕ) → both (entries_ok w k i ws) (entry_ok w k ws (words_per_entry k * i)) ≡ entries_ok w k (i + 1) ws
unfolding entries_ok every
described-step w k i ws = rw add-one

module _ (w i : ℕ) (ws : List ℕ) (r : Bool) where
  pub described-bank : (k at : ℕ) → (k ≡ 1 → ⊥) → at ≡ 2 * i →
      r ≡ both (entries_ok w k i ws) (bank_ok (get_or ws at 0) (get_or ws (at + 1) 0)) → r ≡ entries_ok w k (i + 1) ws
  unfolding entry_ok entry_rule
  described-bank k at n o e =
      let f : entry_ok w k ws (words_per_entry k * i) ≡ bank_ok (get_or ws at 0) (get_or ws (at + 1) 0) = rw (ne_eqb k 1 n, per-other k n, ← o) in
      e ∙ ap (both (entries_ok w k i ws)) (sym f) ∙ described-step w k i ws

  pub described-console : (at : ℕ) → at ≡ 6 * i → (b : Bool) → b ≡ entries_ok w 1 i ws →
      r ≡ both b (console_ok w (get_or ws at 0) (get_or ws (at + 1) 0) (get_or ws (at + 5) 0)) → r ≡ entries_ok w 1 (i + 1) ws
  unfolding entry_ok entry_rule words_per_entry
  described-console at o b d e =
      let f : entry_ok w 1 ws (words_per_entry 1 * i) ≡ console_ok w (get_or ws at 0) (get_or ws (at + 1) 0) (get_or ws (at + 5) 0) = rw (← o) in
      e ∙ rw (d, ← f) (described-step w 1 i ws)

-- ---- the sum of a list's words
pub sum-none : (ws : List ℕ) → 0 ≡ sum (take 0 ws) % 2 ^ 64
unfolding sum
sum-none ws = refl

pub sum_more : (ws : List ℕ) (i s r : ℕ) → i < length ws → s ≡ sum (take i ws) % 2 ^ 64 → r ≡ (s + get_or ws i 0) % 2 ^ 64 →
    r ≡ sum (take (i + 1) ws) % 2 ^ 64
sum_more ws i s r h e f = rw (add-one, take-suc ws i 0 h, sum-snoc) (omega arith)

pub sum-all : (ws : List ℕ) (i : ℕ) → i ≡ length ws → sum (take i ws) ≡ sum ws
sum-all ws i e = rw (e, take-length)

-- one more bank
pub sum-bank : (ws : List ℕ) (i at acc t r : ℕ) → 2 * (i + 1) ≤ length ws → at ≡ 2 * i → acc ≡ sum (take (2 * i) ws) % 2 ^ 64 →
    t ≡ (acc + get_or ws at 0) % 2 ^ 64 → r ≡ (t + get_or ws (at + 1) 0) % 2 ^ 64 → r ≡ sum (take (2 * (i + 1)) ws) % 2 ^ 64
sum-bank ws i at acc t r h o e u v =
    let a : acc ≡ sum (take at ws) % 2 ^ 64 = rw o e in
    let two : r ≡ sum (take (at + 1 + 1) ws) % 2 ^ 64 = sum_more ws (at + 1) t r (omega arith) (sum_more ws at acc t (omega arith) a u) v in
    two ∙ ap (λ n. sum (take n ws) % 2 ^ 64) (let z : at + 1 + 1 ≡ 2 * (i + 1) = omega arith in z)

-- the words of one chunk
pub chunk-at : (n k i j : ℕ) (ws : List ℕ) → i < k → j < n → get_or (get_or (first_chunks n k ws) i []) j 0 ≡ get_or ws (n * i + j) 0
chunk-at n zero i j ws h l = absurd (let z : ⊥ = omega arith in z)
chunk-at n (suc k) zero j ws h l = get_or-take n ws j 0 l ∙ ap (λ x. get_or ws x 0) (let z : j ≡ n * 0 + j = omega (arith, mul-zero n) in z)
chunk-at n (suc k) (suc i) j ws h l =
    chunk-at n k i j (drop n ws) (omega arith) l ∙ get_or-drop n ws (n * i + j) 0
    ∙ ap (λ x. get_or ws x 0) (let z : n + (n * i + j) ≡ n * suc i + j = omega (arith, mul-suc n i) in z)

-- a value under a test
abbrev value_in : Option ℕ → ℕ
value_in None = 0
value_in (Some x) = x

abbrev has_value : Option ℕ → Bool
has_value None = false
has_value (Some x) = true

some-is : (b : Bool) (x s : ℕ) → then_some b x ≡ Some s → (b ≡ true) × (s ≡ x)
some-is true x s h = (refl, sym (ap value_in h))
some-is false x s h = absurd (true≢false (sym (ap has_value h)))

none-is : (b : Bool) (x : ℕ) → then_some b x ≡ None → b ≡ false
none-is true x h = absurd (true≢false (ap has_value h))
none-is false x h = refl

module _ (w k : ℕ) (ws : List ℕ) where
  pub list-part : (length ws % words_per_entry k ≡ 0 → ⊥) → list_ok w k ws ≡ false
  unfolding list_ok both
  list-part h = rw (ne_eqb (length ws % words_per_entry k) 0 h)

  pub list-whole : length ws % words_per_entry k ≡ 0 → list_ok w k ws ≡ entries_ok w k (length ws / words_per_entry k) ws
  unfolding list_ok both
  list-whole h = rw (eq-eqb (length ws % words_per_entry k) 0 h)

-- what the code's sum of one list says about the list
pub some-list : (w k : ℕ) (ws : List ℕ) (s : ℕ) {r : Option ℕ} → r ≡ then_some (list_ok w k ws) (sum ws % 2 ^ 64) → r ≡ Some s →
    (list_ok w k ws ≡ true) × (s ≡ sum ws % 2 ^ 64)
some-list w k ws s e h = some-is (list_ok w k ws) (sum ws % 2 ^ 64) s (sym e ∙ h)

pub none-list : (w k : ℕ) (ws : List ℕ) {r : Option ℕ} → r ≡ then_some (list_ok w k ws) (sum ws % 2 ^ 64) → r ≡ None → list_ok w k ws ≡ false
none-list w k ws e h = none-is (list_ok w k ws) (sum ws % 2 ^ 64) (sym e ∙ h)

-- ---- all four
described-four : (w : ℕ) (a b c d : List ℕ) → lists_ok w (four_lists a b c d) ≡ both
    (both (both (list_ok w 0 a) (list_ok w 1 b)) (list_ok w 2 c)) (list_ok w 3 d)
unfolding lists_ok every both four_lists
described-four w a b c d = refl

-- the totals, if the lists are sound
abbrev totals_in : Option Totals → Totals
totals_in None = record { dram = 0; console = 0; ncoh = 0; coh = 0 }
totals_in (Some t) = t

abbrev is_sound : Option Totals → Bool
is_sound None = false
is_sound (Some t) = true

module _ (w : ℕ) (a b c d : List ℕ) where
  pub sums-not : both (both (both (list_ok w 0 a) (list_ok w 1 b)) (list_ok w 2 c)) (list_ok w 3 d) ≡ false → None ≡ sums_of w a b c d
  unfolding sums_of
  sums-not e = rw (described-four w a b c d, e)

  pub sums-are : (p q r s : ℕ) → both (both (both (list_ok w 0 a) (list_ok w 1 b)) (list_ok w 2 c)) (list_ok w 3 d) ≡ true →
      p ≡ sum a % 2 ^ 64 → q ≡ sum b % 2 ^ 64 → r ≡ sum c % 2 ^ 64 → s ≡ sum d % 2 ^ 64 →
      Some (record { dram = p; console = q; ncoh = r; coh = s }) ≡ sums_of w a b c d
  unfolding sums_of totals_of
  sums-are p q r s e f g h i = rw (described-four w a b c d, e, f, g, h, i)

  pub sums-sound : is_sound (sums_of w a b c d) ≡ lists_ok w (four_lists a b c d)
  unfolding sums_of
  sums-sound = go (lists_ok w (four_lists a b c d))
    where
      go : (t : Bool) → is_sound (cond t (Some (totals_of a b c d)) None) ≡ t
      go true = refl
      go false = refl

  sums-number : sums_number (sums_of w a b c d) ≡ cond (lists_ok w (four_lists a b c d)) 0 3
  unfolding sums_of sums_number
  sums-number = go (lists_ok w (four_lists a b c d))
    where
      go : (t : Bool) → sums_number (cond t (Some (totals_of a b c d)) None) ≡ cond t 0 3
      go true = refl
      go false = refl

  -- an answer, and its number
  pub sums-told : {r : Option Totals} → r ≡ sums_of w a b c d → (r ≡ sums_of w a b c d) × (sums_number r ≡ cond (lists_ok w (four_lists a b c d)) 0 3)
  sums-told h = (h, ap sums_number h ∙ sums-number)

  -- what follows from the answer
  pub unsound-lists : sums_of w a b c d ≡ None → lists_ok w (four_lists a b c d) ≡ false
  unsound-lists e = sym sums-sound ∙ ap is_sound e

  pub sound-lists : (t : Totals) → sums_of w a b c d ≡ Some t → lists_ok w (four_lists a b c d) ≡ true
  sound-lists t e = sym sums-sound ∙ ap is_sound e

  pub sound-totals : (t : Totals) → sums_of w a b c d ≡ Some t → t ≡ totals_of a b c d
  unfolding sums_of
  sound-totals t e = let s : Some (totals_of a b c d) ≡ Some t = rw (sound-lists t e) at e in sym (ap totals_in s)

-- ---- the four lengths
abbrev pub lens : List ℕ → List ℕ → List ℕ → List ℕ → List ℕ
lens a b c d = length a ∷ length b ∷ length c ∷ length d ∷ []

pub to_none : (n : List ℕ) → sum_to 0 n ≡ 0
unfolding sum_to
to_none n = refl

pub to-more : (k : ℕ) (n : List ℕ) → sum_to (k + 1) n ≡ sum_to k n + get_or n k 0
unfolding sum_to
to-more k n = rw add-one

to-mono : (k j : ℕ) (n : List ℕ) → sum_to k n ≤ sum_to (k + j) n
unfolding sum_to
to-mono k zero n = rw add-zero (omega arith)
to-mono k (suc j) n = let i = to-mono k j n in rw (let e : k + suc j ≡ suc (k + j) = omega arith in e) (omega arith)

-- after k lengths, the next is more than the room that is left
pub to-over : (k left room : ℕ) (n : List ℕ) → k < 4 → left + sum_to k n ≡ room → left < get_or n k 0 → room < sum_to 4 n
to-over k left room n h e o =
    let m : sum_to (k + 1) n ≤ sum_to (k + 1 + (4 - (k + 1))) n = to-mono (k + 1) (4 - (k + 1)) n in
    let z : k + 1 + (4 - (k + 1)) ≡ 4 = omega arith in
    let w : sum_to (k + 1) n ≤ sum_to 4 n = rw z at m in
    omega (arith, to-more k n)

pub to-joined : (a b c d : List ℕ) → sum_to 4 (lens a b c d) ≡ length (joined 4 (four_lists a b c d))
unfolding sum_to joined four_lists
to-joined a b c d = simp length-append

is-true : (r : Bool) → r ≡ true → IsTrue r
is-true r e = search rules

true-is : (r : Bool) → IsTrue r → r ≡ true
true-is r e = search rules

-- the lists from one section on are empty
pub late-of : (r : Bool) (from : ℕ) (n : List ℕ) → length n ≡ 4 → from ≤ 4 → (IsTrue r ↔ All (λ x. x ≡ 0) (drop from n)) → r ≡ late_to from 4 n
unfolding late_to
late-of r from n four h e =
    same_test r (every 4 (λ j. either (ltb j from) (eqb (get_or n j 0) 0)))
    (λ p. every_of 4 (λ j. either (ltb j from) (eqb (get_or n j 0) 0)) (λ i m. late-at i (e.0 (is-true r p)) (cases_lt i from) m))
    (λ p. true-is r (e.1 (All-from_get_or (λ x. x ≡ 0) (drop from n) 0 (λ i m. late-back i m p))))
  where
    late-at : (i : ℕ) → All (λ x. x ≡ 0) (drop from n) → (i < from) ⊎ (from ≤ i) → i < 4 → Yes (either (ltb i from) (eqb (get_or n i 0) 0))
    late-at i q (inl m) o = either_l _ _ (lt-ltb i from m)
    late-at i q (inr m) o =
        let l : length (drop from n) ≡ length n - from = length-drop from n in
        let z = All-get_or (λ x. x ≡ 0) (drop from n) (i - from) 0 (omega arith) q in
        let y : get_or n (from + (i - from)) 0 ≡ 0 = sym (get_or-drop from n (i - from) 0) ∙ z in
        let w : from + (i - from) ≡ i = omega arith in
        either_r _ _ (eq-eqb (get_or n i 0) 0 (rw w at y))

    late-back : (i : ℕ) → i < length (drop from n) → Yes (every 4 (λ j. either (ltb j from) (eqb (get_or n j 0) 0))) → get_or (drop from n) i 0 ≡ 0
    late-back i m p =
        let l : length (drop from n) ≡ length n - from = length-drop from n in
        let q = every-at 4 (λ j. either (ltb j from) (eqb (get_or n j 0) 0)) p (from + i) (omega arith) in
        get_or-drop from n i 0 ∙ either-cases (ltb (from + i) from) (eqb (get_or n (from + i) 0) 0) (λ t. absurd (let z : ⊥ = omega (arith, ltb-true (from + i) from t) in z)) (λ t. eqb-true (get_or n (from + i) 0) 0 t) q

pub late-same : (v : ℕ) (a b c d : List ℕ) → late_to (section_count v) 4 (lens a b c d) ≡ later_sections_empty v (four_lists a b c d)
unfolding late_to later_sections_empty four_lists every
late-same v a b c d = refl

-- ---- the fields and their end mark
pub marked-none : (fs : List ℕ) → length fs ≡ 0 → 0 ≡ length (with_mark fs)
unfolding with_mark
marked-none [] h = refl
marked-none (b ∷ bs) h = absurd (let z : ⊥ = omega arith in z)

pub marked-some : (fs : List ℕ) → (length fs ≡ 0 → ⊥) → length fs + 3 ≡ length (with_mark fs)
unfolding with_mark end_mark
marked-some [] h = absurd (h refl)
marked-some (b ∷ bs) h = sym (length-append (b ∷ bs) end_mark)

pub marked_more : (fs : List ℕ) → length fs ≤ length (with_mark fs)
unfolding with_mark
marked_more [] = omega arith
marked_more (b ∷ bs) = omega (arith, length-append (b ∷ bs) end_mark)

-- ---- the room after the core
module _ (v s : ℕ) (a b c d fs : List ℕ) (e : s ≡ core v) where
  pub room-not : 4096 - s < length (with_mark fs) → leb (used v (description_of a b c d fs)) 4096 ≡ false
  unfolding used plat_bytes description_of
  room-not h = lt-leb (core v + 8 * length (joined 4 (four_lists a b c d)) + length (with_mark fs)) 4096 (omega arith)

  pub room-same : (r : Bool) (room : ℕ) → r ≡ leb (sum_to 4 (lens a b c d)) room → length (with_mark fs) ≤ 4096 - s →
      room ≡ (4096 - s - length (with_mark fs)) / 8 →
      r ≡ leb (used v (description_of a b c d fs)) 4096
  unfolding used core plat_bytes description_of
  room-same r room f h i =
      let n = length (joined 4 (four_lists a b c d)) in
      let k = length (with_mark fs) in
      f ∙ rw to-joined
      (same_test _ _
      (λ p. le-leb (16 + 24 * section_count v + 8 * n + k) 4096 (let q = leb-true n room p in let m = section-count-most v in omega arith))
      (λ p. le-leb n room (let q = leb-true (16 + 24 * section_count v + 8 * n + k) 4096 p in let m = section-count-most v in omega arith)))
