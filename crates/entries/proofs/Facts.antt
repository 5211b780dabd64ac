-- The tests of entries hold exactly if the plain facts do. Assumes nothing.
use Rattle.std.proofs.Common.{◌≡◌, ℕ, zero, suc, ◌+◌, ◌*◌, ◌%◌, ◌^◌, ◌<◌, ◌≤◌, List, sym, refl, ◌∙◌, arith, ltb-true, lt-ltb, eq-eqb, ne_eqb, eqb-true, le-leb, leb-true}
use native.Mathlib.Decide.{dec_le}
use Rattle.words.specs.Tests.{Yes}
use Rattle.words.specs.Word.{part, word_at, words_of}
use Rattle.words.proofs.Tests.{both_l, both_r, both_of, either_l, either_r, either-cases, every-at, every_of}
use Rattle.entries.specs.Entry.{words_per_entry, size, bank_ok, flags_ok, console_ok, entry_rule, sum, check_ok}
use Rattle.entries.specs.Array.{words_at, sound_of, entry_place}
use Rattle.entries.specs.Steps.{entry_at, entries_at}
use Rattle.words.proofs.Read.{num-part, words_of-suc}
use Rattle.entries.specs.Facts.{BankFacts, ConsoleFacts, words_sum, EntriesFacts}
use Rattle.entries.proofs.Entries.{entries-same, sum-snoc}

-- ---- one entry
pub bank-acts : (b s : ℕ) → BankFacts b s → Yes (bank_ok b s)
unfolding bank_ok
bank-acts b s h = both_of _ _ (eq-eqb (b % 4096) 0 h.0) (both_of _ _ (eq-eqb (s % 4096) 0 h.1) (both_of _ _ (lt-ltb 0 s h.2) (le-leb (b + s) (2 ^ 52) h.3)))

pub bank-only : (b s : ℕ) → Yes (bank_ok b s) → BankFacts b s
unfolding bank_ok
bank-only b s h =
    let t = both_r _ _ h in
    let u = both_r _ _ t in
    (eqb-true _ _ (both_l _ _ h), eqb-true _ _ (both_l _ _ t), ltb-true _ _ (both_l _ _ u), leb-true _ _ (both_r _ _ u))

flags-acts : (w f : ℕ) → (w ≤ 4 → f ≡ 0) → Yes (flags_ok w f)
unfolding flags_ok
flags-acts w f h = go (dec_le w 4)
  where
    go : Dec (w ≤ 4) → Yes (flags_ok w f)
    go (yes l) = either_l _ _ (eq-eqb f 0 (h l))
    go (no l) = either_r _ _ (lt-ltb 4 w (omega arith))

flags-only : (w f : ℕ) → Yes (flags_ok w f) → w ≤ 4 → f ≡ 0
unfolding flags_ok
flags-only w f h l = either-cases _ _ (λ z. eqb-true f 0 z) (λ z. let m : 4 < w = ltb-true _ _ z in absurd (let y : ⊥ = omega arith in y)) h

pub console-acts : (w b n f : ℕ) → ConsoleFacts w b n f → Yes (console_ok w b n f)
unfolding console_ok
console-acts w b n f h =
    both_of _ _ (eq-eqb (b % 4096) 0 h.0) (both_of _ _ (lt-ltb 0 n h.1)
    (both_of _ _ (le-leb (b + 4096 * n) (2 ^ 52) h.2) (flags-acts w f h.3)))

pub console-only : (w b n f : ℕ) → Yes (console_ok w b n f) → ConsoleFacts w b n f
unfolding console_ok
console-only w b n f h =
    let t = both_r _ _ h in
    let u = both_r _ _ t in
    (eqb-true _ _ (both_l _ _ h), ltb-true _ _ (both_l _ _ t), leb-true _ _ (both_l _ _ u), flags-only w f (both_r _ _ u))

-- ---- an entry at its offset
bank-place : (at i : ℕ) → at + 8 * (2 * i) ≡ at + 16 * i
bank-place at i = omega arith

console-place : (at i : ℕ) → at + 8 * (6 * i) ≡ at + 48 * i
console-place at i = omega arith

entry-acts : (w c at : ℕ) (page : List ℕ) (k i : ℕ) → i < c → EntriesFacts w k c at page → Yes (entry_at w k (entry_place k at i) page)
unfolding entry_at entry_rule entry_place words_per_entry
entry-acts w c at page zero i l t = rw (bank-place at i) (bank-acts _ _ (t.banks (λ z. omega arith) i l))
entry-acts w c at page (suc zero) i l t = rw (console-place at i) (console-acts w _ _ _ (t.consoles refl i l))
entry-acts w c at page (suc (suc k)) i l t =
    rw (ne_eqb (suc (suc k)) 1 (λ z. omega arith), bank-place at i) (bank-acts _ _ (t.banks (λ z. omega arith) i l))

bank-at : (w at : ℕ) (page : List ℕ) (k i : ℕ) → (k ≡ 1 → ⊥) → Yes (entry_at w k (entry_place k at i) page) →
    BankFacts (word_at (at + 16 * i) page) (word_at (at + 16 * i + 8) page)
unfolding entry_at entry_rule entry_place words_per_entry
bank-at w at page zero i n h = rw (← bank-place at i) (bank-only _ _ h)
bank-at w at page (suc zero) i n h = absurd (n refl)
bank-at w at page (suc (suc k)) i n h = rw (← bank-place at i) (bank-only _ _ (rw (ne_eqb (suc (suc k)) 1 (λ z. omega arith)) at h))

console-at : (w at : ℕ) (page : List ℕ) (k i : ℕ) → k ≡ 1 → Yes (entry_at w k (entry_place k at i) page) →
    ConsoleFacts w (word_at (at + 48 * i) page) (word_at (at + 48 * i + 8) page) (word_at (at + 48 * i + 40) page)
unfolding entry_at entry_rule entry_place words_per_entry
console-at w at page zero i n h = absurd (let y : ⊥ = omega arith in y)
console-at w at page (suc zero) i n h = rw (← console-place at i) (console-only w _ _ _ h)
console-at w at page (suc (suc k)) i n h = absurd (let y : ⊥ = omega arith in y)

-- ---- an array
sum-none : (page : List ℕ) (at : ℕ) (bs : List ℕ) → sum (words_of 0 bs) ≡ words_sum at 0 page
unfolding sum words_of words_sum
sum-none page at bs = refl

sum_of : (page : List ℕ) (at m n : ℕ) → 8 * n ≤ m → sum (words_of n (part at m page)) ≡ words_sum at n page
unfolding words_sum
sum_of page at m zero h = sum-none page at (part at m page)
sum_of page at m (suc n) h = rw (words_of-suc, sum-snoc, num-part 8 at m (8 * n) page (omega arith), sum_of page at m n (omega arith))

-- its words are the page's words
array-sum : (k c at : ℕ) (page : List ℕ) → sum (words_at k c at page) ≡ words_sum at (words_per_entry k * c) page
unfolding words_at size
array-sum k c at page = sum_of page at (8 * (words_per_entry k * c)) (words_per_entry k * c) (omega arith)

module _ (w k c p s at : ℕ) (page : List ℕ) where
  pub sound-acts : 1 ≤ c → p % 8 ≡ 0 → (c + p + words_sum at (words_per_entry k * c) page + s) % 2 ^ 64 ≡ 0 → EntriesFacts w k c at page →
      Yes (sound_of w k c p s (words_at k c at page))
  unfolding sound_of check_ok entries_at
  sound-acts a b d t =
      both_of _ _ (lt-ltb 0 c (omega arith)) (both_of _ _ (eq-eqb (p % 8) 0 b) (both_of _ _ (eq-eqb ((c + p + sum (words_at k c at page) + s) % 2 ^ 64) 0 (rw (array-sum k c at page) d))
      (entries-same w k at c page ∙ every_of c _ (λ i l. entry-acts w c at page k i l t))))

  pub sound-only : Yes (sound_of w k c p s (words_at k c at page)) →
      (1 ≤ c) × (p % 8 ≡ 0) × ((c + p + words_sum at (words_per_entry k * c) page + s) % 2 ^ 64 ≡ 0) × EntriesFacts w k c at page
  unfolding sound_of check_ok entries_at
  sound-only h =
      let t = both_r _ _ h in
      let u = both_r _ _ t in
      let e = every-at c _ (sym (entries-same w k at c page) ∙ both_r _ _ u) in (
        ltb-true 0 c (both_l _ _ h),
        eqb-true _ _ (both_l _ _ t),
        rw (← array-sum k c at page) (eqb-true _ _ (both_l _ _ u)),
        record { banks = λ n i l. bank-at w at page k i n (e i l); consoles = λ n i l. console-at w at page k i n (e i l) },
      )
