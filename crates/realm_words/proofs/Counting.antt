-- Set bits counted word by word. Assumes nothing.
use Prim.Native.Nat.{ℕ, zero, suc, ◌+◌, ◌*◌, ◌/◌, ◌%◌, ◌^◌, ◌≤◌, ◌<◌}
use mathlib.Core.Path.{◌≡◌, refl, ap, ◌∙◌}
use mathlib.Core.List.{List}
use native.Mathlib.Omega.{arith}
use native.Mathlib.Nat.{mod-one, mod-lt, mod-eq_of_lt, add-zero, add-suc}
use lib.ListN.{get_or}
use lib.Count.{ones, ones_cat}
use lib.Pow.{pow_pos, mod-pow-add}
use Rattle.realm_words.specs.Bits.{bit_of, bit_at}
use Rattle.realm_words.specs.Answers.{marked}

ones_bit : (b : ℕ) → b < 2 → ones b ≡ b
unfolding ones
ones_bit zero h = refl
ones_bit (suc zero) h = refl
ones_bit (suc (suc b)) h = absurd (let z : ◌≡◌ {A = ℕ} 0 1 = omega arith in omega arith)

-- one more bit of a word
ones-more : (w k : ℕ) → ones (w % 2 ^ suc k) ≡ ones (w % 2 ^ k) + bit_of w k
unfolding bit_of
ones-more w k =
    ap (λ x. ones (w % 2 ^ x)) (let e : suc k ≡ 1 + k = omega arith in e)
    ∙ ap ones (mod-pow-add w 1 k)
    ∙ ones_cat k (w / 2 ^ k % 2) (w % 2 ^ k) (mod-lt (w) (pow_pos k))
    ∙ rw (ones_bit (w / 2 ^ k % 2) (omega arith)) (omega arith)

module _ (ws : List ℕ) where
  pub marked-word : (q r : ℕ) → r ≤ 64 → marked (bit_at ws) (64 * q + r) ≡ marked (bit_at ws) (64 * q) + ones (get_or ws q 0 % 2 ^ r)
  unfolding marked
  marked-word q zero h = rw (add-zero, mod-one, ones_bit 0 (omega arith)) (omega arith)
  marked-word q (suc r) h =
      let d : (64 * q + r) / 64 ≡ q = omega arith in
      let m : (64 * q + r) % 64 ≡ r = omega arith in
      rw (add-suc, d, m, marked-word q r (omega arith), ones-more (get_or ws q 0) r) (omega arith)

  pub marked-none : 0 ≡ marked (bit_at ws) (64 * 0)
  unfolding marked
  marked-none = refl

  -- one more whole word
  pub marked_more : (q s w : ℕ) → get_or ws q 0 < 2 ^ 64 → s ≡ marked (bit_at ws) (64 * q) → w ≡ ones (get_or ws q 0) →
      s + w ≡ marked (bit_at ws) (64 * (q + 1))
  marked_more q s w h a b =
      let e : 64 * (q + 1) ≡ 64 * q + 64 = omega arith in
      let f : get_or ws q 0 % 2 ^ 64 ≡ get_or ws q 0 = mod-eq_of_lt h in
      rw (e, marked-word q 64 (omega arith), f, a, b)
