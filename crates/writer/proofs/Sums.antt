-- The checksum of a list, its total negated with wrapping. Assumes nothing.
use Rattle.std.proofs.Common.{◌≡◌, ℕ, ◌+◌, ◌-◌, ◌/◌, ◌%◌, ◌^◌, ◌<◌, List, [], ◌∷◌, length, refl, ◌∙◌, arith}
use Rattle.entries.specs.Entry.{words_per_entry, sum}
use Rattle.entries.proofs.Entries.{mod-left, mod-right}
use Rattle.writer_rules.specs.Write.{neg, descriptor}

neg_of : (x t r : ℕ) → t ≡ x % 2 ^ 64 → (r + t) % 2 ^ 64 ≡ 0 → r < 2 ^ 64 → r ≡ (2 ^ 64 - x % 2 ^ 64) % 2 ^ 64
neg_of x t r m e f = omega arith

-- count and pointer, then the words
pub neg-law : (c p s x h t r : ℕ) → x ≡ s % 2 ^ 64 → h ≡ (c + p) % 2 ^ 64 → t ≡ (h + x) % 2 ^ 64 → (r + t) % 2 ^ 64 ≡ 0 → r < 2 ^ 64 →
    r ≡ neg (c + p + s)
unfolding neg
neg-law c p s x h t r a b d e f =
    let m : t ≡ (c + p + s) % 2 ^ 64 = d ∙ rw (a, b, mod-left (c + p) (s % 2 ^ 64), mod-right (c + p) s) in
    neg_of (c + p + s) t r m e f

pub desc-none : (k p : ℕ) (ws : List ℕ) → length ws ≡ 0 → 0 ∷ 0 ∷ 0 ∷ [] ≡ descriptor k p ws
unfolding descriptor
desc-none k p [] h = refl
desc-none k p (w ∷ ws) h = absurd (let z : ⊥ = omega arith in z)

pub desc-some : (k p c s : ℕ) (ws : List ℕ) → (length ws ≡ 0 → ⊥) → c ≡ length ws / words_per_entry k → s ≡ neg (c + p + sum ws) →
    c ∷ p ∷ s ∷ [] ≡ descriptor k p ws
unfolding descriptor
desc-some k p c s [] h e f = absurd (h refl)
desc-some k p c s (w ∷ ws) h e f = rw (f, e)
