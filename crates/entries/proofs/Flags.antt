-- The words of a console as they are shown. Assumes nothing.
use Rattle.std.proofs.Common.{◌≡◌, ℕ, zero, suc, ◌+◌, ◌-◌, ◌*◌, ◌%◌, ◌<◌, ◌≤◌, Bool, true, false, cond, eqb, ltb, List, [], ◌∷◌, get_or, refl, ◌∙◌, arith, lit≤, le-ltb, ne_eqb}
use Rattle.words.specs.Tests.{both}
use Rattle.entries.specs.Entry.{words_per_entry, flags_cleared, shown_words}
use Rattle.entries.specs.Fast.{is_hidden}

-- a page of minor 4 or less shows them unchanged
pub shown-plain : (v k : ℕ) → v ≤ 4 → (ws : List ℕ) → shown_words v k ws ≡ ws
unfolding shown_words
shown-plain v zero h ws = refl
shown-plain v (suc zero) h ws = rw (le-ltb 4 v h)
shown-plain v (suc (suc k)) h ws = refl

cleared_at : (n : ℕ) (ws : List ℕ) (j : ℕ) → n ≤ 5 → get_or (flags_cleared n ws) j 0 ≡ cond (eqb ((j + (5 - n)) % 6) 5) 0 (get_or ws j 0)
unfolding flags_cleared
cleared_at n [] j h = none (eqb ((j + (5 - n)) % 6) 5)
  where
    none : (b : Bool) → ◌≡◌ {A = ℕ} 0 (cond b 0 0)
    none true = refl
    none false = refl
cleared_at zero (w ∷ ws) zero h = refl
cleared_at zero (w ∷ ws) (suc j) h =
    rw (cleared_at 5 ws j (lit≤ tt), (let e : (suc j + (5 - 0)) % 6 ≡ (j + (5 - 5)) % 6 = omega arith in e))
cleared_at (suc n) (w ∷ ws) zero h = rw (ne_eqb ((0 + (5 - suc n)) % 6) 5 (λ z. omega arith))
cleared_at (suc n) (w ∷ ws) (suc j) h =
    rw (cleared_at n ws j (omega arith), (let e : (suc j + (5 - suc n)) % 6 ≡ (j + (5 - n)) % 6 = omega arith in e))

-- word j of entry i
console-word : (b : Bool) (i j : ℕ) (ws : List ℕ) → j < 6 →
    get_or (cond b (flags_cleared 5 ws) ws) (6 * i + j) 0 ≡ cond (both (eqb j 5) b) 0 (get_or ws (6 * i + j) 0)
unfolding both
console-word true i j ws h =
    cleared_at 5 ws (6 * i + j) (lit≤ tt) ∙ rw (let e : (6 * i + j + (5 - 5)) % 6 ≡ j = omega arith in e) (go (eqb j 5))
  where
    go : (c : Bool) → cond c 0 (get_or ws (6 * i + j) 0) ≡ cond (both c true) 0 (get_or ws (6 * i + j) 0)
    go true = refl
    go false = refl
console-word false i j ws h = go (eqb j 5)
  where
    go : (c : Bool) → get_or ws (6 * i + j) 0 ≡ cond (both c false) 0 (get_or ws (6 * i + j) 0)
    go true = refl
    go false = refl

pub shown-word : (w k i j : ℕ) (ws : List ℕ) → j < words_per_entry k →
    get_or (shown_words w k ws) (words_per_entry k * i + j) 0 ≡ cond (is_hidden w k j) 0 (get_or ws (words_per_entry k * i + j) 0)
unfolding shown_words is_hidden words_per_entry both
shown-word w zero i j ws h = refl
shown-word w (suc zero) i j ws h = console-word (ltb 4 w) i j ws h
shown-word w (suc (suc k)) i j ws h = rw (ne_eqb (suc (suc k)) 1 (λ z. omega arith))
