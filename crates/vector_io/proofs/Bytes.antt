-- Slices that have equal length and equal bytes are the same list. Assumes nothing.
use Rattle.std.proofs.Common.{◌≡◌, ℕ, List, true, refl, sym, subst, length, get_or, eqb}
use Rattle.std.specs.Bool.{Decides}
use Rattle.std.proofs.lemmas.Bool.Decides.{Decides-eqb}
use Rattle.std.proofs.lemmas.Grind.{same_number_lists}
use Rattle.words.proofs.Tests.{both_l, both_r, both_of, every-at, every_of}
use Rattle.vector_io.specs.Cases.{same_to, same_bytes}

module _ (a b : List ℕ) where
  told : same_bytes a b ≡ true → a ≡ b
  unfolding same_bytes same_to
  told h =
      let l : length a ≡ length b = (Decides-eqb (length a) (length b)).0 (both_l _ _ h) in
      same_number_lists a b l (λ k p. (Decides-eqb _ _).0 (every-at (length a) (λ i. eqb (get_or a i 0) (get_or b i 0)) (both_r _ _ h) k p))

  itself : same_bytes b b ≡ true
  unfolding same_bytes same_to
  itself =
      both_of _ _ ((Decides-eqb (length b) (length b)).1 refl)
      (every_of (length b) (λ i. eqb (get_or b i 0) (get_or b i 0)) (λ i p. (Decides-eqb (get_or b i 0) (get_or b i 0)).1 refl))

  pub same_bytes-Decides : Decides (same_bytes a b) (a ≡ b)
  same_bytes-Decides = (told, λ e. subst (λ t. same_bytes t b ≡ true) (sym e) itself)
