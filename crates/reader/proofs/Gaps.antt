-- No byte is named except the core, the arrays, the fields and, if the version is refused, the first 16. A definition that names every
-- byte fails here. Assumes nothing.
use Prim.Native.Nat.{ℕ, zero, suc, min, ◌+◌, ◌≤◌, ◌<◌}
use mathlib.Core.Bool.{Bool, true, false, false≢true}
use mathlib.Core.Logic.{inl, inr}
use mathlib.Core.Path.{◌≡◌, refl, sym, ◌∙◌}
use mathlib.Core.List.{List}
use native.Mathlib.Omega.{arith}
use lib.ListN.{length}
use borrow.Author.Tests.{leb-true, ltb-true, eqb-true}
use Rattle.words.specs.Tests.{Yes, some}
use Rattle.words.proofs.Tests.{both_l, both_r, either-cases}
use Rattle.versions.specs.Version.{minor_of, version_ok}
use Rattle.versions.specs.Edition.{section_count, core}
use Rattle.entries.specs.Entry.{size}
use Rattle.words.specs.Word.{word_at}
use Rattle.fields.specs.Fields.{Scanned, broken, ended, bare, is_ended, taken, reach}
use Rattle.fields.proofs.Rules.{no_test}
use Rattle.sections.specs.Page.{version_at, count_at, pointer_at, found_at}
use Rattle.reader.specs.Answer.{in_array, in_plat, named_by, named}
use Rattle.reader.specs.Gaps.{BesideArray, BesideFields, OthersUnnamed}

pub some-not : (n : ℕ) (f : ℕ → Bool) → ((k : ℕ) → k < n → Yes (f k) → ⊥) → Yes (some n f) → ⊥
unfolding some
some-not zero f h y = false≢true y
some-not (suc n) f h y = either-cases _ _ (some-not n f (λ k l. h k (omega arith))) (h n (omega arith)) y

beside-not : (base : ℕ) (page : List ℕ) (i k : ℕ) → BesideArray base page i k → Yes (in_array base page i k) → ⊥
unfolding in_array
beside-not base page i k (inl h) y = let a : pointer_at k page ≤ base + i = leb-true _ _ (both_l _ _ (both_r _ _ y)) in omega arith
beside-not base page i k (inr (inl h)) y =
    let a : base + i < pointer_at k page + size k (count_at k page) = ltb-true _ _ (both_r _ _ (both_r _ _ y)) in omega arith
beside-not base page i k (inr (inr h)) y = false≢true (sym h ∙ both_l _ _ y)

-- fields with an end mark reach through the mark and no further
pub ended-taken : (s : Scanned) → is_ended s ≡ true → reach s ≡ taken s
unfolding is_ended reach taken
ended-taken broken h = absurd (false≢true h)
ended-taken (ended fs n) h = refl
ended-taken (bare fs) h = absurd (false≢true h)

fields-not : (base : ℕ) (page : List ℕ) (i : ℕ) → BesideFields base page i → Yes (in_plat base page i) → ⊥
unfolding in_plat
fields-not base page i (inl h) y = let a : word_at 8 page ≤ base + i = leb-true _ _ (both_l _ _ (both_r _ _ y)) in omega arith
fields-not base page i (inr (inl h)) y =
    let a : base + i < word_at 8 page + reach (found_at base page (word_at 8 page)) = ltb-true _ _ (both_r _ _ (both_r _ _ y)) in
    let t : reach (found_at base page (word_at 8 page)) ≡ taken (found_at base page (word_at 8 page)) = ended-taken _ h.0 in
    let l : word_at 8 page + taken (found_at base page (word_at 8 page)) ≤ base + i = h.1 in
    omega arith
fields-not base page i (inr (inr h)) y = false≢true (sym h ∙ both_l _ _ y)

core-least : (e : ℕ) → 16 ≤ core e
unfolding core
core-least e = omega arith

by-edition-not : (e base : ℕ) (page : List ℕ) (i : ℕ) → core e ≤ i → ((k : ℕ) → k < section_count e → BesideArray base page i k) →
    BesideFields base page i → Yes (named_by e base page i) → ⊥
unfolding named_by
by-edition-not e base page i h g f y =
    either-cases _ _ (λ a. let l = ltb-true i (core e) a in omega arith)
    (either-cases _ _ (some-not (section_count e) (in_array base page i) (λ k l. beside-not base page i k (g k l)))
    (fields-not base page i f)) y

module _ (r base : ℕ) (page : List ℕ) (i : ℕ) where
  named-not : 16 ≤ i → (Yes (version_ok (version_at page)) → Yes (named_by (min r (minor_of (version_at page))) base page i) → ⊥) →
      named r base page i ≡ false
  unfolding named
  named-not h f = no_test _ (λ y.
      either-cases _ _ (λ a. let l = ltb-true i 16 a in omega arith) (λ b. f (both_l _ _ b) (both_r _ _ b)) (both_r _ _ y))

  cut-not : (length page ≡ 4096 → ⊥) → named r base page i ≡ false
  unfolding named
  cut-not h = no_test _ (λ y. h (eqb-true (length page) 4096 (both_l _ _ y)))

pub others-unnamed : (r base : ℕ) (page : List ℕ) → OthersUnnamed r base page
others-unnamed r base page = record {
  gap =
      λ i h g f. named-not r base page i (omega (arith, core-least (min r (minor_of (version_at page)))))
      (λ v. by-edition-not _ base page i h g f);
  unknown = λ i h v. named-not r base page i h (λ y. absurd (false≢true (sym v ∙ y)));
  cut = λ i h. cut-not r base page i h;
}
