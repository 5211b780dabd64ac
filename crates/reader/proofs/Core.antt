-- Laws of a judged core: it shows what the page shows. Assumes nothing.
use Prim.Native.Nat.{ℕ, ◌≤◌, ◌<◌}
use mathlib.Core.Path.{◌≡◌, ◌∙◌}
use mathlib.Core.Bool.{true}
use mathlib.Core.List.{List}
use native.Mathlib.Omega.{arith}
use Rattle.versions.specs.Edition.{section_count}
use Rattle.versions.proofs.Editions.{section-count-most}
use Rattle.sections.specs.Page.{count_at, pointer_at}
use Rattle.sections.specs.Section.{rules_at}
use Rattle.sections.specs.Steps.{Copied}
use Rattle.sections.proofs.Core.{core-word, core-count, core-pointer}
use Rattle.sections.proofs.Sections.{range-low, ok-in-range, ok-each, rules-sections}
use Rattle.reader.specs.Reading.{section_at, view_at}

module _ (page copied : List ℕ) (c : Copied copied page) where
  pub core-section : (e base k : ℕ) → k < 4 → section_at e base copied k ≡ section_at e base page k
  unfolding section_at
  core-section e base k h = rw (core-count page copied c k h, core-pointer page copied c k h)

  pub core-view : (w e base : ℕ) → view_at w e base copied ≡ view_at w e base page
  unfolding view_at
  core-view w e base =
      rw (
        core-word page copied c 8 (omega arith) (omega arith),
        core-section e base 0 (omega arith),
        core-section e base 1 (omega arith),
        core-section e base 2 (omega arith),
        core-section e base 3 (omega arith),
      )

  -- a section that is read and not empty has its pointer within the page
  pub core-placed : (w e base : ℕ) → rules_at w e base page ≡ true → (k : ℕ) → k < section_count e → (count_at k copied ≡ 0 → ⊥) →
      base ≤ pointer_at k copied
  core-placed w e base r k h z =
      let l : k < 4 = omega (arith, section-count-most e) in
      let y : (count_at k page ≡ 0 → ⊥) = λ q. z (core-count page copied c k l ∙ q) in
      let g = range-low e base k (count_at k page) (pointer_at k page)
      (ok-in-range w e base k page (ok-each w e base page (section_count e) k (rules-sections w e base page r) h) y) in
      omega (arith, core-pointer page copied c k l)
