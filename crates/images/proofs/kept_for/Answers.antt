use Prim.Native.Nat.{ℕ, ◌≤◌, max}
use mathlib.Core.Path.{◌≡◌}
use native.Mathlib.Omega.{arith}
use Rattle.reader.specs.Reading.{section_of}
use Rattle.reader.specs.declared.Section.{Section}
use Rattle.manifest_extent.specs.Kept.{section_end, highest_of, kept_for}
use Rattle.manifest_extent.proofs.Kept.{end-most}
use Rattle.images.specs.Image.{view_of}
use Rattle.images.proofs.kept_for.Goals as goal

still-most : (n end k : ℕ) (s : Section) → n ≡ max end (section_end k s) → end ≤ 4096 → n ≤ 4096
still-most n end k s e h = omega (arith, end-most k s)

pub overflow_add-result : goal.overflow_add-result
overflow_add-result c =
    let b1 = still-most _ _ _ _ c.higher_end-end.ensures
    c.core_end-end.ensures.1 in
    let b2 = still-most _ _ _ _ c.higher_end-end-2.ensures b1 in
    let b3 = still-most _ _ _ _ c.higher_end-end-3.ensures b2 in
    let b4 = still-most _ _ _ _ c.higher_end-end-4.ensures b3 in
    omega arith

pub overflow_mul-result : goal.overflow_mul-result
overflow_mul-result c =
    let b1 = still-most _ _ _ _ c.higher_end-end.ensures
    c.core_end-end.ensures.1 in
    let b2 = still-most _ _ _ _ c.higher_end-end-2.ensures b1 in
    let b3 = still-most _ _ _ _ c.higher_end-end-3.ensures b2 in
    let b4 = still-most _ _ _ _ c.higher_end-end-4.ensures b3 in
    omega arith

pub returns : goal.returns
unfolding kept_for highest_of section_of view_of
returns c =
    let b1 = still-most _ _ _ _ c.higher_end-end.ensures
    c.core_end-end.ensures.1 in
    let b2 = still-most _ _ _ _ c.higher_end-end-2.ensures b1 in
    let b3 = still-most _ _ _ _ c.higher_end-end-3.ensures b2 in
    let b4 = still-most _ _ _ _ c.higher_end-end-4.ensures b3 in
    (cc, omega arith)
