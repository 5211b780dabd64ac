use Rattle.std.proofs.Common.{ℕ, ◌%◌, ap, ◌∙◌, arith}
use Rattle.entries.specs.Entry.{size}
use Rattle.pack.proofs.Moves.{array-lent}
use Rattle.pack.proofs.array_of.Goals as goal

pub array_size-requires : goal.array_size-requires
array_size-requires c = let p = c.requires in rw p.2 (omega arith)

pub slice_bounds-result-end : goal.slice_bounds-result-end
slice_bounds-result-end c =
    let a = c.args in
    let p = c.requires in
    omega (arith, c.array_size.ensures.0, ap (size a.k) p.2, ap (λ (x : ℕ). x % 4096) p.3)

pub returns : goal.returns
returns c =
    let a = c.args in
    let p = c.requires in
    array-lent a.page.now a.k _ _ (λ i. omega (arith, c.shared_slice_known-1.given i)) p.0.inside
    (ap (λ (x : ℕ). x % 4096) p.3) (c.array_size.ensures.0 ∙ ap (size a.k) p.2)
