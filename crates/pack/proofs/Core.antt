-- Laws of a judged core: the sizes of its arrays are those of the page. Assumes nothing.
use Rattle.std.proofs.Common.{◌≡◌, ℕ, ◌<◌, ◌≤◌, List, length, arith}
use Rattle.entries.specs.Entry.{size}
use Rattle.sections.specs.Page.{count_at}
use Rattle.sections.specs.Steps.{Copied}
use Rattle.sections.proofs.Core.{core-count}
use Rattle.pack.specs.Steps.{Movable}

module _ (page core : List ℕ) (c : Copied core page) (k : ℕ) (h : k < 4) where
  pub core-size : size k (count_at k core) ≡ size k (count_at k page)
  core-size = rw (core-count page core c k h)

  pub core-room : length page ≡ 4096 → Movable page k → size k (count_at k core) ≤ 4096
  core-room n m = let i = m.inside in omega (arith, core-size)
