use lib.ListN.{length-set}
use native.Mathlib.Omega.{arith}
use Rattle.queue_image.proofs.Rows.{put_three}
use Rattle.potterbeam.proofs.put_three.Goals as goal

pub bounds-view-at-2 : goal.bounds-view-at-2
bounds-view-at-2 c = simp length-set (omega arith)

pub bounds-view-at-3 : goal.bounds-view-at-3
bounds-view-at-3 c = simp length-set (omega arith)

pub returns : goal.returns
returns c = let a = c.args in put_three a.view.now a.at a.x a.y a.z c.requires
