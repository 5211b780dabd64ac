use mathlib.Core.Path.{◌≡◌, refl, ◌∙◌}
use native.Mathlib.Omega.{arith}
use lib.ListN.{length-set}
use Rattle.queue_image.proofs.Rows.{bytes-none, bytes-more}
use borrow.Author.Rules.{rules}
use Rattle.queue_image.proofs.put_bytes.Goals as goal

pub loop-i-init : goal.loop-i-init
loop-i-init c = let a = c.args in (search rules, refl, bytes-none a.at a.bytes.now a.image.now)

pub loop-i-preserved : goal.loop-i-preserved
loop-i-preserved c =
    let a = c.args in
    let l = c.loop-i in (
      search rules,
      simp length-set (omega arith),
      rw (l.invariant.2, c.word_at.ensures)
          (bytes-more a.at l.i a.bytes.now a.image.now (omega arith)),
    )

pub returns : goal.returns
returns c =
    let e : c.loop-i.i ≡ c.args.n = omega arith in
    c.loop-i.invariant.2 ∙ rw e
