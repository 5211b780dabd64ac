use mathlib.Core.Path.{◌≡◌}
use native.Mathlib.Omega.{arith}
use lib.ListN.{length, length-take}
use Rattle.queue.specs.Queue.{signed_in}
use borrow.Author.Rules.{rules}
use Rattle.queue.proofs.signature_len.Goals as goal

pub returns : goal.returns
unfolding signed_in
returns c =
    let r = c.args.response in
    let l : length r.signature ≡ 104 = search rules in
    (omega (arith, c.min.ensures, length-take r.len r.signature), omega (arith, c.min.ensures))
