use mathlib.Core.Path.{◌≡◌, ap, ◌∙◌}
use Prim.Native.Nat.{◌≤◌}
use lib.ListN.{length, take}
use Rattle.words.proofs.Store.{laid-front}
use Rattle.queue.specs.Queue.{signed_in}
use borrow.Author.Rules.{rules}
use Rattle.responses.proofs.response_of.Goals as goal

pub returns : goal.returns
unfolding signed_in
returns c =
    let s = c.args.signature.now in
    let m : length s ≤ 104 = search rules in
    let h : take (length s) c.copy.new.to ≡ s = ap (take (length s)) c.copy.ensures ∙ laid-front s _ m in
    rw h
