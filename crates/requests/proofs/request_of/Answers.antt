use mathlib.Core.Path.{◌≡◌, ◌∙◌}
use native.Mathlib.Omega.{arith}
use lib.ListN.{length, take, drop, length-drop}
use lib.Seq.{length-take-le}
use Rattle.words.specs.Word.{part}
use Rattle.words.proofs.Store.{laid-all}
use Rattle.request_rules.specs.Push.{request_of}
use Rattle.requests.proofs.request_of.Goals as goal

pub returns : goal.returns
unfolding request_of part
returns c =
    let b = c.args.buffer.now in
    let l : length (take 48 (drop 32 b)) ≡ 48 = length-take-le 48 (drop 32 b) (omega (arith, length-drop 32 b)) in
    let h : c.copy.new.to ≡ take 48
    (drop 32 b) = c.copy.ensures ∙ laid-all (take 48 (drop 32 b)) _ l in
    cc
