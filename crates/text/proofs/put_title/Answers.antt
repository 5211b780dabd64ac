use mathlib.Core.Path.{◌≡◌}
use Rattle.text_lines.specs.Text.{title_text}
use Rattle.text_lines.proofs.Lay.{wrote-same}
use Rattle.text_lines.proofs.Parts.{title-last}
use native.Mathlib.Omega.{arith}
use Rattle.text.proofs.put_title.Goals as goal

pub returns-in-0 : goal.returns-in-0
unfolding title_text
returns-in-0 c =
    let e : c.args.k ≡ 0 =
    c.in-0.is in
    rw e c.put.ensures

pub returns-in-1 : goal.returns-in-1
unfolding title_text
returns-in-1 c =
    let e : c.args.k ≡ 1 =
    c.in-1.is in
    rw e c.put-in-1.ensures

pub returns-in-2 : goal.returns-in-2
unfolding title_text
returns-in-2 c =
    let e : c.args.k ≡ 2 =
    c.in-2.is in
    rw e c.put-in-2.ensures

pub returns-in_default : goal.returns-in_default
unfolding title_text
returns-in_default c =
    let a = c.args in
    wrote-same (title-last a.k (omega arith)) c.put-in_default.ensures
