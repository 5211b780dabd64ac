use mathlib.Core.Path.{sym, ◌∙◌}
use borrow.Author.Rules.{rules}
use native.Mathlib.Omega.{arith}
use lib.ListN.{length-drop}
use Rattle.state_blobs.specs.Collect.{unchanged}
use Rattle.state_blobs.proofs.Collects.{collect-rejected, collect-got}
use Rattle.state_blobs.proofs.Collector.collect.Goals as goal

pub returns-in_err-piece : goal.returns-in_err-piece
unfolding unchanged
returns-in_err-piece c =
    let a = c.args in
    rw (collect-rejected a.largest a.message.now a.self.now a.buffer.now (sym c.read_response.ensures ∙ c.in_err-piece.was)) (search rules)

pub offer-requires : goal.offer-requires
offer-requires c =
    let a = c.args in
    let f = collect-got a.largest a.message.now a.self.now a.buffer.now (sym c.read_response.ensures ∙ c.in_ok-piece.was) in
    rw (c.data_of.ensures.result_value, length-drop) (omega arith)

pub returns : goal.returns
returns c =
    let a = c.args in
    let f = collect-got a.largest a.message.now a.self.now a.buffer.now (sym c.read_response.ensures ∙ c.in_ok-piece.was) in
    rw (c.offer.ensures, c.data_of.ensures.result_value) (sym f.0)
