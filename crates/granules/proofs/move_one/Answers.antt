use mathlib.Core.Path.{refl, sym}
use lib.ListN.{length}
use Rattle.std.proofs.lemmas.Result.{err_from_is_err_and}
use Rattle.codes.specs.Codes.{boot_params}
use Rattle.codes.proofs.Gates.{went, stood}
use Rattle.banks.proofs.Fast.{none-span, found-is}
use Rattle.granule_rules.specs.Granules.{table_of}
use Rattle.granule_rules.specs.Steps.{shared_code}
use Rattle.granule_rules.proofs.Moving.{granule-inside, shared-refused, shared-passed, result-err, result_up}
use Rattle.granules.proofs.move_one.Goals as goal

pub returns-in_err-params : goal.returns-in_err-params
returns-in_err-params c =
    let a = c.args in
    let t = table_of a.table.now a.words.now in
    let g = stood (shared_code a.state a.granules.now (length t.bytes) t.words) (boot_params a.state) _ (sym c.in_err-params.ensures) in
    let p = err_from_is_err_and c.from_residual.result c.from_residual.ensures.1 in
    rw (p.1, p.2) (result-err _ _ _ _ g.1 (shared-refused a.state a.granules.now t _ (sym g.0) g.1 a.direction a.address _ refl))

pub move_at-requires : goal.move_at-requires
move_at-requires c =
    let a = c.args in
    let t = table_of a.table.now a.words.now in
    let g = went (shared_code a.state a.granules.now (length t.bytes) t.words) (boot_params a.state) _ (sym c.in_ok-params.ensures) in
    let p = shared-passed a.state a.granules.now t _ (sym g.0) refl in
    granule-inside a.granules.now a.table.now a.words.now a.address _ p.fit
    (found-is a.granules.now c.no_bank.result (length a.table.now) a.address c.find_from-found.result p.some p.count
    (rw c.no_bank.ensures (none-span a.granules.now)) c.find_from-found.ensures).0

pub returns : goal.returns
returns c =
    let a = c.args in
    let t = table_of a.table.now a.words.now in
    let g = went (shared_code a.state a.granules.now (length t.bytes) t.words) (boot_params a.state) _ (sym c.in_ok-params.ensures) in
    let p = shared-passed a.state a.granules.now t _ (sym g.0) refl in
    result_up a.state a.granules.now a.direction t a.address p.fit p.up _ g.1 _ _ _
    (c.move_at.ensures a.granules.now
    (found-is a.granules.now c.no_bank.result (length a.table.now) a.address c.find_from-found.result p.some p.count
    (rw c.no_bank.ensures (none-span a.granules.now)) c.find_from-found.ensures).0)
