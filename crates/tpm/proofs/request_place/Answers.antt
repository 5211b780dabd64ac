use borrow.Author.Tests.{eq-eqb, ne_eqb}
use Rattle.words.specs.Tests.{both}
use Rattle.words.specs.Word.{no_span}
use Rattle.tpm.specs.Comm.{is_execute, has_request, tpm_request_span}
use Rattle.tpm.proofs.Chains.{passed, stopped}
use borrow.Author.Rules.{rules}
use Rattle.tpm.proofs.request_place.Goals as goal

pub returns-then-operation-ne1 : goal.returns-then-operation-ne1
unfolding tpm_request_span has_request both is_execute no_span
returns-then-operation-ne1 c =
    let a = c.args in
    simp (ne_eqb a.asked.operation 1 (search rules))

pub returns-in-Ok : goal.returns-in-Ok
unfolding tpm_request_span has_request both is_execute
returns-in-Ok c =
    let a = c.args in
    rw (c.span_at.ensures, eq-eqb a.asked.operation 1 (search rules), passed c.in-Ok.ensures.code)

pub returns-in-Err : goal.returns-in-Err
unfolding tpm_request_span has_request both is_execute no_span
returns-in-Err c =
    let a = c.args in
    rw (eq-eqb a.asked.operation 1 (search rules), stopped c.in-Err.ensures.code c.in-Err.ensures.err)
