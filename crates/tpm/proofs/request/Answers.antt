use mathlib.Core.Path.{ap, ◌∙◌}
use Rattle.words.specs.Word.{span_start, on_from}
use Rattle.words.specs.declared.Span.{Span}
use Rattle.tpm.proofs.Acts.{request-spanned, request-starts}
use Rattle.tpm.proofs.request.Goals as goal

pub returns : goal.returns
returns c =
    let a = c.args in
    let e = c.request_place-place.ensures in record {
      result_value = c.part_of.ensures.result_value ∙ rw e (request-spanned _ _ _);
      ref_ptr_value = c.part_of.ensures.ref_ptr_value ∙ ap (λ (p : Span). on_from a.memory.ref_ptr (span_start p a.memory.now)) e ∙
          ap (on_from a.memory.ref_ptr) (request-starts a.asked a.memory.now a.forbidden);
    }
