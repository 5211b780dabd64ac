use mathlib.Core.Path.{ap, ◌∙◌}
use Rattle.potterbeam_tpm.specs.Exports.{place_words}
use Rattle.potterbeam_tpm.proofs.pbeam_tpm_request.Goals as goal

pub returns : goal.returns
unfolding place_words
returns c = ap place_words (c.request_place-span.ensures ∙ rw c.says.ensures)
