use mathlib.Core.Path.{ap, ◌∙◌}
use Rattle.features.specs.declared.UpdateResult.{UpdateResult}
use Rattle.images.specs.Image.{work_words, register_words}
use Rattle.potterbeam.proofs.pbeam_key_update.Goals as goal

pub returns : goal.returns
returns c =
    rw (← c.record_of.ensures) record {
      out_after = c.registers.ensures ∙ ap (λ (u : UpdateResult). register_words u.answer) c.key_update-updated.ensures;
      work_after = c.work_words.ensures ∙ ap (λ (u : UpdateResult). work_words u.work)
          c.key_update-updated.ensures;
    }
