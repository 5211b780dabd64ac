use mathlib.Core.Path.{ap, ◌∙◌}
use Rattle.attest.specs.Key.{Keyed}
use Rattle.images.specs.Image.{register_words}
use Rattle.potterbeam.proofs.pbeam_realm_key.Goals as goal

pub returns : goal.returns
returns c =
    rw (← c.record_of.ensures) record {
      out_after = c.registers.ensures ∙ ap (λ (k : Keyed). register_words k.answer) c.realm_key.ensures;
      page_after = ap
          (λ (k : Keyed). k.page) c.realm_key.ensures;
    }
