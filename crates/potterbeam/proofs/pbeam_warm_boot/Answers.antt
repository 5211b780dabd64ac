use mir.Val.{to_z, of_z}
use mir.Syntax.{w32}
use mathlib.Core.Path.{◌≡◌, ap, ◌∙◌}
use Rattle.images.specs.Image.{record_words}
use borrow.Author.Rules.{rules}
use Rattle.potterbeam.proofs.pbeam_warm_boot.Goals as goal

pub returns : goal.returns
returns c =
    let q : to_z w32 (of_z w32 c.number.result) ≡ c.number.result = search rules in
    rw (← c.record_of.ensures) record {
      value = q ∙ c.number.ensures ∙ c.warm-booted.ensures.0;
      image_after = c.record_words.ensures ∙ ap record_words
          c.warm-booted.ensures.1;
    }
