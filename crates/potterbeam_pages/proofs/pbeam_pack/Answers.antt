use mir.Val.{to_z, of_z}
use mir.Syntax.{w32}
use mathlib.Core.Path.{◌≡◌, ◌∙◌}
use Rattle.pack.proofs.Answers.{packed-number}
use borrow.Author.Rules.{rules}
use Rattle.potterbeam_pages.proofs.pbeam_pack.Goals as goal

pub returns : goal.returns
returns c =
    let q : to_z w32 (of_z w32 c.number.result) ≡ c.number.result = search rules in
    record {
      value = q ∙ c.number.ensures ∙ packed-number _ _ _ c.pack.ensures.result_after;
      target_after = c.pack.ensures.target_after;
      by_index = c.pack.ensures.by_index;
    }
