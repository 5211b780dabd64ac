use mathlib.Core.Path.{sym, ◌∙◌}
use Rattle.mend.proofs.Parts.{padding-kept, padding-goes}
use Rattle.mend.proofs.mend_padding.Goals as goal

pub returns-then-padding_at-eq0 : goal.returns-then-padding_at-eq0
returns-then-padding_at-eq0 c = padding-kept c.args.page.now (sym c.padding_at.ensures ∙ c.if-padding_at-eq0.true)

pub returns : goal.returns
returns c =
    padding-goes c.args.page.now
    (λ z. c.if-padding_at-eq0.false (c.padding_at.ensures ∙ z)) _
    c.put_u32.ensures
