use mathlib.Core.Path.{sym, ◌∙◌}
use Rattle.codes.proofs.Gates.{up-goes, up-stops}
use Rattle.codes.proofs.up_params.Goals as goal

pub returns-then-is_up : goal.returns-then-is_up
returns-then-is_up c = up-goes c.args.state _ (sym c.is_up.ensures ∙ c.if-is_up.true) c.boot_params.ensures

pub returns-else-is_up : goal.returns-else-is_up
returns-else-is_up c = up-stops c.args.state (sym c.is_up.ensures ∙ c.if-is_up.false)
