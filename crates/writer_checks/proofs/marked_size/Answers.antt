use Rattle.writer_checks.proofs.Described.{marked-none, marked-some}
use Rattle.std.proofs.Common.{rules}
use Rattle.writer_checks.proofs.marked_size.Goals as goal

pub returns-then-fields-eq0 : goal.returns-then-fields-eq0
returns-then-fields-eq0 c = marked-none c.args.fields.now (search rules)

pub returns : goal.returns
returns c = marked-some c.args.fields.now (search rules)
