use borrow.Author.Tests.{eq-eqb, ne_eqb}
use Rattle.words.specs.Word.{no_span, span_at}
use borrow.Author.Rules.{rules}
use Rattle.words.proofs.span_at.Goals as goal

pub returns-then-len-eq0 : goal.returns-then-len-eq0
unfolding span_at no_span
returns-then-len-eq0 c = simp (eq-eqb c.args.len 0 (search rules))

pub returns-else-len-eq0 : goal.returns-else-len-eq0
unfolding span_at
returns-else-len-eq0 c = simp (ne_eqb c.args.len 0 (search rules))
