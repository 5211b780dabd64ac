use Rattle.std.proofs.Common.{sym, refl, arith}
use Rattle.writer.proofs.Pages.{section-in, section-out}
use Rattle.writer.proofs.put_section.Goals as goal

pub returns-then-sections-k : goal.returns-then-sections-k
returns-then-sections-k c =
    let a = c.args in
    (refl, sym (section-out a.e.minor a.k a.pointer a.words.now a.page.now (omega arith)))

pub returns : goal.returns
returns c =
    let a = c.args in
    (refl, cc (section-in a.e.minor a.k a.pointer a.words.now a.page.now (omega arith)))
