use mathlib.Core.Path.{sym, ◌∙◌}
use borrow.Author.Rules.{rules}
use Rattle.reader.proofs.Whole.{fine-reads, refused-reads}
use Rattle.boot.specs.Boot.{params_of}
use Rattle.boot.proofs.Booting.{cold-state, cold-version, cold-cpus, cold-cpu, cold-kept, cold-refused, cold-up}
use Rattle.boot.proofs.Record.cold_checked.Goals as goal

pub returns-in_default : goal.returns-in_default
returns-in_default c =
    let a = c.args in
    cold-state a.self a.x0 a.x1 a.x2 a.x3 a.maxcpus a.kept a.page.now c.in_default.not-Fresh

pub returns-then-not-is_accepted : goal.returns-then-not-is_accepted
returns-then-not-is_accepted c =
    let a = c.args in
    cold-version a.self a.x0 a.x1 a.x2 a.x3 a.maxcpus a.kept a.page.now c.in-Fresh.is (sym c.is_accepted.ensures ∙ c.if-not-is_accepted.true)

pub returns-then-maxcpus-x2 : goal.returns-then-maxcpus-x2
returns-then-maxcpus-x2 c =
    let a = c.args in
    cold-cpus a.self a.x0 a.x1 a.x2 a.x3 a.maxcpus a.kept a.page.now c.in-Fresh.is
    (sym c.is_accepted.ensures ∙ c.if-not-is_accepted.false) (search rules)

pub returns-then-x2-x0 : goal.returns-then-x2-x0
returns-then-x2-x0 c =
    let a = c.args in
    cold-cpu a.self a.x0 a.x1 a.x2 a.x3 a.maxcpus a.kept a.page.now c.in-Fresh.is
    (sym c.is_accepted.ensures ∙ c.if-not-is_accepted.false) (search rules) (search rules)

pub returns-then-kept-gt-PAGE_SIZE : goal.returns-then-kept-gt-PAGE_SIZE
returns-then-kept-gt-PAGE_SIZE c =
    let a = c.args in
    cold-kept a.self a.x0 a.x1 a.x2 a.x3 a.maxcpus a.kept a.page.now c.in-Fresh.is
    (sym c.is_accepted.ensures ∙ c.if-not-is_accepted.false) (search rules) (search rules) (search rules)

pub returns-in_default-judge_page : goal.returns-in_default-judge_page
unfolding params_of
returns-in_default-judge_page c =
    let a = c.args in
    let k = cold-up a.self a.x0 a.x1 a.x2 a.x3 a.maxcpus a.kept a.page.now c.in-Fresh.is
    (sym c.is_accepted.ensures ∙ c.if-not-is_accepted.false) (search rules) (search rules) (search rules) _
    (fine-reads 4 a.x3 a.page.now _ c.in_default-judge_page.ensures.value).2 in
    (k, rw c.agreed_minor.ensures.0)

pub returns : goal.returns
returns c =
    let a = c.args in
    rw c.from.ensures (cold-refused a.self a.x0 a.x1 a.x2 a.x3 a.maxcpus a.kept a.page.now c.in-Fresh.is
    (sym c.is_accepted.ensures ∙ c.if-not-is_accepted.false) (search rules) (search rules) (search rules) _
    (refused-reads 4 a.x3 a.page.now _ c.in-Err.ensures.value))
