use Rattle.std.proofs.Common.{◌+◌, sym, ◌∙◌, rules, eq-eqb, ne_eqb, le-leb}
use borrow.Author.Tests.{lt-leb}
use Rattle.faults.specs.Faults.{unless, field_tests}
use Rattle.faults.proofs.field_fault.Goals as goal

pub returns-then-n-at : goal.returns-then-n-at
unfolding unless field_tests
returns-then-n-at c = let a = c.args in simp (lt-leb (a.at + 3 + a.len) a.n (search rules)) c.field_found.ensures

pub returns-then-len-ne0 : goal.returns-then-len-ne0
unfolding unless field_tests
returns-then-len-ne0 c =
    let a = c.args in
    simp (le-leb (a.at + 3 + a.len) a.n (search rules), eq-eqb a.tag 0 (search rules), ne_eqb a.len 0 (search rules))
    c.field_found-then-len-ne0.ensures

pub returns-then-tag-eq0 : goal.returns-then-tag-eq0
unfolding unless field_tests
returns-then-tag-eq0 c =
    let a = c.args in
    simp (le-leb (a.at + 3 + a.len) a.n (search rules), eq-eqb a.tag 0 (search rules), eq-eqb a.len 0 (search rules))

pub returns-then-not-length_ok : goal.returns-then-not-length_ok
unfolding unless field_tests
returns-then-not-length_ok c =
    let a = c.args in
    simp (
      le-leb (a.at + 3 + a.len) a.n (search rules),
      ne_eqb a.tag 0 (search rules),
      sym c.length_ok.ensures ∙ c.if-not-length_ok.true,
    ) c.field_found-then-not-length_ok.ensures

pub returns-then-has : goal.returns-then-has
unfolding unless field_tests
returns-then-has c =
    let a = c.args in
    simp (
      le-leb (a.at + 3 + a.len) a.n (search rules),
      ne_eqb a.tag 0 (search rules),
      sym c.length_ok.ensures ∙ c.if-not-length_ok.false,
      sym c.has.ensures ∙ c.if-has.true,
    ) c.field_found-then-has.ensures

pub returns : goal.returns
unfolding unless field_tests
returns c =
    let a = c.args in
    simp (
      le-leb (a.at + 3 + a.len) a.n (search rules),
      ne_eqb a.tag 0 (search rules),
      sym c.length_ok.ensures ∙ c.if-not-length_ok.false,
      sym c.has.ensures ∙ c.if-has.false,
    )
