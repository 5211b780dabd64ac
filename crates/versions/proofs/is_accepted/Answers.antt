use Rattle.std.proofs.Common.{◌≡◌, ◌/◌, ◌^◌, ◌∙◌, sym, true, false, eqb}
use mathlib.Core.Bool.{false≢true}
use borrow.Author.Tests.{eq-eqb, ne_eqb}
use Rattle.words.specs.Tests.{both}
use Rattle.versions.specs.Version.{major_of, above_of, version_ok}
use Rattle.versions.proofs.is_accepted.Goals as goal
use Rattle.versions.proofs.is_accepted.Goals.{then-version-eq0, else-version-eq0}

pub returns-then-major-eq0 : goal.returns-then-major-eq0
unfolding version_ok above_of both
returns-then-major-eq0 c =
    let v = c.args.version in
    elim c.if-version-eq0.branch [
      | then-version-eq0 w ↦
          let m : eqb (major_of v) 0 ≡ true = rw (← w.major.ensures.0) (sym w.value-is ∙ c.if-major-eq0.true) in
          rw (eq-eqb (v / 2 ^ 31) 0 w.if-version-eq0.true, m, ← c.minor.ensures.0)
      | else-version-eq0 w ↦ absurd (false≢true (sym (ne_eqb (v / 2 ^ 31) 0 w.if-version-eq0.false) ∙ sym w.value-is ∙ c.if-major-eq0.true))
    ]

pub returns-else-major-eq0 : goal.returns-else-major-eq0
unfolding version_ok above_of both
returns-else-major-eq0 c =
    let v = c.args.version in
    elim c.if-version-eq0.branch [
      | then-version-eq0 w ↦
          let m : eqb (major_of v) 0 ≡ false = rw (← w.major.ensures.0) (sym w.value-is ∙ c.if-major-eq0.false) in
          rw (eq-eqb (v / 2 ^ 31) 0 w.if-version-eq0.true, m) c.if-major-eq0.false
      | else-version-eq0 w ↦ let n = ne_eqb (v / 2 ^ 31) 0 w.if-version-eq0.false in rw n (w.value-is ∙ n)
    ]
