use Rattle.std.proofs.Common.{◌≡◌, ◌+◌, true, false, leb, sym, ◌∙◌, arith, le-leb, leb-true, leb-false}
use mathlib.Core.Bool.{false≢true}
use borrow.Author.Tests.{lt-leb}
use Rattle.words.specs.Tests.{both}
use Rattle.versions.specs.Edition.{core}
use Rattle.entries.specs.Entry.{size}
use Rattle.sections.specs.Section.{in_range}
use Rattle.faults.proofs.Faults.{range-fits}
use Rattle.faults.proofs.is_placed.Goals.{then-base-core_size, else-base-core_size}
use Rattle.faults.proofs.is_placed.Goals as goal

pub returns-then-pointer-base : goal.returns-then-pointer-base
returns-then-pointer-base c =
    let a = c.args in
    elim c.if-base-core_size.branch [
      | then-base-core_size w ↦
          let m : leb a.pointer (a.base + 4096) ≡ true = sym w.value-is ∙ c.if-pointer-base.true in
          c.fits.ensures ∙ sym (range-fits a.e.minor a.base a.k a.count a.pointer (omega (arith, w.if-base-core_size.true)) (leb-true _ _ m))
      | else-base-core_size w ↦
          absurd (false≢true (sym (lt-leb (a.base + c.core_size.result) a.pointer (omega (arith, w.if-base-core_size.false))) ∙ sym w.value-is ∙ c.if-pointer-base.true))
    ]

pub returns-else-pointer-base : goal.returns-else-pointer-base
unfolding in_range both
returns-else-pointer-base c =
    let a = c.args in
    elim c.if-base-core_size.branch [
      | then-base-core_size w ↦
          let m : leb a.pointer (a.base + 4096) ≡ false = sym w.value-is ∙ c.if-pointer-base.false in
          c.if-pointer-base.false ∙ simp (
            le-leb (a.base + core a.e.minor) a.pointer (omega (arith, w.if-base-core_size.true)),
            lt-leb (a.pointer + size a.k a.count) (a.base + 4096) (omega (arith, leb-false _ _ m)),
          )
      | else-base-core_size w ↦
          c.if-pointer-base.false ∙ simp (lt-leb (a.base + core a.e.minor) a.pointer (omega (arith, w.if-base-core_size.false)))
    ]
