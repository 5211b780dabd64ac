use Rattle.std.proofs.Common.{◌%◌, ◌^◌, ◌∙◌, arith, le-ltb, lt-ltb, eq-eqb, ne_eqb}
use mathlib.Core.Logic.{⊎_elim}
use Rattle.words.specs.Tests.{both}
use Rattle.entries.specs.Fast.{bank_clear}
use Rattle.entries.proofs.banks_clear.Goals.{then-bits-eq0, else-bits-eq0}
use Rattle.entries.proofs.banks_clear.Goals as goal

pub returns-then-bits-lt9007199254740992 : goal.returns-then-bits-lt9007199254740992
unfolding bank_clear both
returns-then-bits-lt9007199254740992 c =
    let b = c.args.bits in
    let t = c.if-bits-lt9007199254740992.true in simp (eq-eqb (b.low % 4096) 0 t.0, lt-ltb b.low (2 ^ 53) (omega (arith, t.1)))

pub returns-else-bits-lt9007199254740992 : goal.returns-else-bits-lt9007199254740992
unfolding bank_clear both
returns-else-bits-lt9007199254740992 c =
    let b = c.args.bits in
    elim c.if-bits-eq0.branch [
      | then-bits-eq0 w ↦ ⊎_elim (λ n. w.t-3-is ∙ simp (eq-eqb (b.low % 4096) 0 w.if-bits-eq0.true, le-ltb b.low (2 ^ 53) (omega (arith, n.1)))) (λ m. absurd (m w.if-bits-eq0.true)) c.if-bits-lt9007199254740992.either
      | else-bits-eq0 w ↦ w.t-3-is ∙ simp (ne_eqb (b.low % 4096) 0 w.if-bits-eq0.false)
    ]
