use mathlib.Core.Path.{sym, ap, ◌∙◌}
use Rattle.reader.specs.Reading.{refusal_number}
use Rattle.reader.specs.declared.Refusal.{Refusal}
use Rattle.pack_page.specs.Prints.{refused_line, refusal_line, reason_text}
use native.Mathlib.Omega.{arith}
use Rattle.pack_page.proofs.put_code.Goals as goal

pub returns-in-Place : goal.returns-in-Place
unfolding refused_line refusal_line reason_text
returns-in-Place c = (
  omega (arith, c.put.ensures.0),
  c.put.ensures.1 ∙
      sym (ap (λ (x : Refusal). refused_line (refusal_number x)) c.in-Place.is),
)

pub returns-in-Version : goal.returns-in-Version
unfolding refused_line refusal_line reason_text
returns-in-Version c = (
  omega (arith, c.put-in-Version.ensures.0),
  c.put-in-Version.ensures.1 ∙
      sym (ap (λ (x : Refusal). refused_line (refusal_number x)) c.in-Version.is),
)

pub returns-in-Rules : goal.returns-in-Rules
unfolding refused_line refusal_line reason_text
returns-in-Rules c = (
  omega (arith, c.put-in-Rules.ensures.0),
  c.put-in-Rules.ensures.1 ∙
      sym (ap (λ (x : Refusal). refused_line (refusal_number x)) c.in-Rules.is),
)
