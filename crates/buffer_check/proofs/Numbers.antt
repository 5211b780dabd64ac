-- The checks that every command on the page starts with, by the numbers of RT1. Assumes nothing.
use Prim.Native.Nat.{ℕ, ◌+◌, ◌-◌}
use mathlib.Core.Path.{◌≡◌, refl, sym, ap, ◌∙◌}
use mathlib.Core.Bool.{Bool, true, false, cond}
use lib.Dec.{leb, ltb, eqb}
use lib.IntN.{ℤ, pos}
use Rattle.words.specs.Tests.{either}
use Rattle.boot.specs.declared.Params.{Params}
use Rattle.boot.specs.declared.Record.{Record}
use Rattle.boot.specs.declared.Record.TheVariants.{Fresh, Up, Closed}
use Rattle.codes.specs.Codes.{number_of, is_up, boot_params, is_false, fails, when_up, and_then, gated, gate_number}
use Rattle.codes.specs.declared.Code.{Code}
use Rattle.codes.specs.declared.Code.TheVariants.{Ok, Unk, Inval}
use Rattle.std.specs.Prelude.{Result}
use Rattle.codes.proofs.Numbers.{number-fails, number-unless, number-then, number-gated, then-last}
use Rattle.codes.proofs.Reasons.{then-fails, then-then, then-none}
use Rattle.buffer_check.specs.Range.{outside, too_long, place_of, outside_code, range_code, page_code, outside_number, page_number}
use Rattle.buffer_check.specs.declared.OutsideAs.{OutsideAs}
use Rattle.buffer_check.specs.declared.OutsideAs.TheVariants.{BadAddress, Invalid}
use Rattle.buffer_check.proofs.Ranges.{outside-refused}

outside-number : (out : OutsideAs) → number_of (outside_code out) ≡ outside_number out
unfolding outside_code
outside-number BadAddress = refl
outside-number Invalid = refl

cond_either : (a b : Bool) (x y : ℤ) → cond (either a b) x y ≡ cond a x (cond b x y)
unfolding either
cond_either true b x y = refl
cond_either false b x y = refl

when-up : (u : Params) (k : Code) → when_up (Up u) k ≡ k
unfolding when_up is_up is_false fails
when-up u k = refl

module _ (len : ℕ) (first : Code) (out : OutsideAs) (pa size : ℕ) (next : Code) where
  -- the checks of a record that is up, and those after them, as one row
  up-row : (u : Params) → and_then (page_code (Up u) len first out pa size) next
      ≡ fails (is_false (eqb len 4096)) Unk (and_then first (fails (outside u pa) (outside_code out) (fails (too_long u pa size) Inval next)))
  unfolding page_code boot_params range_code
  up-row u =
      ap (λ k. and_then k next) (when-up u _)
      ∙ rw (
        then-fails (is_false (eqb len 4096)) Unk _ next refl,
        then-then first _ next,
        then-fails (outside u pa) (outside_code out) _ next (outside-refused out),
        then-fails (too_long u pa size) Inval Ok next refl,
        then-none,
      )

  up-number : (u : Params) →
      number_of
      (fails (is_false (eqb len 4096)) Unk (and_then first (fails (outside u pa) (outside_code out) (fails (too_long u pa size) Inval next))))
      ≡ page_number (Up u) len first out pa size (number_of next)
  unfolding page_number outside too_long
  up-number u =
      rw (
        number-unless (eqb len 4096) Unk _,
        number-then first _,
        number-fails (either (ltb pa (u.base + u.kept)) (leb (u.base + 4096) pa)) (outside_code out) _,
        number-fails (ltb (u.base + 4096 - pa) size) Inval next,
        outside-number out,
        cond_either (ltb pa (u.base + u.kept)) (leb (u.base + 4096) pa) (outside_number out) _,
      )

  -- the number of the checks and of those after them
  pub page-number : (r : Record) →
      number_of (and_then (page_code r len first out pa size) next) ≡ page_number r len first out pa size (number_of next)
  unfolding page_code page_number when_up is_up is_false fails and_then
  page-number Fresh = refl
  page-number Closed = refl
  page-number (Up u) = ap number_of (up-row u) ∙ up-number u

-- a gate of these checks has their number
pub gate-number : (r : Record) (len : ℕ) (first : Code) (out : OutsideAs) (pa size : ℕ) (g : Result ℕ Code) →
    g ≡ gated (page_code r len first out pa size) (place_of (boot_params r) pa) →
    (g ≡ gated (page_code r len first out pa size) (place_of (boot_params r) pa)) × (gate_number g ≡ page_number r len first out pa size (pos 0))
gate-number r len first out pa size g e =
    let k : Code = page_code r len first out pa size in
    let n : gate_number g ≡ number_of k = ap gate_number e ∙ number-gated k (place_of (boot_params r) pa) in
    (e, n ∙ ap number_of (sym (then-last k)) ∙ page-number len first out pa size Ok r)
