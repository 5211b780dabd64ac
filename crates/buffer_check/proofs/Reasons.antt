-- The checks of a command on the page, as a table of their conditions. Assumes nothing.
use Prim.Native.Nat.{ℕ, ◌+◌, ◌-◌}
use mathlib.Core.Path.{◌≡◌, refl}
use mathlib.Core.Bool.{false}
use lib.Dec.{eqb}
use Rattle.boot.specs.declared.Params.{Params}
use Rattle.boot.specs.declared.Record.{Record}
use Rattle.boot.specs.declared.Record.TheVariants.{Up}
use Rattle.codes.specs.Codes.{is_up, boot_params, is_false, fails, when_up, and_then}
use Rattle.codes.specs.declared.Code.{Code}
use Rattle.codes.specs.declared.Code.TheVariants.{Ok, Unk, BadAddr, Inval}
use Rattle.codes.proofs.Reasons.{Tells, tells-lt, tells-le, tells-eq, tells-not, tells-either, gives, while-up, then-fails, then-then}
use Rattle.codes.proofs.Reasons.{then-none}
use Rattle.buffer_check.specs.Range.{outside, too_long, outside_code, range_code, page_code}
use Rattle.buffer_check.specs.Reasons.{Outside, TooLong, PageGives}
use Rattle.buffer_check.specs.declared.OutsideAs.{OutsideAs}
use Rattle.buffer_check.specs.declared.OutsideAs.TheVariants.{BadAddress, Invalid}
use Rattle.buffer_check.proofs.Ranges.{outside-refused}

-- "realm key: outside BAD_ADDR"; token signing: "outside .. INVAL"
pub outside-named : (outside_code BadAddress ≡ BadAddr) × (outside_code Invalid ≡ Inval)
unfolding outside_code
outside-named = (refl, refl)

tells-outside : (u : Params) (pa : ℕ) → Tells (outside u pa) (Outside u pa)
unfolding outside
tells-outside u pa = tells-either _ _ _ _ (tells-lt pa (u.base + u.kept)) (tells-le (u.base + 4096) pa)

tells-long : (u : Params) (pa size : ℕ) → Tells (too_long u pa size) (TooLong u pa size)
unfolding too_long
tells-long u pa size = tells-lt (u.base + 4096 - pa) size

-- the checks on the page and those after them, as one row
chain : ℕ → Code → OutsideAs → ℕ → ℕ → (Params → Code) → Params → Code
chain len first out pa size rest u =
    fails (is_false (eqb len 4096)) Unk (and_then first (fails (outside u pa) (outside_code out) (fails (too_long u pa size) Inval (rest u))))

page-chain : (r : Record) (len : ℕ) (first : Code) (out : OutsideAs) (pa size : ℕ) (rest : Params → Code) →
    and_then (page_code r len first out pa size) (rest (boot_params r)) ≡ fails (is_false (is_up r)) Unk
    (chain len first out pa size rest (boot_params r))
unfolding page_code when_up range_code chain
page-chain r len first out pa size rest =
    rw (
      then-fails (is_false (is_up r)) Unk _ (rest (boot_params r)) refl,
      then-fails (is_false (eqb len 4096)) Unk _ (rest (boot_params r)) refl,
      then-then first _ (rest (boot_params r)),
      then-fails (outside (boot_params r) pa) (outside_code out) _ (rest (boot_params r)) (outside-refused out),
      then-fails (too_long (boot_params r) pa size) Inval Ok (rest (boot_params r)) refl,
      then-none,
    )

-- `first` has its own lines; the lines below assume a page of 4,096 bytes and a buffer that is neither outside nor too long
module _ (r : Record) (len : ℕ) (first : Code) (out : OutsideAs) (pa size : ℕ) (rest : Params → Code)
    (lines : (Code → Type 0) → Code → Type 0) (below : Params → Code → Type 0)
    (before : (after : Code → Type 0) (next : Code) → after next → lines after (and_then first next))
    (behind : (u : Params) → r ≡ Up u → is_false (eqb len 4096) ≡ false → outside u pa ≡ false → too_long u pa size ≡ false →
    below u (rest u)) where
  pub page-gives : PageGives r len lines (outside_code out) pa size below (and_then (page_code r len first out pa size) (rest (boot_params r)))
  unfolding chain
  page-gives =
      rw (page-chain r len first out pa size rest)
      (while-up r (chain len first out pa size rest) _ (λ u e.
      gives _ _ Unk _ _ (tells-not _ _ (tells-eq len 4096)) (λ w.
      before _ _
      (gives _ _ (outside_code out) _ _ (tells-outside u pa) (λ o.
      gives _ _ Inval _ _ (tells-long u pa size) (λ l.
      behind u e w o l))))))
