-- The checks of the lookup of the challenge, by the numbers of RT1. Assumes nothing.
use Prim.Native.Nat.{ℕ}
use mathlib.Core.Path.{◌≡◌, ap, ◌∙◌}
use mathlib.Core.Bool.{false, cond, not}
use lib.Dec.{ltb}
use lib.IntN.{pos}
use Rattle.boot.specs.declared.Record.{Record}
use Rattle.codes.specs.Codes.{minus, number_of, fails}
use Rattle.codes.specs.declared.Code.{Code}
use Rattle.codes.specs.declared.Code.TheVariants.{Ok, Inval}
use Rattle.codes.proofs.Numbers.{number-fails, number-unless}
use Rattle.buffer_check.specs.Range.{page_number}
use Rattle.buffer_check.specs.declared.OutsideAs.TheVariants.{BadAddress}
use Rattle.buffer_check.proofs.Numbers.{page-number}
use Rattle.token_rules.specs.Token.{listed, csize_code, buffer_code, challenge_number}

csize-number : (size c : ℕ) → number_of (csize_code size c) ≡ cond (not (listed c)) (minus 5) (cond (ltb size c) (minus 5) (pos 0))
unfolding csize_code
csize-number size c = rw (number-unless (listed c) Inval _, number-fails (ltb size c) Inval Ok)

buffer-number : (r : Record) (len pa size c : ℕ) → number_of (buffer_code r len false pa size c) ≡ challenge_number r len pa size c
unfolding buffer_code challenge_number fails
buffer-number r len pa size c =
    page-number len Ok BadAddress pa size (csize_code size c) r
    ∙ ap (page_number r len Ok BadAddress pa size) (csize-number size c)

-- the code of the lookup has the number of its checks
pub challenge-number : (r : Record) (len pa size c : ℕ) (k : Code) → k ≡ buffer_code r len false pa size c →
    (k ≡ buffer_code r len false pa size c) × (number_of k ≡ challenge_number r len pa size c)
challenge-number r len pa size c k e = (e, ap number_of e ∙ buffer-number r len pa size c)
