-- When the realm key call gives each of its codes. "outside BAD_ADDR; too long INVAL; curve not 0 INVAL; platform key empty or longer
-- than the buffer UNK (house rule)." Assumes nothing.
use Prim.Native.Nat.{ℕ, ◌<◌}
use mathlib.Core.Path.{◌≡◌, refl}
use mathlib.Core.List.{List}
use mathlib.Core.Logic.{◌⊎◌}
use lib.ListN.{length}
use Rattle.boot.specs.declared.Params.{Params}
use Rattle.boot.specs.declared.Record.{Record}
use Rattle.codes.specs.Codes.{answer_of}
use Rattle.codes.specs.Reasons.{Gives, Passes}
use Rattle.codes.specs.declared.Code.{Code}
use Rattle.codes.specs.declared.Code.TheVariants.{Ok, Unk, BadAddr, Inval}
use Rattle.codes.proofs.Reasons.{tells-lt, tells-eq, tells-not, tells-either, gives, then-none}
use Rattle.buffer_check.specs.Range.{outside_code}
use Rattle.buffer_check.specs.Reasons.{PageGives}
use Rattle.buffer_check.specs.declared.OutsideAs.TheVariants.{BadAddress}
use Rattle.buffer_check.proofs.Reasons.{page-gives}
use Rattle.attest.specs.Key.{key_rest, key_code, keyed, realm_key_of}

rest_gives : (size curve : ℕ) (key : List ℕ) → Gives (curve ≡ 0 → ⊥) Inval (Gives ((length key ≡ 0) ⊎ (size < length key)) Unk Passes)
    (key_rest size curve key)
unfolding key_rest
rest_gives size curve key =
    gives _ _ Inval _ _ (tells-not _ _ (tells-eq curve 0)) (λ c.
    gives _ _ Unk _ _ (tells-either _ _ _ _ (tells-eq (length key) 0) (tells-lt size (length key))) (λ k. refl))

pub key-codes : (r : Record) (page key : List ℕ) (pa size curve : ℕ) →
    PageGives r (length page) (λ (after : Code → Type 0). after) BadAddr pa size (λ (u : Params).
    Gives (curve ≡ 0 → ⊥) Inval
    (Gives ((length key ≡ 0) ⊎ (size < length key)) Unk
    Passes))
    (realm_key_of r page key pa size curve).answer.code
unfolding realm_key_of keyed key_code answer_of outside_code
key-codes r page key pa size curve =
    page-gives r (length page) Ok BadAddress pa size (λ u. key_rest size curve key) (λ (after : Code → Type 0). after) _
    (λ after next h. rw (then-none next) h)
    (λ u e w o l. rest_gives size curve key)
