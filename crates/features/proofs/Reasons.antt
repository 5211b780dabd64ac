-- When features and key update give each of their codes. Assumes nothing.
use Prim.Native.Nat.{ℕ, ◌+◌, ◌-◌, ◌^◌, min, ◌<◌}
use mathlib.Core.Path.{◌≡◌, refl}
use mathlib.Core.Logic.{◌⊎◌}
use Rattle.boot.specs.declared.Params.{Params}
use Rattle.boot.specs.declared.Record.{Record}
use Rattle.codes.specs.Codes.{when_up, answer_of}
use Rattle.codes.specs.Reasons.{Gives, Passes, WhileUp}
use Rattle.codes.specs.declared.Code.TheVariants.{Unk, Inval}
use Rattle.codes.proofs.Reasons.{tells-lt, tells-eq, tells-not, tells-either, gives, while-up}
use Rattle.features.specs.Features.{features_code, features_by, features_of, update_code, update_by, update_of}

-- "features: index not 0 INVAL; agreed minor below 4 UNK;"
pub features-codes : (s : Record) (index : ℕ) →
    WhileUp s (λ (u : Params).
    Gives (index ≡ 0 → ⊥) Inval
    (Gives (u.minor < 4) Unk
    Passes))
    (features_of s index).code
unfolding features_of features_by features_code when_up answer_of
features-codes s index =
    while-up s (λ u. features_code u index) _ (λ u e.
    gives _ _ Inval _ _ (tells-not _ _ (tells-eq index 0)) (λ i.
    gives _ _ Unk _ _ (tells-lt u.minor 4) (λ m. refl)))

-- "key update: mecid above 65,535 or above 2^(m+1) - 1 INVAL, m being MECIDWidthm1 and taken as 15 if larger; m above 15 or minor below 5 UNK;"
pub update-codes : (s : Record) (m mecid : ℕ) →
    WhileUp s (λ (u : Params).
    Gives ((65535 < mecid) ⊎ (2 ^ (min m 15 + 1) - 1 < mecid)) Inval
    (Gives ((15 < m) ⊎ (u.minor < 5)) Unk
    Passes))
    (update_of s m mecid).answer.code
unfolding update_of update_by update_code when_up answer_of
update-codes s m mecid =
    while-up s (λ u. update_code u m mecid) _ (λ u e.
    gives _ _ Inval _ _ (tells-either _ _ _ _ (tells-lt 65535 mecid) (tells-lt (2 ^ (min m 15 + 1) - 1) mecid)) (λ i.
    gives _ _ Unk _ _ (tells-either _ _ _ _ (tells-lt 15 m) (tells-lt u.minor 5)) (λ w. refl)))
