-- 0xC40001B4 features (CM6), 0xC40001B6 key update (CM8), 0xC400018F forward an error (CM1). Assumes nothing.
use Rattle.std.specs.Prelude.{ℕ, ◌+◌, ◌-◌, ◌^◌, min, ltb, eqb}
use Rattle.words.specs.Tests.{either}
use Rattle.boot.specs.declared.Params.{Params}
use Rattle.boot.specs.declared.Record.{Record}
use Rattle.codes.specs.Codes.{is_false, fails, boot_params, when_up, if_ok, answer_of}
use Rattle.codes.specs.declared.Code.{Code}
use Rattle.codes.specs.declared.Code.TheVariants.{Ok, Unk, Inval}
use Rattle.codes.specs.declared.Answer.{Answer}
use Rattle.codes.specs.declared.Work.TheVariants.{Nothing, Reprogram}
use Rattle.features.specs.declared.UpdateResult.{UpdateResult}

-- "features: index not 0 INVAL; agreed minor below 4 UNK;" (CM6.2, CM6.3)
unfoldable pub features_code : Params → ℕ → Code
features_code u index = fails (is_false (eqb index 0)) Inval (fails (ltb u.minor 4) Unk Ok)

-- the answer of features: "x1 is 1 (token signing present)." (CM6.4)
unfoldable pub features_by : Code → Answer
features_by k = answer_of k (if_ok k 1 0) 0

-- the features command
unfoldable pub features_of : Record → ℕ → Answer
features_of s index = features_by (when_up s (features_code (boot_params s) index))

-- "key update: mecid above 65,535 or above 2^(m+1) - 1 INVAL, m being MECIDWidthm1 and taken as 15 if larger; m above 15 or minor
-- below 5 UNK;" (CM8.2, CM8.3)
unfoldable pub update_code : Params → ℕ → ℕ → Code
update_code u m mecid =
    fails (either (ltb 65535 mecid) (ltb (2 ^ (min m 15 + 1) - 1) mecid)) Inval
    (fails (either (ltb 15 m) (ltb u.minor 5)) Unk
    Ok)

-- "else the mecid to reprogram" (CM8.4): work for the platform, next to the registers
unfoldable pub update_by : Code → ℕ → UpdateResult
update_by k mecid = record { answer = answer_of k 0 0; work = if_ok k (Reprogram mecid) Nothing }

-- the key update command
unfoldable pub update_of : Record → ℕ → ℕ → UpdateResult
update_of s m mecid = update_by (when_up s (update_code (boot_params s) m mecid)) mecid

-- "forwards err_code (x1) to the Non-secure world; it has no result" (CM1.1): the code forwarded, for any record
unfoldable pub forward_of : Record → ℕ → ℕ
forward_of s x1 = x1
