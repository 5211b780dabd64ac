use mathlib.Core.Path.{sym}
use Rattle.codes.proofs.Gates.{stood, went}
use Rattle.token_rules.proofs.Numbers.{challenge-number}
use Rattle.token.proofs.challenge_code.Goals as goal

pub returns-in-Err : goal.returns-in-Err
returns-in-Err c =
    let told = challenge-number _ _ _ _ _ _ (sym (stood _ _ _ (sym c.in-Err.ensures)).0) in record { value = told.0; result_value = told.1 }

pub returns-in-Ok : goal.returns-in-Ok
returns-in-Ok c = let told = challenge-number _ _ _ _ _ _ (sym (went _ _ _ (sym c.in-Ok.ensures)).0) in record { value = told.0; result_value = told.1 }
