-- What the functions on realm words return to C: x0 of OK or INVAL, and a lent word. Request E6: "No hit is a named
-- answer" (CE5): it is 1. Words and table that differ also give 1. The lent word is 0 unless x0 is OK. Assumes nothing.
use Rattle.std.specs.Prelude.{ℕ, Bool, true, false, List, [], ◌∷◌, Option, Some, None, Result}
use Rattle.codes.specs.Codes.{x0_of}
use Rattle.codes.specs.declared.Code.{Code}
use Rattle.realm_words.specs.declared.Inval.{Inval}

-- ---- the number of Realm granules: x0 and the lent word
unfoldable pub number_x0 : Result ℕ Inval → ℕ
number_x0 (Result.Err e) = x0_of Code.Inval
number_x0 (Result.Ok n) = x0_of Code.Ok

-- the number, 0 if refused
unfoldable pub number_words : Result ℕ Inval → List ℕ
number_words (Result.Err e) = 0 ∷ []
number_words (Result.Ok n) = n ∷ []

-- ---- the first Realm granule at or after an index: x0 and the lent word
unfoldable pub hit_x0 : Result (Option ℕ) Inval → ℕ
hit_x0 (Result.Err e) = x0_of Code.Inval
hit_x0 (Result.Ok None) = 1
hit_x0 (Result.Ok (Some i)) = x0_of Code.Ok

-- the index, 0 if no granule was found
unfoldable pub hit_words : Result (Option ℕ) Inval → List ℕ
hit_words (Result.Err e) = 0 ∷ []
hit_words (Result.Ok None) = 0 ∷ []
hit_words (Result.Ok (Some i)) = i ∷ []

-- ---- x0 of the comparison of words and table
unfoldable pub agreement_x0 : Result Bool Inval → ℕ
agreement_x0 (Result.Err e) = x0_of Code.Inval
agreement_x0 (Result.Ok false) = 1
agreement_x0 (Result.Ok true) = x0_of Code.Ok

-- ---- x0 of building the words
unfoldable pub built_x0 : Result (Unit {0}) Inval → ℕ
built_x0 (Result.Ok u) = x0_of Code.Ok
built_x0 (Result.Err e) = x0_of Code.Inval
