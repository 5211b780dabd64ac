-- The code of each answer is that of the first check that fails. Assumes nothing.
use Prim.Native.Nat.{ℕ, ◌-◌}
use mathlib.Core.Path.{◌≡◌, refl, ap, ◌∙◌}
use mathlib.Core.Bool.{Bool, true, false, cond}
use mathlib.Core.List.{List}
use lib.ListN.{length}
use lib.Dec.{ltb, eqb}
use Rattle.words.specs.Tests.{both}
use Rattle.codes.specs.Codes.{is_false, fails}
use Rattle.codes.specs.declared.Code.{Code}
use Rattle.std.specs.Prelude.{Option, Result}
use Rattle.realm_words.specs.declared.Inval.{Inval}
use Rattle.realm_words.specs.Bits.{bit_at, realm_words}
use Rattle.realm_words.specs.Answers.{code_of, inval, words_fit, words_code, index_code, table_code, marked}
use Rattle.realm_words.specs.Answers.{first_marked, same_words, realm_count_of, realm_next_of, realm_agree_of, Built, realm_build_of}

pub count-told : (ws : List ℕ) (n : ℕ) (r : Result ℕ Inval) → r ≡ realm_count_of ws n →
    (r ≡ realm_count_of ws n) × (code_of r ≡ words_code ws n)
unfolding realm_count_of words_code is_false fails
count-told ws n r e = (e, ap (λ (x : Result ℕ Inval). code_of x) e ∙ go (words_fit ws n))
  where
    go : (b : Bool) → code_of (cond {A = Result ℕ Inval} b (Result.Ok (marked (bit_at ws) n)) (Result.Err inval)) ≡
        fails (is_false b) Code.Inval Code.Ok
    go true = refl
    go false = refl

pub next-told : (ws : List ℕ) (n i : ℕ) (r : Result (Option ℕ) Inval) → r ≡ realm_next_of ws n i →
    (r ≡ realm_next_of ws n i) × (code_of r ≡ index_code ws n i)
unfolding realm_next_of index_code is_false fails both
next-told ws n i r e = (e, ap (λ (x : Result (Option ℕ) Inval). code_of x) e ∙ go (words_fit ws n) (ltb i n))
  where
    go : (b d : Bool) → code_of (cond {A = Result (Option ℕ) Inval} (both b d) (Result.Ok (first_marked (bit_at ws) (n - i) i))
        (Result.Err inval)) ≡ fails (is_false b) Code.Inval (fails (is_false d) Code.Inval Code.Ok)
    go true true = refl
    go true false = refl
    go false d = refl

pub agree-code : (t ws : List ℕ) (n : ℕ) (r : Result Bool Inval) → r ≡ realm_agree_of t ws n →
    (r ≡ realm_agree_of t ws n) × (code_of r ≡ table_code t ws n)
unfolding realm_agree_of table_code is_false fails both
agree-code t ws n r e = (e, ap (λ (x : Result Bool Inval). code_of x) e ∙ go (words_fit ws n) (eqb (length t) n))
  where
    go : (b d : Bool) → code_of (cond {A = Result Bool Inval} (both b d) (Result.Ok (same_words ws (realm_words t)))
        (Result.Err inval)) ≡ fails (is_false b) Code.Inval (fails (is_false d) Code.Inval Code.Ok)
    go true true = refl
    go true false = refl
    go false d = refl

pub build-code : (t ws : List ℕ) (n : ℕ) (r : Built) → r ≡ realm_build_of t ws n →
    (r ≡ realm_build_of t ws n) × (code_of r.done ≡ table_code t ws n)
unfolding realm_build_of table_code is_false fails both
build-code t ws n r e = (e, ap (λ (x : Built). code_of x.done) e ∙ go (words_fit ws n) (eqb (length t) n))
  where
    go : (b d : Bool) → code_of (cond {A = Built} (both b d) (record { done = Result.Ok tt; words = realm_words t })
        (record { done = Result.Err inval; words = ws })).done ≡ fails (is_false b) Code.Inval (fails (is_false d) Code.Inval Code.Ok)
    go true true = refl
    go true false = refl
    go false d = refl
