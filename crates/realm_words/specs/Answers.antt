-- The answers from the words, for n granules (RW5 to RW9). Assumes nothing.
use Rattle.std.specs.Prelude.{ℕ, zero, suc, ◌+◌, ◌-◌, ◌*◌, ◌/◌, ◌%◌, ◌^◌, ◌≤◌, ◌<◌, ◌≡◌, Bool, true, false, cond, List, [], ◌∷◌, length, get_or, ltb, eqb, Option, Some, None, Result}
use Rattle.words.specs.Tests.{both}
use Rattle.codes.specs.Codes.{is_false, fails}
use Rattle.codes.specs.declared.Code.{Code}
use Rattle.realm_words.specs.Bits.{bit_at, realm_bit, words_for, realm_words}
use Rattle.realm_words.specs.declared.Inval.{Inval}

-- ---- the code of each answer: "INVAL -5" (RT1) for a refusal, otherwise OK. "No hit is a named answer." (RW6) and "no agreement" are OK
abbrev pub code_of : {A : Type 0} → Result A Inval → Code
code_of (Result.Ok x) = Code.Ok
code_of (Result.Err e) = Code.Inval

-- the refusal
abbrev pub inval : Inval
inval = record {}

-- ---- the refusals
-- Request E6: "INVAL, before all other checks of any call on words, .. if their number is not the record's granules over 64, rounded up"
-- (RW5)
abbrev pub words_fit : List ℕ → ℕ → Bool
words_fit ws n = eqb (length ws) (words_for n)

-- "then INVAL for .. a table of another length in agreement or build" (RW6)
abbrev pub both_fit : List ℕ → List ℕ → ℕ → Bool
both_fit t ws n = both (words_fit ws n) (eqb (length t) n)

-- ---- the refusals as checks, in the order of RW5 and RW6
-- of a count
unfoldable pub words_code : List ℕ → ℕ → Code
words_code ws n = fails (is_false (words_fit ws n)) Code.Inval Code.Ok

-- of a search
unfoldable pub index_code : List ℕ → (n i : ℕ) → Code
index_code ws n i = fails (is_false (words_fit ws n)) Code.Inval (fails (is_false (ltb i n)) Code.Inval Code.Ok)

-- of an agreement or a build
unfoldable pub table_code : (t ws : List ℕ) → ℕ → Code
table_code t ws n = fails (is_false (words_fit ws n)) Code.Inval (fails (is_false (eqb (length t) n)) Code.Inval Code.Ok)

-- ---- "The number of Realm granules, and the first one at or after an index, are answered from the words alone" (RW7)
-- the number of i in [0, n) with f i = 1; f is 1 or 0
unfoldable pub marked : (ℕ → ℕ) → ℕ → ℕ
marked f zero = 0
marked f (suc n) = marked f n + f n

-- the first marked number of [i, i + k). "No hit is a named answer." (RW6)
unfoldable pub first_marked : (ℕ → ℕ) → ℕ → ℕ → Option ℕ
first_marked f zero i = None
first_marked f (suc k) i = cond (eqb (f i) 1) (Some i) (first_marked f k (suc i))

-- "Set spare bits are not counted or hit." (RW7): only the bits of the n granules are read
unfoldable pub realm_count_of : List ℕ → ℕ → Result ℕ Inval
realm_count_of ws n = cond (words_fit ws n) (Result.Ok (marked (bit_at ws) n)) (Result.Err inval)

-- "then INVAL for an index not below the granules" (RW6)
unfoldable pub realm_next_of : List ℕ → ℕ → ℕ → Result (Option ℕ) Inval
realm_next_of ws n i = cond (both (words_fit ws n) (ltb i n)) (Result.Ok (first_marked (bit_at ws) (n - i) i)) (Result.Err inval)

-- ---- "agreement, spare bits zero too, can be asked for, and a build call sets it up" (RW6)
-- whether two lists of words are equal
unfoldable pub same_words : List ℕ → List ℕ → Bool
same_words [] [] = true
same_words [] (y ∷ ys) = false
same_words (x ∷ xs) [] = false
same_words (x ∷ xs) (y ∷ ys) = both (eqb x y) (same_words xs ys)

-- whether words and table agree (RW6)
unfoldable pub realm_agree_of : List ℕ → List ℕ → ℕ → Result Bool Inval
realm_agree_of t ws n = cond (both_fit t ws n) (Result.Ok (same_words ws (realm_words t))) (Result.Err inval)

-- the result of a build, and the words at exit
pub record Built : Type 0 where
  pub done : Result (Unit {0}) Inval
  pub words : List ℕ

-- the build call (RW6)
unfoldable pub realm_build_of : List ℕ → List ℕ → ℕ → Built
realm_build_of t ws n =
    cond (both_fit t ws n) (record { done = Result.Ok tt; words = realm_words t }) (record { done = Result.Err inval; words = ws })

-- ---- "the full walk" (RW8) over the table
-- 1 if granule i is Realm, otherwise 0
abbrev pub realm_at : List ℕ → ℕ → ℕ
realm_at t i = realm_bit (get_or t i 0)

-- the number of Realm bytes of a table
unfoldable pub realms : List ℕ → ℕ
realms [] = 0
realms (b ∷ t) = realm_bit b + realms t

-- the first Realm byte of a table at or after i
abbrev pub next_realm : List ℕ → ℕ → Option ℕ
next_realm t i = first_marked (realm_at t) (length t - i) i

-- ---- for the theorems, in plain facts
-- of n granules, j is the first at or after i that f marks
pub record FirstAt (f : ℕ → ℕ) (n i j : ℕ) : Type 0 where
  pub from : i ≤ j
  pub below : j < n
  pub marks : f j ≡ 1
  pub before : (m : ℕ) → i ≤ m → m < j → f m ≡ 1 → ⊥

-- of n granules, f marks no granule at or after i
abbrev pub NoneFrom : (ℕ → ℕ) → ℕ → ℕ → Type 0
NoneFrom f n i = (m : ℕ) → i ≤ m → m < n → f m ≡ 1 → ⊥

-- "granule i as bit i mod 64 of word i / 64, set where the byte is Realm, spare bits zero" (RW1): words and table agree. There is no Realm
-- byte past the table.
abbrev pub WordsAgree : List ℕ → List ℕ → Type 0
WordsAgree t ws = (i : ℕ) → i < 64 * length ws →
    (get_or t i 0 ≡ 1 → get_or ws (i / 64) 0 / 2 ^ (i % 64) % 2 ≡ 1) × ((get_or t i 0 ≡ 1 → ⊥) → get_or ws (i / 64) 0 / 2 ^ (i % 64) % 2 ≡ 0)
