-- The number and the word that a function on realm words returns determine its answer: 0 for OK, 1 for the named answer, 2^64 - 5 for
-- INVAL. Any flag except 0 is set. Assumes nothing.
use Prim.Native.Nat.{ℕ, ◌+◌, ◌/◌, ◌^◌, ◌<◌}
use mathlib.Core.Path.{◌≡◌, refl, ◌∙◌}
use mathlib.Core.Bool.{Bool, true, false, cond}
use mathlib.Core.List.{List}
use native.Mathlib.Omega.{arith}
use lib.ListN.{length, get_or}
use lib.Dec.{eqb}
use borrow.Author.Tests.{eq-eqb, ne_eqb, eqb-true, lt-ltb, ltb-true}
use Rattle.words.specs.Tests.{both}
use Rattle.boot.proofs.Reasons.{test-holds, test-fails, line}
use Rattle.codes.specs.Codes.{extended, x0_of, is_false}
use Rattle.codes.specs.Reasons.{Gives}
use Rattle.std.specs.Prelude.{Option, Some, None, Result}
use Rattle.realm_words.specs.declared.Inval.{Inval}
use Rattle.realm_words.specs.Bits.{bit_at, words_for, realm_words}
use Rattle.realm_words.specs.Answers as answers
use Rattle.realm_words.specs.Answers.{words_fit, marked, realm_count_of, realm_next_of, same_words, realm_agree_of, Built, realm_build_of, realm_at}
use Rattle.realm_words.specs.Answers.{realms, FirstAt, NoneFrom, WordsAgree}
use Rattle.realm_words.proofs.Agreeing.{same-is, is_same}
use Rattle.realm_words.proofs.Facts.{words-agree, agree-words}
use Rattle.realm_words.proofs.Laws.{count-agrees}
use Rattle.realm_words.proofs.Packing.{bit-agrees, words-length}
use Rattle.realm_words.proofs.Next.{next-first, next-none, next-inval, next-is, next-nothing}
use Rattle.images.specs.Image.{is_set}
use Rattle.images.specs.Realm.{number_x0, number_words, hit_x0, hit_words, agreement_x0, built_x0}

abbrev inval : ℕ
inval = 0xFFFF_FFFF_FFFF_FFFB

-- ---- the answer for a number and a word
abbrev pub number_read : ℕ → List ℕ → Result ℕ Inval
number_read x0 w = cond (eqb x0 0) (Result.Ok (get_or w 0 0)) (Result.Err answers.inval)

pub number-told : (n : Result ℕ Inval) → number_read (number_x0 n) (number_words n) ≡ n
unfolding number_x0 number_words x0_of extended
number-told (Result.Ok n) = refl
number-told (Result.Err e) = refl

abbrev pub hit_read : ℕ → List ℕ → Result (Option ℕ) Inval
hit_read x0 w = cond (eqb x0 0) (Result.Ok (Some (get_or w 0 0))) (cond (eqb x0 1) (Result.Ok None) (Result.Err answers.inval))

pub hit-told : (h : Result (Option ℕ) Inval) → hit_read (hit_x0 h) (hit_words h) ≡ h
unfolding hit_x0 hit_words x0_of extended
hit-told (Result.Ok (Some i)) = refl
hit-told (Result.Ok None) = refl
hit-told (Result.Err e) = refl

-- ---- the numbers
pub number-x0 : (n : ℕ) → (number_x0 (Result.Ok n) ≡ 0) × (number_x0 (Result.Err answers.inval) ≡ inval)
unfolding number_x0 x0_of extended
number-x0 n = (refl, refl)

pub hit-x0 : (i : ℕ) → (hit_x0 (Result.Ok (Some i)) ≡ 0) × (hit_x0 (Result.Ok None) ≡ 1) × (hit_x0 (Result.Err answers.inval) ≡ inval)
unfolding hit_x0 x0_of extended
hit-x0 i = (refl, refl, refl)

pub agreement-x0 : (agreement_x0 (Result.Ok true) ≡ 0) × (agreement_x0 (Result.Ok false) ≡ 1) × (agreement_x0 (Result.Err answers.inval) ≡ inval)
unfolding agreement_x0 x0_of extended
agreement-x0 = (refl, refl, refl)

pub built-x0 : (built_x0 (Result.Ok tt) ≡ 0) × (built_x0 (Result.Err answers.inval) ≡ inval)
unfolding built_x0 x0_of extended
built-x0 = (refl, refl)

-- ---- when each number is given. Request E6: "INVAL, before all other checks of any call on words, .. if their number is not the record's
-- granules
-- over 64, rounded up .. then INVAL for an index not below the granules, or a table of another length in agreement or build. No hit is a
-- named answer."
abbrev Fitting : List ℕ → ℕ → Type 0
Fitting ws n = length ws ≡ (n + 63) / 64

through : {A : Type 0} (f : A → ℕ) (b : Bool) (x y : A) → f (cond b x y) ≡ cond b (f x) (f y)
through f true x y = refl
through f false x y = refl

through-both : {A : Type 0} (f : A → ℕ) (a b : Bool) (x y : A) → f (cond (both a b) x y) ≡ cond a (cond b (f x) (f y)) (f y)
unfolding both
through-both f true true x y = refl
through-both f true false x y = refl
through-both f false b x y = refl

-- an equality test, and when it fails
unequal : (a b c next : ℕ) (below : ℕ → Type 0) → (a ≡ b → below next) → Gives (a ≡ b → ⊥) c below (cond (eqb a b) next c)
unequal a b c next below h =
    line (eqb a b) _ c next below (λ n. ne_eqb a b n) (test-holds _ _ (λ e. eq-eqb a b e)) (λ y. h (eqb-true a b y))

agreed : (s : Bool) → agreement_x0 (Result.Ok s) ≡ cond s 0 1
unfolding agreement_x0 x0_of extended
agreed true = refl
agreed false = refl

pub count-codes : (ws : List ℕ) (n : ℕ) → Gives (Fitting ws n → ⊥) inval (λ k. k ≡ 0) (number_x0 (realm_count_of ws n))
unfolding realm_count_of words_for number_x0 x0_of extended
count-codes ws n =
    rw (through number_x0 (words_fit ws n) (Result.Ok (marked (bit_at ws) n)) (Result.Err answers.inval))
    (unequal (length ws) ((n + 63) / 64) inval 0 _ (λ e. refl))

pub next-codes : (ws : List ℕ) (n i : ℕ) →
    Gives (Fitting ws n → ⊥) inval
    (Gives (i < n → ⊥) inval
    (Gives (NoneFrom (bit_at ws) n i) 1
    (λ k. k ≡ 0)))
    (hit_x0 (realm_next_of ws n i))
unfolding hit_x0 x0_of extended
next-codes ws n i = go (realm_next_of ws n i) refl
  where
    sure : (a b : ℕ) → ((a ≡ b → ⊥) → ⊥) → a ≡ b
    sure a b h = eqb-true a b (test-holds _ _ (λ e. eq-eqb a b e) h)

    below : (a b : ℕ) → ((a < b → ⊥) → ⊥) → a < b
    below a b h = ltb-true a b (test-holds _ _ (λ l. lt-ltb a b l) h)

    go : (h : Result (Option ℕ) Inval) → realm_next_of ws n i ≡ h → Gives (Fitting ws n → ⊥) inval
        (Gives (i < n → ⊥) inval (Gives (NoneFrom (bit_at ws) n i) 1 (λ k. k ≡ 0))) (hit_x0 h)
    go (Result.Ok (Some j)) e =
        let f = next-first ws n i j e in
        record {
          where-it-holds = λ x. absurd (x f.0.0);
          elsewhere = λ x.
              record {
                where-it-holds = λ y. absurd (y f.0.1);
                elsewhere = λ y.
                    record { where-it-holds = λ z. absurd (z j f.1.from f.1.below f.1.marks); elsewhere = λ z. refl };
              };
        }
    go (Result.Ok None) e =
        let f = next-none ws n i e in
        record {
          where-it-holds = λ x. absurd (x f.0.0);
          elsewhere = λ x.
              record {
                where-it-holds = λ y. absurd (y f.0.1);
                elsewhere = λ y.
                    record { where-it-holds = λ z. refl; elsewhere = λ z. absurd (z f.1) };
              };
        }
    go (Result.Err x) e =
        record {
          where-it-holds = λ z. refl;
          elsewhere = λ z.
              record { where-it-holds = λ y. refl; elsewhere = λ y. absurd (next-inval ws n i e (sure _ _ z, below _ _ y)) };
        }

-- for 64-bit words
pub agree-codes : (t ws : List ℕ) (n : ℕ) → ((k : ℕ) → get_or ws k 0 < 2 ^ 64) →
    Gives (Fitting ws n → ⊥) inval
    (Gives (length t ≡ n → ⊥) inval
    (Gives (WordsAgree t ws → ⊥) 1
    (λ k. k ≡ 0)))
    (agreement_x0 (realm_agree_of t ws n))
unfolding realm_agree_of words_for agreement_x0 x0_of extended
agree-codes t ws n small =
    rw (through-both agreement_x0 (words_fit ws n) (eqb (length t) n)
    (Result.Ok (same_words ws (realm_words t))) (Result.Err answers.inval))
    (unequal (length ws) ((n + 63) / 64) inval _ _ (λ l.
    unequal (length t) n inval _ _ (λ m.
    rw (agreed (same_words ws (realm_words t)))
    (line (same_words ws (realm_words t)) _ 1 0 _ (test-fails _ _ (λ y. rw (same-is ws (realm_words t) y) (words-agree t)))
    (test-holds _ _ (λ a. let e : ws ≡ realm_words t = agree-words t ws (l ∙ rw (← m)) small a in rw (← e) (is_same ws)))
    (λ y. refl)))))

pub build-codes : (t ws : List ℕ) (n : ℕ) →
    Gives (Fitting ws n → ⊥) inval
    (Gives (length t ≡ n → ⊥) inval
    (λ k. k ≡ 0))
    (built_x0 (realm_build_of t ws n).done)
unfolding realm_build_of words_for built_x0 x0_of extended
build-codes t ws n =
    rw (through-both (λ (b : Built). built_x0 b.done) (words_fit ws n) (eqb (length t) n) (record { done = Result.Ok tt; words = realm_words t })
    (record { done = Result.Err answers.inval; words = ws }))
    (unequal (length ws) ((n + 63) / 64) inval _ _ (λ l.
    unequal (length t) n inval 0 _ (λ m. refl)))

-- ---- if words and table agree, the caller gets the number of Realm bytes in the table, and the index of the first at or after i
pub count-read : (t : List ℕ) → (number_x0 (realm_count_of (realm_words t) (length t)) ≡ 0) ×
    (get_or (number_words (realm_count_of (realm_words t) (length t))) 0 0 ≡ realms t)
unfolding number_x0 number_words x0_of extended
count-read t = rw (count-agrees t) (refl, refl)

pub next-read : (t : List ℕ) (i j : ℕ) → i < length t → FirstAt (realm_at t) (length t) i j →
    (hit_x0 (realm_next_of (realm_words t) (length t) i) ≡ 0) × (get_or (hit_words (realm_next_of (realm_words t) (length t) i)) 0 0 ≡ j)
unfolding hit_x0 hit_words x0_of extended words_for
next-read t i j l f =
    let g : FirstAt (bit_at (realm_words t)) (length t) i j =
    record {
      from = f.from;
      below = f.below;
      marks = rw (bit-agrees t j f.below) f.marks;
      before = λ m a b c. f.before m a b (rw (bit-agrees t m (omega (arith, f.below))) at c);
    } in
    rw (next-is (realm_words t) (length t) i j (words-length (words_for (length t)) t, l) g) (refl, refl)

-- and 1 if the table has no Realm byte at or after i
pub none_read : (t : List ℕ) (i : ℕ) → i < length t → NoneFrom (realm_at t) (length t) i →
    hit_x0 (realm_next_of (realm_words t) (length t) i) ≡ 1
unfolding hit_x0 words_for
none_read t i l f =
    rw (next-nothing (realm_words t) (length t) i (words-length (words_for (length t)) t, l)
    (λ m a b c. f m a b (rw (bit-agrees t m b) at c)))

-- ---- a flag
pub flag-set : (n : ℕ) → (n ≡ 0 → ⊥) → is_set n ≡ true
unfolding is_set is_false
flag-set n h = rw (ne_eqb n 0 h)

pub flag-clear : is_set 0 ≡ false
unfolding is_set is_false
flag-clear = refl
