-- Request E6: "If words and table agree the answers equal those of the full walk"; writing a granule's byte and bit together keeps
-- agreement; "a build call sets it up". Words and table agree if the words are `realm_words` of the table. Assumes nothing.
use Prim.Native.Nat.{ℕ, zero, suc, ◌+◌, ◌-◌, ◌*◌, ◌/◌, ◌%◌, ◌^◌, ◌<◌}
use mathlib.Core.Path.{◌≡◌, refl, sym, ap, ◌∙◌}
use mathlib.Core.Bool.{Bool, true, false, cond}
use mathlib.Core.List.{List, [], ◌∷◌}
use native.Mathlib.Omega.{arith}
use native.Mathlib.Nat.{not-suc-le-zero}
use native.Mathlib.Decide.{dec_lt, ℕ_discrete}
use lib.ListN.{length, get_or, set, take, drop, length-take, length-drop, length-set}
use lib.Seq.{get_or-set_same, get_or-set_other, set_out, take-set-lt, take-set-le, drop-set-lt, drop-set-add}
use borrow.Author.Tests.{lt-ltb, eq-eqb}
use Rattle.words.specs.Tests.{both, Yes}
use Rattle.words.proofs.Tests.{both_of}
use Rattle.std.specs.Prelude.{Result}
use Rattle.realm_words.specs.declared.Inval.{Inval}
use Rattle.realm_words.specs.Bits.{bit_of, bit_at, with_bit, put_bit, realm_bit, packed, packed_to, words_for, realm_words}
use Rattle.realm_words.specs.Answers.{inval, both_fit, same_words, marked, first_marked, realm_count_of, realm_next_of, realm_agree_of, realm_build_of}
use Rattle.realm_words.specs.Answers.{realm_at, realms, next_realm}
use Rattle.realm_words.proofs.Bits.{bit-same, bit-other, with-zero, with-suc}
use Rattle.realm_words.proofs.Packing.{realm-le, bit-agrees, words-length}
use Rattle.realm_words.proofs.Agreeing.{fits, same-is, is_same}

-- ---- the same marks give the same answers
marked-same : (f g : ℕ → ℕ) (n : ℕ) → ((i : ℕ) → i < n → f i ≡ g i) → marked f n ≡ marked g n
unfolding marked
marked-same f g zero h = refl
marked-same f g (suc n) h = rw (marked-same f g n (λ i l. h i (omega arith)), h n (omega arith))

first-same : (f g : ℕ → ℕ) (k i : ℕ) → ((j : ℕ) → j < i + k → f j ≡ g j) → first_marked f k i ≡ first_marked g k i
unfolding first_marked
first-same f g zero i h = refl
first-same f g (suc k) i h = rw (h i (omega arith), first-same f g k (suc i) (λ j l. h j (omega arith)))

marked-front : (f : ℕ → ℕ) (n : ℕ) → marked f (suc n) ≡ f 0 + marked (λ i. f (suc i)) n
unfolding marked
marked-front f zero = omega arith
marked-front f (suc n) = omega (arith, marked-front f n)

marked-realms : (t : List ℕ) → marked (realm_at t) (length t) ≡ realms t
unfolding realms marked
marked-realms [] = refl
marked-realms (b ∷ t) = marked-front (realm_at (b ∷ t)) (length t) ∙ rw (marked-realms t)

-- ---- "If words and table agree the answers equal those of the full walk"
pub count-agrees : (t : List ℕ) → realm_count_of (realm_words t) (length t) ≡ Result.Ok (realms t)
unfolding realm_count_of
count-agrees t =
    rw (eq-eqb (length (realm_words t)) (words_for (length t)) (words-length (words_for (length t)) t))
    (ap Result.Ok (marked-same (bit_at (realm_words t)) (realm_at t) (length t) (bit-agrees t) ∙ marked-realms t))

pub next-agrees : (t : List ℕ) (i : ℕ) → i < length t → realm_next_of (realm_words t) (length t) i ≡ Result.Ok (next_realm t i)
unfolding realm_next_of both
next-agrees t i h =
    rw (eq-eqb (length (realm_words t)) (words_for (length t)) (words-length (words_for (length t)) t), lt-ltb i (length t) h)
    (ap Result.Ok (first-same (bit_at (realm_words t)) (realm_at t) (length t - i) i (λ j l. bit-agrees t j (omega arith))))

-- ---- "write their granule's bit too and no other", for any words before
pub realm-lt : (b : ℕ) → realm_bit b < 2
realm-lt b = omega (arith, realm-le b)

pub put-length : (ws : List ℕ) (i v : ℕ) → length (put_bit ws i v) ≡ length ws
unfolding put_bit
put-length ws i v = length-set ws (i / 64) _

pub put_same : (ws : List ℕ) (i v : ℕ) → i / 64 < length ws → v < 2 → bit_at (put_bit ws i v) i ≡ v
unfolding put_bit
put_same ws i v h l =
    rw (get_or-set_same ws (i / 64) (with_bit (get_or ws (i / 64) 0) (i % 64) v) 0 h) (bit-same (get_or ws (i / 64) 0) (i % 64) v l)

pub put_other : (ws : List ℕ) (i j v : ℕ) → v < 2 → (j ≡ i → ⊥) → bit_at (put_bit ws i v) j ≡ bit_at ws j
unfolding put_bit
put_other ws i j v l n = go (ℕ_discrete (j / 64) (i / 64)) (dec_lt (i / 64) (length ws))
  where
    go : Dec (j / 64 ≡ i / 64) → Dec (i / 64 < length ws) →
        bit_of (get_or (set ws (i / 64) (with_bit (get_or ws (i / 64) 0) (i % 64) v)) (j / 64) 0) (j % 64) ≡ bit_of (get_or ws (j / 64) 0) (j % 64)
    go (no d) b = rw (get_or-set_other ws (i / 64) (j / 64) (with_bit (get_or ws (i / 64) 0) (i % 64) v) 0 d)
    go (yes e) (no b) = rw (set_out ws (i / 64) (with_bit (get_or ws (i / 64) 0) (i % 64) v) (omega arith))
    go (yes e) (yes b) =
        rw (e, get_or-set_same ws (i / 64) (with_bit (get_or ws (i / 64) 0) (i % 64) v) 0 b)
        (bit-other (get_or ws (i / 64) 0) (i % 64) (j % 64) v l (λ z. n (let q : j ≡ i = omega arith in q)))

-- ---- writing a granule's byte and its bit together keeps agreement, also of the spare bits
packed-put : (t : List ℕ) (i v : ℕ) → i < length t → with_bit (packed t) i (realm_bit v) ≡ packed (set t i v)
unfolding packed
packed-put [] i v h = absurd (not-suc-le-zero h)
packed-put (b ∷ t) zero v h = rw with-zero (omega (arith, realm-le b))
packed-put (b ∷ t) (suc i) v h =
    let e : (realm_bit b + 2 * packed t) / 2 ≡ packed t = omega (arith, realm-le b) in
    let m : (realm_bit b + 2 * packed t) % 2 ≡ realm_bit b = omega (arith, realm-le b) in
    rw (with-suc, e, m, packed-put t i v (omega arith)) (omega arith)

to-put : (n : ℕ) (t : List ℕ) (i v : ℕ) → i < length t → i < 64 * n → packed_to n (set t i v) ≡ put_bit (packed_to n t) i (realm_bit v)
unfolding packed_to put_bit
to-put zero t i v h l = absurd (not-suc-le-zero l)
to-put (suc n) t i v h l = go (dec_lt i 64) (to-put n (drop 64 t) (i - 64) v)
  where
    go : Dec (i < 64) → (i - 64 < length (drop 64 t) → i - 64 < 64 * n →
        packed_to n (set (drop 64 t) (i - 64) v) ≡ put_bit (packed_to n (drop 64 t)) (i - 64) (realm_bit v))
        → packed (take 64 (set t i v)) ∷ packed_to n (drop 64 (set t i v)) ≡ put_bit (packed (take 64 t) ∷ packed_to n (drop 64 t)) i
        (realm_bit v)
    go (yes a) ih =
        let q : i / 64 ≡ 0 = omega arith in
        let m : i % 64 ≡ i = omega arith in
        let r : i < length (take 64 t) = rw length-take (omega arith) in
        rw (take-set-lt 64 t i v a, drop-set-lt 64 t i v a, q, m)
        (ap (λ x. x ∷ packed_to n (drop 64 t)) (sym (packed-put (take 64 t) i v r)))
    go (no a) ih =
        let e : i ≡ 64 + (i - 64) = omega arith in
        let q : i / 64 ≡ suc ((i - 64) / 64) = omega arith in
        let m : i % 64 ≡ (i - 64) % 64 = omega arith in
        let s : drop 64 (set t i v) ≡ set (drop 64 t) (i - 64) v = ap (λ j. drop 64 (set t j v)) e ∙ drop-set-add 64 t (i - 64) v in
        rw (take-set-le 64 t i v (omega arith), s, q, m) (ap (λ x. packed (take 64 t) ∷ x)
        (ih (rw length-drop (omega arith)) (omega arith)))

pub words-put : (t : List ℕ) (i v : ℕ) → i < length t → realm_words (set t i v) ≡ put_bit (realm_words t) i (realm_bit v)
unfolding words_for
words-put t i v h = rw length-set (to-put ((length t + 63) / 64) t i v h (omega arith))

-- ---- "agreement, spare bits zero too, can be asked for, and a build call sets it up"
fit-both : (t ws : List ℕ) → length ws ≡ words_for (length t) → Yes (both_fit t ws (length t))
fit-both t ws e = both_of _ _ (eq-eqb (length ws) (words_for (length t)) e) (eq-eqb (length t) (length t) refl)

-- words that agree with their table get true
pub agree-yes : (t : List ℕ) → realm_agree_of t (realm_words t) (length t) ≡ Result.Ok true
unfolding realm_agree_of
agree-yes t = rw (fit-both t (realm_words t) (words-length (words_for (length t)) t), is_same (realm_words t))

-- no other words get true
pub agree-told : (t ws : List ℕ) (n : ℕ) → realm_agree_of t ws n ≡ Result.Ok true → ws ≡ realm_words t
unfolding realm_agree_of
agree-told t ws n = go (both_fit t ws n)
  where
    go : (b : Bool) → cond {A = Result Bool Inval} b (Result.Ok (same_words ws (realm_words t))) (Result.Err inval) ≡ Result.Ok true →
        ws ≡ realm_words t
    go true h = let e : same_words ws (realm_words t) ≡ true = cc in same-is ws (realm_words t) e
    go false h = let z : ◌≡◌ {A = ℕ} 0 1 = cc in absurd (omega arith)

-- a table of another length does not get true
pub agree-sized : (t ws : List ℕ) (n : ℕ) → realm_agree_of t ws n ≡ Result.Ok true → length t ≡ n
unfolding realm_agree_of
agree-sized t ws n = go (both_fit t ws n) refl
  where
    go : (b : Bool) → both_fit t ws n ≡ b →
        cond {A = Result Bool Inval} b (Result.Ok (same_words ws (realm_words t))) (Result.Err inval) ≡ Result.Ok true → length t ≡ n
    go true e h = (fits t ws n e).table-fit
    go false e h = let z : ◌≡◌ {A = ℕ} 0 1 = cc in absurd (omega arith)

-- a build makes words and table agree, for any words before
pub build-agrees : (t ws : List ℕ) → length ws ≡ words_for (length t) →
    realm_build_of t ws (length t) ≡ record { done = Result.Ok tt; words = realm_words t }
unfolding realm_build_of
build-agrees t ws e = rw (fit-both t ws e)

-- and changes nothing if they agree before
pub build-stays : (t : List ℕ) → realm_build_of t (realm_words t) (length t) ≡ record { done = Result.Ok tt; words = realm_words t }
build-stays t = build-agrees t (realm_words t) (words-length (words_for (length t)) t)

-- "Set spare bits are not counted or hit.": words that have the same bits for the granules get the same answers for any spare bits
module _ (ws vs : List ℕ) (n : ℕ) (l : length ws ≡ length vs)
    (same : (i : ℕ) → i < n → get_or ws (i / 64) 0 / 2 ^ (i % 64) % 2 ≡ get_or vs (i / 64) 0 / 2 ^ (i % 64) % 2) where
  pub count-spare : realm_count_of ws n ≡ realm_count_of vs n
  unfolding realm_count_of bit_of
  count-spare = rw (l, marked-same (bit_at ws) (bit_at vs) n same)
