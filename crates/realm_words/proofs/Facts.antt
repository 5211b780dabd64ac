-- Request E6: words and table agree, in plain facts: "granule i as bit i mod 64 of word i / 64, set where the byte is Realm, spare bits
-- zero". Assumes nothing.
use Prim.Native.Nat.{ℕ, zero, suc, ◌+◌, ◌*◌, ◌/◌, ◌%◌, ◌^◌, ◌≤◌, ◌<◌}
use mathlib.Core.Path.{◌≡◌, sym, ◌∙◌}
use mathlib.Core.List.{List}
use native.Mathlib.Omega.{arith}
use native.Mathlib.Nat.{pow-suc}
use native.Mathlib.Decide.{ℕ_discrete}
use lib.ListN.{length, get_or, take, drop, length-take}
use lib.Seq.{ext_get_or}
use lib.Pow.{pow_mono}
use borrow.Author.Tests.{ne_eqb}
use Rattle.realm_words.specs.Bits.{bit_of, bit_at, realm_bit, words_for, realm_words}
use Rattle.realm_words.specs.Answers.{WordsAgree}
use Rattle.realm_words.proofs.Bits.{bit-zero, bit-suc}
use Rattle.realm_words.proofs.Packing.{packed_lt, words-length, words-at, bit-any}

-- ---- a word is determined by its bits
word_same : (n w v : ℕ) → w < 2 ^ n → v < 2 ^ n → ((k : ℕ) → k < n → bit_of w k ≡ bit_of v k) → w ≡ v
word_same zero w v a b h = omega arith
word_same (suc n) w v a b h =
    let p = pow-suc 2 n in
    let i : w / 2 ≡ v / 2 = word_same n (w / 2) (v / 2) (omega arith) (omega arith)
    (λ k l. sym (bit-suc w k) ∙ h (suc k) (omega arith) ∙ bit-suc v k) in
    let z : w % 2 ≡ v % 2 = sym (bit-zero w) ∙ h 0 (omega arith) ∙ bit-zero v in
    omega arith

-- ---- the bit of a byte
realm-yes : (b : ℕ) → b ≡ 1 → realm_bit b ≡ 1
unfolding realm_bit
realm-yes b e = rw e

realm-no : (b : ℕ) → (b ≡ 1 → ⊥) → realm_bit b ≡ 0
unfolding realm_bit
realm-no b n = rw (ne_eqb b 1 n)

-- ---- the words of a table agree with it
pub words-agree : (t : List ℕ) → WordsAgree t (realm_words t)
unfolding bit_of
words-agree t i h =
    let n = words-length (words_for (length t)) t in
    let e = bit-any t i (omega arith) in
    (λ y. e ∙ realm-yes _ y, λ y. e ∙ realm-no _ y)

-- and no other words do
pub agree-words : (t ws : List ℕ) → length ws ≡ words_for (length t) → ((k : ℕ) → get_or ws k 0 < 2 ^ 64) → WordsAgree t ws → ws ≡ realm_words t
unfolding bit_of
agree-words t ws l small a =
    ext_get_or 0 ws (realm_words t) (l ∙ sym (words-length (words_for (length t)) t))
    (λ k h. word_same 64 (get_or ws k 0) (get_or (realm_words t) k 0) (small k) (below k (omega arith)) (bits k h))
  where
    below : (k : ℕ) → k < words_for (length t) → get_or (realm_words t) k 0 < 2 ^ 64
    below k h =
        rw (words-at (words_for (length t)) t k h) (omega (arith, packed_lt (take 64 (drop (k * 64) t)), pow_mono (few (drop (k * 64) t))))
      where
        few : (s : List ℕ) → length (take 64 s) ≤ 64
        few s = rw length-take (omega arith)

    marks : (i : ℕ) → i < 64 * length ws → bit_at ws i ≡ realm_bit (get_or t i 0)
    marks i h = go (ℕ_discrete (get_or t i 0) 1)
      where
        go : Dec (get_or t i 0 ≡ 1) → bit_at ws i ≡ realm_bit (get_or t i 0)
        go (yes y) = (a i h).0 y ∙ sym (realm-yes _ y)
        go (no y) = (a i h).1 y ∙ sym (realm-no _ y)

    bits : (k : ℕ) → k < length ws → (j : ℕ) → j < 64 → bit_of (get_or ws k 0) j ≡ bit_of (get_or (realm_words t) k 0) j
    bits k h j m =
        let q : (64 * k + j) / 64 ≡ k = omega arith in
        let r : (64 * k + j) % 64 ≡ j = omega arith in
        rw (q, r) at (marks (64 * k + j) (omega arith) ∙ sym (bit-any t (64 * k + j) (omega arith)))
