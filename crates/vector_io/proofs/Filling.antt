-- The loops that fill a list word by word and hash bytes as digits. Assumes nothing.
use Prim.Native.Nat.{ℕ, suc, ◌+◌, ◌-◌, ◌*◌, ◌%◌, ◌≤◌, ◌<◌}
use mathlib.Core.Path.{◌≡◌, refl}
use mathlib.Core.List.{List, ◌++◌, append_assoc, append-nil}
use native.Mathlib.Omega.{arith}
use native.Mathlib.Numerals.{add-one}
use lib.ListN.{length, get_or, set, take, drop, replicate}
use lib.Seq.{set_at, drop-cons, drop-length}
use borrow.Author.Tests.{lt-ltb, le-ltb}
use Rattle.std.proofs.lemmas.List.{take-replicate, drop-replicate}
use Rattle.std.proofs.Math.ListN.{length-replicate}
use Rattle.words.specs.Word.{word_at, words_of}
use Rattle.words.proofs.Read.{words_of-length, words_of-suc}
use Rattle.vector_io.specs.Cases.{words_then_zeros, read_into, digits}

-- ---- the granule record
pub zeros_behind : (n : ℕ) (bytes : List ℕ) → n ≤ 33 → read_into bytes (take n (replicate 33 0)) ++ drop n (replicate 33 0) ≡ words_then_zeros n bytes
unfolding read_into words_then_zeros
zeros_behind n bytes h =
    let e : length (take {A = ℕ} n (replicate 33 0)) ≡ n = rw (take-replicate {X = ℕ} n 33 0 h) (length-replicate {A = ℕ} n 0) in
    let d : drop {A = ℕ} n (replicate 33 0) ≡ replicate (33 - n) 0 = drop-replicate {X = ℕ} n 33 0 in
    rw (e, le-ltb 600 n (omega arith), d)

-- ---- a list
pub read_none : (bytes list : List ℕ) → list ≡ words_of 0 bytes ++ drop 0 list
unfolding words_of
read_none bytes list = refl

pub read_more : (bytes list : List ℕ) (i : ℕ) → i < length list →
    set (words_of i bytes ++ drop i list) i (word_at (8 * i) bytes) ≡ words_of (i + 1) bytes ++ drop (i + 1) list
read_more bytes list i h =
    rw (add-one, words_of-suc, append_assoc, drop-cons list i 0 h)
    (set_at (words_of i bytes) (get_or list i 0) (drop (suc i) list) (word_at (8 * i) bytes) i (words_of-length i bytes))

pub read_all : (bytes list : List ℕ) → length list ≤ 600 → words_of (length list) bytes ++ drop (length list) list ≡ read_into bytes list
unfolding read_into
read_all bytes list h = rw (le-ltb 600 (length list) h, drop-length, append-nil)

pub read-not : (bytes list : List ℕ) → 600 < length list → list ≡ read_into bytes list
unfolding read_into
read-not bytes list h = rw (lt-ltb 600 (length list) h)

-- ---- digits
pub digits_more : (base n i : ℕ) (s : List ℕ) → i < length s →
    digits base n (drop i s) ≡ digits base ((n * base + get_or s i 0) % 0xFFFF_FFFB) (drop (i + 1) s)
unfolding digits
digits_more base n i s h = rw (drop-cons s i 0 h, add-one)

pub digits-all : (base n : ℕ) (s : List ℕ) → digits base n (drop (length s) s) ≡ n
unfolding digits
digits-all base n s = rw drop-length
