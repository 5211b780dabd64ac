-- How test programs read and compare the bytes of a case file. Assumes nothing.
use Rattle.std.specs.Prelude.{ℕ, ◌+◌, ◌-◌, ◌*◌, ◌%◌, min, Bool, cond, List, [], ◌∷◌, ◌++◌, length, get_or, drop, replicate, ltb, eqb}
use Rattle.words.specs.Tests.{both, every}
use Rattle.words.specs.Word.{word_at, words_of, spanned}
use Rattle.boot.specs.declared.Record.{Record}
use Rattle.boot.specs.declared.Record.TheVariants.{Fresh, Up, Closed}

-- the first n bytes are equal
unfoldable pub same_to : ℕ → List ℕ → List ℕ → Bool
same_to n a b = every n (λ i. eqb (get_or a i 0) (get_or b i 0))

-- equal lengths and equal bytes
unfoldable pub same_bytes : List ℕ → List ℕ → Bool
same_bytes a b = both (eqb (length a) (length b)) (same_to (length a) a b)

-- the boot record in the first five words of a case: 1 up, 2 closed, any other number fresh
unfoldable pub record_at : List ℕ → Record
record_at input =
    cond (eqb (word_at 0 input) 1) (Up (record {
      cpus = word_at 8 input;
      base = word_at 16 input;
      minor = word_at 24 input;
      kept = word_at 32 input;
    }))
    (cond (eqb (word_at 0 input) 2) Closed Fresh)

-- the granule record of a case: the word at `at` is its offset. At this offset is the number n of words given, then n words; the others are 0.
unfoldable pub granules_from : ℕ → List ℕ → ℕ
granules_from at input = min (word_at at input) 40000

-- the number of words given, at most 33
unfoldable pub granules_given : ℕ → List ℕ → ℕ
granules_given at input = min (word_at (granules_from at input) input) 33

-- the first n words of `bytes`, then zeros up to 33 words
unfoldable pub words_then_zeros : ℕ → List ℕ → List ℕ
words_then_zeros n bytes = words_of n bytes ++ replicate (33 - n) 0

-- the 33 words of the granule record
unfoldable pub granules_at : ℕ → List ℕ → List ℕ
granules_at at input = words_then_zeros (granules_given at input) (drop (granules_from at input + 8) input)

-- the offset of the realm words of a case, which follow the granule record: their number, then the words
unfoldable pub words_from : ℕ → List ℕ → ℕ
words_from at input = granules_from at input + 8 + 8 * granules_given at input

-- the list filled with words from `bytes`; a list of more than 600 words is unchanged
unfoldable pub read_into : List ℕ → List ℕ → List ℕ
read_into bytes list = cond (ltb 600 (length list)) list (words_of (length list) bytes)

-- the list filled with the realm words of a case
unfoldable pub fill_into : ℕ → List ℕ → List ℕ → List ℕ
fill_into at input list = read_into (spanned (record { at = words_from at input + 8; len = 8 * length list }) input) list

-- appends bytes as digits in this base to the number n, modulo the prime 2^32 - 5
unfoldable pub digits : ℕ → ℕ → List ℕ → ℕ
digits base n [] = n
digits base n (b ∷ bs) = digits base ((n * base + b) % 0xFFFF_FFFB) bs

-- two such numbers in different bases, each starting from the length
unfoldable pub mark_of : List ℕ → ℕ
mark_of bytes =
    digits 0x9E37_79B1 (length bytes % 0xFFFF_FFFB) bytes * 0x1_0000_0000 + digits 0x85EB_CA77 (length bytes % 0xFFFF_FFFB) bytes
