-- Numbers in bytes. "All fields are little-endian (house rule)." (PG2) Assumes nothing.
use Rattle.std.specs.Prelude.{ℕ, zero, suc, ◌+◌, ◌*◌, ◌/◌, ◌%◌, ◌^◌, Bool, true, cond, List, [], ◌∷◌, ◌++◌, length, take, drop, leb, ltb, eqb}
use Rattle.words.specs.Tests.{both}
use Rattle.words.specs.declared.Span.{Span}

-- the number that these bytes encode, lowest byte first
unfoldable pub le_of : List ℕ → ℕ
le_of [] = 0
le_of (b ∷ bs) = b + 256 * le_of bs

-- the n low bytes of x, lowest byte first
unfoldable pub le_bytes : ℕ → ℕ → List ℕ
le_bytes zero x = []
le_bytes (suc n) x = x % 256 ∷ le_bytes n (x / 256)

-- the n bytes of s from off on; fewer if s ends earlier
unfoldable pub part : ℕ → ℕ → List ℕ → List ℕ
part off n s = take n (drop off s)

-- the n-byte number at off; a byte past the end counts as 0 (PG5)
unfoldable pub num_at : ℕ → ℕ → List ℕ → ℕ
num_at n off s = le_of (part off n s)

-- the 8-byte word at off
abbrev pub word_at : ℕ → List ℕ → ℕ
word_at off s = num_at 8 off s

-- the 4-byte number at off
abbrev pub u32_at : ℕ → List ℕ → ℕ
u32_at off s = num_at 4 off s

-- the first n words of a list of bytes
unfoldable pub words_of : ℕ → List ℕ → List ℕ
words_of zero bs = []
words_of (suc n) bs = le_of (take 8 bs) ∷ words_of n (drop 8 bs)

-- the bytes of a list of words
unfoldable pub bytes_of : List ℕ → List ℕ
bytes_of [] = []
bytes_of (w ∷ ws) = le_bytes 8 w ++ bytes_of ws

-- each number is below 2^64
unfoldable pub are_words : List ℕ → Bool
are_words [] = true
are_words (w ∷ ws) = both (ltb w (2 ^ 64)) (are_words ws)

-- f 0, f 1, .. f (n - 1), one after another
unfoldable pub joined : ℕ → (ℕ → List ℕ) → List ℕ
joined zero f = []
joined (suc n) f = joined n f ++ f n

-- s with the bytes from off on replaced by vs
unfoldable pub splice : ℕ → List ℕ → List ℕ → List ℕ
splice off vs s = take off s ++ vs ++ drop (off + length vs) s

-- the same if all of vs fits, otherwise s unchanged (PG5)
unfoldable pub laid : ℕ → List ℕ → List ℕ → List ℕ
laid off vs s = cond (leb (off + length vs) (length s)) (splice off vs s) s

-- the empty span, at 0
unfoldable pub no_span : Span
no_span = record { at = 0; len = 0 }

-- the span of n bytes at an offset; an empty span is at 0
unfoldable pub span_at : ℕ → ℕ → Span
span_at at n = cond (eqb n 0) no_span (record { at = at; len = n })

-- the part of s that span p names; empty if p is not within s
unfoldable pub spanned : Span → List ℕ → List ℕ
spanned p s = cond (leb (p.at + p.len) (length s)) (part p.at p.len s) []

-- the offset of that part in s; 0 if p is not within s
unfoldable pub span_start : Span → List ℕ → ℕ
span_start p s = cond (leb (p.at + p.len) (length s)) p.at 0

-- the address n bytes after address a; an address is a block of memory and an offset in it
unfoldable pub on_from : ℕ × ℕ → ℕ → ℕ × ℕ
on_from a n = (a.0, a.1 + n)
