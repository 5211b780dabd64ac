-- Request E6: "Beside the table keep lent 64-bit words, granule i as bit i mod 64 of word i / 64, set where the byte is Realm, spare bits
-- zero." (RW1) Assumes nothing.
use Rattle.std.specs.Prelude.{ℕ, zero, suc, ◌+◌, ◌-◌, ◌*◌, ◌/◌, ◌%◌, ◌^◌, cond, List, [], ◌∷◌, length, get_or, set, take, drop, eqb}

-- ---- a bit of a word, and of a granule
-- bit k of a word
unfoldable pub bit_of : ℕ → ℕ → ℕ
bit_of w k = w / 2 ^ k % 2

-- "granule i as bit i mod 64 of word i / 64" (RW1)
abbrev pub bit_at : List ℕ → ℕ → ℕ
bit_at ws i = bit_of (get_or ws (i / 64) 0) (i % 64)

-- "Delegate and undelegate write their granule's bit too and no other" (RW3)
-- the word w with bit k = v, 0 or 1, for any bit before
unfoldable pub with_bit : ℕ → ℕ → ℕ → ℕ
with_bit w k v = w - bit_of w k * 2 ^ k + v * 2 ^ k

-- the words with the bit of granule i = v
unfoldable pub put_bit : List ℕ → ℕ → ℕ → List ℕ
put_bit ws i v = set ws (i / 64) (with_bit (get_or ws (i / 64) 0) (i % 64) v)

-- ---- the words of a table
-- "set where the byte is Realm" (RW1)
unfoldable pub realm_bit : ℕ → ℕ
realm_bit b = cond (eqb b 1) 1 0

-- the bits of some bytes as one number; the first byte is bit 0, and the bits after the last byte are zero
unfoldable pub packed : List ℕ → ℕ
packed [] = 0
packed (b ∷ t) = realm_bit b + 2 * packed t

-- n words, each of the next 64 bytes, or of those that are left
unfoldable pub packed_to : ℕ → List ℕ → List ℕ
packed_to zero t = []
packed_to (suc n) t = packed (take 64 t) ∷ packed_to n (drop 64 t)

-- "granules over 64, rounded up" (RW2): ceil(n / 64)
unfoldable pub words_for : ℕ → ℕ
words_for n = (n + 63) / 64

-- "agreement, spare bits zero too" (RW1, RW6): words and table agree if the words are these
abbrev pub realm_words : List ℕ → List ℕ
realm_words t = packed_to (words_for (length t)) t
