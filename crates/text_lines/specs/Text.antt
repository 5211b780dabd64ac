-- The listing's text, as ASCII numbers (LS1 to LS6, example 14). Assumes nothing.
use Rattle.std.specs.Prelude.{ℕ, zero, suc, ◌+◌, ◌-◌, ◌/◌, cond, List, [], ◌∷◌, ◌++◌, length, take, drop, get_or, ltb, eqb, ℤ, pos, negsuc}
use Rattle.io.specs.Digits.{last_digits}
use Rattle.words.specs.Tests.{both}
use Rattle.words.specs.Word.{le_bytes, word_at, joined}
use Rattle.entries.specs.Entry.{words_per_entry}
use Rattle.fields.specs.Fields.{FieldShown, raw, withdrawn}
use Rattle.reader.specs.Answer.{Shown, absent, empty, full, ReaderAnswer, refused, shows, minus, read_of, entry_word, entry_count}

-- `vs` over `s` from an offset on, as far as it fits; the rest of `s` is unchanged
unfoldable pub lay_clipped : ℕ → List ℕ → List ℕ → List ℕ
lay_clipped at vs s = take at s ++ take (length s - at) vs ++ drop (at + length vs) s

-- ---- the fixed parts
unfoldable pub newline : List ℕ
newline = 10 ∷ []

-- one space
unfoldable pub space : List ℕ
space = 32 ∷ []

-- `-`
unfoldable pub dash : List ℕ
dash = 45 ∷ []

-- `0x`
unfoldable pub zero_x : List ℕ
zero_x = 48 ∷ 120 ∷ []

-- `manifest 0.`
unfoldable pub manifest_text : List ℕ
manifest_text = 109 ∷ 97 ∷ 110 ∷ 105 ∷ 102 ∷ 101 ∷ 115 ∷ 116 ∷ 32 ∷ 48 ∷ 46 ∷ []

-- ` read as `
unfoldable pub read_as_text : List ℕ
read_as_text = 32 ∷ 114 ∷ 101 ∷ 97 ∷ 100 ∷ 32 ∷ 97 ∷ 115 ∷ 32 ∷ []

-- `platform `
unfoldable pub platform_text : List ℕ
platform_text = 112 ∷ 108 ∷ 97 ∷ 116 ∷ 102 ∷ 111 ∷ 114 ∷ 109 ∷ 32 ∷ []

-- `none`
unfoldable pub none_text : List ℕ
none_text = 110 ∷ 111 ∷ 110 ∷ 101 ∷ []

-- `absent`
unfoldable pub absent_text : List ℕ
absent_text = 97 ∷ 98 ∷ 115 ∷ 101 ∷ 110 ∷ 116 ∷ []

-- `refused `
unfoldable pub refused_text : List ℕ
refused_text = 114 ∷ 101 ∷ 102 ∷ 117 ∷ 115 ∷ 101 ∷ 100 ∷ 32 ∷ []

-- the name of section k: `dram`, `console`, `ncoh`, `coh` (LS2)
unfoldable pub title_text : ℕ → List ℕ
title_text zero = 100 ∷ 114 ∷ 97 ∷ 109 ∷ []
title_text (suc zero) = 99 ∷ 111 ∷ 110 ∷ 115 ∷ 111 ∷ 108 ∷ 101 ∷ []
title_text (suc (suc zero)) = 110 ∷ 99 ∷ 111 ∷ 104 ∷ []
title_text (suc (suc (suc k))) = 99 ∷ 111 ∷ 104 ∷ []

-- ---- numbers
-- the number of decimal digits of `n`: 1 below 10, otherwise one more than `n / 10`; `f` bounds the number of divisions
unfoldable pub places_in : ℕ → ℕ → ℕ
places_in zero n = 1
places_in (suc f) n = cond (ltb n 10) 1 (suc (places_in f (n / 10)))

-- the number of decimal digits of `n`, at least one
unfoldable pub places : ℕ → ℕ
places n = places_in n n

-- a number in decimal
unfoldable pub decimal : ℕ → List ℕ
decimal n = last_digits 10 (places n) n

-- a number in decimal, with `-` if it is negative (LS5)
unfoldable pub signed_decimal : ℤ → List ℕ
signed_decimal (pos n) = decimal n
signed_decimal (negsuc n) = dash ++ decimal (suc n)

-- ---- words
-- LS3: a word: "each as 0x and 16 lower-case hex digits"
unfoldable pub hex_text : ℕ → List ℕ
hex_text w = zero_x ++ last_digits 16 16 w

-- a byte: two hex digits (LS2)
unfoldable pub byte_text : ℕ → List ℕ
byte_text b = last_digits 16 2 b

-- LS3: "a console's name: its 8 bytes in order as 16 such digits, no 0x"
unfoldable pub name_byte : ℕ → ℕ → List ℕ
name_byte w i = byte_text (get_or (le_bytes 8 w) i 0)

-- the name of a console: its 8 bytes (LS3)
unfoldable pub name_text : ℕ → List ℕ
name_text w = joined 8 (name_byte w)

-- word `j` of an entry of section `k`; section 1 has the consoles, and word 2 of a console is its name
unfoldable pub word_text : ℕ → ℕ → ℕ → List ℕ
word_text k j w = cond (both (eqb k 1) (eqb j 2)) (name_text w) (hex_text w)

-- ---- sections
-- a space before each word of an entry except the first
unfoldable pub gap_text : ℕ → List ℕ
gap_text zero = []
gap_text (suc j) = space

-- word j of entry i of section k
unfoldable pub part_text : ℕ → Shown → ℕ → ℕ → List ℕ
part_text k s i j = gap_text j ++ word_text k j (entry_word k i j s)

-- entry i of section k, "all words in file order" (LS2)
unfoldable pub entry_text : ℕ → Shown → ℕ → List ℕ
entry_text k s i = joined (words_per_entry k) (part_text k s i) ++ newline

-- "its count (0 if empty) and then a line an entry" (LS2)
unfoldable pub count_text : ℕ → Shown → List ℕ
count_text k s = decimal (entry_count k s) ++ newline ++ joined (entry_count k s) (entry_text k s)

-- "A section has absent, or its count .." (LS2)
unfoldable pub state_text : ℕ → Shown → List ℕ
state_text k absent = absent_text ++ newline
state_text k empty = count_text k empty
state_text k (full ws bs) = count_text k (full ws bs)

-- section `k` of the shown sections: its name, then what it holds
unfoldable pub section_text : (ℕ → Shown) → ℕ → List ℕ
section_text s k = title_text k ++ space ++ state_text k (s k)

-- ---- the two lines before the fields
-- "The first line has major.minor and e" (LS2): w is the minor, and the major of an accepted version is 0
unfoldable pub head_text : ℕ → ℕ → List ℕ
head_text w e = manifest_text ++ decimal w ++ read_as_text ++ decimal e ++ newline

-- "Platform is none or the pointer, written like a word." (LS2)
unfoldable pub pointer_text : ℕ → List ℕ
pointer_text p = cond (eqb p 0) none_text (hex_text p)

-- the second line: `platform `, then none or the pointer
unfoldable pub plat_text : ℕ → List ℕ
plat_text p = platform_text ++ pointer_text p ++ newline

-- ---- fields
-- Request E7: "each byte of the value as two lower-case hex digits, all parted by single spaces" (LS2, LS4)
unfoldable pub value_byte : List ℕ → ℕ → List ℕ
value_byte v i = space ++ byte_text (get_or v i 0)

-- all bytes of a value, each after a space (LS2, LS4)
unfoldable pub value_text : List ℕ → List ℕ
value_text v = joined (length v) (value_byte v)

-- `3 withdrawn`
unfoldable pub withdrawn_text : List ℕ
withdrawn_text = 51 ∷ 32 ∷ 119 ∷ 105 ∷ 116 ∷ 104 ∷ 100 ∷ 114 ∷ 97 ∷ 119 ∷ 110 ∷ []

-- "tag and length in decimal, then each byte of the value" (LS2); request E10: "list it as `3 withdrawn`"
unfoldable pub field_text : FieldShown → List ℕ
field_text (raw t v) = decimal t ++ space ++ decimal (length v) ++ value_text v ++ newline
field_text withdrawn = withdrawn_text ++ newline

-- "one line a field in page order" (LS2)
unfoldable pub fields_text : List FieldShown → List ℕ
fields_text [] = []
fields_text (f ∷ fs) = field_text f ++ fields_text fs

-- ---- the whole listing
-- LS5: for a refused page: "one line, `refused` and the code"
unfoldable pub listing_of : ReaderAnswer → List ℕ
listing_of (refused c) = refused_text ++ signed_decimal c ++ newline
listing_of (shows w e q s) = head_text w e ++ plat_text q.pointer ++ fields_text q.fields ++ joined 4 (section_text s)

-- LS1: "The listing program reads from standard input 8 bytes of B, then the page, as reader of edition 4." "Input of any length but
-- 4,104 bytes: `refused -5`."
unfoldable pub printed : List ℕ → List ℕ
printed input = listing_of (cond (eqb (length input) 4104) (read_of 4 (word_at 0 input) (drop 8 input)) (refused (minus 5)))

-- LS6: the length of the longest listing: a 0.65535 page read as edition 1, whose fields take all bytes after the core, each with a tag
-- above 99 and a value of 1,000 bytes or more
abbrev pub listing_room : ℕ
listing_room = 12336
