-- Example 14 by its view, the same page with fields, a console's line, an empty section, and the three codes. Assumes nothing.
use Prim.Native.Nat.{ℕ, zero, suc}
use mathlib.Core.Path.{◌≡◌, refl}
use mathlib.Core.List.{List, [], ◌∷◌, ◌++◌}
use Rattle.words.specs.Tests.{both}
use Rattle.words.specs.Word.{le_bytes, joined}
use Rattle.entries.specs.Entry.{words_per_entry}
use Rattle.fields.specs.Fields.{raw, withdrawn}
use Rattle.reader.specs.Answer.{Shown, absent, empty, full, shows, refused, minus, entry_word, bytes_in, entry_count}
use Rattle.text_lines.specs.Text.{newline, space, dash, zero_x, manifest_text, read_as_text, platform_text, none_text, absent_text, refused_text}
use Rattle.text_lines.specs.Text.{title_text, places_in, places, decimal, signed_decimal, hex_text, byte_text, name_byte, name_text, word_text}
use Rattle.text_lines.specs.Text.{gap_text, part_text, entry_text, count_text, state_text, section_text, head_text, pointer_text, plat_text}
use Rattle.text_lines.specs.Text.{value_byte, value_text, withdrawn_text, field_text, fields_text, listing_of}

-- "example 4's bank on a 0.2 page": one bank, and no section after it
abbrev sections : ℕ → Shown
sections zero = full (0x90000000 ∷ 0x10000000 ∷ []) (le_bytes 8 0x90000000 ++ le_bytes 8 0x10000000)
sections (suc k) = absent

-- `manifest 0.2 read as 2`
abbrev line1 : List ℕ
line1 = 109 ∷ 97 ∷ 110 ∷ 105 ∷ 102 ∷ 101 ∷ 115 ∷ 116 ∷ 32 ∷ 48 ∷ 46 ∷ 50 ∷ 32 ∷ 114 ∷ 101 ∷ 97 ∷ 100 ∷ 32 ∷ 97 ∷ 115 ∷ 32 ∷ 50 ∷ 10 ∷ []

-- `platform none`
abbrev line2 : List ℕ
line2 = 112 ∷ 108 ∷ 97 ∷ 116 ∷ 102 ∷ 111 ∷ 114 ∷ 109 ∷ 32 ∷ 110 ∷ 111 ∷ 110 ∷ 101 ∷ 10 ∷ []

-- `dram 1`
abbrev line3 : List ℕ
line3 = 100 ∷ 114 ∷ 97 ∷ 109 ∷ 32 ∷ 49 ∷ 10 ∷ []

-- `0x0000000090000000 0x0000000010000000`
abbrev line4 : List ℕ
line4 =
    48 ∷ 120 ∷ 48 ∷ 48 ∷ 48 ∷ 48 ∷ 48 ∷ 48 ∷ 48 ∷ 48 ∷ 57 ∷ 48 ∷ 48 ∷ 48 ∷ 48 ∷ 48 ∷ 48 ∷ 48 ∷ 32 ∷ 48 ∷ 120 ∷ 48 ∷ 48 ∷ 48 ∷ 48 ∷ 48 ∷
    48 ∷ 48 ∷ 48 ∷ 49 ∷ 48 ∷ 48 ∷ 48 ∷ 48 ∷ 48 ∷ 48 ∷ 48 ∷ 10 ∷ []

-- `console absent`
abbrev line5 : List ℕ
line5 = 99 ∷ 111 ∷ 110 ∷ 115 ∷ 111 ∷ 108 ∷ 101 ∷ 32 ∷ 97 ∷ 98 ∷ 115 ∷ 101 ∷ 110 ∷ 116 ∷ 10 ∷ []

-- `ncoh absent`
abbrev line6 : List ℕ
line6 = 110 ∷ 99 ∷ 111 ∷ 104 ∷ 32 ∷ 97 ∷ 98 ∷ 115 ∷ 101 ∷ 110 ∷ 116 ∷ 10 ∷ []

-- `coh absent`
abbrev line7 : List ℕ
line7 = 99 ∷ 111 ∷ 104 ∷ 32 ∷ 97 ∷ 98 ∷ 115 ∷ 101 ∷ 110 ∷ 116 ∷ 10 ∷ []

pub example-14 : listing_of (shows 2 2 (record { pointer = 0; fields = [] }) sections) ≡ line1 ++ line2 ++ line3 ++ line4 ++ line5 ++
    line6 ++ line7
unfolding listing_of head_text plat_text fields_text pointer_text section_text state_text count_text entry_text part_text word_text gap_text hex_text
    decimal places places_in title_text joined newline space zero_x manifest_text read_as_text platform_text none_text absent_text entry_word
    entry_count bytes_in words_per_entry both le_bytes
example-14 = refl

-- the same page with fields after its bank: a board name, a withdrawn field and an empty one, in page order after the platform line
-- `platform 0x0000000080000038`
abbrev pointer_line : List ℕ
pointer_line =
    112 ∷ 108 ∷ 97 ∷ 116 ∷ 102 ∷ 111 ∷ 114 ∷ 109 ∷ 32 ∷ 48 ∷ 120 ∷ 48 ∷ 48 ∷ 48 ∷ 48 ∷ 48 ∷ 48 ∷ 48 ∷ 48 ∷ 56 ∷ 48 ∷ 48 ∷ 48 ∷ 48 ∷ 48 ∷
    51 ∷ 56 ∷ 10 ∷ []

-- `1 3 70 62 31`
abbrev name_line : List ℕ
name_line = 49 ∷ 32 ∷ 51 ∷ 32 ∷ 55 ∷ 48 ∷ 32 ∷ 54 ∷ 50 ∷ 32 ∷ 51 ∷ 49 ∷ 10 ∷ []

-- `3 withdrawn`
abbrev withdrawn_line : List ℕ
withdrawn_line = 51 ∷ 32 ∷ 119 ∷ 105 ∷ 116 ∷ 104 ∷ 100 ∷ 114 ∷ 97 ∷ 119 ∷ 110 ∷ 10 ∷ []

-- `255 0`
abbrev empty_line : List ℕ
empty_line = 50 ∷ 53 ∷ 53 ∷ 32 ∷ 48 ∷ 10 ∷ []

pub fields-listing :
    listing_of (shows 2 2 (record { pointer = 0x80000038; fields = raw 1 (112 ∷ 98 ∷ 49 ∷ []) ∷ withdrawn ∷ raw 255 [] ∷ [] }) sections)
    ≡ line1 ++ pointer_line ++ name_line ++ withdrawn_line ++ empty_line ++ line3 ++ line4 ++ line5 ++ line6 ++ line7
unfolding listing_of head_text plat_text fields_text field_text value_text value_byte byte_text withdrawn_text pointer_text section_text state_text
    count_text entry_text part_text word_text gap_text hex_text decimal places places_in title_text joined newline space zero_x manifest_text
    read_as_text platform_text none_text absent_text entry_word entry_count bytes_in words_per_entry both le_bytes
fields-listing = refl

-- a console: "its 8 bytes in order as 16 such digits, no 0x"
-- `0x0000000009000000 0x0000000000000001 706c303131000000 0x0000000001000000 0x000000000001c200 0x0000000000000000`
abbrev console_line : List ℕ
console_line =
    48 ∷ 120 ∷ 48 ∷ 48 ∷ 48 ∷ 48 ∷ 48 ∷ 48 ∷ 48 ∷ 48 ∷ 48 ∷ 57 ∷ 48 ∷ 48 ∷ 48 ∷ 48 ∷ 48 ∷ 48 ∷ 32 ∷ 48 ∷ 120 ∷ 48 ∷ 48 ∷ 48 ∷ 48 ∷ 48 ∷
    48 ∷ 48 ∷ 48 ∷ 48 ∷ 48 ∷ 48 ∷ 48 ∷ 48 ∷ 48 ∷ 48 ∷ 49 ∷ 32 ∷ 55 ∷ 48 ∷ 54 ∷ 99 ∷ 51 ∷ 48 ∷ 51 ∷ 49 ∷ 51 ∷ 49 ∷ 48 ∷ 48 ∷ 48 ∷ 48 ∷
    48 ∷ 48 ∷ 32 ∷ 48 ∷ 120 ∷ 48 ∷ 48 ∷ 48 ∷ 48 ∷ 48 ∷ 48 ∷ 48 ∷ 48 ∷ 48 ∷ 49 ∷ 48 ∷ 48 ∷ 48 ∷ 48 ∷ 48 ∷ 48 ∷ 32 ∷ 48 ∷ 120 ∷ 48 ∷
    48 ∷ 48 ∷ 48 ∷ 48 ∷ 48 ∷ 48 ∷ 48 ∷ 48 ∷ 48 ∷ 48 ∷ 49 ∷ 99 ∷ 50 ∷ 48 ∷ 48 ∷ 32 ∷ 48 ∷ 120 ∷ 48 ∷ 48 ∷ 48 ∷ 48 ∷ 48 ∷ 48 ∷
    48 ∷ 48 ∷ 48 ∷ 48 ∷ 48 ∷ 48 ∷ 48 ∷ 48 ∷ 48 ∷ 48 ∷ 10 ∷ []

abbrev console : Shown
console = full (0x9000000 ∷ 1 ∷ 0x313130_6c70 ∷ 0x1000000 ∷ 115200 ∷ 0 ∷ []) []

pub console-line : entry_text 1 console 0 ≡ console_line
unfolding entry_text part_text word_text gap_text hex_text name_text name_byte byte_text joined newline space zero_x entry_word words_per_entry both
    le_bytes
console-line = refl

-- an empty section: `coh 0`
pub empty-line : section_text (λ k. empty) 3 ≡ 99 ∷ 111 ∷ 104 ∷ 32 ∷ 48 ∷ 10 ∷ []
unfolding section_text state_text count_text decimal places places_in title_text joined newline space entry_count bytes_in words_per_entry
empty-line = refl

-- a board name and an empty field: `1 3 70 62 31`, `255 0`
pub field-lines : fields_text (raw 1 (112 ∷ 98 ∷ 49 ∷ []) ∷ raw 255 [] ∷ []) ≡ 49 ∷ 32 ∷ 51 ∷ 32 ∷ 55 ∷ 48 ∷ 32 ∷ 54 ∷ 50 ∷ 32 ∷ 51 ∷ 49 ∷
    10 ∷ 50 ∷ 53 ∷ 53 ∷ 32 ∷ 48 ∷ 10 ∷ []
unfolding fields_text field_text value_text value_byte byte_text decimal places places_in joined newline space
field-lines = refl

-- more than nine entries: `12`
pub twelve : decimal 12 ≡ 49 ∷ 50 ∷ []
unfolding decimal places places_in
twelve = refl

-- `refused -5`, `refused -6`, `refused -7`
pub refused-lines :
    (listing_of (refused (minus 5)) ≡ 114 ∷ 101 ∷ 102 ∷ 117 ∷ 115 ∷ 101 ∷ 100 ∷ 32 ∷ 45 ∷ 53 ∷ 10 ∷ [])
    × (listing_of (refused (minus 6)) ≡ 114 ∷ 101 ∷ 102 ∷ 117 ∷ 115 ∷ 101 ∷ 100 ∷ 32 ∷ 45 ∷ 54 ∷ 10 ∷ [])
    × (listing_of (refused (minus 7)) ≡ 114 ∷ 101 ∷ 102 ∷ 117 ∷ 115 ∷ 101 ∷ 100 ∷ 32 ∷ 45 ∷ 55 ∷ 10 ∷ [])
unfolding listing_of refused_text signed_decimal dash decimal places places_in newline
refused-lines = (refl, refl, refl)
