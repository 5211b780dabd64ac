-- What the program (MD8) reports, as ASCII numbers, and what it mends for an input. Assumes nothing.
use Rattle.std.specs.Prelude.{ℕ, Bool, cond, ◌≡◌, List, [], ◌∷◌, ◌++◌, length, take, eqb, Ok, Err}
use Rattle.words.specs.Word.{part, word_at}
use Rattle.reader.specs.declared.Refusal.{Refusal}
use Rattle.reader.specs.declared.Refusal.TheVariants.{Place, Version, Rules}
use Rattle.mend.specs.Mend.{Mended, mended_of, mended_page}
use Rattle.mend.specs.declared.Changes.{Changes}

-- ---- the titles of the six parts, with the listing's names for the sections: `padding`
unfoldable pub padding_title : List ℕ
padding_title = 112 ∷ 97 ∷ 100 ∷ 100 ∷ 105 ∷ 110 ∷ 103 ∷ []

-- `platform`
unfoldable pub plat_title : List ℕ
plat_title = 112 ∷ 108 ∷ 97 ∷ 116 ∷ 102 ∷ 111 ∷ 114 ∷ 109 ∷ []

-- `dram`
unfoldable pub dram_title : List ℕ
dram_title = 100 ∷ 114 ∷ 97 ∷ 109 ∷ []

-- `console`
unfoldable pub console_title : List ℕ
console_title = 99 ∷ 111 ∷ 110 ∷ 115 ∷ 111 ∷ 108 ∷ 101 ∷ []

-- `ncoh`
unfoldable pub ncoh_title : List ℕ
ncoh_title = 110 ∷ 99 ∷ 111 ∷ 104 ∷ []

-- `coh`
unfoldable pub coh_title : List ℕ
coh_title = 99 ∷ 111 ∷ 104 ∷ []

-- ` yes` or ` no`, and the end of the line
unfoldable pub said_text : Bool → List ℕ
said_text b = cond b (32 ∷ 121 ∷ 101 ∷ 115 ∷ 10 ∷ []) (32 ∷ 110 ∷ 111 ∷ 10 ∷ [])

-- "It reports for each of the six whether it was changed" (MD8), one line each
unfoldable pub line_text : List ℕ → Bool → List ℕ
line_text title b = title ++ said_text b

-- the lines of the six parts
unfoldable pub changes_text : Changes → List ℕ
changes_text c =
    line_text padding_title c.padding
    ++ line_text plat_title c.plat
    ++ line_text dram_title c.dram
    ++ line_text console_title c.console
    ++ line_text ncoh_title c.ncoh
    ++ line_text coh_title c.coh

-- `refused` and the code, as in the listing (MD8)
unfoldable pub refusal_text : Refusal → List ℕ
refusal_text Place = 114 ∷ 101 ∷ 102 ∷ 117 ∷ 115 ∷ 101 ∷ 100 ∷ 32 ∷ 45 ∷ 53 ∷ 10 ∷ []
refusal_text Version = 114 ∷ 101 ∷ 102 ∷ 117 ∷ 115 ∷ 101 ∷ 100 ∷ 32 ∷ 45 ∷ 54 ∷ 10 ∷ []
refusal_text Rules = 114 ∷ 101 ∷ 102 ∷ 117 ∷ 115 ∷ 101 ∷ 100 ∷ 32 ∷ 45 ∷ 55 ∷ 10 ∷ []

-- the whole report
unfoldable pub report_text : Mended → List ℕ
report_text (Ok c) = changes_text c
report_text (Err c) = refusal_text c

-- ---- the answer for an input: 8 bytes of B, then the page; an input of another length is refused with -5, as in the listing
unfoldable pub mended_input : List ℕ → Mended
mended_input input = cond (eqb (length input) 4104) (mended_of (word_at 0 input) (part 8 4096 input)) (Err Place)

-- the page of the input at exit: mended, or unchanged if the input is refused
unfoldable pub input_left : List ℕ → List ℕ
input_left input = cond (eqb (length input) 4104) (mended_page (word_at 0 input) (part 8 4096 input)) (part 8 4096 input)

-- Reading stops when the room is full or the input ends. So the `n` bytes read into the room are the first min(room, input) bytes of the
-- input. For every such input, `r` is the mender's answer, and if the input has the right length, the room then holds its mended page.
abbrev pub MendsInput : List ℕ → ℕ → Mended → List ℕ → Type 0
MendsInput room n r after =
    (input : List ℕ) → take n room ≡ take (length room) input →
    (r ≡ mended_input input) × (length input ≡ 4104 → part 8 4096 after ≡ input_left input)
