-- The mender's answer as numbers, for C (CE5). Assumes nothing.
use Rattle.std.specs.Prelude.{ℕ, Bool, cond, List, [], ◌∷◌, replicate, ℤ, pos, Ok, Err}
use Rattle.reader.specs.Reading.{refusal_number}
use Rattle.mend.specs.Mend.{Mended}
use Rattle.mend.specs.declared.Changes.{Changes}

-- 0, or the reader's code
unfoldable pub mended_number : Mended → ℤ
mended_number (Ok c) = pos 0
mended_number (Err c) = refusal_number c

-- "for each of the six whether it was changed" (MD4, CE5): 1 if it was
unfoldable pub flag_word : Bool → ℕ
flag_word b = cond b 1 0

-- the words of the six parts, in order
unfoldable pub change_words : Changes → List ℕ
change_words c =
    flag_word c.padding ∷ flag_word c.plat ∷ flag_word c.dram ∷ flag_word c.console ∷ flag_word c.ncoh ∷ flag_word c.coh ∷ []

-- the words of the six parts; all zero if the page is refused (MD1, CE3)
unfoldable pub report_words : Mended → List ℕ
report_words (Ok c) = change_words c
report_words (Err c) = replicate 6 0
