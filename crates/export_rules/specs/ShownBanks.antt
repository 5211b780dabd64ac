-- The banks that a reader shows, for the theorem about the set-up of the granule record. Assumes nothing.
use Rattle.std.specs.Prelude.{ℕ, List}
use Rattle.reader.specs.Answer.{ReaderAnswer, count_in, word_in}
use Rattle.banks.specs.Banks.{Bank, banks_by}

-- entry i of section 0
abbrev pub shown_bank : ReaderAnswer → ℕ → Bank
shown_bank a i = record { base = word_in a 0 i 0; size = word_in a 0 i 1 }

-- all entries of section 0; no bank if the page is refused, or the section is absent or empty
abbrev pub shown_banks : ReaderAnswer → List Bank
shown_banks a = banks_by (shown_bank a) 0 (count_in a 0)
