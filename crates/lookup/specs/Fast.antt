-- For speed: decodes one section of a view, not four. `count-view` and `word-view` (proofs/Lookups.antt) prove `count_of` equal to
-- `count_in` and `word_of` equal to `word_in` (reader/specs/Answer.antt). Assumes nothing.
use Rattle.std.specs.Prelude.{ℕ, ◌*◌, ◌/◌, List, length}
use Rattle.words.specs.Word.{spanned}
use Rattle.entries.specs.Entry.{words_per_entry}
use Rattle.reader.specs.Answer.{entry_word}
use Rattle.reader.specs.Reading.{shown_as}
use Rattle.reader.specs.declared.Section.{Section}
use Rattle.lookup.specs.Lookup.{span_of}

-- the number of entries of a section k: the size of its array / the size of an entry
unfoldable pub count_of : ℕ → Section → List ℕ → ℕ
count_of k s page = length (spanned (span_of k s (length page)) page) / (8 * words_per_entry k)

-- word j of entry i of a section k, on a page of minor w
unfoldable pub word_of : (minor k i j : ℕ) (section : Section) (page : List ℕ) → ℕ
word_of w k i j s page = entry_word k i j (shown_as w k s page)
