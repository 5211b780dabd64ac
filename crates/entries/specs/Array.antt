-- The array of a section at an offset of a page: its words, its rule, and where its entries are. Assumes nothing.
use Rattle.std.specs.Prelude.{ℕ, ◌+◌, ◌*◌, ◌%◌, Bool, List, ◌==◌, nat_lt}
use Rattle.words.specs.Tests.{both}
use Rattle.words.specs.Word.{part, words_of}
use Rattle.entries.specs.Entry.{words_per_entry, size, entries_ok, check_ok}

-- the words of the c entries of section k at an offset
unfoldable pub words_at : ℕ → ℕ → ℕ → List ℕ → List ℕ
words_at k c at page = words_of (words_per_entry k * c) (part at (size k c) page)

-- The part of a section's rule that is the same in every edition, on a page with this minor, for count, pointer, checksum and the array's
-- words: "count 1 or more, a pointer that is a multiple of 8" (S1, S2), "each checksum holds" (S4), and the entries' rules.
unfoldable pub sound_of : (minor k count pointer check : ℕ) (words : List ℕ) → Bool
sound_of w k c p s ws = both (nat_lt 0 c) (both (p % 8 == 0) (both (check_ok c p ws s) (entries_ok w k c ws)))

-- the offset of entry i of the array at offset `at`; a rule of its own: the diagnosis reports it (faults/specs/Faults.antt)
unfoldable pub entry_place : ℕ → ℕ → ℕ → ℕ
entry_place k at i = at + 8 * (words_per_entry k * i)
