-- The description that the writer takes, and its checks W3 to W5. "four lists of 64-bit words (2 words an entry, 6 for a console)" (WR1);
-- request E7: "The writer takes a list of fields" (WR2). Assumes nothing.
use Rattle.std.specs.Prelude.{ℕ, zero, suc, ◌+◌, ◌*◌, ◌/◌, ◌%◌, Bool, List, [], ◌∷◌, ◌++◌, length, ◌==◌, nat_lt}
use Rattle.words.specs.Tests.{both, either, every}
use Rattle.words.specs.Word.{joined}
use Rattle.versions.specs.Edition.{section_count, core}
use Rattle.entries.specs.Entry.{words_per_entry, entries_ok}
use Rattle.fields.specs.Fields.{scan_of, describable, end_mark}
use Rattle.writer_checks.specs.declared.Lists.{Lists}

-- a description: the words of each section's list, and the bytes of the fields without an end mark (WR1, WR2)
pub record Description : Type 0 where
  pub lists : ℕ → List ℕ
  pub fields : List ℕ

-- the four lists by section: `a` for section 0 to `d` for section 3, and [] for any other number
unfoldable pub four_lists : List ℕ → List ℕ → List ℕ → List ℕ → ℕ → List ℕ
four_lists a b c d zero = a
four_lists a b c d (suc zero) = b
four_lists a b c d (suc (suc zero)) = c
four_lists a b c d (suc (suc (suc zero))) = d
four_lists a b c d (suc (suc (suc (suc n)))) = []

-- the description with lists `a` to `d` and fields `fs`
unfoldable pub description_of : List ℕ → List ℕ → List ℕ → List ℕ → List ℕ → Description
description_of a b c d fs = record { lists = four_lists a b c d; fields = fs }

-- the same of the four lists that the code is handed
abbrev pub lists_of : Lists → ℕ → List ℕ
lists_of l = four_lists l.dram.now l.console.now l.ncoh.now l.coh.now

abbrev pub described : Lists → List ℕ → Description
described l fs = description_of l.dram.now l.console.now l.ncoh.now l.coh.now fs

-- W3: "list length not a whole number of entries, or an entry that breaks a reader's rule"; `v` is the page's minor
unfoldable pub list_ok : ℕ → ℕ → List ℕ → Bool
list_ok v k ws = both (length ws % words_per_entry k == 0) (entries_ok v k (length ws / words_per_entry k) ws)

-- W3 for all four lists, including those of sections after the edition
unfoldable pub lists_ok : ℕ → (ℕ → List ℕ) → Bool
lists_ok v l = every 4 (λ k. list_ok v k (l k))

-- W3 whole: the lists and the fields
unfoldable pub description_ok : ℕ → Description → Bool
description_ok v d = both (lists_ok v d.lists) (describable (scan_of d.fields))

-- W4: "a nonempty list for a section after the edition"
unfoldable pub later_sections_empty : ℕ → (ℕ → List ℕ) → Bool
later_sections_empty v l = every 4 (λ k. either (nat_lt k (section_count v)) (length (l k) == 0))

-- the fields followed by their end mark; [] if there are no fields (WR8)
unfoldable pub with_mark : List ℕ → List ℕ
with_mark [] = []
with_mark (b ∷ bs) = (b ∷ bs) ++ end_mark

-- the bytes of the platform data: the fields and their end mark
unfoldable pub plat_bytes : Description → List ℕ
plat_bytes d = with_mark d.fields

-- W5: "core and arrays exceed 4,096 bytes"; request E7: "W5 counts the fields and, if there are any, their end mark"
unfoldable pub used : ℕ → Description → ℕ
used v d = core v + 8 * length (joined 4 d.lists) + length (plat_bytes d)
