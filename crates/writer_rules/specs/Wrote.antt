-- The result of `writer::write` and the lent page at exit, as an answer of `write_of`. Assumes nothing.
use Rattle.std.specs.Prelude.{ℕ, List, length, Result, Ok, Err}
use Rattle.writer_checks.specs.Description.{description_of}
use Rattle.writer_rules.specs.Write.{Made, no-page, a-page, write_of}
use Rattle.writer_rules.specs.declared.WriteError.{WriteError}
use Rattle.writer_rules.specs.declared.WriteError.TheVariants.{Place, Edition, BadEntry, SectionAfterEdition, TooLong}

-- "The writer takes B, an edition, four lists of 64-bit words .. and a page."; request E7: "The writer takes a list of fields" (WR1, WR2)
abbrev pub write_lists : ℕ → ℕ → List ℕ → List ℕ → List ℕ → List ℕ → List ℕ → List ℕ → Made
write_lists base v dram console ncoh coh fields page = write_of base (length page) v (description_of dram console ncoh coh fields)

-- a page was made, or why not
abbrev pub Wrote : Type 0
Wrote = Result (Unit {0}) WriteError

-- W1 to W5, or the page that was made
unfoldable pub made_by : List ℕ → Wrote → Made
made_by page (Ok u) = a-page page
made_by page (Err Place) = no-page 1
made_by page (Err Edition) = no-page 2
made_by page (Err BadEntry) = no-page 3
made_by page (Err SectionAfterEdition) = no-page 4
made_by page (Err TooLong) = no-page 5

-- the lent page at exit: "the page stays untouched" (WR3), or the one made
unfoldable pub page_after : List ℕ → Made → List ℕ
page_after page (no-page n) = page
page_after page (a-page p) = p
