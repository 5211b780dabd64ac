-- What the reader's enums mean: the numbers and values of docs/RULES.md, given the page that was read. Assumes nothing.
use Rattle.std.specs.Prelude.{ℕ, zero, suc, ◌+◌, ◌-◌, ◌%◌, min, Bool, true, false, cond, List, [], length, drop, leb, ltb, eqb, ℤ, Result, Ok, Err}
use Rattle.words.specs.Tests.{both}
use Rattle.words.specs.Word.{part, word_at}
use Rattle.versions.specs.Version.{minor_of, version_ok}
use Rattle.versions.specs.Edition.{section_count, edition_ok}
use Rattle.entries.specs.Entry.{size, shown_words}
use Rattle.entries.specs.Array.{words_at}
use Rattle.fields.specs.Fields.{Scanned, ended, scan_of, fields_in, shown_fields}
use Rattle.sections.specs.Page.{place_ok, version_at, count_at, pointer_at}
use Rattle.sections.specs.Section.{rules_at}
use Rattle.reader.specs.Answer.{Shown, absent, empty, full, ReaderAnswer, refused, shows, minus}
use Rattle.reader.specs.declared.Section.{Section}
use Rattle.reader.specs.declared.Section.TheVariants.{Absent, Empty, Entries}
use Rattle.reader.specs.declared.View.{View}
use Rattle.reader.specs.declared.Refusal.{Refusal}
use Rattle.reader.specs.declared.Refusal.TheVariants.{Place, Version, Rules}

-- the code of a refusal (RD2)
abbrev pub refusal_number : Refusal → ℤ
refusal_number Place = minus 5
refusal_number Version = minus 6
refusal_number Rules = minus 7

-- section k of a view; absent if k is above 3
unfoldable pub section_of : View → ℕ → Section
section_of v zero = v.dram
section_of v (suc zero) = v.console
section_of v (suc (suc zero)) = v.ncoh
section_of v (suc (suc (suc zero))) = v.coh
section_of v (suc (suc (suc (suc k)))) = Absent

-- Section k of a view on a page of minor w. Entries of a hand-written view that are not within the page count as none. (RD15)
unfoldable pub shown_as : ℕ → ℕ → Section → List ℕ → Shown
shown_as w k Absent page = absent
shown_as w k Empty page = empty
shown_as w k (Entries at count) page =
    cond (leb (at + size k count) (length page)) (full (shown_words w k (words_at k count at page)) (part at (size k count) page)) empty

-- The fields of a view's platform pointer q. B is a multiple of 4,096, so q % 4096 is their offset in the page. For a hand-written view
-- they are the fields at that offset; none if those are broken.
unfoldable pub fields_of : ℕ → List ℕ → Scanned
fields_of q page = cond (eqb q 0) (ended [] 0) (scan_of (drop (q % 4096) page))

-- the answer that a reading means, given its page
unfoldable pub reading_answer : List ℕ → Result View Refusal → ReaderAnswer
reading_answer page (Err c) = refused (refusal_number c)
reading_answer page (Ok v) =
    shows v.minor v.edition (record { pointer = v.plat; fields = shown_fields (fields_in (fields_of v.plat page)) })
    (λ k. shown_as v.minor k (section_of v k) page)

-- ---- where the arrays are: an array is "the part of the lent page that holds it" (RD12), at its pointer
-- section k of an accepted page read as edition e
unfoldable pub section_at : ℕ → ℕ → List ℕ → ℕ → Section
section_at e base page k =
    cond (ltb k (section_count e)) (cond (eqb (count_at k page) 0) Empty (Entries (pointer_at k page - base) (count_at k page))) Absent

-- the view of an accepted page of minor w, read as edition e
unfoldable pub view_at : ℕ → ℕ → ℕ → List ℕ → View
view_at w e base page =
    record {
      minor = w;
      edition = e;
      plat = word_at 8 page;
      dram = section_at e base page 0;
      console = section_at e base page 1;
      ncoh = section_at e base page 2;
      coh = section_at e base page 3;
    }

-- ---- the reader's result
-- the checks in the order of docs/RULES.md, as in `reader_gate`
unfoldable pub reading_gate : Bool → Bool → Bool → View → Result View Refusal
reading_gate true true true v = Ok v
reading_gate true true false v = Err Rules
reading_gate true false o v = Err Version
reading_gate false a o v = Err Place

-- the reading of a reader of edition r at base B; law `reading-answer` proves that it means `read_of`
unfoldable pub reading_of : ℕ → ℕ → List ℕ → Result View Refusal
reading_of r base page =
    reading_gate (place_ok base (length page)) (both (edition_ok r) (version_ok (version_at page)))
    (rules_at (minor_of (version_at page)) (min r (minor_of (version_at page))) base page)
    (view_at (minor_of (version_at page)) (min r (minor_of (version_at page))) base page)
