-- Request E5: the number of kept bytes at the start of the page that cover a manifest (KB5, KB6). Assumes nothing.
use Rattle.std.specs.Prelude.{ℕ, zero, suc, ◌+◌, ◌*◌, ◌/◌, ◌%◌, min, max, cond, List, drop, eqb}
use Rattle.versions.specs.Edition.{core}
use Rattle.words.specs.declared.Span.{Span}
use Rattle.fields.specs.Fields.{reach, scan_of}
use Rattle.reader.specs.Reading.{section_of}
use Rattle.reader.specs.declared.Section.{Section}
use Rattle.reader.specs.declared.View.{View}
use Rattle.lookup.specs.Lookup.{span_of}

-- the offset after a span
unfoldable pub span_end : Span → ℕ
span_end p = p.at + p.len

-- The offset after the array of a section k. 0 if the page has no such array: absent, empty or, in a hand-written view, not within a page
-- of 4,096 bytes (KB6).
unfoldable pub section_end : ℕ → Section → ℕ
section_end k s = span_end (span_of k s 4096)

-- The offset after the fields at platform pointer q: request E7: "through the end mark, or all from the pointer on if they are broken"
-- (RD14), up to the end of a page of 4,096 bytes. B is a multiple of 4,096, so q % 4096 is their offset in the page.
unfoldable pub fields_reach : ℕ → List ℕ → ℕ
fields_reach q page = cond (eqb q 0) 0 (min 4096 (q % 4096 + reach (scan_of (drop (q % 4096) page))))

-- the highest end of the core (of the edition that the page was read as), of the fields and of the first n arrays
unfoldable pub highest_of : View → List ℕ → ℕ → ℕ
highest_of v page zero = max (core v.edition) (fields_reach v.plat page)
highest_of v page (suc n) = max (highest_of v page n) (section_end n (section_of v n))

-- "a number K of kept bytes at the start of the page" (KB5) that covers the manifest of a view: the highest end, rounded up to a multiple
-- of 8
unfoldable pub kept_for : View → List ℕ → ℕ
kept_for v page = 8 * ((highest_of v page 4 + 7) / 8)
