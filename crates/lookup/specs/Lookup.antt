-- Where a section's array is in the page (RD12). Assumes nothing.
use Rattle.std.specs.Prelude.{ℕ, ◌+◌, cond, List, length, leb}
use Rattle.words.specs.Word.{no_span, span_at}
use Rattle.words.specs.declared.Span.{Span}
use Rattle.entries.specs.Entry.{size}
use Rattle.reader.specs.Answer.{ReaderAnswer, refused, shows}
use Rattle.reader.specs.Reading.{section_of, view_at}
use Rattle.reader.specs.declared.Section.{Section}
use Rattle.reader.specs.declared.Section.TheVariants.{Absent, Empty, Entries}

-- "the part of the lent page that holds it": the span of the array of a section k in a page of n bytes. "an absent or empty section gives
-- an empty part", and so do entries of a hand-written view that are not within the page (RD15).
unfoldable pub span_of : ℕ → Section → ℕ → Span
span_of k Absent n = no_span
span_of k Empty n = no_span
span_of k (Entries at count) n = cond (leb (at + size k count) n) (span_at at (size k count)) no_span

-- the same for a reader's answer: "a refused page .. gives an empty part" (RD12)
unfoldable pub span_in : ℕ → List ℕ → ReaderAnswer → ℕ → Span
span_in base page (refused c) k = no_span
span_in base page (shows w e q s) k = span_of k (section_of (view_at w e base page) k) (length page)
