-- For speed: boot and lookup need no whole view. `verdict-told` (proofs/Whole.antt) proves the number of `verdict_of` equal to that of
-- `read_of`, and `section-told` (also there) what `section_read` means equal to `shown_in` of `read_of`. Assumes nothing.
use Rattle.std.specs.Prelude.{ℕ, ℤ, pos, Result, Ok, Err}
use Rattle.reader.specs.Reading.{refusal_number, section_of}
use Rattle.reader.specs.declared.Section.{Section}
use Rattle.reader.specs.declared.Section.TheVariants.{Absent}
use Rattle.reader.specs.declared.View.{View}
use Rattle.reader.specs.declared.Refusal.{Refusal}

-- the verdict of a reading: the minor of an accepted page, or the refusal
unfoldable pub verdict_of : Result View Refusal → Result ℕ Refusal
verdict_of (Ok v) = Ok v.minor
verdict_of (Err c) = Err c

-- the number of a verdict: 0, or the code of the broken rule (RD2)
unfoldable pub number_in : Result ℕ Refusal → ℤ
number_in (Ok w) = pos 0
number_in (Err c) = refusal_number c

-- section k of a reading; absent if the page is refused
unfoldable pub section_read : Result View Refusal → ℕ → Section
section_read (Ok v) k = section_of v k
section_read (Err c) k = Absent
