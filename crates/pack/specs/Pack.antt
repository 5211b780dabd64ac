-- Packing a page (PK1). Request E11: "The new page is exactly what the writer makes, at the page's own minor, from what reader edition 4
-- shows, with fields kept in page order and withdrawn ones dropped." Assumes nothing.
use Rattle.std.specs.Prelude.{ℕ, cond, List, [], ◌∷◌, ◌++◌, ℤ, pos, nat_le, Result, Ok, Err}
use Rattle.fields.specs.Fields.{FieldShown, raw, withdrawn}
use Rattle.fields.specs.Facts.{field_bytes}
use Rattle.reader.specs.Answer.{Shown, absent, empty, full, PlatShown, ReaderAnswer, refused, shows, minus, read_of}
use Rattle.reader.specs.Reading.{refusal_number}
use Rattle.writer_checks.specs.Description.{Description}
use Rattle.writer_rules.specs.Write.{Made, no-page, a-page, write_of}
use Rattle.writer_rules.specs.Wrote.{page_after}
use Rattle.pack.specs.declared.PackError.{PackError}
use Rattle.pack.specs.declared.PackError.TheVariants.{Refused, Target}

-- the words of the entries that a section shows
unfoldable pub entries_in : Shown → List ℕ
entries_in absent = []
entries_in empty = []
entries_in (full ws bs) = ws

-- "with fields kept in page order and withdrawn ones dropped" (PK1)
unfoldable pub fields_kept : List FieldShown → List ℕ
fields_kept [] = []
fields_kept (raw t v ∷ fs) = field_bytes t v ++ fields_kept fs
fields_kept (withdrawn ∷ fs) = fields_kept fs

-- what a reader shows, as a description for the writer
unfoldable pub shown_description : PlatShown → (ℕ → Shown) → Description
shown_description q s = record { lists = λ k. entries_in (s k); fields = fields_kept q.fields }

-- the result of packing: a code, or what the writer makes. PK2: "Refusals: the reader's codes; then -6 for minor 5 and above; then W1 for
-- the target."
pub data Packed : Type 0 where
  stopped : ℤ → Packed
  written : Made → Packed

-- the result of packing, from the answer of reader edition 4
unfoldable pub packed_from : ℕ → ℕ → ReaderAnswer → Packed
packed_from base n (refused c) = stopped c
packed_from base n (shows w e q s) = cond (nat_le w 4) (written (write_of base n w (shown_description q s))) (stopped (minus 6))

-- the result of packing a page at base B into a target of `n` bytes at the same base
unfoldable pub pack_of : ℕ → ℕ → List ℕ → Packed
pack_of base n page = packed_from base n (read_of 4 base page)

-- ---- the result of `pack` and the target at exit, as a result of packing
abbrev pub Packing : Type 0
Packing = Result (Unit {0}) PackError

unfoldable pub packed_by : List ℕ → Packing → Packed
packed_by target (Ok u) = written (a-page target)
packed_by target (Err (Refused c)) = stopped (refusal_number c)
packed_by target (Err Target) = written (no-page 1)

-- "The target is untouched." (PK2), or the page that was made
unfoldable pub target_after : List ℕ → Packed → List ℕ
target_after target (stopped c) = target
target_after target (written m) = page_after target m

-- ---- the number of an answer: 0 for a page, the reader's codes, 1 for the target (W1)
unfoldable pub packed_number : Packed → ℤ
packed_number (stopped c) = c
packed_number (written (no-page n)) = pos n
packed_number (written (a-page p)) = pos 0

-- the same for the result of `pack`
unfoldable pub packing_number : Packing → ℤ
packing_number (Ok u) = pos 0
packing_number (Err (Refused c)) = refusal_number c
packing_number (Err Target) = pos 1
