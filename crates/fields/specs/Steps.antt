-- For the loops over the fields. `head-scan` (proofs/Scans.antt) proves a step by `head_at` equal to one of `scan_all`; `ok-start`,
-- `ok-more` and `ok-not` (proofs/Rules.antt) `allowed`, field by field, equal to `fields_ok`; `from_told` (proofs/Walks.antt) `fields_from`
-- equal to `fields_in` of `scan_of` (all of these: Fields.antt). `stop_of` defines what the enum `Stop` means.
-- Assumes nothing.
use Rattle.std.specs.Prelude.{ℕ, zero, suc, ◌+◌, Bool, true, false, cond, not, List, [], ◌∷◌, length, get_or, ltb, eqb, Option, Some, None}
use Rattle.words.specs.Tests.{both, either}
use Rattle.words.specs.Word.{part, num_at}
use Rattle.fields.specs.Fields.{Field, mk_field, Scanned, broken, ended, bare, length_ok, count}
use Rattle.fields.specs.declared.Head.{Head}
use Rattle.fields.specs.declared.Head.TheVariants as head
use Rattle.fields.specs.declared.FieldPlace.{FieldPlace}
use Rattle.fields.specs.declared.FieldPlace.TheVariants.{Raw, Withdrawn}
use Rattle.fields.specs.declared.FieldStep.{FieldStep}
use Rattle.fields.specs.declared.Seen.{Seen}
use Rattle.fields.specs.declared.Stop.{Stop}
use Rattle.fields.specs.declared.Stop.TheVariants as stop

-- what is at an offset, h being the field; `None` if the bytes are broken. The tests: it is cut short; its tag is 0; its length is 0
unfoldable pub head_of : Bool → Bool → Bool → Head → Option Head
head_of true z e h = None
head_of false true true h = Some head.End
head_of false true false h = None
head_of false false e h = Some h

-- what is at offset `at` of bs
unfoldable pub head_at : ℕ → List ℕ → Option Head
head_at at bs =
    let m = num_at 2 (at + 1) bs in
    head_of (ltb (length bs) (at + 3 + m)) (eqb (get_or bs at 0) 0) (eqb m 0) (head.Field (get_or bs at 0) (at + 3) m (at + 3 + m))

-- a field as callers see it: E10: "show the console choice as withdrawn without its value" (FD8)
unfoldable pub field_place_of : ℕ → ℕ → ℕ → FieldPlace
field_place_of t at n = cond (eqb t 3) Withdrawn (Raw t at n)

-- the field of a head and the offset after it; n, the slice's length, if there is no field (FD10, FD11)
unfoldable pub field_step_of : Option Head → ℕ → FieldStep
field_step_of None n = record { field = None; next = n }
field_step_of (Some head.End) n = record { field = None; next = n }
field_step_of (Some (head.Field t v m x)) n = record { field = Some (field_place_of t v m); next = x }

-- the step at offset `at` of bs
unfoldable pub step_at : ℕ → List ℕ → FieldStep
step_at at bs = field_step_of (head_at at bs) (length bs)

-- the tag t is one of 1 to 3 and was seen before (F4)
unfoldable pub is_seen : Seen → ℕ → Bool
is_seen s t = either (both (eqb t 1) s.name) (either (both (eqb t 2) s.serial) (both (eqb t 3) s.console))

-- the tags seen, with tag t added
unfoldable pub seen_with : Seen → ℕ → Seen
seen_with s t = record { name = either (eqb t 1) s.name; serial = either (eqb t 2) s.serial; console = either (eqb t 3) s.console }

-- no tag seen
unfoldable pub none_seen : Seen
none_seen = record { name = false; serial = false; console = false }

-- a field with tag t and length n may follow the fields seen
unfoldable pub allowed : Seen → ℕ → ℕ → Bool
allowed s t n = both (length_ok t n) (not (is_seen s t))

-- where a pass over the bytes stops; `None` if it meets a broken rule
unfoldable pub stop_of : Scanned → Option Stop
stop_of broken = None
stop_of (ended fs n) = Some (stop.Mark n (length fs))
stop_of (bare fs) = Some (stop.Edge (not (eqb (count 3 fs) 0)))

-- what a reader needs of that: the number of bytes through the mark; `None` if they are broken
unfoldable pub end_told : Scanned → Option ℕ
end_told broken = None
end_told (ended fs n) = Some n
end_told (bare fs) = None

-- the field of a head, if it has one, and then the fields that `go` finds from the next offset on
unfoldable pub walked_on : Option Head → List ℕ → (ℕ → List Field) → List Field
walked_on None bs go = []
walked_on (Some head.End) bs go = []
walked_on (Some (head.Field t v n x)) bs go = mk_field t (part v n bs) ∷ go x

-- the fields that a walk from offset `at` passes, at most n of them
unfoldable pub walked : ℕ → ℕ → List ℕ → List Field
walked zero at bs = []
walked (suc n) at bs = walked_on (head_at at bs) bs (λ x. walked n x bs)

-- all fields that a walk from offset `at` passes
unfoldable pub fields_from : ℕ → List ℕ → List Field
fields_from at bs = walked (length bs) at bs
