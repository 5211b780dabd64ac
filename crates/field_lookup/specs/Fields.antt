-- Lookups in the fields that a page shows (FD10): "The writer takes a list of fields", and a reader shows one in page order (request E7);
-- "show the console choice as withdrawn without its value" (request E10). Assumes nothing.
use Rattle.std.specs.Prelude.{ℕ, zero, suc, ◌+◌, cond, List, [], ◌∷◌, length, leb, eqb, Option, Some, None}
use Rattle.words.specs.Word.{part}
use Rattle.words.specs.declared.Span.{Span}
use Rattle.fields.specs.Fields.{FieldShown, raw, withdrawn}
use Rattle.fields.specs.declared.FieldPlace.{FieldPlace}
use Rattle.fields.specs.declared.FieldPlace.TheVariants.{Raw, Withdrawn}

-- the result of a lookup: a field, or no field (FD10)
pub data Asked : Type 0 where
  no_field : Asked
  field : FieldShown → Asked

-- the first field of a list
unfoldable pub first_in : List FieldShown → Asked
first_in [] = no_field
first_in (f ∷ fs) = field f

-- the fields after the first
unfoldable pub rest_in : List FieldShown → List FieldShown
rest_in [] = []
rest_in (f ∷ fs) = fs

-- field i, counted from 0 (FD10)
unfoldable pub nth_in : ℕ → List FieldShown → Asked
nth_in zero fs = first_in fs
nth_in (suc i) fs = nth_in i (rest_in fs)

-- the tag of a field
unfoldable pub shown_tag : FieldShown → ℕ
shown_tag (raw t v) = t
shown_tag withdrawn = 3

-- the value of a field; empty if it is withdrawn (FD9)
unfoldable pub shown_value : FieldShown → List ℕ
shown_value (raw t v) = v
shown_value withdrawn = []

-- the first field with tag t (FD10)
unfoldable pub of_tag : ℕ → List FieldShown → Asked
of_tag t [] = no_field
of_tag t (f ∷ fs) = cond (eqb (shown_tag f) t) (field f) (of_tag t fs)

-- the value of a lookup's result; empty if there is no field
unfoldable pub value_in : Asked → List ℕ
value_in no_field = []
value_in (field f) = shown_value f

-- ---- by place in the page
-- the field at a place; no field if the place is not within the page
unfoldable pub field_as : Option FieldPlace → List ℕ → Asked
field_as (Some (Raw t at n)) page = cond (leb (at + n) (length page)) (field (raw t (part at n page))) no_field
field_as (Some Withdrawn) page = field withdrawn
field_as None page = no_field

-- the span of a field's value; empty if the field is withdrawn or absent
unfoldable pub place_span : Option FieldPlace → Span
place_span (Some (Raw t at n)) = record { at = at; len = n }
place_span (Some Withdrawn) = record { at = 0; len = 0 }
place_span None = record { at = 0; len = 0 }
