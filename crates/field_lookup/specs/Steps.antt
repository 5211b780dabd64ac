-- For the loops over a page's fields, by cursor. `started`, `nth-place` and `tag-place` (proofs/Fields.antt) prove `shown_from`, `nth_place` and `tag_place`
-- equal to `fields_shown` (reader/specs/Answer.antt), `nth_in` and `of_tag` (Fields.antt). Assumes nothing.
use Rattle.std.specs.Prelude.{ℕ, zero, suc, ◌%◌, Bool, true, false, cond, List, length, drop, eqb, Option, Some, None}
use Rattle.fields.specs.Fields.{FieldShown, shown_fields, scan_of, is_ended}
use Rattle.fields.specs.Steps.{fields_from, step_at}
use Rattle.fields.specs.declared.FieldPlace.{FieldPlace}
use Rattle.fields.specs.declared.FieldPlace.TheVariants.{Raw, Withdrawn}
use Rattle.reader.specs.declared.View.{View}

-- the fields from cursor `at` on
unfoldable pub shown_from : ℕ → List ℕ → List FieldShown
shown_from at page = shown_fields (fields_from at page)

-- the cursor at the first field of platform pointer q; the page's length if there is no pointer or the fields are broken (FD10, RD15)
unfoldable pub start_at : ℕ → List ℕ → ℕ
start_at q page = cond (eqb q 0) (length page) (cond (is_ended (scan_of (drop (q % 4096) page))) (q % 4096) (length page))

-- the place of field i, counted from cursor `at`
unfoldable pub place_nth : ℕ → ℕ → List ℕ → Option FieldPlace
place_nth zero at page = (step_at at page).field
place_nth (suc i) at page = place_nth i (step_at at page).next page

-- the tag of the field at a place
unfoldable pub place_tag : FieldPlace → ℕ
place_tag (Raw t at n) = t
place_tag Withdrawn = 3

-- a search for tag t ends at this field: it has the tag, or no field is left
unfoldable pub search_ends : ℕ → Option FieldPlace → Bool
search_ends t (Some f) = eqb (place_tag f) t
search_ends t None = true

-- the place of the first of the next n fields with tag t
unfoldable pub place_tagged : ℕ → ℕ → ℕ → List ℕ → Option FieldPlace
place_tagged t zero at page = None
place_tagged t (suc n) at page =
    let s = step_at at page in
    cond (search_ends t s.field) s.field (place_tagged t n s.next page)

-- the place of field i of a view
unfoldable pub nth_place : ℕ → View → List ℕ → Option FieldPlace
nth_place i v page = place_nth i (start_at v.plat page) page

-- the place of the first field of a view with tag t
unfoldable pub tag_place : ℕ → View → List ℕ → Option FieldPlace
tag_place t v page = place_tagged t (length (shown_from (start_at v.plat page) page)) (start_at v.plat page) page
