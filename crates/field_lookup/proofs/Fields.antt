-- Laws of the lookups of fields. Assumes nothing.
use Prim.Native.Nat.{ℕ, zero, suc, ◌+◌, ◌-◌, ◌%◌, ◌<◌}
use mathlib.Core.Path.{◌≡◌, refl, sym, ap, ◌∙◌}
use mathlib.Core.Bool.{Bool, true, false, cond, false≢true}
use mathlib.Core.List.{List, [], ◌∷◌}
use native.Mathlib.Omega.{arith}
use native.Mathlib.Decide.{dec_lt}
use lib.ListN.{length, take, drop, length-drop}
use lib.Seq.{take_all}
use lib.Dec.{leb, eqb, leb-zero}
use borrow.Author.Tests.{eqb-true, eq-eqb, ne_eqb, le-leb}
use Rattle.words.specs.Word.{part, spanned}
use Rattle.words.proofs.Tests.{same_test}
use Rattle.fields.specs.Fields.{Field, Scanned, broken, ended, bare, scan_of, fields_in, is_ended, FieldShown, raw, withdrawn, shown_fields}
use Rattle.fields.specs.Steps.{fields_from, end_told, step_at}
use Rattle.fields.specs.declared.FieldPlace.{FieldPlace}
use Rattle.fields.specs.declared.FieldPlace.TheVariants.{Raw, Withdrawn}
use Rattle.fields.specs.declared.FieldStep.{FieldStep}
use Rattle.std.proofs.Common.{Option, Some, None, is_none}
use Rattle.fields.proofs.Scans.{never}
use Rattle.fields.proofs.Rules.{no_test}
use Rattle.fields.proofs.Stops.{told-out}
use Rattle.fields.proofs.Steps.{step-cases}
use Rattle.fields.proofs.Walks.{none_told, from_out, from_told}
use Rattle.reader.specs.Answer.{fields_shown}
use Rattle.reader.specs.Reading.{fields_of, reading_answer}
use Rattle.reader.specs.declared.View.{View}
use Rattle.std.specs.Prelude.{Ok}
use Rattle.field_lookup.specs.Fields.{no_field, field, first_in, rest_in, nth_in, shown_tag, shown_value, of_tag, value_in, field_as}
use Rattle.field_lookup.specs.Fields.{place_span}
use Rattle.field_lookup.specs.Steps.{shown_from, start_at, place_nth, search_ends, place_tagged, nth_place, tag_place, place_tag}

-- ---- the fields of a view
pub view_fields : (page : List ℕ) (v : View) → fields_shown (reading_answer page (Ok v)) ≡ shown_fields
    (fields_in (fields_of v.plat page))
unfolding fields_shown reading_answer
view_fields page v = refl

no_fields : (page : List ℕ) (v : View) (fs : List Field) → fields_in (fields_of v.plat page) ≡ fs →
    shown_fields fs ≡ fields_shown (reading_answer page (Ok v))
no_fields page v fs h = sym (view_fields page v ∙ ap shown_fields h)

fields-none : (q : ℕ) (page : List ℕ) → q ≡ 0 → fields_in (fields_of q page) ≡ []
unfolding fields_of fields_in
fields-none q page z = rw (eq-eqb q 0 z)

fields-some : (q : ℕ) (page : List ℕ) → (q ≡ 0 → ⊥) → fields_of q page ≡ scan_of (drop (q % 4096) page)
unfolding fields_of
fields-some q page z = rw (ne_eqb q 0 z)

told-not : (s : Scanned) → end_told s ≡ None → is_ended s ≡ false
unfolding end_told is_ended
told-not broken h = refl
told-not (ended fs n) h = never (cc)
told-not (bare fs) h = refl

told-yes : (s : Scanned) (n : ℕ) → end_told s ≡ Some n → is_ended s ≡ true
unfolding end_told is_ended
told-yes broken n h = never (cc)
told-yes (ended fs m) n h = refl
told-yes (bare fs) n h = never (cc)

module _ (page : List ℕ) (v : View) where
  -- the cursor at which a walk starts
  pub start_none : v.plat ≡ 0 → length page ≡ start_at v.plat page
  unfolding start_at
  start_none z = rw (eq-eqb v.plat 0 z)

  pub start-broken : (v.plat ≡ 0 → ⊥) → end_told (scan_of (drop (v.plat % 4096) page)) ≡ None →
      length page ≡ start_at v.plat page
  unfolding start_at
  start-broken z h = rw (ne_eqb v.plat 0 z, told-not (scan_of (drop (v.plat % 4096) page)) h)

  pub start-there : (v.plat ≡ 0 → ⊥) → (n : ℕ) → end_told (scan_of (drop (v.plat % 4096) page)) ≡ Some n →
      v.plat % 4096 ≡ start_at v.plat page
  unfolding start_at
  start-there z n h = rw (ne_eqb v.plat 0 z, told-yes (scan_of (drop (v.plat % 4096) page)) n h)

  by-told : (v.plat ≡ 0 → ⊥) → (d : Option ℕ) → end_told (scan_of (drop (v.plat % 4096) page)) ≡ d →
      shown_from (start_at v.plat page) page ≡ fields_shown (reading_answer page (Ok v))
  unfolding shown_from
  by-told z None h =
      rw (← start-broken z h)
      (no_fields page v (fields_from (length page) page)
      (ap fields_in (fields-some v.plat page z) ∙ none_told (scan_of (drop (v.plat % 4096) page)) h ∙
      sym (from_out (length page) page (omega arith))))
  by-told z (Some n) h =
      rw (← start-there z n h)
      (no_fields page v (fields_from (v.plat % 4096) page) (ap fields_in (fields-some v.plat page z) ∙
      sym (from_told (v.plat % 4096) page n h)))

  -- the walk passes the fields that are shown
  pub started : shown_from (start_at v.plat page) page ≡ fields_shown (reading_answer page (Ok v))
  unfolding shown_from
  started = go (dec_lt 0 v.plat)
    where
      go : Dec (0 < v.plat) → shown_from (start_at v.plat page) page ≡ fields_shown (reading_answer page (Ok v))
      go (yes n) = by-told (λ z. omega arith) (end_told (scan_of (drop (v.plat % 4096) page))) refl
      go (no n) =
          let z : v.plat ≡ 0 = omega arith in
          rw (← start_none z) (no_fields page v (fields_from (length page) page)
          (fields-none v.plat page z ∙ sym (from_out (length page) page (omega arith))))

  -- ---- the number of fields
  shown-length : (fs : List Field) → length (shown_fields fs) ≡ length fs
  unfolding shown_fields
  shown-length [] = refl
  shown-length (f ∷ fs) = ap suc (shown-length fs)

  by_count : (s : Scanned) → fields_of v.plat page ≡ s → length (fields_in s) ≡ length (fields_shown (reading_answer page (Ok v)))
  by_count s h = sym (ap length (view_fields page v) ∙ shown-length (fields_in (fields_of v.plat page)) ∙ ap (λ x. length (fields_in x)) h)

  pub count_none : v.plat ≡ 0 → 0 ≡ length (fields_shown (reading_answer page (Ok v)))
  count_none z = sym (ap length (fields-none v.plat page z)) ∙ by_count (fields_of v.plat page) refl

  pub count-there : (v.plat ≡ 0 → ⊥) → length (fields_in (scan_of (drop (v.plat % 4096) page))) ≡ length
      (fields_shown (reading_answer page (Ok v)))
  count-there z = by_count (scan_of (drop (v.plat % 4096) page)) (fields-some v.plat page z)

  pub count-out : (v.plat ≡ 0 → ⊥) → length page < v.plat % 4096 → 0 ≡ length (fields_shown (reading_answer page (Ok v)))
  count-out z h =
      sym (ap length (none_told (scan_of (drop (v.plat % 4096) page)) (told-out (v.plat % 4096) page (omega arith)))) ∙ count-there z

pub lent-on : (at : ℕ) (page : List ℕ) → take (length page - at) (drop at page) ≡ drop at page
lent-on at page = take_all (length page - at) (drop at page) (rw length-drop (omega arith))

-- ---- a step
pub step-shown : (at : ℕ) (page : List ℕ) →
    (field_as (step_at at page).field page ≡ first_in (shown_from at page)) ×
    (shown_from (step_at at page).next page ≡ rest_in (shown_from at page))
unfolding field_as first_in rest_in shown_from shown_fields
step-shown at page =
    step-cases at page (λ s. (field_as s.field page ≡ first_in (shown_from at page)) ×
    (shown_from s.next page ≡ rest_in (shown_from at page)))
    (λ h. rw (h, from_out (length page) page (omega arith)) (refl, refl))
    (λ x l r h. rw h (refl, refl))
    (λ t v m x r. rw (r.shown, le-leb (v + m) (length page) (omega (arith, r.next, r.within))) (refl, refl))

-- what the code's step promises, from its equation
pub stepped : (at : ℕ) (page : List ℕ) (s : FieldStep) → s ≡ step_at at page →
    (s ≡ step_at at page) × ((field_as s.field page ≡ first_in (shown_from at page)) ×
    (shown_from s.next page ≡ rest_in (shown_from at page)))
stepped at page s h = (
  h,
  (
    ap (λ (x : FieldStep). field_as x.field page) h ∙ (step-shown at page).0,
    ap (λ (x : FieldStep). shown_from x.next page) h ∙ (step-shown at page).1,
  ),
)

-- the field that is shown at a place
unfoldable pub place_shown : Option FieldPlace → List ℕ → FieldShown
place_shown (Some (Raw t at n)) page = raw t (part at n page)
place_shown (Some Withdrawn) page = withdrawn
place_shown None page = withdrawn

-- a field at the cursor is the first of those left
some-by : (at : ℕ) (page : List ℕ) → is_none (step_at at page).field ≡ false →
    (field_as (step_at at page).field page ≡ field (place_shown (step_at at page).field page))
    × (shown_from at page ≡ place_shown (step_at at page).field page ∷ shown_from (step_at at page).next page)
unfolding field_as place_shown shown_from
some-by at page =
    step-cases at page (λ s. is_none s.field ≡ false →
    (field_as s.field page ≡ field (place_shown s.field page)) ×
    (shown_from at page ≡ place_shown s.field page ∷ shown_from s.next page))
    (λ h n. absurd (false≢true (sym n)))
    (λ x l r h n. (refl, h))
    (λ t v m x r n. (rw (le-leb (v + m) (length page) (omega (arith, r.next, r.within))), r.shown))

module _ (at : ℕ) (page : List ℕ) (h : is_none (step_at at page).field ≡ false) where
  pub step-some : shown_from at page ≡ place_shown (step_at at page).field page ∷ shown_from (step_at at page).next page
  step-some = (some-by at page h).1

  pub step-first : field_as (step_at at page).field page ≡ field (place_shown (step_at at page).field page)
  step-first = (some-by at page h).0

  -- each step leaves fewer fields, so a walk ends
  pub step_less : length (shown_from (step_at at page).next page) < length (shown_from at page)
  step_less = rw step-some (omega arith)

-- no field at the cursor: none is left
first-none : (fs : List FieldShown) → no_field ≡ first_in fs → fs ≡ []
unfolding first_in
first-none [] h = refl
first-none (f ∷ fs) h = never (cc)

nothing_is : (f : Option FieldPlace) → is_none f ≡ true → f ≡ None
nothing_is (Some f) h = absurd (false≢true h)
nothing_is None h = refl

pub step-none : (at : ℕ) (page : List ℕ) → is_none (step_at at page).field ≡ true → shown_from at page ≡ []
unfolding field_as
step-none at page h = first-none (shown_from at page) (sym (ap (λ f. field_as f page) (nothing_is _ h)) ∙ (step-shown at page).0)

-- ---- field i, for the loop
none-step : (at : ℕ) (page : List ℕ) → shown_from at page ≡ [] → (step_at at page).field ≡ None
unfolding shown_from
none-step at page =
    step-cases at page (λ s. shown_from at page ≡ [] → s.field ≡ None) (λ h n. refl) (λ x l r h n. never (let z = rw h at n in cc))
    (λ t v m x r n. never (let z = rw r.shown at n in cc))

none-next : (at : ℕ) (page : List ℕ) → (step_at at page).field ≡ None → (step_at (step_at at page).next page).field ≡ None
unfolding rest_in
none-next at page h = none-step (step_at at page).next page ((step-shown at page).1 ∙ ap rest_in (step-none at page (ap is_none h)))

none-nth : (i at : ℕ) (page : List ℕ) → (step_at at page).field ≡ None → None ≡ place_nth i at page
unfolding place_nth
none-nth zero at page h = sym h
none-nth (suc i) at page h = none-nth i (step_at at page).next page (none-next at page h)

pub nth-none : (i at : ℕ) (page : List ℕ) → is_none (step_at at page).field ≡ true → (step_at at page).field ≡ place_nth i at page
nth-none i at page h = let e = nothing_is _ h in e ∙ none-nth i at page e

pub nth_here : (i at : ℕ) (page : List ℕ) → i ≡ 0 → (step_at at page).field ≡ place_nth i at page
unfolding place_nth
nth_here i at page z = rw z

pub nth-later : (i at : ℕ) (page : List ℕ) → (i ≡ 0 → ⊥) → place_nth (i - 1) (step_at at page).next page ≡ place_nth i at page
unfolding place_nth
nth-later zero at page z = absurd (z refl)
nth-later (suc i) at page z = let e : suc i - 1 ≡ i = omega arith in rw e

nth-shown : (i at : ℕ) (page : List ℕ) → field_as (place_nth i at page) page ≡ nth_in i (shown_from at page)
unfolding place_nth nth_in
nth-shown zero at page = (step-shown at page).0
nth-shown (suc i) at page = nth-shown i (step_at at page).next page ∙ ap (nth_in i) (step-shown at page).1

pub nth-place : (i : ℕ) (v : View) (page : List ℕ) → field_as (nth_place i v page) page ≡ nth_in i
    (fields_shown (reading_answer page (Ok v)))
unfolding nth_place
nth-place i v page = nth-shown i (start_at v.plat page) page ∙ ap (nth_in i) (started page v)

-- ---- the first field with a tag, for the loop
pub eqb-sym : (m n : ℕ) → eqb m n ≡ eqb n m
eqb-sym m n = same_test (eqb m n) (eqb n m) (λ h. eq-eqb n m (sym (eqb-true m n h))) (λ h. eq-eqb m n (sym (eqb-true n m h)))

ends-none : (t : ℕ) (f : Option FieldPlace) → is_none f ≡ true → search_ends t f ≡ true
unfolding search_ends
ends-none t f h = rw (nothing_is f h)

ends-tag : (t : ℕ) (f : Option FieldPlace) (page : List ℕ) → is_none f ≡ false → search_ends t f ≡ eqb (shown_tag (place_shown f page)) t
unfolding search_ends place_tag place_shown shown_tag
ends-tag t (Some (Raw u v m)) page h = refl
ends-tag t (Some Withdrawn) page h = refl
ends-tag t None page h = absurd (false≢true (sym h))

pub goes_on : (t : ℕ) (f : Option FieldPlace) → search_ends t f ≡ false → is_none f ≡ false
goes_on t f h = no_test (is_none f) (λ y. false≢true (sym h ∙ ends-none t f y))

module _ (t at : ℕ) (page : List ℕ) where
  ends_by : (b : Bool) → is_none (step_at at page).field ≡ b → search_ends t (step_at at page).field ≡ true →
      (step_at at page).field ≡ place_tagged t (length (shown_from at page)) at page
  unfolding place_tagged
  ends_by true n h = rw (step-none at page n) (nothing_is _ n)
  ends_by false n h = rw (step-some at page n, h)

  pub tag-here : search_ends t (step_at at page).field ≡ true → (step_at at page).field ≡ place_tagged t (length (shown_from at page)) at page
  tag-here h = ends_by (is_none (step_at at page).field) refl h

  pub tag-later : search_ends t (step_at at page).field ≡ false →
      place_tagged t (length (shown_from (step_at at page).next page)) (step_at at page).next page ≡ place_tagged t
      (length (shown_from at page)) at page
  unfolding place_tagged
  tag-later h = rw (step-some at page (goes_on t (step_at at page).field h), h)

tag_one : (t at : ℕ) (page : List ℕ) → ((x : ℕ) → suc (length (shown_from x page)) ≡ length (shown_from at page) →
    field_as (place_tagged t (length (shown_from x page)) x page) page ≡ of_tag t (shown_from x page)) →
    (b : Bool) → is_none (step_at at page).field ≡ b → field_as (place_tagged t (length (shown_from at page)) at page) page ≡ of_tag t
    (shown_from at page)
unfolding field_as of_tag
tag_one t at page ih true n = rw (← tag-here t at page (ends-none t _ n), nothing_is _ n, step-none at page n)
tag_one t at page ih false n = go (search_ends t (step_at at page).field) refl
  where
    go : (b : Bool) → search_ends t (step_at at page).field ≡ b →
        field_as (place_tagged t (length (shown_from at page)) at page) page ≡ of_tag t (shown_from at page)
    go true e =
        ap (λ g. field_as g page) (sym (tag-here t at page e)) ∙ step-first at page n ∙
        rw (step-some at page n, sym (ends-tag t _ page n) ∙ e)
    go false e =
        ap (λ g. field_as g page) (sym (tag-later t at page e)) ∙ ih (step_at at page).next (rw (step-some at page n)) ∙
        rw (step-some at page n, sym (ends-tag t _ page n) ∙ e)

tag-shown : (n t at : ℕ) (page : List ℕ) → n ≡ length (shown_from at page) →
    field_as (place_tagged t (length (shown_from at page)) at page) page ≡ of_tag t (shown_from at page)
tag-shown zero t at page h = tag_one t at page (λ x e. absurd (let z : ⊥ = omega arith in z)) (is_none (step_at at page).field) refl
tag-shown (suc n) t at page h = tag_one t at page (λ x e. tag-shown n t x page (omega arith)) (is_none (step_at at page).field) refl

pub tag-place : (t : ℕ) (v : View) (page : List ℕ) → field_as (tag_place t v page) page ≡ of_tag t
    (fields_shown (reading_answer page (Ok v)))
unfolding tag_place
tag-place t v page =
    tag-shown (length (shown_from (start_at v.plat page) page)) t (start_at v.plat page) page refl ∙ ap (of_tag t) (started page v)

-- ---- the value
cond_value : (b : Bool) (t : ℕ) (v : List ℕ) → cond b v [] ≡ value_in (cond b (field (raw t v)) no_field)
unfolding value_in shown_value
cond_value true t v = refl
cond_value false t v = refl

pub value_there : (f : Option FieldPlace) (page : List ℕ) → spanned (place_span f) page ≡ value_in (field_as f page)
unfolding spanned place_span field_as part value_in shown_value
value_there (Some (Raw t at n)) page = cond_value (leb (at + n) (length page)) t (part at n page)
value_there (Some Withdrawn) page = rw leb-zero
value_there None page = rw leb-zero
