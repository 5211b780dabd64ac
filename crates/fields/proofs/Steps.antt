-- Laws of the step that callers see. Assumes nothing.
use Prim.Native.Nat.{ℕ, ◌+◌, ◌≤◌, ◌<◌}
use mathlib.Core.Path.{◌≡◌, refl}
use mathlib.Core.Bool.{Bool, true, false, cond}
use mathlib.Core.List.{List, [], ◌∷◌}
use native.Mathlib.Omega.{arith}
use borrow.Author.Tests.{eq-eqb, ne_eqb}
use lib.ListN.{length, get_or}
use lib.Dec.{eqb}
use Rattle.words.specs.Word.{part, num_at}
use Rattle.fields.specs.Fields.{mk_field, raw, withdrawn, shown_field, shown_fields}
use Rattle.fields.specs.Steps.{head_at, fields_from, field_place_of, field_step_of, step_at}
use Rattle.std.proofs.Common.{Option, Some, None}
use Rattle.fields.specs.declared.Head.{Head}
use Rattle.fields.specs.declared.Head.TheVariants as head
use Rattle.fields.specs.declared.FieldPlace.TheVariants.{Raw, Withdrawn}
use Rattle.fields.specs.declared.FieldStep.{FieldStep}
use Rattle.fields.proofs.Scans.{never, NoField, head-room, head-told}
use Rattle.fields.proofs.Walks.{from-stop, from_field}

-- ---- by the head at the offset
pub step-stop : (at : ℕ) (bs : List ℕ) (d : Option Head) → head_at at bs ≡ d → NoField d →
    record { field = None; next = length bs } ≡ step_at at bs
unfolding step_at field_step_of
step-stop at bs None e k = rw e
step-stop at bs (Some head.End) e k = rw e
step-stop at bs (Some (head.Field t v m x)) e k = absurd (k t v m x refl)

pub step-there : (at : ℕ) (bs : List ℕ) {t v m x : ℕ} → head_at at bs ≡ Some (head.Field t v m x) →
    record { field = Some (field_place_of t v m); next = x } ≡ step_at at bs
unfolding step_at field_step_of
step-there at bs e = rw e

-- ---- by what is shown
-- a field shown with its value: its tag and length are before the value, all of it is within the bytes, and the other shown fields are
-- those after it
pub record RawAt (at : ℕ) (bs : List ℕ) (t v m x : ℕ) : Type 0 where
  pub tag : get_or bs at 0 ≡ t
  pub len : num_at 2 (at + 1) bs ≡ m
  pub value : v ≡ at + 3
  pub next : x ≡ v + m
  pub within : x ≤ length bs
  pub shown : shown_fields (fields_from at bs) ≡ raw t (part v m bs) ∷ shown_fields (fields_from x bs)

-- a step finds no field, the withdrawn field, or a field shown with its value
module _ (at : ℕ) (bs : List ℕ) (P : FieldStep → Type 0)
    (none : shown_fields (fields_from at bs) ≡ [] → P (record { field = None; next = length bs }))
    (gone : (x : ℕ) → at < x → x ≤ length bs → shown_fields (fields_from at bs) ≡ withdrawn ∷ shown_fields (fields_from x bs) →
    P (record { field = Some Withdrawn; next = x }))
    (there : (t v m x : ℕ) → RawAt at bs t v m x → P (record { field = Some (Raw t v m); next = x })) where
  by-head : (d : Option Head) → head_at at bs ≡ d → P (field_step_of d (length bs))
  unfolding field_step_of field_place_of shown_fields shown_field mk_field
  by-head None e = none (rw (from-stop at bs None e (λ t v m x z. never (cc))))
  by-head (Some head.End) e = none (rw (from-stop at bs (Some head.End) e (λ t v m x z. never (cc))))
  by-head (Some (head.Field t v m x)) e = go (eqb t 3) refl
    where
      go : (b : Bool) → eqb t 3 ≡ b → P (record { field = Some (cond b Withdrawn (Raw t v m)); next = x })
      go true h = let r = head-room at bs e in gone x (omega arith) (omega arith) (rw (from_field at bs e, h))
      go false h =
          let r = head-room at bs e in
          let w = head-told at bs e in
          there t v m x (record {
            tag = w.0;
            len = w.1;
            value = r.0;
            next = omega arith;
            within = omega arith;
            shown = rw (from_field at bs e, h);
          })

  pub step-cases : P (step_at at bs)
  unfolding step_at
  step-cases = by-head (head_at at bs) refl
