-- The fields that are left at an offset, for the loop over them. Assumes nothing.
use Prim.Native.Nat.{ℕ, zero, suc, ◌+◌, ◌≤◌, ◌<◌}
use mathlib.Core.Path.{◌≡◌, refl, sym, ap, ◌∙◌}
use mathlib.Core.Bool.{Bool, true, false≢true}
use mathlib.Core.List.{List, [], ◌∷◌}
use native.Mathlib.Omega.{arith}
use native.Mathlib.Decide.{dec_lt}
use borrow.Author.Tests.{lt-ltb}
use lib.ListN.{length, drop, drop_of_length-le}
use Rattle.words.specs.Word.{part, num_at}
use Rattle.fields.specs.Fields.{Field, mk_field, Scanned, broken, ended, bare, push, scan, scan_all, scan_of, fields_ok, fields_in}
use Rattle.fields.specs.Fields.{is_ended}
use Rattle.fields.specs.Steps.{head_of, head_at, end_told, walked_on, walked, fields_from}
use Rattle.fields.specs.declared.Head.{Head}
use Rattle.fields.specs.declared.Head.TheVariants as head
use Rattle.std.proofs.Common.{Option, Some, None}
use Rattle.fields.proofs.Rules.{judged-passed}
use Rattle.fields.proofs.Scans.{never, NoField, follow, head-scan, head-room}

-- the fields from `at` on
unfoldable pub fields_after : ℕ → List ℕ → List Field
fields_after at bs = fields_in (scan_all (drop at bs))

-- whether an end mark follows
unfoldable pub ends : ℕ → List ℕ → Bool
ends at bs = is_ended (scan_all (drop at bs))

-- ---- one field in front
push-ends : (f : Field) (s : Scanned) → is_ended (push f s) ≡ is_ended s
unfolding is_ended push
push-ends f broken = refl
push-ends f (ended fs n) = refl
push-ends f (bare fs) = refl

push-fields : (f : Field) (s : Scanned) → is_ended s ≡ true → fields_in (push f s) ≡ f ∷ fields_in s
unfolding is_ended push fields_in
push-fields f broken h = absurd (false≢true h)
push-fields f (ended fs n) h = refl
push-fields f (bare fs) h = absurd (false≢true h)

-- ---- the loop's laws: the start, the exits, and one turn
told-ended : (s : Scanned) (n : ℕ) {P : Type 0} → end_told s ≡ Some n → ((fs : List Field) → s ≡ ended fs n → P) → P
unfolding end_told
told-ended broken n h k = never (cc)
told-ended (ended fs m) n h k = k fs (cc)
told-ended (bare fs) n h k = never (cc)

pub left-start : (bs : List ℕ) (n : ℕ) → end_told (scan_of bs) ≡ Some n →
    (fields_after 0 bs ≡ fields_in (scan_of bs)) × (ends 0 bs ≡ true)
unfolding fields_after ends is_ended scan_of
left-start bs n h =
    told-ended (scan_of bs) n h (λ fs e.
    let j = judged-passed fields_ok (scan_all bs) (ended fs n) (λ z. never (cc)) e in
    (ap fields_in (j.0 ∙ sym e), ap is_ended j.0))

pub none_told : (s : Scanned) → end_told s ≡ None → fields_in s ≡ []
unfolding end_told fields_in
none_told broken h = refl
none_told (ended fs n) h = never (cc)
none_told (bare fs) h = refl

pub left-edge : (at : ℕ) (bs : List ℕ) → length bs ≤ at → fields_after at bs ≡ []
unfolding fields_after scan_all scan fields_in
left-edge at bs h = rw (drop_of_length-le bs h)

-- an offset without a field: no field is left, at an end mark and at bytes that are cut short
left_not : (at : ℕ) (bs : List ℕ) (d : Option Head) → head_at at bs ≡ d → NoField d → Dec (at < length bs) →
    fields_after at bs ≡ []
unfolding fields_after follow fields_in
left_not at bs d e k (no l) = left-edge at bs (omega arith)
left_not at bs None e k (yes l) = rw (head-scan at bs l, e)
left_not at bs (Some head.End) e k (yes l) = rw (head-scan at bs l, e)
left_not at bs (Some (head.Field t v n x)) e k (yes l) = absurd (k _ _ _ _ refl)

pub left-stop : (at : ℕ) (bs : List ℕ) (d : Option Head) → head_at at bs ≡ d → NoField d → fields_after at bs ≡ []
left-stop at bs d e k = left_not at bs d e k (dec_lt at (length bs))

module _ (at : ℕ) (bs : List ℕ) {t v n x : ℕ} (e : head_at at bs ≡ Some (head.Field t v n x)) where
  there : at < length bs
  there = let r = head-room at bs e in omega arith

  pub left-ends : ends at bs ≡ ends x bs
  unfolding ends follow
  left-ends = rw (head-scan at bs there, e) (push-ends (mk_field t (part v n bs)) (scan_all (drop x bs)))

  pub left-field : ends at bs ≡ true → fields_after at bs ≡ mk_field t (part v n bs) ∷ fields_after x bs
  unfolding fields_after ends follow
  left-field g = rw (head-scan at bs there, e) (push-fields (mk_field t (part v n bs)) (scan_all (drop x bs)) (sym left-ends ∙ g))

-- ---- a walk from an offset passes the fields that are left, in order
walked-on : (n at : ℕ) (bs : List ℕ) → length bs ≤ at + suc n → ends at bs ≡ true →
    ((x : ℕ) → length bs ≤ x + n → ends x bs ≡ true → walked n x bs ≡ fields_after x bs) → (d : Option Head) → head_at at bs ≡ d →
    walked_on d bs (λ x. walked n x bs) ≡ fields_after at bs
unfolding walked_on
walked-on n at bs h g ih None e = sym (left-stop at bs None e (λ t v m x z. never (cc)))
walked-on n at bs h g ih (Some head.End) e = sym (left-stop at bs (Some head.End) e (λ t v m x z. never (cc)))
walked-on n at bs h g ih (Some (head.Field t v m x)) e =
    let r = head-room at bs e in
    rw (left-field at bs e g, ih x (omega arith) (sym (left-ends at bs e) ∙ g))

pub walked-left : (n at : ℕ) (bs : List ℕ) → length bs ≤ at + n → ends at bs ≡ true → walked n at bs ≡ fields_after at bs
unfolding walked
walked-left zero at bs h g = sym (left-edge at bs (omega arith))
walked-left (suc n) at bs h g = walked-on n at bs h g (λ x. walked-left n x bs) (head_at at bs) refl

-- the cursor's law: from 0 on it passes the fields of the definition, in order
pub walked_all : (bs : List ℕ) (fs : List Field) (m : ℕ) → scan_of bs ≡ ended fs m → walked (length bs) 0 bs ≡ fs
unfolding end_told fields_in
walked_all bs fs m h =
    let s = left-start bs m (ap end_told h) in
    walked-left (length bs) 0 bs (omega arith) s.1 ∙ s.0 ∙ ap fields_in h

-- ---- a walk from any offset, step by step
head-out : (at : ℕ) (bs : List ℕ) → length bs ≤ at → head_at at bs ≡ None
unfolding head_at head_of
head-out at bs h = rw (lt-ltb (length bs) (at + 3 + num_at 2 (at + 1) bs) (omega arith))

walked-out : (n at : ℕ) (bs : List ℕ) → length bs ≤ at → walked n at bs ≡ []
unfolding walked walked_on
walked-out zero at bs h = refl
walked-out (suc n) at bs h = rw (head-out at bs h)

onward-same : (at n m : ℕ) (bs : List ℕ) → ((x : ℕ) → at < x → walked n x bs ≡ walked m x bs) → (d : Option Head) → head_at at bs ≡ d →
    walked_on d bs (λ x. walked n x bs) ≡ walked_on d bs (λ x. walked m x bs)
unfolding walked_on
onward-same at n m bs h None e = refl
onward-same at n m bs h (Some head.End) e = refl
onward-same at n m bs h (Some (head.Field t v k x)) e = let r = head-room at bs e in rw (h x (omega arith))

walked_step : (n m at : ℕ) (bs : List ℕ) → walked_on (head_at at bs) bs (λ x. walked n x bs) ≡ walked_on (head_at at bs) bs
    (λ x. walked m x bs) →
    walked (suc n) at bs ≡ walked (suc m) at bs
unfolding walked
walked_step n m at bs p = p

-- it takes no more steps than there are bytes left
walked-fuel : (n m at : ℕ) (bs : List ℕ) → length bs ≤ at + n → length bs ≤ at + m → walked n at bs ≡ walked m at bs
walked-fuel zero m at bs h g = sym (walked-out m at bs (omega arith) ∙ sym (walked-out zero at bs (omega arith)))
walked-fuel (suc n) zero at bs h g = walked-out (suc n) at bs (omega arith) ∙ sym (walked-out zero at bs (omega arith))
walked-fuel (suc n) (suc m) at bs h g =
    walked_step n m at bs (onward-same at n m bs (λ x l. walked-fuel n m x bs (omega arith) (omega arith)) (head_at at bs) refl)

by-step : (n at : ℕ) (bs : List ℕ) {t v m x : ℕ} → head_at at bs ≡ Some (head.Field t v m x) →
    walked (suc n) at bs ≡ mk_field t (part v m bs) ∷ walked n x bs
unfolding walked walked_on
by-step n at bs e = rw e

by-stop : (n at : ℕ) (bs : List ℕ) (d : Option Head) → head_at at bs ≡ d → NoField d → walked n at bs ≡ []
unfolding walked walked_on
by-stop zero at bs d e k = refl
by-stop (suc n) at bs None e k = rw e
by-stop (suc n) at bs (Some head.End) e k = rw e
by-stop (suc n) at bs (Some (head.Field t v m x)) e k = absurd (k _ _ _ _ refl)

pub from-stop : (at : ℕ) (bs : List ℕ) (d : Option Head) → head_at at bs ≡ d → NoField d → fields_from at bs ≡ []
unfolding fields_from
from-stop at bs d e k = by-stop (length bs) at bs d e k

pub from_out : (at : ℕ) (bs : List ℕ) → length bs ≤ at → fields_from at bs ≡ []
unfolding fields_from
from_out at bs h = walked-out (length bs) at bs h

pub from_field : (at : ℕ) (bs : List ℕ) {t v m x : ℕ} → head_at at bs ≡ Some (head.Field t v m x) →
    fields_from at bs ≡ mk_field t (part v m bs) ∷ fields_from x bs
unfolding fields_from
from_field at bs {t} {v} {m} {x} e =
    let r = head-room at bs e in
    walked-fuel (length bs) (suc (length bs)) at bs (omega arith) (omega arith) ∙ by-step (length bs) at bs e

-- from the start of good fields it passes them all, in order
pub from_told : (at : ℕ) (bs : List ℕ) (n : ℕ) → end_told (scan_of (drop at bs)) ≡ Some n →
    fields_from at bs ≡ fields_in (scan_of (drop at bs))
unfolding fields_from fields_after ends is_ended scan_of
from_told at bs n h =
    told-ended (scan_of (drop at bs)) n h (λ fs e.
    let j = judged-passed fields_ok (scan_all (drop at bs)) (ended fs n) (λ z. never (cc)) e in
    walked-left (length bs) at bs (omega arith) (ap is_ended j.0) ∙ ap fields_in (j.0 ∙ sym e))
