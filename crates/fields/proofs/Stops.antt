-- Where one pass stops, for the loop over the fields. Assumes nothing.
use Prim.Native.Nat.{ℕ, suc, ◌+◌, ◌-◌, ◌≤◌, ◌<◌}
use mathlib.Core.Path.{◌≡◌, refl, ap, ◌∙◌}
use mathlib.Core.Bool.{Bool, true, false, cond, not}
use mathlib.Core.List.{List, ◌∷◌}
use native.Mathlib.Omega.{arith}
use native.Mathlib.Nat.{zero-add, add-zero}
use lib.ListN.{length, take, drop, drop_of_length-le, length-drop}
use lib.Seq.{take_all}
use lib.Dec.{eqb}
use borrow.Author.Tests.{ne_eqb}
use Rattle.words.specs.Tests.{both, either}
use Rattle.words.specs.Word.{part}
use Rattle.fields.specs.Fields.{Field, mk_field, Scanned, broken, ended, bare, push, scan, scan_all, scan_of, judged, fields_ok}
use Rattle.fields.specs.Fields.{lengths_ok, count, fields_in, is_bare, fields_described, describable}
use Rattle.fields.specs.Steps.{head_at, allowed, seen_with, none_seen, stop_of, end_told}
use Rattle.fields.specs.declared.Head.TheVariants as head
use Rattle.fields.specs.declared.Seen.{Seen}
use Rattle.std.proofs.Common.{Option, Some, None}
use Rattle.fields.specs.declared.Stop.{Stop}
use Rattle.fields.specs.declared.Stop.TheVariants as stop
use Rattle.fields.proofs.Scans.{follow, head-scan, head-room, part_length}
use Rattle.fields.proofs.Rules.{ok_from, ok-start, ok-none, ok-not, ok-more, either-false}

-- a stop counted from offset k, after c fields; b is whether tag 3 is among them
unfoldable pub later : ℕ → ℕ → Bool → Option Stop → Option Stop
later k c b None = None
later k c b (Some (stop.Mark n m)) = Some (stop.Mark (k + n) (c + m))
later k c b (Some (stop.Edge a)) = Some (stop.Edge (either b a))

-- where the pass stops from offset `at` on, after c fields with the tags s
unfoldable pub stop_at : ℕ → ℕ → Seen → List ℕ → Option Stop
stop_at at c s bs = later at c s.console (stop_of (judged (ok_from s) (scan_all (drop at bs))))

-- ---- what a stop means: for the reader the extent of the fields, for the writer that there is no mark and no tag 3
unfoldable pub extent_of : Option Stop → Option ℕ
extent_of None = None
extent_of (Some (stop.Mark n m)) = Some n
extent_of (Some (stop.Edge a)) = None

unfoldable pub is_told : Option Stop → Bool
is_told None = false
is_told (Some (stop.Mark n m)) = false
is_told (Some (stop.Edge a)) = not a

unfoldable pub passed_by : Option Stop → ℕ
passed_by None = 0
passed_by (Some (stop.Mark n m)) = m
passed_by (Some (stop.Edge a)) = 0

not-not : (b : Bool) → not (not b) ≡ b
not-not true = refl
not-not false = refl

pub extent-told : (s : Scanned) → extent_of (stop_of s) ≡ end_told s
unfolding extent_of stop_of end_told
extent-told broken = refl
extent-told (ended fs n) = refl
extent-told (bare fs) = refl

pub passed-told : (s : Scanned) → passed_by (stop_of s) ≡ length (fields_in s)
unfolding passed_by stop_of fields_in
passed-told broken = refl
passed-told (ended fs n) = refl
passed-told (bare fs) = refl

pub told-tellable : (s : Scanned) → is_told (stop_of s) ≡ describable s
unfolding is_told stop_of describable is_bare fields_described both
told-tellable broken = refl
told-tellable (ended fs n) = refl
told-tellable (bare fs) = not-not (eqb (count 3 fs) 0)

-- ---- from an offset on: past the end, and within the slice as the code lends it
pub told-out : (at : ℕ) (bs : List ℕ) → length bs ≤ at → end_told (scan_of (drop at bs)) ≡ None
unfolding end_told scan_of scan_all scan judged fields_ok lengths_ok count both
told-out at bs h = rw (drop_of_length-le bs h)

-- ---- one field in front
judged-same : (ok ok' : List Field → Bool) (r : Scanned) → ((fs : List Field) → ok fs ≡ ok' fs) → judged ok r ≡ judged ok' r
unfolding judged
judged-same ok ok' broken h = refl
judged-same ok ok' (ended fs n) h = rw (h fs)
judged-same ok ok' (bare fs) h = rw (h fs)

push-not : (ok : List Field → Bool) (f : Field) (r : Scanned) → ((fs : List Field) → ok (f ∷ fs) ≡ false) → judged ok (push f r) ≡ broken
unfolding judged push
push-not ok f broken h = refl
push-not ok f (ended fs n) h = rw (h fs)
push-not ok f (bare fs) h = rw (h fs)

-- tag 3 is met now, was seen before, or comes later
met-more : (e b : Bool) (n : ℕ) → either b (not (eqb (cond e 1 0 + n) 0)) ≡ either (either e b) (not (eqb n 0))
unfolding either
met-more true true n = refl
met-more true false n = rw (ne_eqb (1 + n) 0 (λ z. omega arith))
met-more false b n = rw zero-add

push-more : (ok ok' : List Field → Bool) (f : Field) (r : Scanned) (at c : ℕ) (seen : Bool) → ((fs : List Field) → ok (f ∷ fs) ≡ ok' fs) →
    later at c seen (stop_of (judged ok (push f r))) ≡ later (at + 3 + length f.value) (c + 1) (either (eqb f.tag 3) seen)
    (stop_of (judged ok' r))
unfolding judged push later stop_of count
push-more ok ok' f broken at c seen h = refl
push-more ok ok' f (bare fs) at c seen h = rw (h fs) (go (ok' fs))
  where
    go : (b : Bool) → later at c seen (stop_of (cond b (bare (f ∷ fs)) broken)) ≡ later (at + 3 + length f.value) (c + 1)
        (either (eqb f.tag 3) seen) (stop_of (cond b (bare fs) broken))
    go true = ap (λ x. Some (stop.Edge x)) (met-more (eqb f.tag 3) seen (count 3 fs))
    go false = refl
push-more ok ok' f (ended fs n) at c seen h = rw (h fs) (go (ok' fs))
  where
    go : (b : Bool) → later at c seen (stop_of (cond b (ended (f ∷ fs) (3 + length f.value + n)) broken)) ≡ later
        (at + 3 + length f.value) (c + 1) (either (eqb f.tag 3) seen) (stop_of (cond b (ended fs n) broken))
    go true =
        let p : at + (3 + length f.value + n) ≡ at + 3 + length f.value + n = omega arith in
        let q : c + suc (length fs) ≡ c + 1 + length fs = omega arith in
        ap (λ x. Some (stop.Mark x (c + suc (length fs)))) p ∙ ap (λ x. Some (stop.Mark (at + 3 + length f.value + n) x)) q
    go false = refl

-- ---- the loop's laws: the start, the four exits, and one turn
later-zero : (s : Option Stop) → later 0 0 false s ≡ s
unfolding later either
later-zero None = refl
later-zero (Some (stop.Mark n m)) = rw (zero-add, zero-add)
later-zero (Some (stop.Edge a)) = refl

pub stop-start : (bs : List ℕ) → stop_at 0 0 none_seen bs ≡ stop_of (scan_of bs)
unfolding stop_at scan_of none_seen
stop-start bs = rw (later-zero, judged-same (ok_from none_seen) fields_ok (scan_all bs) ok-start)

pub stop-edge : (at c : ℕ) (s : Seen) (bs : List ℕ) → length bs ≤ at → stop_at at c s bs ≡ Some (stop.Edge s.console)
unfolding stop_at scan_all scan judged stop_of later count
stop-edge at c s bs h = rw (drop_of_length-le bs h, ok-none s, either-false s.console)

module _ (at c : ℕ) (s : Seen) (bs : List ℕ) (h : at < length bs) where
  pub stop-broken : head_at at bs ≡ None → stop_at at c s bs ≡ None
  unfolding stop_at follow judged stop_of later
  stop-broken e = rw (head-scan at bs h, e)

  pub stop-mark : head_at at bs ≡ (Some head.End) → stop_at at c s bs ≡ Some (stop.Mark (at + 3) c)
  unfolding stop_at follow judged stop_of later
  stop-mark e = rw (head-scan at bs h, e, ok-none s, add-zero)

  module _ {t v n x : ℕ} (e : head_at at bs ≡ Some (head.Field t v n x)) where
    value-length : length (part v n bs) ≡ n
    value-length = let r = head-room at bs e in part_length v n bs (omega arith)

    pub stop-not : allowed s t n ≡ false → stop_at at c s bs ≡ None
    unfolding stop_at follow judged stop_of later mk_field
    stop-not a =
        rw (
          head-scan at bs h,
          e,
          push-not (ok_from s) (mk_field t (part v n bs)) (scan_all (drop x bs))
              (λ fs. ok-not s (mk_field t (part v n bs)) fs (rw value-length a)),
        )

    pub stop-more : allowed s t n ≡ true → stop_at at c s bs ≡ stop_at x (c + 1) (seen_with s t) bs
    unfolding stop_at follow mk_field seen_with
    stop-more a =
        let r = head-room at bs e in
        let q : at + 3 + length (part v n bs) ≡ x = omega (arith, value-length) in
        rw (head-scan at bs h, e)
        (push-more (ok_from s) (ok_from (seen_with s t)) (mk_field t (part v n bs)) (scan_all (drop x bs)) at c s.console
        (λ fs. ok-more s (mk_field t (part v n bs)) fs (rw value-length a)) ∙ rw q)
