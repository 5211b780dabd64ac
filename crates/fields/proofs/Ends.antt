-- Whether the fields from an offset on end with a mark, field by field: the laws of `Stops` for crates that cannot see the private `Head`
-- and `Stop`. Assumes nothing.
use Prim.Native.Nat.{ℕ, ◌+◌, ◌≤◌, ◌<◌}
use mathlib.Core.Path.{◌≡◌, refl, sym, ap, ◌∙◌}
use mathlib.Core.Bool.{Bool, true, false}
use mathlib.Core.List.{List}
use lib.Dec.{eqb}
use lib.ListN.{length, get_or, drop}
use borrow.Author.Tests.{lt-ltb, le-ltb}
use Rattle.words.specs.Word.{num_at}
use Rattle.fields.specs.Fields.{Scanned, broken, ended, bare, scan_all, scan_of, judged, is_ended}
use Rattle.fields.specs.Steps.{head_of, head_at, allowed, seen_with, none_seen, stop_of}
use Rattle.std.proofs.Common.{Option, Some, None}
use Rattle.fields.specs.declared.Head.TheVariants as head
use Rattle.fields.specs.declared.Seen.{Seen}
use Rattle.fields.specs.declared.Stop.{Stop}
use Rattle.fields.specs.declared.Stop.TheVariants as stop
use Rattle.fields.proofs.Rules.{ok_from}
use Rattle.fields.proofs.Stops.{later, stop_at, stop-start, stop-edge, stop-broken, stop-mark, stop-not, stop-more}

unfoldable is_mark : Option Stop → Bool
is_mark None = false
is_mark (Some (stop.Mark n m)) = true
is_mark (Some (stop.Edge c)) = false

mark-later : (k c : ℕ) (b : Bool) (r : Scanned) → is_mark (later k c b (stop_of r)) ≡ is_ended r
unfolding is_mark later stop_of is_ended
mark-later k c b broken = refl
mark-later k c b (ended fs n) = refl
mark-later k c b (bare fs) = refl

mark-ended : (r : Scanned) → is_mark (stop_of r) ≡ is_ended r
unfolding is_mark stop_of is_ended
mark-ended broken = refl
mark-ended (ended fs n) = refl
mark-ended (bare fs) = refl

-- the fields from `at` on are good and end with a mark, s being the tags before them
unfoldable pub ends_at : ℕ → Seen → List ℕ → Bool
ends_at at s bs = is_ended (judged (ok_from s) (scan_all (drop at bs)))

ends-stop : (at c : ℕ) (s : Seen) (bs : List ℕ) → ends_at at s bs ≡ is_mark (stop_at at c s bs)
unfolding ends_at stop_at
ends-stop at c s bs = sym (mark-later at c s.console (judged (ok_from s) (scan_all (drop at bs))))

pub ends-start : (bs : List ℕ) → ends_at 0 none_seen bs ≡ is_ended (scan_of bs)
ends-start bs = ends-stop 0 0 none_seen bs ∙ ap is_mark (stop-start bs) ∙ mark-ended (scan_of bs)

pub ends-past : (at : ℕ) (s : Seen) (bs : List ℕ) → length bs ≤ at → ends_at at s bs ≡ false
unfolding is_mark
ends-past at s bs h = ends-stop at 0 s bs ∙ ap is_mark (stop-edge at 0 s bs h)

-- the field at an offset: t is its tag, m its length
module _ (at : ℕ) (s : Seen) (bs : List ℕ) (h : at < length bs) (t m : ℕ) (ct : get_or bs at 0 ≡ t) (cm : num_at 2 (at + 1) bs ≡ m) where
  ends-broken : head_at at bs ≡ None → ends_at at s bs ≡ false
  unfolding is_mark
  ends-broken e = ends-stop at 0 s bs ∙ ap is_mark (stop-broken at 0 s bs h e)

  pub ends-cut : length bs < at + 3 + m → ends_at at s bs ≡ false
  unfolding head_at head_of
  ends-cut l = ends-broken (rw (ct, cm, lt-ltb (length bs) (at + 3 + m) l))

  module _ (l : at + 3 + m ≤ length bs) where
    pub ends-tag : eqb t 0 ≡ true → eqb m 0 ≡ false → ends_at at s bs ≡ false
    unfolding head_at head_of
    ends-tag z e = ends-broken (rw (ct, cm, le-ltb (length bs) (at + 3 + m) l, z, e))

    pub ends-mark : eqb t 0 ≡ true → eqb m 0 ≡ true → ends_at at s bs ≡ true
    unfolding is_mark head_at head_of
    ends-mark z e = ends-stop at 0 s bs ∙ ap is_mark (stop-mark at 0 s bs h (rw (ct, cm, le-ltb (length bs) (at + 3 + m) l, z, e)))

    module _ (z : eqb t 0 ≡ false) where
      is_field : head_at at bs ≡ Some (head.Field t (at + 3) m (at + 3 + m))
      unfolding head_at head_of
      is_field = rw (ct, cm, le-ltb (length bs) (at + 3 + m) l, z)

      pub ends-not : allowed s t m ≡ false → ends_at at s bs ≡ false
      unfolding is_mark
      ends-not a = ends-stop at 0 s bs ∙ ap is_mark (stop-not at 0 s bs h is_field a)

      pub ends_more : allowed s t m ≡ true → ends_at at s bs ≡ ends_at (at + 3 + m) (seen_with s t) bs
      ends_more a = ends-stop at 0 s bs ∙ ap is_mark (stop-more at 0 s bs h is_field a) ∙ sym (ends-stop (at + 3 + m) 1 (seen_with s t) bs)
