use Rattle.std.proofs.Common.{◌≡◌, ◌<◌, ◌-◌, length, take, drop, map, ap, ◌∙◌, arith, rules, length-take, length-drop, List, ℕ}
use Rattle.std.specs.Prelude.{min}
use Rattle.std.proofs.lemmas.List.{length-map, drop_min}
use lib.Seq.{length-take-le, take_all}
use Rattle.queue.specs.Queue.{waiting, side_of}
use Rattle.queue.specs.declared.Side.{Side}
use Rattle.queue.proofs.Holding.{side-next}
use Rattle.queue.proofs.Side.after.Goals as goal

-- what is moved up
rest-is : {A : Type 0} (w v : List A) (m n : ℕ) → m ≡ min n (length w) → w ≡ v → take (length w - m) (drop m w) ≡ drop n v
rest-is {A = A} w v m n e h =
    take_all (length w - m) (drop m w) (omega (arith, length-drop m w)) ∙ ap (λ (k : ℕ). drop k w) e ∙ drop_min n w ∙
    ap (λ (l : List A). drop n l) h

-- as many wait as were moved
moved : {A : Type 0} (z : A) (f : A → A) (l : List A) (i : ℕ) (s : Side A) → s ≡ side_of z (map f (take i l)) → i < length l → s.count ≡ i
moved {A = A} z f l i s e h = ap (λ (r : Side A). r.count) e ∙ length-map (take i l) f ∙ length-take-le i l (omega arith)

pub loop-entry-init : goal.loop-entry-init
loop-entry-init g c =
    let w = c.waiting-waiting in
    let m = c.min in (
      c.empty-side.ensures,
      omega (
        arith,
        w.ensures.1,
        length-take (length w.result.now - m.result) (drop m.result w.result.now),
        length-drop m.result w.result.now,
      ),
      rest-is w.result.now (waiting c.args.self.now) m.result c.args.gone m.ensures w.ensures.0,
    )

pub offset_bounds-side-side : goal.offset_bounds-side-side
offset_bounds-side-side g c =
    let m = g.T.Entry in
    let l = c.loop-entry in
    let t = c.loop-entry-test.true in
    omega (arith, moved m.free m.cleared _ l.entry-index l.side l.invariant.0 t, l.invariant.1, t)

pub listed : goal.listed
listed g c =
    let m = g.T.Entry in
    let l = c.loop-entry in
    let t = c.loop-entry-test.true in
    let e : length l.side.items ≡ 8 = search rules in
    omega (arith, moved m.free m.cleared _ l.entry-index l.side l.invariant.0 t, l.invariant.1, t)

pub bounds-side-side : goal.bounds-side-side
bounds-side-side g c =
    let m = g.T.Entry in
    let l = c.loop-entry in
    let t = c.loop-entry-test.true in
    omega (arith, moved m.free m.cleared _ l.entry-index l.side l.invariant.0 t, l.invariant.1, t)

pub overflow_add-side : goal.overflow_add-side
overflow_add-side g c =
    let m = g.T.Entry in
    let l = c.loop-entry in
    let t = c.loop-entry-test.true in
    omega (arith, moved m.free m.cleared _ l.entry-index l.side l.invariant.0 t, l.invariant.1, t)

pub loop-entry-preserved : goal.loop-entry-preserved
loop-entry-preserved g c =
    let m = g.T.Entry in
    let l = c.loop-entry in
    let i = l.invariant in (
      side-next m.free m.cleared _ l.entry-index l.side _ c.entry-item.result i.0 c.loop-entry-test.true i.1
          (c.cleared.ensures ∙ ap m.cleared c.entry-item.is),
      i.1,
      i.2,
    )

pub returns : goal.returns
returns g c =
    let m = g.T.Entry in
    let l = c.loop-entry in
    let i = l.invariant in
    i.0 ∙ ap (λ k. side_of m.free (map m.cleared k)) (take_all l.entry-index _ c.loop-entry-test.false ∙ i.2)
