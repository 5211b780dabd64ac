use Rattle.std.proofs.Common.{Some, ◌≡◌, ℕ, List, [], ◌++◌, length, sym, refl, ap, ◌∙◌, append-nil, arith, rules}
use Rattle.words.specs.Word.{part, splice}
use Rattle.fields.specs.declared.FieldPlace.{FieldPlace}
use Rattle.pack.specs.Steps.{kept_from}
use Rattle.pack.proofs.Moves.{part_none, lent_length}
use Rattle.pack.proofs.Kept.{kept-stop, kept-over, kept_field, run_more, length_more, run-over}
use Rattle.pack.proofs.put_fields.Goals as goal

pub loop-target-init : goal.loop-target-init
loop-target-init c =
    let a = c.args in (
      search rules,
      search rules,
      c.requires.1,
      omega arith,
      ap (λ (vs : List ℕ). splice a.at (vs ++ kept_from a.from a.page.now) a.target.now)
          (part_none a.from a.page.now),
    )

pub returns-in-None : goal.returns-in-None
unfolding part
returns-in-None c =
    let a = c.args in
    let l = c.loop-target in
    let n = lent_length l.run l.cursor a.page.now (omega arith) (omega arith) in
    let z : kept_from l.cursor a.page.now ≡ [] = kept-stop l.cursor a.page.now _
    c.step_at-step.ensures
    c.in-None.is in
    let m : length (kept_from l.cursor a.page.now) ≡ 0 = ap length z in
    (omega (arith, c.put_bytes.ensures.0), c.put_bytes.ensures.1 ∙ rw (z, append-nil) at l.invariant.4)

pub loop-target-smaller-in-Some-Withdrawn : goal.loop-target-smaller-in-Some-Withdrawn
loop-target-smaller-in-Some-Withdrawn c =
    let k = kept-over c.loop-target.cursor c.args.page.now _
    c.step_at-step.ensures
    (c.in-Some-Withdrawn.is ∙ ap (λ (p : FieldPlace). Some p) (rw c.in-Some-Withdrawn.is at c.in-Some-Withdrawn.field-0-is)) in
    omega arith

pub loop-target-preserved-in-Some-Withdrawn : goal.loop-target-preserved-in-Some-Withdrawn
unfolding part
loop-target-preserved-in-Some-Withdrawn c =
    let a = c.args in
    let l = c.loop-target in
    let k = kept-over l.cursor a.page.now _ c.step_at-step.ensures
    (c.in-Some-Withdrawn.is ∙ ap (λ (p : FieldPlace). Some p) (rw c.in-Some-Withdrawn.is at c.in-Some-Withdrawn.field-0-is)) in
    let n = lent_length l.run l.cursor a.page.now (omega arith) (omega arith) in (
      search rules,
      omega arith,
      search rules,
      omega (arith, ap length k.2, c.put_bytes-to.ensures.0),
      run-over l.cursor _ l.run l.to _ a.page.now _ l.target _ k.2 (omega arith) refl
          c.put_bytes-to.ensures.0 c.put_bytes-to.ensures.1 ∙ l.invariant.4,
    )

pub loop-target-smaller : goal.loop-target-smaller
loop-target-smaller c =
    let k = kept_field c.loop-target.cursor c.args.page.now _
    c.step_at-step.ensures (λ i. omega (arith, c.shared_slice_known-1.given i))
    (c.in-Some-Raw.is ∙ ap (λ (p : FieldPlace). Some p) (rw c.in-Some-Raw.is at c.in-Some-Raw.field-0-is)) in
    omega arith

pub loop-target-preserved : goal.loop-target-preserved
loop-target-preserved c =
    let a = c.args in
    let l = c.loop-target in
    let k = kept_field l.cursor a.page.now _ c.step_at-step.ensures
    (λ i. omega (arith, c.shared_slice_known-1.given i)) (c.in-Some-Raw.is ∙ ap (λ (p : FieldPlace). Some p) (rw c.in-Some-Raw.is at c.in-Some-Raw.field-0-is)) in (
      omega arith,
      omega arith,
      l.invariant.2,
      omega (arith, length_more l.cursor _ a.page.now k.0 k.1 k.2),
      ap (λ (vs : List ℕ). splice l.to vs l.target) (sym
          (run_more l.cursor _ a.page.now k.0 k.1 k.2 l.run (omega arith))) ∙ l.invariant.4,
    )
