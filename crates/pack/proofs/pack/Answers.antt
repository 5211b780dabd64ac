use Rattle.std.proofs.Common.{length, sym, refl, ◌∙◌, arith, rules, Err}
use Rattle.std.proofs.lemmas.Result.{err_from_is_err_and}
use Rattle.reader.specs.Answer.{minus}
use Rattle.reader.specs.Reading.{refusal_number}
use Rattle.reader.specs.declared.Refusal.TheVariants as refusal
use Rattle.writer_rules.specs.Write.{no-page}
use Rattle.writer_rules.specs.Wrote.{page_after}
use Rattle.pack.specs.Pack.{stopped, written, packed_by, target_after}
use Rattle.pack.specs.declared.PackError.TheVariants as pack_error
use Rattle.pack.proofs.Answers.{refused-packs, late-packs, target-packs, page-packs, page-ready, packs-not, packs-page}
use Rattle.pack.proofs.pack.Goals as goal

pub returns-then-minor-gt4 : goal.returns-then-minor-gt4
unfolding packed_by target_after
returns-then-minor-gt4 c =
    let a = c.args in
    let told = packs-not (Err (pack_error.Refused refusal.Version)) a.target.now _ (stopped (minus 6)) refl refl
    (late-packs a.base a.page.now _ (sym c.in_ok-minor.was ∙
    c.judge.ensures.value) (length a.target.now) (search rules))
    (λ i. omega (arith, c.shared_slice_known-1.given i)) in record { result_after = told.0; target_after = told.1.0; by_index = told.1.1 }

pub returns-then-target-ne-PAGE_LEN : goal.returns-then-target-ne-PAGE_LEN
unfolding packed_by target_after page_after
returns-then-target-ne-PAGE_LEN c =
    let a = c.args in
    let told = packs-not (Err pack_error.Target) a.target.now _ (written (no-page 1)) refl refl
    (target-packs a.base a.page.now _ (sym c.in_ok-minor.was ∙
    c.judge.ensures.value) (length a.target.now) (search rules) (search rules))
    (λ i. omega (arith, c.shared_slice_known-1.given i)) in record { result_after = told.0; target_after = told.1.0; by_index = told.1.1 }

pub slice_bounds-put_page-end : goal.slice_bounds-put_page-end
slice_bounds-put_page-end c =
    sym (c.judge.ensures.by_index _
    c.in_ok-minor.was).long

pub put_page-requires : goal.put_page-requires
put_page-requires c =
    let a = c.args in
    let r = page-ready a.base a.page.now _ (sym c.in_ok-minor.was ∙
    c.judge.ensures.value) (search rules) in (
      r.0,
      search rules,
      r.1,
      c.judge.ensures.by_index _
          c.in_ok-minor.was,
      r.2,
      r.3,
    )

pub returns-in_err-minor : goal.returns-in_err-minor
unfolding packed_by target_after
returns-in_err-minor c =
    let a = c.args in
    let p = err_from_is_err_and c.from_residual.result c.from_residual.ensures.1 in
    let told = packs-not (Err (pack_error.Refused _)) a.target.now _ (stopped (refusal_number _)) refl refl
    (refused-packs a.base a.page.now (length a.target.now) _
    (sym c.in_err-minor.was ∙ c.judge.ensures.value))
    (λ i. omega (arith, c.shared_slice_known-1.given i)) in rw (p.1, p.2) (record { result_after = told.0; target_after = told.1.0; by_index = told.1.1 })

pub returns : goal.returns
returns c =
    let a = c.args in
    let told = packs-page a.target.now _ _ _ (page-packs a.base a.page.now _
    (sym c.in_ok-minor.was ∙ c.judge.ensures.value) (length a.target.now) (search rules) (search rules))
    c.put_page.ensures (λ i. omega (
      arith,
      c.shared_slice_known-1.given i,
    )) in record { result_after = told.0; target_after = told.1.0; by_index = told.1.1 }
