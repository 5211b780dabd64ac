use mathlib.Core.Path.{◌≡◌, refl, sym}
use Rattle.std.proofs.lemmas.Result.{err_from_is_err_and}
use Rattle.codes.specs.Codes.{boot_params}
use Rattle.codes.specs.declared.Code.TheVariants.{Ok, Unk}
use Rattle.codes.proofs.Gates.{ok-is, not_ok, stops, up-went, up_stood}
use Rattle.buffer_check.specs.Range.{place_of, page_code}
use Rattle.buffer_check.proofs.Ranges.{page-down, page-length, page-first, told-range}
use Rattle.buffer_check.proofs.Numbers.{gate-number}
use borrow.Author.Rules.{rules}
use Rattle.buffer_check.proofs.page_gate.Goals as goal

pub returns-in_err-params : goal.returns-in_err-params
returns-in_err-params c =
    let a = c.args in
    let d = up_stood a.state _ (sym c.in_err-params.ensures) in
    let p = err_from_is_err_and c.from_residual.result c.from_residual.ensures.1 in
    let told = gate-number a.state a.len a.first a.out a.pa a.size _
    (stops (page_code a.state a.len a.first a.out a.pa a.size) (place_of (boot_params a.state) a.pa) Unk
    (page-down a.state a.len a.first a.out a.pa a.size d.0) refl) in
    rw (p.1, p.2, d.1) (record { value = told.0; result_value = told.1 })

pub returns-then-len-ne-PAGE_LEN : goal.returns-then-len-ne-PAGE_LEN
returns-then-len-ne-PAGE_LEN c =
    let a = c.args in
    let u = up-went a.state _ (sym c.in_ok-params.ensures) in
    let told = gate-number a.state a.len a.first a.out a.pa a.size _
    (stops (page_code a.state a.len a.first a.out a.pa a.size) (place_of (boot_params a.state) a.pa) Unk
    (page-length a.state a.len a.first a.out a.pa a.size u.0 (search rules)) refl) in record { value = told.0; result_value = told.1 }

pub returns-then-ne : goal.returns-then-ne
returns-then-ne c =
    let a = c.args in
    let u = up-went a.state _ (sym c.in_ok-params.ensures) in
    let n : a.first ≡ Ok → ⊥ = search rules in
    let f = not_ok a.first n in
    let told = gate-number a.state a.len a.first a.out a.pa a.size _
    (stops (page_code a.state a.len a.first a.out a.pa a.size) (place_of (boot_params a.state) a.pa) a.first
    (page-first a.state a.len a.first a.out a.pa a.size u.0 (search rules) f) f) in record { value = told.0; result_value = told.1 }

pub returns : goal.returns
returns c =
    let a = c.args in
    let u = up-went a.state _ (sym c.in_ok-params.ensures) in
    let n : a.first ≡ Ok = search rules in
    let told = gate-number a.state a.len a.first a.out a.pa a.size _
    (told-range a.state a.len a.first a.out a.pa a.size u.0 (search rules) (ok-is a.first n) _
    u.1 _ c.range_gate.ensures) in record { value = told.0; result_value = told.1 }
