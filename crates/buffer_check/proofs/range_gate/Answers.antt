use mathlib.Core.Path.{refl}
use native.Mathlib.Omega.{arith}
use Rattle.codes.specs.declared.Code.TheVariants.{Inval}
use Rattle.codes.proofs.Gates.{stops, goes}
use Rattle.buffer_check.specs.Range.{place_of, outside_code, range_code}
use Rattle.buffer_check.proofs.Ranges.{outside-refused, range-below, range-above, range-long, range-ok}
use Rattle.buffer_check.proofs.range_gate.Goals as goal

pub returns-then-pa-base : goal.returns-then-pa-base
returns-then-pa-base c =
    let a = c.args in
    rw c.into.ensures
    (stops (range_code a.params a.out a.pa a.size) (place_of a.params a.pa) (outside_code a.out)
    (range-below a.params a.out a.pa a.size (omega arith)) (outside-refused a.out))

pub returns-then-at-params : goal.returns-then-at-params
returns-then-at-params c =
    let a = c.args in
    rw c.into-then-at-params.ensures
    (stops (range_code a.params a.out a.pa a.size) (place_of a.params a.pa) (outside_code a.out)
    (range-below a.params a.out a.pa a.size (omega arith)) (outside-refused a.out))

pub returns-then-at-ge-PAGE_SIZE : goal.returns-then-at-ge-PAGE_SIZE
returns-then-at-ge-PAGE_SIZE c =
    let a = c.args in
    rw c.into-then-at-ge-PAGE_SIZE.ensures
    (stops (range_code a.params a.out a.pa a.size) (place_of a.params a.pa) (outside_code a.out)
    (range-above a.params a.out a.pa a.size (omega arith) (omega arith)) (outside-refused a.out))

pub returns-then-at-size : goal.returns-then-at-size
returns-then-at-size c =
    let a = c.args in
    stops (range_code a.params a.out a.pa a.size) (place_of a.params a.pa) Inval
    (range-long a.params a.out a.pa a.size (omega arith) (omega arith) (omega arith)) refl

pub returns : goal.returns
unfolding place_of
returns c =
    let a = c.args in
    goes (range_code a.params a.out a.pa a.size) (place_of a.params a.pa) _
    (range-ok a.params a.out a.pa a.size (omega arith) (omega arith) (omega arith)) refl
