use mathlib.Core.Path.{◌≡◌, sym}
use Rattle.reader.specs.Reading.{section_of}
use Rattle.reader.proofs.Whole.{section-none}
use native.Mathlib.Omega.{arith}
use Rattle.reader.proofs.section_of.Goals as goal

pub returns-in-0 : goal.returns-in-0
unfolding section_of
returns-in-0 c = let e : c.args.k ≡ 0 = c.in-0.is in rw e

pub returns-in-1 : goal.returns-in-1
unfolding section_of
returns-in-1 c = let e : c.args.k ≡ 1 = c.in-1.is in rw e

pub returns-in-2 : goal.returns-in-2
unfolding section_of
returns-in-2 c = let e : c.args.k ≡ 2 = c.in-2.is in rw e

pub returns-in-3 : goal.returns-in-3
unfolding section_of
returns-in-3 c = let e : c.args.k ≡ 3 = c.in-3.is in rw e

pub returns-in_default : goal.returns-in_default
returns-in_default c =
    let a = c.args in
    let r = c.in_default.in_default-own.rest in
    let p = r.0.0.0.1 in
    let q = r.0.0.1 in
    let s = r.0.1 in
    let t = r.1 in
    sym (section-none a.view a.k (omega arith))
