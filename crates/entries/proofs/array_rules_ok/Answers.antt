use Rattle.std.proofs.Common.{◌%◌, refl, rules, le-ltb, lt-ltb, ne_eqb}
use Rattle.words.specs.Tests.{both}
use Rattle.entries.specs.Entry.{check_ok}
use Rattle.entries.specs.Array.{sound_of}
use Rattle.entries.proofs.Entries.{told-unsound, told-sound}
use Rattle.entries.proofs.array_rules_ok.Goals as goal

pub returns-then-count-eq0 : goal.returns-then-count-eq0
unfolding sound_of check_ok both
returns-then-count-eq0 c =
    let a = c.args in
    simp (le-ltb 0 a.count (search rules))

pub returns-then-pointer-ne0 : goal.returns-then-pointer-ne0
unfolding sound_of check_ok both
returns-then-pointer-ne0 c =
    let a = c.args in
    simp (lt-ltb 0 a.count (search rules), ne_eqb (a.pointer % 8) 0 (search rules))

pub returns-in-Some : goal.returns-in-Some
returns-in-Some c =
    let a = c.args in
    told-sound a.minor a.k a.at a.count a.pointer a.check a.page.now
    c.if-count-eq0.false c.if-pointer-ne0.false _ _ _ _ c.in-Some.ensures.1 refl refl refl c.in-Some.ensures.0

pub returns-in-None : goal.returns-in-None
returns-in-None c =
    let a = c.args in
    told-unsound a.minor a.k a.at a.count a.pointer a.check a.page.now
    c.if-count-eq0.false c.if-pointer-ne0.false c.in-None.ensures
