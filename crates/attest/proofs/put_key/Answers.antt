use mathlib.Core.Path.{refl}
use Rattle.codes.specs.declared.Code.TheVariants.{Unk, Inval}
use Rattle.words.proofs.Store.{bytes-in, lent_back}
use Rattle.attest.specs.Key.{key_rest}
use Rattle.attest.proofs.Keys.{stays, writes, rest-curve, rest-empty, rest-long, rest_ok}
use borrow.Author.Rules.{rules}
use native.Mathlib.Omega.{arith}
use Rattle.attest.proofs.put_key.Goals as goal

pub returns-then-curve-ne0 : goal.returns-then-curve-ne0
returns-then-curve-ne0 c =
    let a = c.args in
    rw c.refused.ensures (stays (key_rest a.size a.curve a.key.now) a.at a.page.now a.key.now Inval
    (rest-curve a.size a.curve a.key.now (search rules)) refl)

pub returns-then-key-eq0 : goal.returns-then-key-eq0
returns-then-key-eq0 c =
    let a = c.args in
    rw c.refused-then-key-eq0.ensures (stays (key_rest a.size a.curve a.key.now) a.at a.page.now a.key.now Unk
    (rest-empty a.size a.curve a.key.now (search rules) (search rules)) refl)

pub returns-then-size-key : goal.returns-then-size-key
returns-then-size-key c =
    let a = c.args in
    rw c.refused-then-size-key.ensures (stays (key_rest a.size a.curve a.key.now) a.at a.page.now a.key.now Unk
    (rest-long a.size a.curve a.key.now (search rules) c.if-key-eq0.false (search rules)) refl)

pub returns : goal.returns
returns c =
    let a = c.args in
    rw (
      c.ok.ensures,
      c.copy.ensures,
      lent_back a.at a.key.now a.page.now (omega arith),
      bytes-in a.at a.key.now a.page.now (omega arith),
    )
    (writes (key_rest a.size a.curve a.key.now) a.at a.page.now a.key.now
    (rest_ok a.size a.curve a.key.now (search rules) c.if-key-eq0.false
    (search rules)))
