use mathlib.Core.Path.{◌≡◌}
use Prim.Native.Nat.{◌+◌, ◌-◌}
use Rattle.words.specs.Word.{part}
use Rattle.token_rules.proofs.Tokens.{hunk-back}
use borrow.Author.Rules.{rules}
use native.Mathlib.Omega.{arith}
use Rattle.token.proofs.put_hunk.Goals as goal

pub returns : goal.returns
unfolding part
returns c =
    let a = c.args in
    let e : a.from + a.n - a.from ≡ a.n = omega arith in
    rw (c.copy.ensures, e) (hunk-back a.at a.from a.n a.token.now a.page.now (search rules)
    (search rules))
