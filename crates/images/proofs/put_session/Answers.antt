use mathlib.Core.Path.{◌≡◌}
use Rattle.codes.specs.declared.Code.TheVariants.{Ok}
use Rattle.codes.proofs.Gates.{ok-is, not_ok}
use borrow.Author.Rules.{rules}
use Rattle.images.proofs.put_session.Goals as goal

pub returns-then-eq : goal.returns-then-eq
returns-then-eq c =
    let e : c.args.code ≡ Ok = search rules in
    rw (ok-is _ e) c.session_words.ensures

pub returns-else-eq : goal.returns-else-eq
returns-else-eq c =
    let n : c.args.code ≡ Ok → ⊥ = search rules in
    rw (not_ok _ n)
