use Rattle.std.proofs.Common.{◌≡◌, ◌*◌, ◌/◌, ap, ◌∙◌, arith, le-leb, leb-true}
use Rattle.words.proofs.Tests.{same_test}
use Rattle.entries.specs.Entry.{size}
use Rattle.entries.proofs.Entries.{size-one, size-other}
use Rattle.entries.proofs.fits.Goals as goal

pub returns-then-k-eq1 : goal.returns-then-k-eq1
returns-then-k-eq1 c =
    let a = c.args in
    let e : size a.k a.count ≡ 48 * a.count = ap (λ k. size k a.count) c.if-k-eq1.true ∙ size-one a.count in
    same_test _ _ (λ h. le-leb (size a.k a.count) a.room (omega (arith, leb-true _ _ h)))
    (λ h. le-leb a.count (a.room / 48) (omega (arith, leb-true _ _ h)))

pub returns : goal.returns
returns c =
    let a = c.args in
    let e : size a.k a.count ≡ 16 * a.count = size-other a.k a.count c.if-k-eq1.false in
    same_test _ _ (λ h. le-leb (size a.k a.count) a.room (omega (arith, leb-true _ _ h)))
    (λ h. le-leb a.count (a.room / 16) (omega (arith, leb-true _ _ h)))
