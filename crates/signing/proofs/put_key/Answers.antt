use mathlib.Core.Path.{refl}
use native.Mathlib.Omega.{arith}
use lib.ListN.{length}
use Rattle.words.proofs.Store.{bytes-in}
use Rattle.codes.specs.declared.Code.TheVariants.{Inval, Again}
use Rattle.queue.proofs.Steps.{goes_on}
use Rattle.queue_image.proofs.Steps.{list-refuses}
use Rattle.signing.specs.Signing.{public_code, public_of}
use Rattle.signing.proofs.Signings.{public-empty, public-long, public-ok}
use borrow.Author.Rules.{rules}
use Rattle.signing.proofs.put_key.Goals as goal

pub returns-then-key-eq0 : goal.returns-then-key-eq0
unfolding public_of
returns-then-key-eq0 c =
    let a = c.args in
    λ q. rw c.refused.ensures (list-refuses (public_code (length a.buffer.now) a.key.now) _ a.buffer.now q Again
    (public-empty (length a.buffer.now) a.key.now (search rules)) refl)

pub returns-then-buffer-key : goal.returns-then-buffer-key
unfolding public_of
returns-then-buffer-key c =
    let a = c.args in
    λ q. rw c.refused-then-buffer-key.ensures (list-refuses (public_code (length a.buffer.now) a.key.now) _ a.buffer.now q Inval
    (public-long (length a.buffer.now) a.key.now (search rules) (search rules)) refl)

pub returns : goal.returns
unfolding public_of
returns c =
    let a = c.args in
    λ q. rw (c.ok.ensures, c.copy.ensures, bytes-in 0 a.key.now a.buffer.now (omega arith))
    (goes_on (public_code (length a.buffer.now) a.key.now) a.buffer.now q _
    (public-ok (length a.buffer.now) a.key.now c.if-key-eq0.false (search rules)))
