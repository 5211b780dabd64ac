use mathlib.Core.Path.{refl, sym, ◌∙◌}
use Rattle.codes.specs.declared.Code.TheVariants.{Inval, Again}
use Rattle.codes.proofs.Gates.{stops, goes}
use Rattle.response_rules.proofs.Signs.{sign-empty, sign-long, sign-none, sign-full, sign-ok}
use Rattle.responses.proofs.sign_checks.Goals as goal

pub returns-then-signature-eq0 : goal.returns-then-signature-eq0
returns-then-signature-eq0 c = λ q e f. stops _ _ Inval (sign-empty q c.args.signature.now c.if-signature-eq0.true) refl

pub returns-then-signature-gt-SIGNATURE_BYTES : goal.returns-then-signature-gt-SIGNATURE_BYTES
returns-then-signature-gt-SIGNATURE_BYTES c =
    λ q e f. stops _ _ Inval (sign-long q c.args.signature.now c.if-signature-eq0.false c.if-signature-gt-SIGNATURE_BYTES.true) refl

pub returns-then-requests-eq0 : goal.returns-then-requests-eq0
returns-then-requests-eq0 c =
    λ q e f. stops _ _ Again (sign-none q c.args.signature.now c.if-signature-eq0.false c.if-signature-gt-SIGNATURE_BYTES.false
    (e ∙ c.if-requests-eq0.true)) refl

pub returns-then-responses-ge-PLACES : goal.returns-then-responses-ge-PLACES
returns-then-responses-ge-PLACES c =
    λ q e f. stops _ _ Again (sign-full q c.args.signature.now c.if-signature-eq0.false
    c.if-signature-gt-SIGNATURE_BYTES.false (λ z. c.if-requests-eq0.false (sym e ∙ z)) (rw f c.if-responses-ge-PLACES.true)) refl

pub returns : goal.returns
returns c =
    λ q e f. goes _ _ _ (sign-ok q c.args.signature.now c.if-signature-eq0.false
    c.if-signature-gt-SIGNATURE_BYTES.false (λ z. c.if-requests-eq0.false (sym e ∙ z)) (rw f c.if-responses-ge-PLACES.false)) refl
