use Rattle.std.proofs.Common.{◌≡◌, ◌%◌, ◌∙◌, refl, arith, rules, length}
use Rattle.vector_io.specs.Cases.{digits, mark_of}
use Rattle.vector_io.proofs.Filling.{digits_more, digits-all}
use Rattle.vector_io.proofs.mark.Goals as goal

pub loop-byte-init : goal.loop-byte-init
loop-byte-init c = (search rules, search rules, refl, refl)

pub loop-byte-preserved : goal.loop-byte-preserved
loop-byte-preserved c =
    let a = c.args in
    let l = c.loop-byte in (
      search rules,
      search rules,
      rw c.from-digit.ensures (l.invariant.2 ∙ digits_more 0x9E37_79B1 l.high l.byte-index a.part.now (omega arith)),
      rw c.from-digit.ensures (l.invariant.3 ∙ digits_more 0x85EB_CA77 l.low l.byte-index a.part.now (omega arith)),
    )

pub returns : goal.returns
unfolding mark_of
returns c =
    let a = c.args in
    let l = c.loop-byte in
    let e : l.byte-index ≡ length a.part.now = omega arith in
    let h : digits 0x9E37_79B1 (length a.part.now % 0xFFFF_FFFB) a.part.now ≡ l.high = l.invariant.2 ∙
    rw e (digits-all 0x9E37_79B1 l.high a.part.now) in
    let g : digits 0x85EB_CA77 (length a.part.now % 0xFFFF_FFFB) a.part.now ≡ l.low = l.invariant.3 ∙
    rw e (digits-all 0x85EB_CA77 l.low a.part.now) in
    rw (h, g)
