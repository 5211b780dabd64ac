use Rattle.std.proofs.Common.{◌≡◌, ℕ, zero, suc, ◌+◌, ◌-◌, ◌<◌, List, ◌∷◌, [], ◌++◌, length, get_or, reverse, refl, ap, ◌∙◌, arith, rules, length-append}
use Rattle.std.proofs.lemmas.Iterator.Adapters.{YieldsList-from_rev_slice}
use Rattle.std.proofs.lemmas.Iterator.Consumers.{YieldsList-turn, YieldsList-end}
use Rattle.std.proofs.lemmas.List.{get_or-reverse, length-reverse}
use Rattle.realm_words.specs.Bits.{realm_bit}
use Rattle.realm_words.proofs.Packing.{packed-room, packed_none, packed_more}
use Rattle.realm_words.proofs.packed_of.Goals as goal

any-default : (xs : List ℕ) (i d e : ℕ) → i < length xs → get_or xs i d ≡ get_or xs i e
any-default [] i d e h = absurd (omega arith)
any-default (x ∷ xs) zero d e h = refl
any-default (x ∷ xs) (suc i) d e h = any-default xs i d e (omega arith)

-- the byte of a turn, from the end
turn-at : (xs : List ℕ) (n b : ℕ) → (n < length (reverse xs)) × (b ≡ get_or (reverse xs) n b) →
    (n < length xs) × (b ≡ get_or xs (length xs - n - 1) 0)
turn-at xs n b t =
    let l : n < length xs = rw (← length-reverse xs) t.0 in
    let e : length xs - 1 - n ≡ length xs - n - 1 = omega arith in
    (l, t.1 ∙ get_or-reverse xs n b l ∙ rw e (any-default xs (length xs - n - 1) b 0 (omega arith)))

pub loop-byte-init : goal.loop-byte-init
loop-byte-init c =
    let z : length c.args.block.now - 0 ≡ length c.args.block.now = omega arith in
    (tt, tt, omega arith, rw z (packed_none c.args.block.now))

pub overflow_mul-bits : goal.overflow_mul-bits
overflow_mul-bits c =
    let xs = c.args.block.now in
    let l = c.loop-byte in
    let t = YieldsList-turn (YieldsList-from_rev_slice xs cc) l.yielded _ l.yielded_by _ _ c.in-Some.byte c.in-Some.is c.next.ensures.steps in
    let u = turn-at xs (length l.yielded) c.in-Some.byte.now t in
    let r = packed-room xs (length xs - length l.yielded) (omega (arith, u.0)) (omega arith) (search rules) in
    omega (arith, r, l.invariant.3)

pub overflow_add-bits : goal.overflow_add-bits
overflow_add-bits c =
    let xs = c.args.block.now in
    let l = c.loop-byte in
    let t = YieldsList-turn (YieldsList-from_rev_slice xs cc) l.yielded _ l.yielded_by _ _ c.in-Some.byte c.in-Some.is c.next.ensures.steps in
    let u = turn-at xs (length l.yielded) c.in-Some.byte.now t in
    let r = packed-room xs (length xs - length l.yielded) (omega (arith, u.0)) (omega arith) (search rules) in
    omega (arith, r, l.invariant.3)

pub loop-byte-preserved : goal.loop-byte-preserved
loop-byte-preserved c =
    let xs = c.args.block.now in
    let l = c.loop-byte in
    let t = YieldsList-turn (YieldsList-from_rev_slice xs cc) l.yielded _ l.yielded_by _ _ c.in-Some.byte c.in-Some.is c.next.ensures.steps in
    let u = turn-at xs (length l.yielded) c.in-Some.byte.now t in
    let n : length (l.yielded ++ c.in-Some.byte ∷ []) ≡ length l.yielded + 1 = length-append l.yielded (c.in-Some.byte ∷ []) in
    let e : length xs - (length l.yielded + 1) ≡ length xs - length l.yielded - 1 = omega arith in (
      tt,
      tt,
      rw n (omega (arith, u.0)),
      rw (n, e) (packed_more xs (length xs - length l.yielded) _ _ (omega (arith, u.0)) (omega arith)
          (c.realm_bit.ensures.0 ∙ ap realm_bit u.1) l.invariant.3),
    )

pub returns : goal.returns
returns c =
    let xs = c.args.block.now in
    let l = c.loop-byte in
    let t = YieldsList-end (YieldsList-from_rev_slice xs cc) l.yielded _ l.yielded_by _ _ c.in-None.is c.next.ensures.steps in
    let e : length l.yielded ≡ length xs = t.1 ∙ length-reverse xs in
    let z : length xs - length l.yielded ≡ 0 = omega arith in
    l.invariant.3 ∙ rw z
