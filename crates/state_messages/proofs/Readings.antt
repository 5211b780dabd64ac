-- What an accepted response implies about its message. Assumes nothing.
use Prim.Native.Nat.{ℕ, ◌+◌, ◌≤◌}
use mathlib.Core.Path.{◌≡◌, refl, ap}
use mathlib.Core.Bool.{Bool, true, false, cond}
use mathlib.Core.List.{List}
use native.Mathlib.Omega.{arith}
use lib.ListN.{length, drop, length-drop}
use lib.Dec.{ltb, eqb}
use lib.Seq.{take-length}
use borrow.Author.Tests.{ltb-false, eqb-true}
use Rattle.words.specs.Word.{part}
use Rattle.big_words.specs.Big.{big_at}
use Rattle.state_messages.specs.Messages.{StateResponse, Got, response_parts, read_response, response_read}
use Rattle.state_messages.specs.declared.StateRefusal.{StateRefusal}
use Rattle.state_messages.specs.declared.StateRefusal.TheVariants as refusal
use Rattle.state_messages.specs.declared.Piece.{Piece}
use Rattle.std.specs.Prelude.{Result, Ok, Err}
use Rattle.std.specs.Result.{result_and}

-- one of two verdicts
abbrev verdict : Bool → Result (Unit {0}) StateRefusal → Result (Unit {0}) StateRefusal → Result (Unit {0}) StateRefusal
verdict f v w = cond f v w

-- not cut short; not too long; not above the largest; not failed
passed : (c t l z : Bool) (q p : StateResponse) →
    ◌≡◌ {A = Got}
    (result_and (verdict c (Err refusal.CutShort) (verdict t (Err refusal.TooLong) (Ok tt)))
    (result_and (verdict l (Err refusal.AboveLargest) (Ok tt)) (cond z (Ok q) (Err refusal.Failed))))
    (Ok p) →
    (c ≡ false) × (t ≡ false) × (l ≡ false) × (z ≡ true) × (p ≡ q)
passed true t l z q p h = cc
passed false true l z q p h = cc
passed false false true z q p h = cc
passed false false false true q p h = (refl, refl, refl, refl, cc)
passed false false false false q p h = cc

pub read-got : (largest : ℕ) (m : List ℕ) {p : StateResponse} → read_response largest m ≡ Ok p →
    (length m ≡ 16 + big_at 4 12 m) × (big_at 4 12 m ≤ largest) × (big_at 4 0 m ≡ 0) × (p ≡ response_parts m)
unfolding read_response
read-got largest m {p} h =
    let f = passed (ltb (length m) (16 + big_at 4 12 m)) (ltb (16 + big_at 4 12 m) (length m)) (ltb largest (big_at 4 12 m))
    (eqb (big_at 4 0 m) 0) (response_parts m) p h in
    let short : 16 + big_at 4 12 m ≤ length m = ltb-false _ _ f.0 in
    let long : length m ≤ 16 + big_at 4 12 m = ltb-false _ _ f.1 in
    (omega arith, ltb-false _ _ f.2, eqb-true _ _ f.3, f.4)

-- the code returns what was read
pub told-rejected : (g : Got) {why : StateRefusal} → response_read g ≡ Err why → g ≡ Err why
unfolding response_read
told-rejected (Ok p) h = cc
told-rejected (Err why) h = cc

pub told-got : (g : Got) {v : Piece} {P : Type 0} → response_read g ≡ Ok v →
    ((p : StateResponse) → g ≡ Ok p → v ≡ record { flags = p.flags; total = p.total; at = 16; len = length p.bytes } → P) → P
unfolding response_read
told-got (Ok p) h k = k p refl (cc)
told-got (Err why) h k = cc

-- the returned offset and length hold the data
pub place-holds : (largest : ℕ) (m : List ℕ) {p : StateResponse} → read_response largest m ≡ Ok p →
    (p.bytes ≡ drop 16 m) × (length m ≡ 16 + length p.bytes)
unfolding response_parts
place-holds largest m {p} h =
    let f = read-got largest m h in
    let e : p.bytes ≡ drop 16 m = ap (λ (r : StateResponse). r.bytes) f.3 in
    (e, omega (arith, ap length e, length-drop 16 m))

pub place-part : (largest : ℕ) (m : List ℕ) {p : StateResponse} → read_response largest m ≡ Ok p → part 16 (length p.bytes) m ≡ p.bytes
unfolding part
place-part largest m {p} h = rw (← (place-holds largest m h).0) (take-length p.bytes)
