-- When features and key update are OK, and what they then do. Each statement lists the conditions of CM6 or CM8 and uses no definition of
-- the checks. Assumes nothing.
use Prim.Native.Nat.{ℕ, ◌+◌, ◌-◌, ◌^◌, min, ◌≤◌}
use mathlib.Core.Path.{◌≡◌, refl, sym}
use mathlib.Core.Bool.{true}
use native.Mathlib.Omega.{arith}
use native.Mathlib.Nat.{pow-le-pow_right}
use lib.Dec.{lit≤}
use borrow.Author.Tests.{le-ltb, ltb-false, eqb-true}
use Rattle.boot.specs.declared.Params.{Params}
use Rattle.boot.specs.declared.Record.{Record}
use Rattle.boot.specs.declared.Record.TheVariants.{Up}
use Rattle.codes.specs.Codes.{is_up, boot_params, when_up, extended, x0_of, answer_of}
use Rattle.codes.specs.declared.Code.TheVariants.{Ok}
use Rattle.codes.proofs.Gates.{fails-ok, unless-ok, either-ok}
use Rattle.codes.specs.declared.Work.TheVariants.{Reprogram}
use Rattle.features.specs.Features.{features_code, features_by, features_of, update_code, update_by, update_of, forward_of}
use Rattle.features.proofs.Feature.{features-pass, features-ok, update-pass, update-ok}

-- "features": record up with minor 4 or more, index 0. "x1 is 1 (token signing present)."
pub features-acts : (u : Params) → 4 ≤ u.minor → features_of (Up u) 0 ≡ record { code = Ok; x0 = 0; x1 = 1; x2 = 0 }
unfolding is_up boot_params answer_of x0_of extended
features-acts u m = sym (features-ok (Up u) 0 (features-pass (Up u) 0 refl refl m))

-- and only then
pub features-only : (s : Record) (index : ℕ) → (features_of s index).code ≡ Ok → (is_up s ≡ true) × (4 ≤ (boot_params s).minor) × (index ≡ 0)
unfolding features_of features_by features_code when_up answer_of
features-only s index h =
    let p = unless-ok _ _ _ refl h in
    let q = unless-ok _ _ _ refl p.1 in
    let r = fails-ok _ _ _ refl q.1 in
    (p.0, ltb-false _ _ r.0, eqb-true _ _ q.0)

-- "key update": record up with minor 5 or more, m at most 15, mecid at most 2^(m+1) - 1: "the mecid to reprogram"
pub update-acts : (u : Params) (m mecid : ℕ) → 5 ≤ u.minor → m ≤ 15 → mecid ≤ 2 ^ (m + 1) - 1 →
    update_of (Up u) m mecid ≡ record { answer = record { code = Ok; x0 = 0; x1 = 0; x2 = 0 }; work = Reprogram mecid }
unfolding is_up boot_params answer_of x0_of extended
update-acts u m mecid n w l =
    let k : m + 1 ≤ 16 = omega arith in
    let p : 2 ^ (m + 1) ≤ 2 ^ 16 = pow-le-pow_right (lit≤ tt) k in
    let e : min m 15 ≡ m = omega arith in
    sym (update-ok (Up u) m mecid (update-pass (Up u) m mecid refl (omega arith) (rw e (le-ltb (2 ^ (m + 1) - 1) mecid l)) w n))

-- and only then
pub update-only : (s : Record) (m mecid : ℕ) → (update_of s m mecid).answer.code ≡ Ok →
    (is_up s ≡ true) × (5 ≤ (boot_params s).minor) × (m ≤ 15) × (mecid ≤ 2 ^ (m + 1) - 1)
unfolding update_of update_by update_code when_up answer_of
update-only s m mecid h =
    let p = unless-ok _ _ _ refl h in
    let q = either-ok _ _ _ _ refl p.1 in
    let r = either-ok _ _ _ _ refl q.2 in
    let w : m ≤ 15 = ltb-false _ _ r.0 in
    let e : min m 15 ≡ m = omega arith in
    let l : mecid ≤ 2 ^ (min m 15 + 1) - 1 = ltb-false _ _ q.1 in
    (p.0, ltb-false _ _ r.1, w, rw e at l)

-- "forwards err_code (x1) to the Non-secure world", for any record
pub forward-acts : (s : Record) (x1 : ℕ) → forward_of s x1 ≡ x1
unfolding forward_of
forward-acts s x1 = refl
