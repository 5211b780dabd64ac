-- Features and key update, return by return, and the answer of a refusal. Assumes nothing.
use Prim.Native.Nat.{ℕ, ◌+◌, ◌-◌, ◌*◌, ◌/◌, ◌^◌, min, ◌≤◌, ◌<◌}
use mathlib.Core.Path.{◌≡◌, refl, sym}
use mathlib.Core.Bool.{Bool, true, false, not}
use native.Mathlib.Omega.{arith}
use native.Mathlib.Nat.{div-lt_iff_lt-mul, le-div_iff_mul-le, pow-le-pow_right}
use lib.Dec.{ltb, eqb, lit≤}
use borrow.Author.Tests.{eq-eqb, ne_eqb, eqb-true, eqb-false, lt-ltb, le-ltb}
use Rattle.words.specs.Tests.{either}
use Rattle.boot.specs.declared.Record.{Record}
use Rattle.codes.specs.Codes.{is_up, boot_params, is_false, fails, when_up, is_ok, answer_of}
use Rattle.codes.specs.declared.Code.{Code}
use Rattle.codes.specs.declared.Code.TheVariants.{Ok, Unk, Inval}
use Rattle.codes.specs.declared.Work.TheVariants.{Nothing, Reprogram}
use Rattle.features.specs.Features.{features_code, features_by, features_of, update_code, update_by, update_of}
use Rattle.features.specs.declared.UpdateResult.{UpdateResult}

-- ---- bits
two_pos : (k : ℕ) → 0 < 2 ^ k
two_pos k = pow-le-pow_right (lit≤ tt) {i = 0} (omega arith)

pub bits_in : (k x : ℕ) → x / 2 ^ k ≡ 0 → ltb (2 ^ k - 1) x ≡ false
bits_in k x h =
    let p = two_pos k in
    let q : x < 1 * 2 ^ k = (div-lt_iff_lt-mul p).0 (omega arith) in
    le-ltb (2 ^ k - 1) x (omega arith)

pub bits_out : (k x : ℕ) → (x / 2 ^ k ≡ 0 → ⊥) → ltb (2 ^ k - 1) x ≡ true
bits_out k x h =
    let p = two_pos k in
    let n : 1 ≤ x / 2 ^ k = omega arith in
    let q : 1 * 2 ^ k ≤ x = (le-div_iff_mul-le p).0 n in
    lt-ltb (2 ^ k - 1) x (omega arith)

pub bits-above : (k x : ℕ) → not (eqb (x / 2 ^ k) 0) ≡ ltb (2 ^ k - 1) x
bits-above k x = go (eqb (x / 2 ^ k) 0) refl
  where
    go : (b : Bool) → eqb (x / 2 ^ k) 0 ≡ b → not b ≡ ltb (2 ^ k - 1) x
    go true e = sym (bits_in k x (eqb-true _ _ e))
    go false e = sym (bits_out k x (eqb-false _ _ e))

-- ---- features
pub features-by : (k c : Code) → k ≡ c → is_ok c ≡ false → answer_of c 0 0 ≡ features_by k
unfolding features_by
features-by k c e h = rw (e, h)

module _ (s : Record) (index : ℕ) where
  pub features-down : is_up s ≡ false → when_up s (features_code (boot_params s) index) ≡ Unk
  unfolding when_up fails is_false
  features-down h = rw h

  module _ (h : is_up s ≡ true) where
    pub features-index : (index ≡ 0 → ⊥) → when_up s (features_code (boot_params s) index) ≡ Inval
    unfolding when_up features_code fails is_false
    features-index n = rw (h, ne_eqb index 0 n)

    module _ (i : index ≡ 0) where
      pub features-minor : (boot_params s).minor < 4 → when_up s (features_code (boot_params s) index) ≡ Unk
      unfolding when_up features_code fails is_false
      features-minor l = rw (h, eq-eqb index 0 i, lt-ltb (boot_params s).minor 4 l)

      pub features-pass : 4 ≤ (boot_params s).minor → when_up s (features_code (boot_params s) index) ≡ Ok
      unfolding when_up features_code fails is_false
      features-pass l = rw (h, eq-eqb index 0 i, le-ltb (boot_params s).minor 4 l)

  pub features-ok : when_up s (features_code (boot_params s) index) ≡ Ok → answer_of Ok 1 0 ≡ features_of s index
  unfolding features_of features_by
  features-ok e = rw e

-- a refused call has zeros in x1 and x2
pub features-refused : (s : Record) (index : ℕ) → is_ok (features_of s index).code ≡ false →
    features_of s index ≡ answer_of (features_of s index).code 0 0
unfolding features_of features_by answer_of
features-refused s index h = rw h

-- ---- key update
pub update-by : (k c : Code) (mecid : ℕ) → k ≡ c → is_ok c ≡ false →
    ◌≡◌ {A = UpdateResult} (record { answer = answer_of c 0 0; work = Nothing }) (update_by k mecid)
unfolding update_by
update-by k c mecid e h = rw (e, h)

module _ (s : Record) (m mecid : ℕ) where
  pub update-down : is_up s ≡ false → when_up s (update_code (boot_params s) m mecid) ≡ Unk
  unfolding when_up fails is_false
  update-down h = rw h

  module _ (h : is_up s ≡ true) where
    pub update-large : 65535 < mecid → when_up s (update_code (boot_params s) m mecid) ≡ Inval
    unfolding when_up update_code fails is_false either
    update-large l = rw (h, lt-ltb 65535 mecid l)

    module _ (l : mecid ≤ 65535) where
      pub update-wide : ltb (2 ^ (min m 15 + 1) - 1) mecid ≡ true → when_up s (update_code (boot_params s) m mecid) ≡ Inval
      unfolding when_up update_code fails is_false either
      update-wide b = rw (h, le-ltb 65535 mecid l, b)

      module _ (b : ltb (2 ^ (min m 15 + 1) - 1) mecid ≡ false) where
        pub update-width : 15 < m → when_up s (update_code (boot_params s) m mecid) ≡ Unk
        unfolding when_up update_code fails is_false either
        update-width w = rw (h, le-ltb 65535 mecid l, b, lt-ltb 15 m w)

        module _ (w : m ≤ 15) where
          pub update-minor : (boot_params s).minor < 5 → when_up s (update_code (boot_params s) m mecid) ≡ Unk
          unfolding when_up update_code fails is_false either
          update-minor n = rw (h, le-ltb 65535 mecid l, b, le-ltb 15 m w, lt-ltb (boot_params s).minor 5 n)

          pub update-pass : 5 ≤ (boot_params s).minor → when_up s (update_code (boot_params s) m mecid) ≡ Ok
          unfolding when_up update_code fails is_false either
          update-pass n = rw (h, le-ltb 65535 mecid l, b, le-ltb 15 m w, le-ltb (boot_params s).minor 5 n)

  pub update-ok : when_up s (update_code (boot_params s) m mecid) ≡ Ok →
      ◌≡◌ {A = UpdateResult} (record { answer = answer_of Ok 0 0; work = Reprogram mecid }) (update_of s m mecid)
  unfolding update_of update_by
  update-ok e = rw e

-- a refused call has zeros in x1 and x2, and leaves nothing for the platform to do
pub update-refused : (s : Record) (m mecid : ℕ) → is_ok (update_of s m mecid).answer.code ≡ false →
    update_of s m mecid ≡ record { answer = answer_of (update_of s m mecid).answer.code 0 0; work = Nothing }
unfolding update_of update_by answer_of
update-refused s m mecid h = rw h
