-- When a boot succeeds, and what it then does. Each statement lists the conditions of BT2 or BT4 and uses no definition of the boot's
-- checks. Assumes nothing.
use Prim.Native.Nat.{ℕ, ◌^◌, min, ◌≤◌, ◌<◌}
use mathlib.Core.Path.{◌≡◌, refl, ap, ◌∙◌}
use mathlib.Core.Bool.{Bool, true, false, false≢true, cond}
use native.Mathlib.Omega.{arith}
use mathlib.Core.List.{List}
use lib.IntN.{ℤ, pos}
use borrow.Author.Tests.{le-leb, lt-ltb, leb-true, ltb-true}
use Rattle.versions.specs.Version.{minor_of, agreed}
use Rattle.versions.proofs.Versions.{version-minor, version_of}
use Rattle.reader.specs.Answer.{Shown, PlatShown, shows, minus, code_in, read_of}
use Rattle.boot.specs.Boot.{is_fresh, cold_gate, cold_code, after, params_of, cold_next, cpu_code, warm_code, warm_next}
use Rattle.boot.specs.Acts.{WarmPassed}
use Rattle.boot.specs.declared.Params.{Params}
use Rattle.boot.specs.declared.Record.{Record}
use Rattle.boot.specs.declared.Record.TheVariants.{Fresh, Up, Closed}
use Rattle.boot.proofs.Booting.{kept-up}

-- a cold boot that passes its checks returns the page's code
cold-passes : (f v m n k : Bool) (c : ℤ) → f ≡ true → v ≡ true → m ≡ true → n ≡ true → k ≡ true → cold_gate f v m n k c ≡ c
unfolding cold_gate
cold-passes f v m n k c a b d e g = rw (a, b, d, e, g, cold_gate)

-- Cold boot succeeds with code 0 if the record is fresh, the version is from 1 to 65,535 (minor 1 or more, all else 0), x2 is at most the
-- monitor's maximum, x0 is below x2, K is at most 4,096 and a reader of edition 4 accepts the page at x3. Then "it keeps x2, B and the
-- agreed minor when up", the minor being "the smaller of 5 and the offered minor", and K.
pub cold-acts : (x0 x1 x2 x3 most kept : ℕ) (page : List ℕ) (w e : ℕ) (q : PlatShown) (s : ℕ → Shown) → 1 ≤ x1 → x1 < 2 ^ 16 → x2 ≤ most →
    x0 < x2 → kept ≤ 4096 → read_of 4 x3 page ≡ shows w e q s →
    (cold_code Fresh x0 x1 x2 x3 most kept page ≡ pos 0) × (cold_next Fresh x0 x1 x2 x3 most kept page ≡ Up
    (record { cpus = x2; base = x3; minor = min 5 x1; kept = kept }))
unfolding cold_next cold_code is_fresh code_in after params_of agreed
cold-acts x0 x1 x2 x3 most kept page w e q s a b m n k r =
    let v = version_of x1 a b in
    let z : cold_code Fresh x0 x1 x2 x3 most kept page ≡ pos 0 = cold-passes _ _ _ _ _ _ refl v (le-leb x2 most m) (lt-ltb x0 x2 n)
    (le-leb kept 4096 k) ∙ ap code_in r in
    (z, ap (λ (c : ℤ). after c (Up (params_of x1 x2 x3 kept))) z ∙ rw (version-minor x1 v).0)

-- and only then
cold-passed : (f v m n k : Bool) (c : ℤ) → cold_gate f v m n k c ≡ pos 0 →
    (f ≡ true) × (v ≡ true) × (m ≡ true) × (n ≡ true) × (k ≡ true) × (c ≡ pos 0)
unfolding cold_gate
cold-passed true true true true true c h = (refl, refl, refl, refl, refl, h)
cold-passed true true true true false c h = let z : ◌≡◌ {A = ℕ} 0 1 = cc in absurd (omega arith)
cold-passed true true true false k c h = let z : ◌≡◌ {A = ℕ} 0 1 = cc in absurd (omega arith)
cold-passed true true false n k c h = let z : ◌≡◌ {A = ℕ} 0 1 = cc in absurd (omega arith)
cold-passed true false m n k c h = let z : ◌≡◌ {A = ℕ} 0 1 = cc in absurd (omega arith)
cold-passed false v m n k c h = let z : ◌≡◌ {A = ℕ} 0 1 = cc in absurd (omega arith)

pub fresh-is : (s : Record) → is_fresh s ≡ true → s ≡ Fresh
unfolding is_fresh
fresh-is Fresh h = refl
fresh-is (Up u) h = absurd (false≢true h)
fresh-is Closed h = absurd (false≢true h)

pub cold-only : (s : Record) (x0 x1 x2 x3 most kept : ℕ) (page : List ℕ) → cold_code s x0 x1 x2 x3 most kept page ≡ pos 0 →
    (s ≡ Fresh) × (1 ≤ x1) × (x1 < 2 ^ 16) × (x2 ≤ most) × (x0 < x2) × (kept ≤ 4096) × (code_in (read_of 4 x3 page) ≡ pos 0)
unfolding cold_code minor_of
cold-only s x0 x1 x2 x3 most kept page h =
    let p = cold-passed _ _ _ _ _ _ h in
    let v = version-minor x1 p.1 in
    (fresh-is s p.0, v.1, omega (arith, v.0), leb-true _ _ p.2, ltb-true _ _ p.3, leb-true _ _ p.4, p.5)

-- Warm boot of a record that is up, with x0 below the cold boot's x2, returns 0 and the record unchanged. So "A CPU may warm boot twice."
pub warm-acts : (u : Params) (x0 : ℕ) → x0 < u.cpus → (warm_code (Up u) x0 ≡ pos 0) × (warm_next (Up u) x0 ≡ Up u)
unfolding warm_code warm_next after
warm-acts u x0 h = let k = kept-up u.cpus x0 h in (k, ap (λ z. after z (Up u)) k)

-- and only then
cpu-passed : (b : Bool) → cond b (pos 0) (minus 4) ≡ pos 0 → b ≡ true
cpu-passed true h = refl
cpu-passed false h = let z : ◌≡◌ {A = ℕ} 0 1 = cc in absurd (omega arith)

pub warm-only : (s : Record) (x0 : ℕ) → warm_code s x0 ≡ pos 0 → WarmPassed s x0
unfolding warm_code cpu_code
warm-only Fresh x0 h = let z : ◌≡◌ {A = ℕ} 0 1 = cc in absurd (omega arith)
warm-only (Up u) x0 h = record { params = u; up = refl; below = ltb-true _ _ (cpu-passed _ h) }
warm-only Closed x0 h = let z : ◌≡◌ {A = ℕ} 0 1 = cc in absurd (omega arith)
