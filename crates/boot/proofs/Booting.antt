-- Cold and warm boot, return by return. Assumes nothing.
use Prim.Native.Nat.{ℕ, ◌≤◌, ◌<◌}
use mathlib.Core.Path.{◌≡◌, refl, sym, ap, ◌∙◌}
use mathlib.Core.Bool.{true, false}
use mathlib.Core.List.{List}
use lib.IntN.{ℤ, pos}
use borrow.Author.Tests.{lt-leb, le-leb, lt-ltb, le-ltb}
use Rattle.std.specs.Prelude.{Result, Ok, Err, MatchResult}
use Rattle.versions.specs.Version.{version_ok}
use Rattle.reader.specs.Answer.{minus, code_in}
use Rattle.reader.specs.Reading.{refusal_number, reading_answer, reading_of}
use Rattle.reader.specs.declared.View.{View}
use Rattle.reader.specs.declared.Refusal.{Refusal}
use Rattle.reader.specs.declared.Refusal.TheVariants.{Place, Version as BadVersion, Rules}
use Rattle.reader.proofs.Whole.{reading-answer}
use Rattle.boot.specs.Boot.{refused_number, is_fresh, cold_gate, cold_code, after, cpu_code, warm_code}
use Rattle.boot.specs.declared.BootRefusal.{BootRefusal}
use Rattle.boot.specs.declared.BootRefusal.TheVariants.{State, Version, Cpus, Cpu, Manifest}
use Rattle.boot.specs.declared.Params.{Params}
use Rattle.boot.specs.declared.Record.{Record}
use Rattle.boot.specs.declared.Record.TheVariants.{Fresh, Up, Closed}

-- any refusal closes the record
closes : (c : BootRefusal) (s : Record) → Closed ≡ after (refused_number c) s
unfolding after
closes State s = refl
closes Version s = refl
closes Cpus s = refl
closes Cpu s = refl
closes (Manifest Place) s = refl
closes (Manifest BadVersion) s = refl
closes (Manifest Rules) s = refl

-- what a boot returns, from the number k of its checks and the record s that they give if all pass
pub told : (k : ℤ) (s : Record) (r : Result Params BootRefusal) (next : Record) (n : ℤ) →
    MatchResult r (λ u. (next ≡ Up u) × (n ≡ pos 0)) (λ c. (next ≡ Closed) × (n ≡ refused_number c)) →
    MatchResult r (λ u. (k ≡ pos 0) × (Up u ≡ s)) (λ c. k ≡ refused_number c) → (n ≡ k) × (next ≡ after k s)
unfolding after
told k s (Ok u) next n e h = (e.1 ∙ sym h.0, e.0 ∙ h.1 ∙ sym (ap (λ z. after z s) h.0))
told k s (Err c) next n e h = (e.1 ∙ sym h, e.0 ∙ closes c s ∙ sym (ap (λ z. after z s) h))

not-fresh : (s : Record) → (s ≡ Fresh → ⊥) → is_fresh s ≡ false
unfolding is_fresh
not-fresh Fresh h = absurd (h refl)
not-fresh (Up u) h = refl
not-fresh Closed h = refl

module _ (s : Record) (x0 x1 x2 x3 most kept : ℕ) (page : List ℕ) where
  pub cold-state : (s ≡ Fresh → ⊥) → cold_code s x0 x1 x2 x3 most kept page ≡ minus 1
  unfolding cold_code cold_gate
  cold-state h = rw (not-fresh s h) refl

  module _ (f : s ≡ Fresh) where
    fresh : is_fresh s ≡ true
    unfolding is_fresh
    fresh = rw f

    pub cold-version : version_ok x1 ≡ false → cold_code s x0 x1 x2 x3 most kept page ≡ minus 2
    unfolding cold_code cold_gate
    cold-version v = rw (fresh, v) refl

    module _ (v : version_ok x1 ≡ true) where
      pub cold-cpus : most < x2 → cold_code s x0 x1 x2 x3 most kept page ≡ minus 3
      unfolding cold_code cold_gate
      cold-cpus m = rw (fresh, v, lt-leb x2 most m) refl

      module _ (m : x2 ≤ most) where
        pub cold-cpu : x2 ≤ x0 → cold_code s x0 x1 x2 x3 most kept page ≡ minus 4
        unfolding cold_code cold_gate
        cold-cpu n = rw (fresh, v, le-leb x2 most m, le-ltb x0 x2 n) refl

        module _ (n : x0 < x2) where
          pub cold-kept : 4096 < kept → cold_code s x0 x1 x2 x3 most kept page ≡ minus 5
          unfolding cold_code cold_gate
          cold-kept k = rw (fresh, v, le-leb x2 most m, lt-ltb x0 x2 n, lt-leb kept 4096 k) refl

          module _ (k : kept ≤ 4096) where
            pub cold-refused : (c : Refusal) → Err c ≡ reading_of 4 x3 page → cold_code s x0 x1 x2 x3 most kept page ≡ refusal_number c
            unfolding cold_code cold_gate code_in reading_answer
            cold-refused c e =
                rw (fresh, v, le-leb x2 most m, lt-ltb x0 x2 n, le-leb kept 4096 k, ← reading-answer 4 x3 page, ← e) refl

            pub cold-up : (w : View) → Ok w ≡ reading_of 4 x3 page → cold_code s x0 x1 x2 x3 most kept page ≡ pos 0
            unfolding cold_code cold_gate code_in reading_answer
            cold-up w e = rw (fresh, v, le-leb x2 most m, lt-ltb x0 x2 n, le-leb kept 4096 k, ← reading-answer 4 x3 page, ← e) refl

pub not-up : (s : Record) (x0 : ℕ) → ((u : Params) → s ≡ Up u → ⊥) → warm_code s x0 ≡ minus 1
unfolding warm_code
not-up Fresh x0 h = refl
not-up (Up u) x0 h = absurd (h u refl)
not-up Closed x0 h = refl

module _ (cpus x0 : ℕ) where
  pub kept-not : cpus ≤ x0 → cpu_code cpus x0 ≡ minus 4
  unfolding cpu_code
  kept-not h = rw (le-ltb x0 cpus h) refl

  pub kept-up : x0 < cpus → cpu_code cpus x0 ≡ pos 0
  unfolding cpu_code
  kept-up h = rw (lt-ltb x0 cpus h) refl
