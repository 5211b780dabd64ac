-- Cold and warm boot give each of their codes as the tables of BT2 and BT4 require. Assumes nothing.
use Prim.Native.Nat.{ℕ, ◌^◌, ◌≤◌, ◌<◌}
use mathlib.Core.Path.{◌≡◌, refl, sym, ap, ◌∙◌}
use mathlib.Core.Bool.{Bool, true, false, true≢false, false≢true, cond}
use mathlib.Core.Logic.{◌⊎◌, inl, inr}
use mathlib.Core.List.{List}
use native.Mathlib.Omega.{arith}
use lib.Dec.{leb, ltb}
use lib.ListN.{length}
use lib.IntN.{ℤ, pos}
use borrow.Author.Tests.{lt-ltb, le-ltb, le-leb, lt-leb}
use Rattle.words.specs.Word.{u32_at}
use Rattle.versions.specs.Version.{minor_of, version_ok}
use Rattle.versions.proofs.Versions.{version-minor, version_of}
use Rattle.sections.specs.Page.{place_ok}
use Rattle.sections.specs.Facts.{PlaceFacts}
use Rattle.sections.proofs.Sections.{placed}
use Rattle.sections.proofs.Facts.{place-acts}
use Rattle.reader.specs.Answer.{ReaderAnswer, refused, shows, minus, code_in, read_of}
use Rattle.reader.specs.Acts.{VersionFacts, Accepts}
use Rattle.reader.proofs.Acts.{reads-acts, reads-refuses}
use Rattle.boot.specs.Boot.{is_fresh, cold_gate, cold_code, cpu_code, warm_code}
use Rattle.boot.specs.Reasons.{Gives, ColdGives, WarmGives}
use Rattle.boot.specs.declared.Params.{Params}
use Rattle.boot.specs.declared.Record.{Record}
use Rattle.boot.specs.declared.Record.TheVariants.{Fresh, Up, Closed}
use Rattle.boot.proofs.Acts.{fresh-is}

-- ---- a test and the fact that it decides
pub test-holds : (b : Bool) (P : Type 0) → (P → b ≡ true) → ((P → ⊥) → ⊥) → b ≡ true
test-holds true P f n = refl
test-holds false P f n = absurd (n (λ p. false≢true (f p)))

pub test-fails : (b : Bool) (P : Type 0) → (b ≡ true → P) → (P → ⊥) → b ≡ false
test-fails true P g n = absurd (n (g refl))
test-fails false P g n = refl

-- a check is one line of the table: it passes exactly if the condition does not hold
pub line : {A : Type 0} (b : Bool) (Q : Type 0) (c next : A) (below : A → Type 0) → (Q → b ≡ false) → ((Q → ⊥) → b ≡ true) →
    (b ≡ true → below next) → Gives Q c below (cond b next c)
line true Q c next below f g h = record { where-it-holds = λ q. absurd (true≢false (f q)); elsewhere = λ n. h refl }
line false Q c next below f g h = record { where-it-holds = λ q. refl; elsewhere = λ n. absurd (false≢true (g n)) }

-- ---- a version from 1 to 65,535
version-only : (v : ℕ) → version_ok v ≡ true → (1 ≤ v) × (v < 2 ^ 16)
unfolding minor_of
version-only v h = let m = version-minor v h in (m.1, omega (arith, m.0))

-- ---- the page's own codes
module _ (x3 : ℕ) (page : List ℕ) where
  accepted : (a : ReaderAnswer) → read_of 4 x3 page ≡ a → (((w e : ℕ) → Accepts 4 x3 page w e → ⊥) → ⊥) → code_in a ≡ pos 0
  unfolding code_in
  accepted (shows w e q s) h n = refl
  accepted (refused c) h n =
      absurd (n (λ w e t. let y = sym h ∙ (reads-acts 4 x3 page w e t).answer in let z : ◌≡◌ {A = ℕ} 0 1 = cc in omega arith))

  abbrev BelowPlace : ℤ → Type 0
  BelowPlace =
      Gives (VersionFacts 4 (u32_at 0 page) → ⊥) (minus 6)
      (Gives ((w e : ℕ) → Accepts 4 x3 page w e → ⊥) (minus 7)
      (λ k. k ≡ pos 0))

  page-gives : Gives (PlaceFacts x3 (length page) → ⊥) (minus 5) BelowPlace (code_in (read_of 4 x3 page))
  unfolding code_in
  page-gives =
      let r = reads-refuses 4 x3 page in
      record {
        where-it-holds = λ n. ap code_in (r.place n);
        elsewhere = λ n.
            let p = placed x3 (length page) (test-holds (place_ok x3 (length page)) _ (place-acts x3 (length page)) n) in
            record {
              where-it-holds = λ m. ap code_in (r.version p m);
              elsewhere = λ m.
                  let o = version-only (u32_at 0 page) (test-holds (version_ok (u32_at 0 page)) _
                  (λ (t : VersionFacts 4 (u32_at 0 page)). version_of (u32_at 0 page) t.2 t.3) m) in
                  record {
                    where-it-holds = λ l. ap code_in (r.rules p (omega arith, omega arith, o.0, o.1) l);
                    elsewhere = λ l. accepted (read_of 4 x3 page) refl l;
                  };
            };
      }

  -- Request E5: "K above 4,096 is -5 at cold boot, with the other page checks."
  kept_gives : (kept : ℕ) (b : Bool) → leb kept 4096 ≡ b →
      Gives ((4096 < kept) ⊎ (PlaceFacts x3 (length page) → ⊥)) (minus 5) BelowPlace (cond b (code_in (read_of 4 x3 page)) (minus 5))
  kept_gives kept true e = record { where-it-holds = go; elsewhere = λ n. page-gives.elsewhere (λ p. n (inr p)) }
    where
      go : (4096 < kept) ⊎ (PlaceFacts x3 (length page) → ⊥) → code_in (read_of 4 x3 page) ≡ minus 5
      go (inl l) = absurd (true≢false (sym e ∙ lt-leb kept 4096 l))
      go (inr n) = page-gives.where-it-holds n
  kept_gives kept false e =
      record {
        where-it-holds = λ q. refl;
        elsewhere =
            λ n. absurd (n (inr (λ p. false≢true (sym e ∙ le-leb kept 4096 (let l : 4096 < kept → ⊥ = λ l. n (inl l) in omega arith)))));
      }

-- ---- cold boot
gate-chain : (f v m n k : Bool) (c : ℤ) → cold_gate f v m n k c ≡ cond f
    (cond v (cond m (cond n (cond k c (minus 5)) (minus 4)) (minus 3)) (minus 2)) (minus 1)
unfolding cold_gate
gate-chain true true true true true c = refl
gate-chain true true true true false c = refl
gate-chain true true true false k c = refl
gate-chain true true false n k c = refl
gate-chain true false m n k c = refl
gate-chain false v m n k c = refl

pub cold-codes : (s : Record) (x0 x1 x2 x3 most kept : ℕ) (page : List ℕ) →
    ColdGives s x0 x1 x2 x3 most kept page (cold_code s x0 x1 x2 x3 most kept page)
unfolding cold_code is_fresh
cold-codes s x0 x1 x2 x3 most kept page =
    rw (gate-chain (is_fresh s) (version_ok x1) (leb x2 most) (ltb x0 x2) (leb kept 4096) (code_in (read_of 4 x3 page)))
    (line (is_fresh s) _ (minus 1) _ _ (test-fails _ _ (fresh-is s)) (test-holds _ _ (λ e. ap is_fresh e)) (λ f.
    line (version_ok x1) _ (minus 2) _ _ (test-fails _ _ (version-only x1)) (test-holds _ _ (λ t. version_of x1 t.0 t.1)) (λ v.
    line (leb x2 most) (most < x2) (minus 3) _ _ (λ q. lt-leb x2 most q) (λ q. le-leb x2 most (omega arith)) (λ m.
    line (ltb x0 x2) (x2 ≤ x0) (minus 4) _ _ (λ q. le-ltb x0 x2 q) (λ q. lt-ltb x0 x2 (omega arith)) (λ n.
    kept_gives x3 page kept (leb kept 4096) refl)))))

-- ---- warm boot
cpu-gives : (u : Params) (x0 : ℕ) → Gives ((t : Params) → Up u ≡ Up t → t.cpus ≤ x0) (minus 4) (λ k. k ≡ pos 0) (cpu_code u.cpus x0)
unfolding cpu_code
cpu-gives u x0 =
    line (ltb x0 u.cpus) _ (minus 4) (pos 0) _ (λ q. le-ltb x0 u.cpus (q u refl))
    (λ q. test-holds (ltb x0 u.cpus) (x0 < u.cpus) (λ l. lt-ltb x0 u.cpus l)
    (λ n. q (λ t e. let y : u ≡ t = cc in rw (← y) (omega arith)))) (λ l. refl)

pub warm-codes : (s : Record) (x0 : ℕ) → WarmGives s x0 (warm_code s x0)
unfolding warm_code
warm-codes Fresh x0 =
    record { where-it-holds = λ n. refl; elsewhere = λ n. absurd (n (λ u e. let z : ◌≡◌ {A = ℕ} 0 1 = cc in omega arith)) }
warm-codes (Up u) x0 = record { where-it-holds = λ n. absurd (n u refl); elsewhere = λ n. cpu-gives u x0 }
warm-codes Closed x0 =
    record { where-it-holds = λ n. refl; elsewhere = λ n. absurd (n (λ u e. let z : ◌≡◌ {A = ℕ} 0 1 = cc in omega arith)) }
