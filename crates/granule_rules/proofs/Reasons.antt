-- When delegation gives each of its codes. Request E6: INVAL first, if the number of words is wrong; "BAD_ADDR unless .. the address are
-- multiples of 4,096 and the address falls on a granule of the table"; request E8: BAD_ADDR for undelegating the shared page; "BAD_PAS
-- unless that byte is 0 (delegate) or 1 (undelegate)". Assumes nothing.
use Rattle.std.specs.Prelude.{Option, Some, None}
use Prim.Native.Nat.{ℕ, ◌+◌, ◌/◌}
use mathlib.Core.Path.{◌≡◌, refl, sym, ◌∙◌}
use mathlib.Core.List.{List}
use native.Mathlib.Omega.{arith}
use lib.ListN.{length, get_or}
use lib.Dec.{eqb}
use Rattle.banks.specs.Banks.{Granules, granule_count, granule_at}
use Rattle.banks.specs.Fit.{LiesAt}
use Rattle.banks.proofs.Laws.{nowhere}
use Rattle.banks.proofs.Lies.{granule-lies, lies-granule}
use Rattle.boot.specs.declared.Params.{Params}
use Rattle.boot.specs.declared.Record.{Record}
use Rattle.realm_words.specs.Bits.{words_for}
use Rattle.codes.specs.Codes.{is_false, when_up, answer_of}
use Rattle.codes.specs.Reasons.{Gives, Passes, WhileUp}
use Rattle.codes.specs.declared.Code.{Code}
use Rattle.codes.specs.declared.Code.TheVariants.{BadAddr, BadPas, Inval}
use Rattle.codes.proofs.Reasons.{Tells, tells-eq, tells-not, gives, while-up}
use Rattle.granule_rules.specs.Granules.{GranuleTable, from_byte, is_shared_page, granule_code, move_code, moved_by, when_fit, fitting}
use Rattle.granule_rules.specs.Granules.{move_of}
use Rattle.granule_rules.specs.Lists.{move_list_of, code_by}
use Rattle.granule_rules.proofs.Done.{list-is}
use Rattle.granule_rules.specs.declared.Direction.{Direction}
use Rattle.granule_rules.specs.declared.Direction.TheVariants.{Delegate, Undelegate}

-- "0 (delegate) or 1 (undelegate)"
abbrev pub Takes : Direction → ℕ → Type 0
Takes Delegate b = b ≡ 0
Takes Undelegate b = b ≡ 1

tells-takes : (d : Direction) (b : ℕ) → Tells (is_false (eqb b (from_byte d))) (Takes d b → ⊥)
unfolding from_byte
tells-takes Delegate b = tells-not _ _ (tells-eq b 0)
tells-takes Undelegate b = tells-not _ _ (tells-eq b 1)

tells-shared : (u : Params) (d : Direction) (addr : ℕ) → Tells (is_shared_page u d addr) ((d ≡ Undelegate) × (addr ≡ u.base))
unfolding is_shared_page
tells-shared u Delegate addr =
    record { yes-if = λ h. absurd (let e = h.0 in let z : ◌≡◌ {A = ℕ} 0 1 = cc in omega arith); no-if = λ h. refl }
tells-shared u Undelegate addr =
    record { yes-if = λ h. (tells-eq addr u.base).yes-if h.1; no-if = λ h. (tells-eq addr u.base).no-if (λ e. h (refl, e)) }

-- by the granule of the address, if it has one
abbrev pub GranuleGives : Params → Granules → Direction → GranuleTable → ℕ → Code → Type 0
GranuleGives u g d t addr =
    Gives ((i : ℕ) → LiesAt g (length t.bytes) addr i → ⊥) BadAddr
    (Gives ((d ≡ Undelegate) × (addr ≡ u.base)) BadAddr
    (Gives ((i : ℕ) → LiesAt g (length t.bytes) addr i → Takes d (get_or t.bytes i 0) → ⊥) BadPas
    Passes))

granule-gives : (u : Params) (g : Granules) (d : Direction) (t : GranuleTable) (addr : ℕ) (k : Option ℕ) →
    granule_at g (length t.bytes) addr ≡ k → GranuleGives u g d t addr (granule_code u d t addr k)
unfolding granule_code
granule-gives u g d t addr None e =
    record {
      where-it-holds = λ p. refl;
      elsewhere = λ n. absurd
          (n (λ i v. nowhere i (sym e ∙ lies-granule g (length t.bytes) addr i v)));
    }
granule-gives u g d t addr (Some i) e =
    record {
      where-it-holds = λ p. absurd (p i (granule-lies g (length t.bytes) addr i e));
      elsewhere = λ n. gives _ _ BadAddr _ _ (tells-shared u d addr) (λ s. gives _ _ BadPas _ _ byte (λ b. refl));
    }
  where
    same : (j : ℕ) → LiesAt g (length t.bytes) addr j → j ≡ i
    same j v = let h : Some j ≡ Some i = sym (lies-granule g (length t.bytes) addr j v) ∙ e in cc

    byte : Tells (is_false (eqb (get_or t.bytes i 0) (from_byte d)))
        ((j : ℕ) → LiesAt g (length t.bytes) addr j → Takes d (get_or t.bytes j 0) → ⊥)
    byte =
        let s = tells-takes d (get_or t.bytes i 0) in
        record {
          yes-if = λ h. s.yes-if (h i (granule-lies g (length t.bytes) addr i e));
          no-if = λ h. s.no-if (λ f. h (λ j v a. f (rw (same j v) at a)));
        }

pub move-codes : (s : Record) (g : Granules) (d : Direction) (t : GranuleTable) (addr : ℕ) →
    Gives (length t.words ≡ (granule_count g + 63) / 64 → ⊥) Inval
    (WhileUp s (λ (u : Params). GranuleGives u g d t addr))
    (move_of s g d t addr).answer.code
unfolding move_of moved_by move_code when_fit fitting when_up answer_of words_for
move-codes s g d t addr =
    gives _ _ Inval _ _ (tells-not _ _ (tells-eq (length t.words) ((granule_count g + 63) / 64))) (λ f.
    while-up s (λ u. granule_code u d t addr (granule_at g (length t.bytes) addr)) _ (λ u e. granule-gives u g d t addr _ refl))

-- Request E1 and E6: for a list INVAL first, also if it is empty; then the code of the first single call that is refused, or OK (`longest`
-- in Done.antt shows which call that is)
pub list-codes : (s : Record) (g : Granules) (d : Direction) (t : GranuleTable) (l : List ℕ) →
    Gives (length t.words ≡ (granule_count g + 63) / 64 → ⊥) Inval
    (λ k. k ≡ code_by (move_of s g d) t l)
    (move_list_of s g d t l).answer.code
unfolding when_fit fitting answer_of words_for
list-codes s g d t l =
    rw (list-is s g d t l)
    (gives _ _ Inval _ _ (tells-not _ _ (tells-eq (length t.words) ((granule_count g + 63) / 64))) (λ f. refl))
