-- Request E6: "If words and table agree the answers equal those of the full walk". Delegation and undelegation, and lists of them, keep
-- agreement, refused or not. Assumes nothing.
use Rattle.std.specs.Prelude.{Option, Some, None, Result}
use Prim.Native.Nat.{ℕ, ◌<◌}
use mathlib.Core.Path.{◌≡◌, refl, sym, subst}
use mathlib.Core.List.{List, [], ◌∷◌}
use native.Mathlib.Omega.{arith}
use lib.ListN.{length, take}
use Rattle.banks.specs.Banks.{Granules, granule_count, granule_at}
use Rattle.banks.proofs.Laws.{index_below}
use Rattle.realm_words.specs.Answers.{realm_count_of, realm_next_of, realms, next_realm}
use Rattle.realm_words.proofs.Laws.{count-agrees, next-agrees, words-put}
use Rattle.boot.specs.declared.Record.{Record}
use Rattle.codes.specs.Codes.{boot_params, when_up}
use Rattle.codes.proofs.Gates.{if-ok-by}
use Rattle.granule_rules.specs.Granules.{GranuleTable, Agrees, move_code, granule_set, moved, Moved, moved_by, when_fit, move_of}
use Rattle.granule_rules.specs.Lists.{move_list_of, done_by, table_by}
use Rattle.granule_rules.specs.declared.Direction.{Direction}
use Rattle.granule_rules.proofs.Done.{list-is}

-- ---- the answers
module _ (g : Granules) (t : GranuleTable) (n : granule_count g ≡ length t.bytes) (a : Agrees t) where
  pub count_walks : realm_count_of t.words (granule_count g) ≡ Result.Ok (realms t.bytes)
  count_walks = rw (n, a) (count-agrees t.bytes)

  pub next-walks : (i : ℕ) → i < granule_count g → realm_next_of t.words (granule_count g) i ≡ Result.Ok (next_realm t.bytes i)
  next-walks i h = rw (n, a) (next-agrees t.bytes i (omega arith))

-- ---- what keeps agreement
set_keeps : (g : Granules) (d : Direction) (t : GranuleTable) (addr : ℕ) (k : Option ℕ) → granule_at g (length t.bytes) addr ≡ k →
    Agrees t → Agrees (granule_set d t k)
unfolding granule_set
set_keeps g d t addr None e a = a
set_keeps g d t addr (Some i) e a = rw a (sym (words-put t.bytes i _ (index_below g (length t.bytes) addr i e)))

module _ (s : Record) (g : Granules) (d : Direction) where
  pub move-keeps : (t : GranuleTable) (addr : ℕ) → Agrees t → Agrees (move_of s g d t addr).table
  unfolding move_of moved_by moved
  move-keeps t addr a =
      if-ok-by Agrees (when_fit g t (when_up s (move_code (boot_params s) g d t addr)))
      (granule_set d t (granule_at g (length t.bytes) addr)) t
      (λ e. set_keeps g d t addr (granule_at g (length t.bytes) addr) refl a) (λ e. a)

-- ---- a property that each single call keeps is kept by a list
module _ (s : Record) (g : Granules) (d : Direction) (P : GranuleTable → Type 0)
    (keeps : (t : GranuleTable) (addr : ℕ) → P t → P (move_of s g d t addr).table) where
  tables-hold : (t : GranuleTable) (l : List ℕ) → P t → P (table_by (move_of s g d) t l)
  unfolding table_by
  tables-hold t [] p = p
  tables-hold t (a ∷ l) p = tables-hold (move_of s g d t a).table l (keeps t a p)

  pub list-holds : (t : GranuleTable) (l : List ℕ) → P t → P (move_list_of s g d t l).table
  list-holds t l p = subst (λ (m : Moved). P m.table) (sym (list-is s g d t l)) (tables-hold t (take (done_by (move_of s g d) t l) l) p)

pub list-keeps : (s : Record) (g : Granules) (d : Direction) (t : GranuleTable) (l : List ℕ) → Agrees t →
    Agrees (move_list_of s g d t l).table
list-keeps s g d t l a = list-holds s g d Agrees (λ x addr p. move-keeps s g d x addr p) t l a
