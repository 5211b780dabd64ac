-- A property of each accepted call holds of any call and of any list. Assumes nothing.
use Prim.Native.Nat.{ℕ}
use mathlib.Core.Path.{◌≡◌, refl}
use mathlib.Core.Bool.{Bool, true, false, cond}
use mathlib.Core.List.{List, [], ◌∷◌, ◌++◌, map}
use lib.ListN.{take}
use Rattle.boot.specs.declared.Record.{Record}
use Rattle.codes.specs.Codes.{is_ok}
use Rattle.codes.specs.declared.Code.TheVariants.{Ok}
use Rattle.granule_rules.specs.Granules.{GranuleTable, move_of}
use Rattle.granule_rules.specs.Lists.{move_list_of, done_by, done_of, table_by}
use Rattle.granule_rules.specs.Changes.{Change, change}
use Rattle.banks.specs.Banks.{Granules}
use Rattle.granule_rules.specs.declared.Direction.{Direction}
use Rattle.granule_rules.proofs.Done.{ok-code, stays, list-is}

-- A relation between a table, the changes to it and the next table, which holds of no change and composes from table to table
module _ (R : GranuleTable → List Change → GranuleTable → Type 0) (none : (t : GranuleTable) → R t [] t)
    (join : (t u v : GranuleTable) (xs ys : List Change) → R t xs u → R u ys v → R t (xs ++ ys) v)
    (s : Record) (g : Granules) (d : Direction)
    (one : (t : GranuleTable) (a : ℕ) → (move_of s g d t a).answer.code ≡ Ok → R t (change d a ∷ []) (move_of s g d t a).table) where
  -- a call is one change, or no change if it is refused
  pub call-by : (t : GranuleTable) (a : ℕ) → R t (cond (is_ok (move_of s g d t a).answer.code) (change d a ∷ []) [])
      (move_of s g d t a).table
  call-by t a = go (is_ok (move_of s g d t a).answer.code) refl
    where
      go : (b : Bool) → is_ok (move_of s g d t a).answer.code ≡ b → R t (cond b (change d a ∷ []) []) (move_of s g d t a).table
      go true e = one t a (ok-code _ e)
      go false e = rw (stays s g d t a e) (none t)

  tables-by : (l : List ℕ) (t : GranuleTable) → R t (map (change d) (take (done_of s g d t l) l))
      (table_by (move_of s g d) t (take (done_of s g d t l) l))
  unfolding done_by table_by
  tables-by [] t = none t
  tables-by (a ∷ l) t = go (is_ok (move_of s g d t a).answer.code) refl (tables-by l (move_of s g d t a).table)
    where
      go : (b : Bool) → is_ok (move_of s g d t a).answer.code ≡ b →
          R (move_of s g d t a).table (map (change d) (take (done_of s g d (move_of s g d t a).table l) l))
          (table_by (move_of s g d) (move_of s g d t a).table (take (done_of s g d (move_of s g d t a).table l) l)) →
          R t (map (change d) (take (done_of s g d t (a ∷ l)) (a ∷ l))) (table_by (move_of s g d) t (take (done_of s g d t (a ∷ l)) (a ∷ l)))
      go true e r = rw e (join t _ _ (change d a ∷ []) _ (one t a (ok-code _ e)) r)
      go false e r = rw e (none t)

  -- a list is the changes of the addresses done
  pub list-by : (t : GranuleTable) (l : List ℕ) → R t (map (change d) (take (done_of s g d t l) l)) (move_list_of s g d t l).table
  list-by t l = rw (list-is s g d t l) (tables-by l t)
