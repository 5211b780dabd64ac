-- A property of each accepted call on a granule holds for any command, and for any sequence. Assumes nothing.
use Prim.Native.Nat.{ℕ}
use mathlib.Core.Path.{◌≡◌, ap}
use mathlib.Core.Bool.{Bool, true, false, cond}
use mathlib.Core.List.{List, [], ◌∷◌, ◌++◌, map}
use Rattle.boot.specs.declared.Record.{Record}
use Rattle.boot.specs.declared.Record.TheVariants.{Fresh}
use Rattle.codes.specs.Codes.{is_ok}
use Rattle.codes.specs.declared.Code.TheVariants.{Ok}
use Rattle.granule_rules.specs.Granules.{GranuleTable, move_of, delegate_of, undelegate_of}
use Rattle.granule_rules.specs.Lists.{move_list_of}
use Rattle.granule_rules.specs.Changes.{Change, change}
use Rattle.banks.specs.Banks.{Granules}
use Rattle.granule_rules.specs.declared.Direction.{Direction}
use Rattle.granule_rules.proofs.Changes.{call-by, list-by}
use Rattle.runtime.specs.declared.Kind.{Kind}
use Rattle.runtime.specs.declared.Kind.TheVariants.{ForwardError, Delegate, Undelegate, RealmKey, PlatformToken, Features}
use Rattle.runtime.specs.declared.Kind.TheVariants.{TokenSigning, KeyUpdate, Unlisted}
use Rattle.runtime.specs.Step.{World, Call, Command, call, sign, list, kind_of, after_move, after_key, after_token, after_signing}
use Rattle.runtime.specs.Step.{after_update, after_sign, call_by, call_of, step_of, reply_code}
use Rattle.runtime.specs.Run.{next_of, world_after, gathered}
use Rattle.runtime.specs.Changes.{of_move, changes_of, under}

-- A relation between a table, a list of changes and the table after them, which holds for no change and is transitive
module _ (R : GranuleTable → List Change → GranuleTable → Type 0) (none : (t : GranuleTable) → R t [] t)
    (join : (t u v : GranuleTable) (xs ys : List Change) → R t xs u → R u ys v → R t (xs ++ ys) v) (g : Granules) where
  -- it holds for each accepted call with this boot record
  abbrev One : Record → Type 0
  One s = (d : Direction) (t : GranuleTable) (a : ℕ) → (move_of s g d t a).answer.code ≡ Ok → R t (change d a ∷ []) (move_of s g d t a).table

  nothing : (b : Bool) (t : GranuleTable) → R t (cond b [] []) t
  nothing true t = none t
  nothing false t = none t

  kind-by : (k : Kind) (w : World) (c : Call) → One c.state →
      R w.table (cond (is_ok (reply_code (call_by k g w c).reply)) (of_move k c.x1) []) (call_by k g w c).next.table
  unfolding call_by after_move after_key after_token after_signing after_update reply_code
  kind-by ForwardError w c one = none w.table
  kind-by Delegate w c one = call-by R none join c.state g Direction.Delegate (one Direction.Delegate) w.table c.x1
  kind-by Undelegate w c one = call-by R none join c.state g Direction.Undelegate (one Direction.Undelegate) w.table c.x1
  kind-by RealmKey w c one = nothing (is_ok (reply_code (call_by RealmKey g w c).reply)) w.table
  kind-by PlatformToken w c one = nothing (is_ok (reply_code (call_by PlatformToken g w c).reply)) w.table
  kind-by Features w c one = nothing (is_ok (reply_code (call_by Features g w c).reply)) w.table
  kind-by TokenSigning w c one = nothing (is_ok (reply_code (call_by TokenSigning g w c).reply)) w.table
  kind-by KeyUpdate w c one = nothing (is_ok (reply_code (call_by KeyUpdate g w c).reply)) w.table
  kind-by Unlisted w c one = nothing (is_ok (reply_code (call_by Unlisted g w c).reply)) w.table

  -- the boot record of a command, s if it has none
  pub record_in : Record → Command → Record
  record_in s (call c) = c.state
  record_in s (sign x) = s
  record_in s (list r d l) = r

  pub command-by : (s : Record) (w : World) (c : Command) → One (record_in s c) → R w.table (changes_of g w c) (next_of g w c).table
  unfolding record_in changes_of step_of call_of after_move after_sign
  command-by s w (call c) one = kind-by (kind_of c.id) w c one
  command-by s w (sign x) one = none w.table
  command-by s w (list r d l) one = list-by R none join r g d (one d) w.table l

  -- any sequence, with any boot record for each command
  pub run_by : ((s : Record) → One s) → (w : World) (cs : List Command) →
      R w.table (gathered g (changes_of g) w cs) (world_after g w cs).table
  unfolding gathered world_after
  run_by one w [] = none w.table
  run_by one w (c ∷ cs) = join _ _ _ _ _ (command-by Fresh w c (one (record_in Fresh c))) (run_by one (next_of g w c) cs)

  -- any sequence with one boot record
  under_one : (s : Record) (c : Command) → One s → One (record_in s (under s c))
  unfolding record_in under
  under_one s (call c) one = one
  under_one s (sign x) one = one
  under_one s (list r d l) one = one

  pub under-by : (s : Record) → One s → (w : World) (cs : List Command) →
      R w.table (gathered g (changes_of g) w (map (under s) cs)) (world_after g w (map (under s) cs)).table
  unfolding gathered world_after
  under-by s one w [] = none w.table
  under-by s one w (c ∷ cs) = join _ _ _ _ _ (command-by s w (under s c) (under_one s c one)) (under-by s one (next_of g w (under s c)) cs)

-- ---- the next table depends on the table, not on the rest of the world
module _ (g : Granules) (v w : World) (e : v.table ≡ w.table) where
  kind-table : (k : Kind) (c : Call) → (call_by k g v c).next.table ≡ (call_by k g w c).next.table
  unfolding call_by after_move after_key after_token after_signing after_update
  kind-table ForwardError c = e
  kind-table Delegate c = ap (λ (t : GranuleTable). (delegate_of c.state g t c.x1).table) e
  kind-table Undelegate c = ap (λ (t : GranuleTable). (undelegate_of c.state g t c.x1).table) e
  kind-table RealmKey c = e
  kind-table PlatformToken c = e
  kind-table Features c = e
  kind-table TokenSigning c = e
  kind-table KeyUpdate c = e
  kind-table Unlisted c = e

  pub same-table : (c : Command) → (next_of g v c).table ≡ (next_of g w c).table
  unfolding step_of call_of after_move after_sign
  same-table (call c) = kind-table (kind_of c.id) c
  same-table (sign s) = e
  same-table (list r d l) = ap (λ (t : GranuleTable). (move_list_of r g d t l).table) e
