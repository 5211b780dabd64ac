-- Request E1: a list of granules among the commands. Assumes nothing.
use Prim.Native.Nat.{ℕ}
use mathlib.Core.Path.{◌≡◌, refl, ap, ◌∙◌}
use mathlib.Core.List.{List, [], ◌∷◌, map}
use lib.ListN.{length, take, length-map}
use lib.Seq.{length-take-le}
use Rattle.boot.specs.declared.Record.{Record}
use Rattle.codes.specs.Codes.{answer_of}
use Rattle.granule_rules.specs.Granules.{move_of}
use Rattle.granule_rules.specs.Lists.{table_by, done_of}
use Rattle.banks.specs.Banks.{Granules}
use Rattle.granule_rules.specs.declared.Direction.{Direction}
use Rattle.granule_rules.proofs.Done.{list-is, longest}
use Rattle.runtime.specs.Step.{World, with_table, list, kind_of, after_move, call_by, call_of, step_of, reply_code, refusal}
use Rattle.runtime.specs.Run.{next_of, world_after, single_call, done_calls}

module _ (g : Granules) (r : Record) where
  -- a single call changes only the table, as the command's definition states
  pub single-next : (d : Direction) (w : World) (a : ℕ) → next_of g w (single_call r d a) ≡ with_table (move_of r g d w.table a).table w
  unfolding single_call step_of call_of kind_of call_by after_move
  single-next Direction.Delegate w a = refl
  single-next Direction.Undelegate w a = refl

  singles-after : (d : Direction) (w : World) (l : List ℕ) →
      world_after g w (map (single_call r d) l) ≡ with_table (table_by (move_of r g d) w.table l) w
  unfolding world_after table_by
  singles-after d w [] = refl
  singles-after d w (a ∷ l) =
      ap (λ v. world_after g v (map (single_call r d) l)) (single-next d w a) ∙
      singles-after d (with_table (move_of r g d w.table a).table w) l

  -- the number of granules done is the number of single calls
  done-length : (d : Direction) (w : World) (l : List ℕ) → length (done_calls g w (list r d l)) ≡ done_of r g d w.table l
  unfolding done_calls
  done-length d w l =
      length-map (take (done_of r g d w.table l) l) (single_call r d) ∙
      length-take-le (done_of r g d w.table l) l (longest (move_of r g d) w.table l).within

  -- the granules done, one after another
  done-after : (d : Direction) (w : World) (l : List ℕ) →
      world_after g w (done_calls g w (list r d l)) ≡ with_table (table_by (move_of r g d) w.table (take (done_of r g d w.table l) l)) w
  unfolding done_calls
  done-after d w l = singles-after d w (take (done_of r g d w.table l) l)

  -- the world after a list is the world after the single calls that were done; x1 is their number
  pub list-run : (d : Direction) (w : World) (l : List ℕ) →
      step_of g w (list r d l) ≡ refusal (length (done_calls g w (list r d l))) (step_of g w (list r d l))
      (world_after g w (done_calls g w (list r d l)))
  unfolding step_of after_move reply_code answer_of
  list-run d w l = rw (done-length d w l, done-after d w l, list-is r g d w.table l)
