use Prim.Native.Nat.{◌≤◌}
use mathlib.Core.Path.{◌≡◌}
use lib.ListN.{length, drop}
use Rattle.banks.proofs.Fast.{SpanOf}
use Rattle.granule_rules.specs.Granules.{table_of}
use Rattle.granule_rules.specs.Steps.{move_at}
use Rattle.granule_rules.specs.Lists.{list_by}
use Rattle.granules.proofs.move_each.Given as goal

abbrev pub invariant-loop-i : goal.invariant-loop-i
invariant-loop-i l =
    (l.i ≤ length l.addresses) × (length l.table ≡ length l.initial.table) × (length l.words ≡ length l.initial.words) × SpanOf l.granules l.bank
    × (list_by (move_at l.params l.granules l.direction) 0 (table_of l.initial.table l.initial.words) l.addresses ≡ list_by (move_at l.params l.granules l.direction) l.i
    (table_of l.table l.words) (drop l.i l.addresses))
