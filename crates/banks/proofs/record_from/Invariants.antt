use Rattle.std.proofs.Common.{◌≡◌, ◌-◌, ◌*◌, ◌≤◌, ◌∷◌, ◌++◌, length, replicate}
use Rattle.banks.specs.Steps.{record_part}
use Rattle.banks.proofs.record_from.Given as goal

abbrev pub invariant-loop-i : goal.invariant-loop-i
invariant-loop-i l =
    (l.i ≤ 2 * l.count) × (length l.word-items ≡ 2 * l.count) × (l.i-end ≡ 2 * l.count) ×
    (l.count ∷ l.word-items ++ replicate (32 - 2 * l.count) 0 ≡ record_part l.count l.i l.shown)
