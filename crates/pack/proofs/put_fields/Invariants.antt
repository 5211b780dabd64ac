use Rattle.std.proofs.Common.{◌≡◌, ◌+◌, ◌-◌, ◌≤◌, ◌++◌, length}
use Rattle.words.specs.Word.{part, splice}
use Rattle.pack.specs.Steps.{kept_from}
use Rattle.pack.proofs.put_fields.Given as goal

abbrev pub invariant-loop-target : goal.invariant-loop-target
invariant-loop-target l =
    (l.run ≤ l.cursor) × (l.cursor ≤ 4096) × (length l.target ≡ 4096) ×
    (l.to + (l.cursor - l.run) + length (kept_from l.cursor l.page) ≡ l.at + length (kept_from l.from l.page))
    × (splice l.to (part l.run (l.cursor - l.run) l.page ++ kept_from l.cursor l.page) l.target ≡ splice l.at (kept_from l.from l.page) l.initial.target)

abbrev pub decreases-loop-target : goal.decreases-loop-target
decreases-loop-target l = 4096 - l.cursor
