use Rattle.std.proofs.Common.{◌≡◌, ◌≤◌, ◌-◌, length, drop}
use Rattle.realm_words.specs.Bits.{packed}
use Rattle.realm_words.proofs.packed_of.Given as goal

abbrev pub invariant-loop-byte : goal.invariant-loop-byte
invariant-loop-byte l =
    (goal.iterator-loop-byte).can_next l.byte-iterator ×
    (goal.iterator-loop-byte).is_finite l.byte-iterator ×
    (length l.yielded ≤ length l.block) × (l.bits ≡ packed (drop (length l.block - length l.yielded) l.block))
