use Rattle.std.proofs.Common.{◌≡◌, length}
use Rattle.tpm_vectors.proofs.print_calls.Given as goal

abbrev pub invariant-loop-call : goal.invariant-loop-call
invariant-loop-call l = (length l.memory ≡ length l.initial.memory) × (length l.response ≡ length l.initial.response)
