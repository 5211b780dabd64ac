-- When the collector gives each of its refusals. Assumes nothing.
use Prim.Native.Nat.{ℕ, ◌+◌, ◌≤◌}
use mathlib.Core.Path.{◌≡◌}
use mathlib.Core.Bool.{true, false, not}
use native.Mathlib.Decide.{ℕ_discrete}
use lib.Dec.{ltb, eqb}
use borrow.Author.Tests.{le-ltb, lt-ltb, eq-eqb, ne_eqb}
use Rattle.std.specs.Prelude.{Option, Some, None}
use Rattle.words.specs.Tests.{both}
use Rattle.state_blobs.specs.Collect.{first_total, other_total, decide}
use Rattle.state_blobs.proofs.Collects.{same_total}
use Rattle.state_blobs.specs.Reasons.{CollectorGives}
use Rattle.state_blobs.specs.declared.Collector.{Collector}

other : (o : Option ℕ) (total : ℕ) → (((t : ℕ) → o ≡ Some t → t ≡ total) → ⊥) → first_total o (λ t. not (eqb t total)) ≡ true
other None total f = absurd (f (λ t h. cc))
other (Some t) total f = rw (ne_eqb t total (λ e. f (λ s h. cc)))

some : (n held total : ℕ) → (n ≡ 0 → total ≤ held) → both (eqb n 0) (ltb held total) ≡ false
unfolding both
some n held total f = go (ℕ_discrete n 0)
  where
    go : Dec (n ≡ 0) → both (eqb n 0) (ltb held total) ≡ false
    go (yes e) = rw (eq-eqb n 0 e, le-ltb held total (f e))
    go (no e) = rw (ne_eqb n 0 e)

pub collector-gives : (c : Collector) (total n room : ℕ) → CollectorGives c total n room (decide c total n room)
unfolding decide other_total both
collector-gives c total n room =
    record {
      differs = λ f. rw (other c.total total f);
      past-total = λ s a. rw (same_total c.total total s, lt-ltb total (c.held + n) a);
      past-buffer = λ s a b. rw (same_total c.total total s, le-ltb total (c.held + n) a, lt-ltb room (c.held + n) b);
      no-data =
          λ s a b z m. rw (
            same_total c.total total s,
            le-ltb total (c.held + n) a,
            le-ltb room (c.held + n) b,
            eq-eqb n 0 z,
            lt-ltb c.held total m,
          );
      accepts = λ s a b m. rw (same_total c.total total s, le-ltb total (c.held + n) a, le-ltb room (c.held + n) b, some n c.held total m);
    }
