-- Request E6: if words and table agree, they agree after any sequence of commands, lists and signer's steps, so the answers from the words
-- equal those of a full scan of the table. Assumes nothing.
use Prim.Native.Nat.{ℕ, ◌<◌}
use mathlib.Core.Path.{◌≡◌, refl, sym, ◌∙◌}
use mathlib.Core.List.{List, [], ◌∷◌}
use lib.ListN.{length}
use Rattle.banks.specs.Banks.{Granules, granule_count}
use Rattle.boot.specs.declared.Record.{Record}
use Rattle.realm_words.specs.Answers.{realm_count_of, realm_next_of, realms, next_realm}
use Rattle.std.specs.Prelude.{Result}
use Rattle.granule_rules.specs.Granules.{GranuleTable, Agrees, move_of}
use Rattle.granule_rules.specs.declared.Direction.{Direction}
use Rattle.granule_rules.proofs.Moving.{lengths-kept}
use Rattle.granule_rules.proofs.Agreement.{count_walks, next-walks, move-keeps, list-holds}
use Rattle.runtime.specs.declared.Kind.{Kind}
use Rattle.runtime.specs.declared.Kind.TheVariants.{ForwardError, Delegate, Undelegate, RealmKey, PlatformToken, Features}
use Rattle.runtime.specs.declared.Kind.TheVariants.{TokenSigning, KeyUpdate, Unlisted}
use Rattle.runtime.specs.Step.{World, Call, Command, call, sign, list, kind_of, after_move, after_key, after_token, after_signing}
use Rattle.runtime.specs.Step.{after_update, after_sign, call_by, call_of, step_of}
use Rattle.runtime.specs.Run.{next_of, world_after}

-- ---- a property of the table that each delegation preserves is preserved by every sequence: no other command changes the table
module _ (g : Granules) (P : GranuleTable → Type 0) (keeps : (s : Record) (d : Direction) (t : GranuleTable) (addr : ℕ) → P t →
    P (move_of s g d t addr).table) where
  by-keeps : (k : Kind) (w : World) (c : Call) → P w.table → P (call_by k g w c).next.table
  unfolding call_by after_move after_key after_token after_signing after_update
  by-keeps ForwardError w c p = p
  by-keeps Delegate w c p = keeps c.state Direction.Delegate w.table c.x1 p
  by-keeps Undelegate w c p = keeps c.state Direction.Undelegate w.table c.x1 p
  by-keeps RealmKey w c p = p
  by-keeps PlatformToken w c p = p
  by-keeps Features w c p = p
  by-keeps TokenSigning w c p = p
  by-keeps KeyUpdate w c p = p
  by-keeps Unlisted w c p = p

  step_keeps : (w : World) (c : Command) → P w.table → P (next_of g w c).table
  unfolding step_of call_of after_sign after_move
  step_keeps w (call c) p = by-keeps (kind_of c.id) w c p
  step_keeps w (sign s) p = p
  step_keeps w (list r d l) p = list-holds r g d P (λ t addr q. keeps r d t addr q) w.table l p

  pub table-keeps : (w : World) (cs : List Command) → P w.table → P (world_after g w cs).table
  unfolding world_after
  table-keeps w [] p = p
  table-keeps w (c ∷ cs) p = table-keeps (next_of g w c) cs (step_keeps w c p)

module _ (g : Granules) (w : World) (cs : List Command) where
  pub length-stays : length (world_after g w cs).table.bytes ≡ length w.table.bytes
  length-stays =
      table-keeps g (λ t. length t.bytes ≡ length w.table.bytes) (λ s d t addr p. (lengths-kept s g d t addr).0 ∙ p) w cs refl

  module _ (a : Agrees w.table) where
    pub agreement-kept : Agrees (world_after g w cs).table
    agreement-kept = table-keeps g Agrees (λ s d t addr p. move-keeps s g d t addr p) w cs a

    -- the answers after the sequence, if the table has one byte for each granule of the record
    module _ (n : granule_count g ≡ length w.table.bytes) where
      pub count-after : realm_count_of (world_after g w cs).table.words (granule_count g) ≡ Result.Ok
          (realms (world_after g w cs).table.bytes)
      count-after = count_walks g (world_after g w cs).table (n ∙ sym length-stays) agreement-kept

      pub next-after : (i : ℕ) → i < granule_count g → realm_next_of (world_after g w cs).table.words (granule_count g) i ≡ Result.Ok
          (next_realm (world_after g w cs).table.bytes i)
      next-after i h = next-walks g (world_after g w cs).table (n ∙ sym length-stays) agreement-kept i h
