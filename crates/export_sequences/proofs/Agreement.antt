-- Request E6 at the C edge: if words and table agree, they agree after any sequence of exports, and the answers from the words equal those
-- of a full scan of the table. Assumes nothing.
use Prim.Native.Nat.{ℕ, ◌<◌}
use mathlib.Core.Path.{◌≡◌, sym, ap, ◌∙◌, subst}
use mathlib.Core.List.{List, map}
use lib.ListN.{length}
use Rattle.words.specs.Tests.{Yes}
use Rattle.words.specs.Word.{are_words}
use Rattle.banks.specs.Banks.{granule_count}
use Rattle.realm_words.specs.Answers.{realm_count_of, realm_next_of, realms, next_realm}
use Rattle.std.specs.Prelude.{Result}
use Rattle.granule_rules.specs.Granules.{table_of, Agrees}
use Rattle.granule_rules.proofs.Agreement.{count_walks, next-walks}
use Rattle.runtime.specs.Step.{World}
use Rattle.runtime.proofs.Agreement.{agreement-kept, length-stays}
use Rattle.queue_image.specs.Image.{each, are_bytes}
use Rattle.export_sequences.specs.Chain.{Lent, lent_world, of_bytes}
use Rattle.export_sequences.specs.Exported.{Exported, command_of, all_exported}
use Rattle.export_sequences.proofs.Singles.{exports-chain}

-- the lent words and table agree
abbrev pub LentAgrees : Lent → Type 0
LentAgrees m = Agrees (table_of m.table m.words)

-- for a queue's image of 210 words, a page of bytes, and bytes lent to each call
module _ (granules : List ℕ) (m : Lent) (es : List Exported) (l : length m.queue ≡ 210) (w : Yes (are_words m.queue))
    (a : Yes (are_bytes m.page)) (b : Yes (each of_bytes (map command_of es))) (g : LentAgrees m) where
  pub exports-agree : LentAgrees (all_exported granules m es)
  exports-agree =
      subst (λ (x : World). Agrees x.table) (sym (exports-chain granules m es l w a b))
      (agreement-kept granules (lent_world m) (map command_of es) g)

  -- the table has one byte for each granule of the record
  module _ (n : granule_count granules ≡ length m.table) where
    still : granule_count granules ≡ length (all_exported granules m es).table
    still =
        n ∙ sym (ap (λ (x : World). length x.table.bytes) (exports-chain granules m es l w a b) ∙
        length-stays granules (lent_world m) (map command_of es))

    pub exports_count : realm_count_of (all_exported granules m es).words (granule_count granules) ≡ Result.Ok
        (realms (all_exported granules m es).table)
    exports_count = count_walks granules (table_of (all_exported granules m es).table (all_exported granules m es).words) still exports-agree

    pub exports-next : (i : ℕ) → i < granule_count granules →
        realm_next_of (all_exported granules m es).words (granule_count granules) i ≡ Result.Ok (next_realm (all_exported granules m es).table i)
    exports-next i h =
        next-walks granules (table_of (all_exported granules m es).table (all_exported granules m es).words) still exports-agree i h
