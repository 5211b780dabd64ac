-- `shared-refused`, `shared-passed` (proofs/Moving.antt) and `list-refused` (proofs/Lists.antt) prove what `shared_code` is for `move_of` and
-- `move_list_of`, `move_up` that `move_at` equals `move_of` after these checks. For `move_at`, whose caller passes a granule: `granule-inside`
-- proves `Inside` for the granule of `granule_at`. Assumes nothing.
use Rattle.std.specs.Prelude.{ℕ, ◌/◌, ◌<◌, ◌≡◌, List, length, ltb, eqb, Option, Some, Result}
use Rattle.words.specs.Tests.{both}
use Rattle.boot.specs.declared.Params.{Params}
use Rattle.boot.specs.declared.Record.{Record}
use Rattle.codes.specs.Codes.{is_up, is_false, fails, gated}
use Rattle.codes.specs.declared.Code.{Code}
use Rattle.codes.specs.declared.Code.TheVariants.{Ok, Unk, BadAddr, Inval}
use Rattle.realm_words.specs.Answers.{words_fit}
use Rattle.banks.specs.Banks.{Granules, granule_count}
use Rattle.granule_rules.specs.Granules.{GranuleTable, table_of, Moved, move_code, moved, moved_by}
use Rattle.granule_rules.specs.declared.Direction.{Direction}

-- a granule has a byte in the table, and a bit in the words
abbrev pub Inside : Option ℕ → (bytes words : List ℕ) → Type 0
Inside k bytes words = (i : ℕ) → k ≡ Some i → (i < length bytes) × (i / 64 < length words)

-- the code of the checks that do not depend on the address, with a table of n bytes: the number of words, the boot record, and the table's
-- length, which no address gets past unless the record has n granules
unfoldable pub shared_code : Record → Granules → (n : ℕ) → (words : List ℕ) → Code
shared_code s g n words =
    fails (is_false (words_fit words (granule_count g))) Inval
    (fails (is_false (is_up s)) Unk
    (fails (is_false (both (ltb 0 (granule_count g)) (eqb (granule_count g) n))) BadAddr
    Ok))

-- a call with the right number of words, and a boot record that is up and keeps u
unfoldable pub move_at : Params → Granules → Direction → GranuleTable → ℕ → Moved
move_at u g d t addr = moved_by (move_code u g d t addr) (moved g d t addr) t

-- a call with this result that leaves these bytes and words is the move m: its code as the result of checks, and its table
abbrev pub MoveResult : Result (Unit {0}) Code → (bytes words : List ℕ) → Moved → Type 0
MoveResult r bytes words m = (r ≡ gated m.answer.code tt) × (table_of bytes words ≡ m.table)
