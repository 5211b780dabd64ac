-- Request E14: "The books on granules. Operators expect them to balance." (BO1 to BO5) Assumes nothing.
use Rattle.std.specs.Prelude.{ℕ, ◌+◌, ◌≡◌, List, [], ◌∷◌, ◌++◌, length, get_or, Some, Result}
use Rattle.banks.specs.Banks.{Granules, granule_count, granule_at}
use Rattle.realm_words.specs.Answers.{realm_count_of, realms}
use Rattle.granule_rules.specs.Granules.{GranuleTable, to_byte}
use Rattle.granule_rules.specs.Changes.{Change}
use Rattle.granule_rules.specs.declared.Direction.{Direction}
use Rattle.granule_rules.specs.declared.Direction.TheVariants.{Delegate, Undelegate}

-- ---- the numbers: "the number of Realm bytes" (BO3) is `realms` of all bytes of the table, even if the record has no granules
-- "accepted delegations" (BO1) of one call
abbrev pub gains : Direction → ℕ
gains Delegate = 1
gains Undelegate = 0

-- "accepted undelegations" (BO1) of one call
abbrev pub losses : Direction → ℕ
losses Delegate = 0
losses Undelegate = 1

-- the number of delegations
unfoldable pub delegations : List Change → ℕ
delegations [] = 0
delegations (c ∷ cs) = gains c.way + delegations cs

-- the number of undelegations
unfoldable pub undelegations : List Change → ℕ
undelegations [] = 0
undelegations (c ∷ cs) = losses c.way + undelegations cs

-- ---- the bytes
-- a call "naming it" (BO3): its address falls on granule i of a table of n
abbrev pub Names : Granules → ℕ → ℕ → Change → Type 0
Names g n i c = granule_at g n c.address ≡ Some i

-- no change names granule i
pub data NoneNames (g : Granules) (n i : ℕ) : List Change → Type 0 where
  nil : NoneNames g n i []
  cons : (c : Change) (cs : List Change) → (Names g n i c → ⊥) → NoneNames g n i cs → NoneNames g n i (c ∷ cs)

-- ---- the books: from table t, by accepted calls in order, to table `after`
pub record Books (g : Granules) (t : GranuleTable) (cs : List Change) (after : GranuleTable) : Type 0 where
  -- "the number of Realm bytes at the end is that at the start, plus accepted delegations, less accepted undelegations" (BO1)
  pub balance : realms t.bytes + delegations cs ≡ undelegations cs + realms after.bytes
  -- the number of granules does not change
  pub whole : length after.bytes ≡ length t.bytes
  -- "Each granule's byte is the one the last accepted call naming it left," (BO2)
  pub last : (i : ℕ) (before : List Change) (c : Change) (behind : List Change) → cs ≡ before ++ c ∷ behind →
      Names g (length t.bytes) i c → NoneNames g (length t.bytes) i behind → get_or after.bytes i 0 ≡ to_byte c.way
  -- "or the starting byte if none did." (BO2)
  pub none : (i : ℕ) → NoneNames g (length t.bytes) i cs → get_or after.bytes i 0 ≡ get_or t.bytes i 0
  -- a byte of the table that no address names is unchanged (BO2)
  pub unnamed : (i : ℕ) → ((a : ℕ) → granule_at g (length t.bytes) a ≡ Some i → ⊥) → get_or after.bytes i 0 ≡ get_or t.bytes i 0

-- the same for the count from the words (request E6): at the start and at the end it is a number, not INVAL, and the numbers balance (BO5)
pub record CountBooks (g : Granules) (t : GranuleTable) (cs : List Change) (after : GranuleTable) : Type 0 where
  pub first : ℕ
  pub final : ℕ
  pub at-start : realm_count_of t.words (granule_count g) ≡ Result.Ok first
  pub at-end : realm_count_of after.words (granule_count g) ≡ Result.Ok final
  pub balance : first + delegations cs ≡ undelegations cs + final
