-- For the loops. `entries-same` and `sum-words` (proofs/Entries.antt) prove `entries_at` equal to `entries_ok` and `sum_at` equal to `sum` (Entry.antt) of
-- the array's words (`words_at`, Array.antt). Assumes nothing.
use Rattle.std.specs.Prelude.{ℕ, ◌+◌, ◌-◌, ◌*◌, Bool, List}
use Rattle.words.specs.Tests.{every}
use Rattle.words.specs.Word.{part, word_at, words_of}
use Rattle.entries.specs.Entry.{words_per_entry, entry_rule, sum}
use Rattle.entries.specs.Array.{entry_place}

-- the rule of the entry at offset `at`
unfoldable pub entry_at : ℕ → ℕ → ℕ → List ℕ → Bool
entry_at w k at page = entry_rule w k (word_at at page) (word_at (at + 8) page) (word_at (at + 8 * (words_per_entry k - 1)) page)

-- each of the c entries from `at` on keeps its rule
unfoldable pub entries_at : (minor k at count : ℕ) (page : List ℕ) → Bool
entries_at w k at c page = every c (λ i. entry_at w k (entry_place k at i) page)

-- the sum of the n words from `at` on
unfoldable pub sum_at : ℕ → ℕ → List ℕ → ℕ
sum_at at n page = sum (words_of n (part at (8 * n) page))
