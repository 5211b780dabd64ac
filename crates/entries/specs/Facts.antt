-- The rules of entries as plain facts about their words, without the tests that the code is proved against. Assumes nothing.
use Rattle.std.specs.Prelude.{◌≡◌, ℕ, zero, suc, ◌+◌, ◌*◌, ◌%◌, ◌^◌, ◌<◌, ◌≤◌, List, ◌≢◌}
use Rattle.words.specs.Word.{word_at}

-- "bank and region: base and size multiples of 4,096, size not 0, base + size at most 2^52" (E1 to E4)
abbrev pub BankFacts : ℕ → ℕ → Type 0
BankFacts b s = (b % 4096 ≡ 0) × (s % 4096 ≡ 0) × (0 < s) × (b + s ≤ 2 ^ 52)

-- "console: base a multiple of 4,096, map_pages not 0, base + 4,096 x map_pages at most 2^52, flags 0"; request E3: "flags must be zero
-- only when the page's minor is 4 or less" (E1, E3 to E5); w is the page's minor
abbrev pub ConsoleFacts : (minor base pages flags : ℕ) → Type 0
ConsoleFacts w b n f = (b % 4096 ≡ 0) × (0 < n) × (b + 4096 * n ≤ 2 ^ 52) × (w ≤ 4 → f ≡ 0)

-- the sum of the n words of a page from `at` on
unfoldable pub words_sum : ℕ → ℕ → List ℕ → ℕ
words_sum at zero page = 0
words_sum at (suc n) page = words_sum at n page + word_at (at + 8 * n) page

-- The c entries of section k at offset `at` of a page of minor w: "A bank or region entry is 16 bytes: base, size. A console entry is 48
-- bytes: base, map_pages, name (8 bytes), clk_in_hz, baud_rate, flags." (ML4) Consoles are section 1.
pub record EntriesFacts (w k c at : ℕ) (page : List ℕ) : Type 0 where
  pub banks : (k ≢ 1) → (i : ℕ) → i < c → BankFacts (word_at (at + 16 * i) page) (word_at (at + 16 * i + 8) page)
  pub consoles : k ≡ 1 → (i : ℕ) → i < c → ConsoleFacts w (word_at (at + 48 * i) page) (word_at (at + 48 * i + 8) page)
      (word_at (at + 48 * i + 40) page)
