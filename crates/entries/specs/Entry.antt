-- The entries of a section. Sections are numbered as in ML1: 0 plat_dram, 1 plat_console, 2 plat_ncoh_region,
-- 3 plat_coh_region. Assumes nothing.
use Rattle.std.specs.Prelude.{ℕ, zero, suc, ◌+◌, ◌-◌, ◌*◌, ◌%◌, ◌^◌, Bool, cond, List, [], ◌∷◌, ◌==◌, nat_le, nat_lt, slice_index}
use Rattle.words.specs.Tests.{both, either, every}

-- the number of words in an entry of section k (ML4): "A bank or region entry is 16 bytes: base, size. A console entry is 48 bytes: base,
-- map_pages, name (8 bytes), clk_in_hz, baud_rate, flags."
unfoldable pub words_per_entry : ℕ → ℕ
words_per_entry zero = 2
words_per_entry (suc zero) = 6
words_per_entry (suc (suc k)) = 2

-- the size of c entries, in bytes (ML5)
unfoldable pub size : ℕ → ℕ → ℕ
size k c = 8 * (words_per_entry k * c)

-- "bank and region: base and size multiples of 4,096, size not 0, base + size at most 2^52" (E1 to E4)
unfoldable pub bank_ok : ℕ → ℕ → Bool
bank_ok b s = both (b % 4096 == 0) (both (s % 4096 == 0) (both (nat_lt 0 s) (nat_le (b + s) (2 ^ 52))))

-- "flags 0", as request E3 amends it: "flags must be zero only when the page's minor is 4 or less" (E5). Here and below, w is the minor of
-- the page's version.
unfoldable pub flags_ok : ℕ → ℕ → Bool
flags_ok w f = either (f == 0) (nat_lt 4 w)

-- "console: base a multiple of 4,096, map_pages not 0, base + 4,096 x map_pages at most 2^52, flags 0" (E1, E3 to E5)
unfoldable pub console_ok : (minor base pages flags : ℕ) → Bool
console_ok w b n f = both (b % 4096 == 0) (both (nat_lt 0 n) (both (nat_le (b + 4096 * n) (2 ^ 52)) (flags_ok w f)))

-- the rule of an entry of section k, given its first, second and last word, on a page of minor w; the second word of a bank is also its
-- last
unfoldable pub entry_rule : (minor k first second last : ℕ) → Bool
entry_rule w k a b z = cond (k == 1) (console_ok w a b z) (bank_ok a b)

-- the rule of the entry whose words start at index j of ws
unfoldable pub entry_ok : ℕ → ℕ → List ℕ → ℕ → Bool
entry_ok w k ws j = entry_rule w k (slice_index ws j) (slice_index ws (j + 1)) (slice_index ws (j + (words_per_entry k - 1)))

-- each of c entries keeps its rule (E1 to E5)
unfoldable pub entries_ok : ℕ → ℕ → ℕ → List ℕ → Bool
entries_ok w k c ws = every c (λ i. entry_ok w k ws (words_per_entry k * i))

-- the words ws with 0 at index n and at every sixth index after it
unfoldable pub flags_cleared : ℕ → List ℕ → List ℕ
flags_cleared n [] = []
flags_cleared zero (w ∷ ws) = 0 ∷ flags_cleared 5 ws
flags_cleared (suc n) (w ∷ ws) = w ∷ flags_cleared n ws

-- the entries of section k as a page of minor w shows them. Request E3: "For minor 5 and above .. any value passes, and the console is
-- shown and listed with flags 0, while the array lookup gives the page's bytes." (RD11)
unfoldable pub shown_words : ℕ → ℕ → List ℕ → List ℕ
shown_words w zero ws = ws
shown_words w (suc zero) ws = cond (nat_lt 4 w) (flags_cleared 5 ws) ws
shown_words w (suc (suc k)) ws = ws

-- the sum of the words (ML6)
unfoldable pub sum : List ℕ → ℕ
sum [] = 0
sum (w ∷ ws) = w + sum ws

-- "Checksum: count, pointer, all 8-byte words of the array and the checksum itself sum to 0 modulo 2^64." (ML6)
unfoldable pub check_ok : ℕ → ℕ → List ℕ → ℕ → Bool
check_ok c p ws s = (c + p + sum ws + s) % 2 ^ 64 == 0
