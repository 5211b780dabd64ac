-- Where each part of a page that the writer makes is, as plain facts about its bytes (WR6 to WR8). "It writes the core, plat_data 0,
-- then the arrays at once after it in section order, and zero everywhere else. An empty list gives 24 zero bytes." Request E7: "places them
-- in list order at once after core and arrays and points at them, or writes pointer 0 if there are none". Assumes nothing.
use Rattle.std.specs.Prelude.{ℕ, zero, suc, ◌+◌, ◌*◌, ◌%◌, ◌^◌, ◌≤◌, ◌<◌, ◌≡◌, List, length, get_or}
use Rattle.words.specs.Word.{part, word_at, bytes_of}
use Rattle.entries.specs.Entry.{sum}
use Rattle.writer_checks.specs.Description.{Description}

-- the number of words of the lists before list k
abbrev pub words_before : ℕ → (ℕ → List ℕ) → ℕ
words_before zero l = 0
words_before (suc k) l = words_before k l + length (l k)

-- WR7: count, pointer and checksum of section k, with c, p and x the three words: `ws` is its list and `a` the address of its array
pub record SectionIs (k a : ℕ) (ws : List ℕ) (c p x : ℕ) : Type 0 where
  pub empty : length ws ≡ 0 → (c ≡ 0) × (p ≡ 0) × (x ≡ 0)
  -- "2 words an entry, 6 for a console" (WR1); consoles are section 1
  pub count : (k ≡ 1 → 6 * c ≡ length ws) × ((k ≡ 1 → ⊥) → 2 * c ≡ length ws)
  pub pointer : 0 < length ws → p ≡ a
  pub checksum : (c + p + sum ws + x) % 2 ^ 64 ≡ 0

-- a page at base B of edition v, whose core takes s bytes
pub record LaidAfter (s base v : ℕ) (d : Description) (page : List ℕ) : Type 0 where
  pub size : length page ≡ 4096
  -- major 0, minor v and padding 0
  pub version : word_at 0 page ≡ v
  -- the sections whose 24 bytes are in the core, each with the address of its array
  pub sections : (k : ℕ) → 16 + 24 * k < s →
      SectionIs k (base + (s + 8 * words_before k d.lists)) (d.lists k)
      (word_at (16 + 24 * k) page) (word_at (24 + 24 * k) page) (word_at (32 + 24 * k) page)
  -- the arrays, in section order
  pub arrays : (k : ℕ) → k < 4 → part (s + 8 * words_before k d.lists) (8 * length (d.lists k)) page ≡ bytes_of (d.lists k)
  -- the fields and their pointer
  pub no_pointer : length d.fields ≡ 0 → word_at 8 page ≡ 0
  pub pointer : 0 < length d.fields → word_at 8 page ≡ base + (s + 8 * words_before 4 d.lists)
  pub fields : part (s + 8 * words_before 4 d.lists) (length d.fields) page ≡ d.fields
  -- zero everywhere else; the end mark of fields is three zero bytes, for which W5 keeps room
  pub rest : (i : ℕ) → s + 8 * words_before 4 d.lists + length d.fields ≤ i → get_or page i 0 ≡ 0

-- "Core sizes are 16, 40, 64 and 112 bytes for editions 1 to 4" (ML2)
abbrev pub LayoutFacts : ℕ → ℕ → Description → List ℕ → Type 0
LayoutFacts base v d page =
    (v ≡ 1 → LaidAfter 16 base v d page) × (v ≡ 2 → LaidAfter 40 base v d page)
    × (v ≡ 3 → LaidAfter 64 base v d page) × (v ≡ 4 → LaidAfter 112 base v d page)
