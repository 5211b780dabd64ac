-- When a reader accepts: "It accepts when all hold" (RD2). w is the page's minor, e the edition that it is read as, and f k is what the
-- page holds of section k. Assumes nothing.
use Rattle.std.specs.Prelude.{ℕ, ◌+◌, ◌*◌, Bool, List, leb, ltb, eqb}
use Rattle.words.specs.Tests.{both, either, every}
use Rattle.words.specs.Word.{words_of}
use Rattle.versions.specs.Edition.{section_count, core}
use Rattle.entries.specs.Entry.{words_per_entry, size}
use Rattle.entries.specs.Array.{sound_of}
use Rattle.fields.specs.Fields.{is_ended, taken}
use Rattle.sections.specs.Page.{PageSection, PagePlatform, padding_at, platform_at, page_section_at}

-- "plat_data is 0 or lies from B + core size of e to B + 4,095" (R2); request E7: "Fields through the end mark must lie in the page":
-- "broken fields are -7" (F1 to F4)
unfoldable pub platform_ok : ℕ → ℕ → PagePlatform → Bool
platform_ok e base q = either (eqb q.at 0) (both (leb (base + core e) q.at) (both (ltb q.at (base + 4096)) (is_ended q.found)))

-- the words of a section's array
unfoldable pub words_in : ℕ → PageSection → List ℕ
words_in k s = words_of (words_per_entry k * s.count) s.bytes

-- "24 zero bytes (shown as empty)" (RD8)
unfoldable pub nothing : ℕ → ℕ → ℕ → Bool
nothing c p s = both (eqb c 0) (both (eqb p 0) (eqb s 0))

-- "an array wholly between the core of e and the page's end" (S3)
unfoldable pub in_range : (edition base k count pointer : ℕ) → Bool
in_range e base k c p = both (leb (base + core e) p) (leb (p + size k c) (base + 4096))

-- The rule of section k by itself: "each section of e is either 24 zero bytes .., or has count 1 or more, a pointer that is a multiple of
-- 8, and an array wholly between the core of e and the page's end" (S1 to S3, RD8), with its checksum (S4) and its entries' rules (E1 to
-- E5).
unfoldable pub section_ok : (minor edition base k : ℕ) (section : PageSection) → Bool
section_ok w e base k s =
    either (nothing s.count s.ptr s.chk)
    (both (in_range e base k s.count s.ptr) (sound_of w k s.count s.ptr s.chk (words_in k s)))

-- a range of addresses [from, to)
pub record Extent : Type 0 where
  pub from : ℕ
  pub to : ℕ

-- the addresses of a section's array
unfoldable pub extent : ℕ → PageSection → Extent
extent k s = record { from = s.ptr; to = s.ptr + size k s.count }

-- two ranges share no byte; they may touch (S5, RD9)
unfoldable pub apart : Extent → Extent → Bool
apart a b = either (leb a.to b.from) (leb b.to a.from)

-- "no two arrays overlap" (S5): the array of section i misses the array of each section before it
unfoldable pub clear_before : (ℕ → PageSection) → ℕ → Bool
clear_before f i = every i (λ j. apart (extent i (f i)) (extent j (f j)))

-- the addresses of the fields through their end mark; none without a pointer (FD4, FD5)
unfoldable pub plat_extent : PagePlatform → Extent
plat_extent q = record { from = q.at; to = q.at + taken q.found }

-- Request E7: the fields "overlap no array that the reader reads" (F5); here the array of section k
unfoldable pub plat_clear : PagePlatform → (ℕ → PageSection) → ℕ → Bool
plat_clear q f k = apart (plat_extent q) (extent k (f k))

-- code -7: "any other manifest rule broken" (RD2)
unfoldable pub rules : (minor edition base padding : ℕ) (plat : PagePlatform) (sections : ℕ → PageSection) → Bool
rules w e base pad q f =
    both (eqb pad 0)
    (both (platform_ok e base q)
    (both (every (section_count e) (λ k. section_ok w e base k (f k)))
    (both (every (section_count e) (λ k. clear_before f k)) (every (section_count e) (λ k. plat_clear q f k)))))

-- the same for a page
unfoldable pub rules_at : ℕ → ℕ → ℕ → List ℕ → Bool
rules_at w e base page = rules w e base (padding_at page) (platform_at base page) (page_section_at base page)
