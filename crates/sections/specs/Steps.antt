-- For the loops. `rules-steps` (proofs/Sections.antt) proves `ok_to`, `apart_to` and `clear_from` of all sections of an edition together
-- equal to `rules_at` (Section.antt), with padding and platform data; `plat-broken` and `plat-ended` (also there) `plat_end` equal to
-- `platform_ok`. `stays-to` (mend/proofs/Pages.antt) proves `stays_at`, on the
-- page as mended so far, equal to the mender's `keeps_at`. Assumes nothing.
use Rattle.std.specs.Prelude.{ℕ, ◌+◌, ◌≡◌, Bool, cond, List, length, leb, Option, Some, None}
use Rattle.words.specs.Tests.{both, either, every}
use Rattle.words.specs.Word.{part}
use Rattle.entries.specs.Entry.{size}
use Rattle.fields.specs.Fields.{taken}
use Rattle.sections.specs.Page.{count_at, pointer_at, page_section_at, PagePlatform}
use Rattle.sections.specs.Section.{platform_ok, section_ok}

-- a copy of a page's core: 112 bytes, which have the page's own from offset 8 on, the platform pointer and the words of four sections
pub record Copied (core page : List ℕ) : Type 0 where
  pub long : length core ≡ 112
  pub same : part 8 104 core ≡ part 8 104 page

-- the platform data: the number of bytes of the fields through their end mark; `None` if it breaks its rule
unfoldable pub plat_end : ℕ → ℕ → PagePlatform → Option ℕ
plat_end e base q = cond (platform_ok e base q) (Some (taken q.found)) None

-- the rule of section k by itself
unfoldable pub ok_at : (minor edition base k : ℕ) (page : List ℕ) → Bool
ok_at w e base k page = section_ok w e base k (page_section_at base page k)

-- each of the first n sections keeps its rule by itself
unfoldable pub ok_to : (minor edition base n : ℕ) (page : List ℕ) → Bool
ok_to w e base n page = every n (λ k. ok_at w e base k page)

-- the address after the array of section k
unfoldable pub end_of : ℕ → List ℕ → ℕ
end_of k page = pointer_at k page + size k (count_at k page)

-- the arrays of sections i and j do not overlap
unfoldable pub apart_at : ℕ → ℕ → List ℕ → Bool
apart_at i j page = either (leb (end_of i page) (pointer_at j page)) (leb (end_of j page) (pointer_at i page))

-- the array of section i overlaps none of the first n
unfoldable pub clear_to : ℕ → ℕ → List ℕ → Bool
clear_to i n page = every n (λ j. apart_at i j page)

-- no two of the first n arrays overlap
unfoldable pub apart_to : ℕ → List ℕ → Bool
apart_to n page = every n (λ i. clear_to i i page)

-- [from, to) misses the array of section k
unfoldable pub clear_at : ℕ → ℕ → ℕ → List ℕ → Bool
clear_at from to k page = either (leb to (pointer_at k page)) (leb (end_of k page) from)

-- [from, to) misses the first n arrays
unfoldable pub clear_from : ℕ → ℕ → ℕ → List ℕ → Bool
clear_from from to n page = every n (λ k. clear_at from to k page)

-- section k keeps its rule by itself, and its array misses those of the sections before it and [from, to)
unfoldable pub stays_at : (minor edition base k from to : ℕ) (page : List ℕ) → Bool
stays_at w e base k from to page =
    both (ok_at w e base k page) (both (clear_from (pointer_at k page) (end_of k page) k page) (clear_at from to k page))
