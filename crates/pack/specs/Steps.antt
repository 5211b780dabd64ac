-- For the steps and loops of `pack`. `told_same` (proofs/Answers.antt) proves `shown_description_at` equal to `shown_description` of what reader edition 4 shows;
-- `sections-all` (proofs/Whole.antt) proves `section_moved` equal to the writer's `descriptor_at`; `movable` (proofs/Answers.antt) proves `Movable` of
-- each section that is read. B is a multiple of 4,096, so pointer % 4096 is the offset in the page. Assumes nothing.
use Rattle.std.specs.Prelude.{ℕ, ◌+◌, ◌*◌, ◌%◌, ◌≤◌, cond, List, [], length, ◌==◌, ◌≢◌, nat_lt}
use Rattle.words.specs.Tests.{Yes}
use Rattle.words.specs.Word.{word_at, joined}
use Rattle.versions.specs.Edition.{section_count}
use Rattle.entries.specs.Entry.{size, check_ok}
use Rattle.entries.specs.Array.{words_at}
use Rattle.fields.specs.Fields.{shown_fields}
use Rattle.fields.specs.Steps.{fields_from}
use Rattle.sections.specs.Page.{count_at, pointer_at, check_at}
use Rattle.writer_checks.specs.Description.{Description}
use Rattle.writer_rules.specs.Write.{descriptor}
use Rattle.pack.specs.Pack.{fields_kept}

-- the words of the array of section k
unfoldable pub array_words_in : List ℕ → ℕ → List ℕ
array_words_in page k = words_at k (count_at k page) (pointer_at k page % 4096) page

-- The array of section `k` is within the page and its checksum holds, as the rules require of a section that is read. A section of 24 zero bytes has
-- no checksum.
pub record Movable (page : List ℕ) (k : ℕ) : Type 0 where
  pub inside : pointer_at k page % 4096 + size k (count_at k page) ≤ length page
  pub sums : (count_at k page ≢ 0) → Yes (check_ok (count_at k page) (pointer_at k page) (array_words_in page k) (check_at k page))

-- the three words of section `k`, with the arrays one after another from address `first`
unfoldable pub section_moved : ℕ → List ℕ → ℕ → List ℕ
section_moved first page k = descriptor k (first + 8 * length (joined k (array_words_in page))) (array_words_in page k)

-- the offset of the fields; the length of the page if it has no platform pointer
unfoldable pub fields_place : List ℕ → ℕ
fields_place page = cond (word_at 8 page == 0) (length page) (word_at 8 page % 4096)

-- the fields from an offset on, without the withdrawn ones
unfoldable pub kept_from : ℕ → List ℕ → List ℕ
kept_from at page = fields_kept (shown_fields (fields_from at page))

-- the description that the code passes to the writer, for a page of minor `v`
unfoldable pub shown_description_at : ℕ → List ℕ → Description
shown_description_at v page =
    record { lists = λ k. cond (nat_lt k (section_count v)) (array_words_in page k) []; fields = kept_from (fields_place page) page }
