-- For the steps of `writer`. Laws of proofs/Pages.antt: `core-law` proves the head and four `section_on` equal to `core_words` over the page;
-- `arrays-law` proves `arrays_on` after them equal to the lists joined, as `page_of` has them. Assumes nothing.
use Rattle.std.specs.Prelude.{ℕ, ◌+◌, ◌*◌, cond, List, length, nat_lt}
use Rattle.words.specs.Word.{bytes_of, laid}
use Rattle.versions.specs.Edition.{section_count}
use Rattle.writer_rules.specs.Write.{descriptor}

-- the three words of section `k`, if the edition has it
unfoldable pub section_on : ℕ → ℕ → ℕ → List ℕ → List ℕ → List ℕ
section_on v k p ws page = cond (nat_lt k (section_count v)) (laid (16 + 24 * k) (bytes_of (descriptor k p ws)) page) page

-- the arrays one after another, from an offset on
unfoldable pub arrays_on : ℕ → (ℕ → List ℕ) → List ℕ → List ℕ
arrays_on at l page =
    let b = at + 8 * length (l 0) in
    let c = b + 8 * length (l 1) in
    let d = c + 8 * length (l 2) in
    laid d (bytes_of (l 3)) (laid c (bytes_of (l 2)) (laid b (bytes_of (l 1)) (laid at (bytes_of (l 0)) page)))
