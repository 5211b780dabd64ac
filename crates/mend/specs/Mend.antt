-- Mending a page (MD2). Request E12: "The mender goes over padding, platform pointer with its fields, DRAM, consoles, non-coherent,
-- coherent, in this order." Rules and overlaps are the reader's own definitions. Assumes nothing.
use Rattle.std.specs.Prelude.{ℕ, zero, suc, ◌+◌, ◌*◌, min, Bool, true, false, cond, not, List, [], ◌∷◌, length, leb, ltb, eqb, ℤ, Result, Ok, Err}
use Rattle.words.specs.Tests.{both, some}
use Rattle.versions.specs.Version.{minor_of, version_ok}
use Rattle.versions.specs.Edition.{section_count}
use Rattle.fields.specs.Fields.{ended}
use Rattle.sections.specs.Page.{place_ok, version_at, padding_at, PageSection, page_section, page_section_at, PagePlatform, page_platform}
use Rattle.sections.specs.Page.{platform_at}
use Rattle.sections.specs.Section.{platform_ok, section_ok, clear_before, plat_clear}
use Rattle.reader.specs.Answer.{minus}
use Rattle.reader.specs.Reading.{refusal_number}
use Rattle.reader.specs.declared.Refusal.{Refusal}
use Rattle.reader.specs.declared.Refusal.TheVariants.{Place, Version}
use Rattle.mend.specs.declared.Changes.{Changes}

-- what zero bytes in the core mean: no platform pointer
unfoldable pub no_platform : PagePlatform
no_platform = page_platform 0 (ended [] 0)

-- what zero bytes in the core mean: an empty section
unfoldable pub no_section : PageSection
no_section = page_section 0 0 0 []

-- "a platform pointer .. that breaks a rule by itself .. is set to zero bytes in the core" (MD2): e is the page's edition
unfoldable pub plat_left : ℕ → ℕ → PagePlatform → PagePlatform
plat_left e base q = cond (platform_ok e base q) q no_platform

-- whether section `k` stays: it neither "breaks a rule by itself, or overlaps one kept before it" (MD2, MD3). `plat` and
-- `sections` are what is left of the page before it.
unfoldable pub stays : (minor edition base : ℕ) (plat : PagePlatform) (sections : ℕ → PageSection) (k : ℕ) → Bool
stays w e base q g k = both (section_ok w e base k (g k)) (both (clear_before g k) (plat_clear q g k))

-- the sections after mending the first `n`; the others are unchanged
unfoldable pub after_mending : (minor edition base : ℕ) (plat : PagePlatform) (sections : ℕ → PageSection) (n k : ℕ) → PageSection
after_mending w e base q f zero k = f k
after_mending w e base q f (suc n) k =
    cond (eqb k n) (cond (stays w e base q (after_mending w e base q f n) n) (f n) no_section) (after_mending w e base q f n k)

-- whether section `k` is kept
unfoldable pub keeps_section : (minor edition base : ℕ) (plat : PagePlatform) (sections : ℕ → PageSection) (k : ℕ) → Bool
keeps_section w e base q f k = stays w e base q (after_mending w e base q f k) k

-- ---- of a page
-- the page's own minor version
abbrev pub minor_at : List ℕ → ℕ
minor_at page = minor_of (version_at page)

-- "the page's edition" (MD5), which it is read as: the smaller of 4 and its minor
abbrev pub edition_at : List ℕ → ℕ
edition_at page = min 4 (minor_at page)

-- the platform data that is left on the page
unfoldable pub plat_left_at : ℕ → List ℕ → PagePlatform
plat_left_at base page = plat_left (edition_at page) base (platform_at base page)

-- whether section `k` of the page is kept
unfoldable pub keeps_at : ℕ → List ℕ → ℕ → Bool
keeps_at base page k = keeps_section (minor_at page) (edition_at page) base (plat_left_at base page) (page_section_at base page) k

-- "It reports for each of the six whether it was changed; a section that the page's edition lacks is not touched and reports no." (MD4,
-- MD5) The six parts are numbered in their order: padding, pointer, and section k as part k + 2.
unfoldable pub changed : ℕ → List ℕ → ℕ → Bool
changed base page zero = not (eqb (padding_at page) 0)
changed base page (suc zero) = not (platform_ok (edition_at page) base (platform_at base page))
changed base page (suc (suc k)) = both (ltb k (section_count (edition_at page))) (not (keeps_at base page k))

-- the offset of part `j` in the core; it ends where the next part starts (MD2)
unfoldable pub part_at : ℕ → ℕ
part_at zero = 4
part_at (suc zero) = 8
part_at (suc (suc k)) = 16 + 24 * k

-- whether byte `i` belongs to part `j`
unfoldable pub of_part : ℕ → ℕ → Bool
of_part j i = both (leb (part_at j) i) (ltb i (part_at (suc j)))

-- the bytes, with zero for each byte `i` with `f i`
unfoldable pub blank : (ℕ → Bool) → List ℕ → List ℕ
blank f [] = []
blank f (b ∷ bs) = cond (f 0) 0 b ∷ blank (λ i. f (suc i)) bs

-- each of the six parts that is changed "is set to zero bytes in the core" (MD2, MD6)
unfoldable pub parts_zeroed : ℕ → List ℕ → List ℕ
parts_zeroed base page = blank (λ i. some 6 (λ j. both (changed base page j) (of_part j i))) page

-- ---- the answer: for each of the six parts, whether it is changed
unfoldable pub mend_changes : ℕ → List ℕ → Changes
mend_changes base page =
    record {
      padding = changed base page 0;
      plat = changed base page 1;
      dram = changed base page 2;
      console = changed base page 3;
      ncoh = changed base page 4;
      coh = changed base page 5;
    }

-- the answer: the changes of a mended page, or why it was refused
abbrev pub Mended : Type 0
Mended = Result Changes Refusal

-- MD1: "Refusals: -5 and -6 as the reader gives them, page untouched."
unfoldable pub mend_gate : Bool → Bool → Changes → Mended
mend_gate true true c = Ok c
mend_gate true false c = Err Version
mend_gate false v c = Err Place

-- the answer of the mender for a page at `base`
unfoldable pub mended_of : ℕ → List ℕ → Mended
mended_of base page = mend_gate (place_ok base (length page)) (version_ok (version_at page)) (mend_changes base page)

-- ---- the answer in numbers: the code (MD1), or for each of the six parts, in order, whether it was changed
pub data MendAnswer : Type 0 where
  unmended : ℤ → MendAnswer
  mended : List Bool → MendAnswer

-- an answer of `mend` in these numbers
unfoldable pub mend_answer : Mended → MendAnswer
mend_answer (Err c) = unmended (refusal_number c)
mend_answer (Ok c) = mended (c.padding ∷ c.plat ∷ c.dram ∷ c.console ∷ c.ncoh ∷ c.coh ∷ [])

-- the answer in these numbers, by the same checks as `mend_gate`
unfoldable pub mend_numbers : Bool → Bool → List Bool → MendAnswer
mend_numbers true true c = mended c
mend_numbers true false c = unmended (minus 6)
mend_numbers false v c = unmended (minus 5)

-- the answer in these numbers for a page at `base`
unfoldable pub mend_of : ℕ → List ℕ → MendAnswer
mend_of base page =
    mend_numbers (place_ok base (length page)) (version_ok (version_at page))
    (changed base page 0 ∷ changed base page 1 ∷ changed base page 2 ∷ changed base page 3 ∷ changed base page 4 ∷ changed base page 5 ∷ [])

-- ---- the page at exit: mended, or unchanged if it is refused (MD1)
unfoldable pub mended_page : ℕ → List ℕ → List ℕ
mended_page base page = cond (both (place_ok base (length page)) (version_ok (version_at page))) (parts_zeroed base page) page
