-- What MD1 to MD7 claim of the mender, for every page and base. Assumes nothing.
use Rattle.std.specs.Prelude.{ℕ, suc, ◌≤◌, ◌<◌, false, cond, not, ◌⊎◌, ◌≡◌, List, eqb, length, get_or, Ok, Err}
use Rattle.words.specs.Tests.{Yes, both, either, every}
use Rattle.versions.specs.Edition.{section_count}
use Rattle.sections.specs.Page.{padding_at, count_at, pointer_at, check_at, page_section_at, platform_at}
use Rattle.sections.specs.Section.{platform_ok, section_ok, extent, apart, plat_extent}
use Rattle.reader.specs.Answer.{Shown, PlatShown, shown, plat_shown, refused, shows, minus, read_of}
use Rattle.reader.specs.Reading.{refusal_number}
use Rattle.reader.specs.declared.Refusal.{Refusal}
use Rattle.reader.specs.declared.Refusal.TheVariants.{Place, Version}
use Rattle.mend.specs.Mend.{no_platform, no_section, minor_at, edition_at, keeps_at, changed, of_part, mend_changes, mended_of, mended_page}
use Rattle.mend.specs.declared.Changes.{Changes}

-- these claims for one base and page
pub record Mends (base : ℕ) (page : List ℕ) : Type 0 where
  -- MD1: "Refusals: -5 and -6 as the reader gives them, page untouched."
  pub place : read_of 4 base page ≡ refused (minus 5) → mended_of base page ≡ Err Place
  pub version : read_of 4 base page ≡ refused (minus 6) → mended_of base page ≡ Err Version
  pub refusal : (c : Refusal) → mended_of base page ≡ Err c →
      (read_of 4 base page ≡ refused (refusal_number c)) × (mended_page base page ≡ page)
  -- and no other refusal: a page that the reader refuses with -7 is mended (MD1, MD7)
  pub damaged : read_of 4 base page ≡ refused (minus 7) → mended_of base page ≡ Ok (mend_changes base page)
  -- MD7: "Afterwards reader edition 4 accepts, shows all that was kept": the pointer with its fields, and each section with the entries and
  -- lookup bytes that the page held before; a part that was not kept is shown as none or empty
  pub accepts : (c : Changes) → mended_of base page ≡ Ok c →
      read_of 4 base (mended_page base page) ≡ shows (minor_at page) (edition_at page)
      (plat_shown (cond (platform_ok (edition_at page) base (platform_at base page)) (platform_at base page) no_platform))
      (λ k. shown (minor_at page) (edition_at page) k (cond (keeps_at base page k) (page_section_at base page k) no_section))
  -- MD4: "It reports for each of the six whether it was changed": each member of the report belongs to its part
  pub report : (c : Changes) → mended_of base page ≡ Ok c →
      (c.padding ≡ changed base page 0) × (c.plat ≡ changed base page 1) × (c.dram ≡ changed base page 2)
      × (c.console ≡ changed base page 3) × (c.ncoh ≡ changed base page 4) × (c.coh ≡ changed base page 5)
  -- MD7: "and an accepted page comes out unchanged with six times no"
  pub accepted : (w e : ℕ) (q : PlatShown) (s : ℕ → Shown) → read_of 4 base page ≡ shows w e q s →
      (mended_page base page ≡ page) × ((j : ℕ) → changed base page j ≡ false)
      × (mended_of base page ≡ Ok (record { padding = false; plat = false; dram = false; console = false; ncoh = false; coh = false }))
  -- MD2: "Padding that breaks its rule is zeroed; a platform pointer .. that breaks a rule by itself": they come first, so there is nothing
  -- before them to overlap
  pub padding : changed base page 0 ≡ not (eqb (padding_at page) 0)
  pub pointer : changed base page 1 ≡ not (platform_ok (edition_at page) base (platform_at base page))
  -- MD3: "or section that breaks a rule by itself, or overlaps one kept before it": a part that was not kept does not count as an overlap
  pub section : (k : ℕ) → k < section_count (edition_at page) → changed base page (suc (suc k)) ≡ not (keeps_at base page k)
  pub kept : (k : ℕ) →
      keeps_at base page k ≡ both (section_ok (minor_at page) (edition_at page) base k (page_section_at base page k))
      (both (every k (λ j. either (not (keeps_at base page j))
      (apart (extent k (page_section_at base page k)) (extent j (page_section_at base page j)))))
      (either (not (platform_ok (edition_at page) base (platform_at base page)))
      (apart (plat_extent (platform_at base page)) (extent k (page_section_at base page k)))))
  -- MD4: 24 zero bytes break no rule and overlap nothing: they are kept and reported as unchanged
  pub blanks : (c : Changes) → mended_of base page ≡ Ok c → (k : ℕ) → k < section_count (edition_at page) →
      count_at k page ≡ 0 → pointer_at k page ≡ 0 → check_at k page ≡ 0 → changed base page (suc (suc k)) ≡ false
  -- MD5: "a section that the page's edition lacks is not touched and reports no"
  pub lacks : (k : ℕ) → section_count (edition_at page) ≤ k →
      (changed base page (suc (suc k)) ≡ false) × ((i : ℕ) → Yes (of_part (suc (suc k)) i) → get_or (mended_page base page) i 0 ≡ get_or page i 0)
  -- for each of the six: a changed part is zero bytes in the core, an unchanged part keeps its bytes (MD2, MD6)
  pub zeros : (c : Changes) → mended_of base page ≡ Ok c → (j : ℕ) → j < 6 → Yes (changed base page j) → (i : ℕ) → Yes (of_part j i) →
      get_or (mended_page base page) i 0 ≡ 0
  pub stands : (j : ℕ) → changed base page j ≡ false → (i : ℕ) → Yes (of_part j i) → get_or (mended_page base page) i 0 ≡ get_or page i 0
  -- MD6: no byte outside core bytes [4, 112) ever changes
  pub long : length (mended_page base page) ≡ length page
  pub outside : (i : ℕ) → (i < 4) ⊎ (112 ≤ i) → get_or (mended_page base page) i 0 ≡ get_or page i 0
