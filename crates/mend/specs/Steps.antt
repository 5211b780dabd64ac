-- For the steps of `mend`. `to-all` (proofs/Pages.antt) proves `page_to 6` equal to `parts_zeroed`; `padding-step`, `plat-step` and
-- `section-step` (proofs/Parts.antt) prove that `zeroed`, `plat_kept` and `section_goes` give `changed` and `page_to` for one more part.
-- Assumes nothing.
use Rattle.std.specs.Prelude.{ℕ, Bool, cond, not, List, ltb, Option, Some, None}
use Rattle.std.specs.Option.{unwrap_or}
use Rattle.words.specs.Tests.{both, some}
use Rattle.words.specs.Word.{laid}
use Rattle.versions.specs.Edition.{section_count}
use Rattle.sections.specs.Page.{PagePlatform}
use Rattle.sections.specs.Section.{platform_ok, plat_extent}
use Rattle.sections.specs.Steps.{stays_at}
use Rattle.mend.specs.Mend.{changed, of_part, blank}
use Rattle.mend.specs.declared.KeptFields.{KeptFields}

-- the page after mending the first `n` parts
unfoldable pub page_to : ℕ → ℕ → List ℕ → List ℕ
page_to n base page = blank (λ i. some n (λ j. both (changed base page j) (of_part j i))) page

-- the bytes put at an offset if the part is changed, otherwise the page unchanged
unfoldable pub zeroed : Bool → ℕ → List ℕ → List ℕ → List ℕ
zeroed b at zeros page = cond b (laid at zeros page) page

-- the addresses [from, to) of the fields of a platform pointer
unfoldable pub fields_at : PagePlatform → KeptFields
fields_at q = record { from = (plat_extent q).from; to = (plat_extent q).to }

-- the addresses of the fields if they are kept: if the pointer and its fields keep their rule
unfoldable pub plat_kept : ℕ → ℕ → PagePlatform → Option KeptFields
plat_kept e base q = cond (platform_ok e base q) (Some (fields_at q)) None

-- the addresses that a later section must not overlap: [0, 0) if the fields are dropped
unfoldable pub fields_left : Option KeptFields → KeptFields
fields_left k = unwrap_or k (record { from = 0; to = 0 })

-- whether section `k` is changed, given the sections that are left before it
unfoldable pub section_goes : ℕ → ℕ → ℕ → KeptFields → ℕ → List ℕ → Bool
section_goes w e base p k page = both (ltb k (section_count e)) (not (stays_at w e base k p.from p.to page))
