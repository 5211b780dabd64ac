-- The mender's steps in order: each leaves the page with one more part mended. Assumes nothing.
use Rattle.std.proofs.Common.{Option, Some, None, Ok, Err}
use Rattle.std.specs.Option.{is_some, is_none}
use Prim.Native.Nat.{ℕ, zero, suc, ◌+◌, ◌-◌, ◌*◌, ◌≤◌, ◌<◌}
use mathlib.Core.Bool.{Bool, true, false, cond, not}
use mathlib.Core.Path.{◌≡◌, refl, sym, ap, ◌∙◌}
use mathlib.Core.List.{List, [], ◌∷◌, ◌++◌}
use native.Mathlib.Omega.{arith}
use lib.ListN.{length, get_or, replicate}
use lib.Dec.{ltb, eqb, lit≤}
use borrow.Author.Tests.{eq-eqb, ne_eqb, lt-ltb, le-ltb}
use Rattle.words.specs.Tests.{Yes, both, some}
use Rattle.words.specs.Word.{le_bytes, bytes_of, laid, word_at}
use Rattle.words.proofs.Bytes.{zero-bytes}
use Rattle.words.proofs.Read.{le_bytes-length}
use Rattle.words.proofs.Lists.{bytes_of-length}
use Rattle.versions.specs.Version.{version_ok}
use Rattle.versions.specs.Edition.{section_count}
use Rattle.fields.proofs.Withdrawn.{both-no}
use Rattle.sections.specs.Page.{place_ok, version_at, padding_at, PagePlatform, page_platform, platform_at}
use Rattle.sections.specs.Section.{platform_ok, plat_extent}
use Rattle.sections.specs.Steps.{plat_end, stays_at}
use Rattle.sections.proofs.Sections.{placed, plat-broken, plat-ended}
use Rattle.reader.specs.declared.Refusal.TheVariants.{Place, Version}
use Rattle.mend.specs.Mend.{Mended, minor_at, edition_at, changed, part_at, mend_changes, mend_gate, mended_of, mend_answer}
use Rattle.mend.specs.Mend.{mend_numbers, mend_of, mended_page}
use Rattle.mend.specs.Steps.{page_to, zeroed, fields_at, plat_kept, fields_left, section_goes}
use Rattle.mend.specs.declared.Changes.{Changes}
use Rattle.mend.specs.declared.KeptFields.{KeptFields}
use Rattle.mend.proofs.Blank.{blank_none, zeroed-blank}
use Rattle.mend.proofs.Pages.{to-all, plat-to, goes_to}

-- ---- zero bytes
zeros-at : (n i : ℕ) → ◌≡◌ {A = ℕ} (get_or (replicate n 0) i 0) 0
zeros-at zero i = refl
zeros-at (suc n) zero = refl
zeros-at (suc n) (suc i) = zeros-at n i

zero-at : (n i : ℕ) → get_or (le_bytes n 0) i 0 ≡ 0
zero-at n i = ap (λ (s : List ℕ). get_or s i 0) (zero-bytes n) ∙ zeros-at n i

zero-append : (xs ys : List ℕ) → ((i : ℕ) → get_or xs i 0 ≡ 0) → ((i : ℕ) → get_or ys i 0 ≡ 0) → (i : ℕ) → get_or (xs ++ ys) i 0 ≡ 0
zero-append [] ys f g i = g i
zero-append (x ∷ xs) ys f g zero = f 0
zero-append (x ∷ xs) ys f g (suc i) = zero-append xs ys (λ i. f (suc i)) g i

zero-words : (i : ℕ) → get_or (bytes_of (0 ∷ 0 ∷ 0 ∷ [])) i 0 ≡ 0
unfolding bytes_of
zero-words =
    zero-append (le_bytes 8 0) (bytes_of (0 ∷ 0 ∷ [])) (zero-at 8)
    (zero-append (le_bytes 8 0) (bytes_of (0 ∷ [])) (zero-at 8) (zero-append (le_bytes 8 0) [] (zero-at 8) (λ i. refl)))

-- ---- one step on the page so far
module _ (page : List ℕ) where
  pub padding-kept : padding_at page ≡ 0 → (false ≡ not (eqb (padding_at page) 0)) × (page ≡ zeroed false 4 (le_bytes 4 0) page)
  unfolding zeroed
  padding-kept h = (rw (eq-eqb (padding_at page) 0 h), refl)

  pub padding-goes : (padding_at page ≡ 0 → ⊥) → (p : List ℕ) → p ≡ laid 4 (le_bytes 4 0) page →
      (true ≡ not (eqb (padding_at page) 0)) × (p ≡ zeroed true 4 (le_bytes 4 0) page)
  unfolding zeroed
  padding-goes h p e = (rw (ne_eqb (padding_at page) 0 h), e)

-- the platform data: what the result of the reader's rule means
module _ (e base : ℕ) (page : List ℕ) where
  pub plat-goes : None ≡ plat_end e base (platform_at base page) → (p : List ℕ) → p ≡ laid 8 (le_bytes 8 0) page →
      (None ≡ plat_kept e base (platform_at base page)) × (p ≡ zeroed true 8 (le_bytes 8 0) page)
  unfolding plat_kept zeroed
  plat-goes h p z = (rw (plat-broken e base (platform_at base page) h), z)

  pub plat-stays : (m : ℕ) → Some m ≡ plat_end e base (platform_at base page) →
      (Some (record { from = word_at 8 page; to = word_at 8 page + m }) ≡ plat_kept e base (platform_at base page)) ×
      (page ≡ zeroed false 8 (le_bytes 8 0) page)
  unfolding plat_kept fields_at plat_extent platform_at page_platform zeroed
  plat-stays m h = let a = plat-ended e base (platform_at base page) m h in (rw (a.0, a.1), refl)

-- the fields go exactly if the pointer or they break their rule
none-kept : (e base : ℕ) (q : PagePlatform) → is_none (plat_kept e base q) ≡ not (platform_ok e base q)
unfolding plat_kept
none-kept e base q = go (platform_ok e base q)
  where
    go : (b : Bool) → is_none (cond b (Some (fields_at q)) None) ≡ not b
    go true = refl
    go false = refl

-- what the caller of `mend_plat` makes of it
pub dropped_told : (k : Option KeptFields) (b : Bool) → is_some k ≡ not b → b ≡ is_none k
dropped_told k true h = rw h refl
dropped_told k false h = rw h refl

-- what an entry of `sections` promises for a page with a good base and length
pub rule_told : {b : Bool} {r x : Option ℕ} → Yes b → r ≡ cond b x None → r ≡ x
rule_told {x = x} h e = e ∙ ap (λ t. cond t x None) h

-- a section
module _ (w e base : ℕ) (f : KeptFields) (k : ℕ) (page : List ℕ) where
  pub section-lacks : section_count e ≤ k → (false ≡ section_goes w e base f k page) ×
      (page ≡ zeroed false (16 + 24 * k) (bytes_of (0 ∷ 0 ∷ 0 ∷ [])) page)
  unfolding section_goes zeroed both
  section-lacks h = (rw (le-ltb k (section_count e) h), refl)

  -- by the result of the test, for a page with a good base and length
  module _ (v : Yes (place_ok base (length page))) (z : Bool)
      (c : z ≡ both (place_ok base (length page)) (stays_at w e base k f.from f.to page)) where
    stays-told : (b : Bool) → z ≡ b → stays_at w e base k f.from f.to page ≡ b
    unfolding both
    stays-told b h = sym (rw v at c) ∙ h

    pub section-stands : z ≡ true → (false ≡ section_goes w e base f k page) ×
        (page ≡ zeroed false (16 + 24 * k) (bytes_of (0 ∷ 0 ∷ 0 ∷ [])) page)
    unfolding section_goes zeroed both
    section-stands h = (rw (stays-told true h) (sym (both-no (ltb k (section_count e)))), refl)

    pub section-goes : z ≡ false → k < section_count e → (p : List ℕ) → p ≡ laid (16 + 24 * k) (bytes_of (0 ∷ 0 ∷ 0 ∷ [])) page →
        (true ≡ section_goes w e base f k page) × (p ≡ zeroed true (16 + 24 * k) (bytes_of (0 ∷ 0 ∷ 0 ∷ [])) page)
    unfolding section_goes zeroed both
    section-goes h l p q = (rw (lt-ltb k (section_count e) l, stays-told false h), q)

-- ---- the steps in their order
module _ (base : ℕ) (page : List ℕ) (place : Yes (place_ok base (length page))) where
  pub place_same : (p : List ℕ) → length p ≡ length page → Yes (place_ok base (length p))
  place_same p h = rw h place

  start-to : page ≡ page_to 0 base page
  unfolding page_to some
  start-to = sym (blank_none _ page (λ i. refl))

  next-to : (j : ℕ) (vs : List ℕ) → length vs ≡ part_at (suc j) - part_at j → part_at (suc j) ≤ 4096 → ((i : ℕ) → get_or vs i 0 ≡ 0) →
      zeroed (changed base page j) (part_at j) vs (page_to j base page) ≡ page_to (suc j) base page
  unfolding page_to some
  next-to j vs l h z = zeroed-blank (changed base page j) j vs _ page l (rw (placed base (length page) place).0 h) z

  pub padding-step : (r : Bool) (p : List ℕ) → r ≡ not (eqb (padding_at page) 0) → p ≡ zeroed r 4 (le_bytes 4 0) page →
      (r ≡ changed base page 0) × (p ≡ page_to 1 base page)
  unfolding changed part_at
  padding-step r p c h = (
    c,
    h ∙ rw c (ap (zeroed (changed base page 0) 4 (le_bytes 4 0)) start-to ∙
        next-to 0 (le_bytes 4 0) (le_bytes-length 4 0) (lit≤ tt) (zero-at 4)),
  )

  pub plat-step : (e : ℕ) (r : Option KeptFields) (p p' : List ℕ) → e ≡ edition_at page → p ≡ page_to 1 base page →
      r ≡ plat_kept e base (platform_at base p) → p' ≡ zeroed (is_none r) 8 (le_bytes 8 0) p →
      (r ≡ plat_kept (edition_at page) base (platform_at base page)) × (is_none r ≡ changed base page 1) × (p' ≡ page_to 2 base page)
  unfolding changed part_at
  plat-step e r p p' a b c h =
      let x : r ≡ plat_kept (edition_at page) base (platform_at base page) = c ∙ rw (a, b) (plat-to base page 1 (lit≤ tt)) in
      let y : is_none r ≡ not (platform_ok (edition_at page) base (platform_at base page)) =
      ap (λ (k : Option KeptFields). is_none k) x ∙ none-kept (edition_at page) base (platform_at base page) in
      (x, y, h ∙ rw (y, b) (next-to 1 (le_bytes 8 0) (le_bytes-length 8 0) (lit≤ tt) (zero-at 8)))

  pub section-step : (w e k : ℕ) (f : KeptFields) (r : Bool) (p p' : List ℕ) → k < 4 → w ≡ minor_at page → e ≡ edition_at page →
      f ≡ fields_left (plat_kept (edition_at page) base (platform_at base page)) →
      p ≡ page_to (suc (suc k)) base page → r ≡ section_goes w e base f k p → p' ≡ zeroed r (16 + 24 * k) (bytes_of (0 ∷ 0 ∷ 0 ∷ [])) p →
      (r ≡ changed base page (suc (suc k))) × (p' ≡ page_to (suc (suc (suc k))) base page)
  unfolding part_at
  section-step w e k f r p p' l a b c d g h =
      let x : r ≡ changed base page (suc (suc k)) = g ∙ rw (a, b, c, d) (goes_to base page k) in (
        x,
        h ∙ rw (x, d) (next-to (suc (suc k)) (bytes_of (0 ∷ 0 ∷ 0 ∷ []))
            (bytes_of-length (0 ∷ 0 ∷ 0 ∷ []) ∙ (let e : 8 * 3 ≡ 16 + 24 * suc k - (16 + 24 * k) = omega arith in e))
            (omega arith) zero-words),
      )

-- ---- the answer, return by return
-- the meaning of the enum
gate-numbers : (p v : Bool) (c : Changes) → mend_answer (mend_gate p v c) ≡ mend_numbers p v
    (c.padding ∷ c.plat ∷ c.dram ∷ c.console ∷ c.ncoh ∷ c.coh ∷ [])
unfolding mend_answer mend_gate mend_numbers
gate-numbers true true c = refl
gate-numbers true false c = refl
gate-numbers false v c = refl

pub mend-told : (base : ℕ) (page after : List ℕ) (a : Mended) → (a ≡ mended_of base page) × (after ≡ mended_page base page) →
    (a ≡ mended_of base page) × ((after ≡ mended_page base page) × (mend_answer a ≡ mend_of base page))
unfolding mended_of mend_of mend_changes
mend-told base page after a h = (h.0, (h.1, ap mend_answer h.0 ∙ gate-numbers (place_ok base (length page)) (version_ok (version_at page)) (mend_changes base page)))

module _ (base : ℕ) (page : List ℕ) where
  pub mend-place : place_ok base (length page) ≡ false → (Err Place ≡ mended_of base page) × (page ≡ mended_page base page)
  unfolding mended_of mend_gate mended_page both
  mend-place h = (rw h, rw h)

  module _ (h : place_ok base (length page) ≡ true) where
    pub mend-version : version_ok (version_at page) ≡ false → (Err Version ≡ mended_of base page) × (page ≡ mended_page base page)
    unfolding mended_of mend_gate mended_page both
    mend-version v = (rw (h, v), rw (h, v))

    pub mend-done : version_ok (version_at page) ≡ true → (Ok (mend_changes base page) ≡ mended_of base page) × (page_to 6 base page ≡ mended_page base page)
    unfolding mended_of mend_gate mended_page both
    mend-done v = (rw (h, v), rw (h, v) (to-all base page))
