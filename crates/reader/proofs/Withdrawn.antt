-- A reader's answer does not depend on a withdrawn value. Assumes nothing.
use Prim.Native.Nat.{ℕ, ◌+◌, ◌-◌, min, ◌≤◌, ◌<◌}
use mathlib.Core.Bool.{false, false≢true}
use mathlib.Core.Path.{◌≡◌, refl, sym, ap, ◌∙◌}
use mathlib.Core.List.{List}
use native.Mathlib.Omega.{arith}
use lib.ListN.{length, get_or, drop, length-drop}
use lib.Seq.{get_or-drop}
use lib.Dec.{ltb, eqb}
use borrow.Author.Tests.{eqb-true, eq-eqb, ne_eqb, leb-true, ltb-true, le-leb}
use Rattle.words.specs.Tests.{Yes, both, either, some}
use Rattle.words.specs.Word.{word_at}
use Rattle.words.proofs.Tests.{both_l, both_r, both_of, either-cases, every-at, every-same}
use Rattle.versions.specs.Version.{minor_of}
use Rattle.versions.specs.Edition.{section_count, core}
use Rattle.entries.specs.Entry.{size}
use Rattle.fields.specs.Fields.{Field, Scanned, broken, ended, bare, fields_in, shown_fields, is_ended, taken, reach}
use Rattle.fields.specs.Withdrawn.{in_withdrawn}
use Rattle.fields.proofs.Rules.{no_test}
use Rattle.fields.proofs.Withdrawn.{Like, both-no, like-scanned}
use Rattle.sections.specs.Page.{version_at, padding_at, count_at, pointer_at, in_page, page_section, page_section_at, PageSection, PagePlatform}
use Rattle.sections.specs.Page.{page_platform, found_at, platform_at}
use Rattle.sections.specs.Section.{platform_ok, extent, apart, plat_extent, plat_clear, rules}
use Rattle.sections.proofs.Sections.{placed}
use Rattle.reader.specs.Answer.{plat_shown, all_shown, judge, read_of, in_array, in_plat}
use Rattle.reader.specs.Withdrawn.{withdrawn_byte, ValueUnread}
use Rattle.reader.proofs.Newer.{gate-shows, gate-true}
use Rattle.reader.proofs.Named.{core-same, sec-same, rules-same, view-same, low-page, found_in}
use Rattle.reader.proofs.Gaps.{some-not, ended-taken}

-- ---- platform data that passes the same tests and is shown the same
record PlatLike (x y : PagePlatform) : Type 0 where
  at_same : x.at ≡ y.at
  ends : is_ended x.found ≡ is_ended y.found
  takes : taken x.found ≡ taken y.found
  shown : shown_fields (fields_in x.found) ≡ shown_fields (fields_in y.found)

module _ (w e base pad : ℕ) (x y : PagePlatform) (f : ℕ → PageSection) (a : PlatLike x y) where
  clear-like : (k : ℕ) → plat_clear x f k ≡ plat_clear y f k
  unfolding plat_clear plat_extent
  clear-like k = rw (a.at_same, a.takes)

  rules-like : rules w e base pad x f ≡ rules w e base pad y f
  unfolding rules platform_ok
  rules-like = rw (every-same (section_count e) (λ k. plat_clear x f k) (λ k. plat_clear y f k) (λ k l. clear-like k), a.at_same, a.ends)

  view-like : all_shown w e x f ≡ all_shown w e y f
  unfolding all_shown plat_shown
  view-like = rw (a.at_same, a.shown)

-- ---- fields that pass the same tests and are shown the same
record FoundLike (s t : Scanned) : Type 0 where
  ends : is_ended s ≡ is_ended t
  takes : taken s ≡ taken t
  shown : shown_fields (fields_in s) ≡ shown_fields (fields_in t)

found-like : (fs : List Field) (m : ℕ) (t : Scanned) → Like fs m t → FoundLike (ended fs m) t
unfolding is_ended taken fields_in
found-like fs m t r =
    record {
      ends = ap is_ended (sym r.is);
      takes = ap taken (sym r.is);
      shown = r.alike.shown ∙ ap (λ s. shown_fields (fields_in s)) (sym r.is);
    }

none_found : (base : ℕ) (p q : List ℕ) (at : ℕ) → at ≡ 0 → FoundLike (found_at base p at) (found_at base q at)
unfolding found_at
none_found base p q at z = rw (eq-eqb at 0 z) (record { ends = refl; takes = refl; shown = refl })

-- ---- a page p whose platform data keeps the rules of an edition, and a page q that differs only in withdrawn values
module _ (e base : ℕ) (p q : List ℕ) (l : length p ≡ length q) (pos : 0 < base)
    (a : (i : ℕ) → withdrawn_byte base p i ≡ false → get_or p i 0 ≡ get_or q i 0)
    (o : Yes (platform_ok e base (platform_at base p))) (c : (k : ℕ) → k < section_count e →
    Yes (plat_clear (platform_at base p) (page_section_at base p) k)) where
  -- the fields of p are after the core
  lies : (i : ℕ) → Yes (in_plat base p i) → (base + core e ≤ word_at 8 p) × (word_at 8 p ≤ base + i) ×
      (base + i < word_at 8 p + taken (found_at base p (word_at 8 p)))
  unfolding in_plat platform_ok platform_at page_platform
  lies i y =
      let b : base ≤ word_at 8 p = low-page base (word_at 8 p) 1 (both_l _ _ y) in
      let lo : word_at 8 p ≤ base + i = leb-true _ _ (both_l _ _ (both_r _ _ y)) in
      let hi : base + i < word_at 8 p + reach (found_at base p (word_at 8 p)) = ltb-true _ _ (both_r _ _ (both_r _ _ y)) in
      either-cases _ _
      (λ z. absurd (let u : word_at 8 p ≡ 0 = eqb-true _ _ z in let v : ⊥ = omega arith in v))
      (λ z.
      let t : reach (found_at base p (word_at 8 p)) ≡ taken (found_at base p (word_at 8 p)) = ended-taken (found_at base p (word_at 8 p))
      (both_r _ _ (both_r _ _ z)) in
      (leb-true _ _ (both_l _ _ z), lo, rw (← t) hi))
      o

  -- they share no byte with an array
  array-out : (i : ℕ) → Yes (in_plat base p i) → (k : ℕ) → k < section_count e → Yes (in_array base p i k) → ⊥
  unfolding in_array plat_clear plat_extent extent apart platform_at page_platform page_section_at page_section
  array-out i y k b z =
      let s = lies i y in
      let lo : word_at 8 p ≤ base + i = s.1 in
      let hi : base + i < word_at 8 p + taken (found_at base p (word_at 8 p)) = s.2 in
      let from : pointer_at k p ≤ base + i = leb-true _ _ (both_l _ _ (both_r _ _ z)) in
      let to : base + i < pointer_at k p + size k (count_at k p) = ltb-true _ _ (both_r _ _ (both_r _ _ z)) in
      either-cases _ _
      (λ g. let u : word_at 8 p + taken (found_at base p (word_at 8 p)) ≤ pointer_at k p = leb-true _ _ g in let v : ⊥ = omega arith in v)
      (λ g. let u : pointer_at k p + size k (count_at k p) ≤ word_at 8 p = leb-true _ _ g in let v : ⊥ = omega arith in v)
      (c k b)

  core-out : (i : ℕ) → Yes (in_plat base p i) → i < core e → ⊥
  core-out i y b =
      let s = lies i y in
      let k : base + core e ≤ word_at 8 p = s.0 in
      let lo : word_at 8 p ≤ base + i = s.1 in
      omega arith

  -- so core and arrays are the same
  agree : (i : ℕ) → Yes (either (ltb i (core e)) (some (section_count e) (in_array base p i))) → get_or p i 0 ≡ get_or q i 0
  unfolding withdrawn_byte both
  agree i y =
      a i (rw (no_test (in_plat base p i) (λ z. either-cases _ _ (λ g. core-out i z (ltb-true _ _ g))
      (some-not (section_count e) (in_array base p i) (array-out i z)) y)))

  value_same : (fs : List Field) (m : ℕ) → base ≤ word_at 8 p → found_at base p (word_at 8 p) ≡ ended fs m → (i : ℕ) →
      in_withdrawn fs i ≡ false →
      get_or (drop (word_at 8 p - base) p) i 0 ≡ get_or (drop (word_at 8 p - base) q) i 0
  unfolding withdrawn_byte fields_in
  value_same fs m b h i z =
      let u : base + (word_at 8 p - base + i) - word_at 8 p ≡ i = omega arith in
      rw (get_or-drop, get_or-drop) (a (word_at 8 p - base + i) (rw (h, u, z, both-no)))

  by-ended : eqb (word_at 8 p) 0 ≡ false → Yes (in_page base (word_at 8 p) 1) → (s : Scanned) → found_at base p (word_at 8 p) ≡ s →
      Yes (is_ended s) → FoundLike s (found_at base q (word_at 8 p))
  unfolding is_ended
  by-ended n y broken h g = absurd (false≢true g)
  by-ended n y (bare fs) h g = absurd (false≢true g)
  by-ended n y (ended fs m) h g =
      let b = low-page base (word_at 8 p) 1 y in
      let r = like-scanned (drop (word_at 8 p - base) p) (drop (word_at 8 p - base) q) fs m (simp (length-drop, l)) (value_same fs m b h)
      (sym (found_in base p (word_at 8 p) n y) ∙ h) in
      rw (found_in base q (word_at 8 p) n y) (found-like fs m _ r)

  found-both : FoundLike (found_at base p (word_at 8 p)) (found_at base q (word_at 8 p))
  unfolding platform_ok platform_at page_platform in_page
  found-both =
      either-cases _ _
      (λ z. none_found base p q (word_at 8 p) (eqb-true _ _ z))
      (λ z.
      let lo : base + core e ≤ word_at 8 p = leb-true _ _ (both_l _ _ z) in
      let hi : word_at 8 p < base + 4096 = ltb-true _ _ (both_l _ _ (both_r _ _ z)) in
      by-ended (ne_eqb (word_at 8 p) 0 (λ u. omega arith)) (both_of _ _ (omega (arith, le-leb)) (omega (arith, le-leb)))
      (found_at base p (word_at 8 p)) refl (both_r _ _ (both_r _ _ z)))
      o

  plat-like : PlatLike (platform_at base p) (platform_at base q)
  unfolding platform_at page_platform core
  plat-like =
      let w : word_at 8 p ≡ word_at 8 q = core-same e base p q l agree 8 8 (omega arith) in
      rw (← w) (record { at_same = refl; ends = found-both.ends; takes = found-both.takes; shown = found-both.shown })

pub value-unread : ValueUnread
unfolding read_of judge rules core
value-unread r base p q l a w e x s h =
    let v = minor_of (version_at p) in
    let g = gate-shows _ _ _ _ w e x s h in
    let ok = both_r _ _ g.0.2 in
    let pos = (placed base (length p) g.0.0).1 in
    let o = both_l _ _ ok in
    let c = every-at _ _ (both_r _ _ (both_r _ _ (both_r _ _ ok))) in
    let same = agree (min r v) base p q l pos a o c in
    let f = sec-same (min r v) base p q l same in
    let like = plat-like (min r v) base p q l pos a o c in
    rw (← l, ← core-same (min r v) base p q l same 0 4 (omega arith), ← core-same (min r v) base p q l same 4 4 (omega arith))
    (gate-true _ _ _ _ g.0.0 g.0.1
    (sym (rules-like v (min r v) base (padding_at p) (platform_at base p) (platform_at base q) (page_section_at base q) like) ∙
    sym (rules-same v (min r v) base (padding_at p) (platform_at base p) (page_section_at base p) (page_section_at base q) f) ∙ g.0.2) ∙
    sym (view-like v (min r v) base (padding_at p) (platform_at base p) (platform_at base q) (page_section_at base q) like) ∙
    sym (view-same v (min r v) (platform_at base p) (page_section_at base p) (page_section_at base q) f) ∙
    g.1)
