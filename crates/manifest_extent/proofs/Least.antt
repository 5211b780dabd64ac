-- Request E5: for an accepted page, the kept bytes of its view are the fewest that cover what the reader looks at, rounded up to a multiple
-- of 8. Assumes nothing.
use Prim.Native.Nat.{ℕ, zero, suc, ◌+◌, ◌-◌, ◌*◌, ◌/◌, ◌%◌, ◌≤◌, ◌<◌, min}
use mathlib.Core.Path.{◌≡◌, refl, sym, ap, ◌∙◌}
use mathlib.Core.Bool.{Bool, true, false, false≢true}
use mathlib.Core.List.{List}
use native.Mathlib.Omega.{arith}
use native.Mathlib.Decide.{dec_lt}
use lib.ListN.{length, drop}
use lib.Dec.{eqb}
use borrow.Author.Tests.{ltb-true, leb-true, eqb-true, eqb-false, le-leb, lt-ltb}
use Rattle.words.specs.Tests.{Yes}
use Rattle.words.specs.Word.{word_at, no_span}
use Rattle.words.proofs.Tests.{both_l, both_r, both_of, either_l, either_r, either-cases, some_of}
use Rattle.versions.specs.Version.{minor_of}
use Rattle.versions.specs.Edition.{section_count, core}
use Rattle.entries.specs.Entry.{words_per_entry, size}
use Rattle.fields.specs.Fields.{Scanned, broken, ended, bare, scan_all, scan_of, fields_ok, is_ended, reach}
use Rattle.fields.proofs.Scans.{never, ended-3}
use Rattle.fields.proofs.Rules.{judged-passed}
use Rattle.sections.specs.Page.{place_ok, version_at, count_at, pointer_at, in_page, page_platform, found_at, platform_at}
use Rattle.sections.specs.Section.{platform_ok, in_range, rules_at}
use Rattle.sections.proofs.Sections.{placed, range-low, range-high, ok-in-range, ok-each, rules-sections, rules-pointer}
use Rattle.reader.specs.Answer.{Shown, PlatShown, shows, judge, read_of, in_array, in_plat, named_by, named}
use Rattle.reader.specs.Reading.{section_at, view_at}
use Rattle.reader.proofs.Newer.{gate-shows}
use Rattle.reader.proofs.Views.{shows-page}
use Rattle.reader.proofs.Whole.{section-absent, section-empty}
use Rattle.lookup.specs.Lookup.{span_of}
use Rattle.manifest_extent.specs.Kept.{span_end, section_end, highest_of, fields_reach, kept_for}
use Rattle.manifest_extent.proofs.Kept.{section-is, array-end, found-there, fields-end, reach-none}

size-some : (k c : ℕ) → (c ≡ 0 → ⊥) → size k c ≡ 0 → ⊥
unfolding size words_per_entry
size-some zero c z h = z (omega arith)
size-some (suc zero) c z h = z (omega arith)
size-some (suc (suc k)) c z h = z (omega arith)

-- fields that are not broken end with a mark of 3 bytes
mark-room : (bs : List ℕ) (s : Scanned) → scan_of bs ≡ s → is_ended s ≡ true → 3 ≤ reach s
unfolding scan_of is_ended reach
mark-room bs broken e h = absurd (false≢true h)
mark-room bs (ended fs m) e h = ended-3 bs fs m (judged-passed fields_ok (scan_all bs) (ended fs m) (λ x. never (cc)) e).0
mark-room bs (bare fs) e h = absurd (false≢true h)

-- ---- the checks that an accepted page passed
module _ (r base : ℕ) (page : List ℕ) (w e : ℕ) (q : PlatShown) (t : ℕ → Shown) (h : read_of r base page ≡ shows w e q t) where
  pub accepted-place : Yes (place_ok base (length page))
  unfolding read_of judge
  accepted-place = (gate-shows _ _ _ _ _ _ _ _ h).0.0

  accepted-edition : e ≡ min r (minor_of (version_at page))
  accepted-edition = let p = shows-page r base page w e q t h in p.edition ∙ ap (min r) p.minor

  accepted-rules : rules_at (minor_of (version_at page)) e base page ≡ true
  unfolding read_of judge rules_at
  accepted-rules = rw accepted-edition (gate-shows _ _ _ _ _ _ _ _ h).0.2

  accepted-plat : platform_ok e base (platform_at base page) ≡ true
  accepted-plat = rules-pointer (minor_of (version_at page)) e base page accepted-rules

  pub accepted-fields : is_ended (found_at base page (word_at 8 page)) ≡ true
  unfolding platform_ok platform_at page_platform found_at is_ended
  accepted-fields = either-cases _ _ (λ z. rw z) (λ b. both_r _ _ (both_r _ _ b)) accepted-plat

  -- ---- n bytes that contain all named bytes
  module _ (n : ℕ) (c : (i : ℕ) → Yes (named r base page i) → i < n) where
    byte-covered : (i : ℕ) → Yes (named_by e base page i) → i < n
    unfolding read_of judge named place_ok
    byte-covered i y =
        let g = (gate-shows _ _ _ _ _ _ _ _ h).0 in
        c i (both_of _ _ (both_l _ _ g.0) (either_r _ _ (both_of _ _ (both_r _ _ g.1) (rw (← accepted-edition) y))))

    pub core-covered : core e ≤ n
    unfolding named_by core
    core-covered =
        let y : core e - 1 < n = byte-covered (core e - 1) (either_l _ _ (lt-ltb (core e - 1) (core e) (omega arith))) in omega arith

    -- they contain the last byte of an array
    last-covered : (k : ℕ) → k < section_count e → (count_at k page ≡ 0 → ⊥) → section_end k (section_at e base page k) ≤ n
    unfolding named_by in_array in_page
    last-covered k l z =
        let o = ok-each (minor_of (version_at page)) e base page (section_count e) k
        (rules-sections (minor_of (version_at page)) e base page accepted-rules) l in
        let g : in_range e base k (count_at k page) (pointer_at k page) ≡ true = ok-in-range (minor_of (version_at page)) e base k page o z in
        let a = range-low e base k (count_at k page) (pointer_at k page) g in
        let b = range-high e base k (count_at k page) (pointer_at k page) g in
        let s : (size k (count_at k page) ≡ 0 → ⊥) = size-some k (count_at k page) z in
        let p : in_page base (pointer_at k page) (size k (count_at k page)) ≡ true = both_of _ _
        (le-leb base (pointer_at k page) (omega arith)) (le-leb _ _ b) in
        let x = array-end e base page k l s p in
        let i : ℕ = section_end k (section_at e base page k) - 1 in
        let y : i < n = byte-covered i (either_r _ _ (either_l _ _ (some_of (section_count e) (in_array base page i) k l
        (both_of _ _ p (both_of _ _ (le-leb (pointer_at k page) (base + i) (omega arith))
        (lt-ltb (base + i) (pointer_at k page + size k (count_at k page)) (omega arith))))))) in
        omega arith

    array-covered : (k : ℕ) → section_end k (section_at e base page k) ≤ n
    unfolding section_end span_of span_end no_span
    array-covered k = go (dec_lt k (section_count e)) (dec_lt 0 (count_at k page))
      where
        go : Dec (k < section_count e) → Dec (0 < count_at k page) → section_end k (section_at e base page k) ≤ n
        go (no l) d = rw (← section-absent e base k page (omega arith)) (omega arith)
        go (yes l) (no z) = rw (← section-empty e base k page l (omega arith)) (omega arith)
        go (yes l) (yes z) = last-covered k l (λ x. omega arith)

    -- they contain the end mark
    mark-covered : (word_at 8 page ≡ 0 → ⊥) → fields_reach (word_at 8 page) page ≤ n
    unfolding named_by in_plat in_page platform_ok platform_at page_platform
    mark-covered z =
        let a : ℕ = word_at 8 page in
        let d = placed base (length page) accepted-place in
        let b = either-cases _ _ (λ x. absurd (z (eqb-true _ _ x))) (λ x. x) accepted-plat in
        let low : base + core e ≤ a = leb-true _ _ (both_l _ _ b) in
        let high : a < base + 4096 = ltb-true _ _ (both_l _ _ (both_r _ _ b)) in
        let p : in_page base a 1 ≡ true = both_of _ _ (le-leb base a (omega arith)) (le-leb (a + 1) (base + 4096) (omega arith)) in
        let f = found-there base a page d.2 z p in
        let x = fields-end base a page d.2 d.0 z p accepted-fields in
        let m : 3 ≤ reach (found_at base page a) = mark-room (drop (a % 4096) page) (found_at base page a) (sym f.1) accepted-fields in
        let i : ℕ = fields_reach a page - 1 in
        let y : i < n = byte-covered i (either_r _ _ (either_r _ _
        (both_of _ _ p (both_of _ _ (le-leb a (base + i) (omega arith))
        (lt-ltb (base + i) (a + reach (found_at base page a)) (omega arith)))))) in
        omega arith

    fields-covered : (b : Bool) → eqb (word_at 8 page) 0 ≡ b → fields_reach (word_at 8 page) page ≤ n
    fields-covered true z = let x = reach-none (word_at 8 page) page (eqb-true _ _ z) in omega arith
    fields-covered false z = mark-covered (eqb-false _ _ z)

    highest-covered : (m : ℕ) → m ≤ 4 → highest_of (view_at w e base page) page m ≤ n
    unfolding highest_of view_at
    highest-covered zero l = let x = core-covered in let y = fields-covered _ refl in omega arith
    highest-covered (suc m) l =
        let x = highest-covered m (omega arith) in
        let y : section_end m (section_at e base page m) ≤ n = array-covered m in
        rw (section-is w e base page m (omega arith)) (omega arith)

    -- so no smaller multiple of 8 covers the named bytes
    pub kept-least : kept_for (view_at w e base page) page ≤ 8 * ((n + 7) / 8)
    unfolding kept_for
    kept-least = let x = highest-covered 4 (omega arith) in omega arith
