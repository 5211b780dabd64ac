-- MD1 to MD7, the claims of the mender, proved. Assumes nothing.
use Rattle.std.proofs.Common.{Ok, Err}
use Prim.Native.Nat.{ℕ, zero, suc, ◌≤◌, ◌<◌}
use mathlib.Core.Bool.{Bool, true, false, cond, not}
use mathlib.Core.Logic.{◌⊎◌, inl, inr}
use mathlib.Core.Path.{◌≡◌, refl, sym, ap, ◌∙◌}
use mathlib.Core.List.{List}
use native.Mathlib.Omega.{arith}
use native.Mathlib.Decide.{dec_lt}
use lib.ListN.{length, get_or}
use lib.Dec.{lit≤}
use lib.IntN.{pos, negsuc}
use borrow.Author.Tests.{eqb-true, lt-ltb, le-ltb, not-false}
use Rattle.words.specs.Tests.{Yes, both, some}
use Rattle.words.specs.Word.{word_at}
use Rattle.words.proofs.Tests.{both_l, both_r, both_of}
use Rattle.versions.specs.Version.{version_ok}
use Rattle.versions.specs.Edition.{section_count, core, edition_ok}
use Rattle.versions.proofs.Editions.{section-count-most, edition-of}
use Rattle.sections.specs.Page.{place_ok, version_at, padding_at, count_at, pointer_at, check_at, page_section, page_section_at}
use Rattle.sections.specs.Page.{platform_at}
use Rattle.sections.specs.Section.{platform_ok, rules}
use Rattle.sections.proofs.Sections.{placed}
use Rattle.reader.specs.Answer.{Shown, PlatShown, ReaderAnswer, refused, shows, minus, shown, plat_shown, all_shown, reader_gate, judge}
use Rattle.reader.specs.Answer.{read_of}
use Rattle.reader.specs.Reading.{refusal_number}
use Rattle.reader.specs.declared.Refusal.{Refusal}
use Rattle.reader.specs.declared.Refusal.TheVariants.{Place, Version, Rules}
use Rattle.reader.proofs.Newer.{never, gate-shows, gate-true}
use Rattle.reader.proofs.Named.{rules-same, view-same}
use Rattle.fields.proofs.Rules.{no_test}
use Rattle.reader.proofs.Gaps.{some-not}
use Rattle.mend.specs.Mend.{Mended, no_platform, no_section, plat_left, minor_at, edition_at, plat_left_at, keeps_at, changed, of_part}
use Rattle.mend.specs.Mend.{mend_changes, mend_gate, mended_of, mended_page, parts_zeroed}
use Rattle.mend.specs.Steps.{page_to}
use Rattle.mend.specs.Promise.{Mends}
use Rattle.mend.specs.declared.Changes.{Changes}
use Rattle.mend.proofs.Kept.{last_of, last-rules, plat-left-ok, keeps-rule, keeps-none, keeps-all, keeps-is}
use Rattle.mend.proofs.Blank.{blank_none}
use Rattle.mend.proofs.Pages.{never_both, to-length, part-stands, part-zeroed, rest-stands, version-to, padding-stands}
use Rattle.mend.proofs.Pages.{padding-zeroed, pointer-stands, pointer-zeroed, word_stands, word-zeroed, array-none, found_none}
use Rattle.mend.proofs.Pages.{found-held, array-held, kept-stands, lost-goes, rest}
use Rattle.mend.proofs.Parts.{mend-done}

-- ---- the mended page
module _ (base : ℕ) (page : List ℕ) where
  padding-new : padding_at (page_to 6 base page) ≡ 0
  unfolding changed
  padding-new = go (changed base page 0) refl
    where
      go : (b : Bool) → changed base page 0 ≡ b → padding_at (page_to 6 base page) ≡ 0
      go true c = padding-zeroed base page 6 (lit≤ tt) c
      go false c = padding-stands base page 6 (λ _. c) ∙ eqb-true _ _ (not-false _ c)

  plat-new : platform_at base (page_to 6 base page) ≡ plat_left_at base page
  unfolding plat_left_at plat_left platform_at no_platform changed
  plat-new = go (platform_ok (edition_at page) base (platform_at base page)) refl
    where
      go : (b : Bool) → platform_ok (edition_at page) base (platform_at base page) ≡ b →
          platform_at base (page_to 6 base page) ≡ cond b (platform_at base page) no_platform
      go true h =
          rw (
            pointer-stands base page 6 (λ _. rw h),
            found-held (minor_at page) (edition_at page) base (page_to 6 base page) page (to-length base page 6) (rest base page 6)
                (word_at 8 page) h,
          )
      go false h = rw (pointer-zeroed base page 6 (lit≤ tt) (rw h), found_none base (page_to 6 base page))

  module _ (o : 0 < base) where
    sec-new : (k : ℕ) → k < section_count (edition_at page) →
        page_section_at base (page_to 6 base page) k ≡ last_of (minor_at page) (edition_at page) base (plat_left_at base page)
        (page_section_at base page) k
    unfolding last_of page_section_at no_section keeps_at
    sec-new k l = go (keeps_at base page k) refl
      where
        six : suc (suc k) < 6
        six = omega (arith, section-count-most (edition_at page))

        go : (b : Bool) → keeps_at base page k ≡ b → page_section_at base (page_to 6 base page) k ≡ cond b (page_section_at base page k) no_section
        go true h =
            let c : suc (suc k) < 6 → changed base page (suc (suc k)) ≡ false = λ _. kept-stands base page 6 k h in
            rw (
              word_stands base page 6 k c 16 (lit≤ tt) (lit≤ tt),
              word_stands base page 6 k c 24 (lit≤ tt) (lit≤ tt),
              word_stands base page 6 k c 32 (lit≤ tt) (lit≤ tt),
            )
            (ap (page_section (count_at k page) (pointer_at k page) (check_at k page))
            (array-held (minor_at page) (edition_at page) base (page_to 6 base page) page (to-length base page 6) (rest base page 6) o k
            (count_at k page) (pointer_at k page) (check_at k page)
            (keeps-rule (minor_at page) (edition_at page) base (plat_left_at base page) (page_section_at base page) k h)))
        go false h =
            let c = lost-goes base page 6 k l h in
            rw (
              word-zeroed base page 6 k six c 16 (lit≤ tt) (lit≤ tt),
              word-zeroed base page 6 k six c 24 (lit≤ tt) (lit≤ tt),
              word-zeroed base page 6 k six c 32 (lit≤ tt) (lit≤ tt),
            )
            (ap (page_section 0 0 0) (array-none base (page_to 6 base page) _ o))

    rules-new : Yes (rules (minor_at page) (edition_at page) base 0 (plat_left_at base page) (page_section_at base (page_to 6 base page)))
    unfolding plat_left_at
    rules-new =
        rw (rules-same (minor_at page) (edition_at page) base 0 (plat_left_at base page) (page_section_at base (page_to 6 base page))
        (last_of (minor_at page) (edition_at page) base (plat_left_at base page) (page_section_at base page)) sec-new)
        (last-rules (minor_at page) (edition_at page) base (plat_left_at base page) (page_section_at base page)
        (plat-left-ok (edition_at page) base (platform_at base page)))

  module _ (p : Yes (place_ok base (length page))) (v : Yes (version_ok (version_at page))) where
    shows-new : read_of 4 base (page_to 6 base page) ≡ all_shown (minor_at page) (edition_at page) (plat_left_at base page)
        (last_of (minor_at page) (edition_at page) base (plat_left_at base page) (page_section_at base page))
    unfolding read_of judge
    shows-new =
        let o = (placed base (length page) p).1 in
        rw (to-length base page 6, version-to base page 6, padding-new, plat-new)
        (gate-true _ _ _ _ p (both_of _ _ (edition-of 4 (lit≤ tt) (lit≤ tt)) v) (rules-new o) ∙ view-same _ _ _ _ _ (sec-new o))

-- ---- an accepted page
module _ (base : ℕ) (page : List ℕ) (w e : ℕ) (q : PlatShown) (s : ℕ → Shown) (h : read_of 4 base page ≡ shows w e q s) where
  passed : Yes (place_ok base (length page)) × Yes (version_ok (version_at page)) ×
      Yes (rules (minor_at page) (edition_at page) base (padding_at page) (platform_at base page) (page_section_at base page))
  unfolding read_of judge
  passed = let g = gate-shows _ _ _ _ _ _ _ _ h in (g.0.0, both_r _ _ g.0.1, g.0.2)

  pointer-fine : Yes (platform_ok (edition_at page) base (platform_at base page))
  unfolding rules
  pointer-fine = both_l _ _ (both_r _ _ passed.2)

  keeps-fine : (k : ℕ) → k < section_count (edition_at page) → Yes (keeps_at base page k)
  unfolding keeps_at plat_left_at plat_left
  keeps-fine k l =
      rw pointer-fine (keeps-all (minor_at page) (edition_at page) base (platform_at base page) (page_section_at base page) (padding_at page)
      passed.2 k l)

  section-fine : (k : ℕ) → changed base page (suc (suc k)) ≡ false
  unfolding changed both
  section-fine k = go (dec_lt k (section_count (edition_at page)))
    where
      go : Dec (k < section_count (edition_at page)) → changed base page (suc (suc k)) ≡ false
      go (yes l) = kept-stands base page 6 k (keeps-fine k l)
      go (no l) = rw (le-ltb k (section_count (edition_at page)) (omega arith))

  none-changed : (j : ℕ) → changed base page j ≡ false
  unfolding changed rules
  none-changed zero = rw (both_l _ _ passed.2)
  none-changed (suc zero) = rw pointer-fine
  none-changed (suc (suc k)) = section-fine k

  page-same : page_to 6 base page ≡ page
  unfolding page_to
  page-same =
      blank_none _ page (λ i.
      no_test (some 6 (λ j. both (changed base page j) (of_part j i)))
      (some-not 6 (λ j. both (changed base page j) (of_part j i))
      (λ k l y. never_both (changed base page k) (both_l _ _ y) (none-changed k))))

  comes-out : (mended_page base page ≡ page) × ((j : ℕ) → changed base page j ≡ false)
      × (mended_of base page ≡ Ok (record { padding = false; plat = false; dram = false; console = false; ncoh = false; coh = false }))
  unfolding mend_changes
  comes-out =
      let d = mend-done base page passed.0 passed.1 in (
        sym d.1 ∙ page-same,
        none-changed,
        sym d.0 ∙ rw
            (none-changed 0, none-changed 1, none-changed 2, none-changed 3, none-changed 4, none-changed 5),
      )

-- ---- refusals
abbrev number_in : ReaderAnswer → ℕ
number_in (refused (pos n)) = 0
number_in (refused (negsuc n)) = n
number_in (shows w e q s) = 0

apart-codes : {a b : ReaderAnswer} (n m : ℕ) → number_in a ≡ n → number_in b ≡ m → (n ≡ m → ⊥) → a ≡ b → ⊥
apart-codes n m x y d e = d (sym x ∙ ap number_in e ∙ y)

gate-5 : (p v o : Bool) (w e : ℕ) (q : PlatShown) (s : ℕ → Shown) (c : Changes) → reader_gate p v o (shows w e q s) ≡ refused (minus 5) →
    mend_gate p v c ≡ Err Place
unfolding reader_gate mend_gate
gate-5 true true true w e q s c h = absurd (never (sym h))
gate-5 true true false w e q s c h = absurd (apart-codes 6 4 refl refl (λ z. omega arith) h)
gate-5 true false o w e q s c h = absurd (apart-codes 5 4 refl refl (λ z. omega arith) h)
gate-5 false v o w e q s c h = refl

gate-6 : (p v o : Bool) (w e : ℕ) (q : PlatShown) (s : ℕ → Shown) (c : Changes) → reader_gate p v o (shows w e q s) ≡ refused (minus 6) →
    mend_gate p v c ≡ Err Version
unfolding reader_gate mend_gate
gate-6 true true true w e q s c h = absurd (never (sym h))
gate-6 true true false w e q s c h = absurd (apart-codes 6 5 refl refl (λ z. omega arith) h)
gate-6 true false o w e q s c h = refl
gate-6 false v o w e q s c h = absurd (apart-codes 4 5 refl refl (λ z. omega arith) h)

gate-7 : (p v o : Bool) (w e : ℕ) (q : PlatShown) (s : ℕ → Shown) (c : Changes) → reader_gate p v o (shows w e q s) ≡ refused (minus 7) →
    mend_gate p v c ≡ Ok c
unfolding reader_gate mend_gate
gate-7 true true true w e q s c h = absurd (never (sym h))
gate-7 true true false w e q s c h = refl
gate-7 true false o w e q s c h = absurd (apart-codes 5 6 refl refl (λ z. omega arith) h)
gate-7 false v o w e q s c h = absurd (apart-codes 4 6 refl refl (λ z. omega arith) h)

abbrev is_done : Mended → Bool
is_done (Ok c) = true
is_done (Err c) = false

abbrev code_in : Mended → Refusal
code_in (Ok c) = Rules
code_in (Err c) = c

gate-refused : (p v o : Bool) (a : ReaderAnswer) (x : Changes) (y z : List ℕ) (c : Refusal) → mend_gate p v x ≡ Err c → (reader_gate p v o a ≡ refused (refusal_number c)) × (cond (both p v) y z ≡ z)
unfolding reader_gate mend_gate both
gate-refused true true o a x y z c h = absurd (never_both true refl (ap is_done h))
gate-refused true false o a x y z c h = (ap (λ r. refused (refusal_number r)) (ap code_in h), refl)
gate-refused false v o a x y z c h = (ap (λ r. refused (refusal_number r)) (ap code_in h), refl)

gate-done : (p v : Bool) (x c : Changes) → mend_gate p v x ≡ Ok c → Yes p × Yes v
unfolding mend_gate
gate-done true true x c h = (refl, refl)
gate-done true false x c h = absurd (never_both true refl (sym (ap is_done h)))
gate-done false v x c h = absurd (never_both true refl (sym (ap is_done h)))

abbrev changes_in : Changes → Mended → Changes
changes_in d (Ok c) = c
changes_in d (Err r) = d

gate-changes : (p v : Bool) (x c : Changes) → mend_gate p v x ≡ Ok c → x ≡ c
unfolding mend_gate
gate-changes true true x c h = ap (changes_in x) h
gate-changes true false x c h = absurd (never_both true refl (sym (ap is_done h)))
gate-changes false v x c h = absurd (never_both true refl (sym (ap is_done h)))

-- ---- claims for any page, refused or not
cond_byte : (b : Bool) (x y : List ℕ) (i : ℕ) → get_or x i 0 ≡ get_or y i 0 → get_or (cond b x y) i 0 ≡ get_or y i 0
cond_byte true x y i h = h
cond_byte false x y i h = refl

cond-length : (b : Bool) (x y : List ℕ) → length x ≡ length y → length (cond b x y) ≡ length y
cond-length true x y h = h
cond-length false x y h = refl

module _ (base : ℕ) (page : List ℕ) where
  four : Yes (edition_ok 4)
  four = edition-of 4 (lit≤ tt) (lit≤ tt)

  refused-place : read_of 4 base page ≡ refused (minus 5) → mended_of base page ≡ Err Place
  unfolding read_of judge all_shown mended_of both
  refused-place h = gate-5 _ _ _ _ _ _ _ _ (rw four at h)

  refused-version : read_of 4 base page ≡ refused (minus 6) → mended_of base page ≡ Err Version
  unfolding read_of judge all_shown mended_of both
  refused-version h = gate-6 _ _ _ _ _ _ _ _ (rw four at h)

  damaged-by : read_of 4 base page ≡ refused (minus 7) → mended_of base page ≡ Ok (mend_changes base page)
  unfolding read_of judge all_shown mended_of both
  damaged-by h = gate-7 _ _ _ _ _ _ _ _ (rw four at h)

  refused-by : (c : Refusal) → mended_of base page ≡ Err c →
      (read_of 4 base page ≡ refused (refusal_number c)) × (mended_page base page ≡ page)
  unfolding read_of judge mended_of mended_page both
  refused-by c h = rw four (gate-refused _ _ _ _ _ _ _ c h)

  done-by : (c : Changes) → mended_of base page ≡ Ok c → Yes (place_ok base (length page)) × Yes (version_ok (version_at page))
  unfolding mended_of
  done-by c h = gate-done _ _ _ c h

  report-by : (c : Changes) → mended_of base page ≡ Ok c →
      (c.padding ≡ changed base page 0) × (c.plat ≡ changed base page 1) × (c.dram ≡ changed base page 2) ×
      (c.console ≡ changed base page 3) × (c.ncoh ≡ changed base page 4) × (c.coh ≡ changed base page 5)
  unfolding mended_of mend_changes
  report-by c h = rw (← gate-changes _ _ (mend_changes base page) c h) (refl, refl, refl, refl, refl, refl)

  blanks-by : (c : Changes) → mended_of base page ≡ Ok c → (k : ℕ) → count_at k page ≡ 0 → pointer_at k page ≡ 0 → check_at k page ≡ 0 →
      changed base page (suc (suc k)) ≡ false
  unfolding keeps_at page_section_at no_section
  blanks-by c h k x y z =
      let o = (placed base (length page) (done-by c h).0).1 in
      let n : page_section_at base page k ≡ no_section = rw (x, y, z) (ap (page_section 0 0 0) (array-none base page _ o)) in
      kept-stands base page 6 k (keeps-none (minor_at page) (edition_at page) base (plat_left_at base page) (page_section_at base page) k n)

  page-done : (c : Changes) → mended_of base page ≡ Ok c → mended_page base page ≡ page_to 6 base page
  page-done c h = let d = done-by c h in sym (mend-done base page d.0 d.1).1

  accepts-by : (c : Changes) → mended_of base page ≡ Ok c →
      read_of 4 base (mended_page base page) ≡ shows (minor_at page) (edition_at page)
      (plat_shown (cond (platform_ok (edition_at page) base (platform_at base page)) (platform_at base page) no_platform))
      (λ k. shown (minor_at page) (edition_at page) k (cond (keeps_at base page k) (page_section_at base page k) no_section))
  unfolding all_shown plat_left_at plat_left keeps_at last_of
  accepts-by c h = let d = done-by c h in ap (read_of 4 base) (page-done c h) ∙ shows-new base page d.0 d.1

  byte-by : (i : ℕ) → get_or (page_to 6 base page) i 0 ≡ get_or page i 0 → get_or (mended_page base page) i 0 ≡ get_or page i 0
  unfolding mended_page parts_zeroed page_to
  byte-by i h = cond_byte (both (place_ok base (length page)) (version_ok (version_at page))) (page_to 6 base page) page i h

  lacks-by : (k : ℕ) → section_count (edition_at page) ≤ k → changed base page (suc (suc k)) ≡ false
  unfolding changed both
  lacks-by k h = rw (le-ltb k (section_count (edition_at page)) h)

  section-by : (k : ℕ) → k < section_count (edition_at page) → changed base page (suc (suc k)) ≡ not (keeps_at base page k)
  unfolding changed both
  section-by k h = rw (lt-ltb k (section_count (edition_at page)) h)

  core-most : core (edition_at page) ≤ 112
  unfolding core
  core-most = omega (arith, section-count-most (edition_at page))

  out-of-core : (i : ℕ) → (i < 4) ⊎ (112 ≤ i) → get_or (page_to 6 base page) i 0 ≡ get_or page i 0
  out-of-core i (inl h) = rest-stands base page 6 i (inl h)
  out-of-core i (inr h) = rest-stands base page 6 i (inr (omega (arith, core-most)))

-- every claim of `Mends`, for every base and page
pub mends : (base : ℕ) (page : List ℕ) → Mends base page
unfolding changed keeps_at plat_left_at mended_page parts_zeroed page_to
mends base page = record {
  place = refused-place base page;
  version = refused-version base page;
  refusal = refused-by base page;
  damaged = damaged-by base page;
  accepts = accepts-by base page;
  report = report-by base page;
  accepted = comes-out base page;
  padding = refl;
  pointer = refl;
  section = section-by base page;
  kept = λ k. keeps-is (minor_at page) (edition_at page) base (platform_at base page) (page_section_at base page) k;
  blanks = λ c h k l. blanks-by base page c h k;
  lacks =
      λ k h. (lacks-by base page k h, λ i o. byte-by base page i (part-stands base page 6 (suc (suc k)) (λ _. lacks-by base page k h) i o));
  zeros = λ c h j l x i o. ap (λ (p : List ℕ). get_or p i 0) (page-done base page c h) ∙ part-zeroed base page 6 j l x i o;
  stands = λ j x i o. byte-by base page i (part-stands base page 6 j (λ _. x) i o);
  long = cond-length (both (place_ok base (length page)) (version_ok (version_at page))) (page_to 6 base page) page (to-length base page 6);
  outside = λ i o. byte-by base page i (out-of-core base page i o);
}
