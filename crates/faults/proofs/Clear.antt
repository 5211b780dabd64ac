-- There is no fault exactly if the reader's rule holds: for an entry, an array, a section, the overlaps, the fields and the page. Assumes
-- nothing.
use Rattle.std.proofs.Common.{◌≡◌, ℕ, zero, suc, ◌+◌, ◌-◌, ◌*◌, ◌<◌, ◌≤◌, min, Bool, true, false, cond, eqb, List, length, get_or, drop, sym, refl, ap, ◌∙◌, arith, le-ltb, lt-ltb, eqb-true, le-leb}
use native.Mathlib.Decide.{dec_lt, dec_le}
use borrow.Author.Tests.{lt-leb}
use Rattle.words.specs.Tests.{both, either}
use Rattle.words.specs.Word.{num_at, word_at}
use Rattle.words.proofs.Tests.{every-same}
use Rattle.versions.specs.Version.{minor_of, version_ok}
use Rattle.versions.specs.Edition.{section_count, core, edition_ok}
use Rattle.entries.specs.Entry.{words_per_entry, bank_ok, console_ok, entry_rule, check_ok}
use Rattle.entries.specs.Array.{words_at, entry_place, sound_of}
use Rattle.entries.specs.Steps.{entry_at, entries_at}
use Rattle.entries.proofs.Entries.{entries-same}
use Rattle.fields.specs.Fields.{scan_of, is_ended, length_ok}
use Rattle.fields.specs.Steps.{is_seen, allowed, seen_with, none_seen}
use Rattle.fields.specs.declared.Seen.{Seen}
use Rattle.fields.proofs.Ends.{ends_at, ends-start, ends-past, ends-cut, ends-tag, ends-mark, ends-not, ends_more}
use Rattle.sections.specs.Page.{place_ok, version_at, count_at, pointer_at, check_at, in_page, page_section, page_section_at, page_platform, found_at}
use Rattle.sections.specs.Page.{platform_at}
use Rattle.sections.specs.Section.{platform_ok, words_in, nothing, in_range, section_ok, rules_at}
use Rattle.sections.specs.Steps.{ok_at, ok_to, end_of, apart_at, clear_to, apart_to, clear_at, clear_from}
use Rattle.sections.proofs.Sections.{array-in, rules-steps}
use Rattle.faults.specs.Faults.{unless, first_fault, first_of, bank_fault, console_fault, entry_fault, entry_of, check_fault, array_fault}
use Rattle.faults.specs.Faults.{section_tests, section_fault, clash, overlap, field_tests, walk_fault, fields_fault, plat_fault, rules_fault}
use Rattle.faults.specs.Faults.{fault_of}
use Rattle.faults.specs.declared.Rule.{Rule}
use Rattle.faults.specs.declared.Rule.TheVariants as rule
use Rattle.faults.proofs.Order.{is_clear, clear-unless, clear-last, clear_or, clear_first}

-- ---- tests in another order
both-comm : (a b : Bool) → both a b ≡ both b a
unfolding both
both-comm true true = refl
both-comm true false = refl
both-comm false true = refl
both-comm false false = refl

both_false : (a : Bool) → both a false ≡ false
unfolding both
both_false true = refl
both_false false = refl

-- ---- an entry and the entries
bank-clear : (k i at b s : ℕ) → is_clear (bank_fault k i at b s) ≡ bank_ok b s
unfolding bank_fault bank_ok
bank-clear k i at b s = rw (clear-unless, clear-unless, clear-unless, clear-last)

console-clear : (w k i at b n f : ℕ) → is_clear (console_fault w k i at b n f) ≡ console_ok w b n f
unfolding console_fault console_ok
console-clear w k i at b n f = rw (clear-unless, clear-unless, clear-unless, clear-last)

last_one : (k at : ℕ) (page : List ℕ) → k ≡ 1 → word_at (at + 40) page ≡ word_at (at + 8 * (words_per_entry k - 1)) page
unfolding words_per_entry
last_one k at page e = rw e

entry-clear : (w k i at : ℕ) (page : List ℕ) → is_clear (entry_fault w k i at page) ≡ entry_at w k at page
unfolding entry_fault entry_at entry_rule
entry-clear w k i at page = go (eqb k 1) refl
  where
    go : (b : Bool) → eqb k 1 ≡ b →
        is_clear (cond b (console_fault w k i at (word_at at page) (word_at (at + 8) page) (word_at (at + 40) page))
        (bank_fault k i at (word_at at page) (word_at (at + 8) page)))
        ≡ cond b (console_ok w (word_at at page) (word_at (at + 8) page) (word_at (at + 8 * (words_per_entry k - 1)) page))
        (bank_ok (word_at at page) (word_at (at + 8) page))
    go true e =
        console-clear w k i at (word_at at page) (word_at (at + 8) page) (word_at (at + 40) page) ∙
        ap (console_ok w (word_at at page) (word_at (at + 8) page)) (last_one k at page (eqb-true _ _ e))
    go false e = bank-clear k i at (word_at at page) (word_at (at + 8) page)

pub entries-clear : (w k at c : ℕ) (page : List ℕ) → is_clear (first_of c (entry_of w k at page)) ≡ entries_at w k at c page
unfolding entries_at entry_of
entries-clear w k at c page =
    clear_first c (entry_of w k at page)
    ∙ every-same c (λ i. is_clear (entry_of w k at page i)) (λ i. entry_at w k (entry_place k at i) page)
    (λ i l. entry-clear w k i (entry_place k at i) page)

-- ---- a section
array-clear : (w k c p s at : ℕ) (page : List ℕ) →
    is_clear (array_fault w k c p s at page) ≡ both (check_ok c p (words_at k c at page) s) (entries_at w k at c page)
unfolding array_fault check_fault
array-clear w k c p s at page = rw (clear_or, entries-clear w k at c page, clear-last) (both-comm _ _)

module _ (w e base k : ℕ) (page : List ℕ) where
  section-case : (z r : Bool) → nothing (count_at k page) (pointer_at k page) (check_at k page) ≡ z →
      in_range e base k (count_at k page) (pointer_at k page) ≡ r →
      is_clear (section_fault w e base page k) ≡ ok_at w e base k page
  unfolding section_fault section_tests ok_at section_ok page_section_at page_section words_in words_at sound_of either both is_clear
  section-case true r h g = rw h
  section-case false false h g = rw (h, g, clear-unless, clear-unless, clear-unless, both_false, both_false)
  section-case false true h g =
      rw (
        h,
        g,
        clear-unless,
        clear-unless,
        clear-unless,
        array-clear w k (count_at k page) (pointer_at k page) (check_at k page) (pointer_at k page - base) page,
        array-in e base k (count_at k page) (pointer_at k page) g page,
        ← entries-same w k (pointer_at k page - base) (count_at k page) page,
      )

  pub section-clear : is_clear (section_fault w e base page k) ≡ ok_at w e base k page
  section-clear = section-case _ _ refl refl

pub sections-clear : (w e base n : ℕ) (page : List ℕ) → is_clear (first_of n (section_fault w e base page)) ≡ ok_to w e base n page
unfolding ok_to
sections-clear w e base n page =
    clear_first n (section_fault w e base page) ∙ every-same n (λ k. is_clear (section_fault w e base page k)) (λ k. ok_at w e base k page)
    (λ k l. section-clear w e base k page)

-- ---- overlaps
clash-clear : (r : Rule) (k off from to n : ℕ) (page : List ℕ) → is_clear (first_of n (clash r k off from to page)) ≡ clear_from from to n page
unfolding clear_from clash
clash-clear r k off from to n page =
    clear_first n (clash r k off from to page) ∙ every-same n (λ j. is_clear (clash r k off from to page j)) (λ j. clear_at from to j page)
    (λ j l. clear-last _ _)

pub overlaps-clear : (n : ℕ) (page : List ℕ) → is_clear (first_of n (overlap page)) ≡ apart_to n page
unfolding apart_to clear_to apart_at overlap clear_from clear_at
overlaps-clear n page =
    clear_first n (overlap page)
    ∙ every-same n (λ i. is_clear (overlap page i)) (λ i. clear_to i i page)
    (λ i l. clash-clear rule.ArrayOverlap i (24 + 24 * i) (pointer_at i page) (end_of i page) i page)

-- ---- the fields
abbrev Walks : ℕ → ℕ → List ℕ → Type 0
Walks n from bs = (s : Seen) (i at : ℕ) → length bs ≤ at + n → is_clear (walk_fault n s from i at bs) ≡ ends_at at s bs

-- one field: t is its tag, m its length
module _ (n from : ℕ) (bs : List ℕ) (ih : Walks n from bs) (s : Seen) (i at : ℕ) (h : at < length bs) (r : length bs ≤ at + suc n) (t m : ℕ)
    (ct : get_or bs at 0 ≡ t) (cm : num_at 2 (at + 1) bs ≡ m) where
  abbrev Same : Type 0
  Same = is_clear (walk_fault (suc n) s from i at bs) ≡ ends_at at s bs

  cut : length bs < at + 3 + m → Same
  unfolding walk_fault field_tests unless first_fault is_clear
  cut l = rw (ct, cm, lt-leb (at + 3 + m) (length bs) l) (sym (ends-cut at s bs h t m ct cm l))

  module _ (l : at + 3 + m ≤ length bs) where
    zero-tag : (y : Bool) → eqb m 0 ≡ y → eqb t 0 ≡ true → Same
    unfolding walk_fault field_tests unless first_fault is_clear
    zero-tag true e z = rw (ct, cm, le-leb (at + 3 + m) (length bs) l, z, e) (sym (ends-mark at s bs h t m ct cm l z e))
    zero-tag false e z = rw (ct, cm, le-leb (at + 3 + m) (length bs) l, z, e) (sym (ends-tag at s bs h t m ct cm l z e))

    some-tag : (o v : Bool) → length_ok t m ≡ o → is_seen s t ≡ v → eqb t 0 ≡ false → Same
    unfolding walk_fault field_tests unless first_fault is_clear allowed both
    some-tag false v eo ev z = rw (ct, cm, le-leb (at + 3 + m) (length bs) l, z, eo) (sym (ends-not at s bs h t m ct cm l z (rw eo)))
    some-tag true true eo ev z =
        rw (ct, cm, le-leb (at + 3 + m) (length bs) l, z, eo, ev) (sym (ends-not at s bs h t m ct cm l z (rw (eo, ev))))
    some-tag true false eo ev z =
        rw (ct, cm, le-leb (at + 3 + m) (length bs) l, z, eo, ev)
        (ih (seen_with s t) (i + 1) (at + 3 + m) (omega arith) ∙ sym (ends_more at s bs h t m ct cm l z (rw (eo, ev))))

    by-tag : (z : Bool) → eqb t 0 ≡ z → Same
    by-tag true e = zero-tag (eqb m 0) refl e
    by-tag false e = some-tag (length_ok t m) (is_seen s t) refl refl e

  one_field : Dec (at + 3 + m ≤ length bs) → Same
  one_field (yes l) = by-tag l (eqb t 0) refl
  one_field (no l) = cut (omega arith)

walk-past : (n from : ℕ) (bs : List ℕ) (s : Seen) (i at : ℕ) → length bs ≤ at → is_clear (walk_fault n s from i at bs) ≡ ends_at at s bs
unfolding walk_fault field_tests unless first_fault is_clear
walk-past zero from bs s i at h = sym (ends-past at s bs h)
walk-past (suc n) from bs s i at h = rw (lt-leb (at + 3 + num_at 2 (at + 1) bs) (length bs) (omega arith)) (sym (ends-past at s bs h))

walk_more : (n from : ℕ) (bs : List ℕ) → Walks n from bs → Walks (suc n) from bs
walk_more n from bs ih s i at r = go (dec_lt at (length bs))
  where
    go : Dec (at < length bs) → is_clear (walk_fault (suc n) s from i at bs) ≡ ends_at at s bs
    go (yes h) =
        one_field n from bs ih s i at h r (get_or bs at 0) (num_at 2 (at + 1) bs) refl refl (dec_le (at + 3 + num_at 2 (at + 1) bs) (length bs))
    go (no h) = walk-past (suc n) from bs s i at (omega arith)

walk-clear : (n from : ℕ) (bs : List ℕ) → Walks n from bs
walk-clear zero from bs s i at r = walk-past zero from bs s i at (omega arith)
walk-clear (suc n) from bs s i at r = walk_more n from bs (walk-clear n from bs) s i at r

fields-clear : (from : ℕ) (bs : List ℕ) → is_clear (fields_fault from bs) ≡ is_ended (scan_of bs)
unfolding fields_fault
fields-clear from bs = walk-clear (length bs) from bs none_seen 0 0 (omega arith) ∙ ends-start bs

-- ---- the platform pointer
module _ (e base q : ℕ) (page : List ℕ) where
  plat-case : (z : Bool) → eqb q 0 ≡ z → Dec (base + core e ≤ q) → Dec (q < base + 4096) →
      is_clear (plat_fault e base q page) ≡ platform_ok e base (page_platform q (found_at base page q))
  unfolding plat_fault platform_ok page_platform found_at in_page either both unless is_clear
  plat-case true h l u = rw h
  plat-case false h (no l) u = rw (h, lt-leb (base + core e) q (omega arith))
  plat-case false h (yes l) (no u) = rw (h, le-leb (base + core e) q l, le-ltb q (base + 4096) (omega arith))
  plat-case false h (yes l) (yes u) =
      rw (h, le-leb (base + core e) q l, lt-ltb q (base + 4096) u, le-leb base q (omega arith), le-leb (q + 1) (base + 4096) (omega arith))
      (fields-clear (q - base) (drop (q - base) page))

  pub plat-clear : is_clear (plat_fault e base q page) ≡ platform_ok e base (page_platform q (found_at base page q))
  plat-clear = plat-case _ refl (dec_le (base + core e) q) (dec_lt q (base + 4096))

-- ---- the page
pub rules-clear : (w e base : ℕ) (page : List ℕ) → is_clear (rules_fault w e base page) ≡ rules_at w e base page
unfolding rules_fault platform_at
rules-clear w e base page =
    rw (
      rules-steps w e base page,
      clear-unless,
      clear_or,
      clear_or,
      clear_or,
      plat-clear e base (word_at 8 page) page,
      sections-clear w e base (section_count e) page,
      overlaps-clear (section_count e) page,
      clash-clear,
    )

both-twice : (a b c : Bool) → both a (both (both a b) c) ≡ both (both a b) c
unfolding both
both-twice true b c = refl
both-twice false b c = refl

place_twice : (base n : ℕ) (b : Bool) → both (eqb n 4096) (both (place_ok base n) b) ≡ both (place_ok base n) b
unfolding place_ok
place_twice base n b = both-twice _ _ b

pub fault-clear : (r base : ℕ) (page : List ℕ) →
    is_clear (fault_of r base page) ≡ both (place_ok base (length page)) (both (edition_ok r) (both (version_ok (version_at page))
    (rules_at (minor_of (version_at page)) (min r (minor_of (version_at page))) base page)))
unfolding fault_of
fault-clear r base page =
    rw (
      clear-unless,
      clear-unless,
      clear-unless,
      clear-unless,
      rules-clear (minor_of (version_at page)) (min r (minor_of (version_at page))) base page,
    )
    (place_twice base (length page) _)
