-- What an accepted page shows, field by field. A definition that shows every page alike fails here. Assumes nothing.
use Prim.Native.Nat.{ℕ, ◌+◌, ◌-◌, ◌*◌, ◌≤◌, ◌<◌}
use mathlib.Core.Path.{◌≡◌, refl, sym, ap, ◌∙◌}
use mathlib.Core.Bool.{true, false, cond}
use mathlib.Core.List.{List}
use native.Mathlib.Omega.{arith}
use lib.ListN.{length}
use borrow.Author.Tests.{le-leb, lt-ltb, ltb-true, eq-eqb, eqb-true}
use Rattle.words.specs.Word.{part, word_at}
use Rattle.words.proofs.Tests.{both_l, both_r, both_of}
use Rattle.versions.specs.Edition.{section_count, core}
use Rattle.entries.specs.Entry.{words_per_entry, size, shown_words}
use Rattle.entries.specs.Array.{words_at, entry_place}
use Rattle.entries.specs.Fast.{is_hidden}
use Rattle.entries.proofs.Entries.{per-one, word-in}
use Rattle.entries.proofs.Flags.{shown-word}
use Rattle.fields.proofs.Rules.{no_test}
use Rattle.sections.specs.Page.{count_at, pointer_at, page_section_at, page_platform, platform_at}
use Rattle.sections.specs.Section.{in_range, rules_at}
use Rattle.sections.specs.Steps.{ok_at}
use Rattle.sections.proofs.Sections.{placed, range-low, range-high, ok-in-range, ok-each, rules-sections}
use Rattle.reader.specs.Answer.{Shown, full, PlatShown, shows, shown, plat_shown, all_shown, judge, read_of, entry_word}
use Rattle.reader.specs.Reading.{shown_as}
use Rattle.reader.specs.Views.{PageShown}
use Rattle.reader.specs.declared.Section.TheVariants.{Entries}
use Rattle.reader.proofs.Whole.{shown-absent, shown-empty, shown-entries}
use Rattle.reader.proofs.Newer.{gate-shows}

-- the entries of a section whose rule holds are within the page
entries-lie : (w e base k : ℕ) (page : List ℕ) → length page ≡ 4096 → ok_at w e base k page ≡ true → (count_at k page ≡ 0 → ⊥) →
    shown_as w k (Entries (pointer_at k page - base) (count_at k page)) page ≡ full
    (shown_words w k (words_at k (count_at k page) (pointer_at k page - base) page))
    (part (pointer_at k page - base) (size k (count_at k page)) page)
unfolding shown_as
entries-lie w e base k page n o z =
    let g : in_range e base k (count_at k page) (pointer_at k page) ≡ true = ok-in-range w e base k page o z in
    let l : base + core e ≤ pointer_at k page = range-low e base k (count_at k page) (pointer_at k page) g in
    let m : pointer_at k page + size k (count_at k page) ≤ base + 4096 = range-high e base k (count_at k page) (pointer_at k page) g in
    rw (le-leb (pointer_at k page - base + size k (count_at k page)) (length page) (omega arith))

-- a word of such entries
module _ (w k c at i j : ℕ) (page bs : List ℕ) (h : i < c) (l : j < words_per_entry k) where
  word-shown : entry_word k i j (full (shown_words w k (words_at k c at page)) bs) ≡ cond (is_hidden w k j) 0
      (word_at (entry_place k at i + 8 * j) page)
  unfolding entry_word
  word-shown =
      rw (lt-ltb j (words_per_entry k) l) (shown-word w k i j (words_at k c at page) l ∙
      ap (λ (x : ℕ). cond (is_hidden w k j) 0 x) (word-in k at i c page h j l))

  word-plain : (k ≡ 1 → j ≡ 5 → w ≤ 4) → entry_word k i j (full (shown_words w k (words_at k c at page)) bs) ≡ word_at
      (at + 8 * (words_per_entry k * i + j)) page
  unfolding is_hidden entry_place
  word-plain f =
      let n : is_hidden w k j ≡ false = no_test _ (λ y.
      let a = f (eqb-true k 1 (both_l _ _ y)) (eqb-true j 5 (both_l _ _ (both_r _ _ y))) in
      let b : 4 < w = ltb-true 4 w (both_r _ _ (both_r _ _ y)) in
      let z : ⊥ = omega arith in z) in
      word-shown ∙ rw n (ap (λ (x : ℕ). word_at x page) (let e : at + 8 * (words_per_entry k * i) + 8 * j ≡ at + 8 *
      (words_per_entry k * i + j) = omega arith in e))

flags-shown : (w c at i : ℕ) (page bs : List ℕ) → i < c → 4 < w → entry_word 1 i 5 (full (shown_words w 1 (words_at 1 c at page)) bs) ≡ 0
unfolding is_hidden
flags-shown w c at i page bs h m =
    let y : is_hidden w 1 5 ≡ true = both_of _ _ (eq-eqb 1 1 refl) (both_of _ _ (eq-eqb 5 5 refl) (lt-ltb 4 w m)) in
    word-shown w 1 c at i 5 page bs h (let p = per-one in omega arith) ∙ rw y

pub shows-each : (w w' e e' : ℕ) (q q' : PlatShown) (s s' : ℕ → Shown) → shows w e q s ≡ shows w' e' q' s' →
    (w ≡ w') × (e ≡ e') × (q ≡ q') × (s ≡ s')
shows-each w w' e e' q q' s s' h = (cc, cc, cc, cc)

-- what a reader shows of a page that it accepts
pub shows-page : (r base : ℕ) (page : List ℕ) (w e : ℕ) (q : PlatShown) (s : ℕ → Shown) → read_of r base page ≡ shows w e q s →
    PageShown r base page w e q s
unfolding read_of judge all_shown plat_shown platform_at page_platform rules_at shown_as
shows-page r base page w e q s h =
    let g = gate-shows _ _ _ _ _ _ _ _ h in
    let i = shows-each _ w _ e _ q _ s g.1 in
    let n : length page ≡ 4096 = (placed base (length page) g.0.0).0 in
    let t : rules_at w e base page ≡ true = rw (i.1, i.0) at g.0.2 in
    let a : (k : ℕ) → s k ≡ shown w e k (page_section_at base page k) = λ k. ap (λ (f : ℕ → Shown). f k) (sym i.3) ∙ rw (i.1, i.0) in
    let b : (k : ℕ) → k < section_count e → (count_at k page ≡ 0 → ⊥) →
    s k ≡ full (shown_words w k (words_at k (count_at k page) (pointer_at k page - base) page))
    (part (pointer_at k page - base) (size k (count_at k page)) page) = λ k l z.
    let o = ok-each w e base page (section_count e) k (rules-sections w e base page t) l in
    a k ∙ sym (shown-entries w e base k page n l o z) ∙ entries-lie w e base k page n o z in
    record {
      minor = sym i.0;
      edition = sym i.1 ∙ rw i.0;
      plat = ap (λ (p : PlatShown). p.pointer) (sym i.2);
      fields = ap (λ (p : PlatShown). p.fields) (sym i.2);
      later = λ k l. a k ∙ sym (shown-absent w e base k page l);
      none = λ k l z. a k ∙ sym (shown-empty w e base k page l z);
      entries = b;
      words = λ k i j l m d f. rw (b k l (λ z. omega arith)) (word-plain w k (count_at k page) (pointer_at k page - base) i j page _ m d f);
      flags = λ i l m d. rw (b 1 l (λ z. omega arith)) (flags-shown w (count_at 1 page) (pointer_at 1 page - base) i page _ m d);
    }
