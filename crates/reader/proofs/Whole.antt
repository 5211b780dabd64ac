-- The whole answer, return by return. Assumes nothing.
use Prim.Native.Nat.{ℕ, zero, suc, ◌+◌, ◌-◌, ◌%◌, ◌≤◌, ◌<◌, min}
use mathlib.Core.Path.{◌≡◌, refl, sym, ap, fun_ext, ◌∙◌}
use mathlib.Core.Bool.{Bool, true, false, cond, true≢false}
use mathlib.Core.List.{List, []}
use native.Mathlib.Omega.{arith}
use native.Mathlib.Decide.{dec_lt}
use lib.ListN.{length}
use Rattle.std.specs.Prelude.{Result, Ok, Err}
use lib.Dec.{leb, eqb}
use borrow.Author.Tests.{leb-true, ltb-true, le-leb, lt-ltb, le-ltb, eq-eqb, ne_eqb}
use Rattle.words.specs.Tests.{Yes, both}
use Rattle.words.proofs.Tests.{both_l, both_r, both_of, either-cases}
use Rattle.words.specs.Word.{word_at}
use Rattle.versions.specs.Version.{minor_of, version_ok}
use Rattle.versions.specs.Edition.{section_count, core, edition_ok}
use Rattle.versions.proofs.Editions.{section-count-most}
use Rattle.entries.specs.Entry.{size}
use Rattle.entries.specs.Array.{words_at}
use Rattle.sections.specs.Page.{place_ok, version_at, count_at, pointer_at, in_page, page_section, page_section_at, page_platform, found_at}
use Rattle.sections.specs.Page.{platform_at}
use Rattle.fields.specs.Fields.{ended, fields_in, shown_fields}
use Rattle.sections.specs.Section.{platform_ok, words_in, in_range, rules_at}
use Rattle.sections.specs.Steps.{Copied, ok_at}
use Rattle.sections.proofs.Sections.{placed, range-low, range-high, array-in, ok-in-range, ok-each, rules-sections, rules-pointer}
use Rattle.reader.specs.Answer.{Shown, ReaderAnswer, shows, code_in, shown_in, shown, shown_sec, plat_shown, all_shown, reader_gate, judge}
use Rattle.reader.specs.Answer.{read_of}
use Rattle.reader.specs.Reading.{section_of, shown_as, fields_of, reading_answer, section_at, view_at, reading_gate, reading_of}
use Rattle.reader.specs.Fast.{verdict_of, number_in, section_read}
use Rattle.reader.specs.declared.Section.{Section}
use Rattle.reader.specs.declared.Section.TheVariants.{Absent, Empty, Entries}
use Rattle.reader.specs.declared.View.{View}
use Rattle.reader.specs.declared.Refusal.{Refusal}
use Rattle.reader.specs.declared.Refusal.TheVariants.{Place, Version, Rules}

-- ---- what is shown of one section
module _ (w e base k : ℕ) (page : List ℕ) where
  pub shown-absent : section_count e ≤ k → shown_as w k Absent page ≡ shown w e k (page_section_at base page k)
  unfolding shown_as shown
  shown-absent h = rw (le-ltb k (section_count e) h)

  pub shown-empty : k < section_count e → count_at k page ≡ 0 → shown_as w k Empty page ≡ shown w e k (page_section_at base page k)
  unfolding shown_as shown shown_sec page_section_at page_section
  shown-empty h z = rw (lt-ltb k (section_count e) h, eq-eqb (count_at k page) 0 z)

  pub shown-entries : length page ≡ 4096 → k < section_count e → ok_at w e base k page ≡ true → (count_at k page ≡ 0 → ⊥) →
      shown_as w k (Entries (pointer_at k page - base) (count_at k page)) page ≡ shown w e k (page_section_at base page k)
  unfolding shown_as shown shown_sec page_section_at page_section words_in words_at
  shown-entries n h o z =
      let g : in_range e base k (count_at k page) (pointer_at k page) ≡ true = ok-in-range w e base k page o z in
      let l : base + core e ≤ pointer_at k page = range-low e base k (count_at k page) (pointer_at k page) g in
      let m : pointer_at k page + size k (count_at k page) ≤ base + 4096 = range-high e base k (count_at k page) (pointer_at k page) g in
      rw (
        lt-ltb k (section_count e) h,
        ne_eqb (count_at k page) 0 z,
        array-in e base k (count_at k page) (pointer_at k page) g page,
        le-leb (pointer_at k page - base + size k (count_at k page)) (length page) (omega arith),
      )

-- ---- what the code returns for one section
module _ (e base k : ℕ) (page : List ℕ) where
  pub section-absent : section_count e ≤ k → Absent ≡ section_at e base page k
  unfolding section_at
  section-absent h = rw (le-ltb k (section_count e) h)

  pub section-empty : k < section_count e → count_at k page ≡ 0 → Empty ≡ section_at e base page k
  unfolding section_at
  section-empty h z = rw (lt-ltb k (section_count e) h, eq-eqb (count_at k page) 0 z)

  pub section-entries : k < section_count e → (count_at k page ≡ 0 → ⊥) → Entries (pointer_at k page - base) (count_at k page) ≡ section_at e base page k
  unfolding section_at
  section-entries h z = rw (lt-ltb k (section_count e) h, ne_eqb (count_at k page) 0 z)

shown-at : (w e base k : ℕ) (page : List ℕ) → length page ≡ 4096 → (k < section_count e → ok_at w e base k page ≡ true) →
    shown_as w k (section_at e base page k) page ≡ shown w e k (page_section_at base page k)
shown-at w e base k page n o = go (dec_lt k (section_count e)) (dec_lt 0 (count_at k page))
  where
    seen_as : Section → Shown
    seen_as s = shown_as w k s page

    go : Dec (k < section_count e) → Dec (0 < count_at k page) →
        shown_as w k (section_at e base page k) page ≡ shown w e k (page_section_at base page k)
    go (no l) d = ap seen_as (sym (section-absent e base k page (omega arith))) ∙ shown-absent w e base k page (omega arith)
    go (yes l) (no z) = ap seen_as (sym (section-empty e base k page l (omega arith))) ∙ shown-empty w e base k page l (omega arith)
    go (yes l) (yes z) =
        let y : (count_at k page ≡ 0 → ⊥) = λ q. omega arith in
        ap seen_as (sym (section-entries e base k page l y)) ∙ shown-entries w e base k page n l (o l) y

-- ---- the four sections
section-view : (w e base : ℕ) (page : List ℕ) (k : ℕ) → section_of (view_at w e base page) k ≡ section_at e base page k
unfolding section_of view_at
section-view w e base page zero = refl
section-view w e base page (suc zero) = refl
section-view w e base page (suc (suc zero)) = refl
section-view w e base page (suc (suc (suc zero))) = refl
section-view w e base page (suc (suc (suc (suc k)))) =
    section-absent e base (suc (suc (suc (suc k)))) page (omega (arith, section-count-most e))

-- the fields at the view's pointer are the fields at the page's pointer
cond-else : {A : Type 0} (b : Bool) (x y z : A) → y ≡ z → cond b x y ≡ cond b x z
cond-else true x y z h = refl
cond-else false x y z h = h

fields_view : (e base q : ℕ) (page : List ℕ) → base % 4096 ≡ 0 → platform_ok e base (page_platform q (found_at base page q)) ≡ true →
    fields_of q page ≡ found_at base page q
unfolding platform_ok page_platform fields_of found_at in_page
fields_view e base q page m h =
    either-cases _ _
    (λ z. rw z)
    (λ b.
    let l : base + core e ≤ q = leb-true _ _ (both_l _ _ b) in
    let u : q < base + 4096 = ltb-true _ _ (both_l _ _ (both_r _ _ b)) in
    let x : q % 4096 ≡ q - base = omega arith in
    cond-else (eqb q 0) (ended [] 0) _ _ (rw (
      x,
      both_of (leb base q) (leb (q + 1) (base + 4096)) (le-leb base q (omega arith))
          (le-leb (q + 1) (base + 4096) (omega arith)),
    )))
    h

view-shows : (w e base : ℕ) (page : List ℕ) → Yes (place_ok base (length page)) → rules_at w e base page ≡ true →
    reading_answer page (Ok (view_at w e base page)) ≡ all_shown w e (platform_at base page) (page_section_at base page)
unfolding reading_answer all_shown plat_shown platform_at page_platform view_at
view-shows w e base page p t =
    let n = placed base (length page) p in
    let o = rules-sections w e base page t in
    ap {B = ReaderAnswer} (λ f. shows w e (record {
      pointer = word_at 8 page;
      fields = shown_fields (fields_in (fields_of (word_at 8 page) page));
    }) f) (fun_ext (λ k.
    ap (λ s. shown_as w k s page) (section-view w e base page k) ∙
    shown-at w e base k page n.0 (ok-each w e base page (section_count e) k o)))
    ∙ ap {B = ReaderAnswer} (λ s. shows w e (record { pointer = word_at 8 page; fields = shown_fields (fields_in s) })
    (λ k. shown w e k (page_section_at base page k)))
    (fields_view e base (word_at 8 page) page n.2 (rules-pointer w e base page t))

-- ---- what the enum means
gate-answer : (page : List ℕ) (p v o : Bool) (u : View) (a : ReaderAnswer) → (Yes p → Yes o → reading_answer page (Ok u) ≡ a) →
    reading_answer page (reading_gate p v o u) ≡ reader_gate p v o a
unfolding reading_answer reading_gate reader_gate
gate-answer page true true true u a h = h refl refl
gate-answer page true true false u a h = refl
gate-answer page true false o u a h = refl
gate-answer page false v o u a h = refl

view_in : Result View Refusal → View → View
view_in (Ok v) u = v
view_in (Err c) u = u

gate-view : (p q o : Bool) (u v : View) → Ok v ≡ reading_gate p q o u → v ≡ u
unfolding reading_gate view_in
gate-view true true true u v h = ap (λ x. view_in x u) h
gate-view true true false u v h = ap (λ x. view_in x u) h
gate-view true false o u v h = ap (λ x. view_in x u) h
gate-view false q o u v h = ap (λ x. view_in x u) h

-- ---- what the verdict implies for the reading
abbrev is_passed : Result ℕ Refusal → Bool
is_passed (Ok w) = true
is_passed (Err c) = false

abbrev minor_in : Result ℕ Refusal → ℕ
minor_in (Ok w) = w
minor_in (Err c) = 0

abbrev code_or : Result ℕ Refusal → Refusal
code_or (Ok w) = Rules
code_or (Err c) = c

verdict-refused : (c : Refusal) (x : Result View Refusal) → Err c ≡ verdict_of x → Err c ≡ x
unfolding verdict_of
verdict-refused c (Err d) h = ap (λ v. Err (code_or v)) h
verdict-refused c (Ok v) h = absurd (true≢false (sym (ap is_passed h)))

gate-fine : (p q o : Bool) (u : View) (w : ℕ) → Ok w ≡ verdict_of (reading_gate p q o u) →
    (Yes p) × (Yes o) × (w ≡ u.minor) × (Ok u ≡ reading_gate p q o u)
unfolding reading_gate verdict_of
gate-fine true true true u w h = (refl, refl, ap minor_in h, refl)
gate-fine true true false u w h = absurd (true≢false (ap is_passed h))
gate-fine true false o u w h = absurd (true≢false (ap is_passed h))
gate-fine false q o u w h = absurd (true≢false (ap is_passed h))

module _ (r base : ℕ) (page : List ℕ) where
  pub refused-reads : (c : Refusal) → Err c ≡ verdict_of (reading_of r base page) → Err c ≡ reading_of r base page
  refused-reads c h = verdict-refused c (reading_of r base page) h

  -- a page with verdict `Ok` has 4,096 bytes, keeps its rules and is shown
  pub fine-reads : (w : ℕ) → Ok w ≡ verdict_of (reading_of r base page) →
      (length page ≡ 4096) × (rules_at w (min r w) base page ≡ true) × (Ok (view_at w (min r w) base page) ≡ reading_of r base page)
  unfolding reading_of view_at
  fine-reads w h =
      let g = gate-fine _ _ _ _ w h in
      rw g.2 ((placed base (length page) g.0).0, g.1, g.3)

  -- its sections are those of the page
  pub fine-section : (w k : ℕ) → Ok w ≡ verdict_of (reading_of r base page) →
      section_at (min r w) base page k ≡ section_read (reading_of r base page) k
  unfolding section_read
  fine-section w k h = sym (section-view w (min r w) base page k) ∙ ap (λ x. section_read x k) (fine-reads w h).2

  pub told-section : (w k e : ℕ) → e ≡ min r w → (v : Result ℕ Refusal) → v ≡ verdict_of (reading_of r base page) → v ≡ Ok w → (s : Section) →
      s ≡ section_at e base page k → s ≡ section_read (reading_of r base page) k
  told-section w k e ce v cv h s q = q ∙ rw ce (fine-section w k (sym h ∙ cv))

  pub refused-section : (c : Refusal) (k : ℕ) → Err c ≡ verdict_of (reading_of r base page) → Absent ≡ section_read (reading_of r base page) k
  unfolding section_read
  refused-section c k h = ap (λ x. section_read x k) (refused-reads c h)

module _ (r base : ℕ) (page : List ℕ) where
  pub reading-answer : reading_answer page (reading_of r base page) ≡ read_of r base page
  unfolding reading_of read_of judge rules_at
  reading-answer = gate-answer page _ _ _ _ _ (λ p o. view-shows _ _ base page p o)

  -- the view of an accepted page has the offsets that the page's own pointers give
  pub reading-placed : (v : View) → Ok v ≡ reading_of r base page → v ≡ view_at v.minor v.edition base page
  unfolding reading_of view_at
  reading-placed v h =
      let e = gate-view _ _ _ _ v h in
      e ∙ sym (ap (λ u. view_at u.minor u.edition base page) e)

-- ---- a section of a reading means the section of the answer
gate-section : (p q o : Bool) (u : View) (k : ℕ) (page : List ℕ) →
    shown_as u.minor k (section_read (reading_gate p q o u) k) page ≡ shown_in (reading_answer page (reading_gate p q o u)) k
unfolding reading_gate section_read reading_answer shown_in shown_as
gate-section true true true u k page = refl
gate-section true true false u k page = refl
gate-section true false o u k page = refl
gate-section false q o u k page = refl

pub section-told : (r base : ℕ) (page : List ℕ) (k : ℕ) (s : Section) → s ≡ section_read (reading_of r base page) k →
    (s ≡ section_read (reading_of r base page) k) × (shown_as (minor_of (version_at page)) k s page ≡ shown_in (read_of r base page) k)
unfolding reading_of view_at
section-told r base page k s h = (
  h,
  ap (λ (x : Section). shown_as (minor_of (version_at page)) k x page) h ∙ gate-section _ _ _ _ k page ∙
      ap (λ a. shown_in a k) (reading-answer r base page),
)

-- ---- the number of a verdict is the code of the answer
number_read : (page : List ℕ) (x : Result View Refusal) → number_in (verdict_of x) ≡ code_in (reading_answer page x)
unfolding number_in verdict_of code_in reading_answer
number_read page (Ok v) = refl
number_read page (Err c) = refl

pub verdict-told : (r base : ℕ) (page : List ℕ) (v : Result ℕ Refusal) → v ≡ verdict_of (reading_of r base page) →
    (v ≡ verdict_of (reading_of r base page)) × (number_in v ≡ code_in (read_of r base page))
verdict-told r base page v h = (h, ap number_in h ∙ number_read page (reading_of r base page) ∙ ap code_in (reading-answer r base page))

-- ---- a verdict with the judged core of the page, if it is accepted
module _ (r base : ℕ) (page core : List ℕ) where
  pub judged-refused : (c : Refusal) → Err c ≡ verdict_of (reading_of r base page) →
      (Err c ≡ verdict_of (reading_of r base page)) × ((number_in (Err c) ≡ code_in (read_of r base page)) ×
      ((w : ℕ) → Err c ≡ Ok w → Copied core page))
  judged-refused c h = let t = verdict-told r base page (Err c) h in (t.0, (t.1, λ w f. absurd (true≢false (ap is_passed (sym f)))))

  pub judged-fine : (v : Result ℕ Refusal) → v ≡ verdict_of (reading_of r base page) → Copied core page →
      (v ≡ verdict_of (reading_of r base page)) × ((number_in v ≡ code_in (read_of r base page)) × ((w : ℕ) → v ≡ Ok w → Copied core page))
  judged-fine v h g = let t = verdict-told r base page v h in (t.0, (t.1, λ w f. g))

-- ---- the reader's enum, return by return
module _ (r base : ℕ) (page : List ℕ) where
  pub read-place : place_ok base (length page) ≡ false → Err Place ≡ reading_of r base page
  unfolding reading_of reading_gate
  read-place h = rw h

  module _ (h : place_ok base (length page) ≡ true) where
    pub read-edition : edition_ok r ≡ false → Err Version ≡ reading_of r base page
    unfolding reading_of reading_gate both
    read-edition g = rw (h, g)

    module _ (g : edition_ok r ≡ true) where
      pub read-version : version_ok (version_at page) ≡ false → Err Version ≡ reading_of r base page
      unfolding reading_of reading_gate both
      read-version v = rw (h, g, v)

      module _ (v : version_ok (version_at page) ≡ true) where
        pub read-rules : rules_at (minor_of (version_at page)) (min r (minor_of (version_at page))) base page ≡ false →
            Err Rules ≡ reading_of r base page
        unfolding reading_of reading_gate both
        read-rules o = rw (h, g, v, o)

        pub read-shows : rules_at (minor_of (version_at page)) (min r (minor_of (version_at page))) base page ≡ true →
            Ok (view_at (minor_of (version_at page)) (min r (minor_of (version_at page))) base page) ≡ reading_of r base page
        unfolding reading_of reading_gate both
        read-shows o = rw (h, g, v, o)

        -- the verdict, given the minor, the edition and the result of the rules that the code computed
        module _ (w e : ℕ) (cw : w ≡ minor_of (version_at page)) (ce : e ≡ min r w) (z : Bool)
            (cz : z ≡ both (place_ok base (length page)) (rules_at w e base page)) where
          was-rules : (b : Bool) → z ≡ b → rules_at (minor_of (version_at page)) (min r (minor_of (version_at page))) base page ≡ b
          unfolding both
          was-rules b q = rw (← cw, ← ce) (sym (rw h at cz) ∙ q)

          pub told-rules : z ≡ false → Err Rules ≡ verdict_of (reading_of r base page)
          unfolding verdict_of
          told-rules q = ap verdict_of (read-rules (was-rules false q))

          pub told-fine : z ≡ true → Ok w ≡ verdict_of (reading_of r base page)
          unfolding verdict_of view_at
          told-fine q = ap Ok cw ∙ ap verdict_of (read-shows (was-rules true q))

pub section-none : (v : View) (k : ℕ) → 3 < k → section_of v k ≡ Absent
unfolding section_of
section-none v zero h = absurd (let z : ⊥ = omega arith in z)
section-none v (suc zero) h = absurd (let z : ⊥ = omega arith in z)
section-none v (suc (suc zero)) h = absurd (let z : ⊥ = omega arith in z)
section-none v (suc (suc (suc zero))) h = absurd (let z : ⊥ = omega arith in z)
section-none v (suc (suc (suc (suc k)))) h = refl
