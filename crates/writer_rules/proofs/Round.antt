-- Every reader shows what the writer writes. Assumes nothing.
use Prim.Native.Nat.{ℕ, suc, ◌+◌, ◌-◌, ◌*◌, ◌%◌, ◌^◌, min, ◌≤◌, ◌<◌}
use mathlib.Core.Bool.{Bool, true, false}
use mathlib.Core.Path.{◌≡◌, refl, ap, ◌∙◌}
use mathlib.Core.List.{List, [], ◌++◌, append_assoc, append-nil}
use native.Mathlib.Omega.{arith}
use native.Mathlib.Decide.{dec_lt}
use lib.ListN.{length, get_or, drop, replicate, length-append, length-replicate}
use lib.Seq.{drop-append-add, drop_at}
use lib.Dec.{lit≤}
use borrow.Author.Tests.{leb-true, lt-ltb, le-ltb}
use Rattle.words.specs.Tests.{Yes}
use Rattle.words.specs.Word.{part, word_at, bytes_of, are_words, joined}
use Rattle.words.proofs.Tests.{both_l, both_r, both_of, every-at, every_of}
use Rattle.words.proofs.Lists.{bytes_of-length, word-at, part_at, halves, joined_at, joined-get, joined_length, joined-mono, words-cons}
use Rattle.words.proofs.Lists.{words_append, words-joined}
use Rattle.versions.specs.Version.{version_ok}
use Rattle.versions.specs.Edition.{section_count, core, edition_ok}
use Rattle.versions.proofs.Versions.{version_of, version-minor}
use Rattle.versions.proofs.Editions.{section-count-most, section-count-mono, edition-range}
use Rattle.fields.specs.Fields.{scan_of, describable}
use Rattle.sections.specs.Page.{place_ok, version_at, padding_at, page_section_at, PagePlatform, page_platform, platform_at}
use Rattle.sections.specs.Section.{platform_ok, clear_before, plat_clear, rules}
use Rattle.sections.proofs.Sections.{placed}
use Rattle.reader.specs.Answer.{shows, shown, plat_shown, all_shown, judge, read_of}
use Rattle.reader.proofs.Newer.{rules-mono, gate-true, shows_same}
use Rattle.reader.proofs.Named.{rules-same}
use Rattle.writer_checks.specs.Description.{Description, list_ok, lists_ok, description_ok, with_mark, plat_bytes, used}
use Rattle.writer_rules.specs.Write.{plat_word, array_address, descriptor_at, core_words, filled, page_of, no-page, a-page, writer_gate}
use Rattle.writer_rules.specs.Write.{write_of, description_fits, described, plat_described}
use Rattle.writer_rules.proofs.Given.{given, desc-length, desc-words, sec-made, sec-ok, apart_of, shown-list, found_given, point-word}
use Rattle.writer_rules.proofs.Given.{found-made, plat-made, clear-made, fields_made}

-- ---- the page as a whole
-- what the writer has checked
pub record Fit (base v : ℕ) (d : Description) : Type 0 where
  pub positive : 0 < base
  pub top : base ≤ 2 ^ 52 - 4096
  pub align : base % 4096 ≡ 0
  pub early : v ≤ 4
  pub told : Yes (description_ok v d)
  pub small : Yes (description_fits d)
  pub room : used v d ≤ 4096

-- the platform data that the reader finds
unfoldable plat_given : ℕ → ℕ → Description → PagePlatform
plat_given base v d = page_platform (plat_word base v d) (found_given d.fields)

-- all words of the page, before the platform data's bytes
abbrev page_words : ℕ → ℕ → Description → List ℕ
page_words base v d = core_words base v d ++ joined 4 d.lists

module _ (base v : ℕ) (d : Description) (g : Fit base v d) where
  fits : core v + 8 * length (joined 4 d.lists) ≤ 4096
  unfolding used
  fits = let r = g.room in omega arith

  pub ok : (k : ℕ) → k < 4 → Yes (list_ok v k (d.lists k))
  unfolding description_ok lists_ok
  ok = every-at 4 (λ k. list_ok v k (d.lists k)) (both_l _ _ g.told)

  told-fields : Yes (describable (scan_of d.fields))
  unfolding description_ok
  told-fields = both_r _ _ g.told

  wd : (k : ℕ) → k < 4 → Yes (are_words (d.lists k))
  unfolding description_fits
  wd = every-at 4 (λ k. are_words (d.lists k)) g.small

  -- a section of the edition is one of the four
  one : (k : ℕ) → k < section_count v → k < 4
  one k h = omega (arith, section-count-most v)

  -- where an array starts
  place-low : (k : ℕ) → base + core v ≤ array_address base v d.lists k
  unfolding array_address
  place-low k = omega arith

  place-al : (k : ℕ) → array_address base v d.lists k % 8 ≡ 0
  unfolding array_address core
  place-al k = let a = g.align in omega arith

  place_end : (k : ℕ) → k < 4 → array_address base v d.lists k + 8 * length (d.lists k) ≤ base + 4096
  unfolding array_address
  place_end k h = let f = fits in omega (arith, joined-mono 4 d.lists k h)

  place-next : (i j : ℕ) → j < i → array_address base v d.lists j + 8 * length (d.lists j) ≤ array_address base v d.lists i
  unfolding array_address
  place-next i j h = omega (arith, joined-mono i d.lists j h)

  -- the page's words
  descs-length : (k : ℕ) → length (joined k (descriptor_at base v d.lists)) ≡ 3 * k
  unfolding descriptor_at
  descs-length k = joined_length k 3 (descriptor_at base v d.lists) (λ j. desc-length j (array_address base v d.lists j) (d.lists j))

  descs-words : (k : ℕ) → k < section_count v → Yes (are_words (descriptor_at base v d.lists k))
  unfolding descriptor_at
  descs-words k h =
      let e = place_end k (one k h) in
      let m = joined-mono 4 d.lists k (one k h) in
      let f = fits in
      let t = g.top in
      desc-words k (array_address base v d.lists k) (d.lists k) (omega arith) (omega arith)

  -- where the fields start: after core and arrays
  plat-low : base + core v ≤ array_address base v d.lists 4
  plat-low = place-low 4

  plat-room : array_address base v d.lists 4 + length (with_mark d.fields) ≤ base + 4096
  unfolding array_address used plat_bytes
  plat-room = let r = g.room in omega arith

  plat-word : plat_word base v d < 2 ^ 64
  unfolding plat_word
  plat-word = point-word _ d.fields (let r = plat-room in let t = g.top in omega arith)

  core-words : Yes (are_words (core_words base v d))
  unfolding core_words
  core-words =
      let e = g.early in
      words-cons v _ (omega arith) (words-cons (plat_word base v d) _ plat-word
      (words-joined (section_count v) (descriptor_at base v d.lists) descs-words))

  pub core-length : 8 * length (core_words base v d) ≡ core v
  unfolding core_words core
  core-length = let n = descs-length (section_count v) in omega arith

  place-off : (k : ℕ) → array_address base v d.lists k - base ≡ 8 * (length (core_words base v d) + length (joined k d.lists))
  unfolding array_address
  place-off k = let n = core-length in omega arith

  page-words : Yes (are_words (page_words base v d))
  page-words = words_append _ _ core-words (words-joined 4 d.lists wd)

  pub bytes-length : length (bytes_of (page_words base v d)) ≡ core v + 8 * length (joined 4 d.lists)
  bytes-length = let n = core-length in rw (bytes_of-length, length-append) (omega arith)

  pub page-length : length (page_of base v d) ≡ 4096
  unfolding page_of filled used
  page-length = let r = g.room in simp (length-append, length-replicate, bytes-length) (omega arith)

  -- the section that the reader finds is the one its list makes
  pub field : (k : ℕ) → k < section_count v → (j : ℕ) → j < 3 →
      word_at (16 + 8 * j + 24 * k) (page_of base v d) ≡ get_or (descriptor_at base v d.lists k) j 0
  unfolding page_of filled core_words descriptor_at
  field k h j m =
      rw (
        append_assoc,
        (let e : 16 + 8 * j + 24 * k ≡ 8 * suc (suc (3 * k + j)) = omega arith in e),
        word-at (suc (suc (3 * k + j))) (page_words base v d) _ page-words (rw (length-append, descs-length) (omega arith)),
        ← descs-length k,
      )
      (joined-get (section_count v) (descriptor_at base v d.lists) _ k j h (rw desc-length m))

  pub array : (k : ℕ) → k < 4 → part (array_address base v d.lists k - base) (8 * length (d.lists k)) (page_of base v d) ≡ bytes_of
      (d.lists k)
  unfolding page_of filled
  array k h =
      rw (
        append_assoc,
        place-off k,
        part_at (length (core_words base v d) + length (joined k d.lists)) (length (d.lists k)) (page_words base v d) _
            (rw length-append (omega (arith, joined-mono 4 d.lists k h))),
        drop-append-add,
      )
      (ap bytes_of (rw append-nil at (joined_at 4 d.lists [] k h)))

  sec-at : (k : ℕ) → k < section_count v → page_section_at base (page_of base v d) k ≡ given k (array_address base v d.lists k) (d.lists k)
  unfolding page_section_at descriptor_at
  sec-at k h =
      rw (field k h 0 (lit≤ tt), field k h 1 (lit≤ tt), field k h 2 (lit≤ tt))
      (sec-made base v k _ (d.lists k) (page_of base v d) (ok k (one k h)) g.positive (place-low k) (place_end k (one k h))
      (array k (one k h)))

  pub version-word : word_at 0 (page_of base v d) ≡ v
  unfolding page_of filled core_words
  version-word = rw (append_assoc, word-at 0 (page_words base v d) _ page-words (omega arith))

  -- the same for the platform data
  pub plat-pointer : word_at 8 (page_of base v d) ≡ plat_word base v d
  unfolding page_of filled core_words
  plat-pointer = rw (append_assoc, word-at 1 (page_words base v d) _ page-words (omega arith))

  pub fields_at : drop (array_address base v d.lists 4 - base) (page_of base v d) ≡ with_mark d.fields ++ replicate (4096 - length (bytes_of (page_words base v d) ++ with_mark d.fields)) 0
  unfolding page_of filled plat_bytes array_address
  fields_at =
      rw append_assoc (drop_at (bytes_of (page_words base v d)) _ (array_address base v d.lists 4 - base) (rw bytes-length (omega arith)))

  plat-at : platform_at base (page_of base v d) ≡ plat_given base v d
  unfolding platform_at plat_given plat_word
  plat-at =
      rw (
        plat-pointer,
        found-made base (array_address base v d.lists 4) g.positive (page_of base v d) _ d.fields
            (let l = plat-low in omega arith) fields_at plat-room told-fields,
      )

  plat-ok : Yes (platform_ok v base (plat_given base v d))
  unfolding plat_given plat_word
  plat-ok = plat-made base (array_address base v d.lists 4) g.positive v d.fields plat-low plat-room

  plat-owed : plat_shown (plat_given base v d) ≡ plat_described base v d
  unfolding plat_shown plat_given page_platform plat_described
  plat-owed = rw (fields_made base 0 g.positive d.fields)

  plat-clear : (k : ℕ) → k < 4 → Yes (plat_clear (plat_given base v d) (λ j. given j (array_address base v d.lists j) (d.lists j)) k)
  unfolding plat_clear plat_given plat_word
  plat-clear k h =
      clear-made base (array_address base v d.lists 4) g.positive v k _ (d.lists k) d.fields (ok k h) (place-next 4 k h)

  -- so the rules hold, and each list is shown
  rules-given : Yes (rules v v base 0 (plat_given base v d) (λ k. given k (array_address base v d.lists k) (d.lists k)))
  unfolding rules clear_before
  rules-given =
      both_of _ _ refl (both_of _ _ plat-ok (both_of _ _
      (every_of (section_count v) _ (λ k h. sec-ok base v k _ (d.lists k) (ok k (one k h)) (wd k (one k h)) (place-low k)
      (place_end k (one k h)) (place-al k)))
      (both_of _ _
      (every_of (section_count v) _ (λ i h. every_of i _ (λ j m. apart_of v i j _ _ (d.lists i) (d.lists j)
      (ok j (let f = one i h in omega arith)) (place-next i j m))))
      (every_of (section_count v) _ (λ k h. plat-clear k (one k h))))))

  rules-page : (e : ℕ) → e ≤ v → Yes (rules v e base 0 (platform_at base (page_of base v d)) (page_section_at base (page_of base v d)))
  rules-page e h =
      rw plat-at (rules-mono v e v base h 0 _ _
      (rw (rules-same v v base 0 (plat_given base v d) (page_section_at base (page_of base v d))
      (λ k. given k (array_address base v d.lists k) (d.lists k)) sec-at) rules-given))

  shown-given : (e k : ℕ) → e ≤ v → shown v e k (page_section_at base (page_of base v d) k) ≡ described e d k
  unfolding shown described
  shown-given e k h = go (dec_lt k (section_count e))
    where
      go : Dec (k < section_count e) → shown v e k (page_section_at base (page_of base v d) k) ≡ described e d k
      go (yes m) =
          let n : k < section_count v = omega (arith, section-count-mono e v h) in
          rw (lt-ltb k (section_count e) m, sec-at k n) (shown-list v k _ (d.lists k) g.early (ok k (one k n)) (wd k (one k n)))
      go (no m) = rw (le-ltb k (section_count e) (omega arith))

  view-given : (e : ℕ) → e ≤ v → all_shown v e (platform_at base (page_of base v d)) (page_section_at base (page_of base v d)) ≡ shows v e
      (plat_described base v d) (described e d)
  unfolding all_shown
  view-given e h = rw (plat-at, plat-owed) (shows_same v e (plat_described base v d) _ _ (λ k. shown-given e k h))

  head : (version_at (page_of base v d) ≡ v) × (padding_at (page_of base v d) ≡ 0)
  unfolding page_of filled core_words
  head = rw append_assoc (halves v _ _ (let e = g.early in omega arith))

  round-at : (r : ℕ) → Yes (place_ok base 4096) → Yes (edition_ok r) → 1 ≤ v →
      read_of r base (page_of base v d) ≡ shows v (min r v) (plat_described base v d) (described (min r v) d)
  unfolding read_of judge
  round-at r a b c =
      let e = g.early in
      let t : Yes (version_ok v) = version_of v c (omega arith) in
      rw (page-length, head.0, head.1, (version-minor v t).0)
      (gate-true _ _ _ _ a (both_of _ _ b t) (rules-page (min r v) (omega arith)) ∙ view-given (min r v) (omega arith))

-- ---- the writer's checks
no-made : {n : ℕ} {p : List ℕ} → no-page n ≡ a-page p → ⊥
no-made h = let z : ◌≡◌ {A = ℕ} 0 1 = cc in omega arith

pub writer-gate-page : (a b c d e : Bool) (p q : List ℕ) → writer_gate a b c d e p ≡ a-page q →
    (Yes a × Yes b × Yes c × Yes d × Yes e) × (p ≡ q)
unfolding writer_gate
writer-gate-page true true true true true p q h = ((refl, refl, refl, refl, refl), cc)
writer-gate-page true true true true false p q h = absurd (no-made h)
writer-gate-page true true true false e p q h = absurd (no-made h)
writer-gate-page true true false d e p q h = absurd (no-made h)
writer-gate-page true false c d e p q h = absurd (no-made h)
writer-gate-page false b c d e p q h = absurd (no-made h)

-- what holds for a page that was made
pub made-fit : (base n v : ℕ) (d : Description) (p : List ℕ) → Yes (description_fits d) → write_of base n v d ≡ a-page p →
    Fit base v d × Yes (place_ok base 4096) × Yes (edition_ok v) × (page_of base v d ≡ p)
unfolding write_of
made-fit base n v d p wd h =
    let a = writer-gate-page _ _ _ _ _ _ _ h in
    let b = placed base n a.0.0 in (
      record {
        positive = b.1;
        top = b.3;
        align = b.2;
        early = (edition-range v a.0.1).1;
        told = a.0.2;
        small = wd;
        room = leb-true _ _ a.0.4;
      },
      rw b.0 at a.0.0,
      a.0.1,
      a.1,
    )

-- each page that the writer makes, at any edition, is accepted by every reader of edition 1 to 4, which shows what the lists describe
pub round : (base n v : ℕ) (d : Description) (p : List ℕ) → Yes (description_fits d) → write_of base n v d ≡ a-page p → (r : ℕ) →
    Yes (edition_ok r) →
    read_of r base p ≡ shows v (min r v) (plat_described base v d) (described (min r v) d)
round base n v d p wd h r ed =
    let a = made-fit base n v d p wd h in
    rw (← a.3) (round-at base v d a.0 r a.1 ed (edition-range v a.2).0)
