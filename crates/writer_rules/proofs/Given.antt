-- What the reader finds in one section and in the platform data that the writer makes, each by itself. Assumes nothing.
use Prim.Native.Nat.{ℕ, zero, suc, ◌+◌, ◌-◌, ◌*◌, ◌/◌, ◌%◌, ◌^◌, ◌≤◌, ◌<◌}
use mathlib.Core.Bool.{false≢true}
use mathlib.Core.Path.{◌≡◌, refl}
use mathlib.Core.List.{List, [], ◌∷◌, ◌++◌, append-nil, append_assoc}
use native.Mathlib.Omega.{arith}
use native.Mathlib.Nat.{div-add-mod, div-le_self}
use lib.ListN.{length, get_or, drop, length-append}
use lib.Dec.{lit≤}
use borrow.Author.Tests.{eqb-true, lt-ltb, le-leb, lt-leb, ne_eqb}
use Rattle.words.specs.Tests.{Yes, both}
use Rattle.words.specs.Word.{part, bytes_of, are_words}
use Rattle.words.proofs.Tests.{both_l, both_r, both_of, either_l, either_r}
use Rattle.words.proofs.Lists.{words_of-bytes_of}
use Rattle.versions.specs.Edition.{core}
use Rattle.entries.specs.Entry.{words_per_entry, size, entries_ok, sum, check_ok}
use Rattle.entries.proofs.Flags.{shown-plain}
use Rattle.entries.specs.Array.{sound_of}
use Rattle.fields.specs.Fields.{Scanned, broken, ended, bare, scan, scan_all, scan_of, judged, fields_ok, lengths_ok, count, is_bare}
use Rattle.fields.specs.Fields.{is_ended, taken, fields_in, fields_described, describable, end_mark}
use Rattle.fields.proofs.Marks.{description-read}
use Rattle.sections.specs.Page.{in_page, array_at, PageSection, page_section, page_platform, found_at}
use Rattle.sections.specs.Section.{platform_ok, words_in, nothing, in_range, section_ok, extent, apart, plat_extent}
use Rattle.sections.proofs.Sections.{array-in}
use Rattle.reader.specs.Answer.{shown_sec}
use Rattle.writer_checks.specs.Description.{list_ok, with_mark}
use Rattle.writer_rules.specs.Write.{neg, descriptor, point_to, shown_list}

-- ---- one section
-- the section that the reader finds for a list
unfoldable pub given : ℕ → ℕ → List ℕ → PageSection
given k p [] = page_section 0 0 0 []
given k p (w ∷ ws) =
    let c = length (w ∷ ws) / words_per_entry k in
    page_section c p (neg (c + p + sum (w ∷ ws))) (bytes_of (w ∷ ws))

-- the checksum holds and is below 2^64
pub neg-zero : (x : ℕ) → (x + neg x) % 2 ^ 64 ≡ 0
unfolding neg
neg-zero x = omega arith

neg_word : (x : ℕ) → neg x < 2 ^ 64
unfolding neg
neg_word x = omega arith

check-neg : (c p : ℕ) (ws : List ℕ) → Yes (check_ok c p ws (neg (c + p + sum ws)))
unfolding check_ok
check-neg c p ws = rw (neg-zero (c + p + sum ws))

pub desc-length : (k p : ℕ) (ws : List ℕ) → length (descriptor k p ws) ≡ 3
unfolding descriptor
desc-length k p [] = refl
desc-length k p (w ∷ ws) = refl

pub desc-words : (k p : ℕ) (ws : List ℕ) → p < 2 ^ 64 → length ws ≤ 512 → Yes (are_words (descriptor k p ws))
unfolding descriptor are_words
desc-words k p [] h n = both_of _ _ refl (both_of _ _ refl (both_of _ _ refl refl))
desc-words k p (w ∷ ws) h n =
    let c : length (w ∷ ws) / words_per_entry k < 2 ^ 64 = omega (arith, div-le_self (length (w ∷ ws)) (words_per_entry k)) in
    both_of _ _ (lt-ltb _ _ c) (both_of _ _ (lt-ltb _ _ h) (both_of _ _ (lt-ltb _ _ (neg_word _)) refl))

-- a list that the writer accepts: whole entries, each within its rule
module _ (v k : ℕ) (ws : List ℕ) (t : Yes (list_ok v k ws)) where
  whole : words_per_entry k * (length ws / words_per_entry k) ≡ length ws
  unfolding list_ok
  whole = let m : length ws % words_per_entry k ≡ 0 = eqb-true _ _ (both_l _ _ t) in omega (arith, div-add-mod (length ws) (words_per_entry k))

  entries : Yes (entries_ok v k (length ws / words_per_entry k) ws)
  unfolding list_ok
  entries = both_r _ _ t

count-pos : (m c n : ℕ) → m * c ≡ suc n → 0 < c
count-pos m zero n h = omega arith
count-pos m (suc c) n h = omega arith

-- a list with entries
module _ (v k p w : ℕ) (ws : List ℕ) (t : Yes (list_ok v k (w ∷ ws))) where
  some-entry : 0 < length (w ∷ ws) / words_per_entry k
  some-entry = count-pos (words_per_entry k) _ (length ws) (whole v k (w ∷ ws) t)

  size-given : size k (length (w ∷ ws) / words_per_entry k) ≡ 8 * length (w ∷ ws)
  unfolding size
  size-given = rw (whole v k (w ∷ ws) t)

  range-given : (base : ℕ) → base + core v ≤ p → p + 8 * length (w ∷ ws) ≤ base + 4096 →
      Yes (in_range v base k (length (w ∷ ws) / words_per_entry k) p)
  unfolding in_range
  range-given base lo hi = rw size-given (both_of _ _ (le-leb _ _ lo) (le-leb _ _ hi))

  words-given : Yes (are_words (w ∷ ws)) → words_in k (given k p (w ∷ ws)) ≡ w ∷ ws
  unfolding words_in given page_section
  words-given a = rw (whole v k (w ∷ ws) t) (rw append-nil at (words_of-bytes_of (w ∷ ws) [] a))

  sound-given : p % 8 ≡ 0 → Yes (sound_of v k (length (w ∷ ws) / words_per_entry k) p
      (neg (length (w ∷ ws) / words_per_entry k + p + sum (w ∷ ws))) (w ∷ ws))
  unfolding sound_of
  sound-given al =
      rw al (both_of _ _ (lt-ltb _ _ some-entry) (both_of _ _ refl (both_of _ _ (check-neg _ p (w ∷ ws)) (entries v k (w ∷ ws) t))))

-- the section that the reader finds, by the words and the array that its list makes
no-array : (base n : ℕ) (page : List ℕ) → 0 < base → array_at base page 0 n ≡ []
unfolding array_at in_page both
no-array base n page h = rw (lt-leb base 0 h)

pub sec-made : (base v k p : ℕ) (ws page : List ℕ) → Yes (list_ok v k ws) → 0 < base → base + core v ≤ p →
    p + 8 * length ws ≤ base + 4096 → part (p - base) (8 * length ws) page ≡ bytes_of ws →
    page_section (get_or (descriptor k p ws) 0 0) (get_or (descriptor k p ws) 1 0) (get_or (descriptor k p ws) 2 0)
    (array_at base page (get_or (descriptor k p ws) 1 0) (size k (get_or (descriptor k p ws) 0 0))) ≡ given k p ws
unfolding descriptor given
sec-made base v k p [] page t b lo hi a = rw (no-array base (size k 0) page b)
sec-made base v k p (w ∷ ws) page t b lo hi a = rw (array-in v base k _ p (range-given v k p w ws t base lo hi) page, size-given v k p w ws t, a)

-- the rule of one section
pub sec-ok : (base v k p : ℕ) (ws : List ℕ) → Yes (list_ok v k ws) → Yes (are_words ws) → base + core v ≤ p →
    p + 8 * length ws ≤ base + 4096 → p % 8 ≡ 0 → Yes (section_ok v v base k (given k p ws))
unfolding section_ok nothing given page_section
sec-ok base v k p [] t a lo hi al = either_l _ _ (both_of _ _ refl (both_of _ _ refl refl))
sec-ok base v k p (w ∷ ws) t a lo hi al =
    either_r _ _ (both_of _ _ (range-given v k p w ws t base lo hi) (rw (words-given v k p w ws t a) (sound-given v k p w ws t al)))

-- the arrays of two sections do not overlap
pub apart_of : (v i j p q : ℕ) (us ws : List ℕ) → Yes (list_ok v j ws) → q + 8 * length ws ≤ p →
    Yes (apart (extent i (given i p us)) (extent j (given j q ws)))
unfolding apart extent given page_section size
apart_of v i j p q [] ws t h = either_l _ _ (omega (arith, le-leb))
apart_of v i j p q (u ∷ us) [] t h = either_r _ _ (omega (arith, le-leb))
apart_of v i j p q (u ∷ us) (w ∷ ws) t h = either_r _ _ (let z = whole v j (w ∷ ws) t in omega (arith, le-leb))

pub shown-list : (v k p : ℕ) (ws : List ℕ) → v ≤ 4 → Yes (list_ok v k ws) → Yes (are_words ws) → shown_sec v k (given k p ws) ≡ shown_list ws
unfolding shown_sec shown_list given page_section
shown-list v k p [] m t a = refl
shown-list v k p (w ∷ ws) m t a =
    let c = some-entry v k p w ws t in
    rw (words-given v k p w ws t a, shown-plain v k m (w ∷ ws), ne_eqb (length (w ∷ ws) / words_per_entry k) 0 (λ z. omega arith))

-- ---- the platform data, with its fields at address a
-- the fields that the reader finds
unfoldable pub found_given : List ℕ → Scanned
found_given [] = ended [] 0
found_given (b ∷ bs) = ended (fields_described (scan_of (b ∷ bs))) (length (b ∷ bs) + 3)

pub point-word : (a : ℕ) (fs : List ℕ) → a < 2 ^ 64 → point_to a fs < 2 ^ 64
unfolding point_to
point-word a [] h = lit≤ tt
point-word a (b ∷ bs) h = h

mark-length : (b : ℕ) (bs : List ℕ) → length (with_mark (b ∷ bs)) ≡ length (b ∷ bs) + 3
unfolding with_mark end_mark
mark-length b bs = length-append (b ∷ bs) end_mark

bare-told : (s : Scanned) → Yes (describable s) → s ≡ bare (fields_described s)
unfolding describable is_bare fields_described both
bare-told broken t = absurd (false≢true t)
bare-told (ended fs n) t = absurd (false≢true t)
bare-told (bare fs) t = refl

-- fields that the writer accepts are read back at their pointer
read_back : (b : ℕ) (bs zeros : List ℕ) → Yes (describable (scan_of (b ∷ bs))) → scan_of (with_mark (b ∷ bs) ++ zeros) ≡ found_given (b ∷ bs)
unfolding with_mark found_given
read_back b bs zeros t = rw append_assoc (description-read (b ∷ bs) zeros _ (bare-told (scan_of (b ∷ bs)) t))

module _ (base a : ℕ) (pos : 0 < base) where
  pub found-made : (page zeros fs : List ℕ) → base ≤ a → drop (a - base) page ≡ with_mark fs ++ zeros →
      a + length (with_mark fs) ≤ base + 4096 → Yes (describable (scan_of fs)) →
      found_at base page (point_to a fs) ≡ found_given fs
  unfolding found_at in_page both point_to found_given
  found-made page zeros [] low e h t = refl
  found-made page zeros (b ∷ bs) low e h t =
      let n = mark-length b bs in
      rw (ne_eqb a 0 (λ z. omega arith), le-leb base a low, le-leb (a + 1) (base + 4096) (omega arith), e) (read_back b bs zeros t)

  pub plat-made : (v : ℕ) (fs : List ℕ) → base + core v ≤ a → a + length (with_mark fs) ≤ base + 4096 →
      Yes (platform_ok v base (page_platform (point_to a fs) (found_given fs)))
  unfolding platform_ok page_platform point_to found_given is_ended
  plat-made v [] low h = either_l _ _ refl
  plat-made v (b ∷ bs) low h =
      let n = mark-length b bs in
      either_r _ _ (both_of _ _ (le-leb _ _ low) (both_of _ _ (omega (arith, lt-ltb)) refl))

  -- the fields do not overlap an array before them
  pub clear-made : (v k p : ℕ) (ws fs : List ℕ) → Yes (list_ok v k ws) → p + 8 * length ws ≤ a →
      Yes (apart (plat_extent (page_platform (point_to a fs) (found_given fs))) (extent k (given k p ws)))
  unfolding apart plat_extent page_platform point_to found_given taken extent given page_section size
  clear-made v k p ws [] t h = either_l _ _ (omega (arith, le-leb))
  clear-made v k p [] (b ∷ bs) t h = either_r _ _ (omega (arith, le-leb))
  clear-made v k p (w ∷ ws) (b ∷ bs) t h = either_r _ _ (let z = whole v k (w ∷ ws) t in omega (arith, le-leb))

  pub fields_made : (fs : List ℕ) → fields_in (found_given fs) ≡ fields_described (scan_of fs)
  unfolding fields_in found_given fields_described scan_of scan_all scan judged fields_ok lengths_ok count both
  fields_made [] = refl
  fields_made (b ∷ bs) = refl
