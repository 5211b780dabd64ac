-- A reader's answer. "A reader of edition r, on a page of minor w, works with e = the smaller of r and w." (RD1) Assumes nothing.
use Rattle.std.specs.Prelude.{ℕ, ◌+◌, ◌*◌, ◌/◌, min, Bool, true, false, cond, List, [], length, get_or, leb, ltb, eqb, ℤ, pos, neg_ℤ}
use Rattle.words.specs.Tests.{both, either, some}
use Rattle.words.specs.Word.{word_at}
use Rattle.versions.specs.Version.{minor_of, version_ok}
use Rattle.versions.specs.Edition.{section_count, core, edition_ok}
use Rattle.entries.specs.Entry.{words_per_entry, size, shown_words}
use Rattle.fields.specs.Fields.{FieldShown, shown_fields, fields_in, reach}
use Rattle.sections.specs.Page.{place_ok, version_at, padding_at, count_at, pointer_at, in_page, PageSection, page_section_at, PagePlatform}
use Rattle.sections.specs.Page.{found_at, platform_at}
use Rattle.sections.specs.Section.{words_in, rules}

-- "for each of the four sections absent (not in e), empty, or the entries in order" (RD10): the words of the entries as they are shown, and
-- the bytes of the array as the lookup gives them
pub data Shown : Type 0 where
  absent empty : Shown
  full : List ℕ → List ℕ → Shown

-- what is shown of the platform data: the pointer, and request E7's fields in page order
pub record PlatShown : Type 0 where
  pub pointer : ℕ
  pub fields : List FieldShown

-- "a lone reader's answer is its code or, on acceptance, all that it shows" (RD10): w, e, plat_data and each section
pub data ReaderAnswer : Type 0 where
  refused : ℤ → ReaderAnswer
  shows : ℕ → ℕ → PlatShown → (ℕ → Shown) → ReaderAnswer

-- -n as an integer
abbrev pub minus : ℕ → ℤ
minus n = neg_ℤ (pos n)

-- a section of the edition, as a page of minor w shows it; count 0 means 24 zero bytes if the rule holds
unfoldable pub shown_sec : ℕ → ℕ → PageSection → Shown
shown_sec w k s = cond (eqb s.count 0) empty (full (shown_words w k (words_in k s)) s.bytes)

-- section k as it is shown; absent if it is not in edition e or k is above 3 (RD4, RD10)
unfoldable pub shown : ℕ → ℕ → ℕ → PageSection → Shown
shown w e k s = cond (ltb k (section_count e)) (shown_sec w k s) absent

-- the platform data as it is shown
unfoldable pub plat_shown : PagePlatform → PlatShown
plat_shown q = record { pointer = q.at; fields = shown_fields (fields_in q.found) }

-- "It shows w, e, plat_data, and for each of the four sections .." (RD10), of a page of minor w read as edition e
unfoldable pub all_shown : ℕ → ℕ → PagePlatform → (ℕ → PageSection) → ReaderAnswer
all_shown w e q f = shows w e (plat_shown q) (λ k. shown w e k (f k))

-- The checks in the order of docs/RULES.md: length and base (-5), edition and version (-6), the other rules (-7). "A lone reader starts at
-- -5." (RD3)
unfoldable pub reader_gate : Bool → Bool → Bool → ReaderAnswer → ReaderAnswer
reader_gate true true true a = a
reader_gate true true false a = refused (minus 7)
reader_gate true false o a = refused (minus 6)
reader_gate false v o a = refused (minus 5)

-- the answer, given the page's length n, version v with minor w, padding, platform data and sections
unfoldable pub judge : (reader base n version minor padding : ℕ) (plat : PagePlatform) (sections : ℕ → PageSection) → ReaderAnswer
judge r base n v w pad q f =
    reader_gate (place_ok base n) (both (edition_ok r) (version_ok v)) (rules w (min r w) base pad q f) (all_shown w (min r w) q f)

-- the answer of a reader of edition r at base B (RD1, RD2)
unfoldable pub read_of : ℕ → ℕ → List ℕ → ReaderAnswer
read_of r base page =
    judge r base (length page) (version_at page) (minor_of (version_at page)) (padding_at page) (platform_at base page) (page_section_at base page)

-- ---- lookups in an answer
-- its code; 0 if the page is accepted
unfoldable pub code_in : ReaderAnswer → ℤ
code_in (refused c) = c
code_in (shows w e q s) = pos 0

-- section k of an answer; absent if the page is refused
unfoldable pub shown_in : ReaderAnswer → ℕ → Shown
shown_in (refused c) k = absent
shown_in (shows w e q s) k = s k

-- "An array can be asked for as the part of the lent page that holds it, never a copy; a refused page or an absent or empty section gives
-- an empty part." (RD12) A number above 3 also gives an empty part: it is absent.
unfoldable pub bytes_in : Shown → List ℕ
bytes_in absent = []
bytes_in empty = []
bytes_in (full ws bs) = bs

-- the array bytes of section k of an answer (RD12)
unfoldable pub look_in : ReaderAnswer → ℕ → List ℕ
look_in (refused c) k = []
look_in (shows w e q s) k = bytes_in (s k)

-- the array bytes of section k, as a reader of edition r finds them at base B
unfoldable pub look_of : ℕ → ℕ → List ℕ → ℕ → List ℕ
look_of r base page k = look_in (read_of r base page) k

-- word j of entry i of a section k; 0 if there is no such word
unfoldable pub entry_word : ℕ → ℕ → ℕ → Shown → ℕ
entry_word k i j absent = 0
entry_word k i j empty = 0
entry_word k i j (full ws bs) = cond (ltb j (words_per_entry k)) (get_or ws (words_per_entry k * i + j) 0) 0

-- word j of entry i of section k of an answer (RD12)
unfoldable pub word_in : ReaderAnswer → ℕ → ℕ → ℕ → ℕ
word_in (refused c) k i j = 0
word_in (shows w e q s) k i j = entry_word k i j (s k)

-- the number of entries of a section k
unfoldable pub entry_count : ℕ → Shown → ℕ
entry_count k s = length (bytes_in s) / (8 * words_per_entry k)

-- the number of entries of section k of an answer (RD12)
unfoldable pub count_in : ReaderAnswer → ℕ → ℕ
count_in (refused c) k = 0
count_in (shows w e q s) k = entry_count k (s k)

-- the fields that an answer shows; request E7: "An end mark alone, or no pointer, shows an empty list." (FD5)
unfoldable pub fields_shown : ReaderAnswer → List FieldShown
fields_shown (refused c) = []
fields_shown (shows w e q s) = q.fields

-- the sections of an answer, "less those that came after its edition": "The older reader shows each section that came after its edition as
-- absent." (CP1)
unfoldable pub up_to_edition : ℕ → (ℕ → Shown) → ℕ → Shown
up_to_edition r s k = cond (ltb k (section_count r)) (s k) absent

-- ---- the bytes that an edition names (RD13, RD14)
-- byte i is in the array of section k, if that array is within the page
unfoldable pub in_array : ℕ → List ℕ → ℕ → ℕ → Bool
in_array base page i k =
    both (in_page base (pointer_at k page) (size k (count_at k page)))
    (both (leb (pointer_at k page) (base + i)) (ltb (base + i) (pointer_at k page + size k (count_at k page))))

-- byte i is one of the fields, "which every edition names through the end mark, or all from the pointer on if they are broken" (RD14, since
-- request E7)
unfoldable pub in_plat : ℕ → List ℕ → ℕ → Bool
in_plat base page i =
    both (in_page base (word_at 8 page) 1)
    (both (leb (word_at 8 page) (base + i)) (ltb (base + i) (word_at 8 page + reach (found_at base page (word_at 8 page)))))

-- "The bytes an edition names are its core and each array that its sections place within the page" (RD13), and the fields; e is the edition
unfoldable pub named_by : ℕ → ℕ → List ℕ → ℕ → Bool
named_by e base page i = either (ltb i (core e)) (either (some (section_count e) (in_array base page i)) (in_plat base page i))

-- "if the version is not accepted, the first 16 bytes only. Of a lent page not 4,096 bytes long none are named." (RD13)
unfoldable pub named : ℕ → ℕ → List ℕ → ℕ → Bool
named r base page i =
    both (eqb (length page) 4096)
    (either (ltb i 16) (both (version_ok (version_at page)) (named_by (min r (minor_of (version_at page))) base page i)))
