-- Laws of the lookups. Assumes nothing.
use Prim.Native.Nat.{ℕ, ◌+◌, ◌*◌, ◌≤◌, ◌<◌}
use mathlib.Core.Path.{◌≡◌, refl, sym, ap, ◌∙◌}
use mathlib.Core.Bool.{Bool, true, false, cond}
use mathlib.Core.List.{List}
use native.Mathlib.Omega.{arith}
use lib.ListN.{length}
use lib.ListN.{get_or, get_or-eq_default}
use lib.Dec.{leb, ltb, lit≤}
use native.Mathlib.Nat.{mul-suc, mul-le-mul_left}
use borrow.Author.Tests.{leb-true, ltb-true, le-leb, lt-leb, le-ltb, lt-ltb}
use Rattle.words.specs.Word.{part, word_at, words_of, span_at, spanned, span_start, no_span, on_from}
use Rattle.words.specs.declared.Span.{Span}
use Rattle.words.proofs.Read.{words_of-length}
use Rattle.words.proofs.Store.{span_none, span-in, start_none, start-in}
use Rattle.entries.specs.Entry.{words_per_entry, size, shown_words}
use Rattle.entries.specs.Fast.{is_hidden}
use Rattle.entries.specs.Array.{words_at, entry_place}
use Rattle.entries.proofs.Entries.{word-in}
use Rattle.entries.proofs.Flags.{shown-plain, shown-word}
use Rattle.reader.specs.Answer.{empty, full, ReaderAnswer, refused, shows, bytes_in, look_in, look_of, count_in, entry_count, entry_word, word_in}
use Rattle.reader.specs.Answer.{read_of}
use Rattle.reader.specs.Reading.{section_of, shown_as, reading_answer, view_at, reading_of}
use Rattle.reader.specs.Fast.{section_read}
use Rattle.reader.specs.declared.Section.{Section}
use Rattle.reader.specs.declared.Section.TheVariants.{Absent, Empty, Entries}
use Rattle.reader.specs.declared.View.{View}
use Rattle.std.specs.Prelude.{Result, Ok, Err}
use Rattle.reader.specs.declared.Refusal.{Refusal}
use Rattle.reader.proofs.Whole.{reading-answer, reading-placed}
use Rattle.lookup.specs.Lookup.{span_of, span_in}
use Rattle.lookup.specs.Fast.{count_of, word_of}

-- ---- where the array is
module _ (k at count n : ℕ) where
  pub place-in : at + size k count ≤ n → span_of k (Entries at count) n ≡ span_at at (size k count)
  unfolding span_of
  place-in h = rw (le-leb (at + size k count) n h)

  pub place_out : n < at + size k count → no_span ≡ span_of k (Entries at count) n
  unfolding span_of
  place_out h = rw (lt-leb (at + size k count) n h)

-- ---- its bytes
some-there : (b : Bool) (at n : ℕ) (ws page : List ℕ) → leb (at + n) (length page) ≡ b →
    spanned (cond b (span_at at n) no_span) page ≡ bytes_in (cond b (full ws (part at n page)) empty)
unfolding bytes_in
some-there true at n ws page h = span-in at n page (leb-true (at + n) (length page) h)
some-there false at n ws page h = span_none page

span-shown : (w k : ℕ) (s : Section) (page : List ℕ) → spanned (span_of k s (length page)) page ≡ bytes_in (shown_as w k s page)
unfolding span_of shown_as bytes_in
span-shown w k Absent page = span_none page
span-shown w k Empty page = span_none page
span-shown w k (Entries at count) page =
    some-there (leb (at + size k count) (length page)) at (size k count) (shown_words w k (words_at k count at page)) page refl

pub place_view : (page : List ℕ) (v : View) (k : ℕ) → spanned (span_of k (section_of v k) (length page)) page ≡ look_in
    (reading_answer page (Ok v)) k
unfolding look_in reading_answer
place_view page v k = span-shown v.minor k (section_of v k) page

pub count-shown : (w k : ℕ) (s : Section) (page : List ℕ) → count_of k s page ≡ entry_count k (shown_as w k s page)
unfolding count_of entry_count
count-shown w k s page = rw (span-shown w k s page)

pub count-view : (page : List ℕ) (v : View) (k : ℕ) → count_of k (section_of v k) page ≡ count_in (reading_answer page (Ok v)) k
unfolding count_in reading_answer
count-view page v k = count-shown v.minor k (section_of v k) page

-- ---- where the part starts
some-starts : (b : Bool) (at n : ℕ) (page : List ℕ) → leb (at + n) (length page) ≡ b →
    span_start (cond b (span_at at n) no_span) page ≡ (cond b (span_at at n) no_span).at
some-starts true at n page h = start-in at n page (leb-true (at + n) (length page) h)
some-starts false at n page h = start_none page

pub section-starts : (k : ℕ) (s : Section) (page : List ℕ) → span_start (span_of k s (length page)) page ≡ (span_of k s (length page)).at
unfolding span_of
section-starts k Absent page = start_none page
section-starts k Empty page = start_none page
section-starts k (Entries at count) page = some-starts (leb (at + size k count) (length page)) at (size k count) page refl

pub answer-starts : (base : ℕ) (page : List ℕ) (a : ReaderAnswer) (k : ℕ) → span_start (span_in base page a k) page ≡ (span_in base page a k).at
unfolding span_in
answer-starts base page (refused c) k = start_none page
answer-starts base page (shows w e q s) k = section-starts k (section_of (view_at w e base page) k) page

-- the same for addresses, given the span that the code computed
pub told-starts : (base : ℕ) (page : List ℕ) (n : ReaderAnswer) (k : ℕ) (x : Span) → x ≡ span_in base page n k → (a b : ℕ × ℕ) →
    b ≡ on_from a (span_start x page) → b ≡ on_from a (span_in base page n k).at
told-starts base page n k x e a b h = h ∙ rw (e, answer-starts base page n k)

-- ---- a word of an entry
word-cond : (k i j : ℕ) (b : Bool) (ws bs : List ℕ) → entry_word k i j (cond b (full ws bs) empty) ≡ cond b
    (cond (ltb j (words_per_entry k)) (get_or ws (words_per_entry k * i + j) 0) 0) 0
unfolding entry_word
word-cond k i j true ws bs = refl
word-cond k i j false ws bs = refl

cond-none : (b : Bool) → ◌≡◌ {A = ℕ} (cond b 0 0) 0
cond-none true = refl
cond-none false = refl

swap : (b c : Bool) (x : ℕ) → cond c (cond b 0 x) 0 ≡ cond b 0 (cond c x 0)
swap true true x = refl
swap true false x = refl
swap false c x = refl

none : (b c : Bool) → ◌≡◌ {A = ℕ} (cond c 0 0) (cond b 0 (cond c 0 0))
none true c = cond-none c
none false c = refl

module _ (k at count i j : ℕ) (page : List ℕ) where
  by-shown : (w : ℕ) → word_of w k i j (Entries at count) page ≡ cond (leb (at + size k count) (length page))
      (cond (ltb j (words_per_entry k)) (get_or (shown_words w k (words_at k count at page)) (words_per_entry k * i + j) 0) 0) 0
  unfolding word_of shown_as
  by-shown w =
      word-cond k i j (leb (at + size k count) (length page)) (shown_words w k (words_at k count at page)) (part at (size k count) page)

  by_tests : word_of 0 k i j (Entries at count) page ≡ cond (leb (at + size k count) (length page))
      (cond (ltb j (words_per_entry k)) (get_or (words_at k count at page) (words_per_entry k * i + j) 0) 0) 0
  by_tests = by-shown 0 ∙ rw (shown-plain 0 k (lit≤ tt) (words_at k count at page))

  -- a word that is shown as 0, and one that is shown unchanged
  hidden-tests : (b : Bool) (w : ℕ) → is_hidden w k j ≡ b →
      word_of w k i j (Entries at count) page ≡ cond b 0 (word_of 0 k i j (Entries at count) page)
  hidden-tests b w h = go (ltb j (words_per_entry k)) refl
    where
      go : (c : Bool) → ltb j (words_per_entry k) ≡ c → word_of w k i j (Entries at count) page ≡ cond b 0
          (word_of 0 k i j (Entries at count) page)
      go true e =
          by-shown w ∙ rw (e, shown-word w k i j (words_at k count at page) (ltb-true j (words_per_entry k) e), h, by_tests, e)
          (swap b (leb (at + size k count) (length page)) _)
      go false e = by-shown w ∙ rw (e, by_tests, e) (none b (leb (at + size k count) (length page)))

  pub word-narrow : words_per_entry k ≤ j → 0 ≡ word_of 0 k i j (Entries at count) page
  word-narrow h = sym (by_tests ∙ rw (le-ltb j (words_per_entry k) h) (cond-none (leb (at + size k count) (length page))))

  past : count ≤ i → get_or (words_at k count at page) (words_per_entry k * i + j) 0 ≡ 0
  unfolding words_at
  past h =
      get_or-eq_default (words_of (words_per_entry k * count) (part at (size k count) page)) 0
      (rw words_of-length (omega (arith, mul-le-mul_left (words_per_entry k) h)))

  pub word-past : count ≤ i → 0 ≡ word_of 0 k i j (Entries at count) page
  word-past h = sym (by_tests ∙ rw (past h, cond-none (ltb j (words_per_entry k))) (cond-none (leb (at + size k count) (length page))))

  pub word_out : length page < at + size k count → 0 ≡ word_of 0 k i j (Entries at count) page
  word_out h = sym (by_tests ∙ rw (lt-leb (at + size k count) (length page) h))

  pub word-there : at + size k count ≤ length page → i < count → j < words_per_entry k →
      word_at (at + 8 * (words_per_entry k * i + j)) page ≡ word_of 0 k i j (Entries at count) page
  unfolding entry_place
  word-there h l m =
      sym (by_tests ∙ rw (le-leb (at + size k count) (length page) h, lt-ltb j (words_per_entry k) m, word-in k at i count page l j m)
      (ap (λ x. word_at x page) (let e : at + 8 * (words_per_entry k * i) + 8 * j ≡ at + 8 * (words_per_entry k * i + j) = omega arith in e)))

-- any section
pub word-unhidden : (w k i j : ℕ) (s : Section) (page : List ℕ) → is_hidden w k j ≡ false → word_of 0 k i j s page ≡ word_of w k i j s page
unfolding word_of shown_as entry_word
word-unhidden w k i j Absent page h = refl
word-unhidden w k i j Empty page h = refl
word-unhidden w k i j (Entries at count) page h = sym (hidden-tests k at count i j page false w h)

pub word-hidden : (w k i j : ℕ) (s : Section) (page : List ℕ) → is_hidden w k j ≡ true → 0 ≡ word_of w k i j s page
unfolding word_of shown_as entry_word
word-hidden w k i j Absent page h = refl
word-hidden w k i j Empty page h = refl
word-hidden w k i j (Entries at count) page h = sym (hidden-tests k at count i j page true w h)

-- the same, given the test and the section that the code computed
pub told-word : (w k i j : ℕ) (s t : Section) (page : List ℕ) (h : Bool) → h ≡ is_hidden w k j → h ≡ false → s ≡ t → (r : ℕ) →
    r ≡ word_of 0 k i j t page → r ≡ word_of w k i j s page
told-word w k i j s t page h ch n e r m = m ∙ rw (← e) (word-unhidden w k i j s page (sym ch ∙ n))

-- word j of entry i is within the array's words if i is below count
pub word-place : (i count j w : ℕ) → i < count → j < w → w * i + j < w * count
word-place i count j w h l = omega (arith, mul-suc w i, mul-le-mul_left w h)

pub word-view : (page : List ℕ) (v : View) (k i j : ℕ) →
    word_of v.minor k i j (section_of v k) page ≡ word_in (reading_answer page (Ok v)) k i j
unfolding word_of word_in reading_answer
word-view page v k i j = refl

pub told-view : (page : List ℕ) (v : View) (k i j : ℕ) (s : Section) → s ≡ section_of v k → (r : ℕ) → r ≡ word_of v.minor k i j s page →
    r ≡ word_in (reading_answer page (Ok v)) k i j
told-view page v k i j s e r h = h ∙ rw e (word-view page v k i j)

-- ---- the lookup of a page
module _ (r base k : ℕ) (page : List ℕ) where
  answer-of : (x : Result View Refusal) → x ≡ reading_of r base page → reading_answer page x ≡ read_of r base page
  answer-of x h = ap (reading_answer page) h ∙ reading-answer r base page

  -- the section that is read alone, by the reading
  place-by : (x : Result View Refusal) → x ≡ reading_of r base page →
      (span_of k (section_read x k) (length page) ≡ span_in base page (read_of r base page) k) ×
      (spanned (span_of k (section_read x k) (length page)) page ≡ look_of r base page k)
  unfolding look_of look_in span_of span_in reading_answer section_read
  place-by (Ok v) h =
      let g = answer-of (Ok v) h in
      let p : span_of k (section_of v k) (length page) ≡ span_in base page (read_of r base page) k = ap
      (λ x. span_of k (section_of x k) (length page)) (reading-placed r base page v h) ∙ ap (λ x. span_in base page x k) g in
      (p, place_view page v k ∙ ap (λ x. look_in x k) g)
  place-by (Err c) h = rw (← answer-of (Err c) h) (refl, span_none page)

  pub place_read : (span_of k (section_read (reading_of r base page) k) (length page) ≡ span_in base page (read_of r base page) k) ×
      (spanned (span_of k (section_read (reading_of r base page) k) (length page)) page ≡ look_of r base page k)
  place_read = place-by (reading_of r base page) refl
