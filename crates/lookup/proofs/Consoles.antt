-- A console by its name. Assumes nothing.
use Prim.Native.Nat.{ℕ, zero, suc, ◌+◌, ◌-◌, ◌*◌, ◌/◌, ◌^◌, ◌≤◌, ◌<◌}
use mathlib.Core.Path.{◌≡◌, refl, sym, ap, ◌∙◌}
use mathlib.Core.Bool.{Bool, true, false, cond}
use mathlib.Core.List.{List, [], ◌∷◌, ◌++◌}
use native.Mathlib.Omega.{arith}
use native.Mathlib.Decide.{dec_lt}
use lib.ListN.{length, get_or, take, drop, length-append, length-drop}
use lib.Seq.{take_all, take_at, drop_at, drop-drop}
use lib.Dec.{eqb, leb, lit≤}
use borrow.Author.Tests.{eqb-true, eq-eqb, leb-true}
use Rattle.words.specs.Tests.{both}
use Rattle.words.specs.Word.{le_of, le_bytes, part, num_at, word_at}
use Rattle.words.proofs.Bytes.{number-back}
use Rattle.words.specs.Fast.{whole_word}
use Rattle.words.proofs.Read.{le_of-le_bytes, num-part, word-lent}
use Rattle.entries.specs.Entry.{words_per_entry, size, shown_words}
use Rattle.entries.specs.Fast.{is_hidden}
use Rattle.entries.specs.Array.{words_at}
use Rattle.fields.proofs.Scans.{never, part_length}
use Rattle.reader.specs.Answer.{empty, full, ReaderAnswer, bytes_in, look_in, count_in, entry_count, word_in}
use Rattle.reader.specs.Reading.{section_of, shown_as, reading_answer}
use Rattle.reader.specs.declared.Section.{Section}
use Rattle.reader.specs.declared.Section.TheVariants.{Absent, Empty, Entries}
use Rattle.reader.specs.declared.View.{View}
use Rattle.std.specs.Prelude.{Ok, Some, None}
use Rattle.std.specs.Iterator.{AlwaysYields}
use Rattle.std.specs.List.{position_from}
use Rattle.std.specs.Slice.Iter.{chunks_exact_rest, chunks_exact_size, chunks_exact_steps}
use Rattle.std.proofs.lemmas.Iterator.{YieldsList}
use Rattle.lookup.specs.Fast.{word_of}
use Rattle.lookup.proofs.Lookups.{word-there, word-unhidden}
use Rattle.lookup.specs.Consoles.{has_name, first_from, console_named}

-- ---- the array's consoles, 48 bytes each, and the names in them
-- console i has the name, by the bytes of the array: 48 for each console, the name after base and map_pages
abbrev pub named_at : List ℕ → List ℕ → ℕ → Bool
named_at bs name i = eqb (word_at (48 * i + 16) bs) (word_at 0 name)

-- the same of the 48 bytes of one console
abbrev pub has_word : List ℕ → List ℕ → Bool
has_word name console = eqb (whole_word 16 console) (word_at 0 name)

-- the first n consoles
abbrev pub consoles : ℕ → List ℕ → List (List ℕ)
consoles zero bs = []
consoles (suc n) bs = take 48 bs ∷ consoles n (drop 48 bs)

chunks-give : (n : ℕ) (s : _) (bs : List ℕ) → chunks_exact_rest s ≡ bs → chunks_exact_size s ≡ 48 → length bs / 48 ≡ n →
    AlwaysYields chunks_exact_steps (λ x. x.now) s (consoles n bs)
chunks-give zero s bs e z l = λ x j h.
    absurd (let y : ⊥ = omega (arith, ap length h.1.0, length-append x.now (chunks_exact_rest j), h.1.1, ap length e) in y)
chunks-give (suc n) s bs e z l = (
  λ j h. absurd (let y : ⊥ = omega (arith, h.1.0, ap length e) in y),
  λ x j h.
      let k : length x.now ≡ 48 = h.1.1 ∙ z in
      let b : bs ≡ x.now ++ chunks_exact_rest j = sym e ∙ h.1.0 in (
        sym (take_at x.now (chunks_exact_rest j) 48 k) ∙ ap (take 48) (sym b),
        chunks-give n j (drop 48 bs) (sym (drop_at x.now (chunks_exact_rest j) 48 k) ∙ ap (drop 48) (sym b)) (h.0 ∙ z)
            (omega (arith, length-drop 48 bs)),
      ),
)

pub chunks : {s : _} (bs : List ℕ) → chunks_exact_rest s ≡ bs → chunks_exact_size s ≡ 48 →
    YieldsList chunks_exact_steps (λ x. x.now) s (consoles (length bs / 48) bs)
chunks {s} bs e z = record { runs = chunks-give (length bs / 48) s bs e z refl }

first-console : (n i : ℕ) (bs name : List ℕ) → 48 * (i + n) ≤ length bs →
    position_from (has_word name) i (consoles n (drop (48 * i) bs)) ≡ first_from n i (named_at bs name)
unfolding first_from
first-console zero i bs name h = refl
first-console (suc n) i bs name h =
    let z : 48 * i + 48 - 48 * i ≡ 48 = omega arith in
    let w : whole_word 16 (take 48 (drop (48 * i) bs)) ≡ word_at (48 * i + 16) bs =
    rw z at (word-lent (48 * i) 48 16 (48 * i + 16) bs (omega arith) (omega arith) (omega arith)) in
    let d : drop 48 (drop (48 * i) bs) ≡ drop (48 * (i + 1)) bs =
    drop-drop 48 (48 * i) bs ∙ ap (λ m. drop m bs) (let e : 48 * i + 48 ≡ 48 * (i + 1) = omega arith in e) in
    rw (w, d, first-console n (i + 1) bs name (omega arith))

pub first-named : (bs name : List ℕ) → position_from (has_word name) 0 (consoles (length bs / 48) bs) ≡ first_from (length bs / 48) 0 (named_at bs name)
first-named bs name = first-console (length bs / 48) 0 bs name (omega arith)

-- ---- the names in the bytes of the array are those shown
name-there : (w at count i : ℕ) (page : List ℕ) → at + size 1 count ≤ length page → i < count →
    word_at (48 * i + 16) (part at (size 1 count) page) ≡ word_of w 1 i 2 (Entries at count) page
unfolding size words_per_entry is_hidden both
name-there w at count i page h l =
    num-part 8 at (8 * (6 * count)) (48 * i + 16) page (omega arith)
    ∙ ap (λ x. word_at x page) (let e : at + (48 * i + 16) ≡ at + 8 * (6 * i + 2) = omega arith in e)
    ∙ word-there 1 at count i 2 page h l (lit≤ tt)
    ∙ word-unhidden w 1 i 2 (Entries at count) page refl

name-shown : (w i : ℕ) (s : Section) (page : List ℕ) → i < entry_count 1 (shown_as w 1 s page) →
    word_at (48 * i + 16) (bytes_in (shown_as w 1 s page)) ≡ word_of w 1 i 2 s page
unfolding shown_as entry_count bytes_in words_per_entry size
name-shown w i Absent page h = absurd (let z : ⊥ = omega arith in z)
name-shown w i Empty page h = absurd (let z : ⊥ = omega arith in z)
name-shown w i (Entries at count) page h = go (leb (at + size 1 count) (length page)) refl h
  where
    go : (b : Bool) → leb (at + size 1 count) (length page) ≡ b →
        i < entry_count 1 (cond b (full (shown_words w 1 (words_at 1 count at page)) (part at (size 1 count) page)) empty) →
        word_at (48 * i + 16) (bytes_in (cond b (full (shown_words w 1 (words_at 1 count at page)) (part at (size 1 count) page)) empty)) ≡
        word_of w 1 i 2 (Entries at count) page
    go true e l =
        let m : at + size 1 count ≤ length page = leb-true _ _ e in
        name-there w at count i page m (omega (arith, part_length at (size 1 count) page m))
    go false e l = absurd (let z : ⊥ = omega arith in z)

first-same : (n i : ℕ) (f g : ℕ → Bool) → ((k : ℕ) → i ≤ k → k < i + n → f k ≡ g k) → first_from n i f ≡ first_from n i g
unfolding first_from
first-same zero i f g h = refl
first-same (suc n) i f g h = rw (h i (omega arith) (omega arith), first-same n (i + 1) f g (λ k a b. h k (omega arith) (omega arith)))

module _ (page : List ℕ) (v : View) where
  console-word : (i : ℕ) → i < count_in (reading_answer page (Ok v)) 1 →
      word_at (48 * i + 16) (look_in (reading_answer page (Ok v)) 1) ≡ word_in (reading_answer page (Ok v)) 1 i 2
  unfolding look_in count_in word_in reading_answer word_of
  console-word i h = name-shown v.minor i (section_of v 1) page h

  consoles-count : length (look_in (reading_answer page (Ok v)) 1) / 48 ≡ count_in (reading_answer page (Ok v)) 1
  unfolding look_in count_in entry_count words_per_entry reading_answer
  consoles-count = refl

  -- the first console of the array with a name is the first one of the view
  pub array-named : (bs name : List ℕ) → bs ≡ look_in (reading_answer page (Ok v)) 1 →
      first_from (length bs / 48) 0 (named_at bs name) ≡ console_named (reading_answer page (Ok v)) name
  unfolding console_named has_name
  array-named bs name e =
      rw (e, consoles-count)
      (first-same (count_in (reading_answer page (Ok v)) 1) 0 (named_at (look_in (reading_answer page (Ok v)) 1) name)
      (λ i. eqb (word_in (reading_answer page (Ok v)) 1 i 2) (word_at 0 name))
      (λ k a b. ap (λ x. eqb x (word_at 0 name)) (console-word k (omega arith))))

-- ---- a search that finds a console, and one that does not
none_more : (f : ℕ → Bool) (i j : ℕ) → f i ≡ false → ((k : ℕ) → i + 1 ≤ k → k < j → f k ≡ false) → (k : ℕ) → i ≤ k → k < j → f k ≡ false
none_more f i j e r k a b = go (dec_lt i k)
  where
    go : Dec (i < k) → f k ≡ false
    go (yes l) = r k (omega arith) b
    go (no l) = let q : k ≡ i = omega arith in ap f q ∙ e

first-at : (f : ℕ → Bool) (n i j : ℕ) → first_from n i f ≡ Some j →
    (i ≤ j) × ((j < i + n) × ((f j ≡ true) × ((k : ℕ) → i ≤ k → k < j → f k ≡ false)))
unfolding first_from
first-at f zero i j h = never (cc)
first-at f (suc n) i j h = go (f i) refl h (first-at f n (i + 1) j)
  where
    go : (b : Bool) → f i ≡ b → cond b (Some i) (first_from n (i + 1) f) ≡ Some j →
        (first_from n (i + 1) f ≡ Some j → (i + 1 ≤ j) × ((j < i + 1 + n) × ((f j ≡ true) × ((k : ℕ) → i + 1 ≤ k → k < j → f k ≡ false)))) →
        (i ≤ j) × ((j < i + suc n) × ((f j ≡ true) × ((k : ℕ) → i ≤ k → k < j → f k ≡ false)))
    go true e g ih = let q : i ≡ j = cc in (omega arith, (omega arith, (ap f (sym q) ∙ e, λ k a b. absurd (let z : ⊥ = omega arith in z))))
    go false e g ih =
        let r = ih g in
        let lo : i + 1 ≤ j = r.0 in
        let hi : j < i + 1 + n = r.1.0 in
        (omega arith, (omega arith, (r.1.1.0, none_more f i j e r.1.1.1)))

first-none : (f : ℕ → Bool) (n i : ℕ) → first_from n i f ≡ None → (k : ℕ) → i ≤ k → k < i + n → f k ≡ false
unfolding first_from
first-none f zero i h k a b = absurd (let z : ⊥ = omega arith in z)
first-none f (suc n) i h k a b = go (f i) refl h (first-none f n (i + 1))
  where
    go : (b : Bool) → f i ≡ b → cond b (Some i) (first_from n (i + 1) f) ≡ None →
        (first_from n (i + 1) f ≡ None → (x : ℕ) → i + 1 ≤ x → x < i + 1 + n → f x ≡ false) → f k ≡ false
    go true e g ih = never (cc)
    go false e g ih = none_more f i (i + suc n) e (λ x y z. ih g x y (omega arith)) k a b

-- the console found has the name, and no console before it has
pub console-at : (a : ReaderAnswer) (name : List ℕ) (i : ℕ) → console_named a name ≡ Some i →
    (i < count_in a 1) × ((has_name a name i ≡ true) × ((k : ℕ) → k < i → has_name a name k ≡ false))
unfolding console_named
console-at a name i h =
    let r = first-at (has_name a name) (count_in a 1) 0 i h in
    let l : i < 0 + count_in a 1 = r.1.0 in
    (omega arith, (r.1.1.0, λ k b. r.1.1.1 k (omega arith) b))

-- if no console is found, no console has the name
pub console-none : (a : ReaderAnswer) (name : List ℕ) → console_named a name ≡ None → (k : ℕ) → k < count_in a 1 → has_name a name k ≡ false
unfolding console_named
console-none a name h k b = first-none (has_name a name) (count_in a 1) 0 h k (omega arith) (omega arith)

-- ---- a name is its 8 bytes
name-word : (name : List ℕ) → length name ≡ 8 → word_at 0 name ≡ le_of name
unfolding num_at part
name-word name l = ap le_of (take_all 8 name (omega arith))

-- a console has a name of 8 bytes exactly if the bytes of its name are these, in order
pub name-bytes : (a : ReaderAnswer) (name : List ℕ) (i : ℕ) → length name ≡ 8 → ((j : ℕ) → get_or name j 0 < 256) →
    has_name a name i ≡ true → le_bytes 8 (word_in a 1 i 2) ≡ name
unfolding has_name
name-bytes a name i l b h =
    ap (le_bytes 8) (eqb-true _ _ h ∙ name-word name l) ∙ (rw (take_all 8 name (omega arith)) at (number-back 8 name b (omega arith)))

pub bytes-name : (a : ReaderAnswer) (name : List ℕ) (i : ℕ) → length name ≡ 8 → word_in a 1 i 2 < 2 ^ 64 →
    le_bytes 8 (word_in a 1 i 2) ≡ name → has_name a name i ≡ true
unfolding has_name
bytes-name a name i l w h = eq-eqb _ _ (sym (le_of-le_bytes 8 (word_in a 1 i 2) w) ∙ ap le_of h ∙ sym (name-word name l))
