-- What request E11 requires of the packer, over the definition that the promise of `pack` cites. Assumes nothing.
use Rattle.std.specs.Prelude.{◌≡◌, ℕ, ◌<◌, ◌≤◌, List, [], ◌∷◌, length, ℤ, ◌≢◌, slice_index}
use Rattle.words.specs.Word.{word_at}
use Rattle.fields.specs.Fields.{FieldShown, raw, withdrawn}
use Rattle.reader.specs.Answer.{Shown, PlatShown, ReaderAnswer, refused, shows, minus, read_of}
use Rattle.writer_rules.specs.Write.{no-page, a-page, page_of}
use Rattle.pack.specs.Pack.{shown_description, stopped, written, pack_of, target_after}

-- the fields in page order, without the withdrawn ones (PK1)
unfoldable pub remaining : List FieldShown → List FieldShown
remaining [] = []
remaining (raw t v ∷ fs) = raw t v ∷ remaining fs
remaining (withdrawn ∷ fs) = remaining fs

-- the answer with plat_data `a` and without withdrawn fields, otherwise unchanged; the position of an array is no part of an answer
unfoldable pub repacked : ℕ → ReaderAnswer → ReaderAnswer
repacked a (refused c) = refused c
repacked a (shows w e q s) = shows w e (record { pointer = a; fields = remaining q.fields }) s

-- PK1 to PK7 (request E11)
pub record Packer : Type 0 where
  -- PK1, PK3: "The new page is exactly what the writer makes, at the page's own minor, from what reader edition 4 shows": W2 to W5 never
  -- happen, and what is shown always fits
  pub made : (base : ℕ) (page : List ℕ) (w e : ℕ) (q : PlatShown) (s : ℕ → Shown) → read_of 4 base page ≡ shows w e q s → w ≤ 4 →
      pack_of base 4096 page ≡ written (a-page (page_of base w (shown_description q s)))
  -- PK4: "A reader of any edition shows the same as before, apart from plat_data, withdrawn fields, and positions of arrays." The page
  -- consists of bytes, as each lent page does; `n` is the target's length, `p` the new page.
  pub same : (base n : ℕ) (page p : List ℕ) → ((i : ℕ) → slice_index page i < 256) → pack_of base n page ≡ written (a-page p) →
      (r : ℕ) → read_of r base p ≡ repacked (word_at 8 p) (read_of r base page)
  -- PK5: "Packing a packed page changes no byte."
  pub again : (base n : ℕ) (page p : List ℕ) → ((i : ℕ) → slice_index page i < 256) → pack_of base n page ≡ written (a-page p) →
      pack_of base n p ≡ written (a-page p)
  -- PK2: "Refusals: the reader's codes;
  pub stops : (base n : ℕ) (page : List ℕ) (c : ℤ) → read_of 4 base page ≡ refused c → pack_of base n page ≡ stopped c
  -- then -6 for minor 5 and above (PK2.2)
  pub late : (base n : ℕ) (page : List ℕ) (w e : ℕ) (q : PlatShown) (s : ℕ → Shown) → read_of 4 base page ≡ shows w e q s → 4 < w →
      pack_of base n page ≡ stopped (minus 6)
  -- then W1 for the target." Only its length, because the reader has checked B.
  pub target : (base n : ℕ) (page : List ℕ) (w e : ℕ) (q : PlatShown) (s : ℕ → Shown) → read_of 4 base page ≡ shows w e q s → w ≤ 4 →
      (n ≢ 4096) →
      pack_of base n page ≡ written (no-page 1)
  -- PK2: "The target is untouched.": if no page is made
  pub untouched : (base : ℕ) (page lent : List ℕ) → ((p : List ℕ) → pack_of base (length lent) page ≢ written (a-page p)) →
      target_after lent (pack_of base (length lent) page) ≡ lent
