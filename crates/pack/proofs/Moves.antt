-- Bytes and arrays moved from page to page. Assumes nothing.
use Rattle.std.proofs.Common.{◌≡◌, ℕ, zero, suc, ◌+◌, ◌-◌, ◌*◌, ◌%◌, ◌^◌, ◌<◌, ◌≤◌, List, [], ◌∷◌, ◌++◌, length, take, drop, sym, refl, ap, ◌∙◌, append-nil, add-zero, add-suc, add-one, arith, length-append, length-drop, length-take, length-take-le, drop-drop, take-add, eqb-true}
use lib.Seq.{paste-zero}
use Rattle.words.specs.Word.{part, bytes_of, joined, splice, laid}
use Rattle.words.proofs.Bytes.{Bytes, bytes-part, words_back}
use Rattle.words.proofs.Read.{words_of-length}
use Rattle.words.proofs.Lists.{bytes_of-length, bytes_of-append, joined_length}
use Rattle.words.proofs.Store.{splice-splice, words-in}
use Rattle.entries.specs.Entry.{words_per_entry, size, sum, check_ok}
use Rattle.entries.specs.Array.{words_at}
use Rattle.sections.specs.Page.{count_at, pointer_at, check_at}
use Rattle.writer_rules.specs.Write.{neg, descriptor}
use Rattle.writer_rules.proofs.Given.{desc-length}
use Rattle.writer.proofs.Sums.{desc-none, desc-some}
use Rattle.pack.specs.Steps.{array_words_in, Movable, section_moved}
use Rattle.pack.proofs.Made.{some_words}

-- ---- the array of a section
none_left : (k c : ℕ) → words_per_entry k * c ≡ 0 → c ≡ 0
unfolding words_per_entry
none_left zero c h = omega arith
none_left (suc zero) c h = omega arith
none_left (suc (suc k)) c h = omega arith

-- if the words are the same, the checksum changes only by the pointer: q is the old pointer and s the old checksum
check-moved : (c q p m r s t : ℕ) → (c + q + t + s) % 2 ^ 64 ≡ 0 → (m + q) % 2 ^ 64 ≡ p → (r + m) % 2 ^ 64 ≡ s → r < 2 ^ 64 →
    r ≡ neg (c + p + t)
unfolding neg
check-moved c q p m r s t a e f l = omega arith

module _ (page : List ℕ) (k : ℕ) where
  array-length : length (array_words_in page k) ≡ words_per_entry k * count_at k page
  unfolding array_words_in words_at
  array-length = words_of-length _ _

  pub array_size : 8 * length (array_words_in page k) ≡ size k (count_at k page)
  unfolding size
  array_size = rw array-length refl

  pub array-part : Bytes page → pointer_at k page % 4096 + size k (count_at k page) ≤ length page →
      part (pointer_at k page % 4096) (size k (count_at k page)) page ≡ bytes_of (array_words_in page k)
  unfolding array_words_in words_at size part
  array-part b h =
      let n = words_per_entry k * count_at k page in
      let at = pointer_at k page % 4096 in
      sym (words_back n (part at (8 * n) page) (bytes-part at (8 * n) page b) (simp (length-take, length-drop) (omega arith)))

  -- its three words with the array at another address
  pub moved_none : (p : ℕ) → count_at k page ≡ 0 → 0 ∷ 0 ∷ 0 ∷ [] ≡ descriptor k p (array_words_in page k)
  moved_none p z = desc-none k p (array_words_in page k) (rw (array-length, z) (omega arith))

  pub moved-some : (p m r : ℕ) → Movable page k → (count_at k page ≡ 0 → ⊥) → (m + pointer_at k page) % 2 ^ 64 ≡ p →
      (r + m) % 2 ^ 64 ≡ check_at k page → r < 2 ^ 64 →
      count_at k page ∷ p ∷ r ∷ [] ≡ descriptor k p (array_words_in page k)
  unfolding check_ok
  moved-some p m r s z e f l =
      desc-some k p (count_at k page) r (array_words_in page k) (λ n. z (none_left k (count_at k page) (sym array-length ∙ n)))
      (rw array-length (sym (some_words k (count_at k page)).1))
      (check-moved (count_at k page) (pointer_at k page) p m r (check_at k page) (sum (array_words_in page k)) (eqb-true _ _ (s.sums z)) e f l)

-- ---- lists one after another, each placed directly after the one before
module _ (f : ℕ → List ℕ) where
  pub joined-none : length (joined 0 f) ≡ 0
  unfolding joined
  joined-none = refl

  pub joined-grow : (k : ℕ) → length (joined (k + 1) f) ≡ length (joined k f) + length (f k)
  unfolding joined
  joined-grow k = rw (add-one, length-append)

  pub laid_none : (at : ℕ) (p : List ℕ) → p ≡ splice at (bytes_of (joined 0 f)) p
  unfolding joined bytes_of splice
  laid_none at p = paste-zero p at []

  pub laid_more : (at k to : ℕ) (vs s p : List ℕ) → at ≤ length p → to ≡ at + 8 * length (joined k f) → vs ≡ bytes_of (f k) →
      s ≡ splice at (bytes_of (joined k f)) p →
      splice to vs s ≡ splice at (bytes_of (joined (k + 1) f)) p
  unfolding joined
  laid_more at k to vs s p h e g i =
      rw (add-one, i, g, e, bytes_of-append, ← bytes_of-length (joined k f)) (splice-splice at (bytes_of (joined k f)) p h (bytes_of (f k)))

  -- equal lists, with no list after the first n
  pub joined_same : (n : ℕ) (g : ℕ → List ℕ) → ((k : ℕ) → k < n → f k ≡ g k) → joined n f ≡ joined n g
  unfolding joined
  joined_same zero g h = refl
  joined_same (suc n) g h = rw (joined_same n g (λ k l. h k (omega arith)), h n (omega arith))

  pub joined-rest : (n m : ℕ) → ((k : ℕ) → n ≤ k → f k ≡ []) → joined (n + m) f ≡ joined n f
  unfolding joined
  joined-rest n zero h = rw add-zero refl
  joined-rest n (suc m) h = rw (add-suc, h (n + m) (omega arith), append-nil) (joined-rest n m h)

-- three words for each section
pub section-more : (first k : ℕ) (page three s p : List ℕ) → k < 4 → length p ≡ 4096 → length s ≡ 4096 →
    s ≡ splice 16 (bytes_of (joined k (section_moved first page))) p →
    three ≡ descriptor k (first + 8 * length (joined k (array_words_in page))) (array_words_in page k) →
    laid (16 + 24 * k) (bytes_of three) s ≡ splice 16 (bytes_of (joined (k + 1) (section_moved first page))) p
unfolding section_moved
section-more first k page three s p h n m e g =
    let w : length three ≡ 3 = ap length g ∙ desc-length k (first + 8 * length (joined k (array_words_in page))) (array_words_in page k) in
    let j : length (joined k (section_moved first page)) ≡ 3 * k = joined_length k 3 (section_moved first page)
    (λ i. desc-length i (first + 8 * length (joined i (array_words_in page))) (array_words_in page i)) in
    words-in (16 + 24 * k) three s (omega arith)
    ∙ laid_more (section_moved first page) 16 k (16 + 24 * k) (bytes_of three) s p (omega arith) (omega arith) (ap bytes_of g) e

-- ---- parts of a page
pub part-add : (off a b : ℕ) (s : List ℕ) → part off (a + b) s ≡ part off a s ++ part (off + a) b s
unfolding part
part-add off a b s = rw (take-add, drop-drop)

pub part_join : (a b c : ℕ) (s : List ℕ) → a ≤ b → b ≤ c → part a (c - a) s ≡ part a (b - a) s ++ part b (c - b) s
part_join a b c s h g =
    ap (λ (n : ℕ). part a n s) (let e : c - a ≡ (b - a) + (c - b) = omega arith in e)
    ∙ part-add a (b - a) (c - b) s
    ∙ ap (λ (n : ℕ). part a (b - a) s ++ part n (c - b) s) (let e : a + (b - a) ≡ b = omega arith in e)

pub part_none : (a : ℕ) (s : List ℕ) → part a (a - a) s ≡ []
unfolding part
part_none a s = ap (λ (n : ℕ). take n (drop a s)) (let e : a - a ≡ 0 = omega arith in e)

pub lent_length : (a b : ℕ) (s : List ℕ) → a ≤ b → b ≤ length s → length (take (b - a) (drop a s)) ≡ b - a
lent_length a b s h g = length-take-le (b - a) (drop a s) (omega (arith, length-drop a s))

-- the array of a section, as the code lends it
pub array-lent : (page : List ℕ) (k at n : ℕ) → Bytes page → pointer_at k page % 4096 + size k (count_at k page) ≤ length page →
    at ≡ pointer_at k page % 4096 → n ≡ size k (count_at k page) →
    take (at + n - at) (drop at page) ≡ bytes_of (array_words_in page k)
unfolding part
array-lent page k at n b h e f = rw ((let z : at + n - at ≡ n = omega arith in z), e, f) (array-part page k b h)
