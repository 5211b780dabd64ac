-- The page made in address order: the new bytes, then the old ones, and zero at the end. Assumes nothing.
use Rattle.std.proofs.Common.{◌≡◌, ℕ, suc, ◌+◌, ◌-◌, ◌*◌, ◌<◌, ◌≤◌, min, List, [], ◌∷◌, ◌++◌, length, take, drop, replicate, sym, refl, ap, ◌∙◌, append_assoc, append-nil, zero-add, arith, length-append, length-drop, drop_of_length-le, take_all, le-ltb, lt-ltb}
use native.Mathlib.Decide.{dec_lt}
use lib.Seq.{take-append_seam}
use Rattle.words.specs.Word.{bytes_of, joined, splice, laid}
use Rattle.words.proofs.Store.{length-splice, splice-splice, bytes-in, words-in}
use Rattle.words.proofs.Lists.{bytes_of-length, bytes_of-append, joined_length, joined-mono}
use Rattle.versions.specs.Edition.{section_count, core}
use Rattle.versions.proofs.Editions.{section-count-most}
use Rattle.fields.specs.Fields.{end_mark}
use Rattle.writer_checks.specs.Description.{Description, four_lists, description_of, with_mark, plat_bytes, used}
use Rattle.writer_checks.proofs.Described.{marked_more}
use Rattle.writer_rules.specs.Write.{descriptor, array_address, point_to, plat_word, descriptor_at, core_words, filled, page_of}
use Rattle.writer.specs.Steps.{section_on, arrays_on}
use Rattle.writer_rules.proofs.Given.{desc-length}

-- ---- the new bytes, then the page as it was
-- bytes placed directly after those already written
bytes-more : (xs ys p : List ℕ) → length p ≡ 4096 → length xs + length ys ≤ 4096 →
    laid (length xs) ys (splice 0 xs p) ≡ splice 0 (xs ++ ys) p
bytes-more xs ys p e h =
    let l : length (splice 0 xs p) ≡ length p = length-splice 0 xs p (omega arith) in
    bytes-in (length xs) ys (splice 0 xs p) (omega arith) ∙ rw zero-add at (splice-splice 0 xs p (omega arith) ys)

words_more : (xs ws p : List ℕ) → length p ≡ 4096 → 8 * (length xs + length ws) ≤ 4096 →
    laid (8 * length xs) (bytes_of ws) (splice 0 (bytes_of xs) p) ≡ splice 0 (bytes_of (xs ++ ws)) p
words_more xs ws p e h =
    let m = bytes_of-length xs in
    rw (bytes_of-append, ← m) (bytes-more (bytes_of xs) (bytes_of ws) p e (omega (arith, bytes_of-length ws)))

point-none : (a : ℕ) (fs : List ℕ) → length fs ≡ 0 → 0 ≡ point_to a fs
unfolding point_to
point-none a [] h = refl
point-none a (b ∷ bs) h = absurd (let z : ⊥ = omega arith in z)

point-some : {r : ℕ} (a : ℕ) (fs : List ℕ) → (length fs ≡ 0 → ⊥) → r ≡ a → r ≡ point_to a fs
unfolding point_to
point-some a [] h e = absurd (h refl)
point-some a (b ∷ bs) h e = e

lists_length : (a b c d : List ℕ) → length (joined 4 (four_lists a b c d)) ≡ length a + length b + length c + length d
unfolding joined four_lists
lists_length a b c d = simp length-append (omega arith)

mark-3 : length end_mark ≡ 3
unfolding end_mark
mark-3 = refl

-- ---- zeros after them
-- a slice from an offset on, cleared
cleared : (at : ℕ) (s : List ℕ) → at ≤ length s → take at s ++
    (replicate (length (take (length s - at) (drop at s))) 0 ++ drop (length s - at) (drop at s)) ≡ take at s ++ replicate (length s - at) 0
cleared at s h =
    let p : length (drop at s) ≤ length s - at = omega (arith, length-drop at s) in
    rw (take_all (length s - at) (drop at s) p, drop_of_length-le (drop at s) p, append-nil, length-drop)

pub filled-back : (at : ℕ) (bs p s : List ℕ) → length p ≡ 4096 → length bs ≤ 4096 → at ≡ length bs → s ≡ splice 0 bs p →
    take at s ++ (replicate (length (take (length s - at) (drop at s))) 0 ++ drop (length s - at) (drop at s)) ≡ filled bs
unfolding filled splice
filled-back at bs p s e h f g =
    let l : length s ≡ 4096 = ap length g ∙ length-splice 0 bs p (omega arith) ∙ e in
    cleared at s (omega arith) ∙ rw (l, g, f, take-append_seam)

-- the end mark is part of the zeros after the fields
filled-end : (ys : List ℕ) → length ys + 3 ≤ 4096 → filled ys ≡ filled (ys ++ end_mark)
unfolding filled end_mark
filled-end ys h =
    let z : 4096 - length ys ≡ suc (suc (suc (4096 - (length ys + 3)))) = omega arith in
    rw (length-append, append_assoc, z)

filled-mark : (xs fs : List ℕ) → length xs + length (with_mark fs) ≤ 4096 → filled (xs ++ fs) ≡ filled (xs ++ with_mark fs)
unfolding with_mark
filled-mark xs [] h = refl
filled-mark xs (b ∷ bs) h =
    let n : length ((b ∷ bs) ++ end_mark) ≡ length (b ∷ bs) + length end_mark = length-append (b ∷ bs) end_mark in
    filled-end (xs ++ (b ∷ bs)) (rw length-append (omega (arith, mark-3))) ∙ ap filled (append_assoc xs (b ∷ bs) end_mark)

-- ---- the platform pointer
pub pointer_none : (base v : ℕ) (a b c d fs : List ℕ) → length fs ≡ 0 → 0 ≡ plat_word base v (description_of a b c d fs)
unfolding plat_word description_of
pointer_none base v a b c d fs h = point-none _ fs h

pub pointer-some : (base v s r : ℕ) (a b c d fs : List ℕ) → (length fs ≡ 0 → ⊥) → s ≡ core v →
    r ≡ base + s + 8 * (length a + length b + length c + length d) → r ≡ plat_word base v (description_of a b c d fs)
unfolding plat_word description_of array_address
pointer-some base v s r a b c d fs h e f = point-some _ fs h (omega (arith, lists_length a b c d))

-- ---- the core
pub section-in : (v k p : ℕ) (ws page : List ℕ) → k < section_count v →
    section_on v k p ws page ≡ laid (16 + 24 * k) (bytes_of (descriptor k p ws)) page
unfolding section_on
section-in v k p ws page h = rw (lt-ltb k (section_count v) h)

pub section-out : (v k p : ℕ) (ws page : List ℕ) → section_count v ≤ k → section_on v k p ws page ≡ page
unfolding section_on
section-out v k p ws page h = rw (le-ltb k (section_count v) h)

-- the core's words with k sections done
unfoldable head_to : ℕ → ℕ → Description → ℕ → List ℕ
head_to base v d k = v ∷ plat_word base v d ∷ joined (min k (section_count v)) (descriptor_at base v d.lists)

-- the offset of array k
unfoldable offset : ℕ → Description → ℕ → ℕ
offset v d k = core v + 8 * length (joined k d.lists)

-- p is the page that is overwritten
module _ (base v : ℕ) (d : Description) (p : List ℕ) (whole : length p ≡ 4096) where
  head-length : (k : ℕ) → length (head_to base v d k) ≡ 2 + 3 * min k (section_count v)
  unfolding head_to descriptor_at
  head-length k =
      let e = joined_length (min k (section_count v)) 3 (descriptor_at base v d.lists)
      (λ j. desc-length j (array_address base v d.lists j) (d.lists j)) in
      omega arith

  head-start : v ∷ plat_word base v d ∷ [] ≡ head_to base v d 0
  unfolding head_to joined
  head-start =
      ap (λ (n : ℕ). v ∷ plat_word base v d ∷ joined n (descriptor_at base v d.lists))
      (let e : 0 ≡ min 0 (section_count v) = omega arith in e)

  head-none : (q : ℕ) → q ≡ plat_word base v d → laid 0 (bytes_of (v ∷ q ∷ [])) p ≡ splice 0 (bytes_of (head_to base v d 0)) p
  head-none q e = rw e (words-in 0 (v ∷ plat_word base v d ∷ []) p (omega arith) ∙ ap (λ (ws : List ℕ). splice 0 (bytes_of ws) p) head-start)

  head_in : (k : ℕ) → k < section_count v → head_to base v d (suc k) ≡ head_to base v d k ++
      descriptor k (array_address base v d.lists k) (d.lists k)
  unfolding head_to joined descriptor_at
  head_in k h =
      rw ((let e : min (suc k) (section_count v) ≡ suc k = omega arith in e), (let e : min k (section_count v) ≡ k = omega arith in e))

  head-out : (k : ℕ) → section_count v ≤ k → head_to base v d (suc k) ≡ head_to base v d k
  unfolding head_to
  head-out k h =
      ap (λ (n : ℕ). v ∷ plat_word base v d ∷ joined n (descriptor_at base v d.lists))
      (let e : min (suc k) (section_count v) ≡ min k (section_count v) = omega arith in e)

  head_more : (k q : ℕ) (page : List ℕ) → k < 4 → q ≡ array_address base v d.lists k → page ≡ splice 0 (bytes_of (head_to base v d k)) p →
      section_on v k q (d.lists k) page ≡ splice 0 (bytes_of (head_to base v d (suc k))) p
  head_more k q page h e f = go (dec_lt k (section_count v))
    where
      go : Dec (k < section_count v) → section_on v k q (d.lists k) page ≡ splice 0 (bytes_of (head_to base v d (suc k))) p
      go (yes m) =
          let n : length (head_to base v d k) ≡ 2 + 3 * min k (section_count v) = head-length k in
          let i : 16 + 24 * k ≡ 8 * length (head_to base v d k) = omega arith in
          section-in v k q (d.lists k) page m
          ∙ rw (f, e, i) (words_more (head_to base v d k) (descriptor k (array_address base v d.lists k) (d.lists k)) p whole
          (omega (arith, section-count-most v, desc-length k (array_address base v d.lists k) (d.lists k))))
          ∙ ap (λ (ws : List ℕ). splice 0 (bytes_of ws) p) (sym (head_in k m))
      go (no m) =
          section-out v k q (d.lists k) page (omega arith) ∙ f ∙
          ap (λ (ws : List ℕ). splice 0 (bytes_of ws) p) (sym (head-out k (omega arith)))

  head-all : head_to base v d 4 ≡ core_words base v d
  unfolding head_to core_words
  head-all =
      ap (λ (n : ℕ). v ∷ plat_word base v d ∷ joined n (descriptor_at base v d.lists))
      (let e : min 4 (section_count v) ≡ section_count v = omega (arith, section-count-most v) in e)

  place_none : array_address base v d.lists 0 ≡ base + core v
  unfolding array_address joined
  place_none = omega arith

  place-more : (k : ℕ) → array_address base v d.lists k + 8 * length (d.lists k) ≡ array_address base v d.lists (suc k)
  unfolding array_address joined
  place-more k = rw length-append (omega arith)

  -- by the steps of the code
  pub core-law : (p1 p2 p3 p4 p5 : List ℕ) (q a b c e : ℕ) → q ≡ plat_word base v d → p1 ≡ laid 0 (bytes_of (v ∷ q ∷ [])) p →
      a ≡ base + core v →
      p2 ≡ section_on v 0 a (d.lists 0) p1 → b ≡ a + 8 * length (d.lists 0) → p3 ≡ section_on v 1 b (d.lists 1) p2 →
      c ≡ b + 8 * length (d.lists 1) →
      p4 ≡ section_on v 2 c (d.lists 2) p3 → e ≡ c + 8 * length (d.lists 2) → p5 ≡ section_on v 3 e (d.lists 3) p4 →
      p5 ≡ splice 0 (bytes_of (core_words base v d)) p
  core-law p1 p2 p3 p4 p5 q a b c e e0 e1 f0 e2 f1 e3 f2 e4 f3 e5 =
      let g0 : a ≡ array_address base v d.lists 0 = omega (arith, place_none) in
      let g1 : b ≡ array_address base v d.lists 1 = omega (arith, place-more 0) in
      let g2 : c ≡ array_address base v d.lists 2 = omega (arith, place-more 1) in
      let g3 : e ≡ array_address base v d.lists 3 = omega (arith, place-more 2) in
      let h1 : p1 ≡ splice 0 (bytes_of (head_to base v d 0)) p = e1 ∙ head-none q e0 in
      let h2 : p2 ≡ splice 0 (bytes_of (head_to base v d 1)) p = e2 ∙ head_more 0 a p1 (omega arith) g0 h1 in
      let h3 : p3 ≡ splice 0 (bytes_of (head_to base v d 2)) p = e3 ∙ head_more 1 b p2 (omega arith) g1 h2 in
      let h4 : p4 ≡ splice 0 (bytes_of (head_to base v d 3)) p = e4 ∙ head_more 2 c p3 (omega arith) g2 h3 in
      e5 ∙ head_more 3 e p4 (omega arith) g3 h4 ∙ ap (λ (ws : List ℕ). splice 0 (bytes_of ws) p) head-all

  -- ---- the arrays after the core
  core-bytes : 8 * length (core_words base v d) ≡ core v
  unfolding core
  core-bytes = rw (← head-all, head-length 4) (omega (arith, section-count-most v))

  offset-none : offset v d 0 ≡ core v
  unfolding offset joined
  offset-none = omega arith

  offset-more : (k : ℕ) → offset v d k + 8 * length (d.lists k) ≡ offset v d (suc k)
  unfolding offset joined
  offset-more k = rw length-append (omega arith)

  body_more : (k at : ℕ) (page : List ℕ) → k < 4 → used v d ≤ 4096 → at ≡ offset v d k →
      page ≡ splice 0 (bytes_of (core_words base v d ++ joined k d.lists)) p →
      laid at (bytes_of (d.lists k)) page ≡ splice 0 (bytes_of (core_words base v d ++ joined (suc k) d.lists)) p
  unfolding offset joined used
  body_more k at page h fit e f =
      let c = core-bytes in
      let n : length (core_words base v d ++ joined k d.lists) ≡ length (core_words base v d) + length
      (joined k d.lists) = length-append (core_words base v d) (joined k d.lists) in
      let i : at ≡ 8 * length (core_words base v d ++ joined k d.lists) = omega arith in
      rw (f, i) (words_more (core_words base v d ++ joined k d.lists) (d.lists k) p whole (omega (arith, joined-mono 4 d.lists k h)))
      ∙ ap (λ (ws : List ℕ). splice 0 (bytes_of ws) p) (append_assoc (core_words base v d) (joined k d.lists) (d.lists k))

  body-none : splice 0 (bytes_of (core_words base v d)) p ≡ splice 0 (bytes_of (core_words base v d ++ joined 0 d.lists)) p
  unfolding joined
  body-none = rw append-nil

  pub arrays-law : (at : ℕ) (page after : List ℕ) → used v d ≤ 4096 → at ≡ core v → page ≡ splice 0 (bytes_of (core_words base v d)) p →
      after ≡ arrays_on at d.lists page →
      after ≡ splice 0 (bytes_of (core_words base v d ++ joined 4 d.lists)) p
  unfolding arrays_on
  arrays-law at page after fit e f g =
      let g0 : at ≡ offset v d 0 = omega (arith, offset-none) in
      let h0 = body_more 0 at page (omega arith) fit g0 (f ∙ body-none) in
      let h1 = body_more 1 (at + 8 * length (d.lists 0)) _ (omega arith) fit (omega (arith, offset-more 0)) h0 in
      let h2 = body_more 2 (at + 8 * length (d.lists 0) + 8 * length (d.lists 1)) _ (omega arith) fit
      (omega (arith, offset-more 0, offset-more 1)) h1 in
      let h3 = body_more 3 (at + 8 * length (d.lists 0) + 8 * length (d.lists 1) + 8 * length (d.lists 2)) _ (omega arith) fit
      (omega (arith, offset-more 0, offset-more 1, offset-more 2)) h2 in
      g ∙ h3

  -- where they end
  body_bytes : length (bytes_of (core_words base v d ++ joined 4 d.lists)) ≡ offset v d 4
  unfolding offset
  body_bytes = rw (bytes_of-length, length-append) (omega (arith, core-bytes))

  module _ (at behind : ℕ) (fit : used v d ≤ 4096) (e : at ≡ core v)
      (f : behind ≡ at + 8 * length (d.lists 0) + 8 * length (d.lists 1) + 8 * length (d.lists 2) + 8 * length (d.lists 3)) where
    behind-at : behind ≡ offset v d 4
    behind-at = omega (arith, offset-none, offset-more 0, offset-more 1, offset-more 2, offset-more 3)

    marked-in : behind + length (with_mark d.fields) ≤ 4096
    unfolding used offset plat_bytes
    marked-in = let o = behind-at in omega arith

    pub fields_in : behind + length d.fields ≤ 4096
    fields_in = omega (arith, marked-in, marked_more d.fields)

    -- the fields after the arrays, then zero
    pub page-law : (end : ℕ) (r s : List ℕ) → r ≡ splice 0 (bytes_of (core_words base v d ++ joined 4 d.lists)) p →
        s ≡ laid behind d.fields r → end ≡ behind + length d.fields →
        take end s ++ (replicate (length (take (length s - end) (drop end s))) 0 ++ drop (length s - end) (drop end s)) ≡ page_of base v d
    unfolding page_of plat_bytes
    page-law end r s g h i =
        let bs = bytes_of (core_words base v d ++ joined 4 d.lists) in
        let n : behind ≡ length bs = omega (arith, behind-at, body_bytes) in
        let m : length (bs ++ d.fields) ≡ length bs + length d.fields = length-append bs d.fields in
        let l = fields_in in
        let k : s ≡ splice 0 (bs ++ d.fields) p = h ∙ rw (g, n) (bytes-more bs d.fields p whole (omega arith)) in
        filled-back end (bs ++ d.fields) p s whole (omega arith) (omega arith) k ∙ filled-mark bs d.fields (omega (arith, marked-in))

-- what there is room for
pub words-room : (v : ℕ) (a b c d fs : List ℕ) → used v (description_of a b c d fs) ≤ 4096 → length a + length b + length c + length d ≤ 512
unfolding used description_of
words-room v a b c d fs h = omega (arith, lists_length a b c d)
