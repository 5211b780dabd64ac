-- The packed page as a whole: its steps in sequence make the page that the writer makes. Assumes nothing.
use Rattle.std.proofs.Common.{◌≡◌, ℕ, ◌+◌, ◌-◌, ◌*◌, ◌<◌, ◌≤◌, Bool, true, false, cond, eqb, List, [], ◌∷◌, ◌++◌, length, take, drop, replicate, sym, refl, ap, ◌∙◌, true≢false, append_assoc, add_assoc, zero-add, arith, length-append, length-take-le, drop_at, le-ltb, lt-ltb, eq-eqb, eqb-true}
use Rattle.words.specs.Word.{bytes_of, joined, splice, laid}
use Rattle.words.proofs.Lists.{bytes_of-length, bytes_of-append, joined_length}
use Rattle.words.proofs.Store.{length-splice, splice-splice, bytes-in, words-in}
use Rattle.versions.specs.Edition.{section_count, core}
use Rattle.versions.proofs.Editions.{section-count-most}
use Rattle.writer_checks.specs.Description.{plat_bytes, used}
use Rattle.writer_checks.proofs.Described.{marked_more}
use Rattle.writer_rules.specs.Write.{array_address, descriptor_at, point_to, plat_word, core_words, page_of}
use Rattle.writer_rules.proofs.Given.{desc-length}
use Rattle.writer.proofs.Pages.{page-law}
use Rattle.pack.specs.Steps.{array_words_in, section_moved, fields_place, kept_from, shown_description_at}
use Rattle.pack.proofs.Moves.{joined_same, joined-rest}

-- ---- the lists passed to the writer are the arrays of the page
module _ (v : ℕ) (page : List ℕ) where
  pub list-in : (k : ℕ) → k < section_count v → (shown_description_at v page).lists k ≡ array_words_in page k
  unfolding shown_description_at
  list-in k h = rw (lt-ltb k (section_count v) h)

  pub list-out : (k : ℕ) → section_count v ≤ k → (shown_description_at v page).lists k ≡ []
  unfolding shown_description_at
  list-out k h = rw (le-ltb k (section_count v) h)

  lists-to : (k : ℕ) → k ≤ section_count v → joined k (shown_description_at v page).lists ≡ joined k (array_words_in page)
  lists-to k h = joined_same (shown_description_at v page).lists k (array_words_in page) (λ j l. list-in j (omega arith))

  lists-all : joined 4 (shown_description_at v page).lists ≡ joined (section_count v) (array_words_in page)
  lists-all =
      let m = section-count-most v in
      ap (λ (n : ℕ). joined n (shown_description_at v page).lists) (let e : 4 ≡ section_count v + (4 - section_count v) = omega arith in e)
      ∙ joined-rest (shown_description_at v page).lists (section_count v) (4 - section_count v) list-out
      ∙ lists-to (section_count v) (omega arith)

  fields-all : (shown_description_at v page).fields ≡ kept_from (fields_place page) page
  unfolding shown_description_at
  fields-all = refl

  -- what there is room for
  pub told-size : (n s from : ℕ) → n ≡ section_count v → s ≡ core v → from ≡ fields_place page → used v (shown_description_at v page) ≤ 4096 →
      s + 8 * length (joined n (array_words_in page)) + length (kept_from from page) ≤ 4096
  unfolding used plat_bytes
  told-size n s from e f g h =
      let m = marked_more (shown_description_at v page).fields in
      let l : length (joined 4 (shown_description_at v page).lists) ≡ length
      (joined (section_count v) (array_words_in page)) = ap length lists-all in
      let k : length (shown_description_at v page).fields ≡ length (kept_from (fields_place page) page) = ap length fields-all in
      rw (e, f, g) (omega arith)

  -- ---- the sections
  module _ (base : ℕ) where
    section-at : (k : ℕ) → k < section_count v → section_moved (base + core v) page k ≡ descriptor_at base v
        (shown_description_at v page).lists k
    unfolding section_moved descriptor_at array_address
    section-at k h = rw (list-in k h, lists-to k (omega arith), add_assoc)

    sections-all : joined (section_count v) (section_moved (base + core v) page) ≡ joined (section_count v)
        (descriptor_at base v (shown_description_at v page).lists)
    sections-all =
        joined_same (section_moved (base + core v) page) (section_count v) (descriptor_at base v (shown_description_at v page).lists) section-at

-- ---- the platform pointer
point-by : (b : Bool) (a at end : ℕ) (fs : List ℕ) → eqb at end ≡ b → end ≡ at + length fs → cond b 0 a ≡ point_to a fs
unfolding point_to
point-by true a at end [] e h = refl
point-by false a at end [] e h = absurd (true≢false (sym (eq-eqb at end (omega arith)) ∙ e))
point-by true a at end (b ∷ bs) e h = let z : at ≡ end = eqb-true at end e in absurd (let y : ⊥ = omega arith in y)
point-by false a at end (b ∷ bs) e h = refl

-- ---- bytes before others
front : (xs ys p : List ℕ) → length xs ≤ length p → splice 0 xs (splice (length xs) ys p) ≡ splice 0 (xs ++ ys) p
unfolding splice
front xs ys p h =
    let t : drop (0 + length xs) (take (length xs) p ++ (ys ++ drop (length xs + length ys) p)) ≡ ys ++
    drop (length xs + length ys) p =
    drop_at (take (length xs) p) _ (0 + length xs) (length-take-le (length xs) p h ∙ sym (zero-add (length xs))) in
    rw (append_assoc (take (length xs) p) ys, t, length-append, zero-add) (sym (append_assoc xs ys _))

-- sections, arrays and fields from offset 16 on, then the 16 bytes before them
steps : (h s a f p p1 p2 p3 p4 : List ℕ) (at behind : ℕ) → length p ≡ 4096 → length h ≡ 16 → at ≡ 16 + length s → behind ≡ at + length a →
    behind + length f ≤ 4096 →
    p1 ≡ splice 16 s p → p2 ≡ splice at a p1 → p3 ≡ splice behind f p2 → p4 ≡ splice 0 h p3 →
    p4 ≡ splice behind f (splice 0 (h ++ (s ++ a)) p)
steps h s a f p p1 p2 p3 p4 at behind n l e g r i j k m =
    let p2-is : p2 ≡ splice 16 (s ++ a) p = j ∙ rw (i, e) (splice-splice 16 s p (omega arith) a) in
    let y : length (s ++ a) ≡ length s + length a = length-append s a in
    let x : behind ≡ 16 + length (s ++ a) = omega arith in
    let p3-is : p3 ≡ splice 16 ((s ++ a) ++ f) p = k ∙ rw (p2-is, x) (splice-splice 16 (s ++ a) p (omega arith) f) in
    let z : length (h ++ (s ++ a)) ≡ length h + length (s ++ a) = length-append h (s ++ a) in
    let w : behind ≡ 0 + length (h ++ (s ++ a)) = omega arith in
    m ∙ rw (p3-is, ← l) (front h ((s ++ a) ++ f) p (omega arith)) ∙ ap (λ (vs : List ℕ). splice 0 vs p) (sym (append_assoc h (s ++ a) f))
    ∙ sym (rw w (splice-splice 0 (h ++ (s ++ a)) p (omega arith) f))

-- ---- by the steps of the code
module _ (base v : ℕ) (page p : List ℕ) (whole : length p ≡ 4096) (fit : used v (shown_description_at v page) ≤ 4096) where
  head_bytes : (q : ℕ) (p3 : List ℕ) → length p3 ≡ 4096 → laid 0 (bytes_of (v ∷ q ∷ [])) p3 ≡ splice 0 (bytes_of (v ∷ q ∷ [])) p3
  head_bytes q p3 n = words-in 0 (v ∷ q ∷ []) p3 (omega arith)

  core-bytes : bytes_of (v ∷ plat_word base v (shown_description_at v page) ∷ []) ++
      (bytes_of (joined (section_count v) (section_moved (base + core v) page)) ++ bytes_of (joined (section_count v) (array_words_in page)))
      ≡ bytes_of (core_words base v (shown_description_at v page) ++ joined 4 (shown_description_at v page).lists)
  unfolding core_words
  core-bytes =
      let h = v ∷ plat_word base v (shown_description_at v page) ∷ [] in
      let s = joined (section_count v) (descriptor_at base v (shown_description_at v page).lists) in
      let a = joined 4 (shown_description_at v page).lists in
      rw (sections-all v page base, ← lists-all v page) (sym
      (bytes_of-append (h ++ s) a ∙ ap (λ (x : List ℕ). x ++ bytes_of a) (bytes_of-append h s) ∙
      append_assoc (bytes_of h) (bytes_of s) (bytes_of a)))

  sections-length : length (bytes_of (joined (section_count v) (section_moved (base + core v) page))) ≡ 24 * section_count v
  unfolding section_moved
  sections-length =
      let j = joined_length (section_count v) 3 (section_moved (base + core v) page)
      (λ i. desc-length i (base + core v + 8 * length (joined i (array_words_in page))) (array_words_in page i)) in
      rw bytes_of-length (omega arith)

  core_is : core v ≡ 16 + 24 * section_count v
  unfolding core
  core_is = refl

  -- the offset after the arrays, as the writer counts it
  behind-is : core v + 8 * length (joined (section_count v) (array_words_in page))
      ≡ core v + 8 * length ((shown_description_at v page).lists 0) + 8 * length ((shown_description_at v page).lists 1) + 8 * length
      ((shown_description_at v page).lists 2) + 8 * length ((shown_description_at v page).lists 3)
  unfolding joined
  behind-is = rw (← lists-all v page) (simp length-append (omega arith))

  pub page-made : (n s from behind end q : ℕ) (p1 p2 p3 p4 : List ℕ) → n ≡ section_count v → s ≡ core v → from ≡ fields_place page →
      length p3 ≡ 4096 →
      p1 ≡ splice 16 (bytes_of (joined n (section_moved (base + s) page))) p → behind ≡ s + 8 * length (joined n (array_words_in page)) →
      p2 ≡ splice s (bytes_of (joined n (array_words_in page))) p1 →
      end ≡ behind + length (kept_from from page) → p3 ≡ splice behind (kept_from from page) p2 →
      q ≡ cond (eqb behind end) 0 (base + behind) → p4 ≡ laid 0 (bytes_of (v ∷ q ∷ [])) p3 →
      take end p4 ++ (replicate (length (take (length p4 - end) (drop end p4))) 0 ++ drop (length p4 - end) (drop end p4)) ≡ page_of base v
      (shown_description_at v page)
  unfolding shown_description_at plat_word array_address
  page-made n s from behind end q p1 p2 p3 p4 en es ef l3 e1 eb e2 ee e3 eq e4 =
      let d = shown_description_at v page in
      let S = bytes_of (joined (section_count v) (section_moved (base + core v) page)) in
      let A = bytes_of (joined (section_count v) (array_words_in page)) in
      let K = kept_from (fields_place page) page in
      let f1 : p1 ≡ splice 16 S p = rw (← en, ← es) e1 in
      let fb : behind ≡ core v + 8 * length (joined (section_count v) (array_words_in page)) = rw (← en, ← es) eb in
      let f2 : p2 ≡ splice (core v) A p1 = rw (← en, ← es) e2 in
      let fe : end ≡ behind + length K = rw (← ef) ee in
      let f3 : p3 ≡ splice behind K p2 = rw (← ef) e3 in
      let la : length A ≡ 8 * length (joined (section_count v) (array_words_in page)) = bytes_of-length
      (joined (section_count v) (array_words_in page)) in
      let ls = sections-length in
      let room = told-size v page (section_count v) (core v) (fields_place page) refl refl refl fit in
      let x : base + behind ≡ base + (core v + 8 * length (joined 4 d.lists)) = rw (lists-all v page) (omega arith) in
      let fq : q ≡ plat_word base v d = eq ∙ point-by (eqb behind end) (base + behind) behind end K refl fe ∙
      ap (λ (a : ℕ). point_to a K) x in
      let f4 : p4 ≡ splice 0 (bytes_of (v ∷ plat_word base v d ∷ [])) p3 = e4 ∙ head_bytes q p3 l3 ∙
      ap (λ (w : ℕ). splice 0 (bytes_of (v ∷ w ∷ [])) p3) fq in
      let g = steps (bytes_of (v ∷ plat_word base v d ∷ [])) S A K p p1 p2 p3 p4 (core v) behind whole
      (bytes_of-length (v ∷ plat_word base v d ∷ [])) (core_is ∙ omega arith) (omega arith) (omega arith) f1 f2 f3 f4 in
      let X = bytes_of (v ∷ plat_word base v d ∷ []) ++ (S ++ A) in
      let lx : length X ≡ behind = length-append (bytes_of (v ∷ plat_word base v d ∷ [])) (S ++ A) ∙
      omega (arith, length-append S A, bytes_of-length (v ∷ plat_word base v d ∷ []), core_is) in
      let ly : length (splice 0 X p) ≡ 4096 = length-splice 0 X p (omega arith) ∙ whole in
      let h : p4 ≡ laid behind K (splice 0 (bytes_of (core_words base v d ++ joined 4 d.lists)) p) = g ∙
      sym (bytes-in behind K (splice 0 X p) (omega arith)) ∙ ap (λ (xs : List ℕ). laid behind K (splice 0 xs p)) core-bytes in
      page-law base v d p whole (core v) behind fit refl (fb ∙ behind-is) end
      (splice 0 (bytes_of (core_words base v d ++ joined 4 d.lists)) p) p4 refl h fe
