-- Where each part of a page that the writer makes is, proved. Assumes nothing.
use Prim.Native.Nat.{ℕ, zero, suc, ◌+◌, ◌-◌, ◌*◌, ◌/◌, ◌%◌, ◌<◌}
use mathlib.Core.Path.{◌≡◌, refl, sym, ap, ◌∙◌}
use mathlib.Core.List.{List, [], ◌∷◌, ◌++◌, append_assoc}
use native.Mathlib.Omega.{arith}
use native.Mathlib.Nat.{not-suc-le-zero}
use lib.ListN.{length, get_or, take, drop, replicate, length-append}
use lib.Seq.{take_at, get_or-drop, get_or-append-add}
use borrow.Author.Tests.{eqb-true}
use Rattle.words.specs.Tests.{Yes}
use Rattle.words.specs.Word.{part, word_at, bytes_of, joined}
use Rattle.words.proofs.Tests.{both_l}
use Rattle.versions.specs.Edition.{section_count, core}
use Rattle.versions.proofs.Editions.{core-sizes, section-count-most}
use Rattle.entries.specs.Entry.{words_per_entry, sum}
use Rattle.fields.specs.Fields.{end_mark}
use Rattle.writer_checks.specs.Description.{Description, list_ok, with_mark}
use Rattle.writer_rules.specs.Write.{descriptor, array_address, descriptor_at, point_to, plat_word, core_words, page_of, a-page, write_of}
use Rattle.writer_rules.specs.Write.{description_fits}
use Rattle.writer_rules.specs.Laid.{words_before, SectionIs, LaidAfter, LayoutFacts}
use Rattle.writer_rules.proofs.Given.{neg-zero}
use Rattle.writer_rules.proofs.Round.{Fit, ok, page-length, version-word, field, array, plat-pointer, fields_at, made-fit}

-- ---- one section's three words
whole : (k : ℕ) (ws : List ℕ) → length ws % words_per_entry k ≡ 0 →
    (k ≡ 1 → 6 * (length ws / words_per_entry k) ≡ length ws) × ((k ≡ 1 → ⊥) → 2 * (length ws / words_per_entry k) ≡ length ws)
unfolding words_per_entry
whole zero ws h = (λ e. absurd (let z : ⊥ = omega arith in z), λ n. omega arith)
whole (suc zero) ws h = (λ e. omega arith, λ n. absurd (n refl))
whole (suc (suc k)) ws h = (λ e. absurd (let z : ⊥ = omega arith in z), λ n. omega arith)

section-is : (v k a : ℕ) (ws : List ℕ) → Yes (list_ok v k ws) →
    SectionIs k a ws (get_or (descriptor k a ws) 0 0) (get_or (descriptor k a ws) 1 0) (get_or (descriptor k a ws) 2 0)
unfolding descriptor list_ok sum
section-is v k a [] h =
    record { empty = λ z. (refl, refl, refl); count = (λ z. refl, λ z. refl); pointer = λ l. absurd (not-suc-le-zero l); checksum = refl }
section-is v k a (w ∷ ws) h =
    record {
      empty = λ z. absurd (let y : ⊥ = omega arith in y);
      count = whole k (w ∷ ws) (eqb-true _ _ (both_l _ _ h));
      pointer = λ l. refl;
      checksum = neg-zero (length (w ∷ ws) / words_per_entry k + a + sum (w ∷ ws));
    }

-- ---- the fields, and the zeros after them
zeros : (n i : ℕ) → get_or (replicate {A = ℕ} n 0) i 0 ≡ 0
zeros zero i = refl
zeros (suc n) zero = refl
zeros (suc n) (suc i) = zeros n i

fields-front : (fs : List ℕ) (n : ℕ) → take (length fs) (with_mark fs ++ replicate n 0) ≡ fs
unfolding with_mark
fields-front [] n = refl
fields-front (b ∷ bs) n =
    let zs = end_mark ++ replicate {A = ℕ} n 0 in
    ap (take (length (b ∷ bs))) (append_assoc (b ∷ bs) end_mark (replicate n 0)) ∙ take_at (b ∷ bs) zs (length (b ∷ bs)) refl

zero-after : (fs : List ℕ) (n j : ℕ) → get_or (with_mark fs ++ replicate n 0) (length fs + j) 0 ≡ 0
unfolding with_mark end_mark
zero-after [] n j = zeros n (0 + j)
zero-after (b ∷ bs) n j =
    ap (λ (zs : List ℕ). get_or zs (length (b ∷ bs) + j) 0) (append_assoc (b ∷ bs) end_mark (replicate n 0))
    ∙ get_or-append-add (b ∷ bs) (end_mark ++ replicate n 0) j 0
    ∙ zeros (suc (suc (suc n))) j

no_pointer : (a : ℕ) (fs : List ℕ) → length fs ≡ 0 → point_to a fs ≡ 0
unfolding point_to
no_pointer a [] h = refl
no_pointer a (b ∷ bs) h = absurd (let z : ⊥ = omega arith in z)

some-pointer : (a : ℕ) (fs : List ℕ) → 0 < length fs → point_to a fs ≡ a
unfolding point_to
some-pointer a [] h = absurd (not-suc-le-zero h)
some-pointer a (b ∷ bs) h = refl

-- ---- where an array starts
before-joined : (k : ℕ) (l : ℕ → List ℕ) → length (joined k l) ≡ words_before k l
unfolding joined
before-joined zero l = refl
before-joined (suc k) l = rw (length-append, before-joined k l)

module _ (base v s : ℕ) (d : Description) (g : Fit base v d) (e : core v ≡ s) where
  address : (k : ℕ) → array_address base v d.lists k ≡ base + (s + 8 * words_before k d.lists)
  unfolding array_address
  address k = rw (e, before-joined k d.lists)

  offset : (k : ℕ) → array_address base v d.lists k - base ≡ s + 8 * words_before k d.lists
  offset k = omega (arith, address k)

  in-core : (k : ℕ) → 16 + 24 * k < s → k < section_count v
  unfolding core
  in-core k h = omega arith

  -- the bytes after the arrays: `left` zeros after the fields and their end mark
  abbrev left : ℕ
  left = 4096 - length (bytes_of (core_words base v d ++ joined 4 d.lists) ++ with_mark d.fields)

  tail : drop (s + 8 * words_before 4 d.lists) (page_of base v d) ≡ with_mark d.fields ++ replicate left 0
  tail = rw (← offset 4) (fields_at base v d g)

  laid : LaidAfter s base v d (page_of base v d)
  unfolding part plat_word descriptor_at
  laid =
      record {
        size = page-length base v d g;
        version = version-word base v d g;
        sections = λ k h. section k (in-core k h);
        arrays = λ k h. rw (← offset k) (array base v d g k h);
        no_pointer = λ z. plat-pointer base v d g ∙ no_pointer _ d.fields z;
        pointer = λ l. plat-pointer base v d g ∙ some-pointer _ d.fields l ∙ address 4;
        fields = rw tail (fields-front d.fields left);
        rest = λ i h.
            let o = s + 8 * words_before 4 d.lists in
            let j = i - (o + length d.fields) in
            let q : i ≡ o + (length d.fields + j) = omega arith in
            ap (λ n. get_or (page_of base v d) n 0) q
            ∙ sym (get_or-drop o (page_of base v d) (length d.fields + j) 0)
            ∙ ap (λ (zs : List ℕ). get_or zs (length d.fields + j) 0) tail
            ∙ zero-after d.fields left j;
      }
    where
      section : (k : ℕ) → k < section_count v →
          SectionIs k (base + (s + 8 * words_before k d.lists)) (d.lists k)
          (word_at (16 + 24 * k) (page_of base v d)) (word_at (24 + 24 * k) (page_of base v d)) (word_at (32 + 24 * k) (page_of base v d))
      section k h =
          rw (← address k, field base v d g k h 0 (omega arith), field base v d g k h 1 (omega arith), field base v d g k h 2 (omega arith))
          (section-is v k (array_address base v d.lists k) (d.lists k) (ok base v d g k (omega (arith, section-count-most v))))

-- each page that the writer makes from lists of 64-bit words
pub made-laid : (base n v : ℕ) (d : Description) (p : List ℕ) → Yes (description_fits d) →
    write_of base n v d ≡ a-page p → LayoutFacts base v d p
made-laid base n v d p w h =
    let a = made-fit base n v d p w h in
    rw (← a.3) (
      λ e. laid base v 16 d a.0 (rw e core-sizes.0),
      λ e. laid base v 40 d a.0 (rw e core-sizes.1),
      λ e. laid base v 64 d a.0 (rw e core-sizes.2),
      λ e. laid base v 112 d a.0 (rw e core-sizes.3),
    )
