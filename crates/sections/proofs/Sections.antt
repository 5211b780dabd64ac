-- Laws of the rules of a page's sections. Assumes nothing.
use Prim.Native.Nat.{ℕ, ◌+◌, ◌-◌, ◌*◌, ◌%◌, ◌^◌, ◌≤◌, ◌<◌}
use mathlib.Core.Path.{◌≡◌, refl, sym, subst, ◌∙◌}
use mathlib.Core.Bool.{Bool, true, false, cond}
use mathlib.Core.List.{List, []}
use native.Mathlib.Omega.{arith}
use native.Mathlib.Decide.{dec_le}
use lib.Dec.{leb, eqb}
use lib.ListN.{length, drop, length-drop}
use borrow.Author.Tests.{leb-true, ltb-true, eqb-true, le-leb, lt-leb, lt-ltb, le-ltb, eq-eqb, ne_eqb}
use Rattle.words.specs.Tests.{Yes, both, either, every}
use Rattle.words.specs.Word.{part, word_at}
use Rattle.words.proofs.Tests.{both_l, both_r, both_of, either-cases, every-at, every_of, every-none, every_more, every-not}
use Rattle.versions.specs.Edition.{section_count, core}
use Rattle.entries.specs.Entry.{words_per_entry, size}
use Rattle.entries.specs.Array.{words_at, sound_of}
use Rattle.sections.specs.Page.{place_ok, PagePlatform, padding_at, count_at, pointer_at, check_at, in_page, array_at, page_section}
use Rattle.sections.specs.Page.{page_section_at, page_platform, found_at, platform_at}
use Rattle.sections.specs.Section.{platform_ok, words_in, nothing, in_range, section_ok, extent, apart, clear_before, plat_extent}
use Rattle.sections.specs.Section.{plat_clear, rules, rules_at}
use Rattle.sections.specs.Steps.{plat_end, ok_at, ok_to, end_of, apart_at, clear_to, apart_to, clear_at, clear_from, stays_at}
use Rattle.fields.specs.Fields.{Scanned, broken, ended, bare, is_ended, taken, scan_of}
use Rattle.fields.specs.Steps.{end_told}
use Rattle.fields.proofs.Same.{taken-room}
use Rattle.std.proofs.Common.{Option, Some, None, MatchBool, HoldsAt, get_or}
use Rattle.std.specs.List.{AllWithin, range_with_len}
use Rattle.std.proofs.lemmas.List.FromFn.{length-range_with_len, get_or-range_with_len}

-- ---- base and length of a page
pub placed : (base n : ℕ) → Yes (place_ok base n) → (n ≡ 4096) × (0 < base) × (base % 4096 ≡ 0) × (base ≤ 2 ^ 52 - 4096)
unfolding place_ok
placed base n t =
    let a = both_r _ _ t in
    let b = both_r _ _ a in
    (eqb-true _ _ (both_l _ _ t), ltb-true _ _ (both_l _ _ a), eqb-true _ _ (both_l _ _ b), leb-true _ _ (both_r _ _ b))

-- ---- one section
size_none : (k : ℕ) → size k 0 ≡ 0
unfolding size
size_none k = omega arith

module _ (e base k c p : ℕ) (h : in_range e base k c p ≡ true) where
  pub range-low : base + core e ≤ p
  unfolding in_range
  range-low = leb-true _ _ (both_l _ _ h)

  pub range-high : p + size k c ≤ base + 4096
  unfolding in_range
  range-high = leb-true _ _ (both_r _ _ h)

  -- such an array is within the page
  pub array-in : (page : List ℕ) → array_at base page p (size k c) ≡ part (p - base) (size k c) page
  unfolding array_at in_page
  array-in page =
      let a = range-low in
      let b = range-high in
      rw (both_of (leb base p) (leb (p + size k c) (base + 4096)) (omega (arith, le-leb)) (omega (arith, le-leb)))

module _ (w e base k : ℕ) (page : List ℕ) where
  pub ok-nothing : nothing (count_at k page) (pointer_at k page) (check_at k page) ≡ true → ok_at w e base k page ≡ true
  unfolding ok_at section_ok page_section_at page_section either
  ok-nothing h = rw h

  ok-range : nothing (count_at k page) (pointer_at k page) (check_at k page) ≡ false →
      in_range e base k (count_at k page) (pointer_at k page) ≡ false → ok_at w e base k page ≡ false
  unfolding ok_at section_ok page_section_at page_section either both
  ok-range h g = rw (h, g)

  pub ok-sound : nothing (count_at k page) (pointer_at k page) (check_at k page) ≡ false →
      in_range e base k (count_at k page) (pointer_at k page) ≡ true →
      ok_at w e base k page ≡ sound_of w k (count_at k page) (pointer_at k page) (check_at k page)
      (words_at k (count_at k page) (pointer_at k page - base) page)
  unfolding ok_at section_ok page_section_at page_section either both words_in words_at
  ok-sound h g = rw (h, g, array-in e base k (count_at k page) (pointer_at k page) g page)

  -- an array that starts after the core is in range exactly if it ends within the page
  pub ok-placed : nothing (count_at k page) (pointer_at k page) (check_at k page) ≡ false → base + core e ≤ pointer_at k page →
      length page ≡ 4096 →
      ok_at w e base k page ≡ both (leb (pointer_at k page - base + size k (count_at k page)) (length page))
      (sound_of w k (count_at k page) (pointer_at k page) (check_at k page) (words_at k (count_at k page) (pointer_at k page - base) page))
  unfolding in_range both
  ok-placed h g n = go (dec_le (pointer_at k page - base + size k (count_at k page)) (length page))
    where
      go : Dec (pointer_at k page - base + size k (count_at k page) ≤ length page) →
          ok_at w e base k page ≡ both (leb (pointer_at k page - base + size k (count_at k page)) (length page))
          (sound_of w k (count_at k page) (pointer_at k page) (check_at k page) (words_at k (count_at k page) (pointer_at k page - base) page))
      go (yes m) =
          rw (le-leb (pointer_at k page - base + size k (count_at k page)) (length page) m)
          (ok-sound h (both_of _ _ (le-leb (base + core e) (pointer_at k page) g)
          (le-leb (pointer_at k page + size k (count_at k page)) (base + 4096) (omega arith))))
      go (no m) =
          rw (lt-leb (pointer_at k page - base + size k (count_at k page)) (length page) (omega arith))
          (ok-range h (rw (
            le-leb (base + core e) (pointer_at k page) g,
            lt-leb (pointer_at k page + size k (count_at k page)) (base + 4096) (omega arith),
          )))

  -- an array that starts before the core's end breaks the rule
  pub ok-low : nothing (count_at k page) (pointer_at k page) (check_at k page) ≡ false → pointer_at k page < base + core e →
      ok_at w e base k page ≡ false
  unfolding in_range both
  ok-low h g = ok-range h (rw (lt-leb (base + core e) (pointer_at k page) g))

  -- the same, given the three words that the code read
  module _ (n p x : ℕ) (cn : n ≡ count_at k page) (cp : p ≡ pointer_at k page) (cx : x ≡ check_at k page) (z : Bool)
      (cz : z ≡ nothing n p x) where
    was-nothing : nothing (count_at k page) (pointer_at k page) (check_at k page) ≡ z
    was-nothing = rw (← cn, ← cp, ← cx) (sym cz)

    pub told-nothing : z ≡ true → true ≡ ok_at w e base k page
    told-nothing h = sym (ok-nothing (was-nothing ∙ h))

    module _ (h : z ≡ false) where
      pub told-low : p < base + core e → false ≡ ok_at w e base k page
      told-low g = sym (ok-low (was-nothing ∙ h) (rw (← cp) g))

      pub told-placed : base + core e ≤ p → length page ≡ 4096 → (r : Bool) →
          r ≡ both (leb (p - base + size k n) (length page)) (sound_of w k n p x (words_at k n (p - base) page)) → r ≡ ok_at w e base k page
      told-placed g l r q = q ∙ rw (cn, cp, cx) (sym (ok-placed (was-nothing ∙ h) (rw (← cp) g) l))

  -- a good section that is not empty has its array in range
  pub ok-in-range : ok_at w e base k page ≡ true → (count_at k page ≡ 0 → ⊥) → in_range e base k (count_at k page) (pointer_at k page) ≡ true
  unfolding ok_at section_ok page_section_at page_section nothing
  ok-in-range h z = either-cases _ _ (λ n. absurd (z (eqb-true _ _ (both_l _ _ n)))) (λ n. both_l _ _ n) h

  -- the array of a good section ends within the page
  pub ok_end : ok_at w e base k page ≡ true → end_of k page ≤ base + 4096
  unfolding ok_at section_ok page_section_at page_section nothing end_of
  ok_end h =
      either-cases _ _
      (λ n.
      let c : count_at k page ≡ 0 = eqb-true _ _ (both_l _ _ n) in
      let p : pointer_at k page ≡ 0 = eqb-true _ _ (both_l _ _ (both_r _ _ n)) in
      rw (c, p, size_none k) (omega arith))
      (λ n. range-high e base k (count_at k page) (pointer_at k page) (both_l _ _ n))
      h

-- ---- all sections of an edition, each by itself
module _ (w e base : ℕ) (page : List ℕ) where
  pub ok-each : (n k : ℕ) → ok_to w e base n page ≡ true → k < n → ok_at w e base k page ≡ true
  unfolding ok_to
  ok-each n k h l = every-at n (λ k. ok_at w e base k page) h k l

-- ---- two arrays
pub end-steps : (k w c : ℕ) (page : List ℕ) → w ≡ words_per_entry k → c ≡ count_at k page → pointer_at k page + 8 * (w * c) ≡ end_of k page
unfolding end_of size
end-steps k w c page e f = rw (e, f)

module _ (page : List ℕ) where
  pub clear_none : (i : ℕ) → clear_to i 0 page ≡ true
  unfolding clear_to
  clear_none i = every-none (λ j. apart_at i j page)

  pub clear-more : (i j : ℕ) → clear_to i j page ≡ true → apart_at i j page ≡ true → clear_to i (j + 1) page ≡ true
  unfolding clear_to
  clear-more i j p q = every_more j (λ j. apart_at i j page) p q

  -- the array of section i, given its two addresses
  pub pair-apart : (i j from to : ℕ) → from ≡ pointer_at i page → to ≡ end_of i page → clear_at from to j page ≡ apart_at i j page
  unfolding clear_at apart_at
  pair-apart i j from to p q = rw (p, q)

  pub apart_none : apart_to 0 page ≡ true
  unfolding apart_to
  apart_none = every-none (λ i. clear_to i i page)

  pub apart_more : (i : ℕ) → apart_to i page ≡ true → clear_to i i page ≡ true → apart_to (i + 1) page ≡ true
  unfolding apart_to
  apart_more i p q = every_more i (λ i. clear_to i i page) p q

  pub apart-not : (n i j : ℕ) → i < n → j < i → apart_at i j page ≡ false → apart_to n page ≡ false
  unfolding apart_to clear_to
  apart-not n i j h k q = every-not n (λ i. clear_to i i page) i h (every-not i (λ j. apart_at i j page) j k q)

-- ---- the fields and the arrays
module _ (from to : ℕ) (page : List ℕ) where
  pub clear-from-0 : (n : ℕ) → to ≡ 0 → clear_from from to n page ≡ true
  unfolding clear_from clear_at either
  clear-from-0 n z = every_of n (λ k. clear_at from to k page) (λ k l. rw (le-leb to (pointer_at k page) (omega arith)))

-- one array, compared as in the code: by its size, because its end may exceed 2^64
module _ (from to k : ℕ) (page : List ℕ) where
  clear-below : to ≤ pointer_at k page → clear_at from to k page ≡ true
  unfolding clear_at either
  clear-below h = rw (le-leb to (pointer_at k page) h)

  module _ (h : pointer_at k page < to) where
    clear-across : from < pointer_at k page → clear_at from to k page ≡ false
    unfolding clear_at end_of either
    clear-across g = rw (lt-leb to (pointer_at k page) h, lt-leb (pointer_at k page + size k (count_at k page)) from (omega arith))

    clear_above : pointer_at k page ≤ from → clear_at from to k page ≡ leb (size k (count_at k page)) (from - pointer_at k page)
    unfolding clear_at end_of either
    clear_above g = rw (lt-leb to (pointer_at k page) h) (go (dec_le (size k (count_at k page)) (from - pointer_at k page)))
      where
        go : Dec (size k (count_at k page) ≤ from - pointer_at k page) →
            leb (pointer_at k page + size k (count_at k page)) from ≡ leb (size k (count_at k page)) (from - pointer_at k page)
        go (yes l) =
            rw (
              le-leb (size k (count_at k page)) (from - pointer_at k page) l,
              le-leb (pointer_at k page + size k (count_at k page)) from (omega arith),
            )
        go (no l) =
            rw (
              lt-leb (size k (count_at k page)) (from - pointer_at k page) (omega arith),
              lt-leb (pointer_at k page + size k (count_at k page)) from (omega arith),
            )

  -- the same, given the words that the code read
  module _ (p : ℕ) (cp : p ≡ pointer_at k page) where
    pub told_below : to ≤ p → true ≡ clear_at from to k page
    told_below h = sym (clear-below (rw (← cp) h))

    module _ (h : p < to) where
      pub told-across : from < p → false ≡ clear_at from to k page
      told-across g = sym (clear-across (rw (← cp) h) (rw (← cp) g))

      pub told-above : p ≤ from → (n : ℕ) → n ≡ count_at k page → (r : Bool) → r ≡ leb (size k n) (from - p) → r ≡ clear_at from to k page
      told-above g n cn r q = q ∙ rw (cn, cp) (sym (clear_above (rw (← cp) h) (rw (← cp) g)))

-- fields that a reader accepts, given the result of the pass over them
pub end-told : (s : Scanned) → cond (is_ended s) (Some (taken s)) None ≡ end_told s
unfolding is_ended taken end_told
end-told broken = refl
end-told (ended fs n) = refl
end-told (bare fs) = refl

-- the platform data, by where the pointer is
module _ (e base q : ℕ) (page : List ℕ) where
  pub plat-none : q ≡ 0 → plat_end e base (page_platform q (found_at base page q)) ≡ Some 0
  unfolding plat_end platform_ok page_platform found_at either taken
  plat-none z = rw (eq-eqb q 0 z)

  module _ (n : q ≡ 0 → ⊥) where
    pub plat-low : q < base + core e → plat_end e base (page_platform q (found_at base page q)) ≡ None
    unfolding plat_end platform_ok page_platform either both
    plat-low l = rw (ne_eqb q 0 n, lt-leb (base + core e) q l)

    module _ (h : base + core e ≤ q) where
      pub plat-high : base + 4096 ≤ q → plat_end e base (page_platform q (found_at base page q)) ≡ None
      unfolding plat_end platform_ok page_platform either both
      plat-high l = rw (ne_eqb q 0 n, le-leb (base + core e) q h, le-ltb q (base + 4096) l)

      pub plat-in : q < base + 4096 → plat_end e base (page_platform q (found_at base page q)) ≡ end_told (scan_of (drop (q - base) page))
      unfolding plat_end platform_ok page_platform found_at in_page either both
      plat-in l =
          rw (
            ne_eqb q 0 n,
            le-leb (base + core e) q h,
            lt-ltb q (base + 4096) l,
            le-leb base q (omega arith),
            le-leb (q + 1) (base + 4096) (omega arith),
          )
          (end-told (scan_of (drop (q - base) page)))

-- what the result of the pass over the fields implies for the rule
by-broken : (b : Bool) (n : ℕ) → None ≡ cond b (Some n) None → b ≡ false
by-broken true n h = absurd (let z : ◌≡◌ {A = ℕ} 0 1 = cc in omega arith)
by-broken false n h = refl

by-ended : (b : Bool) (n m : ℕ) → Some m ≡ cond b (Some n) None → (b ≡ true) × (m ≡ n)
by-ended true n m h = (refl, cc)
by-ended false n m h = absurd (let z : ◌≡◌ {A = ℕ} 0 1 = cc in omega arith)

module _ (e base : ℕ) (q : PagePlatform) where
  pub plat-broken : None ≡ plat_end e base q → platform_ok e base q ≡ false
  unfolding plat_end
  plat-broken h = by-broken (platform_ok e base q) (taken q.found) h

  pub plat-ended : (m : ℕ) → Some m ≡ plat_end e base q → (platform_ok e base q ≡ true) × (m ≡ taken q.found)
  unfolding plat_end
  plat-ended m h = by-ended (platform_ok e base q) (taken q.found) m h

-- the fields have at most as many bytes as there are from the pointer to the page's end
taken-case : (b : Bool) (s t : Scanned) (n : ℕ) → taken s ≤ n → taken t ≤ n → taken (cond b s t) ≤ n
taken-case true s t n x y = x
taken-case false s t n x y = y

pub found_within : (base q : ℕ) (page : List ℕ) → length page ≡ 4096 → taken (found_at base page q) ≤ 4096 - (q - base)
unfolding found_at taken
found_within base q page l =
    taken-case (eqb q 0) (ended [] 0) (cond (in_page base q 1) (scan_of (drop (q - base) page)) broken) (4096 - (q - base)) (omega arith)
    (taken-case (in_page base q 1) (scan_of (drop (q - base) page)) broken (4096 - (q - base))
    (omega (arith, taken-room (drop (q - base) page), length-drop (q - base) page)) (omega arith))

pub found-room : (base q : ℕ) (page : List ℕ) → length page ≡ 4096 → taken (found_at base page q) ≤ 4096
found-room base q page l = omega (arith, found_within base q page l)

-- so the address after them does not wrap
pub plat-top : (e base : ℕ) (page : List ℕ) → length page ≡ 4096 → platform_ok e base (platform_at base page) ≡ true →
    word_at 8 page + taken (found_at base page (word_at 8 page)) ≤ base + 8192
unfolding platform_ok platform_at page_platform
plat-top e base page l h =
    let r = found-room base (word_at 8 page) page l in
    either-cases _ _
    (λ z. let q : word_at 8 page ≡ 0 = eqb-true _ _ z in omega arith)
    (λ b. let q : word_at 8 page < base + 4096 = ltb-true _ _ (both_l _ _ (both_r _ _ b)) in omega arith)
    h

-- ---- the rules of a page, check by check
pub rules-steps : (w e base : ℕ) (page : List ℕ) →
    rules_at w e base page ≡ both (eqb (padding_at page) 0)
    (both (platform_ok e base (platform_at base page))
    (both (ok_to w e base (section_count e) page)
    (both (apart_to (section_count e) page) (clear_from (word_at 8 page) (word_at 8 page + taken (found_at base page (word_at 8 page)))
    (section_count e) page))))
unfolding rules_at rules ok_to ok_at apart_to clear_to apart_at clear_before apart extent end_of page_section_at page_section plat_clear plat_extent
    platform_at page_platform clear_from clear_at
rules-steps w e base page = refl

module _ (w e base : ℕ) (page : List ℕ) where
  rules-padding : (padding_at page ≡ 0 → ⊥) → rules_at w e base page ≡ false
  unfolding both
  rules-padding p = rw (rules-steps w e base page, ne_eqb (padding_at page) 0 p)

  module _ (p : padding_at page ≡ 0) where
    rules-plat : platform_ok e base (platform_at base page) ≡ false → rules_at w e base page ≡ false
    unfolding both
    rules-plat q = rw (rules-steps w e base page, eq-eqb (padding_at page) 0 p, q)

    module _ (q : platform_ok e base (platform_at base page) ≡ true) where
      rules-each : ok_to w e base (section_count e) page ≡ false → rules_at w e base page ≡ false
      unfolding both
      rules-each o = rw (rules-steps w e base page, eq-eqb (padding_at page) 0 p, q, o)

      module _ (o : ok_to w e base (section_count e) page ≡ true) where
        rules-apart : apart_to (section_count e) page ≡ false → rules_at w e base page ≡ false
        unfolding both
        rules-apart a = rw (rules-steps w e base page, eq-eqb (padding_at page) 0 p, q, o, a)

        rules-clear : apart_to (section_count e) page ≡ true →
            rules_at w e base page ≡ clear_from (word_at 8 page) (word_at 8 page + taken (found_at base page (word_at 8 page)))
            (section_count e) page
        unfolding both
        rules-clear a = rw (rules-steps w e base page, eq-eqb (padding_at page) 0 p, q, o, a)

-- the same, given the words that the code read and the results of its calls
module _ (w e base : ℕ) (page : List ℕ) (d : ℕ) (cd : d ≡ padding_at page) where
  pub told-padding : (d ≡ 0 → ⊥) → false ≡ rules_at w e base page
  told-padding n = sym (rules-padding w e base page (λ z. n (cd ∙ z)))

  module _ (z : d ≡ 0) (q : ℕ) (cq : q ≡ word_at 8 page) (x : Option ℕ)
      (cx : x ≡ plat_end e base (page_platform q (found_at base page q))) where
    is_none : padding_at page ≡ 0
    is_none = sym cd ∙ z

    is-end : x ≡ plat_end e base (platform_at base page)
    unfolding platform_at
    is-end = cx ∙ rw cq

    pub told-broken : x ≡ None → false ≡ rules_at w e base page
    told-broken h = sym (rules-plat w e base page is_none (plat-broken e base (platform_at base page) (sym h ∙ is-end)))

    module _ (m : ℕ) (h : x ≡ Some m) where
      is-plat : (platform_ok e base (platform_at base page) ≡ true) × (m ≡ taken (found_at base page (word_at 8 page)))
      unfolding platform_at page_platform
      is-plat = plat-ended e base (platform_at base page) m (sym h ∙ is-end)

      pub told-top : length page ≡ 4096 → q + m ≤ base + 8192
      told-top l = rw (is-plat.1, cq) (plat-top e base page l is-plat.0)

      module _ (n : ℕ) (cn : n ≡ section_count e) (o : Bool) (co : o ≡ ok_to w e base n page) where
        pub told-each : o ≡ false → false ≡ rules_at w e base page
        told-each f = sym (rules-each w e base page is_none is-plat.0 (rw (← cn) (sym co ∙ f)))

        module _ (t : o ≡ true) (a : Bool) (ca : a ≡ apart_to n page) where
          pub told-apart : a ≡ false → false ≡ rules_at w e base page
          told-apart f = sym (rules-apart w e base page is_none is-plat.0 (rw (← cn) (sym co ∙ t)) (rw (← cn) (sym ca ∙ f)))

          pub told-clear : a ≡ true → (r : Bool) → r ≡ clear_from q (q + m) n page → r ≡ rules_at w e base page
          told-clear y r c =
              c ∙ rw (is-plat.1, cq, cn) (sym (rules-clear w e base page is_none is-plat.0 (rw (← cn) (sym co ∙ t))
              (rw (← cn) (sym ca ∙ y))))

pub told-ends : (w e base n : ℕ) (page : List ℕ) (o : Bool) → o ≡ ok_to w e base n page → o ≡ true → (k : ℕ) → k < n →
    end_of k page ≤ base + 4096
told-ends w e base n page o c t k l = ok_end w e base k page (ok-each w e base page n k (sym c ∙ t) l)

pub rules-sections : (w e base : ℕ) (page : List ℕ) → rules_at w e base page ≡ true → ok_to w e base (section_count e) page ≡ true
rules-sections w e base page h = both_l _ _ (both_r _ _ (both_r _ _ (rw (rules-steps w e base page) at h)))

pub rules-at : (w e base : ℕ) (page : List ℕ) → rules_at w e base page ≡ true → (k : ℕ) → k < section_count e → ok_at w e base k page ≡ true
rules-at w e base page h k l = ok-each w e base page (section_count e) k (rules-sections w e base page h) l

pub rules-pointer : (w e base : ℕ) (page : List ℕ) → rules_at w e base page ≡ true → platform_ok e base (platform_at base page) ≡ true
rules-pointer w e base page h = both_l _ _ (both_r _ _ (rw (rules-steps w e base page) at h))

-- ---- the rule of one section among others, check by check
module _ (w e base k from to : ℕ) (page : List ℕ) where
  stays-own : ok_at w e base k page ≡ false → stays_at w e base k from to page ≡ false
  unfolding stays_at both
  stays-own o = rw o

  module _ (o : ok_at w e base k page ≡ true) where
    stays-before : clear_from (pointer_at k page) (end_of k page) k page ≡ false → stays_at w e base k from to page ≡ false
    unfolding stays_at both
    stays-before a = rw (o, a)

    pub stays-clear : clear_from (pointer_at k page) (end_of k page) k page ≡ true → stays_at w e base k from to page ≡ clear_at from to k page
    unfolding stays_at both
    stays-clear a = rw (o, a)

-- the same, given the words that the code read and the results of its calls
module _ (w e base k : ℕ) (page : List ℕ) (z : Bool) (c : z ≡ ok_at w e base k page) where
  pub told-end : z ≡ true → end_of k page ≤ base + 4096
  told-end h = ok_end w e base k page (sym c ∙ h)

  module _ (v : place_ok base (length page) ≡ true) (from to : ℕ) where
    pub told-own : z ≡ false → false ≡ both (place_ok base (length page)) (stays_at w e base k from to page)
    unfolding both
    told-own h = rw v (sym (stays-own w e base k from to page (sym c ∙ h)))

    module _ (h : z ≡ true) (p : ℕ) (cp : p ≡ pointer_at k page) (q : ℕ) (cq : q ≡ end_of k page) (y : Bool)
        (cy : y ≡ clear_from p q k page) where
      pub told-before : y ≡ false → false ≡ both (place_ok base (length page)) (stays_at w e base k from to page)
      unfolding both
      told-before g = rw v (sym (stays-before w e base k from to page (sym c ∙ h) (rw (← cp, ← cq) (sym cy ∙ g))))

      pub told-stays : y ≡ true → (r : Bool) → r ≡ clear_at from to k page →
          r ≡ both (place_ok base (length page)) (stays_at w e base k from to page)
      unfolding both
      told-stays g r m = rw v (m ∙ sym (stays-clear w e base k from to page (sym c ∙ h) (rw (← cp, ← cq) (sym cy ∙ g))))

-- ---- a test of each number below n, made by `all` over the range
pub every-ran : (f : ℕ → Bool) (n : ℕ) (r : Bool)
    → MatchBool r (AllWithin (λ k. f k ≡ true) (range_with_len 0 n) 0 (length (range_with_len 0 n))) ((k : ℕ) × (k < length (range_with_len 0 n)) × HoldsAt (λ j. f j ≡ false) (range_with_len 0 n) k)
    → r ≡ every n f
every-ran f n true h =
    sym (every_of n f (λ i l.
    let e : get_or (range_with_len 0 n) i 0 ≡ i = get_or-range_with_len 0 n i 0 l ∙ omega arith in
    subst (λ x. f x ≡ true) e (h i 0 (omega arith) (rw (length-range_with_len 0 n) l))))
every-ran f n false h =
    let l : h.0 < n = rw (length-range_with_len 0 n) at h.1 in
    let e : get_or (range_with_len 0 n) h.0 0 ≡ h.0 = get_or-range_with_len 0 n h.0 0 l ∙ omega arith in
    sym (every-not n f h.0 l (subst (λ x. f x ≡ false) e (h.2 0)))
