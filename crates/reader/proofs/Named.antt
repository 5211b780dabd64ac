-- A reader looks only at the bytes that an edition names. Assumes nothing.
use Prim.Native.Nat.{ℕ, ◌+◌, ◌-◌, ◌*◌, min, ◌≤◌, ◌<◌}
use mathlib.Core.Bool.{Bool, true, false, cond}
use mathlib.Core.Path.{◌≡◌, refl, sym, ap}
use mathlib.Core.List.{List}
use native.Mathlib.Omega.{arith}
use native.Mathlib.Decide.{dec_lt}
use lib.ListN.{length, get_or, drop, length-drop}
use lib.Seq.{get_or-drop}
use lib.Dec.{ltb, eqb, lit≤}
use borrow.Author.Tests.{eqb-true, leb-true, le-leb, lt-ltb, le-ltb}
use Rattle.words.specs.Tests.{Yes, either, some}
use Rattle.words.specs.Word.{le_of, num_at, word_at}
use Rattle.words.proofs.Tests.{both_l, both_r, both_of, either_l, either_r, either-map, every-same, some_of, cond_same}
use Rattle.words.proofs.Read.{part_same}
use Rattle.versions.specs.Version.{minor_of, version_ok}
use Rattle.versions.specs.Edition.{section_count, core}
use Rattle.entries.specs.Entry.{size}
use Rattle.fields.specs.Fields.{scan_of}
use Rattle.fields.proofs.Same.{found-same}
use Rattle.sections.specs.Page.{place_ok, version_at, count_at, pointer_at, in_page, array_at, PageSection, page_section_at, PagePlatform, found_at}
use Rattle.sections.specs.Page.{platform_at}
use Rattle.sections.specs.Section.{section_ok, clear_before, plat_clear, rules}
use Rattle.reader.specs.Answer.{ReaderAnswer, shown, all_shown, reader_gate, judge, read_of, in_array, in_plat, named_by, named}
use Rattle.reader.proofs.Newer.{shows_same}

-- ---- the answer depends only on what is read
gate_same : (p v v' o o' : Bool) (c c' : ReaderAnswer) → (Yes p → v ≡ v') → (Yes p → Yes v → (o ≡ o') × (c ≡ c')) →
    reader_gate p v o c ≡ reader_gate p v' o' c'
unfolding reader_gate
gate_same true true v' o o' c c' f g = rw (← f refl, (g refl refl).0, (g refl refl).1)
gate_same true false v' o o' c c' f g = rw (← f refl)
gate_same false v v' o o' c c' f g = refl

pub clear-same : (f g : ℕ → PageSection) (i : ℕ) → f i ≡ g i → ((j : ℕ) → j < i → f j ≡ g j) → clear_before f i ≡ clear_before g i
unfolding clear_before
clear-same f g i e h = every-same i _ _ (λ j m. rw (e, h j m))

plat-clear-same : (q : PagePlatform) (f g : ℕ → PageSection) (k : ℕ) → f k ≡ g k → plat_clear q f k ≡ plat_clear q g k
unfolding plat_clear
plat-clear-same q f g k e = rw e

pub rules-same : (w e base pad : ℕ) (q : PagePlatform) (f g : ℕ → PageSection) → ((k : ℕ) → k < section_count e → f k ≡ g k) →
    rules w e base pad q f ≡ rules w e base pad q g
unfolding rules
rules-same w e base pad q f g h =
    rw (
      every-same (section_count e) (λ k. section_ok w e base k (f k)) (λ k. section_ok w e base k (g k)) (λ k l. rw (h k l)),
      every-same (section_count e) (λ k. clear_before f k) (λ k. clear_before g k)
          (λ k l. clear-same f g k (h k l) (λ j m. h j (omega arith))),
      every-same (section_count e) (λ k. plat_clear q f k) (λ k. plat_clear q g k) (λ k l. plat-clear-same q f g k (h k l)),
    )

pub shown-same : (w e k : ℕ) (s t : PageSection) → (k < section_count e → s ≡ t) → shown w e k s ≡ shown w e k t
unfolding shown
shown-same w e k s t h = go (dec_lt k (section_count e))
  where
    go : Dec (k < section_count e) → shown w e k s ≡ shown w e k t
    go (yes l) = rw (h l)
    go (no l) = rw (le-ltb k (section_count e) (omega arith))

pub view-same : (w e : ℕ) (q : PagePlatform) (f g : ℕ → PageSection) → ((k : ℕ) → k < section_count e → f k ≡ g k) →
    all_shown w e q f ≡ all_shown w e q g
unfolding all_shown
view-same w e q f g h = shows_same _ _ _ _ _ (λ k. shown-same w e k (f k) (g k) (h k))

pub low-page : (base a n : ℕ) → Yes (in_page base a n) → base ≤ a
unfolding in_page
low-page base a n y = leb-true _ _ (both_l _ _ y)

pub found_in : (base : ℕ) (page : List ℕ) (a : ℕ) → eqb a 0 ≡ false → Yes (in_page base a 1) →
    found_at base page a ≡ scan_of (drop (a - base) page)
unfolding found_at
found_in base page a z y = rw (z, y)

cond-else : {A : Type 0} (b : Bool) (x y z : A) → (b ≡ false → y ≡ z) → cond b x y ≡ cond b x z
cond-else true x y z h = refl
cond-else false x y z h = h refl

place-length : (base n : ℕ) → Yes (place_ok base n) → Yes (eqb n 4096)
unfolding place_ok
place-length base n t = both_l _ _ t

-- ---- two pages that agree in the core and the arrays of an edition
module _ (e base : ℕ) (p q : List ℕ) (l : length p ≡ length q)
    (g : (i : ℕ) → Yes (either (ltb i (core e)) (some (section_count e) (in_array base p i))) → get_or p i 0 ≡ get_or q i 0) where
  pub core-same : (off n : ℕ) → off + n ≤ core e → num_at n off p ≡ num_at n off q
  unfolding num_at
  core-same off n m = ap le_of (part_same off n p q l (λ i a b. g i (either_l _ _ (omega (arith, lt-ltb)))))

  module _ (k : ℕ) (b : k < section_count e) where
    field-same : (off : ℕ) → off ≤ 32 → word_at (off + 24 * k) p ≡ word_at (off + 24 * k) q
    unfolding core
    field-same off m = core-same (off + 24 * k) 8 (omega arith)

    array_same : array_at base p (pointer_at k p) (size k (count_at k p)) ≡ array_at base q (pointer_at k p) (size k (count_at k p))
    unfolding array_at in_array
    array_same = cond_same _ _ _ _ (λ y. part_same _ _ p q l (λ i c d.
        let z = low-page _ _ _ y in
        g i (either_r _ _ (some_of _ _ k b (both_of _ _ y (both_of _ _ (omega (arith, le-leb)) (omega (arith, lt-ltb))))))))

    pub sec-same : page_section_at base p k ≡ page_section_at base q k
    unfolding page_section_at
    sec-same = rw (array_same, field-same 16 (lit≤ tt), field-same 24 (lit≤ tt), field-same 32 (lit≤ tt))

-- ---- two pages that agree in the bytes named in the first
module _ (r base : ℕ) (p q : List ℕ) (l : length p ≡ length q) (h : (i : ℕ) → Yes (named r base p i) → get_or p i 0 ≡ get_or q i 0)
    (t : Yes (place_ok base (length p))) where
  head-same : (n off : ℕ) → off + n ≤ 16 → num_at n off p ≡ num_at n off q
  unfolding named num_at
  head-same n off m = ap le_of (part_same off n p q l (λ i a b.
      let c : i < 16 = omega arith in
      h i (both_of _ _ (place-length base _ t) (either_l _ _ (lt-ltb i 16 c)))))

  module _ (v : Yes (version_ok (version_at p))) where
    rest-same : (i : ℕ) → Yes (named_by (min r (minor_of (version_at p))) base p i) → get_or p i 0 ≡ get_or q i 0
    unfolding named
    rest-same i b = h i (both_of _ _ (place-length base _ t) (either_r _ _ (both_of _ _ v b)))

    parts_same : (i : ℕ) → Yes (either (ltb i (core (min r (minor_of (version_at p)))))
        (some (section_count (min r (minor_of (version_at p)))) (in_array base p i))) → get_or p i 0 ≡ get_or q i 0
    unfolding named_by
    parts_same i b = rest-same i (either-map _ _ _ (either_l _ _) b)

    found-at : (i : ℕ) → Yes (in_plat base p i) → get_or p i 0 ≡ get_or q i 0
    unfolding named_by
    found-at i b = rest-same i (either_r _ _ (either_r _ _ b))

    scan-same : eqb (word_at 8 p) 0 ≡ false → Yes (in_page base (word_at 8 p) 1) →
        scan_of (drop (word_at 8 p - base) p) ≡ scan_of (drop (word_at 8 p - base) q)
    unfolding in_plat
    scan-same n y =
        let a = word_at 8 p in
        let z : base ≤ a = low-page _ _ _ y in
        let m : length p ≡ 4096 = eqb-true _ _ (place-length base _ t) in
        let e : found_at base p a ≡ scan_of (drop (a - base) p) = found_in base p a n y in
        sym (found-same (drop (a - base) p) (drop (a - base) q) _ (simp (length-drop, l)) (rw length-drop (omega arith)) refl (λ i c.
        simp get_or-drop (found-at (a - base + i) (both_of _ _ y (both_of _ _ (omega (arith, le-leb)) (rw e (omega (arith, lt-ltb))))))))

    fields-same : found_at base p (word_at 8 p) ≡ found_at base q (word_at 8 p)
    unfolding found_at
    fields-same = cond-else _ _ _ _ (λ n. cond_same _ _ _ _ (scan-same n))

    plat-same : platform_at base p ≡ platform_at base q
    unfolding platform_at
    plat-same = rw (fields-same, head-same 8 8 (lit≤ tt))

pub unnamed : (r base : ℕ) (p q : List ℕ) → length p ≡ length q → ((i : ℕ) → Yes (named r base p i) → get_or p i 0 ≡ get_or q i 0) →
    read_of r base p ≡ read_of r base q
unfolding read_of judge
unnamed r base p q l h = rw (← l) (gate_same _ _ _ _ _ _ _
    (λ t. rw (head-same r base p q l h t 4 0 (lit≤ tt)))
    (λ t v.
    let f = sec-same (min r (minor_of (version_at p))) base p q l (parts_same r base p q l h t (both_r _ _ v)) in
    rw (← head-same r base p q l h t 4 0 (lit≤ tt), ← head-same r base p q l h t 4 4 (lit≤ tt), ← plat-same r base p q l h t (both_r _ _ v))
    (rules-same _ _ _ _ _ _ _ f, view-same _ _ _ _ _ f)))
