-- Which sections are kept, from the parts alone, without the page. Assumes nothing.
use Prim.Native.Nat.{ℕ, zero, suc, ◌≤◌, ◌<◌}
use mathlib.Core.Bool.{Bool, true, false, cond, not}
use mathlib.Core.Path.{◌≡◌, refl, sym, ◌∙◌}
use native.Mathlib.Omega.{arith}
use native.Mathlib.Decide.{dec_lt}
use native.Mathlib.Nat.{not-suc-le-zero}
use borrow.Author.Tests.{le-leb, ne_eqb, eq-eqb}
use Rattle.words.specs.Tests.{Yes, both, either, every}
use Rattle.words.proofs.Tests.{both_l, both_r, both_of, either_l, either_r, every-at, every_of, every-same}
use Rattle.versions.specs.Edition.{section_count}
use Rattle.entries.specs.Entry.{size}
use Rattle.fields.specs.Fields.{taken}
use Rattle.sections.specs.Page.{PageSection, page_section, PagePlatform, page_platform}
use Rattle.sections.specs.Section.{platform_ok, nothing, section_ok, Extent, extent, apart, clear_before, plat_extent, plat_clear, rules}
use Rattle.reader.proofs.Named.{clear-same}
use Rattle.mend.specs.Mend.{no_platform, no_section, plat_left, stays, after_mending, keeps_section}

-- ---- zero bytes keep every rule, and overlap nothing
none-ok : (w e base k : ℕ) → Yes (section_ok w e base k no_section)
unfolding section_ok nothing no_section page_section
none-ok w e base k = either_l _ _ (both_of _ _ refl (both_of _ _ refl refl))

none_apart : (a : Extent) (k : ℕ) → Yes (apart (extent k no_section) a)
unfolding apart extent no_section page_section size
none_apart a k = either_l _ _ (omega (arith, le-leb))

apart_none : (a : Extent) (k : ℕ) → Yes (apart a (extent k no_section))
unfolding apart extent no_section page_section size
apart_none a k = either_r _ _ (omega (arith, le-leb))

no-plat-apart : (a : Extent) → Yes (apart (plat_extent no_platform) a)
unfolding apart plat_extent no_platform page_platform taken
no-plat-apart a = either_l _ _ (omega (arith, le-leb))

no-plat-ok : (e base : ℕ) → Yes (platform_ok e base no_platform)
unfolding platform_ok no_platform page_platform
no-plat-ok e base = either_l _ _ refl

pub plat-left-ok : (e base : ℕ) (q : PagePlatform) → Yes (platform_ok e base (plat_left e base q))
unfolding plat_left
plat-left-ok e base q = go (platform_ok e base q) refl
  where
    go : (b : Bool) → platform_ok e base q ≡ b → Yes (platform_ok e base (cond b q no_platform))
    go true h = h
    go false h = no-plat-ok e base

cond_yes : {b : Bool} (s t : PageSection) → Yes b → cond b s t ≡ s
cond_yes s t h = rw h

-- ---- one section among those left before it
module _ (w e base : ℕ) (q : PagePlatform) where
  stays_same : (f g : ℕ → PageSection) (k : ℕ) → f k ≡ g k → ((j : ℕ) → j < k → f j ≡ g j) → stays w e base q f k ≡ stays w e base q g k
  unfolding stays plat_clear
  stays_same f g k h i = rw (clear-same f g k h i, h)

  none_stays : (g : ℕ → PageSection) (k : ℕ) → g k ≡ no_section → Yes (stays w e base q g k)
  unfolding stays clear_before plat_clear
  none_stays g k h = rw h (both_of _ _ (none-ok w e base k) (both_of _ _ (every_of k _ (λ j l. none_apart _ k)) (apart_none _ k)))

  stays-rule : (g : ℕ → PageSection) (k : ℕ) → Yes (stays w e base q g k) → Yes (section_ok w e base k (g k))
  unfolding stays
  stays-rule g k h = both_l _ _ h

  stays-clear : (g : ℕ → PageSection) (k : ℕ) → Yes (stays w e base q g k) → Yes (clear_before g k)
  unfolding stays
  stays-clear g k h = both_l _ _ (both_r _ _ h)

  stays-plat : (g : ℕ → PageSection) (k : ℕ) → Yes (stays w e base q g k) → Yes (plat_clear q g k)
  unfolding stays
  stays-plat g k h = both_r _ _ (both_r _ _ h)

  rules-stays : (f : ℕ → PageSection) (pad : ℕ) → Yes (rules w e base pad q f) → (k : ℕ) → k < section_count e → Yes (stays w e base q f k)
  unfolding rules stays
  rules-stays f pad t k l =
      let a = both_r _ _ (both_r _ _ t) in
      let b = both_r _ _ a in
      both_of _ _ (every-at (section_count e) _ (both_l _ _ a) k l)
      (both_of _ _ (every-at (section_count e) _ (both_l _ _ b) k l) (every-at (section_count e) _ (both_r _ _ b) k l))

-- ---- all of them
module _ (w e base : ℕ) (q : PagePlatform) (f : ℕ → PageSection) where
  left_at : (n : ℕ) → after_mending w e base q f (suc n) n ≡ cond (keeps_section w e base q f n) (f n) no_section
  unfolding after_mending keeps_section
  left_at n = rw (eq-eqb n n refl)

  left_other : (n k : ℕ) → (k ≡ n → ⊥) → after_mending w e base q f (suc n) k ≡ after_mending w e base q f n k
  unfolding after_mending
  left_other n k h = rw (ne_eqb k n h)

  -- a section that was not checked yet is unchanged
  pub left-later : (n k : ℕ) → n ≤ k → after_mending w e base q f n k ≡ f k
  unfolding after_mending
  left-later zero k h = refl
  left-later (suc n) k h = left_other n k (λ z. omega arith) ∙ left-later n k (omega arith)

  -- a section that was checked is kept or empty
  pub left-before : (n k : ℕ) → k < n → after_mending w e base q f n k ≡ cond (keeps_section w e base q f k) (f k) no_section
  left-before zero k h = absurd (not-suc-le-zero h)
  left-before (suc n) k h = go (dec_lt k n) (left-before n k)
    where
      go : Dec (k < n) → (k < n → after_mending w e base q f n k ≡ cond (keeps_section w e base q f k) (f k) no_section) →
          after_mending w e base q f (suc n) k ≡ cond (keeps_section w e base q f k) (f k) no_section
      go (yes l) r = left_other n k (λ z. omega arith) ∙ r l
      go (no l) r = rw (let z : k ≡ n = omega arith in z) (left_at n)

  -- the sections that are left in the end
  unfoldable pub last_of : ℕ → PageSection
  last_of k = cond (keeps_section w e base q f k) (f k) no_section

  last-yes : (k : ℕ) → Yes (keeps_section w e base q f k) → last_of k ≡ f k
  unfolding last_of
  last-yes k h = rw h

  last-no : (k : ℕ) → keeps_section w e base q f k ≡ false → last_of k ≡ no_section
  unfolding last_of
  last-no k h = rw h

  left-last : (k j : ℕ) → j < k → after_mending w e base q f k j ≡ last_of j
  unfolding last_of
  left-last k j l = left-before k j l

  last-stays : (k : ℕ) → Yes (stays w e base q last_of k)
  unfolding keeps_section
  last-stays k = go (keeps_section w e base q f k) refl
    where
      go : (b : Bool) → keeps_section w e base q f k ≡ b → Yes (stays w e base q last_of k)
      go true h =
          rw (← stays_same w e base q (after_mending w e base q f k) last_of k (left-later k k (omega arith) ∙ sym (last-yes k h))
          (λ j l. left-last k j l)) h
      go false h = none_stays w e base q last_of k (last-no k h)

  -- they keep all rules
  pub last-rules : Yes (platform_ok e base q) → Yes (rules w e base 0 q last_of)
  unfolding rules
  last-rules p =
      both_of _ _ refl (both_of _ _ p (both_of _ _ (every_of (section_count e) _ (λ k l. stays-rule w e base q _ k (last-stays k)))
      (both_of _ _ (every_of (section_count e) _ (λ k l. stays-clear w e base q _ k (last-stays k)))
      (every_of (section_count e) _ (λ k l. stays-plat w e base q _ k (last-stays k))))))

  -- a kept section keeps its own rule
  pub keeps-rule : (k : ℕ) → Yes (keeps_section w e base q f k) → Yes (section_ok w e base k (f k))
  unfolding keeps_section
  keeps-rule k h = rw (← left-later k k (omega arith)) (stays-rule w e base q (after_mending w e base q f k) k h)

  -- zero bytes are kept
  pub keeps-none : (k : ℕ) → f k ≡ no_section → Yes (keeps_section w e base q f k)
  unfolding keeps_section
  keeps-none k h = none_stays w e base q (after_mending w e base q f k) k (left-later k k (omega arith) ∙ h)

  -- if all rules hold, every section is kept
  keeps-of : (k : ℕ) → ((j : ℕ) → j < k → after_mending w e base q f k j ≡ f j) → Yes (stays w e base q f k) →
      Yes (keeps_section w e base q f k)
  unfolding keeps_section
  keeps-of k r h = rw (stays_same w e base q (after_mending w e base q f k) f k (left-later k k (omega arith)) r) h

  all_left : (pad : ℕ) → Yes (rules w e base pad q f) → (n : ℕ) → n ≤ section_count e → (k : ℕ) → k < n → after_mending w e base q f n k ≡ f k
  all_left pad t zero l k m = absurd (not-suc-le-zero m)
  all_left pad t (suc n) l k m = go (dec_lt k n) (all_left pad t n (omega arith))
    where
      go : Dec (k < n) → ((k : ℕ) → k < n → after_mending w e base q f n k ≡ f k) → after_mending w e base q f (suc n) k ≡ f k
      go (yes x) r = left_other n k (λ z. omega arith) ∙ r k x
      go (no x) r = rw (let z : k ≡ n = omega arith in z) (left_at n ∙ cond_yes _ _ (keeps-of n r (rules-stays w e base q f pad t n l)))

  pub keeps-all : (pad : ℕ) → Yes (rules w e base pad q f) → (k : ℕ) → k < section_count e → Yes (keeps_section w e base q f k)
  keeps-all pad t k l = keeps-of k (all_left pad t k (omega arith)) (rules-stays w e base q f pad t k l)

-- ---- MD2 and MD3: a section is kept when it obeys its own rule and overlaps none that was kept before it
apart-cond : (b : Bool) (a : Extent) (j : ℕ) (s : PageSection) →
    apart a (extent j (cond b s no_section)) ≡ either (not b) (apart a (extent j s))
unfolding either
apart-cond true a j s = refl
apart-cond false a j s = apart_none a j

plat-cond : (b : Bool) (q : PagePlatform) (a : Extent) →
    apart (plat_extent (cond b q no_platform)) a ≡ either (not b) (apart (plat_extent q) a)
unfolding either
plat-cond true q a = refl
plat-cond false q a = no-plat-apart a

pub keeps-is : (w e base : ℕ) (q : PagePlatform) (f : ℕ → PageSection) (k : ℕ) →
    keeps_section w e base (plat_left e base q) f k ≡ both (section_ok w e base k (f k))
    (both (every k (λ j. either (not (keeps_section w e base (plat_left e base q) f j)) (apart (extent k (f k)) (extent j (f j)))))
    (either (not (platform_ok e base q)) (apart (plat_extent q) (extent k (f k)))))
unfolding keeps_section stays clear_before plat_clear plat_left
keeps-is w e base q f k =
    rw (
      left-later w e base (plat_left e base q) f k k (omega arith),
      every-same k (λ j. apart (extent k (f k)) (extent j (after_mending w e base (plat_left e base q) f k j)))
          (λ j. either (not (keeps_section w e base (plat_left e base q) f j)) (apart (extent k (f k)) (extent j (f j))))
          (λ j l. rw (left-before w e base (plat_left e base q) f k j l)
          (apart-cond (keeps_section w e base (plat_left e base q) f j) (extent k (f k)) j (f j))),
      plat-cond (platform_ok e base q) q (extent k (f k)),
    )
