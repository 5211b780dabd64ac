-- A newer reader and an older one on the same page. Assumes nothing.
use Prim.Native.Nat.{ℕ, ◌+◌, min, ◌≤◌}
use mathlib.Core.Bool.{Bool, true, false, false≢true, cond}
use mathlib.Core.Path.{◌≡◌, refl, sym, ap, ◌∙◌, fun_ext}
use mathlib.Core.List.{List}
use native.Mathlib.Omega.{arith}
use lib.Dec.{leb, ltb}
use lib.IntN.{ℤ}
use borrow.Author.Tests.{leb-true, ltb-true, le-leb, lt-ltb}
use Rattle.words.specs.Tests.{Yes, both, every}
use Rattle.words.proofs.Tests.{both_l, both_r, both_of, both-map, either-map, every-at, every_of, same_test}
use Rattle.versions.specs.Edition.{section_count, core, edition_ok}
use Rattle.versions.proofs.Editions.{section-count-mono, section-count-min, edition-of}
use Rattle.sections.specs.Page.{PageSection, PagePlatform}
use Rattle.sections.specs.Section.{in_range, section_ok, platform_ok, rules}
use Rattle.reader.specs.Answer.{Shown, PlatShown, ReaderAnswer, refused, shows, shown, plat_shown, all_shown, reader_gate, judge, read_of}
use Rattle.reader.specs.Answer.{up_to_edition}

-- ---- an earlier edition accepts what a later one accepts
module _ (w a b base : ℕ) (h : a ≤ b) where
  low-mono : (q : ℕ) → Yes (leb (base + core b) q) → Yes (leb (base + core a) q)
  unfolding core
  low-mono q t = let l = section-count-mono a b h in omega (arith, leb-true, le-leb)

  sec_ok-mono : (k : ℕ) (s : PageSection) → Yes (section_ok w b base k s) → Yes (section_ok w a base k s)
  unfolding section_ok in_range
  sec_ok-mono k s = search (either-map, both-map, low-mono)

  plat_ok-mono : (q : PagePlatform) → Yes (platform_ok b base q) → Yes (platform_ok a base q)
  unfolding platform_ok
  plat_ok-mono q = search (either-map, both-map, low-mono)

  every-mono : (f g : ℕ → Bool) → ((i : ℕ) → Yes (f i) → Yes (g i)) → Yes (every (section_count b) f) → Yes (every (section_count a) g)
  every-mono f g m t =
      every_of (section_count a) g (λ i l. m i (every-at (section_count b) f t i (let s = section-count-mono a b h in omega arith)))

  pub rules-mono : (pad : ℕ) (q : PagePlatform) (f : ℕ → PageSection) → Yes (rules w b base pad q f) → Yes (rules w a base pad q f)
  unfolding rules
  rules-mono pad q f = search (both-map, plat_ok-mono, every-mono, sec_ok-mono)

-- ---- the checks in order
pub never : {n : ℤ} {w e : ℕ} {q : PlatShown} {s : ℕ → Shown} → refused n ≡ shows w e q s → ⊥
never h = let z : ◌≡◌ {A = ℕ} 0 1 = cc in omega arith

-- the checks that an accepted page passed
pub gate-shows : (p v o : Bool) (c : ReaderAnswer) (w e : ℕ) (q : PlatShown) (s : ℕ → Shown) → reader_gate p v o c ≡ shows w e q s →
    (Yes p × Yes v × Yes o) × (c ≡ shows w e q s)
unfolding reader_gate
gate-shows true true true c w e q s h = ((refl, refl, refl), h)
gate-shows true true false c w e q s h = absurd (never h)
gate-shows true false o c w e q s h = absurd (never h)
gate-shows false v o c w e q s h = absurd (never h)

pub gate-true : (p v o : Bool) (c : ReaderAnswer) → Yes p → Yes v → Yes o → reader_gate p v o c ≡ c
unfolding reader_gate
gate-true p v o c x y z = rw (x, y, z, reader_gate)

gate-older : (p v o o' : Bool) (w e : ℕ) (q : PlatShown) (s : ℕ → Shown) (c : ReaderAnswer) {n : ℤ} → (Yes o' → Yes o) →
    reader_gate p v o (shows w e q s) ≡ refused n → reader_gate p v o' c ≡ refused n
unfolding reader_gate
gate-older true true true o' w e q s c g h = absurd (never (sym h))
gate-older true true false true w e q s c g h = absurd (false≢true (g refl))
gate-older true true false false w e q s c g h = h
gate-older true false o o' w e q s c g h = h
gate-older false v o o' w e q s c g h = h

-- ---- what is shown
-- an answer as an older reader gives it
unfoldable older : ℕ → ReaderAnswer → ReaderAnswer
older r (refused n) = refused n
older r (shows w e q s) = shows w (min r w) q (up_to_edition r s)

cond_both : (a b : Bool) (x y : Shown) → cond (both a b) x y ≡ cond a (cond b x y) y
unfolding both
cond_both true b x y = refl
cond_both false b x y = refl

pub shows_same : (w e : ℕ) (q : PlatShown) (s t : ℕ → Shown) → ((k : ℕ) → s k ≡ t k) → shows w e q s ≡ shows w e q t
shows_same w e q s t h = ap (shows w e q) (fun_ext h)

shown-less : (r r' w : ℕ) → r ≤ r' → (f : ℕ → PageSection) (k : ℕ) →
    shown w (min r w) k (f k) ≡ up_to_edition r (λ k. shown w (min r' w) k (f k)) k
unfolding shown up_to_edition
shown-less r r' w h f k =
    let m = section-count-min r w in
    let m' = section-count-min r' w in
    let l = section-count-mono r r' h in
    rw (
      ← cond_both,
      same_test (ltb k (section_count (min r w))) (both (ltb k (section_count r)) (ltb k (section_count (min r' w))))
          (λ t. both_of _ _ (omega (arith, ltb-true, lt-ltb)) (omega (arith, ltb-true, lt-ltb)))
          (λ t. let x = both_l _ _ t in let y = both_r _ _ t in omega (arith, ltb-true, lt-ltb)),
    )

-- ---- the two laws
module _ (r r' : ℕ) (lo : 1 ≤ r) (h : r ≤ r') (hi : r' ≤ 4) where
  ed : Yes (edition_ok r) × Yes (edition_ok r')
  ed = (edition-of r lo (omega arith), edition-of r' (omega arith) hi)

  module _ (base n v m pad : ℕ) (p : PagePlatform) (f : ℕ → PageSection) where
    judge-mono : Yes (rules m (min r' m) base pad p f) → Yes (rules m (min r m) base pad p f)
    judge-mono = rules-mono m (min r m) (min r' m) base (omega arith) pad p f

    newer : (w e : ℕ) (q : PlatShown) (s : ℕ → Shown) → judge r' base n v m pad p f ≡ shows w e q s →
        judge r base n v m pad p f ≡ shows w (min r w) q (up_to_edition r s)
    unfolding judge all_shown older
    newer w e q s a =
        let g = gate-shows _ _ _ _ _ _ _ _ a in
        gate-true _ _ _ _ g.0.0 (both_of _ _ ed.0 (both_r _ _ g.0.1)) (judge-mono g.0.2)
        ∙ shows_same m (min r m) (plat_shown p) _ _ (shown-less r r' m h f)
        ∙ ap (older r) g.1

    older-no : (c : ℤ) → judge r base n v m pad p f ≡ refused c → judge r' base n v m pad p f ≡ refused c
    unfolding judge all_shown
    older-no c a = rw ed.1 (gate-older _ _ _ _ _ _ _ _ _ judge-mono (rw ed.0 at a))

  pub newer-accepts : (base : ℕ) (page : List ℕ) (w e : ℕ) (q : PlatShown) (s : ℕ → Shown) → read_of r' base page ≡ shows w e q s →
      read_of r base page ≡ shows w (min r w) q (up_to_edition r s)
  unfolding read_of
  newer-accepts base page = newer base _ _ _ _ _ _

  pub older-refuses : (base : ℕ) (page : List ℕ) (c : ℤ) → read_of r base page ≡ refused c → read_of r' base page ≡ refused c
  unfolding read_of
  older-refuses base page = older-no base _ _ _ _ _ _
