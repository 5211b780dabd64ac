-- The range check and the common checks of a command on the page: each return, and what follows from OK. Assumes nothing.
use Prim.Native.Nat.{ℕ, ◌+◌, ◌-◌, ◌<◌, ◌≤◌}
use mathlib.Core.Path.{◌≡◌, refl, ◌∙◌}
use mathlib.Core.Bool.{Bool, true, false, true≢false}
use native.Mathlib.Nat.{add-zero}
use native.Mathlib.Omega.{arith}
use lib.Dec.{leb, ltb}
use borrow.Author.Tests.{lt-ltb, le-ltb, le-leb, lt-leb, ltb-false, leb-false, eq-eqb, ne_eqb, eqb-true}
use Rattle.words.specs.Tests.{either}
use Rattle.boot.specs.declared.Params.{Params}
use Rattle.boot.specs.declared.Record.{Record}
use Rattle.codes.specs.Codes.{is_up, boot_params, is_false, fails, when_up, is_ok, and_then, gated}
use Rattle.codes.specs.declared.Code.{Code}
use Rattle.codes.specs.declared.Code.TheVariants.{Ok, Unk, Inval}
use Rattle.std.specs.Prelude.{Result}
use Rattle.codes.proofs.Gates.{fails-ok, unless-ok, first-ok, then_ok, then-stop}
use Rattle.buffer_check.specs.Range.{outside, too_long, place_of, outside_code, range_code, page_code}
use Rattle.buffer_check.specs.declared.OutsideAs.{OutsideAs}
use Rattle.buffer_check.specs.declared.OutsideAs.TheVariants.{BadAddress, Invalid}

-- ---- the range check
pub outside-refused : (out : OutsideAs) → is_ok (outside_code out) ≡ false
unfolding outside_code
outside-refused BadAddress = refl
outside-refused Invalid = refl

module _ (u : Params) (out : OutsideAs) (pa size : ℕ) where
  pub range-below : pa < u.base + u.kept → range_code u out pa size ≡ outside_code out
  unfolding range_code outside either fails
  range-below l = rw (lt-ltb pa (u.base + u.kept) l)

  module _ (l : u.base + u.kept ≤ pa) where
    pub range-above : u.base + 4096 ≤ pa → range_code u out pa size ≡ outside_code out
    unfolding range_code outside either fails
    range-above h = rw (le-ltb pa (u.base + u.kept) l, le-leb (u.base + 4096) pa h)

    module _ (h : pa < u.base + 4096) where
      pub inside : outside u pa ≡ false
      unfolding outside either
      inside = rw (le-ltb pa (u.base + u.kept) l, lt-leb (u.base + 4096) pa h)

      pub range-long : u.base + 4096 - pa < size → range_code u out pa size ≡ Inval
      unfolding range_code too_long fails
      range-long k = rw (inside, lt-ltb (u.base + 4096 - pa) size k)

      pub range-ok : size ≤ u.base + 4096 - pa → range_code u out pa size ≡ Ok
      unfolding range_code too_long fails
      range-ok k = rw (inside, le-ltb (u.base + 4096 - pa) size k)

pub neither : (a b : Bool) → either a b ≡ false → (a ≡ false) × (b ≡ false)
unfolding either
neither true b h = absurd (true≢false h)
neither false b h = (refl, h)

-- Request E5: "K = 0 gives 01 as it stands.": its range check
pub kept-none : (u : Params) (pa : ℕ) → u.kept ≡ 0 → outside u pa ≡ either (ltb pa u.base) (leb (u.base + 4096) pa)
unfolding outside
kept-none u pa h = rw (h, add-zero)

-- a buffer that is not outside and not too long ends in the page
room_of : (u : Params) (pa size : ℕ) → outside u pa ≡ false → too_long u pa size ≡ false → place_of u pa + size ≤ 4096
unfolding outside too_long place_of
room_of u pa size h k =
    let p = neither _ _ h in
    let a : u.base + u.kept ≤ pa = ltb-false _ _ p.0 in
    let b : pa < u.base + 4096 = leb-false _ _ p.1 in
    let d : size ≤ u.base + 4096 - pa = ltb-false _ _ k in
    omega arith

-- ---- the common checks
module _ (r : Record) (len : ℕ) (first : Code) (out : OutsideAs) (pa size : ℕ) where
  pub page-down : is_up r ≡ false → page_code r len first out pa size ≡ Unk
  unfolding page_code when_up fails is_false
  page-down h = rw h

  module _ (h : is_up r ≡ true) where
    pub page-length : (len ≡ 4096 → ⊥) → page_code r len first out pa size ≡ Unk
    unfolding page_code when_up fails is_false
    page-length n = rw (h, ne_eqb len 4096 n)

    module _ (n : len ≡ 4096) where
      pub page-first : is_ok first ≡ false → page_code r len first out pa size ≡ first
      unfolding page_code when_up fails is_false
      page-first f = rw (h, eq-eqb len 4096 n) (then-stop first _ first refl f)

      pub page-range : is_ok first ≡ true → page_code r len first out pa size ≡ range_code (boot_params r) out pa size
      unfolding page_code when_up fails is_false and_then
      page-range f = rw (h, eq-eqb len 4096 n, f)

      pub told-range : is_ok first ≡ true → (u : Params) → u ≡ boot_params r → (g : Result ℕ Code) →
          g ≡ gated (range_code u out pa size) (place_of u pa) →
          g ≡ gated (page_code r len first out pa size) (place_of (boot_params r) pa)
      told-range f u v g e = e ∙ rw (v, ← page-range f)

-- what follows if the common checks pass: each check, and that the buffer is in the page
pub record Passed (r : Record) (len : ℕ) (first : Code) (pa size : ℕ) : Type 0 where
  pub up : is_up r ≡ true
  pub whole : len ≡ 4096
  pub ready : first ≡ Ok
  pub within : outside (boot_params r) pa ≡ false
  pub short : too_long (boot_params r) pa size ≡ false
  pub room : place_of (boot_params r) pa + size ≤ 4096

pub passed : (r : Record) (len : ℕ) (first : Code) (out : OutsideAs) (pa size : ℕ) → page_code r len first out pa size ≡ Ok →
    Passed r len first pa size
unfolding page_code when_up range_code
passed r len first out pa size h =
    let p = unless-ok _ _ _ refl h in
    let q = unless-ok _ _ _ refl p.1 in
    let o = fails-ok _ _ _ (outside-refused out) (then_ok _ _ q.1) in
    let s = fails-ok _ _ _ refl o.1 in
    record {
      up = p.0;
      whole = eqb-true _ _ q.0;
      ready = first-ok _ _ q.1;
      within = o.0;
      short = s.0;
      room = room_of (boot_params r) pa size o.0 s.0;
    }
