-- A call that checks the record once and looks first in a given bank finds the granules of `granule_at`. Assumes nothing.
use Rattle.std.proofs.Common.{◌≡◌, ℕ, ◌+◌, ◌*◌, ◌/◌, ◌%◌, ◌^◌, ◌<◌, ◌≤◌, Bool, true, false, cond, eqb, ltb, List, [], ◌∷◌, get_or, sym, refl, ap, ◌∙◌, arith, ltb-true, lt-ltb, eq-eqb, ne_eqb, eqb-true, le-leb, leb-true, Option, Some, None, is_some}
use Rattle.std.specs.Option.{option_or}
use mathlib.Core.Bool.{false≢true}
use native.Mathlib.Decide.{ℕ_discrete}
use Rattle.words.specs.Tests.{both, Yes}
use Rattle.words.proofs.Tests.{both_l, both_r, both_of}
use Rattle.banks.specs.declared.BankSpan.{BankSpan}
use Rattle.banks.specs.declared.Found.{Found}
use Rattle.banks.specs.Banks.{Granules, Bank, bank_count, banks_of, ascend, record_ok, granule_count, holds, index_in, place_in}
use Rattle.banks.specs.Banks.{place_among, bank_place, granule_at}
use Rattle.banks.specs.Fast.{no_bank, granule_in, bank_among, bank_of, found_in, found_from, first_bank, has_one_bank}
use Rattle.banks.proofs.Passing.{Follows, follows_is, banks_from, left-more, left-none}
use Rattle.banks.proofs.Laws.{cond-at, holds-facts, ok-ascends, ok-few, past-bank, no-granules, some-granules, falls}
use Rattle.banks.proofs.Laws.{only-follows, only-granules, only-place, only-ok}

-- a bank of the record, with the granules before it: a granule in that bank is the record's granule of the address
abbrev pub SpanOf : Granules → BankSpan → Type 0
SpanOf g b = (addr i : ℕ) → granule_in b addr ≡ Some i → granule_at g (granule_count g) addr ≡ Some i

-- ---- one bank
record In (b : BankSpan) (addr : ℕ) : Type 0 where
  whole : addr % 4096 ≡ 0
  from : b.base ≤ addr
  below : addr < b.base + b.size

in-bank-of : (b : BankSpan) (addr i : ℕ) → granule_in b addr ≡ Some i → In b addr
unfolding granule_in
in-bank-of b addr i h =
    let y = (cond-at (both (eqb (addr % 4096) 0) (holds b.base b.size addr))
    (Some (index_in b.before b.base addr % 2 ^ 64)) i h).0 in
    let v = holds-facts b.base b.size addr (both_r _ _ y) in
    record { whole = eqb-true _ _ (both_l _ _ y); from = v.from; below = v.below }

none-at : (addr i : ℕ) → granule_in no_bank addr ≡ Some i → ⊥
none-at addr i h = let v = in-bank-of no_bank addr i h in let b = v.below in omega arith

none_in : (addr : ℕ) → granule_in no_bank addr ≡ None
none_in addr = go (granule_in no_bank addr) refl
  where
    go : (k : Option ℕ) → granule_in no_bank addr ≡ k → granule_in no_bank addr ≡ None
    go None e = e
    go (Some i) e = absurd (none-at addr i e)

place-in : (low before base size addr : ℕ) → Follows low base size → 4096 * before ≤ low → addr % 4096 ≡ 0 →
    granule_in (record { base = base; size = size; before = before }) addr ≡ place_in before base size addr
unfolding granule_in place_in both
place-in low before base size addr f c m = rw (eq-eqb (addr % 4096) 0 m) (go (holds base size addr) refl)
  where
    go : (k : Bool) → holds base size addr ≡ k → cond k (Some (index_in before base addr % 2 ^ 64)) None ≡ cond k
        (Some (index_in before base addr)) None
    go true e =
        let p = f in
        let v = holds-facts base size addr e in
        let w : index_in before base addr % 2 ^ 64 ≡ index_in before base addr = omega arith in
        ap Some w
    go false e = refl

place-by : (before base size addr : ℕ) (k : Bool) → holds base size addr ≡ k →
    place_in before base size addr ≡ cond k (Some (index_in before base addr)) None
unfolding place_in
place-by before base size addr k e = rw e

-- ---- banks in ascending order
-- a granule in the bank of x is the granule among all banks: a bank before it ends at or below its base
among-span : (low before : ℕ) (bs : List Bank) (x addr i : ℕ) → Yes (ascend low bs) → 4096 * before ≤ low →
    granule_in (bank_among before bs x) addr ≡ Some i → (low ≤ addr) × (place_among before bs addr ≡ Some i)
unfolding ascend bank_among place_among
among-span low before [] x addr i a c h = absurd (none-at addr i h)
among-span low before (b ∷ bs) x addr i a c h =
    go (holds b.base b.size x) h (among-span (b.base + b.size) (before + b.size / 4096) bs x addr i (both_r _ _ a)
    (omega (arith, f.after)))
  where
    f : Follows low b.base b.size
    f = follows_is _ _ _ (both_l _ _ a)

    go : (k : Bool) → granule_in (cond k (record { base = b.base; size = b.size; before = before })
        (bank_among (before + b.size / 4096) bs x)) addr ≡ Some i
        → (granule_in (bank_among (before + b.size / 4096) bs x) addr ≡ Some i →
        (b.base + b.size ≤ addr) × (place_among (before + b.size / 4096) bs addr ≡ Some i))
        → (low ≤ addr) × (option_or (place_in before b.base b.size addr) (place_among (before + b.size / 4096) bs addr) ≡ Some i)
    go true h ih =
        let v = in-bank-of (record { base = b.base; size = b.size; before = before }) addr i h in
        let p : place_in before b.base b.size addr ≡ Some i = sym (place-in low before b.base b.size addr f c v.whole) ∙ h in
        (omega (arith, f.after, v.from), rw p)
    go false h ih = let r = ih h in (omega (arith, f.after, r.0), past-bank before b.base b.size addr _ r.0 ∙ r.1)

among-own : (low before : ℕ) (bs : List Bank) (addr : ℕ) → Yes (ascend low bs) → 4096 * before ≤ low → addr % 4096 ≡ 0 →
    granule_in (bank_among before bs addr) addr ≡ place_among before bs addr
unfolding ascend bank_among place_among
among-own low before [] addr a c m = none_in addr
among-own low before (b ∷ bs) addr a c m =
    go (holds b.base b.size addr) refl (among-own (b.base + b.size) (before + b.size / 4096) bs addr (both_r _ _ a)
    (omega (arith, f.after)) m)
  where
    f : Follows low b.base b.size
    f = follows_is _ _ _ (both_l _ _ a)

    go : (k : Bool) → holds b.base b.size addr ≡ k →
        granule_in (bank_among (before + b.size / 4096) bs addr) addr ≡ place_among (before + b.size / 4096) bs addr
        → granule_in (cond k (record { base = b.base; size = b.size; before = before }) (bank_among (before + b.size / 4096) bs addr)) addr
        ≡ option_or (place_in before b.base b.size addr) (place_among (before + b.size / 4096) bs addr)
    go true e ih = place-in low before b.base b.size addr f c m ∙ rw (place-by before b.base b.size addr true e)
    go false e ih = ih ∙ rw (place-by before b.base b.size addr false e)

-- ---- the record's banks
unaligned-in : (b : BankSpan) (addr : ℕ) → (addr % 4096 ≡ 0 → ⊥) → granule_in b addr ≡ None
unfolding granule_in both
unaligned-in b addr n = rw (ne_eqb (addr % 4096) 0 n)

unaligned-at : (g : Granules) (n addr : ℕ) → (addr % 4096 ≡ 0 → ⊥) → granule_at g n addr ≡ None
unfolding granule_at both
unaligned-at g n addr d = rw (ne_eqb (addr % 4096) 0 d)

module _ (g : Granules) (ok : Yes (record_ok g)) where
  of-among : (addr : ℕ) → bank_of g addr ≡ bank_among 0 (banks_of g) addr
  unfolding bank_of
  of-among addr = let f = leb-true (bank_count g) 16 (ok-few g ok) in rw (le-leb (bank_count g) 16 (omega arith))

  at-among : (addr : ℕ) → addr % 4096 ≡ 0 → granule_at g (granule_count g) addr ≡ place_among 0 (banks_of g) addr
  unfolding granule_at bank_place both
  at-among addr m = rw (eq-eqb (addr % 4096) 0 m, eq-eqb (granule_count g) (granule_count g) refl, ok)

  bank-span : (x : ℕ) → SpanOf g (bank_of g x)
  bank-span x addr i h =
      at-among addr (in-bank-of (bank_of g x) addr i h).whole
      ∙ (among-span 0 0 (banks_of g) x addr i (ok-ascends g ok) (omega arith) (ap (λ b. granule_in b addr) (sym (of-among x)) ∙ h)).1

  bank-own : (addr : ℕ) → granule_in (bank_of g addr) addr ≡ granule_at g (granule_count g) addr
  bank-own addr = go (ℕ_discrete (addr % 4096) 0)
    where
      go : Dec (addr % 4096 ≡ 0) → granule_in (bank_of g addr) addr ≡ granule_at g (granule_count g) addr
      go (yes m) =
          ap (λ b. granule_in b addr) (of-among addr) ∙ among-own 0 0 (banks_of g) addr (ok-ascends g ok) (omega arith) m ∙
          sym (at-among addr m)
      go (no m) = unaligned-in (bank_of g addr) addr m ∙ sym (unaligned-at g (granule_count g) addr m)

-- ---- the finder
pub none-span : (g : Granules) → SpanOf g no_bank
none-span g addr i h = absurd (none-at addr i h)

counted-ok : (g : Granules) → 0 < granule_count g → Yes (record_ok g)
counted-ok g s = go (record_ok g) refl
  where
    go : (k : Bool) → record_ok g ≡ k → Yes k
    go true e = refl
    go false e = absurd (let n = no-granules g e in omega arith)

-- the granule found is the address's, and the bank found is the record's
pub found-is : (g : Granules) (b : BankSpan) (n addr : ℕ) (f : Found) → 0 < granule_count g → granule_count g ≡ n → SpanOf g b →
    f ≡ found_from g b addr → (f.granule ≡ granule_at g n addr) × SpanOf g f.bank
unfolding found_from found_in
found-is g b n addr f some m own e = rw (e, ← m) (go (granule_in b addr) refl)
  where
    go : (k : Option ℕ) → granule_in b addr ≡ k → ((found_in g b addr k).granule ≡ granule_at g (granule_count g) addr) ×
        SpanOf g (found_in g b addr k).bank
    go (Some i) q = (sym (own addr i q), own)
    go None q = (bank-own g (counted-ok g some) addr, bank-span g (counted-ok g some) addr)

-- the record has granules, and the table has as many; otherwise no address is on a granule
abbrev pub table_fits : Granules → ℕ → Bool
table_fits g n = both (ltb 0 (granule_count g)) (eqb (granule_count g) n)

pub table-fits : (g : Granules) (n : ℕ) → Yes (table_fits g n) → (0 < granule_count g) × (granule_count g ≡ n)
table-fits g n h = (ltb-true _ _ (both_l _ _ h), eqb-true _ _ (both_r _ _ h))

pub table-unfit : (g : Granules) (n addr : ℕ) → table_fits g n ≡ false → granule_at g n addr ≡ None
table-unfit g n addr h = go (granule_at g n addr) refl
  where
    go : (k : Option ℕ) → granule_at g n addr ≡ k → granule_at g n addr ≡ None
    go None e = e
    go (Some i) e =
        let f = falls g n addr i e in
        absurd (false≢true (sym h ∙ both_of _ _ (lt-ltb 0 (granule_count g) (some-granules g f.ok))
        (eq-eqb (granule_count g) n f.count)))

-- ---- a record of one bank
pub one-fits : (g : Granules) (n : ℕ) → Yes (has_one_bank g n) → (bank_count g ≡ 1) × Yes (record_ok g) × (granule_count g ≡ n)
unfolding has_one_bank
one-fits g n h =
    let r = both_r _ _ h in
    let one : bank_count g ≡ 1 = eqb-true _ _ (both_l _ _ h) in
    let ok : Yes (record_ok g) = only-ok g one ∙ both_r _ _ r in
    (one, ok, only-granules g one ok ∙ eqb-true _ _ (both_l _ _ r))

at_place : (g : Granules) (n addr : ℕ) → granule_count g ≡ n → addr % 4096 ≡ 0 → granule_at g n addr ≡ bank_place g addr
unfolding granule_at both
at_place g n addr c m = rw (eq-eqb (addr % 4096) 0 m, eq-eqb (granule_count g) n c)

pub first-is : (g : Granules) (n addr : ℕ) → Yes (has_one_bank g n) → granule_in (first_bank g) addr ≡ granule_at g n addr
first-is g n addr h = go (ℕ_discrete (addr % 4096) 0) (one-fits g n h)
  where
    go : Dec (addr % 4096 ≡ 0) → (bank_count g ≡ 1) × Yes (record_ok g) × (granule_count g ≡ n) →
        granule_in (first_bank g) addr ≡ granule_at g n addr
    go (yes m) f =
        place-in 0 0 (get_or g 1 0) (get_or g 2 0) addr (only-follows g f.0 f.1) (omega arith) m
        ∙ sym (only-place g f.0 f.1 addr) ∙ sym (at_place g n addr f.2 m)
    go (no m) f = unaligned-in (first_bank g) addr m ∙ sym (unaligned-at g n addr m)

-- ---- the loop of `bank_of`, which stops at the first bank that holds the address
module _ (g : Granules) (addr i before : ℕ) where
  pub bank-last : bank_count g ≤ i → bank_among before (banks_from g i) addr ≡ no_bank
  unfolding bank_among
  bank-last h = rw (left-none g i h)

  module _ (h : i < bank_count g) (k : Bool) (e : k ≡ holds (get_or g (1 + 2 * i) 0) (get_or g (2 + 2 * i) 0) addr) where
    pub bank-more : k ≡ false → bank_among before (banks_from g i) addr ≡ bank_among (before + get_or g (2 + 2 * i) 0 / 4096)
        (banks_from g (i + 1)) addr
    unfolding bank_among
    bank-more n = rw (left-more g i h, sym e ∙ n)

    pub bank-hit : k ≡ true → bank_among before (banks_from g i) addr ≡
        record { base = get_or g (1 + 2 * i) 0; size = get_or g (2 + 2 * i) 0; before = before }
    unfolding bank_among
    bank-hit y = rw (left-more g i h, sym e ∙ y)

-- ---- an address that the bank passed holds, or does not hold
pub found-near : (g : Granules) (b : BankSpan) (addr : ℕ) (k : Option ℕ) → k ≡ granule_in b addr → is_some k ≡ true →
    ◌≡◌ {A = Found} (record { granule = k; bank = b }) (found_from g b addr)
unfolding found_from found_in
found-near g b addr None e h = absurd (false≢true h)
found-near g b addr (Some i) e h = rw (← e)

pub none-is : (k : Option ℕ) → is_some k ≡ false → k ≡ None
none-is None h = refl
none-is (Some i) h = absurd (false≢true (sym h))

pub found-on : (g : Granules) (b own : BankSpan) (addr : ℕ) (k : Option ℕ) →
    granule_in b addr ≡ None → own ≡ bank_of g addr → k ≡ granule_in own addr →
    ◌≡◌ {A = Found} (record { granule = k; bank = own }) (found_from g b addr)
unfolding found_from found_in
found-on g b own addr k n o e = rw (n, e, o)
