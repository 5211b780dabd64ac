-- Laws of the granule record for other crates: an index is below the table's length, two addresses of the same granule are equal, and every
-- index has an address. And one bank is a single range of memory (BN8). Assumes nothing.
use Rattle.std.proofs.Common.{◌≡◌, ℕ, ◌+◌, ◌-◌, ◌*◌, ◌/◌, ◌%◌, ◌^◌, ◌<◌, ◌≤◌, Bool, true, false, cond, eqb, ltb, leb, List, [], ◌∷◌, length, get_or, sym, refl, ap, ◌∙◌, zero-add, arith, ltb-true, le-ltb, lt-ltb, eq-eqb, eqb-true, le-leb, leb-true, Option, Some, None}
use Rattle.std.specs.Option.{option_or}
use native.Mathlib.Decide.{dec_lt}
use Rattle.words.specs.Tests.{both, Yes}
use Rattle.words.specs.Word.{word_at}
use Rattle.words.proofs.Tests.{both_l, both_r, both_of, same_test}
use Rattle.entries.specs.Entry.{bank_ok}
use Rattle.codes.specs.declared.Code.TheVariants.{Ok}
use Rattle.banks.specs.Banks.{Granules, Bank, banks_by, bank_at, bank_count, banks_of, ascend, banks_ok, record_ok, follows, total}
use Rattle.banks.specs.Banks.{granule_count, holds, index_in, place_in, place_among, bank_place, granule_at, address_in, address_of}
use Rattle.banks.specs.Banks.{single_range, set_up_code, set_up_of}
use Rattle.banks.proofs.Making.{banks-some, made_one, made-good}
use Rattle.banks.proofs.Passing.{Follows, follows_is, or_nothing}

-- ---- cases of an answer
pub nowhere : (i : ℕ) → None ≡ Some i → ⊥
nowhere i h = let z : ◌≡◌ {A = ℕ} 0 1 = cc in omega arith

pub or_cases : (b : Bool) (p i : ℕ) (r : Option ℕ) {P : Type 0} → (Yes b → p ≡ i → P) → (r ≡ Some i → P) →
    option_or (cond b (Some p) None) r ≡ Some i → P
or_cases true p i r f g h = f refl (cc)
or_cases false p i r f g h = g h

pub cond-at : (b : Bool) (x : Option ℕ) (i : ℕ) → cond b x None ≡ Some i → Yes b × (x ≡ Some i)
cond-at true x i h = (refl, h)
cond-at false x i h = absurd (nowhere i h)

pub record Falls (g : Granules) (n addr i : ℕ) : Type 0 where
  pub whole : addr % 4096 ≡ 0
  pub ok : Yes (record_ok g)
  pub count : granule_count g ≡ n
  pub place : place_among 0 (banks_of g) addr ≡ Some i

pub ok-ascends : (g : Granules) → Yes (record_ok g) → Yes (ascend 0 (banks_of g))
unfolding record_ok banks_ok
ok-ascends g k = both_r _ _ (both_r _ _ k)

pub ok-granules : (g : Granules) → Yes (record_ok g) → granule_count g ≡ total (banks_of g)
unfolding granule_count
ok-granules g k = rw k

pub ok-few : (g : Granules) → Yes (record_ok g) → Yes (leb (bank_count g) 16)
unfolding record_ok banks_ok
ok-few g k = both_l _ _ (both_r _ _ k)

pub falls : (g : Granules) (n addr i : ℕ) → granule_at g n addr ≡ Some i → Falls g n addr i
unfolding granule_at bank_place
falls g n addr i h =
    let p = cond-at (both (eqb (addr % 4096) 0) (eqb (granule_count g) n)) (bank_place g addr) i h in
    let q = cond-at (record_ok g) (place_among 0 (banks_of g) addr) i p.1 in
    record {
      whole = eqb-true _ _ (both_l _ _ p.0);
      ok = q.0;
      count = eqb-true _ _ (both_r _ _ p.0);
      place = q.1;
    }

-- ---- a bank
pub record HoldsFacts (base size addr : ℕ) : Type 0 where
  pub from : base ≤ addr
  pub below : addr < base + size

pub holds-facts : (base size addr : ℕ) → Yes (holds base size addr) → HoldsFacts base size addr
unfolding holds
holds-facts base size addr h = record { from = leb-true _ _ (both_l _ _ h); below = ltb-true _ _ (both_r _ _ h) }

same_place : (base before x y : ℕ) → base % 4096 ≡ 0 → x % 4096 ≡ 0 → y % 4096 ≡ 0 → base ≤ x → base ≤ y →
    index_in before base x ≡ index_in before base y → x ≡ y
same_place base before x y b m n p q e = omega arith

-- ---- banks
abbrev Within : ℕ → ℕ → ℕ → Type 0
Within before n i = (before ≤ i) × (i < before + n)

among-within : (low before : ℕ) (bs : List Bank) (addr i : ℕ) → Yes (ascend low bs) → addr % 4096 ≡ 0 → place_among before bs addr ≡ Some i →
    Within before (total bs) i
unfolding ascend place_among place_in total
among-within low before [] addr i a m h = absurd (nowhere i h)
among-within low before (b ∷ bs) addr i a m h =
    or_cases _ _ i _ here (λ r. later (among-within (b.base + b.size) (before + b.size / 4096) bs addr i (both_r _ _ a) m r)) h
  where
    f : Follows low b.base b.size
    f = follows_is _ _ _ (both_l _ _ a)

    here : Yes (holds b.base b.size addr) → index_in before b.base addr ≡ i → Within before (b.size / 4096 + total bs) i
    here k e = let u = holds-facts b.base b.size addr k in let v = f in (omega arith, omega arith)

    later : Within (before + b.size / 4096) (total bs) i → Within before (b.size / 4096 + total bs) i
    later w = (omega arith, omega arith)

among_one : (low before : ℕ) (bs : List Bank) (x y i : ℕ) → Yes (ascend low bs) → x % 4096 ≡ 0 → y % 4096 ≡ 0 →
    place_among before bs x ≡ Some i → place_among before bs y ≡ Some i → x ≡ y
unfolding ascend place_among place_in
among_one low before [] x y i a m n h k = absurd (nowhere i h)
among_one low before (b ∷ bs) x y i a m n h k =
    or_cases _ _ i _
    (λ p d. or_cases _ _ i _ (λ q e. same p d q e) (λ r. absurd (apart x p d (within y n r))) k)
    (λ r. or_cases _ _ i _ (λ q e. absurd (apart y q e (within x m r))) (λ s. among_one (b.base + b.size) (before + b.size / 4096) bs x y i (both_r _ _ a) m n r s) k)
    h
  where
    f : Follows low b.base b.size
    f = follows_is _ _ _ (both_l _ _ a)

    within : (z : ℕ) → z % 4096 ≡ 0 → place_among (before + b.size / 4096) bs z ≡ Some i → Within (before + b.size / 4096) (total bs) i
    within z w r = among-within (b.base + b.size) (before + b.size / 4096) bs z i (both_r _ _ a) w r

    same : Yes (holds b.base b.size x) → index_in before b.base x ≡ i → Yes (holds b.base b.size y) →
        index_in before b.base y ≡ i → x ≡ y
    same p d q e =
        same_place b.base before x y f.base-whole m n (holds-facts b.base b.size x p).from
        (holds-facts b.base b.size y q).from (d ∙ sym e)

    apart : (z : ℕ) → Yes (holds b.base b.size z) → index_in before b.base z ≡ i → Within (before + b.size / 4096) (total bs) i → ⊥
    apart z p d w = let u = holds-facts b.base b.size z p in let v = f in omega arith

-- ---- the laws for other crates
pub index_below : (g : Granules) (n addr i : ℕ) → granule_at g n addr ≡ Some i → i < n
index_below g n addr i h =
    let f = falls g n addr i h in
    let w = among-within 0 0 (banks_of g) addr i (ok-ascends g f.ok) f.whole f.place in
    omega (arith, f.count, ok-granules g f.ok)

pub one_address : (g : Granules) (n x y i : ℕ) → granule_at g n x ≡ Some i → granule_at g n y ≡ Some i → x ≡ y
one_address g n x y i h k =
    let p = falls g n x i h in
    let q = falls g n y i k in
    among_one 0 0 (banks_of g) x y i (ok-ascends g p.ok) p.whole q.whole p.place q.place

-- ---- the table is the banks' granules joined: each index below n has an address, and there are at most 2^40
record Named (low before : ℕ) (bs : List Bank) (i : ℕ) : Type 0 where
  whole : address_in bs i % 4096 ≡ 0
  from : low ≤ address_in bs i
  place : place_among before bs (address_in bs i) ≡ Some (before + i)

pub in-bank : (before base size addr : ℕ) (r : Option ℕ) → base ≤ addr → addr < base + size →
    option_or (place_in before base size addr) r ≡ Some (index_in before base addr)
unfolding place_in holds both
in-bank before base size addr r p q = simp (le-leb base addr p, lt-ltb addr (base + size) q)

pub past-bank : (before base size addr : ℕ) (r : Option ℕ) → base + size ≤ addr → option_or (place_in before base size addr) r ≡ r
unfolding place_in holds both
past-bank before base size addr r p = simp (le-leb base addr (omega arith), le-ltb addr (base + size) p)

among-named : (low before : ℕ) (bs : List Bank) (i : ℕ) → Yes (ascend low bs) → i < total bs → Named low before bs i
unfolding ascend total place_among address_in
among-named low before [] i a h = absurd (let z : ◌≡◌ {A = ℕ} 0 1 = omega arith in omega arith)
among-named low before (b ∷ bs) i a h =
    go (dec_lt i (b.size / 4096)) (among-named (b.base + b.size) (before + b.size / 4096) bs (i - b.size / 4096) (both_r _ _ a))
  where
    f : Follows low b.base b.size
    f = follows_is _ _ _ (both_l _ _ a)

    go : Dec (i < b.size / 4096) → (i - b.size / 4096 < total bs →
        Named (b.base + b.size) (before + b.size / 4096) bs (i - b.size / 4096)) → Named low before (b ∷ bs) i
    go (yes y) ih =
        let v = f in
        let e : index_in before b.base (b.base + 4096 * i) ≡ before + i = omega arith in
        record {
          whole = rw (lt-ltb i (b.size / 4096) y) (omega arith);
          from = rw (lt-ltb i (b.size / 4096) y) (omega arith);
          place =
              rw (lt-ltb i (b.size / 4096) y) (in-bank before b.base b.size (b.base + 4096 * i) _ (omega arith) (omega arith) ∙
              ap Some e);
        }
    go (no y) ih =
        let n = ih (omega arith) in
        let v = f in
        let l : b.size / 4096 ≤ i = omega arith in
        let e : before + b.size / 4096 + (i - b.size / 4096) ≡ before + i = omega arith in
        record {
          whole = rw (le-ltb i (b.size / 4096) l) n.whole;
          from = rw (le-ltb i (b.size / 4096) l) (omega (arith, n.from));
          place = rw (le-ltb i (b.size / 4096) l) (past-bank before b.base b.size _ _ n.from ∙ n.place ∙ ap Some e);
        }

pub index-named : (g : Granules) (i : ℕ) → Yes (record_ok g) → i < granule_count g → granule_at g (granule_count g) (address_of g i) ≡ Some i
unfolding granule_at bank_place both
index-named g i ok h =
    let n = among-named 0 0 (banks_of g) i (ok-ascends g ok) (omega (arith, ok-granules g ok)) in
    rw (eq-eqb (address_of g i % 4096) 0 n.whole, eq-eqb (granule_count g) (granule_count g) refl, ok) (n.place ∙ ap Some (zero-add i))

among-le : (low : ℕ) (bs : List Bank) → Yes (ascend low bs) → low ≤ 2 ^ 52 → low + 4096 * total bs ≤ 2 ^ 52
unfolding ascend total
among-le low [] a h = omega arith
among-le low (b ∷ bs) a h =
    let f = follows_is low b.base b.size (both_l _ _ a) in
    let r = among-le (b.base + b.size) bs (both_r _ _ a) f.ends in
    omega arith

pub granules-le : (g : Granules) → granule_count g ≤ 2 ^ 40
unfolding granule_count
granules-le g = go (record_ok g) refl
  where
    go : (k : Bool) → record_ok g ≡ k → cond k (total (banks_of g)) 0 ≤ 2 ^ 40
    go true e = let r = among-le 0 (banks_of g) (ok-ascends g e) (omega arith) in omega arith
    go false e = omega arith

-- ---- a record that the set-up would refuse has no granules
pub no-granules : (g : Granules) → record_ok g ≡ false → granule_count g ≤ 0
unfolding granule_count
no-granules g e = rw e (omega arith)

pub some-granules : (g : Granules) → Yes (record_ok g) → 0 < granule_count g
unfolding granule_count record_ok
some-granules g k = rw k (banks-some (bank_count g) (bank_at g) k)

-- ---- one bank: "01's single range is the case of one bank that the set-up takes"
holds_same : (base size addr : ℕ) → Follows 0 base size → addr % 4096 ≡ 0 →
    holds base size addr ≡ both (leb base addr) (ltb ((addr - base) / 4096) (size / 4096))
unfolding holds
holds_same base size addr f m =
    let w = f.size-whole in
    let v = f.base-whole in
    same_test _ _
    (λ h. let u : base ≤ addr = leb-true _ _ (both_l _ _ h) in let k : addr < base + size = ltb-true _ _ (both_r _ _ h) in both_of _ _
    (le-leb base addr u) (lt-ltb ((addr - base) / 4096) (size / 4096) (omega arith)))
    (λ h. let u : base ≤ addr = leb-true _ _ (both_l _ _ h) in let k : (addr - base) / 4096 < size / 4096 = ltb-true _ _
    (both_r _ _ h) in both_of _ _ (le-leb base addr u) (lt-ltb addr (base + size) (omega arith)))

only-bank : (g : Granules) → bank_count g ≡ 1 → banks_of g ≡ bank_at g 0 ∷ []
unfolding banks_by
only-bank g one = rw one

module _ (g : Granules) (one : bank_count g ≡ 1) (ok : Yes (record_ok g)) where
  pub only-follows : Follows 0 (get_or g 1 0) (get_or g 2 0)
  unfolding ascend
  only-follows =
      let a : Yes (ascend 0 (bank_at g 0 ∷ [])) = rw (only-bank g one) at (ok-ascends g ok) in
      follows_is 0 (get_or g 1 0) (get_or g 2 0) (both_l _ _ a)

  pub only-granules : granule_count g ≡ get_or g 2 0 / 4096
  unfolding granule_count total
  only-granules = rw (ok, only-bank g one) (omega arith)

  pub only-place : (addr : ℕ) → bank_place g addr ≡ place_in 0 (get_or g 1 0) (get_or g 2 0) addr
  unfolding bank_place place_among
  only-place addr = rw (ok, only-bank g one) (or_nothing _)

  pub one-bank : (addr : ℕ) → granule_at g (granule_count g) addr ≡ single_range (get_or g 1 0) (granule_count g) addr
  unfolding granule_at place_in both
  one-bank addr =
      simp (
        eq-eqb (get_or g 2 0 / 4096) (get_or g 2 0 / 4096) refl,
        eq-eqb (get_or g 1 0 % 4096) 0 only-follows.base-whole,
        only-place addr,
        only-granules,
      ) (go (eqb (addr % 4096) 0) refl)
    where
      go : (k : Bool) → eqb (addr % 4096) 0 ≡ k
          → cond (both k true) (cond (holds (get_or g 1 0) (get_or g 2 0) addr) (Some (0 + (addr - get_or g 1 0) / 4096)) None) None
          ≡ cond (both k (both (leb (get_or g 1 0) addr) (ltb ((addr - get_or g 1 0) / 4096) (get_or g 2 0 / 4096))))
          (Some ((addr - get_or g 1 0) / 4096)) None
      go true e = rw (holds_same (get_or g 1 0) (get_or g 2 0) addr only-follows (eqb-true _ _ e), zero-add)
      go false e = refl

both_true : (b : Bool) → both b true ≡ b
unfolding both
both_true true = refl
both_true false = refl

module _ (g : Granules) (one : bank_count g ≡ 1) where
  pub only-ok : record_ok g ≡ bank_ok (get_or g 1 0) (get_or g 2 0)
  unfolding record_ok banks_ok ascend follows both
  only-ok = rw (only-bank g one, one, le-leb 0 (get_or g 1 0) (omega arith)) (both_true (bank_ok (get_or g 1 0) (get_or g 2 0)))

-- for a record that the set-up made of one bank, in a table of the length that it was made for
pub one-bank-made : (shown : List ℕ) (n : ℕ) (g : Granules) → length shown ≡ 16 → set_up_code shown n ≡ Ok → (addr : ℕ) →
    granule_at (set_up_of shown n g).granules n addr ≡ single_range (word_at 0 shown) n addr
one-bank-made shown n g l h addr =
    let m = made-good shown n g h in
    let o = made_one shown n g l h in
    ap (λ k. granule_at (set_up_of shown n g).granules k addr) (sym m.1)
    ∙ one-bank (set_up_of shown n g).granules o.0 m.0 addr
    ∙ rw (o.1, m.1)
