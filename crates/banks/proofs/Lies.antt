-- Request E2: the granule of an address, in plain facts. Assumes nothing.
use Rattle.std.proofs.Common.{◌≡◌, ℕ, zero, suc, ◌+◌, ◌-◌, ◌/◌, ◌%◌, ◌<◌, ◌≤◌, sym, ap, ◌∙◌, zero-add, arith, eq-eqb, Some}
use Rattle.std.specs.Option.{option_or}
use native.Mathlib.Decide.{ℕ_discrete}
use Rattle.words.specs.Tests.{Yes}
use Rattle.words.proofs.Tests.{both_l, both_r, both_of}
use Rattle.banks.specs.Banks.{Granules, Bank, banks_by, bank_at, bank_count, ascend, record_ok, total, granule_count, holds, index_in}
use Rattle.banks.specs.Banks.{place_in, place_among, bank_place, granule_at}
use Rattle.banks.specs.Fit.{LiesAt}
use Rattle.banks.proofs.Passing.{Follows, follows_is}
use Rattle.banks.proofs.Laws.{nowhere, or_cases, holds-facts, in-bank, past-bank, ok-ascends, ok-granules, falls}
use Rattle.banks.proofs.Fits.{total-to, fit-taken, taken-fit, granules-sum}

module _ (f : ℕ → Bank) (addr : ℕ) where
  -- the bank that holds an address, of k banks starting with bank j
  record In (before j k i : ℕ) : Type 0 where
    bank : ℕ
    first : j ≤ bank
    last : bank < j + k
    from : (f bank).base ≤ addr
    below : addr < (f bank).base + (f bank).size
    index : i ≡ before + total (banks_by f j (bank - j)) + (addr - (f bank).base) / 4096

  found_in : (before j k i : ℕ) → place_among before (banks_by f j k) addr ≡ Some i → In before j k i
  unfolding place_among place_in banks_by total
  found_in before j zero i h = absurd (nowhere i h)
  found_in before j (suc k) i h = or_cases _ _ i _ here (λ r. later (found_in (before + (f j).size / 4096) (suc j) k i r)) h
    where
      here : Yes (holds (f j).base (f j).size addr) → index_in before (f j).base addr ≡ i → In before j (suc k) i
      here y e =
          let v = holds-facts (f j).base (f j).size addr y in
          let z : j - j ≡ 0 = omega arith in
          record { bank = j; first = omega arith; last = omega arith; from = v.from; below = v.below; index = sym e ∙ rw z (omega arith) }

      later : In (before + (f j).size / 4096) (suc j) k i → In before j (suc k) i
      later r =
          let p = r.first in
          let z : r.bank - j ≡ suc (r.bank - suc j) = omega arith in
          record {
            bank = r.bank;
            first = omega (arith, r.first);
            last = omega (arith, r.last);
            from = r.from;
            below = r.below;
            index = r.index ∙ rw z (omega arith);
          }

  -- banks ascend: each starts at or after `low`
  base-from : (low j k b : ℕ) → Yes (ascend low (banks_by f j k)) → j ≤ b → b < j + k → low ≤ (f b).base
  unfolding ascend banks_by
  base-from low j zero b h p q = absurd (let z : ⊥ = omega arith in z)
  base-from low j (suc k) b h p q = go (ℕ_discrete b j) (base-from ((f j).base + (f j).size) (suc j) k b (both_r _ _ h))
    where
      v : Follows low (f j).base (f j).size
      v = follows_is low (f j).base (f j).size (both_l _ _ h)

      go : Dec (b ≡ j) → (suc j ≤ b → b < suc j + k → (f j).base + (f j).size ≤ (f b).base) → low ≤ (f b).base
      go (yes e) ih = rw e v.after
      go (no e) ih = let r = ih (omega arith) (omega arith) in let s = v.after in omega arith

  in-found : (low before j k b : ℕ) → Yes (ascend low (banks_by f j k)) → j ≤ b → b < j + k → (f b).base ≤ addr →
      addr < (f b).base + (f b).size →
      place_among before (banks_by f j k) addr ≡ Some (before + total (banks_by f j (b - j)) + (addr - (f b).base) / 4096)
  unfolding ascend place_among banks_by total
  in-found low before j zero b h p q l m = absurd (let z : ⊥ = omega arith in z)
  in-found low before j (suc k) b h p q l m =
      go (ℕ_discrete b j) (in-found ((f j).base + (f j).size) (before + (f j).size / 4096) (suc j) k b (both_r _ _ h))
    where
      go : Dec (b ≡ j) → (suc j ≤ b → b < suc j + k → (f b).base ≤ addr → addr < (f b).base + (f b).size →
          place_among (before + (f j).size / 4096) (banks_by f (suc j) k) addr ≡ Some
          (before + (f j).size / 4096 + total (banks_by f (suc j) (b - suc j)) + (addr - (f b).base) / 4096)) →
          option_or (place_in before (f j).base (f j).size addr) (place_among (before + (f j).size / 4096) (banks_by f (suc j) k) addr) ≡ Some
          (before + total (banks_by f j (b - j)) + (addr - (f b).base) / 4096)
      go (yes e) ih =
          let z : j - j ≡ 0 = omega arith in
          rw e (in-bank before (f j).base (f j).size addr _ (rw e at l) (rw e at m) ∙ ap Some (rw z (omega arith)))
      go (no e) ih =
          let n : suc j ≤ b = omega arith in
          let r = base-from ((f j).base + (f j).size) (suc j) k b (both_r _ _ h) n (omega arith) in
          let z : b - j ≡ suc (b - suc j) = omega arith in
          past-bank before (f j).base (f j).size addr _ (omega arith) ∙ ih n (omega arith) l m ∙ ap Some (rw z (omega arith))

module _ (g : Granules) (n addr i : ℕ) where
  pub granule-lies : granule_at g n addr ≡ Some i → LiesAt g n addr i
  unfolding record_ok
  granule-lies h =
      let v = falls g n addr i h in
      let r = found_in (bank_at g) addr 0 0 (bank_count g) i v.place in
      let z : r.bank - 0 ≡ r.bank = omega arith in
      record {
        fits = taken-fit (bank_at g) (bank_count g) n v.ok (sym (ok-granules g v.ok) ∙ v.count);
        whole = v.whole;
        bank = r.bank;
        in-record = omega (arith, r.last);
        from = r.from;
        below = r.below;
        index = r.index ∙ rw (z, total-to (bank_at g) r.bank, zero-add);
      }

  pub lies-granule : LiesAt g n addr i → granule_at g n addr ≡ Some i
  unfolding granule_at bank_place record_ok
  lies-granule v =
      let t = fit-taken (bank_at g) (bank_count g) n v.fits in
      let z : v.bank - 0 ≡ v.bank = omega arith in
      let p = in-found (bank_at g) addr 0 0 0 (bank_count g) v.bank (ok-ascends g t.0) (omega arith) (omega (arith, v.in-record))
      v.from v.below in
      rw (both_of _ _ (eq-eqb (addr % 4096) 0 v.whole) (eq-eqb (granule_count g) n (granules-sum g n v.fits)), t.0)
      (p ∙ ap Some (rw (z, total-to (bank_at g) v.bank, zero-add) (sym v.index)))
