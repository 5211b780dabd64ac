-- Request E1: what a list of granules does, in terms of its single calls. Assumes nothing.
use Rattle.std.specs.Prelude.{Some}
use Prim.Native.Nat.{ℕ, zero, suc, ◌+◌, ◌<◌, ◌≤◌}
use mathlib.Core.Path.{◌≡◌, refl, sym, ap, ◌∙◌}
use mathlib.Core.Bool.{Bool, true, false, false≢true}
use mathlib.Core.List.{List, [], ◌∷◌}
use native.Mathlib.Nat.{zero-add, add-zero, add-suc, suc-add}
use native.Mathlib.Omega.{arith}
use lib.Dec.{eqb}
use lib.ListN.{length, take, get_or}
use borrow.Author.Tests.{eqb-true, eqb-false}
use Rattle.boot.specs.declared.Record.{Record}
use Rattle.codes.specs.Codes.{is_up, boot_params, is_ok, is_false, fails, answer_of}
use Rattle.codes.specs.declared.Code.{Code}
use Rattle.codes.specs.declared.Code.TheVariants.{Ok, Unk, BadAddr, BadPas, Inval, Again}
use Rattle.banks.specs.Banks.{Granules, granule_at}
use Rattle.granule_rules.specs.Granules.{GranuleTable, from_byte, to_byte, is_shared_page, Moved, moved_by, fitting, when_fit, move_of}
use Rattle.granule_rules.specs.Granules.{moved_to}
use Rattle.granule_rules.specs.Acts.{MoveActed}
use Rattle.granule_rules.specs.Lists.{onward, list_by, move_list_of, done_by, table_by, code_by, code_at, Longest}
use Rattle.granule_rules.specs.declared.Direction.{Direction}
use Rattle.granule_rules.specs.declared.Direction.TheVariants.{Delegate, Undelegate}
use Rattle.granule_rules.proofs.Moving.{move-refused, move-unfit, move_up, move-pas, fit-kept}
use Rattle.granule_rules.proofs.Acts.{move-free, move-acts}

pub ok-code : (k : Code) → is_ok k ≡ true → k ≡ Ok
ok-code Ok h = refl
ok-code Unk h = absurd (false≢true h)
ok-code BadAddr h = absurd (false≢true h)
ok-code BadPas h = absurd (false≢true h)
ok-code Inval h = absurd (false≢true h)
ok-code Again h = absurd (false≢true h)

-- ---- for any single call that leaves the table unchanged if it refuses
module _ (f : GranuleTable → ℕ → Moved) where
  -- the number done, and the place of the first refusal
  first_done : (t : GranuleTable) (a : ℕ) (l : List ℕ) → 0 < done_by f t (a ∷ l) → is_ok (f t a).answer.code ≡ true
  unfolding done_by
  first_done t a l h = go (is_ok (f t a).answer.code) refl
    where
      go : (b : Bool) → is_ok (f t a).answer.code ≡ b → is_ok (f t a).answer.code ≡ true
      go true e = e
      go false e = let z : 0 < 0 = rw e at h in absurd (omega arith)

  pub longest : (t : GranuleTable) (l : List ℕ) → Longest f t l
  unfolding done_by code_by code_at table_by
  longest t [] = record { within = omega arith; done = λ i h. absurd (omega arith); stops = λ h. absurd (omega arith); whole = λ h. refl }
  longest t (a ∷ l) = go (is_ok (f t a).answer.code) refl (longest (f t a).table l)
    where
      go : (b : Bool) → is_ok (f t a).answer.code ≡ b → Longest f (f t a).table l → Longest f t (a ∷ l)
      go true e r =
          record {
            within = rw e (omega (arith, r.within));
            done = λ i. rw e (ones i);
            stops = rw e (λ h. r.stops (omega arith));
            whole = rw e (λ h. r.whole (omega arith));
          }
        where
          ones : (i : ℕ) → i < suc (done_by f (f t a).table l) → (f (table_by f t (take i (a ∷ l))) (get_or (a ∷ l) i 0)).answer.code ≡ Ok
          ones zero h = ok-code _ e
          ones (suc i) h = r.done i (omega arith)
      go false e r =
          record {
            within = rw e (omega arith);
            done = rw e (λ i h. absurd (omega arith));
            stops = rw e (λ h. (e, refl));
            whole = rw e (λ h. absurd (omega arith));
          }

  module _ (stays : (t : GranuleTable) (a : ℕ) → is_ok (f t a).answer.code ≡ false → (f t a).table ≡ t) where
    list-by : (k : ℕ) (t : GranuleTable) (l : List ℕ) → list_by f k t l ≡
        record { answer = answer_of (code_by f t l) (k + done_by f t l) 0; table = table_by f t (take (done_by f t l) l) }
    unfolding list_by onward done_by code_by table_by
    list-by k t [] = rw add-zero
    list-by k t (a ∷ l) = go (is_ok (f t a).answer.code) refl (list-by (suc k) (f t a).table l)
      where
        go : (b : Bool) → is_ok (f t a).answer.code ≡ b → list_by f (suc k)
            (f t a).table l ≡ record {
              answer = answer_of (code_by f (f t a).table l) (suc k + done_by f (f t a).table l) 0;
              table = table_by f (f t a).table (take (done_by f (f t a).table l) l);
            } →
            list_by f k t (a ∷ l) ≡ record {
              answer = answer_of (code_by f t (a ∷ l)) (k + done_by f t (a ∷ l)) 0;
              table = table_by f t (take (done_by f t (a ∷ l)) (a ∷ l));
            }
        go true e r = rw (e, r, suc-add, add-suc)
        go false e r = rw (e, stays t a e, add-zero)

-- ---- for the command's own single calls
module _ (s : Record) (g : Granules) (d : Direction) where
  pub stays : (t : GranuleTable) (a : ℕ) → is_ok (move_of s g d t a).answer.code ≡ false → (move_of s g d t a).table ≡ t
  stays t a h = ap (λ (m : Moved). m.table) (move-refused s g d t a h)

  unfit-done : (t : GranuleTable) (l : List ℕ) → fitting g t ≡ false → done_by (move_of s g d) t l ≡ 0
  unfolding done_by moved_by answer_of
  unfit-done t [] f = refl
  unfit-done t (a ∷ l) f = rw (← move-unfit s g d t a f)

  -- "The result, the table and the number done equal single calls made in list order, stopping at the first refusal.": with the wrong
  -- number of words no call is done, and an empty list is INVAL, too
  pub list-is : (t : GranuleTable) (l : List ℕ) → move_list_of s g d t l ≡
      record {
        answer = answer_of (when_fit g t (code_by (move_of s g d) t l)) (done_by (move_of s g d) t l) 0;
        table = table_by (move_of s g d) t (take (done_by (move_of s g d) t l) l);
      }
  unfolding move_list_of moved_by table_by when_fit is_false fails
  list-is t l = go (fitting g t) refl
    where
      go : (b : Bool) → fitting g t ≡ b → move_list_of s g d t l ≡
          record {
            answer = answer_of (when_fit g t (code_by (move_of s g d) t l)) (done_by (move_of s g d) t l) 0;
            table = table_by (move_of s g d) t (take (done_by (move_of s g d) t l) l);
          }
      go true f = rw f (list-by (move_of s g d) stays 0 t l ∙ rw zero-add)
      go false f = rw (f, unfit-done t l f)

  -- ---- an address that is repeated
  -- the byte that a granule gets stays, for any later calls of the list
  mark-stays : (t after : GranuleTable) (a i : ℕ) → MoveActed g d t after a → get_or t.bytes i 0 ≡ to_byte d →
      get_or after.bytes i 0 ≡ to_byte d
  mark-stays t after a i m h = go (eqb i m.granule) refl
    where
      go : (b : Bool) → eqb i m.granule ≡ b → get_or after.bytes i 0 ≡ to_byte d
      go true e = rw (eqb-true i m.granule e) m.becomes
      go false e = m.others i (eqb-false i m.granule e) ∙ h

  differs : to_byte d ≡ from_byte d → ⊥
  unfolding to_byte from_byte
  differs h = go d h
    where
      go : (d : Direction) → to_byte d ≡ from_byte d → ⊥
      go Delegate h = absurd (omega arith)
      go Undelegate h = absurd (omega arith)

  -- the single call of an address whose granule already has the byte that it would get
  marked_refused : (t : GranuleTable) (a i : ℕ) → fitting g t ≡ true → is_up s ≡ true → is_shared_page (boot_params s) d a ≡ false →
      granule_at g (length t.bytes) a ≡ Some i → get_or t.bytes i 0 ≡ to_byte d → (move_of s g d t a).answer.code ≡ BadPas
  unfolding moved_to answer_of
  marked_refused t a i f u n e h =
      ap (λ (m : Moved). m.answer.code) (sym (move-pas (boot_params s) g d t.bytes t.words a i e n (λ b. differs (sym h ∙ b)) ∙
      move_up s g d t a f u))

  again-from : (l : List ℕ) (t : GranuleTable) (j a i : ℕ) → fitting g t ≡ true →
      (is_up s ≡ true) × (is_shared_page (boot_params s) d a ≡ false) → granule_at g (length t.bytes) a ≡ Some i →
      get_or t.bytes i 0 ≡ to_byte d → get_or l j 0 ≡ a → j < length l →
      j ≤ done_by (move_of s g d) t l → (done_by (move_of s g d) t l ≡ j) × (code_by (move_of s g d) t l ≡ BadPas)
  unfolding done_by code_by
  again-from [] t j a i f u e h n m r = absurd (omega arith)
  again-from (b ∷ l) t zero a i f u e h n m r = rw (n, marked_refused t a i f u.0 u.1 e h) (refl, refl)
  again-from (b ∷ l) t (suc j) a i f u e h n m r =
      let k = first_done (move_of s g d) t b l (omega arith) in
      let acts = move-acts s g d t b (ok-code _ k) in
      let p = again-from l (move_of s g d t b).table j a i (fit-kept s g d t b f) u (rw acts.whole e) (mark-stays t _ b i acts h) n
      (omega arith) (let q : suc j ≤ suc (done_by (move_of s g d) (move_of s g d t b).table l) = rw k at r in omega arith) in
      rw k (ap suc p.0, p.1)

  ok-fit : (t : GranuleTable) (a : ℕ) → (move_of s g d t a).answer.code ≡ Ok → fitting g t ≡ true
  ok-fit t a h = (move-free s g d t a h).0

  done-fit : (t : GranuleTable) (l : List ℕ) → 0 < done_by (move_of s g d) t l → fitting g t ≡ true
  unfolding done_by
  done-fit t [] h = absurd (omega arith)
  done-fit t (a ∷ l) h = ok-fit t a (ok-code _ (first_done (move_of s g d) t a l h))

  again : (l : List ℕ) (t : GranuleTable) (i j : ℕ) → i < j → j < length l → get_or l i 0 ≡ get_or l j 0 → j ≤ done_by (move_of s g d) t l →
      (done_by (move_of s g d) t l ≡ j) × (code_by (move_of s g d) t l ≡ BadPas)
  unfolding done_by code_by
  again [] t i j h m e r = absurd (omega arith)
  again (b ∷ l) t i zero h m e r = absurd (omega arith)
  again (b ∷ l) t zero (suc j) h m e r =
      let k = first_done (move_of s g d) t b l (omega arith) in
      let acts = move-acts s g d t b (ok-code _ k) in
      let q : suc j ≤ suc (done_by (move_of s g d) (move_of s g d t b).table l) = rw k at r in
      let p = again-from l (move_of s g d t b).table j b acts.granule (fit-kept s g d t b (ok-fit t b (ok-code _ k)))
      ((move-free s g d t b (ok-code _ k)).1, (move-free s g d t b (ok-code _ k)).2) (rw acts.whole acts.own) acts.becomes
      (sym e) (omega arith) (omega arith) in
      rw k (ap suc p.0, p.1)
  again (b ∷ l) t (suc i) (suc j) h m e r =
      let k = first_done (move_of s g d) t b l (omega arith) in
      let q : suc j ≤ suc (done_by (move_of s g d) (move_of s g d t b).table l) = rw k at r in
      let p = again l (move_of s g d t b).table i j (omega arith) (omega arith) e (omega arith) in
      rw k (ap suc p.0, p.1)

  -- "An address already done in this list is refused with BAD_PAS when it is reached again.": the i-th and the j-th address are equal, and
  -- all calls before the j-th are accepted
  pub list-again : (t : GranuleTable) (l : List ℕ) (i j : ℕ) → i < j → j < length l → get_or l i 0 ≡ get_or l j 0 →
      j ≤ done_by (move_of s g d) t l →
      move_list_of s g d t l ≡ record { answer = answer_of BadPas j 0; table = table_by (move_of s g d) t (take j l) }
  unfolding when_fit is_false fails
  list-again t l i j h m e r = let p = again l t i j h m e r in list-is t l ∙ rw (done-fit t l (omega arith), p.0, p.1)
