-- Request E14: the books balance over each accepted call, and compose from table to table. Assumes nothing.
use Rattle.std.specs.Prelude.{Option, Some, None}
use Prim.Native.Nat.{ℕ, zero, suc, ◌+◌, ◌<◌}
use mathlib.Core.Path.{◌≡◌, refl, sym, ap, ◌∙◌}
use mathlib.Core.Bool.{Bool, true, false, cond}
use mathlib.Core.List.{List, [], ◌∷◌, ◌++◌, map}
use native.Mathlib.Omega.{arith}
use lib.ListN.{length, get_or, take}
use lib.Dec.{eqb}
use borrow.Author.Tests.{eqb-true, eqb-false, eq-eqb, ne_eqb}
use Rattle.boot.specs.declared.Record.{Record}
use Rattle.codes.specs.Codes.{answer_of}
use Rattle.codes.specs.declared.Code.TheVariants.{Ok}
use Rattle.banks.specs.Banks.{Granules, granule_at}
use Rattle.banks.proofs.Laws.{index_below}
use Rattle.realm_words.specs.Bits.{realm_bit}
use Rattle.realm_words.specs.Answers.{realms}
use Rattle.granule_rules.specs.Granules.{GranuleTable, from_byte, to_byte, Moved, move_of}
use Rattle.granule_rules.specs.Acts.{MoveActed}
use Rattle.granule_rules.specs.Lists.{move_list_of, done_of}
use Rattle.granule_rules.specs.Changes.{Change, change}
use Rattle.granule_rules.specs.Books.{delegations, undelegations, Names, NoneNames, nil, cons, Books}
use Rattle.granule_rules.specs.declared.Direction.{Direction}
use Rattle.granule_rules.specs.declared.Direction.TheVariants.{Delegate, Undelegate}
use Rattle.granule_rules.proofs.Acts.{move-acts}
use Rattle.granule_rules.proofs.Done.{list-is}
use Rattle.granule_rules.proofs.Changes.{list-by}

-- ---- Realm bytes of two tables of the same length that differ in at most one byte
realms-same : (xs ys : List ℕ) → length xs ≡ length ys → ((j : ℕ) → get_or xs j 0 ≡ get_or ys j 0) → realms xs ≡ realms ys
unfolding realms
realms-same [] [] n h = refl
realms-same [] (y ∷ ys) n h = absurd (omega arith)
realms-same (x ∷ xs) [] n h = absurd (omega arith)
realms-same (x ∷ xs) (y ∷ ys) n h = rw (h 0, realms-same xs ys (omega arith) (λ j. h (suc j)))

realms-one : (xs ys : List ℕ) (i : ℕ) → i < length xs → length xs ≡ length ys → ((j : ℕ) → (j ≡ i → ⊥) → get_or xs j 0 ≡ get_or ys j 0) →
    realms ys + realm_bit (get_or xs i 0) ≡ realms xs + realm_bit (get_or ys i 0)
unfolding realms
realms-one [] ys i l n h = absurd (omega arith)
realms-one (x ∷ xs) [] i l n h = absurd (omega arith)
realms-one (x ∷ xs) (y ∷ ys) zero l n h = rw (realms-same xs ys (omega arith) (λ j. h (suc j) (λ e. omega arith))) (omega arith)
realms-one (x ∷ xs) (y ∷ ys) (suc i) l n h =
    rw (h 0 (λ e. omega arith)) (omega (arith, realms-one xs ys i (omega arith) (omega arith) (λ j k. h (suc j) (λ e. k (omega arith)))))

-- ---- the byte that the changes leave, one after another
pub is_at : ℕ → Option ℕ → Bool
is_at i None = false
is_at i (Some j) = eqb i j

is-at : (i : ℕ) (k : Option ℕ) → k ≡ Some i → is_at i k ≡ true
unfolding is_at
is-at i k e = rw e (eq-eqb i i refl)

not_at : (i : ℕ) (k : Option ℕ) → (k ≡ Some i → ⊥) → is_at i k ≡ false
unfolding is_at
not_at i None n = refl
not_at i (Some j) n = ne_eqb i j (λ e. n (ap Some (sym e)))

module _ (g : Granules) (n i : ℕ) where
  pub left_by : List Change → ℕ → ℕ
  left_by [] x = x
  left_by (c ∷ cs) x = left_by cs (cond (is_at i (granule_at g n c.address)) (to_byte c.way) x)

  left-append : (xs ys : List Change) (x : ℕ) → left_by (xs ++ ys) x ≡ left_by ys (left_by xs x)
  unfolding left_by
  left-append [] ys x = refl
  left-append (c ∷ xs) ys x = left-append xs ys (cond (is_at i (granule_at g n c.address)) (to_byte c.way) x)

  left-none : (cs : List Change) (x : ℕ) → NoneNames g n i cs → left_by cs x ≡ x
  unfolding left_by
  left-none [] x nil = refl
  left-none (c ∷ cs) x (cons _ _ m r) = rw (not_at i (granule_at g n c.address) m) (left-none cs x r)

  left-last : (before : List Change) (c : Change) (behind : List Change) (x : ℕ) → Names g n i c → NoneNames g n i behind →
      left_by (before ++ c ∷ behind) x ≡ to_byte c.way
  unfolding left_by
  left-last before c behind x m r =
      left-append before (c ∷ behind) x ∙ rw (is-at i (granule_at g n c.address) m) (left-none behind (to_byte c.way) r)

  none_named : (cs : List Change) → ((a : ℕ) → granule_at g n a ≡ Some i → ⊥) → NoneNames g n i cs
  none_named [] h = nil
  none_named (c ∷ cs) h = cons c cs (h c.address) (none_named cs h)

-- ---- the same with the bytes from that fold: it composes from table to table
pub record Account (g : Granules) (t : GranuleTable) (cs : List Change) (after : GranuleTable) : Type 0 where
  pub balance : realms t.bytes + delegations cs ≡ undelegations cs + realms after.bytes
  pub whole : length after.bytes ≡ length t.bytes
  pub left : (i : ℕ) → get_or after.bytes i 0 ≡ left_by g (length t.bytes) i cs (get_or t.bytes i 0)

delegations-append : (xs ys : List Change) → delegations (xs ++ ys) ≡ delegations xs + delegations ys
unfolding delegations
delegations-append [] ys = omega arith
delegations-append (c ∷ xs) ys = omega (arith, delegations-append xs ys)

undelegations-append : (xs ys : List Change) → undelegations (xs ++ ys) ≡ undelegations xs + undelegations ys
unfolding undelegations
undelegations-append [] ys = omega arith
undelegations-append (c ∷ xs) ys = omega (arith, undelegations-append xs ys)

pub account-none : (g : Granules) (t : GranuleTable) → Account g t [] t
unfolding delegations undelegations left_by
account-none g t = record { balance = omega arith; whole = refl; left = λ i. refl }

pub account-join : (g : Granules) (t u v : GranuleTable) (xs ys : List Change) → Account g t xs u → Account g u ys v →
    Account g t (xs ++ ys) v
account-join g t u v xs ys p q =
    record {
      balance = rw (delegations-append xs ys, undelegations-append xs ys) (omega (arith, p.balance, q.balance));
      whole = q.whole ∙ p.whole;
      left = λ i.
          q.left i
          ∙ ap (λ n. left_by g n i ys (get_or u.bytes i 0)) p.whole
          ∙ ap (left_by g (length t.bytes) i ys) (p.left i)
          ∙ sym (left-append g (length t.bytes) i xs ys (get_or t.bytes i 0));
    }

pub account-books : (g : Granules) (t u : GranuleTable) (cs : List Change) → Account g t cs u → Books g t cs u
account-books g t u cs p =
    record {
      balance = p.balance;
      whole = p.whole;
      last =
          λ i before c behind e m r. p.left i ∙ ap (λ l. left_by g (length t.bytes) i l (get_or t.bytes i 0)) e ∙
          left-last g (length t.bytes) i before c behind (get_or t.bytes i 0) m r;
      none = λ i r. p.left i ∙ left-none g (length t.bytes) i cs (get_or t.bytes i 0) r;
      unnamed = λ i h. p.left i ∙ left-none g (length t.bytes) i cs (get_or t.bytes i 0) (none_named g (length t.bytes) i cs h);
    }

-- ---- one accepted call
byte_left : (g : Granules) (d : Direction) (t after : GranuleTable) (a : ℕ) → MoveActed g d t after a → (i : ℕ) →
    get_or after.bytes i 0 ≡ cond (is_at i (granule_at g (length t.bytes) a)) (to_byte d) (get_or t.bytes i 0)
unfolding is_at
byte_left g d t after a m i = rw m.own (go (eqb i m.granule) refl)
  where
    go : (b : Bool) → eqb i m.granule ≡ b → get_or after.bytes i 0 ≡ cond (eqb i m.granule) (to_byte d) (get_or t.bytes i 0)
    go true k = rw (k, eqb-true i m.granule k) m.becomes
    go false k = rw k (m.others i (eqb-false i m.granule k))

moved-realms : (g : Granules) (d : Direction) (t after : GranuleTable) (a : ℕ) → MoveActed g d t after a →
    realms after.bytes + realm_bit (from_byte d) ≡ realms t.bytes + realm_bit (to_byte d)
moved-realms g d t after a m =
    let e = realms-one t.bytes after.bytes m.granule (index_below g (length t.bytes) a m.granule m.own) (sym m.whole)
    (λ j n. sym (m.others j n)) in
    rw (m.was, m.becomes) at e

account-one : (g : Granules) (d : Direction) (t after : GranuleTable) (a : ℕ) → MoveActed g d t after a →
    Account g t (change d a ∷ []) after
unfolding delegations undelegations left_by from_byte to_byte realm_bit
account-one g Delegate t after a m =
    record { balance = omega (arith, moved-realms g Delegate t after a m); whole = m.whole; left = byte_left g Delegate t after a m }
account-one g Undelegate t after a m =
    record { balance = omega (arith, moved-realms g Undelegate t after a m); whole = m.whole; left = byte_left g Undelegate t after a m }

pub call-account : (s : Record) (g : Granules) (d : Direction) (t : GranuleTable) (a : ℕ) → (move_of s g d t a).answer.code ≡ Ok →
    Account g t (change d a ∷ []) (move_of s g d t a).table
call-account s g d t a h = account-one g d t _ a (move-acts s g d t a h)

-- "each granule of a list counted as a call": x1 is the number of them to enter
pub list-number : (s : Record) (g : Granules) (d : Direction) (t : GranuleTable) (l : List ℕ) →
    (move_list_of s g d t l).answer.x1 ≡ done_of s g d t l
unfolding answer_of
list-number s g d t l = ap (λ (m : Moved). m.answer.x1) (list-is s g d t l)

pub list-books : (s : Record) (g : Granules) (d : Direction) (t : GranuleTable) (l : List ℕ) →
    Books g t (map (change d) (take (move_list_of s g d t l).answer.x1 l)) (move_list_of s g d t l).table
list-books s g d t l =
    rw (list-number s g d t l) (account-books g t _ _ (list-by (Account g) (account-none g) (account-join g) s g d
    (call-account s g d) t l))
