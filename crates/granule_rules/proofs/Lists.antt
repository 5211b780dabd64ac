-- A list of granules as its loop runs, in terms of its single calls. Assumes nothing.
use Prim.Native.Nat.{ℕ, suc, ◌+◌, ◌<◌}
use mathlib.Core.Path.{◌≡◌, refl, sym, ap, ◌∙◌}
use mathlib.Core.Bool.{Bool, true, false, cond}
use mathlib.Core.List.{List, [], ◌∷◌}
use native.Mathlib.Numerals.{add-one}
use native.Mathlib.Omega.{arith}
use lib.ListN.{length, get_or, drop}
use lib.Seq.{drop-cons, drop-length}
use Rattle.boot.specs.declared.Params.{Params}
use Rattle.boot.specs.declared.Record.{Record}
use Rattle.codes.specs.Codes.{is_up, is_false, fails, boot_params, is_ok, answer_of}
use Rattle.codes.specs.declared.Answer.{Answer}
use Rattle.codes.specs.declared.Code.{Code}
use Rattle.codes.specs.declared.Code.TheVariants.{Ok, Inval}
use Rattle.realm_words.specs.Answers.{words_code}
use Rattle.banks.specs.Banks.{Granules, granule_count}
use Rattle.granule_rules.specs.Granules.{GranuleTable, table_of, Moved, moved_by, fitting, move_of, moved_to}
use Rattle.granule_rules.specs.Lists.{onward, list_by, move_list_of}
use Rattle.granule_rules.specs.Steps.{shared_code, move_at}
use Rattle.granule_rules.specs.declared.Direction.{Direction}
use Rattle.granule_rules.proofs.Moving.{move-unfit, move_up, shared-refused, fit-kept}

-- ---- one more call
onward-ok : (m : Moved) (k : ℕ) (rest : Moved) → is_ok m.answer.code ≡ true → onward m k rest ≡ rest
unfolding onward
onward-ok m k rest h = ap (λ b. cond b rest (record { answer = answer_of m.answer.code k 0; table = m.table })) h

onward-stop : (m : Moved) (k : ℕ) (rest : Moved) → is_ok m.answer.code ≡ false →
    onward m k rest ≡ record { answer = answer_of m.answer.code k 0; table = m.table }
unfolding onward
onward-stop m k rest h = ap (λ b. cond b rest (record { answer = answer_of m.answer.code k 0; table = m.table })) h

-- ---- the list from its i-th address on, in the loop
module _ (f : GranuleTable → ℕ → Moved) (l : List ℕ) (i : ℕ) (t : GranuleTable) where
  list-last : i ≡ length l → ◌≡◌ {A = Moved} (record { answer = answer_of Ok (length l) 0; table = t }) (list_by f i t (drop i l))
  unfolding list_by
  list-last e = rw (e, drop-length)

  module _ (h : i < length l) (m : Moved) (e : m ≡ f t (get_or l i 0)) where
    here : list_by f i t (drop i l) ≡ onward m i (list_by f (i + 1) m.table (drop (i + 1) l))
    unfolding list_by
    here =
        ap (λ x. list_by f i t x) (drop-cons l i 0 h)
        ∙ ap (λ x. onward (f t (get_or l i 0)) i (list_by f x (f t (get_or l i 0)).table (drop x l))) (sym (add-one i))
        ∙ ap (λ (x : Moved). onward x i (list_by f (i + 1) x.table (drop (i + 1) l))) (sym e)

    list-more : is_ok m.answer.code ≡ true → list_by f i t (drop i l) ≡ list_by f (i + 1) m.table (drop (i + 1) l)
    list-more k = here ∙ onward-ok m i _ k

    list-stop : is_ok m.answer.code ≡ false → record { answer = answer_of m.answer.code i 0; table = m.table } ≡ list_by f i t
        (drop i l)
    list-stop k = sym (here ∙ onward-stop m i _ k)

-- the same from the code of the call and the table that it leaves; `whole` is the list as its loop has it so far
module _ (f : GranuleTable → ℕ → Moved) (l : List ℕ) (i : ℕ) (t : GranuleTable) (whole : Moved) (w : whole ≡ list_by f i t (drop i l)) where
  pub told-last : i ≡ length l → (r : Answer) → r ≡ answer_of Ok (length l) 0 → ◌≡◌ {A = Moved} (record { answer = r; table = t }) whole
  told-last e r q = rw q (list-last f l i t e ∙ sym w)

  module _ (h : i < length l) (k : Code) (bytes words : List ℕ) (e : moved_to (answer_of k 0 0) bytes words ≡ f t (get_or l i 0)) (z : Bool)
      (o : z ≡ is_ok k) where
    pub told_more : z ≡ true → whole ≡ list_by f (i + 1) (table_of bytes words) (drop (i + 1) l)
    unfolding moved_to answer_of
    told_more y = w ∙ list-more f l i t h (moved_to (answer_of k 0 0) bytes words) e (sym o ∙ y)

    pub told-stop : z ≡ false → (r : Answer) → r ≡ answer_of k i 0 → moved_to r bytes words ≡ whole
    unfolding moved_to answer_of
    told-stop y r q = rw q (list-stop f l i t h (moved_to (answer_of k 0 0) bytes words) e (sym o ∙ y) ∙ sym w)

-- ---- the record is checked once
-- two single calls that are equal on tables with property P, which the second call keeps
module _ (P : GranuleTable → Type 0) (f h : GranuleTable → ℕ → Moved) (e : (t : GranuleTable) (a : ℕ) → P t → f t a ≡ h t a)
    (kept : (t : GranuleTable) (a : ℕ) → P t → P (h t a).table) where
  same-list : (k : ℕ) (t : GranuleTable) (l : List ℕ) → P t → list_by f k t l ≡ list_by h k t l
  unfolding list_by
  same-list k t [] p = refl
  same-list k t (a ∷ l) p =
      ap (λ (m : Moved). onward m k (list_by f (suc k) m.table l)) (e t a p) ∙
      ap (onward (h t a) k) (same-list (suc k) (h t a).table l (kept t a p))

module _ (s : Record) (g : Granules) (d : Direction) (t : GranuleTable) where
  module _ (f : fitting g t ≡ true) where
    list-fit : (l : List ℕ) → list_by (move_of s g d) 0 t l ≡ move_list_of s g d t l
    unfolding move_list_of
    list-fit l = rw f

    list_up : is_up s ≡ true → (l : List ℕ) → list_by (move_at (boot_params s) g d) 0 t l ≡ move_list_of s g d t l
    list_up h l =
        same-list (λ x. fitting g x ≡ true) (move_at (boot_params s) g d) (move_of s g d) (λ x a p. move_up s g d x a p h)
        (λ x a p. fit-kept s g d x a p) 0 t l f
        ∙ list-fit l

    pub told-list : is_up s ≡ true → (u : Params) → u ≡ boot_params s → (l : List ℕ) (m : Moved) → m ≡ list_by (move_at u g d) 0 t l →
        m ≡ move_list_of s g d t l
    told-list h u v l m e = e ∙ rw v (list_up h l)

  -- an empty list needs the right number of words alone
  pub list-none : (l : List ℕ) → length l ≡ 0 → (r : Answer) → r ≡ answer_of (words_code t.words (granule_count g)) 0 0 →
      moved_to r t.bytes t.words ≡ move_list_of s g d t l
  unfolding move_list_of list_by moved_to moved_by words_code is_false fails
  list-none (a ∷ l) h r q = absurd (omega arith)
  list-none [] h r q = rw q (go (fitting g t) refl)
    where
      go : (b : Bool) → fitting g t ≡ b → moved_to (answer_of (fails (is_false b) Inval Ok) 0 0) t.bytes t.words
          ≡ cond b (list_by (move_of s g d) 0 t []) (moved_by Inval t t)
      go true f = refl
      go false f = refl

  -- a list with a first address is its single calls, whatever the number of words
  list-some : (a : ℕ) (l : List ℕ) → list_by (move_of s g d) 0 t (a ∷ l) ≡ move_list_of s g d t (a ∷ l)
  unfolding move_list_of list_by onward moved_by answer_of
  list-some a l = go (fitting g t) refl
    where
      go : (b : Bool) → fitting g t ≡ b → list_by (move_of s g d) 0 t (a ∷ l) ≡ move_list_of s g d t (a ∷ l)
      go true f = rw f
      go false f = rw (f, ← move-unfit s g d t a f)

  -- a check that does not depend on the address refuses the first call
  pub list-refused : (k : Code) → k ≡ shared_code s g (length t.bytes) t.words → is_ok k ≡ false →
      (l : List ℕ) → (length l ≡ 0 → ⊥) → (r : Answer) → r ≡ answer_of k 0 0 →
      moved_to r t.bytes t.words ≡ move_list_of s g d t l
  unfolding list_by onward moved_to answer_of
  list-refused k e n [] h r q = absurd (h refl)
  list-refused k e n (a ∷ l) h r q = rw q (first ∙ list-some a l)
    where
      first : moved_to (answer_of k 0 0) t.bytes t.words ≡ list_by (move_of s g d) 0 t (a ∷ l)
      first = rw (← shared-refused s g t k e n d a (answer_of k 0 0) refl, n)
