-- Bytes that differ only in withdrawn values hold fields that are shown the same. Assumes nothing.
use Prim.Native.Nat.{ℕ, zero, suc, ◌+◌, ◌-◌, ◌≤◌, ◌<◌}
use mathlib.Core.Path.{◌≡◌, refl, sym, ap, ◌∙◌}
use mathlib.Core.Bool.{Bool, true, false, cond}
use mathlib.Core.List.{List, [], ◌∷◌}
use native.Mathlib.Omega.{arith}
use lib.ListN.{length, get_or, drop, length-drop}
use lib.Seq.{get_or-drop}
use lib.Dec.{ltb, eqb}
use borrow.Author.Tests.{ltb-false, lt-ltb, le-ltb, lt-leb}
use Rattle.words.specs.Tests.{both}
use Rattle.words.specs.Word.{le_of, part, num_at}
use Rattle.words.proofs.Read.{part_same}
use Rattle.fields.specs.Fields.{Field, mk_field, Scanned, broken, ended, bare, push, step, scan, scan_all, scan_of, judged, lengths_ok}
use Rattle.fields.specs.Fields.{count, fields_ok, raw, withdrawn, shown_field, shown_fields}
use Rattle.fields.specs.Withdrawn.{in_withdrawn}
use Rattle.fields.proofs.Scans.{never, part_length}
use Rattle.fields.proofs.Rules.{listed, judged-passed}

-- fields that differ only in withdrawn values
pub record Alike (fs gs : List Field) : Type 0 where
  pub shown : shown_fields fs ≡ shown_fields gs
  pub lengths : lengths_ok fs ≡ lengths_ok gs
  pub counts : (t : ℕ) → count t fs ≡ count t gs

-- s holds fields that differ from fs only in withdrawn values, with the end mark at the same offset
pub record Like (fs : List Field) (m : ℕ) (s : Scanned) : Type 0 where
  pub others : List Field
  pub is : s ≡ ended others m
  pub alike : Alike fs others

alike-none : Alike [] []
unfolding shown_fields lengths_ok count
alike-none = record { shown = refl; lengths = refl; counts = λ t. refl }

alike-more : (f g : Field) (fs gs : List Field) → f.tag ≡ g.tag → length f.value ≡ length g.value → shown_field f ≡ shown_field g →
    Alike fs gs → Alike (f ∷ fs) (g ∷ gs)
unfolding shown_fields lengths_ok count
alike-more f g fs gs t l s a = record { shown = rw (s, a.shown); lengths = rw (t, l, a.lengths); counts = λ k. rw (t, a.counts k) }

alike-to : {fs hs gs : List Field} → hs ≡ fs → Alike hs gs → Alike fs gs
alike-to e a = rw (← e) a

alike-ok : (fs gs : List Field) → Alike fs gs → fields_ok fs ≡ fields_ok gs
unfolding fields_ok
alike-ok fs gs a = rw (a.lengths, a.counts 1, a.counts 2, a.counts 3)

-- ---- one field in front
abbrev Next : Field → Field → Scanned → Scanned → List Field → Type 0
Next f g s t fs = (gs : List Field) (k : ℕ) → s ≡ ended gs k → fs ≡ f ∷ gs → (shown_field f ≡ shown_field g) × Like gs k t

push-like : (f g : Field) (s t : Scanned) (fs : List Field) (m : ℕ) → f.tag ≡ g.tag → length f.value ≡ length g.value →
    Next f g s t fs → push f s ≡ ended fs m → Like fs m (push g t)
unfolding push
push-like f g broken t fs m a l n h = never (cc)
push-like f g (bare gs) t fs m a l n h = never (cc)
push-like f g (ended gs k) t fs m a l n h =
    let e : f ∷ gs ≡ fs = cc in
    let q : 3 + length f.value + k ≡ m = cc in
    let z = n gs k refl (sym e) in
    let r = z.1 in
    let u : 3 + length g.value + k ≡ m = omega arith in
    record {
      others = g ∷ r.others;
      is = rw r.is (ap (ended (g ∷ r.others)) u);
      alike = alike-to e (alike-more f g gs r.others a l z.0 r.alike);
    }

step-like : (x c z e : Bool) (f g : Field) (s t : Scanned) (fs : List Field) (m : ℕ) → f.tag ≡ g.tag →
    (c ≡ false → length f.value ≡ length g.value) → (c ≡ false → Next f g s t fs) →
    step x c z e f s ≡ ended fs m → Like fs m (step x c z e g t)
unfolding step
step-like true c z e f g s t fs m a l n h = never (cc)
step-like false true z e f g s t fs m a l n h = never (cc)
step-like false false true true f g s t fs m a l n h =
    let p : [] ≡ fs = cc in
    let q : 3 ≡ m = cc in
    record { others = []; is = ap (ended []) q; alike = alike-to p alike-none }
step-like false false true false f g s t fs m a l n h = never (cc)
step-like false false false e f g s t fs m a l n h = push-like f g s t fs m a (l refl) (n refl) h

-- ---- the bytes outside withdrawn values
pub both-no : (b : Bool) → both b false ≡ false
unfolding both
both-no true = refl
both-no false = refl

head-out : (fs : List Field) (i : ℕ) → i < 3 → in_withdrawn fs i ≡ false
unfolding in_withdrawn
head-out [] i h = refl
head-out (f ∷ fs) i h = rw (lt-ltb i (3 + length f.value) (omega arith), lt-leb 3 i h, both-no)

value_out : (f : Field) (fs : List Field) (i : ℕ) → eqb f.tag 3 ≡ false → i < 3 + length f.value → in_withdrawn (f ∷ fs) i ≡ false
unfolding in_withdrawn both
value_out f fs i e h = rw (lt-ltb i (3 + length f.value) h, e)

behind : (f : Field) (fs : List Field) (i : ℕ) → in_withdrawn (f ∷ fs) (3 + length f.value + i) ≡ in_withdrawn fs i
unfolding in_withdrawn
behind f fs i =
    let e : 3 + length f.value + i - (3 + length f.value) ≡ i = omega arith in
    rw (le-ltb (3 + length f.value + i) (3 + length f.value) (omega arith), e)

-- ---- all fields
-- p and q have the same bytes outside the withdrawn values of fs
abbrev Same : List ℕ → List ℕ → List Field → Type 0
Same p q fs = (i : ℕ) → in_withdrawn fs i ≡ false → get_or p i 0 ≡ get_or q i 0

pair_same : (p q : List ℕ) → length p ≡ length q → ((i : ℕ) → i < 3 → get_or p i 0 ≡ get_or q i 0) → num_at 2 1 p ≡ num_at 2 1 q
unfolding num_at
pair_same p q l a = ap le_of (part_same 1 2 p q l (λ i b c. a i (omega arith)))

shown-like : (t w : ℕ) (p q : List ℕ) (gs : List Field) → length p ≡ length q → length (part 3 w p) ≡ w →
    Same p q (mk_field t (part 3 w p) ∷ gs) → shown_field (mk_field t (part 3 w p)) ≡ shown_field (mk_field t (part 3 w q))
unfolding shown_field mk_field
shown-like t w p q gs l n a = go (eqb t 3) refl
  where
    go : (b : Bool) → eqb t 3 ≡ b → cond b withdrawn (raw t (part 3 w p)) ≡ cond b withdrawn (raw t (part 3 w q))
    go true e = refl
    go false e = ap (raw t) (part_same 3 w p q l (λ i b c. a i (value_out (mk_field t (part 3 w p)) gs i e (omega arith))))

rest-same : (w : ℕ) (p q : List ℕ) (f : Field) (gs : List Field) → length f.value ≡ w → Same p q (f ∷ gs) →
    Same (drop (3 + w) p) (drop (3 + w) q) gs
rest-same w p q f gs n a i z = rw (get_or-drop, get_or-drop) (a (3 + w + i) (rw (← n) (behind f gs i ∙ z)))

-- a scan, given its length, first tag and first length
abbrev scan_by : ℕ → ℕ → ℕ → ℕ → List ℕ → Scanned
scan_by n l t w bs = step (eqb l 0) (ltb l (3 + w)) (eqb t 0) (eqb w 0) (mk_field t (part 3 w bs)) (scan n (drop (3 + w) bs))

like-to : {fs : List Field} {m : ℕ} {s t : Scanned} → s ≡ t → Like fs m s → Like fs m t
like-to e a = rw (← e) a

same_head : (n : ℕ) (p q : List ℕ) → length p ≡ length q → ((i : ℕ) → i < 3 → get_or p i 0 ≡ get_or q i 0) →
    scan_by n (length p) (get_or p 0 0) (num_at 2 1 p) q ≡ scan (suc n) q
unfolding scan
same_head n p q l b =
    ap (λ x. scan_by n x (get_or p 0 0) (num_at 2 1 p) q) l
    ∙ ap (λ x. scan_by n (length q) x (num_at 2 1 p) q) (b 0 (omega arith))
    ∙ ap (λ x. scan_by n (length q) (get_or q 0 0) x q) (pair_same p q l b)

scan-like : (n : ℕ) (p q : List ℕ) (fs : List Field) (m : ℕ) → length p ≡ length q → Same p q fs → scan n p ≡ ended fs m →
    Like fs m (scan n q)
unfolding scan mk_field
scan-like zero p q fs m l a h = never (cc)
scan-like (suc n) p q fs m l a h =
    let w = num_at 2 1 p in
    like-to (same_head n p q l (λ i k. a i (head-out fs i k)))
    (step-like (eqb (length p) 0) (ltb (length p) (3 + w)) (eqb (get_or p 0 0) 0) (eqb w 0) (mk_field (get_or p 0 0) (part 3 w p))
    (mk_field (get_or p 0 0) (part 3 w q)) (scan n (drop (3 + w) p)) (scan n (drop (3 + w) q)) fs m refl
    (λ c.
    let k : 3 + w ≤ length p = ltb-false (length p) (3 + w) c in
    part_length 3 w p k ∙ sym (part_length 3 w q (omega arith)))
    (λ c gs k s e.
    let v : length (part 3 w p) ≡ w = part_length 3 w p (ltb-false (length p) (3 + w) c) in
    let a' : Same p q (mk_field (get_or p 0 0) (part 3 w p) ∷ gs) = rw e at a in (
      shown-like (get_or p 0 0) w p q gs l v a',
      scan-like n (drop (3 + w) p) (drop (3 + w) q) gs k (rw (length-drop, length-drop, l))
          (rest-same w p q (mk_field (get_or p 0 0) (part 3 w p)) gs v a') s,
    ))
    h)

-- the same with the rules: two slices of equal length that differ only in withdrawn values hold fields that are shown the same
pub like-scanned : (p q : List ℕ) (fs : List Field) (m : ℕ) → length p ≡ length q → Same p q fs → scan_of p ≡ ended fs m →
    Like fs m (scan_of q)
unfolding scan_of scan_all judged listed
like-scanned p q fs m l a h =
    let j = judged-passed fields_ok (scan_all p) (ended fs m) (λ e. never (cc)) h in
    let r = scan-like (length p) p q fs m l a j.0 in
    record { others = r.others; is = rw (← l, r.is, sym (alike-ok fs r.others r.alike) ∙ j.1); alike = r.alike }
