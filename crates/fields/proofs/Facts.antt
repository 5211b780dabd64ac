-- Bytes scan as fields exactly if they contain these fields and the fields keep the rules; fields that keep the rules are read back from
-- their bytes. Assumes nothing.
use Prim.Native.Nat.{ℕ, zero, suc, ◌+◌, ◌-◌, ◌*◌, ◌/◌, ◌%◌, ◌^◌, ◌≤◌, ◌<◌}
use mathlib.Core.Path.{◌≡◌, refl, sym, ap, ◌∙◌}
use mathlib.Core.Bool.{Bool, true, false, cond, false≢true}
use mathlib.Core.List.{List, [], ◌∷◌, ◌++◌}
use native.Mathlib.Omega.{arith}
use native.Mathlib.Nat.{not-suc-le-zero}
use lib.ListN.{length, get_or, take, drop, length-append, length-take, length-drop, take-append-drop}
use lib.Seq.{take_at, drop_at, drop-drop}
use lib.Dec.{leb, ltb, eqb}
use borrow.Author.Tests.{leb-true, ltb-true, ltb-false, eqb-true, le-leb, lt-ltb, le-ltb, ne_eqb, eq-eqb}
use Rattle.words.specs.Tests.{Yes, both}
use Rattle.words.specs.Word.{le_of, le_bytes, part, num_at}
use Rattle.words.proofs.Tests.{both_l, both_r, both_of}
use Rattle.words.proofs.Bytes.{Bytes, bytes_drop}
use Rattle.fields.specs.Fields.{Field, mk_field, Scanned, broken, ended, bare, push, step, scan, scan_all, scan_of, judged, length_ok}
use Rattle.fields.specs.Fields.{lengths_ok, count, fields_ok, is_bare, fields_described, describable}
use Rattle.fields.specs.Facts.{field_bytes, fields_bytes, FieldFacts, field_no, FieldsKeep, FieldsStand}
use Rattle.fields.proofs.Scans.{never, scan_step, step-bare, part_length}
use Rattle.fields.proofs.Rules.{listed, judged-passed}

-- ---- one field
abbrev length_test : ℕ → Bool → Bool → Bool → Bool → Bool
length_test n a b c d = cond a false (cond b (both (leb 1 n) (leb n 32)) (cond c (eqb n 8) (cond d (eqb n 1) (ltb n (2 ^ 16)))))

length-only : (t n : ℕ) → Yes (length_ok t n) → FieldFacts t n
unfolding length_ok
length-only t n h = (
  λ z. false≢true (rw (eq-eqb t 0 z) at h),
  λ z. name z h,
  λ z. serial z h,
  λ z. console z h,
  go (eqb t 0) (eqb t 1) (eqb t 2) (eqb t 3) h,
)
  where
    go : (a b c d : Bool) → Yes (length_test n a b c d) → n < 2 ^ 16
    go true b c d h = absurd (false≢true h)
    go false true c d h = let l : n ≤ 32 = leb-true _ _ (both_r _ _ h) in omega arith
    go false false true d h = let l : n ≡ 8 = eqb-true _ _ h in omega arith
    go false false false true h = let l : n ≡ 1 = eqb-true _ _ h in omega arith
    go false false false false h = ltb-true _ _ h

    name : t ≡ 1 → Yes (length_test n (eqb t 0) (eqb t 1) (eqb t 2) (eqb t 3)) → (1 ≤ n) × (n ≤ 32)
    name z h = let g = rw (ne_eqb t 0 (λ y. omega arith), eq-eqb t 1 z) at h in (leb-true 1 n (both_l _ _ g), leb-true n 32 (both_r _ _ g))

    serial : t ≡ 2 → Yes (length_test n (eqb t 0) (eqb t 1) (eqb t 2) (eqb t 3)) → n ≡ 8
    serial z h = eqb-true n 8 (rw (ne_eqb t 0 (λ y. omega arith), ne_eqb t 1 (λ y. omega arith), eq-eqb t 2 z) at h)

    console : t ≡ 3 → Yes (length_test n (eqb t 0) (eqb t 1) (eqb t 2) (eqb t 3)) → n ≡ 1
    console z h =
        eqb-true n 1 (rw (ne_eqb t 0 (λ y. omega arith), ne_eqb t 1 (λ y. omega arith), ne_eqb t 2 (λ y. omega arith), eq-eqb t 3 z) at h)

length-acts : (t n : ℕ) → FieldFacts t n → Yes (length_ok t n)
unfolding length_ok
length-acts t n h = go (eqb t 0) (eqb t 1) (eqb t 2) (eqb t 3) refl refl refl refl
  where
    go : (a b c d : Bool) → eqb t 0 ≡ a → eqb t 1 ≡ b → eqb t 2 ≡ c → eqb t 3 ≡ d → Yes (length_test n a b c d)
    go true b c d p q r s = absurd (h.0 (eqb-true _ _ p))
    go false true c d p q r s = let y = h.1 (eqb-true _ _ q) in both_of _ _ (le-leb 1 n y.0) (le-leb n 32 y.1)
    go false false true d p q r s = eq-eqb n 8 (h.2 (eqb-true _ _ r))
    go false false false true p q r s = eq-eqb n 1 (h.3 (eqb-true _ _ s))
    go false false false false p q r s = lt-ltb n (2 ^ 16) h.4

-- ---- a list of fields
lengths-only : (fs : List Field) → Yes (lengths_ok fs) → (i : ℕ) → i < length fs →
    FieldFacts (field_no i fs).tag (length (field_no i fs).value)
unfolding lengths_ok
lengths-only [] h i l = absurd (not-suc-le-zero l)
lengths-only (f ∷ fs) h zero l = length-only f.tag (length f.value) (both_l _ _ h)
lengths-only (f ∷ fs) h (suc i) l = lengths-only fs (both_r _ _ h) i (omega arith)

lengths-acts : (fs : List Field) → ((i : ℕ) → i < length fs → FieldFacts (field_no i fs).tag (length (field_no i fs).value)) →
    Yes (lengths_ok fs)
unfolding lengths_ok
lengths-acts [] h = refl
lengths-acts (f ∷ fs) h =
    both_of _ _ (length-acts f.tag (length f.value) (h 0 (omega arith))) (lengths-acts fs (λ i l. h (suc i) (omega arith)))

-- how often a tag appears: never if no field has it, at most once if no two fields have it
counts : (t u : ℕ) (n : ℕ) {P : Type 0} → (u ≡ t → cond (eqb u t) 1 0 + n ≡ suc n → P) → ((u ≡ t → ⊥) → cond (eqb u t) 1 0 + n ≡ n → P) → P
counts t u n {P = P} y z = go (eqb u t) refl
  where
    go : (b : Bool) → eqb u t ≡ b → P
    go true e = y (eqb-true _ _ e) (rw e (omega arith))
    go false e = let d : (u ≡ t → ⊥) = λ q. false≢true (sym e ∙ eq-eqb u t q) in z d (rw e (omega arith))

pub count_none : (t : ℕ) (fs : List Field) → ((i : ℕ) → i < length fs → (field_no i fs).tag ≡ t → ⊥) → count t fs ≡ 0
unfolding count
count_none t [] h = refl
count_none t (f ∷ fs) h =
    let n = count_none t fs (λ i l. h (suc i) (omega arith)) in
    counts t f.tag (count t fs) (λ e c. absurd (h 0 (omega arith) e)) (λ d c. c ∙ n)

pub count-some : (t : ℕ) (fs : List Field) (i : ℕ) → i < length fs → (field_no i fs).tag ≡ t → 1 ≤ count t fs
unfolding count
count-some t [] i l h = absurd (not-suc-le-zero l)
count-some t (f ∷ fs) zero l h = counts t f.tag (count t fs) (λ e c. omega arith) (λ d c. absurd (d h))
count-some t (f ∷ fs) (suc i) l h =
    let n = count-some t fs i (omega arith) h in counts t f.tag (count t fs) (λ e c. omega arith) (λ d c. omega arith)

once-acts : (t : ℕ) (fs : List Field) → ((i j : ℕ) → i < j → j < length fs → (field_no i fs).tag ≡ t → (field_no j fs).tag ≡ t → ⊥) →
    count t fs ≤ 1
unfolding count
once-acts t [] h = omega arith
once-acts t (f ∷ fs) h =
    let n = once-acts t fs (λ i j l m. h (suc i) (suc j) (omega arith) (omega arith)) in
    counts t f.tag (count t fs)
    (λ e c. let z = count_none t fs (λ i l. h 0 (suc i) (omega arith) (omega arith) e) in omega arith)
    (λ d c. omega arith)

once-only : (t : ℕ) (fs : List Field) → count t fs ≤ 1 → (i j : ℕ) → i < j → j < length fs → (field_no i fs).tag ≡ t →
    (field_no j fs).tag ≡ t → ⊥
unfolding count
once-only t [] c i j l m p q = not-suc-le-zero m
once-only t (f ∷ fs) c i zero l m p q = not-suc-le-zero l
once-only t (f ∷ fs) c zero (suc j) l m p q =
    let n = count-some t fs j (omega arith) q in counts t f.tag (count t fs) (λ e k. let z : ⊥ = omega arith in z) (λ d k. d p)
once-only t (f ∷ fs) c (suc i) (suc j) l m p q =
    counts t f.tag (count t fs) (λ e k. once-only t fs (omega arith) i j (omega arith) (omega arith) p q)
    (λ d k. once-only t fs (omega arith) i j (omega arith) (omega arith) p q)

pub keep-acts : (fs : List Field) → FieldsKeep fs → Yes (fields_ok fs)
unfolding fields_ok
keep-acts fs t =
    both_of _ _ (lengths-acts fs t.each) (both_of _ _ (once 1 (omega arith)) (both_of _ _ (once 2 (omega arith)) (once 3 (omega arith))))
  where
    once : (k : ℕ) → k ≤ 3 → Yes (leb (count k fs) 1)
    once k b = le-leb (count k fs) 1 (once-acts k fs (λ i j l m p q. let z = t.once i j l m (p ∙ sym q) in let y : ⊥ = omega arith in y))

pub keep-only : (fs : List Field) → Yes (fields_ok fs) → FieldsKeep fs
unfolding fields_ok
keep-only fs h =
    let a = both_r _ _ h in
    let b = both_r _ _ a in
    let each = lengths-only fs (both_l _ _ h) in
    record {
      each = each;
      once = λ i j l m e.
          go (field_no i fs).tag (each i (omega arith)).0 (leb-true _ _ (both_l _ _ a)) (leb-true _ _ (both_l _ _ b))
          (leb-true _ _ (both_r _ _ b))
          (λ c. once-only (field_no i fs).tag fs c i j l m refl (sym e));
    }
  where
    go : (t : ℕ) → (t ≡ 0 → ⊥) → count 1 fs ≤ 1 → count 2 fs ≤ 1 → count 3 fs ≤ 1 → (count t fs ≤ 1 → ⊥) → 4 ≤ t
    go zero n x y z k = absurd (n refl)
    go (suc zero) n x y z k = absurd (k x)
    go (suc (suc zero)) n x y z k = absurd (k y)
    go (suc (suc (suc zero))) n x y z k = absurd (k z)
    go (suc (suc (suc (suc t)))) n x y z k = omega arith

-- ---- fields in bytes
stand-scan : (fs : List Field) (bs : List ℕ) (n : ℕ) → Yes (lengths_ok fs) → FieldsStand bs fs n → scan_all bs ≡ ended fs n
unfolding lengths_ok step push mk_field
stand-scan [] bs n h t =
    scan_step bs ∙ rw (
      t.2,
      ne_eqb (length bs) 0 (λ z. let l = t.0 in omega arith),
      le-ltb (length bs) 3 t.0,
      eq-eqb (get_or bs 0 0) 0 t.1,
      t.3,
    )
stand-scan (f ∷ fs) bs n h t =
    let c = length-only f.tag (length f.value) (both_l _ _ h) in
    let l : 3 + length f.value ≤ length bs = t.0 in
    let m : 3 + length f.value ≤ n = t.4 in
    let r = stand-scan fs (drop (3 + length f.value) bs) (n - (3 + length f.value)) (both_r _ _ h) t.5 in
    scan_step bs ∙
    rw (
      t.2,
      ne_eqb (length bs) 0 (λ z. omega arith),
      le-ltb (length bs) (3 + length f.value) l,
      t.1,
      ne_eqb f.tag 0 c.0,
      t.3,
      r,
      (let e : 3 + length f.value + (n - (3 + length f.value)) ≡ n = omega arith in e),
    )

-- a step that reached an end mark
step-stands : (x c z e : Bool) (f : Field) (s : Scanned) (fs : List Field) (m : ℕ) {P : Type 0} → step x c z e f s ≡ ended fs m →
    (c ≡ false → z ≡ true → e ≡ true → fs ≡ [] → m ≡ 3 → P) →
    (c ≡ false → (gs : List Field) (k : ℕ) → fs ≡ f ∷ gs → s ≡ ended gs k → m ≡ 3 + length f.value + k → P) → P
unfolding step push
step-stands true c z e f s fs m h j k = never (cc)
step-stands false true z e f s fs m h j k = never (cc)
step-stands false false true true f s fs m h j k = j refl refl refl (cc) (cc)
step-stands false false true false f s fs m h j k = never (cc)
step-stands false false false e f broken fs m h j k = never (cc)
step-stands false false false e f (ended gs n) fs m h j k = k refl gs n (cc) refl (cc)
step-stands false false false e f (bare gs) fs m h j k = never (cc)

scan-stand : (n : ℕ) (bs : List ℕ) (fs : List Field) (m : ℕ) → scan n bs ≡ ended fs m → FieldsStand bs fs m
unfolding scan mk_field
scan-stand zero bs fs m h = never (cc)
scan-stand (suc n) bs fs m h =
    let w = num_at 2 1 bs in
    step-stands _ _ _ _ _ _ fs m h
    (λ c z e p q.
    let y : w ≡ 0 = eqb-true _ _ e in
    let l : 3 + w ≤ length bs = ltb-false (length bs) (3 + w) c in
    rw p (omega arith, eqb-true _ _ z, y, q))
    (λ c gs k p s q.
    let l : 3 + w ≤ length bs = ltb-false (length bs) (3 + w) c in
    let v : length (part 3 w bs) ≡ w = part_length 3 w bs l in
    let q' : m ≡ 3 + length (part 3 w bs) + k = q in
    let r : FieldsStand (drop (3 + w) bs) gs k = scan-stand n (drop (3 + w) bs) gs k s in
    let d : m - (3 + w) ≡ k = omega arith in
    rw (p, v) (l, refl, refl, refl, omega arith, rw d r))

module _ (bs : List ℕ) (fs : List Field) (n : ℕ) where
  pub ended-acts : FieldsKeep fs → FieldsStand bs fs n → scan_of bs ≡ ended fs n
  unfolding scan_of judged fields_ok
  ended-acts k t = let h = keep-acts fs k in rw (stand-scan fs bs n (both_l _ _ h) t, h)

  pub ended-only : scan_of bs ≡ ended fs n → FieldsKeep fs × FieldsStand bs fs n
  unfolding scan_of scan_all listed
  ended-only h =
      let j = judged-passed fields_ok (scan_all bs) (ended fs n) (λ e. never (cc)) h in
      (keep-only fs j.1, scan-stand (length bs) bs fs n j.0)

-- ---- reading the bytes of fields gives the fields back
read_length : (t n : ℕ) (rest : List ℕ) → n < 2 ^ 16 → num_at 2 1 (t ∷ (le_bytes 2 n ++ rest)) ≡ n
unfolding num_at part le_bytes le_of
read_length t n rest h = omega arith

field-read : (t : ℕ) (v rest : List ℕ) → (t ≡ 0 → ⊥) → length v < 2 ^ 16 →
    scan_all (field_bytes t v ++ rest) ≡ push (mk_field t v) (scan_all rest)
unfolding field_bytes le_bytes part step
field-read t v rest z h =
    let bs = t ∷ (length v % 256 ∷ (length v / 256 % 256 ∷ (v ++ rest))) in
    let l : length bs ≡ 3 + length v + length rest = rw length-append (omega arith) in
    scan_step bs ∙
    rw (
      (let e : num_at 2 1 bs ≡ length v = read_length t (length v) (v ++ rest) h in e),
      ne_eqb (length bs) 0 (λ y. omega arith),
      le-ltb (length bs) (3 + length v) (omega arith),
      ne_eqb t 0 z,
      take_at v rest (length v) refl,
      (let e : drop (3 + length v) bs ≡ rest = drop_at (t ∷ (length v % 256 ∷ (length v / 256 % 256 ∷ v))) rest (3 + length v)
          (omega arith) in e),
    )

run-scan : (fs : List Field) → Yes (lengths_ok fs) → scan_all (fields_bytes fs) ≡ bare fs
unfolding fields_bytes lengths_ok scan_all scan push mk_field
run-scan [] h = refl
run-scan (f ∷ fs) h =
    let c = length-only f.tag (length f.value) (both_l _ _ h) in
    field-read f.tag f.value (fields_bytes fs) c.0 c.4 ∙ rw (run-scan fs (both_r _ _ h))

pub run-told : (fs : List Field) → Yes (fields_ok fs) → scan_of (fields_bytes fs) ≡ bare fs
unfolding scan_of judged fields_ok
run-told fs h = rw (run-scan fs (both_l _ _ h), h)

-- the writer takes them, if none has tag 3
pub tell-acts : (fs : List Field) → FieldsKeep fs → count 3 fs ≡ 0 → Yes (describable (scan_of (fields_bytes fs)))
unfolding describable is_bare fields_described both
tell-acts fs k z = rw (run-told fs (keep-acts fs k)) (eq-eqb (count 3 fs) 0 z)

-- bytes that the writer takes are such fields
head_bytes : (bs : List ℕ) → 3 + num_at 2 1 bs ≤ length bs → Bytes bs →
    bs ≡ field_bytes (get_or bs 0 0) (part 3 (num_at 2 1 bs) bs) ++ drop (3 + num_at 2 1 bs) bs
unfolding field_bytes le_bytes num_at part le_of
head_bytes [] h b = absurd (not-suc-le-zero h)
head_bytes (t ∷ []) h b = absurd (let z : ⊥ = omega arith in z)
head_bytes (t ∷ (x ∷ [])) h b = absurd (let z : ⊥ = omega arith in z)
head_bytes (t ∷ (x ∷ (y ∷ bs))) h b =
    let p : x < 256 = b 1 in
    let q : y < 256 = b 2 in
    let w = x + 256 * (y + 256 * 0) in
    let l : length (take w bs) ≡ w = simp length-take (omega arith) in
    let low : w % 256 ≡ x = omega arith in
    let rest : w / 256 ≡ y = omega arith in
    let high : w / 256 % 256 ≡ y = rw rest (omega arith) in
    let e : drop w (drop 3 (t ∷ (x ∷ (y ∷ bs)))) ≡ drop (3 + w) (t ∷ (x ∷ (y ∷ bs))) = rw drop-drop in
    rw (l, low, high) (ap (λ r. t ∷ (x ∷ (y ∷ r))) (sym (take-append-drop w bs)) ∙ ap (λ r. t ∷ (x ∷ (y ∷ (take w bs ++ r)))) e)

none_left : (bs : List ℕ) → length bs ≤ 0 → bs ≡ []
none_left [] h = refl
none_left (b ∷ bs) h = absurd (not-suc-le-zero h)

step-told : (x c z e : Bool) (f : Field) (s : Scanned) (fs : List Field) {P : Type 0} → step x c z e f s ≡ bare fs →
    (x ≡ true → fs ≡ [] → P) → (c ≡ false → (gs : List Field) → fs ≡ f ∷ gs → s ≡ bare gs → P) → P
unfolding step
step-told true c z e f s fs h j k = j refl (cc)
step-told false c z e f s fs h j k = step-bare c z e f s fs h (λ a b gs p q. k a gs p q)

scan-bare : (n : ℕ) (bs : List ℕ) (fs : List Field) → length bs ≤ n → Bytes bs → scan n bs ≡ bare fs → bs ≡ fields_bytes fs
unfolding scan mk_field fields_bytes
scan-bare zero bs fs l b h = let e : [] ≡ fs = cc in rw (← e) (none_left bs l)
scan-bare (suc n) bs fs l b h =
    let w = num_at 2 1 bs in
    step-told _ _ _ _ _ _ fs h
    (λ x e. let z : length bs ≡ 0 = eqb-true _ _ x in rw e (none_left bs (omega arith)))
    (λ c gs e s.
    let m : 3 + w ≤ length bs = ltb-false (length bs) (3 + w) c in
    let r = scan-bare n (drop (3 + w) bs) gs (rw length-drop (omega arith)) (bytes_drop (3 + w) bs b) s in
    head_bytes bs m b ∙ rw (e, r))

bare-told : (s : Scanned) → Yes (describable s) → (s ≡ bare (fields_described s)) × (count 3 (fields_described s) ≡ 0)
unfolding describable is_bare fields_described both
bare-told broken h = absurd (false≢true h)
bare-told (ended fs n) h = absurd (false≢true h)
bare-told (bare fs) h = (refl, eqb-true _ _ h)

pub tell-only : (bs : List ℕ) → Bytes bs → Yes (describable (scan_of bs)) →
    FieldsKeep (fields_described (scan_of bs)) × (count 3 (fields_described (scan_of bs)) ≡ 0) ×
    (bs ≡ fields_bytes (fields_described (scan_of bs)))
unfolding scan_of scan_all listed
tell-only bs b h =
    let t = bare-told (scan_of bs) h in
    let j = judged-passed fields_ok (scan_all bs) (bare (fields_described (scan_of bs))) (λ e. never (cc)) t.0 in
    (keep-only _ j.1, t.1, scan-bare (length bs) bs _ (omega arith) b j.0)
