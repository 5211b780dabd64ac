-- Fields without the withdrawn ones: their bytes read back as the same fields, and take no more bytes than before. Assumes nothing.
use Rattle.std.proofs.Common.{◌≡◌, ℕ, zero, suc, ◌+◌, ◌-◌, ◌≤◌, Bool, true, false, cond, eqb, leb, List, [], ◌∷◌, ◌++◌, length, drop, refl, ap, arith, lit≤, length-append, le-leb, leb-true}
use Rattle.words.specs.Tests.{Yes, both}
use Rattle.words.specs.Word.{le_bytes, num_at}
use Rattle.words.proofs.Tests.{both_l, both_r, both_of}
use Rattle.fields.specs.Fields.{Field, Scanned, broken, ended, bare, push, step, scan, scan_all, scan_of, lengths_ok, count, fields_ok}
use Rattle.fields.specs.Fields.{fields_in, raw, withdrawn, shown_field, shown_fields, taken, end_mark}
use Rattle.fields.specs.Facts.{field_bytes, fields_bytes}
use Rattle.fields.proofs.Facts.{run-told}
use Rattle.fields.proofs.Scans.{never}
use Rattle.fields.proofs.Rules.{listed, judged-passed}
use Rattle.sections.specs.Page.{in_page, found_at}
use Rattle.writer_checks.specs.Description.{with_mark}
use Rattle.pack.specs.Pack.{fields_kept}

-- ---- the fields that are kept, and fields as bytes
unfoldable pub kept_of : List Field → List Field
kept_of [] = []
kept_of (f ∷ fs) = cond (eqb f.tag 3) (kept_of fs) (f ∷ kept_of fs)

pub kept_run : (fs : List Field) → fields_kept (shown_fields fs) ≡ fields_bytes (kept_of fs)
unfolding fields_kept shown_fields shown_field fields_bytes kept_of
kept_run [] = refl
kept_run (f ∷ fs) = go (eqb f.tag 3) (kept_run fs)
  where
    go : (b : Bool) → fields_kept (shown_fields fs) ≡ fields_bytes (kept_of fs) →
        fields_kept (cond b withdrawn (raw f.tag f.value) ∷ shown_fields fs) ≡ fields_bytes (cond b (kept_of fs) (f ∷ kept_of fs))
    go true r = r
    go false r = ap (λ x. field_bytes f.tag f.value ++ x) r

-- ---- the rules hold of them
kept-lengths : (fs : List Field) → Yes (lengths_ok fs) → Yes (lengths_ok (kept_of fs))
unfolding lengths_ok kept_of
kept-lengths [] h = refl
kept-lengths (f ∷ fs) h = go (eqb f.tag 3) (kept-lengths fs (both_r _ _ h))
  where
    go : (b : Bool) → Yes (lengths_ok (kept_of fs)) → Yes (lengths_ok (cond b (kept_of fs) (f ∷ kept_of fs)))
    go true r = r
    go false r = both_of _ _ (both_l _ _ h) r

kept-count : (t : ℕ) (fs : List Field) → count t (kept_of fs) ≤ count t fs
unfolding count kept_of
kept-count t [] = lit≤ tt
kept-count t (f ∷ fs) = go (eqb f.tag 3) (kept-count t fs)
  where
    go : (b : Bool) → count t (kept_of fs) ≤ count t fs → count t (cond b (kept_of fs) (f ∷ kept_of fs)) ≤ count t (f ∷ fs)
    go true r = omega arith
    go false r = omega arith

pub kept-ok : (fs : List Field) → Yes (fields_ok fs) → Yes (fields_ok (kept_of fs))
unfolding fields_ok
kept-ok fs h =
    let a = both_r _ _ h in
    let b = both_r _ _ a in
    both_of _ _ (kept-lengths fs (both_l _ _ h)) (both_of _ _ (once 1 (both_l _ _ a))
    (both_of _ _ (once 2 (both_l _ _ b)) (once 3 (both_r _ _ b))))
  where
    once : (t : ℕ) → Yes (leb (count t fs) 1) → Yes (leb (count t (kept_of fs)) 1)
    once t l = omega (arith, le-leb, leb-true, kept-count t fs)

-- none of them is withdrawn
pub kept-three : (fs : List Field) → count 3 (kept_of fs) ≡ 0
unfolding count kept_of
kept-three [] = refl
kept-three (f ∷ fs) = go (eqb f.tag 3) refl (kept-three fs)
  where
    go : (b : Bool) → eqb f.tag 3 ≡ b → count 3 (kept_of fs) ≡ 0 → count 3 (cond b (kept_of fs) (f ∷ kept_of fs)) ≡ 0
    go true e r = r
    go false e r = rw (e, r)

-- so the writer accepts them: they keep the rules, take up every byte, and none has tag 3
pub kept-told : (fs : List Field) → Yes (fields_ok fs) → scan_of (fields_kept (shown_fields fs)) ≡ bare (kept_of fs)
kept-told fs h = rw (kept_run fs) (run-told (kept_of fs) (kept-ok fs h))

-- ---- how long they are
run-cons : (f : Field) (fs : List Field) → length (fields_bytes (f ∷ fs)) ≡ 3 + length f.value + length (fields_bytes fs)
unfolding fields_bytes field_bytes le_bytes
run-cons f fs = rw (length-append) (omega arith)

run-less : (fs : List Field) → length (fields_bytes (kept_of fs)) ≤ length (fields_bytes fs)
unfolding kept_of
run-less [] = omega arith
run-less (f ∷ fs) = go (eqb f.tag 3) (run-less fs)
  where
    go : (b : Bool) → length (fields_bytes (kept_of fs)) ≤ length (fields_bytes fs) →
        length (fields_bytes (cond b (kept_of fs) (f ∷ kept_of fs))) ≤ length (fields_bytes (f ∷ fs))
    go true r = omega (arith, run-cons f fs)
    go false r = omega (arith, run-cons f fs, run-cons f (kept_of fs))

run_none : length (fields_bytes []) + 3 ≡ 3
unfolding fields_bytes
run_none = refl

step_run : (x c z e : Bool) (f : Field) (s : Scanned) (fs : List Field) (m : ℕ) → step x c z e f s ≡ ended fs m →
    ((gs : List Field) (k : ℕ) → s ≡ ended gs k → length (fields_bytes gs) + 3 ≡ k) → length (fields_bytes fs) + 3 ≡ m
unfolding step push
step_run true c z e f s fs m h r = never (cc)
step_run false true z e f s fs m h r = never (cc)
step_run false false true true f s fs m h r = let p : [] ≡ fs = cc in let q : 3 ≡ m = cc in rw (← p, ← q) run_none
step_run false false true false f s fs m h r = never (cc)
step_run false false false e f broken fs m h r = never (cc)
step_run false false false e f (ended gs n) fs m h r =
    let p : f ∷ gs ≡ fs = cc in
    let q : 3 + length f.value + n ≡ m = cc in
    rw (← p, ← q, run-cons f gs) (let y = r gs n refl in omega arith)
step_run false false false e f (bare gs) fs m h r = never (cc)

scan-run : (n : ℕ) (bs : List ℕ) (fs : List Field) (m : ℕ) → scan n bs ≡ ended fs m → length (fields_bytes fs) + 3 ≡ m
unfolding scan
scan-run zero bs fs m h = never (cc)
scan-run (suc n) bs fs m h = step_run _ _ _ _ _ _ fs m h (λ gs k e. scan-run n (drop (3 + num_at 2 1 bs) bs) gs k e)

mark-most : (bs : List ℕ) → length (with_mark bs) ≤ length bs + 3
unfolding with_mark end_mark
mark-most [] = omega arith
mark-most (b ∷ bs) = rw length-append (omega arith)

-- ---- what the reader found in a page: its fields keep the rules, and the kept ones take no more bytes than before
abbrev pub KeptFits : Scanned → Type 0
KeptFits u = Yes (fields_ok (fields_in u)) × (length (with_mark (fields_kept (shown_fields (fields_in u)))) ≤ taken u)

fits-none : Yes (fields_ok []) × (length (with_mark (fields_kept (shown_fields []))) ≤ 0)
unfolding fields_ok lengths_ok count both shown_fields fields_kept with_mark
fits-none = (refl, lit≤ tt)

fits-ended : (bs : List ℕ) (fs : List Field) (m : ℕ) → scan_of bs ≡ ended fs m →
    Yes (fields_ok fs) × (length (with_mark (fields_kept (shown_fields fs))) ≤ m)
unfolding scan_of scan_all listed
fits-ended bs fs m h =
    let j = judged-passed fields_ok (scan_all bs) (ended fs m) (λ e. never (cc)) h in
    (j.1, rw (kept_run fs) (omega (arith, mark-most (fields_bytes (kept_of fs)), run-less fs, scan-run (length bs) bs fs m j.0)))

fits_by : (u : Scanned) → ((fs : List Field) (m : ℕ) → u ≡ ended fs m →
    Yes (fields_ok fs) × (length (with_mark (fields_kept (shown_fields fs))) ≤ m)) → KeptFits u
unfolding fields_in taken
fits_by broken h = fits-none
fits_by (ended fs m) h = h fs m refl
fits_by (bare fs) h = fits-none

fits-case : (b : Bool) (s t : Scanned) → KeptFits s → KeptFits t → KeptFits (cond b s t)
fits-case true s t x y = x
fits-case false s t x y = y

pub found-fits : (base : ℕ) (page : List ℕ) (q : ℕ) → KeptFits (found_at base page q)
unfolding found_at fields_in taken
found-fits base page q =
    fits-case (eqb q 0) (ended [] 0) (cond (in_page base q 1) (scan_of (drop (q - base) page)) broken) fits-none
    (fits-case (in_page base q 1) (scan_of (drop (q - base) page)) broken
    (fits_by (scan_of (drop (q - base) page)) (fits-ended (drop (q - base) page))) fits-none)
