-- The length of the text of fields: at most three bytes for each byte that the fields take. Assumes nothing.
use Prim.Native.Nat.{ℕ, zero, suc, ◌+◌, ◌-◌, ◌*◌, ◌≤◌, ◌<◌}
use mathlib.Core.Path.{◌≡◌, refl, ap}
use mathlib.Core.Bool.{Bool, true, false, cond, false≢true}
use mathlib.Core.List.{List, [], ◌∷◌}
use native.Mathlib.Omega.{arith}
use lib.Dec.{eqb, lit≤}
use lib.ListN.{length, get_or, drop, length-append, length-drop}
use lib.Seq.{get_or-drop}
use borrow.Author.Tests.{ltb-false, eqb-true}
use Rattle.words.specs.Word.{part, num_at}
use Rattle.words.proofs.Tests.{both_l, both_r}
use Rattle.words.proofs.Lists.{joined_length}
use Rattle.words.proofs.Bytes.{Bytes}
use Rattle.fields.specs.Fields.{Field, mk_field, Scanned, broken, ended, bare, step, scan, scan_all, scan_of, fields_ok, fields_in, taken, raw}
use Rattle.fields.specs.Fields.{shown_field, shown_fields, length_ok, lengths_ok, withdrawn}
use Rattle.fields.proofs.Scans.{never, step-ended, part_length}
use Rattle.fields.proofs.Rules.{listed, judged-passed}
use Rattle.sections.specs.Page.{in_page, found_at}
use Rattle.text_lines.specs.Text.{newline, space, decimal, byte_text, value_byte, value_text, field_text, fields_text, withdrawn_text}
use Rattle.words.specs.Tests.{Yes}
use Rattle.words.proofs.Tests.{both_l, both_r}
use Rattle.text.proofs.Lengths.{digits-length, decimal-most}

-- ---- one field
byte-length : (v : List ℕ) (i : ℕ) → length (value_byte v i) ≡ 3
unfolding value_byte space byte_text
byte-length v i = ap suc (digits-length 16 2 (get_or v i 0))

value-length : (v : List ℕ) → length (value_text v) ≡ 3 * length v
unfolding value_text
value-length v = joined_length (length v) 3 (value_byte v) (byte-length v)

raw-most : (t : ℕ) (v : List ℕ) → t < 256 → length v ≤ 4096 → length (field_text (raw t v)) ≤ 9 + 3 * length v
unfolding field_text space newline
raw-most t v h g =
    let a : length (decimal t) ≤ 3 = decimal-most 2 t (omega arith) in
    let b : length (decimal (length v)) ≤ 4 = decimal-most 3 (length v) (omega arith) in
    rw (length-append, length-append, length-append, length-append) (omega (arith, value-length v))

withdrawn-most : length (field_text withdrawn) ≤ 12
unfolding field_text withdrawn_text newline
withdrawn-most = lit≤ tt

-- tag 3 has a value of one byte; its line has 12 bytes, no more than the bound for a raw field of that length
three-long : (t n : ℕ) → t ≡ 3 → Yes (length_ok t n) → n ≡ 1
unfolding length_ok
three-long t n z h = eqb-true n 1 (rw z at h)

field-most : (t : ℕ) (v : List ℕ) → t < 256 → length v ≤ 4096 → Yes (length_ok t (length v)) →
    length (field_text (shown_field (mk_field t v))) ≤ 9 + 3 * length v
unfolding shown_field mk_field
field-most t v h g k = go (eqb t 3) refl
  where
    go : (b : Bool) → eqb t 3 ≡ b → length (field_text (cond b withdrawn (raw t v))) ≤ 9 + 3 * length v
    go true e = let n : length v ≡ 1 = three-long t (length v) (eqb-true t 3 e) k in rw n withdrawn-most
    go false e = raw-most t v h g

-- ---- all fields up to an end mark
step-text : (x c z e : Bool) (f : Field) (s : Scanned) (fs : List Field) (m : ℕ) {P : Type 0} → step x c z e f s ≡ ended fs m →
    (fs ≡ [] → m ≡ 3 → P) →
    (c ≡ false → (gs : List Field) (k : ℕ) → fs ≡ f ∷ gs → s ≡ ended gs k → m ≡ 3 + length f.value + k → P) → P
unfolding step
step-text true c z e f s fs m h j k = never (cc)
step-text false true z e f s fs m h j k = never (cc)
step-text false false true true f s fs m h j k = j (cc) (cc)
step-text false false true false f s fs m h j k = never (cc)
step-text false false false e f s fs m h j k =
    step-ended false false e f s fs m h (λ a b q. absurd (false≢true b)) (λ a b gs n p r q. k refl gs n p r q)

scan-text : (n : ℕ) (bs : List ℕ) (fs : List Field) (m : ℕ) → Bytes bs → length bs ≤ 4096 → scan n bs ≡ ended fs m → Yes (lengths_ok fs) →
    length (fields_text (shown_fields fs)) + 9 ≤ 3 * m
unfolding scan mk_field fields_text shown_fields lengths_ok
scan-text zero bs fs m b l h o = never (cc)
scan-text (suc n) bs fs m b l h o =
    let w = num_at 2 1 bs in
    step-text _ _ _ _ _ _ fs m h
    (λ p q. rw (p, q) (lit≤ tt))
    (λ c gs k p s q.
    let u : 3 + w ≤ length bs = ltb-false (length bs) (3 + w) c in
    let v : length (part 3 w bs) ≡ w = part_length 3 w bs u in
    let q' : m ≡ 3 + length (part 3 w bs) + k = q in
    let o' = rw p at o in
    let r : length (fields_text (shown_fields gs)) + 9 ≤ 3 * k = scan-text n (drop (3 + w) bs) gs k (λ i. rw get_or-drop (b (3 + w + i)))
    (rw length-drop (omega arith)) s (both_r _ _ o') in
    rw (p, length-append) (omega (arith, field-most (get_or bs 0 0) (part 3 w bs) (b 0) (omega arith) (both_l _ _ o'))))

text-by : (u : Scanned) → ((fs : List Field) (m : ℕ) → u ≡ ended fs m → length (fields_text (shown_fields fs)) + 9 ≤ 3 * m) →
    length (fields_text (shown_fields (fields_in u))) ≤ 3 * taken u - 9
unfolding fields_in taken fields_text shown_fields
text-by broken h = omega arith
text-by (ended fs m) h = omega (arith, h fs m refl)
text-by (bare fs) h = omega arith

scanned-text : (bs : List ℕ) → Bytes bs → length bs ≤ 4096 →
    length (fields_text (shown_fields (fields_in (scan_of bs)))) ≤ 3 * taken (scan_of bs) - 9
unfolding scan_of scan_all listed fields_ok
scanned-text bs b l =
    text-by (scan_of bs) (λ fs m h. let j = judged-passed fields_ok (scan_all bs) (ended fs m) (λ e. never (cc)) h in scan-text
    (length bs) bs fs m b l j.0 (both_l _ _ j.1))

-- ---- the fields of a page
text-case : (b : Bool) (s t : Scanned) → length (fields_text (shown_fields (fields_in s))) ≤ 3 * taken s - 9 →
    length (fields_text (shown_fields (fields_in t))) ≤ 3 * taken t - 9 →
    length (fields_text (shown_fields (fields_in (cond b s t)))) ≤ 3 * taken (cond b s t) - 9
text-case true s t x y = x
text-case false s t x y = y

pub found-text : (base q : ℕ) (page : List ℕ) → Bytes page → length page ≡ 4096 →
    length (fields_text (shown_fields (fields_in (found_at base page q)))) ≤ 3 * taken (found_at base page q) - 9
unfolding found_at fields_in taken fields_text shown_fields
found-text base q page b l =
    text-case (eqb q 0) (ended [] 0) (cond (in_page base q 1) (scan_of (drop (q - base) page)) broken) (omega arith)
    (text-case (in_page base q 1) (scan_of (drop (q - base) page)) broken
    (scanned-text (drop (q - base) page) (λ i. rw get_or-drop (b (q - base + i))) (rw length-drop (omega arith))) (omega arith))
