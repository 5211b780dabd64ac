-- No byte after the end mark is read. Assumes nothing.
use Prim.Native.Nat.{ℕ, zero, suc, ◌+◌, ◌≤◌, ◌<◌}
use mathlib.Core.Path.{◌≡◌, refl, ap}
use mathlib.Core.Bool.{Bool, true, false, false≢true}
use mathlib.Core.List.{List}
use native.Mathlib.Omega.{arith}
use lib.ListN.{length, get_or, drop, length-drop}
use lib.Seq.{get_or-drop, ext_get_or}
use borrow.Author.Tests.{ltb-false}
use Rattle.words.specs.Word.{le_of, part, num_at}
use Rattle.words.proofs.Read.{part_same}
use Rattle.fields.specs.Fields.{Field, mk_field, Scanned, broken, ended, bare, push, step, scan, scan_all, scan_of, judged, fields_ok}
use Rattle.fields.specs.Fields.{taken, reach}
use Rattle.fields.proofs.Scans.{never, part_length, step-3, step-ended}
use Rattle.fields.proofs.Rules.{listed, judged-passed}

-- a step that ends gives the same result for another field and another tail that agree as far as it read
step_same : (x c z e : Bool) (f g : Field) (s t : Scanned) (fs : List Field) (m : ℕ) → step x c z e f s ≡ ended fs m →
    (c ≡ false → 3 + length f.value ≤ m → f ≡ g) → ((gs : List Field) (k : ℕ) → c ≡ false → s ≡ ended gs k →
    m ≡ 3 + length f.value + k → t ≡ ended gs k) →
    step x c z e g t ≡ ended fs m
unfolding step push
step_same true c z e f g s t fs m h p q = never (cc)
step_same false true z e f g s t fs m h p q = h
step_same false false true true f g s t fs m h p q = h
step_same false false true false f g s t fs m h p q = h
step_same false false false e f g s t fs m h p q =
    step-ended false false e f s fs m h (λ a b c. absurd (false≢true b))
    (λ a b gs k i j n. rw (← p refl (omega arith), q gs k refl j n, i, n))

-- p and q have the same bytes below m
abbrev Agree : List ℕ → List ℕ → ℕ → Type 0
Agree p q m = (i : ℕ) → i < m → get_or p i 0 ≡ get_or q i 0

num-same : (n off : ℕ) (p q : List ℕ) → length p ≡ length q → Agree p q (off + n) → num_at n off p ≡ num_at n off q
unfolding num_at
num-same n off p q l a = ap le_of (part_same off n p q l (λ i b c. a i c))

scan-same : (n : ℕ) (p q : List ℕ) → length p ≡ length q → (fs : List Field) (m : ℕ) → scan n p ≡ ended fs m → Agree p q m →
    scan n q ≡ ended fs m
unfolding scan mk_field
scan-same zero p q l fs m h a = never (cc)
scan-same (suc n) p q l fs m h a =
    let w = num_at 2 1 p in
    let m3 : 3 ≤ m = step-3 _ _ _ _ _ _ _ _ h in
    rw (← l, ← num-same 2 1 p q l (λ i b. a i (omega arith)), ← a 0 (omega arith))
    (step_same _ _ _ _ _ _ _ _ fs m h
    (λ c b.
    let long : length (part 3 w p) ≡ w = part_length 3 w p (ltb-false (length p) (3 + w) c) in
    ap (mk_field (get_or p 0 0)) (part_same 3 w p q l (λ i x y. a i (omega arith))))
    (λ gs k c s b.
    let long : length (part 3 w p) ≡ w = part_length 3 w p (ltb-false (length p) (3 + w) c) in
    scan-same n (drop (3 + w) p) (drop (3 + w) q) (rw (length-drop, length-drop, l)) gs k s
    (λ i z. rw (get_or-drop, get_or-drop) (a (3 + w + i) (omega arith)))))

-- two slices of equal length with the same bytes through the end mark hold the same fields
pub ended_same : (p q : List ℕ) (fs : List Field) (m : ℕ) → length p ≡ length q → scan_of p ≡ ended fs m → Agree p q m →
    scan_of q ≡ ended fs m
unfolding scan_of scan_all judged listed
ended_same p q fs m l h a =
    let j = judged-passed fields_ok (scan_all p) (ended fs m) (λ e. never (cc)) h in
    rw (← l, scan-same (length p) p q l fs m j.0 a, j.1)

-- so the scan reads what the naming rule counts: through the end mark, or all bytes if there is no mark
pub found-same : (p q : List ℕ) (u : Scanned) → length p ≡ length q → length p ≤ 4096 → scan_of p ≡ u → Agree p q (reach u) → scan_of q ≡ u
unfolding reach
found-same p q broken l m h a = rw (ext_get_or 0 p q l (λ i k. a i (omega arith))) at h
found-same p q (ended fs k) l m h a = ended_same p q fs k l h a
found-same p q (bare fs) l m h a = rw (ext_get_or 0 p q l (λ i k. a i (omega arith))) at h

-- ---- the fields are within the bytes
step_room : (x c z e : Bool) (f : Field) (s : Scanned) (fs : List Field) (m : ℕ) {P : Type 0} → step x c z e f s ≡ ended fs m →
    (c ≡ false → m ≡ 3 → P) → (c ≡ false → (gs : List Field) (k : ℕ) → s ≡ ended gs k → m ≡ 3 + length f.value + k → P) → P
unfolding step
step_room true c z e f s fs m h j k = never (cc)
step_room false c z e f s fs m h j k = step-ended c z e f s fs m h (λ a b q. j a q) (λ a b gs n p r q. k a gs n r q)

scan-room : (n : ℕ) (bs : List ℕ) (fs : List Field) (m : ℕ) → scan n bs ≡ ended fs m → m ≤ length bs
unfolding scan mk_field
scan-room zero bs fs m h = never (cc)
scan-room (suc n) bs fs m h =
    let w = num_at 2 1 bs in
    step_room _ _ _ _ _ _ fs m h
    (λ c q. let l : 3 + w ≤ length bs = ltb-false (length bs) (3 + w) c in omega arith)
    (λ c gs k s q.
    let l : 3 + w ≤ length bs = ltb-false (length bs) (3 + w) c in
    let v : length (part 3 w bs) ≡ w = part_length 3 w bs l in
    let r : k ≤ length (drop (3 + w) bs) = scan-room n (drop (3 + w) bs) gs k s in
    let q' : m ≡ 3 + length (part 3 w bs) + k = q in
    omega (arith, length-drop (3 + w) bs))

ended-room : (bs : List ℕ) (fs : List Field) (m : ℕ) → scan_of bs ≡ ended fs m → m ≤ length bs
unfolding scan_of scan_all listed
ended-room bs fs m h = scan-room (length bs) bs fs m (judged-passed fields_ok (scan_all bs) (ended fs m) (λ e. never (cc)) h).0

taken-by : (u : Scanned) (n : ℕ) → ((fs : List Field) (m : ℕ) → u ≡ ended fs m → m ≤ n) → taken u ≤ n
unfolding taken
taken-by broken n h = omega arith
taken-by (ended fs m) n h = h fs m refl
taken-by (bare fs) n h = omega arith

pub taken-room : (bs : List ℕ) → taken (scan_of bs) ≤ length bs
taken-room bs = taken-by (scan_of bs) (length bs) (ended-room bs)
