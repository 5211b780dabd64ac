-- Bytes written over a list at an offset. Assumes nothing.
use Prim.Native.Nat.{ℕ, ◌+◌, ◌-◌, ◌*◌, ◌/◌, ◌%◌, ◌^◌, ◌≤◌, ◌<◌}
use mathlib.Core.Path.{◌≡◌, refl, sym, ap, ◌∙◌}
use mathlib.Core.Bool.{Bool, true, false, cond}
use mathlib.Core.List.{List, [], ◌∷◌, ◌++◌, append_assoc, append-nil}
use native.Mathlib.Numerals.{add-one}
use native.Mathlib.Nat.{add_assoc, zero-add}
use native.Mathlib.Omega.{arith}
use lib.ListN.{length, take, drop, get_or, set, length-append, length-drop, drop_of_length-le, take-append-drop}
use lib.Seq.{length-take-le, take_at, drop_at, drop-drop, drop-append-le, set_split, append_snoc, paste-zero, take-suc, take-add}
use lib.Seq.{take-length, take_all}
use lib.Dec.{eqb}
use borrow.Author.Tests.{le-leb, lt-leb, eqb-true}
use Rattle.words.specs.Tests.{Yes}
use Rattle.words.specs.Word.{le_of, le_bytes, part, num_at, bytes_of, splice, laid, span_at, spanned, span_start, no_span}
use Rattle.words.proofs.Bytes.{Bytes, bytes_drop, number-back}
use Rattle.words.proofs.Lists.{bytes_of-length, bytes_of-append}
use Rattle.words.proofs.Read.{le_bytes-length, le_bytes-split, le_of-le_bytes}

module _ (i : ℕ) (vs s : List ℕ) where
  head-length : i ≤ length s → length (take i s ++ vs) ≡ i + length vs
  head-length h = rw (length-append, length-take-le i s h)

  take-splice : i ≤ length s → take (i + length vs) (splice i vs s) ≡ take i s ++ vs
  unfolding splice
  take-splice h = take_at _ _ _ (head-length h)

  -- the bytes after and before those written stay unchanged
  pub drop-splice : i ≤ length s → drop (i + length vs) (splice i vs s) ≡ drop (i + length vs) s
  unfolding splice
  drop-splice h = drop_at (take i s ++ vs) _ _ (head-length h)

  pub front-splice : i ≤ length s → take i (splice i vs s) ≡ take i s
  unfolding splice
  front-splice h = rw append_assoc (take_at _ _ _ (length-take-le i s h))

  drop-splice-more : i ≤ length s → (k : ℕ) → drop (i + length vs + k) (splice i vs s) ≡ drop (i + length vs + k) s
  drop-splice-more h k = sym (drop-drop k (i + length vs) (splice i vs s)) ∙ ap (drop k) (drop-splice h) ∙ drop-drop k (i + length vs) s

  -- two runs, one directly after the other
  pub splice-splice : i ≤ length s → (ws : List ℕ) → splice (i + length vs) ws (splice i vs s) ≡ splice i (vs ++ ws) s
  unfolding splice
  splice-splice h ws = rw (take-splice h, drop-splice-more h (length ws), length-append) (simp (append_assoc, add_assoc))

pub length-splice : (at : ℕ) (vs s : List ℕ) → at + length vs ≤ length s → length (splice at vs s) ≡ length s
unfolding splice
length-splice at vs s h =
    rw (length-append, length-append) (omega (arith, length-take-le at s (omega arith), length-drop (at + length vs) s))

-- a number's low bytes, then its high ones
pub put-add : (m n : ℕ) (s : List ℕ) (at w : ℕ) → at ≤ length s →
    splice (at + m) (le_bytes n (w / 256 ^ m)) (splice at (le_bytes m w) s) ≡ splice at (le_bytes (m + n) w) s
put-add m n s at w h =
    rw le_bytes-split
    (ap (λ (k : ℕ). splice (at + k) (le_bytes n (w / 256 ^ m)) (splice at (le_bytes m w) s)) (sym (le_bytes-length m w))
    ∙ splice-splice at (le_bytes m w) s h (le_bytes n (w / 256 ^ m)))

-- bytes that fit are written; if they do not all fit, none is
pub bytes-in : (at : ℕ) (vs s : List ℕ) → at + length vs ≤ length s → laid at vs s ≡ splice at vs s
unfolding laid
bytes-in at vs s h = rw (le-leb (at + length vs) (length s) h)

pub bytes-out : (at : ℕ) (vs s : List ℕ) → length s < at + length vs → laid at vs s ≡ s
unfolding laid
bytes-out at vs s h = rw (lt-leb (at + length vs) (length s) h)

pub put_in : (n at w : ℕ) (s : List ℕ) → at + n ≤ length s → laid at (le_bytes n w) s ≡ splice at (le_bytes n w) s
put_in n at w s h = bytes-in at (le_bytes n w) s (rw le_bytes-length h)

pub put-out : (n at w : ℕ) (s : List ℕ) → length s < at + n → laid at (le_bytes n w) s ≡ s
put-out n at w s h = bytes-out at (le_bytes n w) s (rw le_bytes-length h)

-- reading gives back what was written
pub part-splice : (at : ℕ) (vs s : List ℕ) → at ≤ length s → part at (length vs) (splice at vs s) ≡ vs
unfolding part splice
part-splice at vs s h = rw (append_assoc) (simp (drop_at, take_at, length-take-le at s h))

pub put-read : (n at w : ℕ) (s : List ℕ) → at + n ≤ length s → w < 256 ^ n → num_at n at (laid at (le_bytes n w) s) ≡ w
unfolding num_at
put-read n at w s h l =
    rw (put_in n at w s h)
    (ap le_of (rw (le_bytes-length n w) at (part-splice at (le_bytes n w) s (omega arith))) ∙ le_of-le_bytes n w l)

-- ---- a list of words, one by one
one_word : (w : ℕ) → bytes_of (w ∷ []) ≡ le_bytes 8 w
unfolding bytes_of
one_word w = append-nil (le_bytes 8 w)

pub words-in : (at : ℕ) (ws s : List ℕ) → at + 8 * length ws ≤ length s → laid at (bytes_of ws) s ≡ splice at (bytes_of ws) s
words-in at ws s h = bytes-in at (bytes_of ws) s (rw bytes_of-length h)

pub words-out : (at : ℕ) (ws s : List ℕ) → length s < at + 8 * length ws → laid at (bytes_of ws) s ≡ s
words-out at ws s h = bytes-out at (bytes_of ws) s (rw bytes_of-length h)

-- the first i words
unfoldable pub words_to : ℕ → List ℕ → ℕ → List ℕ → List ℕ
words_to at ws i s = splice at (bytes_of (take i ws)) s

pub words-none : (at : ℕ) (ws s : List ℕ) → s ≡ words_to at ws 0 s
unfolding words_to bytes_of splice
words-none at ws s = paste-zero s at []

pub words_more : (at : ℕ) (ws : List ℕ) (i : ℕ) (s : List ℕ) → at ≤ length s → i < length ws →
    splice (at + 8 * i) (le_bytes 8 (get_or ws i 0)) (words_to at ws i s) ≡ words_to at ws (i + 1) s
unfolding words_to
words_more at ws i s h k =
    let l : length (bytes_of (take i ws)) ≡ 8 * i = bytes_of-length (take i ws) ∙ ap (λ (n : ℕ). 8 * n) (length-take-le i ws (omega arith)) in
    rw (add-one, take-suc ws i 0 k, bytes_of-append, one_word, ← l) (splice-splice at (bytes_of (take i ws)) s h (le_bytes 8 (get_or ws i 0)))

pub words-all : (at : ℕ) (ws s : List ℕ) (i : ℕ) → i ≡ length ws → at + 8 * length ws ≤ length s →
    words_to at ws i s ≡ laid at (bytes_of ws) s
unfolding words_to
words-all at ws s i e h = rw (e, words-in at ws s h, take-length)

-- ---- bytes, one by one
set-splice : (s : List ℕ) (i b : ℕ) → i < length s → set s i b ≡ splice i (b ∷ []) s
unfolding splice
set-splice s i b h = set_split s i b h ∙ rw (add-one, append_snoc)

-- one byte, as a number
pub put_one : (s : List ℕ) (i w : ℕ) → i < length s → set s i (w % 256) ≡ splice i (le_bytes 1 w) s
unfolding le_bytes
put_one s i w h = set-splice s i (w % 256) h

-- the first i bytes
unfoldable pub bytes_to : List ℕ → ℕ → List ℕ → List ℕ
bytes_to vs i s = splice 0 (take i vs) s

pub bytes-none : (vs s : List ℕ) → s ≡ bytes_to vs 0 s
unfolding bytes_to splice
bytes-none vs s = paste-zero s 0 []

pub bytes-more : (vs : List ℕ) (i : ℕ) (s : List ℕ) → i < length vs → length vs ≤ length s → length (bytes_to vs i s) ≡ length s →
    set (bytes_to vs i s) i (get_or vs i 0) ≡ bytes_to vs (i + 1) s
unfolding bytes_to
bytes-more vs i s h l n =
    let m : length (take i vs) ≡ i = length-take-le i vs (omega arith) in
    set-splice (splice 0 (take i vs) s) i (get_or vs i 0) (omega arith)
    ∙ rw (add-one, take-suc vs i 0 h)
    (ap (λ (k : ℕ). splice k (get_or vs i 0 ∷ []) (splice 0 (take i vs) s)) (let e : i ≡ 0 + length (take i vs) = omega arith in e)
    ∙ splice-splice 0 (take i vs) s (omega arith) (get_or vs i 0 ∷ []))

pub bytes-all : (vs s : List ℕ) (i : ℕ) → i ≡ length vs → length vs ≤ length s → bytes_to vs i s ≡ laid 0 vs s
unfolding bytes_to
bytes-all vs s i e h = rw (e, bytes-in 0 vs s (omega arith), take-length)

-- bytes put back into the middle
pub mid-splice : (at n : ℕ) (vs s : List ℕ) → length vs ≡ n → take at s ++ (vs ++ drop n (drop at s)) ≡ splice at vs s
unfolding splice
mid-splice at n vs s h = rw (← h, append_assoc) (ap (λ (t : List ℕ). take at s ++ (vs ++ t)) (drop-drop (length vs) at s))

-- eight more bytes
pub eight_more : (vs : List ℕ) (k : ℕ) (s : List ℕ) → 8 * (k + 1) ≤ length vs → length vs ≤ length s →
    splice (8 * k) (part (8 * k) 8 vs) (bytes_to vs (8 * k) s) ≡ bytes_to vs (8 * (k + 1)) s
unfolding bytes_to part
eight_more vs k s h l =
    let m : length (take (8 * k) vs) ≡ 8 * k = length-take-le (8 * k) vs (omega arith) in
    ap (λ (n : ℕ). splice n (take 8 (drop (8 * k) vs)) (splice 0 (take (8 * k) vs) s))
    (let f : 8 * k ≡ 0 + length (take (8 * k) vs) = omega arith in f)
    ∙ splice-splice 0 (take (8 * k) vs) s (omega arith) (take 8 (drop (8 * k) vs))
    ∙ ap (λ (ws : List ℕ). splice 0 ws s) (sym (take-add (8 * k) 8 vs) ∙
    ap (λ (n : ℕ). take n vs) (let f : 8 * k + 8 ≡ 8 * (k + 1) = omega arith in f))

-- eight more bytes, read as a word
pub word_more : (vs : List ℕ) (k : ℕ) (s : List ℕ) → Bytes vs → 8 * (k + 1) ≤ length vs → length vs ≤ length s →
    splice (8 * k) (le_bytes 8 (num_at 8 (8 * k) vs)) (bytes_to vs (8 * k) s) ≡ bytes_to vs (8 * (k + 1)) s
unfolding num_at part
word_more vs k s b h l =
    ap (λ (ws : List ℕ). splice (8 * k) ws (bytes_to vs (8 * k) s))
    (number-back 8 (drop (8 * k) vs) (bytes_drop (8 * k) vs b) (rw length-drop (omega arith)))
    ∙ eight_more vs k s h l

lent : (at : ℕ) (vs s : List ℕ) → take at s ++ splice 0 vs (drop at s) ≡ splice at vs s
unfolding splice
lent at vs s = rw (drop-drop (0 + length vs) at s) (simp (append_assoc, zero-add))

-- writing to the start of the part lent from an offset on writes to the whole at that offset
pub lent_back : (at : ℕ) (vs s : List ℕ) → at + length vs ≤ length s →
    take at s ++ (laid 0 vs (take (length s - at) (drop at s)) ++ drop (length s - at) (drop at s)) ≡ laid at vs s
lent_back at vs s h =
    let p : length (drop at s) ≤ length s - at = omega (arith, length-drop at s) in
    rw (
      take_all (length s - at) (drop at s) p,
      drop_of_length-le (drop at s) p,
      append-nil,
      bytes-in 0 vs (drop at s) (rw length-drop (omega arith)),
      bytes-in at vs s h,
    )
    (lent at vs s)

over : (n : ℕ) (vs t : List ℕ) → n ≤ length t → length vs ≤ n → splice 0 vs (take n t) ++ drop n t ≡ splice 0 vs t
unfolding splice
over n vs t h k =
    let l : length (take n t) ≡ n = length-take-le n t h in
    let e : drop (0 + length vs) (take n t) ++ drop n t ≡ drop (0 + length vs) t = sym
    (drop-append-le (0 + length vs) (take n t) (drop n t) (omega arith)) ∙ ap (drop (0 + length vs)) (take-append-drop n t) in
    append_assoc vs (drop (0 + length vs) (take n t)) (drop n t) ∙ ap (λ (r : List ℕ). vs ++ r) e

-- a part of n bytes lent from an offset on, unchanged or written from its start
pub part-back : (at n : ℕ) (s : List ℕ) → take at s ++ (take n (drop at s) ++ drop n (drop at s)) ≡ s
part-back at n s = ap (λ (l : List ℕ). take at s ++ l) (take-append-drop n (drop at s)) ∙ take-append-drop at s

pub buffer-back : (at n : ℕ) (vs s : List ℕ) → at + n ≤ length s → length vs ≤ n →
    take at s ++ (splice 0 vs (take n (drop at s)) ++ drop n (drop at s)) ≡ splice at vs s
buffer-back at n vs s h k = ap (λ (l : List ℕ). take at s ++ l) within ∙ lent at vs s
  where
    within : splice 0 vs (take n (drop at s)) ++ drop n (drop at s) ≡ splice 0 vs (drop at s)
    within = over n vs (drop at s) (omega (arith, length-drop at s)) k

-- bytes written over equally many are the whole result; over more, they are its start
pub laid-all : (vs s : List ℕ) → length vs ≡ length s → laid 0 vs s ≡ vs
unfolding splice
laid-all vs s e =
    let d : drop (0 + length vs) s ≡ [] = drop_of_length-le s {i = 0 + length vs} (omega arith) in
    bytes-in 0 vs s (omega arith) ∙ rw d (append-nil vs)

pub laid-front : (vs s : List ℕ) → length vs ≤ length s → take (length vs) (laid 0 vs s) ≡ vs
unfolding splice
laid-front vs s h = rw (bytes-in 0 vs s (omega arith)) (take_at vs _ _ refl)

-- the part that a span names
pub span_none : (s : List ℕ) → spanned no_span s ≡ []
unfolding spanned no_span part
span_none s = rw (le-leb 0 (length s) (omega arith))

span-by : (b : Bool) (at n : ℕ) (s : List ℕ) → (Yes b → n ≡ 0) → at + n ≤ length s →
    spanned (cond b no_span (record { at = at; len = n })) s ≡ part at n s
unfolding spanned part
span-by true at n s z h = span_none s ∙ sym (ap (λ (m : ℕ). take m (drop at s)) (z refl))
span-by false at n s z h = rw (le-leb (at + n) (length s) h)

pub span-in : (at n : ℕ) (s : List ℕ) → at + n ≤ length s → spanned (span_at at n) s ≡ part at n s
unfolding span_at
span-in at n s h = span-by (eqb n 0) at n s (eqb-true n 0) h

-- the offset of that part: a span within s starts at its own offset
pub start_none : (s : List ℕ) → span_start no_span s ≡ no_span.at
unfolding span_start no_span
start_none s = rw (le-leb 0 (length s) (omega arith))

start-by : (b : Bool) (at n : ℕ) (s : List ℕ) → at + n ≤ length s →
    span_start (cond b no_span (record { at = at; len = n })) s ≡ (cond b no_span (record { at = at; len = n })).at
unfolding span_start
start-by true at n s h = start_none s
start-by false at n s h = rw (le-leb (at + n) (length s) h)

pub start-in : (at n : ℕ) (s : List ℕ) → at + n ≤ length s → span_start (span_at at n) s ≡ (span_at at n).at
unfolding span_at
start-in at n s h = start-by (eqb n 0) at n s h
