-- The number of calls that a token takes, and that their hunks are the token. Assumes nothing.
use Prim.Native.Nat.{ℕ, ◌+◌, ◌-◌, ◌*◌, ◌≤◌, ◌<◌, min}
use mathlib.Core.Path.{◌≡◌, refl, sym, ap, ◌∙◌}
use mathlib.Core.Bool.{Bool, true, false, cond, false≢true, true≢false}
use mathlib.Core.List.{List, [], ◌∷◌, ◌++◌}
use native.Mathlib.Decide.{dec_le, dec_lt}
use native.Mathlib.Omega.{arith}
use native.Mathlib.Nat.{add-zero, zero-add, div-eq_of_lt-le, le-div_iff_mul-le, suc-mul, zero-mul, add_assoc}
use native.Mathlib.Numerals.{one-add, add-one}
use lib.Dec.{leb}
use lib.ListN.{length, take, drop, length-drop, length-take}
use lib.Seq.{take_all, take-add, drop-drop}
use borrow.Author.Tests.{le-leb, lt-leb, eq-eqb, ne_eqb}
use Rattle.words.specs.Word.{part, splice}
use Rattle.words.proofs.Store.{part-splice}
use Rattle.buffer_check.specs.Range.{place_of}
use Rattle.buffer_check.specs.Buffers.{WrittenAt}
use Rattle.buffer_check.proofs.Buffers.{splice-written}
use Rattle.codes.specs.Codes.{boot_params, is_ok, extended, x0_of, answer_of}
use Rattle.codes.specs.declared.Code.{Code}
use Rattle.codes.specs.declared.Code.TheVariants.{Ok}
use Rattle.codes.proofs.Gates.{first-ok, then_ok, if-ok-by}
use Rattle.token_rules.specs.declared.Session.{Session}
use Rattle.token_rules.specs.declared.Session.TheVariants.{Idle, Sending}
use Rattle.token_rules.specs.Token.{start_code, token_code, begin_of, hunk_of, rest_of, next_session, TokenStep, send_of, keeps, settled}
use Rattle.token_rules.specs.Token.{token_of}
use Rattle.token_rules.specs.Calls.{TokenCall, token_step_of, token_accepted, shown_of, Ready, session_after, oks_of, hunks_of, left_of}
use Rattle.token_rules.specs.Calls.{GoesOn, ceil, Calls, NextHunk}
use Rattle.token_rules.proofs.Tokens.{Room, buffer-room, start-empty, start-again, begin-again, next-idle, next-ok, begin-next}
use Rattle.token_rules.proofs.Tokens.{sends, token-start, token-refused}

-- ---- the session after k bytes of the token are requested
unfoldable session_at : List ℕ → ℕ → Session
session_at t k = cond (leb (length t) k) Idle (Sending (length t) k)

module _ (t : List ℕ) (k : ℕ) where
  at_open : k < length t → session_at t k ≡ Sending (length t) k
  unfolding session_at
  at_open h = rw (lt-leb (length t) k h)

  at-end : length t ≤ k → session_at t k ≡ Idle
  unfolding session_at
  at-end h = rw (le-leb (length t) k h)

  is_open : (session_at t k ≡ Idle → ⊥) → k < length t
  is_open f = go (dec_le (length t) k)
    where
      go : Dec (length t ≤ k) → k < length t
      go (yes a) = absurd (f (at-end a))
      go (no a) = omega arith

  is-end : session_at t k ≡ Idle → length t ≤ k
  is-end h = go (dec_lt k (length t))
    where
      go : Dec (k < length t) → length t ≤ k
      go (yes a) = let z : ◌≡◌ {A = ℕ} 0 1 = cc (at_open a, h) in absurd (omega arith)
      go (no a) = omega arith

-- ---- one hunk
module _ (t : List ℕ) (i size : ℕ) where
  session-next : i < length t → next_session t i size ≡ session_at t (i + size)
  unfolding next_session session_at rest_of hunk_of
  session-next h = go (dec_le (length t) (i + size))
    where
      go : Dec (length t ≤ i + size) → next_session t i size ≡ session_at t (i + size)
      go (yes a) = rw (eq-eqb (length t - i - min size (length t - i)) 0 (omega arith), le-leb (length t) (i + size) a)
      go (no a) = rw (ne_eqb (length t - i - min size (length t - i)) 0 (omega arith), lt-leb (length t) (i + size) (omega arith)) (ap (Sending (length t)) (omega arith))

  rest-next : rest_of t i size ≡ length t - (i + size)
  unfolding rest_of hunk_of
  rest-next = omega arith

  hunk-length : length (part i (hunk_of t i size) t) ≡ hunk_of t i size
  unfolding part hunk_of
  hunk-length = rw (length-take, length-drop) (omega arith)

  hunk-bytes : part i (hunk_of t i size) t ≡ take size (drop i t)
  unfolding part hunk_of
  hunk-bytes = go (dec_le size (length t - i))
    where
      go : Dec (size ≤ length t - i) → take (min size (length t - i)) (drop i t) ≡ take size (drop i t)
      go (yes a) = rw (let e : min size (length t - i) ≡ size = omega arith in e)
      go (no a) =
          take_all (min size (length t - i)) (drop i t) (omega (arith, length-drop i t)) ∙
          sym (take_all size (drop i t) (omega (arith, length-drop i t)))

-- bytes written at an offset of the page are read back there
written : (at n : ℕ) (vs page : List ℕ) → length vs ≡ n → at ≤ length page → part at n (splice at vs page) ≡ vs
written at n vs page e h = ap (λ (m : ℕ). part at m (splice at vs page)) (sym e) ∙ part-splice at vs page h

-- ---- a call that is OK
settled-ok : (k : Code) (new : TokenStep) (page : List ℕ) (s : Session) → is_ok (settled k new page s).answer.code ≡ true → k ≡ Ok
unfolding settled keeps answer_of
settled-ok k new page s =
    if-ok-by (λ (t : TokenStep). is_ok t.answer.code ≡ true → k ≡ Ok) k new (keeps k page s) (λ e h. e)
    (λ e h. absurd (true≢false (sym h ∙ e)))

module _ (s : Session) (x : TokenCall) (h : token_accepted s x ≡ true) where
  pub code_ok : token_code x.state x.page s x.busy x.token x.pa x.size x.csize ≡ Ok
  unfolding token_accepted token_step_of token_of
  code_ok =
      settled-ok _ (send_of (place_of (boot_params x.state) x.pa) x.token (begin_of s x.csize) x.size x.page) x.page s h

  step_is : token_step_of s x ≡ send_of (place_of (boot_params x.state) x.pa) x.token (begin_of s x.csize) x.size x.page
  unfolding token_step_of token_of
  step_is = sym (sends _ _ x.page s code_ok)

  buffer-is : Room x.state (length x.page) x.pa x.size x.csize
  unfolding token_code
  buffer-is = buffer-room _ _ _ _ _ _ (first-ok _ _ code_ok)

  start_is : start_code s x.csize (length x.token) ≡ Ok
  unfolding token_code
  start_is = then_ok _ _ code_ok

  session-is : begin_of s x.csize < length x.token → (token_step_of s x).session ≡ session_at x.token (begin_of s x.csize + x.size)
  unfolding send_of
  session-is l = ap (λ (t : TokenStep). t.session) step_is ∙ session-next x.token (begin_of s x.csize) x.size l

  left_is : (token_step_of s x).answer.x2 ≡ length x.token - (begin_of s x.csize + x.size)
  unfolding send_of answer_of
  left_is = ap (λ (t : TokenStep). t.answer.x2) step_is ∙ rest-next x.token (begin_of s x.csize) x.size

  answer-is : (k : ℕ) → begin_of s x.csize ≡ k →
      (token_step_of s x).answer ≡ record {
        code = Ok;
        x0 = 0;
        x1 = min x.size (length x.token - k);
        x2 = length x.token - (k + x.size);
      }
  unfolding send_of answer_of x0_of extended hunk_of
  answer-is k b = ap (λ (t : TokenStep). t.answer) step_is ∙ rw (b, rest-next x.token k x.size)

  shown-is : shown_of s x ≡ take x.size (drop (begin_of s x.csize) x.token)
  unfolding shown_of send_of answer_of
  shown-is =
      let i : ℕ = begin_of s x.csize in
      let n : ℕ = hunk_of x.token i x.size in
      let at : ℕ = place_of (boot_params x.state) x.pa in
      let l : at ≤ length x.page = omega (arith, buffer-is.room, buffer-is.whole) in
      rw h
      (ap (λ (t : TokenStep). part at t.answer.x1 t.page) step_is
      ∙ written at n (part i n x.token) x.page (hunk-length x.token i x.size) l
      ∙ hunk-bytes x.token i x.size)

  -- those bytes are at pa, and no other byte of the page changes
  pub token-writes : WrittenAt (place_of (boot_params x.state) x.pa) (shown_of s x) x.page (token_step_of s x).page
  unfolding send_of
  token-writes =
      let i : ℕ = begin_of s x.csize in
      let at : ℕ = place_of (boot_params x.state) x.pa in
      let l : at ≤ length x.page = omega (arith, buffer-is.room, buffer-is.whole) in
      let e : shown_of s x ≡ part i (hunk_of x.token i x.size) x.token = shown-is ∙ sym (hunk-bytes x.token i x.size) in
      let f : (token_step_of s x).page ≡ splice at (part i (hunk_of x.token i x.size) x.token) x.page = ap
      (λ (t : TokenStep). t.page) step_is in
      rw (e, f) (splice-written at _ x.page l)

-- a further call that is OK: the session is open, and the call sends the next bytes
record Next (t : List ℕ) (size k : ℕ) (s : Session) (x : TokenCall) : Type 0 where
  below : k < length t
  after : (token_step_of s x).session ≡ session_at t (k + size)
  shown : shown_of s x ≡ take size (drop k t)
  left : (token_step_of s x).answer.x2 ≡ length t - (k + size)

step-on : (t : List ℕ) (size : ℕ) (s : Session) (x : TokenCall) (k : ℕ) → token_accepted s x ≡ true → x.csize ≡ 0 → x.size ≡ size → x.token ≡ t → s ≡ session_at t k → Next t size k s x
step-on t size s x k h c z e o =
    let q = start_is s x h in
    let l : k < length t = is_open t k (λ i. false≢true (ap is_ok (sym (next-idle s x.csize (length x.token) c (o ∙ i)) ∙ q))) in
    let b : begin_of s x.csize ≡ k = sym (begin-next s x.csize (length x.token) c (length t) k (o ∙ at_open t k l)) in
    record {
      below = l;
      after = session-is s x h (rw (b, e) l) ∙ (cc);
      shown = shown-is s x h ∙ (cc);
      left = left_is s x h ∙ (cc);
    }

-- a refused call shows no bytes and leaves the session unchanged
step-off : (s : Session) (x : TokenCall) → token_accepted s x ≡ false → (shown_of s x ≡ []) × ((token_step_of s x).session ≡ s)
unfolding shown_of token_accepted token_step_of
step-off s x h =
    (rw h, ap (λ (t : TokenStep). t.session) (token-refused x.state x.page s x.busy x.token x.pa x.size x.csize h))

-- a call that passes the checks of session and token, and all others, is OK
ready-ok : (s : Session) (x : TokenCall) → Ready x → start_code s x.csize (length x.token) ≡ Ok → token_accepted s x ≡ true
unfolding Ready token_accepted token_step_of token_of send_of settled answer_of
ready-ok s x a h = rw (token-start x.state x.page s x.busy x.token x.pa x.size x.csize a ∙ h)

-- ---- any calls after the start
-- n buffers of `size` bytes of t are sent, from offset k
record Sent (t : List ℕ) (size k n : ℕ) (bytes : List ℕ) (left : ℕ) (s : Session) : Type 0 where
  joined : bytes ≡ take (n * size) (drop k t)
  rest : left ≡ length t - (k + n * size)
  ends : s ≡ session_at t (k + n * size)
  no_more : k + n * size < length t + size

sent-none : (t : List ℕ) (size k left : ℕ) (s : Session) → left ≡ length t - k → s ≡ session_at t k → k < length t + size →
    Sent t size k 0 [] left s
sent-none t size k left s r h l =
    record { joined = rw zero-mul; rest = rw (zero-mul, add-zero) r; ends = rw (zero-mul, add-zero) h; no_more = rw (zero-mul, add-zero) l }

sent-more : (t : List ℕ) (size k n : ℕ) (bytes : List ℕ) (left : ℕ) (s : Session) → Sent t size (k + size) n bytes left s →
    Sent t size k (1 + n) (take size (drop k t) ++ bytes) left s
sent-more t size k n bytes left s p =
    let e : (1 + n) * size ≡ size + n * size = rw one-add (rw suc-mul (omega arith)) in
    record {
      joined = rw (e, take-add, drop-drop, p.joined);
      rest = p.rest ∙ rw (e, add_assoc);
      ends = p.ends ∙ rw (e, add_assoc);
      no_more = rw e (omega (arith, p.no_more));
    }

sent-same : (t : List ℕ) (size k n : ℕ) (bytes : List ℕ) (left : ℕ) (s : Session) → Sent t size k n bytes left s →
    Sent t size k (0 + n) ([] ++ bytes) left s
sent-same t size k n bytes left s p = rw zero-add p

module _ (t : List ℕ) (size : ℕ) where
  goes_on : (xs : List TokenCall) (s : Session) (k left : ℕ) → left ≡ length t - k → s ≡ session_at t k → k < length t + size →
      GoesOn t size s xs →
      Sent t size k (oks_of s xs) (hunks_of s xs) (left_of left s xs) (session_after s xs)
  unfolding oks_of hunks_of left_of session_after
  goes_on [] s k left r o l f = sent-none t size k left s r o l
  goes_on (x ∷ xs) s k left r o l f = go (token_accepted s x) refl (λ i m q p j. goes_on xs (token_step_of s x).session i m q p j f.1)
    where
      go : (b : Bool) → token_accepted s x ≡ b →
          ((i m : ℕ) → m ≡ length t - i → (token_step_of s x).session ≡ session_at t i → i < length t + size →
          Sent t size i (oks_of (token_step_of s x).session xs) (hunks_of (token_step_of s x).session xs)
          (left_of m (token_step_of s x).session xs) (session_after (token_step_of s x).session xs)) →
          Sent t size k (cond (token_accepted s x) 1 0 + oks_of (token_step_of s x).session xs)
          (shown_of s x ++ hunks_of (token_step_of s x).session xs)
          (left_of (cond (token_accepted s x) (token_step_of s x).answer.x2 left) (token_step_of s x).session xs)
          (session_after (token_step_of s x).session xs)
      go true e ih =
          let y = f.0 e in
          let p = step-on t size s x k e y.0 y.1 y.2 o in
          rw (e, p.shown) (sent-more t size k _ _ _ _ (ih (k + size) (token_step_of s x).answer.x2 p.left p.after
          (omega (arith, p.below))))
      go false e ih =
          let p = step-off s x e in
          rw (e, p.0) (sent-same t size k _ _ _ _ (ih k left r (p.1 ∙ o) l))

-- ---- the whole token, from a start that is OK
ceil-is : (l b n : ℕ) → 0 < b → l ≤ n * b → n * b < l + b → n ≡ ceil l b
unfolding ceil
ceil-is l b n p h k = sym (div-eq_of_lt-le b (omega arith) (rw (add-one, suc-mul) (omega arith)))

ceil-above : (l b n : ℕ) → 0 < b → n * b < l → n < ceil l b
unfolding ceil
ceil-above l b n p h = (le-div_iff_mul-le p).1 (rw suc-mul (omega arith))

module _ (s : Session) (x : TokenCall) (xs : List TokenCall) (n : x.csize ≡ 0 → ⊥) (h : token_accepted s x ≡ true)
    (f : GoesOn x.token x.size (token_step_of s x).session xs) where
  token-there : 0 < length x.token
  token-there = go (dec_lt 0 (length x.token))
    where
      go : Dec (0 < length x.token) → 0 < length x.token
      go (yes a) = a
      go (no a) = absurd (false≢true (ap is_ok (sym (start-empty s x.csize (length x.token) n (omega arith)) ∙ start_is s x h)))

  start-sent : Sent x.token x.size 0 (oks_of s (x ∷ xs)) (hunks_of s (x ∷ xs)) (left_of 0 s (x ∷ xs)) (session_after s (x ∷ xs))
  unfolding oks_of hunks_of left_of session_after
  start-sent =
      let l = token-there in
      let b : begin_of s x.csize ≡ 0 = sym (begin-again s x.csize (length x.token) n) in
      let a = session-is s x h (rw b l) in
      let d = left_is s x h in
      rw (h, shown-is s x h, b)
      (sent-more x.token x.size 0 _ _ _ _ (goes_on x.token x.size xs _ (0 + x.size) _ (rw b at d) (rw b at a) (omega (arith, l)) f))

  -- "a token of L bytes takes exactly L / b calls, rounded up, refusals not counted", and the hunks joined are the token: for a start that
  -- is OK, in any session, and any calls after it of which those that are OK continue with its token and buffer
  pub token-calls : Calls x.token x.size (oks_of s (x ∷ xs)) (hunks_of s (x ∷ xs)) (left_of 0 s (x ∷ xs)) (session_after s (x ∷ xs))
  token-calls =
      let t : List ℕ = x.token in
      let b : ℕ = x.size in
      let m : ℕ = oks_of s (x ∷ xs) in
      let z : 0 < b = omega (arith, (buffer-is s x h).holds, n) in
      let p = start-sent in
      record {
        ended = λ e.
            let l : length t ≤ m * b = omega (arith, is-end t (0 + m * b) (sym p.ends ∙ e)) in
            (ceil-is (length t) b m z l (omega (arith, p.no_more)), p.joined ∙ take_all (m * b) t l, p.rest ∙ (omega arith));
        before = λ e.
            let l : m * b < length t = omega (arith, is_open t (0 + m * b) (λ i. e (p.ends ∙ i))) in
            (ceil-above (length t) b m z l, p.joined, p.rest ∙ (omega arith));
      }

  -- and it ends: until then a call with c_size 0 and that token is OK, if the checks of record, page, platform and buffer pass
  pub token-goes : (session_after s (x ∷ xs) ≡ Idle → ⊥) → (y : TokenCall) → Ready y → y.csize ≡ 0 → y.token ≡ x.token →
      token_accepted (session_after s (x ∷ xs)) y ≡ true
  token-goes e y a c d =
      let t : List ℕ = x.token in
      let k : ℕ = 0 + oks_of s (x ∷ xs) * x.size in
      let p = start-sent in
      let l : k < length t = is_open t k (λ i. e (p.ends ∙ i)) in
      let w : length y.token ≡ length t = ap length d in
      ready-ok (session_after s (x ∷ xs)) y a (next-ok _ y.csize (length y.token) c (length t) k (p.ends ∙ at_open t k l)
      (omega arith) w)

-- "A nonzero c_size always starts again, also in mid-session": it is OK in any session, if those checks pass and the token is not empty
pub token-starts : (s : Session) (x : TokenCall) → Ready x → (x.csize ≡ 0 → ⊥) → (length x.token ≡ 0 → ⊥) → token_accepted s x ≡ true
token-starts s x a n e = ready-ok s x a (start-again s x.csize (length x.token) n e)

-- ---- one call, with a buffer of any size: of a session, and of a start
pub token-next : (s : Session) (x : TokenCall) (sent : ℕ) → s ≡ Sending (length x.token) sent → sent < length x.token →
    x.csize ≡ 0 → token_accepted s x ≡ true →
    NextHunk x.token x.size sent (token_step_of s x) (shown_of s x)
token-next s x sent e l c h =
    let t : List ℕ = x.token in
    let p = step-on t x.size s x sent h c refl refl (e ∙ sym (at_open t sent l)) in
    record {
      hunk = p.shown;
      told = answer-is s x h sent (sym (begin-next s x.csize (length t) c (length t) sent e));
      ended = λ a. p.after ∙ at-end t (sent + x.size) a;
      goes_on = λ a. p.after ∙ at_open t (sent + x.size) a;
    }

pub token-first : (s : Session) (x : TokenCall) → 0 < length x.token → (x.csize ≡ 0 → ⊥) → token_accepted s x ≡ true →
    NextHunk x.token x.size 0 (token_step_of s x) (shown_of s x)
token-first s x l n h =
    let t : List ℕ = x.token in
    let b : begin_of s x.csize ≡ 0 = sym (begin-again s x.csize (length t) n) in
    let a : (token_step_of s x).session ≡ session_at t (begin_of s x.csize + x.size) = session-is s x h (rw b l) in
    let after : (token_step_of s x).session ≡ session_at t (0 + x.size) = rw b at a in
    record {
      hunk = rw b at (shown-is s x h);
      told = answer-is s x h 0 b;
      ended = λ k. after ∙ at-end t (0 + x.size) k;
      goes_on = λ k. after ∙ at_open t (0 + x.size) k;
    }
