-- Token and challenge, return by return, and what a refusal leaves. Assumes nothing.
use Prim.Native.Nat.{ℕ, ◌+◌, ◌-◌, ◌≤◌, ◌<◌, min}
use mathlib.Core.Path.{◌≡◌, refl, ◌∙◌}
use mathlib.Core.Bool.{Bool, true, false, true≢false}
use mathlib.Core.List.{List, ◌++◌, append-nil}
use native.Mathlib.Omega.{arith}
use native.Mathlib.Nat.{min-eq_left, min-eq_right, min-zero, add-zero}
use lib.ListN.{length, take, drop, take-append-drop, length-drop}
use lib.Seq.{length-take-le}
use borrow.Author.Tests.{eq-eqb, ne_eqb, lt-ltb, le-ltb, ltb-false}
use Rattle.words.specs.Tests.{both, either}
use Rattle.words.specs.Word.{part, splice, laid, span_at, spanned, span_start, no_span}
use Rattle.words.specs.declared.Span.{Span}
use Rattle.words.proofs.Store.{bytes-in, lent_back, span_none, span-in, start_none, start-in}
use Rattle.boot.specs.declared.Record.{Record}
use Rattle.buffer_check.specs.Range.{place_of}
use Rattle.buffer_check.proofs.Ranges.{passed}
use Rattle.codes.specs.Codes.{boot_params, is_false, fails, is_ok, answer_of}
use Rattle.codes.proofs.Gates.{fails-ok, first-ok, then_ok, then-stop, then-go, if-ok-by}
use Rattle.codes.specs.declared.Answer.{Answer}
use Rattle.codes.specs.declared.Code.{Code}
use Rattle.codes.specs.declared.Code.TheVariants.{Ok, Unk, Inval}
use Rattle.token_rules.specs.declared.Session.{Session}
use Rattle.token_rules.specs.declared.Session.TheVariants.{Idle, Sending}
use Rattle.token_rules.specs.Token.{
  is_idle,
  whole_of,
  sent_of,
  listed,
  csize_code,
  buffer_code,
  start_code,
  token_code,
  begin_of,
  hunk_of,
  rest_of,
  next_session,
  TokenStep,
  send_of,
  keeps,
  settled,
  token_of,
  challenge_of,
  challenge_span,
}

-- ---- c_size
module _ (size c : ℕ) where
  pub csize-unlisted : listed c ≡ false → csize_code size c ≡ Inval
  unfolding csize_code fails is_false
  csize-unlisted i = rw i

  module _ (i : listed c ≡ true) where
    pub csize-small : size < c → csize_code size c ≡ Inval
    unfolding csize_code fails is_false
    csize-small h = rw (i, lt-ltb size c h)

    pub csize-ok : c ≤ size → csize_code size c ≡ Ok
    unfolding csize_code fails is_false
    csize-ok h = rw (i, le-ltb size c h)

-- a buffer that passes is in the page, and the challenge is in the buffer
pub record Room (r : Record) (len pa size c : ℕ) : Type 0 where
  pub whole : len ≡ 4096
  pub room : place_of (boot_params r) pa + size ≤ 4096
  pub holds : c ≤ size

pub buffer-room : (r : Record) (len : ℕ) (busy : Bool) (pa size c : ℕ) → buffer_code r len busy pa size c ≡ Ok → Room r len pa size c
unfolding buffer_code csize_code
buffer-room r len busy pa size c h =
    let p = passed _ _ _ _ _ _ (first-ok _ _ h) in
    let l = fails-ok _ _ _ refl (then_ok _ _ h) in
    let t = fails-ok _ _ _ refl l.1 in
    record { whole = p.whole; room = p.room; holds = ltb-false _ _ t.0 }

-- ---- session and token
module _ (s : Session) (c len : ℕ) where
  module _ (n : c ≡ 0 → ⊥) where
    pub start-empty : len ≡ 0 → start_code s c len ≡ Unk
    unfolding start_code fails both either
    start-empty e = rw (ne_eqb c 0 n, eq-eqb len 0 e)

    pub start-again : (len ≡ 0 → ⊥) → start_code s c len ≡ Ok
    unfolding start_code fails both either
    start-again e = rw (ne_eqb c 0 n, ne_eqb len 0 e)

    pub begin-again : 0 ≡ begin_of s c
    unfolding begin_of
    begin-again = rw (ne_eqb c 0 n)

  module _ (z : c ≡ 0) where
    pub next-idle : s ≡ Idle → start_code s c len ≡ Inval
    unfolding start_code fails both is_idle
    next-idle e = rw (eq-eqb c 0 z, e)

    module _ (whole sent : ℕ) (e : s ≡ Sending whole sent) where
      pub next-empty : len ≡ 0 → start_code s c len ≡ Unk
      unfolding start_code fails both either is_idle
      next-empty l = rw (eq-eqb c 0 z, e, eq-eqb len 0 l)

      pub next-other : (len ≡ 0 → ⊥) → (len ≡ whole → ⊥) → start_code s c len ≡ Unk
      unfolding start_code fails both either is_false is_idle whole_of
      next-other l w = rw (eq-eqb c 0 z, e, ne_eqb len 0 l, ne_eqb len whole w)

      pub next-ok : (len ≡ 0 → ⊥) → len ≡ whole → start_code s c len ≡ Ok
      unfolding start_code fails both either is_false is_idle whole_of
      next-ok l w = rw (eq-eqb c 0 z, e, ne_eqb len 0 l, eq-eqb len whole w)

      pub begin-next : sent ≡ begin_of s c
      unfolding begin_of sent_of
      begin-next = rw (eq-eqb c 0 z, e)

-- ---- the three ways in which a hunk is sent
part_length : (i n : ℕ) (s : List ℕ) → i + n ≤ length s → length (part i n s) ≡ n
unfolding part
part_length i n s h = length-take-le n (drop i s) (omega (arith, length-drop i s))

-- copying n bytes of the token from offset i to offset `at` of the page
pub hunk-back : (at i n : ℕ) (token page : List ℕ) → at + n ≤ length page → i + n ≤ length token →
    take at page ++ (laid 0 (part i n token) (take (length page - at) (drop at page)) ++ drop (length page - at) (drop at page)) ≡
    splice at (part i n token) page
hunk-back at i n token page h k =
    let l : at + length (part i n token) ≤ length page = omega (arith, part_length i n token k) in
    lent_back at (part i n token) page l ∙ bytes-in at (part i n token) page l

module _ (at : ℕ) (token : List ℕ) (i size : ℕ) (page : List ℕ) where
  pub send-none : length token ≤ i → send_of at token i size page ≡ record { answer = answer_of Ok 0 0; page = page; session = Idle }
  unfolding send_of next_session rest_of hunk_of part splice
  send-none h =
      let z : length token - i ≡ 0 = omega arith in
      let y : take at page ++ drop (at + 0) page ≡ page = rw add-zero (take-append-drop at page) in
      rw (z, min-zero) (simp (append-nil, y))

  pub send-last : length token - i ≤ size →
      send_of at token i size page ≡ record { answer = answer_of Ok (length token - i) 0; page = splice at (part i (length token - i) token) page; session = Idle }
  unfolding send_of next_session rest_of hunk_of
  send-last h =
      let m : min size (length token - i) ≡ length token - i = min-eq_right h in
      let z : length token - i - (length token - i) ≡ 0 = omega arith in
      simp (m, z)

  pub send-more : size < length token - i →
      send_of at token i size page ≡ record { answer = answer_of Ok size (length token - i - size); page = splice at (part i size token) page; session = Sending (length token) (i + size) }
  unfolding send_of next_session rest_of hunk_of
  send-more h =
      let m : min size (length token - i) ≡ size = min-eq_left (omega arith) in
      simp (m, ne_eqb (length token - i - size) 0 (λ e. omega arith))

-- ---- what a call leaves
pub stays : (k : Code) (new : TokenStep) (page : List ℕ) (s : Session) (c : Code) (a : Answer) (t : Session) → a ≡ answer_of c 0 0 → t ≡ s →
    k ≡ c → is_ok c ≡ false → ◌≡◌ {A = TokenStep} (record { answer = a; page = page; session = t }) (settled k new page s)
unfolding settled keeps
stays k new page s c a t p q e h = rw (e, h, p, q)

pub sends : (k : Code) (new : TokenStep) (page : List ℕ) (s : Session) → k ≡ Ok → new ≡ settled k new page s
unfolding settled
sends k new page s e = rw e

-- the code of a call, from its buffer's code and its start's code
module _ (r : Record) (page : List ℕ) (s : Session) (busy : Bool) (token : List ℕ) (pa size c : ℕ) where
  pub token-buffer : (j : Code) → buffer_code r (length page) busy pa size c ≡ j → is_ok j ≡ false →
      token_code r page s busy token pa size c ≡ j
  unfolding token_code
  token-buffer j e o = then-stop _ _ j e o

  pub token-start : buffer_code r (length page) busy pa size c ≡ Ok → token_code r page s busy token pa size c ≡ start_code s c (length token)
  unfolding token_code
  token-start e = then-go _ _ e

-- a refused call leaves page and session unchanged, with zeros in x1 and x2
pub token-refused : (r : Record) (page : List ℕ) (s : Session) (busy : Bool) (token : List ℕ) (pa size c : ℕ) →
    is_ok (token_of r page s busy token pa size c).answer.code ≡ false →
    token_of r page s busy token pa size c ≡ record {
      answer = answer_of (token_of r page s busy token pa size c).answer.code 0 0;
      page = page;
      session = s;
    }
unfolding token_of send_of settled keeps answer_of
token-refused r page s busy token pa size c =
    if-ok-by (λ (t : TokenStep). is_ok t.answer.code ≡ false →
    t ≡ record { answer = answer_of t.answer.code 0 0; page = page; session = s })
    (token_code r page s busy token pa size c) _ _ (λ e h. absurd (true≢false h)) (λ e h. refl)

-- ---- the challenge and its place
module _ (r : Record) (page : List ℕ) (pa size c : ℕ) where
  -- the challenge is empty if a check fails
  pub challenge-none : (j : Code) → buffer_code r (length page) false pa size c ≡ j → is_ok j ≡ false →
      (no_span ≡ challenge_span r page pa size c) × (spanned no_span page ≡ challenge_of r page pa size c)
  unfolding challenge_of challenge_span
  challenge-none j e o = rw (e, o) (refl, span_none page)

  pub challenge-shown : buffer_code r (length page) false pa size c ≡ Ok → (at : ℕ) → at ≡ place_of (boot_params r) pa →
      (span_at at c ≡ challenge_span r page pa size c) × (spanned (span_at at c) page ≡ challenge_of r page pa size c)
  unfolding challenge_of challenge_span
  challenge-shown e at i =
      let m = buffer-room r (length page) false pa size c e in
      rw (i, e) (refl, span-in (place_of (boot_params r) pa) c page (omega (arith, m.whole, m.room, m.holds)))

  -- the part of the page starts at the challenge's offset
  pub challenge-starts : span_start (challenge_span r page pa size c) page ≡ (challenge_span r page pa size c).at
  unfolding challenge_span
  challenge-starts =
      if-ok-by (λ (p : Span). span_start p page ≡ p.at) (buffer_code r (length page) false pa size c)
      (span_at (place_of (boot_params r) pa) c) no_span
      (λ e.
      let m = buffer-room r (length page) false pa size c e in
      start-in (place_of (boot_params r) pa) c page (omega (arith, m.whole, m.room, m.holds)))
      (λ e. start_none page)
