-- The steps of the token, return by return, from the results of the functions that they call. Assumes nothing.
use Prim.Native.Nat.{ℕ, ◌+◌, ◌≤◌, ◌<◌}
use mathlib.Core.Path.{◌≡◌, refl, sym, ◌∙◌}
use mathlib.Core.Bool.{Bool, true, false}
use mathlib.Core.List.{List}
use native.Mathlib.Omega.{arith}
use lib.ListN.{length}
use Rattle.words.specs.Word.{no_span, span_at, spanned, span_start, on_from}
use Rattle.words.specs.declared.Span.{Span}
use Rattle.boot.specs.declared.Record.{Record}
use Rattle.buffer_check.specs.Range.{place_of, page_code}
use Rattle.buffer_check.specs.declared.OutsideAs.TheVariants.{BadAddress}
use Rattle.codes.specs.Codes.{boot_params, fails, is_ok, answer_of, gated}
use Rattle.codes.specs.declared.Answer.{Answer}
use Rattle.codes.specs.declared.Code.{Code}
use Rattle.codes.specs.declared.Code.TheVariants.{Ok, Inval, Again}
use Rattle.std.specs.Prelude.{Result, Err, Ok as Go}
use Rattle.codes.proofs.Gates.{went, stood, stops, goes, then-stop, then-go}
use Rattle.token_rules.specs.declared.Session.{Session}
use Rattle.token_rules.specs.Token.{listed, csize_code, buffer_code, start_code, token_code, begin_of, TokenStep, send_of, token_of, challenge_of}
use Rattle.token_rules.specs.Token.{challenge_span}
use Rattle.token_rules.proofs.Tokens.{csize-unlisted, csize-small, csize-ok, buffer-room, stays, sends, token-buffer, token-start}
use Rattle.token_rules.proofs.Tokens.{challenge-none, challenge-shown, challenge-starts}

-- ---- the buffer, from the gate of the common checks, with the platform's code before it
module _ (r : Record) (len : ℕ) (busy : Bool) (pa size csize : ℕ) (f : Code) (cf : f ≡ fails busy Again Ok) (g : Result ℕ Code)
    (cg : g ≡ gated (page_code r len f BadAddress pa size) (place_of (boot_params r) pa)) where
  is-page : g ≡ gated (page_code r len (fails busy Again Ok) BadAddress pa size) (place_of (boot_params r) pa)
  is-page = cg ∙ rw cf

  pub told-outside : (c : Code) → g ≡ Err c → g ≡ gated (buffer_code r len busy pa size csize) (place_of (boot_params r) pa)
  unfolding buffer_code
  told-outside c h =
      let p = stood (page_code r len (fails busy Again Ok) BadAddress pa size) (place_of (boot_params r) pa) c (sym is-page ∙ h) in
      h ∙ stops (buffer_code r len busy pa size csize) (place_of (boot_params r) pa) c
      (then-stop (page_code r len (fails busy Again Ok) BadAddress pa size) (csize_code size csize) c p.0 p.1) p.1

  module _ (at : ℕ) (h : g ≡ Go at) where
    page-went : (page_code r len (fails busy Again Ok) BadAddress pa size ≡ Ok) × (at ≡ place_of (boot_params r) pa)
    page-went = went (page_code r len (fails busy Again Ok) BadAddress pa size) (place_of (boot_params r) pa) at (sym is-page ∙ h)

    is-csize : buffer_code r len busy pa size csize ≡ csize_code size csize
    unfolding buffer_code
    is-csize = then-go (page_code r len (fails busy Again Ok) BadAddress pa size) (csize_code size csize) page-went.0

    module _ (l : Bool) (cl : l ≡ listed csize) where
      pub told-unlisted : l ≡ false → Err Inval ≡ gated (buffer_code r len busy pa size csize) (place_of (boot_params r) pa)
      told-unlisted n =
          stops (buffer_code r len busy pa size csize) (place_of (boot_params r) pa) Inval
          (is-csize ∙ csize-unlisted size csize (sym cl ∙ n)) refl

      module _ (y : l ≡ true) where
        pub told-small : size < csize → Err Inval ≡ gated (buffer_code r len busy pa size csize) (place_of (boot_params r) pa)
        told-small b =
            stops (buffer_code r len busy pa size csize) (place_of (boot_params r) pa) Inval
            (is-csize ∙ csize-small size csize (sym cl ∙ y) b) refl

        pub told-buffer : csize ≤ size → Go at ≡ gated (buffer_code r len busy pa size csize) (place_of (boot_params r) pa)
        told-buffer b =
            goes (buffer_code r len busy pa size csize) (place_of (boot_params r) pa) at (is-csize ∙ csize-ok size csize (sym cl ∙ y) b)
            page-went.1

-- ---- the call, from the gates of its buffer and of its start
module _ (r : Record) (page : List ℕ) (s : Session) (busy : Bool) (token : List ℕ) (pa size csize : ℕ) (g : Result ℕ Code)
    (cg : g ≡ gated (buffer_code r (length page) busy pa size csize) (place_of (boot_params r) pa)) where
  left_by : (c : Code) → token_code r page s busy token pa size csize ≡ c → is_ok c ≡ false → (a : Answer) → a ≡ answer_of c 0 0 →
      (t : Session) → t ≡ s →
      ◌≡◌ {A = TokenStep} (record { answer = a; page = page; session = t }) (token_of r page s busy token pa size csize)
  unfolding token_of
  left_by c e o a ca t ct =
      stays (token_code r page s busy token pa size csize) (send_of (place_of (boot_params r) pa) token (begin_of s csize) size page) page s c
      a t ca ct e o

  pub told-stop : (c : Code) → g ≡ Err c → (a : Answer) → a ≡ answer_of c 0 0 → (t : Session) → t ≡ s → ◌≡◌ {A = TokenStep}
      (record { answer = a; page = page; session = t }) (token_of r page s busy token pa size csize)
  told-stop c h a ca t ct =
      let p = stood (buffer_code r (length page) busy pa size csize) (place_of (boot_params r) pa) c (sym cg ∙ h) in
      left_by c (token-buffer r page s busy token pa size csize c p.0 p.1) p.1 a ca t ct

  module _ (at : ℕ) (h : g ≡ Go at) where
    buffer-went : (buffer_code r (length page) busy pa size csize ≡ Ok) × (at ≡ place_of (boot_params r) pa)
    buffer-went = went (buffer_code r (length page) busy pa size csize) (place_of (boot_params r) pa) at (sym cg ∙ h)

    pub told-room : at + size ≤ length page
    told-room =
        let m = buffer-room r (length page) busy pa size csize buffer-went.0 in
        omega (arith, buffer-went.1, m.whole, m.room)

    module _ (b : Result ℕ Code) (cb : b ≡ gated (start_code s csize (length token)) (begin_of s csize)) where
      pub told-start : (c : Code) → b ≡ Err c → (a : Answer) → a ≡ answer_of c 0 0 → (t : Session) → t ≡ s → ◌≡◌ {A = TokenStep}
          (record { answer = a; page = page; session = t }) (token_of r page s busy token pa size csize)
      told-start c k a ca t ct =
          let p = stood (start_code s csize (length token)) (begin_of s csize) c (sym cb ∙ k) in
          left_by c (token-start r page s busy token pa size csize buffer-went.0 ∙ p.0) p.1 a ca t ct

      pub told-sent : (from : ℕ) → b ≡ Go from → (x : TokenStep) → x ≡ send_of at token from size page →
          x ≡ token_of r page s busy token pa size csize
      unfolding token_of
      told-sent from k x e =
          let p = went (start_code s csize (length token)) (begin_of s csize) from (sym cb ∙ k) in
          e ∙ rw (buffer-went.1, p.1) (sends (token_code r page s busy token pa size csize)
          (send_of (place_of (boot_params r) pa) token (begin_of s csize) size page) page s
          (token-start r page s busy token pa size csize buffer-went.0 ∙ p.0))

-- ---- the challenge, from its buffer's gate, and as a part of the page from its place
module _ (r : Record) (page : List ℕ) (pa size csize : ℕ) where
  module _ (g : Result ℕ Code) (cg : g ≡ gated (buffer_code r (length page) false pa size csize) (place_of (boot_params r) pa)) where
    pub told_none : (c : Code) → g ≡ Err c → (no_span ≡ challenge_span r page pa size csize) ×
        (spanned no_span page ≡ challenge_of r page pa size csize)
    told_none c h =
        let p = stood (buffer_code r (length page) false pa size csize) (place_of (boot_params r) pa) c (sym cg ∙ h) in
        challenge-none r page pa size csize c p.0 p.1

    pub told-shown : (at : ℕ) → g ≡ Go at → (x : Span) → x ≡ span_at at csize →
        (x ≡ challenge_span r page pa size csize) × (spanned x page ≡ challenge_of r page pa size csize)
    told-shown at h x e =
        let p = went (buffer_code r (length page) false pa size csize) (place_of (boot_params r) pa) at (sym cg ∙ h) in
        rw e (challenge-shown r page pa size csize p.0 at p.1)

  pub told_part : (x : Span) → (x ≡ challenge_span r page pa size csize) × (spanned x page ≡ challenge_of r page pa size csize) →
      (a : ℕ × ℕ) (bytes : List ℕ) (b : ℕ × ℕ) →
      (bytes ≡ spanned x page) × (b ≡ on_from a (span_start x page)) →
      (bytes ≡ challenge_of r page pa size csize) × (b ≡ on_from a (challenge_span r page pa size csize).at)
  told_part x e a bytes b k = (k.0 ∙ e.1, k.1 ∙ rw (e.0, challenge-starts r page pa size csize))
