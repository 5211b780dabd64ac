-- The realm key, return by return, and what a refusal leaves. Assumes nothing.
use Prim.Native.Nat.{ℕ, ◌+◌, ◌≤◌, ◌<◌}
use mathlib.Core.Path.{◌≡◌, sym, ◌∙◌}
use mathlib.Core.Bool.{false}
use mathlib.Core.List.{List}
use native.Mathlib.Omega.{arith}
use lib.ListN.{length}
use borrow.Author.Tests.{eq-eqb, ne_eqb, lt-ltb, le-ltb}
use Rattle.words.specs.Tests.{either}
use Rattle.words.specs.Word.{splice}
use Rattle.boot.specs.declared.Record.{Record}
use Rattle.codes.specs.Codes.{boot_params, is_false, fails, is_ok, answer_of, gated}
use Rattle.codes.specs.declared.Answer.{Answer}
use Rattle.codes.specs.declared.Code.{Code}
use Rattle.codes.specs.declared.Code.TheVariants.{Ok, Unk, Inval}
use Rattle.std.specs.Prelude.{Result, Err, Ok as Go}
use Rattle.codes.proofs.Gates.{went, stood, then-stop, then-go}
use Rattle.buffer_check.specs.Range.{place_of, page_code}
use Rattle.buffer_check.specs.declared.OutsideAs.TheVariants.{BadAddress}
use Rattle.buffer_check.proofs.Ranges.{passed}
use Rattle.attest.specs.Key.{key_rest, key_code, Keyed, keyed, realm_key_of}

-- a refusal has zeros in x1 and x2 and leaves the page unchanged
pub stays : (k : Code) (at : ℕ) (page key : List ℕ) (c : Code) → k ≡ c → is_ok c ≡ false →
    ◌≡◌ {A = Keyed} (record { answer = answer_of c 0 0; page = page }) (keyed k at page key)
unfolding keyed
stays k at page key c e h = rw (e, h)

pub writes : (k : Code) (at : ℕ) (page key : List ℕ) → k ≡ Ok → ◌≡◌ {A = Keyed} (record { answer = answer_of Ok (length key) 0; page = splice at key page }) (keyed k at page key)
unfolding keyed
writes k at page key e = rw e

-- the checks after the range check
module _ (size curve : ℕ) (key : List ℕ) where
  pub rest-curve : (curve ≡ 0 → ⊥) → key_rest size curve key ≡ Inval
  unfolding key_rest fails is_false
  rest-curve h = rw (ne_eqb curve 0 h)

  module _ (h : curve ≡ 0) where
    pub rest-empty : length key ≡ 0 → key_rest size curve key ≡ Unk
    unfolding key_rest fails is_false either
    rest-empty e = rw (eq-eqb curve 0 h, eq-eqb (length key) 0 e)

    module _ (n : length key ≡ 0 → ⊥) where
      pub rest-long : size < length key → key_rest size curve key ≡ Unk
      unfolding key_rest fails is_false either
      rest-long l = rw (eq-eqb curve 0 h, ne_eqb (length key) 0 n, lt-ltb size (length key) l)

      pub rest_ok : length key ≤ size → key_rest size curve key ≡ Ok
      unfolding key_rest fails is_false either
      rest_ok l = rw (eq-eqb curve 0 h, ne_eqb (length key) 0 n, le-ltb size (length key) l)

-- a refused call leaves the page unchanged, with zeros in x1 and x2
pub key-refused : (r : Record) (page key : List ℕ) (pa size curve : ℕ) → is_ok (realm_key_of r page key pa size curve).answer.code ≡ false →
    realm_key_of r page key pa size curve ≡ record { answer = answer_of (realm_key_of r page key pa size curve).answer.code 0 0; page = page }
unfolding realm_key_of keyed answer_of
key-refused r page key pa size curve h = rw h

-- the call, by the gate g of the common checks
module _ (r : Record) (page key : List ℕ) (pa size curve : ℕ) (g : Result ℕ Code)
    (cg : g ≡ gated (page_code r (length page) Ok BadAddress pa size) (place_of (boot_params r) pa)) where
  pub told-stop : (c : Code) → g ≡ Err c → (a : Answer) → a ≡ answer_of c 0 0 →
      ◌≡◌ {A = Keyed} (record { answer = a; page = page }) (realm_key_of r page key pa size curve)
  unfolding realm_key_of key_code
  told-stop c h a e =
      let p = stood (page_code r (length page) Ok BadAddress pa size) (place_of (boot_params r) pa) c (sym cg ∙ h) in
      rw e (stays (key_code r page pa size curve key) (place_of (boot_params r) pa) page key c
      (then-stop (page_code r (length page) Ok BadAddress pa size) (key_rest size curve key) c p.0 p.1) p.1)

  module _ (at : ℕ) (h : g ≡ Go at) where
    page-went : (page_code r (length page) Ok BadAddress pa size ≡ Ok) × (at ≡ place_of (boot_params r) pa)
    page-went = went (page_code r (length page) Ok BadAddress pa size) (place_of (boot_params r) pa) at (sym cg ∙ h)

    pub told-room : at + size ≤ length page
    told-room =
        let p = passed r (length page) Ok BadAddress pa size page-went.0 in
        omega (arith, page-went.1, p.whole, p.room)

    pub told-put : (x : Keyed) → x ≡ keyed (key_rest size curve key) at page key → x ≡ realm_key_of r page key pa size curve
    unfolding realm_key_of key_code
    told-put x e = e ∙ rw (then-go (page_code r (length page) Ok BadAddress pa size) (key_rest size curve key) page-went.0, page-went.1)
