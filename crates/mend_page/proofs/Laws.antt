-- Lines one after another, and the page of an input. Assumes nothing.
use Rattle.std.proofs.Common.{Err}
use Prim.Native.Nat.{ℕ, ◌+◌, ◌≤◌, ◌<◌}
use mathlib.Core.Bool.{Bool, true, false}
use mathlib.Core.Path.{◌≡◌, sym, ap, ◌∙◌}
use mathlib.Core.List.{List, ◌++◌}
use native.Mathlib.Nat.{zero-add}
use native.Mathlib.Omega.{arith}
use lib.ListN.{length, take, drop, length-append, length-take, length-drop}
use lib.Seq.{length-take-le, take_all, take_at, drop_at, ext_get_or, get_or-take, get_or-drop}
use lib.Dec.{lit≤}
use borrow.Author.Tests.{eq-eqb, ne_eqb}
use Rattle.io.specs.Counts.{IsPrefixLen}
use Rattle.words.specs.Word.{part, word_at, splice}
use Rattle.words.proofs.Read.{num-part}
use Rattle.words.proofs.Store.{splice-splice}
use Rattle.reader.specs.declared.Refusal.TheVariants.{Place}
use Rattle.mend.specs.Mend.{Mended, mended_of, mended_page}
use Rattle.mend.proofs.Theorems.{mends}
use Rattle.mend_page.specs.Text.{said_text, line_text, mended_input, input_left}

-- ---- text after text
pub text-more : {at at' : ℕ} {t u : List ℕ} (vs ws s : List ℕ) → at ≡ length vs → t ≡ splice 0 vs s → at' ≡ at + length ws →
    u ≡ splice at ws t →
    (at' ≡ length (vs ++ ws)) × (u ≡ splice 0 (vs ++ ws) s)
text-more vs ws s a b c d = (
  c ∙ rw (a, length-append),
  d ∙ rw (a, b) (ap (λ (k : ℕ). splice k ws (splice 0 vs s)) (sym (zero-add (length vs))) ∙
      splice-splice 0 vs s (omega arith) ws),
)

said-most : (b : Bool) → length (said_text b) ≤ 5
unfolding said_text
said-most true = lit≤ tt
said-most false = lit≤ tt

pub line-put : (b : Bool) (title said out : List ℕ) {at to r : ℕ} {t u : List ℕ} → said ≡ said_text b → at ≤ length out →
    to ≡ at + length title → t ≡ splice at title out →
    r ≡ to + length said → u ≡ splice to said t → (r ≡ at + length (line_text title b)) × (u ≡ splice at (line_text title b) out) ×
    (r ≤ at + length title + 5)
unfolding line_text
line-put b title said out {at = at} {r = r} e l a h c d =
    let m : length said ≤ 5 = rw e (said-most b) in
    let x : r ≡ at + length (title ++ said) = rw length-append (omega arith) in
    rw (← e) (x, d ∙ rw (a, h) (splice-splice at title out l said), omega arith)

pub text-put : {r : ℕ} {u : List ℕ} (vs ws out : List ℕ) → vs ≡ ws → length vs ≤ 63 → r ≡ 0 + length vs → u ≡ splice 0 vs out →
    (r ≡ length ws) × (u ≡ splice 0 ws out) × (r ≤ 63)
text-put vs ws out e l a h = rw (← e) (omega arith, h, omega arith)

pub report-put : {r : ℕ} {u : List ℕ} (vs ws out : List ℕ) → vs ≡ ws → (r ≡ length vs) × (u ≡ splice 0 vs out) × (r ≤ 63) →
    length u ≡ 64 → IsPrefixLen r u × ((r ≡ length ws) × (u ≡ splice 0 ws out))
report-put {r = r} {u = u} vs ws out e h l =
    let m : r ≤ length u = omega (arith, h.2) in
    ((m, sym (length-take-le r u m)), rw (← e) (h.0, h.1))

-- ---- the page of an input
module _ (room input : List ℕ) (n : ℕ) (l : length room ≡ 4105) (h : n ≤ length room) (e : take n room ≡ take (length room) input) where
  input-length : (length input ≡ 4104 → n ≡ 4104) × (n ≡ 4104 → length input ≡ 4104)
  input-length =
      let a : length (take n room) ≡ n = length-take-le n room h in
      let b : length (take n room) ≡ length (take (length room) input) = ap length e in
      let c : length (take (length room) input) ≡ _ = length-take (length room) input in
      (λ z. omega arith, λ z. omega arith)

  pub input-other : (n ≡ 4104 → ⊥) → (Err Place ≡ mended_input input) × (length input ≡ 4104 → part 8 4096 room ≡ input_left input)
  unfolding mended_input
  input-other z = (rw (ne_eqb (length input) 4104 (λ x. z (input-length.0 x))), λ x. absurd (z (input-length.0 x)))

part-take : (s : List ℕ) → take 4096 (drop 8 (take 4104 s)) ≡ take 4096 (drop 8 s)
part-take s = ext_get_or 0 (take 4096 (drop 8 (take 4104 s))) (take 4096 (drop 8 s)) (simp (length-take, length-drop) (omega arith)) (λ i l.
    let k : i < 4096 = omega (arith, simp length-take at l) in
    let m : 8 + i < 4104 = omega arith in
    simp (get_or-take, get_or-drop))

part-mid : (a ys b : List ℕ) → length a ≡ 8 → length ys ≡ 4096 → part 8 4096 (a ++ (ys ++ b)) ≡ ys
unfolding part
part-mid a ys b h k = rw (drop_at a (ys ++ b) 8 h) (take_at ys b 4096 k)

pub input-mended : (room input ys : List ℕ) (n base : ℕ) (r : Mended) → length room ≡ 4105 → n ≡ 4104 →
    take n room ≡ take (length room) input → base ≡ word_at 0 room →
    r ≡ mended_of base (take 4096 (drop 8 room)) → ys ≡ mended_page base (take 4096 (drop 8 room)) →
    (r ≡ mended_input input) × (length input ≡ 4104 → part 8 4096 (take 8 room ++ (ys ++ drop 4096 (drop 8 room))) ≡ input_left input)
unfolding mended_input input_left part
input-mended room input ys n base r l z e b x y =
    let m : length input ≡ 4104 = (input-length room input n l (omega arith) e).1 z in
    let f : take 4104 room ≡ take 4105 input = rw (z, l) at e in
    let i : input ≡ take 4104 room = sym (take_all 4105 input (omega arith)) ∙ sym f in
    let w : word_at 0 input ≡ base = ap (word_at 0) i ∙ num-part 8 0 4104 0 room (lit≤ tt) ∙ sym b in
    let p : take 4096 (drop 8 input) ≡ take 4096 (drop 8 room) = ap (λ (s : List ℕ). take 4096 (drop 8 s)) i ∙ part-take room in
    let k : length (take 4096 (drop 8 room)) ≡ 4096 = length-take-le 4096 (drop 8 room) (rw length-drop (omega arith)) in
    let o : length ys ≡ 4096 = rw y ((mends base (take 4096 (drop 8 room))).long ∙ k) in
    rw (eq-eqb (length input) 4104 m, w, p) (
      x,
      λ _. part-mid (take 8 room) ys (drop 4096 (drop 8 room))
          (length-take-le 8 room (omega arith)) o ∙ y,
    )
