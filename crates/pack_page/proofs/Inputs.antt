-- The output for an input. Assumes nothing.
use Prim.Native.Nat.{ℕ, ◌-◌, ◌<◌}
use mathlib.Core.Path.{◌≡◌, sym, ap, ◌∙◌}
use mathlib.Core.List.{List}
use native.Mathlib.Omega.{arith}
use native.Mathlib.Decide.{dec_lt}
use lib.ListN.{length, take, drop, length-drop}
use lib.Seq.{take_all, length-take-le}
use borrow.Author.Tests.{eq-eqb, ne_eqb}
use Rattle.words.specs.Word.{word_at}
use Rattle.reader.specs.Answer.{minus}
use Rattle.pack.specs.Pack.{Packed, pack_of}
use Rattle.pack_page.specs.Prints.{refused_line, output_of, pack_printed}

-- there is no page
pub input-short : (input : List ℕ) → (length input ≡ 4104 → ⊥) → refused_line (minus 5) ≡ pack_printed input
unfolding pack_printed output_of
input-short input h = rw (ne_eqb (length input) 4104 h)

-- the page, as the code lends it
pub input-packed : (input : List ℕ) (base n : ℕ) (x : Packed) → length input ≡ 4104 → base ≡ word_at 0 input → n ≡ 4096 →
    x ≡ pack_of base n (take (length input - 8) (drop 8 input)) →
    output_of x ≡ pack_printed input
unfolding pack_printed
input-packed input base n x l b m e =
    let t : take (length input - 8) (drop 8 input) ≡ drop 8 input = take_all (length input - 8) (drop 8 input)
    (omega (arith, length-drop 8 input)) in
    rw (eq-eqb (length input) 4104 l) (ap output_of (e ∙ rw (t, b, m)))

-- The start of an input decides its output if it is longer than a valid input: a longer one is refused for any continuation.
pub input-start : (n : ℕ) (input : List ℕ) → 4104 < n → pack_printed (take n input) ≡ pack_printed input
input-start n input h = go (dec_lt (length input) n)
  where
    go : Dec (length input < n) → pack_printed (take n input) ≡ pack_printed input
    go (yes l) = rw (take_all n input (omega arith))
    go (no l) =
        let e : length (take n input) ≡ n = length-take-le n input (omega arith) in
        sym (input-short (take n input) (λ z. omega arith)) ∙ input-short input (λ z. omega arith)
