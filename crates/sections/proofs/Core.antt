-- Laws of a copied core: its words are the page's words. Assumes nothing.
use Prim.Native.Nat.{ℕ, ◌+◌, ◌-◌, ◌*◌, ◌≤◌, ◌<◌}
use mathlib.Core.Path.{◌≡◌, sym, ap, ◌∙◌}
use mathlib.Core.List.{List}
use native.Mathlib.Omega.{arith}
use lib.ListN.{length, take, drop, length-drop}
use lib.Seq.{length-take-le}
use Rattle.words.specs.Word.{part, word_at, splice, laid}
use Rattle.words.proofs.Read.{num-part}
use Rattle.words.proofs.Store.{bytes-in, length-splice, part-splice}
use Rattle.words.proofs.Tests.{every-same}
use Rattle.sections.specs.Page.{count_at, pointer_at, check_at}
use Rattle.sections.specs.Steps.{Copied, end_of, apart_at, clear_to, apart_to, clear_at, clear_from}

-- the 104 bytes from offset 8 on, written to a list of 112
pub core-copied : (page s after : List ℕ) → length page ≡ 4096 → length s ≡ 112 → after ≡ laid 8 (part 8 104 page) s → Copied after page
unfolding part
core-copied page s after n m h =
    let l : length (take 104 (drop 8 page)) ≡ 104 = length-take-le 104 (drop 8 page) (omega (arith, length-drop 8 page)) in
    let e : after ≡ splice 8 (part 8 104 page) s = h ∙ bytes-in 8 (part 8 104 page) s (omega arith) in
    let r : part 8 104 (splice 8 (part 8 104 page) s) ≡ part 8 104 page = rw l at (part-splice 8 (part 8 104 page) s (omega arith)) in
    record {
      long = ap length e ∙ length-splice 8 (part 8 104 page) s (omega arith) ∙ m;
      same = ap (part 8 104) e ∙ r;
    }

module _ (page copied : List ℕ) (c : Copied copied page) where
  pub core-word : (off : ℕ) → 8 ≤ off → off + 8 ≤ 112 → word_at off copied ≡ word_at off page
  core-word off l h =
      let z : 8 + (off - 8) ≡ off = omega arith in
      let f = num-part 8 8 104 (off - 8) copied (omega arith) in
      let g = num-part 8 8 104 (off - 8) page (omega arith) in
      let e = ap (λ (s : List ℕ). word_at (off - 8) s) c.same in
      ap (λ (n : ℕ). word_at n copied) (sym z) ∙ sym f ∙ e ∙ g ∙ ap (λ (n : ℕ). word_at n page) z

  pub core-count : (k : ℕ) → k < 4 → count_at k copied ≡ count_at k page
  core-count k h = core-word (16 + 24 * k) (omega arith) (omega arith)

  pub core-pointer : (k : ℕ) → k < 4 → pointer_at k copied ≡ pointer_at k page
  core-pointer k h = core-word (24 + 24 * k) (omega arith) (omega arith)

  pub core-check : (k : ℕ) → k < 4 → check_at k copied ≡ check_at k page
  core-check k h = core-word (32 + 24 * k) (omega arith) (omega arith)

  pub core-end : (k : ℕ) → k < 4 → end_of k copied ≡ end_of k page
  unfolding end_of
  core-end k h = rw (core-pointer k h, core-count k h)

  apart-two : (i j : ℕ) → i < 4 → j < 4 → apart_at i j copied ≡ apart_at i j page
  unfolding apart_at
  apart-two i j h l = rw (core-end i h, core-pointer j l, core-end j l, core-pointer i h)

  clear-one : (i n : ℕ) → i < 4 → n ≤ 4 → clear_to i n copied ≡ clear_to i n page
  unfolding clear_to
  clear-one i n h l = every-same n (λ j. apart_at i j copied) (λ j. apart_at i j page) (λ j m. apart-two i j h (omega arith))

  pub core-apart : (n : ℕ) → n ≤ 4 → apart_to n copied ≡ apart_to n page
  unfolding apart_to
  core-apart n h = every-same n (λ i. clear_to i i copied) (λ i. clear_to i i page) (λ i l. clear-one i i (omega arith) (omega arith))

  clear-at : (from to k : ℕ) → k < 4 → clear_at from to k copied ≡ clear_at from to k page
  unfolding clear_at
  clear-at from to k h = rw (core-pointer k h, core-end k h)

  pub core-clear : (from to n : ℕ) → n ≤ 4 → clear_from from to n copied ≡ clear_from from to n page
  unfolding clear_from
  core-clear from to n h =
      every-same n (λ k. clear_at from to k copied) (λ k. clear_at from to k page) (λ k l. clear-at from to k (omega arith))
