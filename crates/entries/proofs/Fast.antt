-- Bits combined with "or" are clear exactly if every entry keeps its rule. Assumes nothing.
use Rattle.std.proofs.Common.{◌≡◌, ℕ, ◌+◌, ◌*◌, ◌/◌, ◌%◌, ◌^◌, ◌<◌, ◌≤◌, Bool, true, false, eqb, ltb, List, sym, refl, ap, ◌∙◌, add-one, arith, ltb-true, lt-ltb, eq-eqb, ne_eqb, eqb-true, le-leb, leb-true}
use lib.Bits.{bit_or, and_le_l, and_le_r, or_lt, or_add_and, or_mod, or_zero_l}
use Rattle.words.specs.Tests.{both, either, every}
use Rattle.words.specs.Word.{word_at}
use Rattle.words.proofs.Tests.{both_l, both_r, both_of, same_test}
use Rattle.entries.specs.Entry.{words_per_entry, bank_ok, flags_ok, console_ok, entry_rule}
use Rattle.entries.specs.Array.{entry_place}
use Rattle.entries.specs.Steps.{entry_at, entries_at}
use Rattle.entries.specs.Fast.{bank_clear, console_clear}
use Rattle.entries.specs.declared.Bits.{Bits}
use Rattle.entries.proofs.Entries.{per-other}

-- ---- two numbers combined with "or" are clear exactly if both are
or_left : (a b : ℕ) → a ≤ bit_or a b
or_left a b = omega (arith, or_add_and a b, and_le_r a b)

or_right : (a b : ℕ) → b ≤ bit_or a b
or_right a b = omega (arith, or_add_and a b, and_le_l a b)

or-none : (a b : ℕ) → eqb (bit_or a b) 0 ≡ both (eqb a 0) (eqb b 0)
or-none a b =
    same_test _ _
    (λ h.
    let z : bit_or a b ≡ 0 = eqb-true _ _ h in
    both_of _ _ (eq-eqb a 0 (omega (arith, or_left a b))) (eq-eqb b 0 (omega (arith, or_right a b))))
    (λ h.
    let x : a ≡ 0 = eqb-true _ _ (both_l _ _ h) in
    let y : b ≡ 0 = eqb-true _ _ (both_r _ _ h) in
    eq-eqb (bit_or a b) 0 (ap (λ n. bit_or n b) x ∙ or_zero_l b ∙ y))

pub or-low : (a b : ℕ) → eqb (bit_or a b % 4096) 0 ≡ both (eqb (a % 4096) 0) (eqb (b % 4096) 0)
or-low a b = ap (λ n. eqb n 0) (or_mod a b 12) ∙ or-none (a % 4096) (b % 4096)

pub or-below : (k a b : ℕ) → ltb (bit_or a b) (2 ^ k) ≡ both (ltb a (2 ^ k)) (ltb b (2 ^ k))
or-below k a b =
    same_test _ _
    (λ h.
    let z : bit_or a b < 2 ^ k = ltb-true _ _ h in
    both_of _ _ (lt-ltb a (2 ^ k) (omega (arith, or_left a b))) (lt-ltb b (2 ^ k) (omega (arith, or_right a b))))
    (λ h. lt-ltb (bit_or a b) (2 ^ k) (or_lt k a b (ltb-true _ _ (both_l _ _ h)) (ltb-true _ _ (both_r _ _ h))))

-- three tests for each of two, or two for each of three
mix : (a x b y c z : Bool) → both (both a x) (both (both b y) (both c z)) ≡ both (both a (both b c)) (both x (both y z))
unfolding both
mix false x b y c z = refl
mix true false false y c z = refl
mix true false true y false z = refl
mix true false true y true z = refl
mix true true false y c z = refl
mix true true true false false z = refl
mix true true true false true z = refl
mix true true true true false z = refl
mix true true true true true z = refl

-- ---- the bits of several entries and of one more
abbrev more : Bits → Bits → Bits
more b d = record { low = bit_or b.low d.low; high = bit_or b.high d.high; flags = bit_or b.flags d.flags }

bank-more : (b d : Bits) (f : ℕ) → bank_clear (record { low = bit_or b.low d.low; high = bit_or b.high d.high; flags = f }) ≡
    both (bank_clear b) (bank_clear d)
unfolding bank_clear
bank-more b d f =
    rw (or-low b.low d.low, or-below 53 b.low d.low, or-below 52 b.high d.high)
    (mix (eqb (b.low % 4096) 0) (eqb (d.low % 4096) 0) (ltb b.low (2 ^ 53)) (ltb d.low (2 ^ 53)) (ltb b.high (2 ^ 52))
    (ltb d.high (2 ^ 52)))

-- the flags of several consoles and of one more
pass-more : (x y z : Bool) → either (both x y) z ≡ both (either x z) (either y z)
unfolding either both
pass-more true y z = refl
pass-more false y false = refl
pass-more false true true = refl
pass-more false false true = refl

flags-more : (w a c : ℕ) → flags_ok w (bit_or a c) ≡ both (flags_ok w a) (flags_ok w c)
unfolding flags_ok
flags-more w a c = rw (or-none a c) (pass-more (eqb a 0) (eqb c 0) (ltb 4 w))

console-more : (w : ℕ) (b d : Bits) → console_clear w (more b d) ≡ both (console_clear w b) (console_clear w d)
unfolding console_clear
console-more w b d =
    rw (or-low b.low d.low, or-below 40 b.high d.high, flags-more w b.flags d.flags)
    (mix (eqb (b.low % 4096) 0) (eqb (d.low % 4096) 0) (ltb b.high (2 ^ 40)) (ltb d.high (2 ^ 40)) (flags_ok w b.flags) (flags_ok w d.flags))

-- ---- one entry
bank-one : (base size span last f : ℕ) → base < 2 ^ 64 → size < 2 ^ 64 → span < 2 ^ 64 → (span + 1) % 2 ^ 64 ≡ size →
    last ≡ (base + span) % 2 ^ 64 →
    bank_clear (record { low = bit_or base size; high = bit_or span last; flags = f }) ≡ bank_ok base size
unfolding bank_clear bank_ok
bank-one base size span last f p q r s t =
    rw (or-low base size, or-below 53 base size, or-below 52 span last)
    (same_test _ _
    (λ h.
    let a = both_l _ _ h in
    let b = both_l _ _ (both_r _ _ h) in
    let c = both_r _ _ (both_r _ _ h) in
    let b1 : base < 2 ^ 53 = ltb-true _ _ (both_l _ _ b) in
    let c1 : span < 2 ^ 52 = ltb-true _ _ (both_l _ _ c) in
    let c2 : last < 2 ^ 52 = ltb-true _ _ (both_r _ _ c) in
    both_of _ _ (both_l _ _ a) (both_of _ _ (both_r _ _ a) (both_of _ _ (lt-ltb 0 size (omega arith)) (le-leb (base + size) (2 ^ 52) (omega arith)))))
    (λ h.
    let b = both_r _ _ h in
    let z : 0 < size = ltb-true _ _ (both_l _ _ (both_r _ _ b)) in
    let e : base + size ≤ 2 ^ 52 = leb-true _ _ (both_r _ _ (both_r _ _ b)) in
    both_of _ _ (both_of _ _ (both_l _ _ h) (both_l _ _ b))
    (both_of _ _ (both_of _ _ (lt-ltb base (2 ^ 53) (omega arith)) (lt-ltb size (2 ^ 53) (omega arith)))
    (both_of _ _ (lt-ltb span (2 ^ 52) (omega arith)) (lt-ltb last (2 ^ 52) (omega arith))))))

console-one : (w base pages span last f : ℕ) → base < 2 ^ 64 → pages < 2 ^ 64 → span < 2 ^ 64 → (span + 1) % 2 ^ 64 ≡ pages →
    last ≡ (base / 4096 + span) % 2 ^ 64 →
    console_clear w (record { low = base; high = bit_or span last; flags = f }) ≡ console_ok w base pages f
unfolding console_clear console_ok
console-one w base pages span last f p q r s t =
    rw (or-below 40 span last)
    (same_test _ _
    (λ h.
    let b = both_l _ _ (both_r _ _ h) in
    let a0 : base % 4096 ≡ 0 = eqb-true _ _ (both_l _ _ h) in
    let b1 : span < 2 ^ 40 = ltb-true _ _ (both_l _ _ b) in
    let b2 : last < 2 ^ 40 = ltb-true _ _ (both_r _ _ b) in
    both_of _ _ (both_l _ _ h) (both_of _ _ (lt-ltb 0 pages (omega arith)) (both_of _ _ (le-leb (base + 4096 * pages) (2 ^ 52) (omega arith)) (both_r _ _ (both_r _ _ h)))))
    (λ h.
    let b = both_r _ _ h in
    let a0 : base % 4096 ≡ 0 = eqb-true _ _ (both_l _ _ h) in
    let z : 0 < pages = ltb-true _ _ (both_l _ _ b) in
    let e : base + 4096 * pages ≤ 2 ^ 52 = leb-true _ _ (both_l _ _ (both_r _ _ b)) in
    both_of _ _ (both_l _ _ h)
    (both_of _ _ (both_of _ _ (lt-ltb span (2 ^ 40) (omega arith)) (lt-ltb last (2 ^ 40) (omega arith))) (both_r _ _ (both_r _ _ b)))))

pub with-bank : (b : Bits) (base size span last : ℕ) → base < 2 ^ 64 → size < 2 ^ 64 → span < 2 ^ 64 → (span + 1) % 2 ^ 64 ≡ size →
    last ≡ (base + span) % 2 ^ 64 →
    bank_clear (record { low = bit_or b.low (bit_or base size); high = bit_or b.high (bit_or span last); flags = b.flags }) ≡ both (bank_clear b) (bank_ok base size)
with-bank b base size span last p q r s t =
    bank-more b (record { low = bit_or base size; high = bit_or span last; flags = 0 }) b.flags ∙ ap (both (bank_clear b)) (bank-one base size span last 0 p q r s t)

pub with-console : (w : ℕ) (b : Bits) (base pages span last f : ℕ) → base < 2 ^ 64 → pages < 2 ^ 64 → span < 2 ^ 64 →
    (span + 1) % 2 ^ 64 ≡ pages → last ≡ (base / 4096 + span) % 2 ^ 64 →
    console_clear w (record { low = bit_or b.low base; high = bit_or b.high (bit_or span last); flags = bit_or b.flags f }) ≡ both
    (console_clear w b) (console_ok w base pages f)
with-console w b base pages span last f p q r s t =
    console-more w b (record { low = base; high = bit_or span last; flags = f }) ∙
    ap (both (console_clear w b)) (console-one w base pages span last f p q r s t)

-- ---- for the loops: one more entry of the array at an offset
entries-step : (w k at i : ℕ) (page : List ℕ) → both (entries_at w k at i page) (entry_at w k (entry_place k at i) page) ≡ entries_at w k at
    (i + 1) page
unfolding entries_at every
entries-step w k at i page = rw add-one

module _ (w at i : ℕ) (page : List ℕ) (r : Bool) where
  pub bank-step : (k base size : ℕ) → (k ≡ 1 → ⊥) → base ≡ word_at (at + 16 * i) page → size ≡ word_at (at + 16 * i + 8) page →
      r ≡ both (entries_at w k at i page) (bank_ok base size) → r ≡ entries_at w k at (i + 1) page
  unfolding entry_at entry_place entry_rule
  bank-step k base size n p q e =
      let o : at + 8 * (words_per_entry k * i) ≡ at + 16 * i = rw (per-other k n) (omega arith) in
      let f : entry_at w k (entry_place k at i) page ≡ bank_ok base size = rw (o, ne_eqb k 1 n, ← p, ← q) in
      e ∙ ap (both (entries_at w k at i page)) (sym f) ∙ entries-step w k at i page

  pub console-step : (base pages f : ℕ) → base ≡ word_at (at + 48 * i) page → pages ≡ word_at (at + 48 * i + 8) page →
      f ≡ word_at (at + 48 * i + 40) page →
      (b : Bool) → b ≡ entries_at w 1 at i page → r ≡ both b (console_ok w base pages f) → r ≡ entries_at w 1 at (i + 1) page
  unfolding entry_at entry_place entry_rule words_per_entry
  console-step base pages f p q z b d e =
      let o : at + 8 * (6 * i) ≡ at + 48 * i = omega arith in
      let g : entry_at w 1 (entry_place 1 at i) page ≡ console_ok w base pages f = rw (o, ← p, ← q, ← z) in
      e ∙ rw (d, ← g) (entries-step w 1 at i page)

-- from minor 5 on any flags pass
either-late : (b : Bool) → either b true ≡ true
unfolding either
either-late true = refl
either-late false = refl

pub clear_later : (w : ℕ) (b : Bits) → b.low % 4096 ≡ 0 → b.high < 2 ^ 40 → 4 < w → true ≡ console_clear w b
unfolding console_clear flags_ok both
clear_later w b l h m = rw (eq-eqb (b.low % 4096) 0 l, lt-ltb b.high (2 ^ 40) h, lt-ltb 4 w m) (sym (either-late (eqb b.flags 0)))
