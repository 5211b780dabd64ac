-- The number of the packer's answer identifies the answer. Assumes nothing.
use Rattle.std.proofs.Common.{◌≡◌, ℕ, suc, Bool, true, false, cond, leb, List, ℤ, pos, negsuc, sym, refl, ap, ◌∙◌, true≢false, arith, Ok, Err}
use Rattle.reader.specs.Answer.{Shown, PlatShown, shows, minus, all_shown, reader_gate, judge, read_of}
use Rattle.reader.specs.Reading.{refusal_number}
use Rattle.reader.specs.declared.Refusal.{Refusal}
use Rattle.reader.specs.declared.Refusal.TheVariants as refusal
use Rattle.writer_checks.specs.Description.{Description}
use Rattle.writer_rules.specs.Write.{a-page, writer_gate, write_of}
use Rattle.writer_rules.specs.Wrote.{page_after}
use Rattle.pack.specs.Pack.{Packing, shown_description, Packed, stopped, written, packed_from, pack_of, packed_by, target_after, packed_number}
use Rattle.pack.specs.declared.PackError.TheVariants.{Refused, Target}

-- 0 for a page, 1 for the target (W1), otherwise the reader's code, which is negative: so all numbers differ
abbrev pub Tells : Packing → ℤ → Type 0
Tells (Ok u) x = x ≡ pos 0
Tells (Err Target) x = x ≡ pos 1
Tells (Err (Refused c)) x = (x ≡ refusal_number c) × ((n : ℕ) → x ≡ pos n → ⊥)

abbrev is_pos : ℤ → Bool
is_pos (pos n) = true
is_pos (negsuc n) = false

negative : (c : Refusal) (n : ℕ) → refusal_number c ≡ pos n → ⊥
negative refusal.Place n h = true≢false (sym (ap is_pos h))
negative refusal.Version n h = true≢false (sym (ap is_pos h))
negative refusal.Rules n h = true≢false (sym (ap is_pos h))

tells : (target : List ℕ) (r : Packing) → Tells r (packed_number (packed_by target r))
unfolding packed_number packed_by
tells target (Ok u) = refl
tells target (Err Target) = refl
tells target (Err (Refused c)) = (refl, negative c)

-- for every call: `packed_by target r ≡ pack_of ..` is the promise of `pack` about its answer r
pub packed-told : (base n : ℕ) (page target : List ℕ) (r : Packing) → packed_by target r ≡ pack_of base n page →
    Tells r (packed_number (pack_of base n page))
packed-told base n page target r h = rw (← h) (tells target r)

-- ---- only 0 means that a page was made, and then the target holds it
abbrev magnitude : ℤ → ℕ
magnitude (pos n) = n
magnitude (negsuc n) = suc n

no_zero : {x : ℤ} (n : ℕ) → magnitude x ≡ suc n → x ≡ pos 0 → ⊥
no_zero n e h = let z : suc n ≡ 0 = sym e ∙ ap magnitude h in let y : ⊥ = omega arith in y

module _ (lent : List ℕ) where
  abbrev MadeAtZero : Packed → Type 0
  MadeAtZero m = packed_number m ≡ pos 0 → m ≡ written (a-page (target_after lent m))

  gate-zero : (a b c d e : Bool) (p : List ℕ) → MadeAtZero (written (writer_gate a b c d e p))
  unfolding writer_gate packed_number target_after page_after
  gate-zero true true true true true p h = refl
  gate-zero true true true true false p h = absurd (no_zero 4 refl h)
  gate-zero true true true false e p h = absurd (no_zero 3 refl h)
  gate-zero true true false d e p h = absurd (no_zero 2 refl h)
  gate-zero true false c d e p h = absurd (no_zero 1 refl h)
  gate-zero false b c d e p h = absurd (no_zero 0 refl h)

  write-zero : (base n v : ℕ) (d : Description) → MadeAtZero (written (write_of base n v d))
  unfolding write_of
  write-zero base n v d = gate-zero _ _ _ _ _ _

  early-zero : (b : Bool) (m : Packed) → MadeAtZero m → MadeAtZero (cond b m (stopped (minus 6)))
  unfolding packed_number
  early-zero true m k h = k h
  early-zero false m k h = absurd (no_zero 5 refl h)

  read-zero : (base n : ℕ) (p v o : Bool) (w e : ℕ) (q : PlatShown) (s : ℕ → Shown) →
      MadeAtZero (packed_from base n (reader_gate p v o (shows w e q s)))
  unfolding reader_gate packed_from packed_number
  read-zero base n true true true w e q s h = early-zero (leb w 4) _ (write-zero base n w (shown_description q s)) h
  read-zero base n true true false w e q s h = absurd (no_zero 6 refl h)
  read-zero base n true false o w e q s h = absurd (no_zero 5 refl h)
  read-zero base n false v o w e q s h = absurd (no_zero 4 refl h)

  pub packed_zero : (base n : ℕ) (page : List ℕ) → packed_number (pack_of base n page) ≡ pos 0 →
      pack_of base n page ≡ written (a-page (target_after lent (pack_of base n page)))
  unfolding pack_of read_of judge all_shown
  packed_zero base n page = read-zero base n _ _ _ _ _ _ _
