-- The mender's numbers identify its answer. Assumes nothing.
use Rattle.std.proofs.Common.{Ok, Err}
use Prim.Native.Nat.{ℕ}
use mathlib.Core.Bool.{Bool, true, false, cond, true≢false}
use mathlib.Core.Path.{◌≡◌, refl, sym, ap}
use lib.ListN.{get_or, replicate}
use lib.IntN.{ℤ, pos, negsuc}
use Rattle.reader.specs.declared.Refusal.{Refusal}
use Rattle.reader.specs.declared.Refusal.TheVariants.{Place, Version, Rules}
use Rattle.mend.specs.Report.{mended_number, flag_word, change_words, report_words}
use Rattle.mend.specs.declared.Changes.{Changes}

-- "padding, platform pointer with its fields, DRAM, consoles, non-coherent, coherent, in this order": 1 if it was changed, else 0
pub report-told : (c : Changes) →
    (get_or (report_words (Ok c)) 0 0 ≡ cond c.padding 1 0) × (get_or (report_words (Ok c)) 1 0 ≡ cond c.plat 1 0) ×
    (get_or (report_words (Ok c)) 2 0 ≡ cond c.dram 1 0)
    × (get_or (report_words (Ok c)) 3 0 ≡ cond c.console 1 0) × (get_or (report_words (Ok c)) 4 0 ≡ cond c.ncoh 1 0) ×
    (get_or (report_words (Ok c)) 5 0 ≡ cond c.coh 1 0)
unfolding report_words change_words flag_word
report-told c = (refl, refl, refl, refl, refl, refl)

-- a refused page reports no change
pub refused-told : (r : Refusal) → report_words (Err r) ≡ replicate 6 0
unfolding report_words
refused-told r = refl

-- the number is 0 exactly if the page was mended
pub mended-told : (c : Changes) → mended_number (Ok c) ≡ pos 0
unfolding mended_number
mended-told c = refl

abbrev is_pos : ℤ → Bool
is_pos (pos n) = true
is_pos (negsuc n) = false

pub unmended-told : (r : Refusal) (n : ℕ) → mended_number (Err r) ≡ pos n → ⊥
unfolding mended_number
unmended-told Place n h = true≢false (sym (ap is_pos h))
unmended-told Version n h = true≢false (sym (ap is_pos h))
unmended-told Rules n h = true≢false (sym (ap is_pos h))
