-- A buffer in the page passes the checks of record, page and range; and what a write there changes. Assumes nothing.
use Prim.Native.Nat.{ℕ, ◌+◌, ◌-◌, ◌≤◌}
use mathlib.Core.Path.{◌≡◌, refl, ap, ◌∙◌}
use mathlib.Core.List.{List}
use native.Mathlib.Omega.{arith}
use lib.ListN.{length}
use borrow.Author.Tests.{ltb-false, leb-false}
use Rattle.words.specs.Word.{splice}
use Rattle.words.proofs.Store.{front-splice, drop-splice, part-splice}
use Rattle.boot.specs.declared.Params.{Params}
use Rattle.boot.specs.declared.Record.{Record}
use Rattle.boot.specs.declared.Record.TheVariants.{Up}
use Rattle.codes.specs.Codes.{is_up, boot_params, is_ok}
use Rattle.codes.specs.declared.Code.{Code}
use Rattle.codes.specs.declared.Code.TheVariants.{Ok}
use Rattle.buffer_check.specs.Range.{outside, too_long, page_code}
use Rattle.buffer_check.specs.Buffers.{BufferIn, WrittenAt}
use Rattle.buffer_check.specs.declared.OutsideAs.{OutsideAs}
use Rattle.buffer_check.proofs.Ranges.{neither, page-range, range-ok, Passed}

module _ (u : Params) (page : List ℕ) (pa size : ℕ) (i : BufferIn u page pa size) where
  -- if the record is up and the buffer is in the page, the common checks pass
  pub in-passes : (first : Code) (out : OutsideAs) → first ≡ Ok → page_code (Up u) (length page) first out pa size ≡ Ok
  unfolding is_up boot_params
  in-passes first out f =
      page-range (Up u) (length page) first out pa size refl i.whole (ap is_ok f) ∙ range-ok u out pa size i.from i.below i.fits

  pub in-room : pa - u.base + size ≤ length page
  in-room = omega (arith, i.whole, i.from, i.below, i.fits)

-- if they pass, the buffer is in the page
pub passed-in : (r : Record) (page : List ℕ) (first : Code) (pa size : ℕ) → Passed r (length page) first pa size →
    BufferIn (boot_params r) page pa size
unfolding outside too_long
passed-in r page first pa size p =
    let o = neither _ _ p.within in
    record { whole = p.whole; from = ltb-false _ _ o.0; below = leb-false _ _ o.1; fits = ltb-false _ _ p.short }

-- bytes written at an offset change no other byte of the page
pub splice-written : (at : ℕ) (vs page : List ℕ) → at ≤ length page → WrittenAt at vs page (splice at vs page)
splice-written at vs page h =
    record { there = part-splice at vs page h; before = front-splice at vs page h; behind = drop-splice at vs page h }
