-- A page with the checksum of a section replaced: the rest of the section stays unchanged. Assumes nothing.
use Rattle.std.proofs.Common.{◌≡◌, ℕ, ◌+◌, ◌-◌, ◌*◌, ◌^◌, ◌<◌, ◌≤◌, true, List, length, take, drop, sym, ap, ◌∙◌, zero-add, arith, drop-drop}
use Rattle.words.specs.Word.{part, num_at, le_bytes, splice, laid}
use Rattle.words.proofs.Read.{num-part, le_bytes-length}
use Rattle.words.proofs.Store.{drop-splice, front-splice, put_in, put-read}
use Rattle.versions.specs.Edition.{section_count, core}
use Rattle.entries.specs.Entry.{size}
use Rattle.sections.specs.Page.{count_at, pointer_at, array_at, page_section, page_section_at}
use Rattle.sections.specs.Section.{section_ok}
use Rattle.sections.specs.Steps.{ok_at}

-- the word u written at offset off
module _ (off u : ℕ) (page : List ℕ) (l : off + 8 ≤ length page) where
  abbrev put : List ℕ
  put = laid off (le_bytes 8 u) page

  is-splice : put ≡ splice off (le_bytes 8 u) page
  is-splice = put_in 8 off u page l

  -- the bytes before it
  front_same : take off put ≡ take off page
  front_same = rw is-splice (front-splice off (le_bytes 8 u) page (omega arith))

  pub num-before : (n at : ℕ) → at + n ≤ off → num_at n at put ≡ num_at n at page
  unfolding part
  num-before n at h =
      ap (λ x. num_at n x put) (sym (zero-add at)) ∙ sym (num-part n 0 off at put h) ∙ ap (num_at n at) front_same ∙
      num-part n 0 off at page h ∙ ap (λ x. num_at n x page) (zero-add at)

  -- the bytes after it
  back-same : drop (off + 8) put ≡ drop (off + 8) page
  back-same = rw is-splice (rw (le_bytes-length 8 u) at (drop-splice off (le_bytes 8 u) page (omega arith)))

  pub part-behind : (at n : ℕ) → off + 8 ≤ at → part at n put ≡ part at n page
  unfolding part
  part-behind at n h =
      let z : at ≡ off + 8 + (at - (off + 8)) = omega arith in
      ap (take n) (ap (λ x. drop x put) z ∙ sym (drop-drop (at - (off + 8)) (off + 8) put) ∙ ap (drop (at - (off + 8))) back-same ∙
      drop-drop (at - (off + 8)) (off + 8) page ∙ ap (λ x. drop x page) (sym z))

module _ (w e base k u : ℕ) (page : List ℕ) (n : length page ≡ 4096) (lk : k < section_count e) (lk4 : k < 4) (lu : u < 2 ^ 64)
    (lp : base + core e ≤ pointer_at k page) where
  abbrev mended : List ℕ
  mended = laid (32 + 24 * k) (le_bytes 8 u) page

  array_same : (m : ℕ) → array_at base mended (pointer_at k page) m ≡ array_at base page (pointer_at k page) m
  unfolding array_at core
  array_same m = rw (part-behind (32 + 24 * k) u page (omega arith) (pointer_at k page - base) m (omega arith))

  sec-same : page_section_at base mended k ≡ page_section (count_at k page) (pointer_at k page) u (page_section_at base page k).bytes
  unfolding page_section_at page_section
  sec-same =
      rw (
        num-before (32 + 24 * k) u page (omega arith) 8 (16 + 24 * k) (omega arith),
        num-before (32 + 24 * k) u page (omega arith) 8 (24 + 24 * k) (omega arith),
        put-read 8 (32 + 24 * k) u page (omega arith) (omega arith),
        array_same (size k (count_at k page)),
      )

  pub ok-mended : section_ok w e base k (page_section (count_at k page) (pointer_at k page) u (page_section_at base page k).bytes) ≡ true →
      ok_at w e base k mended ≡ true
  unfolding ok_at
  ok-mended h = rw sec-same h
