-- For the steps of `field_text` and `text`. Laws of proofs/Parts.antt: `seen-listed` proves the lines of what is `seen` equal to `listing_of` of a view's
-- answer, `fields-step` proves `place_text` and the lines after it equal to `fields_text`, and `listed`
-- (proofs/Lay.antt) proves what is `LaidOver` from offset 0 to be `Listed` (Laid.antt). Assumes nothing.
use Rattle.std.specs.Prelude.{ℕ, ◌+◌, ◌≤◌, min, ◌≡◌, List, [], length, Option, Some, None, Result, Ok, Err}
use Rattle.reader.specs.Answer.{Shown, refused}
use Rattle.reader.specs.Reading.{refusal_number, section_of, shown_as}
use Rattle.reader.specs.declared.View.{View}
use Rattle.reader.specs.declared.Refusal.{Refusal}
use Rattle.fields.specs.Fields.{raw, withdrawn}
use Rattle.fields.specs.declared.FieldPlace.{FieldPlace}
use Rattle.fields.specs.declared.FieldPlace.TheVariants.{Raw, Withdrawn}
use Rattle.text_lines.specs.Text.{lay_clipped, field_text, listing_of}
use Rattle.text_lines.specs.declared.Out.{Out}

-- section `k` of a view, as it is shown with the page
unfoldable pub seen : View → List ℕ → ℕ → Shown
seen v page k = shown_as v.minor k (section_of v k) page

-- the line of a field and its value; empty if there is no field
unfoldable pub place_text : Option FieldPlace → List ℕ → List ℕ
place_text (Some (Raw t at n)) v = field_text (raw t v)
place_text (Some Withdrawn) v = field_text withdrawn
place_text None v = []

-- the line of a reading that refuses; empty otherwise
unfoldable pub refusal_line : Result View Refusal → List ℕ
refusal_line (Err c) = listing_of (refused (refusal_number c))
refusal_line (Ok v) = []

-- ---- a part of the text, written from an offset on
-- the largest offset; sums that overflow end there
abbrev pub last_offset : ℕ
last_offset = 0xFFFF_FFFF_FFFF_FFFF

-- `vs` was written over `s` from offset `at` on, as far as it fits: the result is `t`, and the next text goes to offset `r`
pub record LaidOver (at : ℕ) (vs s : List ℕ) (r : ℕ) (t : List ℕ) : Type 0 where
  pub cursor : r ≡ min (at + length vs) last_offset
  pub same : length t ≡ length s
  pub bytes : t ≡ lay_clipped at vs s

-- `vs` was written to the text `o`, which is then `n`: over the same lent slice, from `o`'s offset on. Every offset of the machine is at most
-- `last_offset`.
pub record Written (vs : List ℕ) (o n : Out) : Type 0 where
  pub lent : n.bytes.ghost_name ≡ o.bytes.ghost_name
  pub same : length n.bytes.now ≡ length o.bytes.now
  pub laid : o.at ≤ last_offset → LaidOver o.at vs o.bytes.now n.at n.bytes.now
