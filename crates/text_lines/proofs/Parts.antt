-- Parts of the listing by what is shown. Assumes nothing.
use Prim.Native.Nat.{ℕ, zero, suc, ◌+◌, ◌-◌, ◌≤◌, ◌<◌}
use mathlib.Core.Path.{◌≡◌, refl, sym, ap, ◌∙◌}
use mathlib.Core.Bool.{Bool, true, false, cond, false≢true}
use mathlib.Core.List.{List, [], ◌++◌}
use native.Mathlib.Decide.{dec_lt}
use native.Mathlib.Omega.{arith}
use lib.ListN.{length, take, drop, length-drop}
use lib.Seq.{take_all, length-take-le}
use lib.Dec.{leb}
use borrow.Author.Tests.{eq-eqb, ne_eqb}
use Rattle.words.specs.Tests.{both}
use Rattle.words.specs.Word.{word_at, joined}
use Rattle.entries.specs.Entry.{size}
use Rattle.reader.specs.Answer.{refused, read_of, empty, full, entry_word, fields_shown}
use Rattle.reader.specs.Reading.{refusal_number, section_of, shown_as, reading_answer}
use Rattle.reader.specs.declared.Section.{Section}
use Rattle.reader.specs.declared.Section.TheVariants.{Absent, Empty, Entries}
use Rattle.reader.specs.declared.View.{View}
use Rattle.reader.specs.declared.Refusal.TheVariants.{Place}
use Rattle.std.specs.Prelude.{Ok}
use Rattle.fields.specs.Steps.{step_at}
use Rattle.lookup.specs.Fast.{word_of}
use Rattle.field_lookup.specs.Fields.{shown_value, value_in, field_as}
use Rattle.field_lookup.specs.Steps.{shown_from}
use Rattle.std.proofs.Common.{Option, Some, None, is_none}
use Rattle.fields.specs.declared.FieldPlace.{FieldPlace}
use Rattle.fields.specs.declared.FieldPlace.TheVariants.{Raw, Withdrawn}
use Rattle.fields.specs.declared.FieldStep.{FieldStep}
use Rattle.field_lookup.proofs.Fields.{place_shown, step-some, step-first}
use Rattle.text_lines.specs.Text.{newline, space, none_text, absent_text, title_text, hex_text, name_text, word_text, gap_text, count_text}
use Rattle.text_lines.specs.Text.{state_text, section_text, head_text, plat_text, pointer_text, field_text, fields_text, listing_of, printed}
use Rattle.text_lines.specs.Steps.{seen, place_text}

-- ---- the space before a word
pub gap-none : (j : ℕ) → j ≡ 0 → [] ≡ gap_text j
unfolding gap_text
gap-none j e = rw e

pub gap_more : (j : ℕ) → (j ≡ 0 → ⊥) → space ≡ gap_text j
unfolding gap_text
gap_more zero h = absurd (h refl)
gap_more (suc j) h = refl

-- ---- a word by its place
module _ (k j w : ℕ) where
  pub word-other : (k ≡ 1 → ⊥) → hex_text w ≡ word_text k j w
  unfolding word_text both
  word-other h = rw (ne_eqb k 1 h)

  pub word-plain : k ≡ 1 → (j ≡ 2 → ⊥) → hex_text w ≡ word_text k j w
  unfolding word_text both
  word-plain e h = rw (eq-eqb k 1 e, ne_eqb j 2 h)

  pub word-name : k ≡ 1 → j ≡ 2 → name_text w ≡ word_text k j w
  unfolding word_text both
  word-name e f = rw (eq-eqb k 1 e, eq-eqb j 2 f)

-- ---- what a lookup returns for a section, and a view
pub word-shown : (w k i j : ℕ) (s : Section) (page : List ℕ) (r : ℕ) → r ≡ word_of w k i j s page → r ≡ entry_word k i j (shown_as w k s page)
unfolding word_of
word-shown w k i j s page r h = h

pub section-seen : (v : View) (page : List ℕ) (k : ℕ) (s : Section) → s ≡ section_of v k →
    section_text (λ i. shown_as v.minor i s page) k ≡ section_text (seen v page) k
unfolding section_text seen
section-seen v page k s e = rw e

-- ---- names, and the platform pointer
pub title-last : (k : ℕ) → 3 ≤ k → title_text 3 ≡ title_text k
unfolding title_text
title-last zero h = absurd (let z : ⊥ = omega arith in z)
title-last (suc zero) h = absurd (let z : ⊥ = omega arith in z)
title-last (suc (suc zero)) h = absurd (let z : ⊥ = omega arith in z)
title-last (suc (suc (suc k))) h = refl

pub pointer_none : (p : ℕ) → p ≡ 0 → none_text ≡ pointer_text p
unfolding pointer_text
pointer_none p e = rw (eq-eqb p 0 e)

pub pointer-some : (p : ℕ) → (p ≡ 0 → ⊥) → hex_text p ≡ pointer_text p
unfolding pointer_text
pointer-some p h = rw (ne_eqb p 0 h)

-- ---- a field: its line, and the lines of the fields after it
place-line : (f : Option FieldPlace) (page vs : List ℕ) → is_none f ≡ false → vs ≡ shown_value (place_shown f page) →
    place_text f vs ≡ field_text (place_shown f page)
unfolding shown_value place_shown place_text
place-line (Some (Raw t v m)) page vs n w = rw w
place-line (Some Withdrawn) page vs n w = refl
place-line None page vs n w = absurd (false≢true (sym n))

-- the field that a step passes, and the field's line before those after it
module _ (at : ℕ) (page : List ℕ) (s : FieldStep) (f : FieldPlace) (h : s ≡ step_at at page) (e : s.field ≡ Some f) where
  pub step-passes : is_none (step_at at page).field ≡ false
  step-passes = ap (λ (x : FieldStep). is_none x.field) (sym h) ∙ ap (λ (x : Option FieldPlace). is_none x) e

  pub fields-step : (vs : List ℕ) → vs ≡ value_in (field_as (Some f) page) →
      place_text (Some f) vs ++ fields_text (shown_from s.next page) ≡ fields_text (shown_from at page)
  unfolding fields_text value_in
  fields-step vs w =
      let g : Some f ≡ (step_at at page).field = sym e ∙ ap (λ (x : FieldStep). x.field) h in
      let q : vs ≡ shown_value (place_shown (step_at at page).field page) =
      w ∙ ap (λ (x : Option FieldPlace). value_in (field_as x page)) g ∙ ap value_in (step-first at page step-passes) in
      rw (g, h, place-line (step_at at page).field page vs step-passes q, step-some at page step-passes)

-- ---- a section that is absent, and one that is not
count-shown : (k : ℕ) (b : Bool) (ws bs : List ℕ) → count_text k (cond b (full ws bs) empty) ≡ state_text k (cond b (full ws bs) empty)
unfolding state_text
count-shown k true ws bs = refl
count-shown k false ws bs = refl

pub count-other : (w k : ℕ) (s : Section) (page : List ℕ) → (s ≡ Absent → ⊥) →
    count_text k (shown_as w k s page) ≡ state_text k (shown_as w k s page)
unfolding state_text shown_as
count-other w k Absent page h = absurd (h refl)
count-other w k Empty page h = refl
count-other w k (Entries at n) page h = count-shown k (leb (at + size k n) (length page)) _ _

pub state-absent : (w k : ℕ) (s : Section) (page : List ℕ) → s ≡ Absent → absent_text ++ newline ≡ state_text k (shown_as w k s page)
unfolding state_text shown_as
state-absent w k s page e = rw e

-- ---- the answer of a reading
pub seen-listed : (v : View) (page : List ℕ) →
    head_text v.minor v.edition ++ plat_text v.plat ++ fields_text (fields_shown (reading_answer page (Ok v))) ++
    joined 4 (section_text (seen v page))
    ≡ listing_of (reading_answer page (Ok v))
unfolding reading_answer fields_shown listing_of seen
seen-listed v page = refl

-- ---- the input of the program
pub input-refused : (input : List ℕ) → (length input ≡ 4104 → ⊥) → listing_of (refused (refusal_number Place)) ≡ printed input
unfolding printed
input-refused input h = rw (ne_eqb (length input) 4104 h)

pub input-read : (input page : List ℕ) (base : ℕ) → length input ≡ 4104 → base ≡ word_at 0 input →
    page ≡ take (length input - 8) (drop 8 input) → listing_of (read_of 4 base page) ≡ printed input
unfolding printed
input-read input page base h e f =
    let g : page ≡ drop 8 input = f ∙ take_all (length input - 8) (drop 8 input) (omega (arith, length-drop 8 input)) in
    rw (eq-eqb (length input) 4104 h, e, g)

-- The start of an input decides its listing if it is longer than a valid input: a longer one is refused for any continuation.
pub input-start : (n : ℕ) (input : List ℕ) → 4104 < n → printed (take n input) ≡ printed input
input-start n input h = go (dec_lt (length input) n)
  where
    go : Dec (length input < n) → printed (take n input) ≡ printed input
    go (yes l) = rw (take_all n input (omega arith))
    go (no l) =
        let e : length (take n input) ≡ n = length-take-le n input (omega arith) in
        sym (input-refused (take n input) (λ z. omega arith)) ∙ input-refused input (λ z. omega arith)
