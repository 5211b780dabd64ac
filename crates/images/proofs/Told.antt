-- The words of an answer hold the values of the answer. Assumes nothing.
use Prim.Native.Nat.{ℕ, zero, suc, ◌+◌, ◌*◌, ◌/◌, ◌≤◌, ◌<◌}
use mathlib.Core.Bool.{Bool, true, false, cond}
use mathlib.Core.Path.{◌≡◌, refl}
use mathlib.Core.List.{List, []}
use native.Mathlib.Omega.{arith}
use lib.Dec.{leb, eqb}
use lib.ListN.{length, get_or, drop, length-drop}
use lib.Seq.{length-take-le}
use borrow.Author.Tests.{leb-true}
use Rattle.words.specs.Word.{part, spanned}
use Rattle.words.specs.declared.Span.{Span}
use Rattle.codes.specs.declared.Answer.{Answer}
use Rattle.codes.specs.declared.Work.TheVariants.{Nothing, Reprogram}
use Rattle.entries.specs.Entry.{words_per_entry}
use Rattle.lookup.specs.Consoles.{console_named}
use Rattle.lookup.specs.Lookup.{span_of}
use Rattle.lookup.specs.Fast.{count_of}
use Rattle.std.specs.Prelude.{Ok, Option, Some, None}
use Rattle.fields.specs.declared.FieldPlace.{FieldPlace}
use Rattle.fields.specs.declared.FieldPlace.TheVariants as place
use Rattle.lookup.proofs.Consoles.{console-at}
use Rattle.lookup.proofs.Lookups.{count-view}
use Rattle.reader.specs.Answer.{count_in}
use Rattle.reader.specs.Reading.{section_of, reading_answer}
use Rattle.reader.specs.declared.Section.TheVariants.{Absent}
use Rattle.reader.specs.declared.View.{View}
use Rattle.runtime.specs.declared.Reply.TheVariants.{Forward, Back}
use Rattle.images.specs.Image.{register_words, work_words, section_in, view_of, span_words, field_words, console_number, reply_registers}
use Rattle.images.specs.Image.{reply_words}

-- x0 to x2
pub registers-back : (a : Answer) → (get_or (register_words a) 0 0 ≡ a.x0) × (get_or (register_words a) 1 0 ≡ a.x1) ×
    (get_or (register_words a) 2 0 ≡ a.x2)
unfolding register_words
registers-back a = (refl, refl, refl)

-- a place: its offset and its length
pub span-back : (p : Span) → (get_or (span_words p) 0 0 ≡ p.at) × (get_or (span_words p) 1 0 ≡ p.len)
unfolding span_words
span-back p = (refl, refl)

-- what the platform must do: nothing, the mecid to reprogram, or the error code to forward
pub nothing-back : get_or (work_words Nothing) 0 0 ≡ 0
unfolding work_words
nothing-back = refl

pub reprogram-back : (mecid : ℕ) → (get_or (work_words (Reprogram mecid)) 0 0 ≡ 1) × (get_or (work_words (Reprogram mecid)) 1 0 ≡ mecid)
unfolding work_words
reprogram-back mecid = (refl, refl)

pub forward-back : (n : ℕ) → (get_or (reply_words (Forward n)) 0 0 ≡ 2) × (get_or (reply_words (Forward n)) 1 0 ≡ n)
unfolding reply_words
forward-back n = (refl, refl)

-- the dispatcher's reply has the words of its answer and of its work
pub reply-back : (a : Answer) (mecid : ℕ) → (get_or (reply_registers (Back a (Reprogram mecid))) 1 0 ≡ a.x1) ×
    (get_or (reply_words (Back a (Reprogram mecid))) 1 0 ≡ mecid)
unfolding reply_registers register_words reply_words work_words
reply-back a mecid = (refl, refl)

-- a field: 1, its tag, and the offset and the length of its value; 2 and tag 3 if it is withdrawn; 0 if there is no field
pub raw-back : (t at n : ℕ) → (get_or (field_words (Some (place.Raw t at n))) 0 0 ≡ 1) × (get_or (field_words (Some (place.Raw t at n))) 1 0 ≡ t) ×
    (get_or (field_words (Some (place.Raw t at n))) 2 0 ≡ at) × (get_or (field_words (Some (place.Raw t at n))) 3 0 ≡ n)
unfolding field_words
raw-back t at n = (refl, refl, refl, refl)

pub withdrawn-back : (get_or (field_words (Some place.Withdrawn)) 0 0 ≡ 2) × (get_or (field_words (Some place.Withdrawn)) 1 0 ≡ 3)
unfolding field_words
withdrawn-back = (refl, refl)

pub none-back : get_or (field_words None) 0 0 ≡ 0
unfolding field_words
none-back = refl

-- so the words determine the field
abbrev pub field_of : List ℕ → Option FieldPlace
field_of w =
    cond (eqb (get_or w 0 0) 0) None (Some (cond (eqb (get_or w 0 0) 1) (place.Raw (get_or w 1 0) (get_or w 2 0) (get_or w 3 0)) place.Withdrawn))

pub field_told : (p : Option FieldPlace) → field_of (field_words p) ≡ p
unfolding field_words
field_told (Some (place.Raw t at n)) = refl
field_told (Some place.Withdrawn) = refl
field_told None = refl

-- ---- no console has the index 2^64 - 1, which stands for no console: there are fewer consoles than bytes in a page
part-most : (b : Bool) (at n : ℕ) (s : List ℕ) → leb (at + n) (length s) ≡ b → length (cond b (part at n s) []) ≤ length s
unfolding part
part-most true at n s h =
    let l : at + n ≤ length s = leb-true _ _ h in
    omega (arith, length-take-le n (drop at s) (omega (arith, length-drop at s)))
part-most false at n s h = omega arith

count_most : (page : List ℕ) (v : View) → count_in (reading_answer page (Ok v)) 1 ≤ length page / 24
unfolding count_of spanned words_per_entry
count_most page v =
    let p = span_of 1 (section_of v 1) (length page) in
    let m = part-most (leb (p.at + p.len) (length page)) p.at p.len page refl in
    rw (← count-view page v 1) (omega arith)

-- for any page that a caller can lend, of any length
pub console-told : (page name : List ℕ) (v : View) (i : ℕ) → length page < 0x1_0000_0000_0000_0000 →
    console_named (reading_answer page (Ok v)) name ≡ Some i →
    (console_number (Some i) ≡ i) × (console_number (Some i) ≡ console_number None → ⊥)
unfolding console_number
console-told page name v i h f =
    let l : i < count_in (reading_answer page (Ok v)) 1 = (console-at (reading_answer page (Ok v)) name i f).0 in
    let m = count_most page v in
    (refl, λ e. omega arith)

-- ---- section k of an image's view, from its three words
pub section-there : (k : ℕ) (image : List ℕ) → k ≤ 3 → section_in (3 + 3 * k) image ≡ section_of (view_of image) k
unfolding section_of view_of
section-there zero image h = refl
section-there (suc zero) image h = refl
section-there (suc (suc zero)) image h = refl
section-there (suc (suc (suc zero))) image h = refl
section-there (suc (suc (suc (suc k)))) image h = absurd (let z : ⊥ = omega arith in z)

pub section-absent : (k : ℕ) (image : List ℕ) → 3 < k → Absent ≡ section_of (view_of image) k
unfolding section_of
section-absent zero image h = absurd (let z : ⊥ = omega arith in z)
section-absent (suc zero) image h = absurd (let z : ⊥ = omega arith in z)
section-absent (suc (suc zero)) image h = absurd (let z : ⊥ = omega arith in z)
section-absent (suc (suc (suc zero))) image h = absurd (let z : ⊥ = omega arith in z)
section-absent (suc (suc (suc (suc k)))) image h = refl
