-- The image of an enum in the code is the image of the answer in the definitions. Assumes nothing.
use Rattle.std.proofs.Common.{Ok, Err}
use Prim.Native.Nat.{ℕ}
use mathlib.Core.Path.{◌≡◌, refl, ap, ◌∙◌}
use mathlib.Core.List.{List}
use lib.ListN.{replicate}
use lib.IntN.{pos}
use Rattle.reader.specs.Answer.{code_in, read_of}
use Rattle.reader.specs.Reading.{refusal_number, reading_answer, view_at, reading_of}
use Rattle.reader.specs.declared.Refusal.{Refusal}
use Rattle.std.specs.Prelude.{Result, Ok, Err}
use Rattle.reader.specs.declared.View.{View}
use Rattle.reader.proofs.Whole.{reading-answer}
use Rattle.writer_rules.specs.Write.{Made}
use Rattle.writer_rules.specs.Wrote.{Wrote, made_by as made_of}
use Rattle.writer_rules.specs.declared.WriteError.TheVariants.{Place, Edition, BadEntry, SectionAfterEdition, TooLong}
use Rattle.images.specs.Image.{view_words, answer_words, made_number, wrote_number}

-- ---- the reader's answer
module _ (e base : ℕ) (page : List ℕ) where
  answer : (r : Result View Refusal) → r ≡ reading_of e base page → reading_answer page r ≡ read_of e base page
  answer r h = ap (reading_answer page) h ∙ reading-answer e base page

  pub shown-answer : (w v : ℕ) → Ok (view_at w v base page) ≡ reading_of e base page →
      (pos 0 ≡ code_in (read_of e base page)) × (view_words (view_at w v base page) ≡ answer_words base page (read_of e base page))
  unfolding code_in answer_words reading_answer view_at
  shown-answer w v h = rw (← answer _ h) (refl, refl)

  pub refused-answer : (c : Refusal) → Err c ≡ reading_of e base page →
      (refusal_number c ≡ code_in (read_of e base page)) × (replicate 15 0 ≡ answer_words base page (read_of e base page))
  unfolding code_in answer_words reading_answer
  refused-answer c h = rw (← answer _ h) (refl, refl)

-- ---- the writer's answer
made-number : (page : List ℕ) (x : Wrote) → wrote_number x ≡ made_number (made_of page x)
unfolding wrote_number made_number made_of
made-number page (Ok u) = refl
made-number page (Err Place) = refl
made-number page (Err Edition) = refl
made-number page (Err BadEntry) = refl
made-number page (Err SectionAfterEdition) = refl
made-number page (Err TooLong) = refl

pub wrote-code : (page : List ℕ) (x : Wrote) (m : Made) → made_of page x ≡ m → wrote_number x ≡ made_number m
wrote-code page x m h = made-number page x ∙ ap made_number h
