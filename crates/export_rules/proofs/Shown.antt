-- The view of an accepted page, written word by word from the page's core. Assumes nothing.
use Prim.Native.Nat.{ℕ, ◌+◌, ◌-◌, ◌*◌, ◌<◌, min}
use mathlib.Core.Path.{◌≡◌, refl, sym, ap, ◌∙◌}
use mathlib.Core.List.{List, [], ◌∷◌, ◌++◌}
use native.Mathlib.Omega.{arith}
use native.Mathlib.Nat.{zero-add}
use lib.IntN.{pos}
use lib.ListN.{length}
use Rattle.words.specs.Word.{splice}
use Rattle.words.proofs.Store.{splice-splice, bytes-in, laid-all}
use Rattle.versions.specs.Edition.{section_count}
use Rattle.sections.specs.Page.{count_at, pointer_at}
use Rattle.reader.specs.Answer.{code_in, read_of}
use Rattle.reader.specs.Reading.{section_at, view_at, reading_of}
use Rattle.reader.specs.declared.View.{View}
use Rattle.std.specs.Prelude.{Ok}
use Rattle.reader.proofs.Whole.{section-entries}
use Rattle.images.specs.Image.{tag_word, place_word, count_word, section_words, view_words, answer_words}
use Rattle.images.proofs.Answers.{shown-answer}

-- ---- from the values that the code reads: a section with entries, the page's answer, a word of the view
pub told_entries : (e base k : ℕ) (core view : List ℕ) → k < section_count e → (n p : ℕ) → n ≡ count_at k core → p ≡ pointer_at k core →
    (n ≡ 0 → ⊥) → (after : List ℕ) → after ≡ splice (3 + 3 * k) (2 ∷ (p - base) ∷ n ∷ []) view →
    after ≡ splice (3 + 3 * k) (section_words (section_at e base core k)) view
unfolding section_words tag_word place_word count_word
told_entries e base k core view h n p cn cp z after m =
    m ∙ rw (cp, cn) (ap (λ s. splice (3 + 3 * k) (section_words s) view) (section-entries e base k core h (λ y. z (cn ∙ y))))

pub told-read : (r base w m : ℕ) (page : List ℕ) → m ≡ min r w → Ok (view_at w (min r w) base page) ≡ reading_of r base page →
    (after : List ℕ) → after ≡ view_words (view_at w m base page) →
    (pos 0 ≡ code_in (read_of r base page)) × (after ≡ answer_words base page (read_of r base page))
told-read r base w m page e f after h =
    let g = shown-answer r base page w (min r w) f in
    (g.0, h ∙ rw e g.1)

-- ---- three words at a time
laid_next : (xs ys l m : List ℕ) (n : ℕ) → m ≡ splice 0 xs l → n ≡ length xs → splice n ys m ≡ splice 0 (xs ++ ys) l
laid_next xs ys l m n e f = rw (e, f) (rw zero-add at (splice-splice 0 xs l (omega arith) ys))

pub view-laid : (v : View) (l : List ℕ) → length l ≡ 15 → (a b c d e : List ℕ) → a ≡ splice 0 (v.minor ∷ v.edition ∷ v.plat ∷ []) l →
    b ≡ splice 3 (section_words v.dram) a → c ≡ splice 6 (section_words v.console) b → d ≡ splice 9 (section_words v.ncoh) c →
    e ≡ splice 12 (section_words v.coh) d → e ≡ view_words v
unfolding section_words view_words
view-laid v l n a b c d e f g h i j =
    let w = v.minor ∷ v.edition ∷ v.plat ∷ [] in
    let x = w ++ section_words v.dram in
    let y = x ++ section_words v.console in
    let z = y ++ section_words v.ncoh in
    let one : b ≡ splice 0 x l = g ∙ laid_next w (section_words v.dram) l a 3 f refl in
    let two : c ≡ splice 0 y l = h ∙ laid_next x (section_words v.console) l b 6 one refl in
    let three : d ≡ splice 0 z l = i ∙ laid_next y (section_words v.ncoh) l c 9 two refl in
    let four : e ≡ splice 0 (view_words v) l = j ∙ laid_next z (section_words v.coh) l d 12 three refl in
    four ∙ sym (bytes-in 0 (view_words v) l (omega arith)) ∙ laid-all (view_words v) l (omega arith)
