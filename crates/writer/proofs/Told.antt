-- The writer's answer, return by return, from the results of the tests and the sums. Assumes nothing.
use Rattle.std.proofs.Common.{◌≡◌, ℕ, ◌≤◌, Bool, true, false, leb, List, length, sym, refl, ◌∙◌, arith, leb-true, ap, Option, Some, None, Result, Ok, Err}
use Rattle.std.specs.Option.{ok_or}
use Rattle.std.specs.Result.{IsErrAnd}
use Rattle.std.proofs.lemmas.Result.{err_from_is_err_and}
use Rattle.words.specs.Tests.{Yes}
use Rattle.versions.specs.Edition.{edition_ok}
use Rattle.sections.specs.Page.{place_ok}
use Rattle.sections.proofs.Sections.{placed}
use Rattle.fields.specs.Fields.{scan_of, describable}
use Rattle.writer_checks.specs.Description.{four_lists, description_of, later_sections_empty, used}
use Rattle.writer_checks.specs.Fast.{totals_of, sums_of}
use Rattle.writer_checks.specs.declared.Totals.{Totals}
use Rattle.writer_checks.proofs.Described.{unsound-lists, sound-lists, sound-totals}
use Rattle.writer_rules.specs.Write.{page_of, description_fits}
use Rattle.writer_rules.specs.Wrote.{Wrote, write_lists, made_by, page_after}
use Rattle.writer_rules.specs.declared.WriteError.{WriteError}
use Rattle.writer_rules.specs.declared.WriteError.TheVariants.{Place, Edition, BadEntry, SectionAfterEdition, TooLong}
use Rattle.writer_rules.proofs.Checks.{w-place, w-edition, w-lists, w-fields, w-late, w-room, w-made, wrote-not, wrote-page}

-- the error of the `?` after the sums
abbrev error_in : Result Totals WriteError → WriteError
error_in (Ok t) = BadEntry
error_in (Err e) = e

pub bad_entry : {r : Wrote} {e : WriteError} {s : Option Totals} → IsErrAnd r (λ y. y ≡ e) → Err e ≡ ok_or s BadEntry → s ≡ None → r ≡ Err BadEntry
bad_entry {r} {e} {s} h k n =
    let p = err_from_is_err_and r h in
    let q : e ≡ BadEntry = ap error_in (k ∙ ap (λ x. ok_or x BadEntry) n) in
    p.1 ∙ rw (p.2, q)

module _ (base v : ℕ) (a b c d fs page : List ℕ) where
  -- the claim about an answer and the page at exit
  abbrev Leaves : Wrote → List ℕ → Type 0
  Leaves r after =
      (made_by after r ≡ write_lists base v a b c d fs page) ×
      ((after ≡ page_after page (write_lists base v a b c d fs page)) × Yes (description_fits (description_of a b c d fs)))

  module _ (y : Yes (description_fits (description_of a b c d fs))) (p : Bool) (cp : p ≡ place_ok base (length page)) where
    pub told-place : p ≡ false → Leaves (Err Place) page
    unfolding made_by
    told-place h = wrote-not (Err Place) 1 page _ refl (w-place base (length page) v (description_of a b c d fs) (sym cp ∙ h)) y

    module _ (hp : p ≡ true) (e : Bool) (ce : e ≡ edition_ok v) where
      pub told-edition : e ≡ false → Leaves (Err Edition) page
      unfolding made_by
      told-edition h =
          wrote-not (Err Edition) 2 page _ refl (w-edition base (length page) v (description_of a b c d fs) (sym cp ∙ hp) (sym ce ∙ h)) y

      module _ (he : e ≡ true) (s : Option Totals) (cs : s ≡ sums_of v a b c d) where
        pub told-unsound : s ≡ None → Leaves (Err BadEntry) page
        unfolding made_by description_of
        told-unsound h =
            wrote-not (Err BadEntry) 3 page _ refl (w-lists base (length page) v (description_of a b c d fs) (sym cp ∙ hp) (sym ce ∙ he)
            (unsound-lists v a b c d (sym cs ∙ h))) y

        module _ (t : Totals) (hs : s ≡ Some t) (k : Bool) (ck : k ≡ describable (scan_of fs)) where
          pub told-fields : k ≡ false → Leaves (Err BadEntry) page
          unfolding made_by description_of
          told-fields h =
              wrote-not (Err BadEntry) 3 page _ refl (w-fields base (length page) v (description_of a b c d fs) (sym cp ∙ hp) (sym ce ∙ he)
              (sound-lists v a b c d t (sym cs ∙ hs)) (sym ck ∙ h)) y

          module _ (hk : k ≡ true) (l : Bool) (cl : l ≡ later_sections_empty v (four_lists a b c d)) where
            pub told-late : l ≡ false → Leaves (Err SectionAfterEdition) page
            unfolding made_by description_of
            told-late h =
                wrote-not (Err SectionAfterEdition) 4 page _ refl (w-late base (length page) v (description_of a b c d fs) (sym cp ∙ hp)
                (sym ce ∙ he) (sound-lists v a b c d t (sym cs ∙ hs)) (sym ck ∙ hk) (sym cl ∙ h)) y

            module _ (hl : l ≡ true) (m : Bool) (cm : m ≡ leb (used v (description_of a b c d fs)) 4096) where
              pub told-room : m ≡ false → Leaves (Err TooLong) page
              unfolding made_by description_of
              told-room h =
                  wrote-not (Err TooLong) 5 page _ refl (w-room base (length page) v (description_of a b c d fs) (sym cp ∙ hp) (sym ce ∙ he)
                  (sound-lists v a b c d t (sym cs ∙ hs)) (sym ck ∙ hk) (sym cl ∙ hl) (sym cm ∙ h)) y

              pub told-made : m ≡ true → (after : List ℕ) → after ≡ page_of base v (description_of a b c d fs) → Leaves (Ok tt) after
              unfolding description_of
              told-made h after g =
                  wrote-page page after (page_of base v (description_of a b c d fs)) _
                  (w-made base (length page) v (description_of a b c d fs) (sym cp ∙ hp) (sym ce ∙ he)
                  (sound-lists v a b c d t (sym cs ∙ hs)) (sym ck ∙ hk) (sym cl ∙ hl) (sym cm ∙ h)) g y

  -- the conditions under which the page is made
  pub told-ready : (p : Bool) → p ≡ place_ok base (length page) → p ≡ true → (s : Option Totals) → s ≡ sums_of v a b c d → (t : Totals) →
      s ≡ Some t → (m : Bool) → m ≡ leb (used v (description_of a b c d fs)) 4096 → m ≡ true →
      (base ≤ 0x10_0000_0000_0000) × (length page ≡ 4096) × (used v (description_of a b c d fs) ≤ 4096) × (t ≡ totals_of a b c d)
  told-ready p cp hp s cs t hs m cm hm =
      let q = placed base (length page) (sym cp ∙ hp) in
      (omega arith, q.0, leb-true (used v (description_of a b c d fs)) 4096 (sym cm ∙ hm), sound-totals v a b c d t (sym cs ∙ hs))
