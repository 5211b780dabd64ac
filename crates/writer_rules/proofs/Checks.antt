-- The writer's answer, return by return. Assumes nothing.
use Rattle.std.proofs.Common.{Ok}
use mir.Val.{Fits}
use mir.Syntax.{w64}
use Prim.Native.Nat.{ℕ}
use mathlib.Core.Path.{◌≡◌, refl, ap}
use mathlib.Core.Bool.{true, false}
use mathlib.Core.List.{List}
use native.Mathlib.Omega.{arith}
use lib.ListN.{get_or}
use lib.Dec.{leb}
use Rattle.words.specs.Tests.{Yes, both, every}
use Rattle.words.proofs.Lists.{words-below}
use Rattle.versions.specs.Edition.{edition_ok}
use Rattle.sections.specs.Page.{place_ok}
use Rattle.fields.specs.Fields.{scan_of, describable}
use Rattle.writer_checks.specs.Description.{Description, four_lists, description_of, lists_ok, description_ok, later_sections_empty, used}
use Rattle.writer_rules.specs.Write.{page_of, Made, no-page, a-page, writer_gate, write_of, description_fits}
use Rattle.writer_rules.specs.Wrote.{Wrote, made_by, page_after}

module _ (base n v : ℕ) (d : Description) where
  pub w-place : place_ok base n ≡ false → write_of base n v d ≡ no-page 1
  unfolding write_of writer_gate
  w-place h = rw h

  module _ (h : place_ok base n ≡ true) where
    pub w-edition : edition_ok v ≡ false → write_of base n v d ≡ no-page 2
    unfolding write_of writer_gate
    w-edition g = rw (h, g)

    module _ (g : edition_ok v ≡ true) where
      pub w-lists : lists_ok v d.lists ≡ false → write_of base n v d ≡ no-page 3
      unfolding write_of writer_gate description_ok both
      w-lists a = rw (h, g, a)

      module _ (a : lists_ok v d.lists ≡ true) where
        pub w-fields : describable (scan_of d.fields) ≡ false → write_of base n v d ≡ no-page 3
        unfolding write_of writer_gate description_ok both
        w-fields t = rw (h, g, a, t)

        module _ (t : describable (scan_of d.fields) ≡ true) where
          pub w-late : later_sections_empty v d.lists ≡ false → write_of base n v d ≡ no-page 4
          unfolding write_of writer_gate description_ok both
          w-late b = rw (h, g, a, t, b)

          module _ (b : later_sections_empty v d.lists ≡ true) where
            pub w-room : leb (used v d) 4096 ≡ false → write_of base n v d ≡ no-page 5
            unfolding write_of writer_gate description_ok both
            w-room c = rw (h, g, a, t, b, c)

            pub w-made : leb (used v d) 4096 ≡ true → write_of base n v d ≡ a-page (page_of base v d)
            unfolding write_of writer_gate description_ok both
            w-made c = rw (h, g, a, t, b, c)

-- lent lists hold 64-bit words
pub lists-fit : (a b c d fs : List ℕ) → ((i : ℕ) → Fits w64 (get_or a i 0)) → ((i : ℕ) → Fits w64 (get_or b i 0)) →
    ((i : ℕ) → Fits w64 (get_or c i 0)) → ((i : ℕ) → Fits w64 (get_or d i 0)) →
    Yes (description_fits (description_of a b c d fs))
unfolding description_fits description_of four_lists every both
lists-fit a b c d fs e f g h =
    rw (
      words-below a (λ i. omega (arith, e i)),
      words-below b (λ i. omega (arith, f i)),
      words-below c (λ i. omega (arith, g i)),
      words-below d (λ i. omega (arith, h i)),
    )

-- after a refusal the page is unchanged, otherwise it is the page made; f gives what holds in each case
pub wrote-not : {F : Type 0} (r : Wrote) (n : ℕ) (page : List ℕ) (m : Made) → made_by page r ≡ no-page n → m ≡ no-page n → F →
    (made_by page r ≡ m) × ((page ≡ page_after page m) × F)
unfolding page_after
wrote-not r n page m h e f = rw e (h, (refl, f))

pub wrote-page : {F : Type 0} (before after p : List ℕ) (m : Made) → m ≡ a-page p → after ≡ p → F →
    (made_by after (Ok tt) ≡ m) × ((after ≡ page_after before m) × F)
unfolding page_after made_by
wrote-page before after p m e g f = rw e (ap a-page g, (g, f))
