-- The whole page, return by return: what the code read and computed, and what follows from it. Assumes nothing.
use Rattle.std.proofs.Common.{◌≡◌, ℕ, ◌+◌, ◌^◌, ◌<◌, min, true, false, cond, List, length, sym, refl, ◌∙◌, arith, eq-eqb, ne_eqb, Ok, Err}
use mathlib.Core.Bool.{false≢true}
use Rattle.words.specs.Word.{word_at}
use Rattle.versions.specs.Version.{minor_of, version_ok}
use Rattle.versions.specs.Edition.{section_count, edition_ok}
use Rattle.fields.specs.Fields.{taken}
use Rattle.std.proofs.Common.{Option, Some, None}
use Rattle.sections.specs.Page.{place_ok, version_at, padding_at, page_platform, found_at, platform_at}
use Rattle.sections.specs.Section.{platform_ok}
use Rattle.sections.specs.Steps.{plat_end, ok_to, end_of}
use Rattle.sections.proofs.Sections.{placed, plat-broken, plat-ended, plat-top, ok-each, ok_end}
use Rattle.faults.specs.Faults.{Diagnosis, mk_fault, unless, first_fault, first_of, section_fault, clash, overlap, plat_fault, rules_fault, fault_of}
use Rattle.faults.specs.declared.Rule.TheVariants as rule
use Rattle.faults.specs.declared.Fault.{Fault}
use Rattle.faults.proofs.Order.{is_clear, clear-is, is-clear, or_at, or-next}
use Rattle.faults.proofs.Clear.{plat-clear, sections-clear}

or-not : (a b : Diagnosis) → is_clear a ≡ false → first_fault a b ≡ a
unfolding is_clear first_fault
or-not (Ok u) b h = absurd (false≢true (sym h))
or-not (Err f) b h = refl

module _ (w e base : ℕ) (page : List ℕ) (hp : place_ok base (length page) ≡ true) (d : ℕ) (cd : d ≡ padding_at page) where
  pub told-padding : (d ≡ 0 → ⊥) → Err (mk_fault rule.Padding 0 0 4 d 0) ≡ rules_fault w e base page
  unfolding rules_fault unless
  told-padding n = rw (← cd, ne_eqb d 0 n)

  module _ (z : d ≡ 0) (q : ℕ) (cq : q ≡ word_at 8 page) (x : Option ℕ)
      (cx : x ≡ cond (place_ok base (length page)) (plat_end e base (platform_at base page)) None) where
    is-end : x ≡ plat_end e base (platform_at base page)
    is-end = cx ∙ rw hp

    from-plat : rules_fault w e base page
        ≡ first_fault (plat_fault e base q page)
        (first_fault (first_of (section_count e) (section_fault w e base page))
        (first_fault (first_of (section_count e) (overlap page))
        (first_of (section_count e) (clash rule.FieldsOverlap 0 8 q (q + taken (found_at base page q)) page))))
    unfolding rules_fault unless
    from-plat = rw (← cd, eq-eqb d 0 z, ← cq)

    pub told-plat : x ≡ None → (r : Diagnosis) → r ≡ plat_fault e base q page → r ≡ rules_fault w e base page
    unfolding platform_at
    told-plat h r c =
        c ∙ sym (or-not _ _ (plat-clear e base q page ∙ rw cq (plat-broken e base (platform_at base page) (sym h ∙ is-end)))) ∙ sym from-plat

    module _ (m : ℕ) (h : x ≡ Some m) where
      is-plat : (platform_ok e base (page_platform q (found_at base page q)) ≡ true) × (m ≡ taken (found_at base page q))
      unfolding platform_at page_platform
      is-plat = rw cq (plat-ended e base (platform_at base page) m (sym h ∙ is-end))

      from-sections : rules_fault w e base page
          ≡ first_fault (first_of (section_count e) (section_fault w e base page))
          (first_fault (first_of (section_count e) (overlap page)) (first_of (section_count e) (clash rule.FieldsOverlap 0 8 q (q + m) page)))
      unfolding first_fault
      from-sections = from-plat ∙ rw (clear-is _ (plat-clear e base q page ∙ is-plat.0), is-plat.1)

      -- the address after the fields does not wrap
      pub told-top : q + m < 2 ^ 64
      unfolding platform_at
      told-top =
          let p = placed base (length page) hp in
          rw (is-plat.1, cq) (omega (arith, p.3, plat-top e base page p.0 (rw (← cq) is-plat.0)))

      module _ (n : ℕ) (cn : n ≡ section_count e) (o : Diagnosis) (co : o ≡ first_of n (section_fault w e base page)) where
        pub told-sections : (y : Fault) → o ≡ Err y → o ≡ rules_fault w e base page
        told-sections y f = or_at _ _ o (co ∙ rw cn) y f ∙ sym from-sections

        module _ (f : o ≡ Ok tt) where
          -- no array ends past the page
          pub told-ends : (k : ℕ) → k < n → end_of k page < 2 ^ 64
          told-ends k l =
              let t : ok_to w e base n page ≡ true = sym (sections-clear w e base n page) ∙ is-clear _ (sym co ∙ f) in
              omega (arith, (placed base (length page) hp).3, ok_end w e base k page (ok-each w e base page n k t l))

          pub told-overlaps : (r : Diagnosis) → r ≡ first_fault (first_of n (overlap page))
              (first_of n (clash rule.FieldsOverlap 0 8 q (q + m) page)) → r ≡ rules_fault w e base page
          told-overlaps r c = or-next _ _ o (co ∙ rw cn) f r (c ∙ rw cn) ∙ sym from-sections

-- after length, base, edition and version
pub told-rules : (r base : ℕ) (page : List ℕ) → length page ≡ 4096 → place_ok base (length page) ≡ true → edition_ok r ≡ true →
    version_ok (version_at page) ≡ true →
    (w e : ℕ) → w ≡ minor_of (version_at page) → e ≡ min r w → (d : Diagnosis) → d ≡ rules_fault w e base page → d ≡ fault_of r base page
unfolding fault_of unless
told-rules r base page l p o v w e cw ce d h = rw (eq-eqb (length page) 4096 l, p, o, v, ← cw, ← ce) h
