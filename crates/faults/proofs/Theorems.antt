-- What is proved of every diagnosis (specs/Promise.antt). Assumes nothing.
use Rattle.std.proofs.Common.{◌≡◌, ℕ, ◌-◌, ◌%◌, ◌^◌, ◌<◌, ◌≤◌, min, Bool, true, false, eqb, List, length, sym, refl, ap, ◌∙◌, arith, lt-ltb, eq-eqb, eqb-true, le-leb, Ok, Err}
use mathlib.Core.Bool.{false≢true}
use borrow.Author.Tests.{eqb-false}
use Rattle.words.specs.Tests.{both}
use Rattle.words.specs.Word.{le_bytes, laid}
use Rattle.words.proofs.Tests.{both_l, both_r, both_of}
use Rattle.versions.specs.Version.{minor_of, version_ok}
use Rattle.versions.specs.Edition.{edition_ok}
use Rattle.versions.proofs.Editions.{section-count-most}
use Rattle.sections.specs.Page.{place_ok, version_at, page_section_at, platform_at}
use Rattle.sections.specs.Section.{rules_at}
use Rattle.sections.specs.Steps.{ok_at}
use Rattle.reader.specs.Answer.{Shown, PlatShown, ReaderAnswer, refused, shows, all_shown, reader_gate, judge, read_of, code_in, minus}
use Rattle.reader.specs.Reading.{refusal_number}
use Rattle.faults.specs.Faults.{Diagnosis, mk_fault, unless, rules_fault, fault_of, refusal_of, diagnosis_number}
use Rattle.faults.specs.Promise.{BrokenAs, Broken, Diagnoses}
use Rattle.faults.specs.declared.Rule.{Rule}
use Rattle.faults.specs.declared.Rule.TheVariants as rule
use Rattle.faults.specs.declared.Fault.{Fault}
use Rattle.faults.proofs.Order.{is_clear, clear-is, is-clear}
use Rattle.faults.proofs.Clear.{rules-clear, fault-clear}
use Rattle.faults.proofs.Holds.{Holds, hold_at, hold-unless, hold-map}
use Rattle.faults.proofs.Broken.{Good, rules-broken}
use Rattle.faults.proofs.Mends.{ok-mended}

-- ---- the reader's gate, check by check
place-not : (v o : Bool) (a : ReaderAnswer) → reader_gate false v o a ≡ refused (minus 5)
unfolding reader_gate
place-not v o a = refl

gate-shows : (p v o : Bool) (a : ReaderAnswer) (w e : ℕ) (q : PlatShown) (s : ℕ → Shown) → reader_gate p v o a ≡ shows w e q s →
    both p (both v o) ≡ true
unfolding reader_gate both
gate-shows true true true a w e q s h = refl
gate-shows true true false a w e q s h = absurd (let z : ◌≡◌ {A = ℕ} 0 1 = cc in omega arith)
gate-shows true false o a w e q s h = absurd (let z : ◌≡◌ {A = ℕ} 0 1 = cc in omega arith)
gate-shows false v o a w e q s h = absurd (let z : ◌≡◌ {A = ℕ} 0 1 = cc in omega arith)

both-assoc : (a b c : Bool) → both (both a b) c ≡ both a (both b c)
unfolding both
both-assoc true b c = refl
both-assoc false b c = refl

-- ---- different rules are unequal
unfoldable rule_of : Diagnosis → Rule
rule_of (Ok u) = rule.Length
rule_of (Err f) = f.rule

not-checksum : rule.Length ≡ rule.Checksum → ⊥
not-checksum h = let z : ◌≡◌ {A = ℕ} 0 1 = cc in omega arith

as-checksum : (r w e base : ℕ) (page : List ℕ) (f : Fault) (x : Rule) → x ≡ rule.Checksum → BrokenAs x r w e base page f →
    BrokenAs rule.Checksum r w e base page f
as-checksum r w e base page f x q h = rw q at h

module _ (r base : ℕ) (page : List ℕ) where
  abbrev w : ℕ
  w = minor_of (version_at page)

  abbrev e : ℕ
  e = min r w

  gate : read_of r base page ≡ reader_gate (place_ok base (length page)) (both (edition_ok r) (version_ok (version_at page)))
      (rules_at w e base page) (all_shown w e (platform_at base page) (page_section_at base page))
  unfolding read_of judge rules_at
  gate = refl

  accepts : fault_of r base page ≡ Ok tt → read_of r base page ≡ all_shown w e (platform_at base page) (page_section_at base page)
  unfolding reader_gate
  accepts h =
      let t = sym (fault-clear r base page) ∙ is-clear _ h in
      let u = both_r _ _ t in
      let v = both_r _ _ u in
      gate ∙ rw (both_l _ _ t, both_of _ _ (both_l _ _ u) (both_l _ _ v), both_r _ _ v)

  accepted : (x y : ℕ) (q : PlatShown) (s : ℕ → Shown) → read_of r base page ≡ shows x y q s → fault_of r base page ≡ Ok tt
  accepted x y q s h =
      clear-is _ (fault-clear r base page ∙ rw (← both-assoc (edition_ok r) (version_ok (version_at page)) (rules_at w e base page))
      (gate-shows _ _ _ _ x y q s (sym gate ∙ h)))

  -- ---- the fault: its rule is broken, and its code is the reader's code
  abbrev Told : Fault → Type 0
  Told f = (read_of r base page ≡ refused (refusal_number (refusal_of f.rule))) × Broken r base page f

  at_place : place_ok base (length page) ≡ false → read_of r base page ≡ refused (minus 5)
  unfolding reader_gate
  at_place p = gate ∙ rw p

  module _ (p : place_ok base (length page) ≡ true) where
    at-version : both (edition_ok r) (version_ok (version_at page)) ≡ false → read_of r base page ≡ refused (minus 6)
    unfolding reader_gate
    at-version v = gate ∙ rw (p, v)

    at-rules : both (edition_ok r) (version_ok (version_at page)) ≡ true → rules_at w e base page ≡ false →
        read_of r base page ≡ refused (minus 7)
    unfolding reader_gate
    at-rules v o = gate ∙ rw (p, v, o)

  length-not : eqb (length page) 4096 ≡ false → place_ok base (length page) ≡ false
  unfolding place_ok both
  length-not h = rw h

  base-not : length page ≡ 4096 → place_ok base (length page) ≡ false → (0 < base) × (base % 4096 ≡ 0) × (base ≤ 2 ^ 52 - 4096) → ⊥
  unfolding place_ok
  base-not l h x =
      false≢true (sym h ∙ both_of _ _ (eq-eqb _ _ l) (both_of _ _ (lt-ltb _ _ x.0)
      (both_of _ _ (eq-eqb _ _ x.1) (le-leb _ _ x.2))))

  edition-not : edition_ok r ≡ false → (1 ≤ r) × (r ≤ 4) → ⊥
  unfolding edition_ok
  edition-not h x = false≢true (sym h ∙ both_of _ _ (le-leb _ _ x.0) (le-leb _ _ x.1))

  both-not : edition_ok r ≡ false → both (edition_ok r) (version_ok (version_at page)) ≡ false
  unfolding both
  both-not h = rw h

  both-last : edition_ok r ≡ true → version_ok (version_at page) ≡ false → both (edition_ok r) (version_ok (version_at page)) ≡ false
  unfolding both
  both-last g h = rw (g, h)

  rules-not : (f : Fault) → rules_fault w e base page ≡ Err f → rules_at w e base page ≡ false
  unfolding is_clear
  rules-not f h = sym (rules-clear w e base page) ∙ rw h

  told : Holds Told (fault_of r base page)
  unfolding fault_of mk_fault refusal_of
  told =
      hold-unless Told _ _ _ (λ h. (at_place (length-not h), (eqb-false _ _ h, refl))) (λ l.
      hold-unless Told _ _ _ (λ h. (at_place h, (base-not (eqb-true _ _ l) h, refl))) (λ p.
      hold-unless Told _ _ _ (λ h. (at-version p (both-not h), (edition-not h, refl))) (λ o.
      hold-unless Told _ _ _ (λ h. (at-version p (both-last o h), (h, (refl, refl)))) (λ v.
      hold-map (Good r w e base page) Told (rules_fault w e base page)
      (λ f c x. (at-rules p (both_of _ _ o v) (rules-not f c) ∙ ap (λ y. refused (refusal_number y)) (sym x.0), x.1))
      (rules-broken r w e base page)))))

  -- ---- the wanted checksum
  length-is : (f : Fault) → fault_of r base page ≡ Err f → f.rule ≡ rule.Checksum → length page ≡ 4096
  unfolding fault_of unless mk_fault rule_of
  length-is f h q = go (eqb (length page) 4096) refl
    where
      go : (b : Bool) → eqb (length page) 4096 ≡ b → length page ≡ 4096
      go true g = eqb-true _ _ g
      go false g = absurd (not-checksum (ap rule_of (rw g at h) ∙ q))

  mends : (f : Fault) → fault_of r base page ≡ Err f → f.rule ≡ rule.Checksum →
      ok_at w e base f.section (laid f.offset (le_bytes 8 f.wanted) page) ≡ true
  mends f h q =
      let n = length-is f h q in
      let b = as-checksum r w e base page f f.rule q (hold_at Told (fault_of r base page) f told h).1 in
      let s = b.4 in
      ap (λ x. ok_at w e base f.section (laid x (le_bytes 8 f.wanted) page)) s.2.0
      ∙ ok-mended w e base f.section f.wanted page n s.0 (omega (arith, s.0, section-count-most e)) b.1 b.2 b.3

  -- every diagnosis keeps its promise
  pub diagnoses : Diagnoses r base page
  diagnoses =
      record {
        accepts = accepts;
        accepted = accepted;
        code = λ f h. (hold_at Told (fault_of r base page) f told h).0;
        broken = λ f h. (hold_at Told (fault_of r base page) f told h).1;
        mends = mends;
      }

-- its number is the reader's code
diagnosis-number : (r base : ℕ) (page : List ℕ) (d : Diagnosis) → fault_of r base page ≡ d → diagnosis_number d ≡ code_in (read_of r base page)
unfolding diagnosis_number code_in all_shown
diagnosis-number r base page (Ok u) h = rw ((diagnoses r base page).accepts h)
diagnosis-number r base page (Err f) h = rw ((diagnoses r base page).code f h)

pub numbered : (r base : ℕ) (page : List ℕ) (d : Diagnosis) → d ≡ fault_of r base page →
    (d ≡ fault_of r base page) × (diagnosis_number d ≡ code_in (read_of r base page))
numbered r base page d h = (h, diagnosis-number r base page d (sym h))
