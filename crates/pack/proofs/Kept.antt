-- The fields that are kept, as bytes of their page. Assumes nothing.
use Rattle.std.proofs.Common.{◌≡◌, ℕ, suc, ◌+◌, ◌-◌, ◌*◌, ◌/◌, ◌%◌, ◌<◌, ◌≤◌, Bool, true, false, cond, eqb, List, [], ◌∷◌, ◌++◌, length, get_or, ap, ◌∙◌, append_assoc, add-one, arith, length-append, drop-cons, eq-eqb, ne_eqb}
use Rattle.words.specs.Word.{le_bytes, part, num_at, word_at, splice}
use Rattle.words.proofs.Bytes.{Bytes}
use Rattle.words.proofs.Read.{num-suc, num-one}
use Rattle.words.proofs.Store.{splice-splice}
use Rattle.fields.specs.Facts.{field_bytes}
use Rattle.fields.specs.Steps.{step_at}
use Rattle.std.proofs.Common.{Some, None}
use Rattle.fields.specs.declared.FieldPlace.TheVariants.{Raw, Withdrawn}
use Rattle.fields.specs.declared.FieldStep.{FieldStep}
use Rattle.fields.proofs.Scans.{never, part_length}
use Rattle.fields.proofs.Steps.{RawAt, step-cases}
use Rattle.pack.specs.Pack.{fields_kept}
use Rattle.pack.specs.Steps.{fields_place, kept_from}
use Rattle.pack.proofs.Moves.{part-add, part_join, part_none}

-- ---- a field's tag and length come before its value
part-one : (at : ℕ) (s : List ℕ) → at < length s → part at 1 s ≡ get_or s at 0 ∷ []
unfolding part
part-one at s h = rw (drop-cons s at 0 h)

part-two : (at : ℕ) (s : List ℕ) → at + 2 ≤ length s → Bytes s → part at 2 s ≡ le_bytes 2 (num_at 2 at s)
unfolding le_bytes
part-two at s h b =
    let x : get_or s at 0 < 256 = b at in
    let y : get_or s (at + 1) 0 < 256 = b (at + 1) in
    let m : num_at 2 at s ≡ get_or s at 0 + 256 * get_or s (at + 1) 0 = rw add-one (omega (arith, num-suc 1 at s, num-one (suc at) s)) in
    let low : num_at 2 at s % 256 ≡ get_or s at 0 = omega arith in
    let rest : num_at 2 at s / 256 ≡ get_or s (at + 1) 0 = omega arith in
    let high : num_at 2 at s / 256 % 256 ≡ get_or s (at + 1) 0 = rw rest (omega arith) in
    part-add at 1 1 s ∙ rw (low, high, part-one at s (omega arith), part-one (at + 1) s (omega arith))

field-part : {at t v n x : ℕ} (page : List ℕ) → Bytes page → RawAt at page t v n x → field_bytes t (part v n page) ≡ part at (x - at) page
unfolding field_bytes
field-part {at} {t} {v} {n} {x} page b r =
    let w = r.within in
    let e = r.value in
    let f = r.next in
    let l : length (part v n page) ≡ n = part_length v n page (omega arith) in
    let z : x - at ≡ 1 + (2 + n) = omega arith in
    let y : at + 1 + 2 ≡ v = omega arith in
    rw (
      l,
      z,
      part-add at 1 (2 + n) page,
      part-one at page (omega arith),
      part-add (at + 1) 2 n page,
      part-two (at + 1) page (omega arith) b,
      r.tag,
      r.len,
      y,
    )

-- ---- a step: no field is left, a withdrawn field is left out, or a field is kept
module _ (at : ℕ) (page : List ℕ) (s : FieldStep) (e : s ≡ step_at at page) where
  pub kept-stop : s.field ≡ None → kept_from at page ≡ []
  unfolding kept_from fields_kept
  kept-stop =
      rw e
      (step-cases at page (λ s. s.field ≡ None → kept_from at page ≡ []) (λ h n. rw h) (λ x l r h n. never (cc))
      (λ t v m x r n. never (cc)))

  pub kept-over : s.field ≡ Some Withdrawn → (at < s.next) × (s.next ≤ length page) × (kept_from at page ≡ kept_from s.next page)
  unfolding kept_from fields_kept
  kept-over =
      rw e
      (step-cases at page (λ s. s.field ≡ Some Withdrawn → (at < s.next) × (s.next ≤ length page) ×
      (kept_from at page ≡ kept_from s.next page))
      (λ h n. never (cc))
      (λ x l r h n. (l, r, rw h))
      (λ t v m x r n. never (cc)))

  pub kept_field : {t v m : ℕ} → Bytes page → s.field ≡ Some (Raw t v m) →
      (at < s.next) × (s.next ≤ length page) × (kept_from at page ≡ part at (s.next - at) page ++ kept_from s.next page)
  unfolding kept_from fields_kept
  kept_field {t} {v} {m} b =
      rw e
      (step-cases at page (λ s. s.field ≡ Some (Raw t v m) → (at < s.next) × (s.next ≤ length page) ×
      (kept_from at page ≡ part at (s.next - at) page ++ kept_from s.next page))
      (λ h n. never (cc))
      (λ x l r h n. never (cc))
      (λ t v m x r n. (omega (arith, r.value, r.next), r.within, rw (r.shown, field-part page b r))))

-- a run of kept fields grows
module _ (at x : ℕ) (page : List ℕ) (l : at < x) (m : x ≤ length page)
    (k : kept_from at page ≡ part at (x - at) page ++ kept_from x page) where
  pub run_more : (run : ℕ) → run ≤ at → part run (at - run) page ++ kept_from at page ≡ part run (x - run) page ++ kept_from x page
  run_more run g = rw (k, part_join run at x page g (omega arith), append_assoc)

  pub length_more : length (kept_from at page) ≡ (x - at) + length (kept_from x page)
  length_more = ap length k ∙ length-append (part at (x - at) page) (kept_from x page) ∙ rw (part_length at (x - at) page (omega arith))

-- a run ends before a withdrawn field, and the next starts after it
pub run-over : (at x run to next : ℕ) (page vs p s : List ℕ) → kept_from at page ≡ kept_from x page → to ≤ length p →
    vs ≡ part run (at - run) page → next ≡ to + length vs → s ≡ splice to vs p →
    splice next (part x (x - x) page ++ kept_from x page) s ≡ splice to (part run (at - run) page ++ kept_from at page) p
run-over at x run to next page vs p s k l g m i = rw (i, m, part_none x page, k, ← g) (splice-splice to vs p l (kept_from x page))

-- ---- where they start
module _ (page : List ℕ) where
  pub place_none : word_at 8 page ≡ 0 → length page ≡ fields_place page
  unfolding fields_place
  place_none z = rw (eq-eqb (word_at 8 page) 0 z)

  pub place-some : (q : ℕ) → q ≡ word_at 8 page → (q ≡ 0 → ⊥) → q % 4096 ≡ fields_place page
  unfolding fields_place
  place-some q e z = rw (← e, ne_eqb q 0 z)

  pub place-most : length page ≡ 4096 → fields_place page ≤ 4096
  unfolding fields_place
  place-most n = go (eqb (word_at 8 page) 0)
    where
      go : (b : Bool) → cond b (length page) (word_at 8 page % 4096) ≤ 4096
      go true = omega arith
      go false = omega arith
