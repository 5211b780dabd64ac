-- When the writer makes a page and which refusal it returns otherwise, as plain facts. A writer that refuses everything fails here. Assumes
-- nothing.
use Prim.Native.Nat.{ℕ, zero, suc, ◌+◌, ◌-◌, ◌*◌, ◌/◌, ◌%◌, ◌≤◌, ◌<◌}
use mathlib.Core.Path.{◌≡◌, refl}
use mathlib.Core.Bool.{false}
use mathlib.Core.List.{List, [], ◌∷◌}
use native.Mathlib.Omega.{arith}
use native.Mathlib.Nat.{not-suc-le-zero}
use native.Mathlib.Decide.{dec_lt}
use lib.ListN.{length, get_or, length-append}
use lib.Dec.{ltb, eqb}
use borrow.Author.Tests.{eqb-true, leb-true, ltb-true, eq-eqb, ne_eqb, le-leb, lt-ltb}
use Rattle.words.specs.Tests.{Yes, either}
use Rattle.words.specs.Word.{joined}
use Rattle.words.proofs.Bytes.{Bytes}
use Rattle.words.proofs.Tests.{both_l, both_r, both_of, either_l, either_r, either-cases, every-at, every_of}
use Rattle.versions.specs.Edition.{section_count, core, edition_ok}
use Rattle.versions.proofs.Editions.{core-sizes, section-count-mono, edition-of, edition-range}
use Rattle.entries.specs.Entry.{words_per_entry, entry_rule, entry_ok, entries_ok}
use Rattle.entries.specs.Facts.{BankFacts, ConsoleFacts}
use Rattle.entries.proofs.Facts.{bank-acts, bank-only, console-acts, console-only}
use Rattle.fields.specs.Fields.{Field, scan_of, fields_described, describable, count}
use Rattle.fields.proofs.Rules.{no_test}
use Rattle.fields.proofs.Facts.{tell-acts, tell-only}
use Rattle.sections.specs.Page.{place_ok}
use Rattle.sections.proofs.Sections.{placed}
use Rattle.sections.proofs.Facts.{place-acts}
use Rattle.writer_checks.specs.Description.{Description, list_ok, lists_ok, description_ok, later_sections_empty, with_mark, plat_bytes, used}
use Rattle.writer_checks.proofs.Described.{marked-none, marked-some}
use Rattle.writer_rules.specs.Unrefused.{EditionFacts, NoneWithdrawn, DescriptionFacts, LateFacts, RoomAfter, RoomFacts, Unrefused}
use Rattle.writer_rules.specs.Unrefused.{WriteRefuses}
use Rattle.writer_rules.specs.Write.{page_of, no-page, a-page, writer_gate, write_of}
use Rattle.writer_rules.proofs.Checks.{w-place, w-edition, w-late, w-room, w-made}
use Rattle.writer_rules.proofs.Round.{writer-gate-page}

-- ---- no field is withdrawn
pub none-count : (fs : List Field) → NoneWithdrawn fs → count 3 fs ≡ 0
unfolding count
none-count [] h = refl
none-count (f ∷ fs) h = rw (ne_eqb f.tag 3 (h 0 (omega arith))) (let r = none-count fs (λ i l. h (suc i) (omega arith)) in omega arith)

count_none : (fs : List Field) → count 3 fs ≡ 0 → NoneWithdrawn fs
unfolding count
count_none [] z i l e = not-suc-le-zero l
count_none (f ∷ fs) z zero l e = let y = rw (eq-eqb f.tag 3 e) at z in let x : ⊥ = omega arith in x
count_none (f ∷ fs) z (suc i) l e = count_none fs (let y : count 3 fs ≡ 0 = omega arith in y) i (omega arith) e

-- ---- W3
module _ (v : ℕ) (d : Description) (t : DescriptionFacts v d) where
  entry-is : (k i : ℕ) → k < 4 → i < length (d.lists k) / words_per_entry k → Yes (entry_ok v k (d.lists k) (words_per_entry k * i))
  unfolding entry_ok entry_rule words_per_entry
  entry-is zero i l m = bank-acts _ _ (t.banks 0 i l (λ z. omega arith) m)
  entry-is (suc zero) i l m = console-acts v _ _ _ (t.consoles i m)
  entry-is (suc (suc k)) i l m =
      rw (ne_eqb (suc (suc k)) 1 (λ z. omega arith)) (bank-acts _ _ (t.banks (suc (suc k)) i l (λ z. omega arith) m))

  whole_is : (k : ℕ) → k < 4 → length (d.lists k) % words_per_entry k ≡ 0
  unfolding words_per_entry
  whole_is zero l = t.whole_banks 0 l (λ z. omega arith)
  whole_is (suc zero) l = t.whole_consoles
  whole_is (suc (suc k)) l = t.whole_banks (suc (suc k)) l (λ z. omega arith)

  lists-are : Yes (lists_ok v d.lists)
  unfolding lists_ok list_ok entries_ok
  lists-are =
      every_of 4 _
      (λ k l.
      both_of _ _ (eq-eqb (length (d.lists k) % words_per_entry k) 0 (whole_is k l))
      (every_of (length (d.lists k) / words_per_entry k) _ (λ i m. entry-is k i l m)))

  fields-are : Yes (describable (scan_of d.fields))
  fields-are = rw t.bytes (tell-acts t.fields t.keep (none-count t.fields t.unwithdrawn))

whole-only : (k : ℕ) (ws : List ℕ) → (k ≡ 1 → ⊥) → length ws % words_per_entry k ≡ 0 → length ws % 2 ≡ 0
unfolding words_per_entry
whole-only zero ws n h = h
whole-only (suc zero) ws n h = absurd (n refl)
whole-only (suc (suc k)) ws n h = h

consoles-whole : (ws : List ℕ) → length ws % words_per_entry 1 ≡ 0 → length ws % 6 ≡ 0
unfolding words_per_entry
consoles-whole ws h = h

bank-only-at : (v k : ℕ) (ws : List ℕ) → (k ≡ 1 → ⊥) → ((i : ℕ) → i < length ws / words_per_entry k →
    Yes (entry_ok v k ws (words_per_entry k * i))) →
    (i : ℕ) → i < length ws / 2 → BankFacts (get_or ws (2 * i) 0) (get_or ws (2 * i + 1) 0)
unfolding entry_ok entry_rule words_per_entry
bank-only-at v zero ws n h i l = bank-only _ _ (h i l)
bank-only-at v (suc zero) ws n h i l = absurd (n refl)
bank-only-at v (suc (suc k)) ws n h i l =
    let y : Yes (entry_rule v (suc (suc k)) (get_or ws (2 * i) 0) (get_or ws (2 * i + 1) 0) (get_or ws (2 * i + (2 - 1)) 0)) = h i l in
    bank-only _ _ (rw (ne_eqb (suc (suc k)) 1 (λ z. omega arith)) at y)

console-only-at : (v : ℕ) (ws : List ℕ) → ((i : ℕ) → i < length ws / words_per_entry 1 → Yes (entry_ok v 1 ws (words_per_entry 1 * i))) →
    (i : ℕ) → i < length ws / 6 → ConsoleFacts v (get_or ws (6 * i) 0) (get_or ws (6 * i + 1) 0) (get_or ws (6 * i + 5) 0)
unfolding entry_ok entry_rule words_per_entry
console-only-at v ws h i l = console-only v _ _ _ (h i l)

module _ (v : ℕ) (d : Description) (h : Yes (description_ok v d)) where
  list : (k : ℕ) → k < 4 → Yes (list_ok v k (d.lists k))
  unfolding description_ok lists_ok
  list = every-at 4 (λ k. list_ok v k (d.lists k)) (both_l _ _ h)

  whole : (k : ℕ) → k < 4 → length (d.lists k) % words_per_entry k ≡ 0
  unfolding list_ok
  whole k l = eqb-true _ _ (both_l _ _ (list k l))

  entry : (k : ℕ) → k < 4 → (i : ℕ) → i < length (d.lists k) / words_per_entry k → Yes (entry_ok v k (d.lists k) (words_per_entry k * i))
  unfolding list_ok entries_ok
  entry k l = every-at (length (d.lists k) / words_per_entry k) (λ i. entry_ok v k (d.lists k) (words_per_entry k * i)) (both_r _ _ (list k l))

  description-only : Bytes d.fields → DescriptionFacts v d
  unfolding description_ok
  description-only b =
      let f = tell-only d.fields b (both_r _ _ h) in
      record {
        whole_banks = λ k l m. whole-only k (d.lists k) m (whole k l);
        whole_consoles = consoles-whole (d.lists 1) (whole 1 (omega arith));
        banks = λ k i l m. bank-only-at v k (d.lists k) m (entry k l) i;
        consoles = console-only-at v (d.lists 1) (entry 1 (omega arith));
        fields = fields_described (scan_of d.fields);
        bytes = f.2;
        keep = f.0;
        unwithdrawn = count_none (fields_described (scan_of d.fields)) f.1;
      }

-- ---- W4: how many sections an edition has
counts : (section_count 1 ≡ 0) × (section_count 2 ≡ 1) × (section_count 3 ≡ 2) × (section_count 4 ≡ 4)
unfolding section_count
counts = (refl, refl, refl, refl)

-- an edition with fewer sections is an earlier one
earlier : (e v : ℕ) → section_count v < section_count e → v < e
earlier e v h = go (dec_lt v e)
  where
    go : Dec (v < e) → v < e
    go (yes l) = l
    go (no l) = let m = section-count-mono e v (omega arith) in absurd (let z : ⊥ = omega arith in z)

late_is : (v : ℕ) (d : Description) → LateFacts v d → (k : ℕ) → k < 4 → section_count v ≤ k → length (d.lists k) ≡ 0
late_is v d t zero l s = t.0 (earlier 2 v (omega (arith, counts)))
late_is v d t (suc zero) l s = t.1 (earlier 3 v (omega (arith, counts)))
late_is v d t (suc (suc zero)) l s = t.2 (earlier 4 v (omega (arith, counts)))
late_is v d t (suc (suc (suc zero))) l s = t.3 (earlier 4 v (omega (arith, counts)))
late_is v d t (suc (suc (suc (suc k)))) l s = absurd (let z : ⊥ = omega arith in z)

late-acts : (v : ℕ) (d : Description) → LateFacts v d → Yes (later_sections_empty v d.lists)
unfolding later_sections_empty
late-acts v d t = every_of 4 _ (λ k l. go k l (dec_lt k (section_count v)))
  where
    go : (k : ℕ) → k < 4 → Dec (k < section_count v) → Yes (either (ltb k (section_count v)) (eqb (length (d.lists k)) 0))
    go k l (yes a) = either_l _ _ (lt-ltb k (section_count v) a)
    go k l (no a) = either_r _ _ (eq-eqb (length (d.lists k)) 0 (late_is v d t k l (omega arith)))

late-at : (v : ℕ) (l : ℕ → List ℕ) → Yes (later_sections_empty v l) → (k : ℕ) → k < 4 → section_count v ≤ k → length (l k) ≡ 0
unfolding later_sections_empty
late-at v l h k m s =
    either-cases _ _ (λ z. let y : k < section_count v = ltb-true _ _ z in absurd (let x : ⊥ = omega arith in x)) (λ z. eqb-true _ _ z)
    (every-at 4 (λ k. either (ltb k (section_count v)) (eqb (length (l k)) 0)) h k m)

late-only : (v : ℕ) (d : Description) → Yes (later_sections_empty v d.lists) → LateFacts v d
late-only v d h = (
  λ l. late-at v d.lists h 0 (omega arith) (omega (arith, counts, section-count-mono v 1 (omega arith))),
  λ l. late-at v d.lists h 1 (omega arith) (omega (arith, counts, section-count-mono v 2 (omega arith))),
  λ l. late-at v d.lists h 2 (omega arith) (omega (arith, counts, section-count-mono v 3 (omega arith))),
  λ l. late-at v d.lists h 3 (omega arith) (omega (arith, counts, section-count-mono v 3 (omega arith))),
)

-- ---- W5: the bytes after a core of s bytes
after-acts : (s : ℕ) (d : Description) → RoomAfter s d → s + 8 * length (joined 4 d.lists) + length (plat_bytes d) ≤ 4096
unfolding joined plat_bytes
after-acts s d t = let r = go (dec_lt 0 (length d.fields)) in simp length-append (omega arith)
  where
    go : Dec (0 < length d.fields) →
        s + 8 * (length (d.lists 0) + length (d.lists 1) + length (d.lists 2) + length (d.lists 3)) + length
        (with_mark d.fields) ≤ 4096
    go (yes l) = let m = t.1 l in omega (arith, marked-some d.fields (λ z. omega arith))
    go (no l) = let e : length d.fields ≡ 0 = omega arith in let m = t.0 e in omega (arith, marked-none d.fields e)

after-only : (s : ℕ) (d : Description) → s + 8 * length (joined 4 d.lists) + length (plat_bytes d) ≤ 4096 → RoomAfter s d
unfolding joined plat_bytes
after-only s d h =
    let q = simp length-append at h in
    (λ e. omega (arith, marked-none d.fields e), λ l. omega (arith, marked-some d.fields (λ z. omega arith)))

room-acts : (v : ℕ) (d : Description) → EditionFacts v → RoomFacts v d → used v d ≤ 4096
unfolding used
room-acts zero d e t = absurd (not-suc-le-zero e.0)
room-acts (suc zero) d e t = rw core-sizes.0 (after-acts 16 d (t.0 refl))
room-acts (suc (suc zero)) d e t = rw core-sizes.1 (after-acts 40 d (t.1 refl))
room-acts (suc (suc (suc zero))) d e t = rw core-sizes.2 (after-acts 64 d (t.2 refl))
room-acts (suc (suc (suc (suc zero)))) d e t = rw core-sizes.3 (after-acts 112 d (t.3 refl))
room-acts (suc (suc (suc (suc (suc v))))) d e t = absurd (let l = e.1 in let z : ⊥ = omega arith in z)

room_at : (v s : ℕ) (d : Description) → core v ≡ s → used v d ≤ 4096 → RoomAfter s d
unfolding used
room_at v s d e h = after-only s d (rw (← e) h)

room-only : (v : ℕ) (d : Description) → used v d ≤ 4096 → RoomFacts v d
room-only v d h = (
  λ e. room_at v 16 d (rw e core-sizes.0) h,
  λ e. room_at v 40 d (rw e core-sizes.1) h,
  λ e. room_at v 64 d (rw e core-sizes.2) h,
  λ e. room_at v 112 d (rw e core-sizes.3) h,
)

-- ---- "A page is made when the writer does not refuse", and the writer refuses only for W1 to W5
module _ (base n v : ℕ) (d : Description) where
  pub makes : Unrefused base n v d → write_of base n v d ≡ a-page (page_of base v d)
  makes t =
      let e = t.edition in
      w-made base n v d (place-acts base n t.place) (edition-of v e.0 e.1) (lists-are v d t.description)
      (fields-are v d t.description)
      (late-acts v d t.late) (le-leb (used v d) 4096 (room-acts v d e t.room))

  -- for fields in bytes, as lent ones are
  pub makes-only : (p : List ℕ) → Bytes d.fields → write_of base n v d ≡ a-page p → Unrefused base n v d
  unfolding write_of
  makes-only p b h =
      let g = (writer-gate-page _ _ _ _ _ _ _ h).0 in
      record {
        place = placed base n g.0;
        edition = edition-range v g.1;
        description = description-only v d g.2 b;
        late = late-only v d g.3;
        room = room-only v d (leb-true _ _ g.4);
      }

  w-description : Yes (place_ok base n) → Yes (edition_ok v) → description_ok v d ≡ false → write_of base n v d ≡ no-page 3
  unfolding write_of writer_gate
  w-description p e h = rw (p, e, h)

  -- "Writer refusals, in order"
  pub refuses : Bytes d.fields → WriteRefuses base n v d
  refuses b =
      record {
        w1 = λ f. w-place base n v d (no_test _ (λ y. f (placed base n y)));
        w2 = λ p f. w-edition base n v d (place-acts base n p) (no_test _ (λ y. f (edition-range v y)));
        w3 = λ p e f. w-description (place-acts base n p) (edition-of v e.0 e.1) (no_test _ (λ y. f (description-only v d y b)));
        w4 =
            λ p e t f. w-late base n v d (place-acts base n p) (edition-of v e.0 e.1) (lists-are v d t) (fields-are v d t)
            (no_test _ (λ y. f (late-only v d y)));
        w5 = λ p e t l f.
            w-room base n v d (place-acts base n p) (edition-of v e.0 e.1) (lists-are v d t) (fields-are v d t) (late-acts v d l)
            (no_test _ (λ y. f (room-only v d (leb-true _ _ y))));
      }
