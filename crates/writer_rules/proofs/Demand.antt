-- Demand 3, proved. Assumes nothing.
use Rattle.std.proofs.Common.{Ok}
use Prim.Native.Nat.{ℕ, ◌+◌, min}
use mathlib.Core.Path.{◌≡◌, refl, sym, ap, ◌∙◌}
use mathlib.Core.Bool.{Bool, true, false, cond}
use mathlib.Core.List.{List, [], ◌∷◌, map}
use native.Mathlib.Omega.{arith}
use lib.ListN.{length}
use lib.Dec.{eqb}
use Rattle.words.specs.Tests.{Yes}
use Rattle.versions.specs.Edition.{edition_ok}
use Rattle.fields.specs.Fields.{Field, count, raw, withdrawn, shown_field, shown_fields, fields_described}
use Rattle.fields.specs.Facts.{fields_bytes, FieldsKeep}
use Rattle.fields.proofs.Facts.{keep-acts, run-told}
use Rattle.reader.specs.Answer.{shows, read_of, fields_shown}
use Rattle.reader.proofs.Newer.{newer-accepts, older-refuses}
use Rattle.reader.proofs.Named.{unnamed}
use Rattle.writer_checks.specs.Description.{Description, description_of}
use Rattle.writer_rules.specs.Write.{a-page, write_of, description_fits, described, plat_described}
use Rattle.writer_rules.specs.Wrote.{write_lists, made_by}
use Rattle.writer_rules.specs.Demand.{Demand3}
use Rattle.writer_rules.specs.Unrefused.{NoneWithdrawn}
use Rattle.writer_rules.proofs.Round.{round}
use Rattle.writer_rules.proofs.Makes.{none-count}

-- a list without a withdrawn field is shown unchanged
shown-raw : (fs : List Field) → count 3 fs ≡ 0 → shown_fields fs ≡ map (λ f. raw f.tag f.value) fs
unfolding count shown_fields shown_field
shown-raw [] h = refl
shown-raw (f ∷ fs) h = go (eqb f.tag 3) h (λ z. shown-raw fs z)
  where
    go : (b : Bool) → cond b 1 0 + count 3 fs ≡ 0 → (count 3 fs ≡ 0 → shown_fields fs ≡ map (λ f. raw f.tag f.value) fs) →
        cond b withdrawn (raw f.tag f.value) ∷ shown_fields fs ≡ map (λ f. raw f.tag f.value) (f ∷ fs)
    go true z r = absurd (let y : ⊥ = omega arith in y)
    go false z r = ap (λ gs. raw f.tag f.value ∷ gs) (r (omega arith))

fields_back : (base n v : ℕ) (d : Description) (fs : List Field) (p : List ℕ) → Yes (description_fits d) → d.fields ≡ fields_bytes fs →
    FieldsKeep fs → NoneWithdrawn fs →
    write_of base n v d ≡ a-page p → (r : ℕ) → Yes (edition_ok r) → fields_shown (read_of r base p) ≡ map (λ f. raw f.tag f.value) fs
unfolding fields_shown plat_described fields_described
fields_back base n v d fs p wd t k z h r e =
    ap fields_shown (round base n v d p wd h r e) ∙ rw (t, run-told fs (keep-acts fs k)) (shown-raw fs (none-count fs z))

pub demand3 : Demand3
demand3 = record {
  newer = λ r r' base page lo h hi. newer-accepts r r' lo h hi base page;
  older = λ r r' base page lo h hi. older-refuses r r' lo h hi base page;
  written = round;
  fields = fields_back;
  unread = unnamed;
}

-- The third statement for a call of `write` that made a page. Its premises are the promises of `write` about the answer and the lent lists.
pub written-lent : (base v : ℕ) (dram console ncoh coh fields before after : List ℕ) →
    made_by after (Ok tt) ≡ write_lists base v dram console ncoh coh fields before →
    Yes (description_fits (description_of dram console ncoh coh fields)) →
    (r : ℕ) → Yes (edition_ok r) →
    read_of r base after ≡ shows v (min r v) (plat_described base v (description_of dram console ncoh coh fields))
    (described (min r v) (description_of dram console ncoh coh fields))
unfolding made_by
written-lent base v dram console ncoh coh fields before after h f =
    round base (length before) v (description_of dram console ncoh coh fields) after f (sym h)
