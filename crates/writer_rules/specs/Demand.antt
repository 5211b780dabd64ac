-- Demand 3, over the definitions that the promises of reader, lookup and writer cite: readers of two editions, pages that the writer makes,
-- and bytes that no reader looks at. An answer holds each section's entries, the bytes that the lookup returns for it, and the fields as
-- shown, so each statement also covers these lookups. Assumes nothing.
use Rattle.std.specs.Prelude.{ℕ, min, ◌≤◌, ◌≡◌, List, map, length, get_or, ℤ}
use Rattle.words.specs.Tests.{Yes}
use Rattle.versions.specs.Edition.{edition_ok}
use Rattle.fields.specs.Fields.{Field, raw}
use Rattle.fields.specs.Facts.{fields_bytes, FieldsKeep}
use Rattle.reader.specs.Answer.{Shown, PlatShown, refused, shows, read_of, fields_shown, up_to_edition, named}
use Rattle.writer_checks.specs.Description.{Description}
use Rattle.writer_rules.specs.Unrefused.{NoneWithdrawn}
use Rattle.writer_rules.specs.Write.{a-page, write_of, description_fits, described, plat_described}

-- CP1 to CP7, also called demand 3
pub record Demand3 : Type 0 where
  -- CP1: "For every page, every base address and any two reader editions from 1 to 4: if the newer reader accepts, the older accepts
  -- too. It then shows the same version and platform pointer, and the same sections, less those that came after its edition."
  pub newer : (r r' base : ℕ) (page : List ℕ) → 1 ≤ r → r ≤ r' → r' ≤ 4 → (w e : ℕ) (q : PlatShown) (s : ℕ → Shown) →
      read_of r' base page ≡ shows w e q s → read_of r base page ≡ shows w (min r w) q (up_to_edition r s)
  -- CP2: "If the older one refuses, the newer gives the same code."
  pub older : (r r' base : ℕ) (page : List ℕ) → 1 ≤ r → r ≤ r' → r' ≤ 4 → (c : ℤ) → read_of r base page ≡ refused c →
      read_of r' base page ≡ refused c
  -- CP4, CP5: "Whatever lists our writer is given and whatever the page held before: each page that it makes, at any edition from 1 to 4,
  -- is accepted by every reader of edition 1 to 4 at the base address it was made for. That reader shows exactly the sections
  -- that both editions have, as they were described." Request E7: "Demand 3 then covers the fields". The lists hold 64-bit words, as
  -- `write` promises for lent lists. `write_of` takes only the length of the lent page, and makes a page only at editions 1 to 4.
  pub written : (base n v : ℕ) (d : Description) (p : List ℕ) → Yes (description_fits d) → write_of base n v d ≡ a-page p →
      (r : ℕ) → Yes (edition_ok r) → read_of r base p ≡ shows v (min r v) (plat_described base v d) (described (min r v) d)
  -- CP5 for fields given as a list. If the list keeps E7's rules and has no withdrawn field, the reader shows each field with its tag and
  -- value, in list order, and no other field.
  pub fields : (base n v : ℕ) (d : Description) (fs : List Field) (p : List ℕ) → Yes (description_fits d) → d.fields ≡ fields_bytes fs →
      FieldsKeep fs → NoneWithdrawn fs →
      write_of base n v d ≡ a-page p → (r : ℕ) → Yes (edition_ok r) → fields_shown (read_of r base p) ≡ map (λ f. raw f.tag f.value) fs
  -- CP6: "Two pages of one length that agree in all the bytes that the smaller edition names get the same answer, whatever their
  -- other bytes hold." The named bytes are those of the first page, for min(reader's edition, page's minor).
  -- `others-unnamed` of the reader proves that no other byte is named than those of RD13.
  pub unread : (r base : ℕ) (p q : List ℕ) → length p ≡ length q → ((i : ℕ) → Yes (named r base p i) → get_or p i 0 ≡ get_or q i 0) →
      read_of r base p ≡ read_of r base q
