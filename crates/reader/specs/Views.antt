-- What an accepted page shows, field by field (RD10). Assumes nothing.
use Rattle.std.specs.Prelude.{ℕ, ◌+◌, ◌-◌, ◌*◌, ◌≤◌, ◌<◌, min, ◌≡◌, List}
use Rattle.words.specs.Word.{part, word_at}
use Rattle.versions.specs.Version.{minor_of}
use Rattle.versions.specs.Edition.{section_count}
use Rattle.entries.specs.Entry.{words_per_entry, size, shown_words}
use Rattle.entries.specs.Array.{words_at}
use Rattle.fields.specs.Fields.{fields_in, shown_fields}
use Rattle.sections.specs.Page.{version_at, count_at, pointer_at, found_at}
use Rattle.reader.specs.Answer.{Shown, absent, empty, full, PlatShown, entry_word}

-- "It shows w, e, plat_data, and for each of the four sections absent (not in e), empty, or the entries in order" (RD10), with the bytes of
-- the array, all as the page has them
pub record PageShown (r base : ℕ) (page : List ℕ) (w e : ℕ) (q : PlatShown) (s : ℕ → Shown) : Type 0 where
  pub minor : w ≡ minor_of (version_at page)
  pub edition : e ≡ min r w
  pub plat : q.pointer ≡ word_at 8 page
  pub fields : q.fields ≡ shown_fields (fields_in (found_at base page (word_at 8 page)))
  pub later : (k : ℕ) → section_count e ≤ k → s k ≡ absent
  pub none : (k : ℕ) → k < section_count e → count_at k page ≡ 0 → s k ≡ empty
  pub entries : (k : ℕ) → k < section_count e → (count_at k page ≡ 0 → ⊥) →
      s k ≡ full (shown_words w k (words_at k (count_at k page) (pointer_at k page - base) page))
      (part (pointer_at k page - base) (size k (count_at k page)) page)
  -- word j of entry i is the page's own word, except a console's flags (word 5) from minor 5 on
  pub words : (k i j : ℕ) → k < section_count e → i < count_at k page → j < words_per_entry k → (k ≡ 1 → j ≡ 5 → w ≤ 4) →
      entry_word k i j (s k) ≡ word_at (pointer_at k page - base + 8 * (words_per_entry k * i + j)) page
  -- Request E3: from minor 5 on "the console is shown and listed with flags 0" (RD11)
  pub flags : (i : ℕ) → 1 < section_count e → i < count_at 1 page → 4 < w → entry_word 1 i 5 (s 1) ≡ 0
