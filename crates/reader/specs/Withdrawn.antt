-- Request E10: a withdrawn value is not read (FD9). The bytes that an edition names contain it ("through the end mark"), so demand 3 does
-- not cover this. Assumes nothing.
use Rattle.std.specs.Prelude.{ℕ, ◌+◌, ◌-◌, Bool, false, ◌≡◌, List, length, get_or}
use Rattle.words.specs.Tests.{both}
use Rattle.words.specs.Word.{word_at}
use Rattle.fields.specs.Fields.{fields_in}
use Rattle.fields.specs.Withdrawn.{in_withdrawn}
use Rattle.sections.specs.Page.{found_at}
use Rattle.reader.specs.Answer.{Shown, PlatShown, shows, read_of, in_plat}

-- byte i of the page is in the value of a withdrawn field
unfoldable pub withdrawn_byte : ℕ → List ℕ → ℕ → Bool
withdrawn_byte base page i =
    both (in_plat base page i) (in_withdrawn (fields_in (found_at base page (word_at 8 page))) (base + i - word_at 8 page))

-- If two pages of equal length differ only in the withdrawn value of the first, and a reader accepts the first, it gives both the same
-- answer.
abbrev pub ValueUnread : Type 0
ValueUnread =
    (r base : ℕ) (p q : List ℕ) → length p ≡ length q → ((i : ℕ) → withdrawn_byte base p i ≡ false → get_or p i 0 ≡ get_or q i 0) →
    (w e : ℕ) (x : PlatShown) (s : ℕ → Shown) → read_of r base p ≡ shows w e x s → read_of r base q ≡ shows w e x s
