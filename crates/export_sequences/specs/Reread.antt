-- Request E5: "A monitor rereads the manifest at each warm boot" (KB3). Assumes nothing.
use Rattle.std.specs.Prelude.{ℕ, ◌<◌, ◌≡◌, List, [], ◌∷◌}
use Rattle.words.specs.Tests.{Yes}
use Rattle.reader.specs.Answer.{named, read_of}
use Rattle.boot.specs.Boots.{Boot, booted}
use Rattle.boot.specs.declared.Record.{Record}
use Rattle.banks.specs.Banks.{Granules}
use Rattle.runtime.specs.Step.{World, Command}
use Rattle.runtime.specs.Run.{next_of}
use Rattle.runtime.specs.Kept.{HasRecord}
use Rattle.images.specs.Image.{answer_words}

-- the first n bytes of a page include every byte that decides the answer of a reader of edition r: the named bytes (demand 3, RD13)
abbrev pub Covers : ℕ → ℕ → ℕ → List ℕ → Type 0
Covers n r base page = (i : ℕ) → Yes (named r base page i) → i < n

-- the reader of edition r gets the same answer and the same view for `after` as for `page`
pub record ReadAgain (r base : ℕ) (page after : List ℕ) : Type 0 where
  pub answer : read_of r base after ≡ read_of r base page
  pub view : answer_words base after (read_of r base after) ≡ answer_words base page (read_of r base page)

-- ---- boots and commands in any order
pub data Event : Type 0 where
  boot : Boot → Event
  command : Command → Event

-- each command has the boot record at its time, or one that is not up (KB3)
unfoldable pub InTurn : Record → List Event → Type 0
InTurn s [] = Unit {0}
InTurn s (boot b ∷ es) = InTurn (booted s b) es
InTurn s (command c ∷ es) = HasRecord s c × InTurn s es

-- at each boot, and after the last event, the reader gets the same answer as for `page`
unfoldable pub ReadAtBoots : Granules → ℕ → ℕ → List ℕ → World → List Event → Type 0
ReadAtBoots g r base page w [] = ReadAgain r base page w.page
ReadAtBoots g r base page w (boot b ∷ es) = ReadAgain r base page w.page × ReadAtBoots g r base page w es
ReadAtBoots g r base page w (command c ∷ es) = ReadAtBoots g r base page (next_of g w c) es
