-- State to image and image to state are inverse to each other. Assumes nothing.
use Prim.Native.Nat.{ℕ}
use mathlib.Core.Path.{◌≡◌, refl}
use mathlib.Core.List.{List}
use Rattle.boot.specs.declared.Record.{Record}
use Rattle.boot.specs.declared.Record.TheVariants.{Fresh, Up, Closed}
use Rattle.reader.specs.declared.Section.{Section}
use Rattle.reader.specs.declared.Section.TheVariants.{Absent, Empty, Entries}
use Rattle.reader.specs.declared.View.{View}
use Rattle.token_rules.specs.declared.Session.{Session}
use Rattle.token_rules.specs.declared.Session.TheVariants.{Idle, Sending}
use Rattle.images.specs.Image.{record_of, record_words, session_of, session_words, section_by, tag_word, place_word, count_word, section_in}
use Rattle.images.specs.Image.{view_of, view_words}

-- the state of a state's image is that state
pub record-back : (r : Record) → record_of (record_words r) ≡ r
unfolding record_of record_words
record-back Fresh = refl
record-back (Up u) = refl
record-back Closed = refl

pub session-back : (s : Session) → session_of (session_words s) ≡ s
unfolding session_of session_words
session-back Idle = refl
session-back (Sending whole sent) = refl

section-back : (s : Section) → section_by (tag_word s) (place_word s) (count_word s) ≡ s
unfolding section_by tag_word place_word count_word
section-back Absent = refl
section-back Empty = refl
section-back (Entries at count) = refl

pub view-back : (v : View) → view_of (view_words v) ≡ v
unfolding view_of view_words section_in
view-back v = rw (section-back v.dram, section-back v.console, section-back v.ncoh, section-back v.coh)

-- the image of an image's state is that image, if some state has it
pub record-again : (w : List ℕ) (r : Record) → w ≡ record_words r → record_words (record_of w) ≡ w
record-again w r e = rw (e, record-back r)

pub session-again : (w : List ℕ) (s : Session) → w ≡ session_words s → session_words (session_of w) ≡ w
session-again w s e = rw (e, session-back s)

pub view-again : (w : List ℕ) (v : View) → w ≡ view_words v → view_words (view_of w) ≡ w
view-again w v e = rw (e, view-back v)
