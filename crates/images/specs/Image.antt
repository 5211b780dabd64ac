-- States and answers as images, the lists of words that a C caller lends (CE1). Every image has a state, also a forged one (CE2). Assumes
-- nothing.
use Rattle.std.specs.Prelude.{ℕ, ◌+◌, Bool, cond, List, [], ◌∷◌, get_or, replicate, eqb, Option, Some, None, Ok, Err}
use Rattle.words.specs.declared.Span.{Span}
use Rattle.boot.specs.declared.Record.{Record}
use Rattle.boot.specs.declared.Record.TheVariants.{Fresh, Up, Closed}
use Rattle.codes.specs.Codes.{is_false}
use Rattle.codes.specs.declared.Answer.{Answer}
use Rattle.codes.specs.declared.Work.{Work}
use Rattle.codes.specs.declared.Work.TheVariants.{Nothing, Reprogram}
use Rattle.fields.specs.declared.FieldPlace.{FieldPlace}
use Rattle.fields.specs.declared.FieldPlace.TheVariants as place
use Rattle.reader.specs.Answer.{ReaderAnswer, refused, shows}
use Rattle.reader.specs.Reading.{view_at}
use Rattle.reader.specs.declared.Section.{Section}
use Rattle.reader.specs.declared.Section.TheVariants.{Absent, Empty, Entries}
use Rattle.reader.specs.declared.View.{View}
use Rattle.runtime.specs.declared.Reply.{Reply}
use Rattle.runtime.specs.declared.Reply.TheVariants.{Forward, Back}
use Rattle.token_rules.specs.declared.Session.{Session}
use Rattle.token_rules.specs.declared.Session.TheVariants.{Idle, Sending}
use Rattle.writer_rules.specs.Write.{Made, no-page, a-page}
use Rattle.writer_rules.specs.Wrote.{Wrote}
use Rattle.writer_rules.specs.declared.WriteError.TheVariants.{Place, Edition, BadEntry, SectionAfterEdition, TooLong}

-- ---- the boot record: 0 fresh, 1 up, any other number closed; then cpus, base, minor and kept bytes
unfoldable pub record_of : List ℕ → Record
record_of w =
    cond (eqb (get_or w 0 0) 0) Fresh
    (cond (eqb (get_or w 0 0) 1) (Up (record { cpus = get_or w 1 0; base = get_or w 2 0; minor = get_or w 3 0; kept = get_or w 4 0 }))
    Closed)

-- the image of a boot record
unfoldable pub record_words : Record → List ℕ
record_words Fresh = 0 ∷ 0 ∷ 0 ∷ 0 ∷ 0 ∷ []
record_words (Up u) = 1 ∷ u.cpus ∷ u.base ∷ u.minor ∷ u.kept ∷ []
record_words Closed = 2 ∷ 0 ∷ 0 ∷ 0 ∷ 0 ∷ []

-- ---- a flag: any number except 0 is set (CE2)
unfoldable pub is_set : ℕ → Bool
is_set n = is_false (eqb n 0)

-- ---- the token session: 0 idle, any other number sending; then the token's length at its start, and the number of bytes sent
unfoldable pub session_of : List ℕ → Session
session_of w = cond (eqb (get_or w 0 0) 0) Idle (Sending (get_or w 1 0) (get_or w 2 0))

-- the image of a session
unfoldable pub session_words : Session → List ℕ
session_words Idle = 0 ∷ 0 ∷ 0 ∷ []
session_words (Sending whole sent) = 1 ∷ whole ∷ sent ∷ []

-- ---- the result registers, x0 to x2
unfoldable pub register_words : Answer → List ℕ
register_words a = a.x0 ∷ a.x1 ∷ a.x2 ∷ []

-- ---- what the platform must do: 0 nothing, or 1 and the mecid to reprogram
unfoldable pub work_words : Work → List ℕ
work_words Nothing = 0 ∷ 0 ∷ []
work_words (Reprogram mecid) = 1 ∷ mecid ∷ []

-- ---- the view of a page: its minor, the edition that it was read as, plat_data, and three words for each section: 0 absent, 1 empty, or
-- any other number with offset and number of the entries
unfoldable pub section_by : ℕ → ℕ → ℕ → Section
section_by tag at count = cond (eqb tag 0) Absent (cond (eqb tag 1) Empty (Entries at count))

-- the first word of a section: its kind
unfoldable pub tag_word : Section → ℕ
tag_word Absent = 0
tag_word Empty = 1
tag_word (Entries at count) = 2

-- the offset of its entries; 0 without entries
unfoldable pub place_word : Section → ℕ
place_word Absent = 0
place_word Empty = 0
place_word (Entries at count) = at

-- its number of entries; 0 without entries
unfoldable pub count_word : Section → ℕ
count_word Absent = 0
count_word Empty = 0
count_word (Entries at count) = count

-- the section whose three words start at word i of an image
unfoldable pub section_in : ℕ → List ℕ → Section
section_in i w = section_by (get_or w i 0) (get_or w (i + 1) 0) (get_or w (i + 2) 0)

-- the view of an image
unfoldable pub view_of : List ℕ → View
view_of w =
    record {
      minor = get_or w 0 0;
      edition = get_or w 1 0;
      plat = get_or w 2 0;
      dram = section_in 3 w;
      console = section_in 6 w;
      ncoh = section_in 9 w;
      coh = section_in 12 w;
    }

-- the three words of a section, as a list
unfoldable pub section_words : Section → List ℕ
section_words s = tag_word s ∷ place_word s ∷ count_word s ∷ []

-- the image of a view
unfoldable pub view_words : View → List ℕ
view_words v =
    v.minor ∷ v.edition ∷ v.plat ∷
    tag_word v.dram ∷ place_word v.dram ∷ count_word v.dram ∷
    tag_word v.console ∷ place_word v.console ∷ count_word v.console ∷
    tag_word v.ncoh ∷ place_word v.ncoh ∷ count_word v.ncoh ∷
    tag_word v.coh ∷ place_word v.coh ∷ count_word v.coh ∷ []

-- the image of the view for a reader's answer on a page at this base; zeros if the reader refuses the page
unfoldable pub answer_words : ℕ → List ℕ → ReaderAnswer → List ℕ
answer_words base page (refused c) = replicate 15 0
answer_words base page (shows w e q s) = view_words (view_at w e base page)

-- ---- the writer's answer as a number: 0 for a page, or 1 to 5 for W1 to W5
unfoldable pub made_number : Made → ℕ
made_number (no-page n) = n
made_number (a-page p) = 0

-- the same for the result in the code
unfoldable pub wrote_number : Wrote → ℕ
wrote_number (Ok u) = 0
wrote_number (Err Place) = 1
wrote_number (Err Edition) = 2
wrote_number (Err BadEntry) = 3
wrote_number (Err SectionAfterEdition) = 4
wrote_number (Err TooLong) = 5

-- ---- a part of the page: its offset and its length
unfoldable pub span_words : Span → List ℕ
span_words p = p.at ∷ p.len ∷ []

-- ---- the result of a field lookup: 0 if there is no such field; 1, its tag, and the offset and the length of its value; or 2 and its tag
-- if it is withdrawn
unfoldable pub field_words : Option FieldPlace → List ℕ
field_words (Some (place.Raw t at n)) = 1 ∷ t ∷ at ∷ n ∷ []
field_words (Some place.Withdrawn) = 2 ∷ 3 ∷ 0 ∷ 0 ∷ []
field_words None = 0 ∷ 0 ∷ 0 ∷ 0 ∷ []

-- ---- the result of a console lookup by name: its index, or 2^64 - 1 if no console has the name
unfoldable pub console_number : Option ℕ → ℕ
console_number (Some i) = i
console_number None = 0xFFFF_FFFF_FFFF_FFFF

-- ---- the dispatcher's reply: the result registers, which are zero for 0xC400018F; and what the platform must do, where 2 means to forward
-- an error code to the Non-secure world
unfoldable pub reply_registers : Reply → List ℕ
reply_registers (Forward n) = 0 ∷ 0 ∷ 0 ∷ []
reply_registers (Back a work) = register_words a

-- what the platform must do after a reply
unfoldable pub reply_words : Reply → List ℕ
reply_words (Forward n) = 2 ∷ n ∷ []
reply_words (Back a work) = work_words work
