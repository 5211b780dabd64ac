-- Request E2: "Setting up the record takes the banks shown by the manifest reader." Assumes nothing.
use Prim.Native.Nat.{ℕ, ◌+◌, ◌-◌, ◌*◌, ◌/◌, ◌≤◌, ◌<◌}
use mathlib.Core.Path.{◌≡◌, refl, sym, ◌∙◌}
use mathlib.Core.Bool.{Bool, true, false, cond}
use mathlib.Core.List.{List, []}
use native.Mathlib.Omega.{arith}
use lib.ListN.{length, get_or, take, drop, length-take}
use lib.Dec.{ltb, eqb}
use Rattle.words.specs.Word.{part, word_at, words_of}
use Rattle.words.proofs.Read.{words_of-at}
use Rattle.entries.specs.Entry.{words_per_entry, size, shown_words}
use Rattle.sections.specs.Page.{in_page, array_at, count_at, pointer_at, PageSection, page_section, page_section_at}
use Rattle.sections.specs.Section.{words_in}
use Rattle.versions.specs.Edition.{section_count}
use Rattle.reader.specs.Answer.{Shown, absent, empty, full, ReaderAnswer, shown_sec, shown, all_shown, reader_gate, judge, read_of, bytes_in}
use Rattle.reader.specs.Answer.{look_in, look_of, entry_word, word_in, entry_count, count_in}
use Rattle.codes.specs.declared.Code.TheVariants.{Ok}
use Rattle.banks.specs.Banks.{Granules, Bank, banks_by, banks_of, bank_in, banks_in, set_up_code, set_up_of}
use Rattle.banks.specs.Banks as banks
use Rattle.banks.proofs.Making.{banks-same, banks-made}
use Rattle.export_rules.specs.ShownBanks.{shown_banks}

-- ---- for a section with entries
word-is : (bs : List ℕ) (c i j off : ℕ) → off ≡ 8 * (2 * i + j) → 2 * i + j < 2 * c →
    word_at off bs ≡ get_or (words_of (2 * c) bs) (2 * i + j) 0
word-is bs c i j off e l = rw e (sym (words_of-at (2 * c) bs (2 * i + j) l))

entry-bank : List ℕ → ℕ → ℕ → Bank
entry-bank bs c i = record { base = get_or (words_of (2 * c) bs) (2 * i + 0) 0; size = get_or (words_of (2 * c) bs) (2 * i + 1) 0 }

full-banks : (bs : List ℕ) (c : ℕ) → length bs ≤ 16 * c → banks_in (length bs / 16) bs ≡ banks_by (entry-bank bs c) 0 (length bs / 16)
unfolding entry-bank
full-banks bs c h =
    banks-same (bank_in bs) (entry-bank bs c) 0 (length bs / 16)
    (λ i l. rw (word-is bs c i 0 (16 * i) (omega arith) (omega arith), word-is bs c i 1 (16 * i + 8) (omega arith) (omega arith)))

-- ---- for any section, and for a reader's answer
abbrev Alike : Shown → Type 0
Alike s =
    banks_in (length (bytes_in s) / 16) (bytes_in s) ≡ banks_by (λ i. record { base = entry_word 0 i 0 s; size = entry_word 0 i 1 s }) 0
    (entry_count 0 s)

section-alike : (w e : ℕ) (s : PageSection) → length s.bytes ≤ 16 * s.count → Alike (shown w e 0 s)
unfolding shown shown_sec shown_words words_in bytes_in entry_word entry_count words_per_entry banks_by entry-bank
section-alike w e s h = go (ltb 0 (section_count e)) (eqb s.count 0)
  where
    go : (a b : Bool) → Alike (cond a (cond b empty (full (words_of (2 * s.count) s.bytes) s.bytes)) absent)
    go true true = refl
    go true false = full-banks s.bytes s.count h
    go false b = refl

array-short : (base : ℕ) (page : List ℕ) (p n : ℕ) → length (array_at base page p n) ≤ n
unfolding array_at part
array-short base page p n = go (in_page base p n)
  where
    go : (b : Bool) → length (cond b (take n (drop (p - base) page)) []) ≤ n
    go true = omega (arith, length-take n (drop (p - base) page))
    go false = omega arith

section-short : (base : ℕ) (page : List ℕ) → length (page_section_at base page 0).bytes ≤ 16 * (page_section_at base page 0).count
unfolding page_section_at page_section size words_per_entry
section-short base page =
    let h : length (page_section_at base page 0).bytes ≤ 8 * (2 * count_at 0 page) = array-short base page (pointer_at 0 page)
    (8 * (2 * count_at 0 page)) in
    omega arith

abbrev AlikeOf : ReaderAnswer → Type 0
AlikeOf a = banks_in (banks.shown_count (look_in a 0)) (look_in a 0) ≡ shown_banks a

gate-alike : (p v o : Bool) (a : ReaderAnswer) → AlikeOf a → AlikeOf (reader_gate p v o a)
unfolding reader_gate look_in word_in count_in banks_by
gate-alike true true true a h = h
gate-alike true true false a h = refl
gate-alike true false o a h = refl
gate-alike false v o a h = refl

-- the banks in the bytes that the array lookup finds are those that the reader shows; for a refused page there are no banks
pub banks-shown : (r base : ℕ) (page : List ℕ) → banks_in (banks.shown_count (look_of r base page 0)) (look_of r base page 0) ≡ shown_banks
    (read_of r base page)
unfolding look_of read_of judge all_shown look_in word_in count_in
banks-shown r base page = gate-alike _ _ _ _ (section-alike _ _ (page_section_at base page 0) (section-short base page))

-- so a record set up from them has these banks
pub set-up-banks : (r base : ℕ) (page : List ℕ) (n : ℕ) (g : Granules) → set_up_code (look_of r base page 0) n ≡ Ok →
    banks_of (set_up_of (look_of r base page 0) n g).granules ≡ shown_banks (read_of r base page)
unfolding set_up_of
set-up-banks r base page n g h =
    rw h (banks-made (banks.shown_count (look_of r base page 0)) (look_of r base page 0) ∙ banks-shown r base page)
