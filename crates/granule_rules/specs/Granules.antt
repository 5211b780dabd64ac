-- 0xC40001B0, B1: delegate, undelegate.
-- "The granule table is one byte a granule ..: 0 Non-secure, 1 Realm, 2 Root, 3 Secure; other bytes are none of these (house codes)."
-- (BN2) The banks decide the granule of an address (BN7). Assumes nothing.
use Rattle.std.specs.Prelude.{ℕ, ◌≡◌, Bool, false, List, length, get_or, set, eqb, Option, Some, None}
use Rattle.banks.specs.Banks.{Granules, granule_count, granule_at}
use Rattle.realm_words.specs.Bits.{realm_bit, put_bit, realm_words}
use Rattle.realm_words.specs.Answers.{words_fit}
use Rattle.boot.specs.declared.Params.{Params}
use Rattle.boot.specs.declared.Record.{Record}
use Rattle.codes.specs.Codes.{is_false, fails, boot_params, when_up, if_ok, answer_of}
use Rattle.codes.specs.declared.Code.{Code}
use Rattle.codes.specs.declared.Code.TheVariants.{Ok, BadAddr, BadPas, Inval}
use Rattle.codes.specs.declared.Answer.{Answer}
use Rattle.granule_rules.specs.declared.Direction.{Direction}
use Rattle.granule_rules.specs.declared.Direction.TheVariants.{Delegate, Undelegate}

-- ---- what delegation changes: the table's bytes, and the words. Request E6: "Beside the table keep lent 64-bit words" (RW1)
pub record GranuleTable : Type 0 where
  pub bytes : List ℕ
  pub words : List ℕ

-- the table of these bytes and words
abbrev pub table_of : List ℕ → List ℕ → GranuleTable
table_of bytes words = record { bytes = bytes; words = words }

-- ---- a call
-- the byte that a granule must have: "0 (delegate) or 1 (undelegate)" (CM2.5, CM3.5)
unfoldable pub from_byte : Direction → ℕ
from_byte Delegate = 0
from_byte Undelegate = 1

-- "Then it becomes 1 or 0." (CM2.6, CM3.6)
unfoldable pub to_byte : Direction → ℕ
to_byte Delegate = 1
to_byte Undelegate = 0

-- Request E8: "Once the boot record is up, if the shared page is a granule of the table, undelegating it is refused." (SH1): the address is
-- B, which the boot record keeps in u. Delegating it has no extra check (SH2).
unfoldable pub is_shared_page : Params → Direction → ℕ → Bool
is_shared_page u Delegate addr = false
is_shared_page u Undelegate addr = eqb addr u.base

-- "BAD_ADDR unless .. the address falls on a granule of the table. BAD_PAS unless that byte is 0 (delegate) or 1 (undelegate).", amended
-- by request E8: "BAD_ADDR for that granule, right after the granule address check" (CM2.3, CM2.5, CM3.3 to CM3.5)
unfoldable pub granule_code : Params → Direction → GranuleTable → ℕ → Option ℕ → Code
granule_code u d t addr None = BadAddr
granule_code u d t addr (Some i) =
    fails (is_shared_page u d addr) BadAddr
    (fails (is_false (eqb (get_or t.bytes i 0) (from_byte d))) BadPas
    Ok)

-- the code of a call after the checks of words and boot record
unfoldable pub move_code : Params → Granules → Direction → GranuleTable → ℕ → Code
move_code u g d t addr = granule_code u d t addr (granule_at g (length t.bytes) addr)

-- the table with that granule's byte set. Request E6: "Delegate and undelegate write their granule's bit too and no other" (RW3)
unfoldable pub granule_set : Direction → GranuleTable → Option ℕ → GranuleTable
granule_set d t None = t
granule_set d t (Some i) = table_of (set t.bytes i (to_byte d)) (put_bit t.words i (realm_bit (to_byte d)))

-- the table after a call that is OK
unfoldable pub moved : Granules → Direction → GranuleTable → ℕ → GranuleTable
moved g d t addr = granule_set d t (granule_at g (length t.bytes) addr)

-- the answer, and the table at exit
pub record Moved : Type 0 where
  pub answer : Answer
  pub table : GranuleTable

-- the result of a call with code k: `new` if k is OK, otherwise the table is unchanged
unfoldable pub moved_by : Code → GranuleTable → GranuleTable → Moved
moved_by k new old = record { answer = answer_of k 0 0; table = if_ok k new old }

-- Request E6: "INVAL, before all other checks of any call on words, .. if their number is not the record's granules over 64, rounded up"
-- (CM2.1, CM3.1)
abbrev pub fitting : Granules → GranuleTable → Bool
fitting g t = words_fit t.words (granule_count g)

-- INVAL if the number of words is wrong, otherwise k (CM2.1, CM3.1)
unfoldable pub when_fit : Granules → GranuleTable → Code → Code
when_fit g t k = fails (is_false (fitting g t)) Inval k

-- delegation in either direction
unfoldable pub move_of : Record → Granules → Direction → GranuleTable → ℕ → Moved
move_of s g d t addr = moved_by (when_fit g t (when_up s (move_code (boot_params s) g d t addr))) (moved g d t addr) t

-- the delegate command (CM2)
abbrev pub delegate_of : Record → Granules → GranuleTable → ℕ → Moved
delegate_of s g t addr = move_of s g Delegate t addr

-- the undelegate command (CM3)
abbrev pub undelegate_of : Record → Granules → GranuleTable → ℕ → Moved
undelegate_of s g t addr = move_of s g Undelegate t addr

-- the result of a call, from its answer and the lent bytes and words at exit
unfoldable pub moved_to : Answer → List ℕ → List ℕ → Moved
moved_to a bytes words = record { answer = a; table = table_of bytes words }

-- ---- "If words and table agree": request E6: "agreement, spare bits zero too" (RW6)
abbrev pub Agrees : GranuleTable → Type 0
Agrees t = t.words ≡ realm_words t.bytes
