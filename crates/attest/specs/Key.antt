-- 0xC40001B2: realm key (CM4). Assumes nothing.
use Rattle.std.specs.Prelude.{ℕ, List, length, ltb, eqb}
use Rattle.words.specs.Tests.{either}
use Rattle.words.specs.Word.{splice}
use Rattle.boot.specs.declared.Record.{Record}
use Rattle.buffer_check.specs.Range.{place_of, page_code}
use Rattle.buffer_check.specs.declared.OutsideAs.TheVariants.{BadAddress}
use Rattle.codes.specs.Codes.{is_false, fails, boot_params, if_ok, and_then, answer_of}
use Rattle.codes.specs.declared.Code.{Code}
use Rattle.codes.specs.declared.Code.TheVariants.{Ok, Unk, Inval}
use Rattle.codes.specs.declared.Answer.{Answer}

-- ".. curve not 0 INVAL; platform key empty or longer than the buffer UNK (house rule)." (CM4.4, CM4.5)
unfoldable pub key_rest : ℕ → ℕ → List ℕ → Code
key_rest size curve key = fails (is_false (eqb curve 0)) Inval (fails (either (eqb (length key) 0) (ltb size (length key))) Unk Ok)

-- "outside BAD_ADDR; too long INVAL;" (CM4.2, CM4.3), then the checks of `key_rest`
unfoldable pub key_code : (state : Record) (page : List ℕ) (pa size curve : ℕ) (key : List ℕ) → Code
key_code r page pa size curve key = and_then (page_code r (length page) Ok BadAddress pa size) (key_rest size curve key)

-- the answer, and the page at exit
pub record Keyed : Type 0 where
  pub answer : Answer
  pub page : List ℕ

-- "Writes the key at pa; x1 is its length." (CM4.6)
unfoldable pub keyed : Code → ℕ → List ℕ → List ℕ → Keyed
keyed k at page key =
    record {
      answer = answer_of k (if_ok k (length key) 0) 0;
      page = if_ok k (splice at key page) page;
    }

-- the realm key command
unfoldable pub realm_key_of : (state : Record) (page key : List ℕ) (pa size curve : ℕ) → Keyed
realm_key_of r page key pa size curve = keyed (key_code r page pa size curve key) (place_of (boot_params r) pa) page key
