-- Request E10: "Consoles are now picked by name." (RD12) Assumes nothing.
use Rattle.std.specs.Prelude.{ℕ, zero, suc, ◌+◌, Bool, cond, List, eqb, Option, Some, None}
use Rattle.words.specs.Word.{word_at}
use Rattle.reader.specs.Answer.{ReaderAnswer, count_in, word_in}

-- Console i has the 8 bytes given as its name. "name (8 bytes)" (ML4): consoles are section 1, and the name is word 2 of an entry.
unfoldable pub has_name : ReaderAnswer → List ℕ → ℕ → Bool
has_name a name i = eqb (word_in a 1 i 2) (word_at 0 name)

-- the first of the n numbers i, i + 1, .. for which f holds
unfoldable pub first_from : ℕ → ℕ → (ℕ → Bool) → Option ℕ
first_from zero i f = None
first_from (suc n) i f = cond (f i) (Some i) (first_from n (i + 1) f)

-- the first console of an answer with this name (RD12)
unfoldable pub console_named : ReaderAnswer → List ℕ → Option ℕ
console_named a name = first_from (count_in a 1) 0 (has_name a name)
