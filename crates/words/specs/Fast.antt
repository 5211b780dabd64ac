-- For speed. `word-lent` (proofs/Read.antt) proves `whole_word` equal to `word_at` (Word.antt) if the word is within the slice. Assumes
-- nothing.
use Rattle.std.specs.Prelude.{ℕ, ◌+◌, cond, List, length, leb}
use Rattle.words.specs.Word.{word_at}

-- the word at off; 0 if its 8 bytes are not all in s
unfoldable pub whole_word : ℕ → List ℕ → ℕ
whole_word off s = cond (leb (off + 8) (length s)) (word_at off s) 0
