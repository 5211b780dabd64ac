-- What the program writes for an input (PK8); text as ASCII numbers. Assumes nothing.
use Rattle.std.specs.Prelude.{ℕ, suc, ◌+◌, ◌≡◌, cond, List, [], ◌∷◌, ◌++◌, length, take, drop, eqb, ℤ, pos, negsuc}
use Rattle.words.specs.Word.{word_at}
use Rattle.reader.specs.Answer.{minus}
use Rattle.writer_rules.specs.Write.{no-page, a-page}
use Rattle.pack.specs.Pack.{Packed, stopped, written, pack_of}

-- `refused -`
unfoldable pub refusal_line : List ℕ
refusal_line = 114 ∷ 101 ∷ 102 ∷ 117 ∷ 115 ∷ 101 ∷ 100 ∷ 32 ∷ 45 ∷ []

-- the reason of a refusal: ` place`, ` version`, ` rules`
unfoldable pub reason_text : ℕ → List ℕ
reason_text n =
    cond (eqb n 5) (32 ∷ 112 ∷ 108 ∷ 97 ∷ 99 ∷ 101 ∷ [])
    (cond (eqb n 6) (32 ∷ 118 ∷ 101 ∷ 114 ∷ 115 ∷ 105 ∷ 111 ∷ 110 ∷ []) (32 ∷ 114 ∷ 117 ∷ 108 ∷ 101 ∷ 115 ∷ []))

-- the line of a code: its one digit, then the reason (PK8)
unfoldable pub refused_line : ℤ → List ℕ
refused_line (pos n) = []
refused_line (negsuc n) = refusal_line ++ ((48 + suc n) ∷ (reason_text (suc n) ++ (10 ∷ [])))

-- What goes to standard output: the packed page, or one line with the code and its reason. The program's target is always 4,096 bytes long,
-- so W1 never happens.
unfoldable pub output_of : Packed → List ℕ
output_of (stopped c) = refused_line c
output_of (written (a-page p)) = p
output_of (written (no-page n)) = []

-- the output for an input: 8 bytes of B, then the page; an input of another length is refused with -5 (PK8)
unfoldable pub pack_printed : List ℕ → List ℕ
pack_printed input = output_of (cond (eqb (length input) 4104) (pack_of (word_at 0 input) 4096 (drop 8 input)) (stopped (minus 5)))

-- Reading stops when the room is full or the input ends. So the `n` bytes read into the room are the first min(room, input) bytes of the
-- input. For every such input, the first `r` bytes of `t` are the whole output.
abbrev pub PacksAll : List ℕ → ℕ → ℕ → List ℕ → Type 0
PacksAll room n r t = (input : List ℕ) → take n room ≡ take (length room) input → take r t ≡ pack_printed input
