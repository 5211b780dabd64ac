-- When the checks that every command on the page starts with give each code. Assumes nothing.
use Rattle.std.specs.Prelude.{ℕ, ◌+◌, ◌-◌, ◌≤◌, ◌<◌, ◌≡◌, ◌⊎◌}
use Rattle.boot.specs.declared.Params.{Params}
use Rattle.boot.specs.declared.Record.{Record}
use Rattle.codes.specs.Reasons.{Gives, WhileUp}
use Rattle.codes.specs.declared.Code.{Code}
use Rattle.codes.specs.declared.Code.TheVariants.{Unk, Inval}

-- "a buffer at pa of size s is outside when pa is below B or not below B + 4,096;", B + K with request E5 (RT8, KB2)
abbrev pub Outside : Params → ℕ → Type 0
Outside u pa = (pa < u.base + u.kept) ⊎ (u.base + 4096 ≤ pa)

-- "it is too long when s exceeds B + 4,096 - pa." (RT9)
abbrev pub TooLong : Params → ℕ → ℕ → Type 0
TooLong u pa size = u.base + 4096 - pa < size

-- not up UNK; "0xC40001B2, B3 and B5 do so too on a lent page not 4,096 bytes long" (RT7); what the command checks before its buffer;
-- outside, with the command's code for it; too long INVAL; then the lines below
abbrev pub PageGives : Record → ℕ → ((Code → Type 0) → Code → Type 0) → Code → ℕ → ℕ → (Params → Code → Type 0) → Code → Type 0
PageGives r len first out pa size below =
    WhileUp r (λ (u : Params).
    Gives (len ≡ 4096 → ⊥) Unk
    (first
    (Gives (Outside u pa) out
    (Gives (TooLong u pa size) Inval
    (below u)))))
