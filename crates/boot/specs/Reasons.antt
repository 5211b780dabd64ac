-- When each boot code is given, for the theorems: a table of conditions in the order of docs/RULES.md, each a plain fact with its code. The
-- first condition that holds gives the code. Assumes nothing.
use Rattle.std.specs.Prelude.{ℕ, ◌^◌, ◌≤◌, ◌<◌, ◌≡◌, ◌⊎◌, List, length, ℤ, pos}
use Rattle.words.specs.Word.{u32_at}
use Rattle.sections.specs.Facts.{PlaceFacts}
use Rattle.reader.specs.Answer.{minus}
use Rattle.reader.specs.Acts.{VersionFacts, Accepts}
use Rattle.boot.specs.declared.Params.{Params}
use Rattle.boot.specs.declared.Record.{Record}
use Rattle.boot.specs.declared.Record.TheVariants.{Fresh, Up}

-- one line of the table: if the condition holds the code k is c; otherwise the lines below give k
pub record Gives {A : Type 0} (Condition : Type 0) (c : A) (below : A → Type 0) (k : A) : Type 0 where
  pub where-it-holds : Condition → k ≡ c
  pub elsewhere : (Condition → ⊥) → below k

-- The conditions of cold boot (BT2): -1 the record is not fresh; -2 "x1 above 32 bits or version not accepted": bit 31 zero, major 0 and
-- minor 1 or more make a number from 1 to 65,535; -3 "x2 above the monitor's maximum"; -4 "x0 not below x2"; -5 "page length not 4,096; B
-- zero, not a multiple of 4,096, or above 2^52 - 4,096", and with request E5 "K above 4,096"; -6 "manifest version not accepted"; -7 "any
-- other manifest rule broken" (BT2)
abbrev pub ColdGives : (state : Record) (x0 x1 x2 x3 maxcpus kept : ℕ) (page : List ℕ) (code : ℤ) → Type 0
ColdGives s x0 x1 x2 x3 most kept page =
    Gives (s ≡ Fresh → ⊥) (minus 1)
    (Gives ((1 ≤ x1) × (x1 < 2 ^ 16) → ⊥) (minus 2)
    (Gives (most < x2) (minus 3)
    (Gives (x2 ≤ x0) (minus 4)
    (Gives ((4096 < kept) ⊎ (PlaceFacts x3 (length page) → ⊥)) (minus 5)
    (Gives (VersionFacts 4 (u32_at 0 page) → ⊥) (minus 6)
    (Gives ((w e : ℕ) → Accepts 4 x3 page w e → ⊥) (minus 7)
    (λ k. k ≡ pos 0)))))))

-- The conditions of warm boot (BT4): -1 the record is not up; -4 "x0 not below the cold boot's x2" (BT4.2)
abbrev pub WarmGives : Record → ℕ → ℤ → Type 0
WarmGives s x0 =
    Gives ((u : Params) → s ≡ Up u → ⊥) (minus 1)
    (Gives ((u : Params) → s ≡ Up u → u.cpus ≤ x0) (minus 4)
    (λ k. k ≡ pos 0))
