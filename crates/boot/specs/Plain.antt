-- Cold boot without kept bytes, as it was before request E5. Assumes nothing.
use Rattle.std.specs.Prelude.{ℕ, Bool, true, false, List, leb, ltb, ℤ}
use Rattle.versions.specs.Version.{version_ok}
use Rattle.reader.specs.Answer.{minus, code_in, read_of}
use Rattle.boot.specs.Boot.{is_fresh}
use Rattle.boot.specs.declared.Record.{Record}

-- "in this order of checks" (BT2): -1, -2, -3, -4, then the page's own code
unfoldable pub plain_gate : Bool → Bool → Bool → Bool → ℤ → ℤ
plain_gate true true true true c = c
plain_gate true true true false c = minus 4
plain_gate true true false n c = minus 3
plain_gate true false m n c = minus 2
plain_gate false v m n c = minus 1

-- the code of that cold boot
unfoldable pub plain_code : (state : Record) (x0 x1 x2 x3 maxcpus : ℕ) (page : List ℕ) → ℤ
plain_code s x0 x1 x2 x3 most page = plain_gate (is_fresh s) (version_ok x1) (leb x2 most) (ltb x0 x2) (code_in (read_of 4 x3 page))
