-- Which bytes belong to a withdrawn value (FD9). Assumes nothing.
use Rattle.std.specs.Prelude.{ℕ, ◌+◌, ◌-◌, Bool, false, cond, List, [], ◌∷◌, length, leb, ltb, eqb}
use Rattle.words.specs.Tests.{both}
use Rattle.fields.specs.Fields.{Field}

-- byte i, counted from the first of these fields, is in the value of a field with tag 3
unfoldable pub in_withdrawn : List Field → ℕ → Bool
in_withdrawn [] i = false
in_withdrawn (f ∷ fs) i =
    cond (ltb i (3 + length f.value)) (both (eqb f.tag 3) (leb 3 i)) (in_withdrawn fs (i - (3 + length f.value)))
