-- Delegate and undelegate over a list of addresses (LG1 to LG6, request E1). Assumes nothing.
use Rattle.std.specs.Prelude.{ℕ, suc, ◌<◌, ◌≤◌, ◌≡◌, false, cond, List, [], ◌∷◌, length, take, get_or}
use Rattle.boot.specs.declared.Record.{Record}
use Rattle.codes.specs.Codes.{is_ok, if_ok, answer_of}
use Rattle.codes.specs.declared.Code.{Code}
use Rattle.codes.specs.declared.Code.TheVariants.{Ok, Inval}
use Rattle.banks.specs.Banks.{Granules}
use Rattle.granule_rules.specs.Granules.{GranuleTable, Moved, moved_by, fitting, move_of}
use Rattle.granule_rules.specs.declared.Direction.{Direction}
use Rattle.granule_rules.specs.declared.Direction.TheVariants.{Delegate, Undelegate}

-- "stopping at the first refusal" (LG1): after k accepted calls comes the single call m, and if it is accepted the rest. "x1 holds the
-- number done on refusal too." (LG3)
unfoldable pub onward : Moved → ℕ → Moved → Moved
onward m k rest = cond (is_ok m.answer.code) rest (record { answer = answer_of m.answer.code k 0; table = m.table })

-- "The result, the table and the number done equal single calls made in list order" (LG1): f is the single call, and k calls are done
-- before
unfoldable pub list_by : (GranuleTable → ℕ → Moved) → ℕ → GranuleTable → List ℕ → Moved
list_by f k t [] = record { answer = answer_of Ok k 0; table = t }
list_by f k t (a ∷ l) = onward (f t a) k (list_by f (suc k) (f t a).table l)

-- a list of the command's own single calls. "An empty list is OK with 0, up or not." (LG2.2) Request E6: "INVAL, before all other checks of
-- any call on words, an empty list's too" (LG2.1)
unfoldable pub move_list_of : Record → Granules → Direction → GranuleTable → List ℕ → Moved
move_list_of s g d t l = cond (fitting g t) (list_by (move_of s g d) 0 t l) (moved_by Inval t t)

-- the delegate command over a list
abbrev pub delegate_list_of : Record → Granules → GranuleTable → List ℕ → Moved
delegate_list_of s g t l = move_list_of s g Delegate t l

-- the undelegate command over a list
abbrev pub undelegate_list_of : Record → Granules → GranuleTable → List ℕ → Moved
undelegate_list_of s g t l = move_list_of s g Undelegate t l

-- ---- for the theorems on lists
-- the number of calls accepted before the first refusal (LG3)
unfoldable pub done_by : (GranuleTable → ℕ → Moved) → GranuleTable → List ℕ → ℕ
done_by f t [] = 0
done_by f t (a ∷ l) = cond (is_ok (f t a).answer.code) (suc (done_by f (f t a).table l)) 0

-- the table after single calls
unfoldable pub table_by : (GranuleTable → ℕ → Moved) → GranuleTable → List ℕ → GranuleTable
table_by f t [] = t
table_by f t (a ∷ l) = table_by f (f t a).table l

-- the same for the command's own single calls
abbrev pub done_of : Record → Granules → Direction → GranuleTable → List ℕ → ℕ
done_of s g d t l = done_by (move_of s g d) t l

-- the code of the first refusal; OK if no call is refused
unfoldable pub code_by : (GranuleTable → ℕ → Moved) → GranuleTable → List ℕ → Code
code_by f t [] = Ok
code_by f t (a ∷ l) = if_ok (f t a).answer.code (code_by f (f t a).table l) (f t a).answer.code

-- the code of the list's i-th single call, after those before it
unfoldable pub code_at : (GranuleTable → ℕ → Moved) → GranuleTable → List ℕ → ℕ → Code
code_at f t l i = (f (table_by f t (take i l)) (get_or l i 0)).answer.code

-- the number done is the length of the longest prefix of calls that are all OK, and the code is that of the first refused call (LG1, LG3)
pub record Longest (f : GranuleTable → ℕ → Moved) (t : GranuleTable) (l : List ℕ) : Type 0 where
  pub within : done_by f t l ≤ length l
  pub done : (i : ℕ) → i < done_by f t l → code_at f t l i ≡ Ok
  pub stops : done_by f t l < length l → (is_ok (code_at f t l (done_by f t l)) ≡ false) × (code_by f t l ≡ code_at f t l (done_by f t l))
  pub whole : done_by f t l ≡ length l → code_by f t l ≡ Ok
