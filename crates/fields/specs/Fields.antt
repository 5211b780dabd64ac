-- Board facts in the platform data. E7: "A field is one byte of tag, two of length, the value. Tag 0 with length 0 ends them; tag 0
-- with another length is broken." Assumes nothing.
use Rattle.std.specs.Prelude.{ℕ, zero, suc, ◌+◌, ◌^◌, Bool, true, false, cond, List, [], ◌∷◌, length, get_or, drop, leb, ltb, eqb}
use Rattle.words.specs.Tests.{both}
use Rattle.words.specs.Word.{part, num_at}

-- a field: its tag and the bytes of its value
pub record Field : Type 0 where
  pub tag : ℕ
  pub value : List ℕ

-- the field with tag t and value v
unfoldable pub mk_field : ℕ → List ℕ → Field
mk_field t v = record { tag = t; value = v }

-- What bytes hold from their start on: broken bytes; fields and an end mark, with the number of bytes through the mark; or fields alone up
-- to the last byte, as in the writer's description.
pub data Scanned : Type 0 where
  broken : Scanned
  ended : List Field → ℕ → Scanned
  bare : List Field → Scanned

-- a scan result with one more field in front
unfoldable pub push : Field → Scanned → Scanned
push f broken = broken
push f (ended fs n) = ended (f ∷ fs) (3 + length f.value + n)
push f (bare fs) = bare (f ∷ fs)

-- one step of a scan. The tests: no byte is left; the field is cut short; its tag is 0; its length is 0
unfoldable pub step : Bool → Bool → Bool → Bool → Field → Scanned → Scanned
step true c z e f s = bare []
step false true z e f s = broken
step false false true true f s = ended [] 3
step false false true false f s = broken
step false false false e f s = push f s

-- a scan of at most n fields: enough for at most n bytes
unfoldable pub scan : ℕ → List ℕ → Scanned
scan zero bs = bare []
scan (suc n) bs =
    let m = num_at 2 1 bs in
    step (eqb (length bs) 0) (ltb (length bs) (3 + m)) (eqb (get_or bs 0 0) 0) (eqb m 0) (mk_field (get_or bs 0 0) (part 3 m bs))
    (scan n (drop (3 + m) bs))

-- a scan of all bytes
unfoldable pub scan_all : List ℕ → Scanned
scan_all bs = scan (length bs) bs

-- E7: "Tag 1 is the board name, 1 to 32 bytes; tag 2 the serial, 8 bytes; tag 3 the preferred console, 1 byte". Other tags may have any
-- length that fits two bytes; a length that was read always does.
unfoldable pub length_ok : ℕ → ℕ → Bool
length_ok t n =
    cond (eqb t 0) false (cond (eqb t 1) (both (leb 1 n) (leb n 32)) (cond (eqb t 2) (eqb n 8) (cond (eqb t 3) (eqb n 1) (ltb n (2 ^ 16)))))

-- each field has a length that its tag allows (F3)
unfoldable pub lengths_ok : List Field → Bool
lengths_ok [] = true
lengths_ok (f ∷ fs) = both (length_ok f.tag (length f.value)) (lengths_ok fs)

-- the number of fields with tag t
unfoldable pub count : ℕ → List Field → ℕ
count t [] = 0
count t (f ∷ fs) = cond (eqb f.tag t) 1 0 + count t fs

-- E7: "Tags 1 to 3 appear at most once"
unfoldable pub fields_ok : List Field → Bool
fields_ok fs = both (lengths_ok fs) (both (leb (count 1 fs) 1) (both (leb (count 2 fs) 1) (leb (count 3 fs) 1)))

-- a scan result whose fields fail a test becomes broken
unfoldable pub judged : (List Field → Bool) → Scanned → Scanned
judged ok broken = broken
judged ok (ended fs n) = cond (ok fs) (ended fs n) broken
judged ok (bare fs) = cond (ok fs) (bare fs) broken

-- what bytes hold, by all of E7's rules
unfoldable pub scan_of : List ℕ → Scanned
scan_of bs = judged fields_ok (scan_all bs)

-- the fields that a reader shows: none if they are broken or have no end mark
unfoldable pub fields_in : Scanned → List Field
fields_in broken = []
fields_in (ended fs n) = fs
fields_in (bare fs) = []

-- ---- how a field is shown: E7: "shown as raw fields", its tag and its value's bytes; E10: "show the console choice as withdrawn without
-- its value"
pub data FieldShown : Type 0 where
  raw : ℕ → List ℕ → FieldShown
  withdrawn : FieldShown

-- one field as it is shown (FD6, FD8)
unfoldable pub shown_field : Field → FieldShown
shown_field f = cond (eqb f.tag 3) withdrawn (raw f.tag f.value)

-- all fields as they are shown, in order
unfoldable pub shown_fields : List Field → List FieldShown
shown_fields [] = []
shown_fields (f ∷ fs) = shown_field f ∷ shown_fields fs

-- whether a reader accepts the fields: they end with a mark
unfoldable pub is_ended : Scanned → Bool
is_ended broken = false
is_ended (ended fs n) = true
is_ended (bare fs) = false

-- the number of bytes through the end mark; 0 if there is no mark
unfoldable pub taken : Scanned → ℕ
taken broken = 0
taken (ended fs n) = n
taken (bare fs) = 0

-- the number of bytes that the naming rule counts: E7: "through the end mark, or all from the pointer on if they are broken"
unfoldable pub reach : Scanned → ℕ
reach broken = 4096
reach (ended fs n) = n
reach (bare fs) = 4096

-- whether the bytes are fields alone, without an end mark, that keep the rules
unfoldable pub is_bare : Scanned → Bool
is_bare broken = false
is_bare (ended fs n) = false
is_bare (bare fs) = true

-- the fields of a description
unfoldable pub fields_described : Scanned → List Field
fields_described broken = []
fields_described (ended fs n) = []
fields_described (bare fs) = fs

-- E7: "broken fields are -7 in the reader and W3 in the writer, there also any tag 0": the writer takes fields that keep the reader's
-- rules and use every byte, so none is cut short and no tag is 0. E10: "W3 for a description with tag 3"
unfoldable pub describable : Scanned → Bool
describable s = both (is_bare s) (eqb (count 3 (fields_described s)) 0)

-- the three bytes of the end mark (FD1)
unfoldable pub end_mark : List ℕ
end_mark = 0 ∷ 0 ∷ 0 ∷ []
