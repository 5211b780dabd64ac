-- The blob's next bytes, written as a response, are accepted and appended: so the premise of `held-are-first` can be met, and a whole blob can be
-- collected. Assumes nothing.
use Prim.Native.Nat.{ℕ, ◌+◌, ◌^◌, ◌≤◌, ◌<◌}
use mathlib.Core.Path.{◌≡◌, refl}
use mathlib.Core.Bool.{Bool, true, false}
use mathlib.Core.List.{List}
use native.Mathlib.Omega.{arith}
use lib.ListN.{length, length-take, length-drop}
use lib.Dec.{ltb, eqb}
use borrow.Author.Tests.{le-ltb, eqb-true}
use Rattle.std.specs.Prelude.{Ok}
use Rattle.words.specs.Tests.{both}
use Rattle.words.specs.Word.{part}
use Rattle.state_messages.specs.Messages.{Fits32Response, response_message}
use Rattle.state_blobs.specs.Collect.{other_total, decide, piece_appended, settle, offer_bytes, collect_got, collect}
use Rattle.state_blobs.specs.Blobs.{Held, HoldsFirst, MayFollow, piece_of}
use Rattle.state_blobs.proofs.Collects.{same_total}
use Rattle.state_messages.proofs.ReadBack.{response-read}

pub piece-length : (held n : ℕ) (blob : List ℕ) → held + n ≤ length blob → length (part held n blob) ≡ n
unfolding part
piece-length held n blob h = simp (length-take, length-drop) (omega arith)

some-data : (e : Bool) (n held total : ℕ) → (e ≡ true → n ≡ 0) → (n ≡ 0 → held ≡ total) → both e (ltb held total) ≡ false
unfolding both
some-data true n held total z d = le-ltb held total (let q : held ≡ total = d (z refl) in omega arith)
some-data false n held total z d = refl

-- the next n bytes of the blob are accepted; n may be 0 only if nothing is missing
pub next-accepted : (blob : List ℕ) (h : Held) (n : ℕ) → HoldsFirst blob h → MayFollow blob h n →
    decide h.collector (length blob) n (length h.buffer) ≡ Ok tt
unfolding decide other_total
next-accepted blob h n f m =
    let c = h.collector in
    rw (
      same_total c.total (length blob) f.whole,
      le-ltb (length blob) (c.held + n) m.0,
      le-ltb (length h.buffer) (c.held + n) m.1,
      some-data (eqb n 0) n c.held (length blob) (eqb-true n 0) m.2,
    )

-- so a response written with them is accepted, and they are appended
pub piece-collected : (blob : List ℕ) (h : Held) (flags n largest : ℕ) → HoldsFirst blob h → MayFollow blob h n →
    flags < 2 ^ 32 → length blob < 2 ^ 32 → n ≤ largest →
    collect largest (response_message (piece_of blob flags h.collector.held n)) h.collector h.buffer
    ≡ piece_appended h.collector (length blob) (part h.collector.held n blob) h.buffer
unfolding collect collect_got offer_bytes settle piece_of
piece-collected blob h flags n largest f k g t l =
    let c = h.collector in
    let w : c.held + n ≤ length blob = k.0 in
    let m : length (part c.held n blob) ≡ n = piece-length c.held n blob w in
    let s : Fits32Response (piece_of blob flags c.held n) = record { result = omega arith; flags = g; total = t; bytes = omega arith } in
    rw (response-read largest (piece_of blob flags c.held n) s (omega arith), m, next-accepted blob h n f k)
