-- A response in its buffer, field by field. Assumes nothing.
use Prim.Native.Nat.{ℕ, ◌+◌, ◌-◌, ◌≤◌}
use mathlib.Core.Path.{◌≡◌, ap, ◌∙◌}
use mathlib.Core.List.{List, ◌++◌}
use native.Mathlib.Decide.{dec_le}
use native.Mathlib.Omega.{arith}
use lib.ListN.{length, take, drop, length-append}
use Rattle.words.specs.Word.{le_bytes, splice, laid}
use Rattle.words.proofs.Read.{le_bytes-length}
use Rattle.words.proofs.Store.{length-splice, splice-splice, bytes-in, bytes-out, lent_back}
use Rattle.queue.specs.declared.Response.{Response}
use Rattle.queue.specs.Queue.{signed_in}
use Rattle.queue.proofs.Sides.{taken-all}
use Rattle.response_rules.specs.Pull.{response_bytes}

length-laid : (off : ℕ) (vs s : List ℕ) → length (laid off vs s) ≡ length s
length-laid off vs s = go (dec_le (off + length vs) (length s))
  where
    go : Dec (off + length vs ≤ length s) → length (laid off vs s) ≡ length s
    go (yes a) = ap length (bytes-in off vs s a) ∙ length-splice off vs s a
    go (no a) = ap length (bytes-out off vs s (omega arith))

-- one more field, directly after those before it
grow : (vs ws s : List ℕ) (k : ℕ) → length vs ≡ k → k + length ws ≤ length s → laid k ws (splice 0 vs s) ≡ splice 0 (vs ++ ws) s
grow vs ws s k e h =
    let l : length (splice 0 vs s) ≡ length s = length-splice 0 vs s (omega arith) in
    let j : k ≡ 0 + length vs = omega arith in
    bytes-in k ws (splice 0 vs s) (omega arith) ∙ ap (λ (i : ℕ). splice i ws (splice 0 vs s)) j ∙ splice-splice 0 vs s (omega arith) ws

four : (a b c d s : List ℕ) → length a ≡ 8 → length b ≡ 8 → length c ≡ 2 → 18 + length d ≤ length s →
    laid 18 d (laid 16 c (laid 8 b (laid 0 a s))) ≡ splice 0 (a ++ b ++ c ++ d) s
four a b c d s ha hb hc h =
    let ab : length (a ++ b) ≡ 16 = length-append a b ∙ omega arith in
    let abc : length ((a ++ b) ++ c) ≡ 18 = length-append (a ++ b) c ∙ omega arith in
    rw (bytes-in 0 a s (omega arith), grow a b s 8 ha (omega arith), grow (a ++ b) c s 16 ab (omega arith))
    (grow ((a ++ b) ++ c) d s 18 abc h)

-- the stores of a response, the signature last
pub response-laid : (s : List ℕ) (r : Response) (n : ℕ) → n ≡ length (signed_in r).signature →
    18 + length (signed_in r).signature ≤ length s → (t : List ℕ) →
    t ≡ laid 16 (le_bytes 2 n) (laid 8 (le_bytes 8 r.ticket) (laid 0 (le_bytes 8 r.granule) s)) →
    take 18 t ++ (laid 0 (take n r.signature) (take (length t - 18) (drop 18 t)) ++ drop (length t - 18) (drop 18 t)) ≡ splice 0
    (response_bytes (signed_in r)) s
unfolding response_bytes signed_in
response-laid s r n e h t p =
    let d : List ℕ = take r.len r.signature in
    let k : take n r.signature ≡ d = ap (λ (i : ℕ). take i r.signature) e ∙ taken-all r.len r.signature in
    let l : length t ≡ length s = ap length p ∙ length-laid 16 (le_bytes 2 n) _ ∙ length-laid 8 (le_bytes 8 r.ticket) _ ∙
    length-laid 0 (le_bytes 8 r.granule) s in
    rw k (lent_back 18 d t (omega arith)) ∙ ap (laid 18 d) p
    ∙ four (le_bytes 8 r.granule) (le_bytes 8 r.ticket) (le_bytes 2 n) d s (le_bytes-length 8 r.granule)
    (le_bytes-length 8 r.ticket) (le_bytes-length 2 n) h ∙ rw e
