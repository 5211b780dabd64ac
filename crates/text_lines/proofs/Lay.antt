-- Bytes laid over a list as far as they fit, one run after the other. Assumes nothing.
use Prim.Native.Nat.{ℕ, ◌+◌, ◌-◌, ◌≤◌, ◌<◌, min}
use mathlib.Core.Path.{◌≡◌, refl, sym, ap, ◌∙◌}
use mathlib.Core.List.{List, [], ◌++◌, append_assoc, append-nil}
use native.Mathlib.Numerals.{add-one}
use native.Mathlib.Nat.{add_assoc, add-zero}
use native.Mathlib.Decide.{dec_lt}
use native.Mathlib.Omega.{arith}
use lib.ListN.{length, take, drop, length-append, length-take, length-drop, take-append-drop, drop_of_length-le}
use lib.Seq.{length-take-le, take-nil, take_all, take_at, drop_at, drop-drop, take-append-le}
use lib.Seq.{take-append-add}
use Rattle.text_lines.specs.Text.{lay_clipped, listing_room}
use Rattle.words.specs.Word.{joined}
use Rattle.text_lines.specs.Laid.{Listed}
use Rattle.text_lines.specs.Steps.{last_offset, LaidOver, Written}
use Rattle.text_lines.specs.declared.Out.{Out}

pub length-lay : (at : ℕ) (vs s : List ℕ) → length (lay_clipped at vs s) ≡ length s
unfolding lay_clipped
length-lay at vs s = rw (length-append, length-append, length-take, length-take, length-drop) (omega arith)

-- an empty text changes nothing
pub lay-none : (at : ℕ) (s : List ℕ) → lay_clipped at [] s ≡ s
unfolding lay_clipped
lay-none at s = rw (take-nil, append-nil, add-zero, take-append-drop)

-- ---- if all of vs fits, and if it reaches the end
module _ (at : ℕ) (vs s : List ℕ) where
  lay-in : at + length vs ≤ length s → lay_clipped at vs s ≡ take at s ++ vs ++ drop (at + length vs) s
  unfolding lay_clipped
  lay-in h = let e : length vs ≤ length s - at = omega arith in rw (take_all (length s - at) vs e)

  lay-end : length s ≤ at + length vs → lay_clipped at vs s ≡ take at s ++ take (length s - at) vs
  unfolding lay_clipped
  lay-end h = rw (drop_of_length-le s h, append-nil)

  head-length : at ≤ length s → length (take at s ++ vs) ≡ at + length vs
  head-length h = rw (length-append, length-take-le at s h)

-- nothing fits after the end
lay-past : (at : ℕ) (ws s : List ℕ) → length s ≤ at → lay_clipped at ws s ≡ s
unfolding lay_clipped
lay-past at ws s h =
    let e : length s ≤ at + length ws = omega arith in
    let z : length s - at ≡ 0 = omega arith in
    rw (drop_of_length-le s e, append-nil, z, append-nil, take_all at s h)

-- two texts one after the other are one text
module _ (at : ℕ) (vs ws s : List ℕ) where
  lay-then-in : at + length vs ≤ length s → lay_clipped (at + length vs) ws (lay_clipped at vs s) ≡ lay_clipped at (vs ++ ws) s
  unfolding lay_clipped
  lay-then-in k =
      let n : length vs ≤ length s - at = omega arith in
      let m : length s - at ≡ length vs + (length s - (at + length vs)) = omega arith in
      let e = head-length at vs s (omega arith) in
      rw (length-lay at vs s, m, take-append-add, length-append)
      (rw (
        ← m,
        take_all (length s - at) vs n,
        ← drop-drop (length ws) (at + length vs) (take at s ++ vs ++ drop (at + length vs) s),
        drop_at (take at s ++ vs) _ _ e,
        take_at (take at s ++ vs) _ _ e,
        drop-drop,
      ) (simp (append_assoc, add_assoc)))

  lay-then-end : (m : ℕ) → length s ≤ m → length s ≤ at + length vs → lay_clipped m ws (lay_clipped at vs s) ≡ lay_clipped at (vs ++ ws) s
  lay-then-end m l k =
      let n : length s - at ≤ length vs = omega arith in
      let o : length s ≤ at + length (vs ++ ws) = rw length-append (omega arith) in
      let f : lay_clipped m ws (lay_clipped at vs s) ≡ lay_clipped at vs s = lay-past m ws (lay_clipped at vs s) (rw (length-lay at vs s) l) in
      rw (f, lay-end at vs s k, lay-end at (vs ++ ws) s o, take-append-le (length s - at) vs ws n)

  pub lay-then : (m top : ℕ) → length s ≤ top → m ≡ min (at + length vs) top →
      lay_clipped m ws (lay_clipped at vs s) ≡ lay_clipped at (vs ++ ws) s
  lay-then m top h e = go (dec_lt (at + length vs) (length s))
    where
      go : Dec (at + length vs < length s) → lay_clipped m ws (lay_clipped at vs s) ≡ lay_clipped at (vs ++ ws) s
      go (yes k) = rw (let f : m ≡ at + length vs = omega arith in f) (lay-then-in (omega arith))
      go (no k) = lay-then-end m (omega arith) (omega arith)

-- ---- only the part of vs that fits counts
put-laid : (at from n : ℕ) (vs s : List ℕ) → from ≡ min at (length s) → n ≡ min (length vs) (length s - from) →
    take from s ++ (take n vs ++ drop n (drop from s)) ≡ lay_clipped at vs s
put-laid at from n vs s e h = rw (drop-drop, ← append_assoc) (go (dec_lt at (length s)) (dec_lt (at + length vs) (length s)))
  where
    go : Dec (at < length s) → Dec (at + length vs < length s) → take from s ++ take n vs ++ drop (from + n) s ≡ lay_clipped at vs s
    go (yes k) (yes l) =
        let f : from ≡ at = omega arith in
        let m : n ≡ length vs = omega arith in
        rw (f, m, take_all (length vs) vs (omega arith)) (sym (lay-in at vs s (omega arith)))
    go (yes k) (no l) =
        let f : from ≡ at = omega arith in
        let m : n ≡ length s - at = omega arith in
        let o : length s ≤ from + n = omega arith in
        rw (drop_of_length-le s o, append-nil, f, m) (sym (lay-end at vs s (omega arith)))
    go (no k) l =
        let m : n ≡ 0 = omega arith in
        let o : length s ≤ from + n = omega arith in
        let p : take from s ++ [] ≡ s = append-nil (take from s) ∙ take_all from s (omega arith) in
        rw (drop_of_length-le s o, m) (append-nil (take from s ++ []) ∙ p ∙ sym (lay-past at vs s (omega arith)))

-- ---- what the steps promise
-- an empty text changes nothing
pub wrote_none : (o : Out) → Written [] o o
wrote_none o =
    record {
      lent = refl;
      same = refl;
      laid = λ i. record { cursor = omega arith; same = refl; bytes = sym (lay-none o.at o.bytes.now) };
    }

laid_then : {at m r : ℕ} {vs ws s t u : List ℕ} → length s ≤ last_offset → LaidOver at vs s m t → LaidOver m ws t r u → LaidOver at (vs ++ ws) s r u
laid_then {at} {m} {r} {vs} {ws} {s} {t} {u} h p q =
    record {
      cursor = rw length-append (omega arith);
      same = q.same ∙ p.same;
      bytes = q.bytes ∙ rw p.bytes (lay-then at vs ws s m last_offset h p.cursor);
    }

pub wrote_then : {o m n : Out} {vs ws : List ℕ} → length o.bytes.now ≤ last_offset → Written vs o m → Written ws m n → Written (vs ++ ws) o n
wrote_then {o} {m} {n} {vs} {ws} h p q =
    record {
      lent = q.lent ∙ p.lent;
      same = q.same ∙ p.same;
      laid = λ i. let a = p.laid i in laid_then h a (q.laid (omega (arith, a.cursor)));
    }

-- text that is put: `n` bytes of it, from `from` on
pub laid_put : {at from n r : ℕ} {vs s t : List ℕ} → from ≡ min at (length s) → n ≡ min (length vs) (length s - from) →
    r ≡ min (at + length vs) last_offset → t ≡ take from s ++ (take n vs ++ drop n (drop from s)) → LaidOver at vs s r t
laid_put {at} {from} {n} {r} {vs} {s} {t} e h g f =
    let l : t ≡ lay_clipped at vs s = f ∙ put-laid at from n vs s e h in
    record { cursor = g; same = ap length l ∙ length-lay at vs s; bytes = l }

-- equal texts
pub laid-same : {at r : ℕ} {vs ws s t : List ℕ} → vs ≡ ws → LaidOver at vs s r t → LaidOver at ws s r t
laid-same {at} {r} {vs} {ws} {s} {t} e p = rw (← e) p

pub wrote-same : {o n : Out} {vs ws : List ℕ} → vs ≡ ws → Written vs o n → Written ws o n
wrote-same {o} {n} {vs} {ws} e p = rw (← e) p

-- one more part of many
pub wrote-more : (f : ℕ → List ℕ) (i : ℕ) {o m n : Out} → length o.bytes.now ≤ last_offset → Written (joined i f) o m → Written (f i) m n →
    Written (joined (i + 1) f) o n
unfolding joined
wrote-more f i h p q = rw add-one (wrote_then h p q)

-- ---- what a listing promises
pub listed : {r : ℕ} {vs s t : List ℕ} → length vs ≤ listing_room → LaidOver 0 vs s r t → Listed vs s r t
listed {r} {vs} {s} {t} h p = record { long = omega arith; most = omega arith; same = p.same; bytes = p.bytes }

-- a text that fits is complete
pub lay-whole : (vs s : List ℕ) → length vs ≤ length s → take (length vs) (lay_clipped 0 vs s) ≡ vs
lay-whole vs s h = rw (lay-in 0 vs s (omega arith)) (take_at vs _ _ refl)

pub listed-whole : {r : ℕ} {vs s t : List ℕ} → listing_room ≤ length s → Listed vs s r t → take r t ≡ vs
listed-whole {r} {vs} {s} {t} h p = rw (p.long, p.bytes) (lay-whole vs s (omega arith))
