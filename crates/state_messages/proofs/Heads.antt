-- The four numbers at the start of a message. Assumes nothing.
use Prim.Native.Nat.{ℕ, ◌+◌, ◌^◌, ◌<◌}
use mathlib.Core.Path.{◌≡◌, refl, ap, ◌∙◌}
use mathlib.Core.List.{List, [], ◌++◌, append_assoc}
use native.Mathlib.Omega.{arith}
use lib.ListN.{length, drop, length-append}
use lib.Seq.{drop_at}
use Rattle.words.specs.Word.{splice}
use Rattle.words.proofs.Store.{splice-splice}
use Rattle.big_words.specs.Big.{be_bytes, big_at}
use Rattle.state_messages.specs.Messages.{head_bytes}
use Rattle.big_words.proofs.Numbers.{be-length, big-behind}

pub head-length : (a b c d : ℕ) → length (head_bytes a b c d) ≡ 16
unfolding head_bytes
head-length a b c d = simp (length-append, be-length)

-- one more number after those at the start
next : (vs s : List ℕ) (off x : ℕ) → length vs ≡ off → splice off (be_bytes 4 x) (splice 0 vs s) ≡ splice 0 (vs ++ be_bytes 4 x) s
next vs s off x e =
    ap (λ (k : ℕ). splice k (be_bytes 4 x) (splice 0 vs s)) (let z : off ≡ 0 + length vs = omega arith in z) ∙
    splice-splice 0 vs s (omega arith) (be_bytes 4 x)

pub head-put : (a b c d : ℕ) (s : List ℕ) →
    splice 12 (be_bytes 4 d) (splice 8 (be_bytes 4 c) (splice 4 (be_bytes 4 b) (splice 0 (be_bytes 4 a) s))) ≡ splice 0 (head_bytes a b c d) s
unfolding head_bytes
head-put a b c d s =
    rw (
      next (be_bytes 4 a) s 4 b (be-length 4 a),
      next (be_bytes 4 a ++ be_bytes 4 b) s 8 c (simp (length-append, be-length)),
      next (be_bytes 4 a ++ be_bytes 4 b ++ be_bytes 4 c) s 12 d (simp (length-append, be-length)),
    )

-- the numbers of a message read back
module _ (a b c d : ℕ) (rest : List ℕ) where
  pub head_first : a < 256 ^ 4 → big_at 4 0 (head_bytes a b c d ++ rest) ≡ a
  unfolding head_bytes
  head_first h = simp append_assoc (big-behind 4 a 0 [] _ refl h)

  pub head-second : b < 256 ^ 4 → big_at 4 4 (head_bytes a b c d ++ rest) ≡ b
  unfolding head_bytes
  head-second h = simp append_assoc (big-behind 4 b 4 (be_bytes 4 a) _ (be-length 4 a) h)

  pub head-third : c < 256 ^ 4 → big_at 4 8 (head_bytes a b c d ++ rest) ≡ c
  unfolding head_bytes
  head-third h =
      ap (big_at 4 8) (simp append_assoc) ∙ big-behind 4 c 8 (be_bytes 4 a ++ be_bytes 4 b) (be_bytes 4 d ++ rest)
      (simp (length-append, be-length)) h

  pub head-fourth : d < 256 ^ 4 → big_at 4 12 (head_bytes a b c d ++ rest) ≡ d
  unfolding head_bytes
  head-fourth h =
      ap (big_at 4 12) (append_assoc (be_bytes 4 a ++ be_bytes 4 b ++ be_bytes 4 c) (be_bytes 4 d) rest) ∙
      big-behind 4 d 12 (be_bytes 4 a ++ be_bytes 4 b ++ be_bytes 4 c) rest (simp (length-append, be-length)) h

  pub head-rest : drop 16 (head_bytes a b c d ++ rest) ≡ rest
  head-rest = drop_at (head_bytes a b c d) rest 16 (head-length a b c d)
