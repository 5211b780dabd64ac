-- Reading gives each refusal as the order of SB4 requires, and otherwise the parts of the message. Assumes nothing.
use Prim.Native.Nat.{ℕ, ◌+◌, ◌≤◌}
use mathlib.Core.Path.{◌≡◌}
use mathlib.Core.List.{List}
use native.Mathlib.Omega.{arith}
use lib.ListN.{length, drop, length-drop}
use borrow.Author.Tests.{eq-eqb, ne_eqb, le-ltb, lt-ltb}
use Rattle.big_words.specs.Big.{big_at}
use Rattle.big_words.proofs.Numbers.{big-suc, big-one}
use Rattle.state_messages.specs.Messages.{request_parts, read_request, response_parts, read_response, response_read}
use Rattle.state_messages.specs.Reasons.{big_number, RequestGives, GotGives, PieceGives}

-- a number by its four bytes
big-four : (at : ℕ) (m : List ℕ) → at + 4 ≤ length m → big_at 4 at m ≡ big_number at m
big-four at m h =
    let a = big-one at m (omega arith) in
    let b = big-suc 1 at m (omega arith) in
    let c = big-suc 2 at m (omega arith) in
    let d = big-suc 3 at m (omega arith) in
    omega arith

-- Request E13: "Refusals, in order, when reading", for a request
pub request-codes : (code : ℕ) (m : List ℕ) → RequestGives code m (read_request code m)
unfolding read_request request_parts
request-codes code m =
    record {
      cut_short = λ h. rw (lt-ltb (length m) 16 h);
      too_long = λ h. rw (le-ltb (length m) 16 (omega arith), lt-ltb 16 (length m) h);
      wrong-code = λ h n.
          rw (
            le-ltb (length m) 16 (omega arith),
            le-ltb 16 (length m) (omega arith),
            big-four 0 m (omega arith),
            ne_eqb (big_number 0 m) code n,
          );
      accepts = λ h e.
          rw (
            le-ltb (length m) 16 (omega arith),
            le-ltb 16 (length m) (omega arith),
            big-four 0 m (omega arith),
            big-four 4 m (omega arith),
            big-four 8 m (omega arith),
            big-four 12 m (omega arith),
            eq-eqb (big_number 0 m) code e,
            e,
          );
    }

-- the same for a response
pub response-codes : (largest : ℕ) (m : List ℕ) → GotGives largest m (read_response largest m)
unfolding read_response response_parts
response-codes largest m =
    let n = big_number 12 m in
    record {
      no-head = λ h. rw (lt-ltb (length m) (16 + big_at 4 12 m) (omega arith));
      cut_short = λ w h. rw (big-four 12 m (omega arith), lt-ltb (length m) (16 + n) h);
      too_long = λ h. rw (big-four 12 m (omega arith), le-ltb (length m) (16 + n) (omega arith), lt-ltb (16 + n) (length m) h);
      above-largest = λ w h.
          rw (
            big-four 12 m (omega arith),
            le-ltb (length m) (16 + n) (omega arith),
            le-ltb (16 + n) (length m) (omega arith),
            lt-ltb largest n h,
          );
      failed = λ w h z.
          rw (
            big-four 12 m (omega arith),
            le-ltb (length m) (16 + n) (omega arith),
            le-ltb (16 + n) (length m) (omega arith),
            le-ltb largest n h,
            big-four 0 m (omega arith),
            ne_eqb (big_number 0 m) 0 z,
          );
      accepts = λ w h z.
          rw (
            big-four 12 m (omega arith),
            le-ltb (length m) (16 + n) (omega arith),
            le-ltb (16 + n) (length m) (omega arith),
            le-ltb largest n h,
            big-four 0 m (omega arith),
            big-four 4 m (omega arith),
            big-four 8 m (omega arith),
            eq-eqb (big_number 0 m) 0 z,
            z,
          );
    }

-- and for what the code returns
pub piece-codes : (largest : ℕ) (m : List ℕ) → PieceGives largest m (response_read (read_response largest m))
unfolding response_read
piece-codes largest m =
    let g = response-codes largest m in
    record {
      no-head = λ h. rw (g.no-head h);
      cut_short = λ w h. rw (g.cut_short w h);
      too_long = λ h. rw (g.too_long h);
      above-largest = λ w h. rw (g.above-largest w h);
      failed = λ w h z. rw (g.failed w h z);
      accepts = λ w h z.
          let n : length (drop 16 m) ≡ big_number 12 m = omega (arith, length-drop 16 m) in
          rw (g.accepts w h z, n);
    }
