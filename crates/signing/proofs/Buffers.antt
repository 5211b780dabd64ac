-- What a call does in a buffer, stated for the page that lends it. Assumes nothing.
use Prim.Native.Nat.{ℕ, ◌+◌, ◌≤◌}
use mathlib.Core.Path.{◌≡◌, refl, sym, ap, ◌∙◌}
use mathlib.Core.List.{List, ◌++◌, append_assoc}
use native.Mathlib.Omega.{arith}
use lib.ListN.{length, take, drop, length-drop}
use lib.Seq.{length-take-le, drop-drop}
use borrow.Author.Tests.{ltb-false}
use Rattle.words.specs.Word.{part, splice}
use Rattle.words.proofs.Store.{length-splice, part-back, buffer-back}
use Rattle.codes.proofs.Gates.{fails-ok}
use Rattle.codes.specs.declared.Code.TheVariants.{Ok}
use Rattle.queue.specs.declared.Queue.{Queue}
use Rattle.queue.specs.declared.QueueResult.{QueueResult}
use Rattle.queue.specs.Queue.{Signed, Lists, SigningStep, SigningExit, oldest_response, signing_exit, exit_of}
use Rattle.response_rules.specs.Pull.{response_bytes, pull_code}
use Rattle.response_rules.proofs.Acts.{signed-length}
use Rattle.signing.specs.Signing.{public_code, put_back}

-- ---- a buffer of n bytes at an offset of s
module _ (at n : ℕ) (s : List ℕ) where
  -- c written at its offset
  pub back_at : (c : List ℕ) → length c ≡ n → take at s ++ (c ++ drop n (drop at s)) ≡ splice at c s
  unfolding splice
  back_at c e = rw (e, ← drop-drop n at s) (sym (append_assoc (take at s) c (drop n (drop at s))))

  module _ (room : at + n ≤ length s) where
    pub buffer-length : length (part at n s) ≡ n
    unfolding part
    buffer-length = length-take-le n (drop at s) (omega (arith, length-drop at s))

    -- an unchanged buffer leaves s unchanged
    pub back-same : splice at (part at n s) s ≡ s
    unfolding part
    back-same = sym (back_at (part at n s) buffer-length) ∙ part-back at n s

    -- vs written at the buffer's start is vs written at its offset of s
    pub back-over : (vs : List ℕ) → length vs ≤ n → splice at (splice 0 vs (part at n s)) s ≡ splice at vs s
    unfolding part
    back-over vs h =
        let l : length (splice 0 vs (part at n s)) ≡ n = length-splice 0 vs (part at n s) (omega (arith, buffer-length)) ∙ buffer-length in
        sym (back_at (splice 0 vs (part at n s)) l) ∙ buffer-back at n vs s room h

-- a call on a lent buffer, which is c at exit; and a call that only reads it
module _ (at n : ℕ) (page : List ℕ) (old : Queue) (r : QueueResult) (s : SigningStep) where
  pub exit-back : (c : List ℕ) → length c ≡ n → signing_exit r c ≡ exit_of old s →
      signing_exit r (take at page ++ (c ++ drop n (drop at page))) ≡ exit_of old (put_back at page s)
  unfolding put_back exit_of
  exit-back c e h =
      rw (back_at at n page c e) (ap (λ (x : SigningExit). record
      { answer = x.answer; page = splice at x.page page; queue = x.queue }) h)

  pub exit-same : at + n ≤ length page → signing_exit r (part at n page) ≡ exit_of old s → signing_exit r page ≡ exit_of old (put_back at page s)
  exit-same room h =
      ap (signing_exit r) (sym (back_at at n page (part at n page) (buffer-length at n page room) ∙ back-same at n page room)) ∙ exit-back
      (part at n page) (buffer-length at n page room) h

-- ---- an OK writes at most the size of the buffer
pub pull-fits : (size : ℕ) (q : Lists) → pull_code size q ≡ Ok → length (response_bytes (oldest_response q.responses)) ≤ size
unfolding pull_code
pull-fits size q h =
    let p = fails-ok _ _ _ refl h in
    let r = fails-ok _ _ _ refl p.1 in
    fit (oldest_response q.responses) (ltb-false _ _ r.0)
  where
    fit : (s : Signed) → 18 + length s.signature ≤ size → length (response_bytes s) ≤ size
    fit s h = omega (arith, signed-length s)

pub public-fits : (size : ℕ) (key : List ℕ) → public_code size key ≡ Ok → length key ≤ size
unfolding public_code
public-fits size key h =
    let p = fails-ok _ _ _ refl h in
    let r = fails-ok _ _ _ refl p.1 in
    ltb-false _ _ r.0
