-- Responses that wait, and pull, return by return. Assumes nothing.
use Prim.Native.Nat.{ℕ, ◌+◌, ◌<◌, ◌≤◌}
use mathlib.Core.Path.{◌≡◌, refl, sym, ap, ◌∙◌}
use mathlib.Core.Bool.{false, true≢false}
use mathlib.Core.List.{List, [], ◌∷◌, map}
use lib.ListN.{length, get_or, length-map}
use borrow.Author.Tests.{eq-eqb, ne_eqb, le-ltb, lt-ltb}
use Rattle.codes.specs.Codes.{fails, is_ok, answer_of}
use Rattle.codes.proofs.Gates.{if-ok-by}
use Rattle.codes.specs.declared.Code.TheVariants.{Ok, Inval, Again}
use Rattle.queue.specs.declared.Response.{Response}
use Rattle.queue.specs.declared.Side.{Side}
use Rattle.queue.specs.Queue.{Signed, Lists, SigningStep, waiting, waiting_signed, signed_in, no_response, oldest_response, queued}
use Rattle.response_rules.specs.Pull.{pull_code, pull_of}

-- ---- the responses, as lists
pub ready-length : (s : Side Response) → length (waiting_signed s) ≡ length (waiting s)
unfolding waiting_signed
ready-length s = length-map (waiting s) signed_in

map_first : {A B : Type 0} (f : A → B) (l : List A) (d : A) → get_or (map f l) 0 (f d) ≡ f (get_or l 0 d)
map_first f [] d = refl
map_first f (x ∷ l) d = refl

pub ready-first : (s : Side Response) (r : Response) → r ≡ get_or (waiting s) 0 no_response → oldest_response (waiting_signed s) ≡ signed_in r
unfolding waiting_signed oldest_response signed_in no_response
ready-first s r h = map_first signed_in (waiting s) no_response ∙ ap signed_in (sym h)

-- ---- pull
module _ (size : ℕ) (q : Lists) where
  pub pull-none : length q.responses ≡ 0 → pull_code size q ≡ Again
  unfolding pull_code fails
  pull-none h = rw (eq-eqb (length q.responses) 0 h)

  module _ (n : length q.responses ≡ 0 → ⊥) (r : Signed) (e : oldest_response q.responses ≡ r) where
    pub pull-long : size < 18 + length r.signature → pull_code size q ≡ Inval
    unfolding pull_code fails
    pull-long h = rw (ne_eqb (length q.responses) 0 n, e, lt-ltb size (18 + length r.signature) h)

    pub pull-ok : 18 + length r.signature ≤ size → pull_code size q ≡ Ok
    unfolding pull_code fails
    pull-ok h = rw (ne_eqb (length q.responses) 0 n, e, le-ltb size (18 + length r.signature) h)

-- "response kept": a refused pull leaves the buffer and both sides unchanged, with zeros in x1 and x2
pub pull-refused : (b : List ℕ) (q : Lists) → is_ok (pull_of b q).answer.code ≡ false →
    pull_of b q ≡ record { answer = answer_of (pull_of b q).answer.code 0 0; page = b; queue = q }
unfolding pull_of queued answer_of
pull-refused b q =
    if-ok-by (λ (s : SigningStep). is_ok s.answer.code ≡ false →
    s ≡ record { answer = answer_of s.answer.code 0 0; page = b; queue = q }) (pull_code (length b) q) _ _
    (λ e h. absurd (true≢false h)) (λ e h. refl)
