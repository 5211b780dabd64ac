-- What an image becomes under each move: the queue that it then holds, still 210 words, and exact if it was. Assumes nothing.
use Prim.Native.Nat.{ℕ, ◌<◌}
use mathlib.Core.Path.{◌≡◌, refl, ap, ◌∙◌}
use mathlib.Core.List.{List, [], ◌∷◌, ◌++◌}
use native.Mathlib.Omega.{arith}
use lib.ListN.{length, drop}
use Rattle.words.specs.Tests.{Yes}
use Rattle.words.specs.Word.{are_words}
use Rattle.queue.specs.declared.Request.{Request}
use Rattle.queue.specs.Queue.{Signed, Lists}
use Rattle.queue_image.specs.Image.{lists_in, request_words, response_words, request_fits, response_fits, Exact}
use Rattle.queue_image.specs.Sides.{request_side, response_side, row_joined, row_dropped}
use Rattle.queue_image.specs.Waits.{of_requests, of_responses}
use Rattle.queue_image.proofs.Sides.{request-wide, response-wide}
use Rattle.queue_image.proofs.Fits.{request-words, response-words, joined_words, dropped-words}
use Rattle.queue_image.proofs.InPlace.{requests-wait, responses-wait}
use Rattle.queue_image.proofs.Moves.{joined-210, dropped-210}
use Rattle.queue_image.proofs.Waits.{request-joined, response-joined, request-dropped, response-dropped}
use Rattle.queue_image.proofs.Waits.{request-joined-exact, response-joined-exact, request-dropped-exact, response-dropped-exact}

pub record Becomes (before after : List ℕ) (q : Lists) : Type 0 where
  pub lists : lists_in after ≡ q
  pub whole : length after ≡ 210
  pub words : Yes (are_words after)
  pub exact : Exact before → Exact after

module _ (w : List ℕ) (l : length w ≡ 210) (h : Yes (are_words w)) where
  pub as_it_was : Becomes w w (lists_in w)
  as_it_was = record { lists = refl; whole = l; words = h; exact = λ e. e }

  pub joins-requests : (r : Request) → Yes (request_fits r) → length (lists_in w).requests < 8 →
      Becomes w (row_joined request_side (request_words r) w) (record
      { requests = (lists_in w).requests ++ (r ∷ []); responses = (lists_in w).responses })
  joins-requests r y n =
      record {
        lists = request-joined w l r y n;
        whole = joined-210 of_requests w l (request_words r) (request-wide r) (omega (arith, requests-wait w));
        words = joined_words request_side w h (request_words r) (request-words r y);
        exact = λ e. request-joined-exact w l e r y n;
      }

  pub joins-responses : (r : Signed) → Yes (response_fits r) → length (lists_in w).responses < 8 →
      Becomes w (row_joined response_side (response_words r) w)
      (record { requests = (lists_in w).requests; responses = (lists_in w).responses ++ (r ∷ []) })
  joins-responses r y n =
      record {
        lists = response-joined w l r y n;
        whole = joined-210 of_responses w l (response_words r) (response-wide r) (omega (arith, responses-wait w));
        words = joined_words response_side w h (response_words r) (response-words r y);
        exact = λ e. response-joined-exact w l e r y n;
      }

  pub drops-request : Becomes w (row_dropped request_side w)
      (record { requests = drop 1 (lists_in w).requests; responses = (lists_in w).responses })
  drops-request =
      record {
        lists = request-dropped w l;
        whole = dropped-210 of_requests w l;
        words = dropped-words request_side w h;
        exact = λ e. request-dropped-exact w l e;
      }

  pub drops-response : Becomes w (row_dropped response_side w)
      (record { requests = (lists_in w).requests; responses = drop 1 (lists_in w).responses })
  drops-response =
      record {
        lists = response-dropped w l;
        whole = dropped-210 of_responses w l;
        words = dropped-words response_side w h;
        exact = λ e. response-dropped-exact w l e;
      }

-- one move after another
pub and_then : (w v u : List ℕ) (q : Lists) (f : Lists → Lists) → Becomes w v q → Becomes v u (f (lists_in v)) → Becomes w u (f q)
and_then w v u q f a b =
    record { lists = b.lists ∙ ap f a.lists; whole = b.whole; words = b.words; exact = λ e. b.exact (a.exact e) }
