-- Arrays that hold a list and zeros after it. Assumes nothing.
use Prim.Native.Nat.{ℕ, zero, suc, ◌+◌, ◌-◌, ◌<◌, ◌≤◌}
use mathlib.Core.Path.{◌≡◌, refl, sym, ap, ◌∙◌}
use mathlib.Core.Bool.{Bool, true, false, cond}
use mathlib.Core.List.{List, [], ◌∷◌, ◌++◌, map, map-append}
use native.Mathlib.Nat.{zero-add, zero-sub, sub-zero, suc-sub-suc}
use native.Mathlib.Numerals.{add-one}
use native.Mathlib.Omega.{arith}
use lib.ListN.{length, take, drop, get_or, set, replicate, length-append, length-take, length-replicate, length-map}
use lib.Seq.{take_at, length-take-le, take-suc, set-append_seam, append_snoc}
use lib.Dec.{ltb}
use Rattle.std.proofs.lemmas.List.{map-id, drop-map}
use Rattle.std.proofs.lemmas.Simd.{map-map}
use Rattle.words.specs.Word.{splice, laid}
use Rattle.words.proofs.Store.{bytes-in}
use Rattle.queue.specs.declared.Request.{Request}
use Rattle.queue.specs.declared.Response.{Response}
use Rattle.queue.specs.declared.Side.{Side}
use Rattle.queue.specs.Queue.{Signed, Lists, waiting, waiting_signed, signed_in, lists_of, appended, no_request, no_response}
use Rattle.queue.specs.Queue.{pad_to, side_of, requests_holding, response_holding, responses_holding, queue_holding}
use Rattle.queue.proofs.Sides.{taken-all, joined-room, joined-full}

module _ {A : Type 0} where
  -- one more entry after the list
  pub pad-set : (n : ℕ) (z x : A) (l : List A) → length l < n → set (pad_to n z l) (length l) x ≡ pad_to n z (l ++ (x ∷ []))
  unfolding pad_to
  pad-set n z x l h =
      let k : ℕ = n - length (l ++ (x ∷ [])) in
      let e : n - length l ≡ suc k = omega (arith, length-append l (x ∷ [])) in
      ap (λ (m : ℕ). set (l ++ replicate m z) (length l) x) e ∙ set-append_seam l z (replicate k z) x ∙
      sym (append_snoc l x (replicate k z))

  drop-replicate : (k n : ℕ) (z : A) → drop k (replicate n z) ≡ replicate (n - k) z
  drop-replicate zero n z = ap (λ (m : ℕ). replicate m z) (sym (sub-zero n))
  drop-replicate (suc k) zero z = ap (λ (m : ℕ). replicate m z) (sym (zero-sub (suc k)))
  drop-replicate (suc k) (suc n) z = drop-replicate k n z ∙ ap (λ (m : ℕ). replicate m z) (sym (suc-sub-suc n k))

  -- ---- a side, entry by entry
  module _ (z : A) where
    pub side-more : (s : Side A) (l : List A) (x : A) → s ≡ side_of z l → length l < 8 →
        record { items = set s.items s.count x; count = s.count + 1 } ≡ side_of z (l ++ (x ∷ []))
    side-more s l x e h = rw (e, pad-set 8 z x l h, length-append)

    pub side-next : (f : A → A) (l : List A) (i : ℕ) (s : Side A) (x d : A) → s ≡ side_of z (map f (take i l)) → i < length l → length l ≤ 8 →
        x ≡ f (get_or l i d) → record { items = set s.items s.count x; count = s.count + 1 } ≡ side_of z (map f (take (i + 1) l))
    side-next f l i s x d e h room g =
        let n : length (map f (take i l)) ≡ i = length-map (take i l) f ∙ length-take-le i l (omega arith) in
        let t : take (i + 1) l ≡ take i l ++ (get_or l i d ∷ []) = rw add-one (take-suc l i d h) in
        let m : map f (take (i + 1) l) ≡ map f (take i l) ++ (x ∷ []) = ap (map f) t ∙ map-append f (take i l) (get_or l i d ∷ []) ∙ rw g in
        side-more s (map f (take i l)) x e (omega (arith, n)) ∙ ap (side_of z) (sym m)

    -- one more at the end if fewer than eight wait
    module _ (f : A → A) (l : List A) (s : Side A) (e : s ≡ side_of z (map f l)) where
      counted : s.count ≡ length l
      counted = ap (λ (r : Side A). r.count) e ∙ length-map l f

      pub side-full : (x : A) → 8 ≤ s.count → s ≡ side_of z (map f (appended l x))
      side-full x h = rw (joined-full l x (omega (arith, counted))) e

      pub side-joined : (x y : A) → y ≡ f x → s.count < 8 →
          record { items = set s.items s.count y; count = s.count + 1 } ≡ side_of z (map f (appended l x))
      side-joined x y g h =
          let m : length l < 8 = omega (arith, counted) in
          rw (joined-room l x m, map-append f l (x ∷ []), ← g) (side-more s (map f l) y e (omega (arith, length-map l f)))

-- ---- laid over zeros
pad-laid : (n : ℕ) (l : List ℕ) → length l ≤ n → laid 0 l (replicate n 0) ≡ pad_to n 0 l
unfolding pad_to splice
pad-laid n l h = bytes-in 0 l (replicate n 0) (omega (arith, length-replicate {A = ℕ} n 0)) ∙ rw (zero-add, drop-replicate)

pub signed-laid : (r : Response) (n : ℕ) (t : List ℕ) → length r.signature ≡ 104 → n ≡ length (signed_in r).signature →
    t ≡ laid 0 (take n r.signature) (replicate 104 0) →
    record { granule = r.granule; ticket = r.ticket; len = n; signature = t } ≡ response_holding (signed_in r)
unfolding signed_in response_holding
signed-laid r n t h e p =
    let d : List ℕ = take r.len r.signature in
    let k : take n r.signature ≡ d = ap (λ (i : ℕ). take i r.signature) e ∙ taken-all r.len r.signature in
    let z : t ≡ pad_to 104 0 d = p ∙ ap (λ (l : List ℕ). laid 0 l (replicate 104 0)) k ∙
    pad-laid 104 d (omega (arith, length-take r.len r.signature)) in
    rw (z, e)

-- ---- the two sides
pub requests_held : (l : List Request) → side_of no_request (map (λ (r : Request). r) l) ≡ requests_holding l
unfolding requests_holding
requests_held l = ap (side_of no_request) (map-id l)

pub responses_held : (l : List Response) → side_of no_response (map (λ (r : Response). response_holding (signed_in r)) l) ≡ responses_holding (map signed_in l)
unfolding responses_holding
responses_held l =
    ap (side_of no_response) (sym (map-map response_holding signed_in l)) ∙
    ap (λ (n : ℕ). record { items = pad_to 8 no_response (map response_holding (map signed_in l)); count = n })
    (length-map (map signed_in l) response_holding)

-- the responses without the oldest g
pub responses-after : (g : ℕ) (s : Side Response) →
    side_of no_response (map (λ (r : Response). response_holding (signed_in r)) (drop g (waiting s))) ≡ responses_holding (drop g (waiting_signed s))
unfolding waiting_signed
responses-after g s = responses_held (drop g (waiting s)) ∙ ap responses_holding (sym (drop-map signed_in g (waiting s)))

-- a response more at the end
appended-signed : (l : List Response) (x : Response) → map signed_in (appended l x) ≡ appended (map signed_in l) (signed_in x)
unfolding appended
appended-signed l x = rw length-map (cond-map (ltb (length l) 8))
  where
    cond-map : (b : Bool) → map signed_in (cond b (l ++ (x ∷ [])) l) ≡ cond b (map signed_in l ++ (signed_in x ∷ [])) (map signed_in l)
    cond-map true = map-append signed_in l (x ∷ [])
    cond-map false = refl

pub responses-joined : (s : Side Response) (x : Response) →
    side_of no_response (map (λ (r : Response). response_holding (signed_in r)) (appended (waiting s) x)) ≡
    responses_holding (appended (waiting_signed s) (signed_in x))
unfolding waiting_signed
responses-joined s x = responses_held (appended (waiting s) x) ∙ ap responses_holding (appended-signed (waiting s) x)

-- ---- the queue that holds some lists is read as those lists
pad-back : {A : Type 0} (n k : ℕ) (z : A) (l : List A) → k ≡ length l → take k (pad_to n z l) ≡ l
unfolding pad_to
pad-back n k z l e = take_at l (replicate (n - length l) z) k (sym e)

signed_back : (l : List Signed) → map signed_in (map response_holding l) ≡ l
unfolding signed_in response_holding
signed_back [] = refl
signed_back (s ∷ l) = rw (pad-back 104 (length s.signature) 0 s.signature refl, signed_back l)

pub lists_back : (q : Lists) → lists_of (queue_holding q) ≡ q
unfolding lists_of waiting waiting_signed queue_holding requests_holding responses_holding
lists_back q =
    rw (
      pad-back 8 (length q.requests) no_request q.requests refl,
      pad-back 8 (length q.responses) no_response (map response_holding q.responses) (sym (length-map q.responses response_holding)),
      signed_back,
    )
