-- The collector after any messages, as a function of the accepted responses alone. Assumes nothing.
use Prim.Native.Nat.{ℕ, ◌+◌, ◌≤◌}
use mathlib.Core.Path.{◌≡◌, refl, sym, ap, ◌∙◌}
use mathlib.Core.Bool.{Bool, true, false, not}
use mathlib.Core.List.{List, [], ◌∷◌, ◌++◌, append_assoc, append-nil}
use native.Mathlib.Omega.{arith}
use lib.ListN.{length, take, length-append}
use lib.Seq.{length-take-le, take_at}
use borrow.Author.Tests.{eqb-true}
use Rattle.std.specs.Prelude.{Some}
use Rattle.words.specs.Word.{splice}
use Rattle.words.specs.Tests.{both}
use Rattle.state_messages.specs.Messages.{StateResponse, read_response}
use Rattle.state_blobs.specs.Collect.{new_collector, is_complete, other_total, unchanged, piece_appended, collect}
use Rattle.state_blobs.specs.Blobs.{Offer, Held, started, after_offer, after_offers, accepted_if, accepted_of, joined_data, collector_over}
use Rattle.state_blobs.specs.Blobs.{complete_over, HoldsJoined}
use Rattle.state_blobs.specs.declared.Collector.{Collector}
use Rattle.state_blobs.proofs.Collects.{decide-fits, collect-cases}

-- one more response
joined-more : (ps : List StateResponse) (p : StateResponse) → joined_data (ps ++ (p ∷ [])) ≡ joined_data ps ++ p.bytes
unfolding joined_data
joined-more [] p = append-nil p.bytes
joined-more (q ∷ ps) p = ap (λ (l : List ℕ). q.bytes ++ l) (joined-more ps p) ∙ sym (append_assoc q.bytes (joined_data ps) p.bytes)

same : (b : Bool) → not b ≡ false → b ≡ true
same true h = refl
same false h = sym h

over-held : (ps : List StateResponse) → (collector_over ps).held ≡ length (joined_data ps)
unfolding collector_over new_collector joined_data
over-held [] = refl
over-held (p ∷ ps) = refl

over-more : (ps : List StateResponse) (p : StateResponse) → other_total (collector_over ps) p.total ≡ false →
    ◌≡◌ {A = Collector} (record { total = Some p.total; held = length (joined_data (ps ++ (p ∷ []))) })
    (collector_over (ps ++ (p ∷ [])))
unfolding collector_over other_total both
over-more [] p h = refl
over-more (q ∷ ps) p h = rw (eqb-true q.total p.total (same _ h))

-- the bytes after those held are the response's
front-more : (held : ℕ) (vs b l : List ℕ) → held ≤ length b → take held b ≡ l → take (held + length vs) (splice held vs b) ≡ l ++ vs
unfolding splice
front-more held vs b l h e =
    take_at (take held b ++ vs) _ (held + length vs) (length-append (take held b) vs ∙ rw (length-take-le held b h)) ∙ rw e

accepted-more : (ps : List StateResponse) (p : StateResponse) (c : Collector) (b : List ℕ) → c ≡ collector_over ps →
    take c.held b ≡ joined_data ps → other_total c p.total ≡ false → c.held ≤ length b →
    HoldsJoined (ps ++ (p ∷ [])) (record {
      collector = (piece_appended c p.total p.bytes b).collector;
      buffer = (piece_appended c p.total p.bytes b).buffer;
    })
unfolding piece_appended
accepted-more ps p c b e f o h =
    let n : c.held ≡ length (joined_data ps) = ap (λ (k : Collector). k.held) e ∙ over-held ps in
    let m : length (joined_data (ps ++ (p ∷ []))) ≡ c.held + length p.bytes = rw
    (joined-more ps p, length-append (joined_data ps) p.bytes, n) in
    (rw (← m) (over-more ps p (rw (← e) o)), rw (joined-more ps p) (front-more c.held p.bytes b (joined_data ps) h f))

step-joins : (ps : List StateResponse) (o : Offer) (h : Held) → HoldsJoined ps h →
    HoldsJoined (ps ++ accepted_if (collect o.largest o.message h.collector h.buffer).verdict
    (read_response o.largest o.message)) (after_offer o h)
unfolding after_offer unchanged piece_appended accepted_if
step-joins ps o h j =
    let c = h.collector in
    collect-cases c h.buffer o.largest o.message
    (λ why q. rw (q, append-nil ps) j)
    (λ p e a q.
    let fits = decide-fits c p.total (length p.bytes) (length h.buffer) a in
    rw (q, e) (accepted-more ps p c h.buffer j.0 j.1 fits.0 (omega arith)))

joins-all : (ps : List StateResponse) (os : List Offer) (h : Held) → HoldsJoined ps h →
    HoldsJoined (ps ++ accepted_of os h) (after_offers os h)
unfolding after_offers accepted_of
joins-all ps [] h j = rw (append-nil ps) j
joins-all ps (o ∷ os) h j =
    let qs = accepted_if (collect o.largest o.message h.collector h.buffer).verdict (read_response o.largest o.message) in
    rw (← append_assoc ps qs (accepted_of os (after_offer o h))) (joins-all (ps ++ qs) os (after_offer o h) (step-joins ps o h j))

-- Request E13: "A collector joins responses into a lent buffer, each after the bytes held." From a new collector with one buffer
-- throughout, after any messages, it holds the data of the responses accepted, and no others; its total is that of the first of them.
pub holds-accepted : (os : List Offer) (b : List ℕ) → HoldsJoined (accepted_of os (started b)) (after_offers os (started b))
unfolding started collector_over new_collector joined_data
holds-accepted os b = joins-all [] os (started b) (refl, refl)

-- Request E13: "It is complete exactly when a response was accepted and it holds totlength bytes."
complete-over : (ps : List StateResponse) → is_complete (collector_over ps) ≡ complete_over ps
unfolding is_complete both collector_over new_collector complete_over
complete-over [] = refl
complete-over (p ∷ ps) = refl

pub complete-exactly : (os : List Offer) (b : List ℕ) → is_complete (after_offers os (started b)).collector ≡ complete_over
    (accepted_of os (started b))
complete-exactly os b = ap is_complete (holds-accepted os b).0 ∙ complete-over (accepted_of os (started b))
