-- The theorems of E13 on the collector: what it holds after any messages, and that a refused one changes nothing. Assumes nothing.
use Prim.Native.Nat.{ℕ, ◌+◌, ◌≤◌}
use mathlib.Core.Path.{◌≡◌, refl, ap, ◌∙◌}
use mathlib.Core.Bool.{true, false}
use mathlib.Core.List.{List, [], ◌∷◌, ◌++◌}
use native.Mathlib.Omega.{arith}
use lib.Dec.{eqb}
use lib.ListN.{length, take, length-append}
use lib.Seq.{length-take-le, take_at, take-add, take-length}
use borrow.Author.Tests.{eqb-true}
use Rattle.std.specs.Prelude.{Err}
use Rattle.words.specs.Word.{part, splice}
use Rattle.words.specs.Tests.{both}
use Rattle.state_blobs.specs.Collect.{new_collector, is_complete, Outcome, unchanged, piece_appended, collect}
use Rattle.state_blobs.specs.Blobs.{Offer, Held, started, after_offer, after_offers, CutHere, Cuts, HoldsFirst, HoldsWhole}
use Rattle.state_messages.specs.declared.StateRefusal.{StateRefusal}
use Rattle.state_blobs.proofs.Collects.{decide-fits, collect-cases, refused-same, first-some}

pub front-started : (blob b : List ℕ) → HoldsFirst blob (started b)
unfolding started new_collector
front-started blob b = record { within = omega arith; bytes = refl; whole = λ t e. cc }

-- the bytes after those held are the blob's next ones
front-join : (held : ℕ) (vs b blob : List ℕ) → held ≤ length b → take held b ≡ take held blob → vs ≡ part held (length vs) blob →
    take (held + length vs) (splice held vs b) ≡ take (held + length vs) blob
unfolding splice part
front-join held vs b blob h e q =
    take_at (take held b ++ vs) _ (held + length vs) (length-append (take held b) vs ∙ rw (length-take-le held b h))
    ∙ rw (take-add held (length vs) blob, e) (ap (λ (l : List ℕ). take held blob ++ l) q)

pub front-after : (blob : List ℕ) (o : Offer) (h : Held) → CutHere blob o h → HoldsFirst blob h → HoldsFirst blob (after_offer o h)
unfolding after_offer unchanged piece_appended
front-after blob o h cut f =
    let c = h.collector in
    collect-cases c h.buffer o.largest o.message
    (λ why q. rw q f)
    (λ p e a q.
    let fits = decide-fits c p.total (length p.bytes) (length h.buffer) a in
    let k = cut p e (ap (λ (r : Outcome). r.verdict) q) in
    rw q
    (record {
      within = omega arith;
      bytes = front-join c.held p.bytes h.buffer blob (omega arith) f.bytes k.1;
      whole = λ t s. cc (k.0);
    }))

pub front-after-all : (blob : List ℕ) (os : List Offer) (h : Held) → Cuts blob os h → HoldsFirst blob h → HoldsFirst blob (after_offers os h)
unfolding after_offers Cuts
front-after-all blob [] h cuts f = f
front-after-all blob (o ∷ os) h cuts f = front-after-all blob os (after_offer o h) cuts.1 (front-after blob o h cuts.0 f)

-- Request E13: "From a new collector with one buffer throughout, if each response accepted was cut from one blob at the number of bytes
-- then held, with that blob's length as totlength, the bytes held are that blob's first ones." Any messages; refused ones may be anything.
pub held-are-first : (blob : List ℕ) (os : List Offer) (b : List ℕ) → Cuts blob os (started b) →
    HoldsFirst blob (after_offers os (started b))
held-are-first blob os b cuts = front-after-all blob os (started b) cuts (front-started blob b)

-- so a complete collector holds the blob. Request E13: "complete exactly when a response was accepted and it holds totlength bytes"
pub complete-holds-blob : (blob : List ℕ) (os : List Offer) (b : List ℕ) → Cuts blob os (started b) →
    is_complete (after_offers os (started b)).collector ≡ true →
    HoldsWhole blob (after_offers os (started b))
unfolding is_complete
complete-holds-blob blob os b cuts done =
    let c = (after_offers os (started b)).collector in
    let f = held-are-first blob os b cuts in
    let w = first-some c.total (λ t. eqb c.held t) done in
    let e : c.held ≡ length blob = eqb-true c.held w.0 w.2 ∙ f.whole w.0 w.1 in
    (e, f.bytes ∙ rw e (take-length blob))

-- a new collector is not complete, though it holds 0 bytes of 0
pub new-not-complete : is_complete new_collector ≡ false
unfolding is_complete new_collector both
new-not-complete = refl

-- ---- Request E13: "On refusal collector and lent buffers stay unchanged.": a refused message, of any kind, from any state
pub refused-changes-nothing : (o : Offer) (h : Held) {why : StateRefusal} →
    (collect o.largest o.message h.collector h.buffer).verdict ≡ Err why → after_offer o h ≡ h
unfolding after_offer
refused-changes-nothing o h r = let s = refused-same o.largest o.message h.collector h.buffer r in rw (s.0, s.1)

-- so refused messages can be left out of any sequence
pub refused-skipped : (xs ys : List Offer) (o : Offer) (h : Held) {why : StateRefusal} →
    (collect o.largest o.message (after_offers xs h).collector (after_offers xs h).buffer).verdict ≡ Err why →
    after_offers (xs ++ (o ∷ ys)) h ≡ after_offers (xs ++ ys) h
unfolding after_offers
refused-skipped [] ys o h r = ap (after_offers ys) (refused-changes-nothing o h r)
refused-skipped (x ∷ xs) ys o h r = refused-skipped xs ys o (after_offer x h) r
