-- One message for the collector: what its answer implies, and that a refusal changes nothing. Assumes nothing.
use Prim.Native.Nat.{ℕ, ◌+◌, ◌≤◌}
use mathlib.Core.Path.{◌≡◌, refl, sym, ap}
use mathlib.Core.Bool.{Bool, true, false, cond, not}
use mathlib.Core.List.{List}
use native.Mathlib.Omega.{arith}
use lib.ListN.{length, drop}
use lib.Dec.{ltb, eqb}
use borrow.Author.Tests.{ltb-false, eq-eqb}
use Rattle.std.specs.Prelude.{Option, Some, None, Result, Ok, Err}
use Rattle.words.specs.Tests.{both}
use Rattle.state_messages.specs.Messages.{StateResponse, Got, read_response, response_read}
use Rattle.state_blobs.specs.Collect.{other_total, decide, Outcome, first_total, unchanged, piece_appended, settle, offer_bytes, collect_got, collect}
use Rattle.state_messages.specs.declared.StateRefusal.{StateRefusal}
use Rattle.state_messages.specs.declared.StateRefusal.TheVariants as refusal
use Rattle.state_messages.specs.declared.Piece.{Piece}
use Rattle.state_blobs.specs.declared.Collector.{Collector}
use Rattle.state_messages.proofs.Readings.{told-rejected, told-got, place-holds, read-got}

-- the first totlength, where a test of it holds
pub first-some : (o : Option ℕ) (f : ℕ → Bool) → first_total o f ≡ true → (t : ℕ) × (o ≡ Some t) × (f t ≡ true)
first-some None f h = cc
first-some (Some t) f h = (t, refl, h)

-- no other totlength
pub same_total : (o : Option ℕ) (total : ℕ) → ((t : ℕ) → o ≡ Some t → t ≡ total) → first_total o (λ t. not (eqb t total)) ≡ false
same_total None total e = refl
same_total (Some t) total e = rw (eq-eqb t total (e t refl))

-- another total; past the total; past the buffer; no data while bytes are missing
passed : (d t r z : Bool) →
    ◌≡◌ {A = Result (Unit {0}) StateRefusal}
    (cond d (Err refusal.TotalDiffers) (cond t (Err refusal.PastTotal) (cond r (Err refusal.PastBuffer) (cond z (Err refusal.NoData) (Ok tt)))))
    (Ok tt) →
    (d ≡ false) × (t ≡ false) × (r ≡ false)
passed true t r z h = cc
passed false true r z h = cc
passed false false true z h = cc
passed false false false z h = (refl, refl, refl)

-- accepted bytes fit the total and the buffer
pub decide-fits : (c : Collector) (total n room : ℕ) → decide c total n room ≡ Ok tt →
    (other_total c total ≡ false) × (c.held + n ≤ total) × (c.held + n ≤ room)
unfolding decide
decide-fits c total n room h =
    let f = passed (other_total c total) (ltb total (c.held + n)) (ltb room (c.held + n)) (both (eqb n 0) (ltb c.held total)) h in
    (f.0, ltb-false _ _ f.1, ltb-false _ _ f.2)

-- ---- the collector's step, from what the reader returned
pub collect-rejected : (largest : ℕ) (m : List ℕ) (c : Collector) (b : List ℕ) {why : StateRefusal} →
    response_read (read_response largest m) ≡ Err why → collect largest m c b ≡ unchanged why c b
unfolding collect collect_got
collect-rejected largest m c b h = rw (told-rejected (read_response largest m) h)

pub collect-got : (largest : ℕ) (m : List ℕ) (c : Collector) (b : List ℕ) {v : Piece} →
    response_read (read_response largest m) ≡ Ok v →
    (collect largest m c b ≡ offer_bytes c v.total (drop 16 m) b) × (16 ≤ length m) × (length m ≤ 16 + largest)
unfolding collect collect_got
collect-got largest m c b {v} h =
    told-got (read_response largest m) h (λ p e w.
    let l = place-holds largest m e in
    let f = read-got largest m e in
    let t : p.total ≡ v.total = sym (ap (λ (x : Piece). x.total) w) in
    (rw (e, t, l.0), omega arith, omega arith))

-- ---- a message is refused and changes nothing, or its response is accepted and appended
module _ (c : Collector) (b : List ℕ) {P : Type 0} where
  offer-cases : (total : ℕ) (vs : List ℕ) → ((why : StateRefusal) → offer_bytes c total vs b ≡ unchanged why c b → P) →
      (decide c total (length vs) (length b) ≡ Ok tt → offer_bytes c total vs b ≡ piece_appended c total vs b → P) → P
  unfolding offer_bytes settle
  offer-cases total vs left done = go (decide c total (length vs) (length b)) refl
    where
      go : (a : Result (Unit {0}) StateRefusal) → decide c total (length vs) (length b) ≡ a → P
      go (Ok u) e = done e (rw e)
      go (Err why) e = left why (rw e)

  pub collect-cases : (largest : ℕ) (m : List ℕ) → ((why : StateRefusal) → collect largest m c b ≡ unchanged why c b → P) →
      ((p : StateResponse) → read_response largest m ≡ Ok p → decide c p.total (length p.bytes) (length b) ≡ Ok tt →
      collect largest m c b ≡ piece_appended c p.total p.bytes b → P) → P
  unfolding collect collect_got
  collect-cases largest m left done = go (read_response largest m) refl
    where
      go : (g : Got) → read_response largest m ≡ g → P
      go (Err why) e = left why (rw e)
      go (Ok p) e = offer-cases p.total p.bytes (λ why q. left why (rw e q)) (λ a q. done p e a (rw e q))

pub refused-same : (largest : ℕ) (m : List ℕ) (c : Collector) (b : List ℕ) {why : StateRefusal} →
    (collect largest m c b).verdict ≡ Err why →
    ((collect largest m c b).collector ≡ c) × ((collect largest m c b).buffer ≡ b)
unfolding unchanged piece_appended
refused-same largest m c b h =
    collect-cases c b largest m (λ why q. (rw q, rw q)) (λ p e a q. (cc (ap (λ (o : Outcome). o.verdict) q)))
