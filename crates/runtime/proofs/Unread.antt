-- Only a push reads bytes of the page: on two pages of equal length any other call gives the same answer, and leaves the same table,
-- session and queue. Assumes nothing.
use Prim.Native.Nat.{ℕ}
use mathlib.Core.Path.{◌≡◌, refl, sym, ap, ◌∙◌}
use mathlib.Core.Bool.{Bool, true, false, cond, true≢false, false≢true}
use mathlib.Core.List.{List}
use lib.ListN.{length}
use lib.Dec.{eqb}
use borrow.Author.Tests.{eqb-true}
use Rattle.banks.specs.Banks.{Granules}
use Rattle.codes.specs.declared.Answer.{Answer}
use Rattle.codes.specs.declared.Work.TheVariants.{Nothing}
use Rattle.attest.proofs.Unread.{key-unread}
use Rattle.token_rules.proofs.Unread.{token-unread}
use Rattle.signing.proofs.Unread.{signing-unread}
use Rattle.runtime.specs.declared.Kind.{Kind}
use Rattle.runtime.specs.declared.Kind.TheVariants.{ForwardError, Delegate, Undelegate, RealmKey, PlatformToken, Features}
use Rattle.runtime.specs.declared.Kind.TheVariants.{TokenSigning, KeyUpdate, Unlisted}
use Rattle.runtime.specs.declared.Reply.TheVariants.{Back}
use Rattle.runtime.specs.Step.{World, with_page, Call, Step, kind_of, after_move, after_key, after_token, after_signing, after_update}
use Rattle.runtime.specs.Step.{call_by, call_of}

-- equal except for the page
pub record SameStep (x y : Step) : Type 0 where
  pub reply : x.reply ≡ y.reply
  pub table : x.next.table ≡ y.next.table
  pub session : x.next.session ≡ y.next.session
  pub queue : x.next.queue ≡ y.next.queue

-- ---- only 0xC40001B5 is token signing
abbrev is_signing : Kind → Bool
is_signing ForwardError = false
is_signing Delegate = false
is_signing Undelegate = false
is_signing RealmKey = false
is_signing PlatformToken = false
is_signing Features = false
is_signing TokenSigning = true
is_signing KeyUpdate = false
is_signing Unlisted = false

other : (b : Bool) (x y : Kind) → is_signing x ≡ false → is_signing (cond b x y) ≡ true → is_signing y ≡ true
other true x y n h = absurd (true≢false (sym h ∙ n))
other false x y n h = h

pub signing-id : (id : ℕ) → kind_of id ≡ TokenSigning → id ≡ 0xC40001B5
unfolding kind_of
signing-id id h =
    let h1 = other (eqb id 0xC400018F) ForwardError _ refl (ap is_signing h) in
    let h2 = other (eqb id 0xC40001B0) Delegate _ refl h1 in
    let h3 = other (eqb id 0xC40001B1) Undelegate _ refl h2 in
    let h4 = other (eqb id 0xC40001B2) RealmKey _ refl h3 in
    let h5 = other (eqb id 0xC40001B3) PlatformToken _ refl h4 in
    let h6 = other (eqb id 0xC40001B4) Features _ refl h5 in
    go (eqb id 0xC40001B5) refl h6
  where
    go : (b : Bool) → eqb id 0xC40001B5 ≡ b → is_signing (cond b TokenSigning (cond (eqb id 0xC40001B6) KeyUpdate Unlisted)) ≡ true → id ≡ 0xC40001B5
    go true e k = eqb-true id 0xC40001B5 e
    go false e k = absurd (false≢true (other (eqb id 0xC40001B6) KeyUpdate Unlisted refl k))

module _ (g : Granules) (w : World) (c : Call) (p q : List ℕ) (e : length p ≡ length q) where
  by-unread : (k : Kind) → (k ≡ TokenSigning → c.x1 ≡ 1 → ⊥) → SameStep (call_by k g (with_page p w) c) (call_by k g (with_page q w) c)
  unfolding call_by after_move after_key after_token after_signing after_update
  by-unread ForwardError n = record { reply = refl; table = refl; session = refl; queue = refl }
  by-unread Delegate n = record { reply = refl; table = refl; session = refl; queue = refl }
  by-unread Undelegate n = record { reply = refl; table = refl; session = refl; queue = refl }
  by-unread RealmKey n =
      record {
        reply = ap (λ (a : Answer). Back a Nothing) (key-unread c.state p q c.realm_key c.x1 c.x2 c.x3 e);
        table = refl;
        session = refl;
        queue = refl;
      }
  by-unread PlatformToken n =
      let t = token-unread c.state p q w.session c.busy c.token c.x1 c.x2 c.x3 e in
      record { reply = ap (λ (a : Answer). Back a Nothing) t.0; table = refl; session = t.1; queue = refl }
  by-unread Features n = record { reply = refl; table = refl; session = refl; queue = refl }
  by-unread TokenSigning n =
      let s = signing-unread c.state p q w.queue c.public_key c.x1 c.x2 c.x3 c.x4 (n refl) e in
      record { reply = ap (λ (a : Answer). Back a Nothing) s.0; table = refl; session = refl; queue = s.1 }
  by-unread KeyUpdate n = record { reply = refl; table = refl; session = refl; queue = refl }
  by-unread Unlisted n = record { reply = refl; table = refl; session = refl; queue = refl }

  pub call-unread : (c.id ≡ 0xC40001B5 → c.x1 ≡ 1 → ⊥) → SameStep (call_of g (with_page p w) c) (call_of g (with_page q w) c)
  unfolding call_of
  call-unread n = by-unread (kind_of c.id) (λ k. n (signing-id c.id k))
