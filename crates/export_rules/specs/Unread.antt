-- Only a push reads bytes of the page: on two pages of equal length any other export gives the same answer, and leaves the same table, words
-- and images. So another core that writes to the shared page during such a call cannot change the answer. Assumes nothing.
use Rattle.std.specs.Prelude.{ℕ, ◌≡◌, List}
use Rattle.attest.specs.Key.{realm_key_of}
use Rattle.runtime.specs.Step.{Call}
use Rattle.images.specs.Image.{record_of, register_words}
use Rattle.export_rules.specs.Exports.{TokenLeft, token_in, SigningLeft, signing_in, CallLeft, call_in}

-- equal results, except for the page
abbrev pub SameTokenLeft : TokenLeft → TokenLeft → Type 0
SameTokenLeft x y = (x.out ≡ y.out) × (x.session ≡ y.session)

-- the same for token signing
abbrev pub SameSigningLeft : SigningLeft → SigningLeft → Type 0
SameSigningLeft x y = (x.out ≡ y.out) × (x.queue ≡ y.queue)

-- the same for any command
pub record SameCallLeft (x y : CallLeft) : Type 0 where
  pub out : x.out ≡ y.out
  pub work : x.work ≡ y.work
  pub table : x.table ≡ y.table
  pub words : x.words ≡ y.words
  pub session : x.session ≡ y.session
  pub queue : x.queue ≡ y.queue

-- for each export that writes the page, equal results on pages p and q
pub record ExportsUnread (p q : List ℕ) : Type 0 where
  -- pbeam_realm_key
  pub realm_key : (state key : List ℕ) (pa size curve : ℕ) →
      register_words (realm_key_of (record_of state) p key pa size curve).answer ≡ register_words
      (realm_key_of (record_of state) q key pa size curve).answer
  -- pbeam_platform_token
  pub token : (state session token : List ℕ) (busy pa size csize : ℕ) →
      SameTokenLeft (token_in state session p token busy pa size csize) (token_in state session q token busy pa size csize)
  -- pbeam_token_signing with any opcode except push
  pub signing : (state queue key : List ℕ) (opcode pa size curve : ℕ) → (opcode ≡ 1 → ⊥) →
      SameSigningLeft (signing_in state queue p key opcode pa size curve) (signing_in state queue q key opcode pa size curve)
  -- pbeam_call with any command except a push
  pub call : (granules session queue table words : List ℕ) (c : Call) → (c.id ≡ 0xC40001B5 → c.x1 ≡ 1 → ⊥) →
      SameCallLeft (call_in granules session queue p table words c) (call_in granules session queue q table words c)
