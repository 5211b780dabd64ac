-- Request E8: the shared page stays Realm over any sequence of commands, so every write to it goes to Realm memory. Assumes nothing.
use Prim.Native.Nat.{ℕ}
use mathlib.Core.Path.{◌≡◌, sym, ◌∙◌}
use mathlib.Core.Bool.{true, false≢true}
use mathlib.Core.List.{List, map}
use Rattle.boot.specs.declared.Record.{Record}
use Rattle.codes.specs.Codes.{boot_params, is_ok, answer_of}
use Rattle.codes.specs.declared.Code.TheVariants.{Ok}
use Rattle.buffer_check.specs.Buffers.{BufferIn}
use Rattle.buffer_check.proofs.Buffers.{passed-in}
use Rattle.granule_rules.specs.Granules.{GranuleTable}
use Rattle.granule_rules.specs.Changes.{Change, RealmAt}
use Rattle.banks.specs.Banks.{Granules}
use Rattle.granule_rules.proofs.Done.{ok-code}
use Rattle.granule_rules.proofs.Shared.{shared_kept}
use Rattle.attest.proofs.Acts.{key-only}
use Rattle.token_rules.specs.Calls.{token_step_of as token_step, token_accepted}
use Rattle.token_rules.proofs.Acts.{token-only}
use Rattle.queue.specs.Queue.{Lists, SigningStep}
use Rattle.signing.specs.Signing.{signing_of}
use Rattle.signing.specs.declared.Opcode.{Opcode}
use Rattle.signing.proofs.Signings.{signing-by}
use Rattle.runtime.specs.Step.{World, Call, Command, kind_of, after_key, after_token, after_signing, call_by, call_of, step_of, reply_code}
use Rattle.runtime.specs.Run.{world_after, token_call}
use Rattle.runtime.specs.Changes.{call_under, under, WritesIntoRealm}
use Rattle.runtime.proofs.Changes.{under-by}

-- "If it was Realm at boot it is Realm after any later calls on that table with the same boot and granule records. E1's lists obey this
-- too.": any commands, including the signer's steps
pub shared-stays : (s : Record) (g : Granules) (w : World) (cs : List Command) → RealmAt g (boot_params s).base w.table →
    RealmAt g (boot_params s).base (world_after g w (map (under s) cs)).table
shared-stays s g w cs =
    under-by (λ (t : GranuleTable) (xs : List Change) (u : GranuleTable). RealmAt g (boot_params s).base t →
    RealmAt g (boot_params s).base u)
    (λ t r. r) (λ t u v xs ys f h r. h (f r)) g s (λ d t a h r. shared_kept s g d t a h r) w cs

-- ---- the buffer of each command that writes to the page
pub signing-buffer : (r : Record) (page : List ℕ) (q : Lists) (key : List ℕ) (op pa size curve : ℕ) →
    is_ok (signing_of r page q key op pa size curve).answer.code ≡ true → BufferIn (boot_params r) page pa size
unfolding answer_of
signing-buffer r page q key op pa size curve =
    signing-by (λ (o : Opcode) (s : SigningStep). is_ok s.answer.code ≡ true → BufferIn (boot_params r) page pa size) r page q key op pa
    size curve
    (record {
      refusal = λ o k e h. absurd (false≢true (sym e ∙ h));
      push = λ p e h. passed-in r page Ok pa size p;
      pull = λ p e h. passed-in r page Ok pa size p;
      public = λ p e h. passed-in r page Ok pa size p;
    })

-- "A test script undelegated the shared page's granule and the next key went into Non-secure memory.": after any commands, when a realm
-- key, a hunk or a response is written, the page's granule is Realm, if it was Realm at the start
pub writes-into-realm : (s : Record) (g : Granules) (w : World) (cs : List Command) (c : Call) →
    RealmAt g (boot_params s).base w.table → WritesIntoRealm s g (world_after g w (map (under s) cs)) c
unfolding step_of call_of call_by kind_of after_key after_token after_signing reply_code token_call token_accepted token_step
writes-into-realm s g w cs c r =
    let v : World = world_after g w (map (under s) cs) in
    let h = shared-stays s g w cs r in
    record {
      key = λ e a. record { buffer = (key-only s v.page c.realm_key c.x1 c.x2 c.x3 (ok-code _ (rw e at a))).1; realm = h };
      hunk = λ e a. record { buffer = (token-only v.session (token_call v (call_under s c)) (rw e at a)).passed.buffer; realm = h };
      response =
          λ e a. record {
            buffer = signing-buffer s v.page v.queue c.public_key c.x1 c.x2 c.x3 c.x4 (rw e at a);
            realm = h;
          };
    }
