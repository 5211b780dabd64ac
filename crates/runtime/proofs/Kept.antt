-- Request E5: no sequence of commands changes a kept byte. Assumes nothing.
use Prim.Native.Nat.{ℕ, ◌+◌, ◌-◌, ◌≤◌}
use mathlib.Core.Path.{◌≡◌, refl, sym, ap, ◌∙◌}
use mathlib.Core.Bool.{Bool, true, false, true≢false}
use mathlib.Core.Logic.{◌⊎◌, inl, inr}
use mathlib.Core.List.{List, [], ◌∷◌}
use native.Mathlib.Omega.{arith}
use lib.ListN.{length, take, drop, length-take}
use lib.Seq.{take-take}
use Rattle.words.specs.Word.{part, splice}
use Rattle.words.proofs.Store.{length-splice, front-splice}
use Rattle.boot.specs.declared.Params.{Params}
use Rattle.boot.specs.declared.Record.{Record}
use Rattle.boot.specs.declared.Record.TheVariants.{Up}
use Rattle.codes.specs.Codes.{is_up, boot_params, answer_of}
use Rattle.codes.specs.declared.Code.TheVariants.{Ok}
use Rattle.codes.proofs.Gates.{if-ok-by}
use Rattle.buffer_check.specs.Range.{place_of}
use Rattle.buffer_check.specs.Buffers.{BufferIn}
use Rattle.buffer_check.proofs.Buffers.{passed-in}
use Rattle.banks.specs.Banks.{Granules}
use Rattle.attest.specs.Key.{key_code, keyed, realm_key_of}
use Rattle.attest.proofs.Acts.{key-only}
use Rattle.token_rules.specs.Token.{token_code, begin_of, hunk_of, TokenStep, send_of, keeps, settled, token_of}
use Rattle.token_rules.specs.Calls.{TokenCall, token_step_of, token_accepted}
use Rattle.token_rules.specs.declared.Session.{Session}
use Rattle.token_rules.proofs.Acts.{token-only}
use Rattle.queue.specs.Queue.{Lists, SigningStep, oldest_response}
use Rattle.response_rules.specs.Pull.{response_bytes}
use Rattle.response_rules.proofs.Acts.{signed-length, pull-told}
use Rattle.signing.specs.Signing.{signing_of}
use Rattle.signing.specs.declared.Opcode.{Opcode}
use Rattle.signing.proofs.Signings.{signing-by}
use Rattle.signing.proofs.Acts.{public-told}
use Rattle.runtime.specs.declared.Kind.{Kind}
use Rattle.runtime.specs.declared.Kind.TheVariants.{ForwardError, Delegate, Undelegate, RealmKey, PlatformToken, Features}
use Rattle.runtime.specs.declared.Kind.TheVariants.{TokenSigning, KeyUpdate, Unlisted}
use Rattle.runtime.specs.Step.{World, Call, Command, call, sign, list, kind_of, after_move, after_key, after_token, after_signing}
use Rattle.runtime.specs.Step.{after_update, after_sign, call_by, call_of, step_of}
use Rattle.runtime.specs.Run.{next_of, world_after}
use Rattle.runtime.specs.Kept.{KeptTo, HasRecord, AllHave}

same : (n : ℕ) (page : List ℕ) → KeptTo n page page
same n page = record { bytes = refl; whole = refl }

later : (n : ℕ) (page next last : List ℕ) → KeptTo n page next → KeptTo n next last → KeptTo n page last
later n page next last a b = record { bytes = b.bytes ∙ a.bytes; whole = b.whole ∙ a.whole }

-- bytes written to a buffer that passed the range check
kept-write : (n : ℕ) (u : Params) (page vs : List ℕ) (pa size : ℕ) → n ≤ u.kept → BufferIn u page pa size → length vs ≤ size →
    KeptTo n page (splice (place_of u pa) vs page)
unfolding place_of
kept-write n u page vs pa size h i l =
    let at : ℕ = pa - u.base in
    let a : n ≤ at = omega (arith, i.from) in
    let m : at + length vs ≤ length page = omega (arith, i.whole, i.from, i.below, i.fits) in
    record {
      bytes = sym (take-take n at (splice at vs page) a) ∙ ap (take n) (front-splice at vs page (omega arith)) ∙ take-take n at page a;
      whole = length-splice at vs page m;
    }

-- ---- one command, with a record that keeps n bytes or more if it is up
module _ (n : ℕ) (r : Record) (h : is_up r ≡ true → n ≤ (boot_params r).kept) where
  key-kept : (page key : List ℕ) (pa size curve : ℕ) → KeptTo n page (realm_key_of r page key pa size curve).page
  unfolding realm_key_of keyed answer_of
  key-kept page key pa size curve =
      if-ok-by (λ (p : List ℕ). KeptTo n page p) (key_code r page pa size curve key) (splice (place_of (boot_params r) pa) key page) page
      (λ e. let o = key-only r page key pa size curve e in kept-write n (boot_params r) page key pa size (h o.0) o.1 o.4)
      (λ e. same n page)

  hunk-size : (token : List ℕ) (i size : ℕ) → length (part i (hunk_of token i size) token) ≤ size
  unfolding part hunk_of
  hunk-size token i size = omega (arith, length-take (hunk_of token i size) (drop i token))

  token-kept : (page : List ℕ) (s : Session) (busy : Bool) (token : List ℕ) (pa size c : ℕ) →
      KeptTo n page (token_of r page s busy token pa size c).page
  unfolding token_of settled keeps send_of token_accepted token_step_of answer_of
  token-kept page s busy token pa size c =
      let x : TokenCall = record { state = r; page = page; busy = busy; token = token; pa = pa; size = size; csize = c } in
      if-ok-by (λ (t : TokenStep). KeptTo n page t.page) (token_code r page s busy token pa size c) _ _
      (λ e. let o = token-only s x (rw e) in kept-write n (boot_params r) page _ pa size (h o.passed.up) o.passed.buffer
      (hunk-size token (begin_of s c) size))
      (λ e. same n page)

  signing-kept : (page : List ℕ) (q : Lists) (key : List ℕ) (op pa size curve : ℕ) →
      KeptTo n page (signing_of r page q key op pa size curve).page
  signing-kept page q key op pa size curve =
      signing-by (λ (o : Opcode) (s : SigningStep). KeptTo n page s.page) r page q key op pa size curve
      (record {
        refusal = λ o k e. same n page;
        push = λ p e. same n page;
        pull = λ p e.
            let l = (pull-told size q e).1 in
            let t = signed-length (oldest_response q.responses) in
            kept-write n (boot_params r) page (response_bytes (oldest_response q.responses)) pa size (h p.up)
            (passed-in r page Ok pa size p) (omega arith);
        public =
            λ p e. kept-write n (boot_params r) page key pa size (h p.up) (passed-in r page Ok pa size p)
            (public-told r page q key pa size curve e).1;
      })

call_kept : (n : ℕ) (k : Kind) (g : Granules) (w : World) (c : Call) → (is_up c.state ≡ true → n ≤ (boot_params c.state).kept) →
    KeptTo n w.page (call_by k g w c).next.page
unfolding call_by after_move after_key after_token after_signing after_update
call_kept n ForwardError g w c h = same n w.page
call_kept n Delegate g w c h = same n w.page
call_kept n Undelegate g w c h = same n w.page
call_kept n RealmKey g w c h = key-kept n c.state h w.page c.realm_key c.x1 c.x2 c.x3
call_kept n PlatformToken g w c h = token-kept n c.state h w.page w.session c.busy c.token c.x1 c.x2 c.x3
call_kept n Features g w c h = same n w.page
call_kept n TokenSigning g w c h = signing-kept n c.state h w.page w.queue c.public_key c.x1 c.x2 c.x3 c.x4
call_kept n KeyUpdate g w c h = same n w.page
call_kept n Unlisted g w c h = same n w.page

keeps-enough : (u : Params) (r : Record) → (r ≡ Up u) ⊎ (is_up r ≡ false) → is_up r ≡ true → u.kept ≤ (boot_params r).kept
unfolding boot_params
keeps-enough u r (inl e) h = rw e (omega arith)
keeps-enough u r (inr e) h = absurd (true≢false (sym h ∙ e))

step_kept : (g : Granules) (u : Params) (w : World) (c : Command) → HasRecord (Up u) c → KeptTo u.kept w.page (next_of g w c).page
unfolding HasRecord step_of call_of after_move after_sign
step_kept g u w (call c) h = call_kept u.kept (kind_of c.id) g w c (keeps-enough u c.state h)
step_kept g u w (sign s) h = same u.kept w.page
step_kept g u w (list r d l) h = same u.kept w.page

-- ---- any sequence
-- "Prove that no sequence of runtime commands with that record then changes a kept byte.": calls, lists and the signer's steps, in any
-- world, for any number of kept bytes in the record
pub kept : (g : Granules) (u : Params) (w : World) (cs : List Command) → AllHave (Up u) cs →
    KeptTo u.kept w.page (world_after g w cs).page
unfolding AllHave world_after
kept g u w [] h = same u.kept w.page
kept g u w (c ∷ cs) h = later u.kept w.page (next_of g w c).page _ (step_kept g u w c h.0) (kept g u (next_of g w c) cs h.1)
