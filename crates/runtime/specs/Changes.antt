-- The changes that commands make to the granule table, for the theorems about it. Assumes nothing.
use Rattle.std.specs.Prelude.{ℕ, ◌≡◌, true, cond, List, [], ◌∷◌, map, take}
use Rattle.boot.specs.declared.Record.{Record}
use Rattle.codes.specs.Codes.{boot_params}
use Rattle.buffer_check.specs.Buffers.{BufferIn}
use Rattle.granule_rules.specs.Lists.{done_of}
use Rattle.granule_rules.specs.Changes.{Change, change, RealmAt}
use Rattle.banks.specs.Banks.{Granules}
use Rattle.granule_rules.specs.declared.Direction.{Direction}
use Rattle.runtime.specs.declared.Kind.{Kind}
use Rattle.runtime.specs.declared.Kind.TheVariants.{ForwardError, Delegate, Undelegate, RealmKey, PlatformToken, Features}
use Rattle.runtime.specs.declared.Kind.TheVariants.{TokenSigning, KeyUpdate, Unlisted}
use Rattle.runtime.specs.Step.{World, Call, call_with, Command, call, sign, list, kind_of}
use Rattle.runtime.specs.Run.{accepted}

-- ---- the changes that a command of this kind makes to the table, with a = x1, the granule's address
abbrev pub of_move : Kind → ℕ → List Change
of_move ForwardError a = []
of_move Delegate a = change Direction.Delegate a ∷ []
of_move Undelegate a = change Direction.Undelegate a ∷ []
of_move RealmKey a = []
of_move PlatformToken a = []
of_move Features a = []
of_move TokenSigning a = []
of_move KeyUpdate a = []
of_move Unlisted a = []

-- the accepted delegations and undelegations of a command, in order; a list gives one change for each granule done
unfoldable pub changes_of : Granules → World → Command → List Change
changes_of g w (call c) = cond (accepted g w (call c)) (of_move (kind_of c.id) c.x1) []
changes_of g w (sign s) = []
changes_of g w (list r d l) = map (change d) (take (done_of r g d w.table l) l)

-- ---- Request E8: "with the same boot .. records" (SH3): the same call with boot record s
abbrev pub call_under : Record → Call → Call
call_under s c = call_with s c.id c.x1 c.x2 c.x3 c.x4 c.busy c.realm_key c.token c.public_key c.width

-- the same command with boot record s
unfoldable pub under : Record → Command → Command
under s (call c) = call (call_under s c)
under s (sign x) = sign x
under s (list r d l) = list s d l

-- the buffer [pa, pa + size) is in the shared page, and the page's granule is Realm
pub record IntoRealm (s : Record) (g : Granules) (w : World) (pa size : ℕ) : Type 0 where
  pub buffer : BufferIn (boot_params s) w.page pa size
  pub realm : RealmAt g (boot_params s).base w.table

-- each accepted command that writes to the page writes to Realm memory: realm key, hunk of the platform token, response or public key (SH4)
pub record WritesIntoRealm (s : Record) (g : Granules) (w : World) (c : Call) : Type 0 where
  pub key : c.id ≡ 0xC40001B2 → accepted g w (call (call_under s c)) ≡ true → IntoRealm s g w c.x1 c.x2
  pub hunk : c.id ≡ 0xC40001B3 → accepted g w (call (call_under s c)) ≡ true → IntoRealm s g w c.x1 c.x2
  pub response : c.id ≡ 0xC40001B5 → accepted g w (call (call_under s c)) ≡ true → IntoRealm s g w c.x2 c.x3
