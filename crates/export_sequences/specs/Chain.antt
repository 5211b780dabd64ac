-- Sequences of exported calls, each on the images, page, table and words that the call before it left. Assumes nothing.
use Rattle.std.specs.Prelude.{ℕ, Bool, true, List, [], ◌∷◌}
use Rattle.words.specs.Tests.{both}
use Rattle.granule_rules.specs.Granules.{table_of}
use Rattle.granule_rules.specs.Lists.{move_list_of}
use Rattle.runtime.specs.Step.{World, Command, call, sign, list}
use Rattle.queue_image.specs.Image.{are_bytes}
use Rattle.export_rules.specs.Exports.{MoveLeft, move_left, sign_in, CallLeft, world_in, call_in}

-- what the caller lends to every call of a sequence
pub record Lent : Type 0 where
  pub session : List ℕ
  pub queue : List ℕ
  pub page : List ℕ
  pub table : List ℕ
  pub words : List ℕ

-- the world of these images and bytes
abbrev pub lent_world : Lent → World
lent_world m = world_in m.session m.queue m.page m.table m.words

-- what delegation leaves: registers, table and words from l, everything else unchanged
abbrev pub moves_left : MoveLeft → Lent → CallLeft
moves_left l m =
    record { out = l.out; work = 0 ∷ 0 ∷ []; page = m.page; table = l.table; words = l.words; session = m.session; queue = m.queue }

-- what pbeam_call, pbeam_sign or a list of granules leaves; all share one image of the granule record
unfoldable pub command_left : List ℕ → Lent → Command → CallLeft
command_left granules m (call c) = call_in granules m.session m.queue m.page m.table m.words c
command_left granules m (sign s) =
    record {
      out = (sign_in m.queue s).out;
      work = 0 ∷ 0 ∷ [];
      page = m.page;
      table = m.table;
      words = m.words;
      session = m.session;
      queue = (sign_in m.queue s).queue;
    }
command_left granules m (list r d l) = moves_left (move_left (move_list_of r granules d (table_of m.table m.words) l)) m

-- the part of it that the caller lends to the next call
abbrev pub lent_on : CallLeft → Lent
lent_on l = record { session = l.session; queue = l.queue; page = l.page; table = l.table; words = l.words }

-- what the caller lends after a command
abbrev pub lent_after : List ℕ → Lent → Command → Lent
lent_after granules m c = lent_on (command_left granules m c)

-- and after a sequence of commands
unfoldable pub all_after : List ℕ → Lent → List Command → Lent
all_after granules m [] = m
all_after granules m (c ∷ cs) = all_after granules (lent_after granules m c) cs

-- whether key, token and signature of a command are lists of bytes
unfoldable pub of_bytes : Command → Bool
of_bytes (call c) = both (are_bytes c.realm_key) (both (are_bytes c.token) (are_bytes c.public_key))
of_bytes (sign s) = are_bytes s
of_bytes (list r d l) = true
