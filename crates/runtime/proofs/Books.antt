-- Request E14: the balance of Realm granules over any sequence of commands. Assumes nothing.
use mathlib.Core.Path.{◌≡◌, sym}
use mathlib.Core.List.{List}
use lib.ListN.{length}
use Rattle.boot.specs.declared.Record.TheVariants.{Fresh}
use Rattle.banks.specs.Banks.{Granules, granule_count}
use Rattle.realm_words.specs.Answers.{realm_agree_of, realms}
use Rattle.std.specs.Prelude.{true, Result}
use Rattle.realm_words.proofs.Laws.{agree-told, agree-sized}
use Rattle.granule_rules.specs.Granules.{Agrees}
use Rattle.granule_rules.specs.Books.{Books, CountBooks}
use Rattle.granule_rules.proofs.Agreement.{count_walks}
use Rattle.granule_rules.proofs.Books.{Account, account-none, account-join, account-books, call-account}
use Rattle.runtime.specs.Step.{World, Command}
use Rattle.runtime.specs.Run.{next_of, world_after, gathered}
use Rattle.runtime.specs.Changes.{changes_of}
use Rattle.runtime.proofs.Changes.{command-by, run_by}
use Rattle.runtime.proofs.Agreement.{count-after}

-- one command
pub command-account : (g : Granules) (w : World) (c : Command) → Account g w.table (changes_of g w c) (next_of g w c).table
command-account g w c = command-by (Account g) (account-none g) (account-join g) g Fresh w c (λ d t a h. call-account _ g d t a h)

-- "over any sequence of delegate, undelegate and list calls with one granule record, from any starting table", with any other commands in
-- between and any boot record for each: the books balance, and each granule's byte is the one that the last accepted call naming it left
pub granule-books : (g : Granules) (w : World) (cs : List Command) →
    Books g w.table (gathered g (changes_of g) w cs) (world_after g w cs).table
granule-books g w cs =
    account-books g w.table _ _ (run_by (Account g) (account-none g) (account-join g) g (λ s d t a h. call-account s g d t a h) w cs)

-- The same for the count of the realm words, if the comparison of words and table answers true at the start.
pub count-books : (g : Granules) (w : World) (cs : List Command) →
    realm_agree_of w.table.bytes w.table.words (granule_count g) ≡ Result.Ok true →
    CountBooks g w.table (gathered g (changes_of g) w cs) (world_after g w cs).table
count-books g w cs y =
    let a : Agrees w.table = agree-told w.table.bytes w.table.words (granule_count g) y in
    let n : granule_count g ≡ length w.table.bytes = sym (agree-sized w.table.bytes w.table.words (granule_count g) y) in
    record {
      first = realms w.table.bytes;
      final = realms (world_after g w cs).table.bytes;
      at-start = count_walks g w.table n a;
      at-end = count-after g w cs a n;
      balance = (granule-books g w cs).balance;
    }
