-- Request E14: the balance of Realm granules over any sequence of exports, counted from the words of `out`. Assumes nothing.
use Rattle.std.specs.Prelude.{true, Some, Result}
use Prim.Native.Nat.{ℕ}
use mathlib.Core.Path.{◌≡◌, refl, sym, ap, subst}
use mathlib.Core.Bool.{Bool, true, false, cond}
use mathlib.Core.List.{List, [], ◌∷◌, map}
use lib.ListN.{length, get_or, take}
use lib.Dec.{eqb}
use Rattle.codes.specs.Codes.{is_ok, answer_of}
use Rattle.banks.specs.Banks.{granule_count, granule_at}
use Rattle.granule_rules.specs.Granules.{GranuleTable, table_of, Agrees, moved_by, move_of}
use Rattle.granule_rules.specs.Changes.{Change, change}
use Rattle.realm_words.specs.Answers.{realm_count_of, realm_agree_of, realms}
use Rattle.realm_words.proofs.Laws.{agree-told, agree-sized}
use Rattle.granule_rules.specs.Books.{NoneNames, nil, cons, Books, CountBooks}
use Rattle.granule_rules.specs.declared.Direction.{Direction}
use Rattle.banks.proofs.Laws.{one_address}
use Rattle.granule_rules.proofs.Agreement.{count_walks}
use Rattle.granule_rules.proofs.Books.{Account, account-none, account-join, account-books, list-number}
use Rattle.runtime.specs.declared.Kind.{Kind}
use Rattle.runtime.specs.declared.Kind.TheVariants.{ForwardError, Delegate, Undelegate, RealmKey, PlatformToken, Features, TokenSigning}
use Rattle.runtime.specs.declared.Kind.TheVariants.{KeyUpdate, Unlisted}
use Rattle.runtime.specs.Step.{Call, kind_of, after_move, call_by, call_of, step_of, reply_code}
use Rattle.runtime.specs.Run.{accepted}
use Rattle.runtime.specs.Changes.{of_move, changes_of}
use Rattle.runtime.proofs.Books.{command-account}
use Rattle.runtime.proofs.Agreement.{count-after}
use Rattle.images.specs.Image.{record_of, register_words, reply_registers}
use Rattle.export_rules.specs.Exports.{move_left, move_in, move_list_in, call_left, call_lent, call_in}
use Rattle.export_sequences.specs.Chain.{Lent, lent_world, lent_on}
use Rattle.export_sequences.specs.Exported.{Exported, pbeam-delegate, pbeam-undelegate, pbeam-delegate-list, pbeam-undelegate-list}
use Rattle.export_sequences.specs.Exported.{pbeam-realm-key, pbeam-platform-token, pbeam-features, pbeam-token-signing}
use Rattle.export_sequences.specs.Exported.{pbeam-key-update, pbeam-forward, pbeam-call, pbeam-sign, export_left, command_of}
use Rattle.export_sequences.specs.Exported.{all_exported, changes_told, all_told, NoneAt, nowhere, elsewhere, ByAddress}
use Rattle.export_sequences.proofs.Tables.{zero_ok, export-table, exports-table}

-- ---- `out` reports exactly the accepted changes
no_change : (a b : Bool) → ◌≡◌ {A = List Change} (cond a [] []) (cond b [] [])
no_change true true = refl
no_change true false = refl
no_change false true = refl
no_change false false = refl

module _ (granules : List ℕ) (m : Lent) where
  -- x0 is 0; the code is OK
  abbrev zeros : Kind → Call → Bool
  zeros k c = eqb (get_or (reply_registers (call_by k granules (lent_world m) c).reply) 0 0) 0

  abbrev oks : Kind → Call → Bool
  oks k c = is_ok (reply_code (call_by k granules (lent_world m) c).reply)

  moved-zero : (d : Direction) (c : Call) → is_ok (move_of c.state granules d (lent_world m).table c.x1).answer.code ≡ eqb
      (move_of c.state granules d (lent_world m).table c.x1).answer.x0 0
  unfolding move_of moved_by answer_of
  moved-zero d c = zero_ok (move_of c.state granules d (lent_world m).table c.x1).answer.code

  told-by : (k : Kind) (c : Call) → cond (oks k c) (of_move k c.x1) [] ≡ cond (zeros k c) (of_move k c.x1) []
  unfolding call_by after_move reply_registers register_words reply_code
  told-by ForwardError c = no_change (oks ForwardError c) (zeros ForwardError c)
  told-by Delegate c = ap (λ b. cond b (change Direction.Delegate c.x1 ∷ []) []) (moved-zero Direction.Delegate c)
  told-by Undelegate c = ap (λ b. cond b (change Direction.Undelegate c.x1 ∷ []) []) (moved-zero Direction.Undelegate c)
  told-by RealmKey c = no_change (oks RealmKey c) (zeros RealmKey c)
  told-by PlatformToken c = no_change (oks PlatformToken c) (zeros PlatformToken c)
  told-by Features c = no_change (oks Features c) (zeros Features c)
  told-by TokenSigning c = no_change (oks TokenSigning c) (zeros TokenSigning c)
  told-by KeyUpdate c = no_change (oks KeyUpdate c) (zeros KeyUpdate c)
  told-by Unlisted c = no_change (oks Unlisted c) (zeros Unlisted c)

  -- a command other than delegation changes no granule
  not-one : (b : Bool) → ◌≡◌ {A = List Change} (cond b [] []) []
  not-one true = refl
  not-one false = refl

  abbrev takes : Exported → Bool
  takes e = accepted granules (lent_world m) (command_of e)

  told : (e : Exported) → changes_of granules (lent_world m) (command_of e) ≡ changes_told (export_left granules m e).out e
  unfolding changes_told export_left changes_of command_of call_lent call_in call_left step_of call_of kind_of call_by after_move reply_code
      reply_registers register_words move_in move_list_in move_left
  told (pbeam-delegate state address) = told-by Delegate (call_lent state (0xC40001B0 ∷ address ∷ []) 0 [] [] [] 0)
  told (pbeam-undelegate state address) = told-by Undelegate (call_lent state (0xC40001B1 ∷ address ∷ []) 0 [] [] [] 0)
  told (pbeam-delegate-list state addresses) =
      ap (λ n. map (change Direction.Delegate) (take n addresses))
      (sym (list-number (record_of state) granules Direction.Delegate (table_of m.table m.words) addresses))
  told (pbeam-undelegate-list state addresses) =
      ap (λ n. map (change Direction.Undelegate) (take n addresses))
      (sym (list-number (record_of state) granules Direction.Undelegate (table_of m.table m.words) addresses))
  told (pbeam-realm-key state key pa size curve) = not-one (takes (pbeam-realm-key state key pa size curve))
  told (pbeam-platform-token state token busy pa size csize) = not-one (takes (pbeam-platform-token state token busy pa size csize))
  told (pbeam-features state index) = not-one (takes (pbeam-features state index))
  told (pbeam-token-signing state key opcode pa size curve) = not-one (takes (pbeam-token-signing state key opcode pa size curve))
  told (pbeam-key-update state width mecid) = not-one (takes (pbeam-key-update state width mecid))
  told (pbeam-forward state x1) = not-one (takes (pbeam-forward state x1))
  told (pbeam-call state x busy key token public width) = told-by (kind_of (get_or x 0 0)) (call_lent state x busy key token public width)
  told (pbeam-sign signature) = refl

  export-account : (e : Exported) → Account granules (table_of m.table m.words) (changes_told (export_left granules m e).out e)
      (table_of (export_left granules m e).table (export_left granules m e).words)
  export-account e = rw (← told e, ← export-table granules m e) (command-account granules (lent_world m) (command_of e))

-- ---- any sequence of exports
accounts : (granules : List ℕ) (m : Lent) (es : List Exported) →
    Account granules (table_of m.table m.words) (all_told granules m es)
    (table_of (all_exported granules m es).table (all_exported granules m es).words)
unfolding all_told all_exported
accounts granules m [] = account-none granules (table_of m.table m.words)
accounts granules m (e ∷ es) =
    account-join granules (table_of m.table m.words) (table_of (export_left granules m e).table (export_left granules m e).words) _ _
    _ (export-account granules m e) (accounts granules (lent_on (export_left granules m e)) es)

-- "over any sequence of delegate, undelegate and list calls with one granule record, from any starting table": with any other exports in
-- between, and any images except the granule record's for each call. There is no condition on the caller.
pub exports-books : (granules : List ℕ) (m : Lent) (es : List Exported) →
    Books granules (table_of m.table m.words) (all_told granules m es)
    (table_of (all_exported granules m es).table (all_exported granules m es).words)
exports-books granules m es =
    account-books granules (table_of m.table m.words) (table_of (all_exported granules m es).table (all_exported granules m es).words)
    (all_told granules m es) (accounts granules m es)

-- ---- by address: each granule has exactly one
none-names : (granules : List ℕ) (n addr i : ℕ) → granule_at granules n addr ≡ Some i → (cs : List Change) → NoneAt addr cs →
    NoneNames granules n i cs
none-names granules n addr i e [] nowhere = nil
none-names granules n addr i e (c ∷ cs) (elsewhere _ _ h r) =
    cons c cs (λ k. h (one_address granules n c.address addr i k e)) (none-names granules n addr i e cs r)

pub exports-by-address : (granules : List ℕ) (m : Lent) (es : List Exported) (addr i : ℕ) →
    granule_at granules (length m.table) addr ≡ Some i → ByAddress granules m es addr i
exports-by-address granules m es addr i e =
    let b = exports-books granules m es in
    record {
      last = λ before d behind k r. b.last i before (change d addr) behind k e (none-names granules (length m.table) addr i e behind r);
      none = λ r. b.none i (none-names granules (length m.table) addr i e (all_told granules m es) r);
    }

-- ---- the count of the realm words
pub exports-count-books : (granules : List ℕ) (m : Lent) (es : List Exported) →
    realm_agree_of m.table m.words (granule_count granules) ≡ Result.Ok true →
    CountBooks granules (table_of m.table m.words) (all_told granules m es)
    (table_of (all_exported granules m es).table (all_exported granules m es).words)
exports-count-books granules m es y =
    let a : Agrees (table_of m.table m.words) = agree-told m.table m.words (granule_count granules) y in
    let n : granule_count granules ≡ length m.table = sym (agree-sized m.table m.words (granule_count granules) y) in
    record {
      first = realms m.table;
      final = realms (all_exported granules m es).table;
      at-start = count_walks granules (table_of m.table m.words) n a;
      at-end =
          subst (λ (t : GranuleTable). realm_count_of t.words (granule_count granules) ≡ Result.Ok (realms t.bytes))
          (exports-table granules (lent_world m) m es refl)
          (count-after granules (lent_world m) (map command_of es) a n);
      balance = (exports-books granules m es).balance;
    }
