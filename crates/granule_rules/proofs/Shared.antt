-- Request E8: the shared page stays Realm. Assumes nothing.
use Rattle.std.specs.Prelude.{Some}
use Prim.Native.Nat.{ℕ}
use mathlib.Core.Path.{◌≡◌, refl, sym, ap, ◌∙◌}
use native.Mathlib.Omega.{arith}
use lib.ListN.{length, get_or}
use Rattle.boot.specs.declared.Record.{Record}
use Rattle.codes.specs.Codes.{boot_params}
use Rattle.codes.specs.declared.Code.TheVariants.{Ok}
use Rattle.granule_rules.specs.Granules.{GranuleTable, from_byte, to_byte, move_of}
use Rattle.banks.specs.Banks.{granule_at}
use Rattle.granule_rules.specs.Acts.{MoveActed}
use Rattle.granule_rules.specs.Changes.{RealmAt}
use Rattle.banks.specs.Banks.{Granules}
use Rattle.granule_rules.specs.declared.Direction.{Direction}
use Rattle.granule_rules.specs.declared.Direction.TheVariants.{Delegate, Undelegate}
use Rattle.granule_rules.proofs.Acts.{move-only, move-acts}
use Rattle.banks.proofs.Laws.{one_address}

-- a call on another granule leaves it unchanged
other-stays : (g : Granules) (d : Direction) (t after : GranuleTable) (a addr : ℕ) → MoveActed g d t after a → (r : RealmAt g addr t) →
    (a ≡ addr → ⊥) → RealmAt g addr after
other-stays g d t after a addr m r n =
    record {
      granule = r.granule;
      own = rw m.whole r.own;
      realm =
          m.others r.granule (λ e. n (one_address g (length t.bytes) a addr m.granule m.own (r.own ∙ ap Some e))) ∙ r.realm;
    }

one_index : (i j : ℕ) → Some i ≡ Some j → i ≡ j
one_index i j h = cc

-- a granule that is Realm cannot be delegated
realm-taken : (g : Granules) (t after : GranuleTable) (a addr : ℕ) → MoveActed g Delegate t after a → RealmAt g addr t → a ≡ addr → ⊥
unfolding from_byte
realm-taken g t after a addr m r e =
    let i : m.granule ≡ r.granule = one_index _ _ (sym m.own ∙ ap (granule_at g (length t.bytes)) e ∙ r.own) in
    let z : ◌≡◌ {A = ℕ} 0 1 = sym m.was ∙ ap (λ x. get_or t.bytes x 0) i ∙ r.realm in
    omega arith

-- "If it was Realm at boot it is Realm after any later calls on that table with the same boot and granule records.": after one call
pub shared_kept : (s : Record) (g : Granules) (d : Direction) (t : GranuleTable) (a : ℕ) → (move_of s g d t a).answer.code ≡ Ok →
    RealmAt g (boot_params s).base t → RealmAt g (boot_params s).base (move_of s g d t a).table
shared_kept s g Delegate t a h r =
    let m = move-acts s g Delegate t a h in
    other-stays g Delegate t _ a (boot_params s).base m r (realm-taken g t _ a (boot_params s).base m r)
shared_kept s g Undelegate t a h r =
    other-stays g Undelegate t _ a (boot_params s).base (move-acts s g Undelegate t a h) r ((move-only s g Undelegate t a h).2 refl)

-- "Delegating it is as before.": the granule of an address is Realm after it is delegated
pub delegated-realm : (s : Record) (g : Granules) (t : GranuleTable) (addr : ℕ) → (move_of s g Delegate t addr).answer.code ≡ Ok →
    RealmAt g addr (move_of s g Delegate t addr).table
unfolding to_byte
delegated-realm s g t addr h =
    let m = move-acts s g Delegate t addr h in
    record {
      granule = m.granule;
      own = rw m.whole m.own;
      realm = m.becomes;
    }
