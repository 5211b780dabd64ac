use mathlib.Core.Path.{refl, sym, ◌∙◌}
use native.Mathlib.Omega.{arith}
use Rattle.codes.specs.declared.Code.TheVariants.{BadAddr, BadPas}
use Rattle.granule_rules.proofs.Moving.{move-addr, move-shared, move-pas, move-ok, result-ok, result-err}
use Rattle.granules.proofs.move_at.Goals as goal

pub returns-in_default : goal.returns-in_default
returns-in_default c =
    let a = c.args in
    λ g e. result-err _ _ _ BadAddr refl
    (move-addr a.params g a.direction a.table.now a.words.now a.address (sym e ∙ c.in_default.is))

pub returns-then-is_shared_page : goal.returns-then-is_shared_page
returns-then-is_shared_page c =
    let a = c.args in
    λ g e. result-err _ _ _ BadAddr refl (move-shared a.params g a.direction a.table.now a.words.now a.address _
    (sym e ∙ c.in-Some.is) (sym c.is_shared_page.ensures ∙ c.if-is_shared_page.true))

pub bounds-table-at : goal.bounds-table-at
bounds-table-at c =
    omega (
      arith,
      (c.requires _
          c.in-Some.is).0,
    )

pub returns-then-table-at : goal.returns-then-table-at
returns-then-table-at c =
    let a = c.args in
    λ g e. result-err _ _ _ BadPas refl (move-pas a.params g a.direction a.table.now a.words.now a.address _
    (sym e ∙ c.in-Some.is)
    (sym c.is_shared_page.ensures ∙ c.if-is_shared_page.false)
    (rw (← c.from_byte.ensures) c.if-table-at.true))

pub bounds-table-at-2 : goal.bounds-table-at-2
bounds-table-at-2 c =
    omega (arith, (c.requires _ c.in-Some.is).0)

pub put_bit-requires : goal.put_bit-requires
put_bit-requires c =
    (c.requires _ c.in-Some.is).1

pub returns : goal.returns
returns c =
    let a = c.args in
    λ g e. rw c.put_bit.ensures (result-ok _ _ _
    (move-ok a.params g a.direction a.table.now a.words.now a.address _
    (sym e ∙ c.in-Some.is) (sym c.is_shared_page.ensures ∙ c.if-is_shared_page.false)
    (c.if-table-at.false ∙ c.from_byte.ensures)
    _ c.to_byte-to.ensures))
