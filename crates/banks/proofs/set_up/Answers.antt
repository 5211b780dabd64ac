use Rattle.std.proofs.Common.{sym, refl, ap, ◌∙◌, rules}
use Rattle.codes.specs.Codes.{is_false, fails}
use Rattle.banks.specs.Banks.{granule_count, set_up_code, set_up_of}
use Rattle.banks.proofs.Making.{not_taken, taken, none-taken, many-not, part-not}
use Rattle.banks.proofs.set_up.Goals as goal

pub returns-then-shown-ne0 : goal.returns-then-shown-ne0
unfolding set_up_of set_up_code fails is_false
returns-then-shown-ne0 c = let a = c.args in simp (part-not a.shown.now a.n c.if-shown-ne0.true) record { fact = refl; result_value = refl }

pub returns-then-count-gt-BANK_PLACES : goal.returns-then-count-gt-BANK_PLACES
unfolding set_up_of set_up_code fails is_false
returns-then-count-gt-BANK_PLACES c = let a = c.args in simp (many-not a.shown.now a.n (search rules) (search rules)) record { fact = refl; result_value = refl }

pub returns-then-n-eq0 : goal.returns-then-n-eq0
unfolding set_up_of set_up_code fails is_false
returns-then-n-eq0 c =
    let a = c.args in
    simp (none-taken a.shown.now a.n (search rules) (search rules)) record { fact = refl; result_value = refl }

pub returns-then-granule_count-n : goal.returns-then-granule_count-n
unfolding set_up_of set_up_code fails is_false
returns-then-granule_count-n c =
    let a = c.args in
    let g = c.granule_count.ensures ∙ ap granule_count c.record_from-made.ensures in
    simp (not_taken a.shown.now a.n (search rules) (λ e. c.if-granule_count-n.true (g ∙ e))) record { fact = refl; result_value = refl }

pub returns : goal.returns
unfolding set_up_of set_up_code fails is_false
returns c =
    let a = c.args in
    let g = c.granule_count.ensures ∙ ap granule_count c.record_from-made.ensures in
    let t = taken a.shown.now a.n (search rules) (sym g ∙ c.if-granule_count-n.false) (search rules) in
    simp (t, c.record_from-made.ensures) record { fact = refl; result_value = refl }
