use mathlib.Core.Path.{sym, ap}
use native.Mathlib.Omega.{arith}
use lib.ListN.{drop_of_length-le}
use Rattle.words.specs.Word.{on_from}
use Rattle.state_messages.proofs.Writes.{lent-all}
use borrow.Author.Rules.{rules}
use Rattle.state_messages.proofs.data_of.Goals as goal

pub returns-then-message-lt16 : goal.returns-then-message-lt16
returns-then-message-lt16 c =
    record { result_value = sym (drop_of_length-le c.args.message.now {i = 16} (search rules)); ref_ptr_value = λ h. absurd (let z : ⊥ = omega arith in z) }

pub returns : goal.returns
unfolding on_from
returns c = let a = c.args in record { result_value = lent-all 16 a.message.now; ref_ptr_value = λ h. ap (λ x. (a.message.ref_ptr.0, x)) (omega arith) }
