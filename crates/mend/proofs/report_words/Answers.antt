use Rattle.std.proofs.Common.{◌≡◌, Bool, true, false, refl, sym, ap, ◌∙◌}
use Rattle.std.specs.Int.{from_bool}
use Rattle.mend.specs.Report.{flag_word, change_words, report_words}
use Rattle.mend.proofs.report_words.Goals as goal

flag-from : (b : Bool) → from_bool b ≡ flag_word b
unfolding flag_word
flag-from true = refl
flag-from false = refl

pub returns-in-Ok : goal.returns-in-Ok
unfolding report_words change_words
returns-in-Ok c =
    rw (
      c.from.ensures ∙ flag-from _,
      c.from-in-Ok.ensures ∙ flag-from _,
      c.from-in-Ok-2.ensures ∙ flag-from _,
      c.from-in-Ok-3.ensures ∙ flag-from _,
      c.from-in-Ok-4.ensures ∙ flag-from _,
      c.from-in-Ok-5.ensures ∙ flag-from _,
    )
    (sym (ap report_words c.in-Ok.is))

pub returns-in-Err : goal.returns-in-Err
unfolding report_words
returns-in-Err c = sym (ap report_words c.in-Err.is)
