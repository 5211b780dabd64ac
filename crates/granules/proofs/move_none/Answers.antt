use mathlib.Core.Path.{sym, ◌∙◌}
use Rattle.codes.specs.Codes.{is_false, fails}
use Rattle.realm_words.specs.Answers.{words_code}
use Rattle.granules.proofs.move_none.Goals as goal

pub returns-then-not-words_fit : goal.returns-then-not-words_fit
unfolding words_code is_false fails
returns-then-not-words_fit c =
    rw (← c.granule_count-count.ensures, sym c.words_fit.ensures ∙ c.if-not-words_fit.true) c.refused.ensures

pub returns : goal.returns
unfolding words_code is_false fails
returns c =
    rw (← c.granule_count-count.ensures, sym c.words_fit.ensures ∙ c.if-not-words_fit.false) c.ok.ensures
