use Rattle.realm_words.proofs.words_fit.Goals as goal

pub returns : goal.returns
returns c = rw c.words_for.ensures
