use Rattle.runtime.proofs.after_token.Goals as goal

pub returns : goal.returns
returns c = rw c.back.ensures
