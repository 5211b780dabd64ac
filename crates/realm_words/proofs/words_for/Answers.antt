use native.Mathlib.Omega.{arith}
use Rattle.realm_words.specs.Bits.{words_for}
use Rattle.realm_words.proofs.words_for.Goals as goal

pub returns-then-granules-eq0 : goal.returns-then-granules-eq0
unfolding words_for
returns-then-granules-eq0 c = omega arith

pub returns : goal.returns
unfolding words_for
returns c = omega arith
