use Rattle.std.proofs.Common.{◌∙◌}
use Rattle.std.proofs.lemmas.Bool.Decides.{same_from_decides}
use Rattle.std.proofs.lemmas.Slice.Eq.{bytes_eq-Decides}
use Rattle.vector_io.proofs.Bytes.{same_bytes-Decides}
use Rattle.vector_io.proofs.same.Goals as goal

pub returns : goal.returns
returns c = let a = c.args in c.eq.ensures ∙ same_from_decides _ _ (bytes_eq-Decides a.a.now a.b.now) (same_bytes-Decides a.a.now a.b.now)
