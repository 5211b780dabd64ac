-- A name of four ASCII bytes is text.
use Rattle.std.proofs.Common.{rules}
use Rattle.std.proofs.lemmas.Str.{IsUtf8-from_ascii}
use Rattle.vector_io.proofs.load.Goals as goal

pub open_case-requires : goal.open_case-requires
open_case-requires g c = IsUtf8-from_ascii _ (search rules)
