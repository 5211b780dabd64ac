use Rattle.std.proofs.Common.{refl, arith}
use Rattle.entries.proofs.Fast.{with-console}
use Rattle.entries.proofs.with_console.Goals as goal

pub returns : goal.returns
returns c =
    let a = c.args in with-console a.minor a.bits a.base a.pages _ _ a.flags (omega arith) (omega arith) (omega arith) (omega arith) refl
