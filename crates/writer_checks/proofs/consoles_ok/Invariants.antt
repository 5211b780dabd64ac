use Rattle.std.proofs.Common.{◌≡◌}
use Rattle.entries.specs.Entry.{entries_ok}
use Rattle.entries.specs.Fast.{console_clear}
use Rattle.writer_checks.proofs.consoles_ok.Given as goal

abbrev pub invariant-loop-console : goal.invariant-loop-console
invariant-loop-console l = console_clear l.minor l.bits ≡ entries_ok l.minor 1 l.console-index l.words
