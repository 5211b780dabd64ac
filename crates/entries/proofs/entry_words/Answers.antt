use Rattle.entries.proofs.Entries.{per-one, per-other}
use Rattle.std.proofs.Common.{◌≡◌, sym, rules}
use Rattle.entries.proofs.entry_words.Goals as goal

pub returns-then-k-eq1 : goal.returns-then-k-eq1
returns-then-k-eq1 c = let e : c.args.k ≡ 1 = search rules in (rw (e, per-one), search rules, search rules)

pub returns : goal.returns
returns c = (sym (per-other c.args.k (search rules)), search rules, search rules)
