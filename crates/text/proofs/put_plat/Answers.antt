use Rattle.text_lines.specs.Text.{plat_text, platform_text}
use Rattle.text_lines.proofs.Lay.{wrote_then}
use borrow.Author.Rules.{rules}
use Rattle.text.proofs.put_plat.Goals as goal

pub returns : goal.returns
unfolding plat_text platform_text
returns c =
    wrote_then (search rules) (wrote_then (search rules) c.put.ensures
    c.put_pointer.ensures) c.put_end.ensures
