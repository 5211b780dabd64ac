use Rattle.text_lines.specs.Text.{space, section_text}
use Rattle.text_lines.proofs.Lay.{wrote_then}
use borrow.Author.Rules.{rules}
use Rattle.text.proofs.put_section.Goals as goal

pub returns : goal.returns
unfolding space section_text
returns c =
    wrote_then (search rules) (wrote_then (search rules) c.put_title.ensures
    c.put.ensures) c.put_state.ensures
