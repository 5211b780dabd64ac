use mathlib.Core.Path.{◌≡◌}
use Rattle.text_lines.specs.Text.{section_text}
use Rattle.words.specs.Word.{joined}
use Rattle.text_lines.specs.Steps.{seen}
use Rattle.text_lines.proofs.Lay.{wrote_none, wrote-same, wrote-more}
use Rattle.text_lines.proofs.Parts.{section-seen}
use borrow.Author.Rules.{rules}
use native.Mathlib.Omega.{arith}
use Rattle.text.proofs.put_sections.Goals as goal

pub loop-k-init : goal.loop-k-init
unfolding joined
loop-k-init c = let a = c.args in (search rules, wrote_none a.out.now)

pub loop-k-preserved : goal.loop-k-preserved
loop-k-preserved c =
    let a = c.args in
    let l = c.loop-k in
    let e = section-seen a.view a.page.now l.k _ c.section_of-section.ensures in (
      search rules,
      wrote-more (section_text (seen a.view a.page.now)) l.k (search rules) l.invariant.1
          (wrote-same e c.put_section.ensures),
    )

pub returns : goal.returns
returns c = let l = c.loop-k in let e : l.k ≡ 4 = omega arith in rw e at l.invariant.1
