use Rattle.mend.proofs.Parts.{section-lacks, section-stands, section-goes}
use native.Mathlib.Omega.{arith}
use Rattle.mend.proofs.mend_section.Goals as goal

pub returns-then-sections-k : goal.returns-then-sections-k
returns-then-sections-k c =
    let a = c.args in
    section-lacks a.minor a.e.minor a.base a.fields a.k a.page.now (omega (arith, c.sections.ensures.0))

pub returns-then-keeps_section : goal.returns-then-keeps_section
returns-then-keeps_section c =
    let a = c.args in
    section-stands a.minor a.e.minor a.base a.fields a.k a.page.now c.requires _ c.keeps_section.ensures
    c.if-keeps_section.true

pub returns : goal.returns
returns c =
    let a = c.args in
    section-goes a.minor a.e.minor a.base a.fields a.k a.page.now c.requires _
    c.keeps_section.ensures c.if-keeps_section.false
    (omega (arith, c.sections.ensures.0)) _ c.put_words.ensures
