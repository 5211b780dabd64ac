use Rattle.mend_page.proofs.Laws.{input-other, input-mended}
use borrow.Author.Rules.{rules}
use Rattle.mend_page.proofs.mend_input.Goals as goal

pub returns-then-n-ne4104 : goal.returns-then-n-ne4104
returns-then-n-ne4104 c =
    λ input e. input-other c.args.room.now input c.args.n (search rules) (search rules) e c.if-n-ne4104.true

pub returns : goal.returns
returns c =
    λ input e. input-mended c.args.room.now input _ c.args.n _ _ (search rules) (search rules) e
    c.word_at-base.ensures c.mend.ensures.value c.mend.ensures.page_after
