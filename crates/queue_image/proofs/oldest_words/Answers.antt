use Rattle.queue_image.proofs.Sides.{no-request, a-request}
use borrow.Author.Rules.{rules}
use Rattle.queue_image.proofs.oldest_words.Goals as goal

pub returns-then-image-eq0 : goal.returns-then-image-eq0
returns-then-image-eq0 c = no-request c.args.image.now (search rules)

pub returns : goal.returns
returns c =
    let w = c.args.image.now in
    rw (c.put.ensures, c.read.ensures) (a-request w (search rules))
