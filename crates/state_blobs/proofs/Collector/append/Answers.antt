use Rattle.state_blobs.specs.Collect.{piece_appended}
use Rattle.state_messages.proofs.Writes.{lent-splice}
use borrow.Author.Rules.{rules}
use Rattle.state_blobs.proofs.Collector.append.Goals as goal

pub returns : goal.returns
unfolding piece_appended
returns c =
    let a = c.args in
    rw (
      c.copy_by_words.ensures,
      c.bytes_held-held.ensures.0,
      lent-splice a.self.now.held a.bytes.now a.buffer.now (search rules),
    )
