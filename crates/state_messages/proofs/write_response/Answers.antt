use mathlib.Core.Path.{sym}
use Rattle.state_messages.specs.Messages.{response_of}
use Rattle.state_messages.proofs.Writes.{response-in, response-put}
use borrow.Author.Rules.{rules}
use Rattle.state_messages.proofs.write_response.Goals as goal

pub returns : goal.returns
returns c =
    let a = c.args in
    let p = response_of a.header a.bytes.now in
    rw (
      c.response_length-whole.ensures,
      c.copy_by_words.ensures,
      response-put p a.buffer.now _
          c.put_head.ensures (search rules),
    )
    (sym (response-in a.largest p a.buffer.now (search rules) (search rules)))
