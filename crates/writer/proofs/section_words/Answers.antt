use Rattle.std.proofs.Common.{◌≡◌, ◌/◌, length, rules}
use Rattle.entries.specs.Entry.{words_per_entry}
use Rattle.writer.proofs.Sums.{neg-law, desc-none, desc-some}
use Rattle.writer.proofs.section_words.Goals as goal

pub returns-then-words-eq0 : goal.returns-then-words-eq0
returns-then-words-eq0 c = let a = c.args in desc-none a.k a.pointer a.words.now (search rules)

pub returns : goal.returns
returns c =
    let a = c.args in
    let w = c.entry_words in
    let e : length a.words.now / w.result ≡ length a.words.now / words_per_entry a.k = rw w.ensures.0 in
    desc-some a.k a.pointer _ _ a.words.now c.if-words-eq0.false e
    (neg-law _ a.pointer _ _ _ _ _ c.requires
    c.wrapping_add_u64-head.ensures.value c.wrapping_add_u64-all.ensures.value c.wrapping_sub_u64.ensures.value
    (search rules))
