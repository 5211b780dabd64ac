use Rattle.std.proofs.Common.{rules, ◌≡◌, length, take, ap, sym, ◌∙◌, arith, length-take}
use Rattle.std.proofs.lemmas.List.{take_min}
use Rattle.std.specs.Prelude.{min}
use Rattle.queue.specs.Queue.{waiting}
use Rattle.queue.proofs.Side.waiting.Goals as goal

pub returns : goal.returns
unfolding waiting
returns g c =
    let s = c.args.self.now in
    let e : length s.items ≡ 8 = search rules in (
      ap (λ n. take n s.items) (c.min-n.ensures ∙ ap (min s.count) (sym e)) ∙ take_min s.count s.items,
      omega (arith, c.min-n.ensures, length-take c.min-n.result s.items),
    )
