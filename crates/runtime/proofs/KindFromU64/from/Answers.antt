use borrow.Author.Tests.{ne_eqb}
use Rattle.runtime.specs.Step.{kind_of}
use borrow.Author.Rules.{rules}
use Rattle.runtime.proofs.KindFromU64.from.Goals as goal

pub returns-in-3288334735 : goal.returns-in-3288334735
unfolding kind_of
returns-in-3288334735 c = rw c.in-3288334735.is

pub returns-in-3288334768 : goal.returns-in-3288334768
unfolding kind_of
returns-in-3288334768 c = rw c.in-3288334768.is

pub returns-in-3288334769 : goal.returns-in-3288334769
unfolding kind_of
returns-in-3288334769 c = rw c.in-3288334769.is

pub returns-in-3288334770 : goal.returns-in-3288334770
unfolding kind_of
returns-in-3288334770 c = rw c.in-3288334770.is

pub returns-in-3288334771 : goal.returns-in-3288334771
unfolding kind_of
returns-in-3288334771 c = rw c.in-3288334771.is

pub returns-in-3288334772 : goal.returns-in-3288334772
unfolding kind_of
returns-in-3288334772 c = rw c.in-3288334772.is

pub returns-in-3288334773 : goal.returns-in-3288334773
unfolding kind_of
returns-in-3288334773 c = rw c.in-3288334773.is

pub returns-in-3288334774 : goal.returns-in-3288334774
unfolding kind_of
returns-in-3288334774 c = rw c.in-3288334774.is

pub returns-in_default : goal.returns-in_default
unfolding kind_of
returns-in_default c =
    let a = c.args in
    simp (
      ne_eqb a.id 0xC400_018F (search rules),
      ne_eqb a.id 0xC400_01B0 (search rules),
      ne_eqb a.id 0xC400_01B1 (search rules),
      ne_eqb a.id 0xC400_01B2 (search rules),
      ne_eqb a.id 0xC400_01B3 (search rules),
      ne_eqb a.id 0xC400_01B4 (search rules),
      ne_eqb a.id 0xC400_01B5 (search rules),
      ne_eqb a.id 0xC400_01B6 (search rules),
    )
