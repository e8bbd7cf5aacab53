use Rattle.node_core.proofs.Last.{some_from_all, some_from_range, none_from_range, end_at_most, end_below}
use Rattle.node_core.proofs.kept.last_in.Goals as goal

pub returns-in-All-clause-some : goal.returns-in-All-clause-some
returns-in-All-clause-some c = rw c.in-All.is (some_from_all _ (λ x. x.0.now) (λ x. x.1.now) _ c.last_key_value.ensures.value c.last_key_value.ensures.greatest)

pub returns-in-AtMost-clause-some : goal.returns-in-AtMost-clause-some
returns-in-AtMost-clause-some c =
    rw c.in-AtMost.is (some_from_range _ _ _ (end_at_most _) _ _ (c.range.ensures.in_range tt) (λ x. x.0.now) (λ x. x.1.now) _ _ c.next_back.ensures.steps)

pub returns-in-AtMost-clause-none : goal.returns-in-AtMost-clause-none
returns-in-AtMost-clause-none c =
    rw c.in-AtMost.is (none_from_range c.args.by_stamp.now _ _ (end_at_most _) _ _ (c.range.ensures.in_range tt) (λ x. x.0.now) (λ x. x.1.now) _ _ c.next_back.ensures.steps)

pub returns-in-Below-clause-some : goal.returns-in-Below-clause-some
returns-in-Below-clause-some c =
    rw c.in-Below.is (some_from_range _ _ _ (end_below _) _ _ (c.range-in-Below.ensures.in_range tt) (λ x. x.0.now) (λ x. x.1.now) _ _ c.next_back-in-Below.ensures.steps)

pub returns-in-Below-clause-none : goal.returns-in-Below-clause-none
returns-in-Below-clause-none c =
    rw c.in-Below.is (none_from_range c.args.by_stamp.now _ _ (end_below _) _ _ (c.range-in-Below.ensures.in_range tt) (λ x. x.0.now) (λ x. x.1.now) _ _ c.next_back-in-Below.ensures.steps)
