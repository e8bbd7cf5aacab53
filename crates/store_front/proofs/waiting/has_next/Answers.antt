use Rattle.std.proofs.Common.{inl, subst}
use Rattle.store_front.specs.declared.standing.Standing.TheVariants.{Leave, Whole}
use Rattle.store_front.specs.Standings.{IsStanding}
use Rattle.store_front.proofs.Waits.{begins, leaves}
use Rattle.store_front.proofs.waiting.has_next.Goals as goal

pub returns-in-Whole-clause-waited : goal.returns-in-Whole-clause-waited
returns-in-Whole-clause-waited g c =
    (c.loop-input.invariant.read, begins c.in-Whole.field-0 c.loop-input.input (subst (IsStanding (Whole c.in-Whole.field-0)) c.at_hand.ensures c.in-Whole.ensures.is))

pub returns-in-Leave-clause-waited : goal.returns-in-Leave-clause-waited
returns-in-Leave-clause-waited g c =
    (c.loop-input.invariant.read, inl (leaves c.loop-input.input (subst (IsStanding Leave) c.at_hand.ensures c.in-Leave.ensures.is)))
