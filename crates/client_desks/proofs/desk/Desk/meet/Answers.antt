use Rattle.std.proofs.Common.{sym, subst, map}
use Rattle.protocol.specs.Seen.{record_of}
use Rattle.client_desks.specs.Desks.{IsDesk}
use Rattle.client_desks.proofs.lemmas.Desking.{desk_meets}
use Rattle.client_desks.proofs.desk.Desk.meet.Goals as goal

pub invariant_of-self : goal.invariant_of-self
invariant_of-self c =
    let was = c.self.inside in
    subst (IsDesk was.config was.id was.lying was.client was.crashed was.entries.items (map record_of was.records.items)) (sym c.meet.ensures.one) (desk_meets was.config was.id was.lying was.client was.crashed was.entries.items (map record_of was.records.items) was.pass c.args.other.now c.self.invariant)
