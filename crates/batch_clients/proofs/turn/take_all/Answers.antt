use Rattle.std.proofs.Common.{sym, subst}
use Rattle.std.specs.List.{AllZip, flat_map}
use Rattle.std.proofs.lemmas.Result.{IfOk-weaker}
use Rattle.batch_clients.specs.Turns.{Comes}
use Rattle.batch_clients.specs.Sharing.{turns_of, IsTaken}
use Rattle.batch_clients.proofs.Sharing.{zipped, all_taken}
use Rattle.batch_clients.proofs.turn.take_all.Goals as goal

pub returns : goal.returns
returns g c =
    let parts = c.in_ok-parts.parts.items in
    let new = c.take_parts.result.items in
    let each = c.take_parts.ensures in
    let taken = subst (λ turns. AllZip Comes turns (flat_map turns_of new)) c.in_ok-parts.ensures.turns (all_taken parts new (zipped IsTaken parts new each.count each.each)) in
    IfOk-weaker c.joined.result _ (λ v. AllZip Comes c.args.turns.items v.items) (λ v e. subst (AllZip Comes c.args.turns.items) (sym e) taken) c.joined.ensures
