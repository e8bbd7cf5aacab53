use Rattle.std.proofs.Common.{◌++◌, [], List, length, map, sym, ap, subst, ◌∙◌, All, append-nil}
use Rattle.std.proofs.lemmas.List.{map-append}
use Rattle.std.specs.Vec.Iter.{into_iter_items, into_iter_len}
use Rattle.std.proofs.lemmas.List.Elements.{All-nil}
use Rattle.protocol.specs.World.{Record}
use Rattle.protocol.specs.Seen.{record_of}
use Rattle.client_desks.specs.Desks.{DeskView, KeptDesk}
use Rattle.phase_threads.specs.Standing.{journal_at}
use Rattle.phase_threads.specs.declared.duty.Seat.{Seat}
use Rattle.client_duties.specs.declared.work.ClientDuty.{ClientDuty}
use Rattle.client_threads.specs.Running.{desks_of, kept_records}
use Rattle.thread_work.proofs.lemmas.Places.{walk_end}
use Rattle.client_threads.proofs.Together.{one_finished}
use Rattle.client_threads.proofs.closing.finish_desks.Goals as goal

pub loop-seat-init : goal.loop-seat-init
loop-seat-init c =
    let gives = c.into_iter-seat-iterator.ensures.into_iter_gives in (
      [],
      (sym gives.0, gives.1 ∙ c.args.seats.ok.0 ∙ ap length (sym gives.0)),
      c.new-journals.ensures,
      sym (append-nil c.args.passes.now),
      All-nil KeptDesk,
      ap (map record_of) c.new-records.ensures,
    )

pub loop-seat-preserved : goal.loop-seat-preserved
loop-seat-preserved c =
    let steps = c.in-Some.ensures.steps in
    let told = c.finish-finished.ensures in
    one_finished c.args.seats.items c.args.passes.now (into_iter_items c.loop-seat.seat-iterator) (into_iter_items c.next.new.self) (into_iter_len c.loop-seat.seat-iterator) (into_iter_len c.next.new.self)
    c.loop-seat.journals c.push-in-loop-seat.new.self c.loop-seat.passes c.push.new.self (map record_of c.loop-seat.records) (map record_of c.append.new.self) c.in-Some.seat c.finish-finished.result.journal c.finish-finished.result.pass
    c.loop-seat.invariant steps.0 steps.1 c.in_ok-push-2.ensures.ok told.client told.entries c.in_ok-push.ensures.ok told.pass told.kept
    (ap (map record_of) c.in_ok-append.ensures.ok ∙ map-append record_of c.loop-seat.records c.finish-finished.result.records ∙ ap (λ (l : List Record). map record_of c.loop-seat.records ++ l) told.records)

pub returns-clause-desks : goal.returns-clause-desks
returns-clause-desks c =
    let inv = c.loop-seat.invariant in
    let all = walk_end c.args.seats.items inv.0 (into_iter_items c.loop-seat.seat-iterator) (into_iter_len c.loop-seat.seat-iterator) inv.1 c.in-None.ensures.steps.0 in
    inv.2 ∙ ap (λ (l : List (Seat ClientDuty)). map journal_at (desks_of l)) (sym all)

pub returns-clause-passes : goal.returns-clause-passes
returns-clause-passes c =
    let inv = c.loop-seat.invariant in
    let all = walk_end c.args.seats.items inv.0 (into_iter_items c.loop-seat.seat-iterator) (into_iter_len c.loop-seat.seat-iterator) inv.1 c.in-None.ensures.steps.0 in
    inv.3 ∙ ap (λ (l : List (Seat ClientDuty)). c.args.passes.now ++ map (λ (x : DeskView). x.pass) (desks_of l)) (sym all)

pub returns-clause-kept : goal.returns-clause-kept
returns-clause-kept c =
    let inv = c.loop-seat.invariant in
    let all = walk_end c.args.seats.items inv.0 (into_iter_items c.loop-seat.seat-iterator) (into_iter_len c.loop-seat.seat-iterator) inv.1 c.in-None.ensures.steps.0 in
    subst (λ (l : List (Seat ClientDuty)). All KeptDesk (desks_of l)) (sym all) inv.4

pub returns-clause-records : goal.returns-clause-records
returns-clause-records c =
    let inv = c.loop-seat.invariant in
    let all = walk_end c.args.seats.items inv.0 (into_iter_items c.loop-seat.seat-iterator) (into_iter_len c.loop-seat.seat-iterator) inv.1 c.in-None.ensures.steps.0 in
    inv.5 ∙ ap (λ (l : List (Seat ClientDuty)). kept_records (desks_of l)) (sym all)
