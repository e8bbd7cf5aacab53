use Rattle.std.proofs.Common.{◌∙◌, ◌++◌, ◌+◌, List, map, take, sym, ap}
use Rattle.protocol.specs.World.{Record}
use Rattle.protocol.specs.Seen.{record_of}
use Rattle.plan_followed.specs.declared.prunes.BlockStamp.{BlockStamp}
use Rattle.phase_threads.specs.declared.duty.Seat.{Seat}
use Rattle.client_duties.specs.declared.work.ClientDuty.{ClientDuty}
use Rattle.client_threads.specs.Reads.{records_of, early_in, late_in, early_reads, late_reads}
use Rattle.client_threads.proofs.Walking.{flat_more}
use Rattle.client_threads.proofs.reads.gather.Goals as goal

pub loop-seat-preserved : goal.loop-seat-preserved
loop-seat-preserved c =
    let i = c.loop-seat.seat-index in
    let ss = c.args.seats.now in
    let n = c.args.begun in
    let x = c.seat-item.result in
    let own = map record_of c.records_of.result.now in
    record {
      early = c.in_ok-add_reads.ensures.early ∙ ap (λ (l : List BlockStamp). l ++ early_in n own) c.loop-seat.invariant.early
          ∙ ap (λ (rs : List Record). early_reads n (take i ss) ++ early_in n rs) c.records_of.ensures
          ∙ ap (λ (s : Seat ClientDuty). early_reads n (take i ss) ++ early_in n (records_of s)) c.seat-item.is
          ∙ sym (flat_more (λ (s : Seat ClientDuty). early_in n (records_of s)) ss i x c.loop-seat-test.true);
      late = c.in_ok-add_reads.ensures.late ∙ ap (λ (l : List BlockStamp). l ++ late_in n own) c.loop-seat.invariant.late
          ∙ ap (λ (rs : List Record). late_reads n (take i ss) ++ late_in n rs) c.records_of.ensures
          ∙ ap (λ (s : Seat ClientDuty). late_reads n (take i ss) ++ late_in n (records_of s)) c.seat-item.is
          ∙ sym (flat_more (λ (s : Seat ClientDuty). late_in n (records_of s)) ss i x c.loop-seat-test.true);
    }
