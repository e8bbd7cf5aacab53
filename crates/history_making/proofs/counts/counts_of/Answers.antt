use Rattle.std.proofs.Common.{sym, ◌∙◌}
use Rattle.protocol.specs.Seen.{record_of}
use Rattle.protocol.specs.World.{Record}
use Rattle.protocol.specs.Report.{is_done, is_spent, is_pending, is_repaired}
use Rattle.history_making.proofs.lemmas.Counted.{count_by-map}
use Rattle.history_making.proofs.counts.counts_of.Goals as goal

pub returns : goal.returns
returns c =
    let rs = c.args.records.now in
    let done = c.done.ensures ∙ sym (count_by-map (λ (r : Record). is_done r.outcome) record_of rs) in
    let spent = c.spent.ensures ∙ sym (count_by-map (λ (r : Record). is_spent r.outcome) record_of rs) in
    let pending = c.pending.ensures ∙ sym (count_by-map (λ (r : Record). is_pending r.end) record_of rs) in
    let repaired = c.repaired.ensures ∙ sym (count_by-map (λ (r : Record). is_repaired r.outcome) record_of rs) in
    λ i. record { done = done i; spent = spent i; pending = pending i; repaired = repaired i; rounds = c.rounds_of.ensures i }
