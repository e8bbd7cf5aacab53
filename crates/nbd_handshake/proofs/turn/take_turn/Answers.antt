use Rattle.std.proofs.Common.{ap, Ok, ℕ, List}
use Rattle.std.specs.Io.KnownBytes.{Consumes}
use Rattle.nbd_handshake.specs.declared.arrival.Arrival.TheVariants as arrivals
use Rattle.nbd_handshake.specs.Steps.{HasArrived, IsTaken}
use Rattle.nbd_handshake.proofs.Parts.{begun_within}
use Rattle.nbd_handshake.proofs.Turning.{not_read, cut_came, came}
use Rattle.nbd_handshake.proofs.turn.take_turn.Goals as goal

pub returns-in-Err-take_data-clause-step : goal.returns-in-Err-take_data-clause-step
returns-in-Err-take_data-clause-step g c =
    let head = c.in-Ok-Head.head in
    let a : HasArrived (g.S.Source.left c.args.source.now) (g.S.Source.left c.read_head.new.source) (arrivals.Head head) = rw c.in-Ok-Head.field-0-is at c.in-Ok-Head.ensures.arrival in
    not_read c.args.export.now c.args.short c.args.place _ _ _ (begun_within head a.0 _ _ _ a.2 a.1 c.in-Err-take_data.ensures.fewer)

pub returns-in-Ok-None-clause-step : goal.returns-in-Ok-None-clause-step
returns-in-Ok-None-clause-step g c =
    let head = c.in-Ok-Head.head in
    let a : HasArrived (g.S.Source.left c.args.source.now) (g.S.Source.left c.read_head.new.source) (arrivals.Head head) = rw c.in-Ok-Head.field-0-is at c.in-Ok-Head.ensures.arrival in
    cut_came c.args.export.now c.args.short c.args.place _ _ _ head _ a (c.in-Ok-None.ensures.none (ap Ok c.in-Ok-None.field-0-is))

pub returns-in-Ok-Some-clause-step : goal.returns-in-Ok-Some-clause-step
returns-in-Ok-Some-clause-step g c =
    let head = c.in-Ok-Head.head in
    let a : HasArrived (g.S.Source.left c.args.source.now) (g.S.Source.left c.read_head.new.source) (arrivals.Head head) = rw c.in-Ok-Head.field-0-is at c.in-Ok-Head.ensures.arrival in
    let taken : (bytes : List ℕ) × Consumes (g.S.Source.left c.read_head.new.source) (g.S.Source.left c.take_data.new.source) bytes × IsTaken head c.in-Ok-Some.kind bytes = rw c.in-Ok-Some.field-0-is at c.in-Ok-Some.ensures.some in
    came c.args.export.now c.args.short c.args.place _ _ _ _ _ head a taken.0 taken.1 taken.2.0 c.answer.result (c.answer.ensures.answered taken.0 taken.2)
