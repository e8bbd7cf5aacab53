use Rattle.std.proofs.Common.{◌≡◌, List, map, Ok, subst}
use Rattle.std.specs.Prelude.{⊤}
use Rattle.protocol.specs.Instance.{setting}
use Rattle.batch_clients.specs.Batches.{Running, begun, end_of}
use Rattle.store_device.specs.declared.seat.Seat.{Seat}
use Rattle.store_device.specs.Going.{store_of}
use Rattle.store_device.proofs.Carrying.{from_begun, starts, from_batch, to_store, if_err}
use Rattle.store_device.proofs.Coming.{endings_of, told_all}
use Rattle.store_device.proofs.Stamps.{none_told}
use Rattle.store_device.proofs.phase.carry_out.Goals as goal

pub returns-in_err-make_room-clause-going : goal.returns-in_err-make_room-clause-going
returns-in_err-make_room-clause-going g c =
    let D = g.D.Disk in
    let disk = g.met.D.Disk g.world.𝓛 g.world.𝓜 g.world.𝓡 ((λ s x. x), (λ x. x), (λ x. x), λ x. x) in
    let start = store_of c.args.config.now (map (λ (seat : Seat g.row.D.Denot). seat.node) c.args.seats.now) in (
      begun (setting c.args.config.now) 1 c.args.ops.now,
      starts D.pending D.seen D.moment D.left_since disk.only_now start c.requires.store c.args.ops.now c.requires.few
          c.form_ops.ensures,
      if_err _ c.from_residual.result c.from_residual.ensures.0,
    )

pub returns-in_err-batch-clause-going : goal.returns-in_err-batch-clause-going
returns-in_err-batch-clause-going g c =
    let D = g.D.Disk in
    let disk = g.met.D.Disk g.world.𝓛 g.world.𝓜 g.world.𝓡 ((λ s x. x), (λ x. x), (λ x. x), λ x. x) in
    let start = store_of c.args.config.now (map (λ (seat : Seat g.row.D.Denot). seat.node) c.args.seats.now) in (
      begun (setting c.args.config.now) 1 c.args.ops.now,
      starts D.pending D.seen D.moment D.left_since disk.only_now start c.requires.store c.args.ops.now c.requires.few
          c.form_ops.ensures,
      if_err _ c.from_residual-in_err-batch.result c.from_residual-in_err-batch.ensures.0,
    )

pub returns-in_err-go_on-clause-going : goal.returns-in_err-go_on-clause-going
returns-in_err-go_on-clause-going g c =
    let D = g.D.Disk in
    let disk = g.met.D.Disk g.world.𝓛 g.world.𝓜 g.world.𝓡 ((λ s x. x), (λ x. x), (λ x. x), λ x. x) in
    let seats = map (λ (seat : Seat g.row.D.Denot). seat.node) c.args.seats.now in
    let last = map (λ (seat : Seat g.row.D.Denot). seat.node) c.go_on.new.seats in
    let config = c.args.config.now in
    let start = store_of config seats in
    let first = from_batch D.pending D.seen D.moment D.left_since config c.in_ok-batch.batch.config seats c.args.ops.now
    c.in_ok-batch.batch.runs c.in_ok-batch.ensures.config c.in_ok-batch.ensures.runs
    (starts D.pending D.seen D.moment D.left_since disk.only_now start c.requires.store c.args.ops.now c.requires.few
    c.form_ops.ensures) in
    let h = c.go_on.ensures.going start c.args.ops.now c.requires.apart first in (
      h.0,
      to_store D.pending D.seen D.moment D.left_since config c.in_ok-batch.batch.config start last c.args.ops.now h.0
          c.in_ok-batch.ensures.config h.1,
      if_err _ c.from_residual-in_err-go_on.result c.from_residual-in_err-go_on.ensures.0,
    )

pub returns-in_err-ends-clause-going : goal.returns-in_err-ends-clause-going
returns-in_err-ends-clause-going g c =
    let D = g.D.Disk in
    let disk = g.met.D.Disk g.world.𝓛 g.world.𝓜 g.world.𝓡 ((λ s x. x), (λ x. x), (λ x. x), λ x. x) in
    let seats = map (λ (seat : Seat g.row.D.Denot). seat.node) c.args.seats.now in
    let last = map (λ (seat : Seat g.row.D.Denot). seat.node) c.go_on.new.seats in
    let config = c.args.config.now in
    let start = store_of config seats in
    let first = from_batch D.pending D.seen D.moment D.left_since config c.in_ok-batch.batch.config seats c.args.ops.now
    c.in_ok-batch.batch.runs c.in_ok-batch.ensures.config c.in_ok-batch.ensures.runs
    (starts D.pending D.seen D.moment D.left_since disk.only_now start c.requires.store c.args.ops.now c.requires.few
    c.form_ops.ensures) in
    let h = c.in_ok-go_on.ensures.going start c.args.ops.now c.requires.apart first in (
      h.0,
      to_store D.pending D.seen D.moment D.left_since config c.in_ok-batch.batch.config start last c.args.ops.now h.0
          c.in_ok-batch.ensures.config h.1,
      if_err _ c.from_residual-in_err-ends.result c.from_residual-in_err-ends.ensures.0,
    )

pub returns-clause-going : goal.returns-clause-going
returns-clause-going g c =
    let D = g.D.Disk in
    let disk = g.met.D.Disk g.world.𝓛 g.world.𝓜 g.world.𝓡 ((λ s x. x), (λ x. x), (λ x. x), λ x. x) in
    let seats = map (λ (seat : Seat g.row.D.Denot). seat.node) c.args.seats.now in
    let last = map (λ (seat : Seat g.row.D.Denot). seat.node) c.go_on.new.seats in
    let config = c.args.config.now in
    let start = store_of config seats in
    let first = from_batch D.pending D.seen D.moment D.left_since config c.in_ok-batch.batch.config seats c.args.ops.now
    c.in_ok-batch.batch.runs c.in_ok-batch.ensures.config c.in_ok-batch.ensures.runs
    (starts D.pending D.seen D.moment D.left_since disk.only_now start c.requires.store c.args.ops.now c.requires.few
    c.form_ops.ensures) in
    let h = c.in_ok-go_on.ensures.going start c.args.ops.now c.requires.apart first in (
      h.0,
      to_store D.pending D.seen D.moment D.left_since config c.in_ok-batch.batch.config start last c.args.ops.now h.0
          c.in_ok-batch.ensures.config h.1,
      subst (λ (rs : List Running). c.in_ok-ends.ends.items ≡ map (λ (r : Running). end_of r.stand) rs) h.2 c.in_ok-ends.ensures,
    )

pub returns-clause-answered : goal.returns-clause-answered
returns-clause-answered g c =
    let D = g.D.Disk in
    let disk = g.met.D.Disk g.world.𝓛 g.world.𝓜 g.world.𝓡 ((λ s x. x), (λ x. x), (λ x. x), λ x. x) in
    let seats = map (λ (seat : Seat g.row.D.Denot). seat.node) c.args.seats.now in
    let last = map (λ (seat : Seat g.row.D.Denot). seat.node) c.go_on.new.seats in
    let config = c.args.config.now in
    let start = store_of config seats in
    let first = from_batch D.pending D.seen D.moment D.left_since config c.in_ok-batch.batch.config seats c.args.ops.now
    c.in_ok-batch.batch.runs c.in_ok-batch.ensures.config c.in_ok-batch.ensures.runs
    (starts D.pending D.seen D.moment D.left_since disk.only_now start c.requires.store c.args.ops.now c.requires.few
    c.form_ops.ensures) in
    let ends = endings_of c.endings.ensures.begin c.endings.ensures.phases config c.requires.store.valid in
    told_all D.pending D.seen D.moment D.left_since D.most disk.counts_now config c.in_ok-batch.batch.config seats last c.args.ops.now
    c.in_ok-batch.batch.runs c.go_on.new.batch.runs c.in_ok-batch.batch.phases c.in_ok-batch.ensures.config c.in_ok-batch.ensures.runs
    c.in_ok-batch.ensures.phases c.requires.store.valid ends c.form_ops.ensures c.requires.apart first c.in_ok-go_on.ensures.ended {E = ⊤}
    (λ outcomes. outcomes.items) (Ok c.in_ok-ends.ends) c.in_ok-ends.ensures

pub returns-clause-phases : goal.returns-clause-phases
returns-clause-phases g c =
    let D = g.D.Disk in
    let seats = map (λ (seat : Seat g.row.D.Denot). seat.node) c.args.seats.now in
    let last = map (λ (seat : Seat g.row.D.Denot). seat.node) c.go_on.new.seats in (
      c.go_on.new.batch.runs,
      from_begun D.pending D.seen D.most D.moment D.left_since c.args.config.now c.in_ok-batch.batch.config seats last c.args.ops.now
          c.in_ok-batch.batch.runs c.go_on.new.batch.runs c.in_ok-batch.ensures.config c.in_ok-batch.ensures.runs
          c.in_ok-go_on.ensures.phases,
      c.in_ok-ends.ensures,
    )

pub returns-in_err-make_room-clause-acknowledged : goal.returns-in_err-make_room-clause-acknowledged
returns-in_err-make_room-clause-acknowledged g c =
    none_told (λ ends. ends.items) c.from_residual.result c.from_residual.ensures.0 _ _ c.args.ops.now c.make_room.ensures.kept

pub returns-in_err-batch-clause-acknowledged : goal.returns-in_err-batch-clause-acknowledged
returns-in_err-batch-clause-acknowledged g c =
    none_told (λ ends. ends.items) c.from_residual-in_err-batch.result c.from_residual-in_err-batch.ensures.0 _ _ c.args.ops.now c.make_room.ensures.kept

pub returns-in_err-go_on-clause-acknowledged : goal.returns-in_err-go_on-clause-acknowledged
returns-in_err-go_on-clause-acknowledged g c =
    none_told (λ ends. ends.items) c.from_residual-in_err-go_on.result c.from_residual-in_err-go_on.ensures.0 _ _ c.args.ops.now c.make_room.ensures.kept

pub returns-in_err-ends-clause-acknowledged : goal.returns-in_err-ends-clause-acknowledged
returns-in_err-ends-clause-acknowledged g c =
    none_told (λ ends. ends.items) c.from_residual-in_err-ends.result c.from_residual-in_err-ends.ensures.0 _ _ c.args.ops.now c.make_room.ensures.kept
