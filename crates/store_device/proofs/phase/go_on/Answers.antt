use Rattle.std.proofs.Common.{◌≡◌, inl, inr, List, map, refl, sym, ◌∙◌, ap, subst, arith}
use Rattle.quorum_rules.specs.Limits.{Numbers}
use Rattle.protocol.specs.Instance.{setting}
use Rattle.batch_clients.specs.Batches.{Running, AreAsksOf, asks_to, after_answers}
use Rattle.store_device.specs.declared.seat.Seat.{Seat}
use Rattle.store_device.specs.Working.{AreHanded}
use Rattle.store_device.specs.Answered.{HaveReplied}
use Rattle.store_device.specs.Going.{store_of}
use Rattle.store_device.proofs.Carrying.{GoFrom, go_more, none_gone, one_phase, on_err}
use Rattle.store_device.proofs.Coming.{ComeFrom, all_ended, come_more, endings_of}
use Rattle.store_device.proofs.phase.go_on.Goals.{then-loop-batch-test+else-phases-lt-MOST_PHASES, else-loop-batch-test}
use Rattle.store_device.proofs.phase.go_on.Goals as goal

pub loop-batch-init : goal.loop-batch-init
loop-batch-init g c =
    let D = g.D.Disk in (
      refl,
      refl,
      c.requires.asks,
      λ start ops apart going. going,
      λ start ops more valid apart going few come enough. come,
      none_gone D.pending D.seen D.most D.moment D.left_since c.args.batch.now.config
          (map (λ (seat : Seat g.row.D.Denot). seat.node) c.args.seats.now) c.args.batch.now.runs,
    )

pub go_through-requires-clause-count : goal.go_through-requires-clause-count
go_through-requires-clause-count g c κs within = c.loop-batch.invariant.0 ∙ c.requires.count
    ∙ sym (ap (λ (d : Numbers). d.n) c.loop-batch.invariant.1)

pub go_through-requires-clause-asks : goal.go_through-requires-clause-asks
go_through-requires-clause-asks g c κs within =
    subst (λ (d : Numbers). AreAsksOf (setting d) c.loop-batch.batch.runs (map (λ a. a.items) c.loop-batch.asks.items))
    (sym c.loop-batch.invariant.1) c.loop-batch.invariant.2

pub returns-in_err-asks-clause-going : goal.returns-in_err-asks-clause-going
returns-in_err-asks-clause-going g c =
    let D = g.D.Disk in
    let disk = g.met.D.Disk g.world.𝓛 g.world.𝓜 g.world.𝓡 ((λ s x. x), (λ x. x), (λ x. x), λ x. x) in
    let node = λ (seat : Seat g.row.D.Denot). seat.node in
    let inv = c.loop-batch.invariant in
    let h = c.go_through.ensures.handed in
    let config = c.args.batch.now.config in
    let runs = c.loop-batch.batch.runs in
    let handed : AreHanded D.pending D.seen D.moment D.left_since (λ i. asks_to (setting config) i runs) h.0
    (store_of config (map node c.loop-batch.seats)) (store_of config (map node c.go_through.new.seats)) =
    subst (λ (d : Numbers). AreHanded D.pending D.seen D.moment D.left_since (λ i. asks_to (setting d) i runs) h.0
    (store_of d (map node c.loop-batch.seats)) (store_of d (map node c.go_through.new.seats))) inv.1 h.1 in
    λ start ops apart going. (
      after_answers (setting config) 0 h.0 runs,
      go_more D.pending D.seen D.moment D.left_since disk.counts_now config (map node c.args.seats.now) (map node c.loop-batch.seats)
          (map node c.go_through.new.seats) c.args.batch.now.runs runs h.0 inv.3 handed start ops apart going,
      on_err (c.go_through.new.batch.runs ≡ after_answers (setting config) 0 h.0 runs) c.from_residual.result c.from_residual.ensures.0,
    )

pub loop-batch-smaller : goal.loop-batch-smaller
loop-batch-smaller g c = omega (arith, c.in_ok-asks.ensures.phases, c.if-phases-lt-MOST_PHASES.true, c.phases.ensures)

pub loop-batch-preserved : goal.loop-batch-preserved
loop-batch-preserved g c =
    let D = g.D.Disk in
    let disk = g.met.D.Disk g.world.𝓛 g.world.𝓜 g.world.𝓡 ((λ s x. x), (λ x. x), (λ x. x), λ x. x) in
    let node = λ (seat : Seat g.row.D.Denot). seat.node in
    let inv = c.loop-batch.invariant in
    let h = c.in_ok-asks.ensures.handed in
    let config = c.args.batch.now.config in
    let runs = c.loop-batch.batch.runs in
    let handed : AreHanded D.pending D.seen D.moment D.left_since (λ i. asks_to (setting config) i runs) h.0
    (store_of config (map node c.loop-batch.seats)) (store_of config (map node c.go_through.new.seats)) =
    subst (λ (d : Numbers). AreHanded D.pending D.seen D.moment D.left_since (λ i. asks_to (setting d) i runs) h.0
    (store_of d (map node c.loop-batch.seats)) (store_of d (map node c.go_through.new.seats))) inv.1 h.1 in
    let then : c.go_through.new.batch.runs ≡ after_answers (setting config) 0 h.0 runs =
    subst (λ (d : Numbers). c.go_through.new.batch.runs ≡ after_answers (setting d) 0 h.0 runs) inv.1 h.2.0 in
    let replied : HaveReplied D.seen D.most (λ i. asks_to (setting config) i runs) h.0 (store_of config (map node c.loop-batch.seats))
    (store_of config (map node c.go_through.new.seats)) =
    subst (λ (d : Numbers). HaveReplied D.seen D.most (λ i. asks_to (setting d) i runs) h.0 (store_of d (map node c.loop-batch.seats))
    (store_of d (map node c.go_through.new.seats))) inv.1 h.2.1 in
    let ends = endings_of c.endings.ensures.begin c.endings.ensures.phases in (
      c.go_through.ensures.count ∙ inv.0,
      c.go_through.ensures.config ∙ inv.1,
      subst (λ (d : Numbers). AreAsksOf (setting d) c.go_through.new.batch.runs (map (λ a. a.items) c.in_ok-asks.asks.items)) inv.1
          c.in_ok-asks.ensures.asks,
      subst (λ (rs : List Running). GoFrom D.pending D.seen D.moment D.left_since config (map node c.args.seats.now) c.args.batch.now.runs
          (map node c.go_through.new.seats) rs) (sym then)
          (go_more D.pending D.seen D.moment D.left_since disk.counts_now config (map node c.args.seats.now)
          (map node c.loop-batch.seats) (map node c.go_through.new.seats) c.args.batch.now.runs runs h.0 inv.3 handed),
      subst (λ (rs : List Running). ComeFrom D.pending D.seen D.moment D.left_since D.most config (map node c.args.seats.now)
          c.args.batch.now.runs c.args.batch.now.phases (map node c.go_through.new.seats) rs c.go_through.new.batch.phases) (sym then)
          (come_more D.pending D.seen D.moment D.left_since D.most disk.counts_now ends config (map node c.args.seats.now)
          (map node c.loop-batch.seats) (map node c.go_through.new.seats) c.args.batch.now.runs runs c.args.batch.now.phases
          c.loop-batch.batch.phases c.go_through.new.batch.phases h.0 inv.3 inv.4 handed replied c.in_ok-asks.ensures.phases),
      one_phase D.pending D.seen D.most D.moment D.left_since config (map node c.args.seats.now) (map node c.loop-batch.seats)
          (map node c.go_through.new.seats) c.args.batch.now.runs runs c.go_through.new.batch.runs h.0 then inv.5 handed replied,
    )

pub returns-clause-going : goal.returns-clause-going
returns-clause-going g c = λ start ops apart going. (c.loop-batch.batch.runs, c.loop-batch.invariant.3 start ops apart going, refl)

pub returns-clause-ended : goal.returns-clause-ended
returns-clause-ended g c =
    λ start ops more valid apart going few come versions enough.
    all_ended start c.loop-batch.batch.phases ops c.loop-batch.batch.runs
    (c.loop-batch.invariant.4 start ops more valid apart going few come enough) versions
    (elim c.loop-batch-test.branch [
      | then-loop-batch-test+else-phases-lt-MOST_PHASES w ↦ inr (omega (arith, w.if-phases-lt-MOST_PHASES.false, w.phases.ensures))
      | else-loop-batch-test w ↦ inl (omega (arith, w.loop-batch-test.false, c.asking.ensures))
    ])

pub returns-clause-phases : goal.returns-clause-phases
returns-clause-phases g c = c.loop-batch.invariant.5
