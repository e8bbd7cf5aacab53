use Rattle.std.proofs.Common.{ℕ, ◌-◌, get_or, sym, ◌∙◌, ap}
use Rattle.disk_model.specs.Crash.{settled}
use Rattle.std.proofs.lemmas.Result.{on_ok_weaker}
use Rattle.slot_disk.specs.Bodies.{bodies_in}
use Rattle.slot_disk.proofs.Adding.{first_within, first_leaves, all_open, first, second, third, fourth, enough, others_open, all_added}
use Rattle.slot_disk.proofs.slots.add_slots.Goals as goal

pub returns-in_err-write_at-clause-any_moment : goal.returns-in_err-write_at-clause-any_moment
returns-in_err-write_at-clause-any_moment g c =
    let D = g.D.Disk in
    let piece = c.open_between.new.piece in
    let only_now = g.met.D.Disk.only_now c.args.disk.now in
    let size = c.open_between.ensures.len ∙ c.requires.whole in
    let zero_last = ap (λ (n : ℕ). get_or piece (n - 1) 0) c.open_between.ensures.len ∙ c.open_between.ensures.last ∙ c.requires.zero in
    first D.moment D.left_since D.pending D.seen c.args.body c.args.count c.gate_at-gate.result c.args.more piece (bodies_in c.args.body c.args.more c.args.piece.now) c.open_between.ensures.bodies c.args.disk.now only_now
    c.requires.settled c.requires.closed c.requires.some size zero_last c.gate_at-gate.ensures.gate c.write_at.new.self c.write_at.ensures.crash c.write_at.ensures.time

pub returns-in_err-sync-clause-any_moment : goal.returns-in_err-sync-clause-any_moment
returns-in_err-sync-clause-any_moment g c =
    let D = g.D.Disk in
    let piece = c.open_between.new.piece in
    let only_now = g.met.D.Disk.only_now c.args.disk.now in
    let size = c.open_between.ensures.len ∙ c.requires.whole in
    let zero_last = ap (λ (n : ℕ). get_or piece (n - 1) 0) c.open_between.ensures.len ∙ c.open_between.ensures.last ∙ c.requires.zero in
    second D.moment D.left_since D.pending D.seen c.args.body c.args.count c.gate_at-gate.result c.args.more piece (bodies_in c.args.body c.args.more c.args.piece.now) c.open_between.ensures.bodies c.args.disk.now only_now
    c.requires.settled c.requires.closed c.requires.some size zero_last c.gate_at-gate.ensures.gate c.write_at.new.self c.sync.new.self c.write_at.ensures.crash c.write_at.ensures.time c.sync.ensures.crash c.sync.ensures.time

pub returns-in_err-write_at-2-clause-any_moment : goal.returns-in_err-write_at-2-clause-any_moment
returns-in_err-write_at-2-clause-any_moment g c =
    let D = g.D.Disk in
    let piece = c.open_between.new.piece in
    let only_now = g.met.D.Disk.only_now c.args.disk.now in
    let size = c.open_between.ensures.len ∙ c.requires.whole in
    let zero_last = ap (λ (n : ℕ). get_or piece (n - 1) 0) c.open_between.ensures.len ∙ c.open_between.ensures.last ∙ c.requires.zero in
    let so_far = second D.moment D.left_since D.pending D.seen c.args.body c.args.count c.gate_at-gate.result c.args.more piece (bodies_in c.args.body c.args.more c.args.piece.now) c.open_between.ensures.bodies c.args.disk.now only_now
    c.requires.settled c.requires.closed c.requires.some size zero_last c.gate_at-gate.ensures.gate c.write_at.new.self c.sync.new.self c.write_at.ensures.crash c.write_at.ensures.time c.sync.ensures.crash c.sync.ensures.time in
    let settles = c.in_ok-sync.ensures.durable ∙ ap settled (sym c.sync.ensures.bytes) in
    let leaves = first_leaves D.moment D.left_since D.pending D.seen c.args.body c.gate_at-gate.result c.args.more c.sync.new.self settles c.write_at-2.new.self c.requires.some (g.met.D.Disk.only_now c.sync.new.self) c.write_at-2.ensures.crash c.write_at-2.ensures.time in
    third D.moment D.left_since D.pending D.seen c.args.body c.args.count c.gate_at-gate.result c.args.more piece (bodies_in c.args.body c.args.more c.args.piece.now) c.open_between.ensures.bodies c.args.disk.now only_now
    c.requires.settled c.requires.closed c.requires.some size zero_last c.gate_at-gate.ensures.gate c.write_at.new.self c.sync.new.self c.write_at-2.new.self c.in_ok-write_at.ensures.written c.sync.ensures.bytes so_far leaves

pub returns-clause-any_moment : goal.returns-clause-any_moment
returns-clause-any_moment g c =
    let D = g.D.Disk in
    let piece = c.open_between.new.piece in
    let only_now = g.met.D.Disk.only_now c.args.disk.now in
    let size = c.open_between.ensures.len ∙ c.requires.whole in
    let zero_last = ap (λ (n : ℕ). get_or piece (n - 1) 0) c.open_between.ensures.len ∙ c.open_between.ensures.last ∙ c.requires.zero in
    let so_far = second D.moment D.left_since D.pending D.seen c.args.body c.args.count c.gate_at-gate.result c.args.more piece (bodies_in c.args.body c.args.more c.args.piece.now) c.open_between.ensures.bodies c.args.disk.now only_now
    c.requires.settled c.requires.closed c.requires.some size zero_last c.gate_at-gate.ensures.gate c.write_at.new.self c.sync.new.self c.write_at.ensures.crash c.write_at.ensures.time c.sync.ensures.crash c.sync.ensures.time in
    let settles = c.in_ok-sync.ensures.durable ∙ ap settled (sym c.sync.ensures.bytes) in
    let leaves = first_leaves D.moment D.left_since D.pending D.seen c.args.body c.gate_at-gate.result c.args.more c.sync.new.self settles c.write_at-2.new.self c.requires.some (g.met.D.Disk.only_now c.sync.new.self) c.write_at-2.ensures.crash c.write_at-2.ensures.time in
    let within = first_within D.moment D.left_since D.pending D.seen c.args.body c.gate_at-gate.result c.args.more c.sync.new.self settles c.write_at-2.new.self c.requires.some c.write_at-2.ensures.crash in
    fourth D.moment D.left_since D.pending D.seen c.args.body c.args.count c.gate_at-gate.result c.args.more piece (bodies_in c.args.body c.args.more c.args.piece.now) c.open_between.ensures.bodies c.args.disk.now only_now
    c.requires.settled c.requires.closed c.requires.some size zero_last c.gate_at-gate.ensures.gate c.write_at.new.self c.sync.new.self c.write_at-2.new.self c.in_ok-write_at.ensures.written c.sync.ensures.bytes c.sync-2.new.self so_far leaves within c.sync-2.ensures.crash c.sync-2.ensures.time

pub returns-clause-added : goal.returns-clause-added
returns-clause-added g c =
    let D = g.D.Disk in
    let piece = c.open_between.new.piece in
    let only_now = g.met.D.Disk.only_now c.args.disk.now in
    let size = c.open_between.ensures.len ∙ c.requires.whole in
    let zero_last = ap (λ (n : ℕ). get_or piece (n - 1) 0) c.open_between.ensures.len ∙ c.open_between.ensures.last ∙ c.requires.zero in
    let settles = c.in_ok-sync.ensures.durable ∙ ap settled (sym c.sync.ensures.bytes) in
    let there = enough D.moment D.left_since D.pending D.seen c.args.body c.args.count c.gate_at-gate.result c.args.more piece (bodies_in c.args.body c.args.more c.args.piece.now) c.open_between.ensures.bodies c.args.disk.now only_now
    c.requires.settled c.requires.closed c.requires.some size zero_last c.gate_at-gate.ensures.gate c.write_at.new.self c.sync.new.self c.write_at-2.new.self c.in_ok-write_at.ensures.written c.sync.ensures.bytes in
    let within = first_within D.moment D.left_since D.pending D.seen c.args.body c.gate_at-gate.result c.args.more c.sync.new.self settles c.write_at-2.new.self c.requires.some c.write_at-2.ensures.crash in
    let others = others_open D.moment D.left_since D.pending D.seen c.args.body c.args.count c.gate_at-gate.result c.args.more piece (bodies_in c.args.body c.args.more c.args.piece.now) c.open_between.ensures.bodies c.args.disk.now only_now
    c.requires.settled c.requires.closed c.requires.some size zero_last c.gate_at-gate.ensures.gate c.write_at.new.self c.sync.new.self c.write_at-2.new.self c.in_ok-write_at.ensures.written c.sync.ensures.bytes c.open_between.ensures.opened in
    let opened = all_open D.moment D.left_since D.pending D.seen c.args.body c.gate_at-gate.result c.args.more c.sync.new.self settles c.write_at-2.new.self there others c.in_ok-write_at-2.ensures.written in
    let added = all_added D.moment D.left_since D.pending D.seen c.args.body c.args.count c.gate_at-gate.result c.args.more piece (bodies_in c.args.body c.args.more c.args.piece.now) c.open_between.ensures.bodies c.args.disk.now only_now
    c.requires.settled c.requires.closed c.requires.some size zero_last c.gate_at-gate.ensures.gate c.write_at.new.self c.sync.new.self c.write_at-2.new.self c.in_ok-write_at.ensures.written c.sync.ensures.bytes c.sync-2.new.self within c.write_at-2.ensures.stays opened c.sync-2.ensures.bytes in
    on_ok_weaker c.sync-2.result (λ _. added.0) c.sync-2.ensures.durable

pub returns-clause-closed : goal.returns-clause-closed
returns-clause-closed g c =
    let D = g.D.Disk in
    let piece = c.open_between.new.piece in
    let only_now = g.met.D.Disk.only_now c.args.disk.now in
    let size = c.open_between.ensures.len ∙ c.requires.whole in
    let zero_last = ap (λ (n : ℕ). get_or piece (n - 1) 0) c.open_between.ensures.len ∙ c.open_between.ensures.last ∙ c.requires.zero in
    let settles = c.in_ok-sync.ensures.durable ∙ ap settled (sym c.sync.ensures.bytes) in
    let there = enough D.moment D.left_since D.pending D.seen c.args.body c.args.count c.gate_at-gate.result c.args.more piece (bodies_in c.args.body c.args.more c.args.piece.now) c.open_between.ensures.bodies c.args.disk.now only_now
    c.requires.settled c.requires.closed c.requires.some size zero_last c.gate_at-gate.ensures.gate c.write_at.new.self c.sync.new.self c.write_at-2.new.self c.in_ok-write_at.ensures.written c.sync.ensures.bytes in
    let within = first_within D.moment D.left_since D.pending D.seen c.args.body c.gate_at-gate.result c.args.more c.sync.new.self settles c.write_at-2.new.self c.requires.some c.write_at-2.ensures.crash in
    let others = others_open D.moment D.left_since D.pending D.seen c.args.body c.args.count c.gate_at-gate.result c.args.more piece (bodies_in c.args.body c.args.more c.args.piece.now) c.open_between.ensures.bodies c.args.disk.now only_now
    c.requires.settled c.requires.closed c.requires.some size zero_last c.gate_at-gate.ensures.gate c.write_at.new.self c.sync.new.self c.write_at-2.new.self c.in_ok-write_at.ensures.written c.sync.ensures.bytes c.open_between.ensures.opened in
    let opened = all_open D.moment D.left_since D.pending D.seen c.args.body c.gate_at-gate.result c.args.more c.sync.new.self settles c.write_at-2.new.self there others c.in_ok-write_at-2.ensures.written in
    let added = all_added D.moment D.left_since D.pending D.seen c.args.body c.args.count c.gate_at-gate.result c.args.more piece (bodies_in c.args.body c.args.more c.args.piece.now) c.open_between.ensures.bodies c.args.disk.now only_now
    c.requires.settled c.requires.closed c.requires.some size zero_last c.gate_at-gate.ensures.gate c.write_at.new.self c.sync.new.self c.write_at-2.new.self c.in_ok-write_at.ensures.written c.sync.ensures.bytes c.sync-2.new.self within c.write_at-2.ensures.stays opened c.sync-2.ensures.bytes in
    on_ok_weaker c.sync-2.result (λ _. added.1) c.sync-2.ensures.durable
