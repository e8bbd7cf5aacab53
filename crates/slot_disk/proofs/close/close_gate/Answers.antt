use Rattle.std.proofs.Common.{◌≡◌, ◌⊎◌, ℕ, List, ◌+◌, ◌≤◌, length, get_or, sym, ◌∙◌, ap, subst}
use Rattle.std.proofs.lemmas.Result.{on_ok_weaker}
use Rattle.slot_disk.specs.Bodies.{bodies}
use Rattle.slot_disk.proofs.lemmas.Closing.{gate_within, nothing_done, one_call, two_calls, gate_closed}
use Rattle.slot_disk.proofs.close.close_gate.Goals as goal

pub returns-then-is_closed-clause-any_moment : goal.returns-then-is_closed-clause-any_moment
returns-then-is_closed-clause-any_moment g c =
    let D = g.D.Disk in
    nothing_done D.moment D.left_since D.pending D.seen c.args.body c.args.count c.gate_behind-gate.result c.args.disk.now (g.met.D.Disk.only_now c.args.disk.now) c.requires.settled

pub write_at-requires-clause-ends : goal.write_at-requires-clause-ends
write_at-requires-clause-ends g c =
    let le = gate_within c.args.body c.args.bytes.now c.args.count c.requires.count (g.D.Disk.most c.args.disk.now) c.requires.fits c.requires.some in
    subst (λ (n : ℕ). n + 1 ≤ g.D.Disk.most c.args.disk.now) (sym c.gate_behind-gate.ensures.gate) le

pub returns-in_err-write_at-clause-any_moment : goal.returns-in_err-write_at-clause-any_moment
returns-in_err-write_at-clause-any_moment g c =
    let D = g.D.Disk in
    let gate = c.gate_behind-gate.result in
    let counts = c.requires.count ∙ ap (λ (l : List ℕ). length (bodies c.args.body l)) c.requires.bytes in
    let isn_t = subst (λ (l : List ℕ). (length l ≤ gate) ⊎ (get_or l gate 0 ≡ 1)) c.requires.bytes (c.is_closed.ensures.open_or_missing c.if-is_closed.false) in
    one_call D.moment D.left_since D.pending D.seen c.args.body c.args.count gate c.args.disk.now (g.met.D.Disk.only_now c.args.disk.now) c.requires.settled counts c.gate_behind-gate.ensures.gate isn_t
    c.write_at.new.self c.write_at.ensures.crash c.write_at.ensures.time

pub returns-clause-any_moment : goal.returns-clause-any_moment
returns-clause-any_moment g c =
    let D = g.D.Disk in
    let gate = c.gate_behind-gate.result in
    let counts = c.requires.count ∙ ap (λ (l : List ℕ). length (bodies c.args.body l)) c.requires.bytes in
    let isn_t = subst (λ (l : List ℕ). (length l ≤ gate) ⊎ (get_or l gate 0 ≡ 1)) c.requires.bytes (c.is_closed.ensures.open_or_missing c.if-is_closed.false) in
    two_calls D.moment D.left_since D.pending D.seen c.args.body c.args.count gate c.args.disk.now (g.met.D.Disk.only_now c.args.disk.now) c.requires.settled counts c.gate_behind-gate.ensures.gate isn_t
    c.write_at.new.self c.sync.new.self c.write_at.ensures.crash c.write_at.ensures.time c.sync.ensures.crash c.sync.ensures.time

pub returns-clause-closed : goal.returns-clause-closed
returns-clause-closed g c =
    let D = g.D.Disk in
    let gate = c.gate_behind-gate.result in
    let counts = c.requires.count ∙ ap (λ (l : List ℕ). length (bodies c.args.body l)) c.requires.bytes in
    let isn_t = subst (λ (l : List ℕ). (length l ≤ gate) ⊎ (get_or l gate 0 ≡ 1)) c.requires.bytes (c.is_closed.ensures.open_or_missing c.if-is_closed.false) in
    on_ok_weaker c.sync.result (λ _. (gate_closed D.moment D.left_since D.pending D.seen c.args.body c.args.count gate c.args.disk.now (g.met.D.Disk.only_now c.args.disk.now) c.requires.settled counts c.gate_behind-gate.ensures.gate isn_t
    c.write_at.new.self c.sync.new.self c.in_ok-write_at.ensures.written c.sync.ensures.bytes).1) c.sync.ensures.durable

pub returns-clause-same : goal.returns-clause-same
returns-clause-same g c =
    let D = g.D.Disk in
    let gate = c.gate_behind-gate.result in
    let counts = c.requires.count ∙ ap (λ (l : List ℕ). length (bodies c.args.body l)) c.requires.bytes in
    let isn_t = subst (λ (l : List ℕ). (length l ≤ gate) ⊎ (get_or l gate 0 ≡ 1)) c.requires.bytes (c.is_closed.ensures.open_or_missing c.if-is_closed.false) in
    on_ok_weaker c.sync.result (λ _. (gate_closed D.moment D.left_since D.pending D.seen c.args.body c.args.count gate c.args.disk.now (g.met.D.Disk.only_now c.args.disk.now) c.requires.settled counts c.gate_behind-gate.ensures.gate isn_t
    c.write_at.new.self c.sync.new.self c.in_ok-write_at.ensures.written c.sync.ensures.bytes).0) c.sync.ensures.durable
