use Rattle.std.proofs.Common.{rules, ◌≡◌, ◌∙◌, ℕ, Ok, Err, ap, subst, arith}
use Rattle.std.proofs.lemmas.Grind.{common_steps}
use Rattle.outside_io.specs.Causes.{Rose}
use Rattle.nbd_front.specs.declared.ending.SessionEnd.TheVariants.{NoMemory, ReadFault, WriteFault}
use Rattle.store_front.proofs.Ending.{completes}
use Rattle.store_front.proofs.Serving.{not_begun, ends_keep, none_came, turn, cut_short, many}
use Rattle.store_front.proofs.session.serve.Goals as goal

pub returns-in_err-session-clause-session : goal.returns-in_err-session-clause-session
returns-in_err-session-clause-session g c =
    let is : c.from_residual.result ≡ Err NoMemory = first_of (search rules, grind (arith, common_steps), cc) in
    rw is (not_begun g.D.Disk.pending g.D.Disk.seen g.D.Disk.most g.D.Disk.moment g.D.Disk.left_since c.args.store.now.config g.U.Keeper.keeps c.args.store.now (g.S.Source.left c.args.source.now) (g.K.Sink.taken c.args.sink.now))

pub returns-in_err-tend-clause-session : goal.returns-in_err-tend-clause-session
returns-in_err-tend-clause-session g c =
    let is : c.from_residual-in_err-tend.result ≡ Err NoMemory = first_of (search rules, grind (arith, common_steps), cc) in
    rw is (ends_keep g.D.Disk.pending g.D.Disk.seen g.D.Disk.most g.D.Disk.moment g.D.Disk.left_since c.args.store.now.config g.U.Keeper.keeps c.args.store.now c.loop-round.store c.loop-round._round c.loop-round.session.place c.loop-round.session.input (g.S.Source.left c.args.source.now) (g.S.Source.left c.loop-round.source) (g.K.Sink.taken c.args.sink.now) (g.K.Sink.taken c.loop-round.sink) c.loop-round.invariant.served c.tend.new.store c.tend.ensures.keeps)

pub returns-in_err-serve_next-clause-session : goal.returns-in_err-serve_next-clause-session
returns-in_err-serve_next-clause-session g c =
    let x = c.in_err-serve_next.field-0.0 in
    let is : c.from_residual-in_err-serve_next.result ≡ Err x = first_of (search rules, cc) in
    rw is (cut_short g.D.Disk.pending g.D.Disk.seen g.D.Disk.most g.D.Disk.moment g.D.Disk.left_since c.args.store.now.config g.U.Keeper.keeps c.args.store.now c.loop-round.store c.loop-round._round c.loop-round.session (g.S.Source.left c.args.source.now) (g.S.Source.left c.loop-round.source) (g.K.Sink.taken c.args.sink.now) (g.K.Sink.taken c.loop-round.sink) c.loop-round.invariant.served c.tend.new.store c.tend.ensures.keeps c.tend.new.store.config (c.tend.ensures.config ∙ c.loop-round.invariant.config) c.serve_next.new.store (g.S.Source.left c.serve_next.new.source) (g.K.Sink.taken c.serve_next.new.sink) c.serve_next.new.self x c.in_err-serve_next.ensures.turn)

pub returns-in_err-serve_next-clause-calm_source : goal.returns-in_err-serve_next-clause-calm_source
returns-in_err-serve_next-clause-calm_source g c other =
    let x = c.in_err-serve_next.field-0.0 in
    let is : c.from_residual-in_err-serve_next.result ≡ Err x = first_of (search rules, cc) in
    c.in_err-serve_next.ensures.calm_source (λ e. other (let same : x ≡ ReadFault = cc in is ∙ ap (λ z. Err z) same)) ∙ c.loop-round.invariant.reads

pub returns-in_err-serve_next-clause-calm_sink : goal.returns-in_err-serve_next-clause-calm_sink
returns-in_err-serve_next-clause-calm_sink g c other =
    let x = c.in_err-serve_next.field-0.0 in
    let is : c.from_residual-in_err-serve_next.result ≡ Err x = first_of (search rules, cc) in
    c.in_err-serve_next.ensures.calm_sink (λ e. other (let same : x ≡ WriteFault = cc in is ∙ ap (λ z. Err z) same)) ∙ c.loop-round.invariant.writes

pub returns-in_err-serve_next-clause-complete : goal.returns-in_err-serve_next-clause-complete
returns-in_err-serve_next-clause-complete g c input end told so no_read no_write =
    let inv = c.loop-round.invariant in
    let calls = c.in_err-serve_next.ensures in
    let x = c.in_err-serve_next.field-0.0 in
    let is : c.from_residual-in_err-serve_next.result ≡ Err x = first_of (search rules, cc) in
    let ended = cut_short g.D.Disk.pending g.D.Disk.seen g.D.Disk.most g.D.Disk.moment g.D.Disk.left_since c.args.store.now.config g.U.Keeper.keeps c.args.store.now c.loop-round.store c.loop-round._round c.loop-round.session (g.S.Source.left c.args.source.now) (g.S.Source.left c.loop-round.source) (g.K.Sink.taken c.args.sink.now) (g.K.Sink.taken c.loop-round.sink) c.loop-round.invariant.served c.tend.new.store c.tend.ensures.keeps c.tend.new.store.config (c.tend.ensures.config ∙ c.loop-round.invariant.config) c.serve_next.new.store (g.S.Source.left c.serve_next.new.source) (g.K.Sink.taken c.serve_next.new.sink) c.serve_next.new.self x calls.turn in
    let read_at = λ (n : ℕ). Rose g.S.Source.last n (g.S.Source.faults c.serve_next.new.source) in
    let write_at = λ (n : ℕ). Rose g.K.Sink.last n (g.K.Sink.faults c.serve_next.new.sink) in
    rw is (completes g.D.Disk.pending g.D.Disk.seen g.D.Disk.most g.D.Disk.moment g.D.Disk.left_since g.U.Keeper.keeps c.args.store.now.config c.args.store.now c.serve_next.new.store input (g.S.Source.left c.args.source.now) (g.S.Source.left c.serve_next.new.source) (g.K.Sink.taken c.args.sink.now) (g.K.Sink.taken c.serve_next.new.sink) told end (Err x) so ended
    (λ e. no_read (subst read_at inv.reads (calls.read_fault cc))) (λ e. no_write (subst write_at inv.writes (calls.write_fault cc))))

pub returns-in-None-clause-session : goal.returns-in-None-clause-session
returns-in-None-clause-session g c = none_came g.D.Disk.pending g.D.Disk.seen g.D.Disk.most g.D.Disk.moment g.D.Disk.left_since c.args.store.now.config g.U.Keeper.keeps c.args.store.now c.loop-round.store c.loop-round._round c.loop-round.session (g.S.Source.left c.args.source.now) (g.S.Source.left c.loop-round.source) (g.K.Sink.taken c.args.sink.now) (g.K.Sink.taken c.loop-round.sink) c.loop-round.invariant.served c.tend.new.store c.tend.ensures.keeps c.tend.new.store.config (c.tend.ensures.config ∙ c.loop-round.invariant.config) c.serve_next.new.store (g.S.Source.left c.serve_next.new.source) (g.K.Sink.taken c.serve_next.new.sink) c.serve_next.new.self c.in_ok-serve_next.field-0 c.in-None.is c.in_ok-serve_next.ensures.turn

pub returns-in-None-clause-complete : goal.returns-in-None-clause-complete
returns-in-None-clause-complete g c input end told so no_read no_write =
    let ended = none_came g.D.Disk.pending g.D.Disk.seen g.D.Disk.most g.D.Disk.moment g.D.Disk.left_since c.args.store.now.config g.U.Keeper.keeps c.args.store.now c.loop-round.store c.loop-round._round c.loop-round.session (g.S.Source.left c.args.source.now) (g.S.Source.left c.loop-round.source) (g.K.Sink.taken c.args.sink.now) (g.K.Sink.taken c.loop-round.sink) c.loop-round.invariant.served c.tend.new.store c.tend.ensures.keeps c.tend.new.store.config (c.tend.ensures.config ∙ c.loop-round.invariant.config) c.serve_next.new.store (g.S.Source.left c.serve_next.new.source) (g.K.Sink.taken c.serve_next.new.sink) c.serve_next.new.self c.in_ok-serve_next.field-0 c.in-None.is c.in_ok-serve_next.ensures.turn in
    completes g.D.Disk.pending g.D.Disk.seen g.D.Disk.most g.D.Disk.moment g.D.Disk.left_since g.U.Keeper.keeps c.args.store.now.config c.args.store.now c.serve_next.new.store input (g.S.Source.left c.args.source.now) (g.S.Source.left c.serve_next.new.source) (g.K.Sink.taken c.args.sink.now) (g.K.Sink.taken c.serve_next.new.sink) told end (Ok tt) so ended (λ e. cc) (λ e. cc)

pub loop-round-preserved : goal.loop-round-preserved
loop-round-preserved g c =
    let inv = c.loop-round.invariant in
    let r = c.in_ok-serve_next.ensures in
    record {
      ready = c.tend.ensures.ready;
      config = r.config ∙ c.tend.ensures.config ∙ inv.config;
      reads = r.calm_source (λ e. cc) ∙ inv.reads;
      writes = r.calm_sink (λ e. cc) ∙ inv.writes;
      served = turn g.D.Disk.pending g.D.Disk.seen g.D.Disk.most g.D.Disk.moment g.D.Disk.left_since c.args.store.now.config g.U.Keeper.keeps c.args.store.now c.loop-round.store c.loop-round._round c.loop-round.session (g.S.Source.left c.args.source.now) (g.S.Source.left c.loop-round.source) (g.K.Sink.taken c.args.sink.now) (g.K.Sink.taken c.loop-round.sink) c.loop-round.invariant.served c.tend.new.store c.tend.ensures.keeps c.tend.new.store.config (c.tend.ensures.config ∙ c.loop-round.invariant.config) c.serve_next.new.store (g.S.Source.left c.serve_next.new.source) (g.K.Sink.taken c.serve_next.new.sink) c.serve_next.new.self c.in_ok-serve_next.field-0 c.in-Some.len c.in-Some.is r.turn;
    }

pub returns-clause-session : goal.returns-clause-session
returns-clause-session g c =
    many g.D.Disk.pending g.D.Disk.seen g.D.Disk.most g.D.Disk.moment g.D.Disk.left_since c.args.store.now.config g.U.Keeper.keeps c.args.store.now c.loop-round.store c.loop-round._round c.loop-round.session.place c.loop-round.session.input (g.S.Source.left c.args.source.now) (g.S.Source.left c.loop-round.source) (g.K.Sink.taken c.args.sink.now) (g.K.Sink.taken c.loop-round.sink) c.loop-round.invariant.served (omega (arith, c.loop-round-test.false, c.loop-round.auto._round-end))
