use Rattle.std.proofs.Common.{rules, ◌≡◌, ◌∙◌, Err, refl, subst, arith}
use Rattle.std.proofs.lemmas.Grind.{common_steps}
use Rattle.std.specs.List.{AllPairs}
use Rattle.outside_io.specs.Written.{Adds, TakesPrefix}
use Rattle.quorum_rules.specs.Limits.{Numbers}
use Rattle.nbd_front.specs.declared.ending.SessionEnd.TheVariants.{NoMemory, WriteFault}
use Rattle.store_front.specs.Rounds.{AreSeparate, requests_of}
use Rattle.store_front.proofs.Serving.{none_cut, begun_cut, all_done, no_memory, no_sink}
use Rattle.store_front.proofs.session.serve_round.Goals as goal

pub returns-in_err-round-clause-round : goal.returns-in_err-round-clause-round
returns-in_err-round-clause-round g c =
    let is : c.from_residual.result ≡ Err NoMemory = first_of (search rules, grind (arith, common_steps), cc) in
    let none = none_cut g.D.Disk.pending g.D.Disk.seen g.D.Disk.most g.D.Disk.moment g.D.Disk.left_since c.args.store.now.config c.args.at_hand.now c.args.store.now in
    no_memory g.D.Disk.pending g.D.Disk.seen g.D.Disk.most g.D.Disk.moment g.D.Disk.left_since c.args.store.now.config _ _ _ _ _ _ is none.0 none.1 refl

pub answer-requires-clause-apart : goal.answer-requires-clause-apart
answer-requires-clause-apart g c = λ lifetimes within. subst (λ (k : Numbers). AllPairs (AreSeparate k) (requests_of c.in_ok-round.round.asked.items)) c.config.ensures c.in_ok-round.ensures.round.apart

pub returns-in_err-replies-clause-round : goal.returns-in_err-replies-clause-round
returns-in_err-replies-clause-round g c =
    let is : c.from_residual-in_err-replies.result ≡ Err NoMemory = first_of (search rules, grind (arith, common_steps), cc) in
    let round = c.in_ok-round.ensures.round in
    let cut = c.in_err-replies.ensures.cut in
    no_memory g.D.Disk.pending g.D.Disk.seen g.D.Disk.most g.D.Disk.moment g.D.Disk.left_since c.args.store.now.config _ _ _ _ _ _ is cut.0
    (begun_cut g.D.Disk.pending g.D.Disk.seen g.D.Disk.most g.D.Disk.moment g.D.Disk.left_since c.args.store.now.config c.args.at_hand.now c.args.store.now c.answer.new.store (requests_of c.in_ok-round.round.asked.items) c.in_ok-round.round.len round.fits round.front cut.0 cut.1 cut.2 cut.3)
    refl

pub returns-in_err-write_or_end-clause-round : goal.returns-in_err-write_or_end-clause-round
returns-in_err-write_or_end-clause-round g c =
    let is : c.from_residual-in_err-write_or_end.result ≡ Err WriteFault = first_of (search rules, grind (arith, common_steps), cc) in
    let round = c.in_ok-round.ensures.round in
    let e = c.in_ok-replies.ensures.answered in
    let prefix = subst (TakesPrefix (g.K.Sink.taken c.args.sink.now) (g.K.Sink.taken c.write_or_end.new.sink)) (c.deref.ensures.value ∙ e.4) c.in_err-write_or_end.ensures.prefix in
    no_sink g.D.Disk.pending g.D.Disk.seen g.D.Disk.most g.D.Disk.moment g.D.Disk.left_since c.args.store.now.config _ _ _ _ _ _ is e.0 c.in_ok-round.round.len
    (all_done g.D.Disk.pending g.D.Disk.seen g.D.Disk.most g.D.Disk.moment g.D.Disk.left_since c.args.store.now.config c.args.at_hand.now c.args.store.now c.answer.new.store (requests_of c.in_ok-round.round.asked.items) c.in_ok-round.round.len round.fits round.front c.in_ok-round.ensures.some e.0 e.1 e.2 e.3)
    prefix

pub returns-clause-round : goal.returns-clause-round
returns-clause-round g c =
    let round = c.in_ok-round.ensures.round in
    let e = c.in_ok-replies.ensures.answered in
    let adds = subst (Adds (g.K.Sink.taken c.args.sink.now) (g.K.Sink.taken c.write_or_end.new.sink)) (c.deref.ensures.value ∙ e.4) c.in_ok-write_or_end.ensures.whole in (
      e.0,
      all_done g.D.Disk.pending g.D.Disk.seen g.D.Disk.most g.D.Disk.moment g.D.Disk.left_since c.args.store.now.config c.args.at_hand.now c.args.store.now c.answer.new.store (requests_of c.in_ok-round.round.asked.items) c.in_ok-round.round.len round.fits round.front c.in_ok-round.ensures.some e.0 e.1 e.2 e.3,
      adds,
    )
