use Rattle.std.proofs.Common.{◌≡◌, ◌∷◌, [], ◌++◌, refl, sym, ◌∙◌, ap}
use Rattle.protocol.specs.Messages.{Reply}
use Rattle.node_core.specs.Seen.{reply_of}
use Rattle.version_disk.proofs.lemmas.Answering.{one_accepted, one_refused, on_ok_four}
use Rattle.version_disk.proofs.batch.answer.Goals as goal

pub returns-in-Some-clause-batch : goal.returns-in-Some-clause-batch
returns-in-Some-clause-batch c =
    let node = c.args.node.now in
    let old = c.args.batch.now in
    let told : c.add.new.batch.replies ≡ old.replies ++ reply_of node c.args.ask.now ∷ [] =
    c.add.ensures.replies ∙ c.in_ok-push.ensures.ok ∙ ap (λ (r : Reply). old.replies ++ r ∷ []) c.in_ok-reply.ensures.reply in
    on_ok_four c.add.result (λ state pieces fits count start asks is.
    one_accepted start node c.add.new.node asks c.args.ask.now old c.add.new.batch is c.in-Some.version (sym c.in-Some.is ∙ c.in_ok-reply.ensures.added) fits state told pieces count)
    c.add.ensures.state c.add.ensures.pieces c.add.ensures.fits c.add.ensures.count

pub returns-in-None-clause-batch : goal.returns-in-None-clause-batch
returns-in-None-clause-batch c start asks is =
    let node = c.args.node.now in
    let old = c.args.batch.now in
    one_refused start node node asks c.args.ask.now old (record { replies = c.push.new.self; pieces = old.pieces; added = old.added }) is (sym c.in-None.is ∙ c.in_ok-reply.ensures.added) refl
    (c.in_ok-push.ensures.ok ∙ ap (λ (r : Reply). old.replies ++ r ∷ []) c.in_ok-reply.ensures.reply) refl refl
