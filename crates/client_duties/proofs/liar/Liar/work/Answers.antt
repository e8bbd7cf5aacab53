use Rattle.std.proofs.Common.{rules, ◌≡◌, ◌∙◌, refl, sym}
use Rattle.std.specs.declared.option.Option.TheVariants.{None}
use Rattle.client_duties.proofs.Running.{ok_gives}
use Rattle.client_duties.proofs.Mailing.{sent_more}
use Rattle.client_duties.proofs.liar.Liar.work.Goals as goal

pub returns-then-is_err-clause-later : goal.returns-then-is_err-clause-later
returns-then-is_err-clause-later g c = c.desks_go_on.ensures.on c.args.endpoint.now.desk c.loop-ask.endpoint.desk c.send.new.self.desk c.loop-ask.invariant.later c.send.ensures.later

pub loop-ask-preserved : goal.loop-ask-preserved
loop-ask-preserved g c =
    let sound : c.send.new.self.refused ≡ None = search rules in
    let sent = ok_gives c.send.result (sym c.send.ensures.refused ∙ sound) c.send.ensures.sent in
    let items = c.in-Some.ensures.items in
    record {
      stays = c.send.ensures.stays ∙ c.loop-ask.invariant.stays;
      fit = c.send.ensures.fit;
      sound = sound;
      later = c.desks_go_on.ensures.on c.args.endpoint.now.desk c.loop-ask.endpoint.desk c.send.new.self.desk c.loop-ask.invariant.later c.send.ensures.later;
      plan = c.loop-ask.invariant.plan;
      client = c.loop-ask.invariant.client;
      mail = sent_more c.loop-ask.self _ c.loop-ask.endpoint.desk c.send.new.self.desk c.in-Some.ask c.pop_front.new.self.items refl refl items refl c.loop-ask.invariant.mail sent;
      none = λ e. (let z = (c.loop-ask.invariant.none e).0 in absurd (cc));
    }
