-- What a client asks by mail, and what it takes.
use Rattle.std.specs.Prelude.{◌≡◌, ℕ, ◌<◌, [], ◌∷◌, ◌++◌, map, All}
use Rattle.std.specs.declared.result.Result.TheVariants.{Ok}
use Rattle.protocol.specs.Messages.{Message}
use Rattle.inboxes.specs.Sides.{took, IsDone}
use Rattle.event_clock.specs.Passes.{ClockId, Sight}
use Rattle.journals.specs.declared.desk.Way.{Way}
use Rattle.locked_nodes.specs.declared.answers.Told.{Told}
use Rattle.client_endpoints.specs.declared.asked.NodePlace.{NodePlace}
use Rattle.client_endpoints.specs.declared.answered.Answered.{Answered}
use Rattle.client_endpoints.specs.declared.mail.ByMail.{ByMail}
use Rattle.client_endpoints.specs.Mail.{IsAskAt}

-- the ask fits the place, whatever of the clock its note has seen
abbrev pub CanAsk : ClockId → ℕ → Way → Message → NodePlace → Type 0
CanAsk clock seat way ask place = (note : Sight) → note.clock ≡ clock → IsAskAt place (record { seat = seat; way = way; ask = ask; note = note })

-- the way by mail is the same, whatever was put and taken
pub record IsSameMail (old new : ByMail) : Type 0 where
  pub seat : new.seat ≡ old.seat
  pub asks : map (λ p. p.inbox) new.asks.items ≡ map (λ p. p.inbox) old.asks.items
  pub inbox : new.answers.inbox ≡ old.answers.inbox
  pub senders : new.answers.senders ≡ old.answers.senders

-- an answer to this ask, which went this way, was taken, and told this
pub record HasTaken (old : ByMail) (w : Way) (m : Message) (t : Told) (new : ByMail) : Type 0 where
  pub from : ℕ
  pub answer : Answered
  pub grew : took new.answers ≡ took old.answers ++ (from, answer) ∷ []
  pub way : answer.way ≡ w
  pub ask : answer.ask ≡ m
  pub told : answer.told ≡ Ok t

-- the last word of each node was taken
pub record HasEnded (old new : ByMail) : Type 0 where
  pub seat : new.seat ≡ old.seat
  pub inbox : new.answers.inbox ≡ old.answers.inbox
  pub senders : new.answers.senders ≡ old.answers.senders
  pub done : IsDone new.answers
  pub known : All (λ i. i.0 < new.answers.senders) (took new.answers)
