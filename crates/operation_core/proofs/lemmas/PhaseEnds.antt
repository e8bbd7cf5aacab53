-- What an answer does to an operation, by whether its phase counts it and ends with it.
use Rattle.std.proofs.Common.{◌≡◌, ℕ, Bool, true, false, cond, not, ◌&&◌, List, Option, refl, ◌∙◌}
use Rattle.std.specs.declared.option.Option.TheVariants.{None, Some}
use Rattle.protocol.specs.Messages.{Message, Reply, Tag}
use Rattle.protocol.specs.Instance.{setting}
use Rattle.protocol.specs.Seen.{SeenTask, SeenOperation, Hearing, seen_counted, is_counted}
use Rattle.protocol.specs.Seen.Hearing.{Ignored, Counted, Ended}
use Rattle.protocol.specs.Operations.{Outcome}
use Rattle.operation_core.specs.declared.stage.Stage.{Stage}
use Rattle.operation_core.specs.Counting.{counts_in, ends_in, hears_in, end_in, counted_task, counted_in, AnswerDoes, GoesOn, IsAtEnd, IsBegun}

by_count : (b f : Bool) (t : SeenTask) (h : Hearing) → b && not (f) ≡ true → cond b (cond f (Counted t) h) Ignored ≡ h
by_count true false t h e = refl
by_count true true t h e = absurd (cc)
by_count false f t h e = absurd (cc)

by_one : (b f : Bool) (t : SeenTask) (h : Hearing) → b ≡ true → b && not f ≡ false → cond b (cond f (Counted t) h) Ignored ≡ Counted t
by_one true true t h e g = refl
by_one true false t h e g = absurd (cc)
by_one false f t h e g = absurd (cc)

module _ (o : SeenOperation) (node : ℕ) (tag : Tag) (reply : Reply) where
  abbrev with_one : Option SeenTask → SeenOperation
  with_one task = record { config = o.config; client = o.client; task = task }

  ends : (task : Option SeenTask) → ends_in (with_one task) node tag reply ≡ true → hears_in (with_one task) node tag reply ≡ end_in (counted_in (with_one task) node reply)
  ends None e = absurd (cc)
  ends (Some t) e = by_count (is_counted (setting o.config) t node tag reply) _ (seen_counted t node reply) _ e

  one : (task : Option SeenTask) → counts_in (with_one task) node tag reply ≡ true → ends_in (with_one task) node tag reply ≡ false
      → (t : SeenTask) × (hears_in (with_one task) node tag reply ≡ Counted t) × (counted_task task node reply ≡ Some t)
  one None e f = absurd (cc)
  one (Some t) e f = (seen_counted t node reply, by_one (is_counted (setting o.config) t node tag reply) _ (seen_counted t node reply) _ e f, refl)

  -- it ends the phase as the operation ends it that has counted it
  pub hears_end : ends_in o node tag reply ≡ true → hears_in o node tag reply ≡ end_in (counted_in o node reply)
  hears_end = ends o.task

  -- it is counted, and the phase goes on
  pub hears_one : counts_in o node tag reply ≡ true → ends_in o node tag reply ≡ false → (t : SeenTask) × (hears_in o node tag reply ≡ Counted t) × (counted_task o.task node reply ≡ Some t)
  hears_one = one o.task

-- what some answer does is that the operation goes on in this stage
pub goes_on_by : (o : SeenOperation) (h : Hearing) (stage : Stage) (messages : List Message) → IsBegun o h stage messages → AnswerDoes o h → GoesOn o stage
goes_on_by o h stage messages b a = record {
  may = b.may;
  task = b.task;
  next = b.next;
  answer = record { node = a.node; tag = a.tag; reply = a.reply; hears = a.hears ∙ b.begins };
}

-- or that it ends
pub ends_by : (o : SeenOperation) (h : Hearing) (outcome : Outcome) → h ≡ Ended outcome → AnswerDoes o h → IsAtEnd o
ends_by o h outcome e a = (outcome, record { node = a.node; tag = a.tag; reply = a.reply; hears = a.hears ∙ e })
