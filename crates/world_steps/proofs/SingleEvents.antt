-- A single event is all that takes place at its line.
use Rattle.std.proofs.Common.{◌≡◌, ◌↔◌, ℕ, ◌<◌, List, [], ◌∷◌, Option, length, refl, sym, ap, subst, ◌∙◌}
use Rattle.std.specs.Prelude.{Result, Ok, Err, OnOk, slice_get, option_map}
use Rattle.std.specs.declared.option.Option.TheVariants.{None, Some}
use Rattle.std.proofs.lemmas.Option.{slice_get_within}
use Rattle.stamp_order.specs.declared.Stamp.{Stamp}
use Rattle.wire_forms.specs.declared.op.Op.TheVariants.{Read as ReadOp, Write as WriteOp}
use Rattle.wire_forms.specs.declared.Body.TheVariants.{Ask as Asks, Answer as Answers}
use Rattle.run_words.specs.declared.line.Line.TheVariants as lines
use Rattle.protocol.specs.Messages.{Body, Message}
use Rattle.protocol.specs.Setting.{Setting}
use Rattle.protocol.specs.Instance.{setting_of, InEachRun}
use Rattle.protocol.specs.Operations.{Task}
use Rattle.protocol.specs.World.{World, Event as AnyEvent, Allowed, AllAllowed, only_place, all_happen, happens, given, resent_by, pruned_at, greatest_given}
use Rattle.protocol.specs.World.Event.{Start as Starts, Resend as Resends, Give as Gives, Hear as Hears, CrashNode as NodeCrashes, CrashClient as ClientCrashes, Lie as Lies, Prune as Prunes, Back as ComesBack}
use Rattle.protocol.specs.Lines.{Line, FitsLine, Names, events, fault, given_at, heard_at, plays}
use Rattle.protocol.proofs.lemmas.Cluster.{cluster_valid}
use Rattle.protocol.proofs.lemmas.Playing.{no_fault}
use Rattle.protocol.proofs.lemmas.Theorem.{run_refusals}
use Rattle.world_steps.specs.Events.{line_of, event_of, Happens}
use Rattle.world_steps.specs.declared.event.Event.{Event}
use Rattle.world_steps.specs.declared.event.Event.TheVariants.{Start, Resend, Give, Hear, CrashNode, CrashClient, Lie, Prune, Back}
use Rattle.world_steps.proofs.LineEvents.{placed, heard-place, is_pooled}

module _ (s : Setting) (w : World) where
  given_alone : (i : ℕ) (o : Option Message) (e : AnyEvent) → option_map (Gives i) o ≡ Some e → given_at s w i o ≡ e ∷ []
  given_alone i None e h = absurd (cc)
  given_alone i (Some m) e h = cc

  heard_alone : (c : ℕ) (o : Option Message) (e : AnyEvent) → option_map (Hears c) o ≡ Some e → heard_at s w c o ≡ e ∷ []
  heard_alone c None e h = absurd (cc)
  heard_alone c (Some m) e h = cc

  -- an event is all that takes place at its line
  pub alone : (event : Event) (e : AnyEvent) → event_of w.pool event ≡ Some e → events s w (line_of event) ≡ e ∷ []
  alone (Start c (ReadOp block)) e h = cc
  alone (Start c (WriteOp block value)) e h = cc
  alone (Resend c) e h = cc
  alone (Give i k) e h = given_alone i (slice_get w.pool k) e h
  alone (Hear c k) e h = heard_alone c (slice_get w.pool k) e h
  alone (CrashNode i) e h = cc
  alone (CrashClient c) e h = cc
  alone (Lie m) e h = cc
  alone (Prune i block) e h = cc
  alone (Back c) e h = cc

  -- where its line has no fault, the message of its number is there
  pub there : (event : Event) → fault s w (line_of event) ≡ None → (e : AnyEvent) × (event_of w.pool event ≡ Some e)
  there (Start c (ReadOp block)) h = (_, refl)
  there (Start c (WriteOp block value)) h = (_, refl)
  there (Resend c) h = (_, refl)
  there (Give i k) h = let m = is_pooled s 0 w k (no_fault s w (lines.Give i k) h).message in (Gives i m.0, ap (option_map (Gives i)) m.1)
  there (Hear c k) h = let m = is_pooled s 0 w k (no_fault s w (lines.Hear c k) h).message in (Hears c m.0, ap (option_map (Hears c)) m.1)
  there (CrashNode i) h = (_, refl)
  there (CrashClient c) h = (_, refl)
  there (Lie m) h = (_, refl)
  there (Prune i block) h = (_, refl)
  there (Back c) h = (_, refl)

  module _ (place : ℕ) where
    given-place : (i : ℕ) (m : Message) (body : Body) → (given s w place i m body).place ≡ place
    given-place i m (Asks ask) = refl
    given-place i m (Answers reply) = refl

    resent-place : (c : ℕ) (task : Option Task) → (resent_by s w place c task).place ≡ place
    resent-place c None = refl
    resent-place c (Some task) = refl

    pruned-place : (i block : ℕ) (stamp : Option Stamp) → (pruned_at s w place i block stamp).place ≡ place
    pruned-place i block None = refl
    pruned-place i block (Some stamp) = refl

    -- whatever happens, the place is the event's
    pub happens-place : (e : AnyEvent) → (happens s w place e).place ≡ place
    happens-place (Starts c block work) = refl
    happens-place (Resends c) = resent-place c (w.task c)
    happens-place (Gives i m) = given-place i m m.body
    happens-place (Hears c m) = heard-place s place w c m m.body
    happens-place (NodeCrashes i) = refl
    happens-place (ClientCrashes c) = refl
    happens-place (Lies m) = refl
    happens-place (Prunes i block) = pruned-place i block (greatest_given block w.records)
    happens-place (ComesBack c) = refl

    -- the world after the event is that after its line
    pub played : (event : Event) (e : AnyEvent) → event_of w.pool event ≡ Some e → plays s w place (line_of event) ≡ happens s w place e
    played event e h = ap (λ (es : List AnyEvent). only_place s (all_happen s w place es) place) (alone event e h) ∙ placed s place (happens s w place e) (happens-place e)

    -- what a line without a fault makes of the world, its event does
    pub happened : (event : Event) (last : World) → fault s w (line_of event) ≡ None → last ≡ plays s w place (line_of event) → Happens s w place event last
    happened event last fine e = let t = there event fine in record { is = t.0; told = t.1; world = e ∙ played event t.0 t.1 }

    -- the same of a call that does a line or refuses it
    pub happened_on_ok : {T E : Type 0} (r : Result T E) (event : Event) (line : Line) (last : World) → line ≡ line_of event
        → OnOk r (fault s w line ≡ None) → OnOk r (last ≡ plays s w place line) → OnOk r (Happens s w place event last)
    happened_on_ok (Ok x) event line last is fine e =
        happened event last (subst (λ (l : Line). fault s w l ≡ None) is fine) (e ∙ ap (plays s w place) is)
    happened_on_ok (Err x) event line last is fine e = tt

    one_allowed : (es : List AnyEvent) (e : AnyEvent) → es ≡ e ∷ [] → AllAllowed s w place es → Allowed s w place e
    one_allowed es e h all = (subst (AllAllowed s w place) h all).0

    all_allowed : (es : List AnyEvent) (e : AnyEvent) → es ≡ e ∷ [] → Allowed s w place e → AllAllowed s w place es
    all_allowed es e h one = subst (AllAllowed s w place) (sym h) (one, tt)

  within : (k : ℕ) (f : Message → AnyEvent) (o : Option Message) (e : AnyEvent) → slice_get w.pool k ≡ o → option_map f o ≡ Some e → k < length w.pool
  within k f None e h g = absurd (cc)
  within k f (Some m) e h g = slice_get_within w.pool k m h

  named : (event : Event) (e : AnyEvent) → event_of w.pool event ≡ Some e → Names s w (line_of event)
  named (Start c (ReadOp block)) e h = tt
  named (Start c (WriteOp block value)) e h = tt
  named (Resend c) e h = tt
  named (Give i k) e h = within k (Gives i) (slice_get w.pool k) e refl h
  named (Hear c k) e h = within k (Hears c) (slice_get w.pool k) e refl h
  named (CrashNode i) e h = tt
  named (CrashClient c) e h = tt
  named (Lie m) e h = tt
  named (Prune i block) e h = tt
  named (Back c) e h = tt

-- in a run an event's line has no fault exactly where the event is allowed
pub in_runs : InEachRun (λ s w. (place : ℕ) (event : Event) (e : AnyEvent) → w.place < place → FitsLine s (line_of event) → event_of w.pool event ≡ Some e → (fault s w (line_of event) ≡ None) ↔ Allowed s w place e)
in_runs c nodes clients good ran w run place event e later fits is =
    let s = setting_of c nodes clients in
    let law = run_refusals s ran w (cluster_valid c nodes clients good) run place (line_of event) later fits in (
      (λ h. one_allowed s w place _ e (alone s w event e is) (law.0 h).1),
      (λ h. law.1 (named s w event e is, all_allowed s w place _ e (alone s w event e is) h)),
    )
