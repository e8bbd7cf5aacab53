-- What takes place adds its messages at the end of the pool, and what it accepts at the end of what was accepted.
use Rattle.std.proofs.Common.{◌≡◌, ℕ, ◌-◌, ◌≤◌, arith, Bool, true, false, cond, List, [], ◌∷◌, ◌++◌, Option, refl, ◌∙◌, ap, inl, inr, ltb, append_assoc}
use Rattle.std.specs.declared.option.Option.TheVariants.{None, Some}
use Rattle.std.proofs.lemmas.List.Elements.{Contains-append_left}
use Rattle.stamp_order.specs.declared.Stamp.{Stamp}
use Rattle.wire_forms.specs.declared.Body.TheVariants.{Ask as Asks, Answer as Answers}
use Rattle.protocol.specs.Messages.{Reply, Body, Message}
use Rattle.protocol.specs.Count.{one_more}
use Rattle.protocol.specs.Setting.{Setting}
use Rattle.protocol.specs.Nodes.{accepts}
use Rattle.protocol.specs.Operations.{is_counted, Task, Decision, counted, decide, answered}
use Rattle.protocol.specs.Operations.Decision.{GoesOn, Ends}
use Rattle.protocol.specs.World.{World, Event, happens, all_happen, moved, decided, advanced, heard, heard_by, given, resent_by, pruned_at, only_place, open_record, greatest_given, accepted_at}
use Rattle.protocol.specs.World.Event.{Start, Resend, Give, Hear, CrashNode, CrashClient, Lie, Prune, Back}
use Rattle.protocol.specs.Lines.{Line, Run, events, plays}
use Rattle.protocol.specs.Facts.{Extends, HasAccepted}
use Rattle.protocol.proofs.lemmas.Lists.{append_nil}

extends_itself : {A : Type 0} (xs : List A) → Extends xs xs
extends_itself xs = ([], append_nil xs)

extends_both : {A : Type 0} (xs ys zs : List A) → Extends xs ys → Extends ys zs → Extends xs zs
extends_both {A} xs ys zs h k = (h.0 ++ k.0, k.1 ∙ ap (λ (l : List A). l ++ k.0) h.1 ∙ append_assoc xs h.0 k.0)

extends_one_more : {A : Type 0} (xs : List A) (o : Option A) → Extends xs (one_more xs o)
extends_one_more xs None = extends_itself xs
extends_one_more xs (Some x) = (x ∷ [], refl)

-- what was sent and accepted in one world begins what was in the other
abbrev pub Grows : World → World → Type 0
Grows w v = Extends w.pool v.pool × Extends w.accepted v.accepted

pub grows_itself : (w : World) → Grows w w
grows_itself w = (extends_itself w.pool, extends_itself w.accepted)

pub grows_both : (w v u : World) → Grows w v → Grows v u → Grows w u
grows_both w v u h k = (extends_both w.pool v.pool u.pool h.0 k.0, extends_both w.accepted v.accepted u.accepted h.1 k.1)

pub still_accepts : (s : Setting) (w v : World) → Grows w v → (i block : ℕ) (stamp : Stamp) → HasAccepted s w i block stamp → HasAccepted s v i block stamp
still_accepts s w v h i block stamp (inl e) = inl e
still_accepts s w v h i block stamp (inr k) = inr (rw h.1.1 (Contains-append_left w.accepted h.1.0 _ k))

-- and the other is at this place
abbrev Adds : World → ℕ → World → Type 0
Adds w place v = Grows w v × (v.place ≡ place)

module _ (s : Setting) (w : World) (place : ℕ) where
  same : Adds w place (only_place s w place)
  same = (grows_itself w, refl)

  decided_more : (c : ℕ) (z : Task) (d : Decision) → Adds w place (decided s w place c z d)
  decided_more c z (GoesOn stage) = (((_, refl), extends_itself w.accepted), refl)
  decided_more c z (Ends outcome) = (((_, refl), extends_itself w.accepted), refl)

  advanced_more : (c : ℕ) (z : Task) → Adds w place (advanced s w place c z)
  advanced_more c z = at (ltb (answered s z.answers) (s.n - s.t))
    where
      at : (b : Bool) → Adds w place (cond b (moved s w place c (Some z) [] (open_record c z)) (decided s w place c z (decide s c z z.stage)))
      at true = ((([], refl), extends_itself w.accepted), refl)
      at false = decided_more c z (decide s c z z.stage)

  counted_more : (c : ℕ) (task : Task) (m : Message) (reply : Reply) (b : Bool) → Adds w place (cond b (advanced s w place c (counted task m.node reply)) (only_place s w place))
  counted_more c task m reply true = advanced_more c (counted task m.node reply)
  counted_more c task m reply false = same

  heard_by_more : (c : ℕ) (o : Option Task) (m : Message) (reply : Reply) → Adds w place (heard_by s w place c o m reply)
  heard_by_more c None m reply = same
  heard_by_more c (Some task) m reply = counted_more c task m reply (is_counted s task m.node m.tag reply)

  heard_more : (c : ℕ) (m : Message) (body : Body) → Adds w place (heard s w place c m body)
  heard_more c m (Asks ask) = same
  heard_more c m (Answers reply) = heard_by_more c (w.task c) m reply

  given_more : (i : ℕ) (m : Message) (body : Body) → Adds w place (given s w place i m body)
  given_more i m (Asks ask) = (((_, refl), extends_one_more w.accepted (accepted_at s i ask.block (accepts s i (w.versions i ask.block) ask))), refl)
  given_more i m (Answers reply) = same

  resent_more : (c : ℕ) (o : Option Task) → Adds w place (resent_by s w place c o)
  resent_more c None = same
  resent_more c (Some task) = (((_, refl), extends_itself w.accepted), refl)

  pruned_more : (i block : ℕ) (o : Option Stamp) → Adds w place (pruned_at s w place i block o)
  pruned_more i block None = same
  pruned_more i block (Some stamp) = same

  pub happens_more : (e : Event) → Adds w place (happens s w place e)
  happens_more (Start c block work) = (((_, refl), extends_itself w.accepted), refl)
  happens_more (Resend c) = resent_more c (w.task c)
  happens_more (Give i m) = given_more i m m.body
  happens_more (Hear c m) = heard_more c m m.body
  happens_more (CrashNode i) = same
  happens_more (CrashClient c) = same
  happens_more (Lie m) = (((_, refl), extends_itself w.accepted), refl)
  happens_more (Prune i block) = pruned_more i block (greatest_given block w.records)
  happens_more (Back c) = same

  -- what leaves the records
  pub given_records : (i : ℕ) (m : Message) (body : Body) → (given s w place i m body).records ≡ w.records
  given_records i m (Asks ask) = refl
  given_records i m (Answers reply) = refl

  pub resent_records : (c : ℕ) (o : Option Task) → (resent_by s w place c o).records ≡ w.records
  resent_records c None = refl
  resent_records c (Some task) = refl

  pub pruned_records : (i block : ℕ) (o : Option Stamp) → (pruned_at s w place i block o).records ≡ w.records
  pruned_records i block None = refl
  pruned_records i block (Some stamp) = refl

module _ (s : Setting) where
  all_more : (es : List Event) (w : World) (place : ℕ) → Grows w (all_happen s w place es)
  all_more [] w place = grows_itself w
  all_more (e ∷ es) w place = grows_both w (happens s w place e) (all_happen s (happens s w place e) place es) (happens_more s w place e).0 (all_more es (happens s w place e) place)

  -- events take place at their place
  pub all_place : (es : List Event) (w : World) (place : ℕ) → w.place ≤ place → (all_happen s w place es).place ≤ place
  all_place [] w place l = l
  all_place (e ∷ es) w place l = all_place es (happens s w place e) place (let q = (happens_more s w place e).1 in omega (arith, q))

  pub plays_more : (w : World) (place : ℕ) (line : Line) → Grows w (plays s w place line)
  plays_more w place line = all_more (events s w line) w place

  pub run_more : (lines : List (ℕ × Line)) (w last : World) → Run s w lines last → Grows w last
  run_more [] w last run = rw run (grows_itself w)
  run_more (l ∷ ls) w last run = grows_both w (plays s w l.0 l.1) last (plays_more w l.0 l.1) (run_more ls (plays s w l.0 l.1) last run.3)
