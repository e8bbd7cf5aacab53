-- Where the stamps of a run come from.
use Rattle.std.proofs.Common.{◌≡◌, ℕ, ◌+◌, ◌<◌, ◌≤◌, Bool, true, false, cond, List, [], ◌∷◌, ◌++◌, Option, refl}
use Rattle.std.specs.declared.option.Option.TheVariants.{None, Some}
use Rattle.std.specs.List.{Contains}
use Rattle.protocol.specs.Count.{update}
use Rattle.stamp_order.specs.declared.Stamp.{Stamp}
use Rattle.protocol.specs.Messages.{IsFormedBody, Reply, Body, Message}
use Rattle.wire_forms.specs.declared.Body.TheVariants.{Ask as Asks, Answer as Answers}
use Rattle.protocol.specs.Setting.{Setting, IsValid}
use Rattle.protocol.specs.Operations.{is_counted, Task, counted, mail}
use Rattle.protocol.specs.World.{World, Event, happens, Allowed, IsAskTo, IsAnswerTo, start_world, given, heard, heard_by, advanced, only_place, pruned_at, resent_by, sent, greatest_given, under_way}
use Rattle.protocol.specs.World.Event.{Start, Resend, Give, Hear, CrashNode, CrashClient, Lie, Prune, Back}
use Rattle.protocol.specs.History.{HasRead}
use Rattle.protocol.proofs.Invariant.{IsSafe}
use Rattle.protocol.proofs.lemmas.Sending.{MayBeSent, place_less, sent_less, crash_less, back_less, lie_may, lie_formed, mail_may, mail_formed, is_under_way}
use Rattle.protocol.proofs.Runs.{task_hears}
use Rattle.protocol.proofs.Origins.{HasOrigins, IsKnown, given_origins, started_origins, less_origins}
use Rattle.protocol.proofs.HearingOrigins.{advanced_origins}
use Rattle.lists.proofs.lemmas.Members.{Contains-none}

module _ (s : Setting) (good : IsValid s) (w : World) (safe : IsSafe s w) (origins : HasOrigins s w) (place : ℕ) (later : w.place ≤ place) where
  pub only_origins : HasOrigins s (only_place s w place)
  only_origins = less_origins s w safe origins place later w.pool w.versions w.task w.life w.started w.node_crashed w.client_crashed (place_less s w safe place later w.versions w.node_crashed)

  more_origins : (more : List Message) → ((m : Message) → Contains more m → MayBeSent s w m) → ((m : Message) → Contains more m → IsFormedBody m.body) → HasOrigins s (sent s w place more)
  more_origins more fine formed =
      less_origins s w safe origins place later (w.pool ++ more) w.versions w.task w.life w.started w.node_crashed w.client_crashed (sent_less s w safe place later more fine formed)

  resend_origins : (c : ℕ) (task : Task) → w.client_crashed c ≡ false → w.task c ≡ Some task → HasOrigins s (resent_by s w place c (w.task c))
  resend_origins c task up busy = rw busy (more_origins (mail s c task) (mail_may s w safe place later c task (is_under_way s w safe place later c task up busy)) (mail_formed s w safe place later good c task (is_under_way s w safe place later c task up busy)))

  give_origins : (i : ℕ) → i < s.n → s.lying_node i ≡ false → (m : Message) → Contains w.pool m → IsAskTo s i m → HasOrigins s (given s w place i m m.body)
  give_origins i l h m there asks = rw asks.2 (given_origins s w safe origins place later i l h m there asks.0 asks.1 asks.2)

  hear_count : (c : ℕ) (task : Task) → under_way w c ≡ Some task → (m : Message) → Contains w.pool m → m.client ≡ c → (reply : Reply) → m.body ≡ Answers reply → (b : Bool) → is_counted s task m.node m.tag reply ≡ b
      → HasOrigins s (cond b (advanced s w place c (counted task m.node reply)) (only_place s w place))
  hear_count c task busy m there of_c reply body false e = only_origins
  hear_count c task busy m there of_c reply body true e =
      advanced_origins s good w safe origins place later c task busy (update task.answers m.node (Some reply)) (task_hears s good w safe place later c task busy m there of_c reply body e)

  hear_task : (c : ℕ) (m : Message) → Contains w.pool m → m.client ≡ c → (reply : Reply) → m.body ≡ Answers reply → (o : Option Task) → w.client_crashed c ≡ false → w.task c ≡ o → HasOrigins s (heard_by s w place c o m reply)
  hear_task c m there of_c reply body None up e = only_origins
  hear_task c m there of_c reply body (Some task) up e = hear_count c task (is_under_way s w safe place later c task up e) m there of_c reply body (is_counted s task m.node m.tag reply) refl

  hear_origins : (c : ℕ) (m : Message) → Contains w.pool m → w.client_crashed c ≡ false → IsAnswerTo s c m → HasOrigins s (heard s w place c m m.body)
  hear_origins c m there up h = by m.body refl
    where
      by : (body : Body) → m.body ≡ body → HasOrigins s (heard s w place c m body)
      by (Asks ask) e = only_origins
      by (Answers reply) e = hear_task c m there h.0 reply e (w.task c) up refl

  prune_origins : (i block : ℕ) (o : Option Stamp) → HasOrigins s (pruned_at s w place i block o)
  prune_origins i block None = only_origins
  prune_origins i block (Some stamp) =
      let versions = (pruned_at s w place i block (Some stamp)).versions in
      less_origins s w safe origins place later w.pool versions w.task w.life w.started w.node_crashed w.client_crashed (place_less s w safe place later versions w.node_crashed)

pub happens_origins : (s : Setting) → IsValid s → (w : World) → IsSafe s w → HasOrigins s w → (place : ℕ) (e : Event) → Allowed s w place e → HasOrigins s (happens s w place e)
happens_origins s good w safe o place (Start c block work) h = started_origins s w safe o place h.later c block work h.client h.correct h.up h.idle h.fresh h.inside h.fits
happens_origins s good w safe o place (Resend c) h = resend_origins s good w safe o place h.later c h.task h.up h.busy
happens_origins s good w safe o place (Give i m) h = give_origins s good w safe o place h.later i h.node h.honest m h.sent h.asks
happens_origins s good w safe o place (Hear c m) h = hear_origins s good w safe o place h.later c m h.sent h.up h.answers
happens_origins s good w safe o place (CrashNode i) h = less_origins s w safe o place h.0 w.pool w.versions w.task w.life w.started (update w.node_crashed i true) w.client_crashed (place_less s w safe place h.0 w.versions (update w.node_crashed i true))
happens_origins s good w safe o place (CrashClient c) h = less_origins s w safe o place h.0 w.pool w.versions w.task w.life w.started w.node_crashed (update w.client_crashed c true) (crash_less s w safe place h.0 c)
happens_origins s good w safe o place (Lie m) h = more_origins s good w safe o place h.0 (m ∷ []) (lie_may s w safe place h.0 m h.3) (lie_formed s w safe place h.0 m h.4)
happens_origins s good w safe o place (Prune i block) h = prune_origins s good w safe o place h.later i block (greatest_given block w.records)
happens_origins s good w safe o place (Back c) h =
    less_origins s w safe o place h.0 w.pool w.versions (update w.task c None) (update w.life c (w.life c + 1)) (update w.started c 0) w.node_crashed (update w.client_crashed c false) (back_less s w safe place h.0 c)

pub start_origins : (s : Setting) → HasOrigins s (start_world s)
start_origins s = record {
  kept = λ i block stamp h. absurd (Contains-none (record { node = i; block = block; stamp = stamp }) h);
  asked = λ m ask h. absurd (Contains-none m h);
  tasks = λ c task e. absurd (cc e);
  gave = λ r stamp value how rounds h. absurd (Contains-none r h);
}

-- a stamp that a completed read gave is the first, was chosen by a correct client's write on the block, or was sent there by a lying client
pub read_known : (s : Setting) (w : World) → HasOrigins s w → (block : ℕ) (stamp : Stamp) (value : List ℕ) (place : ℕ) → HasRead w.records block stamp value place → IsKnown s w block stamp
read_known s w o block stamp value place h = let k = o.gave h.read stamp value h.how h.rounds h.there h.gave in rw h.of_block at k
