-- What holds in every world of a run holds in its last.
use Rattle.std.proofs.Common.{◌≡◌, ℕ, ◌<◌, ◌≤◌, Bool, true, false, cond, List, [], ◌∷◌, length, Option, refl, sym, ◌∙◌, ap, inl, inr, arith, eqb}
use Rattle.std.specs.declared.option.Option.TheVariants.{None, Some}
use Rattle.std.specs.List.{Contains}
use Rattle.protocol.specs.Count.{update}
use Rattle.stamp_order.specs.declared.Stamp.{Stamp}
use Rattle.stamp_order.specs.Stamps.{same_stamp}
use Rattle.protocol.proofs.lemmas.Forming.{zeros_block, sum_formed}
use Rattle.protocol.specs.Messages.{flat, Version, Reply, Body, Message}
use Rattle.wire_forms.specs.declared.Body.TheVariants.{Ask as Asks, Answer as Answers}
use Rattle.protocol.specs.Setting.{Setting, IsValid, zeros, first_stamp, same, digest_at}
use Rattle.protocol.specs.Nodes.{first_version}
use Rattle.protocol.specs.Operations.{is_counted, Task, Stage, is_of_kind, is_whole, counted}
use Rattle.protocol.specs.World.{World, Event, happens, all_happen, AllAllowed, Allowed, IsAskTo, IsAnswerTo, IsQuiet, start_world, given, heard, heard_by, advanced, only_place, pruned_at, greatest_given, under_way}
use Rattle.protocol.specs.World.Event.{Start, Resend, Give, Hear, CrashNode, CrashClient, Lie, Prune, Back}
use Rattle.protocol.proofs.lemmas.Counting.{update-cases, both_true}
use Rattle.protocol.proofs.lemmas.Order.{same_stamp-refl, ≼-refl}
use Rattle.protocol.proofs.lemmas.Rounds.{same-refl}
use Rattle.protocol.proofs.Invariant.{IsSafe, IsStored}
use Rattle.protocol.proofs.Starting.{started_safe}
use Rattle.protocol.proofs.Giving.{handled_safe}
use Rattle.protocol.proofs.lemmas.Sending.{only_safe, crash_node_safe, crash_client_safe, back_safe, pruned_safe, lie_safe, resend_safe, is_under_way}
use Rattle.protocol.proofs.Hearing.{advanced_safe, message_is}
use Rattle.lists.proofs.lemmas.Members.{Contains-head, Contains-none, Contains-one}
use Rattle.lists.proofs.lemmas.Tests.{eqb_self}
use Rattle.std.proofs.lemmas.Bool.{eqb-true}

first_whole : (s : Setting) → IsValid s → (i : ℕ) → i < s.n → is_whole s i (first_version s i) ≡ true
first_whole s good i l =
    let size = zeros_block s in
    let a : eqb (length (s.sum_of (zeros s))) s.n ≡ true = rw (good.length-sum (zeros s) size) (eqb_self s.n) in
    let b : eqb (length (s.fragment_of (zeros s) i)) s.share ≡ true = rw (good.length-fragment (zeros s) i size l) (eqb_self s.share) in
    let c : same (s.digest (flat (s.sum_of (zeros s)))) (s.digest (flat (s.sum_of (zeros s)))) ≡ true = same-refl _ in
    let d : same (s.digest (s.fragment_of (zeros s) i)) (digest_at s (s.sum_of (zeros s)) i) ≡ true = rw (good.digests (zeros s) i size l) (same-refl _) in
    let e : same_stamp (first_stamp s) (first_stamp s) ≡ true = same_stamp-refl _ in
    rw (a, b, c, d, e) refl

start_stored : (s : Setting) → IsValid s → (i block : ℕ) → i < s.n → IsStored s (start_world s) i block
start_stored s good i block l = record {
  first = rw (same_stamp-refl (first_stamp s)) refl;
  whole = λ v k. rw (Contains-one v (first_version s i) k) (first_whole s good i l);
  formed = λ v k. rw (Contains-one v (first_version s i) k) (sum_formed s good (zeros s) (zeros_block s), good.bytes-fragment (zeros s) i (zeros_block s));
  kept = λ v k. inl (ap (λ (u : Version). u.stamp) (Contains-one v (first_version s i) k));
  covered = λ stamp k. elim k [
    | inl e ↦ record { version = first_version s i; there = Contains-head (first_version s i) []; above = rw e (≼-refl (first_stamp s)); how = inl (sym e) }
    | inr h ↦ absurd (Contains-none (record { node = i; block = block; stamp = stamp }) h)
  ];
}

pub start_safe : (s : Setting) → IsValid s → IsSafe s (start_world s)
start_safe s good = record {
  lives = λ c. omega arith;
  formed = λ m h. absurd (Contains-none m h);
  stored = λ i block l h. start_stored s good i block l;
  tagged = λ m h. absurd (Contains-none m h);
  asked = λ m task ask h. absurd (Contains-none m h);
  answered = λ m task reply h. absurd (Contains-none m h);
  tasks = λ c task e. absurd (cc e);
  records = λ r h. absurd (Contains-none r h);
  aimed = λ c task apart x end stamp h. absurd (Contains-none x h);
  ordered = λ x y apart end stamp last h. absurd (Contains-none x h);
}

module _ (s : Setting) (good : IsValid s) (w : World) (safe : IsSafe s w) (place : ℕ) (later : w.place ≤ place) where
  given_safe : (i : ℕ) → i < s.n → s.lying_node i ≡ false → (m : Message) → Contains w.pool m → IsAskTo s i m → IsSafe s (given s w place i m m.body)
  given_safe i l h m there asks = rw asks.2 (handled_safe s w safe place later i l h m there asks.0 asks.1 asks.2)

  kind_as : (stage : Stage) (a r : Reply) → a ≡ r → is_of_kind stage a ≡ true → is_of_kind stage r ≡ true
  kind_as stage a r e h = rw e at h

  -- what a task has counted with one more answer was sent
  pub task_hears : (c : ℕ) (task : Task) → under_way w c ≡ Some task → (m : Message) → Contains w.pool m → m.client ≡ c → (reply : Reply) → m.body ≡ Answers reply → is_counted s task m.node m.tag reply ≡ true
      → (i : ℕ) (r : Reply) → update task.answers m.node (Some reply) i ≡ Some r
      → Contains w.pool (record { client = c; node = i; tag = record { op = task.op; phase = task.phase }; body = Answers r }) × (is_of_kind task.stage r ≡ true)
  task_hears c task busy m there of_c reply body e i r f =
      let a = both_true _ _ e in
      let b = both_true _ _ a.0 in
      let d = both_true _ _ b.0 in
      let x = both_true _ _ d.0 in
      elim (update-cases task.answers m.node (Some reply) i) [
        | inl k ↦
            (let q : reply ≡ r = (let g = k.1 in cc) in
            let same = message_is m c i task.op task.phase r of_c (sym k.0) (eqb-true m.tag.op task.op x.0) (eqb-true m.tag.phase task.phase x.1) (body ∙ ap Answers q) in
            (rw same at there, kind_as task.stage reply r q b.1))
        | inr k ↦ (safe.tasks c task busy).heard i r (sym k.1 ∙ f)
      ]

  counted_heard : (c : ℕ) (task : Task) → under_way w c ≡ Some task → (m : Message) → Contains w.pool m → m.client ≡ c → (reply : Reply) → m.body ≡ Answers reply → (b : Bool) → is_counted s task m.node m.tag reply ≡ b
      → IsSafe s (cond b (advanced s w place c (counted task m.node reply)) (only_place s w place))
  counted_heard c task busy m there of_c reply body false e = only_safe s w safe place later
  counted_heard c task busy m there of_c reply body true e =
      advanced_safe s good w safe place later c task busy (update task.answers m.node (Some reply)) (task_hears c task busy m there of_c reply body e)

  heard_task : (c : ℕ) (m : Message) → Contains w.pool m → m.client ≡ c → (reply : Reply) → m.body ≡ Answers reply → (o : Option Task) → w.client_crashed c ≡ false → w.task c ≡ o → IsSafe s (heard_by s w place c o m reply)
  heard_task c m there of_c reply body None up e = only_safe s w safe place later
  heard_task c m there of_c reply body (Some task) up e = counted_heard c task (is_under_way s w safe place later c task up e) m there of_c reply body (is_counted s task m.node m.tag reply) refl

  pub heard_safe : (c : ℕ) (m : Message) → Contains w.pool m → w.client_crashed c ≡ false → IsAnswerTo s c m → IsSafe s (heard s w place c m m.body)
  heard_safe c m there up h = by m.body refl
    where
      by : (body : Body) → m.body ≡ body → IsSafe s (heard s w place c m body)
      by (Asks ask) e = only_safe s w safe place later
      by (Answers reply) e = heard_task c m there h.0 reply e (w.task c) up refl

  prune_safe : (i block : ℕ) → IsQuiet s w block → (stamp : Stamp) → greatest_given block w.records ≡ Some stamp → IsSafe s (pruned_at s w place i block (greatest_given block w.records))
  prune_safe i block quiet stamp by = rw by (pruned_safe s w safe place later i block quiet stamp by)

pub happens_safe : (s : Setting) → IsValid s → (w : World) → IsSafe s w → (place : ℕ) (e : Event) → Allowed s w place e → IsSafe s (happens s w place e)
happens_safe s good w safe place (Start c block work) h = started_safe s w safe place h.later c block work h.client h.correct h.up h.idle h.fresh h.inside h.fits
happens_safe s good w safe place (Resend c) h = resend_safe s w safe place h.later good c h.task h.up h.busy
happens_safe s good w safe place (Give i m) h = given_safe s good w safe place h.later i h.node h.honest m h.sent h.asks
happens_safe s good w safe place (Hear c m) h = heard_safe s good w safe place h.later c m h.sent h.up h.answers
happens_safe s good w safe place (CrashNode i) h = crash_node_safe s w safe place h.0 i
happens_safe s good w safe place (CrashClient c) h = crash_client_safe s w safe place h.0 c
happens_safe s good w safe place (Lie m) h = lie_safe s w safe place h.0 m h.3 h.4
happens_safe s good w safe place (Prune i block) h = prune_safe s good w safe place h.later i block h.quiet h.stamp h.given
happens_safe s good w safe place (Back c) h = back_safe s w safe place h.0 c

pub all_safe : (s : Setting) → IsValid s → (place : ℕ) (es : List Event) (w : World) → IsSafe s w → AllAllowed s w place es → IsSafe s (all_happen s w place es)
all_safe s good place [] w safe h = safe
all_safe s good place (e ∷ es) w safe h = all_safe s good place es (happens s w place e) (happens_safe s good w safe place e h.0) h.1
