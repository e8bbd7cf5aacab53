-- A line at which an operation ends sends no lie of a client.
use Rattle.std.proofs.Common.{◌≡◌, ◌⊎◌, ℕ, ◌+◌, ◌<◌, ◌≤◌, true, false, List, [], ◌∷◌, ◌++◌, Option, refl, ap, inl, inr}
use Rattle.std.specs.Prelude.{slice_get}
use Rattle.std.specs.declared.option.Option.TheVariants.{None, Some}
use Rattle.std.specs.List.{Contains}
use Rattle.std.proofs.lemmas.List.Elements.{Contains-append_cases}
use Rattle.stamp_order.specs.declared.Stamp.{Stamp}
use Rattle.wire_forms.specs.declared.Body.TheVariants.{Ask as Asks, Answer as Answers}
use Rattle.run_words.specs.declared.line.Line.TheVariants.{Write, Read, Resend, Call, Give, Hear, Lost, CrashNode, CrashClient, Lie, Tell, Poke, False, Sound, Mix, Prune, Back, Restart}
use Rattle.protocol.specs.Messages.{Ask, Reply, Body, Message}
use Rattle.protocol.specs.Setting.{Setting, IsValid}
use Rattle.protocol.specs.Operations.{Task, begun, mail, goes_on, ask_of}
use Rattle.protocol.specs.World.{World, last_op, Record, Event, Allowed, AllAllowed, happens, all_happen, given, heard, resent_by, pruned_at, only_place, greatest_given, IsAnswerTo}
use Rattle.protocol.specs.World.Event.{Start, Resend as Resends, Give as Gives, Hear as Hears, CrashNode as NodeCrashes, CrashClient as ClientCrashes, Lie as Lies, Prune as Prunes, Back as ComesBack}
use Rattle.protocol.specs.Lines.{Line, Rule, FitsLine, fault, events, plays, called, told, falsely_told, answer_with, false_reply, given_at, heard_at}
use Rattle.protocol.specs.History.{HasLie}
use Rattle.protocol.proofs.Growing.{given_records, resent_records, pruned_records}
use Rattle.protocol.proofs.Mails.{in_mail}
use Rattle.protocol.proofs.Invariant.{IsSafe}
use Rattle.protocol.proofs.Heard.{filled, heard_case}
use Rattle.protocol.proofs.Runs.{happens_safe}
use Rattle.protocol.proofs.lemmas.Playing.{no_fault, events_allowed}
use Rattle.lists.proofs.lemmas.Members.{Contains-none, Contains-one}

-- the event ends no operation
abbrev EndsNothing : Event → Type 0
EndsNothing (Hears c m) = ⊥
EndsNothing _ = Unit {0}

-- it sends no lie of a client
abbrev LiesNothing : Event → Type 0
LiesNothing (Lies m) = (reply : Reply) × (m.body ≡ Answers reply)
LiesNothing _ = Unit {0}

abbrev All : (Event → Type 0) → List Event → Type 0
All P [] = Unit {0}
All P (e ∷ es) = P e × All P es

-- ---- events that end nothing

module _ (s : Setting) (place : ℕ) where
  same_ends : (w : World) (e : Event) → EndsNothing e → (r : Record) (end : ℕ) → Contains (happens s w place e).records r → r.end ≡ Some end → Contains w.records r
  same_ends w (Start c block work) none r end h e =
      elim (Contains-append_cases w.records _ r h) [ inl k ↦ k | inr k ↦ absurd (let q = ap (λ (x : Record). x.end) (Contains-one r _ k) in cc) ]
  same_ends w (Resends c) none r end h e = rw (resent_records s w place c (w.task c)) at h
  same_ends w (Gives i m) none r end h e = rw (given_records s w place i m m.body) at h
  same_ends w (Hears c m) none r end h e = absurd none
  same_ends w (NodeCrashes i) none r end h e = h
  same_ends w (ClientCrashes c) none r end h e = h
  same_ends w (Lies m) none r end h e = h
  same_ends w (Prunes i block) none r end h e = rw (pruned_records s w place i block (greatest_given block w.records)) at h
  same_ends w (ComesBack c) none r end h e = h

  all_same : (es : List Event) (w : World) → All EndsNothing es → (r : Record) (end : ℕ) → Contains (all_happen s w place es).records r → r.end ≡ Some end → Contains w.records r
  all_same [] w none r end h e = h
  all_same (x ∷ es) w none r end h e = same_ends w x none.0 r end (all_same es (happens s w place x) none.1 r end h e) e

-- ---- events that send no lie of a client

-- where these were added, none of them a lie, a lie was there before
old_lie : (s : Setting) (w v : World) (more : List Message) (block : ℕ) (stamp : Stamp) → v.pool ≡ w.pool ++ more → ((m : Message) → Contains more m → s.lying_client m.client ≡ true → (ask : Ask) → m.body ≡ Asks ask → ⊥) → HasLie s v block stamp → HasLie s w block stamp
old_lie s w v more block stamp e none h = elim (Contains-append_cases w.pool more h.message (rw e at h.there)) [
  | inl k ↦ record { message = h.message; there = k; lies = h.lies; version = h.version; asks = h.asks; stamped = h.stamped }
  | inr k ↦ absurd (none h.message k h.lies _ h.asks)
]

module _ (s : Setting) (good : IsValid s) (place block : ℕ) (stamp : Stamp) where
  -- no lie is new
  abbrev None-new : World → World → Type 0
  None-new w v = HasLie s v block stamp → HasLie s w block stamp

  -- a correct client's messages are none
  by_mail : (c : ℕ) (task : Task) → s.lying_client c ≡ false → (m : Message) → Contains (mail s c task) m → s.lying_client m.client ≡ true → ⊥
  by_mail c task correct m k lies =
      let q = in_mail s c task m k in
      let of : m.client ≡ c = ap (λ (x : Message). x.client) q.2 in
      let yes : s.lying_client c ≡ true = rw of at lies in
      cc

  module _ (w : World) (safe : IsSafe s w) where
    with_mail : (v : World) (c : ℕ) (task : Task) → s.lying_client c ≡ false → v.pool ≡ w.pool ++ mail s c task → None-new w v
    with_mail v c task correct e = old_lie s w v (mail s c task) block stamp e (λ m k lies ask body. by_mail c task correct m k lies)

    same : (v : World) → v.pool ≡ w.pool → None-new w v
    same v e h = record { message = h.message; there = (rw e at h.there); lies = h.lies; version = h.version; asks = h.asks; stamped = h.stamped }

    same_pool : (v : World) → v.pool ≡ w.pool ++ [] → None-new w v
    same_pool v e = old_lie s w v [] block stamp e (λ m k lies ask body. Contains-none m k)

    resends : (c : ℕ) → s.lying_client c ≡ false → (o : Option Task) → None-new w (resent_by s w place c o)
    resends c correct None h = same (resent_by s w place c None) refl h
    resends c correct (Some task) h = with_mail (resent_by s w place c (Some task)) c task correct refl h

    gives : (i : ℕ) (m : Message) (body : Body) → None-new w (given s w place i m body)
    gives i m (Asks ask) h = old_lie s w (given s w place i m (Asks ask)) _ block stamp refl (λ x k lies wanted asks. let q = ap (λ (y : Message). y.body) (Contains-one x _ k) in cc) h
    gives i m (Answers reply) h = same (given s w place i m (Answers reply)) refl h

    prunes : (i at : ℕ) (o : Option Stamp) → None-new w (pruned_at s w place i at o)
    prunes i at None h = same (pruned_at s w place i at None) refl h
    prunes i at (Some t) h = same (pruned_at s w place i at (Some t)) refl h

    hears : w.place ≤ place → (c : ℕ) → s.lying_client c ≡ false → (m : Message) → Contains w.pool m → w.client_crashed c ≡ false → IsAnswerTo s c m → None-new w (heard s w place c m m.body)
    hears later c correct m there up h =
        heard_case s good w safe place later c (None-new w) (same (only_place s w place) refl)
        (λ task answers busy sent. same_pool _ refl)
        (λ task answers busy sent enough stage d. with_mail _ c (goes_on (filled task answers) stage) correct refl)
        (λ task answers busy sent enough outcome d. same_pool _ refl)
        m there up h

    lies : (m : Message) (reply : Reply) → m.body ≡ Answers reply → None-new w (happens s w place (Lies m))
    lies m reply body h = old_lie s w (happens s w place (Lies m)) (m ∷ []) block stamp refl (λ x k lie ask asks. let q = ap (λ (y : Message). y.body) (Contains-one x m k) in cc) h

    none_new : (e : Event) → Allowed s w place e → LiesNothing e → None-new w (happens s w place e)
    none_new (Start c at work) may none h = with_mail (happens s w place (Start c at work)) c (begun (last_op w c + 1) at work place) may.correct refl h
    none_new (Resends c) may none h = resends c may.correct (w.task c) h
    none_new (Gives i m) may none h = gives i m m.body h
    none_new (Hears c m) may none h = hears may.later c may.correct m may.sent may.up may.answers h
    none_new (NodeCrashes i) may none h = same (happens s w place (NodeCrashes i)) refl h
    none_new (ClientCrashes c) may none h = same (happens s w place (ClientCrashes c)) refl h
    none_new (Lies m) may none h = lies m none.0 none.1 h
    none_new (Prunes i at) may none h = prunes i at (greatest_given at w.records) h
    none_new (ComesBack c) may none h = same (happens s w place (ComesBack c)) refl h

  all_none_new : (es : List Event) (w : World) → IsSafe s w → AllAllowed s w place es → All LiesNothing es → None-new w (all_happen s w place es)
  all_none_new [] w safe may none h = h
  all_none_new (e ∷ es) w safe may none h = none_new w safe e may.0 none.0 (all_none_new es (happens s w place e) (happens_safe s good w safe place e may.0) may.1 none.1 h)

-- ---- a line does one or the other

module _ (s : Setting) (w : World) where
  calls : (c i : ℕ) (o : Option Task) → All LiesNothing (called s w c i o)
  calls c i None = tt
  calls c i (Some task) = (tt, (tt, tt))

  tells : (c : ℕ) (m : Message) (reply : Reply) → m.body ≡ Answers reply → All LiesNothing (told s w c (Some m))
  tells c m reply body = ((reply, body), (tt, tt))

  answers : (c i : ℕ) (task : Task) (o : Option Reply) → All LiesNothing (told s w c (answer_with s c i task o))
  answers c i task None = tt
  answers c i task (Some reply) = ((reply, refl), (tt, tt))

  falses : (rule : Rule) (c i : ℕ) (o : Option Task) → All LiesNothing (falsely_told s w rule c i o)
  falses rule c i None = tt
  falses rule c i (Some task) = answers c i task (false_reply s rule i (ask_of s task i).request)

  gives_at : (i : ℕ) (o : Option Message) → All LiesNothing (given_at s w i o)
  gives_at i None = tt
  gives_at i (Some m) = (tt, tt)

  hears_at : (c : ℕ) (o : Option Message) → All LiesNothing (heard_at s w c o)
  hears_at c None = tt
  hears_at c (Some m) = (tt, tt)

  either : (place : ℕ) (line : Line) → AllAllowed s w place (events s w line) → All EndsNothing (events s w line) ⊎ All LiesNothing (events s w line)
  either place (Write c block value) may = inr (tt, tt)
  either place (Read c block) may = inr (tt, tt)
  either place (Resend c) may = inr (tt, tt)
  either place (Call c i) may = inr (calls c i (w.task c))
  either place (Give i k) may = inr (gives_at i (slice_get w.pool k))
  either place (Hear c k) may = inr (hears_at c (slice_get w.pool k))
  either place (Lost c i) may = inr tt
  either place (CrashNode i) may = inr (tt, tt)
  either place (CrashClient c) may = inr (tt, tt)
  either place (Lie m) may = inl (tt, tt)
  either place (Tell m) may = let k = may.1.0.answers in inr ((k.1, k.2), (tt, tt))
  either place (Poke m) may = inl (tt, (tt, tt))
  either place (False c i rule) may = inr (falses rule c i (w.task c))
  either place (Sound c i block time value) may = inl (tt, (tt, tt))
  either place (Mix c i block time value other) may = inl (tt, (tt, tt))
  either place (Prune i block) may = inr (tt, tt)
  either place (Back c) may = inr (tt, tt)
  either place (Restart i) may = inr tt

-- where an operation ends at a line, what was lied then was lied before
pub lied_before : (s : Setting) → IsValid s → (w : World) → IsSafe s w → (place : ℕ) → w.place < place → (line : Line) → FitsLine s line → fault s w line ≡ None
    → (r : Record) (end : ℕ) → Contains (plays s w place line).records r → r.end ≡ Some end → (Contains w.records r → ⊥) → (block : ℕ) (stamp : Stamp) → HasLie s (plays s w place line) block stamp → HasLie s w block stamp
lied_before s good w safe place later line fits fine r end there ended new block stamp lie =
    let may = events_allowed s good w safe place later line fits (no_fault s w line fine) in
    elim (either s w place line may) [
      | inl none ↦ absurd (new (all_same s place (events s w line) w none r end there ended))
      | inr none ↦ all_none_new s good place block stamp (events s w line) w safe may none
          (record { message = lie.message; there = lie.there; lies = lie.lies; version = lie.version; asks = lie.asks; stamped = lie.stamped })
    ]
