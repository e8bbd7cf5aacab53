-- Each line lets at most one version be accepted.
use Rattle.std.proofs.Common.{◌≡◌, ℕ, ◌+◌, ◌≤◌, Bool, true, false, List, [], ◌∷◌, ◌++◌, length, Option, refl, ap, cond, arith}
use Rattle.std.specs.Prelude.{slice_get}
use Rattle.std.proofs.lemmas.List.{length-append}
use Rattle.std.specs.declared.option.Option.TheVariants.{None, Some}
use Rattle.wire_forms.specs.declared.Body.TheVariants.{Ask as Asks, Answer as Answers}
use Rattle.protocol.specs.Messages.{Reply, Body, Message}
use Rattle.protocol.specs.Count.{one_more}
use Rattle.protocol.specs.Setting.{Setting}
use Rattle.protocol.specs.Nodes.{accepts}
use Rattle.protocol.specs.Operations.{is_counted, Task, Decision, decide, counted}
use Rattle.protocol.specs.Operations.Decision.{GoesOn, Ends}
use Rattle.stamp_order.specs.declared.Stamp.{Stamp}
use Rattle.protocol.specs.World.{World, Event, Accepted, accepted_at, happens, all_happen, only_place, heard, heard_by, advanced, decided, resent_by, given, pruned_at, greatest_given}
use Rattle.protocol.specs.World.Event.{Start, Resend as Resends, Give as Gives, Hear as Hears, CrashNode as NodeCrashes, CrashClient as ClientCrashes, Lie as Lies, Prune as Prunes, Back as ComesBack}
use Rattle.protocol.specs.Lines.{Line, Run, events, plays, called, told, falsely_told, given_at, heard_at, false_answer}
use Rattle.run_words.specs.declared.line.Line.TheVariants.{Write, Read, Resend, Call, Give, Hear, Lost, CrashNode, CrashClient, Lie, Tell, Poke, False, Sound, Mix, Prune, Back, Restart}

one_more-length : {A : Type 0} (xs : List A) (x : Option A) → length (one_more xs x) ≤ length xs + 1
one_more-length xs None = omega arith
one_more-length xs (Some x) = let e : length (xs ++ x ∷ []) ≡ length xs + 1 = length-append xs (x ∷ []) in omega (arith, e)

-- how many asks an event gives to a node
abbrev given_by : Event → ℕ
given_by (Gives i m) = 1
given_by _ = 0

abbrev given_by_all : List Event → ℕ
given_by_all [] = 0
given_by_all (e ∷ es) = given_by e + given_by_all es

module _ (s : Setting) (place : ℕ) where
  either : (xs : List Accepted) (b : Bool) (x y : World) → x.accepted ≡ xs → y.accepted ≡ xs → (cond b x y).accepted ≡ xs
  either xs true x y e f = e
  either xs false x y e f = f

  module _ (w : World) where
    decided_accepts : (c : ℕ) (task : Task) (d : Decision) → (decided s w place c task d).accepted ≡ w.accepted
    decided_accepts c task (GoesOn stage) = refl
    decided_accepts c task (Ends outcome) = refl

    heard_by_accepts : (c : ℕ) (m : Message) (reply : Reply) (task : Option Task) → (heard_by s w place c task m reply).accepted ≡ w.accepted
    heard_by_accepts c m reply None = refl
    heard_by_accepts c m reply (Some task) =
        either w.accepted (is_counted s task m.node m.tag reply) (advanced s w place c (counted task m.node reply)) (only_place s w place)
        (either w.accepted _ _ _ refl (decided_accepts c (counted task m.node reply) (decide s c (counted task m.node reply) task.stage)))
        refl

    heard_accepts : (c : ℕ) (m : Message) (body : Body) → (heard s w place c m body).accepted ≡ w.accepted
    heard_accepts c m (Asks ask) = refl
    heard_accepts c m (Answers reply) = heard_by_accepts c m reply (w.task c)

    given_accepts : (i : ℕ) (m : Message) (body : Body) → length (given s w place i m body).accepted ≤ length w.accepted + 1
    given_accepts i m (Asks ask) = one_more-length w.accepted (accepted_at s i ask.block (accepts s i (w.versions i ask.block) ask))
    given_accepts i m (Answers reply) = omega arith

    resent_accepts : (c : ℕ) (task : Option Task) → (resent_by s w place c task).accepted ≡ w.accepted
    resent_accepts c None = refl
    resent_accepts c (Some task) = refl

    pruned_accepts : (i block : ℕ) (stamp : Option Stamp) → (pruned_at s w place i block stamp).accepted ≡ w.accepted
    pruned_accepts i block None = refl
    pruned_accepts i block (Some stamp) = refl

    same : (v : World) → v.accepted ≡ w.accepted → length v.accepted ≤ length w.accepted + 0
    same v e = let l : length v.accepted ≡ length w.accepted = ap (λ (xs : List Accepted). length xs) e in omega (arith, l)

    event_accepts : (e : Event) → length (happens s w place e).accepted ≤ length w.accepted + given_by e
    event_accepts (Start c block work) = omega arith
    event_accepts (Resends c) = same (resent_by s w place c (w.task c)) (resent_accepts c (w.task c))
    event_accepts (Gives i m) = given_accepts i m m.body
    event_accepts (Hears c m) = same (heard s w place c m m.body) (heard_accepts c m m.body)
    event_accepts (NodeCrashes i) = omega arith
    event_accepts (ClientCrashes c) = omega arith
    event_accepts (Lies m) = omega arith
    event_accepts (Prunes i block) = same (pruned_at s w place i block (greatest_given block w.records)) (pruned_accepts i block (greatest_given block w.records))
    event_accepts (ComesBack c) = omega arith

  events_accept : (es : List Event) (w : World) → length (all_happen s w place es).accepted ≤ length w.accepted + given_by_all es
  events_accept [] w = omega arith
  events_accept (e ∷ es) w =
      let first = event_accepts w e in
      let rest = events_accept es (happens s w place e) in
      omega (arith, first, rest)

module _ (s : Setting) (w : World) where
  called_once : (c i : ℕ) (task : Option Task) → given_by_all (called s w c i task) ≤ 1
  called_once c i None = omega arith
  called_once c i (Some task) = omega arith

  told_never : (c : ℕ) (m : Option Message) → given_by_all (told s w c m) ≤ 1
  told_never c None = omega arith
  told_never c (Some m) = omega arith

  falsely_never : (c i : ℕ) (task : Option Task) (rule : _) → given_by_all (falsely_told s w rule c i task) ≤ 1
  falsely_never c i None rule = omega arith
  falsely_never c i (Some task) rule = told_never c (false_answer s rule c i task)

  given_once : (i : ℕ) (m : Option Message) → given_by_all (given_at s w i m) ≤ 1
  given_once i None = omega arith
  given_once i (Some m) = omega arith

  heard_never : (c : ℕ) (m : Option Message) → given_by_all (heard_at s w c m) ≤ 1
  heard_never c None = omega arith
  heard_never c (Some m) = omega arith

  line_gives_once : (line : Line) → given_by_all (events s w line) ≤ 1
  line_gives_once (Write c block value) = omega arith
  line_gives_once (Read c block) = omega arith
  line_gives_once (Resend c) = omega arith
  line_gives_once (Call c i) = called_once c i (w.task c)
  line_gives_once (Give i k) = given_once i (slice_get w.pool k)
  line_gives_once (Hear c k) = heard_never c (slice_get w.pool k)
  line_gives_once (Lost c i) = omega arith
  line_gives_once (CrashNode i) = omega arith
  line_gives_once (CrashClient c) = omega arith
  line_gives_once (Lie m) = omega arith
  line_gives_once (Tell m) = omega arith
  line_gives_once (Poke m) = omega arith
  line_gives_once (False c i rule) = falsely_never c i (w.task c) rule
  line_gives_once (Sound c i block time value) = omega arith
  line_gives_once (Mix c i block time value other) = omega arith
  line_gives_once (Prune i block) = omega arith
  line_gives_once (Back c) = omega arith
  line_gives_once (Restart i) = omega arith

  line_accepts_once : (place : ℕ) (line : Line) → length (plays s w place line).accepted ≤ length w.accepted + 1
  line_accepts_once place line =
      let all = events_accept s place (events s w line) w in
      let once = line_gives_once line in
      omega (arith, all, once)

-- no more is accepted than there are places
pub accepted_few : (s : Setting) (ls : List (ℕ × Line)) (w last : World) → Run s w ls last → length w.accepted ≤ w.place → length last.accepted ≤ last.place
accepted_few s [] w last run few = rw run few
accepted_few s (l ∷ ls) w last run few =
    let once = line_accepts_once s w l.0 l.1 in
    let later = run.0 in
    accepted_few s ls (plays s w l.0 l.1) last run.3 (omega (arith, once, later, few))
