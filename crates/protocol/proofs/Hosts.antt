-- Each answer of an honest node was made from an ask, and tells only what the node accepted.
use Rattle.std.proofs.Common.{◌≡◌, ◌⊎◌, ℕ, zero, suc, ◌+◌, ◌<◌, ◌≤◌, Bool, true, false, cond, List, [], ◌∷◌, ◌++◌, length, Option, refl, sym, ◌∙◌, ap, inl, inr, arith, ltb}
use Rattle.std.specs.Prelude.{slice_get}
use Rattle.std.specs.declared.option.Option.TheVariants.{None, Some}
use Rattle.std.specs.List.{Contains}
use Rattle.stamp_order.specs.declared.Stamp.{Stamp}
use Rattle.stamp_order.specs.declared.Bound.{Bound}
use Rattle.protocol.specs.Messages.{Version, Ask, Reason, Reply, Request, Body, Message}
use Rattle.wire_forms.specs.declared.Request.TheVariants.{Time, Read, Write}
use Rattle.wire_forms.specs.declared.Reason.TheVariants.{BadBlock}
use Rattle.wire_forms.specs.declared.Reply.TheVariants.{TimeIs, Found, Nothing, Ack, Refused}
use Rattle.wire_forms.specs.declared.Body.TheVariants.{Ask as Asks, Answer as Answers}
use Rattle.protocol.specs.Setting.{Setting, IsValid, first_stamp}
use Rattle.protocol.specs.Nodes.{greatest_in, greatest_time, found, acknowledged, refusal, reply, reply_in}
use Rattle.protocol.specs.Operations.{Task, mail, goes_on}
use Rattle.protocol.specs.World.{World, Event, happens, Allowed, IsAskTo, IsAnswerTo, given, handled, heard, pruned_at, greatest_given, IsOfLiar, only_place, start_world}
use Rattle.protocol.specs.World.Event.{Start, Resend, Give, Hear, CrashNode, CrashClient, Lie, Prune, Back}
use Rattle.protocol.specs.Facts.{HasAccepted, IsGrounded, IsHosted}
use Rattle.protocol.proofs.lemmas.Lists.{append_nil}
use Rattle.protocol.proofs.lemmas.Tests.{is_ltb}
use Rattle.protocol.proofs.lemmas.Keeping.{time_of_one, greatest_in_is}
use Rattle.protocol.proofs.Mails.{in_mail, mail_answers}
use Rattle.protocol.proofs.Invariant.{IsSafe, IsStored}
use Rattle.protocol.proofs.Giving.{accepted_more, wrote_there}
use Rattle.protocol.proofs.Heard.{filled, heard_case}
use Rattle.lists.proofs.lemmas.Members.{Contains-none, Contains-one, slice_get-append_left, Contains-slice_get}

pub get_cases : {X : Type 0} (xs ys : List X) (k : ℕ) (x : X) → slice_get (xs ++ ys) k ≡ Some x → (slice_get xs k ≡ Some x) ⊎ ((length xs ≤ k) × Contains ys x)
get_cases [] ys k x h = inr (omega arith, Contains-slice_get ys k x h)
get_cases (y ∷ xs) ys zero x h = inl h
get_cases (y ∷ xs) ys (suc k) x h = elim (get_cases xs ys k x h) [ inl l ↦ inl l | inr r ↦ inr (omega (arith, r.0), r.1) ]

pub get_below : {X : Type 0} (xs : List X) (x : X) → Contains xs x → (k : ℕ) × (k < length xs) × (slice_get xs k ≡ Some x)
get_below [] x h = absurd (Contains-none x h)
get_below (y ∷ xs) x (zero, l, e) = (0, l, ap Some e)
get_below (y ∷ xs) x (suc k, l, e) = let r = get_below xs x (k, omega (arith, l), e) in (suc r.0, omega (arith, r.1), r.2)

module _ (s : Setting) (from : ℕ) (P : ℕ → Ask → Reply → Type 0) where
  -- message k was made from an ask, and P holds of the node, the ask and its reply
  abbrev pub IsMade : World → ℕ → Message → Reply → Type 0
  IsMade w k m told = (h : IsHosted s w k m told) × P m.node h.ask told

  -- each answer of an honest node in the pool, from a number on, was made so
  abbrev pub AreHosted : World → Type 0
  AreHosted w = (k : ℕ) (m : Message) (told : Reply) → from ≤ k → slice_get w.pool k ≡ Some m → m.body ≡ Answers told → s.lying_node m.node ≡ false → IsMade w k m told

  module _ (w v : World) (i : ℕ) (ask : Ask) (more : (stamp : Stamp) → HasAccepted s w i ask.block stamp → HasAccepted s v i ask.block stamp) where
    grounded_more : (told : Reply) → IsGrounded s w i ask told → IsGrounded s v i ask told
    grounded_more (TimeIs time) h = (h.0, h.1, more h.1 h.2, h.3)
    grounded_more (Found u) h = (h.0, h.1, h.2, more u.stamp h.3)
    grounded_more Nothing h = h
    grounded_more Ack h = (h.0, h.1, more h.0.stamp h.2)
    grounded_more (Refused reason) h = tt

  module _ (w v : World) (fresh : List Message) (pool : v.pool ≡ w.pool ++ fresh) (more : (i block : ℕ) (stamp : Stamp) → HasAccepted s w i block stamp → HasAccepted s v i block stamp) where
    pub still_made : (k : ℕ) (m : Message) (told : Reply) → IsMade w k m told → IsMade v k m told
    still_made k m told (h, p) = (
      record {
        asked = h.asked;
        earlier = h.earlier;
        message = h.message;
        there = rw pool (slice_get-append_left w.pool fresh h.asked h.message h.there);
        client = h.client;
        node = h.node;
        tag = h.tag;
        ask = h.ask;
        asks = h.asks;
        grounded = grounded_more w v m.node h.ask (more m.node h.ask.block) told h.grounded;
      },
      p,
    )

  -- the pool grows by what no honest node answers, and what was accepted stays so
  module _ (w : World) (hosted : AreHosted w) (v : World) (fresh : List Message) (pool : v.pool ≡ w.pool ++ fresh)
      (more : (i block : ℕ) (stamp : Stamp) → HasAccepted s w i block stamp → HasAccepted s v i block stamp) where
    grown : ((m : Message) (told : Reply) → Contains fresh m → m.body ≡ Answers told → s.lying_node m.node ≡ false → ⊥) → AreHosted v
    grown none k m told late e body honest = elim (get_cases w.pool fresh k m (rw pool at e)) [
      | inl h ↦ still_made w v fresh pool more k m told (hosted k m told late h body honest)
      | inr h ↦ absurd (none m told h.1 body honest)
    ]

  pub unsaid : (w : World) → AreHosted w → (v : World) → v.pool ≡ w.pool → v.accepted ≡ w.accepted → AreHosted v
  unsaid w hosted v pool acc = grown w hosted v [] (pool ∙ append_nil w.pool) (λ i block stamp a. (rw acc a)) (λ x told k body honest. Contains-none x k)

  module _ (good : IsValid s) (w : World) (safe : IsSafe s w) (hosted : AreHosted w)
      (news : (i : ℕ) → i < s.n → s.lying_node i ≡ false → (ask : Ask) → P i ask (reply s i (w.versions i ask.block) ask)) where
    mailed : (v : World) (c : ℕ) (task : Task) → v.pool ≡ w.pool ++ mail s c task → v.accepted ≡ w.accepted → AreHosted v
    mailed v c task pool acc = grown w hosted v (mail s c task) pool (λ i block stamp a. (rw acc a)) (λ m told h body honest. let r = in_mail s c task m h in mail_answers s c task m r.0 told r.2 body)

    module _ (place : ℕ) (later : w.place ≤ place) where
      -- a node's own answer
      module _ (i : ℕ) (inside : i < s.n) (upright : s.lying_node i ≡ false) (m : Message) (there : Contains w.pool m) (to_i : m.node ≡ i) (ask : Ask) (asks : m.body ≡ Asks ask) where
        abbrev after : World
        after = handled s w place i m ask

        vs : List Version
        vs = w.versions i ask.block

        stored : IsStored s w i ask.block
        stored = safe.stored i ask.block inside upright

        grows : (j block : ℕ) (stamp : Stamp) → HasAccepted s w j block stamp → HasAccepted s after j block stamp
        grows = accepted_more s w safe place later i inside upright m there to_i ask asks

        found_grounded : (bound : Bound) → ask.request ≡ Read bound → (o : Option Version) → greatest_in bound (w.versions i ask.block) ≡ o → IsGrounded s after i ask (found o)
        found_grounded bound a None e = (bound, a)
        found_grounded bound a (Some u) e = let g = greatest_in_is bound (w.versions i ask.block) u e in (bound, a, g.1, grows i ask.block u.stamp (stored.kept u g.0))

        time_grounded : ask.request ≡ Time → IsGrounded s after i ask (TimeIs (greatest_time (w.versions i ask.block)))
        time_grounded a = elim (time_of_one (w.versions i ask.block)) [
          | inl e ↦ (a, first_stamp s, inl refl, e)
          | inr h ↦ (a, h.0.stamp, grows i ask.block h.0.stamp (stored.kept h.0 h.1), h.2)
        ]

        write_grounded : (u : Version) → ask.request ≡ Write u → ask.block < s.blocks → (o : Option Reason) → refusal s i u ≡ o → IsGrounded s after i ask (acknowledged o)
        write_grounded u e l None f = (u, e, wrote_there s w safe place later i inside upright m there to_i ask asks u e l f)
        write_grounded u e l (Some reason) f = tt

        in_range : (request : Request) → ask.request ≡ request → ask.block < s.blocks → IsGrounded s after i ask (reply_in s i (w.versions i ask.block) request)
        in_range Time e l = time_grounded e
        in_range (Read bound) e l = found_grounded bound e (greatest_in bound (w.versions i ask.block)) refl
        in_range (Write u) e l = write_grounded u e l (refusal s i u) refl

        reply_grounded : IsGrounded s after i ask (reply s i (w.versions i ask.block) ask)
        reply_grounded = at (ltb ask.block s.blocks) refl
          where
            at : (b : Bool) → ltb ask.block s.blocks ≡ b → IsGrounded s after i ask (cond b (reply_in s i (w.versions i ask.block) ask.request) (Refused BadBlock))
            at true e = in_range ask.request refl (is_ltb ask.block s.blocks e)
            at false e = tt

        own : (k : ℕ) → length w.pool ≤ k → (x : Message) (told : Reply) → x ≡ Rattle.protocol.specs.World.answer_of s w i m ask → x.body ≡ Answers told → IsMade after k x told
        own k past x told e body =
            let g = get_below w.pool m there in
            let said : reply s i (w.versions i ask.block) ask ≡ told = (let b : x.body ≡ Answers (reply s i (w.versions i ask.block) ask) = ap (λ (y : Message). y.body) e in cc) in
            let node_is : x.node ≡ i = ap (λ (y : Message). y.node) e in (
              record {
                asked = g.0;
                earlier = omega (arith, g.1, past);
                message = m;
                there = slice_get-append_left w.pool _ g.0 m g.2;
                client = sym (ap (λ (y : Message). y.client) e);
                node = to_i ∙ sym node_is;
                tag = sym (ap (λ (y : Message). y.tag) e);
                ask = ask;
                asks = asks;
                grounded = rw (node_is, ← said) reply_grounded;
              },
              rw (node_is, ← said) (news i inside upright ask),
            )

        pub handled_hosted : AreHosted after
        handled_hosted k x told late e body honest = elim (get_cases w.pool (Rattle.protocol.specs.World.answer_of s w i m ask ∷ []) k x e) [
          | inl h ↦ still_made w after (Rattle.protocol.specs.World.answer_of s w i m ask ∷ []) refl grows k x told (hosted k x told late h body honest)
          | inr h ↦ own k h.0 x told (Contains-one x _ h.1) body
        ]

      gives : (i : ℕ) → i < s.n → s.lying_node i ≡ false → (m : Message) → Contains w.pool m → IsAskTo s i m → AreHosted (given s w place i m m.body)
      gives i l h m there asks = rw asks.2 (handled_hosted i l h m there asks.0 asks.1 asks.2)

      hears : (c : ℕ) (m : Message) → Contains w.pool m → w.client_crashed c ≡ false → IsAnswerTo s c m → AreHosted (heard s w place c m m.body)
      hears c m there up h =
          heard_case s good w safe place later c (λ (v : World). AreHosted v)
          (unsaid w hosted (only_place s w place) refl refl)
          (λ task answers busy sent. grown w hosted _ [] refl (λ i block stamp a. a) (λ x told k body honest. Contains-none x k))
          (λ task answers busy sent enough stage e. mailed _ c (goes_on (filled task answers) stage) refl refl)
          (λ task answers busy sent enough outcome e. grown w hosted _ [] refl (λ i block stamp a. a) (λ x told k body honest. Contains-none x k))
          m there up h

      prunes : (i block : ℕ) (by : Stamp) → greatest_given block w.records ≡ Some by → AreHosted (pruned_at s w place i block (greatest_given block w.records))
      prunes i block by e = rw e (unsaid w hosted _ refl refl)

      resends : (c : ℕ) (task : Task) → w.task c ≡ Some task → AreHosted (happens s w place (Resend c))
      resends c task busy = rw busy (mailed _ c task refl refl)

    not_lie : (m : Message) (body : Body) → m.body ≡ body → IsOfLiar s body m → (x : Message) (told : Reply) → Contains (m ∷ []) x → x.body ≡ Answers told → s.lying_node x.node ≡ false → ⊥
    not_lie m (Asks ask) e liar x told h body honest = let q = Contains-one x m h in let b : x.body ≡ m.body = ap (λ (y : Message). y.body) q in cc
    not_lie m (Answers other) e liar x told h body honest = let q = Contains-one x m h in let b : x.node ≡ m.node = ap (λ (y : Message). y.node) q in cc

    pub happens_hosted : (place : ℕ) (e : Event) → Allowed s w place e → AreHosted (happens s w place e)
    happens_hosted place (Start c block work) h = mailed _ c (Rattle.protocol.specs.Operations.begun (Rattle.protocol.specs.World.last_op w c + 1) block work place) refl refl
    happens_hosted place (Resend c) h = resends place h.later c h.task h.busy
    happens_hosted place (Give i m) h = gives place h.later i h.node h.honest m h.sent h.asks
    happens_hosted place (Hear c m) h = hears place h.later c m h.sent h.up h.answers
    happens_hosted place (CrashNode i) h = unsaid w hosted _ refl refl
    happens_hosted place (CrashClient c) h = unsaid w hosted _ refl refl
    happens_hosted place (Lie m) h = grown w hosted _ (m ∷ []) refl (λ i block stamp a. a) (not_lie m m.body refl h.3)
    happens_hosted place (Prune i block) h = prunes place h.later i block h.stamp h.given
    happens_hosted place (Back c) h = unsaid w hosted _ refl refl

  pub start_hosted : AreHosted (start_world s)
  start_hosted k m told late e = absurd (cc)
