-- A node's answer keeps what holds in every world.
use Rattle.std.proofs.Common.{◌≡◌, ◌⊎◌, ℕ, ◌<◌, ◌≤◌, Bool, true, false, cond, List, [], ◌∷◌, Option, refl, sym, ◌∙◌, ap, inl, inr, arith, ltb}
use Rattle.std.specs.declared.option.Option.TheVariants.{None, Some}
use Rattle.std.specs.List.{Contains}
use Rattle.std.proofs.lemmas.Bool.Decides.{nat_tests}
use Rattle.std.proofs.lemmas.List.Elements.{Contains-append_cases, Contains-append_left}
use Rattle.protocol.specs.Count.{update, one_more}
use Rattle.stamp_order.specs.declared.Stamp.{Stamp}
use Rattle.stamp_order.specs.declared.Bound.{Bound}
use Rattle.stamp_order.specs.Stamps.{has}
use Rattle.protocol.specs.Messages.{IsFormed, IsFormedRequest, IsFormedReply, Version, Ask, Reason, Reply, Request, Message}
use Rattle.wire_forms.specs.declared.Request.TheVariants.{Time, Read, Write}
use Rattle.wire_forms.specs.declared.Reply.TheVariants.{TimeIs, Found, Nothing, Ack, Refused}
use Rattle.wire_forms.specs.declared.Body.TheVariants.{Ask as Asks, Answer as Answers}
use Rattle.protocol.specs.Setting.{Setting, first_stamp}
use Rattle.protocol.specs.Nodes.{greatest_in, greatest_time, keeps, found, acknowledged, added, refusal, accepts, reply_in}
use Rattle.protocol.specs.Nodes as node
use Rattle.protocol.specs.Operations.{Task, Work, Stage, request_of}
use Rattle.protocol.specs.Operations.Work.{Reads, Writes}
use Rattle.protocol.specs.Operations.Stage.{Times, Versions, Storing}
use Rattle.protocol.specs.World.{Record, World, Accepted, handled, accepted_at, answer_of, under_way}
use Rattle.protocol.specs.History.{NoClash, IsValue}
use Rattle.protocol.specs.History.IsValue.{zeros_value, written, given}
use Rattle.protocol.proofs.lemmas.Counting.{update-cases, update-same}
use Rattle.protocol.proofs.lemmas.Lists.{one_more_cases, one_more_left, one_more_new}
use Rattle.protocol.proofs.lemmas.Order.{≼-refl, ≼-trans, ≼-time}
use Rattle.protocol.proofs.lemmas.Strings.{NoClash-before, NoClashFor-before}
use Rattle.protocol.proofs.lemmas.Keeping.{time_at_least, time_of_one, keeps-Contains, keeps-append, greatest_in_is, greatest_in_above, accepts_is, whole_if_taken, kept_or_added, keeps_is, has-down}
use Rattle.protocol.proofs.Invariant.{AtWork, IsOwned, IsTagged, Quorum, IsTask, IsStage, IsRecord, IsSafe, IsFresh, Fits, Accepts, IsStored, IsCoveredBy, IsPassed}
use Rattle.lists.proofs.lemmas.Members.{Contains-one}

-- what an honest node answers
module _ (s : Setting) (w : World) (i block : ℕ) (stored : IsStored s w i block) where
  abbrev vs : List Version
  vs = w.versions i block

  fits_time : Fits s w i block Times (TimeIs (greatest_time vs))
  fits_time = elim (time_of_one vs) [ inl e ↦ (first_stamp s, inl refl, e) | inr h ↦ (h.0.stamp, stored.kept h.0 h.1, h.2) ]

  fits_read : (bound : Bound) → has bound (first_stamp s) ≡ true → Fits s w i block (Versions bound) (found (greatest_in bound vs))
  fits_read bound h =
      let g = greatest_in_above bound vs (first_stamp s) h stored.first in
      let r = greatest_in_is bound vs g.0 g.1 in
      rw g.1 (rw (r.1, stored.whole g.0 r.0) refl, stored.kept g.0 r.0)

  fresh_time : (stamp : Stamp) → Accepts s w i block stamp → stamp.time ≤ greatest_time vs
  fresh_time stamp k =
      let c = stored.covered stamp k in
      omega (arith, ≼-time stamp c.version.stamp c.above, time_at_least vs c.version.stamp (keeps-Contains vs c.version c.there))

  module _ (client : ℕ) (task : Task) (busy : under_way w client ≡ Some task) (here : task.block ≡ block) where
    fresh_read : (bound : Bound) (stamp : Stamp) → Accepts s w i block stamp → (o : Option Version) → greatest_in bound vs ≡ o → IsFresh s w block task.start stamp (Versions bound) (found o)
    fresh_read bound stamp k None e = tt
    fresh_read bound stamp k (Some v) e = λ h wide.
        let c = stored.covered stamp k in
        let inside : has bound c.version.stamp ≡ true =
        elim c.how [ inl q ↦ rw q h | inr p ↦ has-down bound p.reached c.version.stamp p.up_to_it (wide p.past p.end p.reached p.there p.of_block p.ended p.stamped (p.before_all client task busy here)) ] in
        let g = greatest_in_above bound vs c.version.stamp inside (keeps-Contains vs c.version c.there) in
        let q : g.0 ≡ v = (let z = g.1 in cc) in
        ≼-trans stamp c.version.stamp v.stamp c.above (rw q at g.2)

    fresh_in : (stage : Stage) (stamp : Stamp) → Accepts s w i block stamp → IsFresh s w block task.start stamp stage (reply_in s i vs (request_of s stage i))
    fresh_in Times stamp k = fresh_time stamp k
    fresh_in (Versions bound) stamp k = fresh_read bound stamp k (greatest_in bound vs) refl
    fresh_in (Storing chosen value) stamp k = tt

module _ (s : Setting) (w v : World) (i block : ℕ) where
  pub Fits-more : ((stamp : Stamp) → Accepts s w i block stamp → Accepts s v i block stamp) → (stage : Stage) (reply : Reply) → Fits s w i block stage reply → Fits s v i block stage reply
  Fits-more more Times (TimeIs time) h = (h.0, more h.0 h.1, h.2)
  Fits-more more Times (Found u) h = tt
  Fits-more more Times Nothing h = tt
  Fits-more more Times Ack h = tt
  Fits-more more Times (Refused reason) h = tt
  Fits-more more (Versions bound) (Found u) h = (h.0, more u.stamp h.1)
  Fits-more more (Versions bound) (TimeIs time) h = absurd h
  Fits-more more (Versions bound) Nothing h = absurd h
  Fits-more more (Versions bound) Ack h = absurd h
  Fits-more more (Versions bound) (Refused reason) h = absurd h
  Fits-more more (Storing stamp value) Ack h = more stamp h
  Fits-more more (Storing stamp value) (TimeIs time) h = tt
  Fits-more more (Storing stamp value) (Found u) h = tt
  Fits-more more (Storing stamp value) Nothing h = tt
  Fits-more more (Storing stamp value) (Refused reason) h = tt

module _ (s : Setting) (i : ℕ) (vs : List Version) where
  pub reply_inside : (ask : Ask) → ask.block < s.blocks → node.reply s i vs ask ≡ reply_in s i vs ask.request
  reply_inside ask l = let t : ltb ask.block s.blocks ≡ true = grind (arith, nat_tests) in rw t refl

  accepts_inside : (ask : Ask) (u : Version) → ask.block < s.blocks → ask.request ≡ Write u → accepts s i vs ask ≡ added (refusal s i u) vs u
  accepts_inside ask u l e = let t : ltb ask.block s.blocks ≡ true = grind (arith, nat_tests) in rw (t, e) refl

module _ (s : Setting) (w : World) (safe : IsSafe s w) (place : ℕ) (later : w.place ≤ place) (i : ℕ) (inside : i < s.n) (upright : s.lying_node i ≡ false)
    (m : Message) (there : Contains w.pool m) (to_i : m.node ≡ i) (ask : Ask) (asks : m.body ≡ Asks ask) where
  abbrev old : List Version
  old = w.versions i ask.block

  abbrev answer : Message
  answer = answer_of s w i m ask

  abbrev after : World
  after = handled s w place i m ask

  pool_cases : (x : Message) → Contains after.pool x → Contains w.pool x ⊎ (x ≡ answer)
  pool_cases x h = elim (Contains-append_cases w.pool (answer ∷ []) x h) [ inl k ↦ inl k | inr k ↦ inr (Contains-one x answer k) ]

  pub versions_cases : (j b : ℕ) → (after.versions j b ≡ w.versions j b) ⊎ ((j ≡ i) × (b ≡ ask.block) × (after.versions j b ≡ node.after s i old ask))
  versions_cases j b =
      let blocks : ℕ → List Version = update (w.versions i) ask.block (node.after s i old ask) in
      elim (update-cases w.versions i blocks j) [
        | inl e ↦ elim (update-cases (w.versions i) ask.block (node.after s i old ask) b) [
          | inl f ↦ inr (e.0, f.0, ap (λ (g : ℕ → List Version). g b) e.1 ∙ f.1)
          | inr f ↦ inl (ap (λ (g : ℕ → List Version). g b) e.1 ∙ f.1 ∙ ap (λ (j : ℕ). w.versions j b) (sym e.0))
        ]
        | inr e ↦ inl (ap (λ (g : ℕ → List Version). g b) e.1)
      ]

  -- what was accepted stays so
  pub accepted_more : (j b : ℕ) (stamp : Stamp) → Accepts s w j b stamp → Accepts s after j b stamp
  accepted_more j b stamp (inl e) = inl e
  accepted_more j b stamp (inr h) = inr (one_more_left w.accepted (accepted_at s i ask.block (accepts s i old ask)) _ h)

  at_is : (o : Option Version) (a : Accepted) → accepted_at s i ask.block o ≡ Some a → (u : Version) × (o ≡ Some u) × (a ≡ record { node = i; block = ask.block; stamp = u.stamp })
  at_is None a e = absurd (cc)
  at_is (Some u) a e = (u, refl, (let q : record { node = i; block = ask.block; stamp = u.stamp } ≡ a = cc in sym q))

  pub accepted_cases : (j b : ℕ) (stamp : Stamp) → Accepts s after j b stamp → Accepts s w j b stamp ⊎ ((u : Version) × (accepts s i old ask ≡ Some u) × (j ≡ i) × (b ≡ ask.block) × (stamp ≡ u.stamp))
  accepted_cases j b stamp (inl e) = inl (inl e)
  accepted_cases j b stamp (inr h) =
      elim (one_more_cases w.accepted (accepted_at s i ask.block (accepts s i old ask)) _ h) [
        | inl k ↦ inl (inr k)
        | inr e ↦ (let r = at_is (accepts s i old ask) _ e in
            inr (r.0, r.1, ap (λ (y : Accepted). y.node) r.2, ap (λ (y : Accepted). y.block) r.2, ap (λ (y : Accepted). y.stamp) r.2))
      ]

  new_accepted : (u : Version) → accepts s i old ask ≡ Some u → Accepts s after i ask.block u.stamp
  new_accepted u e = inr (one_more_new w.accepted (accepted_at s i ask.block (accepts s i old ask)) _ (rw e refl))

  passed_after : (b : ℕ) (stamp : Stamp) → IsPassed s w b stamp → IsPassed s after b stamp
  passed_after b stamp p = record {
    past = p.past;
    there = p.there;
    of_block = p.of_block;
    end = p.end;
    ended = p.ended;
    reached = p.reached;
    stamped = p.stamped;
    up_to_it = p.up_to_it;
    before_all = p.before_all;
  }

  keeps-one_more : (vs : List Version) (o : Option Version) (stamp : Stamp) → keeps vs stamp ≡ true → keeps (one_more vs o) stamp ≡ true
  keeps-one_more us None stamp h = h
  keeps-one_more us (Some u) stamp h = keeps-append us (u ∷ []) stamp h

  first_after : (j b : ℕ) → IsStored s w j b → keeps (after.versions j b) (first_stamp s) ≡ true
  first_after j b h = elim (versions_cases j b) [
    | inl e ↦ rw e h.first
    | inr e ↦ rw e.2 (keeps-one_more old (accepts s i old ask) (first_stamp s) (let k = h.first in rw (e.0, e.1) at k))
  ]

  -- a version that is kept now was kept before, or is the new one
  kept_cases : (j b : ℕ) (u : Version) → Contains (after.versions j b) u → Contains (w.versions j b) u ⊎ ((j ≡ i) × (b ≡ ask.block) × (accepts s i old ask ≡ Some u))
  kept_cases j b u h = elim (versions_cases j b) [
    | inl e ↦ inl (rw e at h)
    | inr e ↦ elim (one_more_cases old (accepts s i old ask) u (rw e.2 at h)) [ inl k ↦ inl (rw (e.0, e.1) k) | inr k ↦ inr (e.0, e.1, k) ]
  ]

  kept_still : (j b : ℕ) (u : Version) → Contains (w.versions j b) u → Contains (after.versions j b) u
  kept_still j b u h = elim (versions_cases j b) [
    | inl e ↦ rw e h
    | inr e ↦ rw e.2 (one_more_left old (accepts s i old ask) u (rw (e.0, e.1) at h))
  ]

  at_ask : after.versions i ask.block ≡ node.after s i old ask
  at_ask =
      let blocks : ℕ → List Version = update (w.versions i) ask.block (node.after s i old ask) in
      ap (λ (g : ℕ → List Version). g ask.block) (update-same w.versions i blocks) ∙ update-same (w.versions i) ask.block (node.after s i old ask)

  new_kept : (u : Version) → accepts s i old ask ≡ Some u → Contains (after.versions i ask.block) u
  new_kept u e = rw at_ask (one_more_new old (accepts s i old ask) u e)

  -- what was accepted is still covered, and what is accepted now is kept
  pub covered_after : (P Q : Stamp → Type 0) → ((t : Stamp) → P t → Q t) → (j b : ℕ) (stamp : Stamp) → ((t : Stamp) → Accepts s w j b t → IsCoveredBy s P w j b t) → Accepts s after j b stamp → IsCoveredBy s Q after j b stamp
  covered_after P Q map j b stamp h k = elim (accepted_cases j b stamp k) [
    | inl q ↦ (let c = h stamp q in
        record { version = c.version; there = kept_still j b c.version c.there; above = c.above; how = elim c.how [ inl e ↦ inl e | inr p ↦ inr (map c.version.stamp p) ] })
    | inr q ↦ record { version = q.0; there = rw (q.2, q.3) (new_kept q.0 q.1); above = rw q.4 (≼-refl q.0.stamp); how = inl (sym q.4) }
  ]

  -- what the ask writes is formed, and what the answer finds
  new_formed : (u : Version) → ask.request ≡ Write u → IsFormed u
  new_formed u e = let f = safe.formed m there in let g : IsFormedRequest ask.request = rw asks at f in rw e at g

  stored_after : (j b : ℕ) → j < s.n → s.lying_node j ≡ false → IsStored s after j b
  stored_after j b l honest =
      let h = safe.stored j b l honest in
      record {
        first = first_after j b h;
        whole = λ u k. elim (kept_cases j b u k) [ inl q ↦ h.whole u q | inr q ↦ rw q.0 (whole_if_taken s i u (accepts_is s i old ask u q.2).fine) ];
        formed = λ u k. elim (kept_cases j b u k) [ inl q ↦ h.formed u q | inr q ↦ new_formed u (accepts_is s i old ask u q.2).asked ];
        kept = λ u k. elim (kept_cases j b u k) [ inl q ↦ accepted_more j b u.stamp (h.kept u q) | inr q ↦ rw (q.0, q.1) (new_accepted u q.2) ];
        covered = λ stamp k. covered_after (IsPassed s w b) (IsPassed s after b) (passed_after b) j b stamp h.covered k;
      }

  asked_by : s.lying_client m.client ≡ false → (task : Task) → AtWork s w m task → (ask.block ≡ task.block) × (ask.request ≡ request_of s task.stage i)
  asked_by honest task at = let r = safe.asked m task ask there asks honest at in (r.0, (rw to_i at r.1))

  -- the ask is one for the block of the task, which there is
  in_range : s.lying_client m.client ≡ false → (task : Task) → AtWork s w m task → ask.block < s.blocks
  in_range honest task at = let t = safe.tasks m.client task at.client in let r = asked_by honest task at in omega (arith, t.block, r.0)

  says : s.lying_client m.client ≡ false → (task : Task) → AtWork s w m task → node.reply s i old ask ≡ reply_in s i old (request_of s task.stage i)
  says honest task at = reply_inside s i old ask (in_range honest task at) ∙ ap (reply_in s i old) (asked_by honest task at).1

  was_stored : IsStored s w i ask.block
  was_stored = safe.stored i ask.block inside upright

  fits_write : (u : Version) (value : List ℕ) → ask.block < s.blocks → ask.request ≡ Write u → (r : Option Reason) → refusal s i u ≡ r → Fits s after i ask.block (Storing u.stamp value) (acknowledged r)
  fits_write u value l e None f =
      elim (kept_or_added s i old u f) [
        | inl k ↦ (let x = keeps_is old u.stamp k in let a = was_stored.kept x.0 x.1 in accepted_more i ask.block u.stamp (rw x.2 at a))
        | inr k ↦ new_accepted u (accepts_inside s i old ask u l e ∙ k)
      ]
  fits_write u value l e (Some reason) f = tt

  -- what it doesn't refuse it has accepted
  pub wrote_there : (u : Version) → ask.request ≡ Write u → ask.block < s.blocks → refusal s i u ≡ None → Accepts s after i ask.block u.stamp
  wrote_there u e l f = fits_write u [] l e None f

  fits_in : (work : Work) (stage : Stage) → IsStage s work stage → ask.block < s.blocks → ask.request ≡ request_of s stage i → Fits s after i ask.block stage (reply_in s i old (request_of s stage i))
  fits_in work Times h l e = Fits-more s w after i ask.block (accepted_more i ask.block) Times (TimeIs (greatest_time old)) (fits_time s w i ask.block was_stored)
  fits_in Reads (Versions bound) h l e = Fits-more s w after i ask.block (accepted_more i ask.block) (Versions bound) (found (greatest_in bound old)) (fits_read s w i ask.block was_stored bound h)
  fits_in (Writes value) (Versions bound) h l e = absurd h
  fits_in work (Storing stamp value) h l e = fits_write (record { stamp = stamp; sum = s.sum_of value; fragment = s.fragment_of value i }) value l e _ refl

  fits_as : (a b : ℕ) (stage : Stage) (p q : Reply) → a ≡ b → p ≡ q → Fits s after i b stage q → Fits s after i a stage p
  fits_as a b stage p q e f h = rw (e, f) h

  new_fits : s.lying_client m.client ≡ false → (task : Task) → AtWork s w m task → Fits s after i task.block task.stage (node.reply s i old ask)
  new_fits honest task at =
      fits_as task.block ask.block task.stage _ _ (sym (asked_by honest task at).0) (says honest task at)
      (fits_in task.work task.stage (safe.tasks m.client task at.client).stage (in_range honest task at) (asked_by honest task at).1)

  -- the new answer belongs to what the ask belongs to
  of_ask : (x : Message) (task : Task) → x ≡ answer → AtWork s after x task → AtWork s w m task
  of_ask x task e at = record {
    client = rw (ap (λ (y : Message). y.client) e) at at.client;
    op = sym (ap (λ (y : Message). y.tag.op) e) ∙ at.op;
    phase = sym (ap (λ (y : Message). y.tag.phase) e) ∙ at.phase;
  }

  of_old : (x : Message) (task : Task) → AtWork s after x task → AtWork s w x task
  of_old x task at = record { client = at.client; op = at.op; phase = at.phase }

  honest_ask : (x : Message) → x ≡ answer → s.lying_client x.client ≡ false → s.lying_client m.client ≡ false
  honest_ask x e h = rw (ap (λ (y : Message). y.client) e) at h

  reply_is : (x : Message) (reply : Reply) → x ≡ answer → x.body ≡ Answers reply → reply ≡ node.reply s i old ask
  reply_is x reply e body = let b : x.body ≡ Answers (node.reply s i old ask) = ap (λ (y : Message). y.body) e in cc

  answered_after : (x : Message) (task : Task) (reply : Reply) → Contains after.pool x → x.body ≡ Answers reply → s.lying_client x.client ≡ false → x.node < s.n → s.lying_node x.node ≡ false
      → AtWork s after x task → Fits s after x.node task.block task.stage reply
  answered_after x task reply h body honest l straight at =
      elim (pool_cases x h) [
        | inl k ↦ Fits-more s w after x.node task.block (accepted_more x.node task.block) task.stage reply (safe.answered x task reply k body honest l straight (of_old x task at))
        | inr e ↦ (let n : x.node ≡ i = ap (λ (y : Message). y.node) e in
            rw (n, reply_is x reply e body) (new_fits (honest_ask x e honest) task (of_ask x task e at)))
      ]

  tagged_after : (x : Message) → Contains after.pool x → IsOwned s x.body x → s.lying_client x.client ≡ false → IsTagged s after x
  tagged_after x h owned honest =
      elim (pool_cases x h) [
        | inl k ↦ (let t = safe.tagged x k owned honest in record { begun = t.begun; phase = t.phase })
        | inr e ↦ (let t = safe.tagged m there (rw asks (honest_ask x e honest)) (honest_ask x e honest) in
            rw e (record { begun = t.begun; phase = t.phase }))
      ]

  asked_after : (x : Message) (task : Task) (a : Ask) → Contains after.pool x → x.body ≡ Asks a → s.lying_client x.client ≡ false → AtWork s after x task
      → (a.block ≡ task.block) × (a.request ≡ request_of s task.stage x.node)
  asked_after x task a h body honest at =
      elim (pool_cases x h) [
        | inl k ↦ safe.asked x task a k body honest (of_old x task at)
        | inr e ↦ absurd (let b : x.body ≡ Answers (node.reply s i old ask) = ap (λ (y : Message). y.body) e in cc)
      ]

  tasks_after : (d : ℕ) (task : Task) → under_way after d ≡ Some task → IsTask s after d task
  tasks_after d task e =
      let t = safe.tasks d task e in
      record {
        correct = t.correct;
        numbered = t.numbered;
        newest = t.newest;
        start = omega (arith, t.start);
        block = t.block;
        stage = t.stage;
        mailed = λ j l. Contains-append_left w.pool (answer ∷ []) _ (t.mailed j l);
        heard = λ j reply f. let h = t.heard j reply f in (Contains-append_left w.pool (answer ∷ []) _ h.0, h.1);
      }

  fresh_as : (a b start : ℕ) (stamp : Stamp) (stage : Stage) (p q : Reply) → a ≡ b → p ≡ q → IsFresh s w b start stamp stage q → IsFresh s w a start stamp stage p
  fresh_as a b start stamp stage p q e f h = rw (e, f) h

  pub quorum_after : (b : ℕ) (stamp : Stamp) (end : ℕ) → Quorum s w b stamp end → Quorum s after b stamp end
  quorum_after b stamp end q = record {
    members = q.members;
    enough = q.enough;
    are_honest = q.are_honest;
    kept = λ j l member. accepted_more j b stamp (q.kept j l member);
    fresh = λ x reply task h body l member honest at of_b late. elim (pool_cases x h) [
      | inl k ↦ q.fresh x reply task k body l member honest (of_old x task at) of_b late
      | inr e ↦
          (let n : x.node ≡ i = ap (λ (y : Message). y.node) e in
          let mine : q.members i ≡ true = rw n at member in
          let good : s.lying_client m.client ≡ false = honest_ask x e honest in
          let work : AtWork s w m task = of_ask x task e at in
          let same : ask.block ≡ b = (asked_by good task work).0 ∙ of_b in
          let held : Accepts s w i ask.block stamp = rw same (q.kept i inside mine) in
          fresh_as b ask.block task.start stamp task.stage reply _ (sym same) (reply_is x reply e body ∙ says good task work) (fresh_in s w i ask.block was_stored m.client task work.client (sym (asked_by good task work).0) task.stage stamp held))
    ];
  }

  records_after : (r : Record) → Contains after.records r → IsRecord s after r
  records_after r h =
      let k = safe.records r h in
      record {
        start = omega (arith, k.start);
        ended = λ end e. omega (arith, k.ended end e);
        in_order = k.in_order;
        outcome = k.outcome;
        open_end = k.open_end;
        closed_end = k.closed_end;
        running = k.running;
        completed = λ end stamp e f. quorum_after r.block stamp end (k.completed end stamp e f);
      }

  value_before : (x : List ℕ) → IsValue s w x → IsValue s after x
  value_before x zeros_value = zeros_value
  value_before x (written {r = r} {value = v} {stamp = t} h k e) = written {r = r} {value = v} {stamp = t} h k e
  value_before x (given {block = b} {end = e} {stamp = t} {value = v} h) = given {block = b} {end = e} {stamp = t} {value = v} h

  apart_before : NoClash s after → NoClash s w
  apart_before = NoClash-before s w after (λ x h. Contains-append_left w.pool (answer ∷ []) x h) value_before

  found_formed : (bound : Bound) (o : Option Version) → greatest_in bound old ≡ o → IsFormedReply (found o)
  found_formed bound None e = tt
  found_formed bound (Some u) e = was_stored.formed u (greatest_in_is bound old u e).0

  reason_formed : (r : Option Reason) → IsFormedReply (acknowledged r)
  reason_formed None = tt
  reason_formed (Some reason) = tt

  reply_formed : (request : Request) → IsFormedReply (reply_in s i old request)
  reply_formed Time = tt
  reply_formed (Read bound) = found_formed bound (greatest_in bound old) refl
  reply_formed (Write u) = reason_formed (refusal s i u)

  answer_formed : IsFormedReply (node.reply s i old ask)
  answer_formed = at (ltb ask.block s.blocks)
    where
      at : (b : Bool) → IsFormedReply (cond b (reply_in s i old ask.request) (Refused Rattle.wire_forms.specs.declared.Reason.TheVariants.BadBlock))
      at true = reply_formed ask.request
      at false = tt

  pub handled_safe : IsSafe s after
  handled_safe = record {
    lives = safe.lives;
    formed = λ x h. elim (pool_cases x h) [ inl k ↦ safe.formed x k | inr k ↦ rw k answer_formed ];
    stored = stored_after;
    tagged = tagged_after;
    asked = asked_after;
    answered = answered_after;
    tasks = tasks_after;
    records = records_after;
    aimed = λ c z apart. safe.aimed c z (NoClashFor-before s w after apart_before z.work apart);
    ordered = λ x y apart. safe.ordered x y (NoClashFor-before s w after apart_before y.work apart);
  }
