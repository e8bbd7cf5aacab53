-- What an event leaves: of a node that handles a message, and of a client that hears one.
use Rattle.std.proofs.Common.{◌≡◌, ◌⊎◌, ℕ, ◌+◌, ◌<◌, Bool, true, false, cond, List, [], length, Option, refl, sym, ◌∙◌, ap, subst, inl, inr, arith, eqb, ltb}
use Rattle.std.specs.declared.option.Option.TheVariants.{None, Some}
use Rattle.std.specs.List.{Contains}
use Rattle.std.proofs.lemmas.List.{get_or-set_same, get_or-set_other}
use Rattle.std.proofs.lemmas.List.Elements.{Contains-append_left}
use Rattle.std.proofs.lemmas.Bool.Decides.{nat_tests}
use Rattle.wire_forms.specs.declared.Body.TheVariants.{Ask as Asks, Answer as Answers}
use Rattle.wire_forms.specs.declared.Reason.TheVariants.{BadBlock}
use Rattle.wire_forms.specs.declared.Reply.TheVariants.{Refused}
use Rattle.quorum_rules.specs.Limits.{Numbers}
use Rattle.protocol.specs.Count.{update}
use Rattle.protocol.specs.Messages.{Reply, Ask, Body, Message, Version}
use Rattle.protocol.specs.Setting.{Setting}
use Rattle.protocol.specs.Nodes.{reply, reply_in, after}
use Rattle.protocol.specs.Instance.{setting}
use Rattle.protocol.specs.Operations.{Task, outstanding}
use Rattle.protocol.specs.World.{World, heard, heard_by, given, only_place}
use Rattle.protocol.specs.Lines.{Line, plays}
use Rattle.protocol.specs.Seen.{SeenTask, Hearing, started_task, task_at, hearing, outstanding_of}
use Rattle.protocol.specs.Seen.Hearing.{Ignored, Counted, Begins, Ended as Ends}
use Rattle.protocol.specs.Views.{IsFull, task_after, after_hearing}
use Rattle.node_core.specs.Seen.{SeenNode, versions_in, with_versions, reply_of, after_of}
use Rattle.operation_core.specs.Clients.{ClientView, hears, told}
use Rattle.journals.specs.Acts.{NodeState, served}
use Rattle.journals.specs.Desks.{DeskState, by_hearing, desk_heard, desk_told}
use Rattle.journals.specs.Agreement.{IsNode, IsDesk}
use Rattle.journals.proofs.Cited.{Laws}
use Rattle.journals.proofs.lemmas.Lists.{update-other}
use Rattle.journals.proofs.lemmas.Acting.{IsOf}
use Rattle.journals.proofs.Frames.{Frame, set, IsFor}
use Rattle.protocol.proofs.lemmas.Counting.{update-cases, update-same}

-- what was sent stays sent
pub plays_pool : Laws → (s : Setting) (w : World) (place : ℕ) (line : Line) (x : Message) → Contains w.pool x → Contains (plays s w place line).pool x
plays_pool laws s w place line x h = let more = laws.grows s w place line in subst (λ (l : List Message). Contains l x) (sym more.1) (Contains-append_left w.pool more.0 x h)

-- ---- a node handles a message

-- the versions that a node keeps when it handled the message
abbrev pub answering : Setting → ℕ → (ℕ → List Version) → Body → ℕ → List Version
answering s i vs (Asks ask) = update vs ask.block (after s i (vs ask.block) ask)
answering s i vs (Answers r) = vs

-- all of the world but the pool, the acceptances and the versions of node i stays
pub record OnlyNode (w v : World) (i : ℕ) (vs : ℕ → List Version) : Type 0 where
  pub own : v.versions i ≡ vs
  pub others : (j : ℕ) → (j ≡ i → ⊥) → v.versions j ≡ w.versions j
  pub nodes : v.node_crashed ≡ w.node_crashed
  pub task : v.task ≡ w.task
  pub life : v.life ≡ w.life
  pub started : v.started ≡ w.started
  pub clients : v.client_crashed ≡ w.client_crashed
  pub records : v.records ≡ w.records

pub given_only : (s : Setting) (w : World) (place i : ℕ) (m : Message) (body : Body) → OnlyNode w (given s w place i m body) i (answering s i (w.versions i) body)
given_only s w place i m (Asks ask) = record {
  own = update-same w.versions i _;
  others = λ j h. update-other w.versions i _ j h;
  nodes = refl;
  task = refl;
  life = refl;
  started = refl;
  clients = refl;
  records = refl;
}
given_only s w place i m (Answers reply) = record { own = refl; others = λ j h. refl; nodes = refl; task = refl; life = refl; started = refl; clients = refl; records = refl }

pub place_node : (s : Setting) (w v : World) (place i : ℕ) (vs : ℕ → List Version) → OnlyNode w v i vs → OnlyNode w (only_place s v place) i vs
place_node s w v place i vs h = record { own = h.own; others = h.others; nodes = h.nodes; task = h.task; life = h.life; started = h.started; clients = h.clients; records = h.records }

-- the versions of one block are these, and those of the others stay
pub versions_there : (node : SeenNode) (block other : ℕ) (vs : List Version) → block < length node.blocks → (other ≡ block) → versions_in (with_versions node block vs) other ≡ vs
versions_there node block other vs l e = ap (versions_in (with_versions node block vs)) e ∙ get_or-set_same node.blocks block vs [] l

pub versions_elsewhere : (node : SeenNode) (block other : ℕ) (vs : List Version) → (other ≡ block → ⊥) → versions_in (with_versions node block vs) other ≡ versions_in node other
versions_elsewhere node block other vs n = get_or-set_other node.blocks block other vs [] n

module _ (f : Frame) (w : World) (i : ℕ) (d : NodeState) (is : IsOf f.config i d.node) (h : IsNode (set f) w i d) where
  -- the node answers as that of the world does
  pub reply_same : (ask : Ask) → reply (set f) i (w.versions i ask.block) ask ≡ reply_of d.node ask
  reply_same ask = at (ltb ask.block f.config.blocks) refl ∙ ap (λ (c : Numbers). reply (setting c) i (versions_in d.node ask.block) ask) (sym is.config) ∙ ap (λ (k : ℕ). reply (setting d.node.config) k (versions_in d.node ask.block) ask) (sym is.number)
    where
      at : (b : Bool) → ltb ask.block f.config.blocks ≡ b → reply (set f) i (w.versions i ask.block) ask ≡ reply (set f) i (versions_in d.node ask.block) ask
      at true e = ap (λ (vs : List Version). reply (set f) i vs ask) (h.versions ask.block (grind (arith, nat_tests)))
      at false e = both e
        where
          both : ltb ask.block f.config.blocks ≡ false → cond (ltb ask.block f.config.blocks) (reply_in (set f) i (w.versions i ask.block) ask.request) (Refused BadBlock) ≡ cond (ltb ask.block f.config.blocks) (reply_in (set f) i (versions_in d.node ask.block) ask.request) (Refused BadBlock)
          both e = rw e refl

  -- and keeps what that keeps
  pub served_same : (v : World) (body : Body) → v.versions i ≡ answering (set f) i (w.versions i) body → (block : ℕ) → block < f.config.blocks → v.versions i block ≡ versions_in (served d.node body) block
  served_same v (Answers r) own block l = ap (λ (vs : ℕ → List Version). vs block) own ∙ h.versions block l
  served_same v (Asks ask) own block l = ap (λ (vs : ℕ → List Version). vs block) own ∙ at (update-cases (w.versions i) ask.block (after (set f) i (w.versions i ask.block) ask) block)
    where
      vs : List Version
      vs = after (set f) i (w.versions i ask.block) ask

      at : ((block ≡ ask.block) × (update (w.versions i) ask.block vs block ≡ vs)) ⊎ ((block ≡ ask.block → ⊥) × (update (w.versions i) ask.block vs block ≡ w.versions i block))
          → update (w.versions i) ask.block vs block ≡ versions_in (with_versions d.node ask.block (after_of d.node ask)) block
      at (inl k) =
          let e : block ≡ ask.block = k.0 in
          let n = is.count in
          k.1 ∙ ap (λ (us : List Version). after (set f) i us ask) (h.versions ask.block (omega (arith, l, e)))
          ∙ ap (λ (c : Numbers). after (setting c) i (versions_in d.node ask.block) ask) (sym is.config) ∙ ap (λ (x : ℕ). after (setting d.node.config) x (versions_in d.node ask.block) ask) (sym is.number)
          ∙ sym (versions_there d.node ask.block block (after_of d.node ask) (omega (arith, l, e, n)) e)
      at (inr k) = k.1 ∙ h.versions block l ∙ sym (versions_elsewhere d.node ask.block block (after_of d.node ask) k.0)

-- ---- a client hears an answer

-- all of the world but the pool, the records and what client c does stays
pub record OnlyClient (w v : World) (c : ℕ) (task : Option Task) : Type 0 where
  pub versions : v.versions ≡ w.versions
  pub nodes : v.node_crashed ≡ w.node_crashed
  pub own : v.task c ≡ task
  pub others : (x : ℕ) → (x ≡ c → ⊥) → v.task x ≡ w.task x
  pub life : v.life ≡ w.life
  pub started : v.started ≡ w.started
  pub clients : v.client_crashed ≡ w.client_crashed

pub place_client : (s : Setting) (w v : World) (place c : ℕ) (o : Option Task) → OnlyClient w v c o → OnlyClient w (only_place s v place) c o
place_client s w v place c o h = record { versions = h.versions; nodes = h.nodes; own = h.own; others = h.others; life = h.life; started = h.started; clients = h.clients }

module _ (laws : Laws) (s : Setting) (w : World) (place c start : ℕ) (t : SeenTask) where
  hearing_only : w.task c ≡ started_task start (Some t) → (h : Hearing) → OnlyClient w (after_hearing s w place c start t h) c (started_task start (task_after t h))
  hearing_only e Ignored = record { versions = refl; nodes = refl; own = e; others = λ x h. refl; life = refl; started = refl; clients = refl }
  hearing_only e (Counted u) = record { versions = refl; nodes = refl; own = update-same w.task c _; others = λ x h. update-other w.task c _ x h; life = refl; started = refl; clients = refl }
  hearing_only e (Begins u) = record { versions = refl; nodes = refl; own = update-same w.task c _; others = λ x h. update-other w.task c _ x h; life = refl; started = refl; clients = refl }
  hearing_only e (Ends outcome) = record { versions = refl; nodes = refl; own = update-same w.task c _; others = λ x h. update-other w.task c _ x h; life = refl; started = refl; clients = refl }

  pub heard_is : w.task c ≡ started_task start (Some t) → IsFull s.n (Some t) → (m : Message) (r : Reply) → heard s w place c m (Answers r) ≡ after_hearing s w place c start t (hearing s c t m.node m.tag r)
  heard_is e full m r = ap (λ (o : Option Task). heard_by s w place c o m r) e ∙ laws.heard s w place c start t m r full

  -- the client's operation is what the answer makes of it, and nothing else changes
  pub heard_only : w.task c ≡ started_task start (Some t) → IsFull s.n (Some t) → (m : Message) (r : Reply) → OnlyClient w (heard s w place c m (Answers r)) c (started_task start (task_after t (hearing s c t m.node m.tag r)))
  heard_only e full m r = subst (λ (v : World). OnlyClient w v c (started_task start (task_after t (hearing s c t m.node m.tag r)))) (sym (heard_is e full m r)) (hearing_only e (hearing s c t m.node m.tag r))

-- what a desk's client hears is what the world's does
pub hears_is : (f : Frame) (c : ℕ) (d : DeskState) (t : SeenTask) (m : Message) (r : Reply) → IsFor f.config c d.client → d.client.seen.task ≡ Some t → m.client ≡ c → m.body ≡ Answers r → hears d.client d.client.seen.task m ≡ hearing (set f) c t m.node m.tag r
hears_is f c d t m r own e mine body =
    ap (λ (o : Option SeenTask). hears d.client o m) e ∙ ap (told d.client t m) body ∙ at (eqb m.client d.client.id) (same m.client d.client.id (mine ∙ sym own.number))
  where
    same : (a b : ℕ) → a ≡ b → eqb a b ≡ true
    same a b e = grind (arith, nat_tests)

    at : (b : Bool) → b ≡ true → cond b (hearing (setting d.client.config) d.client.id t m.node m.tag r) Ignored ≡ hearing (set f) c t m.node m.tag r
    at false e = absurd (cc)
    at true e = ap (λ (k : Numbers). hearing (setting k) d.client.id t m.node m.tag r) own.cluster ∙ ap (λ (k : ℕ). hearing (set f) k t m.node m.tag r) own.number

pub heard_life : (client : ClientView) (h : Hearing) → (by_hearing client h).seen.life ≡ client.seen.life
heard_life client Ignored = refl
heard_life client (Counted u) = refl
heard_life client (Begins u) = refl
heard_life client (Ends outcome) = refl

heard_started : (client : ClientView) (h : Hearing) → (by_hearing client h).seen.started ≡ client.seen.started
heard_started client Ignored = refl
heard_started client (Counted u) = refl
heard_started client (Begins u) = refl
heard_started client (Ends outcome) = refl

heard_task : (client : ClientView) (t : SeenTask) (h : Hearing) → client.seen.task ≡ Some t → (by_hearing client h).seen.task ≡ task_after t h
heard_task client t Ignored e = e
heard_task client t (Counted u) e = refl
heard_task client t (Begins u) e = refl
heard_task client t (Ends outcome) e = refl

-- the client hears the answer, as its desk does
pub told_desk : Laws → (f : Frame) (v u : World) (c n : ℕ) (d : DeskState) (t : SeenTask) (m : Message) (r : Reply) → IsDesk (set f) v c d → IsFor f.config c d.client → d.client.seen.task ≡ Some t → m.client ≡ c → m.body ≡ Answers r
    → OnlyClient v u c (started_task (d.began + 1) (task_after t (hearing (set f) c t m.node m.tag r))) → IsDesk (set f) u c (desk_told d n (Some m))
told_desk laws f v u c n d t m r h own e mine body only =
    let x = hearing (set f) c t m.node m.tag r in
    let is = hears_is f c d t m r own e mine body in
    let task = heard_task d.client t x e in
    subst (λ (k : Hearing). IsDesk (set f) u c (desk_heard d n k)) (sym is) (record {
      life = ap (λ (g : ℕ → ℕ). g c) only.life ∙ h.life ∙ sym (heard_life d.client x);
      started = ap (λ (g : ℕ → ℕ). g c) only.started ∙ h.started ∙ sym (heard_started d.client x);
      crashed = ap (λ (g : ℕ → Bool). g c) only.clients ∙ h.crashed;
      task = only.own ∙ ap (started_task (d.began + 1)) (sym task);
      full = subst (IsFull f.config.n) (sym task) (laws.full_heard (set f) c m.node t m.tag r (subst (IsFull f.config.n) e h.full));
    })

-- who asks has an operation under way, and asks what it asks of a node that there is
pub asks_is : (s : Setting) (c : ℕ) (o : Option SeenTask) (node : ℕ) (ask : Message) → outstanding_of s c o node ≡ Some ask → (t : SeenTask) × (o ≡ Some t) × (node < s.n) × (ask ≡ outstanding s c (task_at 0 t) node)
asks_is s c None node ask e = absurd (cc)
asks_is s c (Some t) node ask e = at (ltb node s.n) refl e
  where
    at : (b : Bool) → ltb node s.n ≡ b → cond b (Some (outstanding s c (task_at 0 t) node)) None ≡ Some ask → (u : SeenTask) × (◌≡◌ {A = Option SeenTask} (Some t) (Some u)) × (node < s.n) × (ask ≡ outstanding s c (task_at 0 u) node)
    at true l h = (t, refl, grind (arith, nat_tests), (let q : outstanding s c (task_at 0 t) node ≡ ask = cc in sym q))
    at false l h = absurd (cc)
