-- What a step's line needs and leaves, kind by kind: starts, crashes of clients and lost asks.
use Rattle.std.proofs.Common.{◌≡◌, ℕ, ◌+◌, ◌-◌, ◌*◌, ◌^◌, ◌<◌, ◌≤◌, Bool, true, false, List, [], ◌∷◌, drop, Option, refl, sym, ◌∙◌, ap, subst, inl, inr, arith}
use Rattle.std.specs.declared.option.Option.TheVariants.{None, Some}
use Rattle.std.specs.List.{Contains}
use Rattle.std.proofs.lemmas.List.Elements.{Contains-append_cases}
use Rattle.quorum_rules.specs.Limits.{Numbers}
use Rattle.wire_forms.specs.declared.op.Op.{Op}
use Rattle.wire_forms.specs.declared.op.Op.TheVariants.{Read as ReadOp, Write as WriteOp}
use Rattle.protocol.specs.Count.{update}
use Rattle.protocol.specs.Messages.{Message, Version}
use Rattle.protocol.specs.Setting.{Setting, IsBlock}
use Rattle.protocol.specs.Instance.{setting}
use Rattle.protocol.specs.Operations.{Task, Work, begun, outstanding}
use Rattle.protocol.specs.Operations.Work.{Reads, Writes}
use Rattle.protocol.specs.World.{World, last_op, under_way}
use Rattle.protocol.specs.Lines.{Line, plays, fault, start_line}
use Rattle.run_words.specs.declared.line.Line.TheVariants.{Write, Read, Lost, CrashClient}
use Rattle.protocol.specs.Seen.{SeenTask, started_task, task_at, seen_begun, ops_of, block_of, work_of, outstanding_of}
use Rattle.protocol.specs.Views.{IsFull}
use Rattle.node_core.specs.Seen.{SeenNode, versions_in}
use Rattle.operation_core.specs.Clients.{ClientView, started}
use Rattle.journals.specs.declared.node.NodeAct.TheVariants.{Silent, LateLost}
use Rattle.journals.specs.declared.node.Silence.TheVariants.{Crashed, Dropped, Held, Lying}
use Rattle.journals.specs.declared.desk.DeskAct.TheVariants.{Start, Crash, Call}
use Rattle.journals.specs.declared.desk.Way.TheVariants.{Hold as ByHold}
use Rattle.journals.specs.Acts.{Silence, NodeState, after, held_back, way_of}
use Rattle.journals.specs.Desks.{Way, DeskState, desk_after, DeskGoes, MayAsk, ActsAs}
use Rattle.journals.specs.Steps.{Cluster, cluster_after, CallGoes, Goes, called}
use Rattle.journals.specs.Steps.Step.{AtNode, AtDesk}
use Rattle.journals.specs.Agreement.{IsNode, IsDesk, Agrees}
use Rattle.journals.proofs.lemmas.Lists.{update-other, at_update}
use Rattle.journals.proofs.Frames.{Frame, set, IsFor, Before, Taken}
use Rattle.journals.proofs.lemmas.Effects.{plays_pool, asks_is}
use Rattle.lists.proofs.lemmas.Members.{Contains-rest, Contains-one}
use Rattle.protocol.proofs.lemmas.Counting.{update-same}

pub same_node : (s : Setting) (w v : World) (i : ℕ) (d : NodeState) → v.versions i ≡ w.versions i → v.node_crashed i ≡ w.node_crashed i → IsNode s w i d → IsNode s v i d
same_node s w v i d e k h = record { versions = λ block l. ap (λ (vs : ℕ → List Version). vs block) e ∙ h.versions block l; crashed = k ∙ h.crashed }

pub same_desk : (s : Setting) (w v : World) (c : ℕ) (d : DeskState) → v.life c ≡ w.life c → v.started c ≡ w.started c → v.client_crashed c ≡ w.client_crashed c → v.task c ≡ w.task c → IsDesk s w c d → IsDesk s v c d
same_desk s w v c d l st cr t h = record { life = l ∙ h.life; started = st ∙ h.started; crashed = cr ∙ h.crashed; task = t ∙ h.task; full = h.full }

-- what is left of the late mail was there
pub of_rest : (late : List Message) (m : Message) → Contains (drop 1 late) m → Contains late m
of_rest [] m h = h
of_rest (x ∷ late) m h = Contains-rest m x late h

-- what a client may ask is what its operation asks
pub asked_is : (f : Frame) (c : ℕ) (client : ClientView) (ask : Message) → IsFor f.config c client → MayAsk client ask
    → (t : SeenTask) × (client.seen.task ≡ Some t) × (ask.node < f.config.n) × (ask ≡ outstanding (set f) c (task_at 0 t) ask.node)
asked_is f c client ask own may =
    asks_is (set f) c client.seen.task ask.node ask (ap (λ (k : ℕ). outstanding_of (set f) k client.seen.task ask.node) (sym own.number)
    ∙ ap (λ (k : Numbers). outstanding_of (setting k) client.id client.seen.task ask.node) (sym own.cluster) ∙ may.outstanding)

module _ {f : Frame} {w : World} {g : Cluster} {n : ℕ} (b : Before f w g n) where
  pub place_below_next : w.place < n + 1
  place_below_next = let e = b.at in omega (arith, e)

  pub place_at_most_next : w.place ≤ n + 1
  place_at_most_next = let e = b.at in omega (arith, e)

  pub pool_grows : (line : Line) (m : Message) → Contains w.pool m → Contains (plays (set f) w (n + 1) line).pool m
  pool_grows line m h = plays_pool b.laws (set f) w (n + 1) line m h

  -- one node and some desks changed
  pub agree_node : (v : World) → ((m : Message) → Contains w.pool m → Contains v.pool m) → (i : ℕ) (d : NodeState) (desks : ℕ → DeskState) → (f.nodes i ≡ false → IsNode (set f) v i d)
      → ((j : ℕ) → (j ≡ i → ⊥) → f.nodes j ≡ false → IsNode (set f) v j (g.nodes j))
      → ((c : ℕ) → f.clients c ≡ false → IsDesk (set f) v c (desks c))
      → ((m : Message) → f.nodes i ≡ false → d.crashed ≡ false → Contains d.late m → Contains v.pool m)
      → Agrees (set f) v (record { nodes = update g.nodes i d; desks = desks })
  agree_node v more i d desks own others clients late = record {
    nodes = λ j h. at_update (λ (k : ℕ) (x : NodeState). f.nodes k ≡ false → IsNode (set f) v k x) g.nodes i d j (λ e. own) (λ k. others j k) h;
    desks = clients;
    sent = λ j m h. at_update (λ (k : ℕ) (x : NodeState). f.nodes k ≡ false → x.crashed ≡ false → Contains x.late m → Contains v.pool m) g.nodes i d j
        (λ e. late m) (λ _ k up there. more m (b.agrees.sent j m k up there)) h;
  }

  -- one client changed
  agree_desk : (v : World) → ((m : Message) → Contains w.pool m → Contains v.pool m) → (c : ℕ) (d : DeskState) → ((j : ℕ) → f.nodes j ≡ false → IsNode (set f) v j (g.nodes j)) → (f.clients c ≡ false → IsDesk (set f) v c d)
      → ((x : ℕ) → (x ≡ c → ⊥) → f.clients x ≡ false → IsDesk (set f) v x (g.desks x)) → Agrees (set f) v (record { nodes = g.nodes; desks = update g.desks c d })
  agree_desk v more c d nodes own others = record {
    nodes = nodes;
    desks = λ x h. at_update (λ (k : ℕ) (y : DeskState). f.clients k ≡ false → IsDesk (set f) v k y) g.desks c d x (λ e. own) (λ k. others x k) h;
    sent = λ j m h up there. more m (b.agrees.sent j m h up there);
  }

  -- ---- a start
  start_taken : (c block : ℕ) (work : Work) (op : Op) → block ≡ block_of op → work ≡ work_of op → (v : World)
      → v.versions ≡ w.versions → v.node_crashed ≡ w.node_crashed → v.life ≡ w.life → v.started ≡ update w.started c (w.started c + 1) → v.client_crashed ≡ w.client_crashed
      → v.task ≡ update w.task c (Some (begun (last_op w c + 1) block work (n + 1))) → ((m : Message) → Contains w.pool m → Contains v.pool m)
      → f.clients c ≡ false → Agrees (set f) v (cluster_after g n (AtDesk c (Start op)))
  start_taken c block work op e k v vs nodes life st clients task more correct =
      let h = b.agrees.desks c correct in
      let d = g.desks c in
      let ops = ops_of d.client.seen + 1 in
      let number : last_op w c ≡ ops_of d.client.seen = ap (λ (x : ℕ). x * 2 ^ 32 + w.started c) h.life ∙ ap (λ (x : ℕ). d.client.seen.life * 2 ^ 32 + x) h.started in
      let same : seen_begun (set f) ops (block_of op) (work_of op) ≡ started d.client op = ap (λ (x : Numbers). seen_begun (setting x) ops (block_of op) (work_of op)) (sym (b.fixed.desks c).cluster) in
      agree_desk v more c (desk_after d n (Start op))
      (λ j x. same_node (set f) w v j (g.nodes j) (ap (λ (y : ℕ → ℕ → List Version). y j) vs) (ap (λ (y : ℕ → Bool). y j) nodes) (b.agrees.nodes j x))
      (λ _. record {
        life = ap (λ (x : ℕ → ℕ). x c) life ∙ h.life;
        started = ap (λ (x : ℕ → ℕ). x c) st ∙ update-same w.started c _ ∙ ap (λ (x : ℕ). x + 1) h.started;
        crashed = ap (λ (x : ℕ → Bool). x c) clients ∙ h.crashed;
        task = ap (λ (x : ℕ → Option Task). x c) task ∙ update-same w.task c _
            ∙ ap (λ (x : ℕ). Some (begun (x + 1) block work (n + 1))) number
            ∙ ap (λ (x : ℕ). Some (begun ops x work (n + 1))) e
            ∙ ap (λ (x : Work). Some (begun ops (block_of op) x (n + 1))) k
            ∙ sym (ap (λ (x : Task). Some x) (b.laws.starts (set f) ops (block_of op) (n + 1) (work_of op)))
            ∙ ap (λ (x : SeenTask). Some (task_at (n + 1) x)) same;
        full = subst (λ (x : SeenTask). IsFull f.config.n (Some x)) same (b.laws.full_begun (set f) ops (block_of op) (work_of op));
      })
      (λ x other good. same_desk (set f) w v x (g.desks x) (ap (λ (y : ℕ → ℕ). y x) life) (ap (λ (y : ℕ → ℕ). y x) st ∙ update-other w.started c _ x other) (ap (λ (y : ℕ → Bool). y x) clients)
      (ap (λ (y : ℕ → Option Task). y x) task ∙ update-other w.task c _ x other) (b.agrees.desks x good))

  pub taken_start : (c : ℕ) (op : Op) → Goes (set f) f.conduct g (AtDesk c (Start op)) → Taken f w n (start_line c op) (cluster_after g n (AtDesk c (Start op)))
  taken_start c op goes = at op (rw (goes.1) at goes.3)
    where
      h : IsDesk (set f) w c (g.desks c)
      h = b.agrees.desks c goes.1

      own : IsFor f.config c (g.desks c).client
      own = b.fixed.desks c

      at : (op : Op) → DeskGoes (g.desks c) (Start op) → Taken f w n (start_line c op) (cluster_after g n (AtDesk c (Start op)))
      at (ReadOp block) k =
          let fewer : w.started c < 2 ^ 32 - 1 = rw (h.started) k.1.fresh in
          let there : block < f.config.blocks = rw (own.cluster) at k.1.fits.block in
          record {
            fits = there;
            fine = b.laws.taken (set f) w (n + 1) (Read c block) there (tt, (record { later = place_below_next; client = goes.0; correct = goes.1; up = h.crashed ∙ k.0; idle = h.task ∙ ap (started_task ((g.desks c).began + 1)) k.1.idle; fresh = fewer; inside = there; fits = tt }, tt));
            agrees = start_taken c block Reads (ReadOp block) refl refl (plays (set f) w (n + 1) (Read c block)) refl refl refl refl refl refl (pool_grows (Read c block)) goes.1;
          }
      at (WriteOp block value) k =
          let fewer : w.started c < 2 ^ 32 - 1 = rw (h.started) k.1.fresh in
          let there : block < f.config.blocks = rw (own.cluster) at k.1.fits.block in
          let whole : IsBlock (set f) value = subst (λ (x : Numbers). IsBlock (setting x) value) own.cluster k.1.fits.fits in
          record {
            fits = (there, whole);
            fine = b.laws.taken (set f) w (n + 1) (Write c block value) (there, whole) (tt, (record { later = place_below_next; client = goes.0; correct = goes.1; up = h.crashed ∙ k.0; idle = h.task ∙ ap (started_task ((g.desks c).began + 1)) k.1.idle; fresh = fewer; inside = there; fits = whole }, tt));
            agrees = start_taken c block (Writes value) (WriteOp block value) refl refl (plays (set f) w (n + 1) (Write c block value)) refl refl refl refl refl refl (pool_grows (Write c block value)) goes.1;
          }

  -- ---- a client's crash
  pub crash_client : (c : ℕ) → Goes (set f) f.conduct g (AtDesk c Crash) → Taken f w n (CrashClient c) (cluster_after g n (AtDesk c Crash))
  crash_client c goes =
      let h = b.agrees.desks c goes.1 in
      let up : (g.desks c).crashed ≡ false = rw (goes.1) at goes.3 in
      let v = plays (set f) w (n + 1) (CrashClient c) in
      record {
        fits = tt;
        fine = b.laws.taken (set f) w (n + 1) (CrashClient c) tt (tt, ((place_at_most_next, goes.0, goes.1, h.crashed ∙ up), tt));
        agrees = agree_desk v (pool_grows (CrashClient c)) c (desk_after (g.desks c) n Crash)
            (λ j k. same_node (set f) w v j (g.nodes j) refl refl (b.agrees.nodes j k))
            (λ _. record { life = h.life; started = h.started; crashed = update-same w.client_crashed c true; task = h.task; full = h.full })
            (λ x other good. same_desk (set f) w v x (g.desks x) refl refl (update-other w.client_crashed c true x other) refl (b.agrees.desks x good));
      }

  -- ---- lost asks

  -- a call with no reply leaves the client as it was
  pub silent_desks : (v : World) → v.life ≡ w.life → v.started ≡ w.started → v.client_crashed ≡ w.client_crashed → v.task ≡ w.task → (c : ℕ) (way : Way) (ask : Message)
      → (x : ℕ) → f.clients x ≡ false → IsDesk (set f) v x (called g.desks n (Some (c, Call way ask None)) x)
  silent_desks v l st cr t c way ask x k =
      at_update (λ (y : ℕ) (d : DeskState). f.clients y ≡ false → IsDesk (set f) v y d) g.desks c (g.desks c) x (λ e. same c) (λ _. same x) k
    where
      same : (y : ℕ) → f.clients y ≡ false → IsDesk (set f) v y (g.desks y)
      same y good = same_desk (set f) w v y (g.desks y) (ap (λ (z : ℕ → ℕ). z y) l) (ap (λ (z : ℕ → ℕ). z y) st) (ap (λ (z : ℕ → Bool). z y) cr) (ap (λ (z : ℕ → Option Task). z y) t) (b.agrees.desks y good)

  pub lost_fine : (c i : ℕ) → fault (set f) w (Lost c i) ≡ None
  lost_fine c i = b.laws.taken (set f) w (n + 1) (Lost c i) tt (tt, tt)

  pub lost_agrees : (c i : ℕ) (d : NodeState) (desks : ℕ → DeskState) → d.node ≡ (g.nodes i).node → d.crashed ≡ (g.nodes i).crashed
      → ((x : ℕ) → f.clients x ≡ false → IsDesk (set f) (plays (set f) w (n + 1) (Lost c i)) x (desks x))
      → ((m : Message) → f.nodes i ≡ false → d.crashed ≡ false → Contains d.late m → Contains w.pool m)
      → Agrees (set f) (plays (set f) w (n + 1) (Lost c i)) (record { nodes = update g.nodes i d; desks = desks })
  lost_agrees c i d desks vs up clients late =
      let v = plays (set f) w (n + 1) (Lost c i) in
      agree_node v (pool_grows (Lost c i)) i d desks
      (λ k. record { versions = λ block l. (b.agrees.nodes i k).versions block l ∙ ap (λ (x : SeenNode). versions_in x block) (sym vs); crashed = (b.agrees.nodes i k).crashed ∙ sym up })
      (λ j other k. same_node (set f) w v j (g.nodes j) refl refl (b.agrees.nodes j k))
      clients late

  -- an ask that is held was sent
  held_sent : (i : ℕ) (ask : Message) (why : Silence) → CallGoes (set f) g (Some (ask.client, Call (way_of why) ask None))
      → (m : Message) → f.nodes i ≡ false → (held_back (g.nodes i) ask why).crashed ≡ false → Contains (held_back (g.nodes i) ask why).late m → Contains w.pool m
  held_sent i ask Crashed call m k up there = b.agrees.sent i m k up there
  held_sent i ask Dropped call m k up there = b.agrees.sent i m k up there
  held_sent i ask Lying call m k up there = b.agrees.sent i m k up there
  held_sent i ask Held call m k up there = elim (Contains-append_cases (g.nodes i).late (ask ∷ []) m there) [
    | inl old ↦ b.agrees.sent i m k up old
    | inr new ↦ subst (λ (x : Message). Contains w.pool x) (sym (Contains-one m ask new)) (of_client (f.clients ask.client) refl call.1)
  ]
    where
      of_client : (lying : Bool) → f.clients ask.client ≡ lying → ActsAs lying (g.desks ask.client) (Call ByHold ask None) → Contains w.pool ask
      of_client true e h = absurd (let q = h.0 in cc)
      of_client false e h =
          let d = b.agrees.desks ask.client e in
          let start = (g.desks ask.client).began + 1 in
          let a = asked_is f ask.client (g.desks ask.client).client ask (b.fixed.desks ask.client) h.1 in
          let busy : w.task ask.client ≡ Some (task_at start a.0) = d.task ∙ ap (started_task start) a.1 in
          let running : under_way w ask.client ≡ Some (task_at start a.0) = rw (d.crashed ∙ h.0) busy in
          subst (λ (x : Message). Contains w.pool x) (sym a.3) ((b.works ask.client (task_at start a.0) running).asked ask.node a.2)

  held_node : (i : ℕ) (ask : Message) (why : Silence) → (held_back (g.nodes i) ask why).node ≡ (g.nodes i).node
  held_node i ask Held = refl
  held_node i ask Crashed = refl
  held_node i ask Dropped = refl
  held_node i ask Lying = refl

  held_up : (i : ℕ) (ask : Message) (why : Silence) → (held_back (g.nodes i) ask why).crashed ≡ (g.nodes i).crashed
  held_up i ask Held = refl
  held_up i ask Crashed = refl
  held_up i ask Dropped = refl
  held_up i ask Lying = refl

  pub taken_silent : (i : ℕ) (ask : Message) (why : Silence) → Goes (set f) f.conduct g (AtNode i (Silent ask why)) → Taken f w n (Lost ask.client i) (cluster_after g n (AtNode i (Silent ask why)))
  taken_silent i ask why goes = record {
    fits = tt;
    fine = lost_fine ask.client i;
    agrees = lost_agrees ask.client i (after (g.nodes i) (Silent ask why)) (called g.desks n (Some (ask.client, Call (way_of why) ask None))) (held_node i ask why) (held_up i ask why)
        (silent_desks (plays (set f) w (n + 1) (Lost ask.client i)) refl refl refl refl ask.client (way_of why) ask) (held_sent i ask why goes.2);
  }

  pub late_lost : (i : ℕ) (ask : Message) → Taken f w n (Lost ask.client i) (cluster_after g n (AtNode i (LateLost ask)))
  late_lost i ask = record {
    fits = tt;
    fine = lost_fine ask.client i;
    agrees = lost_agrees ask.client i (after (g.nodes i) (LateLost ask)) g.desks refl refl
        (λ x k. same_desk (set f) w (plays (set f) w (n + 1) (Lost ask.client i)) x (g.desks x) refl refl refl refl (b.agrees.desks x k)) (λ m k up there. b.agrees.sent i m k up (of_rest (g.nodes i).late m there));
  }
