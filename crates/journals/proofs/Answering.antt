-- What a step's line needs and leaves, kind by kind: what a node answers, delivers late, crashes at, and what a liar tells.
use Rattle.std.proofs.Common.{◌≡◌, ℕ, ◌+◌, ◌<◌, Bool, true, false, cond, List, [], ◌∷◌, Option, refl, sym, ◌∙◌, ap, subst, inl, inr, arith}
use Rattle.std.specs.Prelude.{slice_get}
use Rattle.std.specs.declared.option.Option.TheVariants.{None, Some}
use Rattle.std.specs.List.{Contains}
use Rattle.std.proofs.lemmas.List.Elements.{Contains-push}
use Rattle.std.proofs.lemmas.Option.{slice_get_within}
use Rattle.wire_forms.specs.declared.Body.TheVariants.{Ask as Asks, Answer as Answers}
use Rattle.protocol.specs.Count.{update}
use Rattle.protocol.specs.Messages.{IsFormedBody, Message, Version, Body, Reply, Ask, with_reply}
use Rattle.protocol.specs.Setting.{Setting}
use Rattle.protocol.specs.Nodes.{reply}
use Rattle.protocol.specs.Operations.{Task, outstanding, ask_of}
use Rattle.protocol.specs.World.{World, IsClient, IsOfLiar, under_way, only_place, sent, given, heard, all_happen, answer_of, AllAllowed}
use Rattle.protocol.specs.Lines.{false_reply, plays, called as call_events, given_at}
use Rattle.run_words.specs.declared.line.Line.TheVariants.{Call as Calls, Give, Lost, CrashNode, Tell, Poke}
use Rattle.protocol.specs.Seen.{SeenTask, started_task, task_at, hearing}
use Rattle.protocol.specs.Views.{IsFull, task_after}
use Rattle.quorum_rules.specs.Limits.{Numbers}
use Rattle.node_core.specs.Seen.{SeenNode, versions_in}
use Rattle.liar_rules.specs.Answers.{answer_to}
use Rattle.journals.specs.declared.node.NodeAct.TheVariants.{Answered, Lied, CrashedAt, Delivered}
use Rattle.journals.specs.declared.desk.DeskAct.TheVariants.{Call}
use Rattle.journals.specs.declared.desk.Way.TheVariants.{Call as ByCall}
use Rattle.journals.specs.Acts.{NodeState, IsAct, after, served, true_answer, is_spent}
use Rattle.journals.specs.Desks.{DeskAct, DeskState, desk_after, desk_told, DeskGoes, ActsAs}
use Rattle.journals.specs.Steps.{Cluster, Goes, cluster_after, called, side}
use Rattle.journals.specs.Steps.Step.{AtNode}
use Rattle.journals.specs.Merging.{line_of, IsFirst}
use Rattle.journals.specs.Agreement.{IsNode, IsDesk, Agrees}
use Rattle.journals.proofs.lemmas.Lists.{update-other, at_update}
use Rattle.journals.proofs.lemmas.Acting.{IsUpright, IsLie, lie_is, answered_truly as means_answered, told_lie, crashed_called, crashed_late, delivered_truly as means_delivered}
use Rattle.journals.proofs.Frames.{Frame, set, Before, Taken, honest_by, lying_by}
use Rattle.journals.proofs.lemmas.Effects.{OnlyNode, OnlyClient, answering, given_only, place_node, reply_same, served_same, place_client, heard_only, told_desk}
use Rattle.journals.proofs.lemmas.Taking.{same_node, same_desk, of_rest, asked_is, place_at_most_next, pool_grows, agree_node, silent_desks, lost_fine, lost_agrees}
use Rattle.lists.proofs.lemmas.Members.{Contains-head, place_of}
use Rattle.protocol.proofs.lemmas.Counting.{update-same}

-- every other client stays
pub other_desk : (s : Setting) (v u : World) (c : ℕ) (o : Option Task) → OnlyClient v u c o → (x : ℕ) (d : DeskState) → (x ≡ c → ⊥) → IsDesk s v x d → IsDesk s u x d
other_desk s v u c o only x d n h =
    same_desk s v u x d (ap (λ (f : ℕ → ℕ). f x) only.life) (ap (λ (f : ℕ → ℕ). f x) only.started) (ap (λ (f : ℕ → Bool). f x) only.clients) (only.others x n) h

-- what a node answers goes to the ask's client
answer_client : (node : SeenNode) (m : Message) (body : Body) → (true_answer node m body).client ≡ m.client
answer_client node m (Asks ask) = refl
answer_client node m (Answers r) = refl

module _ {f : Frame} {w : World} {g : Cluster} {n : ℕ} (b : Before f w g n) where
  -- the node that doesn't lie by nature is the world's
  pub node_here : (i : ℕ) → IsUpright (g.nodes i) (f.conduct.nature i) → (f.nodes i ≡ false) × IsNode (set f) w i (g.nodes i) × (w.node_crashed i ≡ false)
  node_here i up =
      let good = honest_by f b.behave i up.honest in
      let k = b.agrees.nodes i good in
      (good, k, k.crashed ∙ up.up)

  -- after it handled a message it is the world's again
  node_after : (i : ℕ) (d : NodeState) (body : Body) (v : World) → IsNode (set f) w i (g.nodes i) → OnlyNode w v i (answering (set f) i (w.versions i) body) → d.node ≡ served (g.nodes i).node body → d.crashed ≡ (g.nodes i).crashed → IsNode (set f) v i d
  node_after i d body v k only e up = record {
    versions = λ block l. served_same f w i (g.nodes i) (b.fixed.nodes i) k v body only.own block l ∙ ap (λ (x : SeenNode). versions_in x block) (sym e);
    crashed = ap (λ (x : ℕ → Bool). x i) only.nodes ∙ k.crashed ∙ sym up;
  }

  -- ---- an answer that a correct client hears
  module _ (i c : ℕ) (t : SeenTask) where
    abbrev pub task_now : Task
    task_now = task_at ((g.desks c).began + 1) t

    abbrev pub out : Message
    out = outstanding (set f) c task_now i

    abbrev pub asked : Ask
    asked = ask_of (set f) task_now i

    abbrev pub told : Message
    told = answer_of (set f) w i out asked

    abbrev pub call_given : World
    call_given = given (set f) w (n + 1) i out (Asks asked)

    abbrev call_heard : World
    call_heard = only_place (set f) (heard (set f) call_given (n + 1) c told (Answers (reply (set f) i (w.versions i asked.block) asked))) (n + 1)

    call_node : OnlyNode w call_given i (answering (set f) i (w.versions i) (Asks asked))
    call_node = given_only (set f) w (n + 1) i out (Asks asked)

    call_client : w.task c ≡ Some task_now → IsFull f.config.n (Some t) → OnlyClient call_given call_heard c (started_task ((g.desks c).began + 1) (task_after t (hearing (set f) c t i told.tag (reply (set f) i (w.versions i asked.block) asked))))
    call_client e full = place_client (set f) call_given (heard (set f) call_given (n + 1) c told (Answers (reply (set f) i (w.versions i asked.block) asked))) (n + 1) c _
        (heard_only b.laws (set f) call_given (n + 1) c ((g.desks c).began + 1) t e full told (reply (set f) i (w.versions i asked.block) asked))

    call_allowed : w.task c ≡ Some task_now → i < f.config.n → f.nodes i ≡ false → w.node_crashed i ≡ false → IsClient (set f) c → f.clients c ≡ false → w.client_crashed c ≡ false
        → AllAllowed (set f) w (n + 1) (call_events (set f) w c i (Some task_now))
    call_allowed e l honest up number correct running =
        let busy : under_way w c ≡ Some task_now = rw running e in (
          record { later = place_at_most_next b; node = l; honest = honest; up = up; sent = (b.works c task_now busy).asked i l; asks = (refl, asked, refl) },
          (record { later = omega arith; client = number; correct = correct; up = running; sent = Contains-push w.pool _; answers = (refl, reply (set f) i (w.versions i asked.block) asked, refl) }, tt),
        )

    -- the answer is the world's
    pub told_is : (ask answer : Message) → IsNode (set f) w i (g.nodes i) → ask ≡ out → answer ≡ true_answer (g.nodes i).node ask ask.body → answer ≡ told
    told_is ask answer k mine e =
        e ∙ ap (λ (m : Message). true_answer (g.nodes i).node m m.body) mine ∙ ap (λ (r : Reply). with_reply out r) (sym (reply_same f w i (g.nodes i) (b.fixed.nodes i) k asked))

  -- what the client asks, the world knows
  pub record Asked (i : ℕ) (ask : Message) : Type 0 where
    pub task : SeenTask
    pub seen : (g.desks ask.client).client.seen.task ≡ Some task
    pub busy : w.task ask.client ≡ Some (task_now i ask.client task)
    pub under : under_way w ask.client ≡ Some (task_now i ask.client task)
    pub full : IsFull f.config.n (Some task)
    pub mine : ask ≡ out i ask.client task

  pub asked_now : (i : ℕ) (ask : Message) → ask.node ≡ i → f.clients ask.client ≡ false → DeskGoes (g.desks ask.client) (Call ByCall ask None) → Asked i ask
  asked_now i ask there correct desk =
      let c = ask.client in
      let h = b.agrees.desks c correct in
      let a = asked_is f c (g.desks c).client ask (b.fixed.desks c) desk.1 in
      let busy : w.task c ≡ Some (task_now i c a.0) = h.task ∙ ap (started_task ((g.desks c).began + 1)) a.1 in
      record {
        task = a.0;
        seen = a.1;
        busy = busy;
        under = rw (h.crashed ∙ desk.0) busy;
        full = subst (IsFull f.config.n) a.1 h.full;
        mine = a.3 ∙ ap (λ (j : ℕ). outstanding (set f) c (task_at 0 a.0) j) there;
      }

  pub call : (i : ℕ) (ask answer : Message) → i < f.config.n → IsAct (f.conduct.nature i) (g.nodes i) (Answered ask answer) → IsClient (set f) ask.client → f.clients ask.client ≡ false
      → DeskGoes (g.desks ask.client) (Call ByCall ask (Some answer))
      → Taken f w n (Calls ask.client i) (cluster_after g n (AtNode i (Answered ask answer)))
  call i ask answer below is number correct desk =
      let c = ask.client in
      let next = cluster_after g n (AtNode i (Answered ask answer)) in
      let means = means_answered (g.nodes i) (f.conduct.nature i) ask answer is.done in
      let here = node_here i means.0 in
      let k = here.1 in
      let h = b.agrees.desks c correct in
      let a = asked_now i ask (is.comes.0 ∙ (b.fixed.nodes i).number) correct desk in
      let t = a.task in
      let heard_it : answer ≡ told i c t = told_is i c t ask answer k a.mine means.1 in
      let node = call_node i c t in
      let client = call_client i c t a.busy a.full in
      let v = call_given i c t in
      let u = call_heard i c t in
      let r = reply (set f) i (w.versions i (asked i c t).block) (asked i c t) in
      let same : IsDesk (set f) v c (g.desks c) = record { life = h.life; started = h.started; crashed = h.crashed; task = h.task; full = h.full } in
      let agreed : Agrees (set f) u next =
      agree_node b u (λ m there. subst (λ (o : Option Task). Contains (only_place (set f) (all_happen (set f) w (n + 1) (call_events (set f) w c i o)) (n + 1)).pool m) a.busy (pool_grows b (Calls c i) m there)) i
      (after (g.nodes i) (Answered ask answer)) (called g.desks n (side (Answered ask answer)))
      (λ _. same_node (set f) v u i (after (g.nodes i) (Answered ask answer)) (ap (λ (x : ℕ → ℕ → List Version). x i) client.versions) (ap (λ (x : ℕ → Bool). x i) client.nodes)
      (node_after i (after (g.nodes i) (Answered ask answer)) (Asks (asked i c t)) v k node (ap (λ (m : Message). served (g.nodes i).node m.body) a.mine) refl))
      (λ j other up. same_node (set f) w u j (g.nodes j) (ap (λ (x : ℕ → ℕ → List Version). x j) client.versions ∙ node.others j other) (ap (λ (x : ℕ → Bool). x j) client.nodes) (b.agrees.nodes j up))
      (λ x right. at_update (λ (y : ℕ) (d : DeskState). f.clients y ≡ false → IsDesk (set f) u y d) g.desks c (desk_after (g.desks c) n (Call ByCall ask (Some answer))) x
      (λ _ _. subst (λ (m : Message). IsDesk (set f) u c (desk_told (g.desks c) n (Some m))) (sym heard_it)
      (told_desk b.laws f v u c n (g.desks c) t (told i c t) r same (b.fixed.desks c) a.seen refl refl client))
      (λ other good. other_desk (set f) v u c _ client x (g.desks x) other (same_desk (set f) w v x (g.desks x) refl refl refl refl (b.agrees.desks x good))) right)
      (λ m up running there. subst (λ (o : Option Task). Contains (only_place (set f) (all_happen (set f) w (n + 1) (call_events (set f) w c i o)) (n + 1)).pool m) a.busy (pool_grows b (Calls c i) m (b.agrees.sent i m up running there))) in
      record {
        fits = tt;
        fine = b.laws.taken (set f) w (n + 1) (Calls c i) tt (
          (task_now i c t, a.busy),
          subst (λ (o : Option Task). AllAllowed (set f) w (n + 1) (call_events (set f) w c i o)) (sym a.busy) (call_allowed i c t a.busy below here.0 here.2 number correct (h.crashed ∙ desk.0)),
        );
        agrees = subst (λ (o : Option Task). Agrees (set f) (only_place (set f) (all_happen (set f) w (n + 1) (call_events (set f) w c i o)) (n + 1)) next) (sym a.busy) agreed;
      }

  -- what a lying client does is no correct client's
  liar_desks : (v : World) → v.life ≡ w.life → v.started ≡ w.started → v.client_crashed ≡ w.client_crashed → v.task ≡ w.task → (c : ℕ) (act : DeskAct) → f.clients c ≡ true
      → (x : ℕ) → f.clients x ≡ false → IsDesk (set f) v x (called g.desks n (Some (c, act)) x)
  liar_desks v l st cr t c act lying x right = at_update (λ (y : ℕ) (d : DeskState). f.clients y ≡ false → IsDesk (set f) v y d) g.desks c (desk_after (g.desks c) n act) x
      (λ _ h. absurd (cc))
      (λ _ h. same_desk (set f) w v x (g.desks x) (ap (λ (z : ℕ → ℕ). z x) l) (ap (λ (z : ℕ → ℕ). z x) st) (ap (λ (z : ℕ → Bool). z x) cr) (ap (λ (z : ℕ → Option Task). z x) t) (b.agrees.desks x h))
      right

  -- ---- an answer to a lying client
  poke : (i : ℕ) (ask answer : Message) → i < f.config.n → IsAct (f.conduct.nature i) (g.nodes i) (Answered ask answer) → IsClient (set f) ask.client → f.clients ask.client ≡ true → IsFormedBody ask.body
      → Taken f w n (Poke ask) (cluster_after g n (AtNode i (Answered ask answer)))
  poke i ask answer below is number lying formed =
      let there : ask.node ≡ i = is.comes.0 ∙ (b.fixed.nodes i).number in
      let means = means_answered (g.nodes i) (f.conduct.nature i) ask answer is.done in
      let here = node_here i means.0 in
      let v = sent (set f) w (n + 1) (ask ∷ []) in
      let u = plays (set f) w (n + 1) (Poke ask) in
      let node : OnlyNode w u ask.node (answering (set f) ask.node (w.versions ask.node) ask.body) = of_sent ask.node (given (set f) v (n + 1) ask.node ask ask.body) (answering (set f) ask.node (w.versions ask.node) ask.body) (given_only (set f) v (n + 1) ask.node ask ask.body) in
      let own : OnlyNode w u i (answering (set f) i (w.versions i) ask.body) = subst (λ (j : ℕ). OnlyNode w u j (answering (set f) j (w.versions j) ask.body)) there node in
      let inside : ask.node < f.config.n = rw there below in
      let upright : f.nodes ask.node ≡ false = rw there here.0 in
      let up : w.node_crashed ask.node ≡ false = rw there here.2 in
      record {
        fits = formed;
        fine = b.laws.taken (set f) w (n + 1) (Poke ask) formed (
          tt,
          (
            (place_at_most_next b, inside, number, subst (λ (x : Body). IsOfLiar (set f) x ask) (sym is.comes.2) lying, formed),
            (record { later = omega arith; node = inside; honest = upright; up = up; sent = Contains-push w.pool ask; asks = (refl, is.comes.1, is.comes.2) }, tt),
          ),
        );
        agrees = agree_node b u (pool_grows b (Poke ask)) i (after (g.nodes i) (Answered ask answer)) (called g.desks n (side (Answered ask answer)))
            (λ _. node_after i (after (g.nodes i) (Answered ask answer)) ask.body u here.1 own refl refl)
            (λ j other good. same_node (set f) w u j (g.nodes j) (own.others j other) (ap (λ (x : ℕ → Bool). x j) own.nodes) (b.agrees.nodes j good))
            (liar_desks u own.life own.started own.clients own.task ask.client (Call ByCall ask (Some answer)) lying)
            (λ m good running there. pool_grows b (Poke ask) m (b.agrees.sent i m good running there));
      }
    where
      of_sent : (i : ℕ) (v : World) (vs : ℕ → List Version) → OnlyNode (sent (set f) w (n + 1) (ask ∷ [])) v i vs → OnlyNode w (only_place (set f) v (n + 1)) i vs
      of_sent i v vs h = record { own = h.own; others = h.others; nodes = h.nodes; task = h.task; life = h.life; started = h.started; clients = h.clients; records = h.records }

  pub answered : (i k : ℕ) (ask answer : Message) → Goes (set f) f.conduct g (AtNode i (Answered ask answer)) → Taken f w n (line_of (set f) k (AtNode i (Answered ask answer))) (cluster_after g n (AtNode i (Answered ask answer)))
  answered i k ask answer goes = at (f.clients ask.client) refl goes.2.1
    where
      at : (lying : Bool) → f.clients ask.client ≡ lying → ActsAs lying (g.desks ask.client) (Call ByCall ask (Some answer)) → Taken f w n (cond lying (Poke ask) (Calls ask.client i)) (cluster_after g n (AtNode i (Answered ask answer)))
      at true e h = poke i ask answer goes.0 goes.1 goes.2.0 e h.2
      at false e h = call i ask answer goes.0 goes.1 goes.2.0 e h

  -- ---- a lie to a correct client

  -- what a liar tells is a lie in the node's name
  pub lie_here : (i : ℕ) (ask answer : Message) → IsAct (f.conduct.nature i) (g.nodes i) (Lied ask answer) → (f.nodes i ≡ true) × (ask.node ≡ i) × IsLie ask answer
  lie_here i ask answer is =
      let q = told_lie (g.nodes i) (f.conduct.nature i) ask answer is.done in
      let e : answer_to (g.nodes i).node.config q.1 ask (Asks is.comes.1) ≡ Some answer = subst (λ (x : Body). answer_to (g.nodes i).node.config q.1 ask x ≡ Some answer) is.comes.2 q.2 in
      let o : answer_to f.config q.1 ask (Asks is.comes.1) ≡ Some answer = subst (λ (x : Numbers). answer_to x q.1 ask (Asks is.comes.1) ≡ Some answer) (b.fixed.nodes i).config e in (
        lying_by f b.behave i q.0,
        is.comes.0 ∙ (b.fixed.nodes i).number,
        lie_is ask answer (false_reply (set f) q.1 ask.node (is.comes.1).request) (b.laws.formed f.config f.nodes f.clients b.cluster q.1 ask.node (is.comes.1).request) o,
      )

  tell : (i : ℕ) (ask answer : Message) → i < f.config.n → IsAct (f.conduct.nature i) (g.nodes i) (Lied ask answer) → IsClient (set f) ask.client → f.clients ask.client ≡ false → DeskGoes (g.desks ask.client) (Call ByCall ask (Some answer))
      → Taken f w n (Tell answer) (cluster_after g n (AtNode i (Lied ask answer)))
  tell i ask answer inside is number correct desk =
      let c = ask.client in
      let next = cluster_after g n (AtNode i (Lied ask answer)) in
      let liar = lie_here i ask answer is in
      let lie = liar.2 in
      let node : answer.node ≡ i = lie.node ∙ liar.1 in
      let h = b.agrees.desks c correct in
      let a = asked_now i ask liar.1 correct desk in
      let t = a.task in
      let v = sent (set f) w (n + 1) (answer ∷ []) in
      let u = only_place (set f) (heard (set f) v (n + 1) c answer (Answers lie.told)) (n + 1) in
      let same : IsDesk (set f) v c (g.desks c) = record { life = h.life; started = h.started; crashed = h.crashed; task = h.task; full = h.full } in
      let client = place_client (set f) v (heard (set f) v (n + 1) c answer (Answers lie.told)) (n + 1) c _ (heard_only b.laws (set f) v (n + 1) c ((g.desks c).began + 1) t a.busy a.full answer lie.told) in
      let more = λ (m : Message) (there : Contains w.pool m). subst (λ (x : Body). Contains (only_place (set f) (heard (set f) v (n + 1) c answer x) (n + 1)).pool m) lie.answers
      (subst (λ (x : ℕ). Contains (only_place (set f) (heard (set f) v (n + 1) x answer answer.body) (n + 1)).pool m) lie.client (pool_grows b (Tell answer) m there)) in
      let formed : IsFormedBody answer.body = subst IsFormedBody (sym lie.answers) lie.formed in
      let below : answer.node < f.config.n = rw node inside in
      let lying : f.nodes answer.node ≡ true = rw node liar.0 in
      let numbered : IsClient (set f) answer.client = subst (IsClient (set f)) (sym lie.client) number in
      let upright : f.clients answer.client ≡ false = rw (lie.client) correct in
      let running : w.client_crashed answer.client ≡ false = rw (lie.client) (h.crashed ∙ desk.0) in
      let agreed : Agrees (set f) u next =
      agree_node b u more i (after (g.nodes i) (Lied ask answer)) (called g.desks n (side (Lied ask answer)))
      (λ good. absurd (let q = liar.0 in cc))
      (λ j other good. same_node (set f) w u j (g.nodes j) (ap (λ (x : ℕ → ℕ → List Version). x j) client.versions) (ap (λ (x : ℕ → Bool). x j) client.nodes) (b.agrees.nodes j good))
      (λ x right. at_update (λ (y : ℕ) (d : DeskState). f.clients y ≡ false → IsDesk (set f) u y d) g.desks c (desk_after (g.desks c) n (Call ByCall ask (Some answer))) x
      (λ _ _. told_desk b.laws f v u c n (g.desks c) t answer lie.told same (b.fixed.desks c) a.seen lie.client lie.answers client)
      (λ other good. other_desk (set f) v u c _ client x (g.desks x) other (same_desk (set f) w v x (g.desks x) refl refl refl refl (b.agrees.desks x good))) right)
      (λ m good up there. more m (b.agrees.sent i m good up there)) in
      record {
        fits = formed;
        fine = b.laws.taken (set f) w (n + 1) (Tell answer) formed (
          tt,
          (
            (place_at_most_next b, below, numbered, subst (λ (x : Body). IsOfLiar (set f) x answer) (sym lie.answers) lying, formed),
            (record { later = omega arith; client = numbered; correct = upright; up = running; sent = Contains-push w.pool answer; answers = (refl, lie.told, lie.answers) }, tt),
          ),
        );
        agrees = subst (λ (x : ℕ). Agrees (set f) (only_place (set f) (heard (set f) v (n + 1) x answer answer.body) (n + 1)) next) (sym lie.client)
            (subst (λ (x : Body). Agrees (set f) (only_place (set f) (heard (set f) v (n + 1) c answer x) (n + 1)) next) (sym lie.answers) agreed);
      }

  -- ---- a lie to a lying client
  lie_lost : (i : ℕ) (ask answer : Message) → f.clients ask.client ≡ true → Taken f w n (Lost ask.client i) (cluster_after g n (AtNode i (Lied ask answer)))
  lie_lost i ask answer lying = record {
    fits = tt;
    fine = lost_fine b ask.client i;
    agrees = lost_agrees b ask.client i (after (g.nodes i) (Lied ask answer)) (called g.desks n (side (Lied ask answer))) refl refl
        (liar_desks (plays (set f) w (n + 1) (Lost ask.client i)) refl refl refl refl ask.client (Call ByCall ask (Some answer)) lying) (λ m good up there. b.agrees.sent i m good up there);
  }

  pub lied : (i k : ℕ) (ask answer : Message) → Goes (set f) f.conduct g (AtNode i (Lied ask answer)) → Taken f w n (line_of (set f) k (AtNode i (Lied ask answer))) (cluster_after g n (AtNode i (Lied ask answer)))
  lied i k ask answer goes = at (f.clients ask.client) refl goes.2.1
    where
      at : (lying : Bool) → f.clients ask.client ≡ lying → ActsAs lying (g.desks ask.client) (Call ByCall ask (Some answer)) → Taken f w n (cond lying (Lost ask.client i) (Tell answer)) (cluster_after g n (AtNode i (Lied ask answer)))
      at true e h = lie_lost i ask answer e
      at false e h = tell i ask answer goes.0 goes.1 goes.2.0 e h

  -- ---- a node's crash

  -- whose count is used up doesn't lie
  spent_is_honest : (i : ℕ) → is_spent (g.nodes i).crash_after ≡ true → f.nodes i ≡ false
  spent_is_honest i used = at (f.nodes i) refl
    where
      at : (lying : Bool) → f.nodes i ≡ lying → lying ≡ false
      at false e = refl
      at true e = absurd (let q = ap is_spent (b.fixed.lasting i e) in cc)

  crash_taken : (i : ℕ) (ask : Message) (late : Bool) (desks : ℕ → DeskState) → i < f.config.n → (g.nodes i).crashed ≡ false → is_spent (g.nodes i).crash_after ≡ true
      → ((x : ℕ) → f.clients x ≡ false → IsDesk (set f) (plays (set f) w (n + 1) (CrashNode i)) x (desks x))
      → Taken f w n (CrashNode i) (record { nodes = update g.nodes i (after (g.nodes i) (CrashedAt ask late)); desks = desks })
  crash_taken i ask late desks below up used clients =
      let good = spent_is_honest i used in
      let u = plays (set f) w (n + 1) (CrashNode i) in
      record {
        fits = tt;
        fine = b.laws.taken (set f) w (n + 1) (CrashNode i) tt (tt, ((place_at_most_next b, below, good, (b.agrees.nodes i good).crashed ∙ up), tt));
        agrees = agree_node b u (pool_grows b (CrashNode i)) i (after (g.nodes i) (CrashedAt ask late)) desks
            (λ _. record { versions = (b.agrees.nodes i good).versions; crashed = update-same w.node_crashed i true })
            (λ j other right. same_node (set f) w u j (g.nodes j) refl (update-other w.node_crashed i true j other) (b.agrees.nodes j right))
            clients (λ m _ crashed there. absurd (cc));
      }

  pub crash_node : (i : ℕ) (ask : Message) (late : Bool) → Goes (set f) f.conduct g (AtNode i (CrashedAt ask late)) → Taken f w n (CrashNode i) (cluster_after g n (AtNode i (CrashedAt ask late)))
  crash_node i ask true goes =
      let q = crashed_late (g.nodes i) (f.conduct.nature i) ask goes.1.done in
      crash_taken i ask true g.desks goes.0 q.0 q.1 (λ x right. same_desk (set f) w (plays (set f) w (n + 1) (CrashNode i)) x (g.desks x) refl refl refl refl (b.agrees.desks x right))
  crash_node i ask false goes =
      let q = crashed_called (g.nodes i) (f.conduct.nature i) ask goes.1.done in
      crash_taken i ask false (called g.desks n (side (CrashedAt ask false))) goes.0 q.0 q.1 (silent_desks b (plays (set f) w (n + 1) (CrashNode i)) refl refl refl refl ask.client ByCall ask)

  -- ---- a late delivery
  pub delivered : (i k : ℕ) (ask answer : Message) → IsFirst w.pool ask k → Goes (set f) f.conduct g (AtNode i (Delivered ask answer)) → Taken f w n (Give i k) (cluster_after g n (AtNode i (Delivered ask answer)))
  delivered i k ask answer first goes =
      let next = cluster_after g n (AtNode i (Delivered ask answer)) in
      let is = goes.1 in
      let means = means_delivered (g.nodes i) (f.conduct.nature i) ask answer is.done in
      let here = node_here i means.0 in
      let oldest = is.comes.1 in
      let was : Contains w.pool ask = b.agrees.sent i ask here.0 means.0.up (subst (λ (xs : List Message). Contains xs ask) (sym oldest.1) (Contains-head ask oldest.0)) in
      let there : slice_get w.pool k ≡ Some ask = elim first [ inl h ↦ h.0 | inr h ↦ absurd (let q = place_of w.pool ask was in h.0 q.0 q.1) ] in
      let u = only_place (set f) (given (set f) w (n + 1) i ask ask.body) (n + 1) in
      let node = place_node (set f) w (given (set f) w (n + 1) i ask ask.body) (n + 1) i _ (given_only (set f) w (n + 1) i ask ask.body) in
      let more = λ (m : Message) (x : Contains w.pool m). subst (λ (o : Option Message). Contains (only_place (set f) (all_happen (set f) w (n + 1) (given_at (set f) w i o)) (n + 1)).pool m) there (pool_grows b (Give i k) m x) in
      let agreed : Agrees (set f) u next =
      agree_node b u more i (after (g.nodes i) (Delivered ask answer)) g.desks
      (λ _. node_after i (after (g.nodes i) (Delivered ask answer)) ask.body u here.1 node refl refl)
      (λ j other good. same_node (set f) w u j (g.nodes j) (node.others j other) (ap (λ (x : ℕ → Bool). x j) node.nodes) (b.agrees.nodes j good))
      (λ x right. same_desk (set f) w u x (g.desks x) (ap (λ (z : ℕ → ℕ). z x) node.life) (ap (λ (z : ℕ → ℕ). z x) node.started) (ap (λ (z : ℕ → Bool). z x) node.clients) (ap (λ (z : ℕ → Option Task). z x) node.task) (b.agrees.desks x right))
      (λ m good up rest. more m (b.agrees.sent i m good up (of_rest (g.nodes i).late m rest))) in
      record {
        fits = tt;
        fine = b.laws.taken (set f) w (n + 1) (Give i k) tt (
          slice_get_within w.pool k ask there,
          subst (λ (o : Option Message). AllAllowed (set f) w (n + 1) (given_at (set f) w i o)) (sym there) (record { later = place_at_most_next b; node = goes.0; honest = here.0; up = here.2; sent = was; asks = (is.comes.0.0 ∙ (b.fixed.nodes i).number, is.comes.0.1, is.comes.0.2) }, tt),
        );
        agrees = subst (λ (o : Option Message). Agrees (set f) (only_place (set f) (all_happen (set f) w (n + 1) (given_at (set f) w i o)) (n + 1)) next) (sym there) agreed;
      }
