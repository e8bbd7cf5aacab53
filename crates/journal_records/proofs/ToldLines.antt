-- The lines of a plan's journals are told.
use Rattle.std.proofs.Common.{◌≡◌, ℕ, ◌+◌, ◌<◌, ◌≤◌, Bool, true, false, cond, List, [], ◌∷◌, map, Option, refl, sym, ◌∙◌, subst, ap, arith}
use Rattle.std.specs.declared.option.Option.TheVariants.{None, Some}
use Rattle.std.specs.List.{Contains, AllByRecursion}
use Rattle.std.proofs.lemmas.List.{length-replicate}
use Rattle.quorum_rules.specs.Limits.{Numbers, IsOfScripts}
use Rattle.quorum_rules.proofs.lemmas.FaultLaws.{script_size_at_most}
use Rattle.wire_forms.specs.Liars.{Liars, has_number, IsClientNumber}
use Rattle.message_texts.specs.Texts.{HasLimits}
use Rattle.wire_forms.specs.declared.op.Op.TheVariants.{Read as ReadOp, Write as WriteOp}
use Rattle.wire_forms.specs.declared.Body.{Body}
use Rattle.wire_forms.specs.declared.Body.TheVariants.{Ask as Asks, Answer as Answers}
use Rattle.run_words.specs.declared.line.Line.{Line}
use Rattle.run_words.specs.declared.line.Line.TheVariants.{Call as Calls, Lost, Tell, Poke}
use Rattle.event_lines.specs.Messages.{is_answer}
use Rattle.protocol.specs.Messages.{Message, Reply}
use Rattle.protocol.specs.Setting.{IsValid}
use Rattle.protocol.specs.Instance.{setting, nobody, IsCluster}
use Rattle.protocol.specs.World.{World, start_world}
use Rattle.protocol.specs.Count.{count}
use Rattle.protocol.specs.Lines.{FitsLine, false_reply}
use Rattle.protocol.specs.Laws.{InEachCluster}
use Rattle.liar_rules.specs.Answers.{answer_to, replied}
use Rattle.journals.specs.declared.whole.Journals.{Journals}
use Rattle.journals.specs.declared.node.NodeAct.TheVariants.{Answered, Lied, Silent, CrashedAt, Delivered, LateLost, Pruned}
use Rattle.journals.specs.declared.desk.DeskAct.TheVariants.{Start, Crash, Call}
use Rattle.journals.specs.declared.desk.Way.TheVariants.{Call as ByCall}
use Rattle.journals.specs.declared.node.NodeAct.{NodeAct}
use Rattle.journals.specs.declared.node.NodeEntry.{NodeEntry}
use Rattle.journals.specs.Acts.{new_state, way_of}
use Rattle.journals.specs.declared.desk.DeskAct.{DeskAct}
use Rattle.journals.specs.declared.desk.DeskEntry.{DeskEntry}
use Rattle.journals.specs.Steps.{Step, side}
use Rattle.journals.specs.Steps.Step.{AtNode, AtDesk}
use Rattle.journals.specs.Merging.{line_of, next_world, Merged}
use Rattle.journals.specs.Journals.{setting_for, at_node, at_desk, IsEntry, AreOfRun}
use Rattle.journals.specs.Merged.{AllFit}
use Rattle.journals.proofs.lemmas.Acting.{told_lie}
use Rattle.plan_words.specs.declared.plan.Plan.{Plan}
use Rattle.plan_followed.specs.Asked.{conduct_of}
use Rattle.plan_followed.specs.Clients.{LiarFollows}
use Rattle.plan_followed.specs.Followed.{AreOfPlan, FollowsAs}
use Rattle.plan_followed.specs.Laws.{PlansRun}
use Rattle.journal_records.specs.Told.{IsTold, LinesAreTold}
use Rattle.journal_records.proofs.Late.{late_lost}
use Rattle.journal_records.proofs.Short.{IsShortAsk, share_few, reply_short, messages_short, asked_there}
use Rattle.lists.proofs.lemmas.Members.{Contains-head, Contains-none, Contains-rest}
use Rattle.journals.proofs.lemmas.Fitting.{node_once}
use Rattle.journals.proofs.lemmas.Projections.{there_below}
use Rattle.protocol.proofs.lemmas.Counting.{nobody_counts}

-- a lie is a short answer
lie_short : (ask reply : Message) (o : Option Reply) → ((told : Reply) → o ≡ Some told → HasLimits (Answers told)) → replied ask o ≡ Some reply → HasLimits reply.body × (is_answer reply.body ≡ true)
lie_short ask reply None f e = absurd (cc)
lie_short ask reply (Some told) f e =
    let q : record { client = ask.client; node = ask.node; tag = ask.tag; body = Answers told } ≡ reply = cc in
    subst (λ (m : Message). HasLimits m.body × (is_answer m.body ≡ true)) q (f told refl, refl)

module _ (valid : InEachCluster IsValid) (fits : AllFit) (plan : Plan) (j : Journals) (drawn : ℕ) (known : IsOfScripts plan.config) (h : AreOfPlan plan j drawn) (of : AreOfRun (conduct_of plan.rules) j) where
  c : Numbers
  c = j.config

  short_share : (setting_for j).share ≤ 16384
  short_share =
      share_few j.config.m j.config.size of.cluster.config.shares.0
      (script_size_at_most j.config of.cluster.config (subst IsOfScripts (sym h.follows.are_for.config) known))

  client_at : (k : ℕ) (e : DeskEntry) → Contains (at_desk j k) e → IsClientNumber k
  client_at k e there = of.follow.clients k e there

  caller : (i n : ℕ) (act : NodeAct) → Contains (at_node j i) (record { number = n; act = act }) → (k : ℕ) (d : DeskAct) → side act ≡ Some (k, d) → IsClientNumber k
  caller i n act there k d is = client_at k (record { number = n; act = d }) (of.pairs.called i k (record { number = n; act = act }) d there is)

  node_low : (i : ℕ) (x : NodeEntry) → Contains (at_node j i) x → i < j.config.n
  node_low i x there = let l = there_below j.nodes i x there in let e = of.kept.count in omega (arith, l, e)

  late_client : (i n : ℕ) (ask : Message) → Contains (at_node j i) (record { number = n; act = LateLost ask }) → IsClientNumber ask.client
  late_client i n ask there =
      late_lost IsClientNumber ((conduct_of plan.rules).nature i) (at_node j i) (new_state j.config i ((conduct_of plan.rules).crash_after i)) (of.kept.nodes i).goes
      (λ x k. caller i x.number x.act k) (λ m k. absurd (Contains-none m k)) n ask there

  asks_short : (i n : ℕ) (ask reply : Message) → has_number j.liars.clients ask.client ≡ true → Contains (at_node j i) (record { number = n; act = Answered ask reply }) → IsShortAsk ask
  asks_short i n ask reply lies there =
      let desk = of.pairs.called i ask.client (record { number = n; act = Answered ask reply }) (Call ByCall ask (Some reply)) there refl in
      let lying : has_number plan.liars.clients ask.client ≡ true = ap (λ (l : Liars). has_number l.clients ask.client) (sym h.follows.are_for.liars) ∙ lies in
      let follows : LiarFollows plan ask.client h.follows.phases (at_desk j ask.client) =
      subst (λ (b : Bool). FollowsAs b plan h.follows.phases ask.client (at_desk j ask.client)) lying (h.follows.clients ask.client) in
      let same : plan.config ≡ j.config = sym h.follows.are_for.config in
      let config = h.fits.valid in
      let share = share_few plan.config.m plan.config.size config.shares.0 (script_size_at_most plan.config config known) in
      let cluster : IsCluster plan.config nobody = record { config = config; few = (let none = nobody_counts plan.config.n in omega (arith, none)) } in
      let good : IsValid (setting plan.config) = valid plan.config nobody nobody cluster in
      let all = messages_short plan.config good config.nodes.1 share ask.client plan.rules h.fits.fitting.each_rule in
      asked_there IsShortAsk (at_desk j ask.client) (subst (AllByRecursion IsShortAsk) (sym follows.sends) all) n ByCall ask (Some reply) desk

  lies_short : (i n : ℕ) (ask reply : Message) → Contains (at_node j i) (record { number = n; act = Lied ask reply }) → HasLimits reply.body × (is_answer reply.body ≡ true)
  lies_short i n ask reply there =
      let conduct = conduct_of plan.rules in
      let q = node_once j.config i (conduct.nature i) (at_node j i) (new_state j.config i (conduct.crash_after i)) (record { config = refl; number = refl; count = length-replicate j.config.blocks _ }) (of.kept.nodes i).goes (record { number = n; act = Lied ask reply }) there in
      let told = told_lie q.0 (conduct.nature i) ask reply q.2.done in
      let e : answer_to q.0.node.config told.1 ask (Asks q.2.comes.1) ≡ Some reply = subst (λ (x : Body). answer_to q.0.node.config told.1 ask x ≡ Some reply) q.2.comes.2 told.2 in
      let o : answer_to j.config told.1 ask (Asks q.2.comes.1) ≡ Some reply = subst (λ (x : Numbers). answer_to x told.1 ask (Asks q.2.comes.1) ≡ Some reply) q.1.config e in
      let low : ask.node < (setting_for j).n = (let l = node_low i (record { number = n; act = Lied ask reply }) there in let a = q.2.comes.0 in let b = q.1.number in omega (arith, l, a, b)) in
      let good = valid j.config (has_number j.liars.nodes) (has_number j.liars.clients) of.cluster in
      lie_short ask reply (false_reply (setting_for j) told.1 ask.node (q.2.comes.1).request)
      (λ answer is. reply_short (setting_for j) good of.cluster.config.nodes.1 short_share told.1 ask.node (q.2.comes.1).request answer low is) o

  told_step : (n : ℕ) (e : Step) → IsEntry j n e → (k : ℕ) → IsTold j.config (line_of (setting_for j) k e)
  told_step n (AtDesk cl (Start (ReadOp block))) there k =
      let fit : FitsLine (setting_for j) (line_of (setting_for j) k (AtDesk cl (Start (ReadOp block)))) = fits (conduct_of plan.rules) j of.cluster of.kept of.pairs n (AtDesk cl (Start (ReadOp block))) there k in
      (client_at cl (record { number = n; act = Start (ReadOp block) }) there.1, fit)
  told_step n (AtDesk cl (Start (WriteOp block value))) there k =
      let fit : FitsLine (setting_for j) (line_of (setting_for j) k (AtDesk cl (Start (WriteOp block value)))) = fits (conduct_of plan.rules) j of.cluster of.kept of.pairs n (AtDesk cl (Start (WriteOp block value))) there k in
      (client_at cl (record { number = n; act = Start (WriteOp block value) }) there.1, fit.0, fit.1.0)
  told_step n (AtDesk cl Crash) there k = client_at cl (record { number = n; act = Crash }) there.1
  told_step n (AtDesk cl (Call way ask reply)) there k = absurd there.0
  told_step n (AtNode i (Answered ask reply)) there k = at (has_number j.liars.clients ask.client) refl
    where
      at : (b : Bool) → has_number j.liars.clients ask.client ≡ b → IsTold j.config (cond b (Poke ask) (Calls ask.client i))
      at true lies = asks_short i n ask reply lies there
      at false right = (caller i n (Answered ask reply) there ask.client (Call ByCall ask (Some reply)) refl, node_low i (record { number = n; act = Answered ask reply }) there)
  told_step n (AtNode i (Lied ask reply)) there k = at (has_number j.liars.clients ask.client)
    where
      at : (b : Bool) → IsTold j.config (cond b (Lost ask.client i) (Tell reply))
      at true = (caller i n (Lied ask reply) there ask.client (Call ByCall ask (Some reply)) refl, node_low i (record { number = n; act = Lied ask reply }) there)
      at false = lies_short i n ask reply there
  told_step n (AtNode i (Silent ask why)) there k = (caller i n (Silent ask why) there ask.client (Call (way_of why) ask None) refl, node_low i (record { number = n; act = Silent ask why }) there)
  told_step n (AtNode i (LateLost ask)) there k = (late_client i n ask there, node_low i (record { number = n; act = LateLost ask }) there)
  told_step n (AtNode i (CrashedAt ask late)) there k = node_low i (record { number = n; act = CrashedAt ask late }) there
  told_step n (AtNode i (Delivered ask reply)) there k = node_low i (record { number = n; act = Delivered ask reply }) there
  told_step n (AtNode i (Pruned block stamp)) there k =
      let fit : FitsLine (setting_for j) (line_of (setting_for j) k (AtNode i (Pruned block stamp))) = fits (conduct_of plan.rules) j of.cluster of.kept of.pairs n (AtNode i (Pruned block stamp)) there k in
      (node_low i (record { number = n; act = Pruned block stamp }) there, fit)

  told_all : (ps : List (ℕ × Step)) → ((p : ℕ × Step) → Contains ps p → IsEntry j p.0 p.1) → (w : Option World) (place : ℕ) (lines : List (ℕ × Line))
      → Merged (setting_for j) w place (map (λ p. p.1) ps) lines → AllByRecursion (λ l. IsTold j.config l.1) lines
  told_all [] all w place lines merged = subst (AllByRecursion (λ l. IsTold j.config l.1)) (sym merged) tt
  told_all (p ∷ ps) all w place lines merged =
      subst (AllByRecursion (λ l. IsTold j.config l.1)) (sym merged.3) (
        told_step p.0 p.1 (all p (Contains-head p ps)) merged.0,
        told_all ps (λ q k. all q (Contains-rest q p ps k)) (next_world (setting_for j) w (place + 1) (line_of (setting_for j) merged.0 p.1)) (place + 1) merged.1 merged.4,
      )

pub told : InEachCluster IsValid → AllFit → PlansRun → LinesAreTold
told valid fits runs plan j drawn lines known h merged =
    subst (λ (x : Numbers). AllByRecursion (λ l. IsTold x l.1) lines) h.follows.are_for.config
    (told_all valid fits plan j drawn known h (runs plan j drawn h) merged.0 (λ p k. (merged.1.entries p).0 k) (Some (start_world (setting_for j))) 0 lines merged.2)
