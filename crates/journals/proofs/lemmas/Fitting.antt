-- The line of an entry of kept journals is one of their configuration.
use Rattle.std.proofs.Common.{◌≡◌, ℕ, ◌<◌, Bool, true, false, cond, List, [], ◌∷◌, refl, sym, subst, inl, inr}
use Rattle.std.specs.declared.option.Option.TheVariants.{Some}
use Rattle.std.specs.List.{Contains}
use Rattle.std.proofs.lemmas.List.{length-replicate}
use Rattle.quorum_rules.specs.Limits.{Numbers}
use Rattle.wire_forms.specs.Liars.{has_number}
use Rattle.wire_forms.specs.declared.op.Op.{Op}
use Rattle.wire_forms.specs.declared.op.Op.TheVariants.{Read as ReadOp, Write as WriteOp}
use Rattle.wire_forms.specs.declared.Body.TheVariants.{Ask as Asks}
use Rattle.protocol.specs.Messages.{IsFormedBody, Body}
use Rattle.protocol.specs.Setting.{IsBlock}
use Rattle.protocol.specs.Laws.{InEachCluster, FalseIsFormed}
use Rattle.protocol.specs.Instance.{setting, setting_of}
use Rattle.protocol.specs.Lines.{FitsLine, false_reply, start_line}
use Rattle.run_words.specs.declared.line.Line.TheVariants.{Call as Calls, Lost, Tell, Poke}
use Rattle.liar_rules.specs.Answers.{answer_to}
use Rattle.journals.specs.declared.node.NodeAct.TheVariants.{Answered, Lied, Silent, CrashedAt, Delivered, LateLost, Pruned}
use Rattle.journals.specs.declared.desk.DeskAct.TheVariants.{Start, Crash, Call}
use Rattle.journals.specs.declared.desk.Way.TheVariants.{Call as ByCall}
use Rattle.journals.specs.Acts.{NodeEntry, Nature, NodeState, new_state, after, IsAct, NodeKept}
use Rattle.journals.specs.Desks.{DeskEntry, DeskState, new_desk, desk_after, ActsAs, DeskKept}
use Rattle.journals.specs.Steps.Step.{AtNode, AtDesk}
use Rattle.journals.specs.Journals.{setting_for, at_node, at_desk}
use Rattle.journals.specs.Merged.{AllFit}
use Rattle.journals.proofs.lemmas.Acting.{IsOf, after_is_of, told_lie, lie_is}
use Rattle.journals.proofs.Frames.{IsFor, desk_is_for}
use Rattle.lists.proofs.lemmas.Members.{Contains-none, Contains-cons_cases}

-- each entry of a kept journal was done by the node at some moment
pub node_once : (c : Numbers) (i : ℕ) (nature : Nature) (es : List NodeEntry) (d : NodeState) → IsOf c i d.node → NodeKept nature d es → (x : NodeEntry) → Contains es x → (s : NodeState) × IsOf c i s.node × IsAct nature s x.act
node_once c i nature [] d of h x there = absurd (Contains-none x there)
node_once c i nature (e ∷ es) d of h x there =
    let rest = node_once c i nature es (after d e.act) (after_is_of c i d e.act of) h.1 x in
    elim (Contains-cons_cases x e es there) [ inl k ↦ (d, of, subst (λ (y : NodeEntry). IsAct nature d y.act) (sym k) h.0) | inr k ↦ rest k ]

desk_once : (config : Numbers) (c : ℕ) (lying : Bool) (es : List DeskEntry) (d : DeskState) → IsFor config c d.client → DeskKept lying d es → (x : DeskEntry) → Contains es x → (s : DeskState) × IsFor config c s.client × ActsAs lying s x.act
desk_once config c lying [] d own h x there = absurd (Contains-none x there)
desk_once config c lying (e ∷ es) d own h x there =
    let rest = desk_once config c lying es (desk_after d e.number e.act) (desk_is_for config c e.number d e.act own) h.1 x in
    elim (Contains-cons_cases x e es there) [ inl k ↦ (d, own, subst (λ (y : DeskEntry). ActsAs lying d y.act) (sym k) h.0) | inr k ↦ rest k ]

start_fits : (config : Numbers) (c : ℕ) (nodes clients : ℕ → Bool) (op : Op) (lying : Bool) (d : DeskState) → IsFor config c d.client → ActsAs lying d (Start op) → FitsLine (setting_of config nodes clients) (start_line c op)
start_fits config c nodes clients op true d own h = absurd h
start_fits config c nodes clients (ReadOp block) false d own h = subst (λ (x : Numbers). block < x.blocks) own.cluster h.1.fits.block
start_fits config c nodes clients (WriteOp block value) false d own h = (subst (λ (x : Numbers). block < x.blocks) own.cluster h.1.fits.block, subst (λ (x : Numbers). IsBlock (setting x) value) own.cluster h.1.fits.fits)

pub all_fit : InEachCluster FalseIsFormed → AllFit
all_fit formed conduct j cluster kept pairs n (AtDesk c (Start op)) h k =
    let q = desk_once j.config c (has_number j.liars.clients c) (at_desk j c) (new_desk j.config c) (record { cluster = refl; number = refl }) (kept.desks c).goes (record { number = n; act = Start op }) h.1 in
    start_fits j.config c (has_number j.liars.nodes) (has_number j.liars.clients) op (has_number j.liars.clients c) q.0 q.1 q.2
all_fit formed conduct j cluster kept pairs n (AtDesk c Crash) h k = tt
all_fit formed conduct j cluster kept pairs n (AtDesk c (Call way ask answer)) h k = tt
all_fit formed conduct j cluster kept pairs n (AtNode i (Answered ask answer)) h k =
    let there = pairs.called i ask.client (record { number = n; act = Answered ask answer }) (Call ByCall ask (Some answer)) h refl in
    let q = desk_once j.config ask.client (has_number j.liars.clients ask.client) (at_desk j ask.client) (new_desk j.config ask.client) (record { cluster = refl; number = refl }) (kept.desks ask.client).goes (record { number = n; act = Call ByCall ask (Some answer) }) there in
    at (has_number j.liars.clients ask.client) q.0 q.2
  where
    at : (lying : Bool) (d : DeskState) → ActsAs lying d (Call ByCall ask (Some answer)) → FitsLine (setting_for j) (cond lying (Poke ask) (Calls ask.client i))
    at true d x = x.2
    at false d x = tt
all_fit formed conduct j cluster kept pairs n (AtNode i (Lied ask answer)) h k =
    let q = node_once j.config i (conduct.nature i) (at_node j i) (new_state j.config i (conduct.crash_after i)) (record { config = refl; number = refl; count = length-replicate j.config.blocks _ }) (kept.nodes i).goes (record { number = n; act = Lied ask answer }) h in
    let told = told_lie q.0 (conduct.nature i) ask answer q.2.done in
    let e : answer_to q.0.node.config told.1 ask (Asks q.2.comes.1) ≡ Some answer = subst (λ (x : Body). answer_to q.0.node.config told.1 ask x ≡ Some answer) q.2.comes.2 told.2 in
    let o : answer_to j.config told.1 ask (Asks q.2.comes.1) ≡ Some answer = subst (λ (x : Numbers). answer_to x told.1 ask (Asks q.2.comes.1) ≡ Some answer) q.1.config e in
    let lie = lie_is ask answer (false_reply (setting_for j) told.1 ask.node (q.2.comes.1).request) (formed j.config (has_number j.liars.nodes) (has_number j.liars.clients) cluster told.1 ask.node (q.2.comes.1).request) o in
    at (has_number j.liars.clients ask.client) (subst IsFormedBody (sym lie.answers) lie.formed)
  where
    at : (lying : Bool) → IsFormedBody answer.body → FitsLine (setting_for j) (cond lying (Lost ask.client i) (Tell answer))
    at true x = tt
    at false x = x
all_fit formed conduct j cluster kept pairs n (AtNode i (Silent ask why)) h k = tt
all_fit formed conduct j cluster kept pairs n (AtNode i (LateLost ask)) h k = tt
all_fit formed conduct j cluster kept pairs n (AtNode i (CrashedAt ask late)) h k = tt
all_fit formed conduct j cluster kept pairs n (AtNode i (Delivered ask answer)) h k = tt
all_fit formed conduct j cluster kept pairs n (AtNode i (Pruned block stamp)) h k =
    let q = node_once j.config i (conduct.nature i) (at_node j i) (new_state j.config i (conduct.crash_after i)) (record { config = refl; number = refl; count = length-replicate j.config.blocks _ }) (kept.nodes i).goes (record { number = n; act = Pruned block stamp }) h in
    subst (λ (x : Numbers). block < x.blocks) q.1.config q.2.comes.1
