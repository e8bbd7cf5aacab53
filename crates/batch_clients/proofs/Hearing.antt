-- What a client's phase comes to, answer by answer.
use Rattle.std.proofs.Common.{◌≡◌, ◌⊎◌, inl, inr, add-one, ℕ, suc, ◌+◌, ◌-◌, Bool, true, false, cond, not, ◌&&◌, eqb, ltb, List, [], ◌∷◌, Option, refl, sym, ap, subst, ◌∙◌, arith}
use Rattle.std.specs.declared.option.Option.TheVariants.{None, Some}
use Rattle.std.proofs.lemmas.Bool.Decides.{nat_tests}
use Rattle.protocol.specs.Messages.{Reply, Tag, Message}
use Rattle.protocol.specs.Setting.{Setting}
use Rattle.protocol.specs.Instance.{setting}
use Rattle.protocol.specs.Operations.{Outcome, Decision, decide, answered, is_of_kind, is_answered}
use Rattle.protocol.specs.Operations.Decision.{GoesOn, Ends}
use Rattle.protocol.specs.Seen.{SeenTask, Hearing, task_at, answers_of, seen_counted, seen_goes_on, is_counted, by_decision, after_counting, hearing, phase_of, ops_of}
use Rattle.protocol.specs.Seen.Hearing.{Ignored, Counted, Begins, Ended}
use Rattle.operation_core.specs.Clients.{ClientView, with_task, hears}
use Rattle.client_core.specs.Clients.{IsHeard}
use Rattle.client_core.specs.declared.heard.Heard.{Heard}
use Rattle.client_core.specs.declared.heard.Heard.TheVariants.{Unchanged, More, Send, Ended as EndedWith}
use Rattle.client_core.proofs.lemmas.AnswersHeard.{told_is}
use Rattle.block_phases.specs.Phases.{tag_of, heard_from, progress, after_phase}
use Rattle.block_phases.specs.Phases.Progress.{UnderWay, Over}
use Rattle.batch_clients.specs.Parts.{answer_from, IsHeardFrom, HasCome}

old_tag : (a p n k w : Bool) → p ≡ false → a && p && n && k && w ≡ false
old_tag true true n k w h = absurd cc
old_tag true false n k w h = refl
old_tag false p n k w h = refl

module _ (s : Setting) where
  -- what begins is the next phase of the same operation, and what is counted is in the same phase
  begun_next : (b f : Bool) (v u : SeenTask) (d : Decision) → cond b (cond f (Counted v) (by_decision s v d)) Ignored ≡ Begins u → (u.phase ≡ v.phase + 1) × (u.op ≡ v.op)
  begun_next true true v u d e = absurd cc
  begun_next true false v u (GoesOn stage) e = let q : u ≡ seen_goes_on s v stage = cc in (ap (λ (x : SeenTask). x.phase) q, ap (λ (x : SeenTask). x.op) q)
  begun_next true false v u (Ends outcome) e = absurd cc
  begun_next false f v u d e = absurd cc

  counted_same : (b f : Bool) (v u : SeenTask) (d : Decision) → cond b (cond f (Counted v) (by_decision s v d)) Ignored ≡ Counted u → u ≡ v
  counted_same true true v u d e = cc
  counted_same true false v u (GoesOn stage) e = absurd cc
  counted_same true false v u (Ends outcome) e = absurd cc
  counted_same false f v u d e = absurd cc

  module _ (client : ℕ) (t u : SeenTask) (i : ℕ) (tag : Tag) (reply : Reply) where
    abbrev ends_with : Decision
    ends_with = decide s client (task_at 0 (seen_counted t i reply)) t.stage

    abbrev waits : Bool
    waits = ltb (answered s (λ j. answers_of (seen_counted t i reply) j)) (s.n - s.t)

    pub next_phase : hearing s client t i tag reply ≡ Begins u → (u.phase ≡ t.phase + 1) × (u.op ≡ t.op)
    next_phase e = begun_next (is_counted s t i tag reply) waits (seen_counted t i reply) u ends_with e

    pub same_phase : hearing s client t i tag reply ≡ Counted u → (u.phase ≡ t.phase) × (u.op ≡ t.op)
    same_phase e =
        let q = counted_same (is_counted s t i tag reply) waits (seen_counted t i reply) u ends_with e in
        (ap (λ (x : SeenTask). x.phase) q, ap (λ (x : SeenTask). x.op) q)

  module _ (client : ℕ) (tag : Tag) where
    ignored : (u : SeenTask) (i : ℕ) (reply : Reply) → eqb tag.phase u.phase ≡ false → hearing s client u i tag reply ≡ Ignored
    ignored u i reply h =
        ap (λ (b : Bool). cond b (after_counting s client (seen_counted u i reply)) Ignored)
        (old_tag (eqb tag.op u.op) (eqb tag.phase u.phase) (ltb i s.n) (is_of_kind u.stage reply) (not (is_answered (answers_of u i))) h)

    -- an answer to an earlier phase changes nothing, and none does once the operation is over
    pub late : (u : SeenTask) (i : ℕ) (replies : List (Option Reply)) → eqb tag.phase u.phase ≡ false → heard_from s client tag (UnderWay u) i replies ≡ UnderWay u
    late u i [] h = refl
    late u i (None ∷ rest) h = late u (suc i) rest h
    late u i (Some reply ∷ rest) h = ap (λ (x : Hearing). heard_from s client tag (progress s u x) (suc i) rest) (ignored u i reply h) ∙ late u (suc i) rest h

    pub over : (outcome : Outcome) (i : ℕ) (replies : List (Option Reply)) → heard_from s client tag (Over outcome) i replies ≡ Over outcome
    over outcome i [] = refl
    over outcome i (given ∷ rest) = over outcome (suc i) rest

-- the client has heard the answers before this node's, and is still in the phase
pub record IsHearing (old : ClientView) (t : SeenTask) (replies : List (Option Reply)) (client : ClientView) (node : ℕ) (rest : List (Option Reply)) : Type 0 where
  pub now : SeenTask
  pub client_is : client ≡ with_task old (Some now)
  pub phase : now.phase ≡ t.phase
  pub op : now.op ≡ t.op
  pub comes : after_phase (setting old.config) old.id t replies ≡ heard_from (setting old.config) old.id (tag_of t) (UnderWay now) node rest

module _ (old : ClientView) (t : SeenTask) (replies : List (Option Reply)) where
  pub hearing_begins : old.seen.task ≡ Some t → IsHearing old t replies old 0 replies
  hearing_begins e = record { now = t; client_is = λ j. record { config = old.config; id = old.id; seen = record { life = old.seen.life; started = old.seen.started; task = e j } }; phase = refl; op = refl; comes = refl }

  module _ (client : ClientView) (node : ℕ) (rest : List (Option Reply)) where
    pub in_phase : IsHearing old t replies client node rest → phase_of client.seen.task ≡ t.phase
    in_phase h = ap (λ (x : ClientView). phase_of x.seen.task) h.client_is ∙ h.phase

    hearing_nothing : IsHearing old t replies client node (None ∷ rest) → IsHearing old t replies client (suc node) rest
    hearing_nothing h = record { now = h.now; client_is = h.client_is; phase = h.phase; op = h.op; comes = h.comes }

    module _ (reply : Reply) (h : IsHearing old t replies client node (Some reply ∷ rest)) (new : ClientView) where
      abbrev answer : Message
      answer = answer_from old.id node (tag_of t) reply

      abbrev does : Hearing
      does = hearing (setting old.config) old.id h.now node (tag_of t) reply

      told : (x : Hearing) → hears (with_task old (Some h.now)) (Some h.now) answer ≡ x → does ≡ x
      told x e = sym (told_is (with_task old (Some h.now)) answer reply refl refl h.now) ∙ e

      turns : (x : Hearing) → does ≡ x → after_phase (setting old.config) old.id t replies ≡ heard_from (setting old.config) old.id (tag_of t) (progress (setting old.config) h.now x) (suc node) rest
      turns x e = h.comes ∙ ap (λ (y : Hearing). heard_from (setting old.config) old.id (tag_of t) (progress (setting old.config) h.now y) (suc node) rest) e

      at_now : (heard : Heard) → IsHeard client new answer heard → IsHeard (with_task old (Some h.now)) new answer heard
      at_now heard is = subst (λ (x : ClientView). IsHeard x new answer heard) h.client_is is

      hearing_unchanged : IsHeard client new answer Unchanged → IsHearing old t replies new (suc node) rest
      hearing_unchanged is =
          let k = at_now Unchanged is in
          record { now = h.now; client_is = k.1; phase = h.phase; op = h.op; comes = turns Ignored (told Ignored k.0) }

      hearing_more : IsHeard client new answer More → IsHearing old t replies new (suc node) rest
      hearing_more is =
          let k = at_now More is in
          let e = told (Counted k.0) k.1 in
          let same = same_phase (setting old.config) old.id h.now k.0 node (tag_of t) reply e in
          record { now = k.0; client_is = k.2; phase = same.0 ∙ h.phase; op = same.1 ∙ h.op; comes = turns (Counted k.0) e }

      hearing_sends : (mail : List Message) → IsHeard client new answer (Send mail) → HasCome old t replies new (Send mail)
      hearing_sends mail is =
          let k = at_now (Send mail) is in
          let e = told (Begins k.0) k.1 in
          let next = next_phase (setting old.config) old.id h.now k.0 node (tag_of t) reply e in
          let phase : k.0.phase ≡ t.phase + 1 = next.0 ∙ ap (λ (n : ℕ). n + 1) h.phase in
          let other : eqb t.phase k.0.phase ≡ false = grind (arith, nat_tests) in
          (k.0, turns (Begins k.0) e ∙ late (setting old.config) old.id (tag_of t) k.0 (suc node) rest other, phase, next.1 ∙ h.op, k.2, k.3)

      hearing_ends : (outcome : Outcome) → IsHeard client new answer (EndedWith outcome) → HasCome old t replies new (EndedWith outcome)
      hearing_ends outcome is =
          let k = at_now (EndedWith outcome) is in
          turns (Ended outcome) (told (Ended outcome) k.0) ∙ over (setting old.config) old.id (tag_of t) outcome (suc node) rest

    -- what the hearing of the next answer leads to
    abbrev pub LeadsTo : ClientView → Heard → Type 0
    LeadsTo new Unchanged = IsHearing old t replies new (suc node) rest
    LeadsTo new More = IsHearing old t replies new (suc node) rest
    LeadsTo new (Send mail) = HasCome old t replies new (Send mail)
    LeadsTo new (EndedWith outcome) = HasCome old t replies new (EndedWith outcome)

    hearing_leads : (given : Option Reply) → IsHearing old t replies client node (given ∷ rest) → (new : ClientView) (heard : Heard) → IsHeardFrom client new old.id node (tag_of t) given heard → LeadsTo new heard
    hearing_leads None h new heard is = subst (LeadsTo new) (sym is.0) (subst (λ (x : ClientView). IsHearing old t replies x (suc node) rest) (sym is.1) (hearing_nothing h))
    hearing_leads (Some reply) h new Unchanged is = hearing_unchanged reply h new is
    hearing_leads (Some reply) h new More is = hearing_more reply h new is
    hearing_leads (Some reply) h new (Send mail) is = hearing_sends reply h new mail is
    hearing_leads (Some reply) h new (EndedWith outcome) is = hearing_ends reply h new outcome is

  pub hearing_lost : (client : ClientView) (node : ℕ) → IsHearing old t replies client node [] → HasCome old t replies client Unchanged
  hearing_lost client node h = (h.now, h.comes, h.phase)

-- the tag that the client gives is that of the task under way
tag_is : (old : ClientView) (t u : SeenTask) → old.seen.task ≡ Some t → t.op ≡ ops_of old.seen → old.seen.task ≡ Some u → (op phase : ℕ) → op ≡ ops_of old.seen → phase ≡ phase_of old.seen.task → record { op = op; phase = phase } ≡ tag_of u
tag_is old t u is own here op phase e f =
    let some : Some u ≡ Some t = sym here ∙ is in
    let same : u ≡ t = cc in
    let p : op ≡ u.op = e ∙ sym own ∙ sym (ap (λ (x : SeenTask). x.op) same) in
    let q : phase ≡ u.phase = f ∙ ap phase_of here in
    λ j. record { op = p j; phase = q j }

-- the answer of a node is heard, if it gave one
module _ (old : ClientView) (replies : List (Option Reply)) (client : ClientView) (node : ℕ) (all rest : List (Option Reply)) (given : Option Reply) (split : all ≡ given ∷ rest) where
  pub hearing_step : (t u : SeenTask) → IsHearing old u replies client node all → (id : ℕ) → old.id ≡ id → old.seen.task ≡ Some t → t.op ≡ ops_of old.seen → old.seen.task ≡ Some u
      → (op phase : ℕ) → op ≡ ops_of old.seen → phase ≡ phase_of old.seen.task → (new : ClientView) (heard : Heard) → IsHeardFrom client new id node (record { op = op; phase = phase }) given heard → LeadsTo old u replies client node rest new heard
  hearing_step t u h id own is number here op phase e f new heard by =
      hearing_leads old u replies client node rest given (subst (IsHearing old u replies client node) split h) new heard
      (subst (λ (tag : Tag). IsHeardFrom client new old.id node tag given heard) (tag_is old t u is number here op phase e f)
      (subst (λ (k : ℕ). IsHeardFrom client new k node (record { op = op; phase = phase }) given heard) (sym own) by))

  -- where that was no end, the phase goes on
  pub still_hearing : (u : SeenTask) (new : ClientView) (heard : Heard) → (heard ≡ Unchanged) ⊎ (heard ≡ More) → LeadsTo old u replies client node rest new heard → IsHearing old u replies new (node + 1) rest
  still_hearing u new heard (inl e) h = rw add-one (subst (LeadsTo old u replies client node rest new) e h)
  still_hearing u new heard (inr e) h = rw add-one (subst (LeadsTo old u replies client node rest new) e h)
