-- The records and the desks tell alike of the operations that ended, after each kind of step.
use Rattle.std.proofs.Common.{◌≡◌, ◌⊎◌, ℕ, ◌+◌, Bool, true, false, cond, List, [], ◌∷◌, ◌++◌, Option, refl, sym, ◌∙◌, ap, subst, inl, inr}
use Rattle.std.specs.Prelude.{slice_get}
use Rattle.std.specs.declared.option.Option.TheVariants.{None, Some}
use Rattle.std.specs.List.{Contains}
use Rattle.std.proofs.lemmas.List.Elements.{Contains-append_cases, Contains-append_left, Contains-push}
use Rattle.stamp_order.specs.declared.Stamp.{Stamp}
use Rattle.wire_forms.specs.declared.op.Op.{Op}
use Rattle.wire_forms.specs.declared.op.Op.TheVariants.{Read as ReadOp, Write as WriteOp}
use Rattle.wire_forms.specs.declared.Body.TheVariants.{Answer as Answers}
use Rattle.protocol.specs.Count.{update, one_more}
use Rattle.protocol.specs.Messages.{Message, Body, Reply}
use Rattle.protocol.specs.Nodes.{reply}
use Rattle.protocol.specs.Operations.{Task, Outcome, begun}
use Rattle.protocol.specs.Operations.Work.{Reads, Writes}
use Rattle.protocol.specs.World.{World, Record, open_record, closed_record, with_record, last_op, only_place, sent, heard, all_happen, pruned_at, greatest_given}
use Rattle.protocol.specs.Lines.{plays, called as call_events, given_at, start_line}
use Rattle.run_words.specs.declared.line.Line.TheVariants.{Call as Calls, Give, Lost, CrashNode, CrashClient, Tell, Poke, Prune}
use Rattle.protocol.specs.Seen.{SeenTask, Hearing, started_task, task_at, hearing}
use Rattle.protocol.specs.Seen.Hearing.{Ignored, Counted, Begins, Ended as Ends}
use Rattle.protocol.specs.Views.{IsFull, after_hearing}
use Rattle.operation_core.specs.Clients.{hears}
use Rattle.journals.specs.declared.node.NodeAct.TheVariants.{Answered, Lied, Silent, CrashedAt, Delivered, LateLost, Pruned}
use Rattle.journals.specs.declared.desk.DeskAct.TheVariants.{Start, Crash, Call}
use Rattle.journals.specs.declared.desk.Way.TheVariants.{Call as ByCall}
use Rattle.journals.specs.Acts.{NodeState, IsAct, way_of}
use Rattle.journals.specs.Desks.{Way, DeskAct, DeskState, Ended, ended_by, desk_told, desk_after, DeskGoes, ActsAs}
use Rattle.journals.specs.Steps.{Cluster, Step, cluster_after, Goes, called}
use Rattle.journals.specs.Steps.Step.{AtNode, AtDesk}
use Rattle.journals.specs.Merging.{line_of}
use Rattle.journals.specs.Agreement.{IsEnded, TellAlike, ended_record}
use Rattle.journals.proofs.Cited.{Laws}
use Rattle.journals.proofs.lemmas.Acting.{answered_truly as means_answered}
use Rattle.journals.proofs.Frames.{Frame, set, Before}
use Rattle.journals.proofs.lemmas.Effects.{given_only, heard_is, hears_is}
use Rattle.journals.proofs.Answering.{node_here, task_now, asked, told, call_given, told_is, asked_now, lie_here}
use Rattle.lists.proofs.lemmas.Members.{Contains-one}
use Rattle.protocol.proofs.lemmas.Counting.{update-cases, update-same}

-- ---- records as they come and change

-- a record that is added open ends nothing
pushed_ended : (rs : List Record) (c : ℕ) (task : Task) (r : Record) (outcome : Outcome) → Contains (rs ++ open_record c task ∷ []) r → r.outcome ≡ Some outcome → Contains rs r
pushed_ended rs c task r outcome h e = elim (Contains-append_cases rs (open_record c task ∷ []) r h) [
  | inl k ↦ k
  | inr k ↦ absurd (let q : r.outcome ≡ None = ap (λ (x : Record). x.outcome) (Contains-one r _ k) in cc)
]

module _ (laws : Laws) (rs : List Record) (c : ℕ) (task : Task) (there : Contains rs (open_record c task)) (only : (x : Record) → Contains rs x → x.client ≡ c → x.start ≡ task.start → x ≡ open_record c task) where
  -- who has ended is no open record, and stays
  stays : (r : Record) → r.client ≡ c → r.start ≡ task.start → (x : Record) (outcome : Outcome) → Contains rs x → x.outcome ≡ Some outcome → Contains (with_record rs r) x
  stays r e k x outcome h ended = (laws.replaced rs r x).1 (inr (h, λ same. absurd (let q : x.outcome ≡ None = ap (λ (y : Record). y.outcome) (only x h (same.0 ∙ e) (same.1 ∙ k)) in cc)))

  -- the new record stands there
  stands : (r : Record) → r.client ≡ c → r.start ≡ task.start → Contains (with_record rs r) r
  stands r e k = (laws.replaced rs r r).1 (inl (refl, (open_record c task, there, (sym e, sym k))))

  -- who has ended then is the new record, or was there
  was : (r x : Record) → Contains (with_record rs r) x → (x ≡ r) ⊎ Contains rs x
  was r x h = elim ((laws.replaced rs r x).0 h) [ inl k ↦ inl k.0 | inr k ↦ inr k.0 ]

-- ---- a client hears an answer

-- the operations that have ended are those before, and the one that the answer ended
abbrev pub EndedThen : List Record → Option Record → List Record → Type 0
EndedThen old new rs = (r : Record) (outcome : Outcome) → r.outcome ≡ Some outcome → (Contains rs r → Contains old r ⊎ (new ≡ Some r)) × (Contains old r ⊎ (new ≡ Some r) → Contains rs r)

-- the record of the operation that ended, if one did
abbrev pub record_where : ℕ → Option Ended → Option Record
record_where c None = None
record_where c (Some x) = Some (ended_record c x)

module _ (laws : Laws) (f : Frame) (w : World) (n c began : ℕ) (t : SeenTask) (there : Contains w.records (open_record c (task_at (began + 1) t)))
    (only : (x : Record) → Contains w.records x → x.client ≡ c → x.start ≡ began + 1 → x ≡ open_record c (task_at (began + 1) t)) where
  opened : (u : SeenTask) → EndedThen w.records None (with_record w.records (open_record c (task_at (began + 1) u)))
  opened u r outcome e = (
    (λ h. elim (was laws w.records c (task_at (began + 1) t) there only (open_record c (task_at (began + 1) u)) r h) [
      | inl k ↦ absurd (let q : r.outcome ≡ None = ap (λ (y : Record). y.outcome) k in cc)
      | inr k ↦ inl k
    ]),
    (λ h. elim h [ inl k ↦ stays laws w.records c (task_at (began + 1) t) there only (open_record c (task_at (began + 1) u)) refl refl r outcome k e | inr k ↦ absurd (cc) ]),
  )

  pub hearing_ended : (h : Hearing) → EndedThen w.records (record_where c (ended_by began n (Some t) h)) (after_hearing (set f) w (n + 1) c (began + 1) t h).records
  hearing_ended Ignored r outcome e = ((λ h. inl h), (λ h. elim h [ inl k ↦ k | inr k ↦ absurd (cc) ]))
  hearing_ended (Counted u) r outcome e = opened u r outcome e
  hearing_ended (Begins u) r outcome e = opened u r outcome e
  hearing_ended (Ends how) r outcome e =
      let x : Record = closed_record c (task_at (began + 1) t) (n + 1) how in (
        (λ h. elim (was laws w.records c (task_at (began + 1) t) there only x r h) [ inl k ↦ inr (ap (λ (y : Record). Some y) (sym k)) | inr k ↦ inl k ]),
        (λ h. elim h [
          | inl k ↦ stays laws w.records c (task_at (began + 1) t) there only x refl refl r outcome k e
          | inr k ↦ (let q : x ≡ r = some_inj x r k in subst (λ (y : Record). Contains (with_record w.records x) y) q (stands laws w.records c (task_at (began + 1) t) there only x refl refl))
        ]),
      )
    where
      some_inj : (x y : Record) → ◌≡◌ {A = Option Record} (Some x) (Some y) → x ≡ y
      some_inj x y e = cc

-- ---- desks as they come and change

-- the operations that a desk's client ended are those before and this one, if one ended
one_ended : (xs : List Ended) (o : Option Ended) (x : Ended) → Contains (one_more xs o) x → Contains xs x ⊎ (o ≡ Some x)
one_ended xs None x h = inl h
one_ended xs (Some y) x h = elim (Contains-append_cases xs (y ∷ []) x h) [ inl l ↦ inl l | inr r ↦ inr (ap (λ z. Some z) (sym (Contains-one x y r))) ]

old_ended : (xs : List Ended) (o : Option Ended) (x : Ended) → Contains xs x → Contains (one_more xs o) x
old_ended xs None x h = h
old_ended xs (Some y) x h = Contains-append_left xs (y ∷ []) x h

-- a record that was made of an operation is that of the operation
made_of : (c : ℕ) (o : Option Ended) (r : Record) → record_where c o ≡ Some r → (x : Ended) × (o ≡ Some x) × (r ≡ ended_record c x)
made_of c None r e = absurd (cc)
made_of c (Some x) r e = (x, refl, (let q : ended_record c x ≡ r = some_inj (ended_record c x) r e in sym q))
  where
    some_inj : (x y : Record) → ◌≡◌ {A = Option Record} (Some x) (Some y) → x ≡ y
    some_inj x y e = cc

new_ended : (xs : List Ended) (o : Option Ended) (x : Ended) → o ≡ Some x → Contains (one_more xs o) x
new_ended xs o x e = rw e (Contains-push xs x)

module _ {f : Frame} {w : World} {g : Cluster} {n : ℕ} (b : Before f w g n) where
  -- no record and no desk ends anything new
  same_tell : (v : World) (h : Cluster) → ((r : Record) (outcome : Outcome) → r.outcome ≡ Some outcome → (Contains v.records r → Contains w.records r) × (Contains w.records r → Contains v.records r))
      → ((c : ℕ) → f.clients c ≡ false → (h.desks c).ended ≡ (g.desks c).ended) → TellAlike (set f) v h
  same_tell v h records desks = record {
    ended = λ r x. (records r x.operation.outcome (ap (λ (y : Record). y.outcome) x.is)).1 (b.tells.ended r (record {
      client = x.client;
      correct = x.correct;
      operation = x.operation;
      there = subst (λ (l : List Ended). Contains l x.operation) (desks x.client x.correct) x.there;
      is = x.is;
    }));
    told = λ r outcome k e. let x = b.tells.told r outcome ((records r outcome e).0 k) e in record {
      client = x.client;
      correct = x.correct;
      operation = x.operation;
      there = subst (λ (l : List Ended). Contains l x.operation) (sym (desks x.client x.correct)) x.there;
      is = x.is;
    };
  }

  -- the records stay, and no desk ends anything new
  rest_tell : (v : World) (h : Cluster) → v.records ≡ w.records → ((c : ℕ) → f.clients c ≡ false → (h.desks c).ended ≡ (g.desks c).ended) → TellAlike (set f) v h
  rest_tell v h e desks = same_tell v h (λ r outcome _. (subst (λ (l : List Record). Contains l r) e, subst (λ (l : List Record). Contains l r) (sym e))) desks

  placed : (v : World) (h : Cluster) → TellAlike (set f) v h → TellAlike (set f) (only_place (set f) v (n + 1)) h
  placed v h x = record { ended = x.ended; told = x.told }

  -- one desk changed, and ended nothing new
  one_desk : (c : ℕ) (d : DeskState) → (f.clients c ≡ false → d.ended ≡ (g.desks c).ended) → (x : ℕ) → f.clients x ≡ false → (update g.desks c d x).ended ≡ (g.desks x).ended
  one_desk c d same x right = elim (update-cases g.desks c d x) [
    | inl e ↦ ap (λ (y : DeskState). y.ended) e.1 ∙ same (subst (λ (y : ℕ). f.clients y ≡ false) e.0 right) ∙ ap (λ (y : ℕ). (g.desks y).ended) (sym e.0)
    | inr e ↦ ap (λ (y : DeskState). y.ended) e.1
  ]

  -- a client hears an answer that its desk tells of
  hear_tell : (v : World) → v.records ≡ w.records → (c : ℕ) (t : SeenTask) (m : Message) (r : Reply) (nodes : ℕ → NodeState) → v.task c ≡ started_task ((g.desks c).began + 1) (Some t) → IsFull f.config.n (Some t) → (g.desks c).client.seen.task ≡ Some t
      → m.client ≡ c → m.body ≡ Answers r → f.clients c ≡ false
      → Contains v.records (open_record c (task_now b 0 c t)) → ((x : Record) → Contains v.records x → x.client ≡ c → x.start ≡ (g.desks c).began + 1 → x ≡ open_record c (task_now b 0 c t))
      → TellAlike (set f) (heard (set f) v (n + 1) c m (Answers r)) (record { nodes = nodes; desks = update g.desks c (desk_told (g.desks c) n (Some m)) })
  hear_tell v same c t m r nodes busy full e mine body right there only =
      let d = g.desks c in
      let x = hearing (set f) c t m.node m.tag r in
      let is : hears d.client d.client.seen.task m ≡ x = hears_is f c d t m r (b.fixed.desks c) e mine body in
      let d' : DeskState = desk_told d n (Some m) in
      let next : Cluster = record { nodes = nodes; desks = update g.desks c d' } in
      let o : Option Ended = ended_by d.began n (Some t) x in
      let now : d'.ended ≡ one_more d.ended o = ap (λ (h : Hearing). one_more d.ended (ended_by d.began n d.client.seen.task h)) is ∙ ap (λ (z : Option SeenTask). one_more d.ended (ended_by d.began n z x)) e in
      let law = hearing_ended b.laws f v n c d.began t there only x in
      let back = λ (k : Record) (h : Contains w.records k). subst (λ (l : List Record). Contains l k) (sym same) h in
      let forth = λ (k : Record) (h : Contains v.records k). subst (λ (l : List Record). Contains l k) same h in
      subst (λ (u : World). TellAlike (set f) u next) (sym (heard_is b.laws (set f) v (n + 1) c (d.began + 1) t busy full m r)) (record {
        ended = λ k h. (law k h.operation.outcome (ap (λ (y : Record). y.outcome) h.is)).1 (of_desk d' o now next k h back);
        told = λ k outcome h q. elim ((law k outcome q).0 h) [
          | inl old ↦ older d' o now (b.tells.told k outcome (forth k old) q)
          | inr new ↦ (let p = made_of c o k new in record {
            client = c;
            correct = right;
            operation = p.0;
            there = subst (λ (z : DeskState). Contains z.ended p.0) (sym (update-same g.desks c d')) (subst (λ (l : List Ended). Contains l p.0) (sym now) (new_ended d.ended o p.0 p.1));
            is = p.2;
          })
        ];
      })
    where
      -- an operation that a desk ended by now was ended before, or is the one that the answer ended
      of_desk : (d' : DeskState) (o : Option Ended) → d'.ended ≡ one_more (g.desks c).ended o → (next : Cluster) → (k : Record) → IsEnded (set f) (record { nodes = nodes; desks = update g.desks c d' }) k → ((k : Record) → Contains w.records k → Contains v.records k)
          → Contains v.records k ⊎ (record_where c o ≡ Some k)
      of_desk d' o now next k h back = elim (update-cases g.desks c d' h.client) [
        | inl p ↦ (elim (one_ended (g.desks c).ended o h.operation (subst (λ (l : List Ended). Contains l h.operation) now (subst (λ (z : DeskState). Contains z.ended h.operation) p.1 h.there))) [
          | inl old ↦ inl (back k (b.tells.ended k (record { client = c; correct = right; operation = h.operation; there = old; is = h.is ∙ ap (λ (z : ℕ). ended_record z h.operation) p.0 })))
          | inr new ↦ inr (ap (record_where c) new ∙ ap (λ (z : ℕ). Some (ended_record z h.operation)) (sym p.0) ∙ ap (λ (z : Record). Some z) (sym h.is))
        ])
        | inr p ↦ inl (back k (b.tells.ended k (record { client = h.client; correct = h.correct; operation = h.operation; there = subst (λ (z : DeskState). Contains z.ended h.operation) p.1 h.there; is = h.is })))
      ]

      older : (d' : DeskState) (o : Option Ended) → d'.ended ≡ one_more (g.desks c).ended o → {k : Record} → IsEnded (set f) g k → IsEnded (set f) (record { nodes = nodes; desks = update g.desks c d' }) k
      older d' o now h = record {
        client = h.client;
        correct = h.correct;
        operation = h.operation;
        there = elim (update-cases g.desks c d' h.client) [
          | inl p ↦ subst (λ (z : DeskState). Contains z.ended h.operation) (sym p.1) (subst (λ (l : List Ended). Contains l h.operation) (sym now) (old_ended (g.desks c).ended o h.operation (subst (λ (k : ℕ). Contains (g.desks k).ended h.operation) p.0 h.there)))
          | inr p ↦ subst (λ (z : DeskState). Contains z.ended h.operation) (sym p.1) h.there
        ];
        is = h.is;
      }

  -- ---- starts and crashes of clients
  start_tells : (c : ℕ) (op : Op) → TellAlike (set f) (plays (set f) w (n + 1) (start_line c op)) (cluster_after g n (AtDesk c (Start op)))
  start_tells c (ReadOp block) =
      same_tell (plays (set f) w (n + 1) (start_line c (ReadOp block))) (cluster_after g n (AtDesk c (Start (ReadOp block))))
      (λ r outcome e. ((λ h. pushed_ended w.records c (begun (last_op w c + 1) block Reads (n + 1)) r outcome h e), (λ h. Contains-append_left w.records _ r h)))
      (one_desk c (desk_after (g.desks c) n (Start (ReadOp block))) (λ _. refl))
  start_tells c (WriteOp block value) =
      same_tell (plays (set f) w (n + 1) (start_line c (WriteOp block value))) (cluster_after g n (AtDesk c (Start (WriteOp block value))))
      (λ r outcome e. ((λ h. pushed_ended w.records c (begun (last_op w c + 1) block (Writes value) (n + 1)) r outcome h e), (λ h. Contains-append_left w.records _ r h)))
      (one_desk c (desk_after (g.desks c) n (Start (WriteOp block value))) (λ _. refl))

  -- ---- what no correct client hears
  silent_ended : (c : ℕ) (way : Way) (ask : Message) → (x : ℕ) → f.clients x ≡ false → (called g.desks n (Some (c, Call way ask None)) x).ended ≡ (g.desks x).ended
  silent_ended c way ask = one_desk c (g.desks c) (λ _. refl)

  liar_ended : (c : ℕ) (act : DeskAct) → f.clients c ≡ true → (x : ℕ) → f.clients x ≡ false → (called g.desks n (Some (c, act)) x).ended ≡ (g.desks x).ended
  liar_ended c act lying = one_desk c (desk_after (g.desks c) n act) (λ right. absurd (cc))

  -- ---- an answer
  call_tells : (i : ℕ) (ask answer : Message) → IsAct (f.conduct.nature i) (g.nodes i) (Answered ask answer) → f.clients ask.client ≡ false → DeskGoes (g.desks ask.client) (Call ByCall ask (Some answer))
      → TellAlike (set f) (plays (set f) w (n + 1) (Calls ask.client i)) (cluster_after g n (AtNode i (Answered ask answer)))
  call_tells i ask answer is correct desk =
      let c = ask.client in
      let next = cluster_after g n (AtNode i (Answered ask answer)) in
      let means = means_answered (g.nodes i) (f.conduct.nature i) ask answer is.done in
      let here = node_here b i means.0 in
      let a = asked_now b i ask (is.comes.0 ∙ (b.fixed.nodes i).number) correct desk in
      let works = b.works c (task_now b i c a.task) a.under in
      let m = told b i c a.task in
      let v = call_given b i c a.task in
      let r = reply (set f) i (w.versions i (asked b i c a.task).block) (asked b i c a.task) in
      let heard_it : answer ≡ m = told_is b i c a.task ask answer here.1 a.mine means.1 in
      let law = hear_tell v refl c a.task m r next.nodes a.busy a.full a.seen refl refl correct works.recorded works.only in
      subst (λ (z : Option Task). TellAlike (set f) (only_place (set f) (all_happen (set f) w (n + 1) (call_events (set f) w c i z)) (n + 1)) next) (sym a.busy)
      (placed (heard (set f) v (n + 1) c m (Answers r)) next (subst (λ (z : Message). TellAlike (set f) (heard (set f) v (n + 1) c m (Answers r)) (record { nodes = next.nodes; desks = update g.desks c (desk_told (g.desks c) n (Some z)) })) (sym heard_it) law))

  answered_tells : (i k : ℕ) (ask answer : Message) → Goes (set f) f.conduct g (AtNode i (Answered ask answer)) → TellAlike (set f) (plays (set f) w (n + 1) (line_of (set f) k (AtNode i (Answered ask answer)))) (cluster_after g n (AtNode i (Answered ask answer)))
  answered_tells i k ask answer goes = at (f.clients ask.client) refl goes.2.1
    where
      at : (lying : Bool) → f.clients ask.client ≡ lying → ActsAs lying (g.desks ask.client) (Call ByCall ask (Some answer)) → TellAlike (set f) (plays (set f) w (n + 1) (cond lying (Poke ask) (Calls ask.client i))) (cluster_after g n (AtNode i (Answered ask answer)))
      at true e h = rest_tell (plays (set f) w (n + 1) (Poke ask)) (cluster_after g n (AtNode i (Answered ask answer))) (given_only (set f) (sent (set f) w (n + 1) (ask ∷ [])) (n + 1) ask.node ask ask.body).records (liar_ended ask.client (Call ByCall ask (Some answer)) e)
      at false e h = call_tells i ask answer goes.1 e h

  -- ---- a lie
  tell_tells : (i : ℕ) (ask answer : Message) → IsAct (f.conduct.nature i) (g.nodes i) (Lied ask answer) → f.clients ask.client ≡ false → DeskGoes (g.desks ask.client) (Call ByCall ask (Some answer))
      → TellAlike (set f) (plays (set f) w (n + 1) (Tell answer)) (cluster_after g n (AtNode i (Lied ask answer)))
  tell_tells i ask answer is correct desk =
      let c = ask.client in
      let next = cluster_after g n (AtNode i (Lied ask answer)) in
      let liar = lie_here b i ask answer is in
      let lie = liar.2 in
      let a = asked_now b i ask liar.1 correct desk in
      let works = b.works c (task_now b i c a.task) a.under in
      let v = sent (set f) w (n + 1) (answer ∷ []) in
      let law = hear_tell v refl c a.task answer lie.told next.nodes a.busy a.full a.seen lie.client lie.answers correct works.recorded works.only in
      subst (λ (x : ℕ). TellAlike (set f) (only_place (set f) (heard (set f) v (n + 1) x answer answer.body) (n + 1)) next) (sym lie.client)
      (subst (λ (x : Body). TellAlike (set f) (only_place (set f) (heard (set f) v (n + 1) c answer x) (n + 1)) next) (sym lie.answers) (placed (heard (set f) v (n + 1) c answer (Answers lie.told)) next law))

  lied_tells : (i k : ℕ) (ask answer : Message) → Goes (set f) f.conduct g (AtNode i (Lied ask answer)) → TellAlike (set f) (plays (set f) w (n + 1) (line_of (set f) k (AtNode i (Lied ask answer)))) (cluster_after g n (AtNode i (Lied ask answer)))
  lied_tells i k ask answer goes = at (f.clients ask.client) refl goes.2.1
    where
      at : (lying : Bool) → f.clients ask.client ≡ lying → ActsAs lying (g.desks ask.client) (Call ByCall ask (Some answer)) → TellAlike (set f) (plays (set f) w (n + 1) (cond lying (Lost ask.client i) (Tell answer))) (cluster_after g n (AtNode i (Lied ask answer)))
      at true e h = rest_tell (plays (set f) w (n + 1) (Lost ask.client i)) (cluster_after g n (AtNode i (Lied ask answer))) refl (liar_ended ask.client (Call ByCall ask (Some answer)) e)
      at false e h = tell_tells i ask answer goes.1 e h

  -- ---- late deliveries, crashes and prunes
  given_records : (i : ℕ) (o : Option Message) → (only_place (set f) (all_happen (set f) w (n + 1) (given_at (set f) w i o)) (n + 1)).records ≡ w.records
  given_records i None = refl
  given_records i (Some m) = (given_only (set f) w (n + 1) i m m.body).records

  crashed_tells : (i : ℕ) (ask : Message) (late : Bool) → TellAlike (set f) (plays (set f) w (n + 1) (CrashNode i)) (cluster_after g n (AtNode i (CrashedAt ask late)))
  crashed_tells i ask true = rest_tell (plays (set f) w (n + 1) (CrashNode i)) (cluster_after g n (AtNode i (CrashedAt ask true))) refl (λ c right. refl)
  crashed_tells i ask false = rest_tell (plays (set f) w (n + 1) (CrashNode i)) (cluster_after g n (AtNode i (CrashedAt ask false))) refl (silent_ended ask.client ByCall ask)

  pruned_records : (i block : ℕ) (o : Option Stamp) → (pruned_at (set f) w (n + 1) i block o).records ≡ w.records
  pruned_records i block None = refl
  pruned_records i block (Some stamp) = refl

  -- whatever step it is
  pub step_tells : (k : ℕ) (e : Step) → Goes (set f) f.conduct g e → TellAlike (set f) (plays (set f) w (n + 1) (line_of (set f) k e)) (cluster_after g n e)
  step_tells k (AtDesk c (Start op)) goes = start_tells c op
  step_tells k (AtDesk c Crash) goes = rest_tell (plays (set f) w (n + 1) (CrashClient c)) (cluster_after g n (AtDesk c Crash)) refl (one_desk c (desk_after (g.desks c) n Crash) (λ _. refl))
  step_tells k (AtDesk c (Call way ask answer)) goes = absurd (goes.2)
  step_tells k (AtNode i (Answered ask answer)) goes = answered_tells i k ask answer goes
  step_tells k (AtNode i (Lied ask answer)) goes = lied_tells i k ask answer goes
  step_tells k (AtNode i (Silent ask why)) goes = rest_tell (plays (set f) w (n + 1) (Lost ask.client i)) (cluster_after g n (AtNode i (Silent ask why))) refl (silent_ended ask.client (way_of why) ask)
  step_tells k (AtNode i (LateLost ask)) goes = rest_tell (plays (set f) w (n + 1) (Lost ask.client i)) (cluster_after g n (AtNode i (LateLost ask))) refl (λ c right. refl)
  step_tells k (AtNode i (CrashedAt ask late)) goes = crashed_tells i ask late
  step_tells k (AtNode i (Delivered ask answer)) goes = rest_tell (plays (set f) w (n + 1) (Give i k)) (cluster_after g n (AtNode i (Delivered ask answer))) (given_records i (slice_get w.pool k)) (λ c right. refl)
  step_tells k (AtNode i (Pruned block stamp)) goes = rest_tell (plays (set f) w (n + 1) (Prune i block)) (cluster_after g n (AtNode i (Pruned block stamp))) (pruned_records i block (greatest_given block w.records)) (λ c right. refl)
