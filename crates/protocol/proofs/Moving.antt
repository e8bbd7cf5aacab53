-- A client's task moves on or ends, when it hears an answer.
use Rattle.std.proofs.Common.{◌≡◌, ◌⊎◌, ℕ, ◌+◌, ◌<◌, ◌≤◌, Bool, true, false, cond, ◌&&◌, List, Option, refl, sym, ◌∙◌, ap, subst, inl, inr, arith, eqb}
use Rattle.std.specs.declared.option.Option.TheVariants.{None, Some}
use Rattle.std.specs.List.{Contains}
use Rattle.std.proofs.lemmas.List.Elements.{Contains-append_cases, Contains-append_left}
use Rattle.protocol.specs.Count.{count}
use Rattle.stamp_order.specs.declared.Stamp.{Stamp}
use Rattle.stamp_order.specs.declared.Bound.{Bound}
use Rattle.protocol.specs.Messages.{IsFormedBody, Ask, Reply, Message}
use Rattle.wire_forms.specs.declared.Body.TheVariants.{Ask as Asks, Answer as Answers}
use Rattle.protocol.specs.Setting.{Setting}
use Rattle.protocol.specs.Operations.{Task, Work, Stage, Outcome, outstanding, request_of}
use Rattle.protocol.specs.Operations.Work.{Writes}
use Rattle.protocol.specs.World.{Record, World, chosen_stamp, moved, replaced_by, open_record, unless, under_way, last_op}
use Rattle.protocol.specs.History.{NoClash, IsValue}
use Rattle.protocol.specs.History.IsValue.{zeros_value, written, given}
use Rattle.protocol.proofs.lemmas.Counting.{update-cases}
use Rattle.protocol.proofs.Mails.{mail_asks, mail_answers}
use Rattle.protocol.proofs.lemmas.Tests.{are_same}
use Rattle.protocol.proofs.lemmas.Replacing.{with_cases}
use Rattle.protocol.proofs.lemmas.Strings.{NoClash-before, NoClashFor-before}
use Rattle.protocol.proofs.Invariant.{AtWork, IsOwned, IsTagged, Quorum, IsTask, IsRecord, IsOutcome, IsAimed, IsAfter, NoClashFor, IsSafe, Fits, Accepts, IsOpen, IsFresh, IsStored, IsPassed}
use Rattle.protocol.proofs.Freshness.{IsFresh-more}
use Rattle.protocol.proofs.lemmas.Sending.{unless_some}
use Rattle.lists.proofs.lemmas.Members.{Contains-map}

-- enough honest nodes have accepted the stamp
pub record IsHeld (s : Setting) (w : World) (block : ℕ) (stamp : Stamp) : Type 0 where
  pub members : ℕ → Bool
  pub enough : s.qc ≤ count s.n members
  pub are_honest : (i : ℕ) → members i ≡ true → s.lying_node i ≡ false
  pub kept : (i : ℕ) → i < s.n → members i ≡ true → Accepts s w i block stamp

module _ (s : Setting) (w : World) (safe : IsSafe s w) (place : ℕ) (later : w.place ≤ place) (c : ℕ) (task : Task) (busy : under_way w c ≡ Some task)
    (next : Option Task) (more : List Message) (r : Record) where
  abbrev after : World
  after = moved s w place c next more r

  -- what the next task and the record keep of the task
  pub record IsNext (z : Task) : Type 0 where
    pub op : z.op ≡ task.op
    pub block : z.block ≡ task.block
    pub work : z.work ≡ task.work
    pub start : z.start ≡ task.start
    -- either the phase is the same, with its stage, or it is the next one
    pub phase : ((z.phase ≡ task.phase) × (z.stage ≡ task.stage)) ⊎ (z.phase ≡ task.phase + 1)
    pub valid : IsTask s after c z
    pub record_is : r ≡ open_record c z
    -- no read or write falls behind what was completed before it
    pub aims : NoClashFor s w task.work → (x : Record) (end : ℕ) (stamp : Stamp) → Contains w.records x → x.end ≡ Some end → x.stamp ≡ Some stamp → task.block ≡ x.block → end < task.start → IsAimed s stamp task.work z.stage

  pub record IsMove : Type 0 where
    pub nexts : (z : Task) → next ≡ Some z → IsNext z
    pub sends : (m : Message) → Contains more m → (z : Task) × (i : ℕ) × (next ≡ Some z) × (m ≡ outstanding s c z i)
    pub forms : (m : Message) → Contains more m → IsFormedBody m.body
    pub client : r.client ≡ c
    pub block : r.block ≡ task.block
    pub work : r.work ≡ task.work
    pub start : r.start ≡ task.start
    pub end : (end : ℕ) → r.end ≡ Some end → end ≡ place
    pub outcome : IsOutcome s r.work r.stamp r.outcome
    pub open_end : r.end ≡ None → r.outcome ≡ None
    pub closed_end : (end : ℕ) → r.end ≡ Some end → (outcome : Outcome) × (r.outcome ≡ Some outcome)
    pub completed : (end : ℕ) (stamp : Stamp) → r.end ≡ Some end → r.stamp ≡ Some stamp → IsHeld s w r.block stamp
    -- a write that chose a stamp keeps it
    pub keeps : (stamp : Stamp) (value : List ℕ) → task.work ≡ Writes value → chosen_stamp task.work task.stage ≡ Some stamp → r.stamp ≡ Some stamp
    pub orders : NoClashFor s w task.work → (x : Record) (end : ℕ) (stamp last : Stamp) → Contains w.records x → x.end ≡ Some end → x.stamp ≡ Some stamp → r.stamp ≡ Some last → task.block ≡ x.block → end < task.start → IsAfter s stamp task.work last

  module _ (move : IsMove) where
    pub task_cases : (d : ℕ) (z : Task) → under_way after d ≡ Some z → ((d ≡ c) × (next ≡ Some z)) ⊎ ((d ≡ c → ⊥) × (under_way w d ≡ Some z))
    task_cases d z h = elim (update-cases w.task c next d) [
      | inl e ↦ inl (e.0, (unless_some (w.client_crashed d) next z (let k : unless (w.client_crashed d) next ≡ Some z = rw e.1 at h in k)).1)
      | inr e ↦ inr (e.0, (let k : unless (w.client_crashed d) (w.task d) ≡ Some z = rw e.1 at h in k))
    ]

    pub pool_cases : (m : Message) → Contains after.pool m → Contains w.pool m ⊎ ((z : Task) × (i : ℕ) × (next ≡ Some z) × (m ≡ outstanding s c z i))
    pool_cases m h = elim (Contains-append_cases w.pool more m h) [ inl k ↦ inl k | inr k ↦ inr (move.sends m k) ]

    -- what a message of before belongs to now has the stage, block and start that it had before
    record WasAtWork (m : Message) (z : Task) : Type 0 where
      was : Task
      at : AtWork s w m was
      stage : z.stage ≡ was.stage
      block : z.block ≡ was.block
      start : z.start ≡ was.start

    older : (m : Message) (z : Task) → Contains w.pool m → IsOwned s m.body m → s.lying_client m.client ≡ false → AtWork s after m z → WasAtWork m z
    older m z h owned honest at =
        elim (task_cases m.client z at.client) [
          | inl e ↦
              (let n = move.nexts z e.1 in
              let here : under_way w m.client ≡ Some task = ap (under_way w) e.0 ∙ busy in
              let op : m.tag.op ≡ task.op = at.op ∙ n.op in
              let bound : m.tag.phase ≤ task.phase = (safe.tagged m h owned honest).phase task here op in
              elim n.phase [
                | inl p ↦ record { was = task; at = record { client = here; op = op; phase = at.phase ∙ p.0 }; stage = p.1; block = n.block; start = n.start }
                | inr p ↦ absurd (let q : m.tag.phase ≡ z.phase = at.phase in omega arith)
              ])
          | inr e ↦ record { was = z; at = record { client = e.1; op = at.op; phase = at.phase }; stage = refl; block = refl; start = refl }
        ]

    only_next : (z y : Task) → next ≡ Some z → next ≡ Some y → z ≡ y
    only_next z y e f = cc

    tagged_after : (m : Message) → Contains after.pool m → IsOwned s m.body m → s.lying_client m.client ≡ false → IsTagged s after m
    tagged_after m h owned honest =
        elim (pool_cases m h) [
          | inl k ↦
              (let t = safe.tagged m k owned honest in
              record {
                begun = t.begun;
                phase = λ z e f. elim (task_cases m.client z e) [
                  | inl q ↦
                      (let n = move.nexts z q.1 in
                      let here : under_way w m.client ≡ Some task = ap (under_way w) q.0 ∙ busy in
                      let bound : m.tag.phase ≤ task.phase = t.phase task here (f ∙ n.op) in
                      elim n.phase [ inl p ↦ omega (arith, bound, p.0) | inr p ↦ omega (arith, bound, p) ])
                  | inr q ↦ t.phase z q.1 f
                ];
              })
          | inr k ↦
              (let is_c : m.client ≡ c = ap (λ (x : Message). x.client) k.3 in
              let n = move.nexts k.0 k.2 in
              let op : m.tag.op ≡ k.0.op = ap (λ (x : Message). x.tag.op) k.3 in
              let phase : m.tag.phase ≡ k.0.phase = ap (λ (x : Message). x.tag.phase) k.3 in
              let newest : last_op w m.client ≡ task.op = ap (last_op w) is_c ∙ (safe.tasks c task busy).newest in
              let same : k.0.op ≡ task.op = n.op in
              record {
                begun = omega arith;
                phase = λ z e f. elim (task_cases m.client z e)
                    [ inl q ↦ (let p : k.0.phase ≡ z.phase = ap (λ (t : Task). t.phase) (only_next k.0 z k.2 q.1) in omega arith) | inr q ↦ absurd (q.0 is_c) ];
              })
        ]

    asked_after : (m : Message) (z : Task) (ask : Ask) → Contains after.pool m → m.body ≡ Asks ask → s.lying_client m.client ≡ false → AtWork s after m z
        → (ask.block ≡ z.block) × (ask.request ≡ request_of s z.stage m.node)
    asked_after m z ask h body honest at =
        elim (pool_cases m h) [
          | inl k ↦ (let o = older m z k (rw body honest) honest at in let r = safe.asked m o.was ask k body honest o.at in
              (r.0 ∙ sym o.block, r.1 ∙ ap (λ (t : Stage). request_of s t m.node) (sym o.stage)))
          | inr k ↦ elim (task_cases m.client z at.client)
              [ inl q ↦ rw (only_next z k.0 q.1 k.2) (mail_asks s c k.0 m k.1 ask k.3 body) | inr q ↦ absurd (q.0 (ap (λ (x : Message). x.client) k.3)) ]
        ]

    fits_as : (i : ℕ) (reply : Reply) (a b : ℕ) (p q : Stage) → a ≡ b → p ≡ q → Fits s w i b q reply → Fits s w i a p reply
    fits_as i reply a b p q e f h = rw (e, f) h

    answered_after : (m : Message) (z : Task) (reply : Reply) → Contains after.pool m → m.body ≡ Answers reply → s.lying_client m.client ≡ false → m.node < s.n → s.lying_node m.node ≡ false
        → AtWork s after m z → Fits s after m.node z.block z.stage reply
    answered_after m z reply h body honest l upright at =
        elim (pool_cases m h) [
          | inl k ↦ (let o = older m z k (rw body upright) honest at in fits_as m.node reply z.block o.was.block z.stage o.was.stage o.block o.stage (safe.answered m o.was reply k body honest l upright o.at))
          | inr k ↦ absurd (mail_answers s c k.0 m k.1 reply k.3 body)
        ]

    tasks_after : (d : ℕ) (z : Task) → under_way after d ≡ Some z → IsTask s after d z
    tasks_after d z e =
        elim (task_cases d z e) [
          | inl q ↦ rw q.0 (move.nexts z q.1).valid
          | inr q ↦
              (let t = safe.tasks d z q.1 in
              record {
                correct = t.correct;
                numbered = t.numbered;
                newest = t.newest;
                start = omega (arith, t.start);
                block = t.block;
                stage = t.stage;
                mailed = λ i l. Contains-append_left w.pool more _ (t.mailed i l);
                heard = λ i reply f. let h = t.heard i reply f in (Contains-append_left w.pool more _ h.0, h.1);
              })
        ]

    -- a task that began after a place hasn't begun before it
    not_ahead : (d : ℕ) (z : Task) → under_way after d ≡ Some z → place < z.start → ⊥
    not_ahead d z e h = let t = (tasks_after d z e).start in omega arith

    -- a record is the new one, or one of before of another operation
    pub record_cases : (x : Record) → Contains after.records x → (x ≡ r) ⊎ (Contains w.records x × ((x.client ≡ c → x.start ≡ task.start → ⊥)))
    record_cases x h = elim (with_cases w.records r x h) [ inl e ↦ inl e | inr k ↦ inr (k.0, λ p q. k.1 (p ∙ sym move.client) (q ∙ sym move.start)) ]

    -- a record of before is there still, or it was the one of this operation
    pub record_after : (x : Record) → Contains w.records x → (Contains after.records x) ⊎ (x ≡ open_record c task × Contains after.records r)
    record_after x h = at (eqb x.client r.client && eqb x.start r.start) refl (Contains-map (replaced_by r) w.records x h)
      where
        at : (b : Bool) → eqb x.client r.client && eqb x.start r.start ≡ b → Contains after.records (cond (eqb x.client r.client && eqb x.start r.start) r x) → (Contains after.records x) ⊎ (x ≡ open_record c task × Contains after.records r)
        at true t k =
            let q = are_same x.client r.client x.start r.start t in
            let is_c : x.client ≡ c = q.0 ∙ move.client in
            let run = (safe.records x h).running task (ap (under_way w) is_c ∙ busy) (q.1 ∙ move.start) in
            inr (run ∙ ap (λ (d : ℕ). open_record d task) is_c, (let l : Contains after.records (cond true r x) = rw t at k in l))
        at false t k = inl (let l : Contains after.records (cond false r x) = rw t at k in l)

    closed_still : (x : Record) (end : ℕ) → Contains w.records x → x.end ≡ Some end → Contains after.records x
    closed_still x end h e = elim (record_after x h) [ inl k ↦ k | inr k ↦ absurd (let z : x.end ≡ None = ap (λ (y : Record). y.end) k.0 in cc) ]

    open_back : (b start : ℕ) (bound : Bound) → IsOpen s after b start bound → IsOpen s w b start bound
    open_back b start bound h x end stamp there of_b e f late = h x end stamp (closed_still x end there e) of_b e f late

    fresh_as : (b start since : ℕ) (stamp : Stamp) (reply : Reply) (p q : Stage) → start ≡ since → p ≡ q → IsFresh s w b start stamp p reply → IsFresh s after b since stamp q reply
    fresh_as b start since stamp reply p q e f h = rw (← e, ← f) (IsFresh-more s w after b start stamp (open_back b start) p reply h)

    passed_after : (b : ℕ) (stamp : Stamp) → IsPassed s w b stamp → IsPassed s after b stamp
    passed_after b stamp p = record {
      past = p.past;
      there = closed_still p.past p.end p.there p.ended;
      of_block = p.of_block;
      end = p.end;
      ended = p.ended;
      reached = p.reached;
      stamped = p.stamped;
      up_to_it = p.up_to_it;
      before_all = λ d z e f. elim (task_cases d z e) [
        | inl q ↦ (let n = move.nexts z q.1 in let l = p.before_all c task busy (sym n.block ∙ f) in omega (arith, l, n.start))
        | inr q ↦ p.before_all d z q.1 f
      ];
    }

    stored_after : (i b : ℕ) → i < s.n → s.lying_node i ≡ false → IsStored s after i b
    stored_after i b l h = let k = safe.stored i b l h in record {
      first = k.first;
      whole = k.whole;
      formed = k.formed;
      kept = k.kept;
      covered = λ stamp a. let v = k.covered stamp a in
          record { version = v.version; there = v.there; above = v.above; how = elim v.how [ inl e ↦ inl e | inr p ↦ inr (passed_after b v.version.stamp p) ] };
    }

    pub quorum_after : (b : ℕ) (stamp : Stamp) (end : ℕ) → Quorum s w b stamp end → Quorum s after b stamp end
    quorum_after b stamp end q = record {
      members = q.members;
      enough = q.enough;
      are_honest = q.are_honest;
      kept = q.kept;
      fresh = λ m reply z h body l member honest at of_b late. elim (pool_cases m h) [
        | inl k ↦
            (let o = older m z k (rw body (q.are_honest m.node member)) honest at in
            fresh_as b o.was.start z.start stamp reply o.was.stage z.stage (sym o.start) (sym o.stage)
            (q.fresh m reply o.was k body l member honest o.at (sym o.block ∙ of_b) (omega (arith, late, o.start))))
        | inr k ↦ absurd (mail_answers s c k.0 m k.1 reply k.3 body)
      ];
    }

    quorum_now : (stamp : Stamp) (end : ℕ) → end ≡ place → IsHeld s w r.block stamp → Quorum s after r.block stamp end
    quorum_now stamp end e q = record {
      members = q.members;
      enough = q.enough;
      are_honest = q.are_honest;
      kept = q.kept;
      fresh = λ m reply z h body l member honest at of_b late. absurd (not_ahead m.client z at.client (omega (arith, e, late)));
    }

    records_after : (x : Record) → Contains after.records x → IsRecord s after x
    records_after x h =
        let now = safe.tasks c task busy in
        elim (record_cases x h) [
          | inl k ↦ rw k (record {
            start = omega (arith, move.start, now.start);
            ended = λ end e. omega (arith, move.end end e);
            in_order = λ end e. omega (arith, move.end end e, move.start, now.start);
            outcome = move.outcome;
            open_end = move.open_end;
            closed_end = move.closed_end;
            running = λ z e f. elim (task_cases r.client z e)
                [ inl q ↦ (move.nexts z q.1).record_is ∙ ap (λ (d : ℕ). open_record d z) (sym move.client) | inr q ↦ absurd (q.0 move.client) ];
            completed = λ end stamp e f. quorum_now stamp end (move.end end e) (move.completed end stamp e f);
          })
          | inr k ↦
              (let i = safe.records x k.0 in
              record {
                start = omega (arith, i.start);
                ended = λ end e. omega (arith, i.ended end e);
                in_order = i.in_order;
                outcome = i.outcome;
                open_end = i.open_end;
                closed_end = i.closed_end;
                running = λ z e f. elim (task_cases x.client z e)
                    [ inl q ↦ absurd (k.1 q.0 (f ∙ (move.nexts z q.1).start)) | inr q ↦ i.running z q.1 f ];
                completed = λ end stamp e f. quorum_after x.block stamp end (i.completed end stamp e f);
              })
        ]

    value_before : (x : List ℕ) → IsValue s w x → IsValue s after x
    value_before x zeros_value = zeros_value
    value_before x (written {r = y} {value = v} {stamp = t} h k f) =
        elim (record_after y h) [
          | inl l ↦ written {r = y} {value = v} {stamp = t} l k f
          | inr e ↦
              (let work : task.work ≡ Writes v = sym (ap (λ (z : Record). z.work) e.0) ∙ k in
              written {r = r} {value = v} {stamp = t} e.1 (move.work ∙ work) (move.keeps t v work (sym (ap (λ (z : Record). z.stamp) e.0) ∙ f)))
        ]
    value_before x (given {block = b} {end = e} {stamp = t} {value = v} h) =
        elim (record_after h.read h.there) [
          | inl l ↦ given {block = b} {end = e} {stamp = t} {value = v} (record { read = h.read; there = l; of_block = h.of_block; ended = h.ended; how = h.how; rounds = h.rounds; gave = h.gave })
          | inr q ↦ absurd (let z : h.read.end ≡ None = ap (λ (y : Record). y.end) q.0 in let y = h.ended in cc)
        ]

    apart_before : NoClash s after → NoClash s w
    apart_before = NoClash-before s w after (λ m h. Contains-append_left w.pool more m h) value_before

    for_task : (work : Work) → work ≡ task.work → NoClashFor s after work → NoClashFor s w task.work
    for_task work e apart = NoClashFor-before s w after apart_before task.work (subst (NoClashFor s after) e apart)

    aimed_after : (d : ℕ) (z : Task) → NoClashFor s after z.work → (x : Record) (end : ℕ) (stamp : Stamp) → Contains after.records x → x.end ≡ Some end → x.stamp ≡ Some stamp
        → under_way after d ≡ Some z → z.block ≡ x.block → end < z.start → IsAimed s stamp z.work z.stage
    aimed_after d z apart x end stamp h e f g of_block late =
        elim (record_cases x h) [
          | inl k ↦ absurd (not_ahead d z g (let a : end ≡ place = move.end end (sym (ap (λ (y : Record). y.end) k) ∙ e) in omega arith))
          | inr k ↦ elim (task_cases d z g) [
            | inl q ↦
                (let n = move.nexts z q.1 in
                rw n.work (n.aims (for_task z.work n.work apart) x end stamp k.0 e f (sym n.block ∙ of_block) (omega (arith, late, n.start))))
            | inr q ↦ safe.aimed d z (NoClashFor-before s w after apart_before z.work apart) x end stamp k.0 e f q.1 of_block late
          ]
        ]

    record_start : (y : Record) → Contains after.records y → y.start ≤ place
    record_start y h = (records_after y h).start

    ordered_after : (x y : Record) → NoClashFor s after y.work → (end : ℕ) (stamp last : Stamp) → Contains after.records x → Contains after.records y → x.end ≡ Some end → x.stamp ≡ Some stamp
        → y.stamp ≡ Some last → y.block ≡ x.block → end < y.start → IsAfter s stamp y.work last
    ordered_after x y apart end stamp last h l e f g of_block late =
        elim (record_cases x h) [
          | inl k ↦ absurd (let a : end ≡ place = move.end end (sym (ap (λ (y : Record). y.end) k) ∙ e) in omega (arith, record_start y l))
          | inr k ↦ elim (record_cases y l) [
            | inl q ↦
                (let work : y.work ≡ task.work = ap (λ (z : Record). z.work) q ∙ move.work in
                let start : y.start ≡ task.start = ap (λ (z : Record). z.start) q ∙ move.start in
                let block : task.block ≡ x.block = sym (ap (λ (z : Record). z.block) q ∙ move.block) ∙ of_block in
                rw work (move.orders (for_task y.work work apart) x end stamp last k.0 e f (sym (ap (λ (z : Record). z.stamp) q) ∙ g) block (omega arith)))
            | inr q ↦ safe.ordered x y (NoClashFor-before s w after apart_before y.work apart) end stamp last k.0 q.0 e f g of_block late
          ]
        ]

    pub moved_safe : IsSafe s after
    moved_safe = record {
      lives = safe.lives;
      formed = λ m h. elim (Contains-append_cases w.pool more m h) [ inl k ↦ safe.formed m k | inr k ↦ move.forms m k ];
      stored = stored_after;
      tagged = tagged_after;
      asked = asked_after;
      answered = answered_after;
      tasks = tasks_after;
      records = records_after;
      aimed = aimed_after;
      ordered = ordered_after;
    }
