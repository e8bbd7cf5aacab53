-- A start keeps what holds in every world.
use Rattle.std.proofs.Common.{◌≡◌, ◌⊎◌, ℕ, ◌+◌, ◌-◌, ◌^◌, ◌<◌, ◌≤◌, false, List, [], ◌∷◌, refl, sym, ◌∙◌, ap, inl, inr, arith}
use Rattle.std.specs.declared.option.Option.TheVariants.{None, Some}
use Rattle.std.specs.List.{Contains}
use Rattle.std.proofs.lemmas.List.Elements.{Contains-append_cases, Contains-append_left, Contains-append_right}
use Rattle.stamp_order.specs.declared.Stamp.{Stamp}
use Rattle.stamp_order.specs.declared.Bound.{Bound}
use Rattle.protocol.specs.Messages.{Ask, Reply, Message}
use Rattle.wire_forms.specs.declared.Body.TheVariants.{Ask as Asks, Answer as Answers}
use Rattle.protocol.specs.Setting.{Setting}
use Rattle.protocol.specs.Operations.{Task, Work, begun, first_work, outstanding, mail, request_of}
use Rattle.protocol.specs.Operations.Work.{Reads, Writes}
use Rattle.protocol.specs.World.{Record, World, Fits, happens, open_record, chosen_stamp, unless, under_way, last_op, IsClient}
use Rattle.protocol.specs.World.Event.{Start}
use Rattle.protocol.specs.History.{NoClash, IsValue}
use Rattle.protocol.specs.History.IsValue.{zeros_value, written, given}
use Rattle.protocol.proofs.lemmas.Counting.{update-cases}
use Rattle.protocol.proofs.lemmas.Lists.{Contains-collected}
use Rattle.protocol.proofs.Mails.{in_mail, mail_asks, mail_answers}
use Rattle.protocol.proofs.lemmas.Strings.{NoClash-before, NoClashFor-before}
use Rattle.protocol.proofs.Invariant.{AtWork, IsOwned, IsTagged, Quorum, IsTask, IsStage, IsRecord, IsOutcome, IsAimed, IsAfter, NoClashFor, IsSafe, Fits as Fits', IsOpen, IsStored, IsPassed}
use Rattle.protocol.proofs.lemmas.Forming.{first_formed}
use Rattle.protocol.proofs.Freshness.{IsFresh-more}
use Rattle.protocol.proofs.lemmas.Sending.{unless_some}
use Rattle.lists.proofs.lemmas.Members.{Contains-one}

first_stage : (s : Setting) (work : Work) → Fits s work → IsStage s work (first_work work)
first_stage s Reads h = refl
first_stage s (Writes value) h = h

first_outcome : (s : Setting) (work : Work) → IsOutcome s work (chosen_stamp work (first_work work)) None
first_outcome s Reads = refl
first_outcome s (Writes value) = tt

first_aimed : (s : Setting) (stamp : Stamp) (work : Work) → IsAimed s stamp work (first_work work)
first_aimed s stamp Reads = refl
first_aimed s stamp (Writes value) = tt

module _ (s : Setting) (w : World) (safe : IsSafe s w) (place : ℕ) (later : w.place < place) (c block : ℕ) (work : Work)
    (number : IsClient s c) (correct : s.lying_client c ≡ false) (up : w.client_crashed c ≡ false) (idle : w.task c ≡ None) (few : w.started c < 2 ^ 32 - 1) (inside : block < s.blocks) (fits : Fits s work) where
  abbrev new : Task
  new = begun (last_op w c + 1) block work place

  abbrev after : World
  after = happens s w place (Start c block work)

  pub task_cases : (d : ℕ) (task : Task) → under_way after d ≡ Some task → ((d ≡ c) × (task ≡ new)) ⊎ ((d ≡ c → ⊥) × (under_way w d ≡ Some task))
  task_cases d task h =
      elim (update-cases w.task c (Some new) d) [
        | inl e ↦ inl (e.0, (let k : unless (w.client_crashed d) (Some new) ≡ Some task = rw e.1 at h in let q = (unless_some (w.client_crashed d) (Some new) task k).1 in let p : new ≡ task = cc in sym p))
        | inr e ↦ inr (e.0, (let k : unless (w.client_crashed d) (w.task d) ≡ Some task = rw e.1 at h in k))
      ]

  pub pool_cases : (m : Message) → Contains after.pool m → Contains w.pool m ⊎ ((i : ℕ) × (i < s.n) × (m ≡ outstanding s c new i))
  pool_cases m h =
      elim (Contains-append_cases w.pool (mail s c new) m h)
      [ inl k ↦ inl k | inr k ↦ inr (in_mail s c new m k) ]

  started_more : (d : ℕ) → last_op w d ≤ last_op after d
  started_more d = elim (update-cases w.started c (w.started c + 1) d) [ inl e ↦ rw (e.1, e.0) (omega arith) | inr e ↦ rw e.1 (omega arith) ]

  started_now : last_op after c ≡ last_op w c + 1
  started_now = elim (update-cases w.started c (w.started c + 1) c) [ inl e ↦ rw e.1 (omega arith) | inr e ↦ absurd (e.0 refl) ]

  started_same : (d : ℕ) → (d ≡ c → ⊥) → last_op after d ≡ last_op w d
  started_same d n = elim (update-cases w.started c (w.started c + 1) d) [ inl e ↦ absurd (n e.0) | inr e ↦ rw e.1 refl ]

  -- a message of before belongs to nothing new
  not_new : (m : Message) → Contains w.pool m → IsOwned s m.body m → s.lying_client m.client ≡ false → m.client ≡ c → m.tag.op ≡ last_op w c + 1 → ⊥
  not_new m h owned honest e k = let t : m.tag.op ≤ last_op w m.client = (safe.tagged m h owned honest).begun in let u : m.tag.op ≤ last_op w c = rw e at t in omega arith

  older : (m : Message) (task : Task) → Contains w.pool m → IsOwned s m.body m → s.lying_client m.client ≡ false → AtWork s after m task → AtWork s w m task
  older m task h owned honest at =
      elim (task_cases m.client task at.client) [
        | inl e ↦ absurd (not_new m h owned honest e.0 (at.op ∙ ap (λ (t : Task). t.op) e.1))
        | inr e ↦ record { client = e.1; op = at.op; phase = at.phase }
      ]

  record_cases : (r : Record) → Contains after.records r → Contains w.records r ⊎ (r ≡ open_record c new)
  record_cases r h = elim (Contains-append_cases w.records (open_record c new ∷ []) r h) [ inl k ↦ inl k | inr k ↦ inr (Contains-one r (open_record c new) k) ]

  value_before : (x : List ℕ) → IsValue s w x → IsValue s after x
  value_before x zeros_value = zeros_value
  value_before x (written {r = r} {value = v} {stamp = t} h k e) = written {r = r} {value = v} {stamp = t} (Contains-append_left w.records (open_record c new ∷ []) r h) k e
  value_before x (given {block = b} {end = e} {stamp = t} {value = v} h) =
      given {block = b} {end = e} {stamp = t} {value = v} (record { read = h.read; there = Contains-append_left w.records (open_record c new ∷ []) h.read h.there; of_block = h.of_block; ended = h.ended; how = h.how; rounds = h.rounds; gave = h.gave })

  apart_before : NoClash s after → NoClash s w
  apart_before = NoClash-before s w after (λ m h. Contains-append_left w.pool (mail s c new) m h) value_before

  tagged_after : (m : Message) → Contains after.pool m → IsOwned s m.body m → s.lying_client m.client ≡ false → IsTagged s after m
  tagged_after m h owned honest =
      elim (pool_cases m h) [
        | inl k ↦
            (let t = safe.tagged m k owned honest in
            record {
              begun = omega (arith, t.begun, started_more m.client);
              phase = λ task e f. elim (task_cases m.client task e)
                  [ inl q ↦ absurd (not_new m k owned honest q.0 (f ∙ ap (λ (t : Task). t.op) q.1)) | inr q ↦ t.phase task q.1 f ];
            })
        | inr k ↦
            (let is_c : m.client ≡ c = ap (λ (x : Message). x.client) k.2 in
            let op : m.tag.op ≡ last_op w c + 1 = ap (λ (x : Message). x.tag.op) k.2 in
            let first : m.tag.phase ≡ 1 = ap (λ (x : Message). x.tag.phase) k.2 in
            record {
              begun = rw is_c (omega (arith, op, started_now));
              phase = λ task e f. elim (task_cases m.client task e)
                  [ inl q ↦ (let p : task.phase ≡ 1 = ap (λ (t : Task). t.phase) q.1 in omega arith) | inr q ↦ absurd (q.0 is_c) ];
            })
      ]

  asked_after : (m : Message) (task : Task) (ask : Ask) → Contains after.pool m → m.body ≡ Asks ask → s.lying_client m.client ≡ false → AtWork s after m task
      → (ask.block ≡ task.block) × (ask.request ≡ request_of s task.stage m.node)
  asked_after m task ask h body honest at =
      elim (pool_cases m h) [
        | inl k ↦ safe.asked m task ask k body honest (older m task k (rw body honest) honest at)
        | inr k ↦ elim (task_cases m.client task at.client)
            [ inl e ↦ rw e.1 (mail_asks s c new m k.0 ask k.2 body) | inr e ↦ absurd (e.0 (ap (λ (x : Message). x.client) k.2)) ]
      ]

  answered_after : (m : Message) (task : Task) (reply : Reply) → Contains after.pool m → m.body ≡ Answers reply → s.lying_client m.client ≡ false → m.node < s.n → s.lying_node m.node ≡ false
      → AtWork s after m task → Fits' s after m.node task.block task.stage reply
  answered_after m task reply h body honest l upright at =
      elim (pool_cases m h)
      [ inl k ↦ safe.answered m task reply k body honest l upright (older m task k (rw body upright) honest at) | inr k ↦ absurd (mail_answers s c new m k.0 reply k.2 body) ]

  tasks_after : (d : ℕ) (task : Task) → under_way after d ≡ Some task → IsTask s after d task
  tasks_after d task e =
      elim (task_cases d task e) [
        | inl q ↦ rw (q.0, q.1) (record {
          correct = correct;
          numbered = number;
          newest = started_now;
          start = omega arith;
          block = inside;
          stage = first_stage s work fits;
          mailed = λ i l. Contains-append_right w.pool (mail s c new) _ (Contains-collected s.n (λ i. Some (outstanding s c new i)) (outstanding s c new i) i l refl);
          heard = λ i reply f. absurd (cc f);
        })
        | inr q ↦
            (let t = safe.tasks d task q.1 in
            record {
              correct = t.correct;
              numbered = t.numbered;
              newest = started_same d q.0 ∙ t.newest;
              start = omega (arith, t.start);
              block = t.block;
              stage = t.stage;
              mailed = λ i l. Contains-append_left w.pool (mail s c new) _ (t.mailed i l);
              heard = λ i reply f. let h = t.heard i reply f in (Contains-append_left w.pool (mail s c new) _ h.0, h.1);
            })
      ]

  open_back : (b start : ℕ) (bound : Bound) → IsOpen s after b start bound → IsOpen s w b start bound
  open_back b start bound h x end stamp there of_b e f late = h x end stamp (Contains-append_left w.records (open_record c new ∷ []) x there) of_b e f late

  passed_after : (b : ℕ) (stamp : Stamp) → IsPassed s w b stamp → IsPassed s after b stamp
  passed_after b stamp p = record {
    past = p.past;
    there = Contains-append_left w.records (open_record c new ∷ []) p.past p.there;
    of_block = p.of_block;
    end = p.end;
    ended = p.ended;
    reached = p.reached;
    stamped = p.stamped;
    up_to_it = p.up_to_it;
    before_all = λ d task e f. elim (task_cases d task e) [
      | inl q ↦ (let l = (safe.records p.past p.there).ended p.end p.ended in let a : task.start ≡ place = ap (λ (x : Task). x.start) q.1 in omega arith)
      | inr q ↦ p.before_all d task q.1 f
    ];
  }

  stored_after : (i b : ℕ) → i < s.n → s.lying_node i ≡ false → IsStored s after i b
  stored_after i b l h = let k = safe.stored i b l h in record {
    first = k.first;
    whole = k.whole;
    formed = k.formed;
    kept = k.kept;
    covered = λ stamp a. let v = k.covered stamp a in
        record { version = v.version; there = v.there; above = v.above; how = elim v.how [ inl e ↦ inl e | inr p ↦ inr (passed_after b v.version.stamp p) ] };
  }

  pub quorum_after : (b : ℕ) (stamp : Stamp) (end : ℕ) → Quorum s w b stamp end → Quorum s after b stamp end
  quorum_after b stamp end q = record {
    members = q.members;
    enough = q.enough;
    are_honest = q.are_honest;
    kept = q.kept;
    fresh = λ m reply task h body l member honest at of_b late. elim (pool_cases m h) [
      | inl k ↦ IsFresh-more s w after b task.start stamp (open_back b task.start) task.stage reply (q.fresh m reply task k body l member honest (older m task k (rw body (q.are_honest m.node member)) honest at) of_b late)
      | inr k ↦ absurd (mail_answers s c new m k.0 reply k.2 body)
    ];
  }

  records_after : (r : Record) → Contains after.records r → IsRecord s after r
  records_after r h =
      elim (record_cases r h) [
        | inl k ↦
            (let i = safe.records r k in
            record {
              start = omega (arith, i.start);
              ended = λ end e. omega (arith, i.ended end e);
              in_order = i.in_order;
              outcome = i.outcome;
              open_end = i.open_end;
              closed_end = i.closed_end;
              running = λ task e f. elim (task_cases r.client task e) [
                | inl q ↦ absurd (let o : r.start ≡ place = f ∙ ap (λ (t : Task). t.start) q.1 in omega (arith, o, i.start, later))
                | inr q ↦ i.running task q.1 f
              ];
              completed = λ end stamp e f. quorum_after r.block stamp end (i.completed end stamp e f);
            })
        | inr k ↦ rw k (record {
          start = omega arith;
          ended = λ end e. absurd (cc e);
          in_order = λ end e. absurd (cc e);
          outcome = first_outcome s work;
          open_end = λ e. refl;
          closed_end = λ end e. absurd (cc e);
          running = λ task e f. elim (task_cases c task e) [ inl q ↦ rw q.1 refl | inr q ↦ absurd (q.0 refl) ];
          completed = λ end stamp e f. absurd (cc e);
        })
      ]

  aimed_after : (d : ℕ) (task : Task) → NoClashFor s after task.work → (x : Record) (end : ℕ) (stamp : Stamp) → Contains after.records x → x.end ≡ Some end → x.stamp ≡ Some stamp
      → under_way after d ≡ Some task → task.block ≡ x.block → end < task.start → IsAimed s stamp task.work task.stage
  aimed_after d task apart x end stamp h e f g of_block late =
      elim (task_cases d task g) [
        | inl q ↦ rw q.1 (first_aimed s stamp work)
        | inr q ↦ elim (record_cases x h) [
          | inl k ↦ safe.aimed d task (NoClashFor-before s w after apart_before task.work apart) x end stamp k e f q.1 of_block late
          | inr k ↦ absurd (let z : x.end ≡ None = ap (λ (r : Record). r.end) k in cc)
        ]
      ]

  first_none : (wk : Work) → chosen_stamp wk (first_work wk) ≡ None
  first_none Reads = refl
  first_none (Writes value) = refl

  ordered_after : (x y : Record) → NoClashFor s after y.work → (end : ℕ) (stamp last : Stamp) → Contains after.records x → Contains after.records y → x.end ≡ Some end → x.stamp ≡ Some stamp
      → y.stamp ≡ Some last → y.block ≡ x.block → end < y.start → IsAfter s stamp y.work last
  ordered_after x y apart end stamp last h k e f g of_block late =
      elim (record_cases x h) [
        | inl m ↦ elim (record_cases y k) [
          | inl n ↦ safe.ordered x y (NoClashFor-before s w after apart_before y.work apart) end stamp last m n e f g of_block late
          | inr n ↦ absurd (let z : y.stamp ≡ None = ap (λ (r : Record). r.stamp) n ∙ first_none work in cc)
        ]
        | inr m ↦ absurd (let z : x.end ≡ None = ap (λ (r : Record). r.end) m in cc)
      ]

  pub started_safe : IsSafe s after
  started_safe = record {
    lives = λ d. elim (update-cases w.started c (w.started c + 1) d) [ inl e ↦ rw e.1 (omega (arith, few)) | inr e ↦ rw e.1 (safe.lives d) ];
    formed = λ m h. elim (pool_cases m h) [ inl k ↦ safe.formed m k | inr k ↦ rw k.2 (first_formed s work k.0) ];
    stored = stored_after;
    tagged = tagged_after;
    asked = asked_after;
    answered = answered_after;
    tasks = tasks_after;
    records = records_after;
    aimed = aimed_after;
    ordered = ordered_after;
  }
