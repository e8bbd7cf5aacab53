-- What a client's reads gave is as long as a block, and of the cluster's blocks.
use Rattle.std.proofs.Common.{◌≡◌, ℕ, ◌+◌, ◌-◌, ◌^◌, ◌<◌, ◌≤◌, ◌==◌, Bool, true, false, cond, List, [], ◌∷◌, length, map, Option, refl, sym, ap, subst, ◌∙◌, inl, inr}
use Rattle.std.specs.Prelude.{IfSome}
use Rattle.std.specs.declared.option.Option.TheVariants.{None, Some}
use Rattle.std.specs.List.{Contains}
use Rattle.std.proofs.lemmas.List.{length-replicate}
use Rattle.std.proofs.lemmas.List.Elements.{Contains-append_cases}
use Rattle.lists.proofs.lemmas.Members.{Contains-none, Contains-one, Contains-map_cases}
use Rattle.quorum_rules.specs.Limits.{Numbers}
use Rattle.stamp_order.specs.declared.Stamp.{Stamp}
use Rattle.stamp_order.specs.declared.Bound.{Bound}
use Rattle.stamp_order.specs.declared.Bound.TheVariants.{AtMost, Below}
use Rattle.gf_field.proofs.lemmas.FragmentLaws.{length-decoded}
use Rattle.run_words.specs.declared.outcome.How.TheVariants.{Plain}
use Rattle.run_words.specs.declared.outcome.Outcome.TheVariants.{Wrote, Spent, Gave, Outvoted}
use Rattle.wire_forms.specs.declared.message.Body.TheVariants.{Ask as Asks, Answer as Answers}
use Rattle.protocol.specs.Count.{one_more}
use Rattle.protocol.specs.Messages.{Tag, Message, Body, Reply}
use Rattle.protocol.specs.Setting.{Setting, verifier_of, first_stamp, zeros}
use Rattle.protocol.specs.Instance.{setting, part_numbers, part_strings}
use Rattle.protocol.specs.Operations.{Outcome, Decision, Work, Stage, Task, decide, decide_pivot, decide_at, decide_time, pivot, chosen, candidate, part_of, value_of, drawn_from, first_work, awaits_more}
use Rattle.protocol.specs.Operations.Decision.{GoesOn, Ends as EndsWith}
use Rattle.protocol.specs.Operations.Work.{Reads, Writes}
use Rattle.protocol.specs.Operations.Stage.{Times, Versions, Storing}
use Rattle.protocol.specs.World.{Record}
use Rattle.protocol.specs.Seen.{SeenTask, Hearing, is_counted, seen_counted, by_decision, after_counting, hearing, task_at, block_of, work_of, started_task}
use Rattle.protocol.specs.Seen.Hearing.{Ignored, Counted, Begins, Ended as Ends}
use Rattle.operation_core.specs.Clients.{ClientView, told, hears}
use Rattle.journals.specs.declared.desk.DeskAct.{DeskAct}
use Rattle.journals.specs.declared.desk.DeskAct.TheVariants.{Start, Crash, Call}
use Rattle.journals.specs.declared.desk.DeskEntry.{DeskEntry}
use Rattle.journals.specs.Agreement.{ended_record}
use Rattle.journals.specs.Desks.{DeskState, Ended, DeskGoes, DeskKept, new_desk, ended_by, desk_heard, desk_after, desk_after_all}
use Rattle.journals.specs.Records.{record_of_task, open_records, client_records}
use Rattle.block_device.specs.Latest.{value_given, AreWhole}
use Rattle.client_duties.proofs.Heard.{Keeps, hears_keep}

-- ---- what is whole

module _ (size : ℕ) where
  -- a value that is given is as long as a block
  abbrev pub GivesWhole : Outcome → Type 0
  GivesWhole (Gave stamp value how rounds) = length value ≡ size
  GivesWhole (Wrote stamp) = Unit {0}
  GivesWhole Spent = Unit {0}
  GivesWhole (Outvoted nodes) = Unit {0}

  -- a read asks for versions, or stores a whole block
  abbrev ReadsWhole : Stage → Type 0
  ReadsWhole Times = ⊥
  ReadsWhole (Versions bound) = Unit {0}
  ReadsWhole (Storing stamp value) = length value ≡ size

  abbrev IsWholeWork : Work → Stage → Type 0
  IsWholeWork Reads stage = ReadsWhole stage
  IsWholeWork (Writes value) stage = Unit {0}

  abbrev IsWholeTask : SeenTask → Type 0
  IsWholeTask t = IsWholeWork t.work t.stage

  abbrev DecidesWhole : Work → Decision → Type 0
  DecidesWhole work (GoesOn stage) = IsWholeWork work stage
  DecidesWhole work (EndsWith outcome) = GivesWhole outcome

  abbrev HearsWhole : Hearing → Type 0
  HearsWhole Ignored = Unit {0}
  HearsWhole (Counted t) = IsWholeTask t
  HearsWhole (Begins t) = IsWholeTask t
  HearsWhole (Ends outcome) = GivesWhole outcome

-- ---- what an answer does

module _ (c : Numbers) (some : 1 ≤ c.m) (client : ℕ) where
  abbrev s : Setting
  s = setting c

  candidate_whole : (answers : ℕ → Option Reply) (bound : Bound) (p : Stamp) → length (candidate s answers bound p) ≡ c.size
  candidate_whole answers bound p =
      let parts = map part_of (chosen s answers bound p) in
      length-decoded c.m c.size (part_numbers parts) (part_strings parts) some

  -- a round's end, of a read or of what no write does
  asks_versions : (work : Work) (bound : Bound) → IsWholeWork c.size work (Versions bound)
  asks_versions Reads bound = tt
  asks_versions (Writes value) bound = tt

  stores : (work : Work) (stamp : Stamp) (value : List ℕ) → length value ≡ c.size → IsWholeWork c.size work (Storing stamp value)
  stores Reads stamp value e = e
  stores (Writes written) stamp value e = tt

  round_whole : (work : Work) (answers : ℕ → Option Reply) (bound : Bound) (rounds : ℕ) (p : Stamp) → DecidesWhole c.size work (decide_at s answers bound rounds p)
  round_whole work answers bound rounds p = at _ _ _ _
    where
      at : (first few poison enough : Bool)
          → DecidesWhole c.size work (cond first (EndsWith (Gave (first_stamp s) (zeros s) Plain rounds)) (cond few (GoesOn (Versions (AtMost p)))
          (cond poison (GoesOn (Versions (Below p))) (cond enough (EndsWith (Gave p (candidate s answers bound p) Plain rounds)) (GoesOn (Storing p (candidate s answers bound p)))))))
      at true few poison enough = length-replicate {A = ℕ} c.size 0
      at false true poison enough = asks_versions work (AtMost p)
      at false false true enough = asks_versions work (Below p)
      at false false false true = candidate_whole answers bound p
      at false false false false = stores work p (candidate s answers bound p) (candidate_whole answers bound p)

  pivot_whole : (work : Work) (answers : ℕ → Option Reply) (bound : Bound) (rounds : ℕ) (o : Option Stamp) → DecidesWhole c.size work (decide_pivot s answers bound rounds o)
  pivot_whole work answers bound rounds None = tt
  pivot_whole work answers bound rounds (Some p) = round_whole work answers bound rounds p

  time_whole : (value : List ℕ) (written : List ℕ) (x : ℕ) → DecidesWhole c.size (Writes value) (decide_time s client written x)
  time_whole value written x = at (x == 2 ^ 64 - 1)
    where
      at : (b : Bool) → DecidesWhole c.size (Writes value) (cond b (EndsWith Spent) (GoesOn (Storing (record { time = x + 1; client = client; verifier = verifier_of s written }) written)))
      at true = tt
      at false = tt

  decide_whole : (task : Task) (work : Work) (stage : Stage) → task.work ≡ work → IsWholeWork c.size work stage → DecidesWhole c.size work (decide s client task stage)
  decide_whole task Reads Times e h = absurd h
  decide_whole task (Writes value) Times e h = time_whole value (value_of task.work) (drawn_from s task.answers)
  decide_whole task work (Versions bound) e h = pivot_whole work task.answers bound task.rounds (pivot s task.answers bound)
  decide_whole task Reads (Storing stamp value) e h = subst (λ (w : Work). GivesWhole c.size (Rattle.protocol.specs.Operations.stored w task.rounds stamp value)) (sym e) h
  decide_whole task (Writes written) (Storing stamp value) e h = subst (λ (w : Work). GivesWhole c.size (Rattle.protocol.specs.Operations.stored w task.rounds stamp value)) (sym e) tt

  decision_whole : (t : SeenTask) (x : Decision) → DecidesWhole c.size t.work x → HearsWhole c.size (by_decision s t x)
  decision_whole t (GoesOn stage) h = h
  decision_whole t (EndsWith outcome) h = h

  counting_whole : (t : SeenTask) → IsWholeTask c.size t → HearsWhole c.size (after_counting s client t)
  counting_whole t h = at (awaits_more s (task_at 0 t))
    where
      at : (b : Bool) → HearsWhole c.size (cond b (Counted t) (by_decision s t (decide s client (task_at 0 t) t.stage)))
      at true = h
      at false = decision_whole t (decide s client (task_at 0 t) t.stage) (decide_whole (task_at 0 t) t.work t.stage refl h)

  hearing_whole : (t : SeenTask) (node : ℕ) (tag : Tag) (reply : Reply) → IsWholeTask c.size t → HearsWhole c.size (hearing s client t node tag reply)
  hearing_whole t node tag reply h = at (is_counted s t node tag reply)
    where
      at : (b : Bool) → HearsWhole c.size (cond b (after_counting s client (seen_counted t node reply)) Ignored)
      at true = counting_whole (seen_counted t node reply) h
      at false = tt

hears_whole : (c : ClientView) → 1 ≤ c.config.m → (o : Option SeenTask) → IfSome o (IsWholeTask c.config.size) → (m : Message) → HearsWhole c.config.size (hears c o m)
hears_whole c some None h m = tt
hears_whole c some (Some t) h m = at m.body
  where
    from : (b : Bool) (reply : Reply) → HearsWhole c.config.size (cond b (hearing (setting c.config) c.id t m.node m.tag reply) Ignored)
    from true reply = hearing_whole c.config some c.id t m.node m.tag reply h
    from false reply = tt

    at : (body : Body) → HearsWhole c.config.size (told c t m body)
    at (Asks ask) = tt
    at (Answers reply) = from (m.client == c.id) reply

-- ---- a client after its entries

module _ (size : ℕ) where
  -- what it has given is whole, and what it does will be
  record GaveWhole (d : DeskState) : Type 0 where
    task : IfSome d.client.seen.task (IsWholeTask size)
    ended : (x : Ended) → Contains d.ended x → GivesWhole size x.outcome

  one_whole : (xs : List Ended) (start n : ℕ) (o : Option SeenTask) (h : Hearing) → HearsWhole size h → ((x : Ended) → Contains xs x → GivesWhole size x.outcome)
      → (x : Ended) → Contains (one_more xs (ended_by start n o h)) x → GivesWhole size x.outcome
  one_whole xs start n None h w all x there = all x there
  one_whole xs start n (Some t) Ignored w all x there = all x there
  one_whole xs start n (Some t) (Counted u) w all x there = all x there
  one_whole xs start n (Some t) (Begins u) w all x there = all x there
  one_whole xs start n (Some t) (Ends outcome) w all x there =
      let e : Ended = record { block = t.block; work = t.work; start = start; end = n; outcome = outcome } in
      elim (Contains-append_cases xs (e ∷ []) x there) [
        | inl before ↦ all x before
        | inr now ↦ subst (λ (y : Ended). GivesWhole size y.outcome) (sym (Contains-one x e now)) w
      ]

  heard_whole : (d : DeskState) (n : ℕ) (h : Hearing) → HearsWhole size h → GaveWhole d → GaveWhole (desk_heard d n h)
  heard_whole d n Ignored w g = record { task = g.task; ended = one_whole d.ended d.began n d.client.seen.task Ignored w g.ended }
  heard_whole d n (Counted t) w g = record { task = w; ended = one_whole d.ended d.began n d.client.seen.task (Counted t) w g.ended }
  heard_whole d n (Begins t) w g = record { task = w; ended = one_whole d.ended d.began n d.client.seen.task (Begins t) w g.ended }
  heard_whole d n (Ends outcome) w g = record { task = tt; ended = one_whole d.ended d.began n d.client.seen.task (Ends outcome) w g.ended }

  begins_whole : (work : Work) → IsWholeWork size work (first_work work)
  begins_whole Reads = tt
  begins_whole (Writes value) = tt

-- the cluster stays
heard_config : (d : DeskState) (n : ℕ) (h : Hearing) → (desk_heard d n h).client.config ≡ d.client.config
heard_config d n Ignored = refl
heard_config d n (Counted t) = refl
heard_config d n (Begins t) = refl
heard_config d n (Ends outcome) = refl

act_config : (d : DeskState) (n : ℕ) (a : DeskAct) → (desk_after d n a).client.config ≡ d.client.config
act_config d n (Start op) = refl
act_config d n Crash = refl
act_config d n (Call way ask None) = refl
act_config d n (Call way ask (Some m)) = heard_config d n (hears d.client d.client.seen.task m)

module _ (c : Numbers) (some : 1 ≤ c.m) where
  act_whole : (d : DeskState) (n : ℕ) (a : DeskAct) → d.client.config ≡ c → GaveWhole c.size d → GaveWhole c.size (desk_after d n a)
  act_whole d n (Start op) e g = record { task = begins_whole c.size (work_of op); ended = g.ended }
  act_whole d n Crash e g = record { task = g.task; ended = g.ended }
  act_whole d n (Call way ask None) e g = g
  act_whole d n (Call way ask (Some m)) e g =
      let size : d.client.config.size ≡ c.size = ap (λ (x : Numbers). x.size) e in
      let task = subst (λ (k : ℕ). IfSome d.client.seen.task (IsWholeTask k)) (sym size) g.task in
      heard_whole c.size d n (hears d.client d.client.seen.task m)
      (subst (λ (k : ℕ). HearsWhole k (hears d.client d.client.seen.task m)) size
      (hears_whole d.client (subst (λ (x : Numbers). 1 ≤ x.m) (sym e) some) d.client.seen.task task m)) g

  all_whole : (d : DeskState) (es : List DeskEntry) → d.client.config ≡ c → GaveWhole c.size d → GaveWhole c.size (desk_after_all d es)
  all_whole d [] e g = g
  all_whole d (x ∷ es) e g = all_whole (desk_after d x.number x.act) es (act_config d x.number x.act ∙ e) (act_whole d x.number x.act e g)

-- ---- the records

value_whole : (size : ℕ) (o : Outcome) (value : List ℕ) → GivesWhole size o → value_given (Some o) ≡ Some value → length value ≡ size
value_whole size (Gave stamp v how rounds) value h e = (let same : v ≡ value = cc in ap length (sym same) ∙ h)
value_whole size (Wrote stamp) value h e = absurd (cc)
value_whole size Spent value h e = absurd (cc)
value_whole size (Outvoted nodes) value h e = absurd (cc)

open_gives : (client start : ℕ) (o : Option SeenTask) (r : Record) (value : List ℕ) → Contains (record_of_task client (started_task start o)) r → value_given r.outcome ≡ Some value → ⊥
open_gives client start None r value there e = Contains-none r there
open_gives client start (Some t) r value there e =
    let same : r ≡ Rattle.protocol.specs.World.open_record client (task_at start t) = Contains-one r (Rattle.protocol.specs.World.open_record client (task_at start t)) there in
    let none : None ≡ Some value = ap (λ (x : Record). value_given x.outcome) (sym same) ∙ e in
    cc

-- what a client's reads gave is as long as a block
pub given_whole : (c : Numbers) → 1 ≤ c.m → (id : ℕ) (es : List DeskEntry) → AreWhole c.size (client_records id (desk_after_all (new_desk c id) es))
given_whole c some id es r value there e =
    let d = desk_after_all (new_desk c id) es in
    let g = all_whole c some (new_desk c id) es refl (record { task = tt; ended = λ x none. absurd (Contains-none x none) }) in
    elim (Contains-append_cases (map (ended_record id) d.ended) (open_records id d) r there) [
      | inl over ↦ (
          let q = Contains-map_cases (ended_record id) d.ended r over in
          value_whole c.size q.0.outcome value (g.ended q.0 q.1) (ap (λ (x : Record). value_given x.outcome) (sym q.2) ∙ e)
          )
      | inr now ↦ absurd (open_gives id (d.began + 1) d.client.seen.task r value now e)
    ]

-- ---- the blocks of operations

module _ (blocks : ℕ) where
  -- what the client does, and what it did, is on blocks that there are
  record IsInside (d : DeskState) : Type 0 where
    task : IfSome d.client.seen.task (λ t. t.block < blocks)
    ended : (x : Ended) → Contains d.ended x → x.block < blocks

  abbrev GoesInside : Hearing → Type 0
  GoesInside Ignored = Unit {0}
  GoesInside (Counted t) = t.block < blocks
  GoesInside (Begins t) = t.block < blocks
  GoesInside (Ends outcome) = Unit {0}

  kept_inside : (t : SeenTask) (h : Hearing) → t.block < blocks → Keeps t h → GoesInside h
  kept_inside t Ignored l k = tt
  kept_inside t (Counted u) l k = subst (λ (b : ℕ). b < blocks) (sym k.1) l
  kept_inside t (Begins u) l k = subst (λ (b : ℕ). b < blocks) (sym k.1) l
  kept_inside t (Ends outcome) l k = tt

  hears_inside : (c : ClientView) (o : Option SeenTask) (m : Message) → IfSome o (λ t. t.block < blocks) → GoesInside (hears c o m)
  hears_inside c None m l = tt
  hears_inside c (Some t) m l = kept_inside t (hears c (Some t) m) l (hears_keep c t m)

  one_inside : (xs : List Ended) (start n : ℕ) (o : Option SeenTask) (h : Hearing) → IfSome o (λ t. t.block < blocks) → ((x : Ended) → Contains xs x → x.block < blocks)
      → (x : Ended) → Contains (one_more xs (ended_by start n o h)) x → x.block < blocks
  one_inside xs start n None h l all x there = all x there
  one_inside xs start n (Some t) Ignored l all x there = all x there
  one_inside xs start n (Some t) (Counted u) l all x there = all x there
  one_inside xs start n (Some t) (Begins u) l all x there = all x there
  one_inside xs start n (Some t) (Ends outcome) l all x there =
      let e : Ended = record { block = t.block; work = t.work; start = start; end = n; outcome = outcome } in
      elim (Contains-append_cases xs (e ∷ []) x there) [
        | inl before ↦ all x before
        | inr now ↦ subst (λ (y : Ended). y.block < blocks) (sym (Contains-one x e now)) l
      ]

  heard_inside : (d : DeskState) (n : ℕ) (h : Hearing) → GoesInside h → IsInside d → IsInside (desk_heard d n h)
  heard_inside d n Ignored w g = record { task = g.task; ended = one_inside d.ended d.began n d.client.seen.task Ignored g.task g.ended }
  heard_inside d n (Counted t) w g = record { task = w; ended = one_inside d.ended d.began n d.client.seen.task (Counted t) g.task g.ended }
  heard_inside d n (Begins t) w g = record { task = w; ended = one_inside d.ended d.began n d.client.seen.task (Begins t) g.task g.ended }
  heard_inside d n (Ends outcome) w g = record { task = tt; ended = one_inside d.ended d.began n d.client.seen.task (Ends outcome) g.task g.ended }

  act_inside : (d : DeskState) (n : ℕ) (a : DeskAct) → d.client.config.blocks ≡ blocks → DeskGoes d a → IsInside d → IsInside (desk_after d n a)
  act_inside d n (Start op) e may g = record { task = subst (λ (b : ℕ). block_of op < b) e may.1.fits.block; ended = g.ended }
  act_inside d n Crash e may g = record { task = g.task; ended = g.ended }
  act_inside d n (Call way ask None) e may g = g
  act_inside d n (Call way ask (Some m)) e may g = heard_inside d n (hears d.client d.client.seen.task m) (hears_inside d.client d.client.seen.task m g.task) g

  all_inside : (d : DeskState) (es : List DeskEntry) → d.client.config.blocks ≡ blocks → DeskKept false d es → IsInside d → IsInside (desk_after_all d es)
  all_inside d [] e kept g = g
  all_inside d (x ∷ es) e kept g =
      all_inside (desk_after d x.number x.act) es (ap (λ (c : Numbers). c.blocks) (act_config d x.number x.act) ∙ e) kept.1 (act_inside d x.number x.act e kept.0 g)

-- a correct client's operations are on the cluster's blocks
pub ended_inside : (c : Numbers) (id : ℕ) (es : List DeskEntry) → DeskKept false (new_desk c id) es → (x : Ended) → Contains (desk_after_all (new_desk c id) es).ended x → x.block < c.blocks
ended_inside c id es kept = (all_inside c.blocks (new_desk c id) es refl kept (record { task = tt; ended = λ x none. absurd (Contains-none x none) })).ended
