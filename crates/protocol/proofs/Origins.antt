-- Where the stamps come from that honest nodes accepted.
use Rattle.std.proofs.Common.{◌≡◌, ◌⊎◌, ℕ, ◌+◌, ◌-◌, ◌^◌, ◌<◌, ◌≤◌, Bool, true, false, ◌&&◌, List, [], ◌∷◌, ◌++◌, Option, refl, sym, ◌∙◌, ap, inl, inr, arith, eqb}
use Rattle.std.specs.declared.option.Option.TheVariants.{None, Some}
use Rattle.std.specs.List.{Contains}
use Rattle.std.proofs.lemmas.Bool.Decides.{nat_tests}
use Rattle.std.proofs.lemmas.List.Elements.{Contains-append_cases, Contains-append_left, Contains-push}
use Rattle.stamp_order.specs.declared.Stamp.{Stamp}
use Rattle.protocol.specs.Messages.{Version, Ask, Request, Message}
use Rattle.wire_forms.specs.declared.Request.TheVariants.{Time, Read, Write}
use Rattle.wire_forms.specs.declared.Body.TheVariants.{Ask as Asks}
use Rattle.protocol.specs.Setting.{Setting}
use Rattle.protocol.proofs.lemmas.Keeping.{accepts_is}
use Rattle.protocol.specs.Operations.{Task, Work, Stage, How, first_work, begun, request_of, outstanding}
use Rattle.protocol.specs.Operations.Work.{Reads, Writes}
use Rattle.run_words.specs.declared.outcome.Outcome.TheVariants.{Gave}
use Rattle.protocol.specs.Operations.Stage.{Times, Versions, Storing}
use Rattle.protocol.specs.World.{Record, World, Fits, moved, replaced_by, chosen_stamp, happens, handled, open_record, under_way, last_op, IsClient}
use Rattle.protocol.specs.World.Event.{Start}
use Rattle.protocol.specs.History.{HasWrite}
pub use Rattle.protocol.specs.Facts.{IsKnown}
use Rattle.protocol.proofs.Mails.{mail_asks}
use Rattle.protocol.proofs.Giving.{accepted_cases}
use Rattle.protocol.proofs.Starting.{pool_cases, task_cases}
use Rattle.protocol.proofs.lemmas.Sending.{IsSentNow, IsLess, changed_world}
use Rattle.protocol.proofs.Moving.{IsMove, record_after, pool_cases as moved_pool, task_cases as moved_task, record_cases as moved_record}
use Rattle.protocol.proofs.Invariant.{IsSafe}
use Rattle.lists.proofs.lemmas.Members.{Contains-one, Contains-map}

module _ (s : Setting) where
  abbrev pub IsKnownStage : World → ℕ → Stage → Type 0
  IsKnownStage w block (Storing stamp value) = IsKnown s w block stamp
  IsKnownStage w block _ = Unit {0}

  abbrev pub IsKnownRequest : World → ℕ → Request → Type 0
  IsKnownRequest w block (Write v) = IsKnown s w block v.stamp
  IsKnownRequest w block _ = Unit {0}

  pub record HasOrigins (w : World) : Type 0 where
    pub kept : (i block : ℕ) (stamp : Stamp) → Contains w.accepted (record { node = i; block = block; stamp = stamp }) → IsKnown s w block stamp
    pub asked : (m : Message) (ask : Ask) → Contains w.pool m → m.body ≡ Asks ask → s.lying_client m.client ≡ false → IsKnownRequest w ask.block ask.request
    pub tasks : (c : ℕ) (task : Task) → under_way w c ≡ Some task → IsKnownStage w task.block task.stage × Contains w.records (open_record c task)
    pub gave : (r : Record) (stamp : Stamp) (value : List ℕ) (how : How) (rounds : ℕ) → Contains w.records r → r.outcome ≡ Some (Gave stamp value how rounds) → IsKnown s w r.block stamp

  -- what is known stays known, where messages and records are only added
  module _ (w v : World) (pool : (m : Message) → Contains w.pool m → Contains v.pool m) (writes : (block : ℕ) (stamp : Stamp) → HasWrite w.records block stamp → HasWrite v.records block stamp) where
    pub known-more : (block : ℕ) (stamp : Stamp) → IsKnown s w block stamp → IsKnown s v block stamp
    known-more block stamp (inl e) = inl e
    known-more block stamp (inr (inl h)) = inr (inl (writes block stamp h))
    known-more block stamp (inr (inr h)) = inr (inr (record { message = h.message; there = pool h.message h.there; lies = h.lies; version = h.version; asks = h.asks; stamped = h.stamped }))

    pub stage-more : (block : ℕ) (stage : Stage) → IsKnownStage w block stage → IsKnownStage v block stage
    stage-more block Times h = tt
    stage-more block (Versions bound) h = tt
    stage-more block (Storing stamp value) h = known-more block stamp h

    pub request-more : (block : ℕ) (request : Request) → IsKnownRequest w block request → IsKnownRequest v block request
    request-more block Time h = tt
    request-more block (Read bound) h = tt
    request-more block (Write u) h = known-more block u.stamp h

  -- the request of a stage
  request_known : (w : World) (block i : ℕ) (stage : Stage) → IsKnownStage w block stage → IsKnownRequest w block (request_of s stage i)
  request_known w block i Times h = tt
  request_known w block i (Versions bound) h = tt
  request_known w block i (Storing stamp value) h = h

  -- a node's answer
  module _ (w : World) (safe : IsSafe s w) (origins : HasOrigins w) (place : ℕ) (later : w.place ≤ place) (i : ℕ) (inside : i < s.n) (upright : s.lying_node i ≡ false) (m : Message) (there : Contains w.pool m) (to_i : m.node ≡ i) (ask : Ask) (asks : m.body ≡ Asks ask) where
    abbrev given : World
    given = handled s w place i m ask

    pool_more : (x : Message) → Contains w.pool x → Contains given.pool x
    pool_more x h = Contains-append_left w.pool _ x h

    -- what the ask writes is known
    ask_known : (v : Version) → ask.request ≡ Write v → IsKnown s w ask.block v.stamp
    ask_known v e = at (s.lying_client m.client) refl
      where
        whole : ask ≡ record { block = ask.block; request = Write v }
        whole = ap (λ (r : Request). record_of r) e
          where
            record_of : Request → Ask
            record_of r = record { block = ask.block; request = r }

        at : (b : Bool) → s.lying_client m.client ≡ b → IsKnown s w ask.block v.stamp
        at true l = inr (inr (record { message = m; there = there; lies = l; version = v; asks = asks ∙ ap Asks whole; stamped = refl }))
        at false l = let k = origins.asked m ask there asks l in (rw e at k)

    pub given_origins : HasOrigins given
    given_origins = record {
      kept = λ j block stamp h. elim (accepted_cases s w safe place later i inside upright m there to_i ask asks j block stamp (inr h)) [
        | inl k ↦ elim k [ inl e ↦ inl e | inr q ↦ known-more w given pool_more (λ b t k. k) block stamp (origins.kept j block stamp q) ]
        | inr k ↦ (let g = known-more w given pool_more (λ b t k. k) ask.block k.0.stamp (ask_known k.0 (accepts_is s i (w.versions i ask.block) ask k.0 k.1).asked) in rw (k.3, k.4) g)
      ];
      asked = λ x a h body honest. elim (Contains-append_cases w.pool _ x h) [
        | inl k ↦ request-more w given pool_more (λ b t k. k) a.block a.request (origins.asked x a k body honest)
        | inr k ↦ absurd (let b = ap (λ (y : Message). y.body) (Contains-one x _ k) in cc (b, body))
      ];
      tasks = λ c task e. let t = origins.tasks c task e in (stage-more w given pool_more (λ b t k. k) task.block task.stage t.0, t.1);
      gave = λ r stamp value how rounds h e. known-more w given pool_more (λ b t k. k) r.block stamp (origins.gave r stamp value how rounds h e);
    }

  no_write : (work : Work) (i : ℕ) (w : World) (block : ℕ) → IsKnownRequest w block (request_of s (first_work work) i)
  no_write Reads i w block = tt
  no_write (Writes value) i w block = tt

  first_known : (work : Work) (w : World) (block : ℕ) → IsKnownStage w block (first_work work)
  first_known Reads w block = tt
  first_known (Writes value) w block = tt

  write_rest : (rs more : List Record) (block : ℕ) (stamp : Stamp) → HasWrite rs block stamp → HasWrite (rs ++ more) block stamp
  write_rest rs more block stamp h = record { write = h.write; there = Contains-append_left rs more h.write h.there; of_block = h.of_block; value = h.value; writes = h.writes; chose = h.chose }

  request_as : (w : World) (a b : ℕ) (r q : Request) → a ≡ b → r ≡ q → IsKnownRequest w b q → IsKnownRequest w a r
  request_as w a b r q e f h = rw (e, f) h

  -- a start
  module _ (w : World) (safe : IsSafe s w) (origins : HasOrigins w) (place : ℕ) (later : w.place < place) (c block : ℕ) (work : Work)
      (number : IsClient s c) (correct : s.lying_client c ≡ false) (up : w.client_crashed c ≡ false) (idle : w.task c ≡ None) (few : w.started c < 2 ^ 32 - 1) (inside : block < s.blocks) (fits : Fits s work) where
    abbrev begins : Task
    begins = begun (last_op w c + 1) block work place

    abbrev started : World
    started = happens s w place (Start c block work)

    start_pool : (m : Message) → Contains w.pool m → Contains started.pool m
    start_pool m h = Contains-append_left w.pool _ m h

    pub started_origins : HasOrigins started
    started_origins = record {
      kept = λ i b stamp h. known-more w started start_pool (write_rest w.records (open_record c begins ∷ [])) b stamp (origins.kept i b stamp h);
      asked = λ m ask h body honest. elim (pool_cases s w safe place later c block work number correct up idle few inside fits m h) [
        | inl k ↦ request-more w started start_pool (write_rest w.records (open_record c begins ∷ [])) ask.block ask.request (origins.asked m ask k body honest)
        | inr k ↦ (let a = mail_asks s c begins m k.0 ask k.2 body in request_as started ask.block block ask.request _ a.0 a.1 (no_write work m.node started block))
      ];
      tasks = λ d task e. elim (task_cases s w safe place later c block work number correct up idle few inside fits d task e) [
        | inl q ↦ rw (q.0, q.1) (first_known work started block, Contains-push w.records (open_record c begins))
        | inr q ↦ (let t = origins.tasks d task q.1 in
            (stage-more w started start_pool (write_rest w.records (open_record c begins ∷ [])) task.block task.stage t.0, Contains-append_left w.records _ _ t.1))
      ];
      gave = λ r stamp value how rounds h e. elim (Contains-append_cases w.records (open_record c begins ∷ []) r h) [
        | inl k ↦ known-more w started start_pool (write_rest w.records (open_record c begins ∷ [])) r.block stamp (origins.gave r stamp value how rounds k e)
        | inr k ↦ absurd (let z : r.outcome ≡ None = ap (λ (x : Record). x.outcome) (Contains-one r _ k) in cc)
      ];
    }

  -- messages are added, and no client does anything new
  module _ (w : World) (safe : IsSafe s w) (origins : HasOrigins w) (place : ℕ) (later : w.place ≤ place) (pool : List Message) (versions : ℕ → ℕ → List Version)
      (task : ℕ → Option Task) (life started : ℕ → ℕ) (nodes clients : ℕ → Bool) (less : IsLess s w safe place later pool versions task life started nodes clients) where
    abbrev less_world : World
    less_world = changed_world s w safe place later pool versions task life started nodes clients

    sent_asks : (m : Message) (ask : Ask) → m.body ≡ Asks ask → IsSentNow s w m → IsKnownRequest w ask.block ask.request
    sent_asks m ask body now =
        let a = mail_asks s m.client now.0 m now.1 ask now.3 body in
        request_as w ask.block now.0.block ask.request _ a.0 a.1 (request_known w now.0.block m.node now.0.stage (origins.tasks m.client now.0 now.2).0)

    pub less_origins : HasOrigins less_world
    less_origins = record {
      kept = λ i b stamp h. known-more w less_world less.all (λ b t k. k) b stamp (origins.kept i b stamp h);
      asked = λ m ask h body honest. request-more w less_world less.all (λ b t k. k) ask.block ask.request
          (elim (less.each m h) [ inl k ↦ origins.asked m ask k body honest | inr k ↦ sent_asks m ask body (k (rw body honest) honest) ]);
      tasks = λ c z e. let t = origins.tasks c z (less.fewer c z e) in (stage-more w less_world less.all (λ b t k. k) z.block z.stage t.0, t.1);
      gave = λ r stamp value how rounds h e. known-more w less_world less.all (λ b t k. k) r.block stamp (origins.gave r stamp value how rounds h e);
    }

  -- a task that moves on or ends
  module _ (w : World) (safe : IsSafe s w) (origins : HasOrigins w) (place : ℕ) (later : w.place ≤ place) (c : ℕ) (task : Task) (busy : under_way w c ≡ Some task) (next : Option Task) (more : List Message) (r : Record)
      (move : IsMove s w safe place later c task busy next more r)
      (stays : (stamp : Stamp) (value : List ℕ) → task.work ≡ Writes value → chosen_stamp task.work task.stage ≡ Some stamp → r.stamp ≡ Some stamp) where
    abbrev went : World
    went = moved s w place c next more r

    pub went_pool : (m : Message) → Contains w.pool m → Contains went.pool m
    went_pool m h = Contains-append_left w.pool more m h

    pub went_writes : (block : ℕ) (stamp : Stamp) → HasWrite w.records block stamp → HasWrite went.records block stamp
    went_writes block stamp h =
        elim (record_after s w safe place later c task busy next more r move h.write h.there) [
          | inl k ↦ record { write = h.write; there = k; of_block = h.of_block; value = h.value; writes = h.writes; chose = h.chose }
          | inr k ↦
              (let work : task.work ≡ Writes h.value = sym (ap (λ (x : Record). x.work) k.0) ∙ h.writes in
              let chose : chosen_stamp task.work task.stage ≡ Some stamp = sym (ap (λ (x : Record). x.stamp) k.0) ∙ h.chose in
              record {
                write = r;
                there = k.1;
                of_block = move.block ∙ sym (ap (λ (x : Record). x.block) k.0) ∙ h.of_block;
                value = h.value;
                writes = move.work ∙ work;
                chose = stays stamp h.value work chose;
              })
        ]

    -- the record of the task is there
    now_there : Contains went.records r
    now_there = let k = Contains-map (replaced_by r) w.records (open_record c task) (origins.tasks c task busy).1 in rw same at k
      where
        tests : (a b d e : ℕ) → a ≡ b → d ≡ e → eqb b a && eqb e d ≡ true
        tests a b d e p q = let x : eqb b a ≡ true = grind (arith, nat_tests) in let y : eqb e d ≡ true = grind (arith, nat_tests) in rw (x, y) refl

        same : replaced_by r (open_record c task) ≡ r
        same = rw (tests r.client c r.start task.start move.client move.start) refl

    module _ (known : (z : Task) → next ≡ Some z → Contains went.records r → IsKnownStage went z.block z.stage)
        (gives : (stamp : Stamp) (value : List ℕ) (how : How) (rounds : ℕ) → r.outcome ≡ Some (Gave stamp value how rounds) → IsKnown s w r.block stamp) where
      pub went_origins : HasOrigins went
      went_origins = record {
        kept = λ i b stamp h. known-more w went went_pool went_writes b stamp (origins.kept i b stamp h);
        asked = λ m ask h body honest. elim (pool_of m h) [
          | inl k ↦ request-more w went went_pool went_writes ask.block ask.request (origins.asked m ask k body honest)
          | inr k ↦ (let a = mail_asks s c k.0 m k.1 ask k.3 body in
              request_as went ask.block k.0.block ask.request _ a.0 a.1 (request_known went k.0.block m.node k.0.stage (known k.0 k.2 now_there)))
        ];
        tasks = λ d z e. elim (tasks_of d z e) [
          | inl q ↦ (known z q.1 now_there, (let e = (move.nexts z q.1).record_is in rw (q.0, ← e) now_there))
          | inr q ↦ (let t = origins.tasks d z q.1 in (
            stage-more w went went_pool went_writes z.block z.stage t.0,
            elim (record_after s w safe place later c task busy next more r move (open_record d z) t.1) [ inl k ↦ k | inr k ↦ absurd (q.0 (ap (λ (x : Record). x.client) k.0)) ],
          ))
        ];
        gave = λ x stamp value how rounds h e. elim (moved_record s w safe place later c task busy next more r move x h) [
          | inl k ↦ known-more w went went_pool went_writes x.block stamp (given_as x stamp (ap (λ (y : Record). y.block) k) (gives stamp value how rounds (sym (ap (λ (y : Record). y.outcome) k) ∙ e)))
          | inr k ↦ known-more w went went_pool went_writes x.block stamp (origins.gave x stamp value how rounds k.0 e)
        ];
      }
        where
          given_as : (x : Record) (stamp : Stamp) → x.block ≡ r.block → IsKnown s w r.block stamp → IsKnown s w x.block stamp
          given_as x stamp e h = rw e h

          pool_of : (m : Message) → Contains went.pool m → Contains w.pool m ⊎ ((z : Task) × (i : ℕ) × (next ≡ Some z) × (m ≡ outstanding s c z i))
          pool_of m h = moved_pool s w safe place later c task busy next more r move m h

          tasks_of : (d : ℕ) (z : Task) → under_way went d ≡ Some z → ((d ≡ c) × (next ≡ Some z)) ⊎ ((d ≡ c → ⊥) × (under_way w d ≡ Some z))
          tasks_of d z e = moved_task s w safe place later c task busy next more r move d z e
