-- A world in which messages are added, nodes or clients crash or come back, a node prunes, or the place is later.
use Rattle.std.proofs.Common.{◌≡◌, ◌⊎◌, ℕ, ◌+◌, ◌*◌, ◌^◌, ◌<◌, ◌≤◌, Bool, true, false, List, [], ◌∷◌, ◌++◌, Option, refl, sym, ◌∙◌, ap, inl, inr, arith}
use Rattle.std.specs.declared.option.Option.TheVariants.{None, Some}
use Rattle.std.specs.List.{Contains}
use Rattle.std.proofs.lemmas.List.Elements.{Contains-append_cases, Contains-append_left}
use Rattle.protocol.specs.Count.{update}
use Rattle.stamp_order.specs.declared.Stamp.{Stamp}
use Rattle.stamp_order.specs.Stamps.{before, ◌≼◌}
use Rattle.protocol.specs.Messages.{IsFormedBody, Version, Ask, Reply, Body, Message}
use Rattle.wire_forms.specs.declared.Body.TheVariants.{Ask as Asks, Answer as Answers}
use Rattle.protocol.specs.Setting.{Setting, IsValid}
use Rattle.protocol.proofs.lemmas.Forming.{request_formed}
use Rattle.protocol.specs.Nodes.{pruned}
use Rattle.protocol.specs.Operations.{Task, outstanding, mail, request_of}
use Rattle.run_words.specs.declared.outcome.Outcome.TheVariants.{Gave}
use Rattle.protocol.specs.World.{World, happens, sent, only_place, IsOfLiar, IsQuiet, unless, under_way, last_op, greatest_given}
use Rattle.protocol.specs.World.Event.{Resend, Lie, CrashNode, CrashClient, Back}
use Rattle.protocol.specs.History.{NoClash, IsValue}
use Rattle.protocol.specs.History.IsValue.{zeros_value, written, given}
use Rattle.protocol.proofs.lemmas.Counting.{update-cases, update-same}
use Rattle.protocol.proofs.lemmas.Order.{≼-trans, before_false}
use Rattle.protocol.proofs.lemmas.Keeping.{pruned_was, pruned_first, pruned_above, pruned_greatest}
use Rattle.protocol.proofs.Mails.{in_mail, mail_asks, mail_answers}
use Rattle.protocol.proofs.lemmas.Strings.{NoClash-before, NoClashFor-before}
use Rattle.protocol.proofs.lemmas.Given.{IsGreatest, greatest_is}
use Rattle.protocol.proofs.Invariant.{AtWork, IsOwned, IsTagged, Quorum, IsStored, IsCoveredBy, IsPassed, IsSafe}
use Rattle.lists.proofs.lemmas.Members.{Contains-one}
use Rattle.std.proofs.lemmas.Bool.{cases_Bool}

-- what a client does that hasn't crashed
pub unless_some : (b : Bool) (o : Option Task) (task : Task) → unless b o ≡ Some task → (b ≡ false) × (o ≡ Some task)
unless_some true o task h = absurd (cc)
unless_some false o task h = (refl, h)

module _ (s : Setting) (w : World) where
  -- the message is one that its client's present phase sends
  abbrev pub IsSentNow : Message → Type 0
  IsSentNow m = (task : Task) × (i : ℕ) × (under_way w m.client ≡ Some task) × (m ≡ outstanding s m.client task i)

  -- a message that may be added: its sender lies, or it is of its client's present phase
  abbrev pub MayBeSent : Message → Type 0
  MayBeSent m = IsOwned s m.body m → s.lying_client m.client ≡ false → IsSentNow m

  module _ (safe : IsSafe s w) (place : ℕ) (later : w.place ≤ place) (pool : List Message) (versions : ℕ → ℕ → List Version)
      (task : ℕ → Option Task) (life started : ℕ → ℕ) (nodes clients : ℕ → Bool) where
    abbrev pub changed_world : World
    changed_world = record { pool = pool; versions = versions; accepted = w.accepted; task = task; life = life; started = started; node_crashed = nodes; client_crashed = clients; records = w.records; place = place }

    -- no client does anything new
    pub record IsLess : Type 0 where
      pub fewer : (c : ℕ) (z : Task) → under_way changed_world c ≡ Some z → under_way w c ≡ Some z
      pub ops : (c : ℕ) → last_op w c ≤ last_op changed_world c
      pub same_op : (c : ℕ) (z : Task) → under_way changed_world c ≡ Some z → last_op changed_world c ≡ last_op w c
      pub lives : (c : ℕ) → started c < 2 ^ 32
      pub all : (m : Message) → Contains w.pool m → Contains pool m
      pub each : (m : Message) → Contains pool m → Contains w.pool m ⊎ MayBeSent m
      pub formed : (m : Message) → Contains pool m → IsFormedBody m.body

    module _ (less : IsLess) where
      before_it : (m : Message) (z : Task) → AtWork s changed_world m z → AtWork s w m z
      before_it m z at = record { client = less.fewer m.client z at.client; op = at.op; phase = at.phase }

      pub passed_still : (block : ℕ) (stamp : Stamp) → IsPassed s w block stamp → IsPassed s changed_world block stamp
      passed_still block stamp p = record {
        past = p.past;
        there = p.there;
        of_block = p.of_block;
        end = p.end;
        ended = p.ended;
        reached = p.reached;
        stamped = p.stamped;
        up_to_it = p.up_to_it;
        before_all = λ c z e f. p.before_all c z (less.fewer c z e) f;
      }

      tagged_still : (m : Message) → IsTagged s w m → IsTagged s changed_world m
      tagged_still m t = record { begun = omega (arith, t.begun, less.ops m.client); phase = λ z e f. t.phase z (less.fewer m.client z e) f }

      tagged_now : (m : Message) → IsSentNow m → s.lying_client m.client ≡ false → IsTagged s changed_world m
      tagged_now m now honest =
          let t = safe.tasks m.client now.0 now.2 in
          let op : m.tag.op ≡ now.0.op = ap (λ (x : Message). x.tag.op) now.3 in
          let phase : m.tag.phase ≡ now.0.phase = ap (λ (x : Message). x.tag.phase) now.3 in
          record {
            begun = omega (arith, op, t.newest, less.ops m.client);
            phase = λ z e f. let q : now.0 ≡ z = (let g = now.2 in let h = less.fewer m.client z e in cc) in let p : now.0.phase ≡ z.phase = ap (λ (x : Task). x.phase) q in omega arith;
          }

      asked_now : (m : Message) (z : Task) (ask : Ask) → IsSentNow m → m.body ≡ Asks ask → AtWork s changed_world m z → (ask.block ≡ z.block) × (ask.request ≡ request_of s z.stage m.node)
      asked_now m z ask now body at =
          let q : z ≡ now.0 = (let g = now.2 in let h = less.fewer m.client z at.client in cc) in
          rw q (mail_asks s m.client now.0 m now.1 ask now.3 body)

      not_now : (m : Message) (reply : Reply) → IsSentNow m → m.body ≡ Answers reply → ⊥
      not_now m reply now body = mail_answers s m.client now.0 m now.1 reply now.3 body

      pub quorum_after : (b : ℕ) (stamp : Stamp) (end : ℕ) → Quorum s w b stamp end → Quorum s changed_world b stamp end
      quorum_after b stamp end q = record {
        members = q.members;
        enough = q.enough;
        are_honest = q.are_honest;
        kept = q.kept;
        fresh = λ m reply z h body l member honest at of_b late. elim (less.each m h) [
          | inl k ↦ q.fresh m reply z k body l member honest (before_it m z at) of_b late
          | inr k ↦ absurd (not_now m reply (k (rw body (q.are_honest m.node member)) honest) body)
        ];
      }

      apart_before : NoClash s changed_world → NoClash s w
      apart_before = NoClash-before s w changed_world less.all value
        where
          value : (x : List ℕ) → IsValue s w x → IsValue s changed_world x
          value x zeros_value = zeros_value
          value x (written {r = r} {value = v} {stamp = t} h k e) = written {r = r} {value = v} {stamp = t} h k e
          value x (given {block = b} {end = e} {stamp = t} {value = v} h) = given {block = b} {end = e} {stamp = t} {value = v} h

      pub changed_safe : ((i block : ℕ) → i < s.n → s.lying_node i ≡ false → IsStored s changed_world i block) → IsSafe s changed_world
      changed_safe stored = record {
        lives = less.lives;
        formed = less.formed;
        stored = stored;
        tagged = λ m h owned honest. elim (less.each m h) [ inl k ↦ tagged_still m (safe.tagged m k owned honest) | inr k ↦ tagged_now m (k owned honest) honest ];
        asked = λ m z ask h body honest at. elim (less.each m h)
            [ inl k ↦ safe.asked m z ask k body honest (before_it m z at) | inr k ↦ asked_now m z ask (k (rw body honest) honest) body at ];
        answered = λ m z reply h body honest l upright at. elim (less.each m h)
            [ inl k ↦ safe.answered m z reply k body honest l upright (before_it m z at) | inr k ↦ absurd (not_now m reply (k (rw body upright) honest) body) ];
        tasks = λ c z e. let t = safe.tasks c z (less.fewer c z e) in record {
          correct = t.correct;
          numbered = t.numbered;
          newest = less.same_op c z e ∙ t.newest;
          start = omega (arith, t.start);
          block = t.block;
          stage = t.stage;
          mailed = λ i l. less.all _ (t.mailed i l);
          heard = λ i reply f. let h = t.heard i reply f in (less.all _ h.0, h.1);
        };
        records = λ r h. let k = safe.records r h in record {
          start = omega (arith, k.start);
          ended = λ end e. omega (arith, k.ended end e);
          in_order = k.in_order;
          outcome = k.outcome;
          open_end = k.open_end;
          closed_end = k.closed_end;
          running = λ z e f. k.running z (less.fewer r.client z e) f;
          completed = λ end stamp e f. quorum_after r.block stamp end (k.completed end stamp e f);
        };
        aimed = λ c z apart x end stamp h e f g. safe.aimed c z (NoClashFor-before s w changed_world apart_before z.work apart) x end stamp h e f (less.fewer c z g);
        ordered = λ x y apart. safe.ordered x y (NoClashFor-before s w changed_world apart_before y.work apart);
      }

module _ (s : Setting) (w : World) (safe : IsSafe s w) (place : ℕ) (later : w.place ≤ place) where
  -- the nodes keep the same
  same_stored : (v : World) → ((i block : ℕ) → v.versions i block ≡ w.versions i block) → ((i block : ℕ) (stamp : Stamp) → IsPassed s w block stamp → IsPassed s v block stamp) → v.accepted ≡ w.accepted
      → (i block : ℕ) → IsStored s w i block → IsStored s v i block
  same_stored v same passed acc i block h = record {
    first = rw (same i block) h.first;
    whole = λ u k. h.whole u (rw (same i block) at k);
    formed = λ u k. h.formed u (rw (same i block) at k);
    kept = λ u k. rw acc (h.kept u (rw (same i block) at k));
    covered = λ stamp k. let c = h.covered stamp (rw acc at k) in record {
      version = c.version;
      there = rw (same i block) c.there;
      above = c.above;
      how = elim c.how [ inl e ↦ inl e | inr p ↦ inr (passed i block c.version.stamp p) ];
    };
  }

  nodes_same : (pool : List Message) (task : ℕ → Option Task) (life started : ℕ → ℕ) (nodes clients : ℕ → Bool) → IsLess s w safe place later pool w.versions task life started nodes clients
      → IsSafe s (changed_world s w safe place later pool w.versions task life started nodes clients)
  nodes_same pool task life started nodes clients less =
      changed_safe s w safe place later pool w.versions task life started nodes clients less
      (λ i block l h. same_stored (changed_world s w safe place later pool w.versions task life started nodes clients) (λ i block. refl)
      (λ i block stamp p. passed_still s w safe place later pool w.versions task life started nodes clients less block stamp p) refl i block (safe.stored i block l h))

  -- messages are added
  pub sent_less : (more : List Message) → ((m : Message) → Contains more m → MayBeSent s w m) → ((m : Message) → Contains more m → IsFormedBody m.body) → IsLess s w safe place later (w.pool ++ more) w.versions w.task w.life w.started w.node_crashed w.client_crashed
  sent_less more fine formed = record {
    fewer = λ c z e. e;
    ops = λ c. omega arith;
    same_op = λ c z e. refl;
    lives = safe.lives;
    all = λ m h. Contains-append_left w.pool more m h;
    each = λ m h. elim (Contains-append_cases w.pool more m h) [ inl k ↦ inl k | inr k ↦ inr (fine m k) ];
    formed = λ m h. elim (Contains-append_cases w.pool more m h) [ inl k ↦ safe.formed m k | inr k ↦ formed m k ];
  }

  sent_safe : (more : List Message) → ((m : Message) → Contains more m → MayBeSent s w m) → ((m : Message) → Contains more m → IsFormedBody m.body) → IsSafe s (sent s w place more)
  sent_safe more fine formed = nodes_same (w.pool ++ more) w.task w.life w.started w.node_crashed w.client_crashed (sent_less more fine formed)

  pub place_less : (versions : ℕ → ℕ → List Version) (nodes : ℕ → Bool) → IsLess s w safe place later w.pool versions w.task w.life w.started nodes w.client_crashed
  place_less versions nodes = record { fewer = λ c z e. e; ops = λ c. omega arith; same_op = λ c z e. refl; lives = safe.lives; all = λ m h. h; each = λ m h. inl h; formed = safe.formed }

  pub only_safe : IsSafe s (only_place s w place)
  only_safe = nodes_same w.pool w.task w.life w.started w.node_crashed w.client_crashed (place_less w.versions w.node_crashed)

  pub crash_node_safe : (i : ℕ) → IsSafe s (happens s w place (CrashNode i))
  crash_node_safe i = nodes_same w.pool w.task w.life w.started (update w.node_crashed i true) w.client_crashed (place_less w.versions (update w.node_crashed i true))

  pub crash_fewer : (c d : ℕ) (z : Task) → unless (update w.client_crashed c true d) (w.task d) ≡ Some z → under_way w d ≡ Some z
  crash_fewer c d z h = elim (update-cases w.client_crashed c true d)
      [ inl e ↦ absurd (let k : unless true (w.task d) ≡ Some z = rw e.1 at h in cc) | inr e ↦ rw (← e.1) h ]

  pub crash_less : (c : ℕ) → IsLess s w safe place later w.pool w.versions w.task w.life w.started w.node_crashed (update w.client_crashed c true)
  crash_less c = record { fewer = λ d z e. crash_fewer c d z e; ops = λ d. omega arith; same_op = λ d z e. refl; lives = safe.lives; all = λ m h. h; each = λ m h. inl h; formed = safe.formed }

  pub crash_client_safe : (c : ℕ) → IsSafe s (happens s w place (CrashClient c))
  crash_client_safe c = nodes_same w.pool w.task w.life w.started w.node_crashed (update w.client_crashed c true) (crash_less c)

  -- a client that came back does nothing
  pub back_fewer : (c d : ℕ) (z : Task) → unless (update w.client_crashed c false d) (update w.task c None d) ≡ Some z → (d ≡ c → ⊥) × (under_way w d ≡ Some z)
  back_fewer c d z h =
      elim (update-cases w.task c None d) [
        | inl e ↦ absurd (let k : unless (update w.client_crashed c false d) None ≡ Some z = rw e.1 at h in let q = (unless_some (update w.client_crashed c false d) None z k).1 in cc)
        | inr e ↦ elim (update-cases w.client_crashed c false d) [ inl f ↦ absurd (e.0 f.0) | inr f ↦ (e.0, rw (← f.1, ← e.1) h) ]
      ]

  more_ops : (a b l t x : ℕ) → x ≡ 2 ^ 32 → t < x → l * x + t ≤ (l + 1) * x + b
  more_ops a b l t x e h = let q : (l + 1) * x ≡ l * x + x = arith_dist l x in omega (arith, q, h)
    where
      arith_dist : (l x : ℕ) → (l + 1) * x ≡ l * x + x
      arith_dist l x = grind arith

  back_ops : (c d : ℕ) → last_op w d ≤ update w.life c (w.life c + 1) d * 2 ^ 32 + update w.started c 0 d
  back_ops c d =
      elim (update-cases w.life c (w.life c + 1) d) [
        | inl e ↦ rw (e.1, e.0) (more_ops 0 _ (w.life c) (w.started c) (2 ^ 32) refl (safe.lives c))
        | inr e ↦ elim (update-cases w.started c 0 d) [ inl f ↦ absurd (e.0 f.0) | inr f ↦ rw (e.1, f.1) (omega arith) ]
      ]

  back_same : (c d : ℕ) → (d ≡ c → ⊥) → update w.life c (w.life c + 1) d * 2 ^ 32 + update w.started c 0 d ≡ last_op w d
  back_same c d n =
      elim (update-cases w.life c (w.life c + 1) d) [
        | inl e ↦ absurd (n e.0)
        | inr e ↦ elim (update-cases w.started c 0 d) [ inl f ↦ absurd (n f.0) | inr f ↦ rw (e.1, f.1) refl ]
      ]

  pub back_less : (c : ℕ) → IsLess s w safe place later w.pool w.versions (update w.task c None) (update w.life c (w.life c + 1)) (update w.started c 0) w.node_crashed (update w.client_crashed c false)
  back_less c = record {
    fewer = λ d z e. (back_fewer c d z e).1;
    ops = λ d. back_ops c d;
    same_op = λ d z e. back_same c d (back_fewer c d z e).0;
    lives = λ d. elim (update-cases w.started c 0 d) [ inl e ↦ rw e.1 (omega arith) | inr e ↦ rw e.1 (safe.lives d) ];
    all = λ m h. h;
    each = λ m h. inl h;
    formed = safe.formed;
  }

  pub back_safe : (c : ℕ) → IsSafe s (happens s w place (Back c))
  back_safe c = nodes_same w.pool (update w.task c None) (update w.life c (w.life c + 1)) (update w.started c 0) w.node_crashed (update w.client_crashed c false) (back_less c)

  -- a node prunes a block on which nothing is under way, by a stamp that a completed read gave
  module _ (i block : ℕ) (quiet : IsQuiet s w block) (stamp : Stamp) (by : greatest_given block w.records ≡ Some stamp) where
    abbrev pub less_kept : ℕ → ℕ → List Version
    less_kept = update w.versions i (update (w.versions i) block (pruned s stamp (w.versions i block)))

    abbrev pub pruned_world : World
    pruned_world = record w { versions = less_kept; place = place }

    read : IsGreatest w.records block stamp
    read = greatest_is block w.records stamp by

    -- what isn't above the stamp was passed
    passed_now : (t : Stamp) → t ≼ stamp → IsPassed s pruned_world block t
    passed_now t up =
        let r = safe.records read.read read.there in
        let g = given_ends r.outcome r.open_end in
        record {
          past = read.read;
          there = read.there;
          of_block = read.of_block;
          end = g.0;
          ended = g.1;
          reached = stamp;
          stamped = g.2;
          up_to_it = up;
          before_all = λ c z e f. absurd (quiet c z e f);
        }
      where
        given_ends : Rattle.protocol.proofs.Invariant.IsOutcome s read.read.work read.read.stamp read.read.outcome → (read.read.end ≡ None → read.read.outcome ≡ None) → (end : ℕ) × (read.read.end ≡ Some end) × (read.read.stamp ≡ Some stamp)
        given_ends h k = at read.read.end refl (by_work read.read.work (rw read.gave at h))
          where
            by_work : (work : Rattle.protocol.specs.Operations.Work) → Rattle.protocol.proofs.Invariant.IsOutcome s work read.read.stamp (Some (Gave stamp read.value read.how read.rounds)) → read.read.stamp ≡ Some stamp
            by_work Rattle.protocol.specs.Operations.Work.Reads h = h.0
            by_work (Rattle.protocol.specs.Operations.Work.Writes v) h = absurd h

            at : (o : Option ℕ) → read.read.end ≡ o → read.read.stamp ≡ Some stamp → (end : ℕ) × (read.read.end ≡ Some end) × (read.read.stamp ≡ Some stamp)
            at None e f = absurd (let z = k e in let g = read.gave in cc)
            at (Some end) e f = (end, e, f)

    less_here : less_kept i block ≡ pruned s stamp (w.versions i block)
    less_here =
        let blocks : ℕ → List Version = update (w.versions i) block (pruned s stamp (w.versions i block)) in
        ap (λ (g : ℕ → List Version). g block) (update-same w.versions i blocks) ∙ update-same (w.versions i) block (pruned s stamp (w.versions i block))

    -- what was covered still is, by itself or by what isn't above the prune's stamp
    pub covered_pruned : (P Q : Stamp → Type 0) → ((t : Stamp) → P t → Q t) → ((t : Stamp) → t ≼ stamp → Q t) → (t : Stamp) → IsCoveredBy s P w i block t → IsCoveredBy s Q pruned_world i block t
    covered_pruned P Q map now t c = elim (cases_Bool (before stamp c.version.stamp)) [
      | inl e ↦ record {
        version = c.version;
        there = rw less_here (pruned_above s stamp (w.versions i block) c.version c.there e);
        above = c.above;
        how = elim c.how [ inl q ↦ inl q | inr p ↦ inr (map c.version.stamp p) ];
      }
      | inr e ↦ (let g = pruned_greatest s stamp (w.versions i block) c.version c.there (before_false c.version.stamp stamp e) in
          record { version = g.0; there = rw less_here g.1; above = ≼-trans t c.version.stamp g.0.stamp c.above g.2; how = inr (now g.0.stamp g.3) })
    ]

    -- elsewhere what was covered is covered in the same way
    pub covered_elsewhere : (P Q : Stamp → Type 0) → ((t : Stamp) → P t → Q t) → (j b : ℕ) → less_kept j b ≡ w.versions j b → (t : Stamp) → IsCoveredBy s P w j b t → IsCoveredBy s Q pruned_world j b t
    covered_elsewhere P Q map j b e t c = record { version = c.version; there = rw e c.there; above = c.above; how = elim c.how [ inl q ↦ inl q | inr p ↦ inr (map c.version.stamp p) ] }

    passed_short : (b : ℕ) (t : Stamp) → IsPassed s w b t → IsPassed s pruned_world b t
    passed_short b t p = passed_still s w safe place later w.pool less_kept w.task w.life w.started w.node_crashed w.client_crashed (place_less less_kept w.node_crashed) b t p

    pub versions_cases : (j b : ℕ) → (less_kept j b ≡ w.versions j b) ⊎ ((j ≡ i) × (b ≡ block) × (less_kept j b ≡ pruned s stamp (w.versions i block)))
    versions_cases j b =
        elim (update-cases w.versions i (update (w.versions i) block (pruned s stamp (w.versions i block))) j) [
          | inl e ↦ elim (update-cases (w.versions i) block (pruned s stamp (w.versions i block)) b) [
            | inl f ↦ inr (e.0, f.0, ap (λ (g : ℕ → List Version). g b) e.1 ∙ f.1)
            | inr f ↦ inl (ap (λ (g : ℕ → List Version). g b) e.1 ∙ f.1 ∙ ap (λ (j : ℕ). w.versions j b) (sym e.0))
          ]
          | inr e ↦ inl (ap (λ (g : ℕ → List Version). g b) e.1)
        ]

    stored_here : (vs : List Version) → vs ≡ pruned s stamp (w.versions i block) → IsStored s w i block → less_kept i block ≡ vs → IsStored s pruned_world i block
    stored_here vs e h f = record {
      first = rw (f ∙ e) (pruned_first s stamp (w.versions i block) h.first);
      whole = λ v k. h.whole v (pruned_was s stamp (w.versions i block) v (rw (f ∙ e) at k));
      formed = λ v k. h.formed v (pruned_was s stamp (w.versions i block) v (rw (f ∙ e) at k));
      kept = λ v k. h.kept v (pruned_was s stamp (w.versions i block) v (rw (f ∙ e) at k));
      covered = λ t k. covered_pruned (IsPassed s w block) (IsPassed s pruned_world block) (passed_short block) passed_now t (h.covered t k);
    }

    still_stored : (j b : ℕ) → less_kept j b ≡ w.versions j b → IsStored s w j b → IsStored s pruned_world j b
    still_stored j b e h = record {
      first = rw e h.first;
      whole = λ u k. h.whole u (rw e at k);
      formed = λ u k. h.formed u (rw e at k);
      kept = λ u k. h.kept u (rw e at k);
      covered = λ t k. covered_elsewhere (IsPassed s w b) (IsPassed s pruned_world b) (passed_short b) j b e t (h.covered t k);
    }

    pub pruned_safe : IsSafe s pruned_world
    pruned_safe =
        changed_safe s w safe place later w.pool less_kept w.task w.life w.started w.node_crashed w.client_crashed (place_less less_kept w.node_crashed)
        (λ j b l h. elim (versions_cases j b) [
          | inl e ↦ still_stored j b e (safe.stored j b l h)
          | inr e ↦ (let k : less_kept i block ≡ pruned s stamp (w.versions i block) = (let q = e.2 in rw (e.0, e.1) at q) in
              rw (e.0, e.1) (stored_here (pruned s stamp (w.versions i block)) refl (let g = safe.stored j b l h in rw (e.0, e.1) at g) k))
        ])

  pub of_liar : (m : Message) (body : Body) → IsOfLiar s body m → IsOwned s body m → ⊥
  of_liar m (Asks ask) h k = cc
  of_liar m (Answers reply) h k = cc

  pub lie_may : (m : Message) → IsOfLiar s m.body m → (x : Message) → Contains (m ∷ []) x → MayBeSent s w x
  lie_may m liar x h owned honest = absurd (of_liar m m.body liar (rw (Contains-one x m h) at owned))

  pub lie_formed : (m : Message) → IsFormedBody m.body → (x : Message) → Contains (m ∷ []) x → IsFormedBody x.body
  lie_formed m h x k = rw (Contains-one x m k) h

  pub lie_safe : (m : Message) → IsOfLiar s m.body m → IsFormedBody m.body → IsSafe s (happens s w place (Lie m))
  lie_safe m liar formed = sent_safe (m ∷ []) (lie_may m liar) (lie_formed m formed)

  pub sent_now : (x : Message) (c : ℕ) (task : Task) (i : ℕ) → under_way w c ≡ Some task → x ≡ outstanding s c task i → IsSentNow s w x
  sent_now x c task i e f =
      let is_c : x.client ≡ c = ap (λ (y : Message). y.client) f in
      (task, i, ap (under_way w) is_c ∙ e, f ∙ ap (λ (d : ℕ). outstanding s d task i) (sym is_c))

  pub mail_may : (c : ℕ) (task : Task) → under_way w c ≡ Some task → (x : Message) → Contains (mail s c task) x → MayBeSent s w x
  mail_may c task e x h owned honest = let r = in_mail s c task x h in sent_now x c task r.0 e r.2

  pub is_under_way : (c : ℕ) (task : Task) → w.client_crashed c ≡ false → w.task c ≡ Some task → under_way w c ≡ Some task
  is_under_way c task e f = rw e f

  pub mail_formed : IsValid s → (c : ℕ) (task : Task) → under_way w c ≡ Some task → (x : Message) → Contains (mail s c task) x → IsFormedBody x.body
  mail_formed good c task busy x h = let r = in_mail s c task x h in rw r.2 (request_formed s good task.work task.stage (safe.tasks c task busy).stage r.0)

  pub resend_safe : IsValid s → (c : ℕ) (task : Task) → w.client_crashed c ≡ false → w.task c ≡ Some task → IsSafe s (happens s w place (Resend c))
  resend_safe good c task up busy = let k = is_under_way c task up busy in rw busy (sent_safe (mail s c task) (mail_may c task k) (mail_formed good c task k))
