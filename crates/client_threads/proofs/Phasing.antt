-- A phase that is worked off closes: one pass meets all others, nodes prune, and the pass meets all others again.
use Rattle.std.proofs.Common.{◌≡◌, ℕ, ◌+◌, ◌≤◌, cond, List, [], ◌∷◌, ◌++◌, length, map, refl, sym, ◌∙◌, ap, subst, inl, inr, arith, append_assoc, length-append}
use Rattle.std.specs.declared.option.Option.TheVariants.{None}
use Rattle.std.specs.Prelude.{fold, ◌==◌}
use Rattle.std.specs.List.{Contains, AllZip, All, range_with_len}
use Rattle.std.proofs.lemmas.List.Elements.{Contains-append_cases, All-nil, All-cons, All-head, All-tail, All-contains}
use Rattle.protocol.specs.Count.{update}
use Rattle.protocol.proofs.lemmas.Lists.{append_nil}
use Rattle.wire_forms.specs.Liars.{has_number}
use Rattle.protocol.specs.Report.{Ascend}
use Rattle.plan_words.specs.Named.{clients}
use Rattle.event_clock.specs.Passes.{ClockId}
use Rattle.journals.specs.declared.node.NodeAct.{NodeAct}
use Rattle.journals.specs.declared.node.NodeAct.TheVariants.{Answered, Lied, Silent, CrashedAt, Delivered, LateLost, Pruned}
use Rattle.journals.specs.declared.node.NodeEntry.{NodeEntry}
use Rattle.journals.specs.declared.whole.Journals.{Journals}
use Rattle.journals.specs.Phases.{Phase}
use Rattle.journals.specs.Steps.{side}
use Rattle.locked_nodes.specs.Cells.{CellView, KeptCell, IsPrune}
use Rattle.locked_nodes.specs.Joined.{join}
use Rattle.client_desks.specs.Desks.{DeskView}
use Rattle.plan_words.specs.declared.plan.Plan.{Plan}
use Rattle.plan_followed.specs.Followed.{ArePrunes}
use Rattle.plan_followed.specs.Closed.{next_begin, HaveClosed, IsWorkedOff, AreBelow, HavePruned, Closes}
use Rattle.phase_threads.specs.Standing.{ArePlanned, HaveSeen, AreKept, JournalsBelow, CellsPrune, add_cell, node_journal, journal_at, journals_of}
use Rattle.phase_threads.specs.Ended.{AreClients}
use Rattle.phase_threads.specs.declared.duty.Seat.{Seat}
use Rattle.plan_followed.specs.declared.prunes.BlockStamp.{BlockStamp}
use Rattle.plan_followed.specs.Prunings.{ArePrunings}
use Rattle.client_duties.specs.declared.work.ClientDuty.{ClientDuty}
use Rattle.client_duties.specs.declared.work.ClientDuty.TheVariants.{Client, Lying}
use Rattle.client_threads.specs.Met.{IsKeeper, HasMetCell, HasMetDesk, HasMetSeat}
use Rattle.client_threads.specs.Meeting.{HasMetAll}
use Rattle.client_threads.specs.Pruned.{HasMorePrunes, AllPruned, reopened, prunings_of}
use Rattle.client_threads.specs.Reads.{early_reads, late_reads}
use Rattle.client_threads.specs.Running.{desks_of, clients_of, plan_of, StandsAt, LiarsNamed, IsOpen, IsBetween, IsWorked}
use Rattle.client_threads.specs.declared.state.Run.{Run}
use Rattle.client_threads.proofs.Pairs.{HasMoreAlone, HasSameEntries, pairs_on}
use Rattle.client_threads.proofs.Gathering.{prunes_are}
use Rattle.client_threads.proofs.Places.{reopened_fixed}
use Rattle.client_threads.proofs.Working.{zip_map, zip_then, zip_all, IsFixedAs, fixed_same, planned_fixed}
use Rattle.lists.proofs.lemmas.Members.{Contains-none}

-- ---- desks that met a pass

-- but for its pass the desk is the other one
met_is : (d e : DeskView) → HasMetDesk d e → e ≡ record { config = d.config; id = d.id; lying = d.lying; entries = d.entries; pass = e.pass }
met_is d e h = λ i. record { config = h.config i; id = h.id i; lying = h.lying i; entries = h.entries i; pass = e.pass }

stands_met : (plan : Plan) (k : ℕ) (w : ClientDuty) (d e : DeskView) → HasMetDesk d e → StandsAt plan k w d → StandsAt plan k w e
stands_met plan k w d e h s = subst (StandsAt plan k w) (sym (met_is d e h)) (kinds w s)
  where
    kinds : (w : ClientDuty) → StandsAt plan k w d → StandsAt plan k w (record { config = d.config; id = d.id; lying = d.lying; entries = d.entries; pass = e.pass })
    kinds (Client v) s = (
      s.0,
      record {
        goes = record {
          its = record { valid = s.1.goes.its.valid; same = s.1.goes.its.same; config = s.1.goes.its.config; id = s.1.goes.its.id; correct = s.1.goes.its.correct };
          acts = s.1.goes.acts;
          counts = s.1.goes.counts;
        };
        done = s.1.done;
        steps = s.1.steps;
      },
      s.2,
    )
    kinds (Lying v) s = (s.0, record { config = s.1.config; id = s.1.id; lying = s.1.lying; sent = s.1.sent; each = s.1.each }, s.2)

seats_met : (plan : Plan) (k : ℕ) (xs ys : List (Seat ClientDuty)) → AllZip HasMetSeat xs ys → All (λ s. StandsAt plan k s.duty s.desk) xs → All (λ s. StandsAt plan k s.duty s.desk) ys
seats_met plan k xs ys z a = zip_all HasMetSeat (λ s. StandsAt plan k s.duty s.desk) (λ s. StandsAt plan k s.duty s.desk) xs ys
    (λ x y h s. subst (λ (w : ClientDuty). StandsAt plan k w y.desk) (sym h.duty) (stands_met plan k x.duty x.desk y.desk h.desk s)) z a

pub desks_met : (xs ys : List (Seat ClientDuty)) → AllZip HasMetSeat xs ys → AllZip HasMetDesk (desks_of xs) (desks_of ys)
desks_met [] [] z = tt
desks_met [] (y ∷ ys) z = absurd z
desks_met (x ∷ xs) [] z = absurd z
desks_met (x ∷ xs) (y ∷ ys) z = (z.0.desk, desks_met xs ys z.1)

-- what is said of all clients' desks
ids_met : (xs ys : List DeskView) → AllZip HasMetDesk xs ys → map (λ d. d.id) ys ≡ map (λ d. d.id) xs
ids_met [] [] z = refl
ids_met [] (y ∷ ys) z = absurd z
ids_met (x ∷ xs) [] z = absurd z
ids_met (x ∷ xs) (y ∷ ys) z = λ i. z.0.id i ∷ ids_met xs ys z.1 i

pub clients_met : (plan : Plan) (xs ys : List DeskView) → AllZip HasMetDesk xs ys → AreClients plan xs → AreClients plan ys
clients_met plan xs ys z h = record {
  ascend = subst Ascend (sym (ids_met xs ys z)) h.ascend;
  named = zip_all HasMetDesk (λ d. Contains (clients plan.rules plan.work) d.id) (λ d. Contains (clients plan.rules plan.work) d.id) xs ys (λ x y m p. subst (Contains (clients plan.rules plan.work)) (sym m.id) p) z h.named;
  all = λ c there. subst (λ (l : List ℕ). Contains l c) (sym (ids_met xs ys z)) (h.all c there);
  cluster = zip_all HasMetDesk (λ d. d.config ≡ plan.config) (λ d. d.config ≡ plan.config) xs ys (λ x y m p. m.config ∙ p) z h.cluster;
  honesty = zip_all HasMetDesk (λ d. d.lying ≡ has_number plan.liars.clients d.id) (λ d. d.lying ≡ has_number plan.liars.clients d.id) xs ys (λ x y m p. m.lying ∙ p ∙ ap (has_number plan.liars.clients) (sym m.id)) z h.honesty;
}

-- ---- journals

-- the journals of desks that met a pass are the same
desk_journals : (xs ys : List DeskView) → AllZip HasMetDesk xs ys → map journal_at ys ≡ map journal_at xs
desk_journals [] [] z = refl
desk_journals [] (y ∷ ys) z = absurd z
desk_journals (x ∷ xs) [] z = absurd z
desk_journals (x ∷ xs) (y ∷ ys) z = λ i. record { client = z.0.id i; entries = z.0.entries i } ∷ desk_journals xs ys z.1 i

-- so are those of nodes
cells_same : (i : ℕ) (xs ys : List CellView) (acc : List NodeEntry) → AllZip HasMetCell xs ys → fold (add_cell i) acc ys ≡ fold (add_cell i) acc xs
cells_same i [] [] acc z = refl
cells_same i [] (y ∷ ys) acc z = absurd z
cells_same i (x ∷ xs) [] acc z = absurd z
cells_same i (x ∷ xs) (y ∷ ys) acc z =
    (λ t. fold (add_cell i) (cond ((z.0.charter t).number == i) (join acc (z.0.journal t)) acc) ys) ∙ cells_same i xs ys (add_cell i acc x) z.1

node_same : (xs ys : List CellView) → AllZip HasMetCell xs ys → (i : ℕ) → node_journal ys i ≡ node_journal xs i
node_same xs ys z i = cells_same i xs ys [] z

journals_met : (plan : Plan) (xs ys : List CellView) (ds es : List DeskView) → AllZip HasMetCell xs ys → AllZip HasMetDesk ds es → journals_of plan ys es ≡ journals_of plan xs ds
journals_met plan xs ys ds es zc zd =
    λ i. record { config = plan.config; liars = plan.liars; nodes = map (λ node. node_same xs ys zc node i) (range_with_len 0 plan.config.n); desks = desk_journals ds es zd i }

-- ---- one more phase

next_is_end : (ps : List Phase) (p : Phase) → next_begin (ps ++ p ∷ []) ≡ p.end
next_is_end [] p = refl
next_is_end (q ∷ ps) p = last (q ∷ ps)
  where
    last : (qs : List Phase) → next_begin (qs ++ p ∷ []) ≡ p.end
    last [] = refl
    last (r ∷ []) = refl
    last (r ∷ s ∷ qs) = last (s ∷ qs)

-- ---- lists

pub all_map : {X : Type 0} (P Q : X → Type 0) (xs : List X) → ((x : X) → P x → Q x) → All P xs → All Q xs
all_map P Q [] h a = All-nil Q
all_map P Q (x ∷ xs) h a = All-cons Q x xs (h x (All-head P x xs a)) (all_map P Q xs h (All-tail P x xs a))

-- ---- cells with entries more

alone_then : (a b c : CellView) → HasMoreAlone a b → HasMoreAlone b c → HasMoreAlone a c
alone_then a b c x y = record {
  more = x.more ++ y.more;
  grew = y.grew ∙ ap (λ (es : List NodeEntry). es ++ y.more) x.grew ∙ append_assoc a.journal x.more y.more;
  alone = λ e there. elim (Contains-append_cases x.more y.more e there) [ inl l ↦ x.alone e l | inr r ↦ y.alone e r ];
}

met_alone : (a b : CellView) → HasMetCell a b → HasMoreAlone a b
met_alone a b h = record { more = []; grew = h.journal ∙ append_nil a.journal; alone = λ e there. absurd (Contains-none e there) }

-- ---- seats that met a pass, of a phase that is worked off

module _ (k : ℕ) (run0 run1 : Run) (b : IsWorked k run0) (m : HasMetAll run0 run1) where
  pub works_met : All (λ s. StandsAt (plan_of run0) (k + 1) s.duty s.desk) run1.clients.items
  works_met = seats_met (plan_of run0) (k + 1) run0.clients.items run1.clients.items m.seats b.standing.works

-- ---- the run

-- nodes of the run pruned these blocks, from a number on
pub record HasPruned (ps : List BlockStamp) (old new : Run) : Type 0 where
  pub plan : plan_of new ≡ plan_of old
  pub clock : new.clock ≡ old.clock
  pub clients : new.clients.items ≡ old.clients.items
  pub keeper : IsKeeper old.keeper new.keeper
  pub begun : new.begun ≡ new.keeper.seen
  pub some : AllZip HasMorePrunes (reopened old.cells.items) new.cells.items
  pub all : AllPruned (plan_of old) old.keeper.seen ps old.cells.items new.cells.items
  pub seen : All (λ c. c.pass.seen ≤ new.keeper.seen) new.cells.items

-- what is fixed about cells that met a pass, or pruned
met_fixed : (a b : CellView) → HasMetCell a b → IsFixedAs a b
met_fixed a b h = fixed_same a b h.charter

fixed_then : (a b c : CellView) → IsFixedAs a b → IsFixedAs b c → IsFixedAs a c
fixed_then a b c x y = record {
  config = y.config ∙ x.config;
  number = y.number ∙ x.number;
  whole = (y.whole.0 ∙ x.whole.0, y.whole.1 ∙ x.whole.1);
  nature = y.nature ∙ x.nature;
  crash = y.crash ∙ x.crash;
  clock = y.clock ∙ x.clock;
}

pub pruned_fixed : (old new : List CellView) → All KeptCell old → AllZip HasMorePrunes (reopened old) new → AllZip IsFixedAs old new
pruned_fixed old new kept z =
    zip_then IsFixedAs IsFixedAs IsFixedAs old (reopened old) new fixed_then (reopened_fixed old kept) (zip_map HasMorePrunes IsFixedAs (reopened old) new (λ x y h. fixed_same x y h.charter) z)

-- prunes have no client's side
no_side : (a : NodeAct) → IsPrune a → side a ≡ None
no_side (Pruned block stamp) h = refl
no_side (Answered ask reply) h = absurd h
no_side (Lied ask reply) h = absurd h
no_side (Silent ask why) h = absurd h
no_side (CrashedAt ask late) h = absurd h
no_side (Delivered ask reply) h = absurd h
no_side (LateLost ask) h = absurd h

pruned_alone : (old new : List CellView) → AllZip HasMorePrunes (reopened old) new → AllZip HasMoreAlone old new
pruned_alone [] [] z = tt
pruned_alone [] (y ∷ ys) z = absurd z
pruned_alone (x ∷ xs) [] z = absurd z
pruned_alone (x ∷ xs) (y ∷ ys) z = (
  record { more = z.0.more; grew = z.0.grown; alone = λ e there. no_side e.act (All-contains (λ (e : NodeEntry). IsPrune e.act) z.0.more e z.0.prunes there) },
  pruned_alone xs ys z.1,
)

module _ (below : JournalsBelow) (prune : CellsPrune) (close : Closes) (k : ℕ) (run0 run1 run2 run3 : Run) (ps : List BlockStamp)
    (b : IsWorked k run0) (m : HasMetAll run0 run1) (did : HasPruned ps run1 run2) (n : HasMetAll run2 run3)
    (are : ArePrunings (late_reads (next_begin b.phases) run1.clients.items ++ early_reads (next_begin b.phases) run1.clients.items) (late_reads (next_begin b.phases) run1.clients.items) ps)
    (kept1 : AreKept run1.cells.items (clients_of run1)) (kept2 : All KeptCell run2.cells.items) where
  abbrev P : Plan
  P = plan_of run0

  same1 : plan_of run1 ≡ P
  same1 = m.plan

  same3 : plan_of run3 ≡ P
  same3 = n.plan ∙ did.plan ∙ m.plan

  abbrev p : Phase
  p = record { close = run1.keeper.seen; end = run2.keeper.seen }

  seats1 : AllZip HasMetDesk (clients_of run0) (clients_of run1)
  seats1 = desks_met run0.clients.items run1.clients.items m.seats

  abbrev j0 : Journals
  j0 = journals_of P run0.cells.items (clients_of run0)

  abbrev j1 : Journals
  j1 = journals_of P run1.cells.items (clients_of run1)

  abbrev j2 : Journals
  j2 = journals_of P run2.cells.items (clients_of run1)

  j1_is : j1 ≡ j0
  j1_is = journals_met P run0.cells.items run1.cells.items (clients_of run0) (clients_of run1) m.cells seats1

  planned1 : ArePlanned P run0.clock run1.cells.items
  planned1 = planned_fixed P run0.clock run0.cells.items run1.cells.items (zip_map HasMetCell IsFixedAs run0.cells.items run1.cells.items met_fixed m.cells) b.standing.planned

  pruned_zip : AllZip IsFixedAs run1.cells.items run2.cells.items
  pruned_zip = pruned_fixed run1.cells.items run2.cells.items kept1.cells did.some

  planned2 : ArePlanned P run0.clock run2.cells.items
  planned2 = planned_fixed P run0.clock run1.cells.items run2.cells.items pruned_zip planned1

  low : AreBelow p.close j1
  low = below P p.close run1.cells.items (clients_of run1) planned1.inside (record {
    cells = all_map (λ c. (run0.keeper.seen ≤ c.pass.seen) × (c.pass.seen ≤ run1.keeper.seen)) (λ c. c.pass.seen ≤ p.close) run1.cells.items (λ c h. h.1) m.cells_seen;
    desks = all_map (λ d. (run0.keeper.seen ≤ d.pass.seen) × (d.pass.seen ≤ run1.keeper.seen)) (λ d. d.pass.seen ≤ p.close) (clients_of run1) (λ d h. h.1) m.desks_seen;
  }) kept1

  longer : p.close ≤ p.end
  longer = did.keeper.seen

  high : AreBelow p.end j2
  high = below P p.end run2.cells.items (clients_of run1) planned2.inside (record {
    cells = did.seen;
    desks = all_map (λ d. (run0.keeper.seen ≤ d.pass.seen) × (d.pass.seen ≤ run1.keeper.seen)) (λ d. d.pass.seen ≤ p.end) (clients_of run1) (λ d h. (let a = h.1 in let l = longer in omega (arith, a, l))) m.desks_seen;
  }) (record { cells = kept2; desks = kept1.desks })

  after : next_begin b.phases ≤ p.close
  after = (let a = b.began in let c = m.keeper.seen in omega (arith, a, c))

  works1 : All (λ s. StandsAt P (k + 1) s.duty s.desk) run1.clients.items
  works1 = works_met k run0 run1 b m

  clients1 : AreClients P (clients_of run1)
  clients1 = clients_met P (clients_of run0) (clients_of run1) seats1 b.standing.clients

  prunes : ArePrunes P j1 (next_begin b.phases) p (prunings_of ps)
  prunes = prunes_are P (k + 1) (next_begin b.phases) run1.clients.items works1 clients1 run1.cells.items p low ps are

  pruned : HavePruned P p (prunings_of ps) j1 j2
  pruned = prune P run0.clock p (prunings_of ps) run1.cells.items run2.cells.items (clients_of run1) planned1 planned2
      (subst (λ (q : Plan). AllPruned q p.close ps run1.cells.items run2.cells.items) same1 did.all)

  abbrev phases3 : List Phase
  phases3 = b.phases ++ p ∷ []

  closed2 : HaveClosed P j2 phases3 (update b.prunes (length b.phases) (prunings_of ps))
  closed2 = close P j1 j2 b.phases b.prunes p (prunings_of ps) (subst (λ (j : Journals). HaveClosed P j b.phases b.prunes) (sym j1_is) b.closed) (subst (λ (j : Journals). IsWorkedOff P j b.phases) (sym j1_is) b.off) after longer low prunes pruned high

  -- after the last meeting
  seats3 : AllZip HasMetSeat run1.clients.items run3.clients.items
  seats3 = subst (λ (l : List (Seat ClientDuty)). AllZip HasMetSeat l run3.clients.items) did.clients n.seats

  desks3 : AllZip HasMetDesk (clients_of run1) (clients_of run3)
  desks3 = desks_met run1.clients.items run3.clients.items seats3

  j3_is : journals_of P run3.cells.items (clients_of run3) ≡ j2
  j3_is = journals_met P run2.cells.items run3.cells.items (clients_of run1) (clients_of run3) n.cells desks3

  fixed : AllZip IsFixedAs run0.cells.items run3.cells.items
  fixed = zip_then IsFixedAs IsFixedAs IsFixedAs run0.cells.items run2.cells.items run3.cells.items fixed_then
      (zip_then IsFixedAs IsFixedAs IsFixedAs run0.cells.items run1.cells.items run2.cells.items fixed_then (zip_map HasMetCell IsFixedAs run0.cells.items run1.cells.items met_fixed m.cells) pruned_zip)
      (zip_map HasMetCell IsFixedAs run2.cells.items run3.cells.items met_fixed n.cells)

  alone : AllZip HasMoreAlone run0.cells.items run3.cells.items
  alone = zip_then HasMoreAlone HasMoreAlone HasMoreAlone run0.cells.items run2.cells.items run3.cells.items alone_then
      (zip_then HasMoreAlone HasMoreAlone HasMoreAlone run0.cells.items run1.cells.items run2.cells.items alone_then (zip_map HasMetCell HasMoreAlone run0.cells.items run1.cells.items met_alone m.cells)
      (pruned_alone run1.cells.items run2.cells.items did.some))
      (zip_map HasMetCell HasMoreAlone run2.cells.items run3.cells.items met_alone n.cells)

  entries : AllZip HasSameEntries (clients_of run0) (clients_of run3)
  entries = zip_then HasMetDesk HasMetDesk HasSameEntries (clients_of run0) (clients_of run1) (clients_of run3) (λ x y z f g. record { id = g.id ∙ f.id; entries = g.entries ∙ f.entries }) seats1 desks3

  clock3 : run3.clock ≡ run0.clock
  clock3 = n.clock ∙ did.clock ∙ m.clock

  pub is_between : IsOpen run3 → IsBetween (k + 1) run3
  is_between is_open = record {
    standing = record {
      opened = is_open;
      planned = subst (λ (q : Plan). ArePlanned q run3.clock run3.cells.items) (sym same3) (subst (λ (c : ClockId). ArePlanned P c run3.cells.items) (sym clock3) (planned_fixed P run0.clock run0.cells.items run3.cells.items fixed b.standing.planned));
      clients = subst (λ (q : Plan). AreClients q (clients_of run3)) (sym same3) (clients_met P (clients_of run1) (clients_of run3) desks3 clients1);
      works = subst (λ (q : Plan). All (λ s. StandsAt q (k + 1) s.duty s.desk) run3.clients.items) (sym same3) (seats_met P (k + 1) run1.clients.items run3.clients.items seats3 works1);
      pairs = pairs_on run0.cells.items run3.cells.items (clients_of run0) (clients_of run3) alone entries b.standing.pairs;
      named = subst LiarsNamed (sym same3) b.standing.named;
    };
    phases = phases3;
    count = (let c = b.count in let e : length phases3 ≡ length b.phases + 1 = length-append b.phases (p ∷ []) in omega (arith, c, e));
    prunes = update b.prunes (length b.phases) (prunings_of ps);
    closed = subst (λ (q : Plan). HaveClosed q (journals_of q run3.cells.items (clients_of run3)) phases3 (update b.prunes (length b.phases) (prunings_of ps))) (sym same3)
        (subst (λ (j : Journals). HaveClosed P j phases3 (update b.prunes (length b.phases) (prunings_of ps))) (sym j3_is) closed2);
    low = subst (λ (q : Plan). AreBelow (next_begin phases3) (journals_of q run3.cells.items (clients_of run3))) (sym same3)
        (subst (λ (x : ℕ). AreBelow x (journals_of P run3.cells.items (clients_of run3))) (sym (next_is_end b.phases p)) (subst (AreBelow p.end) (sym j3_is) high));
    seen = subst (λ (x : ℕ). HaveSeen x run3.cells.items (clients_of run3)) (sym (next_is_end b.phases p)) (record {
      cells = all_map (λ c. (run2.keeper.seen ≤ c.pass.seen) × (c.pass.seen ≤ run3.keeper.seen)) (λ c. p.end ≤ c.pass.seen) run3.cells.items (λ c h. h.0) n.cells_seen;
      desks = all_map (λ d. (run2.keeper.seen ≤ d.pass.seen) × (d.pass.seen ≤ run3.keeper.seen)) (λ d. p.end ≤ d.pass.seen) (clients_of run3) (λ d h. h.0) n.desks_seen;
    });
    began = (let e = next_is_end b.phases p in let l = n.keeper.seen in omega (arith, e, l));
    begun = n.begun ∙ did.begun ∙ sym (next_is_end b.phases p);
  }
