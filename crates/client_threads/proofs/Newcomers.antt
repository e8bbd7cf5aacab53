-- The cells, desks and passes that a run begins with.
use Rattle.std.proofs.Common.{◌≡◌, ◌⊎◌, ℕ, zero, suc, ◌+◌, ◌*◌, ◌<◌, ◌≤◌, ltb, eqb, Bool, true, false, List, [], ◌∷◌, ◌++◌, length, map, length-append, refl, sym, ◌∙◌, ap, subst, inl, inr, arith}
use Rattle.std.specs.Prelude.{Option, slice_get, fold}
use Rattle.std.specs.declared.option.Option.TheVariants.{None, Some}
use Rattle.std.specs.List.{Contains, All, AllByRecursion, filter_map, cons_option}
use Rattle.std.specs.Ordering.{nat_cmp}
use Rattle.std.specs.BTreeSet.{insert_key}
use Rattle.std.proofs.lemmas.Bool.Decides.{eqb_tells}
use Rattle.std.proofs.lemmas.Bool.{cases_Bool, ltb-true, ltb-false, eqb-true, eqb-false}
use Rattle.std.proofs.lemmas.List.Elements.{Contains-get_or, Contains-append_left, Contains-append_cases, All-contains}
use Rattle.std.proofs.lemmas.Option.{slice_get_within}
use Rattle.protocol.specs.Report.{Ascend}
use Rattle.wire_forms.specs.Liars.{has_number, IsClientNumber}
use Rattle.event_clock.specs.Passes.{ClockId, Holder, IsUnused, unused}
use Rattle.locked_nodes.specs.Cells.{CellView}
use Rattle.locked_nodes.specs.declared.cell_shard.CellShard.{CellShard}
use Rattle.locked_nodes.specs.CellShards.{cell_shard_of}
use Rattle.client_desks.specs.Desks.{DeskView, first_desk}
use Rattle.plan_words.specs.declared.plan.Plan.{Plan}
use Rattle.plan_words.specs.Named.{clients, ascending, lying_client, lying_clients, troubled_client, job_client, asking_clients}
use Rattle.plan_words.specs.Plans.{IsFault, IsJob, Fits}
use Rattle.plan_followed.proofs.lemmas.Plans.{liar_there}
use Rattle.plan_followed.specs.Closed.{Begins}
use Rattle.client_duties.specs.declared.task.Task.{Task}
use Rattle.client_duties.specs.Tasks.{client_of}
use Rattle.phase_threads.specs.Standing.{IsDeskAt}
use Rattle.phase_threads.specs.Ended.{AreClients}
use Rattle.phase_threads.specs.declared.duty.Seat.{Seat}
use Rattle.thread_work.proofs.lemmas.Places.{get_snoc}
use Rattle.client_duties.specs.declared.work.ClientDuty.{ClientDuty}
use Rattle.client_duties.specs.declared.work.ClientDuty.TheVariants.{Client, Lying}
use Rattle.client_duties.specs.declared.correct_client.CorrectClient.{CorrectClient}
use Rattle.client_duties.specs.declared.liar.Liar.{Liar}
use Rattle.client_duties.specs.ClientDuty.{IsReady, HasMail, phase_at}
use Rattle.client_threads.specs.Opened.{IsUnusedPass, IsNewCell, AreNewCells, IsBefore, IsNewSeat, cell_count, shards_of}
use Rattle.client_threads.specs.declared.state.Run.{Run}
use Rattle.client_threads.specs.Running.{desks_of, plan_of, LiarsNamed, IsBetween}
use Rattle.client_threads.proofs.Beginning.{shards_cases, cells_planned, is_first}
use Rattle.lists.proofs.lemmas.Members.{Contains-head, Contains-none, Contains-rest, Contains-cons_cases, Contains-map_cases, Contains-map, place_of, slice_get-append_left, slice_get-seam, Contains-slice_get}
use Rattle.protocol.proofs.lemmas.Starts.{starts_few}
use Rattle.plan_followed.proofs.lemmas.Phases.{troubled_there, worker_there}

-- ---- cells

pub none_new : (plan : Plan) (shards : ℕ) (clock : ClockId) (cells : List CellView) → cells ≡ [] → AreNewCells plan shards clock 0 0 cells
none_new plan shards clock cells none = record {
  count = ap length none;
  each = λ k cell at. absurd (empty k cell at);
  before = λ k cell at. absurd (empty k cell at);
  own = λ k m a b at there same. absurd (empty k a at);
  all = λ i s first l. absurd (elim first [ inl x ↦ omega (arith, x) | inr x ↦ (let y = x.1 in omega (arith, y)) ]);
}
  where
    empty : (k : ℕ) (cell : CellView) → slice_get cells k ≡ Some cell → ⊥
    empty k cell at = Contains-none cell (Contains-slice_get [] k cell (subst (λ (l : List CellView). slice_get l k ≡ Some cell) none at))

-- one shard more
pub one_new : (plan : Plan) (shards : ℕ) (clock : ClockId) (n s : ℕ) (cells more : List CellView) (cell : CellView) → AreNewCells plan shards clock n s cells → more ≡ cells ++ cell ∷ [] → IsNewCell plan shards clock n s cell → AreNewCells plan shards clock n (s + 1) more
one_new plan shards clock n s cells more cell h is new = subst (AreNewCells plan shards clock n (s + 1)) (sym is) (record {
  count = omega (arith, length-append cells (cell ∷ []), h.count);
  each = λ k x at. elim (get_snoc cells cell k x at) [
    | inl was ↦ h.each k x was
    | inr q ↦ subst (λ (y : CellView). IsNewCell plan shards clock y.charter.number y.charter.shard y) (sym q.1) mine
  ];
  before = λ k x at. elim (get_snoc cells cell k x at) [
    | inl was ↦ elim (h.before k x was) [ inl less ↦ inl less | inr q ↦ (let l = q.1 in inr (q.0, omega (arith, l))) ]
    | inr q ↦ inr (ap (λ (y : CellView). y.charter.number) q.1 ∙ number, (let e = ap (λ (y : CellView). y.charter.shard) q.1 ∙ shard in omega (arith, e)))
  ];
  own = λ k m a b at there same. elim (get_snoc cells cell k a at) [
    | inl was ↦ elim (get_snoc cells cell m b there) [
      | inl also ↦ h.own k m a b was also same
      | inr q ↦ absurd (apart k a was (same ∙ ap (λ (y : CellView). cell_shard_of y.charter) q.1))
    ]
    | inr p ↦ elim (get_snoc cells cell m b there) [
      | inl also ↦ absurd (apart m b also (sym same ∙ ap (λ (y : CellView). cell_shard_of y.charter) p.1))
      | inr q ↦ q.0 ∙ sym p.0
    ]
  ];
  all = λ i t first l. elim (cut i t first) [
    | inl was ↦ (let c = h.all i t was l in (c.0, c.1, slice_get-append_left cells (cell ∷ []) c.0 c.1 c.2, c.3, c.4))
    | inr q ↦ (length cells, cell, slice_get-seam cells cell [], number ∙ sym q.0, shard ∙ sym q.1)
  ];
})
  where
    number : cell.charter.number ≡ n
    number = ap (λ (y : CellView). y.charter.number) new.is

    shard : cell.charter.shard ≡ s
    shard = ap (λ (y : CellView). y.charter.shard) new.is

    mine : IsNewCell plan shards clock cell.charter.number cell.charter.shard cell
    mine = subst (λ (k : ℕ). IsNewCell plan shards clock k cell.charter.shard cell) (sym number) (subst (λ (k : ℕ). IsNewCell plan shards clock n k cell) (sym shard) new)

    -- its shard had no cell
    apart : (k : ℕ) (x : CellView) → slice_get cells k ≡ Some x → cell_shard_of x.charter ≡ cell_shard_of cell.charter → ⊥
    apart k x at same =
        let i = ap (λ (y : CellShard). y.node) same ∙ number in
        let t = ap (λ (y : CellShard). y.shard) same ∙ shard in
        elim (h.before k x at) [ inl less ↦ omega (arith, less, i) | inr q ↦ (let l = q.1 in omega (arith, l, t)) ]

    cut : (i t : ℕ) → IsBefore n (s + 1) i t → IsBefore n s i t ⊎ ((i ≡ n) × (t ≡ s))
    cut i t (inl less) = inl (inl less)
    cut i t (inr q) = elim (eqb_tells t s) [ inl same ↦ inr (q.0, same.1) | inr other ↦ (let l = q.1 in let ne = other.1 in inl (inr (q.0, omega (arith, l, ne)))) ]

-- how many cells there are with one node more
pub count_next : (plan : Plan) (shards n : ℕ) → cell_count plan shards (n + 1) ≡ cell_count plan shards n + shards_of plan shards n
count_next plan shards n = let e : n + 1 ≡ suc n = omega arith in ap (cell_count plan shards) e

-- the next node
pub next_new : (plan : Plan) (shards : ℕ) (clock : ClockId) (n s : ℕ) (cells : List CellView) → s ≡ shards_of plan shards n → AreNewCells plan shards clock n s cells → AreNewCells plan shards clock (n + 1) 0 cells
next_new plan shards clock n s cells end h = record {
  count = (let c = h.count in let e = count_next plan shards n in omega (arith, c, e, end));
  each = h.each;
  before = λ k cell at. elim (h.before k cell at) [ inl less ↦ inl (omega (arith, less)) | inr q ↦ (let e = q.0 in inl (omega (arith, e))) ];
  own = h.own;
  all = λ i t first l. h.all i t (was i t first l) l;
}
  where
    was : (i t : ℕ) → IsBefore (n + 1) 0 i t → t < shards_of plan shards i → IsBefore n s i t
    was i t (inr q) l = absurd (let x = q.1 in omega (arith, x))
    was i t (inl less) l = elim (eqb_tells i n) [
      | inl same ↦ (let e = ap (shards_of plan shards) same.1 in inr (same.1, omega (arith, l, e, end)))
      | inr other ↦ (let ne = other.1 in inl (omega (arith, less, ne)))
    ]

-- how many there are so far
pub count_on : (plan : Plan) (shards n m : ℕ) → n < m → cell_count plan shards n + shards_of plan shards n ≤ cell_count plan shards m
count_on plan shards n zero l = absurd (omega (arith, l))
count_on plan shards n (suc m) l = elim (eqb_tells n m) [
  | inl same ↦ (let e : cell_count plan shards n + shards_of plan shards n ≡ cell_count plan shards m + shards_of plan shards m = ap (λ (k : ℕ). cell_count plan shards k + shards_of plan shards k) same.1 in omega (arith, e))
  | inr other ↦ (let ne = other.1 in let rest = count_on plan shards n m (omega (arith, l, ne)) in omega (arith, rest))
]

pub count_few : (plan : Plan) (shards n : ℕ) → 1 ≤ shards → shards ≤ 256 → cell_count plan shards n ≤ 256 * n
count_few plan shards zero some most = omega arith
count_few plan shards (suc n) some most =
    let rest = count_few plan shards n some most in
    elim (shards_cases plan shards n) [ inl one ↦ omega (arith, rest, one) | inr all ↦ omega (arith, rest, all, most) ]

-- ---- passes

all_by : {X : Type 0} (P : X → Type 0) (xs : List X) → ((x : X) → Contains xs x → P x) → All P xs
all_by P xs f k d lt = f _ (Contains-get_or xs k d lt)

-- ---- numbers in ascending order, each once

inserted : (x : ℕ) (xs : List ℕ) (k : ℕ) (P : List ℕ → Type 0) → (k < x → P (k ∷ x ∷ xs)) → (k ≡ x → P (x ∷ xs)) → (x < k → P (x ∷ insert_key nat_cmp xs k)) → P (insert_key nat_cmp (x ∷ xs) k)
inserted x xs k P before here after =
    elim (cases_Bool (ltb k x)) [
      | inl lt ↦ rw lt (before (ltb-true k x lt))
      | inr ge ↦ elim (cases_Bool (eqb k x)) [
        | inl same ↦ rw (ge, same) (here (eqb-true k x same))
        | inr other ↦ (let a = ltb-false k x ge in let b = eqb-false k x other in rw (ge, other) (after (grind (arith, a, b))))
      ]
    ]

above_all : (x y : ℕ) (xs : List ℕ) → x < y → AllByRecursion (λ z. y < z) xs → AllByRecursion (λ z. x < z) xs
above_all x y [] lt h = tt
above_all x y (z ∷ xs) lt h = (let a = h.0 in omega (arith, a, lt), above_all x y xs lt h.1)

insert_above : (low : ℕ) (xs : List ℕ) (k : ℕ) → low < k → AllByRecursion (λ z. low < z) xs → AllByRecursion (λ z. low < z) (insert_key nat_cmp xs k)
insert_above low [] k lt h = (lt, tt)
insert_above low (x ∷ xs) k lt h = inserted x xs k (AllByRecursion (λ z. low < z)) (λ less. (lt, h)) (λ same. h) (λ more. (h.0, insert_above low xs k lt h.1))

insert_ascends : (xs : List ℕ) (k : ℕ) → Ascend xs → Ascend (insert_key nat_cmp xs k)
insert_ascends [] k h = (tt, tt)
insert_ascends (x ∷ xs) k h = inserted x xs k Ascend (λ less. ((less, above_all k x xs less h.0), h)) (λ same. h) (λ more. (insert_above x xs k more h.0, insert_ascends xs k h.1))

fold_ascends : (ks xs : List ℕ) → Ascend xs → Ascend (fold (insert_key nat_cmp) xs ks)
fold_ascends [] xs h = h
fold_ascends (k ∷ ks) xs h = fold_ascends ks (insert_key nat_cmp xs k) (insert_ascends xs k h)

insert_has : (xs : List ℕ) (k : ℕ) → Contains (insert_key nat_cmp xs k) k
insert_has [] k = Contains-head k []
insert_has (x ∷ xs) k = inserted x xs k (λ l. Contains l k) (λ less. Contains-head k (x ∷ xs)) (λ same. subst (λ (y : ℕ). Contains (x ∷ xs) y) (sym same) (Contains-head x xs)) (λ more. Contains-rest k x (insert_key nat_cmp xs k) (insert_has xs k))

insert_keeps : (xs : List ℕ) (k q : ℕ) → Contains xs q → Contains (insert_key nat_cmp xs k) q
insert_keeps [] k q h = absurd (Contains-none q h)
insert_keeps (x ∷ xs) k q h = inserted x xs k (λ l. Contains l q) (λ less. Contains-rest q k (x ∷ xs) h) (λ same. h) (λ more. elim (Contains-cons_cases q x xs h) [
  | inl is ↦ subst (λ (y : ℕ). Contains (x ∷ insert_key nat_cmp xs k) y) (sym is) (Contains-head x (insert_key nat_cmp xs k))
  | inr rest ↦ Contains-rest q x (insert_key nat_cmp xs k) (insert_keeps xs k q rest)
])

insert_from : (xs : List ℕ) (k q : ℕ) → Contains (insert_key nat_cmp xs k) q → (q ≡ k) ⊎ Contains xs q
insert_from [] k q = λ h. Contains-cons_cases q k [] h
insert_from (x ∷ xs) k q = inserted x xs k (λ l. Contains l q → (q ≡ k) ⊎ Contains (x ∷ xs) q) (λ less h. Contains-cons_cases q k (x ∷ xs) h) (λ same h. inr h) (λ more h. elim (Contains-cons_cases q x (insert_key nat_cmp xs k) h) [
  | inl is ↦ inr (subst (λ (y : ℕ). Contains (x ∷ xs) y) (sym is) (Contains-head x xs))
  | inr rest ↦ elim (insert_from xs k q rest) [ inl new ↦ inl new | inr was ↦ inr (Contains-rest q x xs was) ]
])

fold_keeps : (ks xs : List ℕ) (q : ℕ) → Contains xs q → Contains (fold (insert_key nat_cmp) xs ks) q
fold_keeps [] xs q h = h
fold_keeps (k ∷ ks) xs q h = fold_keeps ks (insert_key nat_cmp xs k) q (insert_keeps xs k q h)

fold_has : (ks xs : List ℕ) (q : ℕ) → Contains ks q → Contains (fold (insert_key nat_cmp) xs ks) q
fold_has [] xs q h = absurd (Contains-none q h)
fold_has (k ∷ ks) xs q h = elim (Contains-cons_cases q k ks h) [
  | inl is ↦ fold_keeps ks (insert_key nat_cmp xs k) q (subst (Contains (insert_key nat_cmp xs k)) (sym is) (insert_has xs k))
  | inr rest ↦ fold_has ks (insert_key nat_cmp xs k) q rest
]

fold_from : (ks xs : List ℕ) (q : ℕ) → Contains (fold (insert_key nat_cmp) xs ks) q → Contains ks q ⊎ Contains xs q
fold_from [] xs q h = inr h
fold_from (k ∷ ks) xs q h = elim (fold_from ks (insert_key nat_cmp xs k) q h) [
  | inl rest ↦ inl (Contains-rest q k ks rest)
  | inr was ↦ elim (insert_from xs k q was) [ inl is ↦ inl (subst (Contains (k ∷ ks)) (sym is) (Contains-head k ks)) | inr old ↦ inr old ]
]

from_ascending : (ks : List ℕ) (q : ℕ) → Contains (ascending ks) q → Contains ks q
from_ascending ks q h = elim (fold_from ks [] q h) [ inl is ↦ is | inr none ↦ absurd (Contains-none q none) ]

-- ---- how many clients there are

-- what holds of each thing with a number holds of the numbers
named_is : {X : Type 0} (h : X → Option ℕ) (Q : X → Type 0) (P : ℕ → Type 0) → ((x : X) (k : ℕ) → Q x → h x ≡ Some k → P k) → (xs : List X) → AllByRecursion Q xs → (q : ℕ) → Contains (filter_map h xs) q → P q
named_is h Q P to [] a q there = absurd (Contains-none q there)
named_is {X} h Q P to (x ∷ xs) a q there = at (h x) refl (λ l. named_is h Q P to xs a.1 q l) there
  where
    at : (o : Option ℕ) → h x ≡ o → (Contains (filter_map h xs) q → P q) → Contains (cons_option o (filter_map h xs)) q → P q
    at None e rest l = rest l
    at (Some k) e rest l = elim (Contains-cons_cases q k (filter_map h xs) l) [ inl is ↦ subst P (sym is) (to x k a.0 e) | inr later ↦ rest later ]

client_there : (plan : Plan) → Fits plan → (q : ℕ) → Contains (clients plan.rules plan.work) q → IsClientNumber q
client_there plan h q there = elim (Contains-append_cases (lying_clients plan.rules) (asking_clients plan.rules plan.work) q there) [
  | inl lies ↦ named_is lying_client (IsFault plan.config) IsClientNumber (liar_there plan.config) plan.rules h.fitting.each_rule q lies
  | inr asks ↦ elim (Contains-append_cases (filter_map troubled_client plan.rules) (filter_map job_client plan.work) q asks) [
    | inl trouble ↦ named_is troubled_client (IsFault plan.config) IsClientNumber (troubled_there plan.config) plan.rules h.fitting.each_rule q trouble
    | inr works ↦ named_is job_client (IsJob plan.config) IsClientNumber (worker_there plan.config) plan.work h.fitting.each_job q works
  ]
]

-- at most 1000 clients, whose numbers are from 1 to 1000
pub clients_few : (plan : Plan) → Fits plan → length (ascending (clients plan.rules plan.work)) ≤ 1001
clients_few plan h =
    let n = starts_few 1000 (ascending (clients plan.rules plan.work)) (fold_ascends (clients plan.rules plan.work) [] tt) (λ y there. (client_there plan h y (from_ascending (clients plan.rules plan.work) y there)).1) in
    omega (arith, n)

pub mapped : {X Y : Type 0} (f : X → Y) (xs : List X) → length (map f xs) ≡ length xs
mapped f [] = refl
mapped f (x ∷ xs) = let e = mapped f xs in omega (arith, e)

pub tasks_few : (plan : Plan) → Fits plan → (tasks : List Task) → map client_of tasks ≡ ascending (clients plan.rules plan.work) → length tasks ≤ 1001
tasks_few plan h tasks is = let same = ap (λ (l : List ℕ). length l) is in let long = mapped client_of tasks in let n = clients_few plan h in omega (arith, same, long, n)

pub same_long : {X Y : Type 0} (f : X → ℕ) (g : Y → ℕ) (xs : List X) (ys : List Y) → map f xs ≡ map g ys → length xs ≡ length ys
same_long f g xs ys is = let same = ap (λ (l : List ℕ). length l) is in let a = mapped f xs in let b = mapped g ys in omega (arith, same, a, b)

-- ---- desks

ids_are : (seats : List (Seat ClientDuty)) → map (λ d. d.id) (desks_of seats) ≡ map (λ s. s.desk.id) seats
ids_are [] = refl
ids_are (s ∷ seats) = ap (λ (l : List ℕ). s.desk.id ∷ l) (ids_are seats)

on_desks : (P : DeskView → Type 0) (plan : Plan) (clock : ClockId) (seats : List (Seat ClientDuty)) → All (IsNewSeat plan clock) seats → ((s : Seat ClientDuty) → Contains seats s → IsNewSeat plan clock s → P s.desk) → All P (desks_of seats)
on_desks P plan clock seats new f = all_by P (desks_of seats) (λ d there.
    let q = Contains-map_cases (λ (s : Seat ClientDuty). s.desk) seats d there in
    subst P (sym q.2) (f q.0 q.1 (All-contains (IsNewSeat plan clock) seats q.0 new q.1)))

pub desks_at : (plan : Plan) (clock : ClockId) (seats : List (Seat ClientDuty)) → All (IsNewSeat plan clock) seats → All (IsDeskAt plan.config clock) (desks_of seats)
desks_at plan clock seats new = on_desks (IsDeskAt plan.config clock) plan clock seats new (λ s there n. record { cluster = ap (λ (d : DeskView). d.config) n.is; ticks = ap (λ (d : DeskView). d.pass.clock) n.is ∙ n.unused.ticks })

pub clients_are : (plan : Plan) (clock : ClockId) (seats : List (Seat ClientDuty)) → All (IsNewSeat plan clock) seats → map (λ s. s.desk.id) seats ≡ ascending (clients plan.rules plan.work) → AreClients plan (desks_of seats)
clients_are plan clock seats new ids =
    let named = clients plan.rules plan.work in
    let is = ids_are seats ∙ ids in
    record {
      ascend = subst Ascend (sym is) (fold_ascends named [] tt);
      named = all_by (λ (d : DeskView). Contains named d.id) (desks_of seats) (λ d there. from_ascending named d.id (subst (λ (l : List ℕ). Contains l d.id) is (Contains-mapped d there)));
      all = λ c there. subst (λ (l : List ℕ). Contains l c) (sym is) (fold_has named [] c there);
      cluster = on_desks (λ (d : DeskView). d.config ≡ plan.config) plan clock seats new (λ s there n. ap (λ (d : DeskView). d.config) n.is);
      honesty = on_desks (λ (d : DeskView). d.lying ≡ has_number plan.liars.clients d.id) plan clock seats new (λ s there n. ap (λ (d : DeskView). d.lying) n.is);
    }
  where
    Contains-mapped : (d : DeskView) → Contains (desks_of seats) d → Contains (map (λ d. d.id) (desks_of seats)) d.id
    Contains-mapped d there = Contains-map (λ (x : DeskView). x.id) (desks_of seats) d there

-- ---- a client's seat

desk_is : (plan : Plan) (id : ℕ) (lying : Bool) (pass : Holder) (d : DeskView) → d ≡ first_desk plan.config id lying pass → has_number plan.liars.clients id ≡ lying → d ≡ first_desk plan.config d.id (has_number plan.liars.clients d.id) pass
desk_is plan id lying pass d is lies =
    is ∙ ap (λ (b : Bool). first_desk plan.config id b pass) (sym lies) ∙ ap (λ (k : ℕ). first_desk plan.config k (has_number plan.liars.clients k) pass) (sym (ap (λ (x : DeskView). x.id) is))

pub client_new : (plan : Plan) (pass : Holder) (c : ℕ) (d : DeskView) (w : CorrectClient) → pass.drawn ≡ [] → d ≡ first_desk plan.config c false pass → has_number plan.liars.clients c ≡ false → w.plan.value ≡ plan
    → ((e : DeskView) → e.config ≡ plan.config → e.id ≡ c → e.lying ≡ false → e.entries ≡ [] → IsReady w e) → phase_at w ≡ 0 → IsNewSeat plan pass.clock (record { desk = d; duty = Client w })
client_new plan pass c d w none is correct same ready first = record {
  pass = pass;
  unused = record { ticks = refl; drawn = none };
  is = desk_is plan c false pass d is correct;
  part = (same, (ready d (ap (λ (x : DeskView). x.config) is) (ap (λ (x : DeskView). x.id) is) (ap (λ (x : DeskView). x.lying) is) (ap (λ (x : DeskView). x.entries) is)).stands, first);
}

pub liar_new : (plan : Plan) (pass : Holder) (c : ℕ) (d : DeskView) (w : Liar) → pass.drawn ≡ [] → d ≡ first_desk plan.config c true pass → has_number plan.liars.clients c ≡ true → w.plan.value ≡ plan
    → ((e : DeskView) → e.config ≡ plan.config → e.id ≡ c → e.lying ≡ true → e.entries ≡ [] → HasMail w e) → IsNewSeat plan pass.clock (record { desk = d; duty = Lying w })
liar_new plan pass c d w none is lies same ready = record {
  pass = pass;
  unused = record { ticks = refl; drawn = none };
  is = desk_is plan c true pass d is lies;
  part = (same, ready d (ap (λ (x : DeskView). x.config) is) (ap (λ (x : DeskView). x.id) is) (ap (λ (x : DeskView). x.lying) is) (ap (λ (x : DeskView). x.entries) is), λ lt. absurd (omega arith));
}

-- ---- the run

-- passes that have drawn nothing
pub all_unused : (clock : ClockId) (passes : List Holder) (n : ℕ) → length passes ≡ n → IsUnused clock passes n → All (IsUnusedPass clock) passes
all_unused clock passes n count each = all_by (IsUnusedPass clock) passes (λ p there.
    let at = place_of passes p there in
    let is : unused clock at.0 ≡ p = same_at passes at.0 (unused clock at.0) p (each at.0 (let lt = slice_get_within passes at.0 p at.1 in omega (arith, lt, count))) at.1 in
    record { ticks = sym (ap (λ (h : Holder). h.clock) is); drawn = sym (ap (λ (h : Holder). h.drawn) is) })
  where
    same_at : (xs : List Holder) (i : ℕ) (x y : Holder) → slice_get xs i ≡ Some x → slice_get xs i ≡ Some y → x ≡ y
    same_at xs i x y a b = let e : Some x ≡ Some y = sym a ∙ b in cc

-- a number that is found stands in the list
has_there : (ns : List ℕ) (c : ℕ) → has_number ns c ≡ true → Contains ns c
has_there [] c e = absurd (cc)
has_there (n ∷ ns) c e = elim (eqb_tells c n) [
  | inl same ↦ subst (λ (k : ℕ). Contains (n ∷ ns) k) (sym same.1) (Contains-head n ns)
  | inr other ↦ (let rest : has_number ns c ≡ true = rw other.0 at e in Contains-rest c n ns (has_there ns c rest))
]

-- who lies by the plan is named in it
pub liars_named : (plan : Plan) → Fits plan → LiarsNamed plan
liars_named plan h c lies =
    let e : has_number (ascending (lying_clients plan.rules)) c ≡ true = ap (λ l. has_number l.clients c) (sym h.liars) ∙ lies in
    Contains-append_left (lying_clients plan.rules) (asking_clients plan.rules plan.work) c (from_ascending (lying_clients plan.rules) c (has_there (ascending (lying_clients plan.rules)) c e))

-- the parts of a run in which nobody has done anything
pub record IsNewRun (run : Run) (plan : Plan) : Type 0 where
  pub shards : ℕ
  pub some : 1 ≤ shards
  pub cells : AreNewCells plan shards run.clock plan.config.n 0 run.cells.items
  pub seats : All (IsNewSeat plan run.clock) run.clients.items
  pub ids : map (λ s. s.desk.id) run.clients.items ≡ ascending (clients plan.rules plan.work)
  pub keeper : IsUnusedPass run.clock run.keeper
  pub passes : run.clock.passes ≡ cell_count plan shards plan.config.n + length run.clients.items + 1
  pub begun : run.begun ≡ 0
  pub named : LiarsNamed plan

first_of : (begins : Begins) (run : Run) → IsNewRun run (plan_of run) → IsBetween 0 run
first_of begins run h =
    is_first begins run h.shards h.some
    (record {
      cells = (cells_planned (plan_of run) h.shards h.some run.clock run.cells.items h.cells).cells;
      inside = (cells_planned (plan_of run) h.shards h.some run.clock run.cells.items h.cells).inside;
      desks = desks_at (plan_of run) run.clock run.clients.items h.seats;
      keeper = (h.keeper.ticks, h.keeper.drawn);
      passes = omega (arith, h.passes, h.cells.count);
    })
    h.cells h.seats (clients_are (plan_of run) run.clock run.clients.items h.seats h.ids) h.begun h.named

pub stands_first : (begins : Begins) (run : Run) (plan : Plan) → plan_of run ≡ plan → IsNewRun run plan → IsBetween 0 run
stands_first begins run plan same h = first_of begins run (subst (IsNewRun run) (sym same) h)
