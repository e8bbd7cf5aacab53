-- What the reads of a phase gave, as the plan's prunes ask of it.
use Rattle.std.proofs.Common.{◌≡◌, ℕ, ◌+◌, ◌≤◌, Bool, true, false, cond, List, [], ◌∷◌, ◌++◌, map, refl, sym, ◌∙◌, ap, subst, inl, inr, arith}
use Rattle.std.specs.Prelude.{Option, nat_lt}
use Rattle.std.proofs.lemmas.Bool.Decides.{nat_tests}
use Rattle.std.specs.declared.option.Option.TheVariants.{None, Some}
use Rattle.std.specs.List.{Contains, All, cons_option, filter_map, flat_map}
use Rattle.std.proofs.lemmas.List.Elements.{Contains-append_cases, Contains-append_left, Contains-append_right, All-contains}
use Rattle.stamp_order.specs.declared.Stamp.{Stamp}
use Rattle.wire_forms.specs.Liars.{has_number}
use Rattle.quorum_rules.specs.Limits.{Numbers}
use Rattle.protocol.specs.World.{Record, open_record, stamp_given}
use Rattle.protocol.specs.Seen.{SeenTask, task_at, started_task}
use Rattle.journals.specs.Agreement.{ended_record}
use Rattle.journals.specs.Records.{record_of_task, open_records, client_records}
use Rattle.protocol.specs.Report.{Ascend}
use Rattle.journals.specs.Desks.{Ended, DeskState, new_desk, desk_after_all}
use Rattle.journals.specs.Steps.{Gives}
use Rattle.journals.specs.declared.desk.DeskEntry.{DeskEntry}
use Rattle.journals.specs.Journals.{at_desk, desks_before, cluster_at}
use Rattle.journals.specs.Phases.{Phase, IsGreatest}
use Rattle.client_desks.specs.Desks.{DeskView, state_at}
use Rattle.plan_words.specs.declared.plan.Plan.{Plan}
use Rattle.plan_followed.specs.Asked.{conduct_of}
use Rattle.plan_followed.specs.Nodes.{Pruning}
use Rattle.plan_followed.specs.Followed.{IsGivenIn, ArePrunes}
use Rattle.plan_followed.specs.declared.prunes.BlockStamp.{BlockStamp}
use Rattle.plan_followed.specs.Prunings.{blocks_of, ArePrunings}
use Rattle.phase_threads.specs.declared.duty.Seat.{Seat}
use Rattle.client_duties.specs.declared.work.ClientDuty.{ClientDuty}
use Rattle.client_duties.specs.declared.work.ClientDuty.TheVariants.{Client, Lying}
use Rattle.client_threads.specs.Pruned.{pruning_of}
use Rattle.client_threads.specs.Reads.{records_in, records_of, given_under, given_by, ends_since, early_by, late_by, early_in, late_in, early_reads, late_reads}
use Rattle.client_threads.specs.Running.{StandsAt, desks_of}
use Rattle.locked_nodes.specs.Cells.{CellView}
use Rattle.journals.specs.declared.whole.Journals.{Journals}
use Rattle.plan_followed.specs.Closed.{AreBelow}
use Rattle.plan_followed.proofs.lemmas.Later.{below_all}
use Rattle.phase_threads.specs.Standing.{journals_of}
use Rattle.phase_threads.specs.Ended.{AreClients}
use Rattle.phase_threads.proofs.lemmas.Cells.{desk_at}
use Rattle.phase_threads.proofs.lemmas.Ending.{entries_are}
use Rattle.lists.proofs.lemmas.Members.{Contains-head, Contains-none, Contains-one, Contains-rest, Contains-cons_cases, Contains-map_cases, Contains-map}

-- ---- lists

-- what a test of items gives comes from one of them, and the other way round
pub from_filter : {A B : Type 0} (f : A → Option B) (xs : List A) (y : B) → Contains (filter_map f xs) y → (x : A) × Contains xs x × (f x ≡ Some y)
from_filter f [] y there = absurd (Contains-none y there)
from_filter f (x ∷ xs) y there = at (f x) refl there (from_filter f xs y)
  where
    further : (Contains (filter_map f xs) y → (z : _) × Contains xs z × (f z ≡ Some y)) → Contains (filter_map f xs) y → (z : _) × Contains (x ∷ xs) z × (f z ≡ Some y)
    further earlier h = (let q = earlier h in (q.0, Contains-rest q.0 x xs q.1, q.2))

    at : (o : Option _) → f x ≡ o → Contains (cons_option o (filter_map f xs)) y → (Contains (filter_map f xs) y → (z : _) × Contains xs z × (f z ≡ Some y)) → (z : _) × Contains (x ∷ xs) z × (f z ≡ Some y)
    at None e h earlier = further earlier h
    at (Some z) e h earlier = elim (Contains-cons_cases y z (filter_map f xs) h) [
      | inl same ↦ (x, Contains-head x xs, e ∙ ap (λ (w : _). Some w) (sym same))
      | inr rest ↦ further earlier rest
    ]

pub in_filter : {A B : Type 0} (f : A → Option B) (xs : List A) (x : A) (y : B) → Contains xs x → f x ≡ Some y → Contains (filter_map f xs) y
in_filter f [] x y there e = absurd (Contains-none x there)
in_filter f (z ∷ xs) x y there e = elim (Contains-cons_cases x z xs there) [
  | inl same ↦ here (f z) (ap f (sym same) ∙ e)
  | inr rest ↦ further (f z) (in_filter f xs x y rest e)
]
  where
    here : (o : Option _) → o ≡ Some y → Contains (cons_option o (filter_map f xs)) y
    here o is = rw is (Contains-head y (filter_map f xs))

    further : (o : Option _) → Contains (filter_map f xs) y → Contains (cons_option o (filter_map f xs)) y
    further None h = h
    further (Some w) h = Contains-rest y w (filter_map f xs) h

from_flat : {A B : Type 0} (f : A → List B) (xs : List A) (y : B) → Contains (flat_map f xs) y → (x : A) × Contains xs x × Contains (f x) y
from_flat f [] y there = absurd (Contains-none y there)
from_flat f (x ∷ xs) y there = elim (Contains-append_cases (f x) (flat_map f xs) y there) [
  | inl here ↦ (x, Contains-head x xs, here)
  | inr rest ↦ (let q = from_flat f xs y rest in (q.0, Contains-rest q.0 x xs q.1, q.2))
]

in_flat : {A B : Type 0} (f : A → List B) (xs : List A) (x : A) (y : B) → Contains xs x → Contains (f x) y → Contains (flat_map f xs) y
in_flat f [] x y there h = absurd (Contains-none x there)
in_flat f (z ∷ xs) x y there h = elim (Contains-cons_cases x z xs there) [
  | inl same ↦ Contains-append_left (f z) (flat_map f xs) y (subst (λ (w : _). Contains (f w) y) same h)
  | inr rest ↦ Contains-append_right (f z) (flat_map f xs) y (in_flat f xs x y rest h)
]

-- ---- one client's reads

abbrev pair : ℕ → Stamp → BlockStamp
pair block stamp = record { block = block; stamp = stamp }

under_is : (block : ℕ) (o : Option Stamp) (y : BlockStamp) → given_under block o ≡ Some y → (block ≡ y.block) × (o ≡ Some y.stamp)
under_is block None y e = absurd (cc)
under_is block (Some stamp) y e = (let same : pair block stamp ≡ y = cc in (ap (λ (z : BlockStamp). z.block) same, ap (λ (z : BlockStamp). Some z.stamp) same))

-- what the read gave that an operation was
gave_is : (client : ℕ) (x : Ended) (y : BlockStamp) → given_by (ended_record client x) ≡ Some y → Gives x y.block y.stamp
gave_is client x y e = under_is x.block (stamp_given (Some x.outcome)) y e

is_given : (client : ℕ) (x : Ended) (block : ℕ) (stamp : Stamp) → Gives x block stamp → given_by (ended_record client x) ≡ Some (pair block stamp)
is_given client x block stamp g = ap (given_under x.block) g.1 ∙ ap (λ (b : ℕ). Some (pair b stamp)) g.0

open_gives : (client start : ℕ) (o : Option SeenTask) (r : Record) (y : BlockStamp) → Contains (record_of_task client (started_task start o)) r → given_by r ≡ Some y → ⊥
open_gives client start None r y there e = Contains-none r there
open_gives client start (Some t) r y there e =
    let same : r ≡ open_record client (task_at start t) = Contains-one r (open_record client (task_at start t)) there in
    let none : None ≡ Some y = ap given_by (sym same) ∙ e in
    cc

-- the operation of a record that gave something
ended_of : (client : ℕ) (d : DeskState) (r : Record) (y : BlockStamp) → Contains (client_records client d) r → given_by r ≡ Some y → (x : Ended) × Contains d.ended x × (r ≡ ended_record client x)
ended_of client d r y there e = elim (Contains-append_cases (map (ended_record client) d.ended) (open_records client d) r there) [
  | inl over ↦ Contains-map_cases (ended_record client) d.ended r over
  | inr now ↦ absurd (open_gives client (d.began + 1) d.client.seen.task r y now e)
]

in_records : (client : ℕ) (d : DeskState) (x : Ended) → Contains d.ended x → Contains (client_records client d) (ended_record client x)
in_records client d x there = Contains-append_left (map (ended_record client) d.ended) (open_records client d) (ended_record client x) (Contains-map (ended_record client) d.ended x there)

late_if : (b : Bool) (o : Option BlockStamp) (y : BlockStamp) → cond b o None ≡ Some y → (b ≡ true) × (o ≡ Some y)
late_if true o y e = (refl, e)
late_if false o y e = absurd (cc)

early_if : (b : Bool) (o : Option BlockStamp) (y : BlockStamp) → cond b None o ≡ Some y → o ≡ Some y
early_if true o y e = absurd (cc)
early_if false o y e = e

-- ---- reads as the journals have them

-- an operation of a correct client that gave this
pub record IsGiven (seats : List (Seat ClientDuty)) (x : BlockStamp) : Type 0 where
  pub seat : Seat ClientDuty
  pub among : Contains seats seat
  pub correct : seat.desk.lying ≡ false
  pub operation : Ended
  pub there : Contains (state_at seat.desk).ended operation
  pub gives : Gives operation x.block x.stamp

module _ (plan : Plan) (k from : ℕ) (seats : List (Seat ClientDuty)) (works : All (λ s. StandsAt plan k s.duty s.desk) seats) where
  -- a record of a seat is one of a correct client
  given_at : (s : Seat ClientDuty) → Contains seats s → (w : ClientDuty) → StandsAt plan k w s.desk → (r : Record) (x : BlockStamp) → Contains (records_in w s.desk) r → given_by r ≡ Some x
      → (g : IsGiven seats x) × (r ≡ ended_record s.desk.id g.operation)
  given_at s among (Client w) at r x there e =
      let q = ended_of s.desk.id (state_at s.desk) r x there e in (
        record { seat = s; among = among; correct = at.1.goes.its.correct; operation = q.0; there = q.1; gives = gave_is s.desk.id q.0 x (ap given_by (sym q.2) ∙ e) },
        q.2,
      )
  given_at s among (Lying w) at r x there e = absurd (Contains-none r there)

  stands_at : (s : Seat ClientDuty) → Contains seats s → StandsAt plan k s.duty s.desk
  stands_at s among = All-contains (λ s. StandsAt plan k s.duty s.desk) seats s works among

  pub given_late : (x : BlockStamp) → Contains (late_reads from seats) x → (g : IsGiven seats x) × (from ≤ g.operation.end)
  given_late x there =
      let q = from_flat (λ (s : Seat ClientDuty). late_in from (records_of s)) seats x there in
      let f = from_filter (late_by from) (records_of q.0) x q.2 in
      let t = late_if (ends_since from f.0.end) (given_by f.0) x f.2 in
      let g = given_at q.0 q.1 q.0.duty (stands_at q.0 q.1) f.0 x f.1 t.1 in
      let since : nat_lt from (g.0.operation.end + 1) ≡ true = ap (λ (r : Record). ends_since from r.end) (sym g.1) ∙ t.0 in
      (g.0, grind (arith, nat_tests))

  pub given_early : (x : BlockStamp) → Contains (early_reads from seats) x → IsGiven seats x
  given_early x there =
      let q = from_flat (λ (s : Seat ClientDuty). early_in from (records_of s)) seats x there in
      let f = from_filter (early_by from) (records_of q.0) x q.2 in
      (given_at q.0 q.1 q.0.duty (stands_at q.0 q.1) f.0 x f.1 (early_if (ends_since from f.0.end) (given_by f.0) x f.2)).0

  pub given_any : (x : BlockStamp) → Contains (late_reads from seats ++ early_reads from seats) x → IsGiven seats x
  given_any x there = elim (Contains-append_cases (late_reads from seats) (early_reads from seats) x there) [
    | inl l ↦ (given_late x l).0
    | inr e ↦ given_early x e
  ]

  -- and the other way round
  pub record IsListed (x : Ended) (block : ℕ) (stamp : Stamp) : Type 0 where
    any : Contains (late_reads from seats ++ early_reads from seats) (pair block stamp)
    late : from ≤ x.end → Contains (late_reads from seats) (pair block stamp)

  listed_in : (s : Seat ClientDuty) → Contains seats s → (w : ClientDuty) → s.duty ≡ w → StandsAt plan k w s.desk → s.desk.lying ≡ false → (x : Ended) (block : ℕ) (stamp : Stamp) → Contains (state_at s.desk).ended x → Gives x block stamp → IsListed x block stamp
  listed_in s among (Client w) is at correct x block stamp there g = by (nat_lt from (x.end + 1)) refl
    where
      r : Record
      r = ended_record s.desk.id x

      has : Contains (records_of s) r
      has = subst (λ (v : ClientDuty). Contains (records_in v s.desk) r) (sym is) (in_records s.desk.id (state_at s.desk) x there)

      by : (b : Bool) → nat_lt from (x.end + 1) ≡ b → IsListed x block stamp
      by true e =
          let l = in_flat (λ (s : Seat ClientDuty). late_in from (records_of s)) seats s (pair block stamp) among
          (in_filter (late_by from) (records_of s) r (pair block stamp) has (ap (λ (b : Bool). cond b (given_by r) None) e ∙ is_given s.desk.id x block stamp g)) in
          record { any = Contains-append_left (late_reads from seats) (early_reads from seats) (pair block stamp) l; late = λ h. l }
      by false e =
          let l = in_flat (λ (s : Seat ClientDuty). early_in from (records_of s)) seats s (pair block stamp) among
          (in_filter (early_by from) (records_of s) r (pair block stamp) has (ap (λ (b : Bool). cond b None (given_by r)) e ∙ is_given s.desk.id x block stamp g)) in
          record { any = Contains-append_right (late_reads from seats) (early_reads from seats) (pair block stamp) l; late = λ h. absurd (let no : nat_lt from (x.end + 1) ≡ true = grind (arith, nat_tests) in cc (no, e)) }
  listed_in s among (Lying w) is at correct x block stamp there g = absurd (let l = at.1.lying in cc (l, correct))

-- ---- the prunes of a phase

module _ (plan : Plan) (k from : ℕ) (seats : List (Seat ClientDuty)) (works : All (λ s. StandsAt plan k s.duty s.desk) seats)
    (clients : AreClients plan (desks_of seats)) (cells : List CellView) (p : Phase) (low : AreBelow p.close (journals_of plan cells (desks_of seats)))
    (ps : List BlockStamp) (are : ArePrunings (late_reads from seats ++ early_reads from seats) (late_reads from seats) ps) where
  abbrev j : Journals
  j = journals_of plan cells (desks_of seats)

  abbrev state_then : ℕ → DeskState
  state_then c = (cluster_at (conduct_of plan.rules) j p.close).desks c

  all_before : (c : ℕ) → desks_before p.close (at_desk j c) ≡ at_desk j c
  all_before c = below_all (λ (e : DeskEntry). e.number) p.close (at_desk j c) (low.desks c)

  -- when the phase closes each desk is as it is
  desk_then : (d : DeskView) → Contains (desks_of seats) d → state_then d.id ≡ state_at d
  desk_then d among =
      ap (desk_after_all (new_desk plan.config d.id)) (all_before d.id ∙ entries_are (desks_of seats) clients.ascend d among)
      ∙ ap (λ (n : Numbers). desk_after_all (new_desk n d.id) d.entries) (sym (All-contains (λ d. d.config ≡ plan.config) (desks_of seats) d clients.cluster among))

  lies_as : (d : DeskView) → Contains (desks_of seats) d → d.lying ≡ has_number plan.liars.clients d.id
  lies_as d among = All-contains (λ d. d.lying ≡ has_number plan.liars.clients d.id) (desks_of seats) d clients.honesty among

  -- whose operation it is
  pub record IsOf (c : ℕ) (x : Ended) : Type 0 where
    seat : Seat ClientDuty
    among : Contains seats seat
    correct : seat.desk.lying ≡ false
    there : Contains (state_at seat.desk).ended x

  owner : (c : ℕ) → has_number plan.liars.clients c ≡ false → (x : Ended) → Contains (state_then c).ended x → IsOf c x
  owner c right x there = elim (desk_at (desks_of seats) c).is [
    | inl q ↦ (
        let s = Contains-map_cases (λ (s : Seat ClientDuty). s.desk) seats q.0 q.1 in
        let same : state_then c ≡ state_at q.0 = ap state_then (sym q.2) ∙ desk_then q.0 q.1 in
        let at : Contains (state_at q.0).ended x = subst (λ (d : DeskState). Contains d.ended x) same there in
        let honest : q.0.lying ≡ false = lies_as q.0 q.1 ∙ ap (has_number plan.liars.clients) q.2 ∙ right in
        record { seat = s.0; among = s.1; correct = ap (λ (d : DeskView). d.lying) (sym s.2) ∙ honest; there = subst (λ (d : DeskView). Contains (state_at d).ended x) s.2 at }
        )
    | inr none ↦ (
        let same : desks_before p.close (at_desk j c) ≡ [] = all_before c ∙ none.0 in
        absurd (Contains-none x (subst (λ (es : List DeskEntry). Contains (desk_after_all (new_desk plan.config c) es).ended x) same there))
        )
  ]

  -- what is given is read by a correct client
  pub record IsTold (x : BlockStamp) (operation : Ended) : Type 0 where
    client : ℕ
    correct : has_number plan.liars.clients client ≡ false
    there : Contains (state_then client).ended operation

  told : (x : BlockStamp) (g : IsGiven seats x) → IsTold x g.operation
  told x g =
      let among : Contains (desks_of seats) g.seat.desk = Contains-map (λ (s : Seat ClientDuty). s.desk) seats g.seat g.among in
      record {
        client = g.seat.desk.id;
        correct = sym (lies_as g.seat.desk among) ∙ g.correct;
        there = subst (λ (d : DeskState). Contains d.ended g.operation) (sym (desk_then g.seat.desk among)) g.there;
      }

  listed : (c : ℕ) → has_number plan.liars.clients c ≡ false → (x : Ended) (block : ℕ) (stamp : Stamp) → Contains (state_then c).ended x → Gives x block stamp → IsListed plan k from seats works x block stamp
  listed c right x block stamp there g =
      let o = owner c right x there in
      listed_in plan k from seats works o.seat o.among o.seat.duty refl (stands_at plan k from seats works o.seat o.among) o.correct x block stamp o.there g

  -- a pruning of the list
  in_list : (x : Pruning) → Contains (map pruning_of ps) x → (y : BlockStamp) × Contains ps y × (x ≡ pruning_of y)
  in_list x there = Contains-map_cases pruning_of ps x there

  blocks_same : (qs : List BlockStamp) → map (λ x. x.block) (map pruning_of qs) ≡ blocks_of qs
  blocks_same [] = refl
  blocks_same (q ∷ qs) = ap (λ (l : List ℕ). q.block ∷ l) (blocks_same qs)

  greatest_of : (y : BlockStamp) → Contains ps y → IsGreatest (conduct_of plan.rules) j p.close y.block y.stamp
  greatest_of y there =
      let g = given_any plan k from seats works y (are.given y there) in
      let t = told y g in
      record {
        given = record { client = t.client; correct = t.correct; read = g.operation; there = t.there; gives = g.gives };
        greatest = λ other o. (
            let l = listed o.client o.correct o.read y.block other o.there o.gives in
            are.greatest y (pair y.block other) there l.any refl
            );
      }

  given_of : (y : BlockStamp) → Contains ps y → IsGivenIn plan j from p y.block
  given_of y there =
      let b = Contains-map_cases (λ (x : BlockStamp). x.block) (late_reads from seats) y.block (are.fresh y there) in
      let g = given_late plan k from seats works b.0 b.1 in
      let t = told b.0 g.0 in
      record { client = t.client; correct = t.correct; read = g.0.operation; there = t.there; stamp = b.0.stamp; gives = (g.0.gives.0 ∙ sym b.2, g.0.gives.1); since = g.1 }

  pub prunes_are : ArePrunes plan j from p (map pruning_of ps)
  prunes_are = record {
    ascend = subst Ascend (sym (blocks_same ps)) are.ascend;
    all = λ block g. (
        let l = listed g.client g.correct g.read block g.stamp g.there g.gives in
        let m = are.all block (Contains-map (λ (x : BlockStamp). x.block) (late_reads from seats) (pair block g.stamp) (l.late g.since)) in
        subst (λ (bs : List ℕ). Contains bs block) (sym (blocks_same ps)) m
        );
    given = λ x there. (let q = in_list x there in subst (λ (y : Pruning). IsGivenIn plan j from p y.block) (sym q.2) (given_of q.0 q.1));
    greatest = λ x there. (let q = in_list x there in subst (λ (y : Pruning). IsGreatest (conduct_of plan.rules) j p.close y.block y.stamp) (sym q.2) (greatest_of q.0 q.1));
  }
