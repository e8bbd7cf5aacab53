-- Cells and seats that come back as they were, for a phase by locks.
use Rattle.std.proofs.Common.{◌≡◌, ℕ, suc, List, [], ◌∷◌, map, refl, sym, ap, subst, ◌∙◌, arith, inl, inr}
use Rattle.std.specs.declared.option.Option.TheVariants.{Some}
use Rattle.std.specs.Prelude.{◌⊎◌, All, false, slice_get}
use Rattle.std.specs.List.{AllZip, Contains}
use Rattle.quorum_rules.specs.Limits.{Numbers}
use Rattle.thread_work.specs.Pairwise.{Beside}
use Rattle.thread_work.proofs.lemmas.Places.{all_from_places, get_map, map_get}
use Rattle.event_clock.specs.Passes.{ClockId}
use Rattle.journals.specs.declared.node.NodeEntry.{NodeEntry}
use Rattle.journals.specs.declared.desk.DeskAct.{DeskAct}
use Rattle.journals.specs.declared.desk.DeskEntry.{DeskEntry}
use Rattle.journals.specs.Steps.{side, IsOwn}
use Rattle.locked_nodes.specs.declared.cell_shard.CellShard.{CellShard}
use Rattle.locked_nodes.specs.CellShards.{cell_shard_of, cell_shards_of, Cover}
use Rattle.locked_nodes.specs.Cells.{CellView, rechartered}
use Rattle.client_desks.specs.Desks.{DeskView}
use Rattle.phase_threads.specs.declared.duty.Seat.{Seat}
use Rattle.phase_threads.specs.declared.phase.Left.{Left}
use Rattle.phase_threads.specs.Phases.{MayPhase, HasPhased}
use Rattle.phase_threads.specs.Standing.{AreCells, IsCellOf, PairsStand, HasSideIn, HasSideOn, HasWorked}
use Rattle.lists.proofs.lemmas.Members.{place_of, all_at_place, Contains-slice_get}

pub beside_map : {A B : Type 0} (f : A → B) (xs : List A) (ys : List B) → Beside (λ i x y. y ≡ f x) xs ys → ys ≡ map f xs
beside_map f [] [] b = refl
beside_map f [] (y ∷ ys) b = absurd (let n = b.count in omega arith)
beside_map f (x ∷ xs) [] b = absurd (let n = b.count in omega arith)
beside_map f (x ∷ xs) (y ∷ ys) b =
    let head : y ≡ f x = b.each 0 x y refl refl in
    let tail = beside_map f xs ys (record { count = (let n = b.count in omega arith); each = λ i u v p q. b.each (suc i) u v p q }) in
    λ j. head j ∷ tail j

pub map_id : {A : Type 0} (xs : List A) → map (λ x. x) xs ≡ xs
map_id [] = refl
map_id (x ∷ xs) = ap (λ l. x ∷ l) (map_id xs)

-- the cell under a new charter
abbrev pub again : CellView → CellView
again c = rechartered c false

shards_again : (cells : List CellView) → cell_shards_of (map again cells) ≡ cell_shards_of cells
shards_again [] = refl
shards_again (c ∷ cells) = ap (λ l. cell_shard_of c.charter ∷ l) (shards_again cells)

worked_again : (cells new : List CellView) → AllZip HasWorked (map again cells) new → AllZip HasWorked cells new
worked_again [] [] z = tt
worked_again [] (n ∷ new) z = absurd z
worked_again (c ∷ cells) [] z = absurd z
worked_again (c ∷ cells) (n ∷ new) z = (record { charter = z.0.charter; grew = z.0.grew }, worked_again cells new z.1)

module _ (cells : List CellView) where
  cell_again : (config : Numbers) (of : ClockId) (c : CellView) → c.pass.clock ≡ c.charter.pass.clock → IsCellOf config of c → IsCellOf config of (again c)
  cell_again config of c ticks is = record { cluster = is.cluster; some = is.some; ticks = ticks ∙ is.ticks }

  cells_again : (config : Numbers) (of : ClockId) → All (λ (c : CellView). c.pass.clock ≡ c.charter.pass.clock) cells → AreCells config of cells → AreCells config of (map again cells)
  cells_again config of own are = record {
    each = all_from_places (IsCellOf config of) (map again cells) (λ k d at.
        let c = map_get again cells k d at in
        subst (IsCellOf config of) c.2 (cell_again config of c.0 (all_at_place (λ (x : CellView). x.pass.clock ≡ x.charter.pass.clock) cells k c.0 own c.1) (all_at_place (IsCellOf config of) cells k c.0 are.each c.1)));
    cover = subst (Cover config.n) (sym (shards_again cells)) are.cover;
  }

  side_again : (id : ℕ) (e : DeskEntry) → IsOwn e.act ⊎ HasSideIn cells id e → IsOwn e.act ⊎ HasSideIn (map again cells) id e
  side_again id e (inl own) = inl own
  side_again id e (inr s) =
      let place = place_of cells s.cell s.there in
      inr (record { cell = again s.cell; there = Contains-slice_get (map again cells) place.0 (again s.cell) (get_map again cells place.0 s.cell place.1); of = s.of; stands = s.stands; number = s.number; agree = s.agree })

  called_again : (desks : List DeskView) → PairsStand cells desks → (k : ℕ) (old d : CellView) (n : NodeEntry) (c : ℕ) (act : DeskAct) → slice_get cells k ≡ Some old → again old ≡ d → Contains d.journal n → side n.act ≡ Some (c, act) → HasSideOn desks c n.number act
  called_again desks pairs k old d n c act at same has is = pairs.called old n c act (Contains-slice_get cells k old at) (subst (λ (x : CellView). Contains x.journal n) (sym same) has) is

  pairs_again : (desks : List DeskView) → PairsStand cells desks → PairsStand (map again cells) desks
  pairs_again desks pairs = record {
    called = λ d n c act there has is.
        let place = place_of (map again cells) d there in
        let old = map_get again cells place.0 d place.1 in
        called_again desks pairs place.0 old.0 d n c act old.1 old.2 has is;
    answered = λ d e there has. side_again d.id e (pairs.answered d e there has);
  }

-- what may begin with these cells and seats may begin with the same ones
pub may_as : {T : Type 0} (ready : T → List CellShard → DeskView → Type 0) (of : ClockId) (cells : List CellView) (seats : List (Seat T)) (now : List CellView) (are : List (Seat T)) → now ≡ cells → are ≡ seats → MayPhase ready of cells seats → MayPhase ready of now are
may_as {T = T} ready of cells seats now are is same may = subst (λ (l : List (Seat T)). MayPhase ready of now l) (sym same) (subst (λ (l : List CellView). MayPhase ready of l seats) (sym is) may)

module _ {T : Type 0} (ready : T → List CellShard → DeskView → Type 0) (done : T → DeskView → T → DeskView → Type 0) (of : ClockId) (cells : List CellView) (seats : List (Seat T)) where
  pub may_again : (now : List CellView) (are : List (Seat T)) → now ≡ map again cells → are ≡ seats → All (λ (c : CellView). c.pass.clock ≡ c.charter.pass.clock) cells → MayPhase ready of cells seats → MayPhase ready of now are
  may_again now are is same own may =
      subst (λ (l : List (Seat T)). MayPhase ready of now l) (sym same) (subst (λ (l : List CellView). MayPhase ready of l seats) (sym is) (record {
        cluster = (may.cluster.0, cells_again cells may.cluster.0 of own may.cluster.1, may.cluster.2);
        pairs = pairs_again cells (map (λ (s : Seat T). s.desk) seats) may.pairs;
        ready = subst (λ (l : List CellShard). All (λ (s : Seat T). ready s.duty l s.desk) seats) (sym (shards_again cells)) may.ready;
        count = may.count;
      }))

  pub phased_again : (now : List CellView) (are : List (Seat T)) (clock : ClockId) (left : Left T) → now ≡ map again cells → are ≡ seats → HasPhased done of now are clock left → HasPhased done of cells seats clock left
  phased_again now are clock left is same phased =
      let p : HasPhased done of (map again cells) seats clock left = subst (λ (l : List (Seat T)). HasPhased done of (map again cells) l clock left) same (subst (λ (l : List CellView). HasPhased done of l are clock left) is phased) in
      record { clock = p.clock; cells = worked_again cells left.cells.items p.cells; desks = p.desks; duties = p.duties; pairs = p.pairs }
