-- From what was told in a phase to what cells and desks then say of each other.
use Rattle.std.proofs.Common.{◌≡◌, ℕ, ◌<◌, List, length, sym, ap, subst, ◌∙◌, inl, inr}
use Rattle.std.proofs.lemmas.Option.{slice_get_within}
use Rattle.std.specs.declared.option.Option.TheVariants.{Some}
use Rattle.std.specs.Prelude.{◌⊎◌, slice_get}
use Rattle.std.specs.List.{Contains}
use Rattle.std.proofs.lemmas.List.Elements.{Contains-append_left}
use Rattle.journals.specs.declared.node.NodeEntry.{NodeEntry}
use Rattle.journals.specs.declared.desk.DeskAct.{DeskAct}
use Rattle.journals.specs.declared.desk.DeskEntry.{DeskEntry}
use Rattle.journals.specs.Steps.{side, IsOwn}
use Rattle.locked_nodes.specs.Cells.{CellView}
use Rattle.client_desks.specs.Desks.{DeskView, desk_entry}
use Rattle.client_endpoints.specs.declared.transport.Transport.{Transport}
use Rattle.client_endpoints.specs.Transports.{IsTold}
use Rattle.phase_threads.specs.Standing.{HasSideIn, HasSideOn, PairsStand, HasWorked}
use Rattle.phase_threads.specs.Told.{IsToldIn, AreJustTold, HasHeard}
use Rattle.thread_work.specs.Pairwise.{Beside}
use Rattle.thread_work.proofs.lemmas.Places.{slice_get-unique, beside_right, beside_left}
use Rattle.lists.proofs.lemmas.Members.{place_of, at_place, Contains-slice_get}

module _ (old now : List CellView) (olds news : List DeskView) (transports : List Transport) (worked : Beside (λ i a b. HasWorked a b) old now) (just : AreJustTold old now transports) (heard : Beside (HasHeard olds) transports news) (count : length olds ≡ length transports) where
  -- what stood on a desk stands there
  on_new : (k c n : ℕ) (act : DeskAct) (s : HasSideOn olds c n act) (t : Transport) (new : DeskView) → slice_get olds k ≡ Some s.desk → slice_get news k ≡ Some new → HasHeard olds k t new → HasSideOn news c n act
  on_new k c n act s t new was at h =
      let same : h.old ≡ s.desk = slice_get-unique olds k h.old s.desk h.there was in
      record {
        desk = new;
        there = Contains-slice_get news k new at;
        client = h.later.id ∙ ap (λ (d : DeskView). d.id) same ∙ s.client;
        stands = subst (λ (l : List DeskEntry). Contains l (desk_entry n act)) (sym h.later.entries)
            (Contains-append_left h.old.entries h.later.more (desk_entry n act) (subst (λ (d : DeskView). Contains d.entries (desk_entry n act)) (sym same) s.stands));
      }

  on_later_at : (k c n : ℕ) (act : DeskAct) (s : HasSideOn olds c n act) → slice_get olds k ≡ Some s.desk → HasSideOn news c n act
  on_later_at k c n act s was =
      let t = at_place transports k (subst (λ (m : ℕ). k < m) count (slice_get_within olds k s.desk was)) in
      let new = beside_right (HasHeard olds) transports news k t.0 heard t.1 in
      on_new k c n act s t.0 new.0 was new.1 new.2

  on_later : (c n : ℕ) (act : DeskAct) → HasSideOn olds c n act → HasSideOn news c n act
  on_later c n act s = let place = place_of olds s.desk s.there in on_later_at place.0 c n act s place.1

  -- what stood in a cell stands there
  in_new : (k c : ℕ) (e : DeskEntry) (s : HasSideIn old c e) (new : CellView) → slice_get now k ≡ Some new → HasWorked s.cell new → HasSideIn now c e
  in_new k c e s new at h = record {
    cell = new;
    there = Contains-slice_get now k new at;
    of = s.of;
    stands = subst (λ (l : List NodeEntry). Contains l s.of) (sym h.grew.1) (Contains-append_left s.cell.journal h.grew.0 s.of s.stands);
    number = s.number;
    agree = s.agree;
  }

  in_later : (c : ℕ) (e : DeskEntry) → HasSideIn old c e → HasSideIn now c e
  in_later c e s =
      let place = place_of old s.cell s.there in
      let new = beside_right (λ (i : ℕ) (a b : CellView). HasWorked a b) old now place.0 s.cell worked place.1 in
      in_new place.0 c e s new.0 new.1 new.2

  -- what was told stands on the desk of the client that asked
  told_on : (c : ℕ) (e : DeskEntry) → IsToldIn transports c e → HasSideOn news c e.number e.act
  told_on c e w =
      let new = beside_right (HasHeard olds) transports news w.seat w.transport heard w.there in
      let both = new.2.agree.told c e w.told in
      record { desk = new.0; there = Contains-slice_get news w.seat new.0 new.1; client = sym both.0; stands = both.1 }

  called_of : (was : CellView) (n : NodeEntry) (c : ℕ) (act : DeskAct) → PairsStand old olds → Contains old was → side n.act ≡ Some (c, act) → Contains was.journal n ⊎ IsToldIn transports c (desk_entry n.number act) → HasSideOn news c n.number act
  called_of was n c act pairs there is (inl before) = on_later c n.number act (pairs.called was n c act there before is)
  called_of was n c act pairs there is (inr told) = told_on c (desk_entry n.number act) told

  called : PairsStand old olds → (cell : CellView) (n : NodeEntry) (c : ℕ) (act : DeskAct) → Contains now cell → Contains cell.journal n → side n.act ≡ Some (c, act) → HasSideOn news c n.number act
  called pairs cell n c act there has is =
      let place = place_of now cell there in
      let was = beside_left (λ (i : ℕ) (a b : CellView). HasWorked a b) old now place.0 cell worked place.1 in
      called_of was.0 n c act pairs (Contains-slice_get old place.0 was.0 was.1) is (just.told place.0 was.0 cell n c act was.1 place.1 has is)

  began_in : (d : DeskView) (e : DeskEntry) (before : DeskView) → before.id ≡ d.id → IsOwn e.act ⊎ HasSideIn old before.id e → IsOwn e.act ⊎ HasSideIn now d.id e
  began_in d e before same (inl own) = inl own
  began_in d e before same (inr s) = inr (subst (λ (i : ℕ). HasSideIn now i e) same (in_later before.id e s))

  answered_of : (k : ℕ) (t : Transport) (d : DeskView) (e : DeskEntry) (h : HasHeard olds k t d) → PairsStand old olds → slice_get transports k ≡ Some t → IsOwn e.act ⊎ (Contains h.old.entries e ⊎ IsTold t d.id e) → IsOwn e.act ⊎ HasSideIn now d.id e
  answered_of k t d e h pairs there (inl own) = inl own
  answered_of k t d e h pairs there (inr (inl first)) = began_in d e h.old (sym h.later.id) (pairs.answered h.old e (Contains-slice_get olds k h.old h.there) first)
  answered_of k t d e h pairs there (inr (inr told)) = inr (just.stands k t d.id e there told)

  answered : PairsStand old olds → (d : DeskView) (e : DeskEntry) → Contains news d → Contains d.entries e → IsOwn e.act ⊎ HasSideIn now d.id e
  answered pairs d e there has =
      let place = place_of news d there in
      let t = beside_left (HasHeard olds) transports news place.0 d heard place.1 in
      answered_of place.0 t.0 d e t.2 pairs t.1 (t.2.agree.asked e has)

  -- cells and desks agree in pairs again
  pub pairs_stand : PairsStand old olds → PairsStand now news
  pairs_stand pairs = record { called = called pairs; answered = answered pairs }
