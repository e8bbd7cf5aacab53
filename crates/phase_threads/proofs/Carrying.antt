-- A turn of the courier at a cell, and its chits after that.
use Rattle.std.proofs.Common.{◌≡◌, ℕ, ◌+◌, ◌<◌, List, [], ◌∷◌, ◌++◌, length, map, get_or, drop, refl, sym, ap, subst, ◌∙◌, arith, inl, inr}
use Rattle.std.specs.declared.option.Option.TheVariants.{None, Some}
use Rattle.std.specs.Prelude.{All, Option, slice_get}
use Rattle.std.specs.List.{Contains}
use Rattle.std.specs.Vec.{with_item}
use Rattle.std.proofs.lemmas.List.{length-map}
use Rattle.std.proofs.lemmas.List.Elements.{All-set, Contains-append_cases}
use Rattle.std.proofs.lemmas.Option.{slice_get_read, slice_get_within, get_or_from_slice_get}
use Rattle.std.proofs.Math.Seq.{map-set_same}
use Rattle.quorum_rules.specs.Limits.{Numbers}
use Rattle.receipt_lock.specs.Tickets.{Begins, new_entries, placed_from}
use Rattle.receipt_lock.specs.Chits.{Holder as Chit, Deposit, took, gave, found_list}
use Rattle.journals.specs.declared.node.NodeEntry.{NodeEntry}
use Rattle.locked_nodes.specs.declared.charter.Item.{Item}
use Rattle.locked_nodes.specs.declared.charter.Item.TheVariants.{Entry}
use Rattle.locked_nodes.specs.declared.answers.CellRefusal.{CellRefusal}
use Rattle.locked_nodes.specs.declared.cell_shard.CellShard.{CellShard}
use Rattle.locked_nodes.specs.Cells.{CellView, HasMoreAside, items}
use Rattle.locked_nodes.proofs.lemmas.Aside.{aside_items}
use Rattle.client_endpoints.specs.Endpoint.{SharedCellsView, vaults_of, IsHead}
use Rattle.thread_work.proofs.lemmas.Places.{slice_get-unique, get_map}
use Rattle.lists.proofs.lemmas.Members.{Contains-head, Contains-none, Contains-rest, Contains-cons_cases, at_place}
use Rattle.phase_threads.specs.declared.courier.Courier.{Courier}
use Rattle.phase_threads.specs.Carried.{IsAside, CanCarry, HasCarried}

drop_front : {X : Type 0} (xs ys : List X) → drop (length xs) (xs ++ ys) ≡ ys
drop_front [] ys = refl
drop_front (x ∷ xs) ys = drop_front xs ys

-- the list that is given back begins with the one that was found
pub gives_back : (cell now : CellView) (was held : Chit Item) → held ≡ took was (items cell) → HasMoreAside cell now → Begins (found_list held.holds) (items now)
gives_back cell now was held take more =
    subst (λ (x : Chit Item). Begins (found_list x.holds) (items now)) (sym take) (map (λ (e : NodeEntry). Entry e) more.more, aside_items cell now more)

-- an entry with its place is one of those that got places
entry_of : (x y : ℕ × Item) (n m : NodeEntry) → x ≡ y → x.1 ≡ Entry n → y.1 ≡ Entry m → n ≡ m
entry_of x y n m is a b = let e : Entry n ≡ Entry m = sym a ∙ ap (λ (z : ℕ × Item). z.1) is ∙ b in cc

placed_in : (from : ℕ) (more : List NodeEntry) (at : ℕ) (n : NodeEntry) → Contains {X = ℕ × Item} (placed_from from (map (λ (e : NodeEntry). Entry e) more)) (at, Entry n) → Contains more n
placed_in from [] at n has = absurd (Contains-none {X = ℕ × Item} (at, Entry n) has)
placed_in from (e ∷ more) at n has =
    elim (Contains-cons_cases {X = ℕ × Item} (at, Entry n) (from, Entry e) (placed_from (from + 1) (map (λ (x : NodeEntry). Entry x) more)) has) [
      | inl same ↦ subst (Contains (e ∷ more)) (sym (entry_of (at, Entry n) (from, Entry e) n e same refl refl)) (Contains-head e more)
      | inr rest ↦ Contains-rest n e more (placed_in (from + 1) more at n rest)
    ]

-- the chit after the turn
pub still_aside : (cell now : CellView) (was held after : Chit Item) → held ≡ took was (items cell) → after ≡ gave held (items now) → HasMoreAside cell now → IsAside was → IsAside after
still_aside cell now was held after take give more aside at n has =
    let entries : List Item = map (λ (e : NodeEntry). Entry e) more.more in
    let added : List (ℕ × Item) = placed_from (length (items cell)) entries in
    let new : new_entries (items cell) (items now) ≡ added =
    ap (new_entries (items cell)) (aside_items cell now more) ∙ ap (placed_from (length (items cell))) (drop_front (items cell) entries) in
    let mine : after.mine ≡ was.mine ++ added =
    ap (λ (h : Chit Item). h.mine) give ∙ ap (λ (h : Chit Item). h.mine ++ new_entries (found_list h.holds) (items now)) take ∙ ap (λ l. was.mine ++ l) new in
    elim (Contains-append_cases {X = ℕ × Item} was.mine added (at, Entry n) (subst (λ (l : List (ℕ × Item)). Contains {X = ℕ × Item} l (at, Entry n)) mine has)) [
      | inl before ↦ aside at n before
      | inr after ↦ more.aside n (placed_in (length (items cell)) more.more at n after)
    ]

pub none_carried : (of : SharedCellsView) (c : Courier) → CanCarry of c → HasCarried c c
none_carried of c can = record { own = refl; rest = can.rest; aside = can.aside }

-- the courier amid its rounds
module _ (of : SharedCellsView) (old now : Courier) (can : CanCarry of old) (so : HasCarried old now) where
  own : map (λ (x : Chit Item). x.vault) now.chits.items ≡ map (λ (v : Deposit Item). v.id) (vaults_of of)
  own = so.own ∙ can.own.own

  pub within : (place : ℕ) → place < length (vaults_of of) → place < length now.chits.items
  within place lt =
      let same = sym (length-map now.chits.items (λ (x : Chit Item). x.vault)) ∙ ap length own ∙ length-map (vaults_of of) (λ (v : Deposit Item). v.id) in
      omega (arith, lt, same)

  pub chit_at : (place : ℕ) (c : Chit Item) → place < length (vaults_of of) → c ≡ get_or now.chits.items place c → slice_get now.chits.items place ≡ Some c
  chit_at place c lt at = slice_get_read now.chits.items (length now.chits.items) place c refl (within place lt) at

  -- its chit is one for the cell's vault
  pub own_at : (place : ℕ) (c : Chit Item) (v : Deposit Item) → slice_get now.chits.items place ≡ Some c → slice_get (vaults_of of) place ≡ Some v → c.vault ≡ v.id
  own_at place c v at there =
      slice_get-unique (map (λ (x : Chit Item). x.vault) now.chits.items) place c.vault v.id (get_map (λ (x : Chit Item). x.vault) now.chits.items place c at)
      (ap (λ l. slice_get l place) own ∙ get_map (λ (x : Deposit Item). x.id) (vaults_of of) place v there)

  -- the cell at a place is of a shard
  pub head_at : (place : ℕ) (v : Deposit Item) → slice_get (vaults_of of) place ≡ Some v → (config : Numbers) × (cell_shard : CellShard) × IsHead config of.clock cell_shard v.id.begun
  head_at place v there =
      let s = at_place of.cell_shards place (let lt = slice_get_within (vaults_of of) place v there in let count = can.own.count in omega (arith, lt, count)) in
      (can.config, s.0, can.shared_cells.each place s.0 v s.1 there)

  -- with one turn more
  pub carried_on : (place : ℕ) (was after : Chit Item) (refused : Option CellRefusal) → slice_get now.chits.items place ≡ Some was → after.vault ≡ was.vault → after.holds ≡ None → IsAside after
      → HasCarried old (record { chits = with_item now.chits place after; refused = refused })
  carried_on place was after refused at vault holds aside = record {
    own = map-set_same (λ (c : Chit Item). c.vault) now.chits.items place after was (vault ∙ ap (λ (c : Chit Item). c.vault) (sym (get_or_from_slice_get now.chits.items place was was at))) ∙ so.own;
    rest = All-set (λ (c : Chit Item). c.holds ≡ None) now.chits.items place after holds so.rest;
    aside = All-set IsAside now.chits.items place after aside so.aside;
  }
