-- Vaults, portions and thread states before the threads start.
use Rattle.std.proofs.Common.{◌≡◌, ℕ, ◌<◌, List, [], ◌∷◌, ◌++◌, length, map, Result, Ok, Err, refl, sym, ap, subst, ◌∙◌, arith}
use Rattle.std.specs.declared.option.Option.TheVariants.{None, Some}
use Rattle.std.specs.Prelude.{All, IfOk, false, slice_get}
use Rattle.std.specs.Global.{Vec}
use Rattle.std.proofs.lemmas.List.{map-append, length-map}
use Rattle.std.proofs.lemmas.Option.{get_or_from_slice_get}
use Rattle.quorum_rules.specs.Limits.{Numbers}
use Rattle.event_clock.specs.Passes.{ClockId}
use Rattle.receipt_lock.specs.Chits.{Holder as Chit, Deposit, VaultId, new_chit, AreNew}
use Rattle.locked_nodes.specs.declared.charter.Item.{Item}
use Rattle.locked_nodes.specs.declared.charter.Item.TheVariants.{Entry}
use Rattle.locked_nodes.specs.Cells.{CellView, next_charter}
use Rattle.locked_nodes.specs.declared.cell_shard.CellShard.{CellShard}
use Rattle.locked_nodes.specs.CellShards.{cell_shard_of, cell_shards_of}
use Rattle.client_endpoints.specs.declared.shared_cells.Cells.{Cells}
use Rattle.client_endpoints.specs.declared.shared_cells.Cells.TheVariants.{Vaults}
use Rattle.client_endpoints.specs.declared.transport.Transport.{Transport}
use Rattle.client_endpoints.specs.declared.transport.Transport.TheVariants.{Locks, Mail}
use Rattle.client_endpoints.specs.Transports.{Route, route, IsByLocks}
use Rattle.client_endpoints.specs.Transports.Route.{ToVaults, ToInboxes}
use Rattle.client_endpoints.specs.Endpoint.{EndpointView, SharedCellsView, IsHead, IsShared, Reaches, Fit}
use Rattle.phase_threads.specs.Standing.{AreCells, IsCellOf, IsDeskAt}
use Rattle.thread_work.specs.Pairwise.{Beside}
use Rattle.phase_threads.specs.Phased.{IsVaultOf, new_portion}
use Rattle.thread_work.proofs.lemmas.Places.{all_from_places, map_get}
use Rattle.lists.proofs.lemmas.Members.{all_at_place, Contains-none}
use Rattle.std.specs.List.{Contains}
use Rattle.phase_threads.specs.Carried.{IsAside}

-- the chits of a new vault are all alike
pub all_new : {E : Type 0} {X : Type 0} (result : Result (Deposit X × List (Chit X)) E) (clients : ℕ) → IfOk result (λ r. length r.1 ≡ clients) → IfOk result (λ r. AreNew r.0.id r.1 clients) → IfOk result (λ r. All (λ c. c ≡ new_chit r.0.id) r.1)
all_new (Ok r) clients count each = λ k d lt. get_or_from_slice_get r.1 k (new_chit r.0.id) d (each k (omega (arith, count)))
all_new (Err e) clients count each = tt

pub portion_more : (vaults : List (Deposit Item)) (v : Deposit Item) → new_portion (vaults ++ v ∷ []) ≡ new_portion vaults ++ new_chit v.id ∷ []
portion_more vaults v = map-append (λ (d : Deposit Item). new_chit d.id) vaults (v ∷ [])

-- the place of a vault tells nothing of its cell
pub vault_at : (count i j : ℕ) (cell : CellView) (v : Deposit Item) → IsVaultOf count i cell v → IsVaultOf count j cell v
vault_at count i j cell v is = record { begun = is.begun; chits = is.chits; ticks = is.ticks }

-- no chit of a new portion took anything
chit_is : (vaults : List (Deposit Item)) (k : ℕ) (c : Chit Item) → slice_get (new_portion vaults) k ≡ Some c → (v : Deposit Item) × (slice_get vaults k ≡ Some v) × (new_chit v.id ≡ c)
chit_is vaults k c at = map_get (λ (v : Deposit Item). new_chit v.id) vaults k c at

pub portion_rests : (vaults : List (Deposit Item)) → All (λ (c : Chit Item). c.holds ≡ None) (new_portion vaults)
portion_rests vaults = all_from_places (λ (c : Chit Item). c.holds ≡ None) (new_portion vaults) (λ k c at. let v = chit_is vaults k c at in ap (λ (x : Chit Item). x.holds) (sym v.2))

pub portion_vaults : (vaults : List (Deposit Item)) → map (λ (c : Chit Item). c.vault) (new_portion vaults) ≡ map (λ (v : Deposit Item). v.id) vaults
portion_vaults [] = refl
portion_vaults (v ∷ vaults) = ap (λ l. v.id ∷ l) (portion_vaults vaults)

pub portion_new : (vaults : List (Deposit Item)) → All (λ (c : Chit Item). c.mine ≡ []) (new_portion vaults)
portion_new vaults = all_from_places (λ (c : Chit Item). c.mine ≡ []) (new_portion vaults) (λ k c at. let v = chit_is vaults k c at in ap (λ (x : Chit Item). x.mine) (sym v.2))

pub hand_aside : (vaults : List (Deposit Item)) → All IsAside (new_portion vaults)
hand_aside vaults = all_from_places IsAside (new_portion vaults) (λ k c at. λ p n has.
    let none = all_at_place (λ (x : Chit Item). x.mine ≡ []) (new_portion vaults) k c (portion_new vaults) at in
    absurd (Contains-none {X = ℕ × Item} (p, Entry n) (subst (λ (l : List (ℕ × Item)). Contains {X = ℕ × Item} l (p, Entry n)) none has)))

-- the shared cells of new vaults
module _ (count : ℕ) (cells : List CellView) (vaults : Vec (Deposit Item)) (opened : Beside (IsVaultOf count) cells vaults.items) where
  head_of : (config : Numbers) (clock : ClockId) (i : ℕ) (cell : CellView) (v : Deposit Item) → IsCellOf config clock cell → IsVaultOf count i cell v → IsHead config clock (cell_shard_of cell.charter) v.id.begun
  head_of config clock i cell v at is = record {
    charter = next_charter cell false;
    rest = map (λ e. Entry e) cell.journal;
    begins = is.begun;
    cluster = at.cluster;
    serves = refl;
    ticks = is.ticks ∙ at.ticks;
  }

  abbrev pub shared_cells_at : ClockId → SharedCellsView
  shared_cells_at clock = record { clock = clock; cell_shards = cell_shards_of cells; cells = Vaults vaults }

  pub shared_cells_of : (config : Numbers) (clock : ClockId) → AreCells config clock cells → IsShared config (shared_cells_at clock)
  shared_cells_of config clock are = record {
    some = all_from_places (λ (s : CellShard). 0 < s.shards) (cell_shards_of cells) (λ k s at.
        let cell = map_get (λ (c : CellView). cell_shard_of c.charter) cells k s at in
        subst (λ (x : CellShard). 0 < x.shards) cell.2 (all_at_place (IsCellOf config clock) cells k cell.0 are.each cell.1).some);
    cover = are.cover;
    each = λ k s v at there.
        let cell = map_get (λ (c : CellView). cell_shard_of c.charter) cells k s at in
        let is = opened.each k cell.0 v cell.1 there in
        subst (λ (x : CellShard). IsHead config clock x v.id.begun) cell.2 (head_of config clock k cell.0 v (all_at_place (IsCellOf config clock) cells k cell.0 are.each cell.1) is);
  }

  -- a new endpoint fits
  pub new_fit : (config : Numbers) (clock : ClockId) (endpoint : EndpointView) (chits : Vec (Chit Item)) → AreCells config clock cells → IsDeskAt config clock endpoint.desk → endpoint.transport ≡ Locks chits → chits.items ≡ new_portion vaults.items → Fit endpoint (shared_cells_at clock)
  new_fit config clock endpoint chits are desk is portion = record {
    shared_cells = subst (λ c. IsShared c (shared_cells_at clock)) (sym desk.cluster) (shared_cells_of config clock are);
    ticks = desk.ticks;
    own = subst (λ (t : Transport). Reaches endpoint.desk.id (route t) (shared_cells_at clock)) (sym is) (record {
      count = length-map cells (λ (c : CellView). cell_shard_of c.charter) ∙ opened.count;
      own = ap (map (λ (c : Chit Item). c.vault)) portion ∙ portion_vaults vaults.items;
    });
  }

-- the vaults to which a route goes
vaults_to : Route → List (VaultId Item)
vaults_to (ToVaults l) = l
vaults_to (ToInboxes b) = []

pub same_vaults : (l m : List (VaultId Item)) → ToVaults l ≡ ToVaults m → l ≡ m
unfolding vaults_to
same_vaults l m is = ap vaults_to is

-- a transport whose route goes to vaults has chits
pub by_locks : (t : Transport) (l : List (VaultId Item)) → route t ≡ ToVaults l → IsByLocks t
by_locks (Locks chits) l is = (chits, refl)
by_locks (Mail m) l is = absurd cc

pub same_vec : (cells : Cells) (a b : Vec (Deposit Item)) → cells ≡ Vaults a → cells ≡ Vaults b → a ≡ b
same_vec cells a b one other = let e : Vaults a ≡ Vaults b = sym one ∙ other in cc
