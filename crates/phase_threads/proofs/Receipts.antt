-- From the receipts of closed cells to what was told.
use Rattle.std.proofs.Common.{◌≡◌, ℕ, zero, suc, ◌≤◌, List, [], ◌∷◌, ◌++◌, length, map, refl, sym, ap, subst, ◌∙◌, arith, inl, inr}
use Rattle.std.specs.declared.option.Option.TheVariants.{Some}
use Rattle.std.specs.Prelude.{◌⊎◌, false, slice_get, reverse, All}
use Rattle.std.specs.List.{Contains}
use Rattle.std.proofs.lemmas.Option.{slice_get_within}
use Rattle.std.specs.Global.{Vec}
use Rattle.receipt_lock.specs.Tickets.{Begins}
use Rattle.receipt_lock.specs.Chits.{Holder as Chit, Deposit}
use Rattle.receipt_lock.specs.Receipts.{IsReceipt}
use Rattle.journals.specs.declared.node.NodeEntry.{NodeEntry}
use Rattle.journals.specs.declared.desk.DeskAct.{DeskAct}
use Rattle.journals.specs.declared.desk.DeskEntry.{DeskEntry}
use Rattle.journals.specs.Steps.{side}
use Rattle.locked_nodes.specs.declared.charter.Item.{Item}
use Rattle.locked_nodes.specs.declared.charter.Item.TheVariants.{Head, Entry}
use Rattle.locked_nodes.specs.Cells.{CellView, items, rechartered, next_charter}
use Rattle.client_desks.specs.Desks.{desk_entry}
use Rattle.client_endpoints.specs.declared.transport.Transport.{Transport}
use Rattle.client_endpoints.specs.declared.transport.Transport.TheVariants.{Locks}
use Rattle.client_endpoints.specs.Transports.{IsTold, HasReceipt}
use Rattle.phase_threads.specs.Standing.{HasSideIn, HasWorked}
use Rattle.phase_threads.specs.Told.{IsToldIn, AreJustTold}
use Rattle.thread_work.specs.Pairwise.{Beside}
use Rattle.phase_threads.specs.Carried.{IsAside}
use Rattle.phase_threads.specs.Phased.{IsVaultOf, IsClosed}
use Rattle.thread_work.proofs.lemmas.Places.{slice_get-unique, get_map, map_get, beside_right, beside_left}
use Rattle.lists.proofs.lemmas.Members.{place_of, Contains-slice_get, all_at_place}

-- a cell's entries are those of its list, but for the head
in_items : (cell : CellView) (p : ℕ) (n : NodeEntry) → slice_get (items cell) p ≡ Some (Entry n) → Contains cell.journal n
in_items cell zero n at = absurd cc
in_items cell (suc p) n at =
    let found = map_get (λ (e : NodeEntry). Entry e) cell.journal p (Entry n) at in
    let same : found.0 ≡ n = let e = found.2 in cc in
    Contains-slice_get cell.journal p n (found.1 ∙ ap (λ x. Some x) same)

at_items : (cell : CellView) (n : NodeEntry) → Contains cell.journal n → (p : ℕ) × (slice_get (items cell) p ≡ Some (Entry n))
at_items cell n has =
    let place = place_of cell.journal n has in
    (suc place.0, get_map (λ (e : NodeEntry). Entry e) cell.journal place.0 n place.1)

in_begun : (cell : CellView) (n : NodeEntry) (begun : List Item) → begun ≡ items (rechartered cell false) → Contains begun (Entry n) → Contains cell.journal n
in_begun cell n begun is has =
    let place = place_of begun (Entry n) has in
    in_items (rechartered cell false) place.0 n (sym (ap (λ l. slice_get l place.0) is) ∙ place.1)

-- a cell's entry was one at first, or stands at a later place
cut_up : {A : Type 0} (y : A) (first : List A) (p : ℕ) (x : A) → Contains first x ⊎ (length first ≤ p) → Contains (y ∷ first) x ⊎ (length (y ∷ first) ≤ suc p)
cut_up y first p x (inl (k, lt, is)) = inl (suc k, omega (arith, lt), is)
cut_up y first p x (inr le) = inr (omega (arith, le))

cut_at : {A : Type 0} (first more : List A) (p : ℕ) (x : A) → slice_get (first ++ more) p ≡ Some x → Contains first x ⊎ (length first ≤ p)
cut_at [] more p x at = inr (omega arith)
cut_at (y ∷ first) more zero x at = let e : y ≡ x = cc in inl (0, omega arith, e)
cut_at (y ∷ first) more (suc p) x at = cut_up y first p x (cut_at first more p x at)

cut : {A : Type 0} (first all : List A) (p : ℕ) (x : A) → Begins first all → slice_get all p ≡ Some x → Contains first x ⊎ (length first ≤ p)
cut first all p x begins at = cut_at first begins.0 p x (sym (ap (λ l. slice_get l p) begins.1) ∙ at)

-- what a phase did to a cell
tail_of : {A : Type 0} (a b : A) (xs ys : List A) → a ∷ xs ≡ b ∷ ys → (a ≡ b) × (xs ≡ ys)
tail_of a b xs ys is = (let e : a ≡ b = cc in e, let e : xs ≡ ys = cc in e)

grew_by : (old new : List NodeEntry) (more : List Item) → map (λ e. Entry e) new ≡ map (λ e. Entry e) old ++ more → Begins old new
grew_by [] new more is = (new, refl)
grew_by (o ∷ old) [] more is = absurd cc
grew_by (o ∷ old) (n ∷ new) more is =
    let both = tail_of (Entry n) (Entry o) (map (λ e. Entry e) new) (map (λ e. Entry e) old ++ more) is in
    let e : n ≡ o = let x = both.0 in cc in
    let rest = grew_by old new more both.1 in
    (rest.0, λ i. e i ∷ rest.1 i)

pub has_worked : (old new : CellView) (begun : List Item) → begun ≡ items (rechartered old false) → Begins begun (items new) → HasWorked old new
has_worked old new begun is begins =
    let whole : Head new.charter ∷ map (λ e. Entry e) new.journal ≡ Head (next_charter old false) ∷ (map (λ e. Entry e) old.journal ++ begins.0) = begins.1 ∙ ap (λ l. l ++ begins.0) is in
    let both = tail_of (Head new.charter) (Head (next_charter old false)) (map (λ e. Entry e) new.journal) (map (λ e. Entry e) old.journal ++ begins.0) whole in
    let charter : new.charter ≡ next_charter old false = let x = both.0 in cc in
    record { charter = charter; grew = grew_by old.journal new.journal begins.0 both.1 }

-- the chits of a transport, the last one first
pub record IsPortion (t : Transport) (portion : List (Chit Item)) : Type 0 where
  pub chits : Vec (Chit Item)
  pub is : t ≡ Locks chits
  pub list : chits.items ≡ reverse portion

-- a portion is that of one of the transports, or has left nothing of which a client has a side
pub record IsOfSeat (transports : List Transport) (portion : List (Chit Item)) : Type 0 where
  pub seat : ℕ
  pub transport : Transport
  pub there : slice_get transports seat ≡ Some transport
  pub is : IsPortion transport portion

abbrev pub IsGiven : List Transport → List (Chit Item) → Type 0
IsGiven transports portion = IsOfSeat transports portion ⊎ All IsAside (reverse portion)

-- the portion of a transport
pub record HasHand (portions : List (List (Chit Item))) (t : Transport) : Type 0 where
  pub place : ℕ
  pub portion : List (Chit Item)
  pub there : slice_get portions place ≡ Some portion
  pub is : IsPortion t portion

vault_at : (chits : List (Chit Item)) (vaults : List (Deposit Item)) (i : ℕ) (c : Chit Item) → map (λ (x : Chit Item). x.vault) chits ≡ map (λ (x : Deposit Item). x.id) vaults → slice_get chits i ≡ Some c → (v : Deposit Item) × (slice_get vaults i ≡ Some v)
vault_at chits vaults i c own at =
    let a : slice_get (map (λ (x : Deposit Item). x.id) vaults) i ≡ Some c.vault = sym (ap (λ l. slice_get l i) own) ∙ get_map (λ (x : Chit Item). x.vault) chits i c at in
    let found = map_get (λ (x : Deposit Item). x.id) vaults i c.vault a in
    (found.0, found.1)

-- all that a phase leaves
pub record Phase (count : ℕ) (cells now : List CellView) (vaults : List (Deposit Item)) (portions : List (List (Chit Item))) (transports : List Transport) : Type 0 where
  pub opened : Beside (IsVaultOf count) cells vaults
  pub closed : Beside (IsClosed portions) vaults now
  pub own : (i : ℕ) (h : List (Chit Item)) → slice_get portions i ≡ Some h → map (λ c. c.vault) (reverse h) ≡ map (λ v. v.id) vaults
  pub given : (i : ℕ) (h : List (Chit Item)) → slice_get portions i ≡ Some h → IsGiven transports h
  pub back : (i : ℕ) (t : Transport) → slice_get transports i ≡ Some t → HasHand portions t

module _ (count : ℕ) (cells now : List CellView) (vaults : List (Deposit Item)) (portions : List (List (Chit Item))) (transports : List Transport) (all : Phase count cells now vaults portions transports) where
  receipt_of : (k p c : ℕ) (n : NodeEntry) (act : DeskAct) (t : Transport) (h : List (Chit Item)) (chit : Chit Item) → IsPortion t h → slice_get (reverse h) k ≡ Some chit → Contains chit.mine (p, Entry n) → side n.act ≡ Some (c, act) → IsTold t c (desk_entry n.number act)
  receipt_of k p c n act t h chit portion at mine is =
      subst (λ (x : Transport). IsTold x c (desk_entry n.number act)) (sym portion.is)
      (record { place = k; chit = chit; there = ap (λ (l : List (Chit Item)). slice_get l k) portion.list ∙ at; at = p; of = n; mine = mine; number = refl; agree = is })

  -- an entry of which a client has a side was left by a chit of one of the transports
  by_hand : (k p c : ℕ) (n : NodeEntry) (act : DeskAct) (h : List (Chit Item)) (chit : Chit Item) → IsGiven transports h → slice_get (reverse h) k ≡ Some chit → Contains chit.mine (p, Entry n) → side n.act ≡ Some (c, act) → IsToldIn transports c (desk_entry n.number act)
  by_hand k p c n act h chit (inl g) at mine is = record { seat = g.seat; transport = g.transport; there = g.there; told = receipt_of k p c n act g.transport h chit g.is at mine is }
  by_hand k p c n act h chit (inr g) at mine is = absurd (let none = all_at_place IsAside (reverse h) k chit g at p n mine in let e = sym none ∙ is in cc)

  -- an entry that a chit left was told through the chit's transport
  on_chit : (cell : CellView) (k : ℕ) (v : Deposit Item) (n : NodeEntry) (p c : ℕ) (act : DeskAct) (closed : IsClosed portions k v cell) → slice_get (items cell) p ≡ Some (Entry n) → length v.id.begun ≤ p → side n.act ≡ Some (c, act) → IsToldIn transports c (desk_entry n.number act)
  on_chit cell k v n p c act closed at after is =
      let receipt = closed.one p after (slice_get_within (items cell) p (Entry n) at) in
      let same : receipt.entry ≡ Entry n = slice_get-unique (items cell) p receipt.entry (Entry n) receipt.stands at in
      let chit = receipt.there.0 in
      let portion = beside_left (λ i h x. slice_get (reverse h) k ≡ Some x) portions closed.chits receipt.chit chit closed.of receipt.there.1 in
      let left : Contains chit.mine (p, Entry n) = subst (λ x. Contains chit.mine (p, x)) same (Contains-slice_get chit.mine receipt.receipt (p, receipt.entry) receipt.there.2) in
      by_hand k p c n act portion.0 chit (all.given receipt.chit portion.0 portion.1) portion.2 left is

  told_at : (cell old : CellView) (k : ℕ) (v : Deposit Item) (n : NodeEntry) (p c : ℕ) (act : DeskAct) → IsClosed portions k v cell → v.id.begun ≡ items (rechartered old false) → slice_get (items cell) p ≡ Some (Entry n)
      → side n.act ≡ Some (c, act) → Contains v.id.begun (Entry n) ⊎ (length v.id.begun ≤ p) → Contains old.journal n ⊎ IsToldIn transports c (desk_entry n.number act)
  told_at cell old k v n p c act closed begun at is (inl before) = inl (in_begun old n v.id.begun begun before)
  told_at cell old k v n p c act closed begun at is (inr after) = inr (on_chit cell k v n p c act closed at after is)

  told : (k : ℕ) (was cell : CellView) (n : NodeEntry) (c : ℕ) (act : DeskAct) → slice_get cells k ≡ Some was → slice_get now k ≡ Some cell → Contains cell.journal n → side n.act ≡ Some (c, act) → Contains was.journal n ⊎ IsToldIn transports c (desk_entry n.number act)
  told k was cell n c act there to has is =
      let v = beside_right (IsVaultOf count) cells vaults k was all.opened there in
      let closed = all.closed.each k v.0 cell v.1 to in
      let at = at_items cell n has in
      told_at cell was k v.0 n at.0 c act closed v.2.begun at.1 is (cut v.0.id.begun (items cell) at.0 (Entry n) closed.settled.begins at.1)

  -- an entry that a chit left stands in the cell
  left_in : (cell : CellView) (k i p : ℕ) (v : Deposit Item) (portion : List (Chit Item)) (chit : Chit Item) (n : NodeEntry) → IsClosed portions k v cell → slice_get portions i ≡ Some portion → slice_get (reverse portion) k ≡ Some chit → Contains chit.mine (p, Entry n) → Contains cell.journal n
  left_in cell k i p v portion chit n closed at there left =
      let place = place_of chit.mine (p, Entry n) left in
      let of = beside_right (λ j h x. slice_get (reverse h) k ≡ Some x) portions closed.chits i portion closed.of at in
      let same : of.0 ≡ chit = slice_get-unique (reverse portion) k of.0 chit of.2 there in
      let receipt : IsReceipt closed.chits i place.0 p (Entry n) = (chit, of.1 ∙ ap (λ x. Some x) same, place.1) in
      in_items cell p n (closed.stands i place.0 p (Entry n) receipt).1

  side_in : (i c : ℕ) (portion : List (Chit Item)) (e : DeskEntry) → slice_get portions i ≡ Some portion → HasReceipt (reverse portion) c e → HasSideIn now c e
  side_in i c portion e at s =
      let own = all.own i portion at in
      let v = vault_at (reverse portion) vaults s.place s.chit own s.there in
      let cell = beside_right (IsClosed portions) vaults now s.place v.0 all.closed v.1 in
      record {
        cell = cell.0;
        there = Contains-slice_get now s.place cell.0 cell.1;
        of = s.of;
        stands = left_in cell.0 s.place i s.at v.0 portion s.chit s.of cell.2 at s.there s.mine;
        number = s.number;
        agree = s.agree;
      }

  stands : (i : ℕ) (t : Transport) (c : ℕ) (e : DeskEntry) → slice_get transports i ≡ Some t → IsTold t c e → HasSideIn now c e
  stands i t c e at h =
      let back = all.back i t at in
      side_in back.place c back.portion e back.there (subst (λ (l : List (Chit Item)). HasReceipt l c e) back.is.list (subst (λ (x : Transport). IsTold x c e) back.is.is h))

  -- what cells have more, of which a client has a side, is just what was told
  pub just_told : AreJustTold cells now transports
  just_told = record { told = told; stands = stands }
