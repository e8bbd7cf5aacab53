-- What chits tell after a turn of one of them.
use Rattle.std.proofs.Common.{◌≡◌, ◌≢◌, ℕ, List, [], ◌∷◌, ◌++◌, Option, refl, sym, ap, subst, ◌∙◌, inl, inr}
use Rattle.std.specs.declared.option.Option.TheVariants.{None, Some}
use Rattle.std.specs.Prelude.{◌⊎◌, All, slice_get, slice_set, map}
use Rattle.std.specs.List.{Contains}
use Rattle.std.specs.Global.{Vec}
use Rattle.std.specs.Vec.{with_item}
use Rattle.std.proofs.lemmas.List.Elements.{All-set, Contains-push, Contains-append_left, Contains-append_cases}
use Rattle.std.proofs.lemmas.Option.{get_or_from_slice_get}
use Rattle.std.proofs.Math.Seq.{map-set_same}
use Rattle.receipt_lock.specs.Chits.{Holder as Chit}
use Rattle.journals.specs.declared.desk.DeskAct.{DeskAct}
use Rattle.journals.specs.declared.desk.DeskEntry.{DeskEntry}
use Rattle.journals.specs.declared.node.NodeAct.{NodeAct}
use Rattle.journals.specs.declared.node.NodeEntry.{NodeEntry}
use Rattle.journals.specs.Steps.{side}
use Rattle.locked_nodes.specs.declared.charter.Item.{Item}
use Rattle.locked_nodes.specs.declared.charter.Item.TheVariants.{Entry}
use Rattle.locked_nodes.specs.Cells.{entry}
use Rattle.client_endpoints.specs.declared.transport.Transport.TheVariants.{Locks}
use Rattle.client_endpoints.specs.Transports.{HasReceipt, HasTold, LeavesSide, route}
use Rattle.client_endpoints.specs.Transports.Route.{ToVaults}
use Rattle.thread_work.proofs.lemmas.Places.{slice_get-set_cases}
use Rattle.client_endpoints.proofs.Lists.{still_there}
use Rattle.lists.proofs.lemmas.Members.{Contains-one, slice_get-set}

-- one of these receipts is of an entry of which this is client c's side
record IsAmong (more : List (ℕ × Item)) (c : ℕ) (e : DeskEntry) : Type 0 where
  at : ℕ
  of : NodeEntry
  there : Contains more (at, Entry of)
  number : of.number ≡ e.number
  agree : side of.act ≡ Some (c, e.act)

module _ (chits : List (Chit Item)) (k : ℕ) (was now : Chit Item) (more : List (ℕ × Item)) (here : slice_get chits k ≡ Some was) (mine : now.mine ≡ was.mine ++ more) where
  stays_at : (c : ℕ) (e : DeskEntry) (h : HasReceipt chits c e) → ((h.chit ≡ was) × (slice_get (slice_set chits k now) h.place ≡ Some now)) ⊎ (slice_get (slice_set chits k now) h.place ≡ Some h.chit) → HasReceipt (slice_set chits k now) c e
  stays_at c e h (inl s) = record {
    place = h.place;
    chit = now;
    there = s.1;
    at = h.at;
    of = h.of;
    mine = subst (λ (l : List (ℕ × Item)). Contains l (h.at, Entry h.of)) (sym mine) (Contains-append_left was.mine more (h.at, Entry h.of) (subst (λ (x : Chit Item). Contains x.mine (h.at, Entry h.of)) s.0 h.mine));
    number = h.number;
    agree = h.agree;
  }
  stays_at c e h (inr s) = record { place = h.place; chit = h.chit; there = s; at = h.at; of = h.of; mine = h.mine; number = h.number; agree = h.agree }

  -- what was told is told still
  stays : (c : ℕ) (e : DeskEntry) → HasReceipt chits c e → HasReceipt (slice_set chits k now) c e
  stays c e h = stays_at c e h (still_there chits k h.place was now h.chit here h.there)

  cases_in : (c : ℕ) (e : DeskEntry) (h : HasReceipt (slice_set chits k now) c e) → Contains was.mine (h.at, Entry h.of) ⊎ Contains more (h.at, Entry h.of) → HasReceipt chits c e ⊎ IsAmong more c e
  cases_in c e h (inl before) = inl (record { place = k; chit = was; there = here; at = h.at; of = h.of; mine = before; number = h.number; agree = h.agree })
  cases_in c e h (inr after) = inr (record { at = h.at; of = h.of; there = after; number = h.number; agree = h.agree })

  cases_at : (c : ℕ) (e : DeskEntry) (h : HasReceipt (slice_set chits k now) c e) → ((h.place ≡ k) × (h.chit ≡ now)) ⊎ ((h.place ≢ k) × (slice_get chits h.place ≡ Some h.chit)) → HasReceipt chits c e ⊎ IsAmong more c e
  cases_at c e h (inl s) =
      cases_in c e h (Contains-append_cases was.mine more (h.at, Entry h.of) (subst (λ (l : List (ℕ × Item)). Contains l (h.at, Entry h.of)) (ap (λ (x : Chit Item). x.mine) s.1 ∙ mine) h.mine))
  cases_at c e h (inr s) = inl (record { place = h.place; chit = h.chit; there = s.1; at = h.at; of = h.of; mine = h.mine; number = h.number; agree = h.agree })

  -- and what is told was, or is of a receipt more
  cases : (c : ℕ) (e : DeskEntry) → HasReceipt (slice_set chits k now) c e → HasReceipt chits c e ⊎ IsAmong more c e
  cases c e h = cases_at c e h (slice_get-set_cases chits k h.place h.chit now h.there)

same_entry : (x y : ℕ × Item) (n m : NodeEntry) → x ≡ y → x.1 ≡ Entry n → y.1 ≡ Entry m → n ≡ m
same_entry x y n m is a b = let e : Entry n ≡ Entry m = sym a ∙ ap (λ (z : ℕ × Item). z.1) is ∙ b in cc

one_entry : (place p : ℕ) (n m : NodeEntry) → Contains {X = ℕ × Item} ((place, Entry m) ∷ []) (p, Entry n) → n ≡ m
one_entry place p n m has = same_entry (p, Entry n) (place, Entry m) n m (Contains-one {X = ℕ × Item} (p, Entry n) (place, Entry m) has) refl refl

pair_or : ℕ × DeskAct → Option (ℕ × DeskAct) → ℕ × DeskAct
pair_or p None = p
pair_or p (Some q) = q

same_pair : (id c : ℕ) (a act : DeskAct) (o : Option (ℕ × DeskAct)) → o ≡ Some (id, a) → o ≡ Some (c, act) → (c ≡ id) × (act ≡ a)
unfolding pair_or
same_pair id c a act o one other =
    let e = ap (pair_or (id, a)) (sym other ∙ one) in
    (ap (λ (p : ℕ × DeskAct). p.0) e, ap (λ (p : ℕ × DeskAct). p.1) e)

-- a receipt of one entry tells one call
among_one : (place n c id : ℕ) (act : NodeAct) (e call : DeskEntry) → n ≡ call.number → side act ≡ Some (id, call.act) → IsAmong ((place, Entry (entry n act)) ∷ []) c e → (c ≡ id) × (e ≡ call)
among_one place n c id act e call number agree h =
    let same : h.of ≡ entry n act = one_entry place h.at h.of (entry n act) h.there in
    let pair = same_pair id c call.act e.act (side act) agree (ap (λ (m : NodeEntry). side m.act) (sym same) ∙ h.agree) in
    let num : e.number ≡ call.number = sym h.number ∙ ap (λ (m : NodeEntry). m.number) same ∙ number in
    (pair.0, λ i. record { number = num i; act = pair.1 i })

module _ (old : Vec (Chit Item)) (k : ℕ) (was now : Chit Item) (here : slice_get old.items k ≡ Some was) where
  pub chits_told : (c : ℕ) (e : DeskEntry) → LeavesSide was c e now → HasTold (Locks old) c e (Locks (with_item old k now))
  chits_told c e left = record {
    kept = stays old.items k was now ((left.left.place, Entry (entry e.number left.act)) ∷ []) here left.left.mine;
    one = record {
      place = k;
      chit = now;
      there = slice_get-set old.items k was now here;
      at = left.left.place;
      of = entry e.number left.act;
      mine = subst (λ (l : List (ℕ × Item)). Contains l (left.left.place, Entry (entry e.number left.act))) (sym left.left.mine) (Contains-push was.mine (left.left.place, Entry (entry e.number left.act)));
      number = refl;
      agree = left.agree;
    };
    only = λ d f h. elim (cases old.items k was now ((left.left.place, Entry (entry e.number left.act)) ∷ []) here left.left.mine d f h) [
      | inl before ↦ inl before
      | inr after ↦ inr (among_one left.left.place e.number d c left.act f e refl left.agree after)
    ];
  }

  pub chits_route : now.vault ≡ was.vault → route (Locks (with_item old k now)) ≡ route (Locks old)
  chits_route own = ap (λ l. ToVaults l) (map-set_same (λ (c : Chit Item). c.vault) old.items k now was (own ∙ ap (λ (c : Chit Item). c.vault) (sym (get_or_from_slice_get old.items k was was here))))

  pub chits_rest : All (λ (c : Chit Item). c.holds ≡ None) old.items → now.holds ≡ None → All (λ (c : Chit Item). c.holds ≡ None) (slice_set old.items k now)
  chits_rest rest holds = All-set (λ (c : Chit Item). c.holds ≡ None) old.items k now holds rest
