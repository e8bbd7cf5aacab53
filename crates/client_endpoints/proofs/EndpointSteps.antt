-- A desk and its transport after a call, and where they stand.
use Rattle.std.proofs.Common.{◌≡◌, ℕ, zero, suc, ◌<◌, List, [], ◌∷◌, ◌++◌, length, get_or, Result, Ok, Err, refl, sym, ap, subst, ◌∙◌, arith, inl, inr}
use Rattle.std.specs.declared.option.Option.TheVariants.{None, Some}
use Rattle.std.specs.Prelude.{◌⊎◌, ◌≤◌, IfOk, OnOk, slice_get, map}
use Rattle.std.specs.List.{Contains}
use Rattle.std.proofs.lemmas.List.{length-map}
use Rattle.std.proofs.lemmas.List.Elements.{Contains-push, Contains-append_left, Contains-append_cases}
use Rattle.std.proofs.lemmas.Option.{slice_get_read, slice_get_within}
use Rattle.protocol.specs.Messages.{Message}
use Rattle.inboxes.specs.Sides.{Putting, took}
use Rattle.std.specs.Global.{Vec}
use Rattle.std.specs.Vec.{with_item}
use Rattle.event_clock.specs.Passes.{Sight}
use Rattle.receipt_lock.specs.Chits.{Holder as Chit, Deposit}
use Rattle.journals.specs.declared.desk.Way.{Way}
use Rattle.journals.specs.declared.desk.DeskAct.{DeskAct}
use Rattle.journals.specs.declared.desk.DeskEntry.{DeskEntry}
use Rattle.journals.specs.Steps.{IsOwn}
use Rattle.locked_nodes.specs.declared.answers.CellRefusal.{CellRefusal}
use Rattle.locked_nodes.specs.declared.answers.Told.{Told}
use Rattle.locked_nodes.specs.declared.charter.Item.{Item}
use Rattle.locked_nodes.specs.declared.charter.Item.TheVariants.{Entry}
use Rattle.locked_nodes.specs.CellShards.{IsPlace}
use Rattle.client_desks.specs.Desks.{DeskView, desk_entry, with_own}
use Rattle.client_endpoints.specs.declared.asked.Asked.{Asked}
use Rattle.client_endpoints.specs.declared.asked.NodePlace.{NodePlace}
use Rattle.client_endpoints.specs.declared.answered.Answered.{Answered}
use Rattle.client_endpoints.specs.declared.mail.ByMail.{ByMail}
use Rattle.client_endpoints.specs.declared.transport.Transport.{Transport}
use Rattle.client_endpoints.specs.declared.transport.Transport.TheVariants.{Locks, Mail}
use Rattle.client_endpoints.specs.Asking.{HasTaken}
use Rattle.client_endpoints.specs.Transports.{call_of, IsTold, HasTold, HasAnswer, LeavesSide, route, inboxes_of, AtRest, IsNew}
use Rattle.client_endpoints.specs.Endpoint.{SharedCellsView, vaults_of, Agree, IsEndpoint, AreItsVaults, AreItsInboxes, Reaches, refusal_in, AddBoth}
use Rattle.client_endpoints.proofs.Telling.{chits_told}
use Rattle.client_endpoints.proofs.lemmas.Mailing.{mail_told}
use Rattle.lists.proofs.lemmas.Members.{Contains-none, Contains-one, all_at_place}

-- a desk and its transport that have one call more agree still
module _ (began old new : DeskView) (was now : Transport) (agree : Agree began old was) (add : AddBoth old was new now) where
  told_on : (c : ℕ) (e : DeskEntry) → IsTold was c e ⊎ ((c ≡ old.id) × (e ≡ add.call)) → (c ≡ new.id) × Contains new.entries e
  told_on c e (inl before) =
      let h = agree.told c e before in
      (h.0 ∙ sym add.id, subst (λ l. Contains l e) (sym add.entries) (Contains-append_left old.entries (add.call ∷ []) e h.1))
  told_on c e (inr one) = (one.0 ∙ sym add.id, subst (λ l. Contains l e) (sym add.entries) (subst (Contains (old.entries ++ add.call ∷ [])) (sym one.1) (Contains-push old.entries add.call)))

  asked_of : (e : DeskEntry) → IsOwn e.act ⊎ (Contains began.entries e ⊎ IsTold was old.id e) → IsOwn e.act ⊎ (Contains began.entries e ⊎ IsTold now old.id e)
  asked_of e (inl own) = inl own
  asked_of e (inr (inl first)) = inr (inl first)
  asked_of e (inr (inr told)) = inr (inr (add.told.kept old.id e told))

  asked_on : (e : DeskEntry) → Contains old.entries e ⊎ Contains (add.call ∷ []) e → IsOwn e.act ⊎ (Contains began.entries e ⊎ IsTold now old.id e)
  asked_on e (inl before) = asked_of e (agree.asked e before)
  asked_on e (inr after) = inr (inr (subst (λ (x : DeskEntry). IsTold now old.id x) (sym (Contains-one e add.call after)) add.told.one))

  agree_both : Agree began new now
  agree_both = record {
    told = λ c e h. told_on c e (add.told.only c e h);
    asked = λ e has.
        subst (λ (i : ℕ). IsOwn e.act ⊎ (Contains began.entries e ⊎ IsTold now i e)) (sym add.id)
        (asked_on e (Contains-append_cases old.entries (add.call ∷ []) e (subst (λ l. Contains l e) add.entries has)));
  }

-- a start or a crash
module _ (began old new : DeskView) (t : Transport) (n : ℕ) (a : DeskAct) (agree : Agree began old t) (own : IsOwn a) (is : new ≡ with_own old n a) where
  asked_own : (e : DeskEntry) → Contains old.entries e ⊎ Contains (desk_entry n a ∷ []) e → IsOwn e.act ⊎ (Contains began.entries e ⊎ IsTold t old.id e)
  asked_own e (inl before) = agree.asked e before
  asked_own e (inr after) = inl (subst (λ (x : DeskEntry). IsOwn x.act) (sym (Contains-one e (desk_entry n a) after)) own)

  agree_own : Agree began new t
  agree_own =
      let id : new.id ≡ old.id = ap (λ (d : DeskView). d.id) is in
      let list : new.entries ≡ old.entries ++ desk_entry n a ∷ [] = ap (λ (d : DeskView). d.entries) is in
      record {
        told = λ c e h. let b = agree.told c e h in (b.0 ∙ sym id, subst (λ l. Contains l e) (sym list) (Contains-append_left old.entries (desk_entry n a ∷ []) e b.1));
        asked = λ e has.
            subst (λ (i : ℕ). IsOwn e.act ⊎ (Contains began.entries e ⊎ IsTold t i e)) (sym id) (asked_own e (Contains-append_cases old.entries (desk_entry n a ∷ []) e (subst (λ l. Contains l e) list has)));
      }

-- a transport through which nothing was told
none_told : (t : Transport) → IsNew t → (c : ℕ) (e : DeskEntry) → IsTold t c e → ⊥
none_told (Locks chits) new c e h =
    let mine = all_at_place (λ (x : Chit Item). x.mine ≡ []) chits.items h.place h.chit new h.there in
    absurd (Contains-none {X = ℕ × Item} (h.at, Entry h.of) (subst (λ (l : List (ℕ × Item)). Contains l (h.at, Entry h.of)) mine h.mine))
none_told (Mail m) new c e h = absurd (Contains-none {X = ℕ × Answered} (h.from, h.answer) (subst (λ (l : List (ℕ × Answered)). Contains l (h.from, h.answer)) new h.there))

pub agree_new : (desk : DeskView) (t : Transport) → IsNew t → Agree desk desk t
agree_new desk t new = record { told = λ c e h. absurd (none_told t new c e h); asked = λ e has. inr (inl has) }

-- ---- what an endpoint keeps

pub endpoint_new : (desk : DeskView) (t : Transport) → AtRest t → IsNew t → IsEndpoint desk desk t None
endpoint_new desk t rest new = record { rest = rest; agree = λ sound. agree_new desk t new }

pub endpoint_both : {A : Type 0} (answer : Result A CellRefusal) (began old new : DeskView) (was now : Transport) → IsEndpoint began old was None → OnOk answer (AddBoth old was new now) → AtRest now → IsEndpoint began new now (refusal_in answer)
endpoint_both (Ok x) began old new was now endpoint add rest = record { rest = rest; agree = λ sound. agree_both began old new was now (endpoint.agree refl) add }
endpoint_both (Err e) began old new was now endpoint add rest = record { rest = rest; agree = λ sound. absurd cc }

pub endpoint_own : {A : Type 0} (answer : Result A CellRefusal) (a : DeskAct) (began old new : DeskView) (t : Transport) → IsEndpoint began old t None → IsOwn a → OnOk answer ((n : ℕ) × (old.pass.seen ≤ n) × (new ≡ with_own old n a)) → IsEndpoint began new t (refusal_in answer)
endpoint_own (Ok x) a began old new t endpoint own add = record { rest = endpoint.rest; agree = λ sound. agree_own began old new t add.0 a (endpoint.agree refl) own add.2 }
endpoint_own (Err e) a began old new t endpoint own add = record { rest = endpoint.rest; agree = λ sound. absurd cc }

pub endpoint_ended : (began desk : DeskView) (t : Transport) (was now : ByMail) (refused : _) → IsEndpoint began desk t refused → t ≡ Mail was → took now.answers ≡ took was.answers → IsEndpoint began desk (Mail now) refused
endpoint_ended began desk t was now refused endpoint is same = record {
  rest = tt;
  agree = λ sound.
      let agree : Agree began desk (Mail was) = subst (Agree began desk) is (endpoint.agree sound) in
      record {
        told = λ c e h. agree.told c e (subst (λ (l : List (ℕ × Answered)). HasAnswer l c e) same h);
        asked = λ e has. subst (λ (l : List (ℕ × Answered)). IsOwn e.act ⊎ (Contains began.entries e ⊎ HasAnswer l desk.id e)) (sym same) (agree.asked e has);
      };
}

-- ---- the chit of a cell is one for its vault

same_length : {A B C : Type 0} (f : A → C) (g : B → C) (xs : List A) (ys : List B) → map f xs ≡ map g ys → length xs ≡ length ys
same_length f g xs ys same = sym (length-map xs f) ∙ ap length same ∙ length-map ys g

-- what stands at one place in two lists is alike in what is alike in the lists
same_at : {A B C : Type 0} (f : A → C) (g : B → C) (xs : List A) (ys : List B) (i : ℕ) (x : A) (y : B) → map f xs ≡ map g ys → slice_get xs i ≡ Some x → slice_get ys i ≡ Some y → f x ≡ g y
same_at f g [] ys i x y same at there = absurd cc
same_at f g (a ∷ xs) [] i x y same at there = absurd cc
same_at f g (a ∷ xs) (b ∷ ys) zero x y same at there =
    let l : x ≡ a = cc in
    let r : y ≡ b = cc in
    let e : f a ≡ g b = cc in
    ap f l ∙ e ∙ ap g (sym r)
same_at f g (a ∷ xs) (b ∷ ys) (suc i) x y same at there = same_at f g xs ys i x y (let e : map f xs ≡ map g ys = cc in e) at there

module _ (chits : List (Chit Item)) (shared_cells : SharedCellsView) (own : AreItsVaults (map (λ c. c.vault) chits) shared_cells) where
  pub chit_in : (place : ℕ) → place < length (vaults_of shared_cells) → place < length chits
  chit_in place within =
      let same = same_length (λ (c : Chit Item). c.vault) (λ (v : Deposit Item). v.id) chits (vaults_of shared_cells) own.own in omega (arith, within, same)

  pub chit_at : (i : ℕ) (c : Chit Item) (v : Deposit Item) → slice_get (vaults_of shared_cells) i ≡ Some v → c ≡ get_or chits i c → slice_get chits i ≡ Some c
  chit_at i c v there at = slice_get_read chits (length chits) i c refl (chit_in i (slice_get_within (vaults_of shared_cells) i v there)) at

  pub own_at : (i : ℕ) (c : Chit Item) (v : Deposit Item) → slice_get chits i ≡ Some c → slice_get (vaults_of shared_cells) i ≡ Some v → c.vault ≡ v.id
  own_at i c v at there = same_at (λ (x : Chit Item). x.vault) (λ (x : Deposit Item). x.id) chits (vaults_of shared_cells) i c v own.own at there

-- ---- a transport of either kind

pub its_vaults : (id : ℕ) (t : Transport) (old : Vec (Chit Item)) (shared_cells : SharedCellsView) → t ≡ Locks old → Reaches id (route t) shared_cells → AreItsVaults (map (λ (c : Chit Item). c.vault) old.items) shared_cells
its_vaults id t old shared_cells is reach = subst (λ (x : Transport). Reaches id (route x) shared_cells) is reach

pub its_inboxes : (id : ℕ) (t : Transport) (mail : ByMail) (shared_cells : SharedCellsView) → t ≡ Mail mail → Reaches id (route t) shared_cells → AreItsInboxes id (inboxes_of mail) shared_cells
its_inboxes id t mail shared_cells is reach = subst (λ (x : Transport). Reaches id (route x) shared_cells) is reach

pub rests_at : (t : Transport) (old : Vec (Chit Item)) (place : ℕ) (chit : Chit Item) → t ≡ Locks old → AtRest t → slice_get old.items place ≡ Some chit → chit.holds ≡ None
rests_at t old place chit is rest at = all_at_place (λ (c : Chit Item). c.holds ≡ None) old.items place chit (subst AtRest is rest) at

pub ask_within : (id : ℕ) (mail : ByMail) (shared_cells : SharedCellsView) → AreItsInboxes id (inboxes_of mail) shared_cells → (place node block : ℕ) → IsPlace shared_cells.cell_shards place node block → place < length mail.asks.items
ask_within id mail shared_cells by place node block p =
    let within = slice_get_within shared_cells.cell_shards place p.cell_shard p.there in
    let count = by.count in
    let same = length-map mail.asks.items (λ (x : Putting Asked NodePlace). x.inbox) in
    omega (arith, within, count, same)

pub locks_told : (r : Result (Told × Sight) CellRefusal) (t : Transport) (old : Vec (Chit Item)) (place : ℕ) (was now : Chit Item) (way : Way) (ask : Message) → t ≡ Locks old → slice_get old.items place ≡ Some was
    → IfOk r (λ x. LeavesSide was ask.client (call_of way ask x.0) now) → IfOk r (λ x. HasTold t ask.client (call_of way ask x.0) (Locks (with_item old place now)))
locks_told (Ok x) t old place was now way ask is at left =
    subst (λ (y : Transport). HasTold y ask.client (call_of way ask x.0) (Locks (with_item old place now))) (sym is) (chits_told old place was now at ask.client (call_of way ask x.0) left)
locks_told (Err e) t old place was now way ask is at left = tt

pub mail_told_by : (r : Result (Told × Sight) CellRefusal) (t : Transport) (was now : ByMail) (way : Way) (ask : Message) → t ≡ Mail was → IfOk r (λ x. HasTaken was way ask x.0 now) → IfOk r (λ x. HasTold t ask.client (call_of way ask x.0) (Mail now))
mail_told_by (Ok x) t was now way ask is taken = subst (λ (y : Transport). HasTold y ask.client (call_of way ask x.0) (Mail now)) (sym is) (mail_told was now way ask x.0 taken)
mail_told_by (Err e) t was now way ask is taken = tt
