-- What slots that are kept say of the deeds that they stand for.
use Rattle.std.proofs.Common.{◌≡◌, ◌⊎◌, inl, inr, ℕ, zero, suc, ◌+◌, ◌≤◌, Bool, true, false, cond, ltb, List, [], ◌∷◌, ◌++◌, length, take, Option, Some, None, filter, refl, sym, ◌∙◌, ap, subst, arith}
use Rattle.std.specs.Prelude.{Result, Ok, Err, OnOk}
use Rattle.std.proofs.lemmas.List.{append-nil}
use Rattle.std.proofs.lemmas.Bool.{cases_lt, lt-ltb}
use Rattle.quorum_rules.specs.Limits.{Numbers}
use Rattle.stamp_order.specs.declared.Stamp.{Stamp}
use Rattle.protocol.specs.Messages.{Version}
use Rattle.protocol.specs.Nodes.{outlives, pruned}
use Rattle.protocol.specs.Instance.{setting}
use Rattle.node_core.specs.Seen.{SeenNode, versions_in, with_versions, accepts_of}
use Rattle.node_core.proofs.lemmas.Blocks.{node_same}
use Rattle.disk_model.specs.Crash.{Pending, MayLeave, LeavesOnly}
use Rattle.slot_disk.specs.Slots.{Slot, version_slot, prune_slot}
use Rattle.version_disk.specs.Batches.{AreWritten, IsFrom}
use Rattle.version_disk.specs.Held.{after_slot, played, held, slots_of, first_bad}
use Rattle.version_disk.specs.Kept.{IsKept, AreGoodIn, HoldsFirstOf}
use Rattle.version_disk.specs.Deeds.{Deed, Answers, Prunes, after_deed, drops, slots_among, after_deeds, slots_by_deeds, AreDone, AreDoneInPart}
use Rattle.version_disk.proofs.Accepting.{version_after, version_slots}
use Rattle.version_disk.proofs.lemmas.Answering.{nothing_added, no_slots}
use Rattle.slot_disk.proofs.lemmas.Moments.{leaves_only_weaker}
use Rattle.version_disk.proofs.Opening.{unread}

-- a filter that drops none
filter_le : {A : Type 0} (p : A → Bool) (xs : List A) → length (filter p xs) ≤ length xs
filter_le {A} p [] = omega arith
filter_le {A} p (x ∷ xs) = at (p x) (filter_le p xs)
  where
    at : (b : Bool) → length (filter p xs) ≤ length xs → length (cond b (x ∷ filter p xs) (filter p xs)) ≤ suc (length xs)
    at true le = omega arith
    at false le = omega arith

filter_all : {A : Type 0} (p : A → Bool) (xs : List A) → length xs ≤ length (filter p xs) → filter p xs ≡ xs
filter_all {A} p [] none = refl
filter_all {A} p (x ∷ xs) none = at (p x) (filter_all p xs) none
  where
    at : (b : Bool) → (length xs ≤ length (filter p xs) → filter p xs ≡ xs) → suc (length xs) ≤ length (cond b (x ∷ filter p xs) (filter p xs)) → cond b (x ∷ filter p xs) (filter p xs) ≡ x ∷ xs
    at true rest le = ap (λ l. x ∷ l) (rest (omega arith))
    at false rest le = absurd (let less = filter_le p xs in omega arith)

not_below : (m n : ℕ) → ltb m n ≡ false → n ≤ m
not_below m n e = elim (cases_lt m n) [
  | inl below ↦ absurd (let t = lt-ltb m n below in cc)
  | inr past ↦ past
]

-- a prune that drops no version changes nothing
nothing_dropped : (node : SeenNode) (block : ℕ) (stamp : Stamp) → drops node block stamp ≡ false → node ≡ after_deed node (Prunes block stamp)
nothing_dropped node block stamp none =
    let vs = versions_in node block in
    node_same node block
    ∙ ap (with_versions node block) (sym (filter_all (outlives (setting node.config) stamp vs) vs (not_below (length (pruned (setting node.config) stamp vs)) (length vs) none)))

-- a deed among others writes no slot and changes nothing, or it writes one slot that does what it does
abbrev IsStep : SeenNode → Deed → Type 0
IsStep node deed =
    ((slots_among node deed ≡ []) × (node ≡ after_deed node deed))
    ⊎ ((s : Slot) × (slots_among node deed ≡ s ∷ []) × (after_slot node s ≡ after_deed node deed))

step : (node : SeenNode) (deed : Deed) → IsStep node deed
step node (Answers ask) = at (accepts_of node ask) refl
  where
    at : (o : Option Version) → o ≡ accepts_of node ask → IsStep node (Answers ask)
    at None is = inl (no_slots node ask is, nothing_added node ask is)
    at (Some v) is = inr (version_slot ask.block v, version_slots node ask v is, version_after node ask v is)
step node (Prunes block stamp) = at (drops node block stamp) refl
  where
    slot : Slot
    slot = prune_slot node.config block stamp

    at : (b : Bool) → drops node block stamp ≡ b → IsStep node (Prunes block stamp)
    at true e = inr (slot, ap (λ (b : Bool). cond b (slot ∷ []) []) e, refl)
    at false e = inl (ap (λ (b : Bool). cond b (slot ∷ []) []) e, nothing_dropped node block stamp e)

-- the state after the first few slots is that after the first few deeds
pub record IsFew (node : SeenNode) (deeds : List Deed) (state : SeenNode) : Type 0 where
  pub k : ℕ
  pub le : k ≤ length deeds
  pub are : state ≡ after_deeds node (take k deeds)

-- one deed more before those
few_more : (node : SeenNode) (deed : Deed) (deeds : List Deed) (state : SeenNode) → IsFew (after_deed node deed) deeds state → IsFew node (deed ∷ deeds) state
few_more node deed deeds state few = record { k = suc few.k; le = (let le = few.le in omega arith); are = few.are }

-- one deed, which writes a slot or not, and then others
few_at : (node : SeenNode) (deed : Deed) (deeds : List Deed)
    → ((i : ℕ) → i ≤ length (slots_by_deeds (after_deed node deed) deeds) → IsFew (after_deed node deed) deeds (played (after_deed node deed) (take i (slots_by_deeds (after_deed node deed) deeds))))
    → IsStep node deed → (j : ℕ) → j ≤ length (slots_by_deeds node (deed ∷ deeds)) → IsFew node (deed ∷ deeds) (played node (take j (slots_by_deeds node (deed ∷ deeds))))
few_at node deed deeds rest (inl none) j le =
    let next = after_deed node deed in
    let all : slots_by_deeds node (deed ∷ deeds) ≡ slots_by_deeds next deeds = ap (λ (l : List Slot). l ++ slots_by_deeds next deeds) none.0 in
    let few = rest j (subst (λ (l : List Slot). j ≤ length l) all le) in
    subst (IsFew node (deed ∷ deeds)) (ap (λ (n : SeenNode). played n (take j (slots_by_deeds next deeds))) (sym none.1) ∙ ap (λ (l : List Slot). played node (take j l)) (sym all))
    (few_more node deed deeds (played next (take j (slots_by_deeds next deeds))) few)
few_at node deed deeds rest (inr one) zero le = record { k = 0; le = omega arith; are = refl }
few_at node deed deeds rest (inr one) (suc i) le =
    let next = after_deed node deed in
    let all : slots_by_deeds node (deed ∷ deeds) ≡ one.0 ∷ slots_by_deeds next deeds = ap (λ (l : List Slot). l ++ slots_by_deeds next deeds) one.1 in
    let few = rest i (let size = subst (λ (l : List Slot). suc i ≤ length l) all le in omega arith) in
    subst (IsFew node (deed ∷ deeds)) (ap (λ (n : SeenNode). played n (take i (slots_by_deeds next deeds))) (sym one.2) ∙ ap (λ (l : List Slot). played node (take (suc i) l)) (sym all))
    (few_more node deed deeds (played next (take i (slots_by_deeds next deeds))) few)

few_slots : (deeds : List Deed) (node : SeenNode) (j : ℕ) → j ≤ length (slots_by_deeds node deeds) → IsFew node deeds (played node (take j (slots_by_deeds node deeds)))
few_slots [] node zero le = record { k = 0; le = omega arith; are = refl }
few_slots [] node (suc j) le = absurd (omega arith)
few_slots (deed ∷ deeds) node j le = few_at node deed deeds (few_slots deeds (after_deed node deed)) (step node deed) j le

-- all slots are played as all deeds are done
all_at : (node : SeenNode) (deed : Deed) (deeds : List Deed) → IsStep node deed → played node (slots_by_deeds node (deed ∷ deeds)) ≡ played (after_deed node deed) (slots_by_deeds (after_deed node deed) deeds)
all_at node deed deeds (inl none) =
    let next = after_deed node deed in
    ap (λ (l : List Slot). played node (l ++ slots_by_deeds next deeds)) none.0 ∙ ap (λ (n : SeenNode). played n (slots_by_deeds next deeds)) none.1
all_at node deed deeds (inr one) =
    let next = after_deed node deed in
    ap (λ (l : List Slot). played node (l ++ slots_by_deeds next deeds)) one.1 ∙ ap (λ (n : SeenNode). played n (slots_by_deeds next deeds)) one.2

pub all_slots : (deeds : List Deed) (node : SeenNode) → played node (slots_by_deeds node deeds) ≡ after_deeds node deeds
all_slots [] node = refl
all_slots (deed ∷ deeds) node = all_at node deed deeds (step node deed) ∙ all_slots deeds (after_deed node deed)

-- bytes that hold the state after the first few slots hold that after the first few deeds
in_part : (c : Numbers) (number : ℕ) (node : SeenNode) (deeds : List Deed) (old left : List ℕ) → HoldsFirstOf c number (slots_of c old) node (slots_by_deeds node deeds) left → AreDoneInPart c number node deeds old left
in_part c number node deeds old left holds =
    let few = few_slots deeds node holds.state.0 holds.state.1 in
    record { state = (few.k, few.le, holds.state.2 ∙ few.are); begins = holds.begins; good = holds.good }

-- where nothing is done, a crash leaves the bytes as they are
pub undone_yet : {D : Type 0} (moment : D → ℕ) (left_since : D → ℕ → List ℕ → Type 0) (pending : D → Pending) (seen : D → List ℕ) (old : D)
    → ((bytes : List ℕ) → left_since old (moment old) bytes → MayLeave (pending old) bytes)
    → (node : SeenNode) (count : ℕ) (deeds : List Deed) → IsKept pending seen node.config node.number node count old → LeavesOnly moment left_since old old (AreDoneInPart node.config node.number node deeds (seen old))
undone_yet moment left_since pending seen old only_now node count deeds kept =
    leaves_only_weaker moment left_since old old _ (AreDoneInPart node.config node.number node deeds (seen old))
    (λ left same. record {
      state = (0, omega arith, ap (held node.config node.number) same ∙ sym kept.state);
      begins = ([], ap (slots_of node.config) same ∙ sym (append-nil (slots_of node.config (seen old))));
      good = ap (first_bad node.config node.number) same ∙ kept.good;
    })
    (unread moment left_since pending seen old only_now kept.durable)

-- where no slot is written, the node stays as it is
pub none_changed : (node : SeenNode) (deeds : List Deed) → slots_by_deeds node deeds ≡ [] → node ≡ after_deeds node deeds
none_changed node deeds none = ap (played node) (sym none) ∙ all_slots deeds node

none_done : {D : Type 0} (pending : D → Pending) (seen : D → List ℕ) (node : SeenNode) (count : ℕ) (deeds : List Deed) (disk : D) → IsKept pending seen node.config node.number node count disk
    → slots_by_deeds node deeds ≡ [] → AreDone node.config node.number node deeds (seen disk) (seen disk)
none_done pending seen node count deeds disk kept none = record {
  state = sym kept.state ∙ none_changed node deeds none;
  slots = sym (append-nil (slots_of node.config (seen disk))) ∙ ap (λ (l : List Slot). slots_of node.config (seen disk) ++ l) (sym none);
  good = kept.good;
}

-- two facts at Ok make a third
pub on_ok_both : {T E P Q S : Type 0} (r : Result T E) → (P → Q → S) → OnOk r P → OnOk r Q → OnOk r S
on_ok_both (Ok x) f p q = f p q
on_ok_both (Err e) f p q = tt

no_more : {A : Type 0} (xs : List A) → 0 ≡ length xs → xs ≡ []
no_more [] is = refl
no_more (x ∷ xs) is = absurd (omega arith)

-- what is said of the cluster and number at hand, and of the node that the old bytes hold
module _ {D : Type 0} (moment : D → ℕ) (left_since : D → ℕ → List ℕ → Type 0) (pending : D → Pending) (seen : D → List ℕ)
    (d : Numbers) (other : ℕ) (old new : D) (node : SeenNode) (from : IsFrom d other (seen old) node)
    (deeds : List Deed) (pieces : List ℕ) (more : ℕ) (written : AreWritten node deeds pieces more) where
  abbrev Leaves : (List ℕ → Type 0) → Type 0
  Leaves P = LeavesOnly moment left_since old new P

  abbrev pub added : List Slot
  added = slots_by_deeds node deeds

  abbrev FirstOf : Numbers → ℕ → List ℕ → Type 0
  FirstOf c number = HoldsFirstOf c number (slots_of c (seen old)) (held c number (seen old)) added

  pub good_there : AreGoodIn d other added
  good_there = subst (λ (c : Numbers). AreGoodIn c other added) (sym from.config) (subst (λ (number : ℕ). AreGoodIn node.config number added) (sym from.numbered) written.good)

  -- the old bytes are kept as this node's
  pub kept_from : (count : ℕ) (disk : D) (state : SeenNode) → IsKept pending seen d other state count disk → IsKept pending seen node.config node.number state count disk
  kept_from count disk state kept =
      subst (λ (c : Numbers). IsKept pending seen c node.number state count disk) from.config (subst (λ (number : ℕ). IsKept pending seen d number state count disk) from.numbered kept)

  held_from : held d other (seen old) ≡ node
  held_from = ap (λ (c : Numbers). held c other (seen old)) from.config ∙ ap (λ (number : ℕ). held node.config number (seen old)) from.numbered ∙ sym from.state

  pub deeds_any_moment : Leaves (FirstOf d other) → Leaves (AreDoneInPart node.config node.number node deeds (seen old))
  deeds_any_moment leaves =
      let here : Leaves (FirstOf node.config node.number) =
      subst (λ (c : Numbers). Leaves (FirstOf c node.number)) from.config (subst (λ (number : ℕ). Leaves (FirstOf d number)) from.numbered leaves) in
      leaves_only_weaker moment left_since old new _ (AreDoneInPart node.config node.number node deeds (seen old)) (in_part node.config node.number node deeds (seen old))
      (subst (λ (n : SeenNode). Leaves (HoldsFirstOf node.config node.number (slots_of node.config (seen old)) n added)) (sym from.state) here)

  pub deeds_kept : (count : ℕ) → IsKept pending seen d other (played (held d other (seen old)) added) count new → IsKept pending seen node.config node.number (after_deeds node deeds) count new
  deeds_kept count kept =
      subst (λ (n : SeenNode). IsKept pending seen node.config node.number n count new) (ap (λ (n : SeenNode). played n added) held_from ∙ all_slots deeds node)
      (kept_from count new (played (held d other (seen old)) added) kept)

  pub deeds_done : (count : ℕ) → IsKept pending seen d other (played (held d other (seen old)) added) count new → slots_of d (seen new) ≡ slots_of d (seen old) ++ added
      → AreDone node.config node.number node deeds (seen old) (seen new)
  deeds_done count kept slots =
      let all = deeds_kept count kept in
      record {
        state = sym all.state;
        slots = subst (λ (c : Numbers). slots_of c (seen new) ≡ slots_of c (seen old) ++ added) from.config slots;
        good = all.good;
      }

-- the same where no slot is written
module _ {D : Type 0} (moment : D → ℕ) (left_since : D → ℕ → List ℕ → Type 0) (pending : D → Pending) (seen : D → List ℕ)
    (d : Numbers) (other count : ℕ) (old : D) (kept : IsKept pending seen d other (held d other (seen old)) count old)
    (node : SeenNode) (from : IsFrom d other (seen old) node)
    (deeds : List Deed) (pieces : List ℕ) (more : ℕ) (written : AreWritten node deeds pieces more) where
  kept_here : IsKept pending seen node.config node.number node count old
  kept_here =
      let here = kept_from moment left_since pending seen d other old old node from deeds pieces more written count old (held d other (seen old)) kept in
      record { durable = here.durable; closed = here.closed; state = from.state; good = here.good }

  none : more ≡ 0 → slots_by_deeds node deeds ≡ []
  none nought = no_more (slots_by_deeds node deeds) (sym nought ∙ written.count)

  pub none_any_moment : ((bytes : List ℕ) → left_since old (moment old) bytes → MayLeave (pending old) bytes) → LeavesOnly moment left_since old old (AreDoneInPart node.config node.number node deeds (seen old))
  none_any_moment only_now = undone_yet moment left_since pending seen old only_now node count deeds kept_here

  pub none_kept : more ≡ 0 → IsKept pending seen node.config node.number (after_deeds node deeds) (count + more) old
  none_kept nought =
      let same : count ≡ count + more = omega arith in
      subst (λ (k : ℕ). IsKept pending seen node.config node.number (after_deeds node deeds) k old) same
      (subst (λ (n : SeenNode). IsKept pending seen node.config node.number n count old) (none_changed node deeds (none nought)) kept_here)

  pub none_are_done : more ≡ 0 → AreDone node.config node.number node deeds (seen old) (seen old)
  none_are_done nought = none_done pending seen node count deeds old kept_here (none nought)
