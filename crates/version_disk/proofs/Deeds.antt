-- What a slot that is kept says of the deed that it stands for.
use Rattle.std.proofs.Common.{◌≡◌, ℕ, List, [], ◌∷◌, ◌++◌, sym, ◌∙◌, ap, subst}
use Rattle.quorum_rules.specs.Limits.{Numbers}
use Rattle.node_core.specs.Seen.{SeenNode}
use Rattle.disk_model.specs.Crash.{Pending, LeavesOnly}
use Rattle.slot_disk.specs.Slots.{Slot}
use Rattle.version_disk.specs.Held.{after_slot, held, slots_of}
use Rattle.version_disk.specs.Kept.{IsKept, IsGoodIn, HoldsOneOf}
use Rattle.version_disk.specs.Deeds.{Deed, after_deed, slots_by, IsDone, IsDoneOrNot}

module _ {D : Type 0} (moment : D → ℕ) (left_since : D → ℕ → List ℕ → Type 0) (pending : D → Pending) (seen : D → List ℕ)
    (node : SeenNode) (deed : Deed) (s : Slot) (after_is : after_slot node s ≡ after_deed node deed) (slots_are : slots_by node deed ≡ s ∷ [])
    (old new : D) (state : node ≡ held node.config node.number (seen old))
    (d : Numbers) (other : ℕ) (same : d ≡ node.config) (same_number : other ≡ node.number) where
  abbrev Leaves : (List ℕ → Type 0) → Type 0
  Leaves P = LeavesOnly moment left_since old new P

  abbrev OneOf : Numbers → ℕ → List ℕ → Type 0
  OneOf c number = HoldsOneOf c number (slots_of c (seen old)) (held c number (seen old)) (after_slot (held c number (seen old)) s)

  at_hand : IsGoodIn node.config node.number s → IsGoodIn d other s
  at_hand good = subst (λ (c : Numbers). IsGoodIn c other s) (sym same) (subst (λ (number : ℕ). IsGoodIn node.config number s) (sym same_number) good)

  pub deed_any_moment : IsGoodIn node.config node.number s → (IsGoodIn d other s → Leaves (OneOf d other)) → Leaves (IsDoneOrNot node.config node.number node deed (seen old))
  deed_any_moment good promised =
      let leaves = promised (at_hand good) in
      let slots = slots_of node.config (seen old) in
      let here : Leaves (OneOf node.config node.number) =
      subst (λ (c : Numbers). Leaves (OneOf c node.number)) same (subst (λ (number : ℕ). Leaves (OneOf d number)) same_number leaves) in
      subst (λ (n : SeenNode). Leaves (HoldsOneOf node.config node.number slots node n)) after_is
      (subst (λ (n : SeenNode). Leaves (HoldsOneOf node.config node.number slots n (after_slot n s))) (sym state) here)

  pub deed_kept : (count : ℕ) → IsGoodIn node.config node.number s → (IsGoodIn d other s → IsKept pending seen d other (after_slot (held d other (seen old)) s) count new) → IsKept pending seen node.config node.number (after_deed node deed) count new
  deed_kept count good promised =
      let kept = promised (at_hand good) in
      let here : IsKept pending seen node.config node.number (after_slot (held node.config node.number (seen old)) s) count new =
      subst (λ (c : Numbers). IsKept pending seen c node.number (after_slot (held c node.number (seen old)) s) count new) same
      (subst (λ (number : ℕ). IsKept pending seen d number (after_slot (held d number (seen old)) s) count new) same_number kept) in
      subst (λ (n : SeenNode). IsKept pending seen node.config node.number n count new) (ap (λ (n : SeenNode). after_slot n s) (sym state) ∙ after_is) here

  pub deed_done : (count : ℕ) → IsGoodIn node.config node.number s → (IsGoodIn d other s → IsKept pending seen d other (after_slot (held d other (seen old)) s) count new)
      → (IsGoodIn d other s → slots_of d (seen new) ≡ slots_of d (seen old) ++ s ∷ []) → IsDone node.config node.number node deed (seen old) (seen new)
  deed_done count good promised more =
      let kept = deed_kept count good promised in
      let here : slots_of node.config (seen new) ≡ slots_of node.config (seen old) ++ s ∷ [] = subst (λ (c : Numbers). slots_of c (seen new) ≡ slots_of c (seen old) ++ s ∷ []) same (more (at_hand good)) in
      record {
        state = sym kept.state;
        slots = here ∙ ap (λ (l : List Slot). slots_of node.config (seen old) ++ l) (sym slots_are);
        good = kept.good;
      }
