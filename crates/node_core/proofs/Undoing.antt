-- What was added last can be taken back.
use Rattle.std.proofs.Common.{◌≡◌, inl, inr, ℕ, zero, suc, ◌⊎◌, Bool, true, false, cond, not, ◌||◌, List, [], ◌∷◌, ◌++◌, length, Option, Some, refl, sym, ◌∙◌, ap, subst}
use Rattle.std.proofs.lemmas.Bool.{cases_lt}
use Rattle.std.proofs.lemmas.List.{append-nil, get_or-set_same, set_past}
use Rattle.std.proofs.lemmas.List.Elements.{filter-append}
use Rattle.std.specs.List.{slice_set}
use Rattle.stamp_order.specs.declared.Stamp.{Stamp}
use Rattle.stamp_order.specs.Stamps.{same_stamp}
use Rattle.protocol.specs.Count.{one_more}
use Rattle.protocol.specs.Messages.{Version, Ask}
use Rattle.protocol.specs.Nodes.{keeps}
use Rattle.protocol.specs.Instance.{setting}
use Rattle.protocol.proofs.lemmas.Order.{same_stamp-≡, same_stamp-refl}
use Rattle.node_core.specs.Past.{IsUndone}
use Rattle.node_core.specs.Seen.{SeenNode, versions_in, with_versions, without, accepts_of, after_of}
use Rattle.node_core.proofs.lemmas.Accepting.{IsNewIn, accepted_is_new}
use Rattle.node_core.proofs.lemmas.Blocks.{node_same}

-- without a stamp that isn't there
without_none : (stamp : Stamp) (vs : List Version) → keeps vs stamp ≡ false → without stamp vs ≡ vs
without_none stamp [] none = refl
without_none stamp (v ∷ vs) none =
    let h = or_false_both (same_stamp v.stamp stamp) (keeps vs stamp) none in
    ap (λ (b : Bool). cond (not b) (v ∷ without stamp vs) (without stamp vs)) (other (same_stamp stamp v.stamp) refl h.0)
    ∙ ap (λ (l : List Version). v ∷ l) (without_none stamp vs h.1)
  where
    or_false_both : (a b : Bool) → (a || b) ≡ false → (a ≡ false) × (b ≡ false)
    or_false_both true b e = absurd (cc)
    or_false_both false b e = (refl, e)

    other : (b : Bool) → same_stamp stamp v.stamp ≡ b → same_stamp v.stamp stamp ≡ false → same_stamp stamp v.stamp ≡ false
    other false e f = e
    other true e f =
        let same : stamp ≡ v.stamp = same_stamp-≡ stamp v.stamp e in
        let here : same_stamp v.stamp stamp ≡ true = subst (λ (t : Stamp). same_stamp v.stamp t ≡ true) (sym same) (same_stamp-refl v.stamp) in
        absurd (cc)

without_last : (v : Version) (vs : List Version) → keeps vs v.stamp ≡ false → without v.stamp (vs ++ v ∷ []) ≡ vs
without_last v vs none =
    filter-append (λ (u : Version). not (same_stamp v.stamp u.stamp)) vs (v ∷ [])
    ∙ ap (λ (b : Bool). without v.stamp vs ++ cond (not b) (v ∷ []) []) (same_stamp-refl v.stamp)
    ∙ append-nil (without v.stamp vs) ∙ without_none v.stamp vs none

set_twice : {A : Type 0} (xs : List A) (i : ℕ) (a b : A) → slice_set (slice_set xs i a) i b ≡ slice_set xs i b
set_twice {A = A} [] i a b = refl
set_twice {A = A} (x ∷ xs) zero a b = refl
set_twice {A = A} (x ∷ xs) (suc i) a b = ap (λ (l : List A). x ∷ l) (set_twice xs i a b)

module _ (node : SeenNode) (ask : Ask) (v : Version) (some : Some v ≡ accepts_of node ask) where
  new : IsNewIn (setting node.config) (versions_in node ask.block) ask v
  new = accepted_is_new (setting node.config) node.number (versions_in node ask.block) ask v (sym some)

  abbrev more : List Version
  more = versions_in node ask.block ++ v ∷ []

  there_then : (versions_in (with_versions node ask.block more) ask.block ≡ more) ⊎ (with_versions node ask.block more ≡ node)
  there_then = elim (cases_lt ask.block (length node.blocks)) [
    | inl below ↦ inl (get_or-set_same node.blocks ask.block more [] below)
    | inr past ↦ inr (ap (λ (bs : List (List Version)). record { config = node.config; number = node.number; blocks = bs }) (set_past node.blocks ask.block more past))
  ]

  gone : with_versions (with_versions node ask.block more) ask.block (versions_in node ask.block) ≡ node
  gone =
      ap (λ (bs : List (List Version)). record { config = node.config; number = node.number; blocks = bs }) (set_twice node.blocks ask.block more (versions_in node ask.block))
      ∙ sym (node_same node ask.block)

  abbrev taken_back : SeenNode → SeenNode
  taken_back n = with_versions n ask.block (without v.stamp (versions_in n ask.block))

  back_again : taken_back (with_versions node ask.block more) ≡ node
  back_again = elim there_then [
    | inl there ↦ ap (λ (vs : List Version). with_versions (with_versions node ask.block more) ask.block (without v.stamp vs)) there
        ∙ ap (with_versions (with_versions node ask.block more) ask.block) (without_last v (versions_in node ask.block) new.new) ∙ gone
    | inr same ↦ ap taken_back same ∙ ap (with_versions node ask.block) (without_none v.stamp (versions_in node ask.block) new.new) ∙ sym (node_same node ask.block)
  ]

  added_one : after_of node ask ≡ more
  added_one = ap (λ (o : Option Version). one_more (versions_in node ask.block) o) (sym some)

  pub added_undone : IsUndone node (with_versions node ask.block (after_of node ask)) ask.block v.stamp
  added_undone = record {
    there = new.there;
    later = new.later;
    undoes = ap (λ (vs : List Version). taken_back (with_versions node ask.block vs)) added_one ∙ back_again;
  }
