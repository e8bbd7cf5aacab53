-- What a node remembers of its slots tells which versions a prune drops.
use Rattle.std.proofs.Common.{◌≡◌, Bool, true, false, ◌&&◌, ◌||◌, if◌then◌else◌, List, ◌∷◌, map, refl, ◌∙◌, ap}
use Rattle.std.specs.Prelude.{Option, option_map}
use Rattle.std.specs.declared.option.Option.TheVariants.{None, Some}
use Rattle.stamp_order.specs.declared.Stamp.{Stamp}
use Rattle.stamp_order.specs.declared.Bound.{Bound}
use Rattle.stamp_order.specs.declared.Bound.TheVariants.{AtMost}
use Rattle.stamp_order.specs.Stamps.{has, up_to, before, same_stamp}
use Rattle.protocol.specs.Messages.{Version}
use Rattle.protocol.specs.Setting.{Setting, first_stamp}
use Rattle.protocol.specs.Nodes.{greatest_in, later, carries}
use Rattle.slab_index.specs.declared.kept.Kept.{Kept}
use Rattle.slab_index.specs.Kept.{stamp_of, greatest_kept}
use Rattle.slab_index.proofs.lemmas.Telling.{slots_tell}
use Rattle.slab_engine.specs.Plans.{later_slot}
use Rattle.slab_engine.specs.Prunes.{read_stamp, greatest_stamp_of, is_stamp, PrunesAreTold}

module _ (first : Version) (version : Kept → Version) (kept : List Kept) (same : (k : Kept) → (version k).stamp ≡ stamp_of k) (bound : Bound) where
  abbrev stamps : Option Version → Option Stamp
  stamps o = option_map (λ v. v.stamp) o

  abbrev vs : List Version
  vs = first ∷ map version kept

  none_in : greatest_in bound (map version kept) ≡ None → (b : Bool) → has bound first.stamp ≡ b → stamps (greatest_in bound vs) ≡ read_stamp first.stamp b None
  none_in rest true within = (let is : greatest_in bound vs ≡ Some first = rw within (ap (λ o. Some (later first o)) rest) in ap stamps is)
  none_in rest false out = (let is : greatest_in bound vs ≡ None = rw out rest in ap stamps is)

  some_in : (k : Kept) → greatest_in bound (map version kept) ≡ Some (version k) → (b u : Bool) → has bound first.stamp ≡ b → up_to (stamp_of k) first.stamp ≡ u
      → stamps (greatest_in bound vs) ≡ read_stamp first.stamp b (if b && u then None else Some k)
  some_in k rest false u out test = (let is : greatest_in bound vs ≡ Some (version k) = rw out rest in ap stamps is ∙ ap Some (same k))
  some_in k rest true true within test =
      let up : up_to (version k).stamp first.stamp ≡ true = ap (λ t. up_to t first.stamp) (same k) ∙ test in
      let which : later first (Some (version k)) ≡ first = rw up refl in
      let is : greatest_in bound vs ≡ Some first = rw within (ap (λ o. Some (later first o)) rest ∙ ap Some which) in
      ap stamps is
  some_in k rest true false within test =
      let up : up_to (version k).stamp first.stamp ≡ false = ap (λ t. up_to t first.stamp) (same k) ∙ test in
      let which : later first (Some (version k)) ≡ version k = rw up refl in
      let is : greatest_in bound vs ≡ Some (version k) = rw within (ap (λ o. Some (later first o)) rest ∙ ap Some which) in
      ap stamps is ∙ ap Some (same k)

  by_kept : (o : Option Kept) → greatest_kept bound kept ≡ o → stamps (greatest_in bound vs) ≡ read_stamp first.stamp (has bound first.stamp) (later_slot first.stamp bound o)
  by_kept None none = none_in ((slots_tell version kept same).greatest bound ∙ ap (option_map version) none) (has bound first.stamp) refl
  by_kept (Some k) some = some_in k ((slots_tell version kept same).greatest bound ∙ ap (option_map version) some) (has bound first.stamp) (up_to (stamp_of k) first.stamp) refl refl

  -- the greatest stamp is that of the greatest version
  pub greatest_told : stamps (greatest_in bound vs) ≡ greatest_stamp_of first.stamp bound kept
  greatest_told = by_kept (greatest_kept bound kept) refl

carries_is : (t : Stamp) (o : Option Version) → carries t o ≡ is_stamp t (option_map (λ v. v.stamp) o)
carries_is t None = refl
carries_is t (Some v) = refl

pub prunes_told : (s : Setting) → PrunesAreTold s
prunes_told s first version kept k stamp is same =
    let at : carries (version k).stamp (greatest_in (AtMost stamp) (first ∷ map version kept)) ≡ is_stamp (stamp_of k) (greatest_stamp_of (first_stamp s) (AtMost stamp) kept) =
    carries_is (version k).stamp (greatest_in (AtMost stamp) (first ∷ map version kept))
    ∙ (λ i. is_stamp (same k i) (greatest_told first version kept same (AtMost stamp) i))
    ∙ (λ i. is_stamp (stamp_of k) (greatest_stamp_of (is i) (AtMost stamp) kept)) in
    λ i. (same_stamp (same k i) (first_stamp s) || at i) || before stamp (same k i)
