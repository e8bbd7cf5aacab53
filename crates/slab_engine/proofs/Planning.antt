-- What a node remembers of its slots tells what it answers.
use Rattle.std.proofs.Common.{◌≡◌, inl, inr, ℕ, suc, Bool, true, false, ◌&&◌, ◌||◌, max, if◌then◌else◌, List, [], ◌∷◌, map, refl, sym, ◌∙◌, ap, arith}
use Rattle.std.specs.Prelude.{Option, option_map, Contains}
use Rattle.std.specs.declared.option.Option.TheVariants.{None, Some}
use Rattle.std.proofs.lemmas.Bool.{cases_Bool}
use Rattle.stamp_order.specs.declared.Bound.{Bound}
use Rattle.stamp_order.specs.Stamps.{has, up_to, same_stamp}
use Rattle.protocol.specs.Messages.{Version, Request, Reason}
use Rattle.protocol.specs.Setting.{Setting}
use Rattle.protocol.specs.Nodes.{greatest_in, keeps, greatest_time, later, found, acknowledged, added, refusal}
use Rattle.wire_forms.specs.declared.Request.TheVariants.{Time, Read, Write}
use Rattle.wire_forms.specs.declared.Reply.TheVariants.{TimeIs}
use Rattle.slab_index.specs.declared.kept.Kept.{Kept}
use Rattle.slab_index.specs.Kept.{stamp_of, later_kept, greatest_kept, keeps_stamp, SlotsTellThem}
use Rattle.slab_index.proofs.lemmas.Telling.{slots_tell}
use Rattle.slab_engine.specs.Plans.{later_slot, read_plan, write_plan, plan_in, IsPlan}

behind : (x : Kept) (xs : List Kept) (k : Kept) → Contains xs k → Contains (x ∷ xs) k
behind x xs k there = (suc there.0, omega (arith, there.1), there.2)

zero_max : (n : ℕ) → max 0 n ≡ n
zero_max n = grind arith

none_is : (k : Kept) → None ≡ Some k → ⊥
none_is k e = cc

some_is : (u k : Kept) → Some u ≡ Some k → u ≡ k
some_is u k e = cc

later_there : (x : Kept) (xs : List Kept) (k : Kept) (o : Option Kept) → ((u : Kept) → o ≡ Some u → Contains xs u) → Some (later_kept x o) ≡ Some k → Contains (x ∷ xs) k
later_there x xs k None there it = (0, omega arith, some_is x k it)
later_there x xs k (Some u) there it = elim (cases_Bool (up_to (stamp_of u) (stamp_of x))) [
  | inl first ↦ (let is : Some x ≡ Some k = rw first at it in (0, omega arith, some_is x k is))
  | inr other ↦ (let is : Some u ≡ Some k = rw other at it in behind x xs k (there k (ap Some (some_is u k is))))
]

-- the greatest is one of them
greatest_there : (bound : Bound) (ks : List Kept) (k : Kept) → greatest_kept bound ks ≡ Some k → Contains ks k
greatest_there bound [] k e = absurd (none_is k e)
greatest_there bound (x ∷ xs) k e = elim (cases_Bool (has bound (stamp_of x))) [
  | inr out ↦ (let rest : greatest_kept bound xs ≡ Some k = rw out at e in behind x xs k (greatest_there bound xs k rest))
  | inl within ↦
      let it : Some (later_kept x (greatest_kept bound xs)) ≡ Some k = rw within at e in
      later_there x xs k (greatest_kept bound xs) (λ u is. greatest_there bound xs u is) it
]

module _ (s : Setting) (number : ℕ) (first : Version) (version : Kept → Version) (kept : List Kept)
    (same : (k : Kept) → (version k).stamp ≡ stamp_of k) (tells : SlotsTellThem version kept) where
  abbrev vs : List Version
  vs = first ∷ map version kept

  time_told : first.stamp.time ≡ 0 → IsPlan s number first version kept Time (plan_in s number first.stamp kept Time)
  time_told zero = record { reply = ap (λ n. Some (TimeIs n)) (sym (ap (λ n. max n (greatest_time (map version kept))) zero ∙ zero_max (greatest_time (map version kept)) ∙ tells.time)); adds = refl; reads = tt }

  read_none : (bound : Bound) → greatest_kept bound kept ≡ None → (b : Bool) → has bound first.stamp ≡ b → IsPlan s number first version kept (Read bound) (read_plan b None)
  read_none bound none true within =
      let rest : greatest_in bound (map version kept) ≡ None = tells.greatest bound ∙ ap (option_map version) none in
      let is : greatest_in bound vs ≡ Some first = rw within (ap (λ o. Some (later first o)) rest) in
      record { reply = ap (λ o. Some (found o)) (sym is); adds = refl; reads = tt }
  read_none bound none false out =
      let rest : greatest_in bound (map version kept) ≡ None = tells.greatest bound ∙ ap (option_map version) none in
      let is : greatest_in bound vs ≡ None = rw out rest in
      record { reply = ap (λ o. Some (found o)) (sym is); adds = refl; reads = tt }

  read_some : (bound : Bound) (k : Kept) → greatest_kept bound kept ≡ Some k → (b u : Bool) → has bound first.stamp ≡ b → up_to (stamp_of k) first.stamp ≡ u
      → IsPlan s number first version kept (Read bound) (read_plan b (if b && u then None else Some k))
  read_some bound k some false u out test =
      let rest : greatest_in bound (map version kept) ≡ Some (version k) = tells.greatest bound ∙ ap (option_map version) some in
      let is : greatest_in bound vs ≡ Some (version k) = rw out rest in
      record { reply = ap (λ o. Some (found o)) (sym is); adds = refl; reads = greatest_there bound kept k some }
  read_some bound k some true true within test =
      let rest : greatest_in bound (map version kept) ≡ Some (version k) = tells.greatest bound ∙ ap (option_map version) some in
      let up : up_to (version k).stamp first.stamp ≡ true = ap (λ t. up_to t first.stamp) (same k) ∙ test in
      let which : later first (Some (version k)) ≡ first = rw up refl in
      let is : greatest_in bound vs ≡ Some first = rw within (ap (λ o. Some (later first o)) rest ∙ ap Some which) in
      record { reply = ap (λ o. Some (found o)) (sym is); adds = refl; reads = tt }
  read_some bound k some true false within test =
      let rest : greatest_in bound (map version kept) ≡ Some (version k) = tells.greatest bound ∙ ap (option_map version) some in
      let up : up_to (version k).stamp first.stamp ≡ false = ap (λ t. up_to t first.stamp) (same k) ∙ test in
      let which : later first (Some (version k)) ≡ version k = rw up refl in
      let is : greatest_in bound vs ≡ Some (version k) = rw within (ap (λ o. Some (later first o)) rest ∙ ap Some which) in
      record { reply = ap (λ o. Some (found o)) (sym is); adds = refl; reads = greatest_there bound kept k some }

  read_told : (bound : Bound) (o : Option Kept) → greatest_kept bound kept ≡ o → IsPlan s number first version kept (Read bound) (read_plan (has bound first.stamp) (later_slot first.stamp bound o))
  read_told bound None none = read_none bound none (has bound first.stamp) refl
  read_told bound (Some k) some = read_some bound k some (has bound first.stamp) (up_to (stamp_of k) first.stamp) refl refl

  write_told : (v : Version) (o : Option Reason) → refusal s number v ≡ o → (b : Bool) → keeps vs v.stamp ≡ b → IsPlan s number first version kept (Write v) (write_plan o b)
  write_told v (Some reason) e b is_kept = record { reply = ap (λ o. Some (acknowledged o)) (sym e); adds = ap (λ o. added o vs v) e; reads = tt }
  write_told v None e true is_kept = record { reply = ap (λ o. Some (acknowledged o)) (sym e); adds = ap (λ o. added o vs v) e ∙ rw is_kept refl; reads = tt }
  write_told v None e false is_kept = record { reply = ap (λ o. Some (acknowledged o)) (sym e); adds = (v, refl, e, ap (λ o. added o vs v) e ∙ rw is_kept refl); reads = tt }

  told : (q : Request) → first.stamp.time ≡ 0 → IsPlan s number first version kept q (plan_in s number first.stamp kept q)
  told Time zero = time_told zero
  told (Read bound) zero = read_told bound (greatest_kept bound kept) refl
  told (Write v) zero =
      let is : keeps vs v.stamp ≡ (same_stamp first.stamp v.stamp || keeps_stamp kept v.stamp) = ap (λ b. same_stamp first.stamp v.stamp || b) (tells.stamps v.stamp) in
      write_told v (refusal s number v) refl (same_stamp first.stamp v.stamp || keeps_stamp kept v.stamp) is

-- what the node plans is what it is to answer, whatever versions the slots have
pub plan_tells : (s : Setting) (number : ℕ) (first : Version) (version : Kept → Version) (kept : List Kept) (q : Request)
    → ((k : Kept) → (version k).stamp ≡ stamp_of k) → first.stamp.time ≡ 0 → IsPlan s number first version kept q (plan_in s number first.stamp kept q)
plan_tells s number first version kept q same zero = told s number first version kept same (slots_tell version kept same) q zero
