-- Entries of a history differ in their keys.
use Rattle.std.proofs.Common.{◌≡◌, ℕ, ◌≤◌, List, [], ◌∷◌, Option, refl, sym, ◌∙◌, ap, inl, inr, arith}
use Rattle.std.specs.declared.option.Option.TheVariants.{None, Some}
use Rattle.std.specs.declared.cmp.Ordering.TheVariants.{Less, Equal}
use Rattle.std.specs.List.{Contains}
use Rattle.std.proofs.lemmas.Map.Lookups.{exact_unsigned}
use Rattle.stamp_order.specs.declared.Stamp.{Stamp}
use Rattle.protocol.specs.Setting.{Setting, first_stamp}
use Rattle.protocol.specs.Operations.{Work, How, Outcome}
use Rattle.protocol.specs.Operations.Work.{Writes}
use Rattle.run_words.specs.declared.outcome.Outcome.TheVariants.{Gave}
use Rattle.protocol.specs.World.{World, Record}
use Rattle.protocol.specs.History.{Entry, Kind, is_read, place_cmp, entry_cmp, IsSorted, IsEntry}
use Rattle.protocol.specs.History.Kind.{Write, Foreign, Read}
use Rattle.protocol.proofs.lemmas.Order.{stamp_exact}
use Rattle.protocol.proofs.Apart.{IsApart}
use Rattle.protocol.proofs.lemmas.Entries.{kind_made, start_made, not_back, not_self, member_of}
use Rattle.lists.proofs.lemmas.Members.{Contains-head, Contains-none, Contains-rest, Contains-cons_cases}
use Rattle.lists.proofs.lemmas.Orders.{then_equal}

pub place_exact : (x y : Option ℕ) → place_cmp x y ≡ Equal → x ≡ y
place_exact None None h = refl
place_exact None (Some y) h = absurd (cc)
place_exact (Some x) None h = absurd (cc)
place_exact (Some x) (Some y) h = ap Some (exact_unsigned x y h)

record SameKey (e f : Entry) : Type 0 where
  block : e.block ≡ f.block
  stamp : e.stamp ≡ f.stamp
  kind : is_read e.kind ≡ is_read f.kind
  end : e.end ≡ f.end
  client : e.client ≡ f.client
  start : e.start ≡ f.start

same_key : (e f : Entry) → entry_cmp e f ≡ Equal → SameKey e f
unfolding entry_cmp
same_key e f h =
    let a = then_equal _ _ h in
    let b = then_equal _ _ a.1 in
    let c = then_equal _ _ b.1 in
    let d = then_equal _ _ c.1 in
    let g = then_equal _ _ d.1 in
    record {
      block = exact_unsigned _ _ a.0;
      stamp = stamp_exact _ _ b.0;
      kind = exact_unsigned _ _ c.0;
      end = place_exact _ _ d.0;
      client = exact_unsigned _ _ g.0;
      start = place_exact _ _ g.1;
    }

entry_is : (e f : Entry) → SameKey e f → e.kind ≡ f.kind → e.value ≡ f.value → e ≡ f
entry_is e f k d v i = record { block = k.block i; stamp = k.stamp i; kind = d i; client = k.client i; start = k.start i; end = k.end i; value = v i }

gave_value : (o p : Option Outcome) (a b : Stamp) (u v : List ℕ) (h k : How) (m n : ℕ) → o ≡ p → o ≡ Some (Gave a u h m) → p ≡ Some (Gave b v k n) → u ≡ v
gave_value o p a b u v h k m n e f g = let q : Some (Gave a u h m) ≡ Some (Gave b v k n) = sym f ∙ e ∙ g in cc

wrote_value : (o p : Work) (u v : List ℕ) → o ≡ p → o ≡ Writes u → p ≡ Writes v → u ≡ v
wrote_value o p u v e f g = let q : Writes u ≡ Writes v = sym f ∙ e ∙ g in cc

no_kind : (a b : Kind) (x y : ℕ) → a ≡ Read → b ≡ Write → is_read a ≡ is_read b → ⊥
no_kind a b x y e f h = let k : is_read Read ≡ is_read Write = rw (e, f) at h in omega (arith, k)

no_foreign : (a b : Kind) → a ≡ Read → b ≡ Foreign → is_read a ≡ is_read b → ⊥
no_foreign a b e f h = let k : is_read Read ≡ is_read Foreign = rw (e, f) at h in omega (arith, k)

start_of : (x y : ℕ) (p q : Option ℕ) → p ≡ q → p ≡ Some x → q ≡ Some y → x ≡ y
start_of x y p q e f g = let k : Some x ≡ Some y = sym f ∙ e ∙ g in cc

no_start : (x : ℕ) (p q : Option ℕ) → p ≡ q → p ≡ Some x → q ≡ None → ⊥
no_start x p q e f g = let k : Some x ≡ None = sym f ∙ e ∙ g in cc

module _ (s : Setting) (w : World) (apart : IsApart w.records) where
  -- entries of one key are one
  pub one_key : (e f : Entry) → IsEntry w.records (first_stamp s) e → IsEntry w.records (first_stamp s) f → entry_cmp e f ≡ Equal → e ≡ f
  one_key e f (inl h) (inl k) eq =
      let key = same_key e f eq in
      let r = apart.starts h.read k.read h.there k.there (start_of h.read.start k.read.start e.start f.start key.start (start_made h.made) (start_made k.made)) in
      entry_is e f key (kind_made h.made ∙ sym (kind_made k.made)) (gave_value h.read.outcome k.read.outcome e.stamp f.stamp e.value f.value h.how k.how h.rounds k.rounds (ap (λ (x : Record). x.outcome) r) h.gave k.gave)
  one_key e f (inl h) (inr (inl k)) eq = absurd (no_kind e.kind f.kind 0 0 (kind_made h.made) (kind_made k.made) (same_key e f eq).kind)
  one_key e f (inl h) (inr (inr k)) eq = absurd (no_foreign e.kind f.kind (kind_made h.made) (kind_made k.1.made) (same_key e f eq).kind)
  one_key e f (inr (inl h)) (inl k) eq = absurd (no_kind f.kind e.kind 0 0 (kind_made k.made) (kind_made h.made) (sym (same_key e f eq).kind))
  one_key e f (inr (inl h)) (inr (inl k)) eq =
      let key = same_key e f eq in
      let r = apart.starts h.write k.write h.there k.there (start_of h.write.start k.write.start e.start f.start key.start (start_made h.made) (start_made k.made)) in
      entry_is e f key (kind_made h.made ∙ sym (kind_made k.made)) (wrote_value h.write.work k.write.work e.value f.value (ap (λ (x : Record). x.work) r) h.writes k.writes)
  one_key e f (inr (inl h)) (inr (inr k)) eq = absurd (no_start h.write.start e.start f.start (same_key e f eq).start (start_made h.made) (start_made k.1.made))
  one_key e f (inr (inr h)) (inl k) eq = absurd (no_foreign f.kind e.kind (kind_made k.made) (kind_made h.1.made) (sym (same_key e f eq).kind))
  one_key e f (inr (inr h)) (inr (inl k)) eq = absurd (no_start k.write.start f.start e.start (sym (same_key e f eq).start) (start_made k.made) (start_made h.1.made))
  one_key e f (inr (inr h)) (inr (inr k)) eq =
      let key = same_key e f eq in
      let a = h.1.seen in
      let b = k.1.seen in
      let to : h.1.place ≤ k.1.place = h.1.first f.value k.1.place (record { read = b.read; there = b.there; of_block = b.of_block ∙ sym key.block; ended = b.ended; how = b.how; rounds = b.rounds; gave = b.gave ∙ ap (λ (t : Stamp). Some (Gave t f.value b.how b.rounds)) (sym key.stamp) }) in
      let from : k.1.place ≤ h.1.place = k.1.first e.value h.1.place (record { read = a.read; there = a.there; of_block = a.of_block ∙ key.block; ended = a.ended; how = a.how; rounds = a.rounds; gave = a.gave ∙ ap (λ (t : Stamp). Some (Gave t e.value a.how a.rounds)) key.stamp }) in
      let same : h.1.place ≡ k.1.place = omega (arith, to, from) in
      let r = apart.ends a.read b.read h.1.place a.there b.there a.ended (b.ended ∙ ap Some (sym same)) in
      entry_is e f key (kind_made h.1.made ∙ sym (kind_made k.1.made)) (gave_value a.read.outcome b.read.outcome e.stamp f.stamp e.value f.value a.how b.how a.rounds b.rounds (ap (λ (x : Record). x.outcome) r) a.gave b.gave)

-- two lists that ascend strictly and have the same members are one
pub one_list : (h k : List Entry) → IsSorted h → IsSorted k → ((e : Entry) → Contains h e → Contains k e) → ((e : Entry) → Contains k e → Contains h e) → h ≡ k
one_list [] [] a b to from = refl
one_list [] (y ∷ ys) a b to from = absurd (Contains-none y (from y (Contains-head y ys)))
one_list (x ∷ xs) [] a b to from = absurd (Contains-none x (to x (Contains-head x xs)))
one_list (x ∷ xs) (y ∷ ys) a b to from =
    let after_x = λ (e : Entry) (h : Contains xs e). member_of (λ (f : Entry). entry_cmp x f ≡ Less) xs e a.0 h in
    let after_y = λ (e : Entry) (h : Contains ys e). member_of (λ (f : Entry). entry_cmp y f ≡ Less) ys e b.0 h in
    let heads : x ≡ y = elim (Contains-cons_cases x y ys (to x (Contains-head x xs))) [
      | inl e ↦ e
      | inr h ↦ elim (Contains-cons_cases y x xs (from y (Contains-head y ys))) [ inl e ↦ sym e | inr k ↦ absurd (not_back x y (after_x y k) (after_y x h)) ]
    ] in
    let rest = one_list xs ys a.1 b.1
    (λ e h. elim (Contains-cons_cases e y ys (to e (Contains-rest e x xs h))) [ inl q ↦ absurd (not_self x (let l = after_x e h in rw (q ∙ sym heads) at l)) | inr k ↦ k ])
    (λ e h. elim (Contains-cons_cases e x xs (from e (Contains-rest e y ys h))) [ inl q ↦ absurd (not_self y (let l = after_y e h in rw (q ∙ heads) at l)) | inr k ↦ k ]) in
    rw (heads, rest) refl
