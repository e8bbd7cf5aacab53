-- The order of entries, and what the entries of a history say.
use Rattle.std.proofs.Common.{◌≡◌, ℕ, zero, suc, ◌<◌, true, List, [], ◌∷◌, length, get_or, Option, refl, ◌∙◌, ap, arith}
use Rattle.std.specs.declared.option.Option.TheVariants.{None, Some}
use Rattle.std.specs.declared.cmp.Ordering.{Ordering}
use Rattle.std.specs.declared.cmp.Ordering.TheVariants.{Less, Equal, Greater}
use Rattle.std.specs.Ordering.{nat_cmp, ordering_then, ordering_reverse}
use Rattle.std.specs.Cmp.{IsTotalOrder}
use Rattle.std.specs.List.{Contains, AllByRecursion}
use Rattle.std.proofs.lemmas.Cmp.{then_total, on_total, nat_cmp_total, tied_itself}
use Rattle.stamp_order.specs.declared.Stamp.{Stamp}
use Rattle.stamp_order.specs.Stamps.{stamp_cmp, up_to, before, ◌≼◌}
use Rattle.protocol.specs.History.{Entry, is_read, place_cmp, entry_cmp, IsSorted}
use Rattle.protocol.proofs.lemmas.Order.{then_le, stamp_total}
use Rattle.lists.proofs.lemmas.Orders.{nat_less, lt_less}

place_cmp_total : IsTotalOrder place_cmp
place_cmp_total = record { antisymm = flip; trans = chain; congr = like }
  where
    flip : (x y : Option ℕ) → place_cmp x y ≡ ordering_reverse (place_cmp y x)
    flip None None = refl
    flip None (Some y) = refl
    flip (Some x) None = refl
    flip (Some x) (Some y) = nat_cmp_total.antisymm x y

    chain : (x y z : Option ℕ) → place_cmp x y ≡ Less → place_cmp y z ≡ Less → place_cmp x z ≡ Less
    chain None None z h k = absurd (cc)
    chain None (Some y) z h k = absurd (cc)
    chain (Some x) None None h k = absurd (cc)
    chain (Some x) None (Some z) h k = absurd (cc)
    chain (Some x) (Some y) None h k = refl
    chain (Some x) (Some y) (Some z) h k = nat_cmp_total.trans x y z h k

    like : (x y z : Option ℕ) → place_cmp x y ≡ Equal → place_cmp x z ≡ place_cmp y z
    like None None z h = refl
    like None (Some y) z h = absurd (cc)
    like (Some x) None z h = absurd (cc)
    like (Some x) (Some y) None h = refl
    like (Some x) (Some y) (Some z) h = nat_cmp_total.congr x y z h

pub entry_total : IsTotalOrder entry_cmp
unfolding entry_cmp
entry_total =
    then_total (on_total (λ (e : Entry). e.block) nat_cmp_total)
    (then_total (on_total (λ (e : Entry). e.stamp) stamp_total)
    (then_total (on_total (λ (e : Entry). is_read e.kind) nat_cmp_total)
    (then_total (on_total (λ (e : Entry). e.end) place_cmp_total)
    (then_total (on_total (λ (e : Entry). e.client) nat_cmp_total) (on_total (λ (e : Entry). e.start) place_cmp_total)))))

nat_equal : (x y : ℕ) → x ≡ y → nat_cmp x y ≡ Equal
nat_equal x y e = rw e (tied_itself nat_cmp_total y)

before_less : (x y : Stamp) → before x y ≡ true → stamp_cmp x y ≡ Less
unfolding before
before_less x y h = lt_less _ h

stamp_equal : (x y : Stamp) → x ≡ y → stamp_cmp x y ≡ Equal
stamp_equal x y e = rw e (tied_itself stamp_total y)

-- by the stamp
pub less_by_stamp : (x y : Entry) → x.block ≡ y.block → before x.stamp y.stamp ≡ true → entry_cmp x y ≡ Less
unfolding entry_cmp
less_by_stamp x y e h = rw (nat_equal x.block y.block e, before_less x.stamp y.stamp h) refl

pub less_by_kind : (x y : Entry) → x.block ≡ y.block → x.stamp ≡ y.stamp → is_read x.kind < is_read y.kind → entry_cmp x y ≡ Less
unfolding entry_cmp
less_by_kind x y e f h = rw (nat_equal x.block y.block e, stamp_equal x.stamp y.stamp f, nat_less (is_read x.kind) (is_read y.kind) h) refl

pub less_by_end : (x y : Entry) → x.block ≡ y.block → x.stamp ≡ y.stamp → is_read x.kind ≡ is_read y.kind → (a b : ℕ) → x.end ≡ Some a → y.end ≡ Some b → a < b → entry_cmp x y ≡ Less
unfolding entry_cmp
less_by_end x y e f g a b i j h = rw (nat_equal x.block y.block e, stamp_equal x.stamp y.stamp f, nat_equal (is_read x.kind) (is_read y.kind) g, i, j, nat_less a b h) refl

pub stamp_upto : (x y : Entry) → x.block ≡ y.block → entry_cmp x y ≡ Less → x.stamp ≼ y.stamp
unfolding entry_cmp up_to
stamp_upto x y e h =
    let rest : Ordering = ordering_then (nat_cmp (is_read x.kind) (is_read y.kind)) (ordering_then (place_cmp x.end y.end) (ordering_then (nat_cmp x.client y.client) (place_cmp x.start y.start))) in
    let k : ordering_then Equal (ordering_then (stamp_cmp x.stamp y.stamp) rest) ≡ Less =
    rw (nat_equal x.block y.block e) at h in
    then_le (stamp_cmp x.stamp y.stamp) rest (rw k refl)

-- what is less isn't above
pub not_back : (x y : Entry) → entry_cmp x y ≡ Less → entry_cmp y x ≡ Less → ⊥
not_back x y h k = let e : entry_cmp y x ≡ Greater = entry_total.antisymm y x ∙ ap ordering_reverse h in cc

pub not_self : (x : Entry) → entry_cmp x x ≡ Less → ⊥
not_self x h = not_back x x h h

pub each_of : {X : Type 0} (P : X → Type 0) (xs : List X) (k : ℕ) (d : X) → k < length xs → AllByRecursion P xs → P (get_or xs k d)
each_of P [] k d l h = absurd (omega arith)
each_of P (x ∷ xs) zero d l h = h.0
each_of P (x ∷ xs) (suc k) d l h = each_of P xs k d (omega (arith, l)) h.1

pub sorted_before : (h : List Entry) (i j : ℕ) (d : Entry) → IsSorted h → i < length h → j < i → entry_cmp (get_or h j d) (get_or h i d) ≡ Less
sorted_before [] i j d s l k = absurd (omega arith)
sorted_before (e ∷ es) zero j d s l k = absurd (omega (arith, k))
sorted_before (e ∷ es) (suc i) zero d s l k = each_of (λ f. entry_cmp e f ≡ Less) es i d (omega (arith, l)) s.0
sorted_before (e ∷ es) (suc i) (suc j) d s l k = sorted_before es i j d s.1 (omega (arith, l)) (omega (arith, k))

pub member_of : {X : Type 0} (P : X → Type 0) (xs : List X) (x : X) → AllByRecursion P xs → Contains xs x → P x
member_of {X} P xs x h k = let e = k.2 in let p = each_of P xs k.0 x k.1 h in rw e at p

-- entries that are equal part by part
pub same_entry : (e f : Entry) → e.block ≡ f.block → e.stamp ≡ f.stamp → e.kind ≡ f.kind → e.client ≡ f.client → e.start ≡ f.start → e.end ≡ f.end → e.value ≡ f.value → e ≡ f
same_entry e f a b c d g h k i = record { block = a i; stamp = b i; kind = c i; client = d i; start = g i; end = h i; value = k i }

-- ---- what an entry has of the one that it was made as

pub block_made : {e x : Entry} → e ≡ x → e.block ≡ x.block
block_made p = ap (λ (y : Entry). y.block) p

pub kind_made : {e x : Entry} → e ≡ x → e.kind ≡ x.kind
kind_made p = ap (λ (y : Entry). y.kind) p

pub client_made : {e x : Entry} → e ≡ x → e.client ≡ x.client
client_made p = ap (λ (y : Entry). y.client) p

pub start_made : {e x : Entry} → e ≡ x → e.start ≡ x.start
start_made p = ap (λ (y : Entry). y.start) p

pub end_made : {e x : Entry} → e ≡ x → e.end ≡ x.end
end_made p = ap (λ (y : Entry). y.end) p

-- it was made so of this stamp and value too
pub made_of : (make : Stamp → List ℕ → Entry) (e : Entry) (t : Stamp) (v : List ℕ) → e ≡ make e.stamp e.value → e.stamp ≡ t → e.value ≡ v → e ≡ make t v
made_of make e t v made p q = made ∙ (λ i. make (p i) (q i))
