-- The entries of operations that come one after another stand in order.
use Rattle.std.proofs.Common.{◌≡◌, ℕ, zero, suc, ◌+◌, ◌<◌, ◌≤◌, List, [], ◌∷◌, ◌++◌, map, refl, sym, ap, ◌∙◌, ◌⊎◌, inl, inr, arith}
use Rattle.std.specs.declared.option.Option.TheVariants.{Some}
use Rattle.std.specs.declared.cmp.Ordering.TheVariants.{Less}
use Rattle.std.specs.List.{Contains, AllByRecursion, flat_map, range_with_len}
use Rattle.std.proofs.lemmas.List.Elements.{Contains-append_cases}
use Rattle.stamp_order.specs.declared.Stamp.{Stamp}
use Rattle.protocol.specs.Operations.{Work}
use Rattle.protocol.specs.Operations.Work.{Reads, Writes}
use Rattle.protocol.specs.World.{Record}
use Rattle.protocol.specs.History.{Entry, entry_cmp, is_read, IsSorted}
use Rattle.protocol.proofs.lemmas.Entries.{less_by_stamp, less_by_kind, less_by_end, member_of}
use Rattle.protocol.proofs.lemmas.Order.{lower_time}
use Rattle.soak_loads.specs.Serial.{IsPast, AreInTurn}
use Rattle.soak_loads.proofs.Records.{stamp_of, record_entry, kind_by, IsReading}
use Rattle.soak_loads.proofs.Walk.{Stamped, IsNext, next_stamp, later, own_next}
use Rattle.lists.proofs.lemmas.Members.{Contains-head, Contains-none, Contains-rest, all_from_members}
use Rattle.lists.proofs.lemmas.Orders.{nat_less}

-- each starts by its end
abbrev pub EndsInOrder : Record → Type 0
EndsInOrder r = (end : ℕ) × (r.end ≡ Some end) × (r.start ≤ end)

kind_reads : (work : Work) → IsReading work → is_read (kind_by work) ≡ 1
kind_reads Reads i = refl
kind_reads (Writes value) i = absurd i

-- of one block, one comes before the other
less : (last : Stamp) (r q : Record) → r.block ≡ q.block → IsNext r.work r.client last (stamp_of r)
    → ((stamp_of q ≡ next_stamp r.work last (stamp_of r)) × IsReading q.work) ⊎ ((next_stamp r.work last (stamp_of r)).time < (stamp_of q).time)
    → IsPast r q → EndsInOrder q → entry_cmp (record_entry r) (record_entry q) ≡ Less
less last r q block next (inr above) past ends =
    let own = ap (λ (u : Stamp). u.time) (own_next r.work r.client last (stamp_of r) next) in
    less_by_stamp (record_entry r) (record_entry q) block (lower_time (stamp_of r) (stamp_of q) (omega arith))
less last r q block next (inl same) past ends =
    let stamps : stamp_of r ≡ stamp_of q = own_next r.work r.client last (stamp_of r) next ∙ sym same.0 in
    by r.work refl stamps
  where
    by : (work : Work) → r.work ≡ work → stamp_of r ≡ stamp_of q → entry_cmp (record_entry r) (record_entry q) ≡ Less
    by Reads e stamps =
        let kinds : is_read (kind_by r.work) ≡ is_read (kind_by q.work) = ap (λ (k : Work). is_read (kind_by k)) e ∙ sym (kind_reads q.work same.1) in
        less_by_end (record_entry r) (record_entry q) block stamps kinds past.0 ends.0 past.1 ends.1 (let p = past.2 in let o = ends.2 in omega arith)
    by (Writes value) e stamps =
        let mine : is_read (kind_by r.work) ≡ 0 = ap (λ (k : Work). is_read (kind_by k)) e in
        let yours = kind_reads q.work same.1 in
        less_by_kind (record_entry r) (record_entry q) block stamps (omega arith)

all_map : (P : Entry → Type 0) (rs : List Record) → ((q : Record) → Contains rs q → P (record_entry q)) → AllByRecursion P (map record_entry rs)
all_map P [] h = tt
all_map P (r ∷ rs) h = (h r (Contains-head r rs), all_map P rs (λ q i. h q (Contains-rest q r rs i)))

pub sorted : (block : ℕ) (last : Stamp) (rs : List Record) → Stamped last rs → AreInTurn rs → ((r : Record) → Contains rs r → (r.block ≡ block) × EndsInOrder r) → IsSorted (map record_entry rs)
sorted block last [] h turns is = tt
sorted block last (r ∷ rs) h turns is = (
  all_map (λ f. entry_cmp (record_entry r) f ≡ Less) rs
      (λ q i. less last r q ((is r (Contains-head r rs)).0 ∙ sym (is q (Contains-rest q r rs i)).0) h.0 (later (next_stamp r.work last (stamp_of r)) rs h.1 q i)
      (member_of (IsPast r) rs q turns.0 i) (is q (Contains-rest q r rs i)).1),
  sorted block (next_stamp r.work last (stamp_of r)) rs h.1 turns.1 (λ q i. is q (Contains-rest q r rs i)),
)

less_by_block : (x y : Entry) → x.block < y.block → entry_cmp x y ≡ Less
unfolding entry_cmp
less_by_block x y h = rw (nat_less x.block y.block h) refl

sorted_append : (xs ys : List Entry) → IsSorted xs → IsSorted ys → ((x y : Entry) → Contains xs x → Contains ys y → entry_cmp x y ≡ Less) → IsSorted (xs ++ ys)
sorted_append [] ys a b h = b
sorted_append (x ∷ xs) ys a b h = (both xs ys a.0 (λ y j. h x y (Contains-head x xs) j), sorted_append xs ys a.1 b (λ z y i j. h z y (Contains-rest z x xs i) j))
  where
    both : (xs ys : List Entry) → AllByRecursion (λ f. entry_cmp x f ≡ Less) xs → ((y : Entry) → Contains ys y → entry_cmp x y ≡ Less) → AllByRecursion (λ f. entry_cmp x f ≡ Less) (xs ++ ys)
    both [] ys p k = all_from_members (λ f. entry_cmp x f ≡ Less) ys k
    both (z ∷ zs) ys p k = (p.0, both zs ys p.1 k)

-- what stands in a flat map over blocks
pub in_flat : (g : ℕ → List Entry) (a n : ℕ) (e : Entry) → Contains (flat_map g (range_with_len a n)) e → (b : ℕ) × (a ≤ b) × (b < a + n) × Contains (g b) e
in_flat g a zero e there = absurd (Contains-none e there)
in_flat g a (suc n) e there = elim (Contains-append_cases (g a) (flat_map g (range_with_len (a + 1) n)) e there) [
  | inl here ↦ (a, omega arith, omega arith, here)
  | inr more ↦ (let f = in_flat g (a + 1) n e more in (f.0, (let l = f.1 in omega arith), (let l = f.2 in omega arith), f.3))
]

pub sorted_flat : (g : ℕ → List Entry) (a n : ℕ) → ((b : ℕ) → IsSorted (g b)) → ((b : ℕ) (e : Entry) → Contains (g b) e → e.block ≡ b) → IsSorted (flat_map g (range_with_len a n))
sorted_flat g a zero s is = tt
sorted_flat g a (suc n) s is =
    sorted_append (g a) (flat_map g (range_with_len (a + 1) n)) (s a) (sorted_flat g (a + 1) n s is)
    (λ x y i j.
    let f = in_flat g (a + 1) n y j in
    let mine = is a x i in
    let yours = is f.0 y f.3 in
    less_by_block x y (let l = f.1 in omega arith))
