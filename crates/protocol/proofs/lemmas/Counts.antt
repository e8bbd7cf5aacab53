-- What the counts of a run count.
use Rattle.std.proofs.Common.{◌≡◌, ◌⊎◌, ◌↔◌, ℕ, ◌+◌, ◌<◌, Bool, true, false, cond, not, ◌||◌, List, [], ◌∷◌, filter, map, length, count_by, Option, refl, sym, ◌∙◌, ap, inl, inr, arith, eqb}
use Rattle.std.specs.declared.option.Option.TheVariants.{None, Some}
use Rattle.std.specs.declared.cmp.Ordering.TheVariants.{Less}
use Rattle.std.specs.List.{Contains, AllByRecursion, IsDistinct, list_any, cons_option}
use Rattle.std.proofs.lemmas.List.{length-map}
use Rattle.std.proofs.lemmas.List.Sums.{length-filter, sum_by-cons}
use Rattle.std.proofs.lemmas.Map.Made.{length-from_same_keys}
use Rattle.std.proofs.lemmas.Cmp.{nat_eq_equiv}
use Rattle.stamp_order.specs.declared.Stamp.{Stamp}
use Rattle.protocol.specs.Setting.{Setting, first_stamp}
use Rattle.protocol.specs.Operations.{Work, Outcome, How}
use Rattle.protocol.specs.Operations.Work.{Reads, Writes}
use Rattle.run_words.specs.declared.outcome.Outcome.TheVariants.{Wrote, Spent, Gave, Outvoted}
use Rattle.protocol.specs.World.{World, Record}
use Rattle.protocol.specs.History.{Entry, read_entry, write_entry, entry_cmp, IsSorted, IsRead, IsWrite, IsEntry, IsHistory}
use Rattle.protocol.specs.Report.{SpentWrite, IsSpentWrite, Ascend, spent_write, spent_writes, is_done, is_spent, is_pending, is_ended, counts_of}
use Rattle.protocol.proofs.Histories.{outcome_at, not_outvoted, read_end}
use Rattle.protocol.proofs.lemmas.Entries.{start_made, end_made, not_self, member_of}
use Rattle.protocol.proofs.Invariant.{IsSafe, IsRecord, IsOutcome}
use Rattle.protocol.proofs.Apart.{IsApart}
use Rattle.protocol.proofs.lemmas.Starts.{starts}
use Rattle.lists.proofs.lemmas.Members.{Contains-head, Contains-none, Contains-rest, Contains-cons_cases, Contains-map_cases, Contains-map, filter_is, filter_has}
use Rattle.std.proofs.lemmas.Bool.{eqb-true, eq-eqb, or_cases, ne_eqb, cases_Bool}

-- ---- lists

any_has : (ns : List ℕ) (q : ℕ) → list_any (eqb q) ns ≡ true → Contains ns q
any_has [] q h = absurd (cc)
any_has (n ∷ ns) q h = let rest = any_has ns q in elim (or_cases (eqb q n) (list_any (eqb q) ns) h) [ inl e ↦ rw (eqb-true q n e) (Contains-head n ns) | inr k ↦ Contains-rest q n ns (rest k) ]

has_any : (ns : List ℕ) (q : ℕ) → Contains ns q → list_any (eqb q) ns ≡ true
has_any [] q h = absurd (Contains-none q h)
has_any (n ∷ ns) q h = let rest = has_any ns q in elim (Contains-cons_cases q n ns h) [ inl e ↦ rw (e, eq-eqb n n refl) refl | inr k ↦ rw (rest k) (at (eqb q n)) ]
  where
    at : (b : Bool) → b || true ≡ true
    at true = refl
    at false = refl

alike : (ms ns : List ℕ) → ((q : ℕ) → Contains ms q → Contains ns q) → ((q : ℕ) → Contains ns q → Contains ms q) → (q : ℕ) → list_any (eqb q) ms ≡ list_any (eqb q) ns
alike ms ns to from q = elim (cases_Bool (list_any (eqb q) ms)) [
  | inl e ↦ e ∙ sym (has_any ns q (to q (any_has ms q e)))
  | inr e ↦ elim (cases_Bool (list_any (eqb q) ns)) [ inl f ↦ absurd (let k = has_any ms q (from q (any_has ns q f)) in cc) | inr f ↦ e ∙ sym f ]
]

-- two lists whose members that pass have the same numbers, each once
same_count : {X Y : Type 0} (p : X → Bool) (q : Y → Bool) (f : X → ℕ) (g : Y → ℕ) (xs : List X) (ys : List Y)
    → IsDistinct eqb (map f (filter p xs)) → IsDistinct eqb (map g (filter q ys))
    → ((x : X) → Contains xs x → p x ≡ true → (y : Y) × Contains ys y × (q y ≡ true) × (g y ≡ f x))
    → ((y : Y) → Contains ys y → q y ≡ true → (x : X) × Contains xs x × (p x ≡ true) × (f x ≡ g y))
    → count_by p xs ≡ count_by q ys
same_count p q f g xs ys a b to from =
    let k = length-from_same_keys nat_eq_equiv (map f (filter p xs)) (map g (filter q ys)) a b
    (alike _ _
    (λ n h.
    let m = Contains-map_cases f (filter p xs) n h in
    let w = filter_is p xs m.0 m.1 in
    let t = to m.0 w.0 w.1 in
    rw (m.2 ∙ sym t.3) (Contains-map g (filter q ys) t.0 (filter_has q ys t.0 t.1 t.2)))
    (λ n h.
    let m = Contains-map_cases g (filter q ys) n h in
    let w = filter_is q ys m.0 m.1 in
    let t = from m.0 w.0 w.1 in
    rw (m.2 ∙ sym t.3) (Contains-map f (filter p xs) t.0 (filter_has p xs t.0 t.1 t.2)))) in
    sym (length-filter p xs) ∙ sym (length-map (filter p xs) f) ∙ k ∙ length-map (filter q ys) g ∙ length-filter q ys

apart_map : {X : Type 0} (p : X → Bool) (f : X → ℕ) (n : ℕ) (xs : List X) → ((x : X) → Contains xs x → p x ≡ true → n ≡ f x → ⊥) → AllByRecursion (λ y. eqb n y ≡ false) (map f (filter p xs))
apart_map p f n [] h = tt
apart_map {X} p f n (x ∷ xs) h = at (p x) refl (apart_map p f n xs (λ y k. h y (Contains-rest y x xs k)))
  where
    at : (b : Bool) → p x ≡ b → AllByRecursion (λ y. eqb n y ≡ false) (map f (filter p xs)) → AllByRecursion (λ y. eqb n y ≡ false) (map f (cond b (x ∷ filter p xs) (filter p xs)))
    at true t rest = (ne_eqb n (f x) (h x (Contains-head x xs) t), rest)
    at false t rest = rest

-- ---- the numbers of records and of entries

module _ (p : Record → Bool) where
  distinct_starts : (rs : List Record) → Ascend (starts rs) → IsDistinct eqb (map (λ r. r.start) (filter p rs))
  unfolding IsDistinct
  distinct_starts [] h = tt
  distinct_starts (r ∷ rs) h = at (p r) (distinct_starts rs h.1)
    where
      above : (x : Record) → Contains rs x → r.start < x.start
      above x k = member_of (λ n. r.start < n) (starts rs) x.start h.0 (Contains-map (λ (y : Record). y.start) rs x k)

      at : (b : Bool) → IsDistinct eqb (map (λ r. r.start) (filter p rs)) → IsDistinct eqb (map (λ r. r.start) (cond b (r ∷ filter p rs) (filter p rs)))
      at true rest = (apart_map p (λ r. r.start) r.start rs (λ x k t e. let l = above x k in omega (arith, l, e)), rest)
      at false rest = rest

start_or : Option ℕ → ℕ
start_or None = 0
start_or (Some n) = n

start_of : Entry → ℕ
start_of e = start_or e.start

distinct_entries : (h : List Entry) → IsSorted h → ((e f : Entry) → Contains h e → Contains h f → is_ended e ≡ true → is_ended f ≡ true → start_of e ≡ start_of f → e ≡ f) → IsDistinct eqb (map start_of (filter is_ended h))
unfolding IsDistinct
distinct_entries [] sorted h = tt
distinct_entries (e ∷ es) sorted h = at (is_ended e) refl (distinct_entries es sorted.1 (λ a b k l. h a b (Contains-rest a e es k) (Contains-rest b e es l)))
  where
    at : (b : Bool) → is_ended e ≡ b → IsDistinct eqb (map start_of (filter is_ended es)) → IsDistinct eqb (map start_of (cond b (e ∷ filter is_ended es) (filter is_ended es)))
    at true t rest = (
      apart_map is_ended start_of (start_of e) es (λ f k u q.
          let same_one = h e f (Contains-head e es) (Contains-rest f e es k) t u q in
          not_self e (let l = member_of (λ (f : Entry). entry_cmp e f ≡ Less) es f sorted.0 k in rw (← same_one) at l)),
      rest,
    )
    at false t rest = rest

-- ---- completed operations are the entries that have an end

no_end : (e : Entry) → e.end ≡ None → is_ended e ≡ true → ⊥
no_end e q h = absurd (let k : not (is_pending None) ≡ true = rw q at h in cc)

an_end : (e : Entry) (end : ℕ) → e.end ≡ Some end → is_ended e ≡ true
an_end e end q = rw q refl

start_is : (e : Entry) (n : ℕ) → e.start ≡ Some n → start_of e ≡ n
unfolding start_of start_or
start_is e n q = ap start_or q

module _ (s : Setting) (w : World) (safe : IsSafe s w) (apart : IsApart w.records) where
  -- an entry that has an end is a completed read's or a completed write's
  data Ended (e : Entry) : Type 0 where
    of_read : IsRead w.records e → Ended e
    of_write : (h : IsWrite w.records e) → h.write.outcome ≡ Some (Wrote e.stamp) → Ended e

  ended : (e : Entry) → IsEntry w.records (first_stamp s) e → is_ended e ≡ true → Ended e
  ended e (inl h) t = of_read h
  ended e (inr (inl h)) t = elim h.stands [ inl k ↦ of_write h k | inr k ↦ absurd (no_end e (end_made h.made ∙ k.pending) t) ]
  ended e (inr (inr h)) t = absurd (no_end e (end_made h.1.made) t)

  one_record : (e f : Entry) (r q : Record) → Contains w.records r → Contains w.records q → e.start ≡ Some r.start → f.start ≡ Some q.start → start_of e ≡ start_of f → r ≡ q
  one_record e f r q h k a b same = apart.starts r q h k (sym (start_is e r.start a) ∙ same ∙ start_is f q.start b)

  gave_stamp : (o : Option Outcome) (a b : Stamp) (u v : List ℕ) (h k : How) (m n : ℕ) → o ≡ Some (Gave a u h m) → o ≡ Some (Gave b v k n) → (a ≡ b) × (u ≡ v)
  gave_stamp o a b u v h k m n f g = let q : Some (Gave a u h m) ≡ Some (Gave b v k n) = sym f ∙ g in (cc, cc)

  wrote_stamp : (o : Option Outcome) (a b : Stamp) → o ≡ Some (Wrote a) → o ≡ Some (Wrote b) → a ≡ b
  wrote_stamp o a b f g = let q : Some (Wrote a) ≡ Some (Wrote b) = sym f ∙ g in cc

  written : (o : Work) (u v : List ℕ) → o ≡ Writes u → o ≡ Writes v → u ≡ v
  written o u v f g = let q : Writes u ≡ Writes v = sym f ∙ g in cc

  not_both_kinds : (o : Option Outcome) (a b : Stamp) (u : List ℕ) (h : How) (m : ℕ) → o ≡ Some (Gave a u h m) → o ≡ Some (Wrote b) → ⊥
  not_both_kinds o a b u h m f g = let q : Some (Gave a u h m) ≡ Some (Wrote b) = sym f ∙ g in cc

  one_start : (e f : Entry) → Ended e → Ended f → start_of e ≡ start_of f → e ≡ f
  one_start e f (of_read h) (of_read k) same =
      let one = one_record e f h.read k.read h.there k.there (start_made h.made) (start_made k.made) same in
      let given = gave_stamp h.read.outcome e.stamp f.stamp e.value f.value h.how k.how h.rounds k.rounds h.gave (ap (λ (t : Record). t.outcome) one ∙ k.gave) in
      h.made ∙ (λ i. read_entry (one i) (given.0 i) (given.1 i)) ∙ sym k.made
  one_start e f (of_write h o) (of_write k p) same =
      let one = one_record e f h.write k.write h.there k.there (start_made h.made) (start_made k.made) same in
      let stamp = wrote_stamp h.write.outcome e.stamp f.stamp o (ap (λ (t : Record). t.outcome) one ∙ p) in
      let value = written h.write.work e.value f.value h.writes (ap (λ (t : Record). t.work) one ∙ k.writes) in
      h.made ∙ (λ i. write_entry (one i) (stamp i) (value i)) ∙ sym k.made
  one_start e f (of_read h) (of_write k p) same =
      let one = one_record e f h.read k.write h.there k.there (start_made h.made) (start_made k.made) same in
      absurd (not_both_kinds h.read.outcome e.stamp f.stamp e.value h.how h.rounds h.gave (ap (λ (t : Record). t.outcome) one ∙ p))
  one_start e f (of_write h o) (of_read k) same =
      let one = one_record e f h.write k.read h.there k.there (start_made h.made) (start_made k.made) same in
      absurd (not_both_kinds k.read.outcome f.stamp e.stamp f.value k.how k.rounds k.gave (ap (λ (t : Record). t.outcome) (sym one) ∙ o))

  has_done : (e : Entry) → Ended e → (r : Record) × Contains w.records r × (is_done r.outcome ≡ true) × (r.start ≡ start_of e)
  has_done e (of_read h) = (h.read, h.there, rw h.gave refl, sym (start_is e h.read.start (start_made h.made)))
  has_done e (of_write h o) = (h.write, h.there, rw o refl, sym (start_is e h.write.start (start_made h.made)))

  module _ (h : List Entry) (hist : IsHistory s w h) where
    Found : Record → Type 0
    Found r = (e : Entry) × Contains h e × (is_ended e ≡ true) × (start_of e ≡ r.start)

    wrote_entry : (r : Record) → Contains w.records r → (stamp : Stamp) → r.outcome ≡ Some (Wrote stamp) → (work : Work) → r.work ≡ work → IsOutcome s work r.stamp (Some (Wrote stamp)) → Found r
    unfolding Found start_of start_or
    wrote_entry r there stamp o Reads e k = absurd k
    wrote_entry r there stamp o (Writes value) e k =
        let z = read_end s w safe r (Wrote stamp) there o in
        let x = write_entry r stamp value in
        (x, (hist.1 x).1 (inr (inl (record { write = r; there = there; writes = e; chose = k.0; stands = inl o; made = refl }))), an_end x z.0 z.1, refl)

    gave_entry : (r : Record) → Contains w.records r → (stamp : Stamp) (value : List ℕ) (how : How) (rounds : ℕ) → r.outcome ≡ Some (Gave stamp value how rounds) → Found r
    unfolding Found start_of start_or
    gave_entry r there stamp value how rounds o =
        let z = read_end s w safe r (Gave stamp value how rounds) there o in
        let x = read_entry r stamp value in
        (x, (hist.1 x).1 (inl (record { read = r; there = there; how = how; rounds = rounds; gave = o; made = refl })), an_end x z.0 z.1, refl)

    done_entry : (r : Record) → Contains w.records r → (o : Option Outcome) → r.outcome ≡ o → is_done o ≡ true → Found r
    done_entry r there None e t = absurd (cc)
    done_entry r there (Some (Wrote stamp)) e t = wrote_entry r there stamp e r.work refl (outcome_at s r (Some (Wrote stamp)) e (safe.records r there).outcome)
    done_entry r there (Some Spent) e t = absurd (cc)
    done_entry r there (Some (Gave stamp value how rounds)) e t = gave_entry r there stamp value how rounds e
    done_entry r there (Some (Outvoted nodes)) e t = absurd (cc)

    pub done_count : Ascend (starts w.records) → (counts_of w.records).done ≡ count_by is_ended h
    unfolding Found
    done_count up =
        same_count (λ r. is_done r.outcome) is_ended (λ r. r.start) start_of w.records h
        (distinct_starts (λ r. is_done r.outcome) w.records up)
        (distinct_entries h hist.0 (λ e f k l t u q. one_start e f (ended e ((hist.1 e).0 k) t) (ended f ((hist.1 f).0 l) u) q))
        (λ r k t. done_entry r k r.outcome refl t)
        (λ e k t. has_done e (ended e ((hist.1 e).0 k) t))

-- ---- each operation is done, spent or pending

-- which of the three an operation is
data Is (r : Record) : Type 0 where
  done : is_done r.outcome ≡ true → is_spent r.outcome ≡ false → is_pending r.end ≡ false → Is r
  spent : is_done r.outcome ≡ false → is_spent r.outcome ≡ true → is_pending r.end ≡ false → Is r
  pending : is_done r.outcome ≡ false → is_spent r.outcome ≡ false → is_pending r.end ≡ true → Is r

is_one : (s : Setting) (w : World) (r : Record) → IsRecord s w r → Is r
is_one s w r k = at r.end r.outcome refl refl
  where
    with_outcome : (o : Option Outcome) → r.outcome ≡ o → IsOutcome s r.work r.stamp o
    with_outcome o e = let h = k.outcome in rw e at h

    at : (z : Option ℕ) (o : Option Outcome) → r.end ≡ z → r.outcome ≡ o → Is r
    at None o e f = let n = k.open_end e in pending (rw n refl) (rw n refl) (rw e refl)
    at (Some end) None e f = absurd (let c = k.closed_end end e in let g = c.1 in cc)
    at (Some end) (Some (Wrote stamp)) e f = done (rw f refl) (rw f refl) (rw e refl)
    at (Some end) (Some Spent) e f = spent (rw f refl) (rw f refl) (rw e refl)
    at (Some end) (Some (Gave stamp value how rounds)) e f = done (rw f refl) (rw f refl) (rw e refl)
    at (Some end) (Some (Outvoted nodes)) e f = absurd (not_outvoted s r.work r.stamp nodes (with_outcome (Some (Outvoted nodes)) f))

bits : (r : Record) → Is r → (cond {A = ℕ} (is_done r.outcome) 1 0) + (cond {A = ℕ} (is_spent r.outcome) 1 0) + (cond {A = ℕ} (is_pending r.end) 1 0) ≡ 1
bits r (done a b c) = rw (a, b, c) refl
bits r (spent a b c) = rw (a, b, c) refl
bits r (pending a b c) = rw (a, b, c) refl

all_three : (rs : List Record) → ((r : Record) → Contains rs r → Is r) → count_by (λ r. is_done r.outcome) rs + count_by (λ r. is_spent r.outcome) rs + count_by (λ r. is_pending r.end) rs ≡ length rs
all_three [] h = refl
all_three (r ∷ rs) h =
    let rest = all_three rs (λ x k. h x (Contains-rest x r rs k)) in
    let a = sum_by-cons (λ (x : Record). cond {A = ℕ} (is_done x.outcome) 1 0) r rs in
    let b = sum_by-cons (λ (x : Record). cond {A = ℕ} (is_spent x.outcome) 1 0) r rs in
    let c = sum_by-cons (λ (x : Record). cond {A = ℕ} (is_pending x.end) 1 0) r rs in
    let one = bits r (h r (Contains-head r rs)) in
    rw (a, b, c) (omega (arith, rest, one))

pub total_count : (s : Setting) (w : World) → IsSafe s w → (counts_of w.records).done + (counts_of w.records).spent + (counts_of w.records).pending ≡ length w.records
total_count s w safe = all_three w.records (λ r h. is_one s w r (safe.records r h))

-- ---- the writes that ended as spent

spent_is : (r : Record) (o : Option Outcome) (z : Option ℕ) (x : SpentWrite) → spent_write r o z ≡ Some x → (o ≡ Some Spent) × (r.client ≡ x.client) × (r.start ≡ x.start) × (z ≡ Some x.end)
spent_is r (Some Spent) (Some end) x e = let q : record { client = r.client; start = r.start; end = end } ≡ x = cc in (refl, ap (λ (y : SpentWrite). y.client) q, ap (λ (y : SpentWrite). y.start) q, ap (λ (y : SpentWrite). Some y.end) q)
spent_is r (Some Spent) None x e = absurd (cc)
spent_is r None z x e = absurd (cc)
spent_is r (Some (Wrote stamp)) z x e = absurd (cc)
spent_is r (Some (Gave stamp value how rounds)) z x e = absurd (cc)
spent_is r (Some (Outvoted nodes)) z x e = absurd (cc)

spent_was : (rs : List Record) (x : SpentWrite) → Contains (spent_writes rs) x → IsSpentWrite rs x
spent_was [] x h = absurd (Contains-none x h)
spent_was (r ∷ rs) x h = at (spent_write r r.outcome r.end) refl h (spent_was rs x)
  where
    later : IsSpentWrite rs x → IsSpentWrite (r ∷ rs) x
    later k = (k.0, Contains-rest k.0 r rs k.1, k.2, k.3, k.4, k.5)

    at : (o : Option SpentWrite) → spent_write r r.outcome r.end ≡ o → Contains (cons_option o (spent_writes rs)) x → (Contains (spent_writes rs) x → IsSpentWrite rs x) → IsSpentWrite (r ∷ rs) x
    at None e k rest = later (rest k)
    at (Some y) e k rest = elim (Contains-cons_cases x y (spent_writes rs) k) [
      | inl q ↦ (let g = spent_is r r.outcome r.end x (e ∙ ap Some (sym q)) in (r, Contains-head r rs, g.0, g.1, g.2, g.3))
      | inr l ↦ later (rest l)
    ]

has_spent : (rs : List Record) (x : SpentWrite) (r : Record) → Contains rs r → spent_write r r.outcome r.end ≡ Some x → Contains (spent_writes rs) x
has_spent [] x r h e = absurd (Contains-none r h)
has_spent (y ∷ rs) x r h e = at (spent_write y y.outcome y.end) refl (Contains-cons_cases r y rs h) (λ k. has_spent rs x r k e)
  where
    at : (o : Option SpentWrite) → spent_write y y.outcome y.end ≡ o → (r ≡ y) ⊎ Contains rs r → (Contains rs r → Contains (spent_writes rs) x) → Contains (cons_option o (spent_writes rs)) x
    at o f (inl q) rest = let g : o ≡ Some x = sym f ∙ ap (λ (t : Record). spent_write t t.outcome t.end) (sym q) ∙ e in rw g (Contains-head x (spent_writes rs))
    at None f (inr k) rest = rest k
    at (Some z) f (inr k) rest = Contains-rest x z (spent_writes rs) (rest k)

pub spent_writes_are : (rs : List Record) (x : SpentWrite) → Contains (spent_writes rs) x ↔ IsSpentWrite rs x
spent_writes_are rs x = (
  spent_was rs x,
  λ k. has_spent rs x k.0 k.1 (rw (k.2, k.5) (ap Some (made x k.0.client k.0.start k.3 k.4))),
)
  where
    made : (x : SpentWrite) (client start : ℕ) → client ≡ x.client → start ≡ x.start → record { client = client; start = start; end = x.end } ≡ x
    made x client start a b j = record { client = a j; start = b j; end = x.end }

above_spent : (rs : List Record) (n : ℕ) → AllByRecursion (λ m. n < m) (starts rs) → (xs : List SpentWrite) → ((x : SpentWrite) → Contains xs x → IsSpentWrite rs x) → AllByRecursion (λ m. n < m) (map (λ x. x.start) xs)
above_spent rs n h [] k = tt
above_spent rs n h (x ∷ xs) k =
    let g = k x (Contains-head x xs) in
    let l = member_of (λ m. n < m) (starts rs) g.0.start h (Contains-map (λ (y : Record). y.start) rs g.0 g.1) in
    (omega (arith, l, g.4), above_spent rs n h xs (λ y m. k y (Contains-rest y x xs m)))

pub spent_ascend : (rs : List Record) → Ascend (starts rs) → Ascend (map (λ x. x.start) (spent_writes rs))
spent_ascend [] up = tt
spent_ascend (r ∷ rs) up = at (spent_write r r.outcome r.end) refl (spent_ascend rs up.1)
  where
    at : (o : Option SpentWrite) → spent_write r r.outcome r.end ≡ o → Ascend (map (λ x. x.start) (spent_writes rs)) → Ascend (map (λ x. x.start) (cons_option o (spent_writes rs)))
    at None e rest = rest
    at (Some x) e rest = let g = (spent_is r r.outcome r.end x e).2 in (above_spent rs x.start (rw g at up.0) (spent_writes rs) (spent_was rs), rest)

length_spent : (rs : List Record) → ((r : Record) → Contains rs r → is_spent r.outcome ≡ true → is_pending r.end ≡ false) → count_by (λ r. is_spent r.outcome) rs ≡ length (spent_writes rs)
length_spent [] h = refl
length_spent (r ∷ rs) h =
    let rest = length_spent rs (λ x k. h x (Contains-rest x r rs k)) in
    let a = sum_by-cons (λ (x : Record). cond {A = ℕ} (is_spent x.outcome) 1 0) r rs in
    a ∙ ap (λ n. cond {A = ℕ} (is_spent r.outcome) 1 0 + n) rest ∙ at r.outcome r.end (h r (Contains-head r rs)) (spent_writes rs)
  where
    at : (o : Option Outcome) (z : Option ℕ) → (is_spent o ≡ true → is_pending z ≡ false) → (xs : List SpentWrite) → cond {A = ℕ} (is_spent o) 1 0 + length xs ≡ length (cons_option (spent_write r o z) xs)
    at (Some Spent) (Some end) k xs = omega arith
    at (Some Spent) None k xs = absurd (let q = k refl in cc)
    at None z k xs = omega arith
    at (Some (Wrote stamp)) z k xs = omega arith
    at (Some (Gave stamp value how rounds)) z k xs = omega arith
    at (Some (Outvoted nodes)) z k xs = omega arith

pub spent_count : (s : Setting) (w : World) → IsSafe s w → (counts_of w.records).spent ≡ length (spent_writes w.records)
spent_count s w safe = length_spent w.records (λ r h t. ended_one r (is_one s w r (safe.records r h)) t)
  where
    ended_one : (r : Record) → Is r → is_spent r.outcome ≡ true → is_pending r.end ≡ false
    ended_one r (done a b c) t = c
    ended_one r (spent a b c) t = c
    ended_one r (pending a b c) t = absurd (cc)
