-- Each world of a run has a history.
use Rattle.std.proofs.Common.{◌≡◌, ◌⊎◌, ◌≢◌, ◌↔◌, ℕ, ◌≤◌, false, List, [], ◌∷◌, ◌++◌, Option, refl, sym, ◌∙◌, ap, inl, inr, arith}
use Rattle.std.specs.declared.option.Option.TheVariants.{None, Some}
use Rattle.std.specs.declared.cmp.Ordering.{Ordering}
use Rattle.std.specs.declared.cmp.Ordering.TheVariants.{Less, Equal, Greater}
use Rattle.std.specs.Ordering.{ordering_reverse}
use Rattle.std.specs.List.{Contains}
use Rattle.std.proofs.lemmas.List.Elements.{Contains-append_cases, Contains-append_left, Contains-append_right}
use Rattle.stamp_order.specs.declared.Stamp.{Stamp}
use Rattle.stamp_order.specs.Stamps.{same_stamp}
use Rattle.protocol.specs.Setting.{Setting, first_stamp}
use Rattle.protocol.specs.Operations.{Work, Outcome, How}
use Rattle.protocol.specs.Operations.Work.{Reads, Writes}
use Rattle.run_words.specs.declared.outcome.Outcome.TheVariants.{Wrote, Spent, Gave, Outvoted}
use Rattle.protocol.specs.World.{World, Record}
use Rattle.protocol.specs.History.{Entry, read_entry, write_entry, foreign_entry, entry_cmp, IsSorted, IsEntry, IsDue, IsForeign, HasRead, HasWrite, IsHistory}
use Rattle.protocol.proofs.lemmas.Order.{same_stamp-≡, same_stamp-refl}
use Rattle.protocol.proofs.lemmas.Entries.{block_made, made_of, entry_total, member_of}
use Rattle.protocol.proofs.Searches.{find_write, find_read, FirstRead}
use Rattle.protocol.proofs.Invariant.{IsSafe}
use Rattle.protocol.proofs.Apart.{IsApart}
use Rattle.protocol.proofs.lemmas.Keys.{one_key}
use Rattle.lists.proofs.lemmas.Members.{Contains-head, Contains-none, Contains-rest, Contains-cons_cases, Contains-one, all_from_members}
use Rattle.std.proofs.lemmas.Bool.{cases_Bool}

-- all entries of which P holds, in a list
abbrev HasAll : (Entry → Type 0) → Type 0
HasAll P = (xs : List Entry) × ((e : Entry) → Contains xs e ↔ P e)

none_all : (P : Entry → Type 0) → ((e : Entry) → P e → ⊥) → HasAll P
none_all P h = ([], λ e. ((λ k. absurd (Contains-none e k)), (λ k. absurd (h e k))))

one_all : (P : Entry → Type 0) (x : Entry) → P x → ((e : Entry) → P e → e ≡ x) → HasAll P
one_all P x p h = (x ∷ [], λ e. ((λ k. let q = Contains-one e x k in rw q p), (λ k. let q = h e k in rw q (Contains-head x []))))

both_all : (P Q : Entry → Type 0) → HasAll P → HasAll Q → HasAll (λ e. P e ⊎ Q e)
both_all P Q a b = (
  a.0 ++ b.0,
  λ e. (
    (λ k. elim (Contains-append_cases a.0 b.0 e k) [ inl l ↦ inl ((a.1 e).0 l) | inr l ↦ inr ((b.1 e).0 l) ]),
    (λ k. elim k [ inl l ↦ Contains-append_left a.0 b.0 e ((a.1 e).1 l) | inr l ↦ Contains-append_right a.0 b.0 e ((b.1 e).1 l) ]),
  ),
)

abbrev OfSome : (Record → Entry → Type 0) → List Record → Entry → Type 0
OfSome F rs e = (r : Record) × Contains rs r × F r e

list_all : (F : Record → Entry → Type 0) → ((r : Record) → HasAll (F r)) → (rs : List Record) → HasAll (OfSome F rs)
list_all F each [] = none_all (OfSome F []) (λ e h. Contains-none h.0 h.1)
list_all F each (r ∷ rs) =
    let rest = list_all F each rs in
    let both = both_all (F r) (OfSome F rs) (each r) rest in (
      both.0,
      λ e. (
        (λ k. elim ((both.1 e).0 k) [ inl l ↦ (r, Contains-head r rs, l) | inr l ↦ (l.0, Contains-rest l.0 r rs l.1, l.2) ]),
        (λ k. (both.1 e).1 (elim (Contains-cons_cases k.0 r rs k.1) [ inl q ↦ inl (let f = k.2 in rw q at f) | inr l ↦ inr (k.0, l, k.2) ])),
      ),
    )

-- sorting
module _ (P : Entry → Type 0) (one : (e f : Entry) → P e → P f → entry_cmp e f ≡ Equal → e ≡ f) where
  abbrev IsPut : Entry → List Entry → Type 0
  IsPut x ys = (zs : List Entry) × IsSorted zs × ((e : Entry) → Contains zs e ↔ ((e ≡ x) ⊎ Contains ys e))

  put : (x : Entry) (ys : List Entry) → P x → ((y : Entry) → Contains ys y → P y) → IsSorted ys → IsPut x ys
  put x [] p h s = (x ∷ [], (tt, tt), λ e. ((λ k. inl (Contains-one e x k)), (λ k. elim k [ inl q ↦ rw q (Contains-head x []) | inr l ↦ absurd (Contains-none e l) ])))
  put x (y ∷ ys) p h s = at (entry_cmp x y) refl (put x ys p (λ z k. h z (Contains-rest z y ys k)) s.1)
    where
      at : (o : Ordering) → entry_cmp x y ≡ o → IsPut x ys → IsPut x (y ∷ ys)
      at Less e rest = (
        x ∷ y ∷ ys,
        (
          all_from_members (λ f. entry_cmp x f ≡ Less) (y ∷ ys) (λ f k. elim (Contains-cons_cases f y ys k)
              [ inl q ↦ rw q e | inr l ↦ entry_total.trans x y f e (member_of (λ g. entry_cmp y g ≡ Less) ys f s.0 l) ]),
          s,
        ),
        λ f. ((λ k. Contains-cons_cases f x (y ∷ ys) k), (λ k. elim k [ inl q ↦ rw q (Contains-head x (y ∷ ys)) | inr l ↦ Contains-rest f x (y ∷ ys) l ])),
      )
      at Equal e rest = let q = one x y p (h y (Contains-head y ys)) e in (
        y ∷ ys,
        s,
        λ f. ((λ k. inr k), (λ k. elim k [ inl g ↦ rw (g ∙ q) (Contains-head y ys) | inr l ↦ l ])),
      )
      at Greater e rest =
          let less : entry_cmp y x ≡ Less = entry_total.antisymm y x ∙ ap ordering_reverse e in (
            y ∷ rest.0,
            (all_from_members (λ f. entry_cmp y f ≡ Less) rest.0 (λ f k. elim ((rest.2 f).0 k) [ inl q ↦ rw q less | inr l ↦ member_of (λ g. entry_cmp y g ≡ Less) ys f s.0 l ]), rest.1),
            λ f. (
              (λ k. elim (Contains-cons_cases f y rest.0 k) [ inl q ↦ inr (rw q (Contains-head y ys)) | inr l ↦ elim ((rest.2 f).0 l) [ inl g ↦ inl g | inr g ↦ inr (Contains-rest f y ys g) ] ]),
              (λ k. elim k [
                | inl q ↦ Contains-rest f y rest.0 ((rest.2 f).1 (inl q))
                | inr l ↦ elim (Contains-cons_cases f y ys l) [ inl q ↦ rw q (Contains-head y rest.0) | inr g ↦ Contains-rest f y rest.0 ((rest.2 f).1 (inr g)) ]
              ]),
            ),
          )

  sorted_all : (xs : List Entry) → ((e : Entry) → Contains xs e → P e) → (zs : List Entry) × IsSorted zs × ((e : Entry) → Contains zs e ↔ Contains xs e)
  sorted_all [] h = ([], tt, λ e. ((λ k. k), (λ k. k)))
  sorted_all (x ∷ xs) h =
      let rest = sorted_all xs (λ e k. h e (Contains-rest e x xs k)) in
      let r = put x rest.0 (h x (Contains-head x xs)) (λ y k. h y (Contains-rest y x xs ((rest.2 y).0 k))) rest.1 in (
        r.0,
        r.1,
        λ e. (
          (λ k. elim ((r.2 e).0 k) [ inl q ↦ rw q (Contains-head x xs) | inr l ↦ Contains-rest e x xs ((rest.2 e).0 l) ]),
          (λ k. (r.2 e).1 (elim (Contains-cons_cases e x xs k) [ inl q ↦ inl q | inr l ↦ inr ((rest.2 e).1 l) ])),
        ),
      )

module _ (s : Setting) (w : World) (safe : IsSafe s w) (apart : IsApart w.records) where
  abbrev rs : List Record
  rs = w.records

  -- the entry of a completed read
  record ReadOf (r : Record) (e : Entry) : Type 0 where
    how : How
    rounds : ℕ
    gave : r.outcome ≡ Some (Gave e.stamp e.value how rounds)
    made : e ≡ read_entry r e.stamp e.value

  read_of : (r : Record) (o : Option Outcome) → r.outcome ≡ o → HasAll (ReadOf r)
  read_of r None q = none_all (ReadOf r) (λ e h. let k = h.gave in cc)
  read_of r (Some (Wrote t)) q = none_all (ReadOf r) (λ e h. let k = h.gave in cc)
  read_of r (Some Spent) q = none_all (ReadOf r) (λ e h. let k = h.gave in cc)
  read_of r (Some (Outvoted nodes)) q = none_all (ReadOf r) (λ e h. let k = h.gave in cc)
  read_of r (Some (Gave t v how n)) q =
      one_all (ReadOf r) (read_entry r t v) (record { how = how; rounds = n; gave = q; made = refl })
      (λ e h. let k : Some (Gave e.stamp e.value h.how h.rounds) ≡ Some (Gave t v how n) = sym h.gave ∙ q in
      made_of (read_entry r) e t v h.made (cc k) (cc k))

  -- the entry of a write
  record WriteOf (r : Record) (e : Entry) : Type 0 where
    work : r.work ≡ Writes e.value
    stamp : r.stamp ≡ Some e.stamp
    due : IsDue rs r e.block e.stamp
    made : e ≡ write_entry r e.stamp e.value

  wrote_at : (o : Option Outcome) (t : Stamp) → (o ≡ Some (Wrote t)) ⊎ (o ≡ Some (Wrote t) → ⊥)
  wrote_at None t = inr (λ e. cc)
  wrote_at (Some (Wrote u)) t = elim (cases_Bool (same_stamp u t)) [
    | inl e ↦ inl (ap (λ (x : Stamp). Some (Wrote x)) (same_stamp-≡ u t e))
    | inr e ↦ inr (λ q. let p : u ≡ t = cc in let k : same_stamp t t ≡ false = rw p at e in let l = same_stamp-refl t in cc)
  ]
  wrote_at (Some Spent) t = inr (λ e. cc)
  wrote_at (Some (Gave u v how n)) t = inr (λ e. cc)
  wrote_at (Some (Outvoted nodes)) t = inr (λ e. cc)

  due_at : (r : Record) (t : Stamp) (end : Option ℕ) → r.end ≡ end → IsDue rs r r.block t ⊎ (IsDue rs r r.block t → ⊥)
  due_at r t end e = elim (wrote_at r.outcome t) [
    | inl h ↦ inl (inl h)
    | inr n ↦ pending end e (find_read r.block t rs) n
  ]
    where
      pending : (end : Option ℕ) → r.end ≡ end → FirstRead r.block t rs ⊎ ((value : List ℕ) (end : ℕ) → HasRead rs r.block t value end → ⊥) → (r.outcome ≡ Some (Wrote t) → ⊥) → IsDue rs r r.block t ⊎ (IsDue rs r r.block t → ⊥)
      pending None e (inl h) n = inl (inr (record { pending = e; value = h.value; end = h.end; seen = h.is }))
      pending None e (inr m) n = inr (λ d. elim d [ inl k ↦ n k | inr k ↦ m k.value k.end k.seen ])
      pending (Some x) e h n = inr (λ d. elim d [ inl k ↦ n k | inr k ↦ (let q = k.pending in cc) ])

  write_of : (r : Record) (work : Work) → r.work ≡ work → (stamp : Option Stamp) → r.stamp ≡ stamp → HasAll (WriteOf r)
  write_of r Reads e stamp f = none_all (WriteOf r) (λ x h. let k = h.work in cc)
  write_of r (Writes v) e None f = none_all (WriteOf r) (λ x h. let k = h.stamp in cc)
  write_of r (Writes v) e (Some t) f = elim (due_at r t r.end refl) [
    | inl d ↦
        one_all (WriteOf r) (write_entry r t v) (record { work = e; stamp = f; due = d; made = refl })
        (λ y h. let p : Writes y.value ≡ Writes v = sym h.work ∙ e in let q : Some y.stamp ≡ Some t = sym h.stamp ∙ f in made_of (write_entry r) y t v h.made (cc q) (cc p))
    | inr n ↦ none_all (WriteOf r) (λ y h. n (let q : Some y.stamp ≡ Some t = sym h.stamp ∙ f in let st : y.stamp ≡ t = cc q in let d = h.due in rw (block_made h.made, st) at d))
  ]

  -- the entry of the foreign write that the record's read gave
  record ForeignOf (r : Record) (e : Entry) : Type 0 where
    of_block : r.block ≡ e.block
    value : List ℕ
    how : How
    rounds : ℕ
    gave : r.outcome ≡ Some (Gave e.stamp value how rounds)
    later : e.stamp ≢ first_stamp s
    foreign : IsForeign rs e

  none_foreign : (r : Record) → ((t : Stamp) (v : List ℕ) (how : How) (n : ℕ) → r.outcome ≡ Some (Gave t v how n) → ⊥) → HasAll (ForeignOf r)
  none_foreign r h = none_all (ForeignOf r) (λ e k. h e.stamp k.value k.how k.rounds k.gave)

  gave_value : (o p : Option Outcome) (t : Stamp) (u v : List ℕ) (h k : How) (m n : ℕ) → o ≡ p → o ≡ Some (Gave t u h m) → p ≡ Some (Gave t v k n) → u ≡ v
  gave_value o p t u v h k m n e f g = let q : Some (Gave t u h m) ≡ Some (Gave t v k n) = sym f ∙ e ∙ g in cc

  first_values : (block : ℕ) (t : Stamp) (a : FirstRead block t rs) (value : List ℕ) (place : ℕ) → HasRead rs block t value place → ((v : List ℕ) (other : ℕ) → HasRead rs block t v other → place ≤ other) → value ≡ a.value
  first_values block t a value place h least =
      let same : place ≡ a.end = omega (arith, least a.value a.end a.is, a.first value place h) in
      let r = apart.ends h.read a.is.read place h.there a.is.there h.ended (a.is.ended ∙ ap Some (sym same)) in
      gave_value h.read.outcome a.is.read.outcome t value a.value h.how a.is.how h.rounds a.is.rounds (ap (λ (x : Record). x.outcome) r) h.gave a.is.gave

  foreign_as : (e : Entry) (block : ℕ) (t : Stamp) → e.block ≡ block → e.stamp ≡ t → (a : FirstRead block t rs) → IsForeign rs e → e.value ≡ a.value
  foreign_as e block t p q a h =
      first_values block t a e.value h.place (let k = h.seen in rw (p, q) at k) (λ v other k. h.first v other (rw (p, q) k))

  write_as : (e : Entry) (block : ℕ) (t : Stamp) → e.block ≡ block → e.stamp ≡ t → HasWrite rs block t → HasWrite rs e.block e.stamp
  write_as e block t p q h = rw (p, q) h

  foreign_of : (r : Record) (o : Option Outcome) → r.outcome ≡ o → HasAll (ForeignOf r)
  foreign_of r None q = none_foreign r (λ t v how n e. cc)
  foreign_of r (Some (Wrote t)) q = none_foreign r (λ t v how n e. cc)
  foreign_of r (Some Spent) q = none_foreign r (λ t v how n e. cc)
  foreign_of r (Some (Outvoted nodes)) q = none_foreign r (λ t v how n e. cc)
  foreign_of r (Some (Gave t v how n)) q = elim (cases_Bool (same_stamp t (first_stamp s))) [
    | inl f ↦ none_all (ForeignOf r) (λ e h. h.later (stamp_of e h.gave ∙ same_stamp-≡ t (first_stamp s) f))
    | inr f ↦ elim (find_write r.block t rs) [
      | inl k ↦ none_all (ForeignOf r) (λ e h. h.foreign.no_write (write_as e r.block t (sym h.of_block) (stamp_of e h.gave) k))
      | inr k ↦ elim (find_read r.block t rs) [
        | inl a ↦
            one_all (ForeignOf r) (foreign_entry r.block t a.value) (record {
              of_block = refl;
              value = v;
              how = how;
              rounds = n;
              gave = q;
              later = λ g. let l : same_stamp t t ≡ false = rw (← g) at f in let m = same_stamp-refl t in cc;
              foreign = record { place = a.end; seen = a.is; first = a.first; no_write = k; made = refl };
            })
            (λ e h.
            let block = sym h.of_block in
            let st = stamp_of e h.gave in
            let value = foreign_as e r.block t block st a h.foreign in
            h.foreign.made ∙ (λ i. foreign_entry (block i) (st i) (value i)))
        | inr m ↦ none_all (ForeignOf r) (λ e h. m e.value h.foreign.place (let st = stamp_of e h.gave in let z = h.foreign.seen in rw (← h.of_block, st) at z))
      ]
    ]
  ]
    where
      stamp_of : (e : Entry) {u : List ℕ} {h : How} {m : ℕ} → r.outcome ≡ Some (Gave e.stamp u h m) → e.stamp ≡ t
      stamp_of e {u} {h} {m} k = let g : Some (Gave e.stamp u h m) ≡ Some (Gave t v how n) = sym k ∙ q in cc

  abbrev EntryOf : Record → Entry → Type 0
  EntryOf r e = ReadOf r e ⊎ (WriteOf r e ⊎ ForeignOf r e)

  entry_of : (r : Record) → HasAll (EntryOf r)
  entry_of r = both_all (ReadOf r) (λ e. WriteOf r e ⊎ ForeignOf r e) (read_of r r.outcome refl) (both_all (WriteOf r) (ForeignOf r) (write_of r r.work refl r.stamp refl) (foreign_of r r.outcome refl))

  to_entry : (e : Entry) → OfSome EntryOf rs e → IsEntry rs (first_stamp s) e
  to_entry e (r, there, inl h) = inl (record { read = r; there = there; how = h.how; rounds = h.rounds; gave = h.gave; made = h.made })
  to_entry e (r, there, inr (inl h)) = inr (inl (record { write = r; there = there; writes = h.work; chose = h.stamp; stands = h.due; made = h.made }))
  to_entry e (r, there, inr (inr h)) = inr (inr (h.later, h.foreign))

  from_entry : (e : Entry) → IsEntry rs (first_stamp s) e → OfSome EntryOf rs e
  from_entry e (inl h) = (h.read, h.there, inl (record { how = h.how; rounds = h.rounds; gave = h.gave; made = h.made }))
  from_entry e (inr (inl h)) = (h.write, h.there, inr (inl (record { work = h.writes; stamp = h.chose; due = h.stands; made = h.made })))
  from_entry e (inr (inr h)) = let r = h.1.seen in (r.read, r.there, inr (inr (record { of_block = r.of_block; value = e.value; how = r.how; rounds = r.rounds; gave = r.gave; later = h.0; foreign = h.1 })))

  pub has_history : (h : List Entry) × IsHistory s w h
  has_history =
      let all = list_all EntryOf entry_of rs in
      let sorted = sorted_all (IsEntry rs (first_stamp s)) (one_key s w apart) all.0 (λ e k. to_entry e ((all.1 e).0 k)) in (
        sorted.0,
        (
          sorted.1,
          λ e. (
            (λ k. to_entry e ((all.1 e).0 ((sorted.2 e).0 k))),
            (λ k. (sorted.2 e).1 ((all.1 e).1 (from_entry e k))),
          ),
        ),
      )
