-- What a sweep over sorted candidates keeps.
use Rattle.std.proofs.Common.{◌≡◌, ◌≢◌, ◌⊎◌, ◌*◌, ◌<◌, ◌≤◌, Bool, true, false, not, cond, ◌&&◌, ◌||◌, List, [], ◌∷◌, ◌++◌, length, refl, sym, subst, ◌∙◌, ap, inl, inr, arith, eqb, append_assoc, length-append, ◌-◌}
use Rattle.std.specs.declared.option.Option.TheVariants.{None, Some}
use Rattle.std.specs.declared.cmp.Ordering.TheVariants.{Less}
use Rattle.std.specs.List.{Contains, AllByRecursion, list_any, slice_get, find}
use Rattle.std.proofs.lemmas.Bool.{eq-eqb, eqb-true, or_cases, cases_Bool}
use Rattle.std.proofs.lemmas.List.Elements.{Contains-append_cases, Contains-append_left, Contains-append_right}
use Rattle.stamp_order.specs.declared.Stamp.{Stamp}
use Rattle.stamp_order.specs.Stamps.{same_stamp}
use Rattle.protocol.specs.History.{Entry, Kind, is_read, entry_cmp, IsSorted}
use Rattle.protocol.specs.History.Kind.{Write, Foreign, Read}
use Rattle.protocol.proofs.lemmas.Counting.{both_true}
use Rattle.protocol.proofs.lemmas.Order.{same_stamp-≡, same_stamp-refl}
use Rattle.protocol.proofs.lemmas.Entries.{entry_total, member_of, not_back, not_self, less_by_kind}
use Rattle.history_making.specs.Drafts.{is_of_version, is_of_some, is_reading, foreign_of, has_end, entries_by, entries_at, IsVersion, IsLeast, IsKept, IsSeen, AreKept}
use Rattle.history_making.proofs.Orders.{version_is, version_if, version_back, version_on, version_between, less_by_version}
use Rattle.lists.proofs.lemmas.Members.{Contains-head, Contains-none, Contains-rest, Contains-cons_cases, Contains-one, all_from_members}
use Rattle.protocol.proofs.lemmas.Tests.{and_true}

-- ---- tests over a list

pub any_false : {X : Type 0} (p : X → Bool) (xs : List X) (x : X) → list_any p xs ≡ false → Contains xs x → p x ≡ false
any_false p [] x h k = absurd (Contains-none x k)
any_false {X} p (y ∷ ys) x h k = at (p y) refl h (λ l. any_false p ys x l) (Contains-cons_cases x y ys k)
  where
    at : (b : Bool) → p y ≡ b → b || list_any p ys ≡ false → (list_any p ys ≡ false → Contains ys x → p x ≡ false) → (x ≡ y) ⊎ Contains ys x → p x ≡ false
    at true e h rest k = absurd (cc)
    at false e h rest (inl q) = rw q e
    at false e h rest (inr l) = rest h l

pub any_true : {X : Type 0} (p : X → Bool) (xs : List X) → list_any p xs ≡ true → (x : X) × Contains xs x × (p x ≡ true)
any_true p [] h = absurd (cc)
any_true p (y ∷ ys) h =
    let rest = any_true p ys in
    elim (or_cases (p y) (list_any p ys) h) [ inl e ↦ (y, Contains-head y ys, e) | inr k ↦ (let r = rest k in (r.0, Contains-rest r.0 y ys r.1, r.2)) ]

pub any_has : {X : Type 0} (p : X → Bool) (xs : List X) (x : X) → Contains xs x → p x ≡ true → list_any p xs ≡ true
any_has p xs x h e = elim (cases_Bool (list_any p xs)) [ inl k ↦ k | inr k ↦ absurd (let f = any_false p xs x k h in cc) ]

pub any_none : {X : Type 0} (p : X → Bool) (xs : List X) → ((x : X) → Contains xs x → p x ≡ true → ⊥) → list_any p xs ≡ false
any_none p xs h = elim (cases_Bool (list_any p xs)) [ inl k ↦ absurd (let f = any_true p xs k in h f.0 f.1 f.2) | inr k ↦ k ]

-- ---- sorted lists

pub sorted_pair : (xs : List Entry) (y : Entry) (ys : List Entry) → IsSorted (xs ++ y ∷ ys) → (x : Entry) → Contains xs x → entry_cmp x y ≡ Less
sorted_pair [] y ys s x k = absurd (Contains-none x k)
sorted_pair (w ∷ ws) y ys s x k =
    let rest = sorted_pair ws y ys s.1 x in
    elim (Contains-cons_cases x w ws k) [ inl q ↦ rw q (member_of (λ f. entry_cmp w f ≡ Less) (ws ++ y ∷ ys) y s.0 (Contains-append_right ws (y ∷ ys) y (Contains-head y ys))) | inr l ↦ rest l ]

pub sorted_rest : (xs ys : List Entry) → IsSorted (xs ++ ys) → IsSorted ys
sorted_rest [] ys s = s
sorted_rest (x ∷ xs) ys s = sorted_rest xs ys s.1

pub sorted_after : (xs : List Entry) (y : Entry) (ys : List Entry) → IsSorted (xs ++ y ∷ ys) → (z : Entry) → Contains ys z → entry_cmp y z ≡ Less
sorted_after xs y ys s z k = member_of (λ f. entry_cmp y f ≡ Less) ys z (sorted_rest xs (y ∷ ys) s).0 k

-- ---- reads and writes

pub reading_is : (e : Entry) → is_reading e ≡ true → e.kind ≡ Read
reading_is e h = at e.kind refl h
  where
    at : (k : Kind) → e.kind ≡ k → eqb (is_read k) 1 ≡ true → k ≡ Read
    at Write q h = absurd (let n = eqb-true 0 1 h in omega arith)
    at Foreign q h = absurd (let n = eqb-true 0 1 h in omega arith)
    at Read q h = refl

pub reading_if : (e : Entry) → e.kind ≡ Read → is_reading e ≡ true
reading_if e h = rw h (eq-eqb 1 1 refl)

-- ---- the sweep

-- a read of the entry's version
abbrev pub is_reader : Entry → Entry → Bool
is_reader e f = is_reading f && is_of_version e f

module _ (first : Stamp) where
  -- a read of a stamp other than the first one, and no entry before it is of its version
  abbrev pub saw_foreign : List Entry → Entry → Bool
  saw_foreign xs e = not (list_any (is_of_version e) xs) && not (same_stamp e.stamp first)

  -- what the candidates ys give, after xs
  pub sweep : List Entry → List Entry → List Entry
  sweep xs [] = []
  sweep xs (y ∷ ys) = entries_at (saw_foreign xs y) (list_any (is_reader y) ys) y ++ sweep (xs ++ y ∷ []) ys

  -- ---- what the sweep gives

  not_both_ways : (b : Bool) → b ≡ true → not b ≡ true → ⊥
  not_both_ways true e f = cc
  not_both_ways false e f = cc

  swept : (all : List Entry) → IsSorted all → ((e : Entry) → Contains all e → e.kind ≢ Foreign) → (xs ys : List Entry) → all ≡ xs ++ ys → (e : Entry) → Contains (sweep xs ys) e
      → (Contains ys e × IsKept all e) ⊎ IsSeen first all ys e
  unfolding sweep
  swept all s c xs [] q e k = absurd (Contains-none e k)
  swept all s c xs (y ∷ ys) q e k =
      let rest = swept all s c (xs ++ y ∷ []) ys (q ∙ sym (append_assoc xs (y ∷ []) ys)) e in
      elim (Contains-append_cases (entries_at (saw_foreign xs y) (list_any (is_reader y) ys) y) (sweep (xs ++ y ∷ []) ys) e k) [
        | inl l ↦ here y.kind refl l
        | inr l ↦ elim (rest l) [
          | inl h ↦ inl (Contains-rest e y ys h.0, h.1)
          | inr h ↦ inr (record { read = h.read; there = Contains-rest h.read y ys h.there; reads = h.reads; other = h.other; first_one = h.first_one; is = h.is })
        ]
      ]
    where
      in_all : (z : Entry) → Contains (y ∷ ys) z → Contains all z
      in_all z h = rw q (Contains-append_right xs (y ∷ ys) z h)

      Goal : Type 0
      Goal = (Contains (y ∷ ys) e × IsKept all e) ⊎ IsSeen first all (y ∷ ys) e

      itself : IsKept all y → e ≡ y → Goal
      itself h p = inl (rw p (Contains-head y ys), rw p h)

      seen : y.kind ≡ Read → saw_foreign xs y ≡ true → e ≡ foreign_of y → Goal
      seen r h p =
          let b = both_true _ _ h in
          inr (record {
            read = y;
            there = Contains-head y ys;
            reads = r;
            other = λ t. let z : same_stamp y.stamp first ≡ true = rw t (same_stamp-refl first) in not_both_ways (same_stamp y.stamp first) z b.1;
            first_one = record {
              least = λ z c v. elim (Contains-append_cases xs (y ∷ ys) z (rw q at c)) [
                | inl l ↦ absurd (let m = any_has (is_of_version y) xs z l (version_if y z v) in not_both_ways (list_any (is_of_version y) xs) m b.0)
                | inr l ↦ elim (Contains-cons_cases z y ys l) [ inl i ↦ inl i | inr i ↦ inr (sorted_after xs y ys (rw q at s) z i) ]
              ];
            };
            is = p;
          })

      read : y.kind ≡ Read → (b : Bool) → saw_foreign xs y ≡ b → Contains (cond b (foreign_of y ∷ y ∷ []) (y ∷ [])) e → Goal
      read r true h l = elim (Contains-cons_cases e (foreign_of y) (y ∷ []) l) [ inl p ↦ seen r h p | inr m ↦ itself (inl r) (Contains-one e y m) ]
      read r false h l = itself (inl r) (Contains-one e y l)

      was_read : list_any (is_reader y) ys ≡ true → (z : Entry) × Contains all z × (z.kind ≡ Read) × IsVersion y z
      was_read h =
          let f = any_true (is_reader y) ys h in
          let b = both_true _ _ f.2 in (f.0, in_all f.0 (Contains-rest f.0 y ys f.1), reading_is f.0 b.0, version_is y f.0 b.1)

      write : y.kind ≡ Write → (b : Bool) → has_end y.end || list_any (is_reader y) ys ≡ b → Contains (cond b (y ∷ []) []) e → Goal
      write r true h l = itself (inr (r, elim (or_cases (has_end y.end) (list_any (is_reader y) ys) h) [ inl f ↦ inl f | inr f ↦ inr (was_read f) ])) (Contains-one e y l)
      write r false h l = absurd (Contains-none e l)

      here : (k : Kind) → y.kind ≡ k → Contains (entries_by k (saw_foreign xs y) (list_any (is_reader y) ys) y) e → Goal
      here Read r l = read r (saw_foreign xs y) refl l
      here Write r l = write r (has_end y.end || list_any (is_reader y) ys) refl l
      here Foreign r l = absurd (c y (in_all y (Contains-head y ys)) r)

  -- ---- what stands in the sweep

  or_right : (a b : Bool) → b ≡ true → a || b ≡ true
  or_right true b h = refl
  or_right false b h = h

  not_true : (b : Bool) → (b ≡ true → ⊥) → not b ≡ true
  not_true true h = absurd (h refl)
  not_true false h = refl

  keeps : (all : List Entry) → IsSorted all → (xs ys : List Entry) → all ≡ xs ++ ys → (e : Entry) → Contains ys e → IsKept all e → Contains (sweep xs ys) e
  unfolding sweep
  keeps all s xs [] q e k h = absurd (Contains-none e k)
  keeps all s xs (y ∷ ys) q e k h =
      let rest = keeps all s (xs ++ y ∷ []) ys (q ∙ sym (append_assoc xs (y ∷ []) ys)) e in
      elim (Contains-cons_cases e y ys k) [
        | inl p ↦ Contains-append_left (entries_at (saw_foreign xs y) (list_any (is_reader y) ys) y) (sweep (xs ++ y ∷ []) ys) e (rw p (here (rw p at h)))
        | inr l ↦ Contains-append_right (entries_at (saw_foreign xs y) (list_any (is_reader y) ys) y) (sweep (xs ++ y ∷ []) ys) e (rest l h)
      ]
    where
      read : (b : Bool) → Contains (cond b (foreign_of y ∷ y ∷ []) (y ∷ [])) y
      read true = Contains-rest y (foreign_of y) (y ∷ []) (Contains-head y [])
      read false = Contains-head y []

      after : y.kind ≡ Write → (z : Entry) → Contains all z → z.kind ≡ Read → IsVersion y z → Contains ys z
      after w z c r v =
          let below : is_read Write < is_read Read = omega arith in
          let less = less_by_kind y z v.block v.stamp (rw (w, r) below) in
          elim (Contains-append_cases xs (y ∷ ys) z (rw q at c)) [
            | inl l ↦ absurd (not_back y z less (sorted_pair xs y ys (rw q at s) z l))
            | inr l ↦ elim (Contains-cons_cases z y ys l) [ inl i ↦ absurd (not_self y (rw i at less)) | inr i ↦ i ]
          ]

      stands : y.kind ≡ Write → ((has_end y.end ≡ true) ⊎ ((z : Entry) × Contains all z × (z.kind ≡ Read) × IsVersion y z)) → has_end y.end || list_any (is_reader y) ys ≡ true
      stands w (inl f) = rw f refl
      stands w (inr f) = or_right (has_end y.end) _ (any_has (is_reader y) ys f.0 (after w f.0 f.1 f.2 f.3) (and_true _ _ (reading_if f.0 f.2) (version_if y f.0 f.3)))

      at : (k : Kind) → y.kind ≡ k → IsKept all y → Contains (entries_by k (saw_foreign xs y) (list_any (is_reader y) ys) y) y
      at Read q h = read (saw_foreign xs y)
      at Write q (inl r) = absurd (cc)
      at Write q (inr w) = let b = stands w.0 w.1 in rw b (Contains-head y [])
      at Foreign q (inl r) = absurd (cc)
      at Foreign q (inr w) = let r = w.0 in absurd (cc)

      here : IsKept all y → Contains (entries_at (saw_foreign xs y) (list_any (is_reader y) ys) y) y
      here h = at y.kind refl h

  entries_of_read : (k : Kind) → k ≡ Read → (f w : Bool) → f ≡ true → (y : Entry) → entries_by k f w y ≡ foreign_of y ∷ y ∷ []
  entries_of_read Read q true w h y = refl
  entries_of_read Read q false w h y = absurd (cc)
  entries_of_read Write q f w h y = absurd (cc)
  entries_of_read Foreign q f w h y = absurd (cc)

  sees : (all : List Entry) → IsSorted all → (xs ys : List Entry) → all ≡ xs ++ ys → (e : Entry) → IsSeen first all ys e → Contains (sweep xs ys) e
  unfolding sweep
  sees all s xs [] q e h = absurd (Contains-none h.read h.there)
  sees all s xs (y ∷ ys) q e h =
      let rest = sees all s (xs ++ y ∷ []) ys (q ∙ sym (append_assoc xs (y ∷ []) ys)) e in
      elim (Contains-cons_cases h.read y ys h.there) [
        | inl p ↦ Contains-append_left (entries_at (saw_foreign xs y) (list_any (is_reader y) ys) y) (sweep (xs ++ y ∷ []) ys) e (here p)
        | inr l ↦ Contains-append_right (entries_at (saw_foreign xs y) (list_any (is_reader y) ys) y) (sweep (xs ++ y ∷ []) ys) e (rest (record { read = h.read; there = l; reads = h.reads; other = h.other; first_one = h.first_one; is = h.is }))
      ]
    where
      leads : IsLeast all y → list_any (is_of_version y) xs ≡ false
      leads m = any_none (is_of_version y) xs (λ z l v.
          let less = sorted_pair xs y ys (rw q at s) z l in
          elim (m.least z (rw q (Contains-append_left xs (y ∷ ys) z l)) (version_is y z v)) [ inl i ↦ not_self y (rw i at less) | inr i ↦ not_back y z i less ])

      here : h.read ≡ y → Contains (entries_at (saw_foreign xs y) (list_any (is_reader y) ys) y) e
      here p =
          let r = h.reads in let m = h.first_one in let o = h.other in
          let is : e ≡ foreign_of y = h.is ∙ ap (λ (z : Entry). foreign_of z) p in
          let a : saw_foreign xs y ≡ true = and_true _ _ (rw (leads (rw p at m)) refl) (not_true _ (λ z. (rw p at o) (same_stamp-≡ y.stamp first z))) in
          let k : y.kind ≡ Read = rw p at r in
          rw is (subst (λ (es : List Entry). Contains es (foreign_of y)) (sym (entries_of_read y.kind k (saw_foreign xs y) (list_any (is_reader y) ys) a y)) (Contains-head (foreign_of y) (y ∷ [])))

  -- ---- the sweep is sorted

  sorted_append : (es bs : List Entry) → IsSorted es → IsSorted bs → ((a b : Entry) → Contains es a → Contains bs b → entry_cmp a b ≡ Less) → IsSorted (es ++ bs)
  sorted_append [] bs s t h = t
  sorted_append (a ∷ es) bs s t h = (
    all_append es bs s.0 (λ b k. h a b (Contains-head a es) k),
    sorted_append es bs s.1 t (λ x b k l. h x b (Contains-rest x a es k) l),
  )
    where
      all_append : (xs ys : List Entry) → AllByRecursion (λ f. entry_cmp a f ≡ Less) xs → ((b : Entry) → Contains ys b → entry_cmp a b ≡ Less) → AllByRecursion (λ f. entry_cmp a f ≡ Less) (xs ++ ys)
      all_append [] ys p h = all_from_members (λ f. entry_cmp a f ≡ Less) ys h
      all_append (x ∷ xs) ys p h = (p.0, all_append xs ys p.1 h)

  foreign_less : (y : Entry) → y.kind ≡ Read → entry_cmp (foreign_of y) y ≡ Less
  foreign_less y r = let below : is_read Foreign < is_read Read = omega arith in less_by_kind (foreign_of y) y refl refl (rw r below)

  sweep_sorted : (all : List Entry) → IsSorted all → ((e : Entry) → Contains all e → e.kind ≢ Foreign) → (xs ys : List Entry) → all ≡ xs ++ ys → IsSorted (sweep xs ys)
  unfolding sweep
  sweep_sorted all s c xs [] q = tt
  sweep_sorted all s c xs (y ∷ ys) q =
      let rest = sweep_sorted all s c (xs ++ y ∷ []) ys (q ∙ sym (append_assoc xs (y ∷ []) ys)) in
      let e = here y.kind refl (saw_foreign xs y) (list_any (is_reader y) ys) in
      sorted_append (entries_at (saw_foreign xs y) (list_any (is_reader y) ys) y) (sweep (xs ++ y ∷ []) ys) e.0 rest (λ a b k l. e.1 a k b (after b l))
    where
      behind : (w : Entry) → Contains ys w → IsLeast all w → entry_cmp y (foreign_of w) ≡ Less
      behind w l m =
          let less = sorted_after xs y ys (rw q at s) w l in
          less_by_version y w (foreign_of w) less
          (λ v. elim (m.least y (rw q (Contains-append_right xs (y ∷ ys) y (Contains-head y ys))) (version_back y w v)) [ inl i ↦ not_self w (rw i at less) | inr i ↦ not_back y w less i ])
          (record { block = refl; stamp = refl })

      after : (b : Entry) → Contains (sweep (xs ++ y ∷ []) ys) b → entry_cmp y b ≡ Less
      after b l = elim (swept all s c (xs ++ y ∷ []) ys (q ∙ sym (append_assoc xs (y ∷ []) ys)) b l) [
        | inl h ↦ sorted_after xs y ys (rw q at s) b h.0
        | inr h ↦ (let i = h.is in rw i (behind h.read h.there h.first_one))
      ]

      Goal : List Entry → Type 0
      Goal es = IsSorted es × ((a : Entry) → Contains es a → (b : Entry) → entry_cmp y b ≡ Less → entry_cmp a b ≡ Less)

      alone : Goal (y ∷ [])
      alone = ((tt, tt), λ a k b h. let i = Contains-one a y k in rw i h)

      pair : y.kind ≡ Read → Goal (foreign_of y ∷ y ∷ [])
      pair r = (
        ((foreign_less y r, tt), (tt, tt)),
        λ a k b h. elim (Contains-cons_cases a (foreign_of y) (y ∷ []) k) [ inl i ↦ rw i (entry_total.trans (foreign_of y) y b (foreign_less y r) h) | inr l ↦ (let i = Contains-one a y l in rw i h) ],
      )

      read : y.kind ≡ Read → (b : Bool) → Goal (cond b (foreign_of y ∷ y ∷ []) (y ∷ []))
      read r true = pair r
      read r false = alone

      write : (b : Bool) → Goal (cond b (y ∷ []) [])
      write true = alone
      write false = (tt, λ a k b h. absurd (Contains-none a k))

      here : (k : Kind) → y.kind ≡ k → (f w : Bool) → Goal (entries_by k f w y)
      here Read r f w = read r f
      here Write r f w = write (has_end y.end || w)
      here Foreign r f w = write (has_end y.end || w)

  pub are_kept : (all : List Entry) → IsSorted all → ((e : Entry) → Contains all e → e.kind ≢ Foreign) → AreKept first all (sweep [] all)
  are_kept all s c = record {
    sorted = sweep_sorted all s c [] all refl;
    entries = λ e. (swept all s c [] all refl e, λ h. elim h [ inl k ↦ keeps all s [] all refl e k.0 k.1 | inr k ↦ sees all s [] all refl e k ]);
  }

  -- each candidate gives two entries at most
  pub sweep_length : (xs ys : List Entry) → length (sweep xs ys) ≤ 2 * length ys
  unfolding sweep
  sweep_length xs [] = omega arith
  sweep_length xs (y ∷ ys) =
      let rest = sweep_length (xs ++ y ∷ []) ys in
      omega (arith, length-append (entries_at (saw_foreign xs y) (list_any (is_reader y) ys) y) (sweep (xs ++ y ∷ []) ys), at y.kind (saw_foreign xs y) (list_any (is_reader y) ys), rest)
    where
      short : (b : Bool) → length (cond b (y ∷ []) []) ≤ 2
      short true = omega arith
      short false = omega arith

      at : (k : Kind) (f w : Bool) → length (entries_by k f w y) ≤ 2
      at Read true w = omega arith
      at Read false w = omega arith
      at Write f w = short (has_end y.end || w)
      at Foreign f w = short (has_end y.end || w)

  pub sweep_nil : (xs : List Entry) → sweep xs [] ≡ []
  unfolding sweep
  sweep_nil xs = refl

  pub sweep_cons : (xs : List Entry) (y : Entry) (ys : List Entry) → sweep xs (y ∷ ys) ≡ entries_at (saw_foreign xs y) (list_any (is_reader y) ys) y ++ sweep (xs ++ y ∷ []) ys
  unfolding sweep
  sweep_cons xs y ys = refl

-- ---- what the neighbours tell

-- the last of a list is above the others
record IsLast (xs : List Entry) (p : Entry) : Type 0 where
  there : Contains xs p
  above : (z : Entry) → Contains xs z → (z ≡ p) ⊎ (entry_cmp z p ≡ Less)

last_is : (x : Entry) (xs : List Entry) → IsSorted (x ∷ xs) → (p : Entry) × (slice_get (x ∷ xs) (length xs) ≡ Some p) × IsLast (x ∷ xs) p
last_is x [] s = (x, refl, record { there = Contains-head x []; above = λ z k. inl (Contains-one z x k) })
last_is x (w ∷ ws) s =
    let r = last_is w ws s.1 in (
      r.0,
      r.1,
      record {
        there = Contains-rest r.0 x (w ∷ ws) r.2.there;
        above = λ z k. elim (Contains-cons_cases z x (w ∷ ws) k) [ inl i ↦ inr (rw i (member_of (λ f. entry_cmp x f ≡ Less) (w ∷ ws) r.0 s.0 r.2.there)) | inr l ↦ r.2.above z l ];
      },
    )

sorted_front : (xs ys : List Entry) → IsSorted (xs ++ ys) → IsSorted xs
sorted_front [] ys s = tt
sorted_front (x ∷ xs) ys s = (front xs ys s.0, sorted_front xs ys s.1)
  where
    front : (xs ys : List Entry) → AllByRecursion (λ f. entry_cmp x f ≡ Less) (xs ++ ys) → AllByRecursion (λ f. entry_cmp x f ≡ Less) xs
    front [] ys h = tt
    front (z ∷ zs) ys h = (h.0, front zs ys h.1)

pub last_tells : (xs : List Entry) (y : Entry) (ys : List Entry) → IsSorted (xs ++ y ∷ ys) → list_any (is_of_version y) xs ≡ is_of_some y (slice_get xs (length xs - 1))
last_tells [] y ys s = refl
last_tells (x ∷ xs) y ys s =
    let r = last_is x xs (sorted_front (x ∷ xs) (y ∷ ys) s) in
    let n : length (x ∷ xs) - 1 ≡ length xs = omega arith in
    let e : slice_get (x ∷ xs) (length (x ∷ xs) - 1) ≡ Some r.0 = ap (slice_get (x ∷ xs)) n ∙ r.1 in
    at r.0 r.2 (is_of_version y r.0) refl ∙ sym (ap (is_of_some y) e)
  where
    at : (p : Entry) → IsLast (x ∷ xs) p → (b : Bool) → is_of_version y p ≡ b → list_any (is_of_version y) (x ∷ xs) ≡ is_of_version y p
    at p l true h = any_has (is_of_version y) (x ∷ xs) p l.there h ∙ sym h
    at p l false h = any_none (is_of_version y) (x ∷ xs) (λ z k v. elim (l.above z k) [
      | inl i ↦ (let g : is_of_version y p ≡ true = rw i at v in cc)
      | inr i ↦ (let g = version_between z p y i (sorted_pair (x ∷ xs) y ys s p l.there) (version_back y z (version_is y z v)) in
          let f = version_if y p (version_on y z p (version_is y z v) g) in cc)
    ]) ∙ sym h

-- the first read of a list
record IsNextRead (ys : List Entry) (r : Entry) : Type 0 where
  there : Contains ys r
  reads : is_reading r ≡ true
  below : (z : Entry) → Contains ys z → is_reading z ≡ true → (z ≡ r) ⊎ (entry_cmp r z ≡ Less)

next_read : (ys : List Entry) → IsSorted ys → ((r : Entry) × (find is_reading ys ≡ Some r) × IsNextRead ys r) ⊎ ((find is_reading ys ≡ None) × ((z : Entry) → Contains ys z → is_reading z ≡ true → ⊥))
next_read [] s = inr (refl, λ z k h. Contains-none z k)
next_read (y ∷ ys) s = at (is_reading y) refl (next_read ys s.1)
  where
    Goal : Bool → Type 0
    Goal b = ((r : Entry) × (cond b (Some y) (find is_reading ys) ≡ Some r) × IsNextRead (y ∷ ys) r) ⊎ ((cond b (Some y) (find is_reading ys) ≡ None) × ((z : Entry) → Contains (y ∷ ys) z → is_reading z ≡ true → ⊥))

    at : (b : Bool) → is_reading y ≡ b → ((r : Entry) × (find is_reading ys ≡ Some r) × IsNextRead ys r) ⊎ ((find is_reading ys ≡ None) × ((z : Entry) → Contains ys z → is_reading z ≡ true → ⊥)) → Goal b
    at true e rest = inl (y, refl, record { there = Contains-head y ys; reads = e; below = λ z k h. elim (Contains-cons_cases z y ys k) [ inl i ↦ inl i | inr l ↦ inr (member_of (λ f. entry_cmp y f ≡ Less) ys z s.0 l) ] })
    at false e (inl r) = inl (
      r.0,
      r.1,
      record {
        there = Contains-rest r.0 y ys r.2.there;
        reads = r.2.reads;
        below = λ z k h. elim (Contains-cons_cases z y ys k) [ inl i ↦ absurd (let g : is_reading y ≡ true = rw i at h in cc) | inr l ↦ r.2.below z l h ];
      },
    )
    at false e (inr n) = inr (n.0, λ z k h. elim (Contains-cons_cases z y ys k) [ inl i ↦ (let g : is_reading y ≡ true = rw i at h in cc) | inr l ↦ n.1 z l h ])

pub next_tells : (xs : List Entry) (y : Entry) (ys : List Entry) → IsSorted (xs ++ y ∷ ys) → list_any (is_reader y) ys ≡ is_of_some y (find is_reading ys)
next_tells xs y ys s = elim (next_read ys (sorted_rest xs (y ∷ ys) s).1) [
  | inl r ↦ at r.0 r.2 (is_of_version y r.0) refl ∙ sym (ap (is_of_some y) r.1)
  | inr n ↦ any_none (is_reader y) ys (λ z k h. n.1 z k (both_true _ _ h).0) ∙ sym (ap (is_of_some y) n.0)
]
  where
    others : (p : Entry) → IsNextRead ys p → is_of_version y p ≡ false → (z : Entry) → Contains ys z → is_reader y z ≡ true → ⊥
    others p l h z k v =
        let b = both_true _ _ v in
        elim (l.below z k b.0) [
          | inl i ↦ (let w = b.1 in let g : is_of_version y p ≡ true = rw i at w in cc)
          | inr i ↦ (let g = version_if y p (version_between y p z (sorted_after xs y ys s p l.there) i (version_is y z b.1)) in cc)
        ]

    at : (p : Entry) → IsNextRead ys p → (b : Bool) → is_of_version y p ≡ b → list_any (is_reader y) ys ≡ is_of_version y p
    at p l true h = any_has (is_reader y) ys p l.there (and_true _ _ l.reads h) ∙ sym h
    at p l false h = any_none (is_reader y) ys (others p l h) ∙ sym h
