-- The history of a safe world is legal.
use Rattle.std.proofs.Common.{◌≡◌, ◌⊎◌, ◌≢◌, ℕ, ◌<◌, List, [], ◌∷◌, Option, refl, sym, ◌∙◌, ap, inl, inr, arith}
use Rattle.std.specs.declared.option.Option.TheVariants.{None, Some}
use Rattle.std.specs.declared.cmp.Ordering.TheVariants.{Less}
use Rattle.std.specs.List.{Contains}
use Rattle.protocol.specs.Count.{update}
use Rattle.stamp_order.specs.declared.Stamp.{Stamp}
use Rattle.stamp_order.specs.Stamps.{◌≼◌}
use Rattle.protocol.specs.Setting.{Setting, IsValid, first_stamp, zeros}
use Rattle.protocol.specs.Operations.{Work, Outcome}
use Rattle.protocol.specs.Operations.Work.{Reads, Writes}
use Rattle.run_words.specs.declared.outcome.Outcome.TheVariants.{Wrote, Spent, Gave, Outvoted}
use Rattle.protocol.specs.World.{Record, World}
use Rattle.protocol.specs.History.{Entry, Kind, write_entry, foreign_entry, is_read, entry_cmp, IsSorted, IsEntry, IsDue, HasRead, HasWrite, IsHistory, Legal, LegalFrom, legal_at, values_after, NoClash}
use Rattle.protocol.specs.History.Kind.{Write, Foreign, Read}
use Rattle.protocol.proofs.lemmas.Counting.{update-cases}
use Rattle.protocol.proofs.lemmas.Order.{≼-antisym}
use Rattle.protocol.proofs.Invariant.{IsSafe, IsRecord, IsGiven, IsOutcome}
use Rattle.protocol.proofs.lemmas.Entries.{kind_made, less_by_kind, not_back, stamp_upto, member_of}
use Rattle.protocol.proofs.Searches.{find_write, find_read, FirstRead}
use Rattle.protocol.proofs.Histories.{entry_stamped, entry_low, one_value, has_read, has_read_given}
use Rattle.lists.proofs.lemmas.Members.{Contains-head, Contains-rest, Contains-cons_cases}

-- an entry that sets its block
abbrev Sets : Kind → Type 0
Sets Read = ⊥
Sets Write = Unit {0}
Sets Foreign = Unit {0}

sets_zero : (k : Kind) → Sets k → is_read k ≡ 0
sets_zero Write h = refl
sets_zero Foreign h = refl
sets_zero Read h = absurd h

-- one of these entries sets the block under the stamp
record HasSetter (es : List Entry) (block : ℕ) (stamp : Stamp) : Type 0 where
  setter : Entry
  there : Contains es setter
  sets : Sets setter.kind
  of_block : setter.block ≡ block
  stamped : setter.stamp ≡ stamp

-- what holds of the entries that are left, the values of blocks, and the stamps that set them
record IsLeft (es : List Entry) (values : ℕ → List ℕ) (last : ℕ → Stamp) : Type 0 where
  sorted : IsSorted es
  agree : (e f : Entry) → Contains es e → Contains es f → e.stamp ≡ f.stamp → e.value ≡ f.value
  above : (e : Entry) → Contains es e → last e.block ≼ e.stamp
  set : (e : Entry) → Contains es e → e.kind ≡ Read → ((e.stamp ≡ last e.block) × (e.value ≡ values e.block)) ⊎ HasSetter es e.block e.stamp

module _ (e : Entry) (es : List Entry) (values : ℕ → List ℕ) (last : ℕ → Stamp) (h : IsLeft (e ∷ es) values last) where
  next_upto : (f : Entry) → Contains es f → entry_cmp e f ≡ Less
  next_upto f k = member_of (λ (f : Entry). entry_cmp e f ≡ Less) es f h.sorted.0 k

  setter_later : (block : ℕ) (stamp : Stamp) → HasSetter (e ∷ es) block stamp → (HasSetter es block stamp) ⊎ (Sets e.kind × (e.block ≡ block) × (e.stamp ≡ stamp))
  setter_later block stamp k =
      elim (Contains-cons_cases k.setter e es k.there)
      [ inl q ↦ inr (rw (← q) (k.sets, k.of_block, k.stamped)) | inr q ↦ inl (record { setter = k.setter; there = q; sets = k.sets; of_block = k.of_block; stamped = k.stamped }) ]

  no_read_sets : e.kind ≡ Read → Sets e.kind → ⊥
  no_read_sets k s = let t : Sets Read = rw k at s in t

  after_read : e.kind ≡ Read → IsLeft es values last
  after_read k = record {
    sorted = h.sorted.1;
    agree = λ a b i j. h.agree a b (Contains-rest a e es i) (Contains-rest b e es j);
    above = λ a i. h.above a (Contains-rest a e es i);
    set = λ a i r. elim (h.set a (Contains-rest a e es i) r)
        [ inl q ↦ inl q | inr q ↦ elim (setter_later a.block a.stamp q) [ inl m ↦ inr m | inr m ↦ absurd (no_read_sets k m.0) ] ];
  }

  -- a read at the head gives its block's value
  read_right : e.kind ≡ Read → e.value ≡ values e.block
  read_right k =
      elim (h.set e (Contains-head e es) k) [
        | inl q ↦ q.1
        | inr q ↦ elim (setter_later e.block e.stamp q) [
          | inl m ↦ absurd (not_back m.setter e (less_by_kind m.setter e m.of_block m.stamped (omega (arith, sets_zero m.setter.kind m.sets, ap is_read k))) (next_upto m.setter m.there))
          | inr m ↦ absurd (no_read_sets k m.0)
        ]
      ]

  abbrev now : ℕ → List ℕ
  now = update values e.block e.value

  abbrev stamp_now : ℕ → Stamp
  stamp_now = update last e.block e.stamp

  after_set : Sets e.kind → IsLeft es now stamp_now
  after_set k = record {
    sorted = h.sorted.1;
    agree = λ a b i j. h.agree a b (Contains-rest a e es i) (Contains-rest b e es j);
    above = λ a i. elim (update-cases last e.block e.stamp a.block)
        [ inl q ↦ rw q.1 (stamp_upto e a (sym q.0) (next_upto a i)) | inr q ↦ rw q.1 (h.above a (Contains-rest a e es i)) ];
    set = λ a i r. choose a i (h.set a (Contains-rest a e es i) r);
  }
    where
      mine : (a : Entry) → Contains es a → a.block ≡ e.block → a.stamp ≡ e.stamp → (a.stamp ≡ stamp_now a.block) × (a.value ≡ now a.block)
      mine a i b t = (
        elim (update-cases last e.block e.stamp a.block) [ inl q ↦ t ∙ sym q.1 | inr q ↦ absurd (q.0 b) ],
        elim (update-cases values e.block e.value a.block) [ inl q ↦ h.agree a e (Contains-rest a e es i) (Contains-head e es) t ∙ sym q.1 | inr q ↦ absurd (q.0 b) ],
      )

      keep : (a : Entry) → Contains es a → (a.stamp ≡ last a.block) × (a.value ≡ values a.block) → (a.stamp ≡ stamp_now a.block) × (a.value ≡ now a.block)
      keep a i q = elim (update-cases last e.block e.stamp a.block) [
        | inl m ↦
            (let low : last e.block ≼ e.stamp = h.above e (Contains-head e es) in
            let up : e.stamp ≼ a.stamp = stamp_upto e a (sym m.0) (next_upto a i) in
            let l : a.stamp ≡ last e.block = q.0 ∙ ap last m.0 in
            mine a i m.0 (≼-antisym a.stamp e.stamp (rw l low) up))
        | inr m ↦ elim (update-cases values e.block e.value a.block) [ inl p ↦ absurd (m.0 p.0) | inr p ↦ (q.0 ∙ sym m.1, q.1 ∙ sym p.1) ]
      ]

      choose : (a : Entry) → Contains es a → ((a.stamp ≡ last a.block) × (a.value ≡ values a.block)) ⊎ HasSetter (e ∷ es) a.block a.stamp → ((a.stamp ≡ stamp_now a.block) × (a.value ≡ now a.block)) ⊎ HasSetter es a.block a.stamp
      choose a i (inl q) = inl (keep a i q)
      choose a i (inr q) = elim (setter_later a.block a.stamp q) [ inl m ↦ inr m | inr m ↦ inl (mine a i (sym m.1) (sym m.2)) ]

  legal_next : ((v : ℕ → List ℕ) (l : ℕ → Stamp) → IsLeft es v l → LegalFrom v es) → (k : Kind) → e.kind ≡ k → legal_at k e values × LegalFrom (values_after k e values) es
  legal_next rest Read k = (read_right k, rest values last (after_read k))
  legal_next rest Write k = (tt, rest now stamp_now (after_set (rw k tt)))
  legal_next rest Foreign k = (tt, rest now stamp_now (after_set (rw k tt)))

legal_left : (es : List Entry) (values : ℕ → List ℕ) (last : ℕ → Stamp) → IsLeft es values last → LegalFrom values es
legal_left [] values last h = tt
legal_left (e ∷ es) values last h = legal_next e es values last h (legal_left es) e.kind refl

module _ (s : Setting) (good : IsValid s) (w : World) (safe : IsSafe s w) (h : List Entry) (hist : IsHistory s w h) where
  is_entry : (e : Entry) → Contains h e → IsEntry w.records (first_stamp s) e
  is_entry e k = (hist.1 e).0 k

  in_history : (e : Entry) → IsEntry w.records (first_stamp s) e → Contains h e
  in_history e k = (hist.1 e).1 k

  -- a write that hasn't ended, or has ended with a stamp, is an entry where a read gave its stamp
  write_ends : (r : Record) (stamp : Stamp) (value : List ℕ) → Contains w.records r → r.work ≡ Writes value → r.stamp ≡ Some stamp → (block : ℕ) (v : List ℕ) (place : ℕ) → HasRead w.records block stamp v place
      → IsDue w.records r block stamp
  write_ends r stamp value there work chose block v place read = at r.end refl
    where
      right : IsRecord s w r
      right = safe.records r there

      by : (wk : Work) → r.work ≡ wk → wk ≡ Writes value → (o : Outcome) → r.outcome ≡ Some o → IsOutcome s wk r.stamp (Some o) → r.outcome ≡ Some (Wrote stamp)
      by Reads e f o g k = absurd (cc f)
      by (Writes u) e f (Wrote t) g k = let q : t ≡ stamp = (let z = k.0 in cc) in rw (← q) g
      by (Writes u) e f (Gave t x how rounds) g k = absurd k
      by (Writes u) e f Spent g k = absurd (cc k)
      by (Writes u) e f (Outvoted nodes) g k = absurd k

      outcome_as : (o : Option Outcome) → r.outcome ≡ o → IsOutcome s r.work r.stamp o
      outcome_as o e = let k = right.outcome in (rw e at k)

      at : (o : Option ℕ) → r.end ≡ o → IsDue w.records r block stamp
      at None e = inr (record { pending = e; value = v; end = place; seen = read })
      at (Some end) e = let o = right.closed_end end e in inl (by r.work refl work o.0 o.1 (outcome_as (Some o.0) o.1))

  set_write : (e : Entry) (v : List ℕ) (place : ℕ) → HasRead w.records e.block e.stamp v place → HasWrite w.records e.block e.stamp → HasSetter h e.block e.stamp
  set_write e v place read k =
      let entry = write_entry k.write e.stamp k.value in
      let due = write_ends k.write e.stamp k.value k.there k.writes k.chose k.write.block v place (rw k.of_block read) in
      record {
        setter = entry;
        there = in_history entry (inr (inl (record { write = k.write; there = k.there; writes = k.writes; chose = k.chose; stands = due; made = refl })));
        sets = tt;
        of_block = k.of_block;
        stamped = refl;
      }

  set_foreign : (e : Entry) → (e.stamp ≢ first_stamp s) → FirstRead e.block e.stamp w.records → (HasWrite w.records e.block e.stamp → ⊥) → HasSetter h e.block e.stamp
  set_foreign e other k none =
      let entry = foreign_entry e.block e.stamp k.value in
      record {
        setter = entry;
        there = in_history entry (inr (inr (other, record { place = k.end; seen = k.is; first = k.first; no_write = none; made = refl })));
        sets = tt;
        of_block = refl;
        stamped = refl;
      }

  -- a read's stamp other than the first has an entry that sets it
  set_read : (e : Entry) (place : ℕ) → HasRead w.records e.block e.stamp e.value place → IsGiven s e.stamp e.value → ((e.stamp ≡ first_stamp s) × (e.value ≡ zeros s)) ⊎ HasSetter h e.block e.stamp
  set_read e place read (inl k) = inl k
  set_read e place read (inr k) =
      inr (elim (find_write e.block e.stamp w.records) [
        | inl f ↦ set_write e e.value place read f
        | inr none ↦ elim (find_read e.block e.stamp w.records) [
          | inl f ↦ set_foreign e (λ q. let l : 0 < e.stamp.time = k.later in let z : e.stamp.time ≡ 0 = ap (λ (t : Stamp). t.time) q in omega arith) f none
          | inr m ↦ absurd (m e.value place read)
        ]
      ])

  set_by : (e : Entry) → e.kind ≡ Read → IsEntry w.records (first_stamp s) e → ((e.stamp ≡ first_stamp s) × (e.value ≡ zeros s)) ⊎ HasSetter h e.block e.stamp
  set_by e k (inl r) = let x = has_read s good w safe e r in set_read e x.0 x.1 (has_read_given s good w safe e.block x.0 e.stamp e.value x.1)
  set_by e k (inr (inl r)) = absurd (let q : e.kind ≡ Write = kind_made r.made in cc)
  set_by e k (inr (inr r)) = absurd (let q : e.kind ≡ Foreign = kind_made r.1.made in cc)

  -- so a read's stamp is the first, or that of an entry of its block that is no read
  pub of_write : (e : Entry) → Contains h e → e.kind ≡ Read → (e.stamp ≡ first_stamp s) ⊎ ((f : Entry) × Contains h f × (f.kind ≢ Read) × (f.block ≡ e.block) × (f.stamp ≡ e.stamp))
  of_write e there kind = elim (set_by e kind (is_entry e there)) [
    | inl k ↦ inl k.0
    | inr k ↦ inr (k.setter, k.there, (λ q. let x : Sets Read = (let y = k.sets in rw q at y) in x), k.of_block, k.stamped)
  ]

  pub legal : NoClash s w → Legal s h
  legal apart = legal_left h (λ block. zeros s) (λ block. first_stamp s) (record {
    sorted = hist.0;
    agree = λ e f i j q. one_value s good w safe apart e.stamp e.value f.value (entry_stamped s good w safe e (is_entry e i))
        (let z = entry_stamped s good w safe f (is_entry f j) in rw q z);
    above = λ e i. entry_low s good w safe e (is_entry e i);
    set = λ e i k. set_by e k (is_entry e i);
  })
