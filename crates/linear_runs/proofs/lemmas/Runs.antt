-- The operations of a run, in the order of its history.
use Rattle.std.proofs.Common.{◌≡◌, ◌⊎◌, ℕ, ◌<◌, ◌++◌, Bool, true, false, not, eqb, filter, map, List, [], ◌∷◌, get_or, Option, refl, sym, ap, subst, ◌∙◌, inl, inr, arith}
use Rattle.std.specs.declared.option.Option.TheVariants.{None, Some}
use Rattle.std.specs.declared.cmp.Ordering.TheVariants.{Less}
use Rattle.std.specs.List.{Contains, All, filter_map, list_any}
use Rattle.std.specs.List.Sorted.{IsPermutation}
use Rattle.std.proofs.lemmas.Bool.{eqb-true, eq-eqb}
use Rattle.std.proofs.lemmas.List.{map-append}
use Rattle.std.proofs.lemmas.List.Elements.{Contains-append_cases, Contains-get_or, filter-append}
use Rattle.std.proofs.lemmas.List.Sorted.{IsPermutation-map, IsPermutation-filter_both}
use Rattle.stamp_order.specs.declared.Stamp.{Stamp}
use Rattle.protocol.specs.Setting.{Setting, first_stamp, zeros}
use Rattle.protocol.specs.Operations.{Work, Outcome, How}
use Rattle.protocol.specs.Operations.Work.{Reads, Writes}
use Rattle.run_words.specs.declared.outcome.Outcome.TheVariants.{Wrote, Spent, Gave, Outvoted}
use Rattle.protocol.specs.World.{World, Record}
use Rattle.protocol.specs.Facts.{IsOutcomeOf}
use Rattle.protocol.specs.Report.{Ascend}
use Rattle.protocol.specs.Laws.{StartsAscend, RecordsAreTold, ReadsAreOfWrites}
use Rattle.protocol.specs.History.{Entry, Kind, entry_cmp, read_entry, write_entry, IsSorted, IsRead, IsWrite, IsDue, IsEntry, IsHistory, Legal, InTime}
use Rattle.protocol.specs.History.Kind.{Read as ReadKind, Write as WriteKind, Foreign}
use Rattle.protocol.proofs.lemmas.Entries.{not_self}
use Rattle.lists.proofs.lemmas.Members.{Contains-none, Contains-cons_cases, Contains-map, Contains-map_cases, filter_is, filter_has, member_of_all}
use Rattle.linear_runs.specs.Linear.{Act, Operation, IsOrderOf, Linearizable, on_block}
use Rattle.linear_runs.specs.Linear.Act.{Read, Write}
use Rattle.linear_runs.specs.Meaning.{EachTakesTime}
use Rattle.linear_runs.specs.Of.{op_of, done_by, known, seen_by, each_once, is_unknown, unknown, unknown_write, operations}
use Rattle.linear_runs.proofs.lemmas.Matching.{Once, same_members, once_filter, once_map, filter_map_is, filter_map_has, once_made, any_is, any_has, filter_map_of, map_same, permutation_of_parts}
use Rattle.linear_runs.proofs.Unknown.{AgreeOn, once_each, unknown_foreign, foreign_unknown}
use Rattle.linear_runs.proofs.lemmas.Orders.{entry_op, is_on, ops_on, in_time_on, reads_last_on}

-- what an entry is
abbrev is_foreign : Kind → Bool
is_foreign Foreign = true
is_foreign _ = false

-- ---- records

starts : List Record → List ℕ
starts rs = map (λ r. r.start) rs

above : (n : ℕ) (rs : List Record) → Ascend (n ∷ map (λ r. r.start) rs) → (x : Record) → Contains rs x → n < x.start
above n rs up x there = member_of_all (λ (m : ℕ). n < m) (map (λ r. r.start) rs) up.0 x.start (Contains-map (λ (r : Record). r.start) rs x there)

pub one_start : (rs : List Record) → Ascend (map (λ r. r.start) rs) → (x y : Record) → Contains rs x → Contains rs y → x.start ≡ y.start → x ≡ y
one_start [] up x y a b same = absurd (Contains-none x a)
one_start (r ∷ rs) up x y a b same =
    let rest = one_start rs up.1 x y in
    elim (Contains-cons_cases x r rs a) [
      | inl e ↦ elim (Contains-cons_cases y r rs b) [
        | inl f ↦ e ∙ sym f
        | inr k ↦ absurd (let l = above r.start rs up y k in let g = ap (λ (z : Record). z.start) e in omega (arith, l, same, g))
      ]
      | inr m ↦ elim (Contains-cons_cases y r rs b) [
        | inl f ↦ absurd (let l = above r.start rs up x m in let g = ap (λ (z : Record). z.start) f in omega (arith, l, same, g))
        | inr k ↦ rest m k same
      ]
    ]

pub once_records : (rs : List Record) → Ascend (map (λ r. r.start) rs) → Once rs
once_records [] up = tt
once_records (r ∷ rs) up = (λ k. let l = above r.start rs up r k in omega (arith, l), once_records rs up.1)

pub once_sorted : (h : List Entry) → IsSorted h → Once h
once_sorted [] s = tt
once_sorted (e ∷ es) s = (λ k. not_self e (member_of_all (λ (f : Entry). entry_cmp e f ≡ Less) es s.0 e k), once_sorted es s.1)

-- what a record's operation has of the record
pub done_is : (r : Record) (work : Work) (o : Option Outcome) (p : Operation) → done_by r work o ≡ Some p → (act : Act) × (p ≡ op_of r act)
done_is r Reads None p e = absurd (cc)
done_is r Reads (Some (Gave t v how rounds)) p e = (Read v, cc)
done_is r Reads (Some (Wrote t)) p e = absurd (cc)
done_is r Reads (Some Spent) p e = absurd (cc)
done_is r Reads (Some (Outvoted nodes)) p e = absurd (cc)
done_is r (Writes v) None p e = (Write v, cc)
done_is r (Writes v) (Some (Wrote t)) p e = (Write v, cc)
done_is r (Writes v) (Some (Gave t u how rounds)) p e = absurd (cc)
done_is r (Writes v) (Some Spent) p e = absurd (cc)
done_is r (Writes v) (Some (Outvoted nodes)) p e = absurd (cc)

-- the entry that a record's operation would have
entry_by : Record → Work → Option Outcome → Option Stamp → Option Entry
entry_by r Reads (Some (Gave t v how rounds)) stamp = Some (read_entry r t v)
entry_by r (Writes v) o (Some t) = Some (write_entry r t v)
entry_by r _ _ _ = None

gave_done : (r : Record) (work : Work) (stamp : Option Stamp) (o : Option Outcome) (t : Stamp) (v : List ℕ) (how : How) (rounds : ℕ) → o ≡ Some (Gave t v how rounds) → IsOutcomeOf work stamp o → (done_by r work o ≡ Some (op_of r (Read v))) × (entry_by r work o stamp ≡ Some (read_entry r t v))
unfolding entry_by
gave_done r Reads stamp o t v how rounds e k = (rw e refl, rw e refl)
gave_done r (Writes u) stamp o t v how rounds e k = absurd (let q : IsOutcomeOf (Writes u) stamp (Some (Gave t v how rounds)) = rw e at k in q)

write_entry_by : (r : Record) (work : Work) (o : Option Outcome) (stamp : Option Stamp) (t : Stamp) (v : List ℕ) → work ≡ Writes v → stamp ≡ Some t → entry_by r work o stamp ≡ Some (write_entry r t v)
unfolding entry_by
write_entry_by r work o stamp t v e f = rw (e, f) refl

same_start : Option ℕ → Option ℕ → Bool
same_start (Some a) (Some b) = eqb a b
same_start _ _ = false

same_start_is : (a b : Option ℕ) (n : ℕ) → b ≡ Some n → same_start a b ≡ true → a ≡ Some n
unfolding same_start
same_start_is None b n e h = absurd (cc)
same_start_is (Some a) None n e h = absurd (cc)
same_start_is (Some a) (Some b) n e h = ap (λ (m : ℕ). Some m) (eqb-true a b h) ∙ e

same_start_has : (a b : Option ℕ) (n : ℕ) → a ≡ Some n → b ≡ Some n → same_start a b ≡ true
unfolding same_start
same_start_has a b n e f = rw (e, f) (eq-eqb n n refl)

all_of : {X : Type 0} (P : X → Type 0) (xs : List X) → ((x : X) → Contains xs x → P x) → All P xs
all_of P xs h k d l = h (get_or xs k d) (Contains-get_or xs k d l)

foreign_is : (k : Kind) → is_foreign k ≡ true → k ≡ Foreign
foreign_is Foreign e = refl
foreign_is ReadKind e = absurd (cc)
foreign_is WriteKind e = absurd (cc)

-- no operation of a run ended before it began
pub takes_time : (s : Setting) (w : World) → RecordsAreTold s w → EachTakesTime (zeros s) (operations s w)
takes_time s w told o start end k e f =
    elim (Contains-append_cases (known w.records) (unknown (first_stamp s) w.records) o k) [
      | inl m ↦ (
          let x = filter_map_is (λ r. done_by r r.work r.outcome) w.records o m in
          let d = done_is x.0 x.0.work x.0.outcome o x.2 in
          let a : Some x.0.start ≡ Some start = sym (ap (λ (z : Operation). z.start) d.1) ∙ e in
          let b : x.0.end ≡ Some end = sym (ap (λ (z : Operation). z.end) d.1) ∙ f in
          let l = ((told x.0 x.1).end end b).0 in
          let c : x.0.start ≡ start = cc in
          omega (arith, l, c))
      | inr m ↦ (
          let x = Contains-map_cases unknown_write (filter (is_unknown (first_stamp s) w.records) (each_once (filter_map (λ r. seen_by r r.outcome) w.records))) o m in
          let n : o.start ≡ None = ap (λ (z : Operation). z.start) x.2 in
          absurd (cc))
    ]

-- ---- a run

module _ (s : Setting) (w : World) (up : StartsAscend s w) (told : RecordsAreTold s w) (of_write : ReadsAreOfWrites s w) (h : List Entry) (hist : IsHistory s w h) (agree : AgreeOn w.records) where
  done : Record → Option Operation
  done r = done_by r r.work r.outcome

  -- the entry is that of this record's operation
  record Own (e : Entry) : Type 0 where
    of : Record
    there : Contains w.records of
    does : done_by of of.work of.outcome ≡ Some (entry_op e)
    gives : entry_by of of.work of.outcome of.stamp ≡ Some e
    started : e.start ≡ Some of.start
    kind : is_foreign e.kind ≡ false

  own_read : (e : Entry) → IsRead w.records e → Own e
  own_read e k =
      let g = gave_done k.read k.read.work k.read.stamp k.read.outcome e.stamp e.value k.how k.rounds k.gave (told k.read k.there).outcome in
      record {
        of = k.read;
        there = k.there;
        does = g.0 ∙ ap (λ (z : Operation). Some z) (sym (ap entry_op k.made));
        gives = g.1 ∙ ap (λ (z : Entry). Some z) (sym k.made);
        started = ap (λ (z : Entry). z.start) k.made;
        kind = ap is_foreign (ap (λ (z : Entry). z.kind) k.made);
      }

  write_done : (r : Record) (v : List ℕ) (stamp : Stamp) (block : ℕ) → Contains w.records r → r.work ≡ Writes v → IsDue w.records r block stamp → done_by r r.work r.outcome ≡ Some (op_of r (Write v))
  write_done r v stamp block there e (inl o) = rw (e, o) refl
  write_done r v stamp block there e (inr k) = let n : r.outcome ≡ None = (told r there).ended.0 k.pending in rw (e, n) refl

  own_write : (e : Entry) → IsWrite w.records e → Own e
  own_write e k =
      record {
        of = k.write;
        there = k.there;
        does = write_done k.write e.value e.stamp e.block k.there k.writes k.stands ∙ ap (λ (z : Operation). Some z) (sym (ap entry_op k.made));
        gives = write_entry_by k.write k.write.work k.write.outcome k.write.stamp e.stamp e.value k.writes k.chose ∙ ap (λ (z : Entry). Some z) (sym k.made);
        started = ap (λ (z : Entry). z.start) k.made;
        kind = ap is_foreign (ap (λ (z : Entry). z.kind) k.made);
      }

  record Unknown (e : Entry) : Type 0 where
    kind : is_foreign e.kind ≡ true
    start : e.start ≡ None
    does : entry_op e ≡ unknown_write e

  which : (e : Entry) → IsEntry w.records (first_stamp s) e → (Own e) ⊎ (Unknown e)
  which e (inl k) = inl (own_read e k)
  which e (inr (inl k)) = inl (own_write e k)
  which e (inr (inr k)) = inr (record { kind = ap is_foreign (ap (λ (z : Entry). z.kind) k.1.made); start = ap (λ (z : Entry). z.start) k.1.made; does = ap entry_op k.1.made })

  which_of : (e : Entry) → Contains h e → (Own e) ⊎ (Unknown e)
  which_of e there = which e ((hist.1 e).0 there)

  own : Entry → Bool
  own e = not (is_foreign e.kind)

  foreign : Entry → Bool
  foreign e = is_foreign e.kind

  owned : (e : Entry) → Contains h e → own e ≡ true → Own e
  unfolding own
  owned e there t = elim (which_of e there) [ inl k ↦ k | inr k ↦ absurd (let q : not (is_foreign e.kind) ≡ false = rw k.kind refl in cc) ]

  unowned : (e : Entry) → Contains h e → foreign e ≡ true → Unknown e
  unfolding foreign
  unowned e there t = elim (which_of e there) [ inl k ↦ absurd (let q = k.kind in cc) | inr k ↦ k ]

  -- the history has an entry of this operation
  is_there : Operation → Bool
  is_there o = list_any (λ e. same_start e.start o.start) h

  has_entry : (o : Operation) (n : ℕ) (e : Entry) → Contains h e → e.start ≡ Some n → o.start ≡ Some n → is_there o ≡ true
  unfolding is_there
  has_entry o n e there a b = any_has (λ e. same_start e.start o.start) h e there (same_start_has e.start o.start n a b)

  -- what a record's operation has of it
  started : (r : Record) (o : Operation) → done_by r r.work r.outcome ≡ Some o → o.start ≡ Some r.start
  started r o e = let k = done_is r r.work r.outcome o e in ap (λ (z : Operation). z.start) k.1

  ended : (r : Record) (o : Operation) → done_by r r.work r.outcome ≡ Some o → o.end ≡ r.end
  ended r o e = let k = done_is r r.work r.outcome o e in ap (λ (z : Operation). z.end) k.1

  -- an operation with no entry hasn't ended
  no_end : (r : Record) (o : Operation) → Contains w.records r → done_by r r.work r.outcome ≡ Some o → is_there o ≡ false → r.end ≡ None
  no_end r o there e f = at r.work r.outcome refl refl (told r there).outcome
    where
      begun : o.start ≡ Some r.start
      begun = started r o e

      against : (x : Entry) → Contains h x → x.start ≡ Some r.start → r.end ≡ None
      against x k b = absurd (let t = has_entry o r.start x k b begun in cc)

      none : (work : Work) (z : Option Outcome) → r.work ≡ work → r.outcome ≡ z → done_by r work z ≡ None → r.end ≡ None
      none work z a b c = absurd (let q : done_by r work z ≡ Some o = rw (← a, ← b) e in cc)

      at : (work : Work) (z : Option Outcome) → r.work ≡ work → r.outcome ≡ z → IsOutcomeOf r.work r.stamp r.outcome → r.end ≡ None
      at Reads None a b k = none Reads None a b refl
      at Reads (Some (Gave t v how rounds)) a b k =
          against (read_entry r t v) ((hist.1 _).1 (inl (record { read = r; there = there; how = how; rounds = rounds; gave = b; made = refl }))) refl
      at Reads (Some (Wrote t)) a b k = none Reads (Some (Wrote t)) a b refl
      at Reads (Some Spent) a b k = none Reads (Some Spent) a b refl
      at Reads (Some (Outvoted nodes)) a b k = none Reads (Some (Outvoted nodes)) a b refl
      at (Writes v) None a b k = (told r there).ended.1 b
      at (Writes v) (Some (Wrote t)) a b k =
          let c : IsOutcomeOf (Writes v) r.stamp (Some (Wrote t)) = rw (a, b) at k in
          against (write_entry r t v) ((hist.1 _).1 (inr (inl (record { write = r; there = there; writes = a; chose = c; stands = inl b; made = refl })))) refl
      at (Writes v) (Some (Gave t u how rounds)) a b k = none (Writes v) (Some (Gave t u how rounds)) a b refl
      at (Writes v) (Some Spent) a b k = none (Writes v) (Some Spent) a b refl
      at (Writes v) (Some (Outvoted nodes)) a b k = none (Writes v) (Some (Outvoted nodes)) a b refl

  module _ (block : ℕ) where
    all : List Operation
    all = on_block block (known w.records)

    entries : List Entry
    entries = filter (is_on block) h

    record Made (o : Operation) : Type 0 where
      of : Record
      there : Contains w.records of
      does : done_by of of.work of.outcome ≡ Some o
      on : o.block ≡ block

    made_of : (o : Operation) → Contains all o → Made o
    unfolding all
    made_of o k =
        let a = filter_is (λ (x : Operation). eqb x.block block) (known w.records) o k in
        let m = filter_map_is (λ r. done_by r r.work r.outcome) w.records o a.0 in
        record { of = m.0; there = m.1; does = m.2; on = eqb-true _ _ a.1 }

    once_all : Once all
    unfolding all
    once_all =
        once_filter (λ (x : Operation). eqb x.block block) (known w.records)
        (once_made (λ r. done_by r r.work r.outcome) w.records (once_records w.records up)
        (λ x z y a b e f. one_start w.records up x z a b (let p = started x y e in let q = started z y f in cc)))

    entry_in : (e : Entry) → Contains entries e → (Contains h e) × (e.block ≡ block)
    unfolding entries
    entry_in e k = let a = filter_is (is_on block) h e k in (a.0, eqb-true _ _ a.1)

    once_entries : Once (filter own entries)
    unfolding entries
    once_entries = once_filter own (filter (is_on block) h) (once_filter (is_on block) h (once_sorted h hist.0))

    own_in : (e : Entry) → Contains (filter own entries) e → (Own e) × (Contains h e) × (e.block ≡ block)
    own_in e k = let a = filter_is own entries e k in let b = entry_in e a.0 in (owned e b.0 a.1, b.0, b.1)

    once_ops : Once (map entry_op (filter own entries))
    once_ops = once_map entry_op (filter own entries) once_entries apart
      where
        apart : (e f : Entry) → Contains (filter own entries) e → Contains (filter own entries) f → entry_op e ≡ entry_op f → e ≡ f
        apart e f k l same =
            let a = (own_in e k).0 in
            let b = (own_in f l).0 in
            let t : e.start ≡ f.start = ap (λ (z : Operation). z.start) same in
            let n : Some a.of.start ≡ Some b.of.start = sym a.started ∙ t ∙ b.started in
            let one = one_start w.records up a.of b.of a.there b.there (cc) in
            let g : Some e ≡ Some f = sym a.gives ∙ ap (λ (r : Record). entry_by r r.work r.outcome r.stamp) one ∙ b.gives in
            cc

    to : (o : Operation) → Contains (filter is_there all) o → Contains (map entry_op (filter own entries)) o
    unfolding is_there entries own
    to o k =
        let a = filter_is is_there all o k in
        let m = made_of o a.0 in
        let x = any_is (λ e. same_start e.start o.start) h a.1 in
        let t = same_start_is x.0.start o.start m.of.start (started m.of o m.does) x.2 in
        at m x.0 x.1 t (which_of x.0 x.1)
      where
        at : (m : Made o) (e : Entry) → Contains h e → e.start ≡ Some m.of.start → (Own e) ⊎ (Unknown e) → Contains (map entry_op (filter own entries)) o
        at m e there t (inr u) = absurd (let q = u.start in cc)
        at m e there t (inl x) =
            let n : Some x.of.start ≡ Some m.of.start = sym x.started ∙ t in
            let one = one_start w.records up x.of m.of x.there m.there (cc) in
            let g : Some (entry_op e) ≡ Some o = sym x.does ∙ ap (λ (r : Record). done_by r r.work r.outcome) one ∙ m.does in
            let i : entry_op e ≡ o = cc in
            let on : e.block ≡ block = ap (λ (z : Operation). z.block) i ∙ m.on in
            subst (λ (z : Operation). Contains (map entry_op (filter own entries)) z) i
            (Contains-map entry_op (filter own entries) e (filter_has own entries e (filter_has (is_on block) h e there (eq-eqb _ _ on)) (rw x.kind refl)))

    from : (o : Operation) → Contains (map entry_op (filter own entries)) o → Contains (filter is_there all) o
    unfolding all
    from o k =
        let m = Contains-map_cases entry_op (filter own entries) o k in
        let e = m.0 in
        let a = own_in e m.1 in
        let x = a.0 in
        let d = filter_map_has (λ r. done_by r r.work r.outcome) w.records x.of (entry_op e) x.there x.does in
        let on : Contains all (entry_op e) = filter_has (λ (y : Operation). eqb y.block block) (known w.records) (entry_op e) d (eq-eqb _ _ a.2) in
        rw m.2 (filter_has is_there all (entry_op e) on (has_entry (entry_op e) x.of.start e a.1 x.started x.started))

    same_ops : IsPermutation (filter is_there all) (map entry_op (filter own entries))
    same_ops = same_members (filter is_there all) (map entry_op (filter own entries)) (once_filter is_there all once_all) once_ops to from

    left : List Operation
    left = filter (λ o. not (is_there o)) all

    left_unended : All (λ o. o.end ≡ None) left
    unfolding left
    left_unended = all_of (λ (o : Operation). o.end ≡ None) (filter (λ o. not (is_there o)) all) (λ o k.
        let a = filter_is (λ o. not (is_there o)) all o k in
        let m = made_of o a.0 in
        ended m.of o m.does ∙ no_end m.of o m.there m.does (off (is_there o) a.1))
      where
        off : (b : Bool) → not b ≡ true → b ≡ false
        off true e = absurd (cc)
        off false e = refl

    same_others : IsPermutation (filter (is_on block) (filter (is_unknown (first_stamp s) w.records) (each_once (filter_map (λ r. seen_by r r.outcome) w.records)))) (filter foreign entries)
    unfolding entries foreign
    same_others =
        let strange = is_unknown (first_stamp s) w.records in
        let seen = filter_map (λ r. seen_by r r.outcome) w.records in
        let f = λ (e : Entry). is_foreign e.kind in
        same_members (filter (is_on block) (filter strange (each_once seen))) (filter f (filter (is_on block) h))
        (once_filter (is_on block) _ (once_filter strange (each_once seen) (once_each seen)))
        (once_filter f _ (once_filter (is_on block) h (once_sorted h hist.0)))
        (λ e k.
        let a = filter_is (is_on block) (filter strange (each_once seen)) e k in
        let b = unknown_foreign s w of_write h hist agree e a.0 in
        filter_has f _ e (filter_has (is_on block) h e b.0 a.1) (ap is_foreign b.1))
        (λ e k.
        let a = filter_is f (filter (is_on block) h) e k in
        let b = filter_is (is_on block) h e a.0 in
        filter_has (is_on block) _ e (foreign_unknown s w of_write h hist agree e b.0 (foreign_is e.kind a.1)) b.1)

    others : IsPermutation (on_block block (unknown (first_stamp s) w.records)) (map entry_op (filter foreign entries))
    unfolding entries foreign
    others =
        rw (
          filter_map_of unknown_write (λ (o : Operation). eqb o.block block) (is_on block) (λ e. refl) (filter (is_unknown (first_stamp s) w.records) (each_once (filter_map (λ r. seen_by r r.outcome) w.records))),
          map_same entry_op unknown_write (filter (λ e. is_foreign e.kind) (filter (is_on block) h)) (λ e k.
              let a = filter_is (λ (e : Entry). is_foreign e.kind) (filter (is_on block) h) e k in
              let b = filter_is (is_on block) h e a.0 in
              (unowned e b.0 a.1).does),
        )
        (IsPermutation-map unknown_write _ _ same_others)

    parts : IsPermutation (map entry_op entries) (map entry_op (filter foreign entries) ++ map entry_op (filter own entries))
    unfolding foreign own
    parts = rw (← map-append) (IsPermutation-map entry_op _ _ (IsPermutation-filter_both (λ e. is_foreign e.kind) (λ e. not (is_foreign e.kind)) (λ e. refl) entries))

    pub order_of : IsOrderOf (on_block block (operations s w)) (ops_on block h)
    unfolding all left entries
    order_of = record {
      left_out = left;
      all = rw filter-append (permutation_of_parts all (filter is_there all) left (map entry_op (filter own entries)) (on_block block (unknown (first_stamp s) w.records)) (map entry_op (filter foreign entries)) (map entry_op entries)
          (IsPermutation-filter_both is_there (λ o. not (is_there o)) (λ o. refl) all) same_ops parts others);
      unended = left_unended;
    }

  pub history_linearizable : Legal s h → InTime h → Linearizable (zeros s) (operations s w)
  history_linearizable legal time block = record {
    order = ops_on block h;
    of_these = order_of block;
    in_time = in_time_on block h time;
    reads_last = reads_last_on block (λ b. zeros s) h legal;
  }
