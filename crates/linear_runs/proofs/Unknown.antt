-- The writes that reads saw and nobody known made are the foreign entries of the history.
use Rattle.std.proofs.Common.{◌≡◌, ◌≢◌, ℕ, Bool, true, false, not, eqb, filter, List, [], ◌∷◌, Option, refl, sym, ap, subst, ◌∙◌, inl, inr}
use Rattle.std.specs.declared.option.Option.TheVariants.{None, Some}
use Rattle.std.specs.List.{Contains, filter_map, list_any}
use Rattle.std.proofs.lemmas.Bool.{eqb-true, eq-eqb, and_parts, and_from, both_ways, not-true, not_from_false, cases_Bool}
use Rattle.stamp_order.specs.declared.Stamp.{Stamp}
use Rattle.stamp_order.specs.Stamps.{same_stamp}
use Rattle.protocol.specs.Setting.{Setting, Sound, first_stamp}
use Rattle.protocol.specs.Operations.{Work, Outcome, How}
use Rattle.protocol.specs.Operations.Work.{Reads, Writes}
use Rattle.run_words.specs.declared.outcome.Outcome.TheVariants.{Wrote, Spent, Gave, Outvoted}
use Rattle.protocol.specs.World.{World, Record}
use Rattle.protocol.specs.Laws.{ReadsAreSound, ReadsAreOfWrites, StampsHaveOneValue}
use Rattle.protocol.specs.History.{HasLie, Entry, read_entry, foreign_entry, HasRead, HasWrite, IsEntry, IsHistory, NoClash}
use Rattle.protocol.specs.History.Kind.{Read as ReadKind, Write as WriteKind, Foreign}
use Rattle.protocol.proofs.lemmas.Order.{same_stamp-≡, same_stamp-refl}
use Rattle.lists.proofs.lemmas.Members.{Contains-head, Contains-none, Contains-rest, Contains-cons_cases, Contains-map_cases, filter_is, filter_has}
use Rattle.linear_runs.specs.Of.{seen_by, is_same, each_once, chose, is_write_of, is_unknown, unknown, unknown_write}
use Rattle.linear_runs.specs.Linear.{Operation}
use Rattle.linear_runs.specs.Meaning.{value_of}
use Rattle.linear_runs.proofs.lemmas.Matching.{Once, once_filter, filter_map_is, filter_map_has, any_is, any_has, filter_none}

-- ---- each once

same_itself : (e : Entry) → is_same e e ≡ true
same_itself e = and_from _ _ (eq-eqb e.block e.block refl) (same_stamp-refl e.stamp)

pub once_each : (es : List Entry) → Once (each_once es)
once_each [] = tt
once_each (e ∷ es) = (
  λ k. let a = filter_is (λ f. not (is_same e f)) (each_once es) e k in
      let b = same_itself e in
      let c = not-true (is_same e e) a.1 in
      cc,
  once_filter (λ f. not (is_same e f)) (each_once es) (once_each es),
)

pub each_is : (es : List Entry) (f : Entry) → Contains (each_once es) f → Contains es f
each_is [] f k = absurd (Contains-none f k)
each_is (e ∷ es) f k =
    let rest = each_is es f in
    elim (Contains-cons_cases f e (filter (λ f. not (is_same e f)) (each_once es)) k) [
      | inl q ↦ rw q (Contains-head e es)
      | inr m ↦ Contains-rest f e es (rest (filter_is (λ f. not (is_same e f)) (each_once es) f m).0)
    ]

pub each_has : (es : List Entry) → ((e f : Entry) → Contains es e → Contains es f → is_same e f ≡ true → e ≡ f) → (f : Entry) → Contains es f → Contains (each_once es) f
each_has [] agree f k = absurd (Contains-none f k)
each_has (e ∷ es) agree f k =
    let rest = each_has es (λ a b l m. agree a b (Contains-rest a e es l) (Contains-rest b e es m)) f in
    elim (Contains-cons_cases f e es k) [
      | inl q ↦ rw q (Contains-head e (filter (λ f. not (is_same e f)) (each_once es)))
      | inr m ↦ elim (cases_Bool (is_same e f)) [
        | inl t ↦ rw (← agree e f (Contains-head e es) k t) (Contains-head e (filter (λ f. not (is_same e f)) (each_once es)))
        | inr t ↦ Contains-rest f e (filter (λ f. not (is_same e f)) (each_once es)) (filter_has (λ f. not (is_same e f)) (each_once es) f (rest m) (not_from_false _ t))
      ]
    ]

-- ---- of a record

-- the record's read gave what the entry tells
pub record Saw (r : Record) (e : Entry) : Type 0 where
  pub stamp : Stamp
  pub value : List ℕ
  pub how : How
  pub rounds : ℕ
  pub gave : r.outcome ≡ Some (Gave stamp value how rounds)
  pub is : e ≡ foreign_entry r.block stamp value

pub saw_of : (r : Record) (e : Entry) (o : Option Outcome) → r.outcome ≡ o → seen_by r o ≡ Some e → Saw r e
saw_of r e None q k = absurd (cc)
saw_of r e (Some (Gave t v how rounds)) q k = record { stamp = t; value = v; how = how; rounds = rounds; gave = q; is = cc }
saw_of r e (Some (Wrote t)) q k = absurd (cc)
saw_of r e (Some Spent) q k = absurd (cc)
saw_of r e (Some (Outvoted nodes)) q k = absurd (cc)

chose_is : (t : Stamp) (work : Work) (o : Option Stamp) → chose t work o ≡ true → (value : List ℕ) × (work ≡ Writes value) × (o ≡ Some t)
chose_is t Reads o h = absurd (cc)
chose_is t (Writes v) None h = absurd (cc)
chose_is t (Writes v) (Some u) h = (v, refl, ap (λ (x : Stamp). Some x) (same_stamp-≡ u t h))

chose_has : (t : Stamp) (work : Work) (o : Option Stamp) (v : List ℕ) → work ≡ Writes v → o ≡ Some t → chose t work o ≡ true
chose_has t work o v e f = rw (e, f) (same_stamp-refl t)

module _ (first : Stamp) (records : List Record) (e : Entry) where
  unfirst : Bool
  unfirst = not (same_stamp e.stamp first)

  unmade : Bool
  unmade = not (list_any (is_write_of e) records)

  pub unknown_is : is_unknown first records e ≡ true → (e.stamp ≢ first) × (HasWrite records e.block e.stamp → ⊥)
  unfolding unfirst unmade
  unknown_is h =
      let a = and_parts unfirst unmade h in
      let b : same_stamp e.stamp first ≡ false = not-true (same_stamp e.stamp first) a.0 in
      let c : list_any (is_write_of e) records ≡ false = not-true (list_any (is_write_of e) records) a.1 in (
        λ q. let d : same_stamp first first ≡ false = rw q at b in both_ways (same_stamp first first) d (same_stamp-refl first),
        λ k. both_ways (list_any (is_write_of e) records) c
            (any_has (is_write_of e) records k.write k.there
            (and_from (eqb k.write.block e.block) (chose e.stamp k.write.work k.write.stamp) (eq-eqb k.write.block e.block k.of_block) (chose_has e.stamp k.write.work k.write.stamp k.value k.writes k.chose))),
      )

  pub unknown_has : e.stamp ≢ first → (HasWrite records e.block e.stamp → ⊥) → is_unknown first records e ≡ true
  unfolding unfirst unmade
  unknown_has later none =
      and_from unfirst unmade
      (elim (cases_Bool (same_stamp e.stamp first)) [ inl t ↦ absurd (later (same_stamp-≡ e.stamp first t)) | inr t ↦ not_from_false (same_stamp e.stamp first) t ])
      (elim (cases_Bool (list_any (is_write_of e) records)) [ inl t ↦ absurd (none (wrote (any_is (is_write_of e) records t))) | inr t ↦ not_from_false (list_any (is_write_of e) records) t ])
    where
      wrote : (r : Record) × Contains records r × (is_write_of e r ≡ true) → HasWrite records e.block e.stamp
      wrote k =
          let a = and_parts (eqb k.0.block e.block) (chose e.stamp k.0.work k.0.stamp) k.2 in
          let b = chose_is e.stamp k.0.work k.0.stamp a.1 in
          record { write = k.0; there = k.1; of_block = eqb-true k.0.block e.block a.0; value = b.0; writes = b.1; chose = b.2 }

-- ---- a run

-- reads of one stamp on one block give one value
abbrev pub AgreeOn : List Record → Type 0
AgreeOn records = (x y : Record) (t : Stamp) (u v : List ℕ) (h k : How) (m n : ℕ) → Contains records x → Contains records y → x.block ≡ y.block → x.outcome ≡ Some (Gave t u h m) → y.outcome ≡ Some (Gave t v k n) → u ≡ v

-- the law of values says so
pub agree_on : (s : Setting) (w : World) → StampsHaveOneValue s w → NoClash s w → AgreeOn w.records
agree_on s w one apart x y t u v h k m n a b same e f =
    one (read_entry x t u) (read_entry y t v) apart
    (inl (record { read = x; there = a; how = h; rounds = m; gave = e; made = refl }))
    (inl (record { read = y; there = b; how = k; rounds = n; gave = f; made = refl }))
    refl

module _ (s : Setting) (w : World) (of_write : ReadsAreOfWrites s w) (h : List Entry) (hist : IsHistory s w h) where
  abbrev pub seen : List Entry
  seen = filter_map (λ r. seen_by r r.outcome) w.records

  abbrev pub strange : Entry → Bool
  strange = is_unknown (first_stamp s) w.records

  -- the history has a foreign write of its block and stamp
  pub record Stands (e : Entry) : Type 0 where
    pub write : Entry
    pub there : Contains h write
    pub kind : write.kind ≡ Foreign
    pub block : write.block ≡ e.block
    pub stamp : write.stamp ≡ e.stamp
    pub made : write ≡ foreign_entry write.block write.stamp write.value
    pub place : ℕ
    pub seen_there : HasRead w.records write.block write.stamp write.value place

  module _ (e : Entry) (r : Record) (there : Contains w.records r) (saw : Saw r e) (t : strange e ≡ true) where
    pub reads : Contains h (read_entry r saw.stamp saw.value)
    reads = (hist.1 (read_entry r saw.stamp saw.value)).1 (inl (record { read = r; there = there; how = saw.how; rounds = saw.rounds; gave = saw.gave; made = refl }))

    block : e.block ≡ r.block
    block = ap (λ (z : Entry). z.block) saw.is

    stamp : e.stamp ≡ saw.stamp
    stamp = ap (λ (z : Entry). z.stamp) saw.is

    by : (f : Entry) → Contains h f → f.kind ≢ ReadKind → f.block ≡ e.block → f.stamp ≡ e.stamp → IsEntry w.records (first_stamp s) f → Stands e
    by f in_h other b u (inl x) = absurd (other (ap (λ (z : Entry). z.kind) x.made))
    by f in_h other b u (inr (inl x)) =
        absurd ((unknown_is (first_stamp s) w.records e t).1
        (record { write = x.write; there = x.there; of_block = sym (ap (λ (z : Entry). z.block) x.made) ∙ b; value = f.value; writes = x.writes; chose = x.chose ∙ ap (λ (z : Stamp). Some z) u }))
    by f in_h other b u (inr (inr x)) = record { write = f; there = in_h; kind = ap (λ (z : Entry). z.kind) x.1.made; block = b; stamp = u; made = x.1.made; place = x.1.place; seen_there = x.1.seen }

    pub stands : Stands e
    stands = elim (of_write h (read_entry r saw.stamp saw.value) hist reads refl) [
      | inl q ↦ absurd ((unknown_is (first_stamp s) w.records e t).0 (stamp ∙ q))
      | inr k ↦ by k.0 k.1 k.2 (k.3 ∙ sym block) (k.4 ∙ sym stamp) ((hist.1 k.0).0 k.1)
    ]

  module _ (agree : AgreeOn w.records) where
    pub unknown_foreign : (e : Entry) → Contains (filter strange (each_once seen)) e → Contains h e × (e.kind ≡ Foreign)
    unknown_foreign e k =
        let a = filter_is strange (each_once seen) e k in
        let m = filter_map_is (λ r. seen_by r r.outcome) w.records e (each_is seen e a.0) in
        let saw = saw_of m.0 e m.0.outcome refl m.2 in
        let f = stands e m.0 m.1 saw a.1 in
        let x = f.seen_there in
        let b : f.write.block ≡ m.0.block = f.block ∙ ap (λ (z : Entry). z.block) saw.is in
        let t : f.write.stamp ≡ saw.stamp = f.stamp ∙ ap (λ (z : Entry). z.stamp) saw.is in
        let gave : x.read.outcome ≡ Some (Gave saw.stamp f.write.value x.how x.rounds) = x.gave ∙ ap (λ (z : Stamp). Some (Gave z f.write.value x.how x.rounds)) t in
        let v = agree x.read m.0 saw.stamp f.write.value saw.value x.how saw.how x.rounds saw.rounds x.there m.1 (x.of_block ∙ b) gave saw.gave in
        let whole : f.write ≡ e = f.made ∙ (λ i. foreign_entry (b i) (t i) (v i)) ∙ sym saw.is in
        (subst (λ (z : Entry). Contains h z) whole f.there, ap (λ (z : Entry). z.kind) saw.is)

    one_seen : (e f : Entry) → Contains seen e → Contains seen f → is_same e f ≡ true → e ≡ f
    one_seen e f k l q =
        let a = filter_map_is (λ r. seen_by r r.outcome) w.records e k in
        let b = filter_map_is (λ r. seen_by r r.outcome) w.records f l in
        let x = saw_of a.0 e a.0.outcome refl a.2 in
        let y = saw_of b.0 f b.0.outcome refl b.2 in
        let p = and_parts _ _ q in
        let block : a.0.block ≡ b.0.block = sym (ap (λ (z : Entry). z.block) x.is) ∙ eqb-true _ _ p.0 ∙ ap (λ (z : Entry). z.block) y.is in
        let stamp : x.stamp ≡ y.stamp = sym (ap (λ (z : Entry). z.stamp) x.is) ∙ same_stamp-≡ _ _ p.1 ∙ ap (λ (z : Entry). z.stamp) y.is in
        let gave : a.0.outcome ≡ Some (Gave y.stamp x.value x.how x.rounds) = x.gave ∙ ap (λ (z : Stamp). Some (Gave z x.value x.how x.rounds)) stamp in
        let v = agree a.0 b.0 y.stamp x.value y.value x.how y.how x.rounds y.rounds a.1 b.1 block gave y.gave in
        x.is ∙ (λ i. foreign_entry (block i) (stamp i) (v i)) ∙ sym y.is

    pub foreign_unknown : (e : Entry) → Contains h e → e.kind ≡ Foreign → Contains (filter strange (each_once seen)) e
    foreign_unknown e there kind = at ((hist.1 e).0 there)
      where
        at : IsEntry w.records (first_stamp s) e → Contains (filter strange (each_once seen)) e
        at (inl k) = absurd (let q : e.kind ≡ ReadKind = ap (λ (z : Entry). z.kind) k.made in cc)
        at (inr (inl k)) = absurd (let q : e.kind ≡ WriteKind = ap (λ (z : Entry). z.kind) k.made in cc)
        at (inr (inr k)) =
            let x = k.1.seen in
            let g : seen_by x.read x.read.outcome ≡ Some e = ap (seen_by x.read) x.gave ∙ ap (λ (z : Entry). Some z) ((λ i. foreign_entry (x.of_block i) e.stamp e.value) ∙ sym k.1.made) in
            filter_has strange (each_once seen) e (each_has seen one_seen e (filter_map_has (λ r. seen_by r r.outcome) w.records x.read e x.there g)) (unknown_has (first_stamp s) w.records e k.0 k.1.no_write)

  module _ (sound : ReadsAreSound s w) (lied : (e : Entry) (value : List ℕ) (place : ℕ) → Contains h e → e.kind ≡ Foreign → HasRead w.records e.block e.stamp value place → HasLie s w e.block e.stamp) where
    -- each was lied
    unknown_lied : (e : Entry) → Contains (each_once seen) e → strange e ≡ true → HasLie s w e.block e.stamp × Sound s e.stamp e.value
    unknown_lied e k t =
        let m = filter_map_is (λ r. seen_by r r.outcome) w.records e (each_is seen e k) in
        let saw = saw_of m.0 e m.0.outcome refl m.2 in
        let f = stands e m.0 m.1 saw t in
        let lie = lied f.write f.write.value f.place f.there f.kind f.seen_there in
        let fine : Sound s saw.stamp saw.value = sound h (read_entry m.0 saw.stamp saw.value) hist (reads e m.0 m.1 saw t) refl in
        (subst (λ (z : Stamp). HasLie s w e.block z) f.stamp (subst (λ (z : ℕ). HasLie s w z f.write.stamp) f.block lie), subst (λ (z : Entry). Sound s z.stamp z.value) (sym saw.is) fine)

    -- so there is none where none is
    pub none_unknown : ((client : ℕ) → s.lying_client client ≡ false) → filter strange (each_once seen) ≡ []
    none_unknown honest = filter_none strange (each_once seen) (λ e k t.
        let lie = (unknown_lied e k t).0 in
        both_ways (s.lying_client lie.message.client) (honest lie.message.client) lie.lies)

    pub op_lied : (o : Operation) → Contains (unknown (first_stamp s) w.records) o → (stamp : Stamp) × HasLie s w o.block stamp × Sound s stamp (value_of o.act)
    op_lied o k =
        let m = Contains-map_cases unknown_write (filter strange (each_once seen)) o k in
        let a = filter_is strange (each_once seen) m.0 m.1 in
        let l = unknown_lied m.0 a.0 a.1 in (
          m.0.stamp,
          subst (λ (b : ℕ). HasLie s w b m.0.stamp) (sym (ap (λ (z : Operation). z.block) m.2)) l.0,
          subst (λ (z : Operation). Sound s m.0.stamp (value_of z.act)) (sym m.2) l.1,
        )
