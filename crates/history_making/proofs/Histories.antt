-- What stands among the candidates of a run's records is its history.
use Rattle.std.proofs.Common.{◌≡◌, ◌≢◌, ◌⊎◌, ◌↔◌, ℕ, ◌<◌, ◌≤◌, Bool, true, false, List, [], ◌∷◌, Option, refl, sym, subst, ◌∙◌, ap, inl, inr, arith}
use Rattle.std.specs.declared.option.Option.TheVariants.{None, Some}
use Rattle.std.specs.declared.cmp.Ordering.TheVariants.{Less, Equal}
use Rattle.std.specs.List.{Contains}
use Rattle.std.proofs.lemmas.Cmp.{tied_itself}
use Rattle.stamp_order.specs.declared.Stamp.{Stamp}
use Rattle.run_words.specs.declared.outcome.Outcome.TheVariants.{Wrote, Spent, Gave, Outvoted}
use Rattle.protocol.specs.Operations.{Work, Outcome, How}
use Rattle.protocol.specs.Operations.Work.{Reads, Writes}
use Rattle.protocol.specs.World.{Record}
use Rattle.protocol.specs.Facts.{IsOutcomeOf}
use Rattle.protocol.specs.History.{Entry, read_entry, write_entry, is_read, entry_cmp, IsEntry, IsSorted, HasRead, HasWrite, IsDue, IsRead, IsWrite, IsForeign}
use Rattle.protocol.specs.History.Kind.{Write, Read}
use Rattle.protocol.proofs.lemmas.Entries.{same_entry, block_made, kind_made, client_made, start_made, end_made, entry_total, member_of, less_by_kind, less_by_end, not_back}
use Rattle.history_making.specs.Tellings.{AreRecords, IsHistoryOf}
use Rattle.history_making.specs.Drafts.{candidate, candidates, has_end, foreign_of, is_of_version, IsVersion, IsLeast, IsKept, IsSeen, AreKept}
use Rattle.history_making.proofs.Orders.{version_is, version_if, version_back, version_on}
use Rattle.history_making.proofs.Candidates.{IsReadOf, IsWriteOf, given_by, gives, candidate_cases, read_candidate, write_candidate}
use Rattle.lists.proofs.lemmas.Members.{Contains-head, Contains-none, Contains-rest, Contains-cons_cases}

-- entries that differ at most in the value have one key
tied : (e f : Entry) → e.block ≡ f.block → e.stamp ≡ f.stamp → e.kind ≡ f.kind → e.client ≡ f.client → e.start ≡ f.start → e.end ≡ f.end → entry_cmp e f ≡ Equal
unfolding entry_cmp
tied e f a b c d g h =
    let x : Entry = record { block = f.block; stamp = f.stamp; kind = f.kind; client = f.client; start = f.start; end = f.end; value = e.value } in
    let q = same_entry e x a b c d g h refl in
    let t : entry_cmp x f ≡ Equal = tied_itself entry_total f in
    ap (λ (y : Entry). entry_cmp y f) q ∙ t

-- the first of a version in a sorted list
pub first_of : (all : List Entry) → IsSorted all → (z : Entry) → Contains all z → (y : Entry) × Contains all y × IsVersion y z × IsLeast all y
first_of [] s z k = absurd (Contains-none z k)
first_of (x ∷ xs) s z k = at (is_of_version x z) refl (first_of xs s.1 z)
  where
    at : (b : Bool) → is_of_version x z ≡ b → (Contains xs z → (y : Entry) × Contains xs y × IsVersion y z × IsLeast xs y) → (y : Entry) × Contains (x ∷ xs) y × IsVersion y z × IsLeast (x ∷ xs) y
    at true e rest = (x, Contains-head x xs, version_is x z e, record { least = λ w c v. elim (Contains-cons_cases w x xs c) [ inl i ↦ inl i | inr l ↦ inr (member_of (λ f. entry_cmp x f ≡ Less) xs w s.0 l) ] })
    at false e rest = elim (Contains-cons_cases z x xs k) [
      | inl i ↦ absurd (let g = version_if x z (rw i (record { block = refl; stamp = refl })) in cc)
      | inr l ↦ (let r = rest l in (
        r.0,
        Contains-rest r.0 x xs r.1,
        r.2,
        record {
          least = λ w c v. elim (Contains-cons_cases w x xs c) [
            | inl i ↦ absurd (let g = version_if x z (version_on x r.0 z (version_back r.0 x (rw i at v)) r.2) in cc)
            | inr m ↦ r.3.least w m v
          ];
        },
      ))
    ]

module _ (rs : List Record) (first : Stamp) (are : AreRecords rs first) where
  -- what an outcome says of its record
  has_ended : (r : Record) (o : Outcome) → Contains rs r → r.outcome ≡ Some o → (n : ℕ) × (r.end ≡ Some n)
  has_ended r o k q = at r.end refl
    where
      at : (end : Option ℕ) → r.end ≡ end → (n : ℕ) × (r.end ≡ Some n)
      at None e = absurd (let h = (are.ended r k).0 e in cc)
      at (Some n) e = (n, e)

  gave_reads : (r : Record) (t : Stamp) (v : List ℕ) (how : How) (n : ℕ) → Contains rs r → r.outcome ≡ Some (Gave t v how n) → r.work ≡ Reads
  gave_reads r t v how n k q = at r.work refl
    where
      at : (w : Work) → r.work ≡ w → w ≡ Reads
      at Reads e = refl
      at (Writes u) e = absurd (let o = are.outcome r k in rw (e, q) at o)

  wrote_if_ended : (r : Record) (t : Stamp) (v : List ℕ) → Contains rs r → r.work ≡ Writes v → r.stamp ≡ Some t → has_end r.end ≡ true → r.outcome ≡ Some (Wrote t)
  wrote_if_ended r t v k w c h = at r.outcome refl
    where
      o : IsOutcomeOf r.work r.stamp r.outcome
      o = are.outcome r k

      at : (x : Option Outcome) → r.outcome ≡ x → x ≡ Some (Wrote t)
      at None q = absurd (let e = (are.ended r k).1 q in let g : has_end None ≡ true = rw e at h in cc)
      at (Some (Wrote u)) q = let p : IsOutcomeOf (Writes v) r.stamp (Some (Wrote u)) = subst (λ (y : Work × Option Outcome). IsOutcomeOf y.0 r.stamp y.1) (λ i. (w i, q i)) o in let s : r.stamp ≡ Some u = p in cc
      at (Some Spent) q = let p : IsOutcomeOf (Writes v) r.stamp (Some Spent) = subst (λ (y : Work × Option Outcome). IsOutcomeOf y.0 r.stamp y.1) (λ i. (w i, q i)) o in let s : r.stamp ≡ None = p in absurd (cc)
      at (Some (Gave u x how n)) q = let p : IsOutcomeOf (Writes v) r.stamp (Some (Gave u x how n)) = subst (λ (y : Work × Option Outcome). IsOutcomeOf y.0 r.stamp y.1) (λ i. (w i, q i)) o in absurd p
      at (Some (Outvoted nodes)) q = let p : IsOutcomeOf (Writes v) r.stamp (Some (Outvoted nodes)) = subst (λ (y : Work × Option Outcome). IsOutcomeOf y.0 r.stamp y.1) (λ i. (w i, q i)) o in absurd p

  module _ (all : List Entry) (sorted : IsSorted all) (members : (e : Entry) → Contains all e ↔ Contains (candidates rs) e) where
    -- the record of a candidate
    record_of : (e : Entry) → Contains all e → (r : Record) × Contains rs r × (IsReadOf r e ⊎ IsWriteOf r e)
    record_of e k = let g = given_by candidate rs e ((members e).0 k) in (g.0, g.1, candidate_cases g.0 e g.2)

    reader_of : (e : Entry) → Contains all e → e.kind ≡ Read → (r : Record) × Contains rs r × IsReadOf r e
    reader_of e k d = let g = record_of e k in elim g.2 [ inl h ↦ (g.0, g.1, h) | inr h ↦ absurd (let j : Write ≡ Read = sym (kind_made h.is) ∙ d in cc) ]

    writer_of : (e : Entry) → Contains all e → e.kind ≡ Write → (r : Record) × Contains rs r × IsWriteOf r e
    writer_of e k d = let g = record_of e k in elim g.2 [ inr h ↦ (g.0, g.1, h) | inl h ↦ absurd (let j : Read ≡ Write = sym (kind_made h.is) ∙ d in cc) ]

    read_there : (r : Record) (t : Stamp) (v : List ℕ) (how : How) (n : ℕ) → Contains rs r → r.outcome ≡ Some (Gave t v how n) → Contains all (read_entry r t v)
    read_there r t v how n k q = (members (read_entry r t v)).1 (gives candidate rs r (read_entry r t v) k (read_candidate r t v how n (gave_reads r t v how n k q) q))

    write_there : (r : Record) (t : Stamp) (v : List ℕ) → Contains rs r → r.work ≡ Writes v → r.stamp ≡ Some t → Contains all (write_entry r t v)
    write_there r t v k w c = (members (write_entry r t v)).1 (gives candidate rs r (write_entry r t v) k (write_candidate r t v w c))

    -- a read among the candidates is one of the records
    has_read : (z : Entry) → Contains all z → z.kind ≡ Read → (n : ℕ) × (z.end ≡ Some n) × HasRead rs z.block z.stamp z.value n
    has_read z k d =
        let g = reader_of z k d in
        let h = g.2 in
        let n = has_ended g.0 (Gave z.stamp z.value h.how h.rounds) g.1 h.gave in
        (n.0, end_made h.is ∙ n.1, record { read = g.0; there = g.1; of_block = sym (block_made h.is); ended = n.1; how = h.how; rounds = h.rounds; gave = h.gave })

    -- ---- what is kept is an entry

    read_is_entry : (e : Entry) → Contains all e → e.kind ≡ Read → IsEntry rs first e
    read_is_entry e k d =
        let g = reader_of e k d in
        let h = g.2 in
        inl (record { read = g.0; there = g.1; how = h.how; rounds = h.rounds; gave = h.gave; made = h.is })

    write_is_entry : (e : Entry) → Contains all e → e.kind ≡ Write → (has_end e.end ≡ true) ⊎ ((z : Entry) × Contains all z × (z.kind ≡ Read) × IsVersion e z) → IsEntry rs first e
    write_is_entry e k d why =
        let g = writer_of e k d in
        let h = g.2 in
        inr (inl (record { write = g.0; there = g.1; writes = h.work; chose = h.chose; stands = due g.0 g.1 h g.0.end refl why; made = h.is }))
      where
        due : (r : Record) → Contains rs r → IsWriteOf r e → (end : Option ℕ) → r.end ≡ end → (has_end e.end ≡ true) ⊎ ((z : Entry) × Contains all z × (z.kind ≡ Read) × IsVersion e z)
            → IsDue rs r e.block e.stamp
        due r c h (Some n) q why = inl (wrote_if_ended r e.stamp e.value c h.work h.chose (rw q refl))
        due r c h None q (inl f) = absurd (let i = end_made h.is ∙ q in let b : has_end None ≡ true = rw i at f in cc)
        due r c h None q (inr z) = let p = has_read z.0 z.1 z.2 in let v = z.3 in inr (record { pending = q; value = z.0.value; end = p.0; seen = rw (v.block, v.stamp) p.2 })

    foreign_is_entry : (e : Entry) → IsSeen first all all e → IsEntry rs first e
    foreign_is_entry e seen = rw seen.is (inr (inr (seen.other, record { place = p.0; seen = p.2; first = earliest; no_write = nobody; made = refl })))
      where
        y : Entry
        y = seen.read

        p : (n : ℕ) × (y.end ≡ Some n) × HasRead rs y.block y.stamp y.value n
        p = has_read y seen.there seen.reads

        earliest : (value : List ℕ) (other : ℕ) → HasRead rs y.block y.stamp value other → p.0 ≤ other
        earliest value other h =
            let z : Entry = read_entry h.read y.stamp value in
            elim (seen.first_one.least z (read_there h.read y.stamp value h.how h.rounds h.there h.gave) (record { block = sym h.of_block; stamp = refl })) [
              | inl i ↦ (let q : Some other ≡ Some p.0 = sym h.ended ∙ end_made i ∙ p.1 in let n : other ≡ p.0 = cc in omega (arith, n))
              | inr l ↦ grind (arith, λ (b : other < p.0). not_back y z l (less_by_end z y h.of_block refl (ap is_read (sym seen.reads)) other p.0 h.ended p.1 b))
            ]

        nobody : HasWrite rs y.block y.stamp → ⊥
        nobody h =
            let z : Entry = write_entry h.write y.stamp h.value in
            let below : is_read Write < is_read Read = omega arith in
            let r = seen.reads in
            let under = less_by_kind z y h.of_block refl (rw r below) in
            elim (seen.first_one.least z (write_there h.write y.stamp h.value h.there h.writes h.chose) (record { block = sym h.of_block; stamp = refl })) [
              | inl i ↦ (let j : Write ≡ Read = kind_made i ∙ seen.reads in cc)
              | inr l ↦ not_back y z l under
            ]

    to_entry : (e : Entry) → (Contains all e × IsKept all e) ⊎ IsSeen first all all e → IsEntry rs first e
    to_entry e (inl (k, inl r)) = read_is_entry e k r
    to_entry e (inl (k, inr w)) = write_is_entry e k w.0 w.1
    to_entry e (inr s) = foreign_is_entry e s

    -- ---- an entry is kept

    from_read : (e : Entry) → IsRead rs e → Contains all e
    from_read e h = subst (Contains all) (sym h.made) (read_there h.read e.stamp e.value h.how h.rounds h.there h.gave)

    from_write : (e : Entry) → IsWrite rs e → Contains all e
    from_write e h = subst (Contains all) (sym h.made) (write_there h.write e.stamp e.value h.there h.writes h.chose)

    -- a write that is due has ended or was read
    has_reason : (e : Entry) (r : Record) → Contains rs r → e.end ≡ r.end → IsDue rs r e.block e.stamp → (has_end e.end ≡ true) ⊎ ((z : Entry) × Contains all z × (z.kind ≡ Read) × IsVersion e z)
    has_reason e r k q (inl w) = let n = has_ended r (Wrote e.stamp) k w in inl (rw (q ∙ n.1) refl)
    has_reason e r k q (inr h) =
        let a = h.seen in
        inr (read_entry a.read e.stamp h.value, read_there a.read e.stamp h.value a.how a.rounds a.there a.gave, refl, record { block = sym a.of_block; stamp = refl })

    -- the foreign write of a version is that of its first candidate
    from_foreign : (e : Entry) → e.stamp ≢ first → IsForeign rs e → IsSeen first all all e
    from_foreign e other h =
        let a = h.seen in
        let z : Entry = read_entry a.read e.stamp e.value in
        let y = first_of all sorted z (read_there a.read e.stamp e.value a.how a.rounds a.there a.gave) in
        let b : y.0.block ≡ e.block = y.2.block ∙ a.of_block in
        let t : y.0.stamp ≡ e.stamp = y.2.stamp in
        let seen : IsSeen first all all (foreign_of y.0) = record { read = y.0; there = y.1; reads = reads y.0 y.1 b t; other = λ f. other (sym t ∙ f); first_one = y.3; is = refl } in
        let key = tied e (foreign_of y.0) (sym b) (sym t) (kind_made h.made) (client_made h.made ∙ ap (λ (s : Stamp). s.client) (sym t)) (start_made h.made) (end_made h.made) in
        let same = are.keys e (foreign_of y.0) (inr (inr (other, h))) (foreign_is_entry (foreign_of y.0) seen) key in
        record { read = y.0; there = y.1; reads = seen.reads; other = seen.other; first_one = y.3; is = same }
      where
        reads : (y : Entry) → Contains all y → y.block ≡ e.block → y.stamp ≡ e.stamp → y.kind ≡ Read
        reads y k b t =
            let g = record_of y k in
            elim g.2 [
              | inl r ↦ kind_made r.is
              | inr w ↦ absurd (h.no_write (record { write = g.0; there = g.1; of_block = sym (block_made w.is) ∙ b; value = y.value; writes = w.work; chose = w.chose ∙ ap Some t }))
            ]

    from_entry : (e : Entry) → IsEntry rs first e → (Contains all e × IsKept all e) ⊎ IsSeen first all all e
    from_entry e (inl h) = inl (from_read e h, inl (kind_made h.made))
    from_entry e (inr (inl h)) = inl (from_write e h, inr (kind_made h.made, has_reason e h.write h.there (end_made h.made) h.stands))
    from_entry e (inr (inr h)) = inr (from_foreign e h.0 h.1)

    pub history : (h : List Entry) → AreKept first all h → IsHistoryOf rs first h
    history h kept = record { sorted = kept.sorted; entries = λ e. ((λ k. to_entry e ((kept.entries e).0 k)), (λ k. (kept.entries e).1 (from_entry e k))) }
