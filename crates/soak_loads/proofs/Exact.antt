-- The entries of operations that come one after another are those of the history.
use Rattle.std.proofs.Common.{◌≡◌, ℕ, zero, suc, ◌+◌, ◌<◌, ◌≤◌, false, List, ◌++◌, map, Option, refl, sym, ap, subst, ◌∙◌, ◌⊎◌, inl, inr, arith}
use Rattle.std.specs.declared.option.Option.TheVariants.{None, Some}
use Rattle.std.specs.List.{Contains, flat_map, range_with_len}
use Rattle.std.proofs.lemmas.List.Elements.{Contains-append_left, Contains-append_right}
use Rattle.stamp_order.specs.declared.Stamp.{Stamp}
use Rattle.run_words.specs.declared.outcome.Outcome.TheVariants.{Wrote, Spent, Gave, Outvoted}
use Rattle.protocol.specs.Setting.{Setting, first_stamp}
use Rattle.protocol.specs.Operations.{Work, Outcome, How}
use Rattle.protocol.specs.Operations.Work.{Reads, Writes}
use Rattle.protocol.specs.World.{World, Record}
use Rattle.protocol.specs.Facts.{IsKnown, IsComplete}
use Rattle.protocol.specs.History.{Entry, entry_as, IsEntry, IsForeign}
use Rattle.protocol.specs.History.Kind.{Read as ReadKind, Write as WriteKind}
use Rattle.protocol.specs.Laws.{RecordsAreTold, CompletedIsHeld, AcceptedIsKnown}
use Rattle.protocol.proofs.lemmas.Counting.{some_passes}
use Rattle.soak_loads.specs.Serial.{IsDone, AreSerial}
use Rattle.soak_loads.proofs.Records.{stamp_in, stamp_of, given_in, value_by, kind_by, record_entry, stamped, ended, IsWriting}
use Rattle.soak_loads.proofs.Sorted.{in_flat}
use Rattle.lists.proofs.lemmas.Members.{Contains-map_cases, Contains-map}
use Rattle.journal_records.proofs.lemmas.Ongoing.{some_once}

abbrev pub block_entries : (ℕ → List Record) → ℕ → List Entry
block_entries rs block = map record_entry (rs block)

abbrev pub all_entries : ℕ → (ℕ → List Record) → List Entry
all_entries blocks rs = flat_map (block_entries rs) (range_with_len 0 blocks)

in_range : (g : ℕ → List Entry) (a n b : ℕ) (e : Entry) → a ≤ b → b < a + n → Contains (g b) e → Contains (flat_map g (range_with_len a n)) e
in_range g a zero b e low high there = absurd (omega arith)
in_range g a (suc n) b e low high there = by (first_or a b low) (λ more. in_range g (a + 1) n b e more (omega arith) there)
  where
    first_or : (a b : ℕ) → a ≤ b → (b ≡ a) ⊎ (a + 1 ≤ b)
    first_or zero zero l = inl refl
    first_or zero (suc b) l = inr (omega arith)
    first_or (suc a) zero l = absurd (omega arith)
    first_or (suc a) (suc b) l = elim (first_or a b (omega arith)) [ inl e ↦ inl (ap suc e) | inr k ↦ inr (omega arith) ]

    by : (b ≡ a) ⊎ (a + 1 ≤ b) → (a + 1 ≤ b → Contains (flat_map g (range_with_len (a + 1) n)) e) → Contains (g a ++ flat_map g (range_with_len (a + 1) n)) e
    by (inl same) go = Contains-append_left (g a) (flat_map g (range_with_len (a + 1) n)) e (subst (λ (k : ℕ). Contains (g k) e) same there)
    by (inr more) go = Contains-append_right (g a) (flat_map g (range_with_len (a + 1) n)) e (go more)

gave_reads : (work : Work) (client : ℕ) (outcome : Option Outcome) (stamp : Stamp) (value : List ℕ) (how : How) (rounds : ℕ) → IsDone work client outcome → outcome ≡ Some (Gave stamp value how rounds) → work ≡ Reads
gave_reads Reads client outcome stamp value how rounds d e = refl
gave_reads (Writes v) client outcome stamp value how rounds d e = absurd (subst (IsDone (Writes v) client) e d)

module _ (s : Setting) (w : World) (rs : ℕ → List Record) (serial : AreSerial s w rs) (told : RecordsAreTold s w) where
  done_in : (r : Record) → Contains w.records r → IsDone r.work r.client r.outcome
  done_in r there = serial.done r.block r (serial.all r there).1

  pub stamp_is : (r : Record) → Contains w.records r → r.stamp ≡ Some (stamp_of r)
  stamp_is r there = stamped w r (told r there) (done_in r there)

  pub end_is : (r : Record) → Contains w.records r → (end : ℕ) × (r.end ≡ Some end)
  end_is r there = ended w r (told r there) (done_in r there)

  -- a record's entry stands in the history
  is_entry : (r : Record) → Contains w.records r → IsEntry w.records (first_stamp s) (record_entry r)
  is_entry r there = by r.work r.outcome refl refl (done_in r there)
    where
      by : (work : Work) (outcome : Option Outcome) → r.work ≡ work → r.outcome ≡ outcome → IsDone work r.client outcome → IsEntry w.records (first_stamp s) (record_entry r)
      by Reads (Some (Gave stamp value how rounds)) p q d =
          inl (record {
            read = r;
            there = there;
            how = how;
            rounds = rounds;
            gave = q ∙ ap (λ (o : Option Outcome). Some (Gave (stamp_in o) (value_by Reads o) how rounds)) (sym q) ∙ ap (λ (k : Work). Some (Gave (stamp_in r.outcome) (value_by k r.outcome) how rounds)) (sym p);
            made = ap (λ (k : Work). entry_as r (kind_by k) (stamp_of r) (value_by r.work r.outcome)) p;
          })
      by (Writes value) (Some (Wrote stamp)) p q d =
          inr (inl (record {
            write = r;
            there = there;
            writes = p ∙ ap (λ (k : Work). Writes (value_by k r.outcome)) (sym p);
            chose = stamp_is r there;
            stands = inl (q ∙ ap (λ (o : Option Outcome). Some (Wrote (stamp_in o))) (sym q));
            made = ap (λ (k : Work). entry_as r (kind_by k) (stamp_of r) (value_by r.work r.outcome)) p;
          }))
      by Reads None p q d = absurd d
      by Reads (Some (Wrote stamp)) p q d = absurd d
      by Reads (Some Spent) p q d = absurd d
      by Reads (Some (Outvoted nodes)) p q d = absurd d
      by (Writes value) None p q d = absurd d
      by (Writes value) (Some (Gave stamp v how rounds)) p q d = absurd d
      by (Writes value) (Some Spent) p q d = absurd d
      by (Writes value) (Some (Outvoted nodes)) p q d = absurd d

  in_all : (r : Record) → Contains w.records r → Contains (all_entries s.blocks rs) (record_entry r)
  in_all r there =
      let a = serial.all r there in
      in_range (block_entries rs) 0 s.blocks r.block (record_entry r) (omega arith) (omega (arith, a.0)) (Contains-map record_entry (rs r.block) r a.1)

  -- which record an entry is of
  pub record_of : (e : Entry) → Contains (all_entries s.blocks rs) e → (r : Record) × Contains w.records r × (e ≡ record_entry r)
  record_of e there =
      let f = in_flat (block_entries rs) 0 s.blocks e there in
      let m = Contains-map_cases record_entry (rs f.0) e f.3 in
      (m.0, (serial.only f.0 m.0 m.1).0, m.2)

  module _ (some : 1 ≤ s.qc) (held : CompletedIsHeld s w) (known : AcceptedIsKnown s w) (honest : (client : ℕ) → s.lying_client client ≡ false) where
    -- the stamp of an operation is the first one, or that of a write on its block
    pub origin : (r : Record) → Contains w.records r → (stamp_of r ≡ first_stamp s) ⊎ ((m : Record) × Contains w.records m × (m.block ≡ r.block) × IsWriting m.work × (stamp_of m ≡ stamp_of r))
    origin r there = elim (held r (end_is r there).0 (stamp_of r) there (end_is r there).1 (stamp_is r there)) [
      | inl first ↦ inl first
      | inr complete ↦ from complete
    ]
      where
        writing : (work : Work) (value : List ℕ) → work ≡ Writes value → IsWriting work
        writing work value e = subst IsWriting (sym e) tt

        by : IsKnown s w r.block (stamp_of r) → (stamp_of r ≡ first_stamp s) ⊎ ((m : Record) × Contains w.records m × (m.block ≡ r.block) × IsWriting m.work × (stamp_of m ≡ stamp_of r))
        by (inl first) = inl first
        by (inr (inl h)) =
            let same : stamp_of h.write ≡ stamp_of r = some_once h.write.stamp (stamp_of h.write) (stamp_of r) (stamp_is h.write h.there) h.chose in
            inr (h.write, h.there, h.of_block, writing h.write.work h.value h.writes, same)
        by (inr (inr lie)) = absurd (let lies = lie.lies in let right = honest lie.message.client in cc)

        from : IsComplete s w r.block (stamp_of r) → (stamp_of r ≡ first_stamp s) ⊎ ((m : Record) × Contains w.records m × (m.block ≡ r.block) × IsWriting m.work × (stamp_of m ≡ stamp_of r))
        from c =
            let i = some_passes s.n c.nodes (let e = c.enough in omega arith) in
            by (known i.0 r.block (stamp_of r) (i.1, c.honest i.0 i.2) (inr (c.accepted i.0 i.1 i.2)))

    not_foreign : (e : Entry) → (e.stamp ≡ first_stamp s → ⊥) → IsForeign w.records e → ⊥
    not_foreign e other f =
        let h = f.seen in
        let same : stamp_of h.read ≡ e.stamp = ap stamp_in h.gave in
        elim (origin h.read h.there) [
          | inl first ↦ other (sym same ∙ first)
          | inr m ↦ written m.0 m.3 m.1 (m.2 ∙ h.of_block) (m.4 ∙ same)
        ]
      where
        written : (m : Record) → IsWriting m.work → Contains w.records m → m.block ≡ e.block → stamp_of m ≡ e.stamp → ⊥
        written m k there block stamp = by m.work refl k
          where
            by : (work : Work) → m.work ≡ work → IsWriting work → ⊥
            by Reads p k = k
            by (Writes value) p k = f.no_write (record { write = m; there = there; of_block = block; value = value; writes = p; chose = stamp_is m there ∙ ap Some stamp })

    pub exact : (e : Entry) → IsEntry w.records (first_stamp s) e → Contains (all_entries s.blocks rs) e
    exact e (inl h) =
        let r = h.read in
        let reads = gave_reads r.work r.client r.outcome e.stamp e.value h.how h.rounds (done_in r h.there) h.gave in
        let stamp : e.stamp ≡ stamp_of r = sym (ap stamp_in h.gave) in
        let value : e.value ≡ value_by r.work r.outcome = sym (ap (λ (k : Work). value_by k r.outcome) reads ∙ ap given_in h.gave) in
        let kind : ReadKind ≡ kind_by r.work = sym (ap kind_by reads) in
        let same : e ≡ record_entry r = h.made ∙ (λ i. entry_as r (kind i) (stamp i) (value i)) in
        subst (Contains (all_entries s.blocks rs)) (sym same) (in_all r h.there)
    exact e (inr (inl h)) =
        let r = h.write in
        let stamp : e.stamp ≡ stamp_of r = some_once r.stamp e.stamp (stamp_of r) h.chose (stamp_is r h.there) in
        let value : e.value ≡ value_by r.work r.outcome = sym (ap (λ (k : Work). value_by k r.outcome) h.writes) in
        let kind : WriteKind ≡ kind_by r.work = sym (ap kind_by h.writes) in
        let same : e ≡ record_entry r = h.made ∙ (λ i. entry_as r (kind i) (stamp i) (value i)) in
        subst (Contains (all_entries s.blocks rs)) (sym same) (in_all r h.there)
    exact e (inr (inr (other, foreign))) = absurd (not_foreign e other foreign)

  pub entries_there : (e : Entry) → Contains (all_entries s.blocks rs) e → IsEntry w.records (first_stamp s) e
  entries_there e there = let r = record_of e there in subst (IsEntry w.records (first_stamp s)) (sym r.2) (is_entry r.0 r.1)
