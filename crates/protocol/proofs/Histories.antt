-- The history of a safe world is in time, and its entries agree.
use Rattle.std.proofs.Common.{◌≡◌, ◌⊎◌, ℕ, zero, suc, ◌<◌, ◌≤◌, Bool, true, false, List, length, get_or, Option, refl, sym, ◌∙◌, ap, inl, inr, arith, leb}
use Rattle.std.specs.declared.option.Option.TheVariants.{None, Some}
use Rattle.std.specs.declared.cmp.Ordering.TheVariants.{Less}
use Rattle.std.specs.List.{Contains}
use Rattle.std.proofs.lemmas.Bool.Decides.{nat_tests}
use Rattle.std.proofs.lemmas.List.Elements.{Contains-get_or}
use Rattle.protocol.specs.Count.{count, collect}
use Rattle.stamp_order.specs.declared.Stamp.{Stamp}
use Rattle.stamp_order.specs.Stamps.{◌≼◌}
use Rattle.protocol.proofs.lemmas.Forming.{zeros_block, sum_formed, flat_inj}
use Rattle.protocol.specs.Messages.{flat}
use Rattle.protocol.specs.Setting.{Setting, IsBlock, IsValid, IsAscending, first_stamp, Sound, verifier_of}
use Rattle.protocol.specs.Operations.{Work, Outcome, How}
use Rattle.protocol.specs.Operations.Work.{Reads, Writes}
use Rattle.run_words.specs.declared.outcome.Outcome.TheVariants.{Wrote, Spent, Gave, Outvoted}
use Rattle.protocol.specs.World.{Record, World}
use Rattle.protocol.specs.History.{Entry, is_read, entry_cmp, IsEntry, IsRead, IsWrite, IsForeign, HasRead, IsHistory, InTime, NoClash, IsValue}
use Rattle.protocol.specs.History.Kind.{Write, Read}
use Rattle.protocol.specs.History.IsValue.{written, given}
use Rattle.protocol.specs.History.IsSeen.{sum_seen, fragment_seen}
use Rattle.protocol.proofs.lemmas.Order.{≼-refl, ≼-cases, before-≼, lower_time}
use Rattle.protocol.proofs.Invariant.{IsSafe, IsGood, IsGiven, IsOutcome, IsAfter}
use Rattle.protocol.proofs.lemmas.Strings.{NoClashFor-any}
use Rattle.protocol.proofs.lemmas.Entries.{block_made, kind_made, start_made, end_made, less_by_stamp, less_by_kind, less_by_end, not_back, not_self, sorted_before}
use Rattle.protocol.proofs.lemmas.Parts.{ascending_collect, length_collect}
use Rattle.protocol.proofs.lemmas.Lists.{Contains-collect}

gave_as : (s : Setting) (work : Work) (stamp : Option Stamp) (given : Stamp) (value : List ℕ) (how : How) (rounds : ℕ) → IsOutcome s work stamp (Some (Gave given value how rounds)) → (work ≡ Reads) × (stamp ≡ Some given) × IsGiven s given value
gave_as s Reads stamp t value how rounds h = (refl, h.0, h.1)
gave_as s (Writes v) stamp t value how rounds h = absurd h

pub outcome_at : (s : Setting) (r : Record) (o : Option Outcome) → r.outcome ≡ o → IsOutcome s r.work r.stamp r.outcome → IsOutcome s r.work r.stamp o
outcome_at s r o e h = rw e at h

-- no outcome is outvoted
pub not_outvoted : (s : Setting) (work : Work) (stamp : Option Stamp) (nodes : List ℕ) → IsOutcome s work stamp (Some (Outvoted nodes)) → ⊥
not_outvoted s Reads stamp nodes h = h
not_outvoted s (Writes v) stamp nodes h = h

-- a write's stamp is for its value
wrote_as : (s : Setting) (work : Work) (stamp : Option Stamp) (o : Option Outcome) (value : List ℕ) (t : Stamp) → work ≡ Writes value → stamp ≡ Some t → IsOutcome s work stamp o → IsGood s t value
wrote_as s Reads stamp o value t e f h = absurd (cc e)
wrote_as s (Writes v) stamp (Some (Wrote g)) value t e f h = let q : v ≡ value = cc in let p : g ≡ t = (let k = h.0 in cc) in rw (← q, ← p) h.1
wrote_as s (Writes v) stamp (Some (Gave g u how rounds)) value t e f h = absurd h
wrote_as s (Writes v) stamp (Some Spent) value t e f h = absurd (cc h)
wrote_as s (Writes v) stamp (Some (Outvoted nodes)) value t e f h = absurd h
wrote_as s (Writes v) None None value t e f h = absurd (cc f)
wrote_as s (Writes v) (Some g) None value t e f h = let q : v ≡ value = cc in let p : g ≡ t = cc in rw (← q, ← p) h

-- what has an outcome has ended
pub read_end : (s : Setting) (w : World) → IsSafe s w → (r : Record) (outcome : Outcome) → Contains w.records r → r.outcome ≡ Some outcome → (end : ℕ) × (r.end ≡ Some end)
read_end s w safe r outcome h e = at r.end refl
  where
    at : (o : Option ℕ) → r.end ≡ o → (end : ℕ) × (r.end ≡ Some end)
    at None f = absurd (let k = (safe.records r h).open_end f in cc)
    at (Some end) f = (end, f)

module _ (s : Setting) (good : IsValid s) (w : World) (safe : IsSafe s w) where
  -- what a completed read gave
  read_given : (r : Record) (stamp : Stamp) (value : List ℕ) (how : How) (rounds : ℕ) → Contains w.records r → r.outcome ≡ Some (Gave stamp value how rounds) → (r.work ≡ Reads) × (r.stamp ≡ Some stamp) × IsGiven s stamp value
  read_given r stamp value how rounds h e = gave_as s r.work r.stamp stamp value how rounds (outcome_at s r (Some (Gave stamp value how rounds)) e (safe.records r h).outcome)

  write_good : (r : Record) (value : List ℕ) (stamp : Stamp) → Contains w.records r → r.work ≡ Writes value → r.stamp ≡ Some stamp → IsGood s stamp value
  write_good r value stamp h e f = wrote_as s r.work r.stamp r.outcome value stamp e f (safe.records r h).outcome

  -- a value with a stamp that it is sound with
  pub record IsStamped (stamp : Stamp) (value : List ℕ) : Type 0 where
    pub of_run : IsValue s w value
    pub size : IsBlock s value
    pub sound : Sound s stamp value

  block_as : {a b : List ℕ} → a ≡ b → IsBlock s a → IsBlock s b
  block_as e h = rw e at h

  from_given : (block end : ℕ) (stamp : Stamp) (value : List ℕ) → HasRead w.records block stamp value end → IsGiven s stamp value → IsStamped stamp value
  from_given block end stamp value h (inl k) = record { of_run = given {block = block} {end = end} {stamp = stamp} {value = value} h; size = block_as (sym k.1) (zeros_block s); sound = ap (λ (t : Stamp). t.verifier) k.0 ∙ ap (verifier_of s) (sym k.1) }
  from_given block end stamp value h (inr k) = record { of_run = given {block = block} {end = end} {stamp = stamp} {value = value} h; size = k.whole; sound = k.sound }

  pub has_read_given : (block end : ℕ) (stamp : Stamp) (value : List ℕ) → HasRead w.records block stamp value end → IsGiven s stamp value
  has_read_given block end stamp value h = (read_given h.read stamp value h.how h.rounds h.there h.gave).2

  pub has_read : (e : Entry) → IsRead w.records e → (end : ℕ) × HasRead w.records e.block e.stamp e.value end
  has_read e h =
      let x = read_end s w safe h.read (Gave e.stamp e.value h.how h.rounds) h.there h.gave in
      (x.0, record { read = h.read; there = h.there; of_block = sym (block_made h.made); ended = x.1; how = h.how; rounds = h.rounds; gave = h.gave })

  pub read_stamped : (e : Entry) → IsRead w.records e → IsStamped e.stamp e.value
  read_stamped e h = let r = has_read e h in from_given e.block r.0 e.stamp e.value r.1 (has_read_given e.block r.0 e.stamp e.value r.1)

  write_stamped : (e : Entry) → IsWrite w.records e → IsStamped e.stamp e.value
  write_stamped e h =
      let g = write_good h.write e.value e.stamp h.there h.writes h.chose in
      record { of_run = written {r = h.write} {value = e.value} {stamp = e.stamp} h.there h.writes h.chose; size = g.whole; sound = g.sound }

  foreign_stamped : (e : Entry) → IsForeign w.records e → IsStamped e.stamp e.value
  foreign_stamped e h = from_given e.block h.place e.stamp e.value h.seen (has_read_given e.block h.place e.stamp e.value h.seen)

  pub entry_stamped : (e : Entry) → IsEntry w.records (first_stamp s) e → IsStamped e.stamp e.value
  entry_stamped e (inl h) = read_stamped e h
  entry_stamped e (inr (inl h)) = write_stamped e h
  entry_stamped e (inr (inr h)) = foreign_stamped e h.1

  given_low : (stamp : Stamp) (value : List ℕ) → IsGiven s stamp value → first_stamp s ≼ stamp
  given_low stamp value (inl k) = rw k.0 (≼-refl (first_stamp s))
  given_low stamp value (inr k) = before-≼ _ _ (lower_time (first_stamp s) stamp k.later)

  -- no entry is below the first stamp, and no write has it
  pub entry_low : (e : Entry) → IsEntry w.records (first_stamp s) e → first_stamp s ≼ e.stamp
  entry_low e (inl h) = let r = has_read e h in given_low e.stamp e.value (has_read_given e.block r.0 e.stamp e.value r.1)
  entry_low e (inr (inl h)) = before-≼ _ _ (lower_time (first_stamp s) e.stamp (write_good h.write e.value e.stamp h.there h.writes h.chose).later)
  entry_low e (inr (inr h)) = given_low e.stamp e.value (has_read_given e.block h.1.place e.stamp e.value h.1.seen)

  -- the parts that determine a value
  abbrev part : List ℕ → ℕ → Option (ℕ × List ℕ)
  part value i = Some (i, s.fragment_of value i)

  abbrev parts : List ℕ → List (ℕ × List ℕ)
  parts value = collect s.m (part value)

  -- under NoClash one stamp is for one value
  pub one_value : NoClash s w → (stamp : Stamp) (a b : List ℕ) → IsStamped stamp a → IsStamped stamp b → a ≡ b
  one_value apart stamp a b p q =
      sym (good.decodes a (parts a) p.size long ascend own)
      ∙ good.decodes b (parts a) q.size long ascend other
    where
      sums : s.sum_of a ≡ s.sum_of b
      sums = flat_inj (s.sum_of a) (s.sum_of b) (sum_formed s good a p.size) (sum_formed s good b q.size) (good.length-sum a p.size ∙ sym (good.length-sum b q.size))
          (apart (flat (s.sum_of a)) (flat (s.sum_of b)) (sum_seen p.of_run) (sum_seen q.of_run) (sym p.sound ∙ q.sound))

      same : (i : ℕ) → i < s.n → s.fragment_of a i ≡ s.fragment_of b i
      same i l = apart _ _ (fragment_seen p.of_run l) (fragment_seen q.of_run l)
          (sym (good.digests a i p.size l) ∙ ap (λ (x : List (List ℕ)). Rattle.protocol.specs.Setting.digest_at s x i) sums ∙ good.digests b i q.size l)

      all_pass : (n : ℕ) → count n (λ i. true) ≡ n
      all_pass zero = refl
      all_pass (suc n) = omega (arith, all_pass n)

      long : length (parts a) ≡ s.m
      long = length_collect s.m (part a) (λ i. true) (λ i. inl (refl, (i, s.fragment_of a i), refl)) ∙ all_pass s.m

      ascend : IsAscending (parts a)
      ascend = ascending_collect s.m (part a) (λ i x e. sym (ap (λ (y : ℕ × List ℕ). y.0) (let g : ◌≡◌ {A = ℕ × List ℕ} (i, s.fragment_of a i) x = cc in g)))

      own : (x : ℕ × List ℕ) → Contains (parts a) x → (x.0 < s.n) × (x.1 ≡ s.fragment_of a x.0)
      own x h =
          let r = Contains-collect s.m (part a) x h in
          let g : ◌≡◌ {A = ℕ × List ℕ} (r.0, s.fragment_of a r.0) x = (let k = r.2 in cc) in
          let e : r.0 ≡ x.0 = ap (λ (y : ℕ × List ℕ). y.0) g in
          (omega (arith, e, r.1, good.shares_few, good.quorum_high), sym (ap (λ (y : ℕ × List ℕ). y.1) g) ∙ ap (s.fragment_of a) e)

      other : (x : ℕ × List ℕ) → Contains (parts a) x → (x.0 < s.n) × (x.1 ≡ s.fragment_of b x.0)
      other x h = let r = own x h in (r.0, r.1 ∙ same x.0 r.0)

  -- the entry is that of a record
  record IsOf (e : Entry) : Type 0 where
    of : Record
    there : Contains w.records of
    block : e.block ≡ of.block
    start : e.start ≡ Some of.start
    end : e.end ≡ of.end
    stamp : of.stamp ≡ Some e.stamp
    kind : ((of.work ≡ Reads) × (e.kind ≡ Read) × (last : ℕ) × (of.end ≡ Some last)) ⊎ ((value : List ℕ) × (of.work ≡ Writes value) × (e.kind ≡ Write))

  own_entry : (e : Entry) → IsEntry w.records (first_stamp s) e → (IsOf e) ⊎ ((e.start ≡ None) × (e.end ≡ None))
  own_entry e (inl h) =
      let g = read_given h.read e.stamp e.value h.how h.rounds h.there h.gave in
      let x = read_end s w safe h.read (Gave e.stamp e.value h.how h.rounds) h.there h.gave in
      inl (record {
        of = h.read;
        there = h.there;
        block = block_made h.made;
        start = start_made h.made;
        end = end_made h.made;
        stamp = g.1;
        kind = inl (g.0, kind_made h.made, x.0, x.1);
      })
  own_entry e (inr (inl h)) =
      inl (record {
        of = h.write;
        there = h.there;
        block = block_made h.made;
        start = start_made h.made;
        end = end_made h.made;
        stamp = h.chose;
        kind = inr (e.value, h.writes, kind_made h.made);
      })
  own_entry e (inr (inr h)) = inr (start_made h.1.made, end_made h.1.made)

  started_entry : (e : Entry) (start : ℕ) → IsEntry w.records (first_stamp s) e → e.start ≡ Some start → IsOf e
  started_entry e start h f = elim (own_entry e h) [ inl k ↦ k | inr k ↦ absurd (let q = k.0 in cc) ]

  ended_entry : (e : Entry) (end : ℕ) → IsEntry w.records (first_stamp s) e → e.end ≡ Some end → IsOf e
  ended_entry e end h f = elim (own_entry e h) [ inl k ↦ k | inr k ↦ absurd (let q = k.1 in cc) ]

  module _ (apart : NoClash s w) where
    -- an entry that ended before another on its block began stands before it
    strictly : (x y : Entry) → IsEntry w.records (first_stamp s) x → IsEntry w.records (first_stamp s) y → x.block ≡ y.block → (end start : ℕ) → x.end ≡ Some end → y.start ≡ Some start → end < start → entry_cmp x y ≡ Less
    strictly x y h k e end start f g l =
        let a = ended_entry x end h f in
        let b = started_entry y start k g in
        let began : b.of.start ≡ start = (let q = b.start in cc) in
        let order : IsAfter s x.stamp b.of.work y.stamp =
        safe.ordered a.of b.of (NoClashFor-any s w b.of.work apart) end x.stamp y.stamp a.there b.there (sym a.end ∙ f) a.stamp b.stamp (sym b.block ∙ sym e ∙ a.block) (omega arith) in
        elim b.kind [
          | inl q ↦ reads a b q.1 (reads_as b.of.work q.0 order) began q.2 q.3
          | inr q ↦ less_by_stamp x y e (lower_time x.stamp y.stamp (writes_as b.of.work q.0 q.1 order))
        ]
      where
        reads_as : (work : Work) → work ≡ Reads → IsAfter s x.stamp work y.stamp → x.stamp ≼ y.stamp
        reads_as work e h = let r : IsAfter s x.stamp Reads y.stamp = rw e at h in r

        writes_as : (work : Work) (value : List ℕ) → work ≡ Writes value → IsAfter s x.stamp work y.stamp → x.stamp.time < y.stamp.time
        writes_as work value e h = let r : IsAfter s x.stamp (Writes value) y.stamp = rw e at h in r

        reads : (a : IsOf x) (b : IsOf y) → y.kind ≡ Read → x.stamp ≼ y.stamp → b.of.start ≡ start → (last : ℕ) → b.of.end ≡ Some last → entry_cmp x y ≡ Less
        reads a b yk up began last lasts =
            let late : b.of.start ≤ last = (safe.records b.of b.there).in_order last lasts in
            let ye : y.end ≡ Some last = b.end ∙ lasts in
            elim (≼-cases x.stamp y.stamp up) [
              | inl m ↦ less_by_stamp x y e m
              | inr m ↦ elim a.kind [
                | inl q ↦ less_by_end x y e m (ap is_read q.1 ∙ sym (ap is_read yk)) end last f ye (omega (arith, late, l, began))
                | inr q ↦ less_by_kind x y e m (omega (arith, ap is_read q.2, ap is_read yk))
              ]
            ]

    pub in_time : (h : List Entry) → IsHistory s w h → InTime h
    in_time h hist i j d li lj e end start f g l = at (leb (suc i) j) refl
      where
        at : (b : Bool) → leb (suc i) j ≡ b → i < j
        at true q = grind (arith, nat_tests)
        at false q =
            let back : j ≤ i = grind (arith, nat_tests) in
            let less = strictly (get_or h i d) (get_or h j d) ((hist.1 _).0 (Contains-get_or h i d li)) ((hist.1 _).0 (Contains-get_or h j d lj)) e end start f g l in
            let c : (j < i) ⊎ (j ≡ i) = grind (arith, back) in
            elim c [
              | inl b ↦ absurd (not_back (get_or h i d) (get_or h j d) less (sorted_before h i j d hist.0 li b))
              | inr b ↦ absurd (not_self (get_or h i d) (rw b at less))
            ]
