-- The history of operations that come one after another is that of plain registers.
use Rattle.std.proofs.Common.{◌≡◌, ℕ, zero, suc, ◌+◌, ◌<◌, ◌≤◌, false, List, [], ◌∷◌, ◌++◌, map, refl, sym, ap, subst, ◌∙◌, inl, inr, arith}
use Rattle.std.specs.declared.option.Option.TheVariants.{None, Some}
use Rattle.std.specs.List.{Contains, flat_map, range_with_len}
use Rattle.std.proofs.lemmas.List.{map-append}
use Rattle.stamp_order.specs.declared.Stamp.{Stamp}
use Rattle.protocol.specs.Setting.{Setting, IsValid, zeros, first_stamp}
use Rattle.protocol.specs.Operations.{Work}
use Rattle.protocol.specs.Operations.Work.{Reads, Writes}
use Rattle.protocol.specs.World.{World, Record}
use Rattle.protocol.specs.Facts.{HasEnded}
use Rattle.protocol.specs.Bounds.{IsLow}
use Rattle.protocol.specs.History.{Entry, NoClash}
use Rattle.protocol.specs.Report.{mark}
use Rattle.protocol.specs.Laws.{InEachCluster, HistoriesAreLegal, HistoriesAreOne, RecordsAreTold, CompletedIsHeld, AcceptedIsKnown, WritesDrawAbove, ReadsGiveUp, StartsAscend, MarksAreOne, MarksFollow}
use Rattle.protocol.specs.Instance.{InEachRun}
use Rattle.history_making.specs.declared.entry.Entry.{Entry as BookEntry}
use Rattle.history_making.specs.declared.entry.Kind.{Kind}
use Rattle.history_making.specs.declared.entry.Kind.TheVariants.{Read as ReadKind, Write as WriteKind}
use Rattle.history_making.specs.Books.{Book}
use Rattle.history_making.specs.Tellings.{Tells, told_entry, told_with}
use Rattle.soak_loads.specs.Soaks.{plain_line}
use Rattle.soak_loads.specs.Plain.{Register, first_register, entry_of, entries_from}
use Rattle.soak_loads.specs.Serial.{IsPast, AreSerial, record_deed, op_by, SerialRunsArePlain}
use Rattle.soak_loads.proofs.Records.{stamp_of, record_entry, value_by, kind_by, IsWriting, IsReading, done_write}
use Rattle.soak_loads.proofs.Bounded.{writes, choices_few, no_lies}
use Rattle.soak_loads.proofs.Walk.{Stamped, IsNext, next_stamp, AreOrdered, Stands, walk, one_time}
use Rattle.soak_loads.proofs.Sorted.{sorted, sorted_flat}
use Rattle.soak_loads.proofs.Exact.{block_entries, all_entries, stamp_is, end_is, record_of, origin, exact, entries_there}
use Rattle.soak_loads.proofs.Values.{Valued, IsGiven, next_value, legal_in, valued}
use Rattle.lists.proofs.lemmas.Members.{Contains-head, Contains-rest, Contains-map_cases}

-- ---- lines

abbrev line_at : ℕ → ℕ → ℕ → ℕ → Kind → ℕ → List ℕ → List ℕ
line_at block time writer mark kind client value = plain_line (record { block = block; time = time; writer = writer; mark = mark; kind = kind; client = client; start = None; end = None; value = value })

same_line : (block client : ℕ) (kind : Kind) (t u c d m n : ℕ) (v x : List ℕ) → t ≡ u → c ≡ d → m ≡ n → v ≡ x → line_at block t c m kind client v ≡ line_at block u d n kind client x
same_line block client kind t u c d m n v x a b e f i = line_at block (a i) (b i) (e i) kind client (f i)

abbrev register_of : Stamp → List ℕ → Register
register_of last value = record { time = last.time; writer = last.client; value = value }

-- the lines of a block's entries are those of its operations on a register
block_lines : (h : List Entry) (last : Stamp) (value : List ℕ) (rs : List Record) → ((r : Record) → Contains rs r → mark h (record_entry r) ≡ 1) → Stamped last rs → Valued value rs
    → map (λ e. plain_line (told_entry h e)) (map record_entry rs) ≡ map plain_line (entries_from (register_of last value) (map record_deed rs))
block_lines h last value [] marks stamps values = refl
block_lines h last value (r ∷ rs) marks stamps values = by r.work refl (λ l v a b. block_lines h l v rs (λ q i. marks q (Contains-rest q r rs i)) a b)
  where
    m : mark h (record_entry r) ≡ 1
    m = marks r (Contains-head r rs)

    Rest : Type 0
    Rest = (l : Stamp) (v : List ℕ) → Stamped l rs → Valued v rs → map (λ e. plain_line (told_entry h e)) (map record_entry rs) ≡ map plain_line (entries_from (register_of l v) (map record_deed rs))

    Goal : Work → Type 0
    Goal work =
        plain_line (told_with (mark h (record_entry r)) (record (record_entry r) { kind = kind_by work; value = value_by work r.outcome })) ∷ map (λ e. plain_line (told_entry h e)) (map record_entry rs)
        ≡ map plain_line (entries_from (register_of last value) (record { client = r.client; op = op_by r.block work } ∷ map record_deed rs))

    at : (work : Work) → r.work ≡ work → Rest → Goal work
    at Reads e rest =
        let next : stamp_of r ≡ last = subst (λ (k : Work). IsNext k r.client last (stamp_of r)) e stamps.0 in
        let given : value_by Reads r.outcome ≡ value = subst (λ (k : Work). IsGiven k value (value_by k r.outcome)) e values.0 in
        let more = rest last value (subst (λ (k : Work). Stamped (next_stamp k last (stamp_of r)) rs) e stamps.1) (subst (λ (k : Work). Valued (next_value k value) rs) e values.1) in
        ap (λ (l : List ℕ). l ∷ map (λ e. plain_line (told_entry h e)) (map record_entry rs))
        (same_line r.block r.client ReadKind _ _ _ _ _ _ _ _ (ap (λ (t : Stamp). t.time) next) (ap (λ (t : Stamp). t.client) next) m given)
        ∙ ap (λ (ls : List (List ℕ)). plain_line (entry_of (record { client = r.client; op = op_by r.block Reads }) (register_of last value)) ∷ ls) more
    at (Writes written) e rest =
        let next = subst (λ (k : Work). IsNext k r.client last (stamp_of r)) e stamps.0 in
        let more = rest (stamp_of r) written (subst (λ (k : Work). Stamped (next_stamp k last (stamp_of r)) rs) e stamps.1) (subst (λ (k : Work). Valued (next_value k value) rs) e values.1) in
        let left : register_of (stamp_of r) written ≡ record { time = last.time + 1; writer = r.client; value = written } = same_register _ _ _ _ next.0 next.1 in
        ap (λ (l : List ℕ). l ∷ map (λ e. plain_line (told_entry h e)) (map record_entry rs))
        (same_line r.block r.client WriteKind _ _ _ _ _ _ _ _ next.0 next.1 m refl)
        ∙ ap (λ (ls : List (List ℕ)). plain_line (entry_of (record { client = r.client; op = op_by r.block (Writes written) }) (record { time = last.time + 1; writer = r.client; value = written })) ∷ ls)
        (more ∙ ap (λ (reg : Register). map plain_line (entries_from reg (map record_deed rs))) left)
      where
        at_time : ℕ → ℕ → Register
        at_time t c = record { time = t; writer = c; value = written }

        same_register : (t u c d : ℕ) → t ≡ u → c ≡ d → at_time t c ≡ at_time u d
        same_register t u c d a b i = at_time (a i) (b i)

    by : (work : Work) → r.work ≡ work → Rest → map (λ e. plain_line (told_entry h e)) (map record_entry (r ∷ rs)) ≡ map plain_line (entries_from (register_of last value) (map record_deed (r ∷ rs)))
    by work e rest = subst Goal (sym e) (at work e rest)

all_lines : (F : Entry → List ℕ) (g : ℕ → List Entry) (k : ℕ → List BookEntry) (a n : ℕ) → ((b : ℕ) → b < a + n → map F (g b) ≡ map plain_line (k b))
    → map F (flat_map g (range_with_len a n)) ≡ map plain_line (flat_map k (range_with_len a n))
all_lines F g k a zero h = refl
all_lines F g k a (suc n) h =
    map-append F (g a) (flat_map g (range_with_len (a + 1) n))
    ∙ ap (λ (ls : List (List ℕ)). ls ++ map F (flat_map g (range_with_len (a + 1) n))) (h a (omega arith))
    ∙ ap (λ (ls : List (List ℕ)). map plain_line (k a) ++ ls) (all_lines F g k (a + 1) n (λ b l. h b (omega arith)))
    ∙ sym (map-append plain_line (k a) (flat_map k (range_with_len (a + 1) n)))

map_map : (F : BookEntry → List ℕ) (f : Entry → BookEntry) (es : List Entry) → map F (map f es) ≡ map (λ e. F (f e)) es
map_map F f [] = refl
map_map F f (e ∷ es) = ap (λ (ls : List (List ℕ)). F (f e) ∷ ls) (map_map F f es)

-- ---- the whole

module _ (s : Setting) (w : World) (h : List Entry) (rs : ℕ → List Record) (serial : AreSerial s w rs)
    (honest : (client : ℕ) → s.lying_client client ≡ false)
    (some : 1 ≤ s.qc)
    (told : RecordsAreTold s w) (held : CompletedIsHeld s w) (known : AcceptedIsKnown s w)
    (draw : WritesDrawAbove s w) (give : ReadsGiveUp s w) (low : IsLow s w) (starts : StartsAscend s w)
    (clear : NoClash s w)
  where
    there_is : (block : ℕ) (r : Record) → Contains (rs block) r → Contains w.records r
    there_is block r i = (serial.only block r i).0

    ended_before : (block : ℕ) (r q : Record) → Contains (rs block) r → Contains (rs block) q → IsPast r q → HasEnded w q.block (stamp_of r) q.start
    ended_before block r q i j past = record {
      past = r;
      there = there_is block r i;
      of_block = (serial.only block r i).1 ∙ sym (serial.only block q j).1;
      stamped = stamp_is s w rs serial told r (there_is block r i);
      end = past.0;
      ended = past.1;
      earlier = past.2;
    }

    written : (work : Work) → IsWriting work → (value : List ℕ) × (work ≡ Writes value)
    written Reads k = absurd k
    written (Writes value) k = (value, refl)

    reading : (work : Work) → IsReading work → work ≡ Reads
    reading Reads k = refl
    reading (Writes value) k = absurd k

    ordered : (block : ℕ) → AreOrdered (rs block) (writes (rs block))
    ordered block = record {
      above = λ r q i j past k.
          let v = written q.work k in
          draw q v.0 (stamp_of r) (stamp_of q) (ended_before block r q i j past) (there_is block q j) v.1 (stamp_is s w rs serial told q (there_is block q j));
      up = λ r q i j past k.
          give q (stamp_of r) (stamp_of q) clear (ended_before block r q i j past) (there_is block q j) (reading q.work k) (stamp_is s w rs serial told q (there_is block q j));
      low = λ r i k.
          let v = written r.work k in
          let at = low.chosen r v.0 (stamp_of r) (there_is block r i) v.1 (stamp_is s w rs serial told r (there_is block r i)) in
          let here = (serial.only block r i).1 in
          let none = no_lies s honest r.block w.pool in
          let few = choices_few r.block w.records (rs r.block) starts (λ x there same. subst (λ (b : ℕ). Contains (rs b) x) same (serial.all x there).1) in
          let same : writes (rs r.block) ≡ writes (rs block) = ap (λ (b : ℕ). writes (rs b)) here in
          omega arith;
      owned = λ r i k. (done_write r.work r.client r.outcome k (serial.done block r i)).0;
    }

    stands : (block : ℕ) → Stands (first_stamp s) (rs block) (writes (rs block))
    stands block = record {
      turns = serial.turns block;
      ordered = ordered block;
      higher = λ q i k. (let some_time = (done_write q.work q.client q.outcome k (serial.done block q i)).1 in omega arith);
      reached = λ q i k. omega arith;
      origin = λ q i k. elim (origin s w rs serial told some held known honest q (there_is block q i)) [
        | inl first ↦ inl first
        | inr m ↦ inr (inr (m.0, subst (λ (b : ℕ). Contains (rs b) m.0) (m.2 ∙ (serial.only block q i).1) (serial.all m.0 m.1).1, m.3, m.4))
      ];
      count = omega arith;
    }

    stamps : (block : ℕ) → Stamped (first_stamp s) (rs block)
    stamps block = walk (first_stamp s) (rs block) (writes (rs block)) (stands block)

    in_block : (b : ℕ) (e : Entry) → Contains (block_entries rs b) e → e.block ≡ b
    in_block b e i = let m = Contains-map_cases record_entry (rs b) e i in ap (λ (x : Entry). x.block) m.2 ∙ (serial.only b m.0 m.1).1

    in_order : (block : ℕ) (r : Record) → Contains (rs block) r → (end : ℕ) × (r.end ≡ Some end) × (r.start ≤ end)
    in_order block r i =
        let there = there_is block r i in
        let e = end_is s w rs serial told r there in
        (e.0, e.1, ((told r there).end e.0 e.1).0)

    module _ (legal : HistoriesAreLegal s w) (one : HistoriesAreOne s w) (marks_one : MarksAreOne h) (marks_follow : MarksFollow h) (book : Book) (tells : Tells w.records (first_stamp s) h book) where
      is_all : h ≡ all_entries s.blocks rs
      is_all = one h (all_entries s.blocks rs) (tells.history.sorted, tells.history.entries) (
        sorted_flat (block_entries rs) 0 s.blocks
            (λ b. sorted b (first_stamp s) (rs b) (stamps b) (serial.turns b) (λ r i. ((serial.only b r i).1, in_order b r i))) in_block,
        λ e. (entries_there s w rs serial told e, exact s w rs serial told some held known honest e),
      )

      marked : (block : ℕ) (r : Record) → Contains (rs block) r → mark h (record_entry r) ≡ 1
      marked block r i = elim (marks_follow (record_entry r)) [
        | inl one ↦ one
        | inr f ↦ absurd (
            let q = record_of s w rs serial told f.0 (subst (λ (es : List Entry). Contains es f.0) is_all f.1) in
            let here : q.0.block ≡ block = ap (λ (e : Entry). e.block) (sym q.2) ∙ f.2.block ∙ (serial.only block r i).1 in
            let there : Contains (rs block) q.0 = subst (λ (b : ℕ). Contains (rs b) q.0) here (serial.all q.0 q.1).1 in
            let time : (stamp_of q.0).time ≡ (stamp_of r).time = ap (λ (e : Entry). e.stamp.time) (sym q.2) ∙ f.2.time in
            let same : stamp_of q.0 ≡ stamp_of r = one_time (first_stamp s) (rs block) (stamps block) q.0 r there i time in
            let equal : mark h f.0 ≡ mark h (record_entry r) = marks_one f.0 (record_entry r) f.2.block (ap (λ (e : Entry). e.stamp) q.2 ∙ same) in
            let next = f.3 in
            omega arith)
      ]

      values : (block : ℕ) → block < s.blocks → Valued (zeros s) (rs block)
      values block below =
          let all = subst (λ (es : List Entry). Rattle.protocol.specs.History.LegalFrom (λ b. zeros s) es) is_all (legal h clear (tells.history.sorted, tells.history.entries)) in
          let here = legal_in (block_entries rs) in_block 0 s.blocks block (omega arith) (omega arith) (λ b. zeros s) all in
          valued block (zeros s) here.0 (rs block) here.1 (λ r i. (serial.only block r i).1) here.2

      pub plain : map plain_line book.entries ≡ map plain_line (flat_map (λ block. entries_from (first_register s.size) (map record_deed (rs block))) (range_with_len 0 s.blocks))
      plain =
          ap (map plain_line) tells.entries
          ∙ map_map plain_line (told_entry h) h
          ∙ ap (map (λ e. plain_line (told_entry h e))) is_all
          ∙ all_lines (λ e. plain_line (told_entry h e)) (block_entries rs) (λ block. entries_from (first_register s.size) (map record_deed (rs block))) 0 s.blocks
          (λ b below. block_lines h (first_stamp s) (zeros s) (rs b) (marked b) (stamps b) (values b (omega arith)))

pub serial_plain : InEachCluster IsValid → InEachRun HistoriesAreLegal → InEachRun HistoriesAreOne → InEachRun RecordsAreTold → InEachRun CompletedIsHeld → InEachRun AcceptedIsKnown
    → InEachRun WritesDrawAbove → InEachRun ReadsGiveUp → InEachRun IsLow → InEachRun StartsAscend → ((h : List Entry) → MarksAreOne h) → ((h : List Entry) → MarksFollow h)
    → InEachRun SerialRunsArePlain
serial_plain valid legal one told held known draw give low starts marks_one marks_follow c ln lc cluster lines w run h book rs clear tells honest serial =
    let s = Rattle.protocol.specs.Instance.setting_of c ln lc in
    let v = valid c ln lc cluster in
    plain s w h rs serial honest (let q = v.quorum_low in omega arith)
    (told c ln lc cluster lines w run) (held c ln lc cluster lines w run) (known c ln lc cluster lines w run) (draw c ln lc cluster lines w run) (give c ln lc cluster lines w run)
    (low c ln lc cluster lines w run) (starts c ln lc cluster lines w run) clear (legal c ln lc cluster lines w run) (one c ln lc cluster lines w run) (marks_one h) (marks_follow h) book tells
