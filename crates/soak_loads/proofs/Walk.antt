-- The stamps of a block's operations that come one after another.
use Rattle.std.proofs.Common.{◌≡◌, ℕ, ◌+◌, ◌<◌, ◌≤◌, List, [], ◌∷◌, refl, sym, ap, subst, ◌∙◌, ◌⊎◌, inl, inr, arith}
use Rattle.std.specs.List.{Contains, AllByRecursion}
use Rattle.stamp_order.specs.declared.Stamp.{Stamp}
use Rattle.stamp_order.specs.Stamps.{◌≼◌}
use Rattle.protocol.specs.Operations.{Work}
use Rattle.protocol.specs.Operations.Work.{Reads, Writes}
use Rattle.protocol.specs.World.{Record}
use Rattle.protocol.proofs.lemmas.Entries.{member_of}
use Rattle.protocol.proofs.lemmas.Order.{≼-time}
use Rattle.soak_loads.specs.Serial.{IsPast, AreInTurn}
use Rattle.soak_loads.proofs.Records.{stamp_of, writes_by, IsWriting, IsReading, either}
use Rattle.soak_loads.proofs.Bounded.{writes}
use Rattle.lists.proofs.lemmas.Members.{Contains-head, Contains-none, Contains-rest, Contains-cons_cases}

-- the last write's stamp after an operation
abbrev pub next_stamp : Work → Stamp → Stamp → Stamp
next_stamp Reads last own = last
next_stamp (Writes value) last own = own

-- a read has the last write's stamp, a write the next time
abbrev pub IsNext : Work → ℕ → Stamp → Stamp → Type 0
IsNext Reads client last own = own ≡ last
IsNext (Writes value) client last own = (own.time ≡ last.time + 1) × (own.client ≡ client)

-- so it is from this stamp on
abbrev pub Stamped : Stamp → List Record → Type 0
Stamped last [] = Unit {0}
Stamped last (r ∷ rs) = IsNext r.work r.client last (stamp_of r) × Stamped (next_stamp r.work last (stamp_of r)) rs

-- what is known of a block's records
pub record AreOrdered (rs : List Record) (top : ℕ) : Type 0 where
  pub above : (r q : Record) → Contains rs r → Contains rs q → IsPast r q → IsWriting q.work → (stamp_of r).time < (stamp_of q).time
  pub up : (r q : Record) → Contains rs r → Contains rs q → IsPast r q → IsReading q.work → stamp_of r ≼ stamp_of q
  pub low : (r : Record) → Contains rs r → IsWriting r.work → (stamp_of r).time ≤ top
  pub owned : (r : Record) → Contains rs r → IsWriting r.work → (stamp_of r).client ≡ r.client

pub rest_ordered : (r : Record) (rs : List Record) (top : ℕ) → AreOrdered (r ∷ rs) top → AreOrdered rs top
rest_ordered r rs top h = record {
  above = λ x q i j. h.above x q (Contains-rest x r rs i) (Contains-rest q r rs j);
  up = λ x q i j. h.up x q (Contains-rest x r rs i) (Contains-rest q r rs j);
  low = λ x i. h.low x (Contains-rest x r rs i);
  owned = λ x i. h.owned x (Contains-rest x r rs i);
}

-- a write's time leaves as many below the top as there are writes behind it
pub room : (r : Record) (rs : List Record) (top : ℕ) → IsWriting r.work → AllByRecursion (IsPast r) rs → AreInTurn rs → AreOrdered (r ∷ rs) top → (stamp_of r).time + writes rs ≤ top
room r [] top k past turns h = let low = h.low r (Contains-head r []) k in omega arith
room r (q ∷ qs) top k past turns h =
    elim (either q.work) [
      | inl reads ↦
          (let skip : AreOrdered (r ∷ qs) top = skipped in
          let rest = room r qs top k past.1 turns.1 skip in
          let none = read_none q.work reads in
          omega arith)
      | inr writes_too ↦
          (let rest = room q qs top writes_too turns.0 turns.1 (rest_ordered r (q ∷ qs) top h) in
          let lower = h.above r q (Contains-head r (q ∷ qs)) (Contains-rest q r (q ∷ qs) (Contains-head q qs)) past.0 writes_too in
          let one = write_one q.work writes_too in
          omega arith)
    ]
  where
    read_none : (work : Work) → IsReading work → writes_by work ≡ 0
    read_none Reads i = refl
    read_none (Writes value) i = absurd i

    write_one : (work : Work) → IsWriting work → writes_by work ≡ 1
    write_one Reads i = absurd i
    write_one (Writes value) i = refl

    over : (x : Record) → Contains (r ∷ qs) x → Contains (r ∷ q ∷ qs) x
    over x i = elim (Contains-cons_cases x r qs i) [ inl e ↦ subst (Contains (r ∷ q ∷ qs)) (sym e) (Contains-head r (q ∷ qs)) | inr t ↦ Contains-rest x r (q ∷ qs) (Contains-rest x q qs t) ]

    skipped : AreOrdered (r ∷ qs) top
    skipped = record {
      above = λ x y i j. h.above x y (over x i) (over y j);
      up = λ x y i j. h.up x y (over x i) (over y j);
      low = λ x i. h.low x (over x i);
      owned = λ x i. h.owned x (over x i);
    }

-- where a read's stamp comes from: the last write's, an older one's, or that of a write to come
abbrev pub Origin : Stamp → List Record → Record → Type 0
Origin last rs q = (stamp_of q ≡ last) ⊎ ((stamp_of q).time < last.time) ⊎ ((m : Record) × Contains rs m × IsWriting m.work × (stamp_of m ≡ stamp_of q))

pub record Stands (last : Stamp) (rs : List Record) (top : ℕ) : Type 0 where
  pub turns : AreInTurn rs
  pub ordered : AreOrdered rs top
  pub higher : (q : Record) → Contains rs q → IsWriting q.work → last.time < (stamp_of q).time
  pub reached : (q : Record) → Contains rs q → IsReading q.work → last.time ≤ (stamp_of q).time
  pub origin : (q : Record) → Contains rs q → IsReading q.work → Origin last rs q
  pub count : last.time + writes rs ≡ top

not_both : (work : Work) → IsReading work → IsWriting work → ⊥
not_both Reads i j = j
not_both (Writes value) i j = i

pub read_is : (last : Stamp) (r : Record) (rs : List Record) (top : ℕ) → IsReading r.work → Stands last (r ∷ rs) top → stamp_of r ≡ last
read_is last r rs top reads h = elim (h.origin r (Contains-head r rs) reads) [
  | inl same ↦ same
  | inr (inl older) ↦ absurd (let reached = h.reached r (Contains-head r rs) reads in omega arith)
  | inr (inr m) ↦ elim (Contains-cons_cases m.0 r rs m.1) [
    | inl e ↦ absurd (not_both r.work reads (subst (λ (x : Record). IsWriting x.work) e m.2))
    | inr later ↦ absurd (let past = member_of (IsPast r) rs m.0 h.turns.0 later in
        let up = h.ordered.above r m.0 (Contains-head r rs) (Contains-rest m.0 r rs later) past m.2 in
        let same = ap (λ (t : Stamp). t.time) m.3 in omega arith)
  ]
]

after_read : (last : Stamp) (r : Record) (rs : List Record) (top : ℕ) → IsReading r.work → writes_by r.work ≡ 0 → Stands last (r ∷ rs) top → Stands last rs top
after_read last r rs top reads none h = record {
  turns = h.turns.1;
  ordered = rest_ordered r rs top h.ordered;
  higher = λ q i. h.higher q (Contains-rest q r rs i);
  reached = λ q i. h.reached q (Contains-rest q r rs i);
  origin = λ q i reads_too. from q (h.origin q (Contains-rest q r rs i) reads_too);
  count = let all = h.count in omega arith;
}
  where
    from : (q : Record) → Origin last (r ∷ rs) q → Origin last rs q
    from q (inl same) = inl same
    from q (inr (inl older)) = inr (inl older)
    from q (inr (inr m)) = elim (Contains-cons_cases m.0 r rs m.1) [
      | inl e ↦ absurd (not_both r.work reads (subst (λ (x : Record). IsWriting x.work) e m.2))
      | inr later ↦ inr (inr (m.0, later, m.2, m.3))
    ]

pub next_time : (last : Stamp) (r : Record) (rs : List Record) (top : ℕ) → IsWriting r.work → writes_by r.work ≡ 1 → Stands last (r ∷ rs) top → (stamp_of r).time ≡ last.time + 1
next_time last r rs top k one h =
    let over = h.higher r (Contains-head r rs) k in
    let under = room r rs top k h.turns.0 h.turns.1 h.ordered in
    let all = h.count in
    omega arith

after_write : (last : Stamp) (r : Record) (rs : List Record) (top : ℕ) → IsWriting r.work → writes_by r.work ≡ 1 → Stands last (r ∷ rs) top → Stands (stamp_of r) rs top
after_write last r rs top k one h =
    let next = next_time last r rs top k one h in
    record {
      turns = h.turns.1;
      ordered = rest_ordered r rs top h.ordered;
      higher = λ q i w. h.ordered.above r q (Contains-head r rs) (Contains-rest q r rs i) (member_of (IsPast r) rs q h.turns.0 i) w;
      reached = λ q i reads. ≼-time (stamp_of r) (stamp_of q) (h.ordered.up r q (Contains-head r rs) (Contains-rest q r rs i) (member_of (IsPast r) rs q h.turns.0 i) reads);
      origin = λ q i reads. from q (h.origin q (Contains-rest q r rs i) reads);
      count = let all = h.count in omega arith;
    }
  where
    from : (q : Record) → Origin last (r ∷ rs) q → Origin (stamp_of r) rs q
    from q (inl same) = inr (inl (let next = next_time last r rs top k one h in let e = ap (λ (t : Stamp). t.time) same in omega arith))
    from q (inr (inl older)) = inr (inl (let next = next_time last r rs top k one h in omega arith))
    from q (inr (inr m)) = elim (Contains-cons_cases m.0 r rs m.1) [
      | inl e ↦ inl (sym m.3 ∙ ap stamp_of e)
      | inr later ↦ inr (inr (m.0, later, m.2, m.3))
    ]

-- the stamps are those of plain registers
pub walk : (last : Stamp) (rs : List Record) (top : ℕ) → Stands last rs top → Stamped last rs
walk last [] top h = tt
walk last (r ∷ rs) top h = by r.work refl (λ next more. walk next rs top more)
  where
    by : (work : Work) → r.work ≡ work → ((next : Stamp) → Stands next rs top → Stamped next rs) → IsNext work r.client last (stamp_of r) × Stamped (next_stamp work last (stamp_of r)) rs
    by Reads e go =
        let reads : IsReading r.work = subst IsReading (sym e) tt in
        (read_is last r rs top reads h, go last (after_read last r rs top reads (ap writes_by e) h))
    by (Writes value) e go =
        let k : IsWriting r.work = subst IsWriting (sym e) tt in
        let one : writes_by r.work ≡ 1 = ap writes_by e in
        ((next_time last r rs top k one h, h.ordered.owned r (Contains-head r rs) k), go (stamp_of r) (after_write last r rs top k one h))

-- the stamps behind are the last write's, or have a greater time; those of one time are equal
pub later : (last : Stamp) (rs : List Record) → Stamped last rs → (q : Record) → Contains rs q → ((stamp_of q ≡ last) × IsReading q.work) ⊎ (last.time < (stamp_of q).time)
later last [] h q there = absurd (Contains-none q there)
later last (r ∷ rs) h q there = elim (Contains-cons_cases q r rs there) [
  | inl e ↦ subst (λ (x : Record). ((stamp_of x ≡ last) × IsReading x.work) ⊎ (last.time < (stamp_of x).time)) (sym e) (here r.work h.0)
  | inr t ↦ beyond r.work h.0 (later (next_stamp r.work last (stamp_of r)) rs h.1 q t)
]
  where
    here : (work : Work) → IsNext work r.client last (stamp_of r) → ((stamp_of r ≡ last) × IsReading work) ⊎ (last.time < (stamp_of r).time)
    here Reads n = inl (n, tt)
    here (Writes value) n = inr (let t = n.0 in omega arith)

    beyond : (work : Work) → IsNext work r.client last (stamp_of r) → ((stamp_of q ≡ next_stamp work last (stamp_of r)) × IsReading q.work) ⊎ ((next_stamp work last (stamp_of r)).time < (stamp_of q).time)
        → ((stamp_of q ≡ last) × IsReading q.work) ⊎ (last.time < (stamp_of q).time)
    beyond Reads n k = k
    beyond (Writes value) n (inl k) = inr (let t = n.0 in let e = ap (λ (u : Stamp). u.time) k.0 in omega arith)
    beyond (Writes value) n (inr k) = inr (let t = n.0 in omega arith)

-- the stamp of the last write, once an operation is done, is the operation's own
pub own_next : (work : Work) (client : ℕ) (last own : Stamp) → IsNext work client last own → own ≡ next_stamp work last own
own_next Reads client last own n = n
own_next (Writes value) client last own n = refl

pub one_time : (last : Stamp) (rs : List Record) → Stamped last rs → (r q : Record) → Contains rs r → Contains rs q → (stamp_of r).time ≡ (stamp_of q).time → stamp_of r ≡ stamp_of q
one_time last [] h r q i j e = absurd (Contains-none r i)
one_time last (x ∷ xs) h r q i j e =
    elim (Contains-cons_cases r x xs i) [
      | inl a ↦ elim (Contains-cons_cases q x xs j) [
        | inl b ↦ ap stamp_of a ∙ sym (ap stamp_of b)
        | inr t ↦ ap stamp_of a ∙ first q t (ap (λ (y : Record). (stamp_of y).time) (sym a) ∙ e)
      ]
      | inr s ↦ elim (Contains-cons_cases q x xs j) [
        | inl b ↦ sym (ap stamp_of b ∙ first r s (ap (λ (y : Record). (stamp_of y).time) (sym b) ∙ sym e))
        | inr t ↦ one_time (next_stamp x.work last (stamp_of x)) xs h.1 r q s t e
      ]
    ]
  where
    first : (y : Record) → Contains xs y → (stamp_of x).time ≡ (stamp_of y).time → stamp_of x ≡ stamp_of y
    first y t e =
        let own = own_next x.work x.client last (stamp_of x) h.0 in
        elim (later (next_stamp x.work last (stamp_of x)) xs h.1 y t) [
          | inl same ↦ own ∙ sym same.0
          | inr above ↦ absurd (let o = ap (λ (u : Stamp). u.time) own in omega arith)
        ]
