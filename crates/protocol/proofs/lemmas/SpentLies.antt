-- A write is spent only where a lying client sent a high time.
use Rattle.std.proofs.Common.{◌≡◌, ◌⊎◌, ℕ, ◌+◌, ◌-◌, ◌^◌, ◌<◌, ◌≤◌, Bool, true, false, cond, ◌&&◌, eqb, max, List, [], ◌∷◌, length, Option, refl, sym, ◌∙◌, inl, inr, arith}
use Rattle.std.specs.declared.option.Option.TheVariants.{Some}
use Rattle.std.specs.List.{Contains}
use Rattle.std.proofs.lemmas.Bool.{eqb-true}
use Rattle.std.proofs.lemmas.List.{length-map}
use Rattle.stamp_order.specs.declared.Stamp.{Stamp}
use Rattle.wire_forms.specs.declared.Request.TheVariants.{Time, Read, Write}
use Rattle.wire_forms.specs.declared.Body.TheVariants.{Ask as Asks, Answer as Answers}
use Rattle.run_words.specs.declared.outcome.Outcome.TheVariants.{Spent}
use Rattle.protocol.specs.Messages.{Ask, Request, Body, Message}
use Rattle.protocol.specs.Setting.{Setting, IsValid}
use Rattle.protocol.specs.Operations.{Work, Outcome}
use Rattle.protocol.specs.Operations.Work.{Reads, Writes}
use Rattle.protocol.specs.World.{World, Record, start_world}
use Rattle.protocol.specs.Lines.{Line, Run}
use Rattle.protocol.specs.History.{HasLie}
use Rattle.protocol.specs.Facts.{IsOutcomeOf}
use Rattle.protocol.specs.Bounds.{is_chosen, choices, written_time, lied_time, lied}
use Rattle.protocol.specs.Report.{Ascend}
use Rattle.protocol.proofs.lemmas.Starts.{starts, ascend_few}
use Rattle.protocol.proofs.lemmas.Theorem.{run_low}
use Rattle.protocol.proofs.lemmas.Kept.{run_in_order, run_told}
use Rattle.protocol.proofs.Endings.{run_late}
use Rattle.lists.proofs.lemmas.Members.{Contains-head, Contains-none, Contains-rest, Contains-cons_cases, Contains-map_cases}

-- ---- writes that chose

one_at_most : (b : Bool) → cond {A = ℕ} b 1 0 ≤ 1
one_at_most true = omega arith
one_at_most false = omega arith

choices_few : (block : ℕ) (rs : List Record) → choices block rs ≤ length rs
choices_few block [] = omega arith
choices_few block (r ∷ rs) = omega (arith, one_at_most (eqb r.block block && is_chosen r.work r.stamp), choices_few block rs)

not_counted : (b c : Bool) → c ≡ false → cond {A = ℕ} (b && c) 1 0 ≡ 0
not_counted true c e = rw e refl
not_counted false c e = refl

-- fewer than there are, where one hasn't chosen
choices_fewer : (block : ℕ) (rs : List Record) (r : Record) → Contains rs r → is_chosen r.work r.stamp ≡ false → choices block rs < length rs
choices_fewer block [] r there none = absurd (Contains-none r there)
choices_fewer block (x ∷ rs) r there none =
    let rest = choices_fewer block rs r in
    elim (Contains-cons_cases r x rs there) [
      | inl e ↦ (
          let k : is_chosen x.work x.stamp ≡ false = rw e at none in
          let z = not_counted (eqb x.block block) (is_chosen x.work x.stamp) k in
          omega (arith, z, choices_few block rs))
      | inr m ↦ omega (arith, one_at_most (eqb x.block block && is_chosen x.work x.stamp), rest m none)
    ]

-- a spent write hasn't chosen
spent_unchosen : (work : Work) (stamp : Option Stamp) (o : Option Outcome) → o ≡ Some Spent → IsOutcomeOf work stamp o → is_chosen work stamp ≡ false
spent_unchosen Reads stamp o e h = refl
spent_unchosen (Writes v) stamp o e h = let k : IsOutcomeOf (Writes v) stamp (Some Spent) = rw e at h in rw k refl

-- numbers above 0 that ascend are no more than the greatest
above_few : (most : ℕ) (xs : List ℕ) → Ascend xs → ((y : ℕ) → Contains xs y → (0 < y) × (y ≤ most)) → length xs ≤ most
above_few most [] up all = omega arith
above_few most (x ∷ xs) up all =
    let few = ascend_few most x xs up (λ y k. (all y k).1) in
    let some = (all x (Contains-head x xs)).0 in
    omega (arith, few, some)

-- ---- the greatest lied time is one that was lied

lied_is : (s : Setting) (block : ℕ) (ms : List Message) → (lied s block ms ≡ 0) ⊎ ((m : Message) × Contains ms m × (lied_time s block m m.body ≡ lied s block ms))
lied_is s block [] = inl refl
lied_is s block (m ∷ ms) =
    let rest = lied_is s block ms in
    let c : (max (lied_time s block m m.body) (lied s block ms) ≡ lied_time s block m m.body) ⊎ (max (lied_time s block m m.body) (lied s block ms) ≡ lied s block ms) = grind arith in
    elim c [
      | inl e ↦ inr (m, Contains-head m ms, sym e)
      | inr e ↦ elim rest [ inl z ↦ inl (e ∙ z) | inr k ↦ inr (k.0, Contains-rest k.0 m ms k.1, k.2 ∙ sym e) ]
    ]

module _ (s : Setting) (w : World) (block : ℕ) (m : Message) (there : Contains w.pool m) where
  abbrev Lied : ℕ → Type 0
  Lied time = (stamp : Stamp) × HasLie s w block stamp × (stamp.time ≡ time)

  by_request : (ask : Ask) → m.body ≡ Asks ask → s.lying_client m.client ≡ true → (request : Request) → ask.request ≡ request → 0 < written_time block ask request → Lied (written_time block ask request)
  by_request ask body lies Time e l = absurd (omega arith)
  by_request ask body lies (Read bound) e l = absurd (omega arith)
  by_request ask body lies (Write v) e l = at (eqb ask.block block) refl l
    where
      at : (b : Bool) → eqb ask.block block ≡ b → 0 < cond b v.stamp.time 0 → Lied (cond b v.stamp.time 0)
      at true t l =
          let of_block = eqb-true ask.block block t in
          (v.stamp, record { message = m; there = there; lies = lies; version = v; asks = body ∙ (λ i. Asks (record { block = of_block i; request = e i })); stamped = refl }, refl)
      at false t l = absurd (omega arith)

  by_ask : (ask : Ask) → m.body ≡ Asks ask → (b : Bool) → s.lying_client m.client ≡ b → 0 < cond b (written_time block ask ask.request) 0 → Lied (cond b (written_time block ask ask.request) 0)
  by_ask ask body true lies l = by_request ask body lies ask.request refl l
  by_ask ask body false lies l = absurd (omega arith)

  by_body : (body : Body) → m.body ≡ body → 0 < lied_time s block m body → Lied (lied_time s block m body)
  by_body (Asks ask) e l = by_ask ask e (s.lying_client m.client) refl l
  by_body (Answers reply) e l = absurd (omega arith)

lied_by : (s : Setting) (w : World) (block : ℕ) → 0 < lied s block w.pool → (stamp : Stamp) × HasLie s w block stamp × (stamp.time ≡ lied s block w.pool)
lied_by s w block l = elim (lied_is s block w.pool) [
  | inl z ↦ absurd (omega (arith, l, z))
  | inr k ↦ (let g = by_body s w block k.0 k.1 k.0.body refl (let e = k.2 in omega (arith, l, e)) in (g.0, g.1, g.2 ∙ k.2))
]

-- ---- every run

module _ (s : Setting) (lines : List (ℕ × Line)) (w : World) (good : IsValid s) (run : Run s (start_world s) lines w) where
  pub records_few : length w.records ≤ w.place
  records_few =
      let few = above_few w.place (starts w.records) (run_in_order s lines w good run) (λ y k.
      let c = Contains-map_cases (λ (r : Record). r.start) w.records y k in
      let e = c.2 in
      let late = run_late s good lines w run c.0 c.1 in
      let early = (run_told s lines w good run c.0 c.1).start in
      (omega (arith, late, e), omega (arith, early, e))) in
      let e = length-map w.records (λ (r : Record). r.start) in
      omega (arith, few, e)

  pub run_spent_lied : (r : Record) → w.place < 2 ^ 64 → Contains w.records r → r.outcome ≡ Some Spent → (stamp : Stamp) × HasLie s w r.block stamp × (2 ^ 64 ≤ stamp.time + w.place)
  run_spent_lied r low there spent =
      let high : 2 ^ 64 - 1 ≤ lied s r.block w.pool + choices r.block w.records = (run_low s lines w good run).spent r there spent in
      let fewer = choices_fewer r.block w.records r there (spent_unchosen r.work r.stamp r.outcome spent (run_told s lines w good run r there).outcome) in
      let few = records_few in
      let k = lied_by s w r.block (omega (arith, high, fewer, few, low)) in
      let e = k.2 in
      (k.0, k.1, omega (arith, high, fewer, few, e))
