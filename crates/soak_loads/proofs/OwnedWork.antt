-- What the clients of a plan do on each block, where each block has one client.
use Rattle.std.proofs.Common.{◌≡◌, ℕ, suc, ◌<◌, ◌≤◌, Bool, true, false, filter, List, [], ◌∷◌, ◌++◌, length, map, option_map, refl, sym, ap, subst, ◌∙◌, inl, inr, arith, length-append}
use Rattle.std.specs.Prelude.{◌==◌, if◌then◌else◌, sum_by, slice_get}
use Rattle.std.specs.declared.option.Option.TheVariants.{Some}
use Rattle.std.specs.List.{Contains, AllByRecursion, flat_map}
use Rattle.std.proofs.lemmas.Bool.{eqb-true}
use Rattle.std.proofs.lemmas.Bool.Decides.{nat_tests}
use Rattle.std.proofs.lemmas.List.{length-map, map-append}
use Rattle.std.proofs.lemmas.List.Elements.{Contains-append_cases}
use Rattle.std.proofs.lemmas.List.Sums.{sum_by-cons}
use Rattle.std.proofs.lemmas.Option.{slice_get-map}
use Rattle.quorum_rules.specs.Limits.{Numbers}
use Rattle.wire_forms.specs.declared.op.Op.{Op}
use Rattle.wire_forms.specs.declared.op.Op.TheVariants.{Read, Write}
use Rattle.block_device.specs.declared.steps.BlockStep.{BlockStep}
use Rattle.protocol.specs.Operations.{Work}
use Rattle.protocol.specs.Operations.Work.{Reads, Writes}
use Rattle.protocol.specs.World.{World}
use Rattle.protocol.specs.History.{Entry}
use Rattle.protocol.specs.Seen.{block_of}
use Rattle.soak_loads.specs.Plain.{Deed, deeds_of, is_on}
use Rattle.plan_words.specs.declared.job.Job.{Job}
use Rattle.plan_words.specs.declared.job.Job.TheVariants.{Block, Device, Phase}
use Rattle.plan_words.specs.declared.plan.Plan.{Plan}
use Rattle.plan_words.specs.Plans.{IsOp, IsJob, step_count}
use Rattle.journals.specs.declared.whole.Journals.{Journals}
use Rattle.journals.specs.Desks.{Ended}
use Rattle.block_device.specs.Ops.{step_of}
use Rattle.plan_followed.specs.Asked.{steps_in, steps_for}
use Rattle.journal_records.specs.Shown.{ended_by, IsOf, IsSteady, IsComplete}
use Rattle.soak_loads.specs.Serial.{op_by}
use Rattle.soak_loads.specs.Loads.{IsByOwner, HasOwners}
use Rattle.lists.proofs.lemmas.Members.{Contains-none, Contains-one}

-- ---- the operations of a client

abbrev ops_in : ℕ → Job → List Op
ops_in c (Block client op) = if c == client then op ∷ [] else []
ops_in c (Device client op) = []
ops_in c Phase = []

abbrev pub ops_for : ℕ → List Job → List Op
ops_for c work = flat_map (ops_in c) work

module _ (owner : ℕ → ℕ) (config : Numbers) (c : ℕ) where
  step_in : (job : Job) → IsByOwner owner job → steps_in config c job ≡ map step_of (ops_in c job)
  step_in (Block client op) h = by (c == client)
    where
      by : (b : Bool) → (if b then step_of op ∷ [] else []) ≡ map step_of (if b then op ∷ [] else [])
      by true = refl
      by false = refl
  step_in (Device client op) h = absurd h
  step_in Phase h = refl

  -- its steps are these
  steps_are : (work : List Job) → AllByRecursion (IsByOwner owner) work → steps_for config c work ≡ map step_of (ops_for c work)
  steps_are [] h = refl
  steps_are (job ∷ work) h =
      ap (λ (l : List BlockStep). l ++ steps_for config c work) (step_in job h.0)
      ∙ ap (λ (l : List BlockStep). map step_of (ops_in c job) ++ l) (steps_are work h.1)
      ∙ sym (map-append step_of (ops_in c job) (ops_for c work))

  few_in : (job : Job) → IsByOwner owner job → length (ops_in c job) ≤ step_count config job
  few_in (Block client op) h = by (c == client)
    where
      by : (b : Bool) → length (if b then op ∷ [] else []) ≤ 1
      by true = omega arith
      by false = omega arith
  few_in (Device client op) h = absurd h
  few_in Phase h = omega arith

  -- and no more than the plan's
  pub ops_few : (work : List Job) → AllByRecursion (IsByOwner owner) work → length (ops_for c work) ≤ sum_by (step_count config) work
  ops_few [] h = omega arith
  ops_few (job ∷ work) h =
      let here = few_in job h.0 in
      let rest = ops_few work h.1 in
      omega (arith, here, rest, length-append (ops_in c job) (ops_for c work), sum_by-cons (step_count config) job work)

  op_below : (op : Op) → IsOp config op → block_of op < config.blocks
  op_below (Read block) h = h.there
  op_below (Write block value) h = h.0.there

  there_in : (job : Job) (op : Op) → IsByOwner owner job → IsJob config job → Contains (ops_in c job) op → (c ≡ owner (block_of op)) × (block_of op < config.blocks)
  there_in (Block client o) op own fits there = by (c == client) refl there
    where
      by : (b : Bool) → (c == client) ≡ b → Contains (if b then o ∷ [] else []) op → (c ≡ owner (block_of op)) × (block_of op < config.blocks)
      by true e k =
          let same : op ≡ o = Contains-one op o k in
          subst (λ (x : Op). (c ≡ owner (block_of x)) × (block_of x < config.blocks)) (sym same) (eqb-true c client e ∙ own, op_below o fits.1)
      by false e k = absurd (Contains-none op k)
  there_in (Device client o) op own fits there = absurd own
  there_in Phase op own fits there = absurd (Contains-none op there)

  -- whose block each is on
  pub ops_there : (work : List Job) (op : Op) → AllByRecursion (IsByOwner owner) work → AllByRecursion (IsJob config) work → Contains (ops_for c work) op
      → (c ≡ owner (block_of op)) × (block_of op < config.blocks)
  ops_there [] op own fits there = absurd (Contains-none op there)
  ops_there (job ∷ work) op own fits there =
      let rest = ops_there work op own.1 fits.1 in
      elim (Contains-append_cases (ops_in c job) (ops_for c work) op there) [ inl here ↦ there_in job op own.0 fits.0 here | inr later ↦ rest later ]

-- ---- the operations on a block

abbrev pub as_deed : ℕ → Op → Deed
as_deed client op = record { client = client; op = op }

-- are those of the block's client on it
pub deeds_are : (owner : ℕ → ℕ) (block : ℕ) (work : List Job) → AllByRecursion (IsByOwner owner) work
    → map (as_deed (owner block)) (filter (λ op. block_of op == block) (ops_for (owner block) work)) ≡ filter (is_on block) (deeds_of work)
deeds_are owner block [] h = refl
deeds_are owner block (Block client op ∷ work) h = by (block_of op == block) (owner block == client) refl refl (deeds_are owner block work h.1)
  where
    o : ℕ
    o = owner block

    Rest : Type 0
    Rest = map (as_deed (owner block)) (filter (λ op. block_of op == block) (ops_for (owner block) work)) ≡ filter (is_on block) (deeds_of work)

    by : (p q : Bool) → (block_of op == block) ≡ p → (owner block == client) ≡ q → Rest
        → map (as_deed (owner block)) (filter (λ op. block_of op == block) (ops_for (owner block) (Block client op ∷ work))) ≡ filter (is_on block) (deeds_of (Block client op ∷ work))
    by true q e f rest =
        let mine : client ≡ owner block = h.0 ∙ ap owner (eqb-true (block_of op) block e) in
        let own : (owner block == client) ≡ true = grind (arith, nat_tests) in
        rw own (rw e (λ i. record { client = sym mine i; op = op } ∷ rest i))
    by false true e f rest = rw f (rw e rest)
    by false false e f rest = rw f (rw e rest)
deeds_are owner block (Device client op ∷ work) h = absurd h.0
deeds_are owner block (Phase ∷ work) h = deeds_are owner block work h.1

pub deeds_below : (owner : ℕ → ℕ) (config : Numbers) (work : List Job) → AllByRecursion (IsByOwner owner) work → AllByRecursion (IsJob config) work
    → AllByRecursion (λ d. block_of d.op < config.blocks) (deeds_of work)
deeds_below owner config [] own fits = tt
deeds_below owner config (Block client op ∷ work) own fits = (op_below owner config client op fits.0.1, deeds_below owner config work own.1 fits.1)
deeds_below owner config (Device client op ∷ work) own fits = absurd own.0
deeds_below owner config (Phase ∷ work) own fits = deeds_below owner config work own.1 fits.1

-- ---- what a client ended

abbrev pub ended_op : Ended → Op
ended_op x = op_by x.block x.work

pub on_its_block : (block : ℕ) (work : Work) → block_of (op_by block work) ≡ block
on_its_block block Reads = refl
on_its_block block (Writes value) = refl

is_op : (op : Op) (x : Ended) → IsOf (step_of op) x → ended_op x ≡ op
is_op (Read block) x h = ap (λ (work : Work). op_by x.block work) h.1 ∙ ap (λ (b : ℕ). Read b) h.0
is_op (Write block value) x h = ap (λ (work : Work). op_by x.block work) h.1 ∙ ap (λ (b : ℕ). Write b value) h.0

-- a list whose elements a function makes, one by one, of another's
made_of : {X Y : Type 0} (f : X → Y) (xs : List X) (ys : List Y) → length xs ≡ length ys
    → ((k : ℕ) (x : X) (y : Y) → slice_get xs k ≡ Some x → slice_get ys k ≡ Some y → f x ≡ y) → map f xs ≡ ys
made_of f [] [] l h = refl
made_of f [] (y ∷ ys) l h = absurd (omega arith)
made_of f (x ∷ xs) [] l h = absurd (omega arith)
made_of f (x ∷ xs) (y ∷ ys) l h =
    let head : f x ≡ y = h 0 x y refl refl in
    let tail : map f xs ≡ ys = made_of f xs ys (omega (arith, l)) (λ k a b p q. h (suc k) a b p q) in
    λ i. head i ∷ tail i

-- a client that isn't to crash doesn't
pub steady_client : (plan : Plan) (j : Journals) (w : World) (history : List Entry) → HasOwners plan → IsComplete plan j w history → (c : ℕ) → IsSteady plan j c
steady_client plan j w history owners complete c =
    let right = (owners.reliable c).0 in
    (right, λ crashed. let some = complete.crashes c right crashed in let none = (owners.reliable c).1 in cc)

-- are its operations, in order
pub ops_ended : (plan : Plan) (j : Journals) (w : World) (history : List Entry) (owners : HasOwners plan) → IsComplete plan j w history
    → (c : ℕ) → map ended_op (ended_by j c) ≡ ops_for c plan.work
ops_ended plan j w history owners complete c = made_of ended_op (ended_by j c) (ops_for c plan.work) long each
  where
    steps : steps_for plan.config c plan.work ≡ map step_of (ops_for c plan.work)
    steps = steps_are owners.owner plan.config c plan.work owners.owned

    long : length (ended_by j c) ≡ length (ops_for c plan.work)
    long = complete.all c (steady_client plan j w history owners complete c) ∙ ap length steps ∙ length-map (ops_for c plan.work) step_of

    each : (k : ℕ) (x : Ended) (op : Op) → slice_get (ended_by j c) k ≡ Some x → slice_get (ops_for c plan.work) k ≡ Some op → ended_op x ≡ op
    each k x op at is =
        let step : slice_get (steps_for plan.config c plan.work) k ≡ Some (step_of op) =
        ap (λ (l : List BlockStep). slice_get l k) steps ∙ slice_get-map step_of (ops_for c plan.work) k ∙ ap (option_map step_of) is in
        is_op op x (complete.each c k (step_of op) x (steady_client plan j w history owners complete c) step at)
