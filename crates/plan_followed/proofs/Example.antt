-- A plan and journals that follow it; and each part of following broken once.
use Rattle.std.proofs.Common.{◌≡◌, ℕ, zero, suc, ◌+◌, ◌-◌, ◌<◌, ◌%◌, true, false, List, [], ◌∷◌, length, refl, ap, inl, inr, arith}
use Rattle.std.specs.Prelude.{Option}
use Rattle.std.specs.declared.option.Option.TheVariants.{None, Some}
use Rattle.quorum_rules.specs.Limits.{Numbers}
use Rattle.quorum_rules.specs.declared.Edition.TheVariants.{One}
use Rattle.stamp_order.specs.declared.Stamp.{Stamp}
use Rattle.wire_forms.specs.declared.message.Message.{Message}
use Rattle.wire_forms.specs.declared.op.Op.TheVariants.{Read as ReadOp, Write as WriteOp}
use Rattle.wire_forms.specs.declared.Body.TheVariants.{Ask as Asks, Answer as Answers}
use Rattle.wire_forms.specs.declared.Request.TheVariants.{Time}
use Rattle.wire_forms.specs.declared.Reply.TheVariants.{TimeIs}
use Rattle.run_words.specs.declared.outcome.How.TheVariants.{Plain}
use Rattle.run_words.specs.declared.outcome.Outcome.TheVariants.{Gave}
use Rattle.block_device.specs.declared.steps.BlockStep.{BlockStep}
use Rattle.block_device.specs.declared.steps.BlockStep.TheVariants.{Read, Whole, Merge}
use Rattle.block_device.specs.Device.{merged}
use Rattle.block_device.specs.Ops.{op_of}
use Rattle.protocol.specs.Operations.Work.{Reads}
use Rattle.protocol.specs.Seen.{SeenTask, has_answered}
use Rattle.plan_words.specs.declared.fault.Fault.TheVariants.{LiarSound, CrashClient, Hold}
use Rattle.plan_words.specs.declared.job.Job.TheVariants.{Block, Phase as PhaseEnd}
use Rattle.plan_words.specs.declared.plan.Plan.{Plan}
use Rattle.journals.specs.declared.node.NodeAct.TheVariants.{Answered, Silent, Pruned}
use Rattle.journals.specs.declared.node.Silence.TheVariants.{Held}
use Rattle.journals.specs.declared.desk.DeskAct.TheVariants.{Start, Crash, Call}
use Rattle.journals.specs.declared.desk.Way.TheVariants.{Call as ByCall, Lose as ByLose, Hold as ByHold}
use Rattle.journals.specs.declared.desk.DeskEntry.{DeskEntry}
use Rattle.journals.specs.Desks.{DeskState, Ended, new_desk}
use Rattle.journals.specs.Records.{client_records}
use Rattle.plan_followed.specs.Asked.{steps_for, first_phases}
use Rattle.plan_followed.specs.Clients.{InEach, IsNext, way_of, client_after, IsNextStart, IsOnItsWay, GoesByPlan, IsCutOff, IsDone, ClientFollows, LiarFollows}
use Rattle.plan_followed.specs.Nodes.{NodeFollows}
use Rattle.plan_followed.proofs.lemmas.Entries.{each_in}
use Rattle.lists.proofs.lemmas.Members.{Contains-head, Contains-none}

abbrev one : Numbers
one = record { edition = One; n = 1; t = 0; b = 0; qc = 1; m = 1; size = 1; blocks = 1 }

-- ---- client 1 writes, its first ask is held, and it crashes when it has asked twice
abbrev plan : Plan
plan = record {
  config = one;
  liars = record { nodes = []; clients = [] };
  rules = Hold 1 0 1 ∷ CrashClient 1 2 ∷ [];
  work = Block 1 (WriteOp 0 (7 ∷ [])) ∷ [];
}

abbrev ask : Message
ask = record { client = 1; node = 0; tag = record { op = 1; phase = 1 }; body = Asks (record { block = 0; request = Time }) }

abbrev answer : Message
answer = record { client = 1; node = 0; tag = record { op = 1; phase = 1 }; body = Answers (TimeIs 0) }

abbrev started : DeskEntry
started = record { number = 0; act = Start (WriteOp 0 (7 ∷ [])) }

abbrev held : DeskEntry
held = record { number = 1; act = Call ByHold ask None }

abbrev called : DeskEntry
called = record { number = 2; act = Call ByCall ask (Some answer) }

abbrev crashed : DeskEntry
crashed = record { number = 3; act = Crash }

abbrev of_client : List DeskEntry
of_client = started ∷ held ∷ called ∷ crashed ∷ []

only_node : (task : Option SeenTask) (from : ℕ) → 0 ≡ (from + 0) % 1 → has_answered task 0 ≡ false → IsNext 1 task from 0
only_node task from at h = record { passed = 0; round = omega arith; is = at; answered = λ k l. absurd (omega (arith, l)); unanswered = h }

-- ---- the client follows the plan

client_goes : InEach (GoesByPlan plan 1) of_client
client_goes = each_in (GoesByPlan plan 1) of_client (
  record { start = (Whole 0 (7 ∷ []), refl, refl); turn = tt; way = tt },
  (
    record { start = tt; turn = only_node (client_after plan 1 (started ∷ [])).client.seen.task (1 % 1) refl refl; way = refl },
    (
      record { start = tt; turn = only_node (client_after plan 1 (started ∷ held ∷ [])).client.seen.task (0 + 1) refl refl; way = refl },
      (record { start = tt; turn = tt; way = tt }, tt),
    ),
  ),
)

client_follows : ClientFollows plan 1 [] of_client
client_follows = record {
  acts = client_goes;
  closed = λ k p e. absurd (cc);
  done = inr (record { count = refl; down = refl; busy = refl });
}

-- ---- broken once each

-- a start that isn't of the next step
not_next_step : IsNextStart plan 1 (steps_for one 1 plan.work) [] (Start (ReadOp 0)) → ⊥
not_next_step (step, there, same) = at step there same
  where
    at : (step : BlockStep) → ◌≡◌ {A = Option BlockStep} (Some (Whole 0 (7 ∷ []))) (Some step) → ReadOp 0 ≡ op_of 1 1 (client_records 1 (new_desk one 1)) step → ⊥
    at (Read block) there same = absurd (cc)
    at (Whole block value) there same = absurd (cc)
    at (Merge block start bytes) there same = absurd (cc)

-- an ask that passes over a node which hasn't answered
not_next_node : IsNext 4 None 1 2 → ⊥
not_next_node h = at h.passed h.is h.answered
  where
    at : (passed : ℕ) → 2 ≡ (1 + passed) % 4 → ((k : ℕ) → k < passed → has_answered None ((1 + k) % 4) ≡ true) → ⊥
    at zero is answered = absurd (omega (arith, is))
    at (suc k) is answered = absurd (let no : false ≡ true = answered 0 (omega arith) in cc)

-- the ways of the first five asks where one is dropped and two are held
ways : way_of 1 2 0 ≡ ByLose × way_of 1 2 1 ≡ ByHold × way_of 1 2 2 ≡ ByHold × way_of 1 2 3 ≡ ByCall
ways = (refl, refl, refl, refl)

-- a hold in the place of a call
not_its_way : IsOnItsWay plan 1 (started ∷ held ∷ []) (Call ByHold ask None) → ⊥
not_its_way h = absurd (let q : ByHold ≡ ByCall = h in cc)

-- a client that stops before its work is done, and has no crash
not_done : IsDone plan 1 (Whole 0 (7 ∷ []) ∷ []) [] → ⊥
not_done (inl h) = absurd (let q : 0 ≡ 1 = h.started in omega (arith, q))
not_done (inr h) = absurd (let q : false ≡ true = h.down in cc)

-- a crash before the client has asked as often as it may
not_yet : IsCutOff plan 1 (started ∷ held ∷ crashed ∷ []) → ⊥
not_yet h = absurd (let q : ◌≡◌ {A = Option ℕ} (Some 2) (Some 1) = h.count in let l : ◌≡◌ {A = ℕ} 2 1 = cc in omega (arith, l))

-- what is held and doesn't come again
not_delivered : NodeFollows plan 0 [] (λ k. []) (record { number = 1; act = Silent ask Held } ∷ record { number = 2; act = Answered ask answer } ∷ []) → ⊥
not_delivered h = absurd (let q : ◌≡◌ {A = List Message} (ask ∷ []) [] = h.late in cc)

-- a prune in no phase
no_such_phase : (stamp : Stamp) → NodeFollows plan 0 [] (λ k. []) (record { number = 3; act = Pruned 0 stamp } ∷ []) → ⊥
no_such_phase stamp h = let q = h.only 3 0 stamp (Contains-head (record { number = 3; act = Pruned 0 stamp }) []) in Contains-none q.0 q.1

-- a lying client that sends nothing of what it has to send
abbrev of_liar : Plan
of_liar = record { config = one; liars = record { nodes = []; clients = 9 ∷ [] }; rules = LiarSound 9 0 1 (7 ∷ []) 1 ∷ []; work = [] }

not_sent : LiarFollows of_liar 9 [] [] → ⊥
not_sent h = absurd (let q : 0 ≡ 1 = ap length h.sends in omega (arith, q))

-- ---- what plans ask

-- of two phases the first has the first job, and both have both
two_phases : first_phases 1 (Block 1 (ReadOp 0) ∷ PhaseEnd ∷ Block 2 (ReadOp 1) ∷ []) ≡ Block 1 (ReadOp 0) ∷ []
two_phases = refl

both_phases : first_phases 2 (Block 1 (ReadOp 0) ∷ PhaseEnd ∷ Block 2 (ReadOp 1) ∷ []) ≡ Block 1 (ReadOp 0) ∷ Block 2 (ReadOp 1) ∷ []
both_phases = refl

-- a merge writes what the client's latest read of its block gave, with its own bytes in their place
abbrev two : Numbers
two = record { edition = One; n = 1; t = 0; b = 0; qc = 1; m = 1; size = 2; blocks = 2 }

abbrev read_of : ℕ → List ℕ → Ended
read_of end value = record { block = 0; work = Reads; start = end - 1; end = end; outcome = Gave (record { time = 1; client = 1; verifier = [] }) value Plain 1 }

abbrev after_reads : DeskState
after_reads = record { client = (new_desk two 1).client; crashed = false; began = 5; ended = read_of 2 (8 ∷ 9 ∷ []) ∷ read_of 4 (3 ∷ 4 ∷ []) ∷ [] }

merges_latest : op_of 2 1 (client_records 1 after_reads) (Merge 0 1 (7 ∷ [])) ≡ WriteOp 0 (3 ∷ 7 ∷ [])
unfolding merged
merges_latest = refl

merges_zeros : op_of 2 1 (client_records 1 after_reads) (Merge 1 0 (7 ∷ [])) ≡ WriteOp 1 (7 ∷ 0 ∷ [])
unfolding merged
merges_zeros = refl
