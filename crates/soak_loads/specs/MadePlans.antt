-- The plan that a number makes.
use Rattle.std.specs.Prelude.{ℕ, ◌+◌, ◌*◌, ◌/◌, ◌%◌, ◌==◌, if◌then◌else◌, nat_le, List, [], ◌∷◌, map}
use Rattle.std.specs.List.{range_with_len}
use Rattle.rand_pcg.specs.Lcg.{Lcg, started, advance, increment_of}
use Rattle.rand_pcg.specs.Pcg.{multiplier_64, pcg32}
use Rattle.quorum_rules.specs.Limits.{Numbers}
use Rattle.quorum_rules.specs.declared.Edition.TheVariants.{One}
use Rattle.wire_forms.specs.declared.rule.Rule.TheVariants.{Bad}
use Rattle.wire_forms.specs.declared.op.Op.{Op}
use Rattle.wire_forms.specs.declared.op.Op.TheVariants.{Read, Write}
use Rattle.plan_words.specs.declared.fault.Fault.{Fault}
use Rattle.plan_words.specs.declared.fault.Fault.TheVariants.{LiarNode, Lose, Hold}
use Rattle.plan_words.specs.declared.job.Job.{Job}
use Rattle.plan_words.specs.declared.job.Job.TheVariants.{Block}
use Rattle.plan_words.specs.declared.plan.Plan.{Plan}
use Rattle.plan_words.specs.Named.{liars_of}

-- five nodes, one of which may fail or lie; any two fragments give a block back, and there are 16 blocks of 512 bytes
abbrev pub cluster : Numbers
cluster = record { edition = One; n = 5; t = 1; b = 1; qc = 3; m = 2; size = 512; blocks = 16 }

-- node 4 damages what it tells; client 1's first two asks of node 1 are lost, and client 2's first three of node 2 are held back
abbrev pub rules_of : ℕ → List Fault
rules_of clients = LiarNode 4 Bad ∷ Lose 1 1 2 ∷ (if nat_le 2 clients then Hold 2 2 3 ∷ [] else [])

-- the generator of a number: its state, and stream 1
abbrev pub generator : ℕ → Lcg
generator number = started 64 multiplier_64 number (increment_of 64 1)

-- the word that a generator gives after j others
abbrev pub word_at : Lcg → ℕ → ℕ
word_at g j = (pcg32 (advance 64 multiplier_64 j g)).0

-- the bytes of a written value count up from the first one
abbrev pub value_from : ℕ → List ℕ
value_from first = map (λ i. (first + i) % 256) (range_with_len 0 512)

-- the clients take turns
abbrev pub place_of : ℕ → ℕ → ℕ
place_of clients j = j % clients

-- the blocks are dealt out to the clients; the word says which of its own a client uses
abbrev pub block_of : ℕ → ℕ → ℕ → ℕ
block_of clients j word = place_of clients j + clients * (word % (16 / clients))

-- the third bit of the word says whether the operation is a write, and the bits above it which value is written
abbrev pub op_of : ℕ → ℕ → ℕ → Op
op_of clients j word = if word / 4 % 2 == 1 then Write (block_of clients j word) (value_from (word / 8)) else Read (block_of clients j word)

-- operation j, by a word of the generator
abbrev pub job_of : ℕ → ℕ → ℕ → Job
job_of clients j word = Block (1 + place_of clients j) (op_of clients j word)

-- operation j has the generator's word j, both counted from 0
abbrev pub work_of : ℕ → ℕ → ℕ → List Job
work_of number clients ops = map (λ j. job_of clients j (word_at (generator number) j)) (range_with_len 0 ops)

abbrev pub plan_of : ℕ → ℕ → ℕ → Plan
plan_of number clients ops = record { config = cluster; liars = liars_of (rules_of clients); rules = rules_of clients; work = work_of number clients ops }
