-- Lines that tell what threads did.
use Rattle.std.specs.Prelude.{◌≡◌, ℕ, ◌<◌, true, List, length}
use Rattle.std.specs.List.{AllByRecursion}
use Rattle.quorum_rules.specs.Limits.{Numbers, IsOfScripts}
use Rattle.message_texts.specs.Texts.{HasLimits}
use Rattle.run_words.specs.declared.line.Line.{Line}
use Rattle.run_words.specs.declared.line.Line.TheVariants.{Write, Read, Call, Give, Lost, CrashNode, CrashClient, Tell, Poke, Prune}
use Rattle.wire_forms.specs.Liars.{IsClientNumber}
use Rattle.event_lines.specs.Messages.{is_ask, is_answer}
use Rattle.journals.specs.declared.whole.Journals.{Journals}
use Rattle.journals.specs.Journals.{IsMerge}
use Rattle.plan_words.specs.declared.plan.Plan.{Plan}
use Rattle.plan_followed.specs.Followed.{AreOfPlan}

-- a line of a kind that tells what threads did, whose clients, nodes, blocks and values are the cluster's, and whose message isn't
-- too long for a text; what types say of numbers is left out
abbrev pub IsTold : Numbers → Line → Type 0
IsTold c (Write client block value) = IsClientNumber client × (block < c.blocks) × (length value ≡ c.size)
IsTold c (Read client block) = IsClientNumber client × (block < c.blocks)
IsTold c (Call client node) = IsClientNumber client × (node < c.n)
IsTold c (Give node message) = node < c.n
IsTold c (Lost client node) = IsClientNumber client × (node < c.n)
IsTold c (CrashNode node) = node < c.n
IsTold c (CrashClient client) = IsClientNumber client
IsTold c (Tell message) = HasLimits message.body × (is_answer message.body ≡ true)
IsTold c (Poke message) = HasLimits message.body × (is_ask message.body ≡ true)
IsTold c (Prune node block) = (node < c.n) × (block < c.blocks)
IsTold c _ = ⊥

-- each line of journals of a run of a plan is told, where a script can describe the plan's cluster
abbrev pub LinesAreTold : Type 0
LinesAreTold =
    (plan : Plan) (j : Journals) (drawn : ℕ) (lines : List (ℕ × Line))
    → IsOfScripts plan.config → AreOfPlan plan j drawn → IsMerge j lines
    → AllByRecursion (λ l. IsTold plan.config l.1) lines
