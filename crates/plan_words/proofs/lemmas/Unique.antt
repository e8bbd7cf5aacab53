-- No two lines of a plan share a text.
use Rattle.std.proofs.Common.{◌≡◌, ℕ, ◌^◌, ◌<◌, ◌≤◌, List, [], ◌∷◌, Option, Some, None, unwrap_or, refl, sym, ap, ◌∙◌, arith}
use Rattle.std.specs.Prelude.{codes, decimal, if◌then◌else◌}
use Rattle.std.specs.Str.{bytes_eq}
use Rattle.quorum_rules.specs.Limits.{Numbers}
use Rattle.text_lines.specs.Lines.{fields_of}
use Rattle.text_lines.specs.Fields.{number_of}
use Rattle.wire_forms.specs.declared.rule.Rule.{Rule}
use Rattle.wire_forms.specs.declared.rule.Rule.TheVariants.{Silent, Old, Top, Bad}
use Rattle.wire_forms.specs.declared.op.Op.TheVariants as ops
use Rattle.wire_forms.specs.declared.device.DeviceOp.TheVariants as commands
use Rattle.wire_forms.specs.Liars.{IsClientNumber}
use Rattle.event_lines.specs.Lines.{IsNode, IsBlock, rule_text}
use Rattle.plan_words.specs.declared.fault.Fault.{Fault}
use Rattle.plan_words.specs.declared.fault.Fault.TheVariants.{LiarNode, LiarSound, LiarMix, LiarFlood, CrashNode, CrashClient, Lose, Hold}
use Rattle.plan_words.specs.declared.job.Job.{Job}
use Rattle.plan_words.specs.declared.job.Job.TheVariants.{Block, Device, Phase}
use Rattle.plan_words.specs.Plans.{IsFault, IsJob}
use Rattle.plan_words.specs.declared.line.PlanLine.{PlanLine}
use Rattle.plan_words.specs.declared.line.PlanLine.TheVariants.{Rule as Rules, Work}
use Rattle.plan_words.specs.Forms.{PlanWord, word_of, field_at, number_at, value_at}
use Rattle.plan_words.specs.declared.word.PlanWord.TheVariants as words
use Rattle.plan_words.specs.Lines.{IsPlanLine, line_fields, line_text}
use Rattle.plan_words.proofs.lemmas.Texts.{fields_back}
use Rattle.event_lines.proofs.lemmas.Unique.{u64_back, value_back}

-- ---- what fields spell, by their places

abbrev rule_in : List ℕ → Rule
rule_in field = if bytes_eq field (codes "silent") then Silent else (if bytes_eq field (codes "old") then Old else (if bytes_eq field (codes "top") then Top else Bad))

abbrev client_liar_in : List (List ℕ) → Fault
client_liar_in fs =
    if bytes_eq (field_at 3 fs) (codes "sound") then LiarSound (number_at 2 fs) (number_at 4 fs) (number_at 5 fs) (value_at 6 fs) (number_at 7 fs)
    else (if bytes_eq (field_at 3 fs) (codes "mix") then LiarMix (number_at 2 fs) (number_at 4 fs) (number_at 5 fs) (value_at 6 fs) (value_at 7 fs) (number_at 8 fs)
    else LiarFlood (number_at 2 fs) (number_at 4 fs) (number_at 5 fs) (value_at 6 fs) (value_at 7 fs) (number_at 8 fs))

abbrev liar_in : List (List ℕ) → Fault
liar_in fs = if bytes_eq (field_at 1 fs) (codes "node") then LiarNode (number_at 2 fs) (rule_in (field_at 3 fs)) else client_liar_in fs

abbrev crash_in : List (List ℕ) → Fault
crash_in fs = if bytes_eq (field_at 1 fs) (codes "node") then CrashNode (number_at 2 fs) (number_at 3 fs) else CrashClient (number_at 2 fs) (number_at 3 fs)

abbrev word_in : Option PlanWord → List (List ℕ) → PlanLine
word_in None fs = Work Phase
word_in (Some words.Liar) fs = Rules (liar_in fs)
word_in (Some words.Crash) fs = Rules (crash_in fs)
word_in (Some words.Lose) fs = Rules (Lose (number_at 1 fs) (number_at 2 fs) (number_at 3 fs))
word_in (Some words.Hold) fs = Rules (Hold (number_at 1 fs) (number_at 2 fs) (number_at 3 fs))
word_in (Some words.Write) fs = Work (Block (number_at 1 fs) (ops.Write (number_at 2 fs) (value_at 3 fs)))
word_in (Some words.Read) fs = Work (Block (number_at 1 fs) (ops.Read (number_at 2 fs)))
word_in (Some words.Put) fs = Work (Device (number_at 1 fs) (commands.Put (number_at 2 fs) (value_at 3 fs)))
word_in (Some words.Get) fs = Work (Device (number_at 1 fs) (commands.Get (number_at 2 fs) (number_at 3 fs)))
word_in (Some words.Phase) fs = Work Phase

-- the line of these fields
abbrev line_in : List (List ℕ) → PlanLine
line_in [] = Work Phase
line_in (word ∷ rest) = word_in (word_of word) (word ∷ rest)

-- ---- each line is the one of its fields

pub client_back : (n : ℕ) → IsClientNumber n → unwrap_or (number_of (2 ^ 64) (decimal n)) 0 ≡ n
client_back n h = u64_back n (omega arith)

pub node_back : (c : Numbers) (n : ℕ) → IsNode c n → unwrap_or (number_of (2 ^ 64) (decimal n)) 0 ≡ n
node_back c n h = u64_back n (omega arith)

block_back : (c : Numbers) (n : ℕ) → IsBlock c n → unwrap_or (number_of (2 ^ 64) (decimal n)) 0 ≡ n
block_back c n h = u64_back n (omega arith)

count_back : (n most : ℕ) → n ≤ most → most < 2 ^ 64 → unwrap_or (number_of (2 ^ 64) (decimal n)) 0 ≡ n
count_back n most h k = u64_back n (omega arith)

rule_back : (r : Rule) → rule_in (rule_text r) ≡ r
rule_back Silent = refl
rule_back Old = refl
rule_back Top = refl
rule_back Bad = refl

fault_back : (c : Numbers) (f : Fault) → c.n < 2 ^ 64 → IsFault c f → line_in (line_fields (Rules f)) ≡ Rules f
fault_back c (LiarNode i r) s h = rw (node_back c i h, rule_back r) refl
fault_back c (LiarSound k b t v n) s h = rw (client_back k h.0, block_back c b h.1, u64_back t h.2, value_back v h.3.bytes, count_back n c.n h.4 s) refl
fault_back c (LiarMix k b t v w n) s h = rw (client_back k h.0, block_back c b h.1, u64_back t h.2, value_back v h.3.bytes, value_back w h.4.bytes, count_back n c.n h.5 s) refl
fault_back c (LiarFlood k b t v w n) s h = rw (client_back k h.0, block_back c b h.1, u64_back t h.2, value_back v h.3.bytes, value_back w h.4.bytes, count_back n 250 h.5 (omega arith)) refl
fault_back c (CrashNode i n) s h = rw (node_back c i h.0, count_back n 1000 h.1 (omega arith)) refl
fault_back c (CrashClient k n) s h = rw (client_back k h.0, count_back n 1000 h.1 (omega arith)) refl
fault_back c (Lose k i n) s h = rw (client_back k h.0, node_back c i h.1, count_back n 1000 h.2 (omega arith)) refl
fault_back c (Hold k i n) s h = rw (client_back k h.0, node_back c i h.1, count_back n 1000 h.2 (omega arith)) refl

job_back : (c : Numbers) (j : Job) → IsJob c j → line_in (line_fields (Work j)) ≡ Work j
job_back c (Block k (ops.Read b)) h = rw (client_back k h.0, block_back c b h.1) refl
job_back c (Block k (ops.Write b v)) h = rw (client_back k h.0, block_back c b h.1.0, value_back v h.1.1.bytes) refl
job_back c (Device k (commands.Get o n)) h = rw (client_back k h.0, u64_back o h.1.0, u64_back n h.1.1) refl
job_back c (Device k (commands.Put o v)) h = rw (client_back k h.0, u64_back o h.1.0, value_back v h.1.1) refl
job_back c Phase h = refl

line_back : (c : Numbers) (l : PlanLine) → c.n < 2 ^ 64 → IsPlanLine c l → line_in (line_fields l) ≡ l
line_back c (Rules f) s h = fault_back c f s h
line_back c (Work j) s h = job_back c j h

pub one_plan_line : (c : Numbers) (l k : PlanLine) → c.n < 2 ^ 64 → IsPlanLine c l → IsPlanLine c k → line_text l ≡ line_text k → l ≡ k
one_plan_line c l k s h g e =
    let fields : line_fields l ≡ line_fields k = sym (fields_back c l s h) ∙ ap fields_of e ∙ fields_back c k s g in
    sym (line_back c l s h) ∙ ap line_in fields ∙ line_back c k s g
