-- The texts of a plan's lines: they come apart into their fields, and no field has a space or a newline.
use Rattle.std.proofs.Common.{◌≡◌, ℕ, ◌^◌, ◌<◌, ◌≤◌, Bool, true, ltb, List, [], ◌∷◌, refl, arith, lit<}
use Rattle.std.specs.Prelude.{codes, decimal}
use Rattle.std.specs.List.{list_all}
use Rattle.std.proofs.lemmas.Bool.{and_parts}
use Rattle.quorum_rules.specs.Limits.{Numbers}
use Rattle.text_lines.specs.Lines.{Lacks, AllLack, fields_of, line_of_fields}
use Rattle.text_lines.specs.Fields.{value_text}
use Rattle.text_lines.proofs.lemmas.Joined.{parts-joined, Lacks-decimal, Lacks-value_text}
use Rattle.wire_forms.specs.declared.rule.Rule.{Rule}
use Rattle.wire_forms.specs.declared.rule.Rule.TheVariants.{Silent, Old, Top, Bad}
use Rattle.wire_forms.specs.declared.op.Op.{Op}
use Rattle.wire_forms.specs.declared.op.Op.TheVariants as ops
use Rattle.wire_forms.specs.declared.device.DeviceOp.{DeviceOp}
use Rattle.wire_forms.specs.declared.device.DeviceOp.TheVariants as commands
use Rattle.wire_forms.specs.Liars.{IsClientNumber}
use Rattle.event_lines.specs.Lines.{IsNode, IsBlock, rule_text}
use Rattle.event_lines.proofs.lemmas.Lacking.{line_lacks_newline, other_byte}
use Rattle.plan_words.specs.declared.fault.Fault.{Fault}
use Rattle.plan_words.specs.declared.fault.Fault.TheVariants.{LiarNode, LiarSound, LiarMix, LiarFlood, CrashNode, CrashClient, Lose, Hold}
use Rattle.plan_words.specs.declared.job.Job.{Job}
use Rattle.plan_words.specs.declared.job.Job.TheVariants.{Block, Device, Phase}
use Rattle.plan_words.specs.Plans.{IsFault, IsJob, IsOp, IsCommand}
use Rattle.plan_words.specs.declared.line.PlanLine.{PlanLine}
use Rattle.plan_words.specs.declared.line.PlanLine.TheVariants.{Rule as Rules, Work}
use Rattle.plan_words.specs.Lines.{IsPlanLine, rule_fields, job_fields, op_fields, command_fields, line_fields, line_text}

-- every byte of the text is above the space and the newline
abbrev is_high : List ℕ → Bool
is_high text = list_all (λ byte. ltb 46 byte) text

module _ (mark : ℕ) (some : 0 < mark) (low : mark < 46) where
  high_lacks : (text : List ℕ) → is_high text ≡ true → Lacks mark text
  high_lacks [] h = refl
  high_lacks (byte ∷ text) h =
      let both = and_parts (ltb 46 byte) (is_high text) h in
      rw (other_byte byte mark low both.0) (high_lacks text both.1)

  number_lacks : (n : ℕ) → n < 2 ^ 64 → Lacks mark (decimal n)
  number_lacks n lt = Lacks-decimal mark n (omega arith) lt

  client_lacks : (n : ℕ) → IsClientNumber n → Lacks mark (decimal n)
  client_lacks n h = number_lacks n (omega arith)

  node_lacks : (c : Numbers) (n : ℕ) → IsNode c n → Lacks mark (decimal n)
  node_lacks c n h = number_lacks n (omega arith)

  block_lacks : (c : Numbers) (n : ℕ) → IsBlock c n → Lacks mark (decimal n)
  block_lacks c n h = number_lacks n (omega arith)

  value_lacks : (v : List ℕ) → Lacks mark (value_text v)
  value_lacks v = Lacks-value_text mark v some (omega arith)

  rule_lacks : (r : Rule) → Lacks mark (rule_text r)
  rule_lacks Silent = high_lacks (codes "silent") refl
  rule_lacks Old = high_lacks (codes "old") refl
  rule_lacks Top = high_lacks (codes "top") refl
  rule_lacks Bad = high_lacks (codes "bad") refl

  rule_line_lacks : (c : Numbers) (f : Fault) → IsFault c f → (c_small : c.n < 2 ^ 64) → AllLack mark (rule_fields f)
  rule_line_lacks c (LiarNode i r) h s = (high_lacks (codes "liar") refl, (high_lacks (codes "node") refl, (node_lacks c i h, (rule_lacks r, tt))))
  rule_line_lacks c (LiarSound k b t v n) h s =
      let few : n ≤ c.n = h.4 in
      (high_lacks (codes "liar") refl, (high_lacks (codes "client") refl, (client_lacks k h.0, (high_lacks (codes "sound") refl, (block_lacks c b h.1, (number_lacks t h.2, (value_lacks v, (number_lacks n (omega arith), tt))))))))
  rule_line_lacks c (LiarMix k b t v w n) h s =
      let few : n ≤ c.n = h.5 in
      (high_lacks (codes "liar") refl, (high_lacks (codes "client") refl, (client_lacks k h.0, (high_lacks (codes "mix") refl, (block_lacks c b h.1, (number_lacks t h.2, (value_lacks v, (value_lacks w, (number_lacks n (omega arith), tt)))))))))
  rule_line_lacks c (LiarFlood k b t v w n) h s =
      let few : n ≤ 250 = h.5 in
      (high_lacks (codes "liar") refl, (high_lacks (codes "client") refl, (client_lacks k h.0, (high_lacks (codes "flood") refl, (block_lacks c b h.1, (number_lacks t h.2, (value_lacks v, (value_lacks w, (number_lacks n (omega arith), tt)))))))))
  rule_line_lacks c (CrashNode i n) h s = let few : n ≤ 1000 = h.1 in (high_lacks (codes "crash") refl, (high_lacks (codes "node") refl, (node_lacks c i h.0, (number_lacks n (omega arith), tt))))
  rule_line_lacks c (CrashClient k n) h s = let few : n ≤ 1000 = h.1 in (high_lacks (codes "crash") refl, (high_lacks (codes "client") refl, (client_lacks k h.0, (number_lacks n (omega arith), tt))))
  rule_line_lacks c (Lose k i n) h s = let few : n ≤ 1000 = h.2 in (high_lacks (codes "drop") refl, (client_lacks k h.0, (node_lacks c i h.1, (number_lacks n (omega arith), tt))))
  rule_line_lacks c (Hold k i n) h s = let few : n ≤ 1000 = h.2 in (high_lacks (codes "hold") refl, (client_lacks k h.0, (node_lacks c i h.1, (number_lacks n (omega arith), tt))))

  op_lacks : (c : Numbers) (k : ℕ) (op : Op) → IsClientNumber k → IsOp c op → AllLack mark (op_fields k op)
  op_lacks c k (ops.Read b) h o = (high_lacks (codes "read") refl, (client_lacks k h, (block_lacks c b o, tt)))
  op_lacks c k (ops.Write b v) h o = (high_lacks (codes "write") refl, (client_lacks k h, (block_lacks c b o.0, (value_lacks v, tt))))

  command_lacks : (k : ℕ) (op : DeviceOp) → IsClientNumber k → IsCommand op → AllLack mark (command_fields k op)
  command_lacks k (commands.Get o n) h i = (high_lacks (codes "get") refl, (client_lacks k h, (number_lacks o i.0, (number_lacks n i.1, tt))))
  command_lacks k (commands.Put o v) h i = (high_lacks (codes "put") refl, (client_lacks k h, (number_lacks o i.0, (value_lacks v, tt))))

  job_lacks : (c : Numbers) (j : Job) → IsJob c j → AllLack mark (job_fields j)
  job_lacks c (Block k op) h = op_lacks c k op h.0 h.1
  job_lacks c (Device k op) h = command_lacks k op h.0 h.1
  job_lacks c Phase h = (high_lacks (codes "phase") refl, tt)

  pub plan_line_lacks : (c : Numbers) (l : PlanLine) → c.n < 2 ^ 64 → IsPlanLine c l → AllLack mark (line_fields l)
  plan_line_lacks c (Rules f) s h = rule_line_lacks c f h s
  plan_line_lacks c (Work j) s h = job_lacks c j h

-- ---- the fields of a line

some_first : (l : PlanLine) → (first : List ℕ) × (more : List (List ℕ)) × (line_fields l ≡ first ∷ more)
some_first (Rules (LiarNode i r)) = (_, _, refl)
some_first (Rules (LiarSound k b t v n)) = (_, _, refl)
some_first (Rules (LiarMix k b t v w n)) = (_, _, refl)
some_first (Rules (LiarFlood k b t v w n)) = (_, _, refl)
some_first (Rules (CrashNode i n)) = (_, _, refl)
some_first (Rules (CrashClient k n)) = (_, _, refl)
some_first (Rules (Lose k i n)) = (_, _, refl)
some_first (Rules (Hold k i n)) = (_, _, refl)
some_first (Work (Block k (ops.Read b))) = (_, _, refl)
some_first (Work (Block k (ops.Write b v))) = (_, _, refl)
some_first (Work (Device k (commands.Get o n))) = (_, _, refl)
some_first (Work (Device k (commands.Put o v))) = (_, _, refl)
some_first (Work Phase) = (_, _, refl)

joined_apart : (fields : List (List ℕ)) → (first : List ℕ) → (more : List (List ℕ)) → fields ≡ first ∷ more → AllLack 32 fields → fields_of (line_of_fields fields) ≡ fields
joined_apart fields first more e lack = rw e (parts-joined 32 first more (rw e at lack))

-- the text of a line comes apart into its fields
pub fields_back : (c : Numbers) (l : PlanLine) → c.n < 2 ^ 64 → IsPlanLine c l → fields_of (line_text l) ≡ line_fields l
fields_back c l s h = let f = some_first l in joined_apart (line_fields l) f.0 f.1 f.2 (plan_line_lacks 32 (lit< tt) (lit< tt) c l s h)

-- the text of a line is one line
pub one_line : (c : Numbers) (l : PlanLine) → c.n < 2 ^ 64 → IsPlanLine c l → Lacks 10 (line_text l)
one_line c l s h = line_lacks_newline (line_fields l) (plan_line_lacks 10 (lit< tt) (lit< tt) c l s h)
