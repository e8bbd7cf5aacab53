-- The text of a plan's line has nothing wrong by itself.
use Rattle.std.proofs.Common.{◌≡◌, lit≤, ℕ, ◌+◌, ◌^◌, ◌<◌, ◌≤◌, true, false, min, eqb, List, [], ◌∷◌, length, None, refl, ◌∙◌, arith}
use Rattle.std.specs.Prelude.{codes, decimal}
use Rattle.std.specs.Str.{bytes_eq}
use Rattle.quorum_rules.specs.Limits.{Numbers, IsValid}
use Rattle.text_lines.specs.Fields.{value_text}
use Rattle.wire_forms.specs.declared.rule.Rule.{Rule}
use Rattle.wire_forms.specs.declared.rule.Rule.TheVariants.{Silent, Old, Top, Bad}
use Rattle.wire_forms.specs.declared.op.Op.TheVariants as ops
use Rattle.wire_forms.specs.declared.device.DeviceOp.TheVariants as commands
use Rattle.line_forms.specs.Kinds.{client, node, block, any_u64, count_to}
use Rattle.line_forms.specs.Kinds.Kind.{value, bytes}
use Rattle.event_lines.specs.Lines.{rule_text}
use Rattle.plan_words.specs.declared.fault.Fault.{Fault}
use Rattle.plan_words.specs.declared.fault.Fault.TheVariants.{LiarNode, LiarSound, LiarMix, LiarFlood, CrashNode, CrashClient, Lose, Hold}
use Rattle.plan_words.specs.declared.job.Job.{Job}
use Rattle.plan_words.specs.declared.job.Job.TheVariants.{Block, Device, Phase}
use Rattle.plan_words.specs.Plans.{IsFault, IsJob}
use Rattle.plan_words.specs.declared.line.PlanLine.{PlanLine}
use Rattle.plan_words.specs.declared.line.PlanLine.TheVariants.{Rule as Rules, Work}
use Rattle.plan_words.specs.Forms.{only, any_rule, number_at, node_form, sound_form, mix_form, flood_form, crash_node_form, crash_client_form, between, line_cause}
use Rattle.plan_words.specs.Lines.{IsPlanLine, line_fields}
use Rattle.plan_words.proofs.FormCauses.{node_cause, sound_cause, mix_cause, flood_cause, one_form, crash_node_cause, crash_client_cause}
use Rattle.event_lines.proofs.lemmas.Unique.{u64_back}
use Rattle.line_forms.proofs.lemmas.Fine.{form_cause-none, Fine-number, Fine-client, Fine-u64, Fine-bytes, Fine}
use Rattle.event_lines.proofs.lemmas.Accepted.{Fine-node, Fine-block, Fine-value}

-- ---- fields

a_count : (most n : ℕ) → n ≤ most → most < 2 ^ 64 → Fine (count_to most) (decimal n)
a_count most n h small = Fine-number (2 ^ 64) 0 (most + 1) n (lit≤ tt) (omega arith) (omega arith) (omega arith)

a_rule : (r : Rule) → Fine any_rule (rule_text r)
a_rule Silent = record { words = refl; full = refl; numbers = refl; inside = refl; values = refl }
a_rule Old = record { words = refl; full = refl; numbers = refl; inside = refl; values = refl }
a_rule Top = record { words = refl; full = refl; numbers = refl; inside = refl; values = refl }
a_rule Bad = record { words = refl; full = refl; numbers = refl; inside = refl; values = refl }

a_word : (text : List ℕ) → bytes_eq text text ≡ true → eqb (length text) 0 ≡ false → Fine (only text) text
a_word text same full = record { words = rw same refl; full = full; numbers = refl; inside = refl; values = refl }

-- ---- lines

in_flood : (n t : ℕ) → n ≤ 250 → n ≤ t → n ≤ min 250 t
in_flood n t a b = omega arith

rule_fine : (c : Numbers) (f : Fault) → IsValid c → IsFault c f → line_cause c (line_fields (Rules f)) ≡ None
rule_fine c (LiarNode i r) v h =
    let rest = decimal i ∷ rule_text r ∷ [] in
    node_cause c rest (number_at 4 (codes "node" ∷ rest)) ∙ form_cause-none (node_form c) (codes "node" ∷ rest) (a_word (codes "node") refl refl, (Fine-node c i h, (a_rule r, tt)))
rule_fine c (LiarSound k b t x n) v h =
    let rest = decimal k ∷ codes "sound" ∷ decimal b ∷ decimal t ∷ value_text x ∷ decimal n ∷ [] in
    let top = v.nodes.1 in
    sound_cause c rest (number_at 4 (codes "client" ∷ rest)) refl
    ∙ form_cause-none (sound_form c) (codes "client" ∷ rest)
    (a_word (codes "client") refl refl, (Fine-client k h.0, (a_word (codes "sound") refl refl, (Fine-block c b h.1, (Fine-u64 t h.2, (Fine-value c x h.3, (a_count c.n n h.4 (omega arith), tt)))))))
rule_fine c (LiarMix k b t x y n) v h =
    let rest = decimal k ∷ codes "mix" ∷ decimal b ∷ decimal t ∷ value_text x ∷ value_text y ∷ decimal n ∷ [] in
    let top = v.nodes.1 in
    mix_cause c rest (number_at 4 (codes "client" ∷ rest)) refl
    ∙ form_cause-none (mix_form c) (codes "client" ∷ rest)
    (a_word (codes "client") refl refl, (Fine-client k h.0, (a_word (codes "mix") refl refl, (Fine-block c b h.1, (Fine-u64 t h.2, (Fine-value c x h.3, (Fine-value c y h.4, (a_count c.n n h.5 (omega arith), tt))))))))
rule_fine c (LiarFlood k b t x y n) v h =
    let rest = decimal k ∷ codes "flood" ∷ decimal b ∷ decimal t ∷ value_text x ∷ value_text y ∷ decimal n ∷ [] in
    let time = number_at 4 (codes "client" ∷ rest) in
    let is : time ≡ t = u64_back t h.2 in
    let few : n ≤ min 250 time = rw is (in_flood n t h.5 h.6) in
    flood_cause c rest time refl
    ∙ form_cause-none (flood_form c time) (codes "client" ∷ rest)
    (a_word (codes "client") refl refl, (Fine-client k h.0, (a_word (codes "flood") refl refl, (Fine-block c b h.1, (Fine-u64 t h.2, (Fine-value c x h.3, (Fine-value c y h.4, (a_count (min 250 time) n few (omega arith), tt))))))))
rule_fine c (CrashNode i n) v h =
    crash_node_cause c (decimal i ∷ decimal n ∷ []) ∙ form_cause-none (crash_node_form c) (codes "node" ∷ decimal i ∷ decimal n ∷ []) (a_word (codes "node") refl refl, (Fine-node c i h.0, (a_count 1000 n h.1 (omega arith), tt)))
rule_fine c (CrashClient k n) v h =
    crash_client_cause c (decimal k ∷ decimal n ∷ []) ∙ form_cause-none crash_client_form (codes "client" ∷ decimal k ∷ decimal n ∷ []) (a_word (codes "client") refl refl, (Fine-client k h.0, (a_count 1000 n h.1 (omega arith), tt)))
rule_fine c (Lose k i n) v h =
    one_form (between c) (decimal k ∷ decimal i ∷ decimal n ∷ []) ∙ form_cause-none (between c) (decimal k ∷ decimal i ∷ decimal n ∷ []) (Fine-client k h.0, (Fine-node c i h.1, (a_count 1000 n h.2 (omega arith), tt)))
rule_fine c (Hold k i n) v h =
    one_form (between c) (decimal k ∷ decimal i ∷ decimal n ∷ []) ∙ form_cause-none (between c) (decimal k ∷ decimal i ∷ decimal n ∷ []) (Fine-client k h.0, (Fine-node c i h.1, (a_count 1000 n h.2 (omega arith), tt)))

job_fine : (c : Numbers) (j : Job) → IsJob c j → line_cause c (line_fields (Work j)) ≡ None
job_fine c (Block k (ops.Read b)) h =
    one_form (client ∷ block c.blocks ∷ []) (decimal k ∷ decimal b ∷ []) ∙ form_cause-none (client ∷ block c.blocks ∷ []) (decimal k ∷ decimal b ∷ []) (Fine-client k h.0, (Fine-block c b h.1, tt))
job_fine c (Block k (ops.Write b x)) h =
    one_form (client ∷ block c.blocks ∷ value c.size ∷ []) (decimal k ∷ decimal b ∷ value_text x ∷ [])
    ∙ form_cause-none (client ∷ block c.blocks ∷ value c.size ∷ []) (decimal k ∷ decimal b ∷ value_text x ∷ []) (Fine-client k h.0, (Fine-block c b h.1.0, (Fine-value c x h.1.1, tt)))
job_fine c (Device k (commands.Get o n)) h =
    one_form (client ∷ any_u64 ∷ any_u64 ∷ []) (decimal k ∷ decimal o ∷ decimal n ∷ [])
    ∙ form_cause-none (client ∷ any_u64 ∷ any_u64 ∷ []) (decimal k ∷ decimal o ∷ decimal n ∷ []) (Fine-client k h.0, (Fine-u64 o h.1.0, (Fine-u64 n h.1.1, tt)))
job_fine c (Device k (commands.Put o x)) h =
    one_form (client ∷ any_u64 ∷ bytes ∷ []) (decimal k ∷ decimal o ∷ value_text x ∷ [])
    ∙ form_cause-none (client ∷ any_u64 ∷ bytes ∷ []) (decimal k ∷ decimal o ∷ value_text x ∷ []) (Fine-client k h.0, (Fine-u64 o h.1.0, (Fine-bytes x h.1.1, tt)))
job_fine c Phase h = refl

pub line_fine : (c : Numbers) (l : PlanLine) → IsValid c → IsPlanLine c l → line_cause c (line_fields l) ≡ None
line_fine c (Rules f) v h = rule_fine c f v h
line_fine c (Work j) v h = job_fine c j h
