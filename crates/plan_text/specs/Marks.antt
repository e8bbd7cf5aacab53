-- What a line of a plan names and counts, as far as other lines may stand against it.
use Rattle.std.specs.Prelude.{ℕ, Bool, true, false, ◌&&◌, List, [], ◌∷◌, codes, Option, Some, None, if◌then◌else◌}
use Rattle.std.specs.List.{list_any}
use Rattle.std.specs.Option.{option_or, option_and_then}
use Rattle.std.specs.Str.{bytes_eq}
use Rattle.quorum_rules.specs.Limits.{Numbers}
use Rattle.wire_forms.specs.declared.device.DeviceOp.{DeviceOp}
use Rattle.wire_forms.specs.declared.device.DeviceOp.TheVariants.{Get, Put}
use Rattle.block_device.specs.Ranges.{fault_of}
use Rattle.plan_words.specs.declared.fault.Fault.{Fault}
use Rattle.plan_words.specs.declared.job.Job.{Job}
use Rattle.plan_words.specs.Named.{lying_node, faulty_node, lying_client, crashing_client, troubled_client, job_client, dropped_pair, held_pair, is_flood, is_phase}
use Rattle.plan_words.specs.Plans.{step_count, steps_unless, device_fault}
pub use Rattle.plan_text.specs.declared.marks.Marks.{Marks}
use Rattle.plan_words.specs.declared.line.PlanLine.{PlanLine}
use Rattle.plan_words.specs.declared.line.PlanLine.TheVariants.{Rule, Work}
use Rattle.plan_words.specs.Forms.{field_at, number_at, value_at}

-- ---- the marks of rules and jobs

abbrev pub rule_marks : Fault → Marks
rule_marks fault = record {
  lying_node = lying_node fault;
  faulty_node = faulty_node fault;
  lying_client = lying_client fault;
  crashing_client = crashing_client fault;
  asking_client = troubled_client fault;
  dropped = dropped_pair fault;
  held = held_pair fault;
  is_flood = is_flood fault;
  is_phase = false;
  steps = 0;
  fault = None;
}

abbrev pub job_marks : Numbers → Job → Marks
job_marks c job = record {
  lying_node = None;
  faulty_node = None;
  lying_client = None;
  crashing_client = None;
  asking_client = job_client job;
  dropped = None;
  held = None;
  is_flood = false;
  is_phase = is_phase job;
  steps = step_count c job;
  fault = device_fault c job;
}

abbrev pub line_marks : Numbers → PlanLine → Marks
line_marks c (Rule fault) = rule_marks fault
line_marks c (Work job) = job_marks c job

-- ---- the marks of a line by its fields

-- the first fields are these words
abbrev pub begins : List (List ℕ) → List (List ℕ) → Bool
begins [] fields = true
begins (word ∷ words) [] = false
begins (word ∷ words) (field ∷ fields) = bytes_eq field word && begins words fields

-- the number at a place of a line that begins so
abbrev pub number_after : List (List ℕ) → ℕ → List (List ℕ) → Option ℕ
number_after words place fields = if begins words fields then Some (number_at place fields) else None

-- the two numbers of a line that begins so
abbrev pub pair_after : List (List ℕ) → List (List ℕ) → Option (ℕ × ℕ)
pair_after words fields = if begins words fields then Some (number_at 1 fields, number_at 2 fields) else None

-- the words of lines whose first field after the word is a client that makes asks
abbrev pub client_words : List (List ℕ)
client_words = codes "drop" ∷ codes "hold" ∷ codes "write" ∷ codes "read" ∷ codes "put" ∷ codes "get" ∷ []

abbrev pub client_after : List (List ℕ) → Option ℕ
client_after fields = if list_any (λ w. begins (w ∷ []) fields) client_words then Some (number_at 1 fields) else None

-- the device's command that a line is
abbrev pub command_in : List (List ℕ) → Option DeviceOp
command_in fields =
    if begins (codes "put" ∷ []) fields then Some (Put (number_at 2 fields) (value_at 3 fields))
    else (if begins (codes "get" ∷ []) fields then Some (Get (number_at 2 fields) (number_at 3 fields))
    else None)

abbrev pub is_operation : List (List ℕ) → Bool
is_operation fields = list_any (λ w. begins (w ∷ []) fields) (codes "write" ∷ codes "read" ∷ [])

abbrev pub command_steps : Numbers → Option DeviceOp → ℕ
command_steps c None = 0
command_steps c (Some op) = steps_unless c op (fault_of c op)

abbrev pub marks_in : Numbers → List (List ℕ) → Marks
marks_in c fields = record {
  lying_node = number_after (codes "liar" ∷ codes "node" ∷ []) 2 fields;
  faulty_node = option_or (number_after (codes "liar" ∷ codes "node" ∷ []) 2 fields) (number_after (codes "crash" ∷ codes "node" ∷ []) 2 fields);
  lying_client = number_after (codes "liar" ∷ codes "client" ∷ []) 2 fields;
  crashing_client = number_after (codes "crash" ∷ codes "client" ∷ []) 2 fields;
  asking_client = option_or (number_after (codes "crash" ∷ codes "client" ∷ []) 2 fields) (client_after fields);
  dropped = pair_after (codes "drop" ∷ []) fields;
  held = pair_after (codes "hold" ∷ []) fields;
  is_flood = begins (codes "liar" ∷ codes "client" ∷ []) fields && bytes_eq (field_at 3 fields) (codes "flood");
  is_phase = begins (codes "phase" ∷ []) fields;
  steps = if is_operation fields then 1 else command_steps c (command_in fields);
  fault = option_and_then (fault_of c) (command_in fields);
}
