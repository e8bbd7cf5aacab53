-- Replay scripts: the head lines, a line for each liar, and the event lines of a run.
use Rattle.std.specs.Prelude.{ℕ, ◌≡◌, ◌==◌, ◌+◌, ◌*◌, ◌/◌, ◌≤◌, ◌<◌, Bool, true, false, not, ◌&&◌, nat_le, min, List, [], ◌∷◌, ◌++◌, length, map, count_by, codes, decimal, drop, slice_index_or, Option, Some, if◌then◌else◌}
use Rattle.std.specs.List.{list_any, AllByRecursion, IsDistinct}
use Rattle.std.specs.Str.{bytes_eq}
use Rattle.std.specs.Ordering.{nat_cmp}
use Rattle.std.specs.BTreeSet.{insert_key}
use Rattle.quorum_rules.specs.Limits.{Numbers, IsValid, IsOfScripts}
use Rattle.text_lines.specs.Lines.{fields_of, line_of_fields, text_of_lines}
use Rattle.wire_forms.specs.Liars.{Liars, IsAscending, IsClientNumber, AreLiars}
use Rattle.line_forms.specs.Tables.{first_of, or_then}
use Rattle.line_forms.specs.Kinds.{Kind, client, node}
use Rattle.line_forms.specs.Kinds.Kind.{word}
use Rattle.line_forms.specs.Texts.{Grammar}
use Rattle.line_forms.specs.Heads.{Body, script, head_lines}
use Rattle.line_forms.specs.declared.cause.Cause.{Cause}
use Rattle.line_forms.specs.declared.cause.Cause.TheVariants.{UnknownWord, Twice, TooManyLiars, TooManyLines}
use Rattle.event_lines.specs.Forms.{fields_cause, event_cause}
use Rattle.event_lines.specs.Lines.{event_text, IsEventLine}
use Rattle.event_lines.specs.declared.line.ReplayLine.{ReplayLine}
use Rattle.script_text.specs.declared.liars.Declared.{Declared}
use Rattle.script_text.specs.declared.liars.Declared.TheVariants.{Node, Client}

-- ---- what a liar line declares

abbrev pub liar_fields : Declared → List (List ℕ)
liar_fields (Node n) = codes "liar" ∷ codes "node" ∷ decimal n ∷ []
liar_fields (Client k) = codes "liar" ∷ codes "client" ∷ decimal k ∷ []

abbrev pub liar_line : Declared → List ℕ
liar_line d = line_of_fields (liar_fields d)

-- a node of the cluster, or a client
abbrev pub IsDeclarable : Numbers → Declared → Type 0
IsDeclarable c (Node n) = n < c.n
IsDeclarable c (Client k) = IsClientNumber k

abbrev pub is_same : Declared → Declared → Bool
is_same (Node n) (Node m) = n == m
is_same (Client k) (Client l) = k == l
is_same (Node n) (Client k) = false
is_same (Client k) (Node n) = false

-- these liars and one more
abbrev pub with_declared : Liars → Declared → Liars
with_declared liars (Node n) = record { nodes = insert_key nat_cmp liars.nodes n; clients = liars.clients }
with_declared liars (Client k) = record { nodes = liars.nodes; clients = insert_key nat_cmp liars.clients k }

abbrev pub with_all : Liars → List Declared → Liars
with_all liars [] = liars
with_all liars (d ∷ declared) = with_all (with_declared liars d) declared

-- all that are declared
abbrev pub liars_of : List Declared → Liars
liars_of declared = with_all (record { nodes = []; clients = [] }) declared

-- what declares these liars, nodes first and both ascending
abbrev pub declarations : Liars → List Declared
declarations liars = map Node liars.nodes ++ map Client liars.clients

-- ---- replays and their texts

-- how many event lines a script for such a cluster may have
abbrev pub event_limit : Numbers → ℕ
event_limit c = min 200000 (1000000000 / (c.n * (c.size + 32 * c.n + 128)))

-- liars of the cluster, each list in ascending order
pub record AreAscendingLiars (c : Numbers) (liars : Liars) : Type 0 where
  pub may_lie : AreLiars c liars
  pub ascending : IsAscending liars.nodes × IsAscending liars.clients

pub record IsReplay (c : Numbers) (liars : Liars) (lines : List ReplayLine) : Type 0 where
  pub valid : IsValid c
  pub of_scripts : IsOfScripts c
  pub lying : AreAscendingLiars c liars
  pub events : AllByRecursion (IsEventLine c) lines
  pub limited : length lines ≤ event_limit c

-- the lines of a script whose liar lines declare these in turn
abbrev pub replay_lines : Numbers → List Declared → List ReplayLine → List (List ℕ)
replay_lines c declared lines = head_lines c ++ (map liar_line declared ++ map event_text lines)

-- the text of a replay, whose liar lines ascend, nodes first
abbrev pub replay_text : Numbers → Liars → List ReplayLine → List ℕ
replay_text c liars lines = text_of_lines (replay_lines c (declarations liars) lines)

-- the text is a replay's, in whichever order it declares the liars, each once
pub record Spells (text : List ℕ) (c : Numbers) (liars : Liars) (lines : List ReplayLine) : Type 0 where
  pub declared : List Declared
  pub once : IsDistinct is_same declared
  pub all : liars_of declared ≡ liars
  pub spelled : text ≡ text_of_lines (replay_lines c declared lines)

-- ---- what is wrong with a line

-- a field of a line, or nothing past the last one
abbrev pub field_at : ℕ → List ℕ → List ℕ
field_at k line = slice_index_or (fields_of line) k []

unfoldable pub is_liar_line : List ℕ → Bool
is_liar_line line = bytes_eq (field_at 0 line) (codes "liar")

unfoldable pub is_liar_node : List ℕ → Bool
is_liar_node line = is_liar_line line && bytes_eq (field_at 1 line) (codes "node")

abbrev pub is_event : List ℕ → Bool
is_event line = not (is_liar_line line)

-- what may stand after the word of a liar line
abbrev pub liar_forms : Numbers → List (List Kind)
liar_forms c = (word (codes "node" ∷ []) ∷ node c.n ∷ []) ∷ (word (codes "client" ∷ []) ∷ client ∷ []) ∷ []

-- the causes of a liar line that declares again what a line before does, or one lying node too many
abbrev pub again_causes : Numbers → List (List ℕ) → List ℕ → List (Bool × Cause)
again_causes c before line =
    (list_any (λ earlier. bytes_eq earlier line) before, Twice)
    ∷ (is_liar_node line && nat_le c.b (count_by is_liar_node before), TooManyLiars)
    ∷ []

-- what is wrong with a liar line after these lines, by the fields after its word
abbrev pub liar_cause : Numbers → List (List ℕ) → List ℕ → List (List ℕ) → Option Cause
liar_cause c before line rest =
    if list_any is_event before then Some UnknownWord else or_then (fields_cause (liar_forms c) rest) (first_of (again_causes c before line))

-- what is wrong with an event line after so many others
abbrev pub event_cause_after : Numbers → ℕ → List ℕ → Option Cause
event_cause_after c events line = or_then (event_cause c line) (first_of ((nat_le (event_limit c) events, TooManyLines) ∷ []))

unfoldable pub replay_cause : Numbers → List (List ℕ) → List ℕ → Option Cause
replay_cause c before line =
    if is_liar_line line then liar_cause c before line (drop 1 (fields_of line)) else event_cause_after c (count_by is_event before) line

abbrev pub replay_may_end : Numbers → List (List ℕ) → Bool
replay_may_end c before = true

abbrev pub replay_body : Body
replay_body = record { cause = replay_cause; may_end = replay_may_end }

-- the texts that `replay` reads
abbrev pub replay_script : Grammar
replay_script = script replay_body
