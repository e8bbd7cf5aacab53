-- The event lines of a replay script, and their texts.
use Rattle.std.specs.Prelude.{◌≡◌, ◌≢◌, ℕ, ◌^◌, ◌<◌, true, List, [], ◌∷◌, length, codes, decimal}
use Rattle.quorum_rules.specs.Limits.{Numbers}
use Rattle.quorum_rules.specs.declared.Edition.TheVariants.{One}
use Rattle.text_lines.specs.Lines.{line_of_fields}
use Rattle.text_lines.specs.Fields.{value_text, IsBytes}
use Rattle.wire_forms.specs.Liars.{IsClientNumber}
use Rattle.wire_forms.specs.declared.rule.Rule.{Rule}
use Rattle.wire_forms.specs.declared.rule.Rule.TheVariants.{Silent, Old, Top, Bad}
use Rattle.message_texts.specs.Texts.{IsMessage, HasLimits, message_fields}
use Rattle.run_words.specs.declared.line.Line.{Line}
use Rattle.run_words.specs.declared.line.Line.TheVariants.{Write, Read, Resend, Call, Give, Hear, Lost, CrashNode, CrashClient, Lie, Tell, Poke, False, Sound, Mix, Prune, Back, Restart}
use Rattle.event_lines.specs.Messages.{is_ask, is_answer}
use Rattle.event_lines.specs.declared.line.ReplayLine.{ReplayLine}
use Rattle.event_lines.specs.declared.line.ReplayLine.TheVariants.{Plain, Put, Get, Next}

-- ---- which lines there are: numbers in their types' ranges that may stand there

pub record IsNode (c : Numbers) (node : ℕ) : Type 0 where
  pub typed : node < 2 ^ 8
  pub there : node < c.n

pub record IsBlock (c : Numbers) (block : ℕ) : Type 0 where
  pub typed : block < 2 ^ 32
  pub there : block < c.blocks

-- a value of a block
pub record IsValue (c : Numbers) (value : List ℕ) : Type 0 where
  pub whole : length value ≡ c.size
  pub bytes : IsBytes value

abbrev pub IsLine : Numbers → Line → Type 0
IsLine c (Write client block value) = IsClientNumber client × IsBlock c block × IsValue c value
IsLine c (Read client block) = IsClientNumber client × IsBlock c block
IsLine c (Resend client) = IsClientNumber client
IsLine c (Call client node) = IsClientNumber client × IsNode c node
IsLine c (Give node message) = IsNode c node × (message < 2 ^ 64)
IsLine c (Hear client message) = IsClientNumber client × (message < 2 ^ 64)
IsLine c (Lost client node) = IsClientNumber client × IsNode c node
IsLine c (CrashNode node) = IsNode c node
IsLine c (CrashClient client) = IsClientNumber client
IsLine c (Lie message) = IsMessage message
IsLine c (Tell message) = IsMessage message × (is_answer message.body ≡ true)
IsLine c (Poke message) = IsMessage message × (is_ask message.body ≡ true)
IsLine c (False client node rule) = IsClientNumber client × IsNode c node × (rule ≢ Silent)
IsLine c (Sound client node block time value) = IsClientNumber client × IsNode c node × IsBlock c block × (time < 2 ^ 64) × IsValue c value
IsLine c (Mix client node block time value other) = IsClientNumber client × IsNode c node × IsBlock c block × (time < 2 ^ 64) × IsValue c value × IsValue c other
IsLine c (Prune node block) = IsNode c node × IsBlock c block
IsLine c (Back client) = (c.edition ≢ One) × IsClientNumber client
IsLine c (Restart node) = (c.edition ≢ One) × IsNode c node

-- an event line of a replay script for a cluster of these numbers
abbrev pub IsEventLine : Numbers → ReplayLine → Type 0
IsEventLine c (Plain line) = IsLine c line
IsEventLine c (Put client offset bytes) = IsClientNumber client × (offset < 2 ^ 64) × IsBytes bytes
IsEventLine c (Get client offset length) = IsClientNumber client × (offset < 2 ^ 64) × (length < 2 ^ 64)
IsEventLine c (Next client) = IsClientNumber client

-- ---- their texts

abbrev pub rule_text : Rule → List ℕ
rule_text Silent = codes "silent"
rule_text Old = codes "old"
rule_text Top = codes "top"
rule_text Bad = codes "bad"

-- the fields of a line
abbrev pub line_fields : Line → List (List ℕ)
line_fields (Write client block value) = codes "write" ∷ decimal client ∷ decimal block ∷ value_text value ∷ []
line_fields (Read client block) = codes "read" ∷ decimal client ∷ decimal block ∷ []
line_fields (Resend client) = codes "resend" ∷ decimal client ∷ []
line_fields (Call client node) = codes "call" ∷ decimal client ∷ decimal node ∷ []
line_fields (Give node message) = codes "give" ∷ decimal node ∷ decimal message ∷ []
line_fields (Hear client message) = codes "hear" ∷ decimal client ∷ decimal message ∷ []
line_fields (Lost client node) = codes "lost" ∷ decimal client ∷ decimal node ∷ []
line_fields (CrashNode node) = codes "crash" ∷ codes "node" ∷ decimal node ∷ []
line_fields (CrashClient client) = codes "crash" ∷ codes "client" ∷ decimal client ∷ []
line_fields (Lie message) = codes "lie" ∷ message_fields message
line_fields (Tell message) = codes "tell" ∷ message_fields message
line_fields (Poke message) = codes "poke" ∷ message_fields message
line_fields (False client node rule) = codes "false" ∷ decimal client ∷ decimal node ∷ rule_text rule ∷ []
line_fields (Sound client node block time value) = codes "sound" ∷ decimal client ∷ decimal node ∷ decimal block ∷ decimal time ∷ value_text value ∷ []
line_fields (Mix client node block time value other) = codes "mix" ∷ decimal client ∷ decimal node ∷ decimal block ∷ decimal time ∷ value_text value ∷ value_text other ∷ []
line_fields (Prune node block) = codes "prune" ∷ decimal node ∷ decimal block ∷ []
line_fields (Back client) = codes "back" ∷ codes "client" ∷ decimal client ∷ []
line_fields (Restart node) = codes "restart" ∷ codes "node" ∷ decimal node ∷ []

abbrev pub event_fields : ReplayLine → List (List ℕ)
event_fields (Plain line) = line_fields line
event_fields (Put client offset bytes) = codes "put" ∷ decimal client ∷ decimal offset ∷ value_text bytes ∷ []
event_fields (Get client offset length) = codes "get" ∷ decimal client ∷ decimal offset ∷ decimal length ∷ []
event_fields (Next client) = codes "next" ∷ decimal client ∷ []

-- an event line that has these fields
abbrev pub IsSpelled : Numbers → List (List ℕ) → ReplayLine → Type 0
IsSpelled c fields line = IsEventLine c line × (event_fields line ≡ fields)

-- the text of an event line, its newline aside
abbrev pub event_text : ReplayLine → List ℕ
event_text line = line_of_fields (event_fields line)

-- the line has a text, whatever its numbers: the strings of a message are within the limits
abbrev pub HasText : ReplayLine → Type 0
HasText (Plain (Lie message)) = HasLimits message.body
HasText (Plain (Tell message)) = HasLimits message.body
HasText (Plain (Poke message)) = HasLimits message.body
HasText _ = Unit {0}
