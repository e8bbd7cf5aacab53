-- Who takes part in a run: the clients that lines name or that are declared lying, and all nodes.
use Rattle.std.specs.Prelude.{ℕ, Bool, ◌||◌, List, [], ◌∷◌, ◌++◌, map, Option, option_to_list, if◌then◌else◌}
use Rattle.std.specs.declared.option.Option.TheVariants.{None, Some}
use Rattle.std.specs.List.{flat_map, range_with_len}
use Rattle.quorum_rules.specs.Limits.{Numbers}
use Rattle.wire_forms.specs.Liars.{Liars, has_number}
use Rattle.run_words.specs.declared.line.Line.{Line}
use Rattle.run_words.specs.declared.line.Line.TheVariants.{Write, Read, Resend, Call, Give, Hear, Lost, CrashNode, CrashClient, Lie, Tell, Poke, False, Sound, Mix, Prune, Back, Restart}
use Rattle.event_lines.specs.declared.line.ReplayLine.{ReplayLine}
use Rattle.event_lines.specs.declared.line.ReplayLine.TheVariants.{Plain, Put, Get, Next}
use Rattle.picture_svg.specs.declared.picture.Actor.TheVariants.{Client, Node}
use Rattle.picture_svg.specs.declared.picture.Lifeline.{Lifeline}

-- the client that a line names, if it names one: by its number, or as the client of its message
abbrev pub named_by_line : Line → Option ℕ
named_by_line (Write client block value) = Some client
named_by_line (Read client block) = Some client
named_by_line (Resend client) = Some client
named_by_line (Call client node) = Some client
named_by_line (Give node message) = None
named_by_line (Hear client message) = Some client
named_by_line (Lost client node) = Some client
named_by_line (CrashNode node) = None
named_by_line (CrashClient client) = Some client
named_by_line (Lie message) = Some message.client
named_by_line (Tell message) = Some message.client
named_by_line (Poke message) = Some message.client
named_by_line (False client node rule) = Some client
named_by_line (Sound client node block time value) = Some client
named_by_line (Mix client node block time value other) = Some client
named_by_line (Prune node block) = None
named_by_line (Back client) = Some client
named_by_line (Restart node) = None

abbrev pub named_by : ReplayLine → Option ℕ
named_by (Plain line) = named_by_line line
named_by (Put client offset bytes) = Some client
named_by (Get client offset length) = Some client
named_by (Next client) = Some client

-- the clients that lines name
abbrev pub named_in : List ReplayLine → List ℕ
named_in lines = flat_map (λ line. option_to_list (named_by line)) lines

abbrev pub takes_part : Liars → List ℕ → ℕ → Bool
takes_part liars named client = has_number liars.clients client || has_number named client

abbrev pub client_column : Liars → ℕ → Lifeline
client_column liars client = record { actor = Client client; is_liar = has_number liars.clients client }

abbrev pub node_column : Liars → ℕ → Lifeline
node_column liars node = record { actor = Node node; is_liar = has_number liars.nodes node }

-- the column of a client, if it takes part
abbrev pub column_if_any : Liars → List ℕ → ℕ → List Lifeline
column_if_any liars named client = if takes_part liars named client then client_column liars client ∷ [] else []

-- the columns of the clients that take part among so many numbers
abbrev pub clients_among : ℕ → Liars → List ℕ → List Lifeline
clients_among count liars named = flat_map (column_if_any liars named) (range_with_len 1 count)

-- the columns of all clients that take part, by number
unfoldable pub client_columns : Liars → List ℕ → List Lifeline
client_columns liars named = clients_among 1000 liars named

abbrev pub node_columns : ℕ → Liars → List Lifeline
node_columns count liars = map (node_column liars) (range_with_len 0 count)

-- the lifelines: the clients that take part, and then the nodes
abbrev pub columns_of : Numbers → Liars → List ℕ → List Lifeline
columns_of c liars named = client_columns liars named ++ node_columns c.n liars
