-- What may follow the word of a plan's line, and what is wrong with a line by itself.
use Rattle.std.specs.Prelude.{ℕ, ◌^◌, min, List, [], ◌∷◌, codes, find, slice_index_or, unwrap_or, Option, Some, None}
use Rattle.std.specs.Str.{bytes_eq}
use Rattle.quorum_rules.specs.Limits.{Numbers}
use Rattle.text_lines.specs.Fields.{number_of, value_of}
use Rattle.line_forms.specs.Kinds.{Kind, client, node, block, any_u64, count_to}
use Rattle.line_forms.specs.Kinds.Kind.{word, value, bytes}
use Rattle.line_forms.specs.declared.cause.Cause.{Cause}
use Rattle.line_forms.specs.declared.cause.Cause.TheVariants.{UnknownWord}
use Rattle.event_lines.specs.Forms.{fields_cause}
pub use Rattle.plan_words.specs.declared.word.PlanWord.{PlanWord}
use Rattle.plan_words.specs.declared.word.PlanWord.TheVariants.{Liar, Crash, Lose, Hold, Write, Read, Put, Get, Phase}

-- ---- words

abbrev pub word_text : PlanWord → List ℕ
word_text Liar = codes "liar"
word_text Crash = codes "crash"
word_text Lose = codes "drop"
word_text Hold = codes "hold"
word_text Write = codes "write"
word_text Read = codes "read"
word_text Put = codes "put"
word_text Get = codes "get"
word_text Phase = codes "phase"

abbrev pub words : List PlanWord
words = Liar ∷ Crash ∷ Lose ∷ Hold ∷ Write ∷ Read ∷ Put ∷ Get ∷ Phase ∷ []

-- the word that is spelled so
abbrev pub word_of : List ℕ → Option PlanWord
word_of field = find (λ w. bytes_eq field (word_text w)) words

abbrev pub only : List ℕ → Kind
only text = word (text ∷ [])

-- how a lying node may answer
abbrev pub any_rule : Kind
any_rule = word (codes "silent" ∷ codes "old" ∷ codes "top" ∷ codes "bad" ∷ [])

-- ---- what may follow a word

-- the field at this place, or nothing past the last one
abbrev pub field_at : ℕ → List (List ℕ) → List ℕ
field_at place fields = slice_index_or fields place []

-- the number that the field at this place spells, or 0
abbrev pub number_at : ℕ → List (List ℕ) → ℕ
number_at place fields = unwrap_or (number_of (2 ^ 64) (field_at place fields)) 0

abbrev pub value_at : ℕ → List (List ℕ) → List ℕ
value_at place fields = unwrap_or (value_of (field_at place fields)) []

abbrev pub node_form : Numbers → List Kind
node_form c = only (codes "node") ∷ node c.n ∷ any_rule ∷ []

abbrev pub sound_form : Numbers → List Kind
sound_form c = only (codes "client") ∷ client ∷ only (codes "sound") ∷ block c.blocks ∷ any_u64 ∷ value c.size ∷ count_to c.n ∷ []

abbrev pub mix_form : Numbers → List Kind
mix_form c = only (codes "client") ∷ client ∷ only (codes "mix") ∷ block c.blocks ∷ any_u64 ∷ value c.size ∷ value c.size ∷ count_to c.n ∷ []

-- a flood from this time on has at most so many writes
abbrev pub flood_form : Numbers → ℕ → List Kind
flood_form c time = only (codes "client") ∷ client ∷ only (codes "flood") ∷ block c.blocks ∷ any_u64 ∷ value c.size ∷ value c.size ∷ count_to (min 250 time) ∷ []

abbrev pub crash_node_form : Numbers → List Kind
crash_node_form c = only (codes "node") ∷ node c.n ∷ count_to 1000 ∷ []

abbrev pub crash_client_form : List Kind
crash_client_form = only (codes "client") ∷ client ∷ count_to 1000 ∷ []

-- asks between a client and a node
abbrev pub between : Numbers → List Kind
between c = client ∷ node c.n ∷ count_to 1000 ∷ []

-- the fields after a word: those of one of these forms, which their fixed words tell apart
abbrev pub forms_of : Numbers → List (List ℕ) → PlanWord → List (List Kind)
forms_of c fields Liar = node_form c ∷ sound_form c ∷ mix_form c ∷ flood_form c (number_at 4 fields) ∷ []
forms_of c fields Crash = crash_node_form c ∷ crash_client_form ∷ []
forms_of c fields Lose = between c ∷ []
forms_of c fields Hold = between c ∷ []
forms_of c fields Write = (client ∷ block c.blocks ∷ value c.size ∷ []) ∷ []
forms_of c fields Read = (client ∷ block c.blocks ∷ []) ∷ []
forms_of c fields Put = (client ∷ any_u64 ∷ bytes ∷ []) ∷ []
forms_of c fields Get = (client ∷ any_u64 ∷ any_u64 ∷ []) ∷ []
forms_of c fields Phase = [] ∷ []

-- ---- what is wrong with a line by itself

abbrev pub rest_cause : Numbers → Option PlanWord → List (List ℕ) → Option Cause
rest_cause c None fields = Some UnknownWord
rest_cause c (Some w) fields = fields_cause (forms_of c fields w) fields

-- what is wrong with a line of these fields
abbrev pub line_cause : Numbers → List (List ℕ) → Option Cause
line_cause c [] = Some UnknownWord
line_cause c (first ∷ rest) = rest_cause c (word_of first) rest
