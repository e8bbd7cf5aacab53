-- What may follow an event line's word, and what is wrong with an event line.
use Rattle.std.specs.Prelude.{ℕ, Bool, not, List, [], ◌∷◌, ◌++◌, codes, Option, Some, None, if◌then◌else◌}
use Rattle.quorum_rules.specs.Limits.{Numbers}
use Rattle.quorum_rules.specs.declared.Edition.{Edition}
use Rattle.quorum_rules.specs.declared.Edition.TheVariants.{One, Two, Three, Four}
use Rattle.text_lines.specs.Lines.{fields_of}
use Rattle.line_forms.specs.Tables.{first_of}
use Rattle.line_forms.specs.Texts.{is_empty}
use Rattle.line_forms.specs.Kinds.{Kind, client, node, block, any_u64, some_field, is_other_word, form_cause}
use Rattle.line_forms.specs.Kinds.Kind.{word, value, bytes}
use Rattle.line_forms.specs.declared.cause.Cause.{Cause}
use Rattle.line_forms.specs.declared.cause.Cause.TheVariants.{UnknownWord, WrongCount, BadMessage}
use Rattle.event_lines.specs.Messages.{Part, ask_forms, answer_forms, are_of}
use Rattle.event_lines.specs.Words.{Form, Speech, LineWord, word_of}
use Rattle.event_lines.specs.declared.word.Form.TheVariants.{Write, Read, Resend, Call, Give, Hear, Lost, Crash, False, Sound, Mix, Prune, Back, Restart, Put, Get, Next}
use Rattle.event_lines.specs.declared.word.Speech.TheVariants.{Lie, Tell, Poke}
use Rattle.event_lines.specs.declared.word.LineWord.TheVariants.{Form as Fields, Speech as Message}

-- ---- what may follow a word

-- how a lying node may answer
abbrev pub rule : Kind
rule = word (codes "old" ∷ codes "top" ∷ codes "bad" ∷ [])

-- a form that edition 1 hasn't
abbrev pub since_two : Edition → List Kind → List (List Kind)
since_two One form = []
since_two Two form = form ∷ []
since_two Three form = form ∷ []
since_two Four form = form ∷ []

-- the fields: those of one of these forms, which their fixed words tell apart
abbrev pub forms_of : Numbers → Form → List (List Kind)
forms_of c Write = (client ∷ block c.blocks ∷ value c.size ∷ []) ∷ []
forms_of c Read = (client ∷ block c.blocks ∷ []) ∷ []
forms_of c Resend = (client ∷ []) ∷ []
forms_of c Call = (client ∷ node c.n ∷ []) ∷ []
forms_of c Give = (node c.n ∷ any_u64 ∷ []) ∷ []
forms_of c Hear = (client ∷ any_u64 ∷ []) ∷ []
forms_of c Lost = (client ∷ node c.n ∷ []) ∷ []
forms_of c Crash = (word (codes "node" ∷ []) ∷ node c.n ∷ []) ∷ (word (codes "client" ∷ []) ∷ client ∷ []) ∷ []
forms_of c False = (client ∷ node c.n ∷ rule ∷ []) ∷ []
forms_of c Sound = (client ∷ node c.n ∷ block c.blocks ∷ any_u64 ∷ value c.size ∷ []) ∷ []
forms_of c Mix = (client ∷ node c.n ∷ block c.blocks ∷ any_u64 ∷ value c.size ∷ value c.size ∷ []) ∷ []
forms_of c Prune = (node c.n ∷ block c.blocks ∷ []) ∷ []
forms_of c Back = since_two c.edition (word (codes "client" ∷ []) ∷ client ∷ [])
forms_of c Restart = since_two c.edition (word (codes "node" ∷ []) ∷ node c.n ∷ [])
forms_of c Put = (client ∷ any_u64 ∷ bytes ∷ []) ∷ []
forms_of c Get = (client ∷ any_u64 ∷ any_u64 ∷ []) ∷ []
forms_of c Next = (client ∷ []) ∷ []

-- the message: one of these forms
abbrev pub messages_of : Speech → List (List Part)
messages_of Lie = ask_forms ++ answer_forms
messages_of Tell = answer_forms
messages_of Poke = ask_forms

-- ---- what is wrong with an event line

-- each field that is there and should be a fixed word is one
abbrev pub has_its_words : List (List ℕ) → List Kind → Bool
has_its_words fields form = not (some_field is_other_word form fields)

-- what is wrong with fields by the first of the forms whose words they have
abbrev pub fields_cause : List (List Kind) → List (List ℕ) → Option Cause
fields_cause [] fields = Some UnknownWord
fields_cause (form ∷ forms) fields = if has_its_words fields form then form_cause form fields else fields_cause forms fields

-- what is wrong with the fields of a message's text, any of which may be empty
abbrev pub message_cause : List (List Part) → List (List ℕ) → Option Cause
message_cause forms fields = first_of ((is_empty fields, WrongCount) ∷ (not (are_of forms fields), BadMessage) ∷ [])

-- what is wrong with the fields after a word
abbrev pub rest_cause : Numbers → Option LineWord → List (List ℕ) → Option Cause
rest_cause c None fields = Some UnknownWord
rest_cause c (Some (Fields form)) fields = fields_cause (forms_of c form) fields
rest_cause c (Some (Message speech)) fields = message_cause (messages_of speech) fields

-- what is wrong with a line of these fields
abbrev pub line_cause : Numbers → List (List ℕ) → Option Cause
line_cause c [] = Some UnknownWord
line_cause c (first ∷ rest) = rest_cause c (word_of first) rest

-- what is wrong with an event line
unfoldable pub event_cause : Numbers → List ℕ → Option Cause
event_cause c line = line_cause c (fields_of line)
