-- What stands behind an event line's word.
use Rattle.std.specs.Prelude.{ℕ, List, [], Option, Some, None}
use Rattle.std.specs.Borrow.{Bor}
use Rattle.text_lines.specs.Lines.{fields_of}
use Rattle.event_lines.specs.Words.{Form}
use Rattle.event_lines.specs.declared.word.Form.TheVariants.{Write, Read, Resend, Call, Give, Hear, Lost, Crash, False, Sound, Mix, Prune, Back, Restart, Put, Get, Next}

-- the fields of what follows the first space; none where there is no space
abbrev pub fields_after : Option (Bor (List ℕ)) → List (List ℕ)
fields_after None = []
fields_after (Some rest) = fields_of rest.now

-- how many fields each form of a line has behind its word
abbrev pub field_count : Form → ℕ
field_count Write = 3
field_count Read = 2
field_count Resend = 1
field_count Call = 2
field_count Give = 2
field_count Hear = 2
field_count Lost = 2
field_count Crash = 2
field_count False = 3
field_count Sound = 5
field_count Mix = 6
field_count Prune = 2
field_count Back = 2
field_count Restart = 2
field_count Put = 3
field_count Get = 3
field_count Next = 1
