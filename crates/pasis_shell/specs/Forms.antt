-- What a call of the program does, by the form that its words are of.
use Rattle.std.specs.Prelude.{ℕ, ◌≡◌, ◌↔◌, List}
use Rattle.outside_io.specs.declared.source.Source.{Ghosts as SeenSource}
use Rattle.outside_io.specs.declared.sink.Sink.{Ghosts as SeenSink}
use Rattle.command_texts.specs.Words.{AreOfForm, AreOfNoForm}
use Rattle.command_texts.specs.declared.words.Form.{Form}
use Rattle.command_texts.specs.declared.words.Form.TheVariants.{Text, Session}
use Rattle.command_texts.specs.declared.status.Status.{Status}
use Rattle.command_texts.specs.declared.status.Status.TheVariants.{BadWords}
use Rattle.pasis_shell.specs.Calls.{Call, TellsFaults}
use Rattle.pasis_shell.specs.Texts.{DoesText}
use Rattle.pasis_shell.specs.Sessions.{Serves}

module _ {S K : Type 0} {seen_source : SeenSource S} {seen_sink : SeenSink K} where
  -- what was read and written for words of this form
  abbrev pub Does : Form → Status → Call seen_source seen_sink → Type 0
  Does (Text command) status call = DoesText command status call
  Does (Session c) status call = Serves c status call

  -- what a call with these words did, which ended with this status
  pub record HasCalled (words : List (List ℕ)) (status : Status) (call : Call seen_source seen_sink) : Type 0 where
    -- words of no form: nothing was read or written
    pub bad_words : (status ≡ BadWords) ↔ AreOfNoForm words
    pub unread : status ≡ BadWords → call.source_after ≡ call.source
    pub unwritten : status ≡ BadWords → call.sink_after ≡ call.sink
    -- words of a form
    pub does : (form : Form) → AreOfForm words form → Does form status call
    -- all words
    pub faults : TellsFaults status call
