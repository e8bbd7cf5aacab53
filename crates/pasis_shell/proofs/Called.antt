-- What a call did, by the form of its words.
use Rattle.std.proofs.Common.{◌≡◌, List, ℕ, refl, sym, subst, ◌∙◌}
use Rattle.outside_io.specs.declared.source.Source.{Ghosts as SeenSource}
use Rattle.outside_io.specs.declared.sink.Sink.{Ghosts as SeenSink}
use Rattle.command_texts.specs.Words.{AreOfForm, AreOfNoForm, AskForThreads}
use Rattle.command_texts.specs.declared.words.Form.{Form}
use Rattle.command_texts.specs.declared.words.Form.TheVariants.{Text, Session}
use Rattle.command_texts.specs.declared.status.Status.{Status}
use Rattle.command_texts.specs.declared.status.Status.TheVariants.{BadWords}
use Rattle.command_texts.proofs.lemmas.Forms.{one_form}
use Rattle.pasis_shell.specs.Calls.{Call, TellsFaults}
use Rattle.pasis_shell.specs.Texts.{Ends}
use Rattle.pasis_shell.specs.Forms.{Does, HasCalled}
use Rattle.pasis_shell.proofs.Sessions.{never_bad}

-- words that ask for threads are of a form
pub asked : (words : List (List ℕ)) → AskForThreads words → AreOfNoForm words → ⊥
asked words ask none = none (Text ask.0) ask.1

module _ {S K : Type 0} {seen_source : SeenSource S} {seen_sink : SeenSink K} (words : List (List ℕ)) (call : Call seen_source seen_sink) where
  -- words of a form have no bad words
  not_bad : (form : Form) (status : Status) → Does form status call → status ≡ BadWords → ⊥
  not_bad (Text command) status does e = subst (λ (s : Status). Ends command s call) e does.ends
  not_bad (Session c) status does e = never_bad does.end (sym does.told ∙ e)

  -- words of this form
  pub called : (status : Status) (form : Form) → AreOfForm words form → Does form status call → TellsFaults status call → HasCalled words status call
  called status form of does faults = record {
    bad_words = (λ e. absurd (not_bad form status does e), λ none. absurd (none form of));
    unread = λ e. absurd (not_bad form status does e);
    unwritten = λ e. absurd (not_bad form status does e);
    does = λ other own. subst (λ (f : Form). Does f status call) (one_form words form other of own) does;
    faults = faults;
  }

  -- words of no form
  pub called_badly : AreOfNoForm words → call.source_after ≡ call.source → call.sink_after ≡ call.sink → HasCalled words BadWords call
  called_badly none unread unwritten = record {
    bad_words = (λ e. none, λ no. refl);
    unread = λ e. unread;
    unwritten = λ e. unwritten;
    does = λ form of. absurd (none form of);
    faults = record { read_fault = λ e. absurd cc; write_fault = λ e. absurd cc; calm_source = λ e. rw unread refl; calm_sink = λ e. rw unwritten refl };
  }
