-- Words are of one form.
use Rattle.std.proofs.Common.{◌≡◌, ℕ, ◌+◌, ◌^◌, List, [], ◌∷◌, Option, Some, None, ap, sym, ◌∙◌, refl, lit≤}
use Rattle.std.specs.Prelude.{◌==◌, decimal, if◌then◌else◌, option_map}
use Rattle.text_lines.specs.Fields.{number_of}
use Rattle.text_lines.proofs.lemmas.Numbers.{number_of-text}
use Rattle.quorum_rules.specs.Limits.{Numbers}
use Rattle.command_texts.specs.Words.{words_of, nbd_words, IsCommand, AreOfForm}
use Rattle.command_texts.specs.declared.words.Serving.{Serving}
use Rattle.command_texts.specs.declared.words.Serving.TheVariants.{ByLocks, ByWorkers}
use Rattle.command_texts.specs.declared.words.Command.{Command}
use Rattle.command_texts.specs.declared.words.Command.TheVariants.{Replay, Run, Trace, Check, Sum, Soak}
use Rattle.command_texts.specs.declared.words.Form.{Form}
use Rattle.command_texts.specs.declared.words.Form.TheVariants.{Text, Session}
use Rattle.command_texts.proofs.NbdForms.{one_nbd}

-- ---- commands

-- what words say behind the first
abbrev serving_in : List (List ℕ) → Serving
serving_in [] = ByLocks
serving_in (word ∷ words) = ByWorkers

abbrev load_in : List (List ℕ) → Option Command
load_in [] = None
load_in (word ∷ words) = option_map Soak (number_of (2 ^ 64) word)

-- the command of words, of which the sum of the first two letters tells the first
abbrev named_so : ℕ → List (List ℕ) → Option Command
named_so letters words =
    if letters == 215 then Some Replay
    else (if letters == 231 then Some (Run (serving_in words))
    else (if letters == 230 then Some (Trace (serving_in words))
    else (if letters == 203 then Some Check
    else (if letters == 232 then Some Sum
    else load_in words))))

abbrev command_in : List (List ℕ) → Option Command
command_in ((a ∷ b ∷ letters) ∷ words) = named_so (a + b) words
command_in _ = None

told : (command : Command) → IsCommand command → command_in (words_of command) ≡ Some command
told Replay fits = refl
told (Run ByLocks) fits = refl
told (Run ByWorkers) fits = refl
told (Trace ByLocks) fits = refl
told (Trace ByWorkers) fits = refl
told Check fits = refl
told Sum fits = refl
told (Soak number) fits = ap (option_map Soak) (number_of-text (2 ^ 64) (decimal number) number refl (lit≤ tt) fits)

one_command : (a b : Command) → IsCommand a → IsCommand b → words_of a ≡ words_of b → a ≡ b
one_command a b fits_a fits_b same =
    let both : Some a ≡ Some b = sym (told a fits_a) ∙ ap command_in same ∙ told b fits_b in
    cc

-- ---- forms

-- no command has so many words as `nbd`
more_words : (command : Command) (c : Numbers) → words_of command ≡ nbd_words c → ⊥
more_words Replay c e = absurd cc
more_words (Run ByLocks) c e = absurd cc
more_words (Run ByWorkers) c e = absurd cc
more_words (Trace ByLocks) c e = absurd cc
more_words (Trace ByWorkers) c e = absurd cc
more_words Check c e = absurd cc
more_words Sum c e = absurd cc
more_words (Soak n) c e = absurd cc

pub one_form : (words : List (List ℕ)) (f g : Form) → AreOfForm words f → AreOfForm words g → f ≡ g
one_form words (Text a) (Text b) p q = ap (λ (k : Command). Text k) (one_command a b p.0 q.0 (sym p.1 ∙ q.1))
one_form words (Session c) (Session d) p q = ap (λ (k : Numbers). Session k) (one_nbd words c d p q)
one_form words (Text a) (Session d) p q = absurd (more_words a d (sym p.1 ∙ q.spelled))
one_form words (Session c) (Text b) p q = absurd (more_words b c (sym q.1 ∙ p.spelled))
