-- The words of the command line.
use Rattle.std.specs.Prelude.{ℕ, ◌≡◌, ◌<◌, ◌^◌, ⊤, List, [], ◌∷◌, map, codes, decimal, string_bytes}
use Rattle.std.specs.declared.string.String.{String}
use Rattle.std.specs.declared.alloc.Global.{Global}
use Rattle.quorum_rules.specs.declared.Edition.TheVariants.{One}
use Rattle.quorum_rules.specs.Limits.{Numbers, IsValid}
use Rattle.command_texts.specs.declared.words.Serving.{Serving}
use Rattle.command_texts.specs.declared.words.Serving.TheVariants.{ByLocks, ByWorkers}
use Rattle.command_texts.specs.declared.words.Command.{Command}
use Rattle.command_texts.specs.declared.words.Command.TheVariants.{Replay, Run, Trace, Check, Sum, Soak}
use Rattle.command_texts.specs.declared.words.Form.{Form}
use Rattle.command_texts.specs.declared.words.Form.TheVariants.{Text, Session}

-- the bytes of each word
abbrev pub texts : List (String Global) → List (List ℕ)
texts words = map string_bytes words

-- the words that say how nodes serve clients
abbrev pub serving_words : Serving → List (List ℕ)
serving_words ByLocks = []
serving_words ByWorkers = codes "workers" ∷ []

-- the words of a command
abbrev pub words_of : Command → List (List ℕ)
words_of Replay = codes "replay" ∷ []
words_of (Run serving) = codes "run" ∷ serving_words serving
words_of (Trace serving) = codes "trace" ∷ serving_words serving
words_of Check = codes "check" ∷ []
words_of Sum = codes "sum" ∷ []
words_of (Soak number) = codes "soak" ∷ decimal number ∷ []

-- the number of `soak` is a u64
abbrev pub IsCommand : Command → Type 0
IsCommand Replay = ⊤
IsCommand (Run serving) = ⊤
IsCommand (Trace serving) = ⊤
IsCommand Check = ⊤
IsCommand Sum = ⊤
IsCommand (Soak number) = number < 2 ^ 64

-- the command runs threads
abbrev pub RunsThreads : Command → Type 0
RunsThreads Replay = ⊥
RunsThreads (Run serving) = ⊤
RunsThreads (Trace serving) = ⊤
RunsThreads Check = ⊥
RunsThreads Sum = ⊥
RunsThreads (Soak number) = ⊤

-- the command runs the plan that its input spells
abbrev pub RunsInput : Command → Type 0
RunsInput Replay = ⊥
RunsInput (Run serving) = ⊤
RunsInput (Trace serving) = ⊤
RunsInput Check = ⊥
RunsInput Sum = ⊥
RunsInput (Soak number) = ⊥

-- the command runs the load of its number
abbrev pub RunsLoad : Command → Type 0
RunsLoad Replay = ⊥
RunsLoad (Run serving) = ⊥
RunsLoad (Trace serving) = ⊥
RunsLoad Check = ⊥
RunsLoad Sum = ⊥
RunsLoad (Soak number) = ⊤

-- one word is a command's
abbrev pub IsNamed : List ℕ → Type 0
IsNamed word = (command : Command) × (words_of command ≡ word ∷ [])

-- the words of `nbd`, with the numbers of a configuration
abbrev pub nbd_words : Numbers → List (List ℕ)
nbd_words c = codes "nbd" ∷ decimal c.n ∷ decimal c.t ∷ decimal c.b ∷ decimal c.qc ∷ decimal c.m ∷ decimal c.size ∷ decimal c.blocks ∷ []

-- the words are those of `nbd`, with the numbers of a valid configuration of edition 1
pub record IsNbd (words : List (List ℕ)) (c : Numbers) : Type 0 where
  pub edition : c.edition ≡ One
  pub valid : IsValid c
  pub spelled : words ≡ nbd_words c

-- ---- forms
-- the words are of this form
abbrev pub AreOfForm : List (List ℕ) → Form → Type 0
AreOfForm words (Text command) = IsCommand command × (words ≡ words_of command)
AreOfForm words (Session c) = IsNbd words c

-- they are of none
abbrev pub AreOfNoForm : List (List ℕ) → Type 0
AreOfNoForm words = (form : Form) → AreOfForm words form → ⊥

-- they are those of a command that writes a text
abbrev pub AreOfCommand : List (List ℕ) → Type 0
AreOfCommand words = (command : Command) × AreOfForm words (Text command)

-- they are those of `nbd` with some configuration
abbrev pub AreOfNbd : List (List ℕ) → Type 0
AreOfNbd words = (c : Numbers) × AreOfForm words (Session c)

-- they are those of a command that runs threads
abbrev pub AskForThreads : List (List ℕ) → Type 0
AskForThreads words = (command : Command) × AreOfForm words (Text command) × RunsThreads command
