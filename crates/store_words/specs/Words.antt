-- What words ask for: a command's own words, and the directories behind them.
use Rattle.std.specs.Prelude.{◌≡◌, ◌≢◌, ◌≤◌, ◌<◌, ◌^◌, ℕ, List, [], ◌∷◌, ◌++◌, length, map, codes, decimal, string_bytes, slice_index_or}
use Rattle.std.specs.declared.string.String.{String}
use Rattle.std.specs.declared.alloc.Global.{Global}
use Rattle.quorum_rules.specs.declared.Edition.TheVariants.{Four}
use Rattle.quorum_rules.specs.Limits.{Numbers, IsValid}
use Rattle.store_words.specs.declared.words.Command.{Command}
use Rattle.store_words.specs.declared.words.Command.TheVariants.{Help, Version, Create, Serve, Status, Scrub, Renew}

-- the bytes of each word
abbrev pub texts : List (String Global) → List (List ℕ)
texts words = map string_bytes words

-- the words of a cluster's numbers
abbrev pub number_words : Numbers → List (List ℕ)
number_words c = decimal c.n ∷ decimal c.t ∷ decimal c.b ∷ decimal c.qc ∷ decimal c.m ∷ decimal c.size ∷ decimal c.blocks ∷ []

-- a command's own words
abbrev pub words_of : Command → List (List ℕ)
words_of Help = codes "--help" ∷ []
words_of Version = codes "--version" ∷ []
words_of (Create c) = codes "create" ∷ number_words c
words_of Serve = codes "serve" ∷ []
words_of Status = codes "status" ∷ []
words_of Scrub = codes "scrub" ∷ []
words_of (Renew node) = codes "renew" ∷ decimal node ∷ []

-- a valid configuration of the fourth edition, with a directory for each node
pub record IsCreated (c : Numbers) (count : ℕ) : Type 0 where
  pub edition : c.edition ≡ Four
  pub valid : IsValid c
  pub each : count ≡ c.n

-- the node has a directory, which is named: `-` names none
pub record IsRenewed (node : ℕ) (folders : List (List ℕ)) : Type 0 where
  pub there : node < length folders
  pub fits : node < 2 ^ 32
  pub named : slice_index_or folders node [] ≢ codes "-"

-- the command is one of these directories
abbrev pub IsOf : Command → List (List ℕ) → Type 0
IsOf Help folders = length folders ≡ 0
IsOf Version folders = length folders ≡ 0
IsOf (Create c) folders = IsCreated c (length folders)
IsOf Serve folders = 1 ≤ length folders
IsOf Status folders = 1 ≤ length folders
IsOf Scrub folders = 1 ≤ length folders
IsOf (Renew node) folders = IsRenewed node folders

-- the words are those of the command, and behind them the directories
pub record Asks (words : List (List ℕ)) (command : Command) (folders : List (List ℕ)) : Type 0 where
  pub spelled : words ≡ words_of command ++ folders
  pub fits : IsOf command folders

-- the words behind `create` are a cluster's numbers and a directory for each node
pub record Creates (words : List (List ℕ)) (c : Numbers) (folders : List (List ℕ)) : Type 0 where
  pub spelled : words ≡ number_words c ++ folders
  pub count : IsCreated c (length folders)

-- the words behind `renew` are the number of a directory, and directories
pub record Renews (words : List (List ℕ)) (node : ℕ) (folders : List (List ℕ)) : Type 0 where
  pub spelled : words ≡ decimal node ∷ folders
  pub renewed : IsRenewed node folders
