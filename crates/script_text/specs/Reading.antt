-- How far a replay script was read.
use Rattle.std.specs.Prelude.{ℕ, ◌≡◌, ◌+◌, ◌≤◌, Bool, true, false, ◌&&◌, nat_le, List, [], ◌∷◌, length, drop, count_by, Option, Some, if◌then◌else◌}
use Rattle.std.specs.List.{AllByRecursion, IsDistinct}
use Rattle.quorum_rules.specs.Limits.{Numbers, IsValid, IsOfScripts}
use Rattle.text_lines.specs.Lines.{parts_of}
use Rattle.wire_forms.specs.Liars.{Liars, IsAscending, has_number}
use Rattle.line_forms.specs.Tables.{first_of}
use Rattle.line_forms.specs.Texts.{ReadsTo}
use Rattle.line_forms.specs.declared.cause.Cause.{Cause}
use Rattle.line_forms.specs.declared.cause.Cause.TheVariants.{UnknownWord, Twice, TooManyLiars}
use Rattle.event_lines.specs.Lines.{IsEventLine}
use Rattle.event_lines.specs.declared.line.ReplayLine.{ReplayLine}
use Rattle.script_text.specs.declared.liars.Declared.{Declared}
use Rattle.script_text.specs.declared.liars.Declared.TheVariants.{Node, Client}
use Rattle.script_text.specs.declared.liars.Front.{Front}
use Rattle.script_text.specs.Replays.{IsDeclarable, is_same, liars_of, event_cause_after, is_liar_line, replay_lines, replay_script, event_limit}

abbrev pub is_node : Declared → Bool
is_node (Node n) = true
is_node (Client k) = false

-- the liars have what is declared
abbrev pub has_declared : Liars → Declared → Bool
has_declared liars (Node n) = has_number liars.nodes n
has_declared liars (Client k) = has_number liars.clients k

-- what is wrong with declaring this beside these liars
abbrev pub again_cause : Numbers → Liars → Declared → Option Cause
again_cause c liars d = first_of ((has_declared liars d, Twice) ∷ (is_node d && nat_le c.b (length liars.nodes), TooManyLiars) ∷ [])

abbrev pub AreAscending : Liars → Type 0
AreAscending liars = IsAscending liars.nodes × IsAscending liars.clients

-- these are declared in a script, each once, and the liars are they
pub record AreDeclared (c : Numbers) (declared : List Declared) (liars : Liars) : Type 0 where
  pub valid : IsValid c
  pub of_scripts : IsOfScripts c
  pub declarable : AllByRecursion (IsDeclarable c) declared
  pub once : IsDistinct is_same declared
  pub all : liars_of declared ≡ liars
  pub counted : count_by is_node declared ≡ length liars.nodes
  pub few : length liars.nodes ≤ c.b

-- liar lines were read, this is left, and its first line has this number
pub record LiarsRead (text : List ℕ) (c : Numbers) (liars : Liars) (rest : List ℕ) (number : ℕ) : Type 0 where
  pub declared : List Declared
  pub are : AreDeclared c declared liars
  pub ascending : AreAscending liars
  pub reads : ReadsTo replay_script text (replay_lines c declared []) rest
  pub number_is : number ≡ length declared + 3
  pub room : number + length rest ≤ length text + 3

-- all liar lines were read
pub record FrontRead (text : List ℕ) (front : Front) : Type 0 where
  pub within : front.at ≤ length text
  pub liars : LiarsRead text front.config front.liars (drop front.at text) front.number
  pub events : (line after : List ℕ) → parts_of (drop front.at text) ≡ line ∷ parts_of after → is_liar_line line ≡ false

-- what is wrong with a line after the liar lines and so many event lines
abbrev pub later_cause : Numbers → ℕ → List ℕ → Option Cause
later_cause c events line = if is_liar_line line then Some UnknownWord else event_cause_after c events line

-- event lines were read, this is left, and its first line has this number
pub record EventsRead (text : List ℕ) (c : Numbers) (liars : Liars) (lines : List ReplayLine) (rest : List ℕ) (number : ℕ) : Type 0 where
  pub declared : List Declared
  pub are : AreDeclared c declared liars
  pub ascending : AreAscending liars
  pub events : AllByRecursion (IsEventLine c) lines
  pub limited : length lines ≤ event_limit c
  pub reads : ReadsTo replay_script text (replay_lines c declared lines) rest
  pub events_begin : length lines ≡ 0 → (line after : List ℕ) → parts_of rest ≡ line ∷ parts_of after → is_liar_line line ≡ false
  pub number_is : number ≡ length declared + length lines + 3
  pub room : number + length rest ≤ length text + 3
