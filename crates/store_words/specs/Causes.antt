-- Why words are refused: the first cause that holds.
use Rattle.std.specs.Prelude.{ℕ, ◌==◌, ◌||◌, ◌^◌, Bool, true, false, nat_lt, if◌then◌else◌, List, [], ◌∷◌, length, codes, Option, is_some, unwrap_or, slice_index_or}
use Rattle.std.specs.declared.option.Option.TheVariants.{None, Some}
use Rattle.std.specs.List.{list_all}
use Rattle.std.specs.Str.{bytes_eq}
use Rattle.quorum_rules.specs.declared.Edition.TheVariants.{Four}
use Rattle.quorum_rules.specs.declared.ConfigFault.{ConfigFault}
use Rattle.quorum_rules.specs.Limits.{Numbers}
use Rattle.quorum_rules.specs.Faults.{numbers, fault}
use Rattle.text_lines.specs.Fields.{number_of}
use Rattle.store_words.specs.declared.refusal.BadWords.{BadWords}
use Rattle.store_words.specs.declared.refusal.BadWords.TheVariants.{NoCommand, WrongCount, BadNumber, BadCluster, NoNode, NoPlace}

-- the word spells a number below 2^32
abbrev pub is_number : List ℕ → Bool
is_number word = is_some (number_of (2 ^ 32) word)

-- the number that it spells, or 0
abbrev pub value_of : List ℕ → ℕ
value_of word = unwrap_or (number_of (2 ^ 32) word) 0

-- the count of words is right, or wrong
abbrev pub counted : Bool → Option BadWords
counted true = None
counted false = Some WrongCount

-- what is wrong with a cluster's numbers, and else with the count of its directories
abbrev pub cluster_cause : Option ConfigFault → Bool → Option BadWords
cluster_cause (Some fault) is_each = Some (BadCluster fault)
cluster_cause None is_each = counted is_each

-- the numbers that seven words spell
abbrev pub cluster_of : (n t b qc m size blocks : List ℕ) → Numbers
cluster_of n t b qc m size blocks =
    numbers Four (value_of n) (value_of t) (value_of b) (value_of qc) (value_of m) (value_of size) (value_of blocks)

-- what is wrong with seven words of numbers, and else with the count of directories
abbrev pub numbers_cause : (n t b qc m size blocks : List ℕ) → Bool → Option BadWords
numbers_cause n t b qc m size blocks is_each =
    if list_all is_number (n ∷ t ∷ b ∷ qc ∷ m ∷ size ∷ blocks ∷ []) then cluster_cause (fault (cluster_of n t b qc m size blocks)) is_each
    else Some BadNumber

-- what is wrong with the words behind `create`
abbrev pub create_cause : List (List ℕ) → Option BadWords
create_cause (n ∷ t ∷ b ∷ qc ∷ m ∷ size ∷ blocks ∷ folders) = numbers_cause n t b qc m size blocks (length folders == value_of n)
create_cause _ = Some WrongCount

-- what is wrong with the word in the place of the directory of `renew`
abbrev pub place_cause : List ℕ → Option BadWords
place_cause folder = if bytes_eq folder (codes "-") then Some NoPlace else None

-- what is wrong with the directories behind the number of `renew`
abbrev pub node_cause : ℕ → List (List ℕ) → Option BadWords
node_cause node folders = if nat_lt node (length folders) then place_cause (slice_index_or folders node []) else Some NoNode

-- what is wrong with the words behind `renew`
abbrev pub renew_cause : List (List ℕ) → Option BadWords
renew_cause (node ∷ folders) = if is_number node then node_cause (value_of node) folders else Some BadNumber
renew_cause _ = Some WrongCount

-- what is wrong with words
abbrev pub cause : List (List ℕ) → Option BadWords
cause (word ∷ rest) =
    if bytes_eq word (codes "--help") || bytes_eq word (codes "--version") then counted (length rest == 0)
    else (if bytes_eq word (codes "serve") || bytes_eq word (codes "status") || bytes_eq word (codes "scrub") then counted (nat_lt 0 (length rest))
    else (if bytes_eq word (codes "create") then create_cause rest
    else (if bytes_eq word (codes "renew") then renew_cause rest
    else Some NoCommand)))
cause _ = Some WrongCount
