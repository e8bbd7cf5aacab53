-- The text that says whose a directory is.
use Rattle.std.specs.Prelude.{◌≡◌, ◌<◌, ⊤, ℕ, Bool, true, false, List, [], ◌∷◌, codes, decimal, length}
use Rattle.quorum_rules.specs.Limits.{Numbers, IsValid}
use Rattle.quorum_rules.specs.declared.Edition.{Edition}
use Rattle.quorum_rules.specs.declared.Edition.TheVariants.{One, Two, Three, Four}
use Rattle.text_lines.specs.Lines.{line_of_fields, text_of_lines}
use Rattle.text_lines.specs.Fields.{value_text, IsBytes}
use Rattle.line_forms.specs.Heads.{cluster_fields}
use Rattle.cluster_file.specs.declared.membership.Membership.{Membership}
use Rattle.cluster_file.specs.declared.membership.MembershipRefusal.{MembershipRefusal}
use Rattle.cluster_file.specs.declared.membership.MembershipRefusal.TheVariants.{NoMemory, BadLine}

-- stores are of the edition
abbrev pub is_of_stores : Edition → Bool
is_of_stores One = false
is_of_stores Two = false
is_of_stores Three = true
is_of_stores Four = true

-- the first line, which says the edition of the cluster's numbers: 4, or 1 for the third
abbrev pub header : Edition → List ℕ
header Four = codes "pasis_store 4"
header _ = codes "pasis_store 1"

-- the second: the cluster's numbers
abbrev pub cluster_line : Numbers → List ℕ
cluster_line c = line_of_fields (cluster_fields c)

-- the third: the node's own number
abbrev pub node_line : ℕ → List ℕ
node_line node = line_of_fields (codes "node" ∷ decimal node ∷ [])

-- the fourth: what the directories of one store have in common
abbrev pub id_line : List ℕ → List ℕ
id_line id = line_of_fields (codes "id" ∷ value_text id ∷ [])

-- the lines of a membership
abbrev pub lines_of : Membership → List (List ℕ)
lines_of m = header m.config.edition ∷ cluster_line m.config ∷ node_line m.node ∷ id_line m.id ∷ []

-- its text
abbrev pub text_of : Membership → List ℕ
text_of m = text_of_lines (lines_of m)

-- a valid configuration of this edition
pub record IsConfig (named : Edition) (c : Numbers) : Type 0 where
  pub edition : c.edition ≡ named
  pub valid : IsValid c

-- sixteen bytes
pub record IsId (id : List ℕ) : Type 0 where
  pub length : length id ≡ 16
  pub bytes : IsBytes id

-- the numbers are a cluster's of an edition of stores, the node is one of it, and the id is one
pub record IsMembership (m : Membership) : Type 0 where
  pub edition : is_of_stores m.config.edition ≡ true
  pub valid : IsValid m.config
  pub node : m.node < m.config.n
  pub id : IsId m.id

-- what is said where a line is wrong
abbrev pub IfBadLine : (ℕ → Type 0) → MembershipRefusal → Type 0
IfBadLine P NoMemory = ⊤
IfBadLine P (BadLine line) = P line
