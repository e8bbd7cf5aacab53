-- The two head lines of a script.
use Rattle.std.specs.Prelude.{ℕ, ◌≡◌, ◌^◌, Bool, false, List, [], ◌∷◌, map, drop, slice_index, codes, decimal, unwrap_or, is_none, option_map, Option, Some, None, if◌then◌else◌}
use Rattle.std.specs.Str.{bytes_eq}
use Rattle.quorum_rules.specs.Limits.{Numbers, IsValid}
use Rattle.quorum_rules.specs.Faults.{fault, numbers}
use Rattle.quorum_rules.specs.declared.Edition.{Edition}
use Rattle.quorum_rules.specs.declared.Edition.TheVariants.{One, Two, Three, Four}
use Rattle.text_lines.specs.Lines.{fields_of, line_of_fields, text_of_lines}
use Rattle.text_lines.specs.Fields.{number_of}
use Rattle.line_forms.specs.Tables.{or_then}
use Rattle.line_forms.specs.Kinds.{Kind, any_u32, form_cause}
use Rattle.line_forms.specs.Kinds.Kind.{word}
use Rattle.line_forms.specs.Texts.{Grammar}
use Rattle.line_forms.specs.declared.cause.Cause.{Cause}
use Rattle.line_forms.specs.declared.cause.Cause.TheVariants.{BadHeader, Config}

-- ---- what they are

-- the first line of a script of this edition; no script begins with those of the third and the fourth
abbrev pub header : Edition → List ℕ
header One = codes "pasis 1"
header Two = codes "pasis 2"
header Three = codes "pasis 3"
header Four = codes "pasis 4"

abbrev pub cluster_fields : Numbers → List (List ℕ)
cluster_fields c = codes "cluster" ∷ decimal c.n ∷ decimal c.t ∷ decimal c.b ∷ decimal c.qc ∷ decimal c.m ∷ decimal c.size ∷ decimal c.blocks ∷ []

-- a valid configuration of this edition whose cluster line has these fields
abbrev pub IsSpelled : Edition → List (List ℕ) → Numbers → Type 0
IsSpelled edition fields c = (c.edition ≡ edition) × (cluster_fields c ≡ fields) × IsValid c

-- the head lines of a script for a cluster of these numbers
abbrev pub head_lines : Numbers → List (List ℕ)
head_lines c = header c.edition ∷ line_of_fields (cluster_fields c) ∷ []

abbrev pub head_text : Numbers → List ℕ
head_text c = text_of_lines (head_lines c)

-- ---- what is wrong with them

-- the edition that a first line names
abbrev pub edition_in : List ℕ → Option Edition
edition_in first =
    if bytes_eq first (header One) then Some One
    else (if bytes_eq first (header Two) then Some Two
    else None)

-- the edition that a first line names, or One
abbrev pub edition_of : List ℕ → Edition
edition_of first = unwrap_or (edition_in first) One

-- `cluster` and seven numbers
abbrev pub cluster_form : List Kind
cluster_form = word (codes "cluster" ∷ []) ∷ any_u32 ∷ any_u32 ∷ any_u32 ∷ any_u32 ∷ any_u32 ∷ any_u32 ∷ any_u32 ∷ []

-- the number that a field spells, or 0
abbrev pub u32_of : List ℕ → ℕ
u32_of field = unwrap_or (number_of (2 ^ 32) field) 0

abbrev pub is_no_u32 : List ℕ → Bool
is_no_u32 field = is_none (number_of (2 ^ 32) field)

-- these numbers in the order of a cluster line
abbrev pub numbers_at : Edition → List ℕ → Numbers
numbers_at edition xs = numbers edition (slice_index xs 0) (slice_index xs 1) (slice_index xs 2) (slice_index xs 3) (slice_index xs 4) (slice_index xs 5) (slice_index xs 6)

-- the numbers that a cluster line's fields spell after the word
abbrev pub numbers_in : Edition → List (List ℕ) → Numbers
numbers_in edition fields = numbers_at edition (map u32_of (drop 1 fields))

abbrev pub config_cause : Numbers → Option Cause
config_cause c = option_map Config (fault c)

abbrev pub cluster_cause : Edition → List (List ℕ) → Option Cause
cluster_cause edition fields = or_then (form_cause cluster_form fields) (config_cause (numbers_in edition fields))

-- ---- scripts

-- what may follow the head lines, by the numbers of the cluster
pub record Body : Type 0 where
  -- what is wrong with a line that stands after these lines of the body
  pub cause : Numbers → List (List ℕ) → List ℕ → Option Cause
  -- whether the script may end after these lines of the body
  pub may_end : Numbers → List (List ℕ) → Bool

abbrev pub script_cause : Body → List (List ℕ) → List ℕ → Option Cause
script_cause body [] line = if is_none (edition_in line) then Some BadHeader else None
script_cause body (first ∷ []) line = cluster_cause (edition_of first) (fields_of line)
script_cause body (first ∷ cluster ∷ before) line = body.cause (numbers_in (edition_of first) (fields_of cluster)) before line

abbrev pub script_may_end : Body → List (List ℕ) → Bool
script_may_end body [] = false
script_may_end body (first ∷ []) = false
script_may_end body (first ∷ cluster ∷ before) = body.may_end (numbers_in (edition_of first) (fields_of cluster)) before

-- the texts that have the head lines and then such a body
abbrev pub script : Body → Grammar
script body = record { cause = script_cause body; may_end = script_may_end body }
