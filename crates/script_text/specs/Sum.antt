-- The input of `sum`: the head lines of a script, and then one line with a value.
use Rattle.std.specs.Prelude.{ℕ, ◌≡◌, Bool, true, false, List, [], ◌∷◌, ◌++◌, length, codes, Option, Some}
use Rattle.quorum_rules.specs.Limits.{Numbers, IsValid, IsOfScripts}
use Rattle.text_lines.specs.Lines.{fields_of, line_of_fields, text_of_lines}
use Rattle.text_lines.specs.Fields.{value_text, IsBytes}
use Rattle.line_forms.specs.Kinds.{Kind, form_cause}
use Rattle.line_forms.specs.Kinds.Kind.{word, value}
use Rattle.line_forms.specs.Texts.{Grammar}
use Rattle.line_forms.specs.Heads.{Body, script, head_lines}
use Rattle.line_forms.specs.declared.cause.Cause.{Cause}
use Rattle.line_forms.specs.declared.cause.Cause.TheVariants.{UnknownWord}

-- ---- what it is

abbrev pub value_fields : List ℕ → List (List ℕ)
value_fields v = codes "value" ∷ value_text v ∷ []

abbrev pub sum_lines : Numbers → List ℕ → List (List ℕ)
sum_lines c v = head_lines c ++ line_of_fields (value_fields v) ∷ []

-- the text of a configuration and a value
abbrev pub sum_text : Numbers → List ℕ → List ℕ
sum_text c v = text_of_lines (sum_lines c v)

-- a valid configuration that a script can describe, and a value of the length of its blocks
pub record IsSum (c : Numbers) (v : List ℕ) : Type 0 where
  pub valid : IsValid c
  pub of_scripts : IsOfScripts c
  pub size : length v ≡ c.size
  pub bytes : IsBytes v

-- ---- what is wrong with a text

-- `value` and a value of the length of a block
abbrev pub value_form : ℕ → List Kind
value_form size = word (codes "value" ∷ []) ∷ value size ∷ []

-- one value line, and no further line
abbrev pub sum_cause : Numbers → List (List ℕ) → List ℕ → Option Cause
sum_cause c [] line = form_cause (value_form c.size) (fields_of line)
sum_cause c (first ∷ more) line = Some UnknownWord

abbrev pub sum_may_end : Numbers → List (List ℕ) → Bool
sum_may_end c [] = false
sum_may_end c (first ∷ more) = true

abbrev pub sum_body : Body
sum_body = record { cause = sum_cause; may_end = sum_may_end }

-- the texts that `sum` reads
abbrev pub sum_script : Grammar
sum_script = script sum_body
