-- The value line, and a text of `sum` from its first line to its last.
use Rattle.std.proofs.Common.{◌≡◌, ◌≢◌, ℕ, ◌-◌, ◌<◌, List, [], ◌∷◌, ◌++◌, length, take, drop, get_or, Some, None, refl, sym, ap, subst, ◌∙◌, arith}
use Rattle.std.specs.Prelude.{codes}
use Rattle.std.specs.Borrow.{Bor}
use Rattle.std.proofs.Math.Bool.{or-false}
use Rattle.quorum_rules.specs.Limits.{Numbers, IsValid, IsOfScripts}
use Rattle.text_lines.specs.Lines.{texts, parts_of, fields_of, line_of_fields}
use Rattle.text_lines.specs.Fields.{value_of, IsBytes}
use Rattle.text_lines.proofs.lemmas.Cuts.{rest_part}
use Rattle.text_lines.proofs.lemmas.Joined.{line_from_fields}
use Rattle.line_forms.specs.Kinds.{form_cause, has_other_length}
use Rattle.line_forms.specs.Tables.{first_of}
use Rattle.line_forms.specs.Texts.{ended, IsFault, IsFaultless, ReadsTo}
use Rattle.line_forms.specs.Heads.{header, head_lines, cluster_fields}
use Rattle.line_forms.specs.declared.cause.Cause.{Cause}
use Rattle.line_forms.specs.declared.cause.Cause.TheVariants.{BadValue, UnknownWord, MissingLine}
use Rattle.line_forms.proofs.lemmas.Accepted.{numbers_back}
use Rattle.line_forms.proofs.lemmas.Texts.{reads_on, line_fault, end_fault, end_causes-ended, cut_short, read_all, text_read}
use Rattle.script_text.specs.Sum.{IsSum, value_form, value_fields, sum_lines, sum_text, sum_script}
use Rattle.lists.proofs.lemmas.Tests.{not_zero}

-- what is wrong with `value` and a field that isn't empty
pub value_cause : (word field : List ℕ) (len : ℕ) → word ≡ codes "value" → 0 < length field → form_cause (value_form len) (word ∷ field ∷ []) ≡ first_of ((has_other_length len (value_of field), BadValue) ∷ [])
value_cause word field len is some = rw (is, not_zero (length field) some, or-false (has_other_length len (value_of field))) refl

-- the text of one slice
pub one_text : (fields : List (Bor (List ℕ))) (d : Bor (List ℕ)) → length fields ≡ 1 → texts fields ≡ (get_or fields 0 d).now ∷ []
one_text (f ∷ []) d e = refl
one_text _ d e = absurd (omega arith)

-- ---- after the head

-- the head was read, and this is left
pub record HeadRead (text : List ℕ) (c : Numbers) (at : ℕ) (rest : List ℕ) : Type 0 where
  pub valid : IsValid c
  pub of_scripts : IsOfScripts c
  pub reads : ReadsTo sum_script text (head_lines c) rest

pub head_at : (text : List ℕ) (c : Numbers) (at : ℕ) → IsValid c → IsOfScripts c → ReadsTo sum_script text (head_lines c) (drop at text) → HeadRead text c at (take (length text - at) (drop at text))
head_at text c at v known r = record { valid = v; of_scripts = known; reads = rw (rest_part text at) r }

value_here : (c : Numbers) (line : List ℕ) → IsValid c → IsOfScripts c → sum_script.cause (head_lines c) line ≡ form_cause (value_form c.size) (fields_of line)
value_here c line v known = ap (λ (k : Numbers). form_cause (value_form k.size) (fields_of line)) (numbers_back c v known)

-- there is no value line
pub no_value_line : (text : List ℕ) (c : Numbers) (at : ℕ) (rest : List ℕ) → HeadRead text c at rest → parts_of rest ≡ rest ∷ [] → IsFault sum_script text 3 (ended MissingLine rest)
no_value_line text c at rest h e =
    end_fault sum_script text (head_lines c) rest (ended MissingLine rest) h.reads e (end_causes-ended sum_script (header c.edition) (line_of_fields (cluster_fields c) ∷ []) rest refl)

-- the value line has a cause
pub value_fault : (text : List ℕ) (c : Numbers) (at : ℕ) (rest line after : List ℕ) (len : ℕ) (cause : Cause) → HeadRead text c at rest → parts_of rest ≡ line ∷ parts_of after → len ≡ c.size → form_cause (value_form len) (fields_of line) ≡ Some cause → IsFault sum_script text 3 cause
value_fault text c at rest line after len cause h e size wrong =
    let bad : form_cause (value_form c.size) (fields_of line) ≡ Some cause = ap (λ (n : ℕ). form_cause (value_form n) (fields_of line)) (sym size) ∙ wrong in
    line_fault sum_script text (head_lines c) line rest after cause h.reads e (value_here c line h.valid h.of_scripts ∙ bad)

-- the value line was read
pub record ValueRead (text : List ℕ) (c : Numbers) (v after : List ℕ) : Type 0 where
  pub is : IsSum c v
  pub reads : ReadsTo sum_script text (sum_lines c v) after

pub value_line_read : (text : List ℕ) (c : Numbers) (at : ℕ) (rest line after v : List ℕ) (len : ℕ) → HeadRead text c at rest → parts_of rest ≡ line ∷ parts_of after → len ≡ c.size
    → (form_cause (value_form len) (fields_of line) ≡ None) × ((value_fields v ≡ fields_of line) × (length v ≡ len) × IsBytes v) → ValueRead text c v after
value_line_read text c at rest line after v len h e size read =
    let none : form_cause (value_form c.size) (fields_of line) ≡ None = ap (λ (n : ℕ). form_cause (value_form n) (fields_of line)) (sym size) ∙ read.0 in
    let both = reads_on sum_script text (head_lines c) line rest after h.reads e (value_here c line h.valid h.of_scripts ∙ none) in
    let same : line ≡ line_of_fields (value_fields v) = line_from_fields line (value_fields v) (sym read.1.0) in
    record {
      is = record { valid = h.valid; of_scripts = h.of_scripts; size = read.1.1 ∙ size; bytes = read.1.2 };
      reads = subst (λ (l : List ℕ). ReadsTo sum_script text (head_lines c ++ l ∷ []) after) same both;
    }

pub sum_read : (text : List ℕ) (c : Numbers) (v rest : List ℕ) → ReadsTo sum_script text (sum_lines c v) rest → rest ≡ [] → text ≡ sum_text c v
sum_read text c v rest r none = text_read sum_script text (sum_lines c v) rest r none

pub sum_faultless : (text : List ℕ) (c : Numbers) (v rest : List ℕ) → ReadsTo sum_script text (sum_lines c v) rest → rest ≡ [] → IsFaultless sum_script text
sum_faultless text c v rest r none = read_all sum_script text (header c.edition) (line_of_fields (cluster_fields c) ∷ line_of_fields (value_fields v) ∷ []) rest r none refl

-- a further line is cut
pub further_cut : (text : List ℕ) (c : Numbers) (v rest : List ℕ) → ReadsTo sum_script text (sum_lines c v) rest → rest ≢ [] → parts_of rest ≡ rest ∷ [] → IsFault sum_script text 4 (ended MissingLine rest)
further_cut text c v rest r some e =
    end_fault sum_script text (sum_lines c v) rest (ended MissingLine rest) r e (cut_short sum_script (header c.edition) (line_of_fields (cluster_fields c) ∷ line_of_fields (value_fields v) ∷ []) rest MissingLine some)

-- there is a further line
pub further_line : (text : List ℕ) (c : Numbers) (v rest line after : List ℕ) → ReadsTo sum_script text (sum_lines c v) rest → parts_of rest ≡ line ∷ parts_of after → IsFault sum_script text 4 UnknownWord
further_line text c v rest line after r e = line_fault sum_script text (sum_lines c v) line rest after UnknownWord r e refl
