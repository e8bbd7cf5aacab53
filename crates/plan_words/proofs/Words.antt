-- The word that a line begins with.
use Rattle.std.proofs.Common.{◌≡◌, ℕ, List, ◌∷◌, Option, Some, Result, sym, ap, ◌∙◌}
use Rattle.quorum_rules.specs.Limits.{Numbers}
use Rattle.line_forms.specs.Tables.{Gives}
use Rattle.line_forms.specs.declared.refusal.LineRefusal.{LineRefusal}
use Rattle.line_forms.proofs.lemmas.Tables.{gives_same}
use Rattle.line_forms.proofs.lemmas.Words.{find-spelled}
use Rattle.event_lines.specs.Forms.{fields_cause}
use Rattle.plan_words.specs.declared.line.PlanLine.{PlanLine}
use Rattle.plan_words.specs.Forms.{PlanWord, word_text, words, word_of, forms_of, rest_cause, line_cause}
use Rattle.plan_words.specs.Lines.{IsSpelled}

-- a line that was read from its word and the fields behind it
pub word_cause : (c : Numbers) (first : List ℕ) (rest : List (List ℕ)) (word : PlanWord) (r : Result PlanLine LineRefusal) → word_of first ≡ Some word
    → Gives (IsSpelled c (word_text word ∷ rest)) (fields_cause (forms_of c rest word) rest) r → Gives (IsSpelled c (first ∷ rest)) (line_cause c (first ∷ rest)) r
word_cause c first rest word r is h =
    gives_same (IsSpelled c (word_text word ∷ rest)) (IsSpelled c (first ∷ rest)) _ _ r
    (λ l s. (s.0, s.1 ∙ ap (λ (f : List ℕ). f ∷ rest) (sym (find-spelled word_text first words word is)))) (ap (λ (o : Option PlanWord). rest_cause c o rest) is) h
