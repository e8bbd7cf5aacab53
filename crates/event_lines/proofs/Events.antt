-- An event line that was read from a line's word and what follows it.
use Rattle.std.proofs.Common.{◌≡◌, ℕ, List, ◌∷◌, Option, Some, Result, sym, ap, ◌∙◌}
use Rattle.quorum_rules.specs.Limits.{Numbers}
use Rattle.text_lines.specs.Lines.{fields_of, line_of_fields}
use Rattle.text_lines.proofs.lemmas.Joined.{line_from_fields}
use Rattle.line_forms.specs.Tables.{Gives}
use Rattle.line_forms.specs.declared.refusal.LineRefusal.{LineRefusal}
use Rattle.line_forms.proofs.lemmas.Tables.{gives_same}
use Rattle.line_forms.proofs.lemmas.Words.{find-spelled}
use Rattle.event_lines.specs.declared.line.ReplayLine.{ReplayLine}
use Rattle.event_lines.specs.Forms.{rest_cause, line_cause, event_cause}
use Rattle.event_lines.specs.Lines.{IsEventLine, IsSpelled, event_text}
use Rattle.event_lines.specs.Words.{LineWord, word_text, words, word_of}

pub line_read : (c : Numbers) (line first : List ℕ) (rest : List (List ℕ)) (word : LineWord) (r : Result ReplayLine LineRefusal) → fields_of line ≡ first ∷ rest → word_of first ≡ Some word
    → Gives (IsSpelled c (word_text word ∷ rest)) (rest_cause c (Some word) rest) r → Gives (λ l. IsEventLine c l × (event_text l ≡ line)) (event_cause c line) r
unfolding event_cause
line_read c line first rest word r fields is h =
    let cause : event_cause c line ≡ rest_cause c (Some word) rest = ap (line_cause c) fields ∙ ap (λ (o : Option LineWord). rest_cause c o rest) is in
    let text : line ≡ line_of_fields (word_text word ∷ rest) = line_from_fields line (word_text word ∷ rest) (fields ∙ ap (λ (f : List ℕ). f ∷ rest) (find-spelled word_text first words word is)) in
    gives_same (IsSpelled c (word_text word ∷ rest)) (λ (l : ReplayLine). IsEventLine c l × (event_text l ≡ line)) (rest_cause c (Some word) rest) (event_cause c line) r
    (λ l s. (s.0, ap line_of_fields s.1 ∙ sym text)) cause h
