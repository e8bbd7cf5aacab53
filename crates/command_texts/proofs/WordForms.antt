-- Which words are of a form, and which of none.
use Rattle.std.proofs.Common.{◌≡◌, ℕ, ◌<◌, ◌^◌, Bool, true, false, List, [], ◌∷◌, ap, sym, ◌∙◌, refl, lit≤, subst, arith}
use Rattle.std.specs.Prelude.{codes, decimal, not, Some, None}
use Rattle.std.specs.Str.{bytes_eq}
use Rattle.std.specs.Str.Parse.{AllDigits}
use Rattle.std.proofs.lemmas.Fmt.{decimal_is_IsNumeral}
use Rattle.std.proofs.lemmas.Slice.Eq.{bytes_eq-Decides}
use Rattle.std.proofs.lemmas.Str.Parse.{digit_from_value}
use Rattle.text_lines.specs.Fields.{number_of}
use Rattle.text_lines.proofs.lemmas.Numbers.{number_of-some, number_of-text}
use Rattle.command_texts.specs.Words.{words_of, IsCommand, AreOfForm, AreOfCommand, AreOfNbd}
use Rattle.command_texts.specs.declared.words.Serving.TheVariants.{ByLocks, ByWorkers}
use Rattle.command_texts.specs.declared.words.Command.{Command}
use Rattle.command_texts.specs.declared.words.Command.TheVariants.{Replay, Run, Trace, Check, Sum, Soak}
use Rattle.command_texts.specs.declared.words.Form.{Form}
use Rattle.command_texts.specs.declared.words.Form.TheVariants.{Text, Session}

-- words of neither are of no form
pub no_form : (words : List (List ℕ)) → (AreOfCommand words → ⊥) → (AreOfNbd words → ⊥) → (form : Form) → AreOfForm words form → ⊥
no_form words command nbd (Text c) of = command (c, of)
no_form words command nbd (Session c) of = nbd (c, of)

-- ---- words of a command that has two

-- no command but one of a run by workers, and none but `soak` with a number, has two words
no_command : (command : Command) (digits : List ℕ) → number_of (2 ^ 64) digits ≡ None → IsCommand command → codes "soak" ∷ digits ∷ [] ≡ words_of command → ⊥
no_command Replay digits none ok e = absurd cc
no_command (Run ByLocks) digits none ok e = absurd cc
no_command (Run ByWorkers) digits none ok e = absurd cc
no_command (Trace ByLocks) digits none ok e = absurd cc
no_command (Trace ByWorkers) digits none ok e = absurd cc
no_command Check digits none ok e = absurd cc
no_command Sum digits none ok e = absurd cc
no_command (Soak n) digits none ok e =
    let same : digits ≡ decimal n = cc in
    let found : None ≡ Some n = sym none ∙ number_of-text (2 ^ 64) digits n same (lit≤ tt) ok in
    absurd cc

-- what is neither `soak` nor ends in `workers` is no command's
no_pair : (command : Command) (word second : List ℕ) → (word ≡ codes "soak" → ⊥) → (second ≡ codes "workers" → ⊥) → word ∷ second ∷ [] ≡ words_of command → ⊥
no_pair Replay word second soak workers e = absurd cc
no_pair (Run ByLocks) word second soak workers e = absurd cc
no_pair (Run ByWorkers) word second soak workers e = workers cc
no_pair (Trace ByLocks) word second soak workers e = absurd cc
no_pair (Trace ByWorkers) word second soak workers e = workers cc
no_pair Check word second soak workers e = absurd cc
no_pair Sum word second soak workers e = absurd cc
no_pair (Soak n) word second soak workers e = soak cc

-- no number begins with a `w`
no_digit : (rest : List ℕ) → AllDigits 10 (119 ∷ rest) → ⊥
no_digit rest all = let d = digit_from_value 119 all.0 in omega (arith, d)

-- `workers` spells no number, so it follows `run` and `trace` alone
pub no_workers : (command : Command) (word : List ℕ) → (word ≡ codes "run" → ⊥) → (word ≡ codes "trace" → ⊥) → IsCommand command → word ∷ codes "workers" ∷ [] ≡ words_of command → ⊥
no_workers Replay word run trace ok e = absurd cc
no_workers (Run ByLocks) word run trace ok e = absurd cc
no_workers (Run ByWorkers) word run trace ok e = run cc
no_workers (Trace ByLocks) word run trace ok e = absurd cc
no_workers (Trace ByWorkers) word run trace ok e = trace cc
no_workers Check word run trace ok e = absurd cc
no_workers Sum word run trace ok e = absurd cc
no_workers (Soak n) word run trace ok e =
    let same : codes "workers" ≡ decimal n = cc in
    no_digit (codes "orkers") (subst (AllDigits 10) (sym same) (decimal_is_IsNumeral n ok).0.1)

not_other : (b : Bool) → false ≡ not b → b ≡ true
not_other true e = refl
not_other false e = absurd cc

-- a word that isn't another one is it
pub is_word : (word name : List ℕ) → false ≡ not (bytes_eq word name) → word ≡ name
is_word word name e = (bytes_eq-Decides word name).0 (not_other (bytes_eq word name) e)

-- digits that spell no number are no command's
pub no_number_no_form : (word digits bytes : List ℕ) → word ≡ codes "soak" → bytes ≡ digits → None ≡ number_of (2 ^ 64) bytes → AreOfCommand (word ∷ digits ∷ []) → ⊥
no_number_no_form word digits bytes w same none form =
    let here : number_of (2 ^ 64) digits ≡ None = ap (λ d. number_of (2 ^ 64) d) (sym same) ∙ sym none in
    no_command form.0 digits here form.1.0 (ap (λ z. z ∷ digits ∷ []) (sym w) ∙ form.1.1)

-- digits that spell a number are that number's
pub number_form : (word digits bytes : List ℕ) (n : ℕ) → word ≡ codes "soak" → bytes ≡ digits → Some n ≡ number_of (2 ^ 64) bytes → (n < 2 ^ 64) × (words_of (Soak n) ≡ word ∷ digits ∷ [])
number_form word digits bytes n w same found =
    let parts = number_of-some (2 ^ 64) bytes n (sym found) in
    let spelled : decimal n ≡ digits = sym parts.0 ∙ same in
    (parts.1, ap (λ z. z ∷ decimal n ∷ []) (sym w) ∙ ap (λ d. word ∷ d ∷ []) spelled)
