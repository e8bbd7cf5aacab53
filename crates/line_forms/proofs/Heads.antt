-- The head lines at the front of a text.
use Rattle.std.proofs.Common.{◌≡◌, ℕ, Bool, true, false, if◌then◌else◌, List, [], ◌∷◌, ◌++◌, Some, None, refl, sym, ap, subst, ◌∙◌, append_assoc, lit<}
use Rattle.std.specs.Prelude.{codes, decimal}
use Rattle.std.specs.Str.{bytes_eq}
use Rattle.std.proofs.lemmas.Fmt.{decimal_digit}
use Rattle.std.proofs.lemmas.List.{append-nil}
use Rattle.std.proofs.lemmas.Slice.Eq.{bytes_eq-Decides}
use Rattle.quorum_rules.specs.Limits.{Numbers, edition_number, is_of_scripts}
use Rattle.quorum_rules.specs.declared.Edition.{Edition}
use Rattle.quorum_rules.specs.declared.Edition.TheVariants.{One, Two, Three, Four}
use Rattle.text_lines.specs.Lines.{parts_of, fields_of, line_of_fields}
use Rattle.text_lines.proofs.lemmas.Joined.{line_from_fields}
use Rattle.line_forms.specs.Texts.{IsFault, ReadsTo}
use Rattle.line_forms.specs.Heads.{Body, script, script_cause, IsSpelled, edition_in, header, head_lines, head_text, cluster_fields, cluster_cause}
use Rattle.line_forms.specs.declared.cause.Cause.{Cause}
use Rattle.line_forms.specs.declared.cause.Cause.TheVariants.{BadHeader}
use Rattle.line_forms.proofs.lemmas.Texts.{reads_none, reads_on, line_fault}

pub bad_header : (body : Body) (text line rest : List ℕ) → parts_of text ≡ line ∷ parts_of rest → edition_in line ≡ None → IsFault (script body) text 1 BadHeader
bad_header body text line rest e none =
    let cause : script_cause body [] line ≡ Some BadHeader = rw none refl in
    line_fault (script body) text [] line text rest BadHeader (reads_none (script body) text) e cause

-- a first line that names an edition is its header
pub header_is : (first : List ℕ) (edition : Edition) → edition_in first ≡ Some edition → first ≡ header edition
header_is first edition e = one_of_two (bytes_eq first (header One)) (bytes_eq first (header Two)) (λ h. (bytes_eq-Decides first (header One)).0 h) (λ h. (bytes_eq-Decides first (header Two)).0 h) e
  where
    one_of_two : (p q : Bool) → (p ≡ true → first ≡ header One) → (q ≡ true → first ≡ header Two) → (if p then Some One else (if q then Some Two else None)) ≡ Some edition → first ≡ header edition
    one_of_two true q h k e = let same : One ≡ edition = cc in h refl ∙ ap header same
    one_of_two false true h k e = let same : Two ≡ edition = cc in k refl ∙ ap header same
    one_of_two false false h k e = cc

-- the header of an edition that scripts name names it
pub edition_back : (edition : Edition) → is_of_scripts edition ≡ true → edition_in (header edition) ≡ Some edition
edition_back One named = refl
edition_back Two named = refl
edition_back Three named = cc
edition_back Four named = cc

-- a first line names no other edition
pub names_scripts : (first : List ℕ) (edition : Edition) → edition_in first ≡ Some edition → is_of_scripts edition ≡ true
names_scripts first edition e = one_of_two (bytes_eq first (header One)) (bytes_eq first (header Two)) e
  where
    one_of_two : (p q : Bool) → (if p then Some One else (if q then Some Two else None)) ≡ Some edition → is_of_scripts edition ≡ true
    one_of_two true q e = let same : One ≡ edition = cc in sym (ap is_of_scripts same)
    one_of_two false true e = let same : Two ≡ edition = cc in sym (ap is_of_scripts same)
    one_of_two false false e = cc

-- the first line was read
pub header_read : (body : Body) (text line rest : List ℕ) (edition : Edition) → parts_of text ≡ line ∷ parts_of rest → edition_in line ≡ Some edition → ReadsTo (script body) text (line ∷ []) rest
header_read body text line rest edition e is =
    let none : script_cause body [] line ≡ None = rw is refl in
    reads_on (script body) text [] line text rest (reads_none (script body) text) e none

-- the cause of the second line, by the edition of the first
cluster_here : (body : Body) (first line : List ℕ) (edition : Edition) → edition_in first ≡ Some edition → script_cause body (first ∷ []) line ≡ cluster_cause edition (fields_of line)
cluster_here body first line edition is = rw is refl

-- the second line has a cause
pub cluster_fault : (body : Body) (text first line rest after : List ℕ) (edition : Edition) (c : Cause) → ReadsTo (script body) text (first ∷ []) rest → edition_in first ≡ Some edition → parts_of rest ≡ line ∷ parts_of after
    → cluster_cause edition (fields_of line) ≡ Some c → IsFault (script body) text 2 c
cluster_fault body text first line rest after edition c r is e h = line_fault (script body) text (first ∷ []) line rest after c r e (cluster_here body first line edition is ∙ h)

-- both lines were read
pub head_read : (body : Body) (text first line rest after : List ℕ) (edition : Edition) (c : Numbers) → ReadsTo (script body) text (first ∷ []) rest → edition_in first ≡ Some edition → parts_of rest ≡ line ∷ parts_of after
    → cluster_cause edition (fields_of line) ≡ None → IsSpelled edition (fields_of line) c → ReadsTo (script body) text (head_lines c) after
head_read body text first line rest after edition c r is e none h =
    let both : ReadsTo (script body) text (first ∷ line ∷ []) after = reads_on (script body) text (first ∷ []) line rest after r e (cluster_here body first line edition is ∙ none) in
    let header : first ≡ header c.edition = header_is first edition is ∙ ap header (sym h.0) in
    let same : first ∷ line ∷ [] ≡ head_lines c = rw (header, line_from_fields line (cluster_fields c) (sym h.1)) refl in
    subst (λ (ls : List (List ℕ)). ReadsTo (script body) text ls after) same both

-- the header as its pieces are written
header_written : (edition : Edition) → codes "pasis " ++ decimal (edition_number edition) ≡ header edition
header_written One = ap (λ (d : List ℕ). codes "pasis " ++ d) (decimal_digit 1 (lit< tt))
header_written Two = ap (λ (d : List ℕ). codes "pasis " ++ d) (decimal_digit 2 (lit< tt))
header_written Three = ap (λ (d : List ℕ). codes "pasis " ++ d) (decimal_digit 3 (lit< tt))
header_written Four = ap (λ (d : List ℕ). codes "pasis " ++ d) (decimal_digit 4 (lit< tt))

-- the head is the header, a newline and the cluster line
pub head_apart : (c : Numbers) → head_text c ≡ header c.edition ++ 10 ∷ (line_of_fields (cluster_fields c) ++ 10 ∷ [])
head_apart c =
    append_assoc (header c.edition) (10 ∷ []) ((line_of_fields (cluster_fields c) ++ 10 ∷ []) ++ [])
    ∙ ap (λ (t : List ℕ). header c.edition ++ 10 ∷ t) (append-nil (line_of_fields (cluster_fields c) ++ 10 ∷ []))

pieces : (old x y a b c d e f g h i : List ℕ) → ((((((((((old ++ x) ++ y) ++ a) ++ b) ++ c) ++ d) ++ e) ++ f) ++ g) ++ h) ++ i ≡ old ++ ((x ++ y) ++ (a ++ (b ++ (c ++ (d ++ (e ++ (f ++ (g ++ (h ++ i)))))))))
pieces old x y a b c d e f g h i = simp append_assoc

line_of_seven : (a b c d e f g end : List ℕ) → (a ++ 32 ∷ (b ++ 32 ∷ (c ++ 32 ∷ (d ++ 32 ∷ (e ++ 32 ∷ (f ++ 32 ∷ g)))))) ++ end ≡ a ++ 32 ∷ (b ++ 32 ∷ (c ++ 32 ∷ (d ++ 32 ∷ (e ++ 32 ∷ (f ++ 32 ∷ (g ++ end))))))
line_of_seven a b c d e f g end = simp append_assoc

-- the head as its pieces are written one after another
pub head_written : (old : List ℕ) (c : Numbers) →
    ((((((((((old ++ codes "pasis ") ++ decimal (edition_number c.edition)) ++ codes "\ncluster") ++ 32 ∷ decimal c.n) ++ 32 ∷ decimal c.t) ++ 32 ∷ decimal c.b) ++ 32 ∷ decimal c.qc) ++ 32 ∷ decimal c.m) ++ 32 ∷ decimal c.size) ++ 32 ∷ decimal c.blocks) ++ 10 ∷ [] ≡ old ++ head_text c
head_written old c =
    let written = pieces old (codes "pasis ") (decimal (edition_number c.edition)) (codes "\ncluster") (32 ∷ decimal c.n) (32 ∷ decimal c.t) (32 ∷ decimal c.b) (32 ∷ decimal c.qc) (32 ∷ decimal c.m) (32 ∷ decimal c.size) (32 ∷ decimal c.blocks) (10 ∷ []) in
    let line = line_of_seven (decimal c.n) (decimal c.t) (decimal c.b) (decimal c.qc) (decimal c.m) (decimal c.size) (decimal c.blocks) (10 ∷ []) in
    let numbers = decimal c.n ++ 32 ∷ (decimal c.t ++ 32 ∷ (decimal c.b ++ 32 ∷ (decimal c.qc ++ 32 ∷ (decimal c.m ++ 32 ∷ (decimal c.size ++ 32 ∷ (decimal c.blocks ++ 10 ∷ [])))))) in
    written
    ∙ ap (λ (h : List ℕ). old ++ (h ++ (codes "\ncluster " ++ numbers))) (header_written c.edition)
    ∙ ap (λ (t : List ℕ). old ++ (header c.edition ++ (codes "\ncluster " ++ t))) (sym line)
    ∙ ap (λ (t : List ℕ). old ++ t) (sym (head_apart c))
