-- The head lines of a valid configuration have no cause.
use Rattle.std.proofs.Common.{◌≡◌, ℕ, ◌^◌, ◌<◌, false, List, [], ◌∷◌, ◌++◌, length, map, get_or, Option, unwrap_or, None, refl, sym, ap, ◌∙◌, arith, append_assoc, lit≤}
use Rattle.std.specs.Prelude.{codes, decimal}
use Rattle.std.specs.List.{list_any, AllByRecursion}
use Rattle.std.proofs.lemmas.Fmt.{decimal_nonempty}
use Rattle.quorum_rules.specs.Limits.{Numbers, IsValid, IsOfScripts}
use Rattle.quorum_rules.specs.declared.Edition.{Edition}
use Rattle.quorum_rules.specs.declared.Edition.TheVariants.{One, Two, Three, Four}
use Rattle.quorum_rules.proofs.lemmas.FaultLaws.{none_of_valid, size_at_most, blocks_at_most}
use Rattle.text_lines.specs.Lines.{parts_of, fields_of, line_of_fields, Lacks, AllLack}
use Rattle.text_lines.proofs.lemmas.Numbers.{number_of-decimal}
use Rattle.text_lines.proofs.lemmas.Joined.{parts-joined, part_before, Lacks-append, Lacks-decimal}
use Rattle.line_forms.specs.Kinds.{has_empty_field}
use Rattle.line_forms.specs.Texts.{ReadsTo}
use Rattle.line_forms.specs.Heads.{Body, script, header, edition_of, head_lines, head_text, cluster_fields, cluster_cause, config_cause, numbers_at, numbers_in, u32_of, is_no_u32}
use Rattle.line_forms.proofs.lemmas.Clusters.{cluster_spelled}
use Rattle.line_forms.proofs.Heads.{edition_back, header_read, head_read, head_apart}
use Rattle.lists.proofs.lemmas.Tests.{not_zero}

-- numbers whose text is read back
abbrev AreSmall : List ℕ → Type 0
AreSmall ns = AllByRecursion (λ n. n < 2 ^ 32) ns

all_lack : (mark : ℕ) (ns : List ℕ) → mark < 48 → AreSmall ns → AllLack mark (map decimal ns)
all_lack mark [] low h = tt
all_lack mark (n ∷ ns) low h = let lt : n < 2 ^ 32 = h.0 in (Lacks-decimal mark n low (omega arith), all_lack mark ns low h.1)

none_bad : (ns : List ℕ) → AreSmall ns → list_any is_no_u32 (map decimal ns) ≡ false
none_bad [] h = refl
none_bad (n ∷ ns) h = rw (number_of-decimal (2 ^ 32) n (lit≤ tt) h.0) (none_bad ns h.1)

none_empty : (ns : List ℕ) → AreSmall ns → has_empty_field (map decimal ns) ≡ false
none_empty [] h = refl
none_empty (n ∷ ns) h =
    let lt : n < 2 ^ 32 = h.0 in
    let some : 0 < length (decimal n) = decimal_nonempty n (omega arith) in
    rw (not_zero (length (decimal n)) some) (none_empty ns h.1)

all_read : (ns : List ℕ) → AreSmall ns → ns ≡ map u32_of (map decimal ns)
all_read [] h = refl
all_read (n ∷ ns) h = rw (number_of-decimal (2 ^ 32) n (lit≤ tt) h.0) (ap (λ (ms : List ℕ). n ∷ ms) (all_read ns h.1))

abbrev in_order : Numbers → List ℕ
in_order c = c.n ∷ c.t ∷ c.b ∷ c.qc ∷ c.m ∷ c.size ∷ c.blocks ∷ []

small : (c : Numbers) → IsValid c → AreSmall (in_order c)
small c v = let size = size_at_most c v in let blocks = blocks_at_most c v in (omega arith, (omega arith, (omega arith, (omega arith, (omega arith, (omega arith, (omega arith, tt)))))))

-- the fields of a cluster line are those that it was joined of
pub cluster_apart : (c : Numbers) → IsValid c → fields_of (line_of_fields (cluster_fields c)) ≡ cluster_fields c
cluster_apart c v = parts-joined 32 (codes "cluster") (map decimal (in_order c)) (refl, all_lack 32 (in_order c) (omega arith) (small c v))

-- and they spell its numbers
pub numbers_back : (c : Numbers) → IsValid c → IsOfScripts c → numbers_in (edition_of (header c.edition)) (fields_of (line_of_fields (cluster_fields c))) ≡ c
numbers_back c v named =
    ap (λ (e : Option Edition). numbers_in (unwrap_or e One) (fields_of (line_of_fields (cluster_fields c)))) (edition_back c.edition named)
    ∙ ap (numbers_in c.edition) (cluster_apart c v) ∙ sym (ap (numbers_at c.edition) (all_read (in_order c) (small c v)))

-- lines that begin with the head lines of a valid configuration begin with those of no other
pub one_head : (c d : Numbers) (xs ys : List (List ℕ)) → IsValid c → IsOfScripts c → IsValid d → IsOfScripts d → head_lines c ++ xs ≡ head_lines d ++ ys → c ≡ d
one_head c d xs ys v named w named' e =
    sym (numbers_back c v named) ∙ ap (λ (ls : List (List ℕ)). numbers_in (edition_of (get_or ls 0 [])) (fields_of (get_or ls 1 []))) e ∙ numbers_back d w named'

no_config_cause : (c : Numbers) → IsValid c → config_cause c ≡ None
no_config_cause c v = rw (none_of_valid c v) refl

-- the cluster line of a valid configuration has no cause
pub cluster_accepted : (c : Numbers) → IsValid c → cluster_cause c.edition (fields_of (line_of_fields (cluster_fields c))) ≡ None
cluster_accepted c v =
    let ns = in_order c in
    let h = small c v in
    let s = cluster_spelled c.edition (codes "cluster") (map decimal ns) ns refl refl (none_empty ns h) (none_bad ns h) (all_read ns h) in
    ap (cluster_cause c.edition) (cluster_apart c v) ∙ s.cause ∙ no_config_cause c v

fields_lack : (fields : List (List ℕ)) (first : List ℕ) → AllLack 10 (first ∷ fields) → Lacks 10 (line_of_fields (first ∷ fields))
fields_lack [] first h = h.0
fields_lack (next ∷ fields) first h = Lacks-append 10 first (32 ∷ line_of_fields (next ∷ fields)) h.0 (fields_lack fields next h.1)

-- a line's newline ends it
pub line_apart : (first : List ℕ) (fields : List (List ℕ)) (rest : List ℕ) → AllLack 10 (first ∷ fields) → parts_of ((line_of_fields (first ∷ fields) ++ 10 ∷ []) ++ rest) ≡ line_of_fields (first ∷ fields) ∷ parts_of rest
line_apart first fields rest h = ap parts_of (append_assoc (line_of_fields (first ∷ fields)) (10 ∷ []) rest) ∙ part_before 10 (line_of_fields (first ∷ fields)) rest (fields_lack fields first h)

header_lacks : (edition : Edition) → Lacks 10 (header edition)
header_lacks One = refl
header_lacks Two = refl
header_lacks Three = refl
header_lacks Four = refl

-- a text that begins with a valid head is read so far, whatever may follow
pub head_accepted : (body : Body) (c : Numbers) (rest : List ℕ) → IsValid c → IsOfScripts c → ReadsTo (script body) (head_text c ++ rest) (head_lines c) rest
head_accepted body c rest v known =
    let line = line_of_fields (cluster_fields c) in
    let lack : AllLack 10 (cluster_fields c) = (refl, all_lack 10 (in_order c) (omega arith) (small c v)) in
    let after = (line ++ 10 ∷ []) ++ rest in
    let text : head_text c ++ rest ≡ header c.edition ++ 10 ∷ after = ap (λ (t : List ℕ). t ++ rest) (head_apart c) ∙ append_assoc (header c.edition) (10 ∷ (line ++ 10 ∷ [])) rest in
    let first : parts_of (head_text c ++ rest) ≡ header c.edition ∷ parts_of after = ap parts_of text ∙ part_before 10 (header c.edition) after (header_lacks c.edition) in
    let second : parts_of after ≡ line ∷ parts_of rest = line_apart (codes "cluster") (map decimal (in_order c)) rest lack in
    let named = edition_back c.edition known in
    let one = header_read body (head_text c ++ rest) (header c.edition) after c.edition first named in
    head_read body (head_text c ++ rest) (header c.edition) line after rest c.edition c one named second (cluster_accepted c v) (refl, sym (cluster_apart c v), v)
