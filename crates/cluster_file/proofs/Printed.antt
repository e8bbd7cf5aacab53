-- The lines of a membership, and what they spell.
use Rattle.std.proofs.Common.{◌≡◌, ◌≢◌, ℕ, ◌^◌, ◌<◌, ◌≤◌, Bool, true, false, if◌then◌else◌, List, [], ◌∷◌, ◌++◌, length, Option, Some, None, refl, sym, ap, subst, ◌∙◌, arith, append_assoc, append-nil, lit≤}
use Rattle.std.specs.Prelude.{codes, decimal, unwrap_or, slice_index_or, MatchOption, IfOk, IfErr, IsErrAnd, Result, Ok, Err}
use Rattle.std.specs.Result.{result_ok}
use Rattle.std.proofs.lemmas.Slice.Eq.{bytes_eq-Decides}
use Rattle.std.specs.Str.{bytes_eq}
use Rattle.quorum_rules.specs.Limits.{Numbers, IsValid}
use Rattle.quorum_rules.specs.Faults.{numbers, fault}
use Rattle.quorum_rules.specs.declared.ConfigFault.{ConfigFault}
use Rattle.quorum_rules.specs.declared.Edition.{Edition}
use Rattle.quorum_rules.specs.declared.Edition.TheVariants.{One, Two, Three, Four}
use Rattle.quorum_rules.proofs.lemmas.FaultLaws.{none_of_valid, size_at_most, blocks_at_most}
use Rattle.text_lines.specs.Lines.{parts_of, fields_of, line_of_fields, text_of_lines, Lacks, AllLack}
use Rattle.text_lines.specs.Fields.{value_text, IsBytes}
use Rattle.text_lines.specs.Fields.{number_of, value_of}
use Rattle.text_lines.proofs.lemmas.Numbers.{number_of-decimal, number_of-text}
use Rattle.text_lines.proofs.lemmas.Values.{value_of-some, value_of-text}
use Rattle.text_lines.proofs.lemmas.Joined.{parts-joined, parts-text_of_lines, text_from_parts, Lacks-append, Lacks-decimal, Lacks-value_text}
use Rattle.line_forms.specs.Heads.{cluster_fields, u32_of}
use Rattle.line_forms.proofs.lemmas.Accepted.{cluster_apart}
use Rattle.cluster_file.specs.declared.membership.Membership.{Membership}
use Rattle.cluster_file.specs.declared.membership.MembershipRefusal.{MembershipRefusal}
use Rattle.cluster_file.specs.declared.membership.MembershipRefusal.TheVariants.{NoMemory, BadLine}
use Rattle.cluster_file.specs.Texts.{IfBadLine, IsConfig, IsId, IsMembership, is_of_stores, header, cluster_line, node_line, id_line, lines_of, text_of}

-- ---- the first line

-- the edition that a first line says, or the third
edition_of : List ℕ → Edition
edition_of line = if bytes_eq line (codes "pasis_store 4") then Four else Three

edition_back : (edition : Edition) → is_of_stores edition ≡ true → edition_of (header edition) ≡ edition
unfolding edition_of
edition_back One of = cc
edition_back Two of = cc
edition_back Three of = refl
edition_back Four of = refl

-- two editions of stores have two first lines
pub one_edition : (a b : Edition) → is_of_stores a ≡ true → is_of_stores b ≡ true → header a ≡ header b → a ≡ b
one_edition a b of also e = sym (edition_back a of) ∙ ap edition_of e ∙ edition_back b also

-- no first line is neither of the two that there are
pub no_edition : (line : List ℕ) → bytes_eq line (codes "pasis_store 4") ≡ false → bytes_eq line (codes "pasis_store 1") ≡ false → (edition : Edition) → line ≡ header edition → ⊥
no_edition line no_fourth no_first edition e = at edition e
  where
    first : line ≡ codes "pasis_store 1" → ⊥
    first same = let is : bytes_eq line (codes "pasis_store 1") ≡ true = (bytes_eq-Decides line (codes "pasis_store 1")).1 same in absurd cc

    at : (other : Edition) → line ≡ header other → ⊥
    at One same = first same
    at Two same = first same
    at Three same = first same
    at Four same = let is : bytes_eq line (codes "pasis_store 4") ≡ true = (bytes_eq-Decides line (codes "pasis_store 4")).1 same in absurd cc

header_lacks : (edition : Edition) → Lacks 10 (header edition)
header_lacks One = refl
header_lacks Two = refl
header_lacks Three = refl
header_lacks Four = refl

-- ---- the others

-- the fields of the third line
pub node_apart : (node : ℕ) → node < 2 ^ 64 → fields_of (node_line node) ≡ codes "node" ∷ decimal node ∷ []
node_apart node lt = parts-joined 32 (codes "node") (decimal node ∷ []) (refl, (Lacks-decimal 32 node (omega arith) lt, tt))

-- those of the fourth
pub id_apart : (id : List ℕ) → fields_of (id_line id) ≡ codes "id" ∷ value_text id ∷ []
id_apart id = parts-joined 32 (codes "id") (value_text id ∷ []) (refl, (Lacks-value_text 32 id (omega arith) (omega arith), tt))

-- a number's text spells it
pub u32_back : (n : ℕ) → n < 2 ^ 32 → u32_of (decimal n) ≡ n
u32_back n lt = ap (λ (o : Option ℕ). unwrap_or o 0) (number_of-decimal (2 ^ 32) n (lit≤ tt) lt)

fields_lack : (fields : List (List ℕ)) (first : List ℕ) → AllLack 10 (first ∷ fields) → Lacks 10 (line_of_fields (first ∷ fields))
fields_lack [] first h = h.0
fields_lack (next ∷ fields) first h = Lacks-append 10 first (32 ∷ line_of_fields (next ∷ fields)) h.0 (fields_lack fields next h.1)

cluster_lacks : (c : Numbers) → IsValid c → Lacks 10 (cluster_line c)
cluster_lacks c v =
    let size = size_at_most c v in
    let blocks = blocks_at_most c v in
    let d : (n : ℕ) → n < 2 ^ 64 → Lacks 10 (decimal n) = λ n lt. Lacks-decimal 10 n (omega arith) lt in
    fields_lack (decimal c.n ∷ decimal c.t ∷ decimal c.b ∷ decimal c.qc ∷ decimal c.m ∷ decimal c.size ∷ decimal c.blocks ∷ []) (codes "cluster") (refl, (d c.n (omega arith), (d c.t (omega arith), (d c.b (omega arith), (d c.qc (omega arith), (d c.m (omega arith), (d c.size (omega arith), (d c.blocks (omega arith), tt))))))))

node_lacks : (node : ℕ) → node < 2 ^ 64 → Lacks 10 (node_line node)
node_lacks node lt = fields_lack (decimal node ∷ []) (codes "node") (refl, (Lacks-decimal 10 node (omega arith) lt, tt))

id_lacks : (id : List ℕ) → Lacks 10 (id_line id)
id_lacks id = fields_lack (value_text id ∷ []) (codes "id") (refl, (Lacks-value_text 10 id (omega arith) (omega arith), tt))

-- the text of a membership has its lines, and nothing after the last
pub lines_apart : (m : Membership) → IsMembership m → parts_of (text_of m) ≡ header m.config.edition ∷ cluster_line m.config ∷ node_line m.node ∷ id_line m.id ∷ [] ∷ []
lines_apart m h =
    let v = h.valid in
    let lt = h.node in
    parts-text_of_lines (lines_of m) (header_lacks m.config.edition, (cluster_lacks m.config v, (node_lacks m.node (omega arith), (id_lacks m.id, tt))))

-- a text of four whole lines
pub text_of_four : (text a b c d r s t u : List ℕ)
    → parts_of text ≡ a ∷ parts_of r → parts_of r ≡ b ∷ parts_of s → parts_of s ≡ c ∷ parts_of t → parts_of t ≡ d ∷ parts_of u → parts_of u ≡ [] ∷ []
    → text ≡ text_of_lines (a ∷ b ∷ c ∷ d ∷ [])
text_of_four text a b c d r s t u e f g h i = text_from_parts text (a ∷ b ∷ c ∷ d ∷ []) (rw (e, f, g, h, i) refl)

pieces : (old a b c d e f g h : List ℕ) → (((((((old ++ a) ++ b) ++ c) ++ d) ++ e) ++ f) ++ g) ++ h ≡ old ++ (a ++ (b ++ (c ++ (d ++ (e ++ (f ++ (g ++ h)))))))
pieces old a b c d e f g h = simp append_assoc

-- the second line as its pieces are written one after another
pub cluster_written : (old : List ℕ) (c : Numbers) →
    (((((((old ++ codes "cluster") ++ 32 ∷ decimal c.n) ++ 32 ∷ decimal c.t) ++ 32 ∷ decimal c.b) ++ 32 ∷ decimal c.qc) ++ 32 ∷ decimal c.m) ++ 32 ∷ decimal c.size) ++ 32 ∷ decimal c.blocks ≡ old ++ cluster_line c
cluster_written old c = pieces old (codes "cluster") (32 ∷ decimal c.n) (32 ∷ decimal c.t) (32 ∷ decimal c.b) (32 ∷ decimal c.qc) (32 ∷ decimal c.m) (32 ∷ decimal c.size) (32 ∷ decimal c.blocks)

four_lines : (old a b c d end : List ℕ) → (((((((old ++ a) ++ end) ++ b) ++ end) ++ c) ++ end) ++ d) ++ end ≡ old ++ ((a ++ end) ++ ((b ++ end) ++ ((c ++ end) ++ ((d ++ end) ++ []))))
four_lines old a b c d end = simp (append_assoc, append-nil)

-- the text as its pieces are written one after another
pub text_written : (old : List ℕ) (m : Membership) →
    (((((((old ++ header m.config.edition) ++ 10 ∷ []) ++ cluster_line m.config) ++ 10 ∷ []) ++ node_line m.node) ++ 10 ∷ []) ++ id_line m.id) ++ 10 ∷ [] ≡ old ++ text_of m
text_written old m = four_lines old (header m.config.edition) (cluster_line m.config) (node_line m.node) (id_line m.id) (10 ∷ [])

-- ---- what fields spell

-- a field spells one number
pub one_number : (limit n m : ℕ) (field : List ℕ) → limit ≤ 2 ^ 64 → number_of limit field ≡ Some n → field ≡ decimal m → m < limit → n ≡ m
one_number limit n m field small e f lt =
    let again : number_of limit field ≡ Some m = number_of-text limit field m f small lt in
    let same : Some n ≡ Some m = sym e ∙ again in cc

pub no_number : (limit m : ℕ) (field : List ℕ) → limit ≤ 2 ^ 64 → number_of limit field ≡ None → field ≡ decimal m → m < limit → ⊥
no_number limit m field small e f lt =
    let again : number_of limit field ≡ Some m = number_of-text limit field m f small lt in
    let same : None ≡ Some m = sym e ∙ again in absurd cc

value_back : (field id : List ℕ) → IsId id → field ≡ value_text id → value_of field ≡ Some id
value_back field id is e = ap value_of e ∙ value_of-text id is.bytes

-- sixteen bytes that a field spells are the id that it spells
pub sixteen_is : (field bytes : List ℕ) (r : Option (List ℕ)) → value_of field ≡ Some bytes → MatchOption r (length bytes ≢ 16) (λ id. (id ≡ bytes) × (length bytes ≡ 16))
    → MatchOption r ((id : List ℕ) → IsId id → field ≡ value_text id → ⊥) (λ id. IsId id × (field ≡ value_text id))
sixteen_is field bytes None e h = λ id is f.
    let same : Some bytes ≡ Some id = sym e ∙ value_back field id is f in
    let b : bytes ≡ id = cc in
    h (ap length b ∙ is.length)
sixteen_is field bytes (Some id) e h =
    let v = value_of-some field bytes e in
    (record { length = ap length h.0 ∙ h.1; bytes = subst IsBytes (sym h.0) v.1 }, v.0 ∙ ap value_text (sym h.0))

pub no_id : (field : List ℕ) → value_of field ≡ None → (id : List ℕ) → IsId id → field ≡ value_text id → ⊥
no_id field e id is f = let same : None ≡ Some id = sym e ∙ value_back field id is f in absurd cc

-- the numbers that a cluster line's fields spell are the cluster's
pub config_told : (edition : Edition) (c : Numbers) → IsConfig edition c → numbers edition (u32_of (decimal c.n)) (u32_of (decimal c.t)) (u32_of (decimal c.b)) (u32_of (decimal c.qc)) (u32_of (decimal c.m)) (u32_of (decimal c.size)) (u32_of (decimal c.blocks)) ≡ c
config_told edition c h =
    let v = h.valid in
    let size = size_at_most c v in
    let blocks = blocks_at_most c v in
    rw (u32_back c.n (omega arith), u32_back c.t (omega arith), u32_back c.b (omega arith), u32_back c.qc (omega arith), u32_back c.m (omega arith), u32_back c.size (omega arith), u32_back c.blocks (omega arith))
    (ap (λ (e : Edition). numbers e c.n c.t c.b c.qc c.m c.size c.blocks) (sym h.edition))

pub only_config : (r : Result Numbers ConfigFault) (k c : Numbers) (o : Option Numbers) → IfOk r (λ x. x ≡ k) → IfErr r (λ e. fault k ≡ Some e) → k ≡ c → IsValid c → o ≡ result_ok r → o ≡ Some c
only_config (Ok x) k c o h f e valid is = is ∙ ap (λ (y : Numbers). Some y) (h ∙ e)
only_config (Err x) k c o h f e valid is =
    let none : fault k ≡ None = none_of_valid k (subst IsValid (sym e) valid) in
    let some : fault k ≡ Some x = f in
    absurd cc

-- a configuration whose line isn't this one isn't the one that the line tells
pub other_line : (k c : Numbers) (line : List ℕ) → Some k ≡ Some c → line ≡ cluster_line c → bytes_eq (cluster_line k) line ≡ false → ⊥
other_line k c line s e f =
    let same : k ≡ c = cc in
    let t : bytes_eq (cluster_line k) line ≡ true = (bytes_eq-Decides (cluster_line k) line).1 (ap cluster_line same ∙ sym e) in
    absurd cc

-- a text with no line and nothing after the last is empty
pub no_rest : (rest : List ℕ) → parts_of rest ≡ [] ∷ [] → rest ≡ []
no_rest rest e = text_from_parts rest [] e

-- ---- from the front of a text

-- what begins in two ways begins with one line
pub next_line : (p : List (List ℕ)) (a b : List ℕ) (xs ys : List (List ℕ)) → p ≡ a ∷ xs → p ≡ b ∷ ys → (a ≡ b) × (xs ≡ ys)
next_line p a b xs ys e f = let same : a ∷ xs ≡ b ∷ ys = sym e ∙ f in (cc, cc)

-- and doesn't end where the other goes on
pub no_next : (p : List (List ℕ)) (a b y : List ℕ) (ys : List (List ℕ)) → p ≡ a ∷ [] → p ≡ b ∷ y ∷ ys → ⊥
no_next p a b y ys e f = let same : a ∷ [] ≡ b ∷ y ∷ ys = sym e ∙ f in absurd cc

-- what holds is said of each refusal
pub told_bad : {T : Type 0} (P : Type 0) (r : Result T MembershipRefusal) → P → IfErr r (IfBadLine (λ _. P))
told_bad P (Ok x) p = tt
told_bad P (Err NoMemory) p = tt
told_bad P (Err (BadLine k)) p = p

for_text : (P Q : Type 0) (e : MembershipRefusal) → IfBadLine (λ _. Q) e → (Q → P) → IfBadLine (λ _. P) e
for_text P Q NoMemory h f = tt
for_text P Q (BadLine k) h f = f h

-- what is said of a line is said of the text
pub passed_on : {T : Type 0} (P Q : Type 0) (r : Result T MembershipRefusal) (e : MembershipRefusal) → IsErrAnd r (λ d. d ≡ e) → IfBadLine (λ _. Q) e → (Q → P) → IfErr r (IfBadLine (λ _. P))
passed_on P Q (Ok x) e is h f = absurd is
passed_on P Q (Err d) e is h f = for_text P Q d (subst (IfBadLine (λ _. Q)) (sym is) h) f

-- ---- what is printed reads back

field_at : ℕ → List (List ℕ) → ℕ
field_at i fields = u32_of (slice_index_or fields i [])

numbers_from : Edition → List (List ℕ) → Numbers
numbers_from edition fields = numbers edition (field_at 1 fields) (field_at 2 fields) (field_at 3 fields) (field_at 4 fields) (field_at 5 fields) (field_at 6 fields) (field_at 7 fields)

-- a line is that of one cluster of an edition
pub one_config : (edition : Edition) (c d : Numbers) → IsConfig edition c → IsConfig edition d → cluster_line c ≡ cluster_line d → c ≡ d
unfolding numbers_from field_at
one_config edition c d h k e =
    let fields : cluster_fields c ≡ cluster_fields d = sym (cluster_apart c h.valid) ∙ ap fields_of e ∙ cluster_apart d k.valid in
    sym (config_told edition c h) ∙ ap (numbers_from edition) fields ∙ config_told edition d k

-- a membership's numbers are those of its edition
pub own_config : (m : Membership) → IsMembership m → IsConfig m.config.edition m.config
own_config m h = record { edition = refl; valid = h.valid }

-- and those of another that is said to be the same
pub config_as : (m : Membership) (edition : Edition) (line : List ℕ) → IsMembership m → is_of_stores edition ≡ true → line ≡ header edition → line ≡ header m.config.edition → IsConfig edition m.config
config_as m edition line h of here there = record { edition = one_edition m.config.edition edition h.edition of (sym there ∙ here); valid = h.valid }

one_node : (a b : ℕ) → a < 2 ^ 32 → b < 2 ^ 32 → node_line a ≡ node_line b → a ≡ b
one_node a b lt gt e =
    let fields : codes "node" ∷ decimal a ∷ [] ≡ codes "node" ∷ decimal b ∷ [] = sym (node_apart a (omega arith)) ∙ ap fields_of e ∙ node_apart b (omega arith) in
    let same : decimal a ≡ decimal b = cc in
    one_number (2 ^ 32) a b (decimal a) (lit≤ tt) (number_of-decimal (2 ^ 32) a (lit≤ tt) lt) same gt

one_id : (a b : List ℕ) → IsId a → IsId b → id_line a ≡ id_line b → a ≡ b
one_id a b h k e =
    let fields : codes "id" ∷ value_text a ∷ [] ≡ codes "id" ∷ value_text b ∷ [] = sym (id_apart a) ∙ ap fields_of e ∙ id_apart b in
    let same : value_text a ≡ value_text b = cc in
    let twice : Some a ≡ Some b = sym (value_of-text a h.bytes) ∙ ap value_of same ∙ value_of-text b k.bytes in cc

-- a text is that of one membership
pub one_membership : (m other : Membership) → IsMembership m → IsMembership other → text_of m ≡ text_of other → m ≡ other
one_membership m other h k e =
    let x = h.valid in
    let y = k.valid in
    let a = h.node in
    let b = k.node in
    let lines = sym (lines_apart m h) ∙ ap parts_of e ∙ lines_apart other k in
    let first : header m.config.edition ≡ header other.config.edition = ap (λ (ls : List (List ℕ)). slice_index_or ls 0 []) lines in
    let same : m.config.edition ≡ other.config.edition = one_edition m.config.edition other.config.edition h.edition k.edition first in
    let own : IsConfig other.config.edition m.config = record { edition = same; valid = h.valid } in
    let second : cluster_line m.config ≡ cluster_line other.config = ap (λ (ls : List (List ℕ)). slice_index_or ls 1 []) lines in
    let third : node_line m.node ≡ node_line other.node = ap (λ (ls : List (List ℕ)). slice_index_or ls 2 []) lines in
    let fourth : id_line m.id ≡ id_line other.id = ap (λ (ls : List (List ℕ)). slice_index_or ls 3 []) lines in
    ap (λ (c : Numbers). record m { config = c }) (one_config other.config.edition m.config other.config own (own_config other k) second)
    ∙ ap (λ (n : ℕ). record m { config = other.config; node = n }) (one_node m.node other.node (omega arith) (omega arith) third)
    ∙ ap (λ (i : List ℕ). record m { config = other.config; node = other.node; id = i }) (one_id m.id other.id h.id k.id fourth)
