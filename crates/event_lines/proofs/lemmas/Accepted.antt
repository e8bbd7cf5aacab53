-- The text of an event line has nothing wrong.
use Rattle.std.proofs.Common.{◌≡◌, ◌≢◌, lit<, lit≤, ℕ, ◌^◌, ◌<◌, ◌≤◌, Bool, true, false, not, eqb, List, [], ◌∷◌, length, Option, Some, None, refl, sym, ap, ◌∙◌, arith}
use Rattle.std.specs.Prelude.{codes, decimal, if◌then◌else◌}
use Rattle.std.specs.Str.{bytes_eq}
use Rattle.std.proofs.lemmas.Bool.{eq-eqb}
use Rattle.quorum_rules.specs.Limits.{Numbers}
use Rattle.quorum_rules.specs.declared.Edition.{Edition}
use Rattle.quorum_rules.specs.declared.Edition.TheVariants.{One, Two, Three, Four}
use Rattle.text_lines.specs.Lines.{fields_of, line_of_fields}
use Rattle.text_lines.specs.Fields.{value_text}
use Rattle.text_lines.proofs.lemmas.Values.{value_of-text}
use Rattle.text_lines.proofs.lemmas.Joined.{parts-joined}
use Rattle.wire_forms.specs.declared.rule.Rule.{Rule}
use Rattle.wire_forms.specs.declared.rule.Rule.TheVariants.{Silent, Old, Top, Bad}
use Rattle.run_words.specs.declared.line.Line.{Line}
use Rattle.run_words.specs.declared.line.Line.TheVariants.{Write, Read, Resend, Call, Give, Hear, Lost, CrashNode, CrashClient, Lie, Tell, Poke, False, Sound, Mix, Prune, Back, Restart}
use Rattle.line_forms.specs.Kinds.{Kind, client, node, block, any_u64, is_other_word, some_field, form_cause}
use Rattle.line_forms.specs.Kinds.Kind.{word, value, bytes}
use Rattle.line_forms.specs.declared.cause.Cause.{Cause}
use Rattle.line_forms.specs.declared.cause.Cause.TheVariants.{UnknownWord}
use Rattle.event_lines.specs.declared.line.ReplayLine.{ReplayLine}
use Rattle.event_lines.specs.declared.line.ReplayLine.TheVariants.{Plain, Put, Get, Next}
use Rattle.event_lines.specs.Lines.{IsNode, IsBlock, IsValue, IsEventLine, event_fields, event_text, rule_text}
use Rattle.event_lines.specs.Forms.{rule, since_two, fields_cause, message_cause, line_cause, event_cause}
use Rattle.event_lines.specs.Messages.{Part, are_of}
use Rattle.event_lines.proofs.lemmas.Lacking.{event_lacks}
use Rattle.event_lines.proofs.Messages.{any_fits, ask_fits, answer_fits}
use Rattle.lists.proofs.lemmas.Tests.{not_zero}
use Rattle.line_forms.proofs.lemmas.Fine.{AreFine, none_passes, form_cause-none, Fine-number, Fine-client, Fine-u64, Fine-bytes, Fine}

with_words : (b : Bool) (x y : Option Cause) → b ≡ false → x ≡ None → (if not b then x else y) ≡ None
with_words b x y e h = rw e h

only_form : (form : List Kind) (fields : List (List ℕ)) → AreFine form fields → fields_cause (form ∷ []) fields ≡ None
only_form form fields h = with_words (some_field is_other_word form fields) (form_cause form fields) (Some UnknownWord) (none_passes is_other_word (λ kind field f. f.words) form fields h) (form_cause-none form fields h)

late_form : (edition : Edition) (form : List Kind) (fields : List (List ℕ)) → edition ≢ One → AreFine form fields → fields_cause (since_two edition form) fields ≡ None
late_form One form fields late h = absurd (late refl)
late_form Two form fields late h = only_form form fields h
late_form Three form fields late h = only_form form fields h
late_form Four form fields late h = only_form form fields h

-- ---- fields

pub Fine-node : (c : Numbers) (n : ℕ) → IsNode c n → Fine (node c.n) (decimal n)
Fine-node c n h = Fine-number (2 ^ 8) 0 c.n n (lit≤ tt) h.typed (omega arith) h.there

pub Fine-block : (c : Numbers) (n : ℕ) → IsBlock c n → Fine (block c.blocks) (decimal n)
Fine-block c n h = Fine-number (2 ^ 32) 0 c.blocks n (lit≤ tt) h.typed (omega arith) h.there

pub Fine-value : (c : Numbers) (v : List ℕ) → IsValue c v → Fine (value c.size) (value_text v)
Fine-value c v h = record {
  words = refl;
  full = not_zero (length (value_text v)) (omega arith);
  numbers = refl;
  inside = refl;
  values = rw (value_of-text v h.bytes, eq-eqb (length v) c.size h.whole) refl;
}

a_rule : (r : Rule) → r ≢ Silent → Fine rule (rule_text r)
a_rule Silent h = absurd (h refl)
a_rule Old h = record { words = refl; full = refl; numbers = refl; inside = refl; values = refl }
a_rule Top h = record { words = refl; full = refl; numbers = refl; inside = refl; values = refl }
a_rule Bad h = record { words = refl; full = refl; numbers = refl; inside = refl; values = refl }

a_word : (text : List ℕ) → bytes_eq text text ≡ true → eqb (length text) 0 ≡ false → Fine (word (text ∷ [])) text
a_word text same full = record { words = rw same refl; full = full; numbers = refl; inside = refl; values = refl }

-- ---- lines

spoken : (forms : List (List Part)) (field : List ℕ) (fields : List (List ℕ)) → are_of forms (field ∷ fields) ≡ true → message_cause forms (field ∷ fields) ≡ None
spoken forms field fields h = rw h refl

plain_fine : (c : Numbers) (l : Line) → IsEventLine c (Plain l) → line_cause c (event_fields (Plain l)) ≡ None
plain_fine c (Write k b v) h = only_form (client ∷ block c.blocks ∷ value c.size ∷ []) (decimal k ∷ decimal b ∷ value_text v ∷ []) (Fine-client k h.0, (Fine-block c b h.1, (Fine-value c v h.2, tt)))
plain_fine c (Read k b) h = only_form (client ∷ block c.blocks ∷ []) (decimal k ∷ decimal b ∷ []) (Fine-client k h.0, (Fine-block c b h.1, tt))
plain_fine c (Resend k) h = only_form (client ∷ []) (decimal k ∷ []) (Fine-client k h, tt)
plain_fine c (Call k i) h = only_form (client ∷ node c.n ∷ []) (decimal k ∷ decimal i ∷ []) (Fine-client k h.0, (Fine-node c i h.1, tt))
plain_fine c (Give i m) h = only_form (node c.n ∷ any_u64 ∷ []) (decimal i ∷ decimal m ∷ []) (Fine-node c i h.0, (Fine-u64 m h.1, tt))
plain_fine c (Hear k m) h = only_form (client ∷ any_u64 ∷ []) (decimal k ∷ decimal m ∷ []) (Fine-client k h.0, (Fine-u64 m h.1, tt))
plain_fine c (Lost k i) h = only_form (client ∷ node c.n ∷ []) (decimal k ∷ decimal i ∷ []) (Fine-client k h.0, (Fine-node c i h.1, tt))
plain_fine c (CrashNode i) h = form_cause-none (word (codes "node" ∷ []) ∷ node c.n ∷ []) (codes "node" ∷ decimal i ∷ []) (a_word (codes "node") refl refl, (Fine-node c i h, tt))
plain_fine c (CrashClient k) h = form_cause-none (word (codes "client" ∷ []) ∷ client ∷ []) (codes "client" ∷ decimal k ∷ []) (a_word (codes "client") refl refl, (Fine-client k h, tt))
plain_fine c (Lie m) h = rw (any_fits m h) refl
plain_fine c (Tell m) h = rw (answer_fits m h.0 h.1) refl
plain_fine c (Poke m) h = rw (ask_fits m h.0 h.1) refl
plain_fine c (False k i r) h = only_form (client ∷ node c.n ∷ rule ∷ []) (decimal k ∷ decimal i ∷ rule_text r ∷ []) (Fine-client k h.0, (Fine-node c i h.1, (a_rule r h.2, tt)))
plain_fine c (Sound k i b t v) h =
    only_form (client ∷ node c.n ∷ block c.blocks ∷ any_u64 ∷ value c.size ∷ []) (decimal k ∷ decimal i ∷ decimal b ∷ decimal t ∷ value_text v ∷ [])
    (Fine-client k h.0, (Fine-node c i h.1, (Fine-block c b h.2, (Fine-u64 t h.3, (Fine-value c v h.4, tt)))))
plain_fine c (Mix k i b t v w) h =
    only_form (client ∷ node c.n ∷ block c.blocks ∷ any_u64 ∷ value c.size ∷ value c.size ∷ []) (decimal k ∷ decimal i ∷ decimal b ∷ decimal t ∷ value_text v ∷ value_text w ∷ [])
    (Fine-client k h.0, (Fine-node c i h.1, (Fine-block c b h.2, (Fine-u64 t h.3, (Fine-value c v h.4, (Fine-value c w h.5, tt))))))
plain_fine c (Prune i b) h = only_form (node c.n ∷ block c.blocks ∷ []) (decimal i ∷ decimal b ∷ []) (Fine-node c i h.0, (Fine-block c b h.1, tt))
plain_fine c (Back k) h =
    let fields = codes "client" ∷ decimal k ∷ [] in
    let form = word (codes "client" ∷ []) ∷ client ∷ [] in
    late_form c.edition form fields h.0 (a_word (codes "client") refl refl, (Fine-client k h.1, tt))
plain_fine c (Restart i) h =
    let fields = codes "node" ∷ decimal i ∷ [] in
    let form = word (codes "node" ∷ []) ∷ node c.n ∷ [] in
    late_form c.edition form fields h.0 (a_word (codes "node") refl refl, (Fine-node c i h.1, tt))

pub line_fine : (c : Numbers) (l : ReplayLine) → IsEventLine c l → line_cause c (event_fields l) ≡ None
line_fine c (Plain l) h = plain_fine c l h
line_fine c (Put k o v) h = only_form (client ∷ any_u64 ∷ bytes ∷ []) (decimal k ∷ decimal o ∷ value_text v ∷ []) (Fine-client k h.0, (Fine-u64 o h.1, (Fine-bytes v h.2, tt)))
line_fine c (Get k o n) h = only_form (client ∷ any_u64 ∷ any_u64 ∷ []) (decimal k ∷ decimal o ∷ decimal n ∷ []) (Fine-client k h.0, (Fine-u64 o h.1, (Fine-u64 n h.2, tt)))
line_fine c (Next k) h = only_form (client ∷ []) (decimal k ∷ []) (Fine-client k h, tt)

some_word : (c : Numbers) (l : ReplayLine) → IsEventLine c l → (first : List ℕ) × (rest : List (List ℕ)) × (event_fields l ≡ first ∷ rest)
some_word c l h = by_fields (event_fields l) refl (line_fine c l h)
  where
    by_fields : (fields : List (List ℕ)) → event_fields l ≡ fields → line_cause c (event_fields l) ≡ None → (first : List ℕ) × (rest : List (List ℕ)) × (event_fields l ≡ first ∷ rest)
    by_fields [] e none = let wrong : line_cause c [] ≡ None = rw e at none in absurd cc
    by_fields (first ∷ rest) e none = (first, rest, e)

-- the text comes apart into the fields
pub event_apart : (c : Numbers) (l : ReplayLine) → IsEventLine c l → fields_of (event_text l) ≡ event_fields l
event_apart c l h =
    let w = some_word c l h in
    ap (λ (fs : List (List ℕ)). fields_of (line_of_fields fs)) w.2
    ∙ parts-joined 32 w.0 w.1 (rw w.2 at (event_lacks 32 (lit< tt) (lit< tt) c l h)) ∙ sym w.2

pub event_accepted : (c : Numbers) (l : ReplayLine) → IsEventLine c l → event_cause c (event_text l) ≡ None
unfolding event_cause
event_accepted c l h = ap (line_cause c) (event_apart c l h) ∙ line_fine c l h
