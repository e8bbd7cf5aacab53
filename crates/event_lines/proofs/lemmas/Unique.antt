-- No two event lines share a text.
use Rattle.std.proofs.Common.{◌≡◌, lit≤, ℕ, ◌^◌, ◌<◌, ◌≤◌, List, [], ◌∷◌, get_or, Option, Some, None, unwrap_or, refl, sym, ap, ◌∙◌, arith}
use Rattle.std.specs.Prelude.{codes, decimal, if◌then◌else◌}
use Rattle.std.specs.Str.{bytes_eq}
use Rattle.quorum_rules.specs.Limits.{Numbers}
use Rattle.text_lines.specs.Lines.{fields_of, line_of_fields}
use Rattle.text_lines.specs.Fields.{number_of, value_of, value_text, IsBytes}
use Rattle.text_lines.proofs.lemmas.Numbers.{number_of-decimal}
use Rattle.text_lines.proofs.lemmas.Values.{value_of-text}
use Rattle.wire_forms.specs.declared.message.Message.{Message}
use Rattle.wire_forms.specs.declared.message.Body.TheVariants.{Answer}
use Rattle.wire_forms.specs.declared.message.Reply.TheVariants.{Ack}
use Rattle.wire_forms.specs.declared.rule.Rule.{Rule}
use Rattle.wire_forms.specs.declared.rule.Rule.TheVariants.{Silent, Old, Top, Bad}
use Rattle.message_texts.specs.Texts.{IsMessage, message_fields}
use Rattle.message_texts.proofs.lemmas.Unique.{message_unique}
use Rattle.run_words.specs.declared.line.Line.{Line}
use Rattle.run_words.specs.declared.line.Line.TheVariants as lines
use Rattle.event_lines.specs.declared.line.ReplayLine.{ReplayLine}
use Rattle.event_lines.specs.declared.line.ReplayLine.TheVariants as replay
use Rattle.wire_forms.specs.Liars.{IsClientNumber}
use Rattle.event_lines.specs.Lines.{IsNode, IsBlock, IsEventLine, event_fields, event_text, rule_text}
use Rattle.event_lines.specs.Words.{Form, Speech, LineWord, word_of}
use Rattle.event_lines.specs.declared.word.Form.TheVariants.{Write, Read, Resend, Call, Give, Hear, Lost, Crash, False, Sound, Mix, Prune, Back, Restart, Put, Get, Next}
use Rattle.event_lines.specs.declared.word.Speech.TheVariants.{Lie, Tell, Poke}
use Rattle.event_lines.specs.declared.word.LineWord.TheVariants.{Form as Fields, Speech as Spoken}
use Rattle.event_lines.proofs.lemmas.Accepted.{event_apart}

-- ---- what fields spell, by their place

abbrev number_at : ℕ → ℕ → List (List ℕ) → ℕ
number_at limit place fields = unwrap_or (number_of limit (get_or fields place [])) 0

abbrev value_at : ℕ → List (List ℕ) → List ℕ
value_at place fields = unwrap_or (value_of (get_or fields place [])) []

abbrev rule_in : List ℕ → Rule
rule_in field = if bytes_eq field (codes "old") then Old else (if bytes_eq field (codes "top") then Top else Bad)

abbrev crash_in : List (List ℕ) → ReplayLine
crash_in fields = if bytes_eq (get_or fields 0 []) (codes "node") then replay.Plain (lines.CrashNode (number_at (2 ^ 8) 1 fields)) else replay.Plain (lines.CrashClient (number_at (2 ^ 32) 1 fields))

abbrev form_in : Form → List (List ℕ) → ReplayLine
form_in Write fs = replay.Plain (lines.Write (number_at (2 ^ 32) 0 fs) (number_at (2 ^ 32) 1 fs) (value_at 2 fs))
form_in Read fs = replay.Plain (lines.Read (number_at (2 ^ 32) 0 fs) (number_at (2 ^ 32) 1 fs))
form_in Resend fs = replay.Plain (lines.Resend (number_at (2 ^ 32) 0 fs))
form_in Call fs = replay.Plain (lines.Call (number_at (2 ^ 32) 0 fs) (number_at (2 ^ 8) 1 fs))
form_in Give fs = replay.Plain (lines.Give (number_at (2 ^ 8) 0 fs) (number_at (2 ^ 64) 1 fs))
form_in Hear fs = replay.Plain (lines.Hear (number_at (2 ^ 32) 0 fs) (number_at (2 ^ 64) 1 fs))
form_in Lost fs = replay.Plain (lines.Lost (number_at (2 ^ 32) 0 fs) (number_at (2 ^ 8) 1 fs))
form_in Crash fs = crash_in fs
form_in False fs = replay.Plain (lines.False (number_at (2 ^ 32) 0 fs) (number_at (2 ^ 8) 1 fs) (rule_in (get_or fs 2 [])))
form_in Sound fs = replay.Plain (lines.Sound (number_at (2 ^ 32) 0 fs) (number_at (2 ^ 8) 1 fs) (number_at (2 ^ 32) 2 fs) (number_at (2 ^ 64) 3 fs) (value_at 4 fs))
form_in Mix fs = replay.Plain (lines.Mix (number_at (2 ^ 32) 0 fs) (number_at (2 ^ 8) 1 fs) (number_at (2 ^ 32) 2 fs) (number_at (2 ^ 64) 3 fs) (value_at 4 fs) (value_at 5 fs))
form_in Prune fs = replay.Plain (lines.Prune (number_at (2 ^ 8) 0 fs) (number_at (2 ^ 32) 1 fs))
form_in Back fs = replay.Plain (lines.Back (number_at (2 ^ 32) 1 fs))
form_in Restart fs = replay.Plain (lines.Restart (number_at (2 ^ 8) 1 fs))
form_in Put fs = replay.Put (number_at (2 ^ 32) 0 fs) (number_at (2 ^ 64) 1 fs) (value_at 2 fs)
form_in Get fs = replay.Get (number_at (2 ^ 32) 0 fs) (number_at (2 ^ 64) 1 fs) (number_at (2 ^ 64) 2 fs)
form_in Next fs = replay.Next (number_at (2 ^ 32) 0 fs)

abbrev speech_of : Speech → Message → ReplayLine
speech_of Lie m = replay.Plain (lines.Lie m)
speech_of Tell m = replay.Plain (lines.Tell m)
speech_of Poke m = replay.Plain (lines.Poke m)

abbrev word_in : Option LineWord → Message → List (List ℕ) → ReplayLine
word_in None m fields = replay.Next 0
word_in (Some (Fields form)) m fields = form_in form fields
word_in (Some (Spoken speech)) m fields = speech_of speech m

-- the line of these fields, where its message, if it has one, is m
abbrev line_in : Message → List (List ℕ) → ReplayLine
line_in m [] = replay.Next 0
line_in m (word ∷ rest) = word_in (word_of word) m rest

-- ---- each line is the one of its fields

-- the message of a line that has one
abbrev told : ReplayLine → Option Message
told (replay.Plain (lines.Lie m)) = Some m
told (replay.Plain (lines.Tell m)) = Some m
told (replay.Plain (lines.Poke m)) = Some m
told _ = None

-- the message is the line's, if it has one
abbrev Carries : ReplayLine → Message → Type 0
Carries l m = (x : Message) → told l ≡ Some x → x ≡ m

number_back : (limit n : ℕ) → limit ≤ 2 ^ 64 → n < limit → unwrap_or (number_of limit (decimal n)) 0 ≡ n
number_back limit n small lt = rw (number_of-decimal limit n small lt) refl

client_back : (n : ℕ) → IsClientNumber n → unwrap_or (number_of (2 ^ 32) (decimal n)) 0 ≡ n
client_back n h = number_back (2 ^ 32) n (lit≤ tt) (let k = h.1 in omega arith)

node_back : (c : Numbers) (n : ℕ) → IsNode c n → unwrap_or (number_of (2 ^ 8) (decimal n)) 0 ≡ n
node_back c n h = number_back (2 ^ 8) n (lit≤ tt) h.typed

block_back : (c : Numbers) (n : ℕ) → IsBlock c n → unwrap_or (number_of (2 ^ 32) (decimal n)) 0 ≡ n
block_back c n h = number_back (2 ^ 32) n (lit≤ tt) h.typed

pub u64_back : (n : ℕ) → n < 2 ^ 64 → unwrap_or (number_of (2 ^ 64) (decimal n)) 0 ≡ n
u64_back n h = number_back (2 ^ 64) n (lit≤ tt) h

pub value_back : (v : List ℕ) → IsBytes v → unwrap_or (value_of (value_text v)) [] ≡ v
value_back v h = rw (value_of-text v h) refl

rule_back : (r : Rule) → (r ≡ Silent → ⊥) → rule_in (rule_text r) ≡ r
rule_back Silent h = absurd (h refl)
rule_back Old h = refl
rule_back Top h = refl
rule_back Bad h = refl

plain_back : (c : Numbers) (l : Line) (m : Message) → IsEventLine c (replay.Plain l) → Carries (replay.Plain l) m → line_in m (event_fields (replay.Plain l)) ≡ replay.Plain l
plain_back c (lines.Write k b v) m h e = rw (client_back k h.0, block_back c b h.1, value_back v h.2.bytes) refl
plain_back c (lines.Read k b) m h e = rw (client_back k h.0, block_back c b h.1) refl
plain_back c (lines.Resend k) m h e = rw (client_back k h) refl
plain_back c (lines.Call k i) m h e = rw (client_back k h.0, node_back c i h.1) refl
plain_back c (lines.Give i n) m h e = rw (node_back c i h.0, u64_back n h.1) refl
plain_back c (lines.Hear k n) m h e = rw (client_back k h.0, u64_back n h.1) refl
plain_back c (lines.Lost k i) m h e = rw (client_back k h.0, node_back c i h.1) refl
plain_back c (lines.CrashNode i) m h e = rw (node_back c i h) refl
plain_back c (lines.CrashClient k) m h e = rw (client_back k h) refl
plain_back c (lines.Lie x) m h e = ap (λ (y : Message). replay.Plain (lines.Lie y)) (sym (e x refl))
plain_back c (lines.Tell x) m h e = ap (λ (y : Message). replay.Plain (lines.Tell y)) (sym (e x refl))
plain_back c (lines.Poke x) m h e = ap (λ (y : Message). replay.Plain (lines.Poke y)) (sym (e x refl))
plain_back c (lines.False k i r) m h e = rw (client_back k h.0, node_back c i h.1, rule_back r h.2) refl
plain_back c (lines.Sound k i b t v) m h e = rw (client_back k h.0, node_back c i h.1, block_back c b h.2, u64_back t h.3, value_back v h.4.bytes) refl
plain_back c (lines.Mix k i b t v w) m h e = rw (client_back k h.0, node_back c i h.1, block_back c b h.2, u64_back t h.3, value_back v h.4.bytes, value_back w h.5.bytes) refl
plain_back c (lines.Prune i b) m h e = rw (node_back c i h.0, block_back c b h.1) refl
plain_back c (lines.Back k) m h e = rw (client_back k h.1) refl
plain_back c (lines.Restart i) m h e = rw (node_back c i h.1) refl

line_back : (c : Numbers) (l : ReplayLine) (m : Message) → IsEventLine c l → Carries l m → line_in m (event_fields l) ≡ l
line_back c (replay.Plain l) m h e = plain_back c l m h e
line_back c (replay.Put k o v) m h e = rw (client_back k h.0, u64_back o h.1, value_back v h.2) refl
line_back c (replay.Get k o n) m h e = rw (client_back k h.0, u64_back o h.1, u64_back n h.2) refl
line_back c (replay.Next k) m h e = rw (client_back k h) refl

-- ---- two lines of the same fields

abbrev tail : List (List ℕ) → List (List ℕ)
tail [] = []
tail (field ∷ fields) = fields

-- a line's message is one, and its fields stand behind the word
told_fields : (c : Numbers) (l : ReplayLine) (x : Message) → IsEventLine c l → told l ≡ Some x → IsMessage x × (tail (event_fields l) ≡ message_fields x)
told_fields c (replay.Plain l) x h e = of_line l x h e
  where
    of_line : (l : Line) (x : Message) → IsEventLine c (replay.Plain l) → told (replay.Plain l) ≡ Some x → IsMessage x × (tail (event_fields (replay.Plain l)) ≡ message_fields x)
    of_line (lines.Lie y) x h e = let same : y ≡ x = cc in rw (sym same) (h, refl)
    of_line (lines.Tell y) x h e = let same : y ≡ x = cc in rw (sym same) (h.0, refl)
    of_line (lines.Poke y) x h e = let same : y ≡ x = cc in rw (sym same) (h.0, refl)
    of_line _ x h e = absurd cc
told_fields c _ x h e = absurd cc

carries_told : (l : ReplayLine) (m : Message) → told l ≡ Some m → Carries l m
carries_told l m e x h = let same : Some x ≡ Some m = sym h ∙ e in cc

carries_any : (l : ReplayLine) (m : Message) → told l ≡ None → Carries l m
carries_any l m e x h = let clash : Some x ≡ None = sym h ∙ e in absurd cc

some_message : Message
some_message = record { client = 0; node = 0; tag = record { op = 0; phase = 0 }; body = Answer Ack }

same_message : (c : Numbers) (l k : ReplayLine) (x y : Message) → IsEventLine c l → IsEventLine c k → event_fields l ≡ event_fields k → told l ≡ Some x → told k ≡ Some y → x ≡ y
same_message c l k x y h g e a b =
    let first = told_fields c l x h a in
    let second = told_fields c k y g b in
    let fields : message_fields x ≡ message_fields y = sym first.1 ∙ ap tail e ∙ second.1 in
    message_unique x y first.0 second.0 (ap line_of_fields fields)

-- one message serves both lines
both_carry : (c : Numbers) (l k : ReplayLine) → IsEventLine c l → IsEventLine c k → event_fields l ≡ event_fields k → (m : Message) × Carries l m × Carries k m
both_carry c l k h g e = by_cases (told l) (told k) refl refl
  where
    by_cases : (o p : Option Message) → told l ≡ o → told k ≡ p → (m : Message) × Carries l m × Carries k m
    by_cases None None a b = (some_message, carries_any l some_message a, carries_any k some_message b)
    by_cases (Some x) None a b = (x, carries_told l x a, carries_any k x b)
    by_cases None (Some y) a b = (y, carries_any l y a, carries_told k y b)
    by_cases (Some x) (Some y) a b = (x, carries_told l x a, λ z q. sym (same_message c l k x z h g e a q))

pub one_event : (c : Numbers) (l k : ReplayLine) → IsEventLine c l → IsEventLine c k → event_text l ≡ event_text k → l ≡ k
one_event c l k h g e =
    let fields : event_fields l ≡ event_fields k = sym (event_apart c l h) ∙ ap fields_of e ∙ event_apart c k g in
    let both = both_carry c l k h g fields in
    sym (line_back c l both.0 h both.1) ∙ ap (line_in both.0) fields ∙ line_back c k both.0 g both.2
