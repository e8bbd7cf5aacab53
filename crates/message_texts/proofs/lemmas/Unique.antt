-- No two messages share a text.
use Rattle.std.proofs.Common.{◌≡◌, ℕ, ◌^◌, ◌<◌, List, [], ◌∷◌, length, refl, sym, ap, ◌∙◌, arith}
use Rattle.std.specs.Prelude.{decimal, All, ◌==◌, if◌then◌else◌}
use Rattle.std.proofs.lemmas.Fmt.{decimal_injective}
use Rattle.std.proofs.lemmas.List.{length-append}
use Rattle.std.proofs.lemmas.List.Elements.{All-head, All-tail}
use Rattle.hex.specs.Hex.{encode_lower}
use Rattle.cross_sum.specs.Digest.{flat}
use Rattle.text_lines.specs.Lines.{fields_of, parts_at}
use Rattle.stamp_order.specs.declared.Stamp.{Stamp}
use Rattle.stamp_order.specs.declared.Bound.{Bound}
use Rattle.stamp_order.specs.declared.Bound.TheVariants.{All as Every, AtMost, Below}
use Rattle.wire_forms.specs.declared.message.Version.{Version}
use Rattle.wire_forms.specs.declared.message.Request.{Request}
use Rattle.wire_forms.specs.declared.message.Request.TheVariants.{Time, Read, Write}
use Rattle.wire_forms.specs.declared.message.Ask.{Ask}
use Rattle.wire_forms.specs.declared.message.Reason.{Reason}
use Rattle.wire_forms.specs.declared.message.Reason.TheVariants.{BadBlock, BadLength, TimeZero, BadVerifier, BadDigest}
use Rattle.wire_forms.specs.declared.message.Reply.{Reply}
use Rattle.wire_forms.specs.declared.message.Reply.TheVariants.{TimeIs, Found, Nothing, Ack, Refused}
use Rattle.wire_forms.specs.declared.message.Body.{Body}
use Rattle.wire_forms.specs.declared.message.Body.TheVariants.{Ask as Asks, Answer as Answers}
use Rattle.wire_forms.specs.declared.message.Message.{Message}
use Rattle.message_texts.specs.Texts.{IsStamp, IsSum, IsVersion, IsBound, IsRequest, IsAsk, IsReply, IsBody, IsMessage, stamp_text, sum_text, version_fields, bound_fields, request_fields, ask_fields, reason_text, reply_fields, word_of, body_fields, message_fields, text_of}
use Rattle.message_texts.proofs.lemmas.Spelling.{stamp_parts, value_text_injective, encode_injective}
use Rattle.message_texts.proofs.lemmas.Fields.{fields-text_of}
use Rattle.lists.proofs.lemmas.Members.{append_inj}

number_unique : (m n : ℕ) → m < 2 ^ 64 → n < 2 ^ 64 → decimal m ≡ decimal n → m ≡ n
number_unique m n a b e = decimal_injective m n a b e

stamp_of : ℕ → ℕ → List ℕ → Stamp
stamp_of time client verifier = record { time = time; client = client; verifier = verifier }

version_of : Stamp → List (List ℕ) → List ℕ → Version
version_of stamp sum fragment = record { stamp = stamp; sum = sum; fragment = fragment }

message_of : ℕ → ℕ → ℕ → ℕ → Body → Message
message_of client node op phase body = record { client = client; node = node; tag = record { op = op; phase = phase }; body = body }

stamp_unique : (s t : Stamp) → IsStamp s → IsStamp t → stamp_text s ≡ stamp_text t → s ≡ t
unfolding stamp_of
stamp_unique s t a b e =
    let parts : decimal s.time ∷ decimal s.client ∷ encode_lower s.verifier ∷ [] ≡ decimal t.time ∷ decimal t.client ∷ encode_lower t.verifier ∷ [] =
    sym (stamp_parts s a) ∙ ap (parts_at 46) e ∙ stamp_parts t b in
    let time : s.time ≡ t.time = number_unique s.time t.time a.time b.time (cc) in
    let ca = a.client in
    let cb = b.client in
    let client : s.client ≡ t.client = number_unique s.client t.client (omega arith) (omega arith) (cc) in
    let verifier : s.verifier ≡ t.verifier = encode_injective s.verifier t.verifier a.verifier.bytes b.verifier.bytes (cc) in
    ap (λ (x : ℕ). stamp_of x s.client s.verifier) time ∙ ap (λ (x : ℕ). stamp_of t.time x s.verifier) client ∙ ap (λ (x : List ℕ). stamp_of t.time t.client x) verifier

flat_unique : (s t : List (List ℕ)) → All (λ d. length d ≡ 32) s → All (λ d. length d ≡ 32) t → flat s ≡ flat t → s ≡ t
flat_unique [] [] a b e = refl
flat_unique [] (d ∷ t) a b e =
    let one : length d ≡ 32 = All-head (λ (x : List ℕ). length x ≡ 32) d t b in
    let n = ap length e in absurd (omega (arith, one, n, length-append d (flat t)))
flat_unique (d ∷ s) [] a b e =
    let one : length d ≡ 32 = All-head (λ (x : List ℕ). length x ≡ 32) d s a in
    let n = ap length e in absurd (omega (arith, one, n, length-append d (flat s)))
flat_unique (c ∷ s) (d ∷ t) a b e =
    let one : length c ≡ 32 = All-head (λ (x : List ℕ). length x ≡ 32) c s a in
    let other : length d ≡ 32 = All-head (λ (x : List ℕ). length x ≡ 32) d t b in
    let p = append_inj c d (flat s) (flat t) (omega (arith, one, other)) e in
    let h = p.0 in
    let more = flat_unique s t (All-tail (λ (x : List ℕ). length x ≡ 32) c s a) (All-tail (λ (x : List ℕ). length x ≡ 32) d t b) p.1 in
    cc

sum_unique : (s t : List (List ℕ)) → IsSum s → IsSum t → sum_text s ≡ sum_text t → s ≡ t
sum_unique s t a b e = flat_unique s t a.digests b.digests (value_text_injective (flat s) (flat t) a.bytes b.bytes e)

version_unique : (u v : Version) → IsVersion u → IsVersion v → version_fields u ≡ version_fields v → u ≡ v
unfolding version_of
version_unique u v a b e =
    let stamp : u.stamp ≡ v.stamp = stamp_unique u.stamp v.stamp a.stamp b.stamp (cc) in
    let sum : u.sum ≡ v.sum = sum_unique u.sum v.sum a.sum b.sum (cc) in
    let fragment : u.fragment ≡ v.fragment = value_text_injective u.fragment v.fragment a.fragment.bytes b.fragment.bytes (cc) in
    ap (λ (x : Stamp). version_of x u.sum u.fragment) stamp ∙ ap (λ (x : List (List ℕ)). version_of v.stamp x u.fragment) sum ∙ ap (λ (x : List ℕ). version_of v.stamp v.sum x) fragment

bound_unique : (u v : Bound) → IsBound u → IsBound v → bound_fields u ≡ bound_fields v → u ≡ v
bound_unique Every Every a b e = refl
bound_unique (AtMost s) (AtMost t) a b e = ap (λ (x : Stamp). AtMost x) (stamp_unique s t a b (cc))
bound_unique (Below s) (Below t) a b e = ap (λ (x : Stamp). Below x) (stamp_unique s t a b (cc))
bound_unique Every (AtMost t) a b e = absurd (cc)
bound_unique Every (Below t) a b e = absurd (cc)
bound_unique (AtMost s) Every a b e = absurd (cc)
bound_unique (AtMost s) (Below t) a b e = absurd (cc)
bound_unique (Below s) Every a b e = absurd (cc)
bound_unique (Below s) (AtMost t) a b e = absurd (cc)

-- the first letter of the first field
abbrev letter : List (List ℕ) → ℕ
letter [] = 0
letter ([] ∷ fields) = 0
letter ((c ∷ field) ∷ fields) = c

letters : (u v : List (List ℕ)) (m n : ℕ) → u ≡ v → letter u ≡ m → letter v ≡ n → m ≡ n
letters u v m n e a b = sym a ∙ ap letter e ∙ b

request_unique : (u v : Request) → IsRequest u → IsRequest v → request_fields u ≡ request_fields v → u ≡ v
request_unique Time Time a b e = refl
request_unique (Read x) (Read y) a b e = ap (λ (x : Bound). Read x) (bound_unique x y a b (cc))
request_unique (Write x) (Write y) a b e = ap (λ (x : Version). Write x) (version_unique x y a b (cc))
request_unique Time (Read y) a b e = absurd (omega (arith, letters _ _ 116 114 e refl refl))
request_unique Time (Write y) a b e = absurd (omega (arith, letters _ _ 116 119 e refl refl))
request_unique (Read x) Time a b e = absurd (omega (arith, letters _ _ 114 116 e refl refl))
request_unique (Read x) (Write y) a b e = absurd (omega (arith, letters _ _ 114 119 e refl refl))
request_unique (Write x) Time a b e = absurd (omega (arith, letters _ _ 119 116 e refl refl))
request_unique (Write x) (Read y) a b e = absurd (omega (arith, letters _ _ 119 114 e refl refl))

ask_of : ℕ → Request → Ask
ask_of block request = record { block = block; request = request }

ask_unique : (u v : Ask) → IsAsk u → IsAsk v → ask_fields u ≡ ask_fields v → u ≡ v
unfolding ask_of
ask_unique u v a b e =
    let ba = a.block in
    let bb = b.block in
    let block : u.block ≡ v.block = number_unique u.block v.block (omega arith) (omega arith) (cc) in
    let request : u.request ≡ v.request = request_unique u.request v.request a.request b.request (cc) in
    ap (λ (x : ℕ). ask_of x u.request) block ∙ ap (λ (x : Request). ask_of v.block x) request

reason_numbered : ℕ → Reason
reason_numbered n = if n == 49 then BadBlock else (if n == 50 then BadLength else (if n == 51 then TimeZero else (if n == 52 then BadVerifier else BadDigest)))

first_of : List ℕ → ℕ
first_of [] = 0
first_of (x ∷ xs) = x

numbered_back : (r : Reason) → reason_numbered (first_of (reason_text r)) ≡ r
unfolding reason_numbered first_of
numbered_back BadBlock = refl
numbered_back BadLength = refl
numbered_back TimeZero = refl
numbered_back BadVerifier = refl
numbered_back BadDigest = refl

reason_unique : (u v : Reason) → reason_text u ≡ reason_text v → u ≡ v
reason_unique u v e = sym (numbered_back u) ∙ ap (λ (x : List ℕ). reason_numbered (first_of x)) e ∙ numbered_back v

reply_unique : (u v : Reply) → IsReply u → IsReply v → reply_fields u ≡ reply_fields v → u ≡ v
reply_unique (TimeIs x) (TimeIs y) a b e = ap (λ (x : ℕ). TimeIs x) (number_unique x y a b (cc))
reply_unique (Found x) (Found y) a b e = ap (λ (x : Version). Found x) (version_unique x y a b (cc))
reply_unique Nothing Nothing a b e = refl
reply_unique Ack Ack a b e = refl
reply_unique (Refused x) (Refused y) a b e = ap (λ (x : Reason). Refused x) (reason_unique x y (cc))
reply_unique (TimeIs x) (Found y) a b e = absurd (omega (arith, letters _ _ 116 102 e refl refl))
reply_unique (TimeIs x) Nothing a b e = absurd (omega (arith, letters _ _ 116 110 e refl refl))
reply_unique (TimeIs x) Ack a b e = absurd (omega (arith, letters _ _ 116 97 e refl refl))
reply_unique (TimeIs x) (Refused y) a b e = absurd (omega (arith, letters _ _ 116 114 e refl refl))
reply_unique (Found x) (TimeIs y) a b e = absurd (omega (arith, letters _ _ 102 116 e refl refl))
reply_unique (Found x) Nothing a b e = absurd (omega (arith, letters _ _ 102 110 e refl refl))
reply_unique (Found x) Ack a b e = absurd (omega (arith, letters _ _ 102 97 e refl refl))
reply_unique (Found x) (Refused y) a b e = absurd (omega (arith, letters _ _ 102 114 e refl refl))
reply_unique Nothing (TimeIs y) a b e = absurd (omega (arith, letters _ _ 110 116 e refl refl))
reply_unique Nothing (Found y) a b e = absurd (omega (arith, letters _ _ 110 102 e refl refl))
reply_unique Nothing Ack a b e = absurd (omega (arith, letters _ _ 110 97 e refl refl))
reply_unique Nothing (Refused y) a b e = absurd (omega (arith, letters _ _ 110 114 e refl refl))
reply_unique Ack (TimeIs y) a b e = absurd (omega (arith, letters _ _ 97 116 e refl refl))
reply_unique Ack (Found y) a b e = absurd (omega (arith, letters _ _ 97 102 e refl refl))
reply_unique Ack Nothing a b e = absurd (omega (arith, letters _ _ 97 110 e refl refl))
reply_unique Ack (Refused y) a b e = absurd (omega (arith, letters _ _ 97 114 e refl refl))
reply_unique (Refused x) (TimeIs y) a b e = absurd (omega (arith, letters _ _ 114 116 e refl refl))
reply_unique (Refused x) (Found y) a b e = absurd (omega (arith, letters _ _ 114 102 e refl refl))
reply_unique (Refused x) Nothing a b e = absurd (omega (arith, letters _ _ 114 110 e refl refl))
reply_unique (Refused x) Ack a b e = absurd (omega (arith, letters _ _ 114 97 e refl refl))

body_unique : (u v : Body) → IsBody u → IsBody v → word_of u ≡ word_of v → body_fields u ≡ body_fields v → u ≡ v
body_unique (Asks x) (Asks y) a b w e = ap (λ (x : Ask). Asks x) (ask_unique x y a b e)
body_unique (Answers x) (Answers y) a b w e = ap (λ (x : Reply). Answers x) (reply_unique x y a b e)
body_unique (Asks x) (Answers y) a b w e = absurd (cc)
body_unique (Answers x) (Asks y) a b w e = absurd (cc)

pub message_unique : (m n : Message) → IsMessage m → IsMessage n → text_of m ≡ text_of n → m ≡ n
unfolding message_of
message_unique m n a b e =
    let fields : message_fields m ≡ message_fields n = sym (fields-text_of m a) ∙ ap fields_of e ∙ fields-text_of n b in
    let ca = a.client in
    let cb = b.client in
    let na = a.node in
    let nb = b.node in
    let client : m.client ≡ n.client = number_unique m.client n.client (omega arith) (omega arith) (cc) in
    let node : m.node ≡ n.node = number_unique m.node n.node (omega arith) (omega arith) (cc) in
    let op : m.tag.op ≡ n.tag.op = number_unique m.tag.op n.tag.op a.op b.op (cc) in
    let phase : m.tag.phase ≡ n.tag.phase = number_unique m.tag.phase n.tag.phase a.phase b.phase (cc) in
    let body : m.body ≡ n.body = body_unique m.body n.body a.body b.body (cc) (cc) in
    ap (λ (x : ℕ). message_of x m.node m.tag.op m.tag.phase m.body) client
    ∙ ap (λ (x : ℕ). message_of n.client x m.tag.op m.tag.phase m.body) node
    ∙ ap (λ (x : ℕ). message_of n.client n.node x m.tag.phase m.body) op
    ∙ ap (λ (x : ℕ). message_of n.client n.node n.tag.op x m.body) phase
    ∙ ap (λ (x : Body). message_of n.client n.node n.tag.op n.tag.phase x) body
