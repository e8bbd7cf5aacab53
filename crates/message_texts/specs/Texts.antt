-- Which messages have a text, and their texts.
use Rattle.std.specs.Prelude.{◌≡◌, ℕ, ◌^◌, ◌<◌, ◌≤◌, List, [], ◌∷◌, ◌++◌, length, codes, decimal, All, Option}
use Rattle.std.specs.declared.option.Option.TheVariants.{None, Some}
use Rattle.std.specs.List.{flat_map}
use Rattle.hex.specs.Hex.{encode_lower}
use Rattle.cross_sum.specs.Digest.{flat}
use Rattle.text_lines.specs.Fields.{value_text}
use Rattle.text_lines.specs.Lines.{line_of_fields}
use Rattle.stamp_order.specs.declared.Stamp.{Stamp}
use Rattle.stamp_order.specs.declared.Bound.{Bound}
use Rattle.stamp_order.specs.declared.Bound.TheVariants.{All as Every, AtMost, Below}
use Rattle.wire_forms.specs.declared.message.Version.{Version}
use Rattle.wire_forms.specs.declared.message.Request.{Request}
use Rattle.wire_forms.specs.declared.message.Request.TheVariants.{Time, Read, Write}
use Rattle.wire_forms.specs.declared.message.Ask.{Ask}
use Rattle.wire_forms.specs.declared.message.Reason.{Reason}
use Rattle.wire_forms.specs.declared.message.Reason.TheVariants.{BadBlock, BadLength, TimeZero, BadVerifier, BadDigest}
use Rattle.wire_forms.specs.declared.message.Reply.{Reply}
use Rattle.wire_forms.specs.declared.message.Reply.TheVariants.{TimeIs, Found, Nothing, Ack, Refused}
use Rattle.wire_forms.specs.declared.message.Body.{Body}
use Rattle.wire_forms.specs.declared.message.Body.TheVariants.{Ask as Asks, Answer as Answers}
use Rattle.wire_forms.specs.declared.message.Message.{Message}

-- ---- which messages have a text: numbers in their types' ranges, and strings up to a limit

-- each number is a byte's
abbrev pub IsBytes : List ℕ → Type 0
IsBytes bytes = All (λ b. b < 256) bytes

-- 32 bytes
pub record IsDigest (digest : List ℕ) : Type 0 where
  pub count : length digest ≡ 32
  pub bytes : IsBytes digest

-- the numbers of a stamp are in their types' ranges
pub record IsStamp (s : Stamp) : Type 0 where
  pub time : s.time < 2 ^ 64
  pub client : s.client < 2 ^ 32
  pub verifier : IsDigest s.verifier

-- at most 32 digests
pub record IsSum (sum : List (List ℕ)) : Type 0 where
  pub digests : All (λ d. length d ≡ 32) sum
  pub bytes : IsBytes (flat sum)
  pub few : length sum ≤ 32

-- at most 16384 bytes
pub record IsFragment (fragment : List ℕ) : Type 0 where
  pub bytes : IsBytes fragment
  pub few : length fragment ≤ 16384

pub record IsVersion (v : Version) : Type 0 where
  pub stamp : IsStamp v.stamp
  pub sum : IsSum v.sum
  pub fragment : IsFragment v.fragment

-- the stamp that a bound names is one
abbrev pub IsBound : Bound → Type 0
IsBound Every = Unit {0}
IsBound (AtMost s) = IsStamp s
IsBound (Below s) = IsStamp s

-- what a request carries is one
abbrev pub IsRequest : Request → Type 0
IsRequest Time = Unit {0}
IsRequest (Read bound) = IsBound bound
IsRequest (Write v) = IsVersion v

pub record IsAsk (ask : Ask) : Type 0 where
  pub block : ask.block < 2 ^ 32
  pub request : IsRequest ask.request

-- each reason has a text
abbrev pub IsReason : Reason → Type 0
IsReason reason = Unit {0}

-- what a reply carries is one
abbrev pub IsReply : Reply → Type 0
IsReply (TimeIs time) = time < 2 ^ 64
IsReply (Found v) = IsVersion v
IsReply _ = Unit {0}

-- what a body carries is one
abbrev pub IsBody : Body → Type 0
IsBody (Asks ask) = IsAsk ask
IsBody (Answers reply) = IsReply reply

-- a message that has a text
pub record IsMessage (m : Message) : Type 0 where
  pub client : m.client < 2 ^ 32
  pub node : m.node < 2 ^ 8
  pub op : m.tag.op < 2 ^ 64
  pub phase : m.tag.phase < 2 ^ 64
  pub body : IsBody m.body

-- the strings that a version carries are within the limits
abbrev pub HasShort : Version → Type 0
HasShort v = (length v.sum ≤ 32) × (length v.fragment ≤ 16384)

-- the strings that a request carries are within the limits
abbrev pub HasShortRequest : Request → Type 0
HasShortRequest (Write v) = HasShort v
HasShortRequest _ = Unit {0}

-- the strings that a message's body carries are within the limits
abbrev pub HasLimits : Body → Type 0
HasLimits (Asks ask) = HasShortRequest ask.request
HasLimits (Answers (Found v)) = HasShort v
HasLimits (Answers _) = Unit {0}

-- ---- the text of a message: fields with a space between two

-- the fields, each after a space
unfoldable pub spaced : List (List ℕ) → List ℕ
spaced fields = flat_map (λ field. 32 ∷ field) fields

-- `T.C.H`: time, client and the verifier's hexadecimal digits
abbrev pub stamp_text : Stamp → List ℕ
stamp_text s = decimal s.time ++ 46 ∷ decimal s.client ++ 46 ∷ encode_lower s.verifier

-- the digests as one value
abbrev pub sum_text : List (List ℕ) → List ℕ
sum_text sum = value_text (flat sum)

abbrev pub version_fields : Version → List (List ℕ)
version_fields v = stamp_text v.stamp ∷ sum_text v.sum ∷ value_text v.fragment ∷ []

abbrev pub bound_fields : Bound → List (List ℕ)
bound_fields Every = codes "all" ∷ []
bound_fields (AtMost s) = codes "atmost" ∷ stamp_text s ∷ []
bound_fields (Below s) = codes "below" ∷ stamp_text s ∷ []

abbrev pub request_fields : Request → List (List ℕ)
request_fields Time = codes "time" ∷ []
request_fields (Read bound) = codes "read" ∷ bound_fields bound
request_fields (Write v) = codes "write" ∷ version_fields v

-- a reason's digit, from 1 on
abbrev pub reason_text : Reason → List ℕ
reason_text BadBlock = codes "1"
reason_text BadLength = codes "2"
reason_text TimeZero = codes "3"
reason_text BadVerifier = codes "4"
reason_text BadDigest = codes "5"

abbrev pub reply_fields : Reply → List (List ℕ)
reply_fields (TimeIs time) = codes "time" ∷ decimal time ∷ []
reply_fields (Found v) = codes "found" ∷ version_fields v
reply_fields Nothing = codes "nothing" ∷ []
reply_fields Ack = codes "ack" ∷ []
reply_fields (Refused reason) = codes "refused" ∷ reason_text reason ∷ []

abbrev pub ask_fields : Ask → List (List ℕ)
ask_fields ask = decimal ask.block ∷ request_fields ask.request

-- the word that a message begins with
abbrev pub word_of : Body → List ℕ
word_of (Asks ask) = codes "ask"
word_of (Answers reply) = codes "answer"

abbrev pub body_fields : Body → List (List ℕ)
body_fields (Asks ask) = ask_fields ask
body_fields (Answers reply) = reply_fields reply

abbrev pub message_fields : Message → List (List ℕ)
message_fields m = word_of m.body ∷ decimal m.client ∷ decimal m.node ∷ decimal m.tag.op ∷ decimal m.tag.phase ∷ body_fields m.body

-- the text of a message
abbrev pub text_of : Message → List ℕ
text_of m = line_of_fields (message_fields m)

-- ---- reading

-- a message has this text
abbrev pub IsText : List ℕ → Type 0
IsText text = (m : Message) × IsMessage m × (text ≡ text_of m)

-- the text is that of the one thing; nothing has it, where there is none
abbrev pub Spells : {A T : Type 0} → (A → Type 0) → (A → T) → T → Option A → Type 0
Spells {A} Is text_of text None = (a : A) → Is a → text ≡ text_of a → ⊥
Spells Is text_of text (Some a) = Is a × (text ≡ text_of a)
