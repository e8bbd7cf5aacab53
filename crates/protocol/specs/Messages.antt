-- What clients and nodes send each other, as the code's types say, and when it is well formed.
use Rattle.std.specs.Prelude.{◌≡◌, ℕ, ◌<◌, List, length}
use Rattle.std.specs.List.{AllByRecursion}
pub use Rattle.cross_sum.specs.Digest.{flat}
pub use Rattle.stamp_order.specs.declared.Stamp.{Stamp}
pub use Rattle.stamp_order.specs.declared.Bound.{Bound}
pub use Rattle.wire_forms.specs.declared.Tag.{Tag}
pub use Rattle.wire_forms.specs.declared.Version.{Version}
pub use Rattle.wire_forms.specs.declared.Request.{Request}
pub use Rattle.wire_forms.specs.declared.Ask.{Ask}
pub use Rattle.wire_forms.specs.declared.Reason.{Reason}
pub use Rattle.wire_forms.specs.declared.Reply.{Reply}
pub use Rattle.wire_forms.specs.declared.Body.{Body}
pub use Rattle.wire_forms.specs.declared.Message.{Message}
use Rattle.wire_forms.specs.declared.Request.TheVariants.{Write}
use Rattle.wire_forms.specs.declared.Reply.TheVariants.{Found}
use Rattle.wire_forms.specs.declared.Body.TheVariants.{Ask as Asks, Answer as Answers}

-- each number is a byte's
abbrev pub IsBytes : List ℕ → Type 0
IsBytes xs = AllByRecursion (λ x. x < 256) xs

-- each digest has 32 bytes
abbrev pub AreDigests : List (List ℕ) → Type 0
AreDigests digests = AllByRecursion (λ d. length d ≡ 32) digests

-- what the types of the code say of a version, and of what carries one
abbrev pub IsFormed : Version → Type 0
IsFormed v = AreDigests v.sum × IsBytes v.fragment

-- the version that is written is formed
abbrev pub IsFormedRequest : Request → Type 0
IsFormedRequest (Write v) = IsFormed v
IsFormedRequest _ = Unit {0}

-- the version that is found is formed
abbrev pub IsFormedReply : Reply → Type 0
IsFormedReply (Found v) = IsFormed v
IsFormedReply _ = Unit {0}

-- what the message carries is formed
abbrev pub IsFormedBody : Body → Type 0
IsFormedBody (Asks ask) = IsFormedRequest ask.request
IsFormedBody (Answers reply) = IsFormedReply reply

-- what answers a message goes back to its client, with its tag
abbrev pub with_reply : Message → Reply → Message
with_reply m reply = record { client = m.client; node = m.node; tag = m.tag; body = Answers reply }

-- the body is an ask
abbrev pub IsAsk : Body → Type 0
IsAsk (Asks ask) = Unit {0}
IsAsk (Answers reply) = ⊥
