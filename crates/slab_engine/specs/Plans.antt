-- What a node answers by what it remembers of its slots.
use Rattle.std.specs.Prelude.{◌≡◌, ℕ, Bool, ◌&&◌, ◌||◌, if◌then◌else◌, List, ◌∷◌, map, Contains, Option, Some, None}
use Rattle.stamp_order.specs.declared.Stamp.{Stamp}
use Rattle.stamp_order.specs.declared.Bound.{Bound}
use Rattle.stamp_order.specs.Stamps.{has, up_to, same_stamp}
use Rattle.protocol.specs.Messages.{Version, Ask, Request, Reason, Reply}
use Rattle.protocol.specs.Nodes.{reply_in, added_in, refusal}
use Rattle.protocol.specs.Setting.{Setting}
use Rattle.wire_forms.specs.declared.Reply.TheVariants.{TimeIs, Found, Nothing, Ack, Refused}
use Rattle.wire_forms.specs.declared.Request.TheVariants.{Time, Read, Write}
use Rattle.slab_index.specs.declared.kept.Kept.{Kept}
use Rattle.slab_index.specs.Kept.{stamp_of, greatest_kept, keeps_stamp, latest_time, kept_in}
use Rattle.slab_engine.specs.declared.plan.Plan.{Plan}
use Rattle.slab_engine.specs.declared.plan.Plan.TheVariants.{Silent, Tells, First, Empty, Reads, Acks, Refuses, Adds}

-- the slot whose version is read, where it isn't the first version
abbrev pub later_slot : Stamp → Bound → Option Kept → Option Kept
later_slot first bound None = None
later_slot first bound (Some k) = if has bound first && up_to (stamp_of k) first then None else Some k

-- what comes of a read, of a write, and of an ask for a block that there is
abbrev pub read_plan : Bool → Option Kept → Plan
read_plan in_bound (Some k) = Reads k
read_plan in_bound None = if in_bound then First else Empty

abbrev pub write_plan : Option Reason → Bool → Plan
write_plan (Some reason) is_kept = Refuses reason
write_plan None is_kept = if is_kept then Acks else Adds

abbrev pub plan_in : Setting → ℕ → Stamp → List Kept → Request → Plan
plan_in s number first kept Time = Tells (latest_time kept)
plan_in s number first kept (Read bound) = read_plan (has bound first) (later_slot first bound (greatest_kept bound kept))
plan_in s number first kept (Write v) = write_plan (refusal s number v) (same_stamp first v.stamp || keeps_stamp kept v.stamp)

-- what comes of an ask, where these blocks are answered for
abbrev pub plan_at : Setting → ℕ → Stamp → (ℕ → Bool) → List (List Kept) → Ask → Plan
plan_at s number first answers index ask = if answers ask.block then plan_in s number first (kept_in index ask.block) ask.request else Silent

-- what is replied, where the slots have these versions
abbrev pub said : Version → (Kept → Version) → Plan → Option Reply
said first version Silent = None
said first version (Tells time) = Some (TimeIs time)
said first version First = Some (Found first)
said first version Empty = Some Nothing
said first version (Reads k) = Some (Found (version k))
said first version Acks = Some Ack
said first version (Refuses reason) = Some (Refused reason)
said first version Adds = Some Ack

-- nothing may come of it
abbrev pub IsUnsaid : Plan → Type 0
IsUnsaid Silent = Unit {0}
IsUnsaid (Reads k) = Unit {0}
IsUnsaid _ = ⊥

-- a version is added, or none
abbrev pub AddsAsPlanned : Setting → ℕ → List Version → Request → Plan → Type 0
AddsAsPlanned s number vs q Adds = (v : Version) × (q ≡ Write v) × (refusal s number v ≡ None) × (added_in s number vs q ≡ Some v)
AddsAsPlanned s number vs q _ = added_in s number vs q ≡ None

-- a slot that is read is one of these
abbrev pub ReadsOneOf : List Kept → Plan → Type 0
ReadsOneOf kept (Reads k) = Contains kept k
ReadsOneOf kept _ = Unit {0}

-- this comes of an ask, where a node keeps the first version and those of slots
pub record IsPlan (s : Setting) (number : ℕ) (first : Version) (version : Kept → Version) (kept : List Kept) (q : Request) (plan : Plan) : Type 0 where
  pub reply : said first version plan ≡ Some (reply_in s number (first ∷ map version kept) q)
  pub adds : AddsAsPlanned s number (first ∷ map version kept) q plan
  pub reads : ReadsOneOf kept plan
