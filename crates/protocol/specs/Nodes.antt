-- What a node that doesn't lie answers, and what it keeps then.
use Rattle.std.specs.Prelude.{ℕ, Bool, false, if◌then◌else◌, not, ◌||◌, ◌==◌, nat_lt, max, List, [], ◌∷◌, length, filter, Option}
use Rattle.std.specs.declared.option.Option.TheVariants.{None, Some}
use Rattle.protocol.specs.Count.{one_more}
use Rattle.stamp_order.specs.declared.Stamp.{Stamp}
use Rattle.stamp_order.specs.declared.Bound.{Bound}
use Rattle.stamp_order.specs.Stamps.{has, up_to, before, same_stamp}
use Rattle.stamp_order.specs.declared.Bound.TheVariants.{AtMost}
use Rattle.protocol.specs.Messages.{flat, Version, Ask, Request, Reason, Reply}
use Rattle.wire_forms.specs.declared.Request.TheVariants.{Time, Read, Write}
use Rattle.wire_forms.specs.declared.Reason.TheVariants.{BadBlock, BadLength, TimeZero, BadVerifier, BadDigest}
use Rattle.wire_forms.specs.declared.Reply.TheVariants.{TimeIs, Found, Nothing, Ack, Refused}
use Rattle.protocol.specs.Setting.{Setting, zeros, first_stamp, digest_at, same}

-- the one of greater stamp
abbrev pub later : Version → Option Version → Version
later v None = v
later v (Some u) = if up_to u.stamp v.stamp then v else u

-- the version of greatest stamp in the bound
abbrev pub greatest_in : Bound → List Version → Option Version
greatest_in bound [] = None
greatest_in bound (v ∷ vs) = if has bound v.stamp then Some (later v (greatest_in bound vs)) else greatest_in bound vs

-- the greatest time of the versions
abbrev pub greatest_time : List Version → ℕ
greatest_time [] = 0
greatest_time (v ∷ vs) = max v.stamp.time (greatest_time vs)

-- a version of this stamp is kept
abbrev pub keeps : List Version → Stamp → Bool
keeps [] stamp = false
keeps (v ∷ vs) stamp = same_stamp v.stamp stamp || keeps vs stamp

-- the version has this stamp
abbrev pub carries : Stamp → Option Version → Bool
carries stamp None = false
carries stamp (Some v) = same_stamp v.stamp stamp

-- the answer to a read
abbrev pub found : Option Version → Reply
found None = Nothing
found (Some v) = Found v

-- the answer to a write
abbrev pub acknowledged : Option Reason → Reply
acknowledged None = Ack
acknowledged (Some reason) = Refused reason

-- a version that isn't refused is added unless its stamp is kept already
abbrev pub added : Option Reason → List Version → Version → Option Version
added (Some reason) vs v = None
added None vs v = if keeps vs v.stamp then None else Some v

module _ (s : Setting) where
  -- the version that node i keeps of a block from the beginning
  abbrev pub first_version : ℕ → Version
  first_version i = record { stamp = first_stamp s; sum = s.sum_of (zeros s); fragment = s.fragment_of (zeros s) i }

  -- why node i refuses a version
  abbrev pub refusal : ℕ → Version → Option Reason
  refusal i v =
      if not (length v.sum == s.n) || not (length v.fragment == s.share) then Some BadLength
      else (if v.stamp.time == 0 then Some TimeZero
      else (if not (same v.stamp.verifier (s.digest (flat v.sum))) then Some BadVerifier
      else (if not (same (s.digest v.fragment) (digest_at s v.sum i)) then Some BadDigest
      else None)))

  -- what node i answers to a request for a block that there is
  abbrev pub reply_in : ℕ → List Version → Request → Reply
  reply_in i vs Time = TimeIs (greatest_time vs)
  reply_in i vs (Read bound) = found (greatest_in bound vs)
  reply_in i vs (Write v) = acknowledged (refusal i v)

  -- the version that it adds then, if any
  abbrev pub added_in : ℕ → List Version → Request → Option Version
  added_in i vs Time = None
  added_in i vs (Read bound) = None
  added_in i vs (Write v) = added (refusal i v) vs v

  -- what node i answers, where it keeps these versions of the asked block
  abbrev pub reply : ℕ → List Version → Ask → Reply
  reply i vs ask = if nat_lt ask.block s.blocks then reply_in i vs ask.request else Refused BadBlock

  -- the version that it accepts then, if any
  abbrev pub accepts : ℕ → List Version → Ask → Option Version
  accepts i vs ask = if nat_lt ask.block s.blocks then added_in i vs ask.request else None

  -- the versions of the asked block that it keeps then
  abbrev pub after : ℕ → List Version → Ask → List Version
  after i vs ask = one_more vs (accepts i vs ask)

  -- a prune by this stamp keeps the first version, the greatest up to the stamp, and all above it
  abbrev pub outlives : Stamp → List Version → Version → Bool
  outlives stamp vs v = same_stamp v.stamp (first_stamp s) || carries v.stamp (greatest_in (AtMost stamp) vs) || before stamp v.stamp

  -- the versions that are kept after a prune, in their order
  abbrev pub pruned : Stamp → List Version → List Version
  pruned stamp vs = filter (outlives stamp vs) vs
