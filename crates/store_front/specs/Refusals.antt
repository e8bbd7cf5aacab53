-- Writes that are refused: their data are dropped as they come, and none of them is kept.
use Rattle.std.specs.Prelude.{◌≡◌, ◌≢◌, ℕ, ◌+◌, ◌*◌, ◌<◌, ◌≤◌, List, ◌++◌, length, Option, Result, Ok, Err}
use Rattle.std.specs.Io.KnownBytes.{Consumes, IsAtEnd}
use Rattle.quorum_rules.specs.Limits.{Numbers}
use Rattle.outside_io.specs.Written.{TakesPrefix, Adds}
use Rattle.nbd_front.specs.declared.request.Request.{Request}
use Rattle.nbd_front.specs.Requests.{head_len, request_of, write_kind}
use Rattle.nbd_front.specs.Replies.{reply_head}
use Rattle.nbd_front.specs.Sessions.{IsPart}
use Rattle.nbd_front.specs.declared.ending.SessionEnd.{SessionEnd}
use Rattle.nbd_front.specs.declared.ending.SessionEnd.TheVariants.{NoMemory, ReadFault, WriteFault, BadMagic, CutRequest, TooManyRequests}
use Rattle.exact_input.specs.Counts.{GaveFewer}
use Rattle.store_front.specs.Requests.{error_of}

-- the head of a write that is refused, and not all of its data
pub record IsRefused (c : Numbers) (bytes : List ℕ) (r : Request) : Type 0 where
  pub long : head_len ≤ length bytes
  pub part : IsPart bytes
  pub is : r ≡ request_of bytes
  pub writes : r.kind ≡ write_kind
  pub fails : error_of (c.size * c.blocks) r ≢ 0

-- the reply to it
abbrev pub refusal : Numbers → Request → List ℕ
refusal c r = reply_head (error_of (c.size * c.blocks) r) r.handle

-- the source gave the rest of the request, of which these bytes had come
pub record HasDropped (r : Request) (bytes : List ℕ) (left left_after : Option (List ℕ)) : Type 0 where
  pub more : List ℕ
  pub gave : Consumes left left_after more
  pub all : length (bytes ++ more) ≡ head_len + r.len

-- the source gave less of it
pub record HasDroppedLess (r : Request) (bytes : List ℕ) (left left_after : Option (List ℕ)) : Type 0 where
  pub more : List ℕ
  pub gave : Consumes left left_after more
  pub short : length (bytes ++ more) < head_len + r.len

-- What became of a write that is refused, whose head begins at this place and of which these bytes had come: it has so many bytes, and the
-- sink took the reply to it, or a beginning where it failed.
abbrev pub RefusesWrite : Numbers → Request → ℕ → List ℕ → (left left_after taken taken_after : Option (List ℕ)) → Result ℕ SessionEnd → Type 0
RefusesWrite c r place bytes left left_after taken taken_after (Ok len) =
    HasDropped r bytes left left_after × (len ≡ head_len + r.len) × Adds taken taken_after (refusal c r)
RefusesWrite c r place bytes left left_after taken taken_after (Err WriteFault) = HasDropped r bytes left left_after × TakesPrefix taken taken_after (refusal c r)
RefusesWrite c r place bytes left left_after taken taken_after (Err NoMemory) = HasDropped r bytes left left_after × (taken_after ≡ taken)
RefusesWrite c r place bytes left left_after taken taken_after (Err ReadFault) = HasDroppedLess r bytes left left_after × (taken_after ≡ taken)
RefusesWrite c r place bytes left left_after taken taken_after (Err (CutRequest at)) =
    HasDroppedLess r bytes left left_after × (at ≡ place) × IsAtEnd left_after × (taken_after ≡ taken)
RefusesWrite c r place bytes left left_after taken taken_after (Err (BadMagic at)) = ⊥
RefusesWrite c r place bytes left left_after taken taken_after (Err TooManyRequests) = ⊥

-- ---- its parts

-- why not all of so many bytes of data could be dropped, of a request that begins at this place
abbrev pub IsDropEnd : ℕ → ℕ → Option (List ℕ) → Option (List ℕ) → SessionEnd → Type 0
IsDropEnd len place left left_after ReadFault = GaveFewer len left left_after
IsDropEnd len place left left_after (CutRequest at) = (at ≡ place) × GaveFewer len left left_after × IsAtEnd left_after
IsDropEnd len place left left_after (BadMagic at) = ⊥
IsDropEnd len place left left_after NoMemory = ⊥
IsDropEnd len place left left_after WriteFault = ⊥
IsDropEnd len place left left_after TooManyRequests = ⊥

-- why the reply wasn't taken whole
abbrev pub IsReplyEnd : Numbers → Request → Option (List ℕ) → Option (List ℕ) → SessionEnd → Type 0
IsReplyEnd c r taken taken_after WriteFault = TakesPrefix taken taken_after (refusal c r)
IsReplyEnd c r taken taken_after NoMemory = taken_after ≡ taken
IsReplyEnd c r taken taken_after ReadFault = ⊥
IsReplyEnd c r taken taken_after (CutRequest at) = ⊥
IsReplyEnd c r taken taken_after (BadMagic at) = ⊥
IsReplyEnd c r taken taken_after TooManyRequests = ⊥
