-- A session: requests, the replies to them, and how it ends. A request is the bytes that it has.
use Rattle.std.specs.Prelude.{◌≡◌, ◌≢◌, ◌⊎◌, ⊤, ℕ, ◌+◌, ◌*◌, ◌^◌, ◌<◌, ◌≤◌, ◌==◌, ◌&&◌, Bool, if◌then◌else◌, List, [], ◌∷◌, ◌++◌, length, drop, slice_range, Option, Result, Ok, Err}
use Rattle.std.specs.Io.KnownBytes.{Consumes, IsAtEnd}
use Rattle.std.specs.List.{All, concat}
use Rattle.quorum_rules.specs.Limits.{Numbers}
use Rattle.block_device.specs.Device.{merged}
use Rattle.block_device.specs.Ranges.{is_touched}
use Rattle.outside_io.specs.Written.{Adds, TakesPrefix}
use Rattle.nbd_front.specs.declared.request.Request.{Request}
use Rattle.nbd_front.specs.Requests.{request_magic, magic_of, head_len, request_of, data_len, write_kind}
use Rattle.nbd_front.specs.Replies.{error_of, reply_head}
use Rattle.nbd_front.specs.declared.ending.Served.{Served}
use Rattle.nbd_front.specs.declared.ending.Served.TheVariants.{Next, Over}
use Rattle.nbd_front.specs.declared.ending.SessionEnd.{SessionEnd}
use Rattle.nbd_front.specs.declared.ending.SessionEnd.TheVariants.{NoMemory, ReadFault, WriteFault, BadMagic, CutRequest, TooManyRequests}

-- the kinds of requests that read, and that leave
abbrev pub read_kind : ℕ
read_kind = 0

abbrev pub leave_kind : ℕ
leave_kind = 2

-- the most requests of a session
abbrev pub most_requests : ℕ
most_requests = 2 ^ 31

-- the data of a reply: a read's range
abbrev pub sent_of : List ℕ → Request → List ℕ
sent_of array r =
    if r.kind == read_kind && error_of (length array) r == 0 then slice_range array r.offset (r.offset + r.len)
    else []

-- the reply to a request
abbrev pub reply_of : List ℕ → Request → List ℕ
reply_of array r = reply_head (error_of (length array) r) r.handle ++ sent_of array r

-- the array after a request with these data: a write has put them into its range
abbrev pub array_after : List ℕ → Request → List ℕ → List ℕ
array_after array r bytes =
    if r.kind == write_kind && error_of (length array) r == 0 then merged array r.offset bytes
    else array

-- a write that is served puts its data into each block of which its range has a byte
abbrev pub writes_to : Numbers → Request → ℕ → Bool
writes_to c r k = r.kind == write_kind && error_of (c.size * c.blocks) r == 0 && is_touched c.size r.offset r.len k

-- the reply to a request by its bytes, and the array after it
abbrev pub reply_to : List ℕ → List ℕ → List ℕ
reply_to array bytes = reply_of array (request_of bytes)

abbrev pub after_request : List ℕ → List ℕ → List ℕ
after_request array bytes = array_after array (request_of bytes) (drop head_len bytes)

-- the replies to requests, one after the other, and the array after them
abbrev pub replies : List ℕ → List (List ℕ) → List ℕ
replies array [] = []
replies array (bytes ∷ more) = reply_to array bytes ++ replies (after_request array bytes) more

abbrev pub after_requests : List ℕ → List (List ℕ) → List ℕ
after_requests array [] = array
after_requests array (bytes ∷ more) = after_requests (after_request array bytes) more

-- the bytes are one whole request with its data, and it doesn't leave
pub record IsRequest (bytes : List ℕ) : Type 0 where
  pub magic : magic_of bytes ≡ request_magic
  pub size : length bytes ≡ head_len + data_len (request_of bytes)
  pub stays : (request_of bytes).kind ≢ leave_kind

-- the bytes are a request that leaves
pub record IsLeave (bytes : List ℕ) : Type 0 where
  pub magic : magic_of bytes ≡ request_magic
  pub size : length bytes ≡ head_len
  pub leaves : (request_of bytes).kind ≡ leave_kind

-- the bytes are a request's, but not all of them
pub record IsPart (bytes : List ℕ) : Type 0 where
  pub magic : 4 ≤ length bytes → magic_of bytes ≡ request_magic
  pub short : head_len ≤ length bytes → length bytes < head_len + data_len (request_of bytes)

-- why a session ended after the requests before this count and place, where these bytes followed them and these are left. No request
-- begins after the last that a session may have
abbrev pub IsEnd : Result Served SessionEnd → ℕ → ℕ → List ℕ → Option (List ℕ) → Type 0
IsEnd (Ok Next) count place bytes left = ⊥
IsEnd (Ok Over) count place bytes left = (IsLeave bytes × (count < most_requests)) ⊎ ((bytes ≡ []) × IsAtEnd left)
IsEnd (Err (BadMagic at)) count place bytes left = (at ≡ place) × (count < most_requests) × (length bytes ≡ 4) × (magic_of bytes ≢ request_magic)
IsEnd (Err (CutRequest at)) count place bytes left = (at ≡ place) × (count < most_requests) × (0 < length bytes) × IsPart bytes × IsAtEnd left
IsEnd (Err TooManyRequests) count place bytes left = (count ≡ most_requests) × (length bytes ≡ 1)
IsEnd (Err ReadFault) count place bytes left = IsPart bytes × (count ≡ most_requests → bytes ≡ [])
IsEnd (Err WriteFault) count place bytes left = bytes ≡ []
IsEnd (Err NoMemory) count place bytes left = ⊤

-- at these ends the sink has the whole text; where it failed, or memory was wanting, a beginning of it
abbrev pub HasTaken : Result Served SessionEnd → List ℕ → Option (List ℕ) → Option (List ℕ) → Type 0
HasTaken (Err WriteFault) text old new = TakesPrefix old new text
HasTaken (Err NoMemory) text old new = TakesPrefix old new text
HasTaken (Err ReadFault) text old new = Adds old new text
HasTaken (Err (BadMagic at)) text old new = Adds old new text
HasTaken (Err (CutRequest at)) text old new = Adds old new text
HasTaken (Err TooManyRequests) text old new = Adds old new text
HasTaken (Ok Next) text old new = ⊥
HasTaken (Ok Over) text old new = Adds old new text

-- a session of an array, which begins with these words after so many requests of so many bytes: what the source gave, why it
-- ended, and what the sink took
pub record IsSession (words array : List ℕ) (count place : ℕ) (result : Result Served SessionEnd) (left left_after taken taken_after : Option (List ℕ)) : Type 0 where
  -- the whole requests, and the bytes that followed them
  pub requests : List (List ℕ)
  pub rest : List ℕ
  pub whole : All IsRequest requests
  pub few : count + length requests ≤ most_requests
  pub gave : Consumes left left_after (concat requests ++ rest)
  pub ended : IsEnd result (count + length requests) (place + length (concat requests)) rest left_after
  pub said : HasTaken result (words ++ replies array requests) taken taken_after

-- after so many requests the input has ended, or goes on with a request that leaves
abbrev pub IsLast : ℕ → List ℕ → Type 0
IsLast count rest = ((rest ≡ []) × (count ≤ most_requests)) ⊎ ((leave : List ℕ) × (more : List ℕ) × (rest ≡ leave ++ more) × IsLeave leave × (count < most_requests))

-- how a session ends that meets no fault and finds memory, by what stands in its input after the whole requests before this count and
-- place
abbrev pub IsRest : Result Served SessionEnd → ℕ → ℕ → List ℕ → Type 0
IsRest (Ok Over) count place rest = IsLast count rest
IsRest (Err (BadMagic at)) count place rest = (at ≡ place) × (count < most_requests) × (4 ≤ length rest) × (magic_of rest ≢ request_magic)
IsRest (Err (CutRequest at)) count place rest = (at ≡ place) × (count < most_requests) × (0 < length rest) × IsPart rest
IsRest (Err TooManyRequests) count place rest = (count ≡ most_requests) × (0 < length rest)
IsRest (Ok Next) count place rest = ⊥
IsRest (Err ReadFault) count place rest = ⊥
IsRest (Err WriteFault) count place rest = ⊥
IsRest (Err NoMemory) count place rest = ⊥

-- the input is that of a session that ends so, after so many requests of so many bytes
pub record EndsSo (result : Result Served SessionEnd) (count place : ℕ) (input : List ℕ) : Type 0 where
  pub requests : List (List ℕ)
  pub rest : List ℕ
  pub whole : All IsRequest requests
  pub told : input ≡ concat requests ++ rest
  pub last : IsRest result (count + length requests) (place + length (concat requests)) rest

-- a session's end by the answer of the call that serves it
abbrev pub end_as : Result Unit SessionEnd → Result Served SessionEnd
end_as (Ok done) = Ok Over
end_as (Err end) = Err end
