-- What contracts see of a server.
use Rattle.std.specs.Prelude.{◌≡◌, ℕ, ◌+◌, ◌*◌, ◌^◌, ◌<◌, ◌≤◌, List, [], length, drop, slice_range, IfSome, Option, Some, None, Result, Ok, Err, ◌≢◌}
use Rattle.std.specs.Io.KnownBytes.{Consumes}
use Rattle.node_device.specs.Held.{Held}
use Rattle.node_device.specs.Devices.{SeenDevice}
use Rattle.nbd_front.specs.Arrays.{array_of, time_at, HaveTimes, IsInOrder, IsWrittenUpTo}
use Rattle.nbd_front.specs.Answers.{most_steps}
use Rattle.nbd_front.specs.declared.request.Request.{Request}
use Rattle.nbd_front.specs.Requests.{request_magic, magic_of, head_len, request_of, write_kind}
use Rattle.nbd_front.specs.Replies.{error_of}
use Rattle.nbd_front.specs.declared.ending.SessionEnd.{SessionEnd}
use Rattle.nbd_front.specs.declared.ending.SessionEnd.TheVariants.{NoMemory, ReadFault, WriteFault, BadMagic, CutRequest, TooManyRequests}
use Rattle.nbd_front.specs.declared.ending.Served.{Served}
use Rattle.nbd_front.specs.declared.ending.Served.TheVariants.{Next, Over}
use Rattle.nbd_front.specs.declared.turn.Asked.{Asked}
use Rattle.outside_io.specs.Written.{Adds, TakesPrefix}
use Rattle.nbd_front.specs.Sessions.{reply_to, after_request, writes_to, most_requests, IsEnd, IsRequest}

-- a server: its device, how many requests it served, and how many bytes of the input they had
pub record SeenServer : Type 0 where
  pub device : SeenDevice
  pub served : ℕ
  pub place : ℕ

-- the bytes that it serves
abbrev pub bytes_of : SeenServer → List ℕ
bytes_of s = array_of s.device.held

-- block k of them, with how often it was written
abbrev pub block_of : SeenServer → ℕ → Held
block_of s k = record { time = time_at s.device k; value = slice_range (bytes_of s) (k * s.device.config.size) ((k + 1) * s.device.config.size) }

-- how many bytes a request has at most, with its data
abbrev pub most_len : ℕ
most_len = 2 ^ 32 + 28

-- how many requests a client serves before another one takes its place
abbrev pub life_len : ℕ
life_len = 2 ^ 14

-- a client serves the requests of its life, each by few operations
pub record IsInLife (d : SeenDevice) (served : ℕ) : Type 0 where
  pub begun : life_len * d.life ≤ served
  pub few : served ≤ life_len * (d.life + 1)
  pub steps : d.started + most_steps * (life_len * d.life) ≤ most_steps * served

-- after so many requests of so many bytes the device is in order
pub record IsServer (d : SeenDevice) (served place : ℕ) : Type 0 where
  pub order : IsInOrder d
  pub times : IsWrittenUpTo served d
  pub life : IsInLife d served
  pub few : served ≤ most_requests
  pub near : place ≤ served * most_len

-- the server has served this request
pub record HasServed (bytes : List ℕ) (old new : SeenServer) : Type 0 where
  pub config : new.device.config ≡ old.device.config
  pub array : bytes_of new ≡ after_request (bytes_of old) bytes
  pub times : HaveTimes (writes_to old.device.config (request_of bytes)) old.device new.device
  pub served : new.served ≡ old.served + 1
  pub place : new.place ≡ old.place + length bytes

-- the client may serve one more request; it is the same, or a later one that has served none
pub record HasRefreshed (served : ℕ) (old new : SeenDevice) : Type 0 where
  pub same : new ≡ record old { life = new.life; started = new.started }
  pub life : IsInLife new served
  pub more : served < life_len * (new.life + 1)

-- the source gave the bytes of a request, its data aside
pub record HasCome (r : Request) (served : ℕ) (left left_after : Option (List ℕ)) : Type 0 where
  pub bytes : List ℕ
  pub gave : Consumes left left_after bytes
  pub size : length bytes ≡ head_len
  pub magic : magic_of bytes ≡ request_magic
  pub is : r ≡ request_of bytes
  pub few : served < most_requests

-- the source gave bytes by which the session ends, and no request is answered
pub record HasNotCome (end : SessionEnd) (served place : ℕ) (left left_after : Option (List ℕ)) : Type 0 where
  pub bytes : List ℕ
  pub gave : Consumes left left_after bytes
  pub few : served ≤ most_requests
  pub ends : IsEnd (Err end) served place bytes left_after
  pub early : end ≢ WriteFault

-- where no request may come any more: a byte came, or none could be read
abbrev pub IsPastTheLast : SessionEnd → Option (List ℕ) → Option (List ℕ) → Type 0
IsPastTheLast TooManyRequests left left_after = (bytes : List ℕ) × Consumes left left_after bytes × (length bytes ≡ 1)
IsPastTheLast ReadFault left left_after = Consumes left left_after []
IsPastTheLast NoMemory left left_after = ⊥
IsPastTheLast WriteFault left left_after = ⊥
IsPastTheLast (BadMagic at) left left_after = ⊥
IsPastTheLast (CutRequest at) left left_after = ⊥

-- the client left, or the input ended
pub record HasLeft (served place : ℕ) (left left_after : Option (List ℕ)) : Type 0 where
  pub bytes : List ℕ
  pub gave : Consumes left left_after bytes
  pub few : served ≤ most_requests
  pub ends : IsEnd (Ok Over) served place bytes left_after

-- the request that these bytes are, with its data and the error of its reply by a device of so many bytes
pub record IsAsked (size : ℕ) (bytes : List ℕ) (asked : Asked) : Type 0 where
  pub whole : IsRequest bytes
  pub request : asked.request ≡ request_of bytes
  pub error : asked.error ≡ error_of size asked.request
  pub written : asked.request.kind ≡ write_kind → asked.error ≡ 0 → asked.bytes.items ≡ drop head_len bytes

-- the source gave the bytes of a request
abbrev pub HasAsked : ℕ → ℕ → Option (List ℕ) → Option (List ℕ) → Asked → Type 0
HasAsked size served left left_after asked = (bytes : List ℕ) × Consumes left left_after bytes × (served < most_requests) × IsAsked size bytes asked

-- what these bytes ask was done after so many requests, and this is the reply to it
pub record HasReplied (served : ℕ) (bytes : List ℕ) (old new : SeenDevice) (reply : List ℕ) : Type 0 where
  pub told : reply ≡ reply_to (array_of old.held) bytes
  pub config : new.config ≡ old.config
  pub array : array_of new.held ≡ after_request (array_of old.held) bytes
  pub times : HaveTimes (writes_to old.config (request_of bytes)) old new
  pub server : (place : ℕ) → place ≤ served * most_len → length bytes ≤ most_len → IsServer new (served + 1) (place + length bytes)

-- there is a server, and it is so
abbrev pub IsLeft : Option SeenServer → (SeenServer → Type 0) → Type 0
IsLeft None P = ⊥
IsLeft (Some s) P = P s

-- the session has ended here
pub record HasFinished (end : Result Served SessionEnd) (old : SeenServer) (left left_after : Option (List ℕ)) : Type 0 where
  pub bytes : List ℕ
  pub gave : Consumes left left_after bytes
  pub few : old.served ≤ most_requests
  pub ends : IsEnd end old.served old.place bytes left_after

-- what came of the request that these bytes are: its reply was taken, or a beginning of it where the sink failed, or no memory was
-- found and the server is gone
abbrev pub HasCarriedOut : List ℕ → SeenServer → Option SeenServer → Option (List ℕ) → Option (List ℕ) → Result Served SessionEnd → Type 0
HasCarriedOut bytes old new taken taken_after (Ok Next) = IsLeft new (HasServed bytes old) × Adds taken taken_after (reply_to (bytes_of old) bytes)
HasCarriedOut bytes old new taken taken_after (Ok Over) = ⊥
HasCarriedOut bytes old new taken taken_after (Err WriteFault) = IsLeft new (HasServed bytes old) × TakesPrefix taken taken_after (reply_to (bytes_of old) bytes)
HasCarriedOut bytes old new taken taken_after (Err NoMemory) = new ≡ None
HasCarriedOut bytes old new taken taken_after (Err ReadFault) = ⊥
HasCarriedOut bytes old new taken taken_after (Err (BadMagic at)) = ⊥
HasCarriedOut bytes old new taken taken_after (Err (CutRequest at)) = ⊥
HasCarriedOut bytes old new taken taken_after (Err TooManyRequests) = ⊥

-- what a call did: it served a request, whose reply was taken, or a beginning of it where the sink failed; or the session has ended,
-- and the server is as it was, or gone for want of memory
abbrev pub HasStepped : SeenServer → Option SeenServer → Option (List ℕ) → Option (List ℕ) → Option (List ℕ) → Option (List ℕ) → Result Served SessionEnd → Type 0
HasStepped old new left left_after taken taken_after (Ok Next) = (bytes : List ℕ) × IsRequest bytes × (old.served < most_requests) × Consumes left left_after bytes × IsLeft new (HasServed bytes old) × Adds taken taken_after (reply_to (bytes_of old) bytes)
HasStepped old new left left_after taken taken_after (Ok Over) = HasFinished (Ok Over) old left left_after × (new ≡ Some old)
HasStepped old new left left_after taken taken_after (Err WriteFault) = (bytes : List ℕ) × IsRequest bytes × (old.served < most_requests) × Consumes left left_after bytes × IsLeft new (HasServed bytes old) × TakesPrefix taken taken_after (reply_to (bytes_of old) bytes)
HasStepped old new left left_after taken taken_after (Err NoMemory) = HasFinished (Err NoMemory) old left left_after × IfSome new (λ s. s ≡ old)
HasStepped old new left left_after taken taken_after (Err ReadFault) = HasFinished (Err ReadFault) old left left_after × (new ≡ Some old)
HasStepped old new left left_after taken taken_after (Err (BadMagic at)) = HasFinished (Err (BadMagic at)) old left left_after × (new ≡ Some old)
HasStepped old new left left_after taken taken_after (Err (CutRequest at)) = HasFinished (Err (CutRequest at)) old left left_after × (new ≡ Some old)
HasStepped old new left left_after taken taken_after (Err TooManyRequests) = HasFinished (Err TooManyRequests) old left left_after × (new ≡ Some old)
