-- How one request is answered, when its bytes before the data have been read.
use Rattle.std.specs.Prelude.{◌≡◌, ℕ, ◌<◌, List, length, Option}
use Rattle.std.specs.Io.KnownBytes.{Consumes, IsAtEnd}
use Rattle.node_device.specs.Devices.{SeenDevice}
use Rattle.outside_io.specs.Given.{GaveAtMost}
use Rattle.nbd_front.specs.declared.request.Request.{Request}
use Rattle.nbd_front.specs.Requests.{data_len, write_kind}
use Rattle.nbd_front.specs.Arrivals.{GaveFewer}
use Rattle.nbd_front.specs.declared.ending.SessionEnd.{SessionEnd}
use Rattle.nbd_front.specs.declared.ending.SessionEnd.TheVariants.{NoMemory, ReadFault, WriteFault, BadMagic, CutRequest, TooManyRequests}
use Rattle.nbd_front.specs.Arrays.{array_of, HasWritten}
use Rattle.nbd_front.specs.Sessions.{reply_of, array_after, writes_to}

-- how many operations a request may have
abbrev pub most_steps : ℕ
most_steps = 196608

-- a request's data were read; they are what is told of them where it is a write that is served
pub record HasTakenData (r : Request) (error : ℕ) (left left_after : Option (List ℕ)) (told : List ℕ) : Type 0 where
  pub bytes : List ℕ
  pub gave : Consumes left left_after bytes
  pub size : length bytes ≡ data_len r
  pub same : r.kind ≡ write_kind → error ≡ 0 → told ≡ bytes

-- the source gave fewer bytes than the data have, and has no more
abbrev pub IsCutShort : ℕ → Option (List ℕ) → Option (List ℕ) → Type 0
IsCutShort len left left_after = (bytes : List ℕ) × Consumes left left_after bytes × (length bytes < len) × IsAtEnd left_after

-- the data of the request that begins at the place were not read, for this reason
abbrev pub HasStopped : Request → ℕ → Option (List ℕ) → Option (List ℕ) → SessionEnd → Type 0
HasStopped r place left left_after (CutRequest at) = (at ≡ place) × IsCutShort (data_len r) left left_after
HasStopped r place left left_after ReadFault = GaveFewer (data_len r) left left_after
HasStopped r place left left_after NoMemory = GaveAtMost (data_len r) left left_after
HasStopped r place left left_after WriteFault = ⊥
HasStopped r place left left_after (BadMagic at) = ⊥
HasStopped r place left left_after TooManyRequests = ⊥

-- the reply is the request's, and a write's data are in the array
pub record HasAnswered (r : Request) (bytes : List ℕ) (old new : SeenDevice) (reply : List ℕ) : Type 0 where
  pub told : reply ≡ reply_of (array_of old.held) r
  pub written : HasWritten most_steps (array_after (array_of old.held) r bytes) (writes_to old.config r) old new
