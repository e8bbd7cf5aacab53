-- One step of a handshake: an option is read and answered.
use Rattle.std.specs.Prelude.{◌≡◌, ◌≢◌, ◌⊎◌, ℕ, ◌+◌, ◌^◌, ◌<◌, ◌≤◌, ⊤, Bool, false, List, [], length, take, Option, Result, Ok, Err}
use Rattle.std.specs.Io.KnownBytes.{Consumes, IsAtEnd}
use Rattle.outside_io.specs.Written.{Adds, TakesPrefix}
use Rattle.nbd_handshake.specs.declared.export.Export.{Export}
use Rattle.nbd_handshake.specs.declared.arrival.Head.{Head}
use Rattle.nbd_handshake.specs.declared.arrival.Arrival.{Arrival}
use Rattle.nbd_handshake.specs.declared.arrival.Arrival.TheVariants as arrivals
use Rattle.nbd_handshake.specs.declared.course.Course.{Course}
use Rattle.nbd_handshake.specs.declared.course.Course.TheVariants as courses
use Rattle.nbd_handshake.specs.declared.turn.Turn.{Turn}
use Rattle.nbd_handshake.specs.declared.turn.Turn.TheVariants as turns
use Rattle.nbd_handshake.specs.declared.ending.HandshakeFault.{HandshakeFault}
use Rattle.nbd_handshake.specs.declared.ending.HandshakeFault.TheVariants.{ReadFault, WriteFault, UnknownFlags, BadMagic, Cut, UnknownExport, TooManyOptions}
use Rattle.nbd_handshake.specs.Numbers.{option_magic}
use Rattle.nbd_handshake.specs.Options.{ClientOption, flags_of, are_known, head_len, data_len, option_of, answer_of, course_of, IsOption, IsPart}
use Rattle.nbd_handshake.specs.Replies.{reply_to}

-- the bytes are an option's without its data
pub record IsHead (head : Head) (bytes : List ℕ) : Type 0 where
  pub magic : take 8 bytes ≡ option_magic
  pub size : length bytes ≡ head_len
  pub number : head.number ≡ (option_of bytes).number
  pub len : head.len ≡ data_len bytes

-- these bytes, behind which these are left, are what arrived
abbrev pub IsArrival : Arrival → List ℕ → Option (List ℕ) → Type 0
IsArrival arrivals.Nothing bytes left = (bytes ≡ []) × IsAtEnd left
IsArrival arrivals.Wrong bytes left = (length bytes ≡ 8) × (take 8 bytes ≢ option_magic)
IsArrival arrivals.Cut bytes left = (0 < length bytes) × (length bytes < head_len) × (8 ≤ length bytes → take 8 bytes ≡ option_magic) × IsAtEnd left
IsArrival (arrivals.Head head) bytes left = IsHead head bytes

-- the source gave bytes that are what arrived
abbrev pub HasArrived : Option (List ℕ) → Option (List ℕ) → Arrival → Type 0
HasArrived old new arrival = (bytes : List ℕ) × Consumes old new bytes × IsArrival arrival bytes new

-- the source gave a part of an option, or nothing
abbrev pub HasBegun : Option (List ℕ) → Option (List ℕ) → Type 0
HasBegun old new = (bytes : List ℕ) × Consumes old new bytes × IsPart bytes

-- the source gave fewer bytes than so many, and has no more
abbrev pub IsCutShort : ℕ → Option (List ℕ) → Option (List ℕ) → Type 0
IsCutShort len old new = (bytes : List ℕ) × Consumes old new bytes × (length bytes < len) × IsAtEnd new

-- the option with this head and these data, and how the handshake goes on behind it
abbrev pub asked : Head → List ℕ → ClientOption
asked head bytes = record { number = head.number; bytes = bytes }

abbrev pub Goes : Head → List ℕ → Course → Type 0
Goes head bytes course = course_of (asked head bytes) ≡ course

-- an option's data that were read, and the kind of the last reply to it
abbrev pub IsTaken : Head → ℕ → List ℕ → Type 0
IsTaken head kind bytes = (length bytes ≡ head.len) × (kind ≡ answer_of (asked head bytes))

-- the source gave one whole option, behind which the handshake goes on so
pub record HasCome (old new : Option (List ℕ)) (course : Course) (bytes : List ℕ) : Type 0 where
  pub gave : Consumes old new bytes
  pub whole : IsOption bytes
  pub goes : course_of (option_of bytes) ≡ course

-- the option was answered
abbrev pub IsAnswered : Export → Bool → (old new taken taken_after : Option (List ℕ)) → Course → Type 0
IsAnswered e short old new taken taken_after course =
    (bytes : List ℕ) × HasCome old new course bytes × Adds taken taken_after (reply_to e short (option_of bytes))

-- where another option may follow, the bytes of this one are few enough to be counted
abbrev pub IsNear : Turn → Type 0
IsNear (turns.More len) = len < 2 ^ 32 + 16
IsNear turn = ⊤

-- what came of an option with these data, of which the head was read before
abbrev pub IsAnsweredSo : Export → Bool → ℕ → Head → List ℕ → (taken taken_after : Option (List ℕ)) → Result Turn HandshakeFault → Type 0
IsAnsweredSo e short place head bytes taken taken_after (Ok (turns.More len)) =
    Goes head bytes courses.More × Adds taken taken_after (reply_to e short (asked head bytes)) × (len ≡ head_len + head.len)
IsAnsweredSo e short place head bytes taken taken_after (Ok turns.Transmit) =
    Goes head bytes courses.Transmit × Adds taken taken_after (reply_to e short (asked head bytes))
IsAnsweredSo e short place head bytes taken taken_after (Ok turns.Leave) =
    Goes head bytes courses.Leave × Adds taken taken_after (reply_to e short (asked head bytes))
IsAnsweredSo e short place head bytes taken taken_after (Err (UnknownExport at)) =
    (at ≡ place) × Goes head bytes courses.Unknown × Adds taken taken_after []
IsAnsweredSo e short place head bytes taken taken_after (Err WriteFault) =
    TakesPrefix taken taken_after (reply_to e short (asked head bytes))
IsAnsweredSo e short place head bytes taken taken_after (Err ReadFault) = ⊥
IsAnsweredSo e short place head bytes taken taken_after (Err (BadMagic at)) = ⊥
IsAnsweredSo e short place head bytes taken taken_after (Err (Cut at)) = ⊥
IsAnsweredSo e short place head bytes taken taken_after (Err UnknownFlags) = ⊥
IsAnsweredSo e short place head bytes taken taken_after (Err TooManyOptions) = ⊥

-- what came of a step
abbrev pub HasStepped : Export → Bool → ℕ → (old new taken taken_after : Option (List ℕ)) → Result Turn HandshakeFault → Type 0
HasStepped e short place old new taken taken_after (Ok (turns.More len)) =
    (bytes : List ℕ) × HasCome old new courses.More bytes × Adds taken taken_after (reply_to e short (option_of bytes)) × (len ≡ length bytes)
HasStepped e short place old new taken taken_after (Ok turns.Transmit) = IsAnswered e short old new taken taken_after courses.Transmit
HasStepped e short place old new taken taken_after (Ok turns.Leave) =
    IsAnswered e short old new taken taken_after courses.Leave ⊎ (Consumes old new [] × IsAtEnd new × Adds taken taken_after [])
HasStepped e short place old new taken taken_after (Err (BadMagic at)) =
    (at ≡ place) × (bytes : List ℕ) × Consumes old new bytes × (length bytes ≡ 8) × (take 8 bytes ≢ option_magic) × Adds taken taken_after []
HasStepped e short place old new taken taken_after (Err (Cut at)) =
    (at ≡ place) × (bytes : List ℕ) × Consumes old new bytes × (0 < length bytes) × IsPart bytes × IsAtEnd new × Adds taken taken_after []
HasStepped e short place old new taken taken_after (Err (UnknownExport at)) =
    (at ≡ place) × (bytes : List ℕ) × HasCome old new courses.Unknown bytes × Adds taken taken_after []
HasStepped e short place old new taken taken_after (Err ReadFault) = HasBegun old new × Adds taken taken_after []
HasStepped e short place old new taken taken_after (Err WriteFault) =
    (course : Course) × (bytes : List ℕ) × HasCome old new course bytes × TakesPrefix taken taken_after (reply_to e short (option_of bytes))
HasStepped e short place old new taken taken_after (Err UnknownFlags) = ⊥
HasStepped e short place old new taken taken_after (Err TooManyOptions) = ⊥

-- the client's flags did not come, or aren't those of the server
abbrev pub HaveNotCome : HandshakeFault → (old new : Option (List ℕ)) → Type 0
HaveNotCome ReadFault old new = (bytes : List ℕ) × Consumes old new bytes × (length bytes < 4)
HaveNotCome (Cut at) old new = (at ≡ 0) × (bytes : List ℕ) × Consumes old new bytes × (0 < length bytes) × (length bytes < 4) × IsAtEnd new
HaveNotCome UnknownFlags old new = (bytes : List ℕ) × Consumes old new bytes × (length bytes ≡ 4) × (are_known (flags_of bytes) ≡ false)
HaveNotCome WriteFault old new = ⊥
HaveNotCome (BadMagic at) old new = ⊥
HaveNotCome (UnknownExport at) old new = ⊥
HaveNotCome TooManyOptions old new = ⊥
