-- A whole handshake: what the source gave, what the sink took, and how it ended.
use Rattle.std.specs.Prelude.{◌≡◌, ◌≢◌, ◌⊎◌, ℕ, ◌+◌, ◌<◌, ◌≤◌, true, false, Bool, List, [], ◌∷◌, ◌++◌, length, take, Option, Result, Ok, Err}
use Rattle.std.specs.Io.KnownBytes.{Consumes, IsAtEnd}
use Rattle.std.specs.List.{All, concat}
use Rattle.outside_io.specs.Written.{Adds, TakesPrefix}
use Rattle.nbd_handshake.specs.declared.export.Export.{Export}
use Rattle.nbd_handshake.specs.declared.course.Course.{Course}
use Rattle.nbd_handshake.specs.declared.course.Course.TheVariants as courses
use Rattle.nbd_handshake.specs.declared.ending.Agreement.{Agreement}
use Rattle.nbd_handshake.specs.declared.ending.Agreement.TheVariants.{Transmission, Departure}
use Rattle.nbd_handshake.specs.declared.ending.HandshakeFault.{HandshakeFault}
use Rattle.nbd_handshake.specs.declared.ending.HandshakeFault.TheVariants.{ReadFault, WriteFault, UnknownFlags, BadMagic, Cut, UnknownExport, TooManyOptions}
use Rattle.nbd_handshake.specs.Numbers.{option_magic, most_options}
use Rattle.nbd_handshake.specs.Options.{flags_of, are_known, leaves_zeros_out, option_of, course_of, IsOption, IsPart}
use Rattle.nbd_handshake.specs.Replies.{greeting, replies}

-- how a handshake ends
abbrev pub End : Type 0
End = Result Agreement HandshakeFault

-- behind this option the handshake goes on so
abbrev pub Goes : Course → List ℕ → Type 0
Goes course bytes = course_of (option_of bytes) ≡ course

-- behind each of these options the handshake goes on
abbrev pub GoOn : List (List ℕ) → Type 0
GoOn options = All (Goes courses.More) options

-- another option may follow these
pub record AreOpen (options : List (List ℕ)) : Type 0 where
  pub more : GoOn options
  pub few : length options < most_options

-- another one may follow each but the last, and behind that one the handshake goes on so; the last one begins at this place
pub record EndsWith (course : Course) (options : List (List ℕ)) (place : ℕ) : Type 0 where
  pub before : List (List ℕ)
  pub last : List ℕ
  pub all : options ≡ before ++ last ∷ []
  pub more : GoOn before
  pub goes : Goes course last
  pub begins : place ≡ length (concat before)

-- the client's flags are these four bytes
pub record AreFlags (flags : List ℕ) : Type 0 where
  pub size : length flags ≡ 4
  pub known : are_known (flags_of flags) ≡ true

-- the client's flags have come, or nothing has come whole
abbrev pub MayFollow : List ℕ → List (List ℕ) → Type 0
MayFollow flags options = AreFlags flags ⊎ ((flags ≡ []) × (options ≡ []))

-- the bytes behind the options, or in place of the flags, are not all that should stand there
abbrev pub IsCut : List ℕ → List ℕ → Type 0
IsCut [] rest = length rest < 4
IsCut (flag ∷ flags) rest = IsPart rest

-- why a handshake ended behind these flags and options, where these bytes followed them and these are left
abbrev pub IsEnd : End → List ℕ → List (List ℕ) → List ℕ → Option (List ℕ) → Type 0
IsEnd (Ok Transmission) flags options rest left = (place : ℕ) × EndsWith courses.Transmit options place × (rest ≡ [])
IsEnd (Ok Departure) flags options rest left = (rest ≡ []) × (((place : ℕ) × EndsWith courses.Leave options place) ⊎ (AreOpen options × IsAtEnd left))
IsEnd (Err UnknownFlags) flags options rest left = (flags ≡ []) × (length rest ≡ 4) × (are_known (flags_of rest) ≡ false)
IsEnd (Err (BadMagic at)) flags options rest left = (at ≡ 4 + length (concat options)) × AreFlags flags × AreOpen options × (length rest ≡ 8) × (take 8 rest ≢ option_magic)
IsEnd (Err (Cut at)) flags options rest left = (at ≡ length flags + length (concat options)) × AreOpen options × (0 < length rest) × IsCut flags rest × IsAtEnd left
IsEnd (Err (UnknownExport at)) flags options rest left = (place : ℕ) × (at ≡ 4 + place) × EndsWith courses.Unknown options place × (rest ≡ [])
IsEnd (Err TooManyOptions) flags options rest left = (length options ≡ most_options) × GoOn options × (rest ≡ [])
IsEnd (Err ReadFault) flags options rest left = AreOpen options × IsCut flags rest
IsEnd (Err WriteFault) flags options rest left = rest ≡ []

-- the sink has the whole text; where it failed, a beginning of it
abbrev pub HasTaken : End → List ℕ → Option (List ℕ) → Option (List ℕ) → Type 0
HasTaken (Err WriteFault) text old new = TakesPrefix old new text
HasTaken (Err ReadFault) text old new = Adds old new text
HasTaken (Err UnknownFlags) text old new = Adds old new text
HasTaken (Err (BadMagic at)) text old new = Adds old new text
HasTaken (Err (Cut at)) text old new = Adds old new text
HasTaken (Err (UnknownExport at)) text old new = Adds old new text
HasTaken (Err TooManyOptions) text old new = Adds old new text
HasTaken (Ok agreement) text old new = Adds old new text

-- what follows the client's flags: options and what stands behind them, and the replies to these options
pub record IsHaggle (e : Export) (short : Bool) (end : End) (left left_after taken taken_after : Option (List ℕ)) : Type 0 where
  pub options : List (List ℕ)
  pub rest : List ℕ
  pub whole : All IsOption options
  pub few : length options ≤ most_options
  pub gave : Consumes left left_after (concat options ++ rest)
  pub ended : (flags : List ℕ) → AreFlags flags → IsEnd end flags options rest left_after
  pub said : HasTaken end (replies e short options) taken taken_after

-- a handshake: the source gave flags and options and what follows them, and nothing more; the sink took the greeting and the replies to
-- these options
pub record IsHandshake (e : Export) (end : End) (left left_after taken taken_after : Option (List ℕ)) : Type 0 where
  pub flags : List ℕ
  pub options : List (List ℕ)
  pub rest : List ℕ
  pub follow : MayFollow flags options
  pub whole : All IsOption options
  pub few : length options ≤ most_options
  pub gave : Consumes left left_after (flags ++ (concat options ++ rest))
  pub ended : IsEnd end flags options rest left_after
  pub said : HasTaken end (greeting ++ replies e (leaves_zeros_out (flags_of flags)) options) taken taken_after

-- how a handshake ends that meets no fault, by what stands in its input behind flags and options
abbrev pub IsRest : End → List ℕ → List (List ℕ) → List ℕ → Type 0
IsRest (Ok Transmission) flags options rest = (place : ℕ) × EndsWith courses.Transmit options place
IsRest (Ok Departure) flags options rest = ((place : ℕ) × EndsWith courses.Leave options place) ⊎ (AreOpen options × (rest ≡ []))
IsRest (Err UnknownFlags) flags options rest = (flags ≡ []) × (4 ≤ length rest) × (are_known (flags_of rest) ≡ false)
IsRest (Err (BadMagic at)) flags options rest = (at ≡ 4 + length (concat options)) × AreFlags flags × AreOpen options × (8 ≤ length rest) × (take 8 rest ≢ option_magic)
IsRest (Err (Cut at)) flags options rest = (at ≡ length flags + length (concat options)) × AreOpen options × (0 < length rest) × IsCut flags rest
IsRest (Err (UnknownExport at)) flags options rest = (place : ℕ) × (at ≡ 4 + place) × EndsWith courses.Unknown options place
IsRest (Err TooManyOptions) flags options rest = (length options ≡ most_options) × GoOn options
IsRest (Err ReadFault) flags options rest = ⊥
IsRest (Err WriteFault) flags options rest = ⊥

-- the input is that of a handshake that ends so
pub record EndsSo (end : End) (input : List ℕ) : Type 0 where
  pub flags : List ℕ
  pub options : List (List ℕ)
  pub rest : List ℕ
  pub follow : MayFollow flags options
  pub whole : All IsOption options
  pub few : length options ≤ most_options
  pub told : input ≡ flags ++ (concat options ++ rest)
  pub last : IsRest end flags options rest
