-- What a client sends in a handshake: its flags, and options. Every number has its high byte first.
use Rattle.std.specs.Prelude.{◌≡◌, ℕ, ◌+◌, ◌*◌, ◌<◌, ◌≤◌, ◌==◌, ◌&&◌, ◌||◌, not, nat_le, nat_lt, Bool, if◌then◌else◌, List, length, take, drop}
use Rattle.std.specs.Int.{w16, w32, from_be_bytes}
use Rattle.nbd_handshake.specs.declared.course.Course.{Course}
use Rattle.nbd_handshake.specs.declared.course.Course.TheVariants.{More, Transmit, Leave, Unknown}
use Rattle.nbd_handshake.specs.Numbers.{option_magic, export_name, abort, list, info, go, ack, unsupported, invalid, unknown, too_big, most_data}

-- the client's flags as a number, and whether they are those of the server
abbrev pub flags_of : List ℕ → ℕ
flags_of bytes = from_be_bytes w32 (take 4 bytes)

abbrev pub are_known : ℕ → Bool
are_known flags = nat_lt flags 4

-- the client takes an export without its 124 zeros
abbrev pub leaves_zeros_out : ℕ → Bool
leaves_zeros_out flags = nat_le 2 flags

-- an option: its number, and its data
pub record ClientOption : Type 0 where
  pub number : ℕ
  pub bytes : List ℕ

-- how many bytes an option has before its data, and how many its data have
abbrev pub head_len : ℕ
head_len = 16

abbrev pub data_len : List ℕ → ℕ
data_len bytes = from_be_bytes w32 (take 4 (drop 12 bytes))

-- the option with which bytes begin
abbrev pub option_of : List ℕ → ClientOption
option_of bytes = record { number = from_be_bytes w32 (take 4 (drop 8 bytes)); bytes = take (data_len bytes) (drop head_len bytes) }

-- the bytes are one whole option
pub record IsOption (bytes : List ℕ) : Type 0 where
  pub magic : take 8 bytes ≡ option_magic
  pub size : length bytes ≡ head_len + data_len bytes

-- the bytes are an option's, but not all of them
pub record IsPart (bytes : List ℕ) : Type 0 where
  pub magic : 8 ≤ length bytes → take 8 bytes ≡ option_magic
  pub short : head_len ≤ length bytes → length bytes < head_len + data_len bytes

-- the data of INFO and GO: the length of a name, the name, how many kinds of information are asked for, and two bytes for each
abbrev pub name_len : List ℕ → ℕ
name_len bytes = from_be_bytes w32 (take 4 bytes)

abbrev pub kind_count : List ℕ → ℕ
kind_count bytes = from_be_bytes w16 (take 2 (drop (4 + name_len bytes) bytes))

abbrev pub is_query : List ℕ → Bool
is_query bytes = nat_le (6 + name_len bytes) (length bytes) && 6 + name_len bytes + 2 * kind_count bytes == length bytes

-- what becomes of an INFO or GO with these data: the one export has no name
abbrev pub query_answer : List ℕ → ℕ
query_answer bytes =
    if nat_lt most_data (length bytes) then too_big
    else (if not (is_query bytes) then invalid
    else (if name_len bytes == 0 then ack
    else unknown))

-- an option that asks about the export
abbrev pub asks_about : ℕ → Bool
asks_about number = number == info || number == go

-- the kind of the last reply to an option
abbrev pub answer_of : ClientOption → ℕ
answer_of o =
    if asks_about o.number then query_answer o.bytes
    else (if o.number == list then (if length o.bytes == 0 then ack else invalid)
    else (if o.number == abort then ack
    else unsupported))

-- how the handshake goes on behind an option
abbrev pub course_of : ClientOption → Course
course_of o =
    if o.number == export_name then (if length o.bytes == 0 then Transmit else Unknown)
    else (if o.number == abort then Leave
    else (if o.number == go && answer_of o == ack then Transmit
    else More))
