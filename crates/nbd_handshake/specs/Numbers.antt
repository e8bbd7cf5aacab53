-- The numbers of the protocol's page that a fixed newstyle handshake needs.
use Rattle.std.specs.Prelude.{ℕ, ◌+◌, ◌^◌, List, [], ◌∷◌}

-- "NBDMAGIC", with which the server begins
abbrev pub greeting_magic : List ℕ
greeting_magic = 78 ∷ 66 ∷ 68 ∷ 77 ∷ 65 ∷ 71 ∷ 73 ∷ 67 ∷ []

-- "IHAVEOPT", with which each option begins, and what tells this handshake from the old one
abbrev pub option_magic : List ℕ
option_magic = 73 ∷ 72 ∷ 65 ∷ 86 ∷ 69 ∷ 79 ∷ 80 ∷ 84 ∷ []

-- the server's flags: fixed newstyle, and the export's 124 zeros may be left out
abbrev pub server_flags : List ℕ
server_flags = 0 ∷ 3 ∷ []

-- with which each reply to an option begins
abbrev pub reply_magic : List ℕ
reply_magic = 0x00 ∷ 0x03 ∷ 0xe8 ∷ 0x89 ∷ 0x04 ∷ 0x55 ∷ 0x65 ∷ 0xa9 ∷ []

-- options
abbrev pub export_name : ℕ
export_name = 1

abbrev pub abort : ℕ
abort = 2

abbrev pub list : ℕ
list = 3

abbrev pub info : ℕ
info = 6

abbrev pub go : ℕ
go = 7

-- kinds of replies
abbrev pub ack : ℕ
ack = 1

abbrev pub server_entry : ℕ
server_entry = 2

abbrev pub info_entry : ℕ
info_entry = 3

abbrev pub unsupported : ℕ
unsupported = 2 ^ 31 + 1

abbrev pub invalid : ℕ
invalid = 2 ^ 31 + 3

abbrev pub unknown : ℕ
unknown = 2 ^ 31 + 6

abbrev pub too_big : ℕ
too_big = 2 ^ 31 + 9

-- the kinds of information that a server gives of an export: its size and flags, and the sizes of requests
abbrev pub export_info : ℕ
export_info = 0

abbrev pub block_size_info : ℕ
block_size_info = 3

-- what clients may ask of the export: there are flags, and flushes, FUA, trims and zeroes are served
abbrev pub export_flags : ℕ
export_flags = 1 + 4 + 8 + 32 + 64

-- the longest data of a read or a write, 32 MiB
abbrev pub most_payload : ℕ
most_payload = 2 ^ 25

-- how many bytes of data INFO and GO may have here
abbrev pub most_data : ℕ
most_data = 8192

-- how many options a handshake may have here
abbrev pub most_options : ℕ
most_options = 256
