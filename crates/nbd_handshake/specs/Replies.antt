-- What the server sends in a handshake. Every number has its high byte first.
use Rattle.std.specs.Prelude.{ℕ, ◌==◌, not, Bool, if◌then◌else◌, List, [], ◌++◌, length, replicate}
use Rattle.std.specs.List.{flat_map}
use Rattle.std.specs.Int.{w16, w32, w64, to_be_bytes}
use Rattle.nbd_handshake.specs.declared.export.Export.{Export}
use Rattle.nbd_handshake.specs.Numbers.{greeting_magic, option_magic, server_flags, reply_magic, export_name, list, ack, server_entry, info_entry, export_info, block_size_info, export_flags, most_payload}
use Rattle.nbd_handshake.specs.Options.{ClientOption, asks_about, answer_of, option_of}

-- the greeting
abbrev pub greeting : List ℕ
greeting = greeting_magic ++ option_magic ++ server_flags

-- a reply of this kind to an option, and before its data, which are so many
abbrev pub reply_head : ℕ → ℕ → ℕ → List ℕ
reply_head number kind len = reply_magic ++ to_be_bytes w32 number ++ to_be_bytes w32 kind ++ to_be_bytes w32 len

abbrev pub option_reply : ℕ → ℕ → List ℕ → List ℕ
option_reply number kind bytes = reply_head number kind (length bytes) ++ bytes

-- the export's size and flags
abbrev pub size_and_flags : Export → List ℕ
size_and_flags e = to_be_bytes w64 e.size ++ to_be_bytes w16 export_flags

-- the sizes of requests: any at all, those that need no more than their own bytes, and the most
abbrev pub block_sizes : Export → List ℕ
block_sizes e = to_be_bytes w32 1 ++ to_be_bytes w32 e.preferred ++ to_be_bytes w32 most_payload

-- what is told of the export before the last reply
abbrev pub about : Export → ℕ → List ℕ
about e number =
    option_reply number info_entry (to_be_bytes w16 export_info ++ size_and_flags e)
    ++ option_reply number info_entry (to_be_bytes w16 block_size_info ++ block_sizes e)

-- the one export, which has no name
abbrev pub listed : List ℕ
listed = option_reply list server_entry (to_be_bytes w32 0)

-- the answer to EXPORT_NAME: none to a name that isn't known
abbrev pub export_of : Export → Bool → List ℕ → List ℕ
export_of e short name =
    if length name == 0 then size_and_flags e ++ (if short then [] else replicate 124 0)
    else []

-- the replies to an option; `short` tells whether the client takes an export without its zeros
abbrev pub reply_to : Export → Bool → ClientOption → List ℕ
reply_to e short o =
    if o.number == export_name then export_of e short o.bytes
    else (if not (answer_of o == ack) then option_reply o.number (answer_of o) []
    else (if asks_about o.number then about e o.number ++ option_reply o.number ack []
    else (if o.number == list then listed ++ option_reply o.number ack []
    else option_reply o.number ack [])))

-- the replies to options, each the bytes that it has
abbrev pub replies : Export → Bool → List (List ℕ) → List ℕ
replies e short options = flat_map (λ bytes. reply_to e short (option_of bytes)) options
