-- Greeting and replies as bytes. Every number has its high byte first.
use Rattle.std.specs.Prelude.{ℕ, ◌+◌, ◌||◌, ◌==◌, nat_lt, nat_le, not, if◌then◌else◌, List, [], ◌∷◌, ◌++◌, replicate}
use Rattle.std.specs.Int.{w32, w64, to_be_bytes}
use Rattle.nbd_front.specs.declared.request.Request.{Request}
use Rattle.nbd_front.specs.Requests.{write_kind, flush_kind}

-- "NBDMAGIC"
abbrev pub greeting_words : List ℕ
greeting_words = 78 ∷ 66 ∷ 68 ∷ 77 ∷ 65 ∷ 71 ∷ 73 ∷ 67 ∷ []

-- what tells this form of greeting from others
abbrev pub greeting_magic : List ℕ
greeting_magic = 0x00 ∷ 0x00 ∷ 0x42 ∷ 0x02 ∷ 0x81 ∷ 0x86 ∷ 0x12 ∷ 0x53 ∷ []

-- there are flags, and flushes are served
abbrev pub greeting_flags : List ℕ
greeting_flags = 0 ∷ 0 ∷ 0 ∷ 5 ∷ []

-- the greeting of a device of so many bytes
abbrev pub greeting : ℕ → List ℕ
greeting size = greeting_words ++ greeting_magic ++ to_be_bytes w64 size ++ greeting_flags ++ replicate 124 0

-- the error of a request that can't be served, and of a write past the end
abbrev pub invalid : ℕ
invalid = 22

abbrev pub no_space : ℕ
no_space = 28

-- the error of a request to a device of so many bytes, 0 where it is served
abbrev pub error_of : ℕ → Request → ℕ
error_of size r =
    if nat_lt flush_kind r.kind || not (r.flags == 0) then invalid
    else (if r.kind == flush_kind then 0
    else (if nat_le (r.offset + r.len) size then 0
    else (if r.kind == write_kind then no_space
    else invalid)))

-- the first four bytes of each reply
abbrev pub reply_magic : List ℕ
reply_magic = 0x67 ∷ 0x44 ∷ 0x66 ∷ 0x98 ∷ []

-- a reply before its data
abbrev pub reply_head : ℕ → List ℕ → List ℕ
reply_head error handle = reply_magic ++ to_be_bytes w32 error ++ handle
