-- Requests as bytes. Every number has its high byte first.
use Rattle.std.specs.Prelude.{ℕ, ◌==◌, if◌then◌else◌, List, take, drop}
use Rattle.std.specs.List.{slice_range}
use Rattle.std.specs.Int.{w16, w32, w64, from_be_bytes}
use Rattle.nbd_front.specs.declared.request.Request.{Request}

-- the first four bytes of each request, as a number
abbrev pub request_magic : ℕ
request_magic = 0x25609513

-- the number of the first four bytes
abbrev pub magic_of : List ℕ → ℕ
magic_of bytes = from_be_bytes w32 (take 4 bytes)

-- how many bytes a request has before its data
abbrev pub head_len : ℕ
head_len = 28

-- the fields of a request by their places after the magic
abbrev pub fields_of : List ℕ → Request
fields_of rest = record {
  flags = from_be_bytes w16 (slice_range rest 0 2);
  kind = from_be_bytes w16 (slice_range rest 2 4);
  handle = slice_range rest 4 12;
  offset = from_be_bytes w64 (slice_range rest 12 20);
  len = from_be_bytes w32 (slice_range rest 20 24);
}

-- the request with which bytes begin
abbrev pub request_of : List ℕ → Request
request_of bytes = fields_of (take 24 (drop 4 bytes))

-- the kinds of requests that have data, and that have no range
abbrev pub write_kind : ℕ
write_kind = 1

abbrev pub flush_kind : ℕ
flush_kind = 3

-- how many bytes of data follow: a write's
abbrev pub data_len : Request → ℕ
data_len r = if r.kind == write_kind then r.len else 0
