-- Which requests a store serves, and the errors of the others.
use Rattle.std.specs.Prelude.{ℕ, ◌+◌, ◌^◌, ◌==◌, ◌&&◌, ◌||◌, not, nat_lt, nat_le, Bool, if◌then◌else◌}
use Rattle.nbd_front.specs.declared.request.Request.{Request}
use Rattle.nbd_front.specs.Requests.{head_len, write_kind, flush_kind}
use Rattle.nbd_front.specs.Replies.{invalid, no_space}
use Rattle.nbd_front.specs.Sessions.{read_kind}

-- the kinds of requests that leave zeros in their range
abbrev pub trim_kind : ℕ
trim_kind = 4

abbrev pub zeroes_kind : ℕ
zeroes_kind = 6

-- a request of this kind changes the bytes of its range
abbrev pub changes : ℕ → Bool
changes kind = kind == write_kind || kind == trim_kind || kind == zeroes_kind

-- it reads them, or changes them
abbrev pub has_range : ℕ → Bool
has_range kind = kind == read_kind || changes kind

-- it reads, writes, leaves, flushes, trims, or writes zeroes
abbrev pub is_command : ℕ → Bool
is_command kind = nat_le kind trim_kind || kind == zeroes_kind

-- each may have the flag FUA, and one that writes zeroes NO_HOLE too
abbrev pub may_have : ℕ → ℕ → Bool
may_have kind flags = nat_lt flags 2 || (kind == zeroes_kind && nat_lt flags 4)

-- reads and writes have at most 32 MiB
abbrev pub is_too_long : Request → Bool
is_too_long r = (r.kind == read_kind || r.kind == write_kind) && nat_lt (2 ^ 25) r.len

-- the error of a request to a device of so many bytes, 0 where it is served
abbrev pub error_of : ℕ → Request → ℕ
error_of size r =
    if not (is_command r.kind) || not (may_have r.kind r.flags) || is_too_long r then invalid
    else (if r.kind == flush_kind then 0
    else (if nat_le (r.offset + r.len) size then 0
    else (if r.kind == write_kind || r.kind == zeroes_kind then no_space
    else invalid)))

-- a request that is served has at most so many bytes; so many are kept of the input: less than such a request has, and what one read gives
abbrev pub most_served : ℕ
most_served = head_len + 2 ^ 25

abbrev pub most_at_hand : ℕ
most_at_hand = most_served + 2 ^ 20
