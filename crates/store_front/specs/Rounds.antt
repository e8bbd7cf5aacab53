-- Rounds of requests, and the block operations that are done for them.
use Rattle.std.specs.Prelude.{◌≡◌, ◌⊎◌, ℕ, ◌-◌, ◌+◌, ◌≤◌, ◌==◌, ◌||◌, ◌++◌, nat_lt, if◌then◌else◌, Bool, true, List, [], ◌∷◌, length, map, take, fold, replicate, Option}
use Rattle.std.specs.declared.option.Option.TheVariants.{None, Some}
use Rattle.std.specs.List.{All, AllPairs, concat, filter, flat_map, slice_range}
use Rattle.std.specs.Option.{option_map}
use Rattle.std.specs.Ordering.{nat_cmp}
use Rattle.std.specs.BTreeSet.{insert_key}
use Rattle.wire_forms.specs.declared.op.Op.{Op}
use Rattle.wire_forms.specs.declared.op.Op.TheVariants.{Read}
use Rattle.quorum_rules.specs.Limits.{Numbers}
use Rattle.block_device.specs.Device.{merged}
use Rattle.nbd_front.specs.declared.request.Request.{Request}
use Rattle.nbd_front.specs.Requests.{head_len, request_of, write_kind}
use Rattle.nbd_front.specs.Sessions.{read_kind, IsRequest}
use Rattle.store_front.specs.Requests.{changes}
use Rattle.store_front.specs.declared.round.Asked.{Asked}
use Rattle.store_front.specs.declared.round.Round.{Round}
use Rattle.store_front.specs.Blocks.{blocks_of, piece_of, touches}
use Rattle.store_device.specs.Calls.{Call}
use Rattle.store_front.specs.Asking.{IsFront, AreAsked, AreHeard}
use Rattle.store_front.specs.Values.{given_by, with_values, write_of}

-- ---- requests, each the bytes that it has

-- requests that share no block, but to read it
abbrev pub AreSeparate : Numbers → List ℕ → List ℕ → Type 0
AreSeparate c a b =
    (k : ℕ) → touches c (request_of a) k ≡ true → touches c (request_of b) k ≡ true
    → ((request_of a).kind ≡ read_kind) × ((request_of b).kind ≡ read_kind)

-- whole requests that may be done together: a block that one of them writes no other one touches
pub record AreTogether (c : Numbers) (requests : List (List ℕ)) : Type 0 where
  pub whole : All IsRequest requests
  pub apart : AllPairs (AreSeparate c) requests

-- a whole request stands at the front of these bytes
abbrev pub BeginsWithRequest : List ℕ → Type 0
BeginsWithRequest input = (bytes : List ℕ) × IsRequest bytes × IsFront bytes input

-- ---- the blocks that are read for them

-- block k is read for the request: it reads it, or writes only a part of it
abbrev pub needs : Numbers → Request → ℕ → Bool
needs c r k = r.kind == read_kind || nat_lt ((piece_of c r k).to - (piece_of c r k).from) c.size

-- the blocks that are read for it
abbrev pub needed : Numbers → Request → List ℕ
needed c r = filter (needs c r) (blocks_of c r)

-- blocks with more of them, ascending
abbrev pub with_blocks : List ℕ → List ℕ → List ℕ
with_blocks old more = fold (insert_key nat_cmp) old more

-- the blocks that are read for requests, ascending
abbrev pub blocks_read : Numbers → List (List ℕ) → List ℕ
blocks_read c requests = with_blocks [] (flat_map (λ bytes. needed c (request_of bytes)) requests)

-- ---- the values that they leave blocks with

-- the bytes that a request leaves in its piece of block k: a write's own, or zeros
abbrev pub part_in : Numbers → List ℕ → ℕ → List ℕ
part_in c bytes k =
    if (request_of bytes).kind == write_kind then slice_range bytes (head_len + (piece_of c (request_of bytes) k).from) (head_len + (piece_of c (request_of bytes) k).to)
    else replicate ((piece_of c (request_of bytes) k).to - (piece_of c (request_of bytes) k).from) 0

-- the value of block k after a request that changes it: these bytes, where they are the whole block; else those that were there, with these merged in; none
-- where those weren't read
abbrev pub value_with : Numbers → ℕ → List ℕ → Option (List ℕ) → Option (List ℕ)
value_with c at part old =
    if length part == c.size then Some part
    else option_map (λ value. merged value at part) old

abbrev pub value_after : Numbers → List ℕ → ℕ → Option (List ℕ) → Option (List ℕ)
value_after c bytes k old = value_with c (piece_of c (request_of bytes) k).at (part_in c bytes k) old

-- block k with its value, where it has one
abbrev pub valued : ℕ → Option (List ℕ) → List (ℕ × List ℕ)
valued k None = []
valued k (Some value) = (k, value) ∷ []

module _ (c : Numbers) (read : ℕ → Option (List ℕ)) where
  -- what a request leaves block k with, and all of its blocks
  abbrev pub left_at : List ℕ → ℕ → List (ℕ × List ℕ)
  left_at bytes k = valued k (value_after c bytes k (read k))

  abbrev pub left_by : List ℕ → List (ℕ × List ℕ)
  left_by bytes = if changes (request_of bytes).kind then flat_map (left_at bytes) (blocks_of c (request_of bytes)) else []

  -- the blocks that requests leave with other values, ascending, each with its value
  abbrev pub values_left : List (List ℕ) → List (ℕ × List ℕ)
  values_left requests = with_values [] (flat_map left_by requests)

-- ---- rounds

-- requests that were done together, and the calls of the store that were made for them: those that read, and then those that write
pub record Exchange (D : Type 0) : Type 0 where
  pub requests : List (List ℕ)
  pub reads : List (Call D)
  pub writes : List (Call D)

-- what is read for requests, and what is written
abbrev pub reads_for : Numbers → List (List ℕ) → List Op
reads_for c requests = map Read (blocks_read c requests)

abbrev pub writes_for : Numbers → (ℕ → Option (List ℕ)) → List (List ℕ) → List Op
writes_for c read requests = map write_of (values_left c read requests)

module _ {D : Type 0} where
  -- all calls, in order
  abbrev pub calls_of : Exchange D → List (Call D)
  calls_of e = e.reads ++ e.writes

  -- all that has to be read was read, and then all was written
  pub record IsExchange (c : Numbers) (e : Exchange D) : Type 0 where
    pub together : AreTogether c e.requests
    pub reads : AreHeard (reads_for c e.requests) e.reads
    pub writes : AreHeard (writes_for c (given_by c e.reads) e.requests) e.writes

  -- not all of it: nothing was written before all was read
  pub record IsBegun (c : Numbers) (e : Exchange D) : Type 0 where
    pub together : AreTogether c e.requests
    pub reads : AreAsked (reads_for c e.requests) e.reads
    pub writes : AreAsked (writes_for c (given_by c e.reads) e.requests) e.writes
    pub order : (e.writes ≡ []) ⊎ AreHeard (reads_for c e.requests) e.reads

-- ---- a round at the front of the input

-- a request with its bytes
pub record IsAsked (asked : Asked) : Type 0 where
  pub whole : IsRequest asked.bytes.now
  pub is : asked.request ≡ request_of asked.bytes.now

abbrev pub bytes_of : Asked → List ℕ
bytes_of asked = asked.bytes.now

abbrev pub requests_of : List Asked → List (List ℕ)
requests_of asked = map bytes_of asked

-- the round has the requests at the front of the input, and the blocks that are read for them
pub record IsRound (c : Numbers) (input : List ℕ) (round : Round) : Type 0 where
  pub asked : All IsAsked round.asked.items
  pub apart : AllPairs (AreSeparate c) (requests_of round.asked.items)
  pub fits : round.len ≤ length input
  pub front : take round.len input ≡ concat (requests_of round.asked.items)
  pub read : round.read.keys ≡ blocks_read c (requests_of round.asked.items)
