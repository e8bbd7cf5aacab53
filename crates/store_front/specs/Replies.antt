-- Replies to requests, by what the store told of the block operations of their round: the values that reads gave, and which blocks were
-- written.
use Rattle.std.specs.Prelude.{◌≡◌, ℕ, ◌<◌, ◌≤◌, ◌*◌, ◌==◌, ◌&&◌, if◌then◌else◌, Bool, is_some, unwrap_or, List, [], ◌++◌, length, take, Option, Result, Ok, Err}
use Rattle.std.specs.List.{concat, flat_map, list_all, slice_range}
use Rattle.quorum_rules.specs.Limits.{Numbers}
use Rattle.disk_model.specs.Crash.{Pending}
use Rattle.outside_io.specs.Written.{Adds, TakesPrefix}
use Rattle.nbd_front.specs.declared.request.Request.{Request}
use Rattle.nbd_front.specs.Requests.{request_of}
use Rattle.nbd_front.specs.Replies.{reply_head}
use Rattle.nbd_front.specs.Sessions.{read_kind}
use Rattle.nbd_front.specs.declared.ending.SessionEnd.{SessionEnd}
use Rattle.nbd_front.specs.declared.ending.SessionEnd.TheVariants.{NoMemory, ReadFault, WriteFault, BadMagic, CutRequest, TooManyRequests}
use Rattle.store_device.specs.Stores.{SeenStore}
use Rattle.store_device.specs.Calls.{Leads}
use Rattle.store_front.specs.Asking.{IsFront}
use Rattle.store_front.specs.Requests.{error_of}
use Rattle.store_front.specs.Blocks.{blocks_of, piece_of}
use Rattle.store_front.specs.Rounds.{BeginsWithRequest, Exchange, IsExchange, IsBegun, calls_of}
use Rattle.store_front.specs.Values.{given_by, wrote_by}

-- the error of a request of which a block operation failed
abbrev pub failed : ℕ
failed = 5

-- a block was read, or written, as a request of this kind asks
abbrev pub is_done : (ℕ → Option (List ℕ)) → (ℕ → Bool) → ℕ → ℕ → Bool
is_done read wrote kind k = if kind == read_kind then is_some (read k) else wrote k

-- the request's bytes of block k, as they were read
abbrev pub part_of : Numbers → (ℕ → Option (List ℕ)) → Request → ℕ → List ℕ
part_of c read r k = slice_range (unwrap_or (read k) []) (piece_of c r k).at (piece_of c r k).end

module _ (c : Numbers) (read : ℕ → Option (List ℕ)) (wrote : ℕ → Bool) where
  -- the error of the reply: that of the request as it stands, or that a block operation failed; 0 where all went well
  abbrev pub answer_error : Request → ℕ
  answer_error r =
      if error_of (c.size * c.blocks) r == 0 then (if list_all (is_done read wrote r.kind) (blocks_of c r) then 0 else failed)
      else error_of (c.size * c.blocks) r

  -- the data of the reply: the bytes of a read that went well
  abbrev pub sent_of : Request → List ℕ
  sent_of r = if answer_error r == 0 && r.kind == read_kind then flat_map (part_of c read r) (blocks_of c r) else []

  -- the reply
  abbrev pub reply_of : Request → List ℕ
  reply_of r = reply_head (answer_error r) r.handle ++ sent_of r

  -- the replies to requests, each the bytes that it has, one after the other
  abbrev pub replies_of : List (List ℕ) → List ℕ
  replies_of requests = flat_map (λ bytes. reply_of (request_of bytes)) requests

-- the replies to the requests of a round, by what was told of its calls
abbrev pub text_of : {D : Type 0} → Numbers → Exchange D → List ℕ
text_of c e = replies_of c (given_by c e.reads) (wrote_by e.writes) e.requests

module _ {D : Type 0} (pending : D → Pending) (seen : D → List ℕ) (capacity : D → ℕ) (moment : D → ℕ) (left_since : D → ℕ → List ℕ → Type 0) where
  -- a round was done whose requests are the first bytes of the input, so many, and its calls lead from the one store to the other
  pub record IsDone (c : Numbers) (input : List ℕ) (len : ℕ) (old new : SeenStore D) (round : Exchange D) : Type 0 where
    pub is : IsExchange c round
    pub some : BeginsWithRequest input → 0 < length round.requests
    pub fits : len ≤ length input
    pub front : take len input ≡ concat round.requests
    pub calls : Leads pending seen capacity moment left_since old (calls_of round) new

  -- a round was begun whose requests are the first of the input's, and nothing was told of it
  pub record IsCutOff (c : Numbers) (input : List ℕ) (old new : SeenStore D) (round : Exchange D) : Type 0 where
    pub is : IsBegun c round
    pub front : IsFront (concat round.requests) input
    pub calls : Leads pending seen capacity moment left_since old (calls_of round) new

  -- What became of a round: the sink took the replies to requests of so many bytes, or a beginning of them where it failed; where memory
  -- was wanting, it took none.
  abbrev pub ServesRound : Numbers → List ℕ → SeenStore D → SeenStore D → (taken taken_after : Option (List ℕ)) → Result ℕ SessionEnd → Type 0
  ServesRound c input old new taken taken_after (Ok len) =
      (round : Exchange D) × IsDone c input len old new round × Adds taken taken_after (text_of c round)
  ServesRound c input old new taken taken_after (Err WriteFault) =
      (round : Exchange D) × (len : ℕ) × IsDone c input len old new round × TakesPrefix taken taken_after (text_of c round)
  ServesRound c input old new taken taken_after (Err NoMemory) =
      (round : Exchange D) × IsCutOff c input old new round × Adds taken taken_after []
  ServesRound c input old new taken taken_after (Err ReadFault) = ⊥
  ServesRound c input old new taken taken_after (Err (BadMagic at)) = ⊥
  ServesRound c input old new taken taken_after (Err (CutRequest at)) = ⊥
  ServesRound c input old new taken taken_after (Err TooManyRequests) = ⊥
