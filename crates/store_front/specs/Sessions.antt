-- A session behind its handshake: rounds of requests and their replies, by what the store told.
use Rattle.std.specs.Prelude.{◌≡◌, ◌≢◌, ◌⊎◌, ⊤, ℕ, ◌+◌, ◌-◌, ◌^◌, ◌<◌, ◌≤◌, min, List, [], ◌∷◌, ◌++◌, length, drop, Option, Some, None, Result, Ok, Err}
use Rattle.std.proofs.Common.{inl, inr}
use Rattle.std.specs.Io.KnownBytes.{Consumes, IsAtEnd}
use Rattle.std.specs.List.{All, AllByRecursion, concat, flat_map}
use Rattle.quorum_rules.specs.Limits.{Numbers}
use Rattle.disk_model.specs.Crash.{Pending}
use Rattle.nbd_front.specs.Requests.{request_magic, magic_of}
use Rattle.nbd_front.specs.Sessions.{IsRequest, IsLeave, IsPart, HasTaken, end_as}
use Rattle.nbd_front.specs.declared.ending.SessionEnd.{SessionEnd}
use Rattle.nbd_front.specs.declared.ending.SessionEnd.TheVariants.{NoMemory, ReadFault, WriteFault, BadMagic, CutRequest, TooManyRequests}
use Rattle.store_device.specs.Stores.{SeenStore, Nodes}
use Rattle.store_device.specs.Lives.{Moment}
use Rattle.store_device.specs.Calls.{Acknowledged, Leads, MayDoAll, RemembersOnly, AreTurnsBy}
use Rattle.store_device.specs.Steps.{Step, called, calls_among, gone_after, AreFound, StepsLead, IsTended}
use Rattle.store_device.specs.Sessions.{HasComeTo}
use Rattle.store_front.specs.declared.waiting.Came.{Came}
use Rattle.store_front.specs.declared.waiting.Came.TheVariants.{Requests, Refused, Nothing}
use Rattle.store_front.specs.Asking.{IsFront}
use Rattle.store_front.specs.Refusals.{IsRefused}
use Rattle.store_front.specs.Rounds.{BeginsWithRequest, Exchange, IsExchange, calls_of}
use Rattle.store_front.specs.Replies.{text_of, IsCutOff, ServesRound}

-- a session that has begun: the input that was read and isn't served yet, and how many bytes of requests were served
pub record SeenSession : Type 0 where
  pub input : List ℕ
  pub place : ℕ

-- the greatest number that tells a place stands for all places from it on
abbrev pub told_place : ℕ → ℕ
told_place place = min place (2 ^ 64 - 1)

-- a request that leaves stands at the front of these bytes
abbrev pub BeginsWithLeave : List ℕ → Type 0
BeginsWithLeave input = (bytes : List ℕ) × IsLeave bytes × IsFront bytes input

-- ---- a wait for a request

-- bytes were read behind the input at hand
pub record HasReadOn (old new : List ℕ) (left left_after : Option (List ℕ)) : Type 0 where
  pub bytes : List ℕ
  pub gave : Consumes left left_after bytes
  pub behind : new ≡ old ++ bytes

-- the last bytes that were read may be lost
pub record HasLost (old new : List ℕ) (left left_after : Option (List ℕ)) : Type 0 where
  pub bytes : List ℕ
  pub gave : Consumes left left_after bytes
  pub behind : IsFront new (old ++ bytes)

-- how a wait ended, with this input at hand, which begins at this place: a request is there, or the head of a write that is refused; the
-- client leaves, or the input has ended; or the session ends
abbrev pub EndsWait : Numbers → Result Came SessionEnd → ℕ → (old new : List ℕ) → (left left_after : Option (List ℕ)) → Type 0
EndsWait c (Ok Requests) place old new left left_after = HasReadOn old new left left_after × BeginsWithRequest new
EndsWait c (Ok (Refused r)) place old new left left_after = HasReadOn old new left left_after × IsRefused c new r
EndsWait c (Ok Nothing) place old new left left_after =
    HasReadOn old new left left_after × (BeginsWithLeave new ⊎ ((new ≡ []) × IsAtEnd left_after))
EndsWait c (Err (BadMagic at)) place old new left left_after =
    HasReadOn old new left left_after × (at ≡ place) × (4 ≤ length new) × (magic_of new ≢ request_magic)
EndsWait c (Err (CutRequest at)) place old new left left_after =
    HasReadOn old new left left_after × (at ≡ place) × (0 < length new) × IsPart new × IsAtEnd left_after
EndsWait c (Err ReadFault) place old new left left_after = HasReadOn old new left left_after × IsPart new
EndsWait c (Err NoMemory) place old new left left_after = HasLost old new left left_after
EndsWait c (Err WriteFault) place old new left left_after = ⊥
EndsWait c (Err TooManyRequests) place old new left left_after = ⊥

-- ---- a turn: a wait, and what was done then

module _ {D : Type 0} (pending : D → Pending) (seen : D → List ℕ) (capacity : D → ℕ) (moment : D → ℕ) (left_since : D → ℕ → List ℕ → Type 0) where
  -- the input that was read begins with requests, and a round of them was served, or ended the session; a write that is refused is such a
  -- round by itself
  pub record HasRound (c : Numbers) (before : SeenSession) (read : List ℕ) (old new : SeenStore D) (left left_after taken taken_after : Option (List ℕ))
      (result : Result ℕ SessionEnd) : Type 0 where
    pub reads : HasReadOn before.input read left left_after
    pub begins : BeginsWithRequest read
    pub serves : ServesRound pending seen capacity moment left_since c read old new taken taken_after result

  -- the wait ended so, and nothing else was done
  pub record HasWaited (c : Numbers) (before : SeenSession) (read : List ℕ) (old new : SeenStore D) (left left_after taken taken_after : Option (List ℕ))
      (result : Result Came SessionEnd) : Type 0 where
    pub waited : EndsWait c result before.place before.input read left left_after
    pub same : new ≡ old
    pub silent : taken_after ≡ taken

  -- What became of a turn: requests of so many bytes were served; or the client leaves, or the input has ended; or the session ended.
  abbrev pub TakesTurn : Numbers → (before after : SeenSession) → (old new : SeenStore D) → (left left_after taken taken_after : Option (List ℕ)) → Result (Option ℕ) SessionEnd → Type 0
  TakesTurn c before after old new left left_after taken taken_after (Ok (Some len)) =
      (read : List ℕ) × HasRound c before read old new left left_after taken taken_after (Ok len)
      × (after.input ≡ drop len read) × (after.place ≡ told_place (before.place + len))
  TakesTurn c before after old new left left_after taken taken_after (Ok None) =
      (read : List ℕ) × HasWaited c before read old new left left_after taken taken_after (Ok Nothing)
  TakesTurn c before after old new left left_after taken taken_after (Err end) =
      ((read : List ℕ) × HasWaited c before read old new left left_after taken taken_after (Err end))
      ⊎ ((read : List ℕ) × HasRound c before read old new left left_after taken taken_after (Err end))

-- ---- sessions

-- why a session ended after so many rounds, whose requests have so many bytes, where these bytes followed them and these are left
abbrev pub IsEnd : Result Unit SessionEnd → (rounds place : ℕ) → List ℕ → Option (List ℕ) → Type 0
IsEnd (Ok done) rounds place rest left = BeginsWithLeave rest ⊎ ((rest ≡ []) × IsAtEnd left)
IsEnd (Err (BadMagic at)) rounds place rest left = (at ≡ told_place place) × (4 ≤ length rest) × (magic_of rest ≢ request_magic)
IsEnd (Err (CutRequest at)) rounds place rest left = (at ≡ told_place place) × (0 < length rest) × IsPart rest × IsAtEnd left
IsEnd (Err ReadFault) rounds place rest left = IsPart rest
IsEnd (Err WriteFault) rounds place rest left = ⊤
IsEnd (Err NoMemory) rounds place rest left = ⊤
IsEnd (Err TooManyRequests) rounds place rest left = rounds ≡ 2 ^ 64 - 1

module _ {D : Type 0} where
  -- the requests of rounds, and the calls that were made for them, in order
  abbrev pub requests_in : List (Exchange D) → List (List ℕ)
  requests_in rounds = flat_map (λ (e : Exchange D). e.requests) rounds

  -- at least one
  abbrev pub HasRequest : Exchange D → Type 0
  HasRequest e = 0 < length e.requests

  -- their replies
  abbrev pub replies_in : Numbers → List (Exchange D) → List ℕ
  replies_in c rounds = flat_map (text_of c) rounds

  module _ (pending : D → Pending) (seen : D → List ℕ) (capacity : D → ℕ) (moment : D → ℕ) (left_since : D → ℕ → List ℕ → Type 0)
      (keeps : SeenStore D → SeenStore D → Type 0) where
    -- Rounds lead from the one store to the other: before each the store is looked after, and its calls go on from there.
    abbrev pub RoundsLead : SeenStore D → List (Exchange D) → SeenStore D → Type 0
    RoundsLead old [] new = new ≡ old
    RoundsLead old (round ∷ rounds) new =
        (kept : SeenStore D) × (mid : SeenStore D) × keeps old kept × Leads pending seen capacity moment left_since kept (calls_of round) mid × RoundsLead mid rounds new

    -- What was done behind the last round that was done: the store was looked after before the last wait. Where memory was wanting, it may
    -- have been in the midst of a round behind it.
    abbrev pub LeavesStore : Result Unit SessionEnd → Numbers → List ℕ → SeenStore D → SeenStore D → Type 0
    LeavesStore (Err NoMemory) c rest old new =
        (new ≡ old) ⊎ ((kept : SeenStore D) × (round : Exchange D) × keeps old kept × IsCutOff pending seen capacity moment left_since c rest kept new round)
    LeavesStore (Err WriteFault) c rest old new = new ≡ old
    LeavesStore (Err TooManyRequests) c rest old new = new ≡ old
    LeavesStore result c rest old new = keeps old new

    -- A session from its first request on. The requests of its rounds are those of the input, in order, and the calls that were made for them,
    -- with what its keeper did between, lead from the one store to the other. The sink took the replies to them; a beginning
    -- where it failed.
    pub record IsSession (c : Numbers) (old new : SeenStore D) (result : Result Unit SessionEnd)
        (left left_after taken taken_after : Option (List ℕ)) : Type 0 where
      pub rounds : List (Exchange D)
      pub done : AllByRecursion (IsExchange c) rounds
      pub some : AllByRecursion HasRequest rounds
      -- the bytes that were read behind their requests
      pub rest : List ℕ
      pub gave : Consumes left left_after (concat (requests_in rounds) ++ rest)
      pub ended : IsEnd result (length rounds) (length (concat (requests_in rounds))) rest left_after
      -- the store after the last round
      pub store : SeenStore D
      pub calls : RoundsLead old rounds store
      pub left_store : LeavesStore result c rest store new
      pub said : HasTaken (end_as result) (replies_in c rounds) taken taken_after

-- ---- a session in a store's life

module _ {D : Type 0} (pending : D → Pending) (seen : D → List ℕ) (capacity : D → ℕ) (moment : D → ℕ) (left_since : D → ℕ → List ℕ → Type 0) where
  -- the store is only looked after
  abbrev Tends : SeenStore D → SeenStore D → Type 0
  Tends old new = IsTended pending seen capacity moment left_since old new

  -- What is done in rounds, in order: before the calls of each the steps by which the store was looked after.
  abbrev pub steps_in : (rounds : List (Exchange D)) (old new : SeenStore D) → RoundsLead pending seen capacity moment left_since Tends old rounds new → List (Step D)
  steps_in [] old new led = []
  steps_in (round ∷ rounds) old new led = led.2.taken.steps ++ (called (calls_of round) ++ steps_in rounds led.1 new led.4)

  -- and behind them
  abbrev pub steps_left : (result : Result Unit SessionEnd) (c : Numbers) (rest : List ℕ) (old new : SeenStore D)
      → LeavesStore pending seen capacity moment left_since Tends result c rest old new → List (Step D)
  steps_left (Err NoMemory) c rest old new (inl same) = []
  steps_left (Err NoMemory) c rest old new (inr cut) = cut.2.taken.steps ++ called (calls_of cut.1)
  steps_left (Err WriteFault) c rest old new left = []
  steps_left (Err TooManyRequests) c rest old new left = []
  steps_left (Err ReadFault) c rest old new left = left.taken.steps
  steps_left (Err (BadMagic at)) c rest old new left = left.taken.steps
  steps_left (Err (CutRequest at)) c rest old new left = left.taken.steps
  steps_left (Ok done) c rest old new left = left.taken.steps

  module _ (c : Numbers) (old new : SeenStore D) (result : Result Unit SessionEnd) (left left_after taken taken_after : Option (List ℕ)) where
    -- a session in which the store is only looked after
    abbrev pub IsTendedSession : Type 0
    IsTendedSession = IsSession pending seen capacity moment left_since Tends c old new result left left_after taken taken_after

    -- all that is done in it, in order
    abbrev pub steps_of : IsTendedSession → List (Step D)
    steps_of session =
        steps_in session.rounds old session.store session.calls ++ steps_left result c session.rest session.store new session.left_store

  -- It is steps that lead from the one store to the other, and that may be taken at any time: each block is pruned by the stamp of an operation
  -- that was acknowledged among them, or by one that the store remembered before them.
  abbrev pub SessionsAreSteps : Type 0
  SessionsAreSteps =
      (c : Numbers) (old new : SeenStore D) (result : Result Unit SessionEnd) (left left_after taken taken_after : Option (List ℕ))
      (session : IsTendedSession c old new result left left_after taken taken_after)
      → StepsLead pending seen capacity moment left_since old (steps_of c old new result left left_after taken taken_after session) new
      × ((given : Acknowledged) → RemembersOnly given old → MayDoAll given (calls_among (steps_of c old new result left left_after taken taken_after session)))

  -- A life that has come to the store when a session begins goes on over all that is done in it, to the store when it ends.
  abbrev pub SessionsAreLives : Type 0
  SessionsAreLives =
      (life : List Moment) (gone : Nodes) (found : List Nodes)
      (c : Numbers) (old new : SeenStore D) (result : Result Unit SessionEnd) (left left_after taken taken_after : Option (List ℕ))
      (session : IsTendedSession c old new result left left_after taken taken_after)
      → HasComeTo pending seen life old gone
      → AreFound pending old gone (steps_of c old new result left left_after taken taken_after session) found
      → (more : List Moment)
      × AreTurnsBy (calls_among (steps_of c old new result left left_after taken taken_after session)) more
      × HasComeTo pending seen (life ++ more) new
      (gone_after old gone (steps_of c old new result left left_after taken taken_after session) found)

-- ---- what an input says of its end

-- how a session ends that meets no fault and finds memory, by what stands in its input behind whole requests of so many bytes
abbrev pub IsRest : Result Unit SessionEnd → ℕ → List ℕ → Type 0
IsRest (Ok done) place rest = BeginsWithLeave rest ⊎ (rest ≡ [])
IsRest (Err (BadMagic at)) place rest = (at ≡ told_place place) × (4 ≤ length rest) × (magic_of rest ≢ request_magic)
IsRest (Err (CutRequest at)) place rest = (at ≡ told_place place) × (0 < length rest) × IsPart rest
IsRest (Err ReadFault) place rest = ⊥
IsRest (Err WriteFault) place rest = ⊥
IsRest (Err NoMemory) place rest = ⊥
IsRest (Err TooManyRequests) place rest = ⊥

-- the input is that of a session that ends so
pub record EndsSo (result : Result Unit SessionEnd) (input : List ℕ) : Type 0 where
  pub requests : List (List ℕ)
  pub rest : List ℕ
  pub whole : All IsRequest requests
  pub told : input ≡ concat requests ++ rest
  pub last : IsRest result (length (concat requests)) rest
