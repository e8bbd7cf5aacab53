-- Requests that were read in parts, and sessions that end within one.
use Rattle.std.proofs.Common.{◌≡◌, ◌≢◌, ℕ, ◌+◌, ◌<◌, ◌≤◌, List, ◌++◌, length, take, drop, refl, sym, ◌∙◌, ap, subst, arith, Option}
use Rattle.std.proofs.lemmas.List.{length-append, take-append-le, drop-append-le, drop_at, length-drop}
use Rattle.std.specs.Io.KnownBytes.{Consumes}
use Rattle.std.specs.Int.{w32, from_be_bytes}
use Rattle.outside_io.specs.Given.{GaveAtMost}
use Rattle.outside_io.proofs.lemmas.Known.{Consumes-then}
use Rattle.nbd_front.specs.declared.request.Request.{Request}
use Rattle.nbd_front.specs.declared.filling.TakeRefusal.{TakeRefusal}
use Rattle.nbd_front.specs.declared.filling.TakeRefusal.TheVariants as refusals
use Rattle.nbd_front.specs.Requests.{request_magic, magic_of, head_len, request_of, fields_of, data_len}
use Rattle.nbd_front.specs.Arrivals.{HasBegun, GaveFewer}
use Rattle.nbd_front.specs.declared.ending.SessionEnd.{SessionEnd}
use Rattle.nbd_front.specs.declared.ending.SessionEnd.TheVariants.{NoMemory, ReadFault, WriteFault, BadMagic, CutRequest, TooManyRequests}
use Rattle.nbd_front.specs.Ends.{end_of}
use Rattle.nbd_front.specs.Sessions.{leave_kind, most_requests, IsRequest, IsPart}
use Rattle.nbd_front.specs.Answers.{HasStopped}
use Rattle.nbd_front.specs.Servers.{HasNotCome}

-- a request is known by its first bytes
pub front_magic : (head more : List ℕ) → 4 ≤ length head → magic_of (head ++ more) ≡ magic_of head
front_magic head more long = ap (λ xs. from_be_bytes w32 xs) (take-append-le 4 head more long)

pub front_request : (head more : List ℕ) → head_len ≤ length head → request_of (head ++ more) ≡ request_of head
front_request head more long =
    ap (λ xs. fields_of (take 24 xs)) (drop-append-le 4 head more (omega (arith, long)))
    ∙ ap fields_of (take-append-le 24 (drop 4 head) more (omega (arith, long, length-drop 4 head)))

module _ (head more : List ℕ) (size : length head ≡ head_len) where
  pub same_magic : magic_of (head ++ more) ≡ magic_of head
  same_magic = front_magic head more (omega (arith, size))

  pub same_request : request_of (head ++ more) ≡ request_of head
  same_request = front_request head more (omega (arith, size))

  pub same_data : drop head_len (head ++ more) ≡ more
  same_data = drop_at head more head_len size

  pub is_part : magic_of head ≡ request_magic → length more < data_len (request_of head) → IsPart (head ++ more)
  is_part magic short = record {
    magic = λ l. same_magic ∙ magic;
    short = λ l. subst (λ q. length (head ++ more) < head_len + data_len q) (sym same_request) (omega (arith, size, short, length-append head more));
  }

  pub is_request : magic_of head ≡ request_magic → (request_of head).kind ≢ leave_kind → length more ≡ data_len (request_of head) → IsRequest (head ++ more)
  is_request magic stays all = record {
    magic = same_magic ∙ magic;
    size = subst (λ q. length (head ++ more) ≡ head_len + data_len q) (sym same_request) (omega (arith, size, all, length-append head more));
    stays = subst (λ q. q.kind ≢ leave_kind) (sym same_request) stays;
  }

pub begun_part : (bytes : List ℕ) → length bytes < head_len → (4 ≤ length bytes → magic_of bytes ≡ request_magic) → IsPart bytes
begun_part bytes short magic = record { magic = magic; short = λ l. absurd (omega (arith, l, short)) }

-- ---- ends before a request was there
pub not_come : (r : TakeRefusal) (served place : ℕ) (left left_after : Option (List ℕ)) → served < most_requests → (r ≡ refusals.ReadFault → HasBegun left left_after) → (r ≡ refusals.NoMemory → GaveAtMost head_len left left_after) → HasNotCome (end_of r) served place left left_after
not_come refusals.NoMemory served place left left_after few fault memory =
    let g = memory refl in
    record { bytes = g.0; gave = g.1; few = omega (arith, few); ends = tt; early = λ e. cc }
not_come refusals.ReadFault served place left left_after few fault memory =
    let g = fault refl in
    record { bytes = g.0; gave = g.1; few = omega (arith, few); ends = (begun_part g.0 g.2 g.3, λ all. absurd (omega (arith, all, few))); early = λ e. cc }

-- ---- ends within the data
pub stopped : (q : Request) (r : TakeRefusal) (place : ℕ) (left left_after : Option (List ℕ)) → (r ≡ refusals.ReadFault → GaveFewer (data_len q) left left_after) → (r ≡ refusals.NoMemory → GaveAtMost (data_len q) left left_after) → HasStopped q place left left_after (end_of r)
stopped q refusals.NoMemory place left left_after fault memory = memory refl
stopped q refusals.ReadFault place left left_after fault memory = fault refl

-- a session that stopped within a request's data has ended
pub ended_within : (head : List ℕ) (r : Request) (end : SessionEnd) (served place : ℕ) (left mid left_after : Option (List ℕ)) → length head ≡ head_len → magic_of head ≡ request_magic → r ≡ request_of head → served < most_requests
    → Consumes left mid head → HasStopped r place mid left_after end → HasNotCome end served place left left_after
ended_within head r NoMemory served place left mid left_after size magic is few gave s =
    record { bytes = head ++ s.0; gave = Consumes-then _ _ _ head s.0 gave s.1; few = omega (arith, few); ends = tt; early = λ e. cc }
ended_within head r ReadFault served place left mid left_after size magic is few gave s =
    record { bytes = head ++ s.0; gave = Consumes-then _ _ _ head s.0 gave s.1; few = omega (arith, few); ends = (is_part head s.0 size magic (subst (λ q. length s.0 < data_len q) is s.2), λ all. absurd (omega (arith, all, few))); early = λ e. cc }
ended_within head r (CutRequest at) served place left mid left_after size magic is few gave s =
    let cut = s.1 in
    let long = length-append head cut.0 in
    record { bytes = head ++ cut.0; gave = Consumes-then _ _ _ head cut.0 gave cut.1; few = omega (arith, few); ends = (s.0, few, omega (arith, long, size), is_part head cut.0 size magic (subst (λ q. length cut.0 < data_len q) is cut.2), cut.3); early = λ e. cc }
ended_within head r WriteFault served place left mid left_after size magic is few gave s = absurd s
ended_within head r (BadMagic at) served place left mid left_after size magic is few gave s = absurd s
ended_within head r TooManyRequests served place left mid left_after size magic is few gave s = absurd s
