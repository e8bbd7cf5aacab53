-- A write that is refused is a round by itself, for which the store isn't called.
use Rattle.std.proofs.Common.{◌≡◌, ℕ, ◌+◌, ◌-◌, ◌*◌, ◌/◌, ◌<◌, Bool, true, false, ◌==◌, ◌&&◌, nat_lt, if◌then◌else◌, List, [], ◌∷◌, ◌++◌, length, map, take, refl, sym, ap, ◌∙◌, subst, arith, inl, inr, length-append, Option, Some, Result, Ok, Err}
use Rattle.std.specs.List.{filter, flat_map, list_all, range_with_len}
use Rattle.std.specs.Int.{div_ceil}
use Rattle.std.specs.Io.KnownBytes.{Consumes}
use Rattle.std.proofs.lemmas.Bool.{and_right, ne_eqb}
use Rattle.std.proofs.lemmas.List.{append-nil, drop_all}
use Rattle.std.proofs.lemmas.List.Elements.{All-from_recursion}
use Rattle.std.proofs.Math.Seq.{take-length}
use Rattle.disk_model.specs.Crash.{Pending}
use Rattle.wire_forms.specs.declared.op.Op.TheVariants.{Read}
use Rattle.quorum_rules.specs.Limits.{Numbers}
use Rattle.outside_io.specs.Written.{Adds, TakesPrefix}
use Rattle.nbd_front.specs.declared.request.Request.{Request}
use Rattle.nbd_front.specs.Requests.{request_magic, magic_of, head_len, data_len, request_of, write_kind}
use Rattle.nbd_front.specs.Replies.{reply_head}
use Rattle.nbd_front.specs.Sessions.{leave_kind, read_kind, IsRequest, IsPart}
use Rattle.nbd_front.specs.declared.ending.SessionEnd.{SessionEnd}
use Rattle.nbd_front.specs.declared.ending.SessionEnd.TheVariants.{NoMemory, ReadFault, WriteFault, BadMagic, CutRequest, TooManyRequests}
use Rattle.store_device.specs.Stores.{SeenStore}
use Rattle.store_front.specs.Requests.{changes, has_range, error_of}
use Rattle.store_front.specs.Refusals.{IsRefused, RefusesWrite, refusal}
use Rattle.store_front.specs.Blocks.{is_served, blocks_of}
use Rattle.store_front.specs.Rounds.{Exchange, IsExchange, BeginsWithRequest, needs, reads_for, writes_for, with_blocks, left_at}
use Rattle.store_front.specs.Values.{write_of, with_values, given_by, wrote_by}
use Rattle.store_front.specs.Replies.{answer_error, is_done, sent_of, part_of, text_of, IsDone}
use Rattle.store_front.specs.Sessions.{SeenSession, HasReadOn, TakesTurn, told_place}
use Rattle.store_front.proofs.Ending.{same_magic, same_request}
use Rattle.store_front.proofs.Waits.{read_then}

data_of_write : (r : Request) → r.kind ≡ write_kind → data_len r ≡ r.len
data_of_write r is = rw is refl

-- ---- its bytes
module _ (c : Numbers) (bytes more : List ℕ) (r : Request) (is : IsRefused c bytes r) where
  same : request_of (bytes ++ more) ≡ r
  same = same_request bytes more is.long ∙ sym is.is

  magic : magic_of (bytes ++ more) ≡ request_magic
  magic = same_magic bytes more (omega (arith, is.long)) ∙ is.part.magic (omega (arith, is.long))

  size_is : data_len (request_of (bytes ++ more)) ≡ r.len
  size_is = ap data_len same ∙ data_of_write r is.writes

  stays : (request_of (bytes ++ more)).kind ≡ leave_kind → ⊥
  stays e = let k : r.kind ≡ leave_kind = sym (ap (λ (q : Request). q.kind) same) ∙ e in omega (arith, k, is.writes)

  pub whole : length (bytes ++ more) ≡ head_len + r.len → IsRequest (bytes ++ more)
  whole size = record { magic = magic; size = omega (arith, size, size_is); stays = stays }

  pub part : length (bytes ++ more) < head_len + r.len → IsPart (bytes ++ more)
  part short = record { magic = λ l. magic; short = λ l. omega (arith, short, size_is) }

  pub fails : (error_of (c.size * c.blocks) (request_of (bytes ++ more)) == 0) ≡ false
  fails = ne_eqb (error_of (c.size * c.blocks) (request_of (bytes ++ more))) 0 (λ e. is.fails (ap (error_of (c.size * c.blocks)) (sym same) ∙ e))

-- ---- a request that isn't served touches no block, and has no data in its reply
module _ (c : Numbers) (q : Request) (fails : (error_of (c.size * c.blocks) q == 0) ≡ false) where
  not_served : is_served c q ≡ false
  not_served = ap (λ b. b && nat_lt 0 q.len) (and_right (has_range q.kind) (error_of (c.size * c.blocks) q == 0) fails)

  pub no_blocks : blocks_of c q ≡ []
  no_blocks = ap (λ b. range_with_len (if b then q.offset / c.size else 0) ((if b then div_ceil (q.offset + q.len) c.size else 0) - (if b then q.offset / c.size else 0))) not_served

  module _ (read : ℕ → Option (List ℕ)) (wrote : ℕ → Bool) where
    error_is : answer_error c read wrote q ≡ error_of (c.size * c.blocks) q
    error_is = ap (λ b. if b then (if list_all (is_done read wrote q.kind) (blocks_of c q) then 0 else 5) else error_of (c.size * c.blocks) q) fails

    none_sent : sent_of c read wrote q ≡ []
    none_sent =
        ap (λ n. if n == 0 && q.kind == read_kind then flat_map (part_of c read q) (blocks_of c q) else []) error_is
        ∙ ap (λ b. if b && q.kind == read_kind then flat_map (part_of c read q) (blocks_of c q) else []) fails

    pub only_head : reply_head (answer_error c read wrote q) q.handle ++ sent_of c read wrote q ≡ refusal c q
    only_head = ap (λ z. reply_head (answer_error c read wrote q) q.handle ++ z) none_sent ∙ append-nil (reply_head (answer_error c read wrote q) q.handle) ∙ ap (λ n. reply_head n q.handle) error_is

either : {A : Type 0} (b : Bool) (x : A) → (if b then x else x) ≡ x
either true x = refl
either false x = refl

none_read : (c : Numbers) (bytes : List ℕ) → blocks_of c (request_of bytes) ≡ [] → reads_for c (bytes ∷ []) ≡ []
none_read c bytes none = ap (λ ks. map Read (with_blocks [] (filter (needs c (request_of bytes)) ks ++ []))) none

none_written : (c : Numbers) (read : ℕ → Option (List ℕ)) (bytes : List ℕ) → blocks_of c (request_of bytes) ≡ [] → writes_for c read (bytes ∷ []) ≡ []
none_written c read bytes none =
    ap (λ ks. map write_of (with_values [] ((if changes (request_of bytes).kind then flat_map (left_at c read bytes) ks else []) ++ []))) none
    ∙ ap (λ z. map write_of (with_values [] (z ++ []))) (either (changes (request_of bytes).kind) [])

-- ---- its round
module _ {D : Type 0} (pending : D → Pending) (seen : D → List ℕ) (capacity : D → ℕ) (moment : D → ℕ) (left_since : D → ℕ → List ℕ → Type 0) where
  abbrev pub alone : List ℕ → Exchange D
  alone bytes = record { requests = bytes ∷ []; reads = []; writes = [] }

  module _ (c : Numbers) (bytes more : List ℕ) (r : Request) (is : IsRefused c bytes r) (all : length (bytes ++ more) ≡ head_len + r.len) (store : SeenStore D) where
    abbrev request : List ℕ
    request = bytes ++ more

    none : blocks_of c (request_of request) ≡ []
    none = no_blocks c (request_of request) (fails c bytes more r is)

    exchange : IsExchange c (alone request)
    exchange = record {
      together = record { whole = All-from_recursion IsRequest (request ∷ []) (whole c bytes more r is all, tt); apart = λ i j d low high. absurd (omega (arith, low, high)) };
      reads = record { all = sym (none_read c request none); heard = tt };
      writes = record { all = sym (none_written c (given_by {D = D} c []) request none); heard = tt };
    }

    pub begins : BeginsWithRequest request
    begins = (request, whole c bytes more r is all, ([], sym (append-nil request)))

    pub done : (len : ℕ) → len ≡ head_len + r.len → IsDone pending seen capacity moment left_since c request len store store (alone request)
    done len size = record {
      is = exchange;
      some = λ there. omega arith;
      fits = omega (arith, all, size);
      front = ap (λ n. take n request) (size ∙ sym all) ∙ take-length request ∙ sym (append-nil request);
      calls = refl;
    }

    pub says : text_of c (alone request) ≡ refusal c r
    says =
        append-nil _
        ∙ only_head c (request_of request) (fails c bytes more r is) (given_by {D = D} c []) (wrote_by {D = D} [])
        ∙ ap (refusal c) (same c bytes more r is)

  -- ---- a turn in which a write is refused
  module _ (c : Numbers) (before : SeenSession) (read : List ℕ) (r : Request) (is : IsRefused c read r) (store : SeenStore D) (left mid left_after taken taken_after : Option (List ℕ))
      (waited : HasReadOn before.input read left mid) where
    abbrev Turn : SeenSession → Result (Option ℕ) SessionEnd → Type 0
    Turn after result = TakesTurn pending seen capacity moment left_since c before after store store left left_after taken taken_after result

    abbrev Refuses : Result ℕ SessionEnd → Type 0
    Refuses result = RefusesWrite c r before.place read mid left_after taken taken_after result

    on : (more : List ℕ) → Consumes mid left_after more → HasReadOn before.input (read ++ more) left left_after
    on more gave = read_then before.input read (read ++ more) left mid left_after waited (record { bytes = more; gave = gave; behind = refl })

    pub refused : (after : SeenSession) (len : ℕ) → Refuses (Ok len) → after.input ≡ [] → after.place ≡ told_place (before.place + len) → Turn after (Ok (Some len))
    refused after len w none further =
        let more = w.0.more in
        let all = w.0.all in (
          read ++ more,
          record {
            reads = on more w.0.gave;
            begins = begins c read more r is all store;
            serves = (alone (read ++ more), done c read more r is all store len w.1, subst (Adds taken taken_after) (sym (says c read more r is all store)) w.2);
          },
          none ∙ sym (drop_all len (read ++ more) (omega (arith, all, w.1))),
          further,
        )

    pub not_refused : (after : SeenSession) (end : SessionEnd) → Refuses (Err end) → Turn after (Err end)
    not_refused after WriteFault w =
        let more = w.0.more in
        let all = w.0.all in
        inr (
          read ++ more,
          record {
            reads = on more w.0.gave;
            begins = begins c read more r is all store;
            serves = (alone (read ++ more), head_len + r.len, done c read more r is all store (head_len + r.len) refl, subst (TakesPrefix taken taken_after) (sym (says c read more r is all store)) w.1);
          },
        )
    not_refused after NoMemory w =
        let reads = on w.0.more w.0.gave in
        inl (before.input, record { waited = record { bytes = reads.bytes; gave = reads.gave; behind = (reads.bytes, refl) }; same = refl; silent = w.1 })
    not_refused after ReadFault w =
        inl (read ++ w.0.more, record { waited = (on w.0.more w.0.gave, part c read w.0.more r is w.0.short); same = refl; silent = w.1 })
    not_refused after (CutRequest at) w =
        let some : 0 < length (read ++ w.0.more) = omega (arith, is.long, length-append read w.0.more) in
        inl (read ++ w.0.more, record { waited = (on w.0.more w.0.gave, w.1, some, part c read w.0.more r is w.0.short, w.2); same = refl; silent = w.3 })
    not_refused after (BadMagic at) w = absurd w
    not_refused after TooManyRequests w = absurd w
