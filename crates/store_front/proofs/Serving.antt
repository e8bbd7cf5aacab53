-- Sessions that go on by a round, and end.
use Rattle.std.proofs.Common.{◌≡◌, ℕ, ◌+◌, ◌-◌, ◌^◌, ◌<◌, ◌≤◌, List, [], ◌∷◌, ◌++◌, length, take, drop, refl, sym, ap, ◌∙◌, subst, arith, inl, inr, append_assoc, length-append, take-append-drop, Option, Some, None, Result, Ok, Err}
use Rattle.std.specs.List.{AllByRecursion, concat}
use Rattle.std.specs.Io.KnownBytes.{Consumes}
use Rattle.std.proofs.lemmas.List.{append-nil, length-take-le}
use Rattle.std.proofs.lemmas.List.Elements.{All-nil}
use Rattle.std.proofs.lemmas.List.Folds.{concat-append}
use Rattle.std.proofs.lemmas.Grind.{flat_map-append}
use Rattle.disk_model.specs.Crash.{Pending}
use Rattle.outside_io.specs.Written.{Adds, TakesPrefix}
use Rattle.outside_io.proofs.lemmas.Known.{Consumes-none, Consumes-then}
use Rattle.quorum_rules.specs.Limits.{Numbers}
use Rattle.nbd_front.specs.Sessions.{IsRequest}
use Rattle.nbd_front.specs.declared.ending.SessionEnd.{SessionEnd}
use Rattle.nbd_front.specs.declared.ending.SessionEnd.TheVariants.{NoMemory, ReadFault, WriteFault, BadMagic, CutRequest, TooManyRequests}
use Rattle.store_device.specs.Stores.{SeenStore}
use Rattle.store_device.specs.Calls.{Leads}
use Rattle.store_front.specs.Rounds.{BeginsWithRequest, Exchange, IsExchange, IsBegun, calls_of, reads_for, writes_for}
use Rattle.store_front.specs.Values.{given_by}
use Rattle.store_front.specs.Replies.{text_of, IsDone, IsCutOff, ServesRound}
use Rattle.store_front.specs.declared.waiting.Came.{Came}
use Rattle.store_front.specs.declared.waiting.Came.TheVariants.{Nothing}
use Rattle.store_front.specs.Sessions.{SeenSession, told_place, requests_in, replies_in, RoundsLead, HasRequest, HasReadOn, EndsWait, HasRound, HasWaited, TakesTurn, IsEnd, IsSession}

-- ---- what the sink took
pub adds_none : (a : Option (List ℕ)) → Adds a a []
adds_none None = tt
adds_none (Some xs) = sym (append-nil xs)

pub adds_then : (a b c : Option (List ℕ)) (xs ys : List ℕ) → Adds a b xs → Adds b c ys → Adds a c (xs ++ ys)
adds_then a b None xs ys h k = tt
adds_then a None (Some n) xs ys h k = absurd k
adds_then None (Some m) (Some n) xs ys h k = absurd h
adds_then (Some l) (Some m) (Some n) xs ys h k = k ∙ ap (λ z. z ++ ys) h ∙ append_assoc l xs ys

adds_prefix : (a b c : Option (List ℕ)) (xs ys : List ℕ) → Adds a b xs → TakesPrefix b c ys → TakesPrefix a c (xs ++ ys)
adds_prefix a b c xs ys h k = (xs ++ k.0, k.1, ap (λ z. xs ++ z) k.2 ∙ sym (append_assoc xs k.0 k.1), adds_then a b c xs k.0 h k.3)

-- nothing more was taken
adds_same : (a b c : Option (List ℕ)) (xs : List ℕ) → Adds a b xs → c ≡ b → Adds a c xs
adds_same a b c xs h e = subst (λ z. Adds a z xs) (sym e) h

-- ---- places
place_on : (n m : ℕ) → told_place (told_place n + m) ≡ told_place (n + m)
place_on n m = omega arith

module _ {D : Type 0} where
  requests_more : (rounds : List (Exchange D)) (round : Exchange D) → concat (requests_in (rounds ++ round ∷ [])) ≡ concat (requests_in rounds) ++ concat round.requests
  requests_more rounds round =
      ap concat (flat_map-append (λ (e : Exchange D). e.requests) rounds (round ∷ []) ∙ ap (λ z. requests_in rounds ++ z) (append-nil round.requests))
      ∙ concat-append (requests_in rounds) round.requests

  replies_more : (c : Numbers) (rounds : List (Exchange D)) (round : Exchange D) → replies_in c (rounds ++ round ∷ []) ≡ replies_in c rounds ++ text_of c round
  replies_more c rounds round = flat_map-append (text_of c) rounds (round ∷ []) ∙ ap (λ z. replies_in c rounds ++ z) (append-nil (text_of c round))

all_more : {X : Type 0} (P : X → Type 0) (xs : List X) (x : X) → AllByRecursion P xs → P x → AllByRecursion P (xs ++ x ∷ [])
all_more P [] x h k = (k, tt)
all_more P (y ∷ ys) x h k = (h.0, all_more P ys x h.1 k)

module _ {D : Type 0} (pending : D → Pending) (seen : D → List ℕ) (capacity : D → ℕ) (moment : D → ℕ) (left_since : D → ℕ → List ℕ → Type 0) (c : Numbers) where
  -- nothing was asked of the store for no request
  pub none_cut : (rest : List ℕ) (store : SeenStore D) → (round : Exchange D) × IsCutOff pending seen capacity moment left_since c rest store store round
  none_cut rest store = (
    record { requests = []; reads = []; writes = [] },
    record {
      is = record {
        together = record { whole = All-nil IsRequest; apart = λ i j d low high. absurd (omega (arith, high)) };
        reads = record { front = (reads_for c [], refl); only = tt };
        writes = record { front = (writes_for c (given_by {D = D} c []) [], refl); only = tt };
        order = inl refl;
      };
      front = (rest, refl);
      calls = refl;
    },
  )

  -- ---- one round
  module _ (input : List ℕ) (old new : SeenStore D) (requests : List (List ℕ)) (len : ℕ) (fits : len ≤ length input) (front : take len input ≡ concat requests) where
    -- memory was wanting for it
    pub begun_cut : (round : Exchange D) → round.requests ≡ requests → IsBegun c round → Leads pending seen capacity moment left_since old (calls_of round) new
        → IsCutOff pending seen capacity moment left_since c input old new round
    begun_cut round same is calls = record {
      is = is;
      front = (drop len input, sym (take-append-drop len input) ∙ ap (λ z. z ++ drop len input) (front ∙ ap concat (sym same)));
      calls = calls;
    }

    -- it has a request where one stands there
    not_empty : (requests' : List (List ℕ)) → take len input ≡ concat requests' → 0 < len → 0 < length requests'
    not_empty [] e some = let none : length (take len input) ≡ 0 = ap length e in omega (arith, none, length-take-le len input fits, some)
    not_empty (r ∷ rs) e some = omega arith

    -- it was done
    pub all_done : (some : BeginsWithRequest input → 0 < len) (round : Exchange D) → round.requests ≡ requests → IsExchange c round → Leads pending seen capacity moment left_since old (calls_of round) new
        → IsDone pending seen capacity moment left_since c input len old new round
    all_done some round same is calls = record { is = is; some = λ there. not_empty round.requests (front ∙ ap concat (sym same)) (some there); fits = fits; front = front ∙ ap concat (sym same); calls = calls }

  module _ (input : List ℕ) (old new : SeenStore D) (taken taken_after : Option (List ℕ)) (result : Result ℕ SessionEnd) where
    abbrev Serves : Type 0
    Serves = ServesRound pending seen capacity moment left_since c input old new taken taken_after result

    pub no_memory : result ≡ Err NoMemory → (round : Exchange D) → IsCutOff pending seen capacity moment left_since c input old new round → taken_after ≡ taken → Serves
    no_memory is round cut same = rw is (round, cut, adds_same taken taken taken_after [] (adds_none taken) same)

    pub no_sink : result ≡ Err WriteFault → (round : Exchange D) (len : ℕ) → IsDone pending seen capacity moment left_since c input len old new round → TakesPrefix taken taken_after (text_of c round) → Serves
    no_sink is round len done prefix = rw is (round, len, done, prefix)

  -- ---- a session with a keeper
  module _ (keeps : SeenStore D → SeenStore D → Type 0) where
    -- and one round more
    rounds_then : (rounds : List (Exchange D)) (old now : SeenStore D) → RoundsLead pending seen capacity moment left_since keeps old rounds now
        → (round : Exchange D) (kept new : SeenStore D) → keeps now kept → Leads pending seen capacity moment left_since kept (calls_of round) new
        → RoundsLead pending seen capacity moment left_since keeps old (rounds ++ round ∷ []) new
    rounds_then [] old now is round kept new work calls = (kept, new, subst (λ s. keeps s kept) is work, calls, refl)
    rounds_then (first ∷ rounds) old now h round kept new work calls =
        (h.0, h.1, h.2, h.3, rounds_then rounds h.1 now h.4 round kept new work calls)

    -- what a session has come to after rounds
    pub record HasServed (old now : SeenStore D) (count place : ℕ) (input : List ℕ) (left left_now taken taken_now : Option (List ℕ)) : Type 0 where
      pub rounds : List (Exchange D)
      pub done : AllByRecursion (IsExchange c) rounds
      pub some : AllByRecursion HasRequest rounds
      pub gave : Consumes left left_now (concat (requests_in rounds) ++ input)
      pub count_is : count ≡ length rounds
      pub place_is : place ≡ told_place (length (concat (requests_in rounds)))
      pub calls : RoundsLead pending seen capacity moment left_since keeps old rounds now
      pub said : Adds taken taken_now (replies_in c rounds)

    pub begun : (store : SeenStore D) (left taken : Option (List ℕ)) → HasServed store store 0 0 [] left left taken taken
    begun store left taken = record {
      rounds = [];
      done = tt;
      some = tt;
      gave = Consumes-none left;
      count_is = refl;
      place_is = refl;
      calls = refl;
      said = adds_none taken;
    }

    module _ (old now : SeenStore D) (count place : ℕ) (input : List ℕ) (left left_now taken taken_now : Option (List ℕ))
        (h : HasServed old now count place input left left_now taken taken_now) where
      abbrev bytes : List ℕ
      bytes = concat (requests_in h.rounds)

      gave_on : (new : List ℕ) (left_after : Option (List ℕ)) (read : HasReadOn input new left_now left_after) → Consumes left left_after (bytes ++ new)
      gave_on new left_after read =
          subst (Consumes left left_after) (append_assoc bytes input read.bytes ∙ ap (λ z. bytes ++ z) (sym read.behind))
          (Consumes-then left left_now left_after (bytes ++ input) read.bytes h.gave read.gave)

      -- bytes were read
      pub reads_on : (new : List ℕ) (left_after : Option (List ℕ)) → HasReadOn input new left_now left_after → HasServed old now count place new left left_after taken taken_now
      reads_on new left_after read = record {
        rounds = h.rounds;
        done = h.done;
        some = h.some;
        gave = gave_on new left_after read;
        count_is = h.count_is;
        place_is = h.place_is;
        calls = h.calls;
        said = h.said;
      }

      -- a round was done, after the store was looked after
      module _ (there : BeginsWithRequest input) (kept : SeenStore D) (work : keeps now kept) (new : SeenStore D) (len : ℕ) (round : Exchange D) (done : IsDone pending seen capacity moment left_since c input len kept new round) where
        abbrev more : List (Exchange D)
        more = h.rounds ++ round ∷ []

        done_gave : Consumes left left_now (concat (requests_in more) ++ drop len input)
        done_gave =
            let parts : input ≡ concat round.requests ++ drop len input = sym (take-append-drop len input) ∙ ap (λ z. z ++ drop len input) done.front in
            subst (Consumes left left_now)
            (ap (λ z. bytes ++ z) parts ∙ sym (append_assoc bytes (concat round.requests) (drop len input)) ∙ ap (λ z. z ++ drop len input) (sym (requests_more h.rounds round)))
            h.gave

        done_calls : RoundsLead pending seen capacity moment left_since keeps old more new
        done_calls = rounds_then h.rounds old now h.calls round kept new work done.calls

        done_all : AllByRecursion (IsExchange c) more
        done_all = all_more (IsExchange c) h.rounds round h.done done.is

        some_all : AllByRecursion HasRequest more
        some_all = all_more HasRequest h.rounds round h.some (done.some there)

        text_more : replies_in c h.rounds ++ text_of c round ≡ replies_in c more
        text_more = sym (replies_more c h.rounds round)

        pub serves_on : (taken_after : Option (List ℕ)) → Adds taken_now taken_after (text_of c round)
            → HasServed old new (count + 1) (told_place (place + len)) (drop len input) left left_now taken taken_after
        serves_on taken_after adds =
            let long : length (concat round.requests) ≡ len = sym (ap length done.front) ∙ length-take-le len input done.fits in
            record {
              rounds = more;
              done = done_all;
              some = some_all;
              gave = done_gave;
              count_is = omega (arith, h.count_is, length-append h.rounds (round ∷ []));
              place_is = ap (λ p. told_place (p + len)) h.place_is ∙ place_on (length bytes) len
                  ∙ ap (λ n. told_place (length bytes + n)) (sym long) ∙ ap told_place (sym (length-append bytes (concat round.requests)) ∙ ap length (sym (requests_more h.rounds round)));
              calls = done_calls;
              said = subst (Adds taken taken_after) text_more (adds_then taken taken_now taken_after (replies_in c h.rounds) (text_of c round) h.said adds);
            }

        -- the sink failed in the midst of its replies
        pub write_failed : (taken_after : Option (List ℕ)) → TakesPrefix taken_now taken_after (text_of c round)
            → IsSession pending seen capacity moment left_since keeps c old new (Err WriteFault) left left_now taken taken_after
        write_failed taken_after prefix = record {
          rounds = more;
          done = done_all;
          some = some_all;
          rest = drop len input;
          gave = done_gave;
          ended = tt;
          store = new;
          calls = done_calls;
          left_store = refl;
          said = subst (TakesPrefix taken taken_after) text_more (adds_prefix taken taken_now taken_after (replies_in c h.rounds) (text_of c round) h.said prefix);
        }

      -- a round ended the session
      pub ends_round : (there : BeginsWithRequest input) (kept : SeenStore D) (work : keeps now kept) (end : SessionEnd) (new : SeenStore D) (taken_after : Option (List ℕ)) → ServesRound pending seen capacity moment left_since c input kept new taken_now taken_after (Err end)
          → IsSession pending seen capacity moment left_since keeps c old new (Err end) left left_now taken taken_after
      ends_round there kept work WriteFault new taken_after r = write_failed there kept work new r.1 r.0 r.2 taken_after r.3
      ends_round there kept work NoMemory new taken_after r = record {
        rounds = h.rounds;
        done = h.done;
        some = h.some;
        rest = input;
        gave = h.gave;
        ended = tt;
        store = now;
        calls = h.calls;
        left_store = inr (kept, r.0, work, r.1);
        said = (replies_in c h.rounds, [], sym (append-nil (replies_in c h.rounds)), subst (Adds taken taken_after) (append-nil (replies_in c h.rounds)) (adds_then taken taken_now taken_after (replies_in c h.rounds) [] h.said r.2));
      }
      ends_round there kept work ReadFault new taken_after r = absurd r
      ends_round there kept work (BadMagic at) new taken_after r = absurd r
      ends_round there kept work (CutRequest at) new taken_after r = absurd r
      ends_round there kept work TooManyRequests new taken_after r = absurd r

      -- the session ended with these bytes at hand, but for want of memory
      abbrev ended_so : Result Unit SessionEnd → List ℕ → Option (List ℕ) → Type 0
      ended_so result new left_after = IsEnd result (length h.rounds) (length bytes) new left_after

      -- a wait ended the session
      pub leaves : (kept : SeenStore D) (work : keeps now kept) (new : List ℕ) (left_after : Option (List ℕ)) → EndsWait c (Ok Nothing) place input new left_now left_after
          → IsSession pending seen capacity moment left_since keeps c old kept (Ok tt) left left_after taken taken_now
      leaves kept work new left_after w = record {
        rounds = h.rounds;
        done = h.done;
        some = h.some;
        rest = new;
        gave = gave_on new left_after w.0;
        ended = w.1;
        store = now;
        calls = h.calls;
        left_store = work;
        said = h.said;
      }

      pub ends_wait : (kept : SeenStore D) (work : keeps now kept) (end : SessionEnd) (new : List ℕ) (left_after : Option (List ℕ)) → EndsWait c (Err end) place input new left_now left_after
          → IsSession pending seen capacity moment left_since keeps c old kept (Err end) left left_after taken taken_now
      ends_wait kept work (BadMagic at) new left_after w = record {
        rounds = h.rounds;
        done = h.done;
        some = h.some;
        rest = new;
        gave = gave_on new left_after w.0;
        ended = (w.1 ∙ h.place_is, w.2, w.3);
        store = now;
        calls = h.calls;
        left_store = work;
        said = h.said;
      }
      ends_wait kept work (CutRequest at) new left_after w = record {
        rounds = h.rounds;
        done = h.done;
        some = h.some;
        rest = new;
        gave = gave_on new left_after w.0;
        ended = (w.1 ∙ h.place_is, w.2, w.3, w.4);
        store = now;
        calls = h.calls;
        left_store = work;
        said = h.said;
      }
      ends_wait kept work ReadFault new left_after w = record {
        rounds = h.rounds;
        done = h.done;
        some = h.some;
        rest = new;
        gave = gave_on new left_after w.0;
        ended = w.1;
        store = now;
        calls = h.calls;
        left_store = work;
        said = h.said;
      }
      ends_wait kept work NoMemory new left_after w = record {
        rounds = h.rounds;
        done = h.done;
        some = h.some;
        rest = input ++ w.bytes;
        gave = subst (Consumes left left_after) (append_assoc bytes input w.bytes) (Consumes-then left left_now left_after (bytes ++ input) w.bytes h.gave w.gave);
        ended = tt;
        store = now;
        calls = h.calls;
        left_store = inr (kept, (none_cut (input ++ w.bytes) kept).0, work, (none_cut (input ++ w.bytes) kept).1);
        said = (replies_in c h.rounds, [], sym (append-nil (replies_in c h.rounds)), h.said);
      }
      ends_wait kept work WriteFault new left_after w = absurd w
      ends_wait kept work TooManyRequests new left_after w = absurd w

      -- memory was wanting for its keeper
      pub ends_keep : (kept : SeenStore D) (work : keeps now kept)
          → IsSession pending seen capacity moment left_since keeps c old kept (Err NoMemory) left left_now taken taken_now
      ends_keep kept work = record {
        rounds = h.rounds;
        done = h.done;
        some = h.some;
        rest = input;
        gave = h.gave;
        ended = tt;
        store = now;
        calls = h.calls;
        left_store = inr (kept, (none_cut input kept).0, work, (none_cut input kept).1);
        said = (replies_in c h.rounds, [], sym (append-nil (replies_in c h.rounds)), h.said);
      }

      -- no more rounds than these are counted
      pub many : count ≡ 2 ^ 64 - 1 → IsSession pending seen capacity moment left_since keeps c old now (Err TooManyRequests) left left_now taken taken_now
      many all = record {
        rounds = h.rounds;
        done = h.done;
        some = h.some;
        rest = input;
        gave = h.gave;
        ended = sym h.count_is ∙ all;
        store = now;
        calls = h.calls;
        left_store = refl;
        said = h.said;
      }

    -- ---- a turn
    module _ (old now : SeenStore D) (count : ℕ) (before : SeenSession) (left left_now taken taken_now : Option (List ℕ))
        (h : HasServed old now count before.place before.input left left_now taken taken_now) (kept : SeenStore D) (work : keeps now kept)
        (config : Numbers) (same : config ≡ c) (new : SeenStore D) (left_after taken_after : Option (List ℕ)) where
      abbrev Turn : SeenSession → Result (Option ℕ) SessionEnd → Type 0
      Turn after result = TakesTurn pending seen capacity moment left_since config before after kept new left_now left_after taken_now taken_after result

      abbrev Round : List ℕ → Result ℕ SessionEnd → Type 0
      Round read result = HasRound pending seen capacity moment left_since config before read kept new left_now left_after taken_now taken_after result

      abbrev Waited : List ℕ → Result Came SessionEnd → Type 0
      Waited read result = HasWaited pending seen capacity moment left_since config before read kept new left_now left_after taken_now taken_after result

      abbrev Ended : SeenStore D → Option (List ℕ) → Result Unit SessionEnd → Type 0
      Ended store took result = IsSession pending seen capacity moment left_since keeps c old store result left left_after taken took

      come : (read : List ℕ) (result : Result ℕ SessionEnd) → Round read result → HasServed old now count before.place read left left_after taken taken_now
      come read result r = reads_on old now count before.place before.input left left_now taken taken_now h read left_after r.reads

      serves : (read : List ℕ) (result : Result ℕ SessionEnd) → Round read result → ServesRound pending seen capacity moment left_since c read kept new taken_now taken_after result
      serves read result r = subst (λ (k : Numbers). ServesRound pending seen capacity moment left_since k read kept new taken_now taken_after result) same r.serves

      -- requests were served
      pub turn : (after : SeenSession) (some : Option ℕ) (len : ℕ) → some ≡ Some len → Turn after (Ok some) → HasServed old new (count + 1) after.place after.input left left_after taken taken_after
      turn after some len is it =
          let t : Turn after (Ok (Some len)) = subst (λ z. Turn after (Ok z)) is it in
          let read = t.0 in
          let done = serves read (Ok len) t.1 in
          let next = serves_on old now count before.place read left left_after taken taken_now (come read (Ok len) t.1) t.1.begins kept work new len done.0 done.1 taken_after done.2 in
          subst (λ z. HasServed old new (count + 1) after.place z left left_after taken taken_after) (sym t.2)
          (subst (λ n. HasServed old new (count + 1) n (drop len read) left left_after taken taken_after) (sym t.3) next)

      same_ended : (result : Result Unit SessionEnd) → new ≡ kept → taken_after ≡ taken_now → Ended kept taken_now result → Ended new taken_after result
      same_ended result store took e = subst (λ s. Ended s taken_after result) (sym store) (subst (λ t. Ended kept t result) (sym took) e)

      -- the client leaves, or the input has ended
      pub none_came : (after : SeenSession) (some : Option ℕ) → some ≡ None → Turn after (Ok some) → Ended new taken_after (Ok tt)
      none_came after some is it =
          let t : Turn after (Ok None) = subst (λ z. Turn after (Ok z)) is it in
          let w : EndsWait c (Ok Nothing) before.place before.input t.0 left_now left_after = t.1.waited in
          same_ended (Ok tt) t.1.same t.1.silent (leaves old now count before.place before.input left left_now taken taken_now h kept work t.0 left_after w)

      -- the session ended
      pub cut_short : (after : SeenSession) (end : SessionEnd) → Turn after (Err end) → Ended new taken_after (Err end)
      cut_short after end (inl w) =
          let waited = subst (λ (k : Numbers). EndsWait k (Err end) before.place before.input w.0 left_now left_after) same w.1.waited in
          same_ended (Err end) w.1.same w.1.silent (ends_wait old now count before.place before.input left left_now taken taken_now h kept work end w.0 left_after waited)
      cut_short after end (inr r) =
          ends_round old now count before.place r.0 left left_after taken taken_now (come r.0 (Err end) r.1) r.1.begins kept work end new taken_after (serves r.0 (Err end) r.1)

    -- no memory was found to begin it
    pub not_begun : (store : SeenStore D) (left taken : Option (List ℕ)) → IsSession pending seen capacity moment left_since keeps c store store (Err NoMemory) left left taken taken
    not_begun store left taken = record {
      rounds = [];
      done = tt;
      some = tt;
      rest = [];
      gave = Consumes-none left;
      ended = tt;
      store = store;
      calls = refl;
      left_store = inl refl;
      said = ([], [], refl, adds_none taken);
    }
