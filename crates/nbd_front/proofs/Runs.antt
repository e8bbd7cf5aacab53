-- Sessions that go on by one request.
use Rattle.std.proofs.Common.{◌≡◌, ℕ, ◌+◌, ◌<◌, ◌≤◌, List, [], ◌∷◌, ◌++◌, length, refl, sym, ◌∙◌, ap, subst, arith, length-append, append_assoc, Option, Some, None, Result, Ok, Err}
use Rattle.std.specs.List.{All, concat}
use Rattle.std.proofs.lemmas.List.{append-nil}
use Rattle.std.proofs.lemmas.List.Elements.{All-append, All-cons, All-nil}
use Rattle.std.specs.Io.KnownBytes.{Consumes}
use Rattle.outside_io.specs.Written.{Adds, TakesPrefix}
use Rattle.outside_io.proofs.lemmas.Known.{Consumes-then}
use Rattle.nbd_front.specs.declared.ending.Served.{Served}
use Rattle.nbd_front.specs.declared.ending.Served.TheVariants.{Next, Over}
use Rattle.nbd_front.specs.declared.ending.SessionEnd.{SessionEnd}
use Rattle.nbd_front.specs.declared.ending.SessionEnd.TheVariants.{NoMemory, ReadFault, WriteFault, BadMagic, CutRequest, TooManyRequests}
use Rattle.nbd_front.specs.Sessions.{reply_to, after_request, replies, after_requests, most_requests, IsRequest, IsEnd, HasTaken, IsSession}

pub Adds-none : (a : Option (List ℕ)) → Adds a a []
Adds-none None = tt
Adds-none (Some xs) = sym (append-nil xs)

pub Adds-then : (a b c : Option (List ℕ)) (xs ys : List ℕ) → Adds a b xs → Adds b c ys → Adds a c (xs ++ ys)
Adds-then a b None xs ys h k = tt
Adds-then a None (Some n) xs ys h k = absurd k
Adds-then None (Some m) (Some n) xs ys h k = absurd h
Adds-then (Some l) (Some m) (Some n) xs ys h k = k ∙ ap (λ z. z ++ ys) h ∙ append_assoc l xs ys

pub Adds-prefix : (a b c : Option (List ℕ)) (xs ys : List ℕ) → Adds a b xs → TakesPrefix b c ys → TakesPrefix a c (xs ++ ys)
Adds-prefix a b c xs ys h k = (xs ++ k.0, k.1, ap (λ z. xs ++ z) k.2 ∙ sym (append_assoc xs k.0 k.1), Adds-then a b c xs k.0 h k.3)

-- ---- one request more
pub replies_more : (array : List ℕ) (rs : List (List ℕ)) (b : List ℕ) → replies array (rs ++ b ∷ []) ≡ replies array rs ++ reply_to (after_requests array rs) b
replies_more array [] b = append-nil (reply_to array b)
replies_more array (r ∷ rs) b = ap (λ z. reply_to array r ++ z) (replies_more (after_request array r) rs b) ∙ sym (append_assoc (reply_to array r) _ _)

pub after_more : (array : List ℕ) (rs : List (List ℕ)) (b : List ℕ) → after_requests array (rs ++ b ∷ []) ≡ after_request (after_requests array rs) b
after_more array [] b = refl
after_more array (r ∷ rs) b = after_more (after_request array r) rs b

pub concat_more : (rs : List (List ℕ)) (b : List ℕ) → concat (rs ++ b ∷ []) ≡ concat rs ++ b
concat_more [] b = append-nil b
concat_more (r ∷ rs) b = ap (λ z. r ++ z) (concat_more rs b) ∙ sym (append_assoc r (concat rs) b)

-- what a session has come to
pub record HasGone (array : List ℕ) (count place : ℕ) (array_now : List ℕ) (count_now place_now : ℕ) (left left_now taken taken_now : Option (List ℕ)) : Type 0 where
  pub requests : List (List ℕ)
  pub whole : All IsRequest requests
  pub gave : Consumes left left_now (concat requests)
  pub served : count_now ≡ count + length requests
  pub place_is : place_now ≡ place + length (concat requests)
  pub array_is : array_now ≡ after_requests array requests
  pub said : Adds taken taken_now (replies array requests)

pub begun : (array : List ℕ) (count place : ℕ) (left taken : Option (List ℕ)) → Consumes left left [] → HasGone array count place array count place left left taken taken
begun array count place left taken none = record { requests = []; whole = All-nil IsRequest; gave = none; served = omega arith; place_is = omega arith; array_is = refl; said = Adds-none taken }

module _ (array : List ℕ) (count place : ℕ) (left taken : Option (List ℕ)) (array_now : List ℕ) (count_now place_now : ℕ) (left_now taken_now : Option (List ℕ)) (h : HasGone array count place array_now count_now place_now left left_now taken taken_now) where
  -- one request more
  pub goes_on : (bytes : List ℕ) (array_next : List ℕ) (count_next place_next : ℕ) (left_next taken_next : Option (List ℕ)) → IsRequest bytes → Consumes left_now left_next bytes → array_next ≡ after_request array_now bytes → count_next ≡ count_now + 1 → place_next ≡ place_now + length bytes → Adds taken_now taken_next (reply_to array_now bytes)
      → HasGone array count place array_next count_next place_next left left_next taken taken_next
  goes_on bytes array_next count_next place_next left_next taken_next is gave a c p said =
      let rs = h.requests in
      record {
        requests = rs ++ bytes ∷ [];
        whole = All-append IsRequest rs (bytes ∷ []) h.whole (All-cons IsRequest bytes [] is (All-nil IsRequest));
        gave = rw (concat_more rs bytes) (Consumes-then _ _ _ (concat rs) bytes h.gave gave);
        served = omega (arith, c, h.served, length-append rs (bytes ∷ []));
        place_is = omega (arith, p, h.place_is, ap length (concat_more rs bytes), length-append (concat rs) bytes);
        array_is = a ∙ ap (λ z. after_request z bytes) h.array_is ∙ sym (after_more array rs bytes);
        said = rw (replies_more array rs bytes) (Adds-then taken taken_now taken_next (replies array rs) (reply_to (after_requests array rs) bytes) h.said (rw (sym h.array_is) said));
      }

  -- the end
  said_at : (end : Result Served SessionEnd) (taken_next : Option (List ℕ)) → (end ≡ Ok Next → ⊥) → (end ≡ Err WriteFault → ⊥) → taken_next ≡ taken_now → HasTaken end ([] ++ replies array h.requests) taken taken_next
  said_at (Err WriteFault) taken_next n w e = absurd (w refl)
  said_at (Err NoMemory) taken_next n w e = rw e (replies array h.requests, [], sym (append-nil (replies array h.requests)), h.said)
  said_at (Err ReadFault) taken_next n w e = rw e h.said
  said_at (Err (BadMagic at)) taken_next n w e = rw e h.said
  said_at (Err (CutRequest at)) taken_next n w e = rw e h.said
  said_at (Err TooManyRequests) taken_next n w e = rw e h.said
  said_at (Ok Next) taken_next n w e = absurd (n refl)
  said_at (Ok Over) taken_next n w e = rw e h.said

  pub has_ended : (end : Result Served SessionEnd) (bytes : List ℕ) (left_next taken_next : Option (List ℕ)) → Consumes left_now left_next bytes → count_now ≤ most_requests → IsEnd end count_now place_now bytes left_next
      → (end ≡ Ok Next → ⊥) → (end ≡ Err WriteFault → ⊥) → taken_next ≡ taken_now → IsSession [] array count place end left left_next taken taken_next
  has_ended end bytes left_next taken_next gave few is n w e = record {
    requests = h.requests;
    rest = bytes;
    whole = h.whole;
    few = omega (arith, few, h.served);
    gave = Consumes-then _ _ _ (concat h.requests) bytes h.gave gave;
    ended = subst (λ m. IsEnd end m (place + length (concat h.requests)) bytes left_next) h.served (subst (λ m. IsEnd end count_now m bytes left_next) h.place_is is);
    said = said_at end taken_next n w e;
  }

  -- the sink failed in the midst of a reply
  pub has_failed : (bytes : List ℕ) (left_next taken_next : Option (List ℕ)) → Consumes left_now left_next bytes → count_now < most_requests → IsRequest bytes → TakesPrefix taken_now taken_next (reply_to array_now bytes)
      → IsSession [] array count place (Err WriteFault) left left_next taken taken_next
  has_failed bytes left_next taken_next gave few is t =
      let rs = h.requests in
      record {
        requests = rs ++ bytes ∷ [];
        rest = [];
        whole = All-append IsRequest rs (bytes ∷ []) h.whole (All-cons IsRequest bytes [] is (All-nil IsRequest));
        few = omega (arith, few, h.served, length-append rs (bytes ∷ []));
        gave = rw (append-nil (concat (rs ++ bytes ∷ [])), concat_more rs bytes) (Consumes-then _ _ _ (concat rs) bytes h.gave gave);
        ended = refl;
        said = rw (replies_more array rs bytes) (Adds-prefix taken taken_now taken_next (replies array rs) (reply_to (after_requests array rs) bytes) h.said (rw (sym h.array_is) t));
      }

-- a session that begins with words
pub with_words : (words array : List ℕ) (end : Result Served SessionEnd) (left left_after taken greeted taken_after : Option (List ℕ)) → Adds taken greeted words → IsSession [] array 0 0 end left left_after greeted taken_after → IsSession words array 0 0 end left left_after taken taken_after
with_words words array end left left_after taken greeted taken_after adds s = record {
  requests = s.requests;
  rest = s.rest;
  whole = s.whole;
  few = s.few;
  gave = s.gave;
  ended = s.ended;
  said = said_after end (replies array s.requests) s.said;
}
  where
    said_after : (end : Result Served SessionEnd) (text : List ℕ) → HasTaken end ([] ++ text) greeted taken_after → HasTaken end (words ++ text) taken taken_after
    said_after (Err WriteFault) text t = Adds-prefix taken greeted taken_after words text adds t
    said_after (Err NoMemory) text t = Adds-prefix taken greeted taken_after words text adds t
    said_after (Err ReadFault) text t = Adds-then taken greeted taken_after words text adds t
    said_after (Err (BadMagic at)) text t = Adds-then taken greeted taken_after words text adds t
    said_after (Err (CutRequest at)) text t = Adds-then taken greeted taken_after words text adds t
    said_after (Err TooManyRequests) text t = Adds-then taken greeted taken_after words text adds t
    said_after (Ok Next) text t = absurd t
    said_after (Ok Over) text t = Adds-then taken greeted taken_after words text adds t

-- a session that ended before its first request: with its words not written whole, or not begun
pub not_greeted : (words array : List ℕ) (left taken taken_after : Option (List ℕ)) → Consumes left left [] → TakesPrefix taken taken_after words → IsSession words array 0 0 (Err WriteFault) left left taken taken_after
not_greeted words array left taken taken_after none t = record { requests = []; rest = []; whole = All-nil IsRequest; few = omega arith; gave = none; ended = refl; said = rw (append-nil words) t }

pub not_made : (words array : List ℕ) (left taken : Option (List ℕ)) → Consumes left left [] → IsSession words array 0 0 (Err NoMemory) left left taken taken
not_made words array left taken none = record { requests = []; rest = []; whole = All-nil IsRequest; few = omega arith; gave = none; ended = tt; said = ([], words ++ [], refl, Adds-none taken) }
