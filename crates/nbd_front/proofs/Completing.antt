-- An input has one end, and a session that meets no fault comes to it.
use Rattle.std.proofs.Common.{◌≡◌, ◌≢◌, ◌⊎◌, ℕ, suc, ◌+◌, ◌<◌, ◌≤◌, List, [], ◌∷◌, ◌++◌, length, take, drop, refl, sym, ◌∙◌, ap, subst, arith, inl, inr, length-append, append_assoc, Option, Some, None, Result, Ok, Err}
use Rattle.std.specs.List.{All, concat}
use Rattle.std.proofs.lemmas.List.{append-nil, drop_at, take_at}
use Rattle.std.proofs.lemmas.List.Elements.{All-head, All-tail}
use Rattle.std.specs.Io.KnownBytes.{Consumes, IsAtEnd}
use Rattle.nbd_front.specs.declared.request.Request.{Request}
use Rattle.nbd_front.specs.Requests.{request_magic, magic_of, head_len, request_of, data_len}
use Rattle.nbd_front.specs.declared.ending.Served.{Served}
use Rattle.nbd_front.specs.declared.ending.Served.TheVariants.{Next, Over}
use Rattle.nbd_front.specs.declared.ending.SessionEnd.{SessionEnd}
use Rattle.nbd_front.specs.declared.ending.SessionEnd.TheVariants.{NoMemory, ReadFault, WriteFault, BadMagic, CutRequest, TooManyRequests}
use Rattle.nbd_front.specs.Sessions.{leave_kind, most_requests, IsRequest, IsLeave, IsPart, IsEnd, IsLast, IsRest, IsSession, EndsSo}
use Rattle.nbd_front.proofs.Requests.{front_magic, front_request}

-- ---- texts that begin with a request
-- two requests with which one text begins
same_front : (a b x y : List ℕ) → head_len ≤ length a → head_len ≤ length b → a ++ x ≡ b ++ y → request_of a ≡ request_of b
same_front a b x y long other e = sym (front_request a x long) ∙ ap request_of e ∙ front_request b y other

no_data : (r : Request) → r.kind ≡ leave_kind → data_len r ≡ 0
no_data r e = rw e refl

-- no request begins with the text
abbrev BeginsNone : List ℕ → Type 0
BeginsNone text = (bytes more : List ℕ) → IsRequest bytes → text ≡ bytes ++ more → ⊥

wrong_begins : (text : List ℕ) → (magic_of text ≡ request_magic → ⊥) → BeginsNone text
wrong_begins text wrong bytes more is e = wrong (ap magic_of e ∙ front_magic bytes more (omega (arith, is.size)) ∙ is.magic)

part_begins : (text : List ℕ) → IsPart text → BeginsNone text
part_begins text part bytes more is e =
    let long : length text ≡ length bytes + length more = ap length e ∙ length-append bytes more in
    let same : request_of text ≡ request_of bytes = ap request_of e ∙ front_request bytes more (omega (arith, is.size)) in
    let short = part.short (omega (arith, long, is.size)) in
    let less : length text < head_len + data_len (request_of bytes) = subst (λ q. length text < head_len + data_len q) same short in
    omega (arith, less, long, is.size)

last_begins : (count : ℕ) (rest : List ℕ) → IsLast count rest → BeginsNone rest
last_begins count rest (inl none) bytes more is e = omega (arith, ap length (sym none.0 ∙ e), length-append bytes more, is.size)
last_begins count rest (inr l) bytes more is e =
    let same = same_front l.0 bytes l.1 more (omega (arith, l.3.size)) (omega (arith, is.size)) (sym l.2 ∙ e) in
    is.stays (ap (λ (r : Request). r.kind) (sym same) ∙ l.3.leaves)

-- ---- what stands after the whole requests
-- no request follows, or none may
abbrev IsDone : ℕ → List ℕ → Type 0
IsDone count rest = (count ≡ most_requests) ⊎ BeginsNone rest

rest_done : (end : Result Served SessionEnd) (count place : ℕ) (rest : List ℕ) → IsRest end count place rest → IsDone count rest
rest_done (Ok Over) count place rest is = inr (last_begins count rest is)
rest_done (Ok Next) count place rest is = absurd is
rest_done (Err (BadMagic at)) count place rest is = inr (wrong_begins rest is.3)
rest_done (Err (CutRequest at)) count place rest is = inr (part_begins rest is.3)
rest_done (Err TooManyRequests) count place rest is = inl is.0
rest_done (Err ReadFault) count place rest is = absurd is
rest_done (Err WriteFault) count place rest is = absurd is
rest_done (Err NoMemory) count place rest is = absurd is

last_few : (count : ℕ) (rest : List ℕ) → IsLast count rest → count ≤ most_requests
last_few count rest (inl none) = none.1
last_few count rest (inr l) = omega (arith, l.4)

rest_few : (end : Result Served SessionEnd) (count place : ℕ) (rest : List ℕ) → IsRest end count place rest → count ≤ most_requests
rest_few (Ok Over) count place rest is = last_few count rest is
rest_few (Ok Next) count place rest is = absurd is
rest_few (Err (BadMagic at)) count place rest is = omega (arith, is.1)
rest_few (Err (CutRequest at)) count place rest is = omega (arith, is.1)
rest_few (Err TooManyRequests) count place rest is = omega (arith, is.0)
rest_few (Err ReadFault) count place rest is = absurd is
rest_few (Err WriteFault) count place rest is = absurd is
rest_few (Err NoMemory) count place rest is = absurd is

-- ---- an input comes apart in one way
record AreSame (requests others : List (List ℕ)) (rest other : List ℕ) : Type 0 where
  pub requests_are : requests ≡ others
  pub rest_is : rest ≡ other

one_fewer : (count n : ℕ) (rest : List ℕ) → IsDone (count + suc n) rest → IsDone ((count + 1) + n) rest
one_fewer count n rest done =
    let same : count + suc n ≡ (count + 1) + n = omega arith in
    subst (λ k. IsDone k rest) same done

none_follows : (count n : ℕ) (rest bytes text : List ℕ) → IsDone (count + 0) rest → count + suc n ≤ most_requests → IsRequest bytes → rest ≡ bytes ++ text → ⊥
none_follows count n rest bytes text (inl all) few is e = omega (arith, all, few)
none_follows count n rest bytes text (inr none) few is e = none bytes text is e

comes_apart : (count : ℕ) (requests others : List (List ℕ)) (rest other : List ℕ) → All IsRequest requests → All IsRequest others
    → count + length requests ≤ most_requests → count + length others ≤ most_requests → IsDone (count + length requests) rest → IsDone (count + length others) other
    → concat requests ++ rest ≡ concat others ++ other → AreSame requests others rest other
comes_apart count [] [] rest other whole are few less done ended e = record { requests_are = refl; rest_is = e }
comes_apart count [] (b ∷ others) rest other whole are few less done ended e =
    absurd (none_follows count (length others) rest b (concat others ++ other) done less (All-head IsRequest b others are) (e ∙ append_assoc b (concat others) other))
comes_apart count (r ∷ requests) [] rest other whole are few less done ended e =
    absurd (none_follows count (length requests) other r (concat requests ++ rest) ended few (All-head IsRequest r requests whole) (sym e ∙ append_assoc r (concat requests) rest))
comes_apart count (r ∷ requests) (b ∷ others) rest other whole are few less done ended e =
    let is = All-head IsRequest r requests whole in
    let it = All-head IsRequest b others are in
    let both : r ++ (concat requests ++ rest) ≡ b ++ (concat others ++ other) = sym (append_assoc r (concat requests) rest) ∙ e ∙ append_assoc b (concat others) other in
    let same = same_front r b _ _ (omega (arith, is.size)) (omega (arith, it.size)) both in
    let long : length b ≡ length r = it.size ∙ ap (λ q. head_len + data_len q) (sym same) ∙ sym is.size in
    let first : r ≡ b = sym (take_at r _ (length r) refl) ∙ ap (take (length r)) both ∙ take_at b _ (length r) long in
    let on : concat requests ++ rest ≡ concat others ++ other = sym (drop_at r _ (length r) refl) ∙ ap (drop (length r)) both ∙ drop_at b _ (length r) long in
    let more = comes_apart (count + 1) requests others rest other (All-tail IsRequest r requests whole) (All-tail IsRequest b others are) (omega (arith, few)) (omega (arith, less))
    (one_fewer count (length requests) rest done) (one_fewer count (length others) other ended) on in
    record { requests_are = ap (λ x. x ∷ requests) first ∙ ap (λ xs. b ∷ xs) more.requests_are; rest_is = more.rest_is }

-- ---- what stands there ends a session in one way
last_not_wrong : (count : ℕ) (rest : List ℕ) → IsLast count rest → 4 ≤ length rest → (magic_of rest ≡ request_magic → ⊥) → ⊥
last_not_wrong count rest (inl none) long wrong = omega (arith, ap length none.0, long)
last_not_wrong count rest (inr l) long wrong = wrong (ap magic_of l.2 ∙ front_magic l.0 l.1 (omega (arith, l.3.size)) ∙ l.3.magic)

last_not_cut : (count : ℕ) (rest : List ℕ) → IsLast count rest → 0 < length rest → IsPart rest → ⊥
last_not_cut count rest (inl none) some part = omega (arith, ap length none.0, some)
last_not_cut count rest (inr l) some part =
    let long : length rest ≡ length l.0 + length l.1 = ap length l.2 ∙ length-append l.0 l.1 in
    let same : request_of rest ≡ request_of l.0 = ap request_of l.2 ∙ front_request l.0 l.1 (omega (arith, l.3.size)) in
    let short = part.short (omega (arith, long, l.3.size)) in
    let less : length rest < head_len + data_len (request_of l.0) = subst (λ q. length rest < head_len + data_len q) same short in
    let none = no_data (request_of l.0) l.3.leaves in
    omega (arith, less, none, long, l.3.size)

last_not_many : (count : ℕ) (rest : List ℕ) → IsLast count rest → count ≡ most_requests → 0 < length rest → ⊥
last_not_many count rest (inl none) all some = omega (arith, ap length none.0, some)
last_not_many count rest (inr l) all some = omega (arith, l.4, all)

same_end : (a b : Result Served SessionEnd) (count place : ℕ) (rest : List ℕ) → IsRest a count place rest → IsRest b count place rest → a ≡ b
same_end (Ok Next) b count place rest is it = absurd is
same_end (Err ReadFault) b count place rest is it = absurd is
same_end (Err WriteFault) b count place rest is it = absurd is
same_end (Err NoMemory) b count place rest is it = absurd is
same_end (Ok Over) (Ok Next) count place rest is it = absurd it
same_end (Ok Over) (Ok Over) count place rest is it = refl
same_end (Ok Over) (Err NoMemory) count place rest is it = absurd it
same_end (Ok Over) (Err ReadFault) count place rest is it = absurd it
same_end (Ok Over) (Err WriteFault) count place rest is it = absurd it
same_end (Ok Over) (Err (BadMagic at)) count place rest is it = absurd (last_not_wrong count rest is it.2 it.3)
same_end (Ok Over) (Err (CutRequest at)) count place rest is it = absurd (last_not_cut count rest is it.2 it.3)
same_end (Ok Over) (Err TooManyRequests) count place rest is it = absurd (last_not_many count rest is it.0 it.1)
same_end (Err (BadMagic at)) (Ok Next) count place rest is it = absurd it
same_end (Err (BadMagic at)) (Ok Over) count place rest is it = absurd (last_not_wrong count rest it is.2 is.3)
same_end (Err (BadMagic at)) (Err NoMemory) count place rest is it = absurd it
same_end (Err (BadMagic at)) (Err ReadFault) count place rest is it = absurd it
same_end (Err (BadMagic at)) (Err WriteFault) count place rest is it = absurd it
same_end (Err (BadMagic at)) (Err (BadMagic other)) count place rest is it = ap (λ n. Err (BadMagic n)) (is.0 ∙ sym it.0)
same_end (Err (BadMagic at)) (Err (CutRequest other)) count place rest is it = absurd (is.3 (it.3.magic is.2))
same_end (Err (BadMagic at)) (Err TooManyRequests) count place rest is it = absurd (omega (arith, is.1, it.0))
same_end (Err (CutRequest at)) (Ok Next) count place rest is it = absurd it
same_end (Err (CutRequest at)) (Ok Over) count place rest is it = absurd (last_not_cut count rest it is.2 is.3)
same_end (Err (CutRequest at)) (Err NoMemory) count place rest is it = absurd it
same_end (Err (CutRequest at)) (Err ReadFault) count place rest is it = absurd it
same_end (Err (CutRequest at)) (Err WriteFault) count place rest is it = absurd it
same_end (Err (CutRequest at)) (Err (BadMagic other)) count place rest is it = absurd (it.3 (is.3.magic it.2))
same_end (Err (CutRequest at)) (Err (CutRequest other)) count place rest is it = ap (λ n. Err (CutRequest n)) (is.0 ∙ sym it.0)
same_end (Err (CutRequest at)) (Err TooManyRequests) count place rest is it = absurd (omega (arith, is.1, it.0))
same_end (Err TooManyRequests) (Ok Next) count place rest is it = absurd it
same_end (Err TooManyRequests) (Ok Over) count place rest is it = absurd (last_not_many count rest it is.0 is.1)
same_end (Err TooManyRequests) (Err NoMemory) count place rest is it = absurd it
same_end (Err TooManyRequests) (Err ReadFault) count place rest is it = absurd it
same_end (Err TooManyRequests) (Err WriteFault) count place rest is it = absurd it
same_end (Err TooManyRequests) (Err (BadMagic other)) count place rest is it = absurd (omega (arith, is.0, it.1))
same_end (Err TooManyRequests) (Err (CutRequest other)) count place rest is it = absurd (omega (arith, is.0, it.1))
same_end (Err TooManyRequests) (Err TooManyRequests) count place rest is it = refl

pub one_end : (a b : Result Served SessionEnd) (count place : ℕ) (input : List ℕ) → EndsSo a count place input → EndsSo b count place input → a ≡ b
one_end a b count place input x y =
    let same = comes_apart count x.requests y.requests x.rest y.rest x.whole y.whole (rest_few a _ _ _ x.last) (rest_few b _ _ _ y.last) (rest_done a _ _ _ x.last) (rest_done b _ _ _ y.last) (sym x.told ∙ y.told) in
    let there = subst (λ rs. IsRest a (count + length rs) (place + length (concat rs)) x.rest) same.requests_are x.last in
    let here = subst (λ r. IsRest a (count + length y.requests) (place + length (concat y.requests)) r) same.rest_is there in
    same_end a b _ _ _ here y.last

-- ---- a session of an input ends as the input does
-- what a source that tells its bytes has left
record Gave (text bytes : List ℕ) (left_after : Option (List ℕ)) : Type 0 where
  pub after : List ℕ
  pub left : left_after ≡ Some after
  pub is : text ≡ bytes ++ after

gave : (text bytes : List ℕ) (left left_after : Option (List ℕ)) → left ≡ Some text → Consumes left left_after bytes → Gave text bytes left_after
gave text bytes None left_after e c = absurd cc
gave text bytes (Some xs) None e c = absurd c
gave text bytes (Some xs) (Some ys) e c = record { after = ys; left = refl; is = (let same : xs ≡ text = cc in sym same ∙ c) }

over : (count : ℕ) (bytes after : List ℕ) (left_after : Option (List ℕ)) → left_after ≡ Some after → count ≤ most_requests → (IsLeave bytes × (count < most_requests)) ⊎ ((bytes ≡ []) × IsAtEnd left_after) → IsLast count (bytes ++ after)
over count bytes after left_after e few (inl l) = inr (bytes, after, refl, l.0, l.1)
over count bytes after left_after e few (inr none) =
    let nothing : after ≡ [] = subst IsAtEnd e none.1 in
    inl (ap (λ z. z ++ after) none.0 ∙ nothing, few)

-- no fault, and memory was found
abbrev IsCalm : Result Served SessionEnd → Type 0
IsCalm end = (end ≢ Err ReadFault) × (end ≢ Err WriteFault) × (end ≢ Err NoMemory)

rest_of : (end : Result Served SessionEnd) (count place : ℕ) (bytes after : List ℕ) (left_after : Option (List ℕ)) → left_after ≡ Some after → count ≤ most_requests → IsCalm end → IsEnd end count place bytes left_after → IsRest end count place (bytes ++ after)
rest_of (Ok Next) count place bytes after left_after e few calm is = absurd is
rest_of (Ok Over) count place bytes after left_after e few calm is = over count bytes after left_after e few is
rest_of (Err ReadFault) count place bytes after left_after e few calm is = absurd (calm.0 refl)
rest_of (Err WriteFault) count place bytes after left_after e few calm is = absurd (calm.1 refl)
rest_of (Err NoMemory) count place bytes after left_after e few calm is = absurd (calm.2 refl)
rest_of (Err (BadMagic at)) count place bytes after left_after e few calm is =
    (is.0, is.1, omega (arith, is.2, length-append bytes after), λ same. is.3 (sym (front_magic bytes after (omega (arith, is.2))) ∙ same))
rest_of (Err (CutRequest at)) count place bytes after left_after e few calm is =
    let nothing : after ≡ [] = subst IsAtEnd e is.4 in
    let all : bytes ≡ bytes ++ after = sym (append-nil bytes) ∙ ap (λ z. bytes ++ z) (sym nothing) in
    (is.0, is.1, omega (arith, is.2, length-append bytes after), subst IsPart all is.3)
rest_of (Err TooManyRequests) count place bytes after left_after e few calm is = (is.0, omega (arith, is.1, length-append bytes after))

module _ (words array : List ℕ) (count place : ℕ) (input : List ℕ) (left left_after taken taken_after : Option (List ℕ)) (told : left ≡ Some input) where
  pub ends_so : (end : Result Served SessionEnd) → IsCalm end → IsSession words array count place end left left_after taken taken_after → EndsSo end count place input
  ends_so end calm s =
      let after = gave input (concat s.requests ++ s.rest) left left_after told s.gave in
      record {
        requests = s.requests;
        rest = s.rest ++ after.after;
        whole = s.whole;
        told = after.is ∙ append_assoc (concat s.requests) s.rest after.after;
        last = rest_of end _ _ s.rest after.after left_after after.left s.few calm s.ended;
      }

  module _ (end : Result Served SessionEnd) (is : EndsSo end count place input) where
    -- it ends as the input does, or for want of memory
    pub completes : (result : Result Served SessionEnd) → IsSession words array count place result left left_after taken taken_after
        → (result ≡ Err ReadFault → ⊥) → (result ≡ Err WriteFault → ⊥) → (result ≡ end) ⊎ (result ≡ Err NoMemory)
    completes (Ok Next) s r w = absurd s.ended
    completes (Ok Over) s r w = inl (one_end (Ok Over) end count place input (ends_so (Ok Over) (λ e. cc, λ e. cc, λ e. cc) s) is)
    completes (Err NoMemory) s r w = inr refl
    completes (Err ReadFault) s r w = absurd (r refl)
    completes (Err WriteFault) s r w = absurd (w refl)
    completes (Err (BadMagic at)) s r w = inl (one_end (Err (BadMagic at)) end count place input (ends_so (Err (BadMagic at)) (λ e. cc, λ e. cc, λ e. cc) s) is)
    completes (Err (CutRequest at)) s r w = inl (one_end (Err (CutRequest at)) end count place input (ends_so (Err (CutRequest at)) (λ e. cc, λ e. cc, λ e. cc) s) is)
    completes (Err TooManyRequests) s r w = inl (one_end (Err TooManyRequests) end count place input (ends_so (Err TooManyRequests) (λ e. cc, λ e. cc, λ e. cc) s) is)
