-- Each input has an end.
use Rattle.std.proofs.Common.{◌≡◌, ◌≢◌, ℕ, zero, suc, ◌+◌, ◌<◌, ◌≤◌, List, [], ◌∷◌, ◌++◌, length, take, drop, refl, sym, ◌∙◌, ap, subst, arith, inl, inr, append_assoc, length-append, Result, Ok, Err}
use Rattle.std.specs.List.{concat}
use Rattle.std.proofs.lemmas.Bool.{cases_eq, cases_lt}
use Rattle.std.proofs.lemmas.List.{take-append-drop, length-take-le, length-drop}
use Rattle.std.proofs.lemmas.List.Elements.{All-cons, All-nil}
use Rattle.nbd_front.specs.Requests.{request_magic, magic_of, head_len, request_of, data_len}
use Rattle.nbd_front.specs.declared.ending.Served.{Served}
use Rattle.nbd_front.specs.declared.ending.Served.TheVariants.{Over}
use Rattle.nbd_front.specs.declared.ending.SessionEnd.{SessionEnd}
use Rattle.nbd_front.specs.declared.ending.SessionEnd.TheVariants.{BadMagic, CutRequest, TooManyRequests}
use Rattle.nbd_front.specs.Sessions.{leave_kind, most_requests, IsRequest, IsLeave, IsRest, EndsSo}
use Rattle.nbd_front.proofs.Requests.{front_magic, front_request}

-- an end that the input has
abbrev HasEnd : ℕ → ℕ → List ℕ → Type 0
HasEnd count place input = (end : Result Served SessionEnd) × EndsSo end count place input

-- the input has no whole request
at_once : (end : Result Served SessionEnd) (count place : ℕ) (input : List ℕ) → IsRest end count place input → EndsSo end count place input
at_once end count place input is =
    let none : count + 0 ≡ count = omega arith in
    let here : place + 0 ≡ place = omega arith in
    record {
      requests = [];
      rest = input;
      whole = All-nil IsRequest;
      told = refl;
      last = subst (λ n. IsRest end n (place + 0) input) (sym none) (subst (λ n. IsRest end count n input) (sym here) is);
    }

-- the input begins with a whole request
and_more : (end : Result Served SessionEnd) (count place : ℕ) (bytes more : List ℕ) → IsRequest bytes → EndsSo end (count + 1) (place + length bytes) more → EndsSo end count place (bytes ++ more)
and_more end count place bytes more is e =
    let counted : (count + 1) + length e.requests ≡ count + suc (length e.requests) = omega arith in
    let placed : (place + length bytes) + length (concat e.requests) ≡ place + length (bytes ++ concat e.requests) = omega (arith, length-append bytes (concat e.requests)) in
    record {
      requests = bytes ∷ e.requests;
      rest = e.rest;
      whole = All-cons IsRequest bytes e.requests is e.whole;
      told = ap (λ z. bytes ++ z) e.told ∙ sym (append_assoc bytes (concat e.requests) e.rest);
      last = subst (λ n. IsRest end n (place + length (bytes ++ concat e.requests)) e.rest) counted (subst (λ n. IsRest end ((count + 1) + length e.requests) n e.rest) placed e.last);
    }

module _ (input : List ℕ) (n : ℕ) (long : n ≤ length input) where
  abbrev front : List ℕ
  front = take n input

  abbrev back : List ℕ
  back = drop n input

  parts : front ++ back ≡ input
  parts = take-append-drop n input

  front_len : length front ≡ n
  front_len = length-take-le n input long

  same_magic : 4 ≤ n → magic_of front ≡ magic_of input
  same_magic some = sym (front_magic front back (omega (arith, some, front_len))) ∙ ap magic_of parts

  same_request : head_len ≤ n → request_of front ≡ request_of input
  same_request some = sym (front_request front back (omega (arith, some, front_len))) ∙ ap request_of parts

-- an input that begins with all of a request but its data
module _ (count place : ℕ) (input : List ℕ) (few : count < most_requests) (magic : magic_of input ≡ request_magic) (long : head_len ≤ length input) where
  leaving : (request_of input).kind ≡ leave_kind → HasEnd count place input
  leaving kind =
      let head = front input head_len long in
      let is : IsLeave head = record {
        magic = same_magic input head_len long (omega arith) ∙ magic;
        size = front_len input head_len long;
        leaves = ap (λ q. q.kind) (same_request input head_len long (omega arith)) ∙ kind;
      } in
      (Ok Over, at_once (Ok Over) count place input (inr (head, back input head_len long, sym (parts input head_len long), is, few)))

  cut_within : length input < head_len + data_len (request_of input) → HasEnd count place input
  cut_within short = (Err (CutRequest place), at_once (Err (CutRequest place)) count place input (refl, few, omega (arith, long), record { magic = λ l. magic; short = λ l. short }))

  abbrev whole_len : ℕ
  whole_len = head_len + data_len (request_of input)

  first_request : (all : whole_len ≤ length input) → (request_of input).kind ≢ leave_kind → IsRequest (front input whole_len all)
  first_request all stays =
      let same = same_request input whole_len all (omega arith) in
      record {
        magic = same_magic input whole_len all (omega arith) ∙ magic;
        size = front_len input whole_len all ∙ ap (λ q. head_len + data_len q) (sym same);
        stays = λ k. stays (ap (λ q. q.kind) (sym same) ∙ k);
      }

-- each input of at most so many bytes has an end
abbrev HaveEnds : ℕ → Type 0
HaveEnds most = (count place : ℕ) (input : List ℕ) → length input ≤ most → count ≤ most_requests → HasEnd count place input

none_left : (count place : ℕ) → count ≤ most_requests → HasEnd count place []
none_left count place few = (Ok Over, at_once (Ok Over) count place [] (inl (refl, few)))

too_many : (count place : ℕ) (input : List ℕ) → 0 < length input → count ≡ most_requests → HasEnd count place input
too_many count place input some all = (Err TooManyRequests, at_once (Err TooManyRequests) count place input (all, some))

headed : (most : ℕ) → HaveEnds most → (count place : ℕ) (input : List ℕ) → length input ≤ suc most → count < most_requests → magic_of input ≡ request_magic → head_len ≤ length input → HasEnd count place input
headed most shorter count place input within few magic long =
    elim (cases_eq (request_of input).kind leave_kind) [
      | inl kind ↦ leaving count place input few magic long kind
      | inr stays ↦ elim (cases_lt (length input) (head_len + data_len (request_of input))) [
        | inl short ↦ cut_within count place input few magic long short
        | inr all ↦ (let n = head_len + data_len (request_of input) in
            let bytes = front input n all in
            let more = back input n all in
            let is = first_request count place input few magic long all stays in
            let e = shorter (count + 1) (place + length bytes) more (omega (arith, within, length-drop n input)) (omega (arith, few)) in
            (e.0, subst (λ z. EndsSo e.0 count place z) (parts input n all) (and_more e.0 count place bytes more is e.1)))
      ]
    ]

begun : (most : ℕ) → HaveEnds most → (count place : ℕ) (input : List ℕ) → length input ≤ suc most → 0 < length input → count < most_requests → HasEnd count place input
begun most shorter count place input within some few =
    elim (cases_lt (length input) 4) [
      | inl short ↦ (Err (CutRequest place), at_once (Err (CutRequest place)) count place input (refl, few, some, record { magic = λ l. absurd (omega (arith, l, short)); short = λ l. absurd (omega (arith, l, short)) }))
      | inr four ↦ elim (cases_eq (magic_of input) request_magic) [
        | inr wrong ↦ (Err (BadMagic place), at_once (Err (BadMagic place)) count place input (refl, few, four, wrong))
        | inl magic ↦ elim (cases_lt (length input) head_len) [
          | inl short ↦ (Err (CutRequest place), at_once (Err (CutRequest place)) count place input (refl, few, some, record { magic = λ l. magic; short = λ l. absurd (omega (arith, l, short)) }))
          | inr long ↦ headed most shorter count place input within few magic long
        ]
      ]
    ]

by_length : (most : ℕ) → HaveEnds most
by_length most count place [] within few = none_left count place few
by_length zero count place (x ∷ input) within few = absurd (omega (arith, within))
by_length (suc most) count place (x ∷ input) within few =
    elim (cases_lt count most_requests) [
      | inl more ↦ begun most (by_length most) count place (x ∷ input) within (omega arith) more
      | inr all ↦ too_many count place (x ∷ input) (omega arith) (omega (arith, all, few))
    ]

pub some_end : (count place : ℕ) (input : List ℕ) → count ≤ most_requests → HasEnd count place input
some_end count place input few = by_length (length input) count place input (omega arith) few
