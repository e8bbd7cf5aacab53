-- An input has one end, and a session that meets no fault comes to it.
use Rattle.std.proofs.Common.{◌≡◌, ◌≢◌, ◌⊎◌, ℕ, zero, suc, ◌+◌, ◌<◌, ◌≤◌, List, [], ◌∷◌, ◌++◌, length, take, drop, refl, sym, ◌∙◌, ap, subst, arith, inl, inr, length-append, append_assoc, Option, Some, None, Result, Ok, Err}
use Rattle.std.specs.List.{All, AllByRecursion, concat}
use Rattle.std.specs.Int.{w32, from_be_bytes}
use Rattle.std.specs.Io.KnownBytes.{Consumes, IsAtEnd}
use Rattle.std.proofs.lemmas.Bool.{cases_eq, cases_lt}
use Rattle.std.proofs.lemmas.List.{append-nil, drop_at, take_at, take-append-le, drop-append-le, length-drop}
use Rattle.std.proofs.lemmas.List.Elements.{All-append, All-cons, All-head, All-nil, All-tail}
use Rattle.quorum_rules.specs.Limits.{Numbers}
use Rattle.disk_model.specs.Crash.{Pending}
use Rattle.nbd_front.specs.declared.request.Request.{Request}
use Rattle.nbd_front.specs.Requests.{request_magic, magic_of, head_len, data_len, request_of, fields_of}
use Rattle.nbd_front.specs.Sessions.{leave_kind, IsRequest, IsPart}
use Rattle.nbd_front.specs.declared.ending.SessionEnd.{SessionEnd}
use Rattle.nbd_front.specs.declared.ending.SessionEnd.TheVariants.{NoMemory, ReadFault, WriteFault, BadMagic, CutRequest, TooManyRequests}
use Rattle.store_device.specs.Stores.{SeenStore}
use Rattle.store_front.specs.declared.standing.Standing.{Standing}
use Rattle.store_front.specs.declared.standing.Standing.TheVariants.{Part, Wrong, Leave, Whole}
use Rattle.store_front.specs.Standings.{IsStanding}
use Rattle.store_front.specs.Rounds.{BeginsWithRequest, Exchange, IsExchange}
use Rattle.store_front.specs.Sessions.{told_place, requests_in, BeginsWithLeave, IsEnd, IsRest, EndsSo, IsSession}
use Rattle.store_front.proofs.Waits.{begins, leaves}

-- ---- bytes with which a text begins
pub same_magic : (bytes more : List ℕ) → 4 ≤ length bytes → magic_of (bytes ++ more) ≡ magic_of bytes
same_magic bytes more long = ap (λ bs. from_be_bytes w32 bs) (take-append-le 4 bytes more long)

pub same_request : (bytes more : List ℕ) → head_len ≤ length bytes → request_of (bytes ++ more) ≡ request_of bytes
same_request bytes more long =
    ap (λ bs. fields_of (take 24 bs)) (drop-append-le 4 bytes more (omega (arith, long)))
    ∙ ap fields_of (take-append-le 24 (drop 4 bytes) more (omega (arith, long, length-drop 4 bytes)))

both_request : (a b x y : List ℕ) → head_len ≤ length a → head_len ≤ length b → a ++ x ≡ b ++ y → request_of a ≡ request_of b
both_request a b x y long other e = sym (same_request a x long) ∙ ap request_of e ∙ same_request b y other

-- no whole request begins with the text
abbrev BeginsNone : List ℕ → Type 0
BeginsNone text = (bytes more : List ℕ) → IsRequest bytes → text ≡ bytes ++ more → ⊥

leave_begins : (text : List ℕ) → BeginsWithLeave text ⊎ (text ≡ []) → BeginsNone text
leave_begins text (inr none) bytes more is e = omega (arith, ap length (sym none ∙ e), length-append bytes more, is.size)
leave_begins text (inl l) bytes more is e =
    let same = both_request l.0 bytes l.2.0 more (omega (arith, l.1.size)) (omega (arith, is.size)) (sym l.2.1 ∙ e) in
    is.stays (ap (λ (r : Request). r.kind) (sym same) ∙ l.1.leaves)

wrong_begins : (text : List ℕ) → (magic_of text ≡ request_magic → ⊥) → BeginsNone text
wrong_begins text wrong bytes more is e = wrong (ap magic_of e ∙ same_magic bytes more (omega (arith, is.size)) ∙ is.magic)

part_begins : (text : List ℕ) → IsPart text → BeginsNone text
part_begins text part bytes more is e =
    let long : length text ≡ length bytes + length more = ap length e ∙ length-append bytes more in
    let same : request_of text ≡ request_of bytes = ap request_of e ∙ same_request bytes more (omega (arith, is.size)) in
    let short = part.short (omega (arith, long, is.size)) in
    let less : length text < head_len + data_len (request_of bytes) = subst (λ q. length text < head_len + data_len q) same short in
    omega (arith, less, long, is.size)

-- where a whole request begins, one stands
pub none_stands : (s : Standing) (xs : List ℕ) → IsStanding s xs → BeginsWithRequest xs → ((r : Request) → s ≡ Whole r → ⊥) → ⊥
none_stands Part xs h b none = part_begins xs h b.0 b.2.0 b.1 b.2.1
none_stands Wrong xs h b none = wrong_begins xs h.1 b.0 b.2.0 b.1 b.2.1
none_stands Leave xs h b none = leave_begins xs (inl (leaves xs h)) b.0 b.2.0 b.1 b.2.1
none_stands (Whole r) xs h b none = none r refl

rest_begins : (end : Result Unit SessionEnd) (place : ℕ) (rest : List ℕ) → IsRest end place rest → BeginsNone rest
rest_begins (Ok done) place rest is = leave_begins rest is
rest_begins (Err (BadMagic at)) place rest is = wrong_begins rest is.2
rest_begins (Err (CutRequest at)) place rest is = part_begins rest is.2
rest_begins (Err ReadFault) place rest is = absurd is
rest_begins (Err WriteFault) place rest is = absurd is
rest_begins (Err NoMemory) place rest is = absurd is
rest_begins (Err TooManyRequests) place rest is = absurd is

-- ---- an input comes apart in one way
record AreSame (requests others : List (List ℕ)) (rest other : List ℕ) : Type 0 where
  pub requests_are : requests ≡ others
  pub rest_is : rest ≡ other

comes_apart : (requests others : List (List ℕ)) (rest other : List ℕ) → All IsRequest requests → All IsRequest others → BeginsNone rest → BeginsNone other
    → concat requests ++ rest ≡ concat others ++ other → AreSame requests others rest other
comes_apart [] [] rest other whole are done ended e = record { requests_are = refl; rest_is = e }
comes_apart [] (b ∷ others) rest other whole are done ended e =
    absurd (done b (concat others ++ other) (All-head IsRequest b others are) (e ∙ append_assoc b (concat others) other))
comes_apart (r ∷ requests) [] rest other whole are done ended e =
    absurd (ended r (concat requests ++ rest) (All-head IsRequest r requests whole) (sym e ∙ append_assoc r (concat requests) rest))
comes_apart (r ∷ requests) (b ∷ others) rest other whole are done ended e =
    let is = All-head IsRequest r requests whole in
    let it = All-head IsRequest b others are in
    let both : r ++ (concat requests ++ rest) ≡ b ++ (concat others ++ other) = sym (append_assoc r (concat requests) rest) ∙ e ∙ append_assoc b (concat others) other in
    let same = both_request r b (concat requests ++ rest) (concat others ++ other) (omega (arith, is.size)) (omega (arith, it.size)) both in
    let long : length b ≡ length r = it.size ∙ ap (λ q. head_len + data_len q) (sym same) ∙ sym is.size in
    let first : r ≡ b = sym (take_at r _ (length r) refl) ∙ ap (take (length r)) both ∙ take_at b _ (length r) long in
    let next : concat requests ++ rest ≡ concat others ++ other = sym (drop_at r _ (length r) refl) ∙ ap (drop (length r)) both ∙ drop_at b _ (length r) long in
    let more = comes_apart requests others rest other (All-tail IsRequest r requests whole) (All-tail IsRequest b others are) done ended next in
    record { requests_are = ap (λ z. z ∷ requests) first ∙ ap (λ z. b ∷ z) more.requests_are; rest_is = more.rest_is }

-- ---- an input has one end
last_not_wrong : (rest : List ℕ) → BeginsWithLeave rest ⊎ (rest ≡ []) → 4 ≤ length rest → magic_of rest ≢ request_magic → ⊥
last_not_wrong rest (inr none) long wrong = omega (arith, ap length none, long)
last_not_wrong rest (inl l) long wrong = wrong (ap magic_of l.2.1 ∙ same_magic l.0 l.2.0 (omega (arith, l.1.size)) ∙ l.1.magic)

no_data : (r : Request) → r.kind ≡ leave_kind → data_len r ≡ 0
no_data r e = rw e refl

last_not_part : (rest : List ℕ) → BeginsWithLeave rest ⊎ (rest ≡ []) → 0 < length rest → IsPart rest → ⊥
last_not_part rest (inr none) some part = omega (arith, ap length none, some)
last_not_part rest (inl l) some part =
    let long : length rest ≡ length l.0 + length l.2.0 = ap length l.2.1 ∙ length-append l.0 l.2.0 in
    let same : request_of rest ≡ request_of l.0 = ap request_of l.2.1 ∙ same_request l.0 l.2.0 (omega (arith, l.1.size)) in
    let short = part.short (omega (arith, long, l.1.size)) in
    let none = no_data (request_of rest) (ap (λ (r : Request). r.kind) same ∙ l.1.leaves) in
    omega (arith, short, none, long, l.1.size)

same_end : (a b : Result Unit SessionEnd) (place : ℕ) (rest : List ℕ) → IsRest a place rest → IsRest b place rest → a ≡ b
same_end (Err ReadFault) b place rest is it = absurd is
same_end (Err WriteFault) b place rest is it = absurd is
same_end (Err NoMemory) b place rest is it = absurd is
same_end (Err TooManyRequests) b place rest is it = absurd is
same_end (Ok done) (Ok over) place rest is it = refl
same_end (Ok done) (Err NoMemory) place rest is it = absurd it
same_end (Ok done) (Err ReadFault) place rest is it = absurd it
same_end (Ok done) (Err WriteFault) place rest is it = absurd it
same_end (Ok done) (Err TooManyRequests) place rest is it = absurd it
same_end (Ok done) (Err (BadMagic at)) place rest is it = absurd (last_not_wrong rest is it.1 it.2)
same_end (Ok done) (Err (CutRequest at)) place rest is it = absurd (last_not_part rest is it.1 it.2)
same_end (Err (BadMagic at)) (Ok over) place rest is it = absurd (last_not_wrong rest it is.1 is.2)
same_end (Err (BadMagic at)) (Err NoMemory) place rest is it = absurd it
same_end (Err (BadMagic at)) (Err ReadFault) place rest is it = absurd it
same_end (Err (BadMagic at)) (Err WriteFault) place rest is it = absurd it
same_end (Err (BadMagic at)) (Err TooManyRequests) place rest is it = absurd it
same_end (Err (BadMagic at)) (Err (BadMagic other)) place rest is it = ap (λ n. Err (BadMagic n)) (is.0 ∙ sym it.0)
same_end (Err (BadMagic at)) (Err (CutRequest other)) place rest is it = absurd (is.2 (it.2.magic is.1))
same_end (Err (CutRequest at)) (Ok over) place rest is it = absurd (last_not_part rest it is.1 is.2)
same_end (Err (CutRequest at)) (Err NoMemory) place rest is it = absurd it
same_end (Err (CutRequest at)) (Err ReadFault) place rest is it = absurd it
same_end (Err (CutRequest at)) (Err WriteFault) place rest is it = absurd it
same_end (Err (CutRequest at)) (Err TooManyRequests) place rest is it = absurd it
same_end (Err (CutRequest at)) (Err (BadMagic other)) place rest is it = absurd (it.2 (is.2.magic it.1))
same_end (Err (CutRequest at)) (Err (CutRequest other)) place rest is it = ap (λ n. Err (CutRequest n)) (is.0 ∙ sym it.0)

pub one_end : (input : List ℕ) (a b : Result Unit SessionEnd) → EndsSo a input → EndsSo b input → a ≡ b
one_end input a b x y =
    let same = comes_apart x.requests y.requests x.rest y.rest x.whole y.whole (rest_begins a _ _ x.last) (rest_begins b _ _ y.last) (sym x.told ∙ y.told) in
    let there = subst (λ rs. IsRest a (length (concat rs)) x.rest) same.requests_are x.last in
    let here = subst (λ r. IsRest a (length (concat y.requests)) r) same.rest_is there in
    same_end a b _ _ here y.last

-- ---- each input has an end
abbrev HasEnd : ℕ → List ℕ → Type 0
HasEnd place input = (end : Result Unit SessionEnd) × (requests : List (List ℕ)) × (rest : List ℕ) × All IsRequest requests × (input ≡ concat requests ++ rest)
    × IsRest end (place + length (concat requests)) rest

at_once : (end : Result Unit SessionEnd) (place : ℕ) (input : List ℕ) → IsRest end place input → HasEnd place input
at_once end place input is =
    let here : place ≡ place + 0 = omega arith in
    (end, [], input, All-nil IsRequest, refl, subst (λ n. IsRest end n input) here is)

and_more : (place : ℕ) (bytes more : List ℕ) → IsRequest bytes → HasEnd (place + length bytes) more → HasEnd place (bytes ++ more)
and_more place bytes more is e =
    let placed : (place + length bytes) + length (concat e.1) ≡ place + length (bytes ++ concat e.1) = omega (arith, length-append bytes (concat e.1)) in (
      e.0,
      bytes ∷ e.1,
      e.2,
      All-cons IsRequest bytes e.1 is e.3,
      ap (λ z. bytes ++ z) e.4 ∙ sym (append_assoc bytes (concat e.1) e.2),
      subst (λ n. IsRest e.0 n e.2) placed e.5,
    )

begun : (most : ℕ) → ((place : ℕ) (input : List ℕ) → length input ≤ most → HasEnd place input) → (place : ℕ) (input : List ℕ) → length input ≤ suc most → 0 < length input → HasEnd place input
begun most shorter place input within some =
    let cut : (short : IsPart input) → HasEnd place input = λ part. at_once (Err (CutRequest (told_place place))) place input (refl, some, part) in
    elim (cases_lt (length input) 4) [
      | inl short ↦ cut (record { magic = λ l. absurd (omega (arith, l, short)); short = λ l. absurd (omega (arith, l, short)) })
      | inr four ↦ elim (cases_eq (magic_of input) request_magic) [
        | inr wrong ↦ at_once (Err (BadMagic (told_place place))) place input (refl, four, wrong)
        | inl magic ↦ elim (cases_lt (length input) head_len) [
          | inl short ↦ cut (record { magic = λ l. magic; short = λ l. absurd (omega (arith, l, short)) })
          | inr long ↦ elim (cases_eq (request_of input).kind leave_kind) [
            | inl kind ↦ at_once (Ok tt) place input (inl (leaves input (long, magic, kind)))
            | inr stays ↦ elim (cases_lt (length input) (head_len + data_len (request_of input))) [
              | inl short ↦ cut (record { magic = λ l. magic; short = λ l. short })
              | inr all ↦ (let b = begins (request_of input) input (all, magic, refl, stays) in
                  let long : length input ≡ length b.0 + length b.2.0 = ap length b.2.1 ∙ length-append b.0 b.2.0 in
                  let e = shorter (place + length b.0) b.2.0 (omega (arith, within, long, b.1.size)) in
                  subst (HasEnd place) (sym b.2.1) (and_more place b.0 b.2.0 b.1 e))
            ]
          ]
        ]
      ]
    ]

by_length : (most place : ℕ) (input : List ℕ) → length input ≤ most → HasEnd place input
by_length most place [] within = at_once (Ok tt) place [] (inr refl)
by_length zero place (x ∷ input) within = absurd (omega (arith, within))
by_length (suc most) place (x ∷ input) within = begun most (by_length most) place (x ∷ input) within (omega arith)

pub some_end : (input : List ℕ) → (end : Result Unit SessionEnd) × EndsSo end input
some_end input =
    let e = by_length (length input) 0 input (omega arith) in
    let here : 0 + length (concat e.1) ≡ length (concat e.1) = omega arith in
    (e.0, record { requests = e.1; rest = e.2; whole = e.3; told = e.4; last = subst (λ n. IsRest e.0 n e.2) here e.5 })

-- ---- a session of an input ends as the input does
-- what a source that tells its bytes has left
record Gave (text bytes : List ℕ) (left_after : Option (List ℕ)) : Type 0 where
  pub after : List ℕ
  pub left : left_after ≡ Some after
  pub is : text ≡ bytes ++ after

gave : (text bytes : List ℕ) (left left_after : Option (List ℕ)) → left ≡ Some text → Consumes left left_after bytes → Gave text bytes left_after
gave text bytes None left_after e c = absurd cc
gave text bytes (Some xs) None e c = absurd c
gave text bytes (Some xs) (Some ys) e c = record { after = ys; left = refl; is = (let same : xs ≡ text = cc in sym same ∙ c) }

over : (rest after : List ℕ) (left_after : Option (List ℕ)) → left_after ≡ Some after → BeginsWithLeave rest ⊎ ((rest ≡ []) × IsAtEnd left_after) → BeginsWithLeave (rest ++ after) ⊎ (rest ++ after ≡ [])
over rest after left_after e (inl l) = inl (l.0, l.1, (l.2.0 ++ after, ap (λ z. z ++ after) l.2.1 ∙ append_assoc l.0 l.2.0 after))
over rest after left_after e (inr none) =
    let nothing : after ≡ [] = subst IsAtEnd e none.1 in
    inr (ap (λ z. z ++ after) none.0 ∙ nothing)

-- no fault, and memory was found
abbrev IsCalm : Result Unit SessionEnd → Type 0
IsCalm end = (end ≢ Err ReadFault) × (end ≢ Err WriteFault) × (end ≢ Err NoMemory) × (end ≢ Err TooManyRequests)

rest_of : (end : Result Unit SessionEnd) (rounds place : ℕ) (rest after : List ℕ) (left_after : Option (List ℕ)) → left_after ≡ Some after → IsCalm end → IsEnd end rounds place rest left_after → IsRest end place (rest ++ after)
rest_of (Ok done) rounds place rest after left_after e calm is = over rest after left_after e is
rest_of (Err ReadFault) rounds place rest after left_after e calm is = absurd (calm.0 refl)
rest_of (Err WriteFault) rounds place rest after left_after e calm is = absurd (calm.1 refl)
rest_of (Err NoMemory) rounds place rest after left_after e calm is = absurd (calm.2 refl)
rest_of (Err TooManyRequests) rounds place rest after left_after e calm is = absurd (calm.3 refl)
rest_of (Err (BadMagic at)) rounds place rest after left_after e calm is =
    (is.0, omega (arith, is.1, length-append rest after), λ same. is.2 (sym (same_magic rest after is.1) ∙ same))
rest_of (Err (CutRequest at)) rounds place rest after left_after e calm is =
    let nothing : after ≡ [] = subst IsAtEnd e is.3 in
    let all : rest ≡ rest ++ after = sym (append-nil rest) ∙ ap (λ z. rest ++ z) (sym nothing) in
    (is.0, omega (arith, is.1, length-append rest after), subst IsPart all is.2)

whole_in : {D : Type 0} (c : Numbers) (rounds : List (Exchange D)) → AllByRecursion (IsExchange c) rounds → All IsRequest (requests_in rounds)
whole_in c [] h = All-nil IsRequest
whole_in c (e ∷ rounds) h = All-append IsRequest e.requests (requests_in rounds) h.0.together.whole (whole_in c rounds h.1)

module _ {D : Type 0} (pending : D → Pending) (seen : D → List ℕ) (capacity : D → ℕ) (moment : D → ℕ) (left_since : D → ℕ → List ℕ → Type 0)
    (keeps : SeenStore D → SeenStore D → Type 0) (c : Numbers) (old new : SeenStore D) (input : List ℕ) (left left_after taken taken_after : Option (List ℕ)) (told : left ≡ Some input) where
  ends_so : (end : Result Unit SessionEnd) → IsCalm end → IsSession pending seen capacity moment left_since keeps c old new end left left_after taken taken_after → EndsSo end input
  ends_so end calm s =
      let bytes = concat (requests_in s.rounds) in
      let after = gave input (bytes ++ s.rest) left left_after told s.gave in
      record {
        requests = requests_in s.rounds;
        rest = s.rest ++ after.after;
        whole = whole_in c s.rounds s.done;
        told = after.is ∙ append_assoc bytes s.rest after.after;
        last = rest_of end _ _ s.rest after.after left_after after.left calm s.ended;
      }

  -- it ends as the input does, or for want of memory, or after as many rounds as are counted
  pub completes : (end result : Result Unit SessionEnd) → EndsSo end input → IsSession pending seen capacity moment left_since keeps c old new result left left_after taken taken_after
      → (result ≡ Err ReadFault → ⊥) → (result ≡ Err WriteFault → ⊥) → (result ≡ end) ⊎ ((result ≡ Err NoMemory) ⊎ (result ≡ Err TooManyRequests))
  completes end (Ok done) is s r w = inl (one_end input (Ok done) end (ends_so (Ok done) (λ e. cc, λ e. cc, λ e. cc, λ e. cc) s) is)
  completes end (Err NoMemory) is s r w = inr (inl refl)
  completes end (Err TooManyRequests) is s r w = inr (inr refl)
  completes end (Err ReadFault) is s r w = absurd (r refl)
  completes end (Err WriteFault) is s r w = absurd (w refl)
  completes end (Err (BadMagic at)) is s r w = inl (one_end input (Err (BadMagic at)) end (ends_so (Err (BadMagic at)) (λ e. cc, λ e. cc, λ e. cc, λ e. cc) s) is)
  completes end (Err (CutRequest at)) is s r w = inl (one_end input (Err (CutRequest at)) end (ends_so (Err (CutRequest at)) (λ e. cc, λ e. cc, λ e. cc, λ e. cc) s) is)
