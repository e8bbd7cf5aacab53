-- Waits for a request.
use Rattle.std.proofs.Common.{◌≡◌, ◌⊎◌, ℕ, ◌+◌, ◌<◌, ◌≤◌, Bool, false, List, [], ◌++◌, length, take, drop, refl, sym, ap, ◌∙◌, subst, arith, inl, inr, append_assoc, take-append-drop, Option, Result, Ok, Err, IfOk, IfErr, OnErr}
use Rattle.std.specs.Int.{w32, from_be_bytes}
use Rattle.std.specs.Io.KnownBytes.{IsAtEnd}
use Rattle.std.proofs.lemmas.List.{append-nil, take-take, drop-take, length-take-le}
use Rattle.outside_io.proofs.lemmas.Known.{Consumes-none, Consumes-then}
use Rattle.quorum_rules.specs.Limits.{Numbers}
use Rattle.nbd_front.specs.declared.request.Request.{Request}
use Rattle.nbd_front.specs.Requests.{magic_of, head_len, data_len, request_of, fields_of}
use Rattle.nbd_front.specs.Sessions.{IsPart}
use Rattle.nbd_front.specs.declared.ending.SessionEnd.{SessionEnd}
use Rattle.nbd_front.specs.declared.ending.SessionEnd.TheVariants.{NoMemory, ReadFault, CutRequest}
use Rattle.store_front.specs.declared.standing.Standing.{Standing}
use Rattle.store_front.specs.declared.standing.Standing.TheVariants.{Part, Wrong, Leave, Whole}
use Rattle.store_front.specs.declared.waiting.Came.{Came}
use Rattle.store_front.specs.declared.waiting.Came.TheVariants.{Nothing}
use Rattle.store_front.specs.Inputs.{HasRead}
use Rattle.store_front.specs.Rounds.{BeginsWithRequest}
use Rattle.store_front.specs.Sessions.{HasReadOn, HasLost, BeginsWithLeave, EndsWait}
use Rattle.store_front.specs.Standings.{IsStanding}
use Rattle.store_front.proofs.Rounding.{whole_request}

-- ---- what stands at the front
pub begins : (r : Request) (xs : List ℕ) → IsStanding (Whole r) xs → BeginsWithRequest xs
begins r xs h =
    let n = head_len + data_len r in
    (take n xs, (whole_request r xs h).0, (drop n xs, sym (take-append-drop n xs)))

pub leaves : (xs : List ℕ) → IsStanding Leave xs → BeginsWithLeave xs
leaves xs h =
    let magic : magic_of (take head_len xs) ≡ magic_of xs = ap (λ bs. from_be_bytes w32 bs) (take-take 4 head_len xs (omega arith)) in
    let behind : drop 4 (take head_len xs) ≡ take 24 (drop 4 xs) = drop-take 4 24 xs in
    let head : take 24 (drop 4 (take head_len xs)) ≡ take 24 (drop 4 xs) = ap (take 24) behind ∙ take-take 24 24 (drop 4 xs) (omega arith) in
    let same : request_of (take head_len xs) ≡ request_of xs = ap fields_of head in (
      take head_len xs,
      record {
        magic = magic ∙ h.1;
        size = length-take-le head_len xs h.0;
        leaves = ap (λ (q : Request). q.kind) same ∙ h.2;
      },
      (drop head_len xs, sym (take-append-drop head_len xs)),
    )

-- nothing else than a part of a request begins so
pub only_part : (standing : Standing) (xs : List ℕ) → IsStanding standing xs → IsPart xs → standing ≡ Part
only_part Part xs h part = refl
only_part Wrong xs h part = absurd (h.1 (part.magic h.0))
only_part Leave xs h part =
    let short = part.short h.0 in
    let none : data_len (request_of xs) ≡ 0 = rw h.2 refl in
    absurd (let l = h.0 in omega (arith, short, none, l))
only_part (Whole r) xs h part =
    let long : head_len + data_len (request_of xs) ≤ length xs = subst (λ q. head_len + data_len q ≤ length xs) h.2 h.0 in
    let short = part.short (omega (arith, long)) in
    absurd (omega (arith, short, long))

-- ---- what was read
pub nothing_read : (xs : List ℕ) (left : Option (List ℕ)) → HasReadOn xs xs left left
nothing_read xs left = record { bytes = []; gave = Consumes-none left; behind = sym (append-nil xs) }

pub read_some : (old new : List ℕ) (left left_after : Option (List ℕ)) (more : Bool) → HasRead old new left left_after more → HasReadOn old new left left_after
read_some old new left left_after more h = record { bytes = h.bytes; gave = h.gave; behind = h.behind }

pub read_then : (old mid new : List ℕ) (left now left_after : Option (List ℕ)) → HasReadOn old mid left now → HasReadOn mid new now left_after → HasReadOn old new left left_after
read_then old mid new left now left_after first last = record {
  bytes = first.bytes ++ last.bytes;
  gave = Consumes-then left now left_after first.bytes last.bytes first.gave last.gave;
  behind = last.behind ∙ ap (λ z. z ++ last.bytes) first.behind ∙ append_assoc old first.bytes last.bytes;
}

pub lost_then : (old mid new : List ℕ) (left now left_after : Option (List ℕ)) → HasReadOn old mid left now → HasLost mid new now left_after → HasLost old new left left_after
lost_then old mid new left now left_after first last = record {
  bytes = first.bytes ++ last.bytes;
  gave = Consumes-then left now left_after first.bytes last.bytes first.gave last.gave;
  behind = (last.behind.0, sym (append_assoc old first.bytes last.bytes) ∙ ap (λ z. z ++ last.bytes) (sym first.behind) ∙ last.behind.1);
}

-- the input has ended with a part of a request, or nothing, at hand
pub still_part : (old new : List ℕ) (left left_after : Option (List ℕ)) → HasRead old new left left_after false → IsPart old → IsPart new
still_part old new left left_after h part = subst IsPart (sym (h.behind ∙ ap (λ z. old ++ z) (h.ended refl).0 ∙ append-nil old)) part

pub at_end : (c : Numbers) (result : Result Came SessionEnd) (place : ℕ) (old new : List ℕ) (left left_after : Option (List ℕ))
    → IfOk result (λ (came : Came). (came ≡ Nothing) × (new ≡ [])) → IfErr result (λ (end : SessionEnd). end ≡ CutRequest place) → OnErr result (0 < length new)
    → HasReadOn old new left left_after → IsPart new → IsAtEnd left_after → EndsWait c result place old new left left_after
at_end c (Ok came) place old new left left_after none cut rest read part ended =
    subst (λ (z : Came). EndsWait c (Ok z) place old new left left_after) (sym none.0) (read, inr (none.1, ended))
at_end c (Err end) place old new left left_after none cut rest read part ended =
    subst (λ (z : SessionEnd). EndsWait c (Err z) place old new left left_after) (sym cut) (read, refl, rest, part, ended)

-- a read failed, or memory was wanting for what it gave
pub not_read : (c : Numbers) (end : SessionEnd) (place : ℕ) (old mid new : List ℕ) (left now left_after : Option (List ℕ)) → HasReadOn old mid left now → IsPart mid
    → (end ≡ ReadFault → (new ≡ mid) × HasReadOn mid new now left_after) → (end ≡ NoMemory → HasLost mid new now left_after) → (end ≡ ReadFault) ⊎ (end ≡ NoMemory)
    → EndsWait c (Err end) place old new left left_after
not_read c end place old mid new left now left_after read part failed lost (inl is) =
    let h = failed is in
    rw is (read_then old mid new left now left_after read h.1, subst IsPart (sym h.0) part)
not_read c end place old mid new left now left_after read part failed lost (inr is) = rw is (lost_then old mid new left now left_after read (lost is))
