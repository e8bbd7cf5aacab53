-- Sessions that go on by a call of the server, or end by it.
use Rattle.std.proofs.Common.{◌≡◌, ◌≢◌, ◌⊎◌, inl, inr, ℕ, ◌+◌, ◌<◌, List, [], length, refl, ◌∙◌, ap, subst, arith, Option, Some, Result, Ok, Err}
use Rattle.outside_io.specs.Written.{Adds, TakesPrefix}
use Rattle.std.specs.Io.KnownBytes.{Consumes}
use Rattle.node_device.specs.Devices.{SeenDevice}
use Rattle.nbd_front.specs.declared.ending.Served.{Served}
use Rattle.nbd_front.specs.declared.ending.Served.TheVariants.{Next, Over}
use Rattle.nbd_front.specs.declared.ending.SessionEnd.{SessionEnd}
use Rattle.nbd_front.specs.declared.ending.SessionEnd.TheVariants.{NoMemory, ReadFault, WriteFault, BadMagic, CutRequest, TooManyRequests}
use Rattle.nbd_front.specs.Sessions.{most_requests, IsRequest, IsSession, end_as}
use Rattle.nbd_front.specs.Servers.{SeenServer, bytes_of, HasReplied, HasServed, HasFinished, HasCarriedOut, HasStepped}
use Rattle.nbd_front.proofs.Runs.{HasGone, goes_on, has_ended, has_failed, with_words}

module _ (s0 s s1 : SeenServer) (left left_now left_next taken taken_now taken_next : Option (List ℕ)) (h : HasGone (bytes_of s0) s0.served s0.place (bytes_of s) s.served s.place left left_now taken taken_now) where
  pub next_gone : HasStepped s (Some s1) left_now left_next taken_now taken_next (Ok Next) → HasGone (bytes_of s0) s0.served s0.place (bytes_of s1) s1.served s1.place left left_next taken taken_next
  next_gone p = goes_on (bytes_of s0) s0.served s0.place left taken (bytes_of s) s.served s.place left_now taken_now h p.0 (bytes_of s1) s1.served s1.place left_next taken_next p.1 p.3 p.4.array p.4.served p.4.place p.5

  pub finished : (end : Result Served SessionEnd) → (end ≡ Ok Next → ⊥) → (end ≡ Err WriteFault → ⊥) → taken_next ≡ taken_now → HasFinished end s left_now left_next → IsSession [] (bytes_of s0) s0.served s0.place end left left_next taken taken_next
  finished end n w same f = has_ended (bytes_of s0) s0.served s0.place left taken (bytes_of s) s.served s.place left_now taken_now h end f.bytes left_next taken_next f.gave f.few f.ends n w same

  pub step_ended : (end : SessionEnd) (new : Option SeenServer) → (end ≢ WriteFault → taken_next ≡ taken_now) → HasStepped s new left_now left_next taken_now taken_next (Err end) → IsSession [] (bytes_of s0) s0.served s0.place (Err end) left left_next taken taken_next
  step_ended WriteFault new u p = has_failed (bytes_of s0) s0.served s0.place left taken (bytes_of s) s.served s.place left_now taken_now h p.0 left_next taken_next p.3 p.2 p.1 p.5
  step_ended NoMemory new u p = finished (Err NoMemory) (λ e. cc) (λ e. cc) (u (λ e. cc)) p.0
  step_ended ReadFault new u p = finished (Err ReadFault) (λ e. cc) (λ e. cc) (u (λ e. cc)) p.0
  step_ended (BadMagic at) new u p = finished (Err (BadMagic at)) (λ e. cc) (λ e. cc) (u (λ e. cc)) p.0
  step_ended (CutRequest at) new u p = finished (Err (CutRequest at)) (λ e. cc) (λ e. cc) (u (λ e. cc)) p.0
  step_ended TooManyRequests new u p = finished (Err TooManyRequests) (λ e. cc) (λ e. cc) (u (λ e. cc)) p.0

-- a session from the greeting on, of a server that has served nothing
pub greeted : (words array : List ℕ) (s : SeenServer) (end : Result Served SessionEnd) (left left_after taken mid taken_after : Option (List ℕ)) → bytes_of s ≡ array → s.served ≡ 0 → s.place ≡ 0 → Adds taken mid words
    → IsSession [] (bytes_of s) s.served s.place end left left_after mid taken_after → IsSession words array 0 0 end left left_after taken taken_after
greeted words array s end left left_after taken mid taken_after bytes served place adds i =
    with_words words array end left left_after taken mid taken_after adds
    (subst (λ n. IsSession [] array 0 n end left left_after mid taken_after) place
    (subst (λ n. IsSession [] array n s.place end left left_after mid taken_after) served
    (subst (λ b. IsSession [] b s.served s.place end left left_after mid taken_after) bytes i)))

-- ---- how a session ended, by the call that serves it alone
abbrev ClosesAs : Result Served SessionEnd → Result Served SessionEnd → Type 0
ClosesAs closed end = (closed ≡ end) ⊎ (closed ≡ Err NoMemory)

abbrev EndsAs : Result Unit SessionEnd → Result Served SessionEnd → Type 0
EndsAs ended end = (end_as ended ≡ end) ⊎ (ended ≡ Err NoMemory)

pub ended_over : (end : Result Served SessionEnd) → ClosesAs (Ok Over) end → EndsAs (Ok tt) end
ended_over end (inl same) = inl same
ended_over end (inr none) = absurd cc

pub ended_so : (end : Result Served SessionEnd) (x : SessionEnd) → ClosesAs (Err x) end → EndsAs (Err x) end
ended_so end x (inl same) = inl same
ended_so end x (inr none) = inr cc

-- ---- a request that was done
module _ (s : SeenServer) (new : SeenDevice) (bytes reply text : List ℕ) (len : ℕ) (taken taken_after : Option (List ℕ)) (replied : HasReplied s.served bytes s.device new reply) (long : len ≡ length bytes) (same : text ≡ reply) where
  abbrev next : SeenServer
  next = record { device = new; served = s.served + 1; place = s.place + len }

  has_served : HasServed bytes s next
  has_served = record { config = replied.config; array = replied.array; times = replied.times; served = refl; place = ap (λ n. s.place + n) long }

  -- its reply was taken
  pub answered_whole : Adds taken taken_after text → HasCarriedOut bytes s (Some next) taken taken_after (Ok Next)
  answered_whole adds = (has_served, subst (λ t. Adds taken taken_after t) (same ∙ replied.told) adds)

  -- a beginning of it was taken
  pub answered_partly : TakesPrefix taken taken_after text → HasCarriedOut bytes s (Some next) taken taken_after (Err WriteFault)
  answered_partly begun = (has_served, subst (λ t. TakesPrefix taken taken_after t) (same ∙ replied.told) begun)

-- a request that came, and what came of it
pub carried : (s : SeenServer) (new : Option SeenServer) (bytes : List ℕ) (left left_after taken taken_after : Option (List ℕ)) (r : Result Served SessionEnd) → Consumes left left_after bytes → s.served < most_requests → IsRequest bytes
    → HasCarriedOut bytes s new taken taken_after r → HasStepped s new left left_after taken taken_after r
carried s new bytes left left_after taken taken_after (Ok Next) gave few is p = (bytes, is, few, gave, p.0, p.1)
carried s new bytes left left_after taken taken_after (Ok Over) gave few is p = absurd p
carried s new bytes left left_after taken taken_after (Err WriteFault) gave few is p = (bytes, is, few, gave, p.0, p.1)
carried s new bytes left left_after taken taken_after (Err NoMemory) gave few is p = rw p (record { bytes = bytes; gave = gave; few = omega (arith, few); ends = tt }, tt)
carried s new bytes left left_after taken taken_after (Err ReadFault) gave few is p = absurd p
carried s new bytes left left_after taken taken_after (Err (BadMagic at)) gave few is p = absurd p
carried s new bytes left left_after taken taken_after (Err (CutRequest at)) gave few is p = absurd p
carried s new bytes left left_after taken taken_after (Err TooManyRequests) gave few is p = absurd p
