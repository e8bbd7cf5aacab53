-- Rounds that are answered, or cut off.
use Rattle.std.proofs.Common.{◌≡◌, ℕ, List, [], refl, sym, ap, ◌∙◌, subst, inl, inr, ◌∷◌, Result, Ok, Err, OnErr}
use Rattle.std.specs.List.{All, AllByRecursion, AllPairs}
use Rattle.std.proofs.lemmas.List.{append-nil}
use Rattle.std.proofs.lemmas.List.Elements.{All-from_recursion, recursion_from_All}
use Rattle.disk_model.specs.Crash.{Pending}
use Rattle.quorum_rules.specs.Limits.{Numbers}
use Rattle.nbd_front.specs.Sessions.{IsRequest}
use Rattle.store_device.specs.Stores.{SeenStore}
use Rattle.store_front.specs.declared.round.Asked.{Asked}
use Rattle.store_device.specs.Calls.{Call, Leads}
use Rattle.store_front.specs.Asking.{told_in, AreAsked, AreHeard}
use Rattle.store_front.specs.Rounds.{AreSeparate, AreTogether, Exchange, IsExchange, IsBegun, IsAsked, calls_of, requests_of, reads_for, writes_for}
use Rattle.store_front.specs.Values.{given_by, value_at, is_in, found_in, written_in}
use Rattle.store_front.specs.Replies.{text_of, replies_of}
use Rattle.store_front.proofs.Asking.{leads_then, heard_asked}

-- what is so is so where a call failed
pub any_err : {T E : Type 0} (P : Type 0) (r : Result T E) → P → OnErr r P
any_err P (Ok x) h = tt
any_err P (Err e) h = h

-- ---- requests that are whole
wholes : (asked : List Asked) → AllByRecursion IsAsked asked → AllByRecursion IsRequest (requests_of asked)
wholes [] h = tt
wholes (one ∷ asked) h = (h.0.whole, wholes asked h.1)

pub together_of : (c : Numbers) (asked : List Asked) → All IsAsked asked → AllPairs (AreSeparate c) (requests_of asked) → AreTogether c (requests_of asked)
together_of c asked h apart = record { whole = All-from_recursion IsRequest (requests_of asked) (wholes asked (recursion_from_All IsAsked asked h)); apart = apart }

module _ {D : Type 0} (pending : D → Pending) (seen : D → List ℕ) (capacity : D → ℕ) (moment : D → ℕ) (left_since : D → ℕ → List ℕ → Type 0)
    (c : Numbers) (requests : List (List ℕ)) (together : AreTogether c requests) where
  -- what was begun for these requests, or done
  abbrev pub Begun : SeenStore D → SeenStore D → Type 0
  Begun old new = (begun : Exchange D) × (begun.requests ≡ requests) × IsBegun c begun × Leads pending seen capacity moment left_since old (calls_of begun) new

  abbrev pub DoneSo : List ℕ → SeenStore D → SeenStore D → Type 0
  DoneSo text old new = (e : Exchange D) × (e.requests ≡ requests) × IsExchange c e × Leads pending seen capacity moment left_since old (calls_of e) new × (text ≡ text_of c e)

  module _ (reads : List (Call D)) (old mid : SeenStore D) (leads : Leads pending seen capacity moment left_since old reads mid) where
    pub reads_begun : AreAsked (reads_for c requests) reads → Begun old mid
    reads_begun asked = (
      record { requests = requests; reads = reads; writes = [] },
      refl,
      record { together = together; reads = asked; writes = record { front = (writes_for c (given_by c reads) requests, refl); only = tt }; order = inl refl },
      subst (λ z. Leads pending seen capacity moment left_since old z mid) (sym (append-nil reads)) leads,
    )

    module _ (all : AreHeard (reads_for c requests) reads) (writes : List (Call D)) (new : SeenStore D) (writing : Leads pending seen capacity moment left_since mid writes new) where
      pub writes_begun : AreAsked (writes_for c (given_by c reads) requests) writes → Begun old new
      writes_begun asked = (
        record { requests = requests; reads = reads; writes = writes },
        refl,
        record { together = together; reads = heard_asked (reads_for c requests) reads all; writes = asked; order = inr all },
        leads_then pending seen capacity moment left_since reads writes old mid new leads writing,
      )

      pub all_done : (text : List ℕ) → AreHeard (writes_for c (given_by c reads) requests) writes → (found : List (ℕ × List ℕ)) (written : List ℕ)
          → found ≡ found_in c [] (told_in reads) → written ≡ written_in [] (told_in writes) → text ≡ replies_of c (value_at found) (is_in written) requests → DoneSo text old new
      all_done text asked found written gave wrote is = (
        record { requests = requests; reads = reads; writes = writes },
        refl,
        record { together = together; reads = all; writes = asked },
        leads_then pending seen capacity moment left_since reads writes old mid new leads writing,
        is ∙ ap (λ z. replies_of c (value_at z) (is_in written) requests) gave ∙ ap (λ z. replies_of c (given_by c reads) (is_in z) requests) wrote,
      )
