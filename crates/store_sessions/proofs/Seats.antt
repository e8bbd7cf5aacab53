-- A store on whose seats nobody sits.
use Rattle.std.proofs.Common.{◌≡◌, ℕ, List, length, replicate, Option, None, Some, get_or, sym, subst, ap, ◌∙◌, inl, inr}
use Rattle.std.proofs.lemmas.Bool.{cases_lt}
use Rattle.std.proofs.lemmas.List.{length-replicate, get_or-replicate, get_or_past}
use Rattle.quorum_rules.specs.Limits.{Numbers, IsValid}
use Rattle.disk_model.specs.Crash.{Pending}
use Rattle.version_disk.specs.Stored.{Stored}
use Rattle.store_device.specs.Going.{store_of}
use Rattle.store_device.specs.Stores.{IsStore}

module _ {D : Type 0} (pending : D → Pending) (seen : D → List ℕ) (c : Numbers) where
  nobody_at : (n i : ℕ) (node : Stored D) → get_or (replicate n None) i None ≡ Some node → ⊥
  nobody_at n i node at =
      let none : get_or (replicate n None) i None ≡ None =
      elim (cases_lt i n) [
        | inl lt ↦ get_or-replicate n i None None lt
        | inr le ↦ get_or_past (replicate n None) i None (rw (length-replicate {A = Option (Stored D)} n None) le)
      ] in
      let found : None ≡ Some node = sym none ∙ at in
      absurd cc

  -- no node is one that isn't sound
  pub nobody_sits : (seats : List (Option (Stored D))) → IsValid c → seats ≡ replicate c.n None
      → IsStore pending seen (store_of c seats)
  nobody_sits seats valid same = record {
    valid = valid;
    count = ap length same ∙ length-replicate {A = Option (Stored D)} c.n None;
    sound = λ i node at whole. absurd (nobody_at c.n i node (subst (λ xs. get_or xs i None ≡ Some node) same at));
  }
