-- Each entry of a client has a number that was drawn.
use Rattle.std.proofs.Common.{◌⊎◌, ℕ, ◌<◌, ◌-◌, List, map, get_or, subst, inl, inr}
use Rattle.std.specs.Prelude.{All}
use Rattle.std.specs.List.{Contains}
use Rattle.std.proofs.lemmas.List.Elements.{All-contains_itself}
use Rattle.protocol.specs.Report.{Ascend}
use Rattle.journals.specs.declared.desk.DeskEntry.{DeskEntry}
use Rattle.journals.specs.declared.desk.DeskJournal.{DeskJournal}
use Rattle.journals.specs.declared.whole.Journals.{Journals}
use Rattle.journals.specs.Steps.{IsOwn}
use Rattle.journals.specs.Steps.Step.{AtNode, AtDesk}
use Rattle.journals.specs.Journals.{at_desk, HasSide, PairsAgree, NumbersBelow}
use Rattle.journals.proofs.lemmas.Lists.{own_entries}

-- what holds of each member holds of all
all_members : {X : Type 0} (P : X → Type 0) (xs : List X) → ((x : X) → Contains xs x → P x) → All P xs
all_members P xs h = λ k x l. h (get_or xs k x) (All-contains_itself xs k x l)

module _ (j : Journals) (pairs : PairsAgree j) (order : Ascend (map (λ d. d.client) j.desks)) (drawn : ℕ) (numbers : NumbersBelow j drawn) where
  entry_below : (c : ℕ) (e : DeskEntry) → Contains (at_desk j c) e → e.number < drawn
  entry_below c e there = at (pairs.answered c e there)
    where
      at : IsOwn e.act ⊎ HasSide j c e → e.number < drawn
      at (inl own) = numbers.below e.number (AtDesk c e.act) (own, there)
      at (inr side) = numbers.below e.number (AtNode side.0 side.1) side.2

  -- in each client's journal
  pub desk_below : (d : DeskJournal) → Contains j.desks d → All (λ e. e.number < drawn) d.entries
  desk_below d there =
      subst (λ (es : List DeskEntry). All (λ e. e.number < drawn) es) (own_entries j.desks order d there)
      (all_members (λ (e : DeskEntry). e.number < drawn) (at_desk j d.client) (λ e k. entry_below d.client e k))
