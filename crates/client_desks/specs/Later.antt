-- A desk that went on.
use Rattle.std.specs.Prelude.{◌≡◌, ℕ, ◌≤◌, List, ◌++◌}
use Rattle.journals.specs.declared.desk.DeskAct.{DeskAct}
use Rattle.journals.specs.declared.desk.DeskEntry.{DeskEntry}
use Rattle.locked_nodes.specs.Cells.{Rises}
use Rattle.client_desks.specs.Desks.{DeskView, numbers_of, with_own, with_call}

-- the desk went on: its cluster, client, honesty and clock are as they were, and its journal has only entries more, whose numbers ascend
-- from what its pass had seen
pub record IsLater (old new : DeskView) : Type 0 where
  pub config : new.config ≡ old.config
  pub id : new.id ≡ old.id
  pub lying : new.lying ≡ old.lying
  pub clock : new.pass.clock ≡ old.pass.clock
  pub number : new.pass.number ≡ old.pass.number
  pub more : List DeskEntry
  pub entries : new.entries ≡ old.entries ++ more
  pub rises : Rises old.pass.seen (numbers_of more) new.pass.seen

-- what goes on from a desk that went on, went on from the first
abbrev pub GoesOn : Type 0
GoesOn = (a b c : DeskView) → IsLater a b → IsLater b c → IsLater a c

-- an entry of a number that is not below what the pass had seen
abbrev pub OwnIsLater : Type 0
OwnIsLater = (d : DeskView) (n : ℕ) (a : DeskAct) → d.pass.seen ≤ n → IsLater d (with_own d n a)

abbrev pub CallIsLater : Type 0
CallIsLater = (d : DeskView) (n : ℕ) (a : DeskAct) → d.pass.seen ≤ n → IsLater d (with_call d n a)
