-- Desks that went on.
use Rattle.std.proofs.Common.{ℕ, ◌+◌, ◌≤◌, List, [], ◌∷◌, ◌++◌, refl, sym, ap, subst, ◌∙◌, arith, append_assoc, append-nil}
use Rattle.std.proofs.lemmas.List.{map-append}
use Rattle.journals.specs.declared.desk.DeskEntry.{DeskEntry}
use Rattle.locked_nodes.specs.Cells.{Rises}
use Rattle.client_desks.specs.Desks.{DeskView, numbers_of, desk_entry}
use Rattle.client_desks.specs.Later.{IsLater, GoesOn, OwnIsLater, CallIsLater}
use Rattle.locked_nodes.proofs.lemmas.Growing.{rises_append}

-- numbers that rise from a higher bound rise from a lower one
rises_from : (low high : ℕ) (xs : List ℕ) (top : ℕ) → low ≤ high → Rises high xs top → Rises low xs top
rises_from low high [] top le rises = omega (arith, rises, le)
rises_from low high (x ∷ xs) top le rises = let at = rises.0 in (omega (arith, at, le), rises.1)

pub same_desk : (d : DeskView) → IsLater d d
same_desk d = record {
  config = refl;
  id = refl;
  lying = refl;
  clock = refl;
  number = refl;
  more = [];
  entries = sym (append-nil d.entries);
  rises = omega arith;
}

pub goes_on : GoesOn
goes_on a b c one two = record {
  config = two.config ∙ one.config;
  id = two.id ∙ one.id;
  lying = two.lying ∙ one.lying;
  clock = two.clock ∙ one.clock;
  number = two.number ∙ one.number;
  more = one.more ++ two.more;
  entries = two.entries ∙ ap (λ l. l ++ two.more) one.entries ∙ append_assoc a.entries one.more two.more;
  rises = subst (λ l. Rises a.pass.seen l c.pass.seen) (sym (map-append (λ (e : DeskEntry). e.number) one.more two.more)) (rises_append a.pass.seen (numbers_of one.more) b.pass.seen (numbers_of two.more) c.pass.seen one.rises two.rises);
}

pub own_later : OwnIsLater
own_later d n a le = record {
  config = refl;
  id = refl;
  lying = refl;
  clock = refl;
  number = refl;
  more = desk_entry n a ∷ [];
  entries = refl;
  rises = (le, omega arith);
}

pub call_later : CallIsLater
call_later d n a le = record {
  config = refl;
  id = refl;
  lying = refl;
  clock = refl;
  number = refl;
  more = desk_entry n a ∷ [];
  entries = refl;
  rises = (le, omega arith);
}
