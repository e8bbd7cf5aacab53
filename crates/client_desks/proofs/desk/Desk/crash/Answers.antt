use Rattle.std.proofs.Common.{◌++◌, ◌∷◌, [], true, sym, ap, subst, ◌∙◌, refl, map}
use Rattle.protocol.specs.Seen.{record_of}
use Rattle.journals.specs.declared.desk.DeskAct.TheVariants.{Crash}
use Rattle.journals.specs.Desks.{new_desk, desk_after_all, ActsAs}
use Rattle.client_desks.specs.Desks.{IsUp, desk_entry}
use Rattle.client_desks.proofs.lemmas.Desking.{desk_grows}
use Rattle.client_desks.proofs.desk.Desk.crash.Goals as goal

pub invariant_of-self-2 : goal.invariant_of-self-2
invariant_of-self-2 c =
    let was = c.self.inside in
    let up : IsUp (record { config = was.config; id = was.id; lying = was.lying; entries = was.entries.items; pass = was.pass }) = subst IsUp (sym c.self.view_is) c.requires.up in
    let state = desk_after_all (new_desk was.config was.id) was.entries.items in
    let may : ActsAs was.lying state Crash = subst (λ b. ActsAs b state Crash) (sym up.correct) up.up in
    desk_grows was.config was.id was.lying was.client was.client was.crashed true was.entries.items c.push_reserved.new.self.items (map record_of was.records.items) (map record_of was.records.items) was.pass c.draw-number.new.pass c.draw-number.result Crash c.self.invariant may c.draw-number.ensures.later
    (ap (λ p. p.seen) c.draw-number.ensures.drawn) (ap (λ p. p.drawn) c.draw-number.ensures.drawn) c.self.invariant.left refl (c.push_reserved.ensures.items ∙ ap (λ l. l ++ desk_entry c.draw-number.result Crash ∷ []) c.reserve.ensures.items) c.self.invariant.told
