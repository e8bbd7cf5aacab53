use Rattle.std.proofs.Common.{◌∷◌, [], ◌∙◌, sym, refl, ◌++◌}
use Rattle.std.proofs.lemmas.List.{append-nil}
use Rattle.slot_disk.specs.Slots.{body_of}
use Rattle.version_disk.specs.Held.{after_slot, held, slots_of}
use Rattle.version_disk.specs.Kept.{HoldsOneOf}
use Rattle.version_disk.proofs.Keeping.{holds_one}
use Rattle.slot_disk.proofs.lemmas.Moments.{leaves_only_weaker}
use Rattle.version_disk.proofs.keep.keep_slot.Goals as goal

pub returns-clause-any_moment : goal.returns-clause-any_moment
returns-clause-any_moment g c slot good is =
    let D = g.D.Disk in
    let config = c.args.config.now in
    let number = c.args.number in
    let old = D.seen c.args.disk.now in
    let now = held config number old in
    leaves_only_weaker D.moment D.left_since c.args.disk.now c.keep_slots.new.disk _ (HoldsOneOf config number (slots_of config old) now (after_slot now slot))
    (λ left few. holds_one config number (slots_of config old) now slot left few)
    (c.keep_slots.ensures.any_moment (slot ∷ []) (good, tt) refl (is ∙ sym (append-nil (body_of slot ++ 0 ∷ []))))

pub returns-clause-kept : goal.returns-clause-kept
returns-clause-kept g c slot good is = c.keep_slots.ensures.kept (slot ∷ []) (good, tt) refl (is ∙ sym (append-nil (body_of slot ++ 0 ∷ [])))

pub returns-clause-slots : goal.returns-clause-slots
returns-clause-slots g c slot good is = c.keep_slots.ensures.slots (slot ∷ []) (good, tt) refl (is ∙ sym (append-nil (body_of slot ++ 0 ∷ [])))
