use Rattle.std.proofs.Common.{take}
use Rattle.journals.specs.Journals.{setting_for}
use Rattle.merge_trace.specs.Numbered.{all_desk_steps}
use Rattle.merge_trace.proofs.Adding.{Gone}
use Rattle.merge_trace.proofs.steps.add_desks.Given as goal

-- the clients so far were added
abbrev pub invariant-loop-desk : goal.invariant-loop-desk
invariant-loop-desk l = Gone (setting_for l.journals) l.fn.numbers l.numbers (all_desk_steps (take l.desk-index l.desks))
