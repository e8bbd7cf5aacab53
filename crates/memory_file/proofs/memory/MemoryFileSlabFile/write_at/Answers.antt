use Rattle.std.proofs.Common.{◌≡◌, List, [], ◌∷◌, ◌++◌, length, refl, ◌∙◌, ap, subst}
use Rattle.std.proofs.lemmas.Result.{on_ok_weaker}
use Rattle.memory_file.specs.declared.step.Step.TheVariants.{Wrote}
use Rattle.memory_file.specs.Steps.{Recorded, WroteSome}
use Rattle.memory_file.proofs.Recording.{some_torn, some_follows, written_holds}
use Rattle.memory_file.proofs.memory.MemoryFileSlabFile.write_at.Goals as goal

pub returns-clause-others : goal.returns-clause-others
returns-clause-others c =
    let n = length c.args.piece.now in
    let new = c.try_write.new.self in
    some_torn c.args.self.now new c.args.at n (subst (λ (o : Recorded). WroteSome c.args.at n o new) c.next_fails-fails.ensures c.try_write.ensures.some)

pub returns-clause-crash : goal.returns-clause-crash
returns-clause-crash c =
    let n = length c.args.piece.now in
    let new = c.try_write.new.self in
    some_follows c.args.self.now new c.args.at n (subst (λ (o : Recorded). WroteSome c.args.at n o new) c.next_fails-fails.ensures c.try_write.ensures.some)

pub returns-clause-written : goal.returns-clause-written
returns-clause-written c =
    on_ok_weaker c.try_write.result
    (λ steps long.
    let n = length c.args.piece.now in
    let new = c.try_write.new.self in
    written_holds c.args.self.now new c.args.at n c.args.piece.now
    (subst (λ (o : Recorded). WroteSome c.args.at n o new) c.next_fails-fails.ensures c.try_write.ensures.some)
    (steps ∙ ap (λ (f : Recorded). f.steps ++ Wrote c.args.at c.args.piece.now ∷ []) c.next_fails-fails.ensures)
    (c.requires.within refl))
    c.try_write.ensures.ok
