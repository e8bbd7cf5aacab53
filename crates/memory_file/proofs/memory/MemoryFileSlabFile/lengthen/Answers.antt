use Rattle.std.proofs.Common.{◌≡◌, [], ◌∷◌, ◌++◌, ◌∙◌, ap}
use Rattle.memory_file.specs.declared.step.Step.TheVariants.{Lengthened}
use Rattle.memory_file.specs.Steps.{Recorded}
use Rattle.memory_file.proofs.Pieces.{torn_itself}
use Rattle.memory_file.proofs.Recording.{no_more, longer_torn}
use Rattle.memory_file.proofs.memory.MemoryFileSlabFile.lengthen.Goals as goal

pub returns-then-next_fails-clause-crash : goal.returns-then-next_fails-clause-crash
returns-then-next_fails-clause-crash c clean bytes left =
    let first : c.fail.new.self.first ≡ c.args.self.now.first = ap (λ (f : Recorded). f.first) c.fail.ensures.same ∙ ap (λ (f : Recorded). f.first) c.next_fails.ensures in
    let steps : c.fail.new.self.steps ≡ c.args.self.now.steps = ap (λ (f : Recorded). f.steps) c.fail.ensures.same ∙ ap (λ (f : Recorded). f.steps) c.next_fails.ensures in
    (bytes, no_more c.args.self.now c.fail.new.self first steps bytes left, torn_itself bytes c.args.len 0)

pub returns-in-Ok-clause-others : goal.returns-in-Ok-clause-others
returns-in-Ok-clause-others c clean =
    longer_torn c.args.self.now c.record_length.new.self c.args.len
    (ap (λ (f : Recorded). f.first) c.in-Ok.ensures.ok ∙ ap (λ (f : Recorded). f.first) c.next_fails.ensures)
    (ap (λ (f : Recorded). f.steps) c.in-Ok.ensures.ok ∙ ap (λ (f : Recorded). f.steps ++ Lengthened c.args.len ∷ []) c.next_fails.ensures)

pub returns-in-Err-clause-crash : goal.returns-in-Err-clause-crash
returns-in-Err-clause-crash c clean bytes left =
    let first : c.fail-in-Err.new.self.first ≡ c.args.self.now.first =
    ap (λ (f : Recorded). f.first) c.fail-in-Err.ensures.same ∙ ap (λ (f : Recorded). f.first) c.in-Err.ensures.err ∙ ap (λ (f : Recorded). f.first) c.next_fails.ensures in
    let steps : c.fail-in-Err.new.self.steps ≡ c.args.self.now.steps =
    ap (λ (f : Recorded). f.steps) c.fail-in-Err.ensures.same ∙ ap (λ (f : Recorded). f.steps) c.in-Err.ensures.err ∙ ap (λ (f : Recorded). f.steps) c.next_fails.ensures in
    (bytes, no_more c.args.self.now c.fail-in-Err.new.self first steps bytes left, torn_itself bytes c.args.len 0)
