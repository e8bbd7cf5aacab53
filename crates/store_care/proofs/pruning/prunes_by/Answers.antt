use Rattle.std.proofs.Common.{◌≡◌, ◌<◌, List, ◌++◌, length, take, Option, None, Some, unwrap_or, option_copied, refl, sym, ap, ◌∙◌}
use Rattle.std.specs.List.{slice_get}
use Rattle.std.proofs.lemmas.Option.{slice_get-get_or, unwrap_or-slice_get}
use Rattle.wire_forms.specs.declared.op.Op.{Op}
use Rattle.protocol.specs.Operations.{Outcome}
use Rattle.version_disk.specs.declared.prune.Prune.{Prune}
use Rattle.store_care.specs.Prunes.{prune_by, prunes_by}
use Rattle.store_care.proofs.Apart.{one_more, prune_at}
use Rattle.store_care.proofs.pruning.prunes_by.Goals as goal

at_place : (op : Op) (o : Option (Option Outcome)) → prune_at op o ≡ prune_by op (unwrap_or o None)
at_place op None = refl
at_place op (Some o) = refl

pub loop-k-preserved : goal.loop-k-preserved
loop-k-preserved c =
    let k = c.loop-k.k in
    let reads = c.args.reads.now in
    let outcomes = c.args.outcomes.now in
    let op = c.index-reads-k.result in
    let lt : k < length reads = c.loop-k-test.true in
    let is : slice_get reads k ≡ Some op = slice_get-get_or reads k op lt ∙ ap (λ (o : Op). Some o) (sym c.index-reads-k.is) in
    c.in_ok-add_prune.ensures
    ∙ ap (λ (ps : List Prune). ps ++ prune_by op (option_copied c.outcome_at.result)) c.loop-k.invariant
    ∙ ap (λ (o : Option Outcome). prunes_by (take k reads) outcomes ++ prune_by op o) (c.outcome_at.ensures ∙ sym (unwrap_or-slice_get outcomes k None))
    ∙ ap (λ (ps : List Prune). prunes_by (take k reads) outcomes ++ ps) (sym (at_place op (slice_get outcomes k)))
    ∙ sym (one_more reads outcomes k op is)
