use Rattle.std.proofs.Common.{◌≡◌, ◌+◌, true, false, [], ◌∷◌, ◌++◌, List, length, sym, ap, ◌∙◌, arith}
use Rattle.std.proofs.lemmas.List.{length_push}
use Rattle.wire_forms.specs.declared.op.Op.{Op}
use Rattle.wire_forms.specs.declared.op.Op.TheVariants.{Read}
use Rattle.store_care.specs.Pruning.{is_overfull}
use Rattle.store_care.proofs.Looks.{on_ok}
use Rattle.store_care.proofs.Overfull.{one_more_left, one_more_read}
use Rattle.store_care.proofs.Rising.{below_later}
use Rattle.store_care.proofs.pruning.add_overfull.Goals as goal

pub returns-then-is_overfull-clause-batch : goal.returns-then-is_overfull-clause-batch
returns-then-is_overfull-clause-batch g c = on_ok c.add.result (λ more below. more c.args.store.now.config below c.requires) c.add.ensures.batch

pub returns-then-is_overfull-clause-few : goal.returns-then-is_overfull-clause-few
returns-then-is_overfull-clause-few g c = on_ok c.add.result (λ items. omega (arith, ap length items, length_push c.args.reads.now.items (Read c.args.block))) c.add.ensures.items

pub returns-then-is_overfull-clause-reads : goal.returns-then-is_overfull-clause-reads
returns-then-is_overfull-clause-reads g c =
    let is : is_overfull c.args.store.now c.args.most c.args.block ≡ true = sym c.is_overfull.ensures.full ∙ c.if-is_overfull.true in
    on_ok c.add.result
    (λ items first count e are. items ∙ ap (λ (ops : List Op). ops ++ Read c.args.block ∷ []) are ∙ sym (one_more_read c.args.store.now c.args.most first count c.args.block e is))
    c.add.ensures.items

pub returns-clause-batch : goal.returns-clause-batch
returns-clause-batch g c = λ below. below_later c.args.store.now.config c.args.reads.now.items c.args.block (c.args.block + 1) (omega arith) below

pub returns-clause-reads : goal.returns-clause-reads
returns-clause-reads g c =
    let is : is_overfull c.args.store.now c.args.most c.args.block ≡ false = sym c.is_overfull.ensures.full ∙ c.if-is_overfull.false in
    λ first count e are. are ∙ sym (one_more_left c.args.store.now c.args.most first count c.args.block e is)
