use Rattle.std.proofs.Common.{◌≡◌, ◌+◌, true, false, [], ◌∷◌, ◌++◌, List, length, sym, ap, ◌∙◌, arith}
use Rattle.std.proofs.lemmas.List.{length_push}
use Rattle.wire_forms.specs.declared.op.Op.{Op}
use Rattle.wire_forms.specs.declared.op.Op.TheVariants.{Read}
use Rattle.store_care.specs.Settling.{is_settled}
use Rattle.store_care.proofs.Looks.{on_ok}
use Rattle.store_care.proofs.Rising.{below_later}
use Rattle.store_care.proofs.Settled.{one_more_settled, one_more_to_settle}
use Rattle.store_care.proofs.settling.add_unsettled.Goals as goal

pub returns-then-settled-clause-batch : goal.returns-then-settled-clause-batch
returns-then-settled-clause-batch g c = λ below. below_later c.args.store.now.config c.args.reads.now.items c.args.block (c.args.block + 1) (omega arith) below

pub returns-then-settled-clause-reads : goal.returns-then-settled-clause-reads
returns-then-settled-clause-reads g c =
    let is : is_settled c.args.store.now c.args.block ≡ true = sym c.in_ok-settled.ensures.settled ∙ c.if-settled.true in
    λ first count e are. are ∙ sym (one_more_settled c.args.store.now first count c.args.block e is)

pub returns-clause-batch : goal.returns-clause-batch
returns-clause-batch g c = on_ok c.add.result (λ more below. more c.args.store.now.config below c.requires) c.add.ensures.batch

pub returns-clause-few : goal.returns-clause-few
returns-clause-few g c = on_ok c.add.result (λ items. omega (arith, ap length items, length_push c.args.reads.now.items (Read c.args.block))) c.add.ensures.items

pub returns-clause-reads : goal.returns-clause-reads
returns-clause-reads g c =
    let is : is_settled c.args.store.now c.args.block ≡ false = sym c.in_ok-settled.ensures.settled ∙ c.if-settled.false in
    on_ok c.add.result
    (λ items first count e are. items ∙ ap (λ (ops : List Op). ops ++ Read c.args.block ∷ []) are ∙ sym (one_more_to_settle c.args.store.now first count c.args.block e is))
    c.add.ensures.items
