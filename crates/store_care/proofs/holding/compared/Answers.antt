use Rattle.std.proofs.Common.{Bool, Less, Greater, Equal, option_copied, refl, sym, ap, ◌∙◌}
use Rattle.std.proofs.lemmas.Bool.{false≢true}
use Rattle.stamp_order.specs.Stamps.{stamp_cmp}
use Rattle.store_care.specs.Holdings.{holding_by}
use Rattle.store_care.proofs.Held.{holding_in_order}
use Rattle.store_care.proofs.holding.compared.Goals as goal

pub returns-in-Less : goal.returns-in-Less
unfolding stamp_cmp
returns-in-Less c =
    let e = sym c.cmp.ensures ∙ c.in-Less.is in
    record { beside = e; holding = holding_in_order c.args.seat c.args.stamp.now (option_copied c.args.made) c.args.version.now Less _ e refl }

pub returns-in-Greater : goal.returns-in-Greater
unfolding stamp_cmp
returns-in-Greater c =
    let e = sym c.cmp.ensures ∙ c.in-Greater.is in
    record { beside = e; holding = holding_in_order c.args.seat c.args.stamp.now (option_copied c.args.made) c.args.version.now Greater _ e refl }

pub returns-then-is_made : goal.returns-then-is_made
unfolding stamp_cmp
returns-then-is_made c =
    let e = sym c.cmp.ensures ∙ c.in-Equal.is in
    let made = c.is_made.ensures in
    record {
      beside = (e, made.made.0 c.if-is_made.true);
      holding = holding_in_order c.args.seat c.args.stamp.now (option_copied c.args.made) c.args.version.now Equal _ e
          (ap (λ (b : Bool). holding_by Equal b) (sym c.if-is_made.true ∙ made.test));
    }

pub returns-else-is_made : goal.returns-else-is_made
unfolding stamp_cmp
returns-else-is_made c =
    let e = sym c.cmp.ensures ∙ c.in-Equal.is in
    let made = c.is_made.ensures in
    record {
      beside = (e, λ m. absurd (false≢true (sym c.if-is_made.false ∙ made.made.1 m)));
      holding = holding_in_order c.args.seat c.args.stamp.now (option_copied c.args.made) c.args.version.now Equal _ e
          (ap (λ (b : Bool). holding_by Equal b) (sym c.if-is_made.false ∙ made.test));
    }
