use Rattle.std.proofs.Common.{◌≡◌, ◌≤◌, ◌<◌, true, false, refl, sym, ◌∙◌, ap, arith}
use Rattle.std.specs.declared.option.Option.TheVariants.{None, Some}
use Rattle.std.specs.Ordering.{is_eq}
use Rattle.stamp_order.specs.Stamps.{same_stamp}
use Rattle.quorum_rules.specs.Limits.{complete_of, repairable_of}
use Rattle.protocol.specs.Instance.{setting}
use Rattle.protocol.specs.Operations.{pivot, support}
use Rattle.candidate_class.proofs.lemmas.Compared.{same_by_fields}
use Rattle.operation_core.specs.Counting.{answer_at}
use Rattle.read_core.proofs.Ending.{pivot_told, supported, is_outvoted, is_first, is_later, is_little}
use Rattle.read_core.proofs.round.Round.end.Goals as goal

pub returns-in_default : goal.returns-in_default
returns-in_default c =
    let r = c.args.self.now in
    let none : pivot (setting r.config.now) (answer_at r.answers.now) r.bound ≡ None =
    pivot_told r.config.now r.first.now r.bound r.answers.now r.stamps.now c.requires r.stamps.now c.repairable.result None refl c.repairable.ensures.is c.in_default.ensures.value in
    let nodes = c.in_ok-nodes.ensures in
    is_outvoted r.config.now r.first.now r.bound r.answers.now r.stamps.now c.requires c.in_ok-nodes.nodes none nodes

pub returns-then-is_eq : goal.returns-then-is_eq
returns-then-is_eq c =
    let r = c.args.self.now in
    let is : pivot (setting r.config.now) (answer_at r.answers.now) r.bound ≡ Some c.in-Some.pivot =
    pivot_told r.config.now r.first.now r.bound r.answers.now r.stamps.now c.requires r.stamps.now c.repairable.result (Some c.in-Some.pivot) refl c.repairable.ensures.is c.in-Some.ensures.value in
    let same : same_stamp c.in-Some.pivot r.first.now ≡ true = sym (c.is_eq.ensures ∙ ap is_eq c.cmp.ensures ∙ same_by_fields c.in-Some.pivot r.first.now) ∙ c.if-is_eq.true in
    let zeros = rw c.size.ensures.is at c.in_ok-zeros.ensures in
    is_first r.config.now r.first.now r.bound r.answers.now r.stamps.now c.requires c.in-Some.pivot is c.in_ok-zeros.field-0 same zeros

pub judged-requires-clause-pivot : goal.judged-requires-clause-pivot
judged-requires-clause-pivot c =
    let r = c.args.self.now in
    let is : pivot (setting r.config.now) (answer_at r.answers.now) r.bound ≡ Some c.in-Some.pivot =
    pivot_told r.config.now r.first.now r.bound r.answers.now r.stamps.now c.requires r.stamps.now c.repairable.result (Some c.in-Some.pivot) refl c.repairable.ensures.is c.in-Some.ensures.value in
    let apart : same_stamp c.in-Some.pivot r.first.now ≡ false = sym (c.is_eq.ensures ∙ ap is_eq c.cmp.ensures ∙ same_by_fields c.in-Some.pivot r.first.now) ∙ c.if-is_eq.false in
    record { is = is; later = is_later r.config.now r.first.now r.bound r.answers.now r.stamps.now c.requires c.in-Some.pivot is apart }

pub judged-requires-clause-enough : goal.judged-requires-clause-enough
judged-requires-clause-enough c =
    let r = c.args.self.now in
    let counted = c.support_of.ensures in
    let all = supported r.config.now r.first.now r.bound r.answers.now r.stamps.now c.requires c.in-Some.pivot in
    let class = (c.in-Repairable.ensures.repairable.0 refl).0 in
    rw (← all, ← counted) class

pub judged-requires-clause-complete : goal.judged-requires-clause-complete
judged-requires-clause-complete c =
    let r = c.args.self.now in
    let counted = c.support_of.ensures in
    let all = supported r.config.now r.first.now r.bound r.answers.now r.stamps.now c.requires c.in-Some.pivot in
    let few : c.support_of.result < complete_of r.config.now = (c.in-Repairable.ensures.repairable.0 refl).1 in
    rw (← all, ← counted) (λ h. absurd (cc), λ m. absurd (omega (arith, few, m)))

pub judged-requires-in-Complete-clause-pivot : goal.judged-requires-in-Complete-clause-pivot
judged-requires-in-Complete-clause-pivot c =
    let r = c.args.self.now in
    let is : pivot (setting r.config.now) (answer_at r.answers.now) r.bound ≡ Some c.in-Some.pivot =
    pivot_told r.config.now r.first.now r.bound r.answers.now r.stamps.now c.requires r.stamps.now c.repairable.result (Some c.in-Some.pivot) refl c.repairable.ensures.is c.in-Some.ensures.value in
    let apart : same_stamp c.in-Some.pivot r.first.now ≡ false = sym (c.is_eq.ensures ∙ ap is_eq c.cmp.ensures ∙ same_by_fields c.in-Some.pivot r.first.now) ∙ c.if-is_eq.false in
    record { is = is; later = is_later r.config.now r.first.now r.bound r.answers.now r.stamps.now c.requires c.in-Some.pivot is apart }

pub judged-requires-in-Complete-clause-enough : goal.judged-requires-in-Complete-clause-enough
judged-requires-in-Complete-clause-enough c =
    let r = c.args.self.now in
    let counted = c.support_of.ensures in
    let all = supported r.config.now r.first.now r.bound r.answers.now r.stamps.now c.requires c.in-Some.pivot in
    let class : complete_of r.config.now ≤ c.support_of.result = c.in-Complete.ensures.complete.0 refl in
    let below = c.repairable.ensures.below in
    let is = c.repairable.ensures.is in
    rw (← all, ← counted) (omega (arith, class, below, is))

pub judged-requires-in-Complete-clause-complete : goal.judged-requires-in-Complete-clause-complete
judged-requires-in-Complete-clause-complete c =
    let r = c.args.self.now in
    let counted = c.support_of.ensures in
    let all = supported r.config.now r.first.now r.bound r.answers.now r.stamps.now c.requires c.in-Some.pivot in
    let class : complete_of r.config.now ≤ c.support_of.result = c.in-Complete.ensures.complete.0 refl in
    rw (← all, ← counted) (λ h. class, λ m. refl)

pub returns-in-Incomplete : goal.returns-in-Incomplete
returns-in-Incomplete c =
    let r = c.args.self.now in
    let is : pivot (setting r.config.now) (answer_at r.answers.now) r.bound ≡ Some c.in-Some.pivot =
    pivot_told r.config.now r.first.now r.bound r.answers.now r.stamps.now c.requires r.stamps.now c.repairable.result (Some c.in-Some.pivot) refl c.repairable.ensures.is c.in-Some.ensures.value in
    let apart : same_stamp c.in-Some.pivot r.first.now ≡ false = sym (c.is_eq.ensures ∙ ap is_eq c.cmp.ensures ∙ same_by_fields c.in-Some.pivot r.first.now) ∙ c.if-is_eq.false in
    let later = is_later r.config.now r.first.now r.bound r.answers.now r.stamps.now c.requires c.in-Some.pivot is apart in
    let counted = c.support_of.ensures in
    let all = supported r.config.now r.first.now r.bound r.answers.now r.stamps.now c.requires c.in-Some.pivot in
    let class : c.support_of.result < repairable_of r.config.now = c.in-Incomplete.ensures.incomplete.0 refl in
    let few : support (setting r.config.now) (answer_at r.answers.now) r.bound c.in-Some.pivot < repairable_of r.config.now = rw (← all, ← counted) class in
    is_little r.config.now r.first.now r.bound r.answers.now r.stamps.now c.requires c.in-Some.pivot is later few
