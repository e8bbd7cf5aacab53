use Rattle.std.proofs.Common.{◌≡◌, ℕ, true, false, inl, inr, sym, ap, ◌∙◌}
use Rattle.std.proofs.lemmas.Bool.{cases_Bool}
use Rattle.store_care.specs.Filling.{with_replies}
use Rattle.store_care.proofs.Refused.{refused}
use Rattle.store_care.proofs.filling.Filled.keep.Goals as goal

pub returns-in-Ok : goal.returns-in-Ok
returns-in-Ok g c =
    let e = c.in-Ok.ensures in
    let up : c.args.node.now.broken ≡ false = elim (cases_Bool c.args.node.now.broken) [ inl broken ↦ absurd (let refused = e.broken.1 broken in cc) | inr whole ↦ whole ] in
    inl (
      e.state,
      e.done.state ∙ sym e.state,
      e.durable,
      c.count_all.ensures ∙ ap (with_replies c.args.self.now) (c.as_slice.ensures ∙ e.replies),
      up,
      e.whole,
    )

pub returns-in-Err : goal.returns-in-Err
returns-in-Err g c =
    let was = c.args.node.now in
    let is = c.handle_all.new.self in
    let start = c.args.self.now in
    inr (
      refused (is ≡ was) (is.broken ≡ true) c.in-Err.field-0 c.in-Err.ensures.calm c.in-Err.ensures.breaks,
      ap (λ (n : ℕ). record start { missed = n }) c.saturating_add-self.ensures,
    )
