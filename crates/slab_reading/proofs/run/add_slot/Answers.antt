use Rattle.std.proofs.Common.{inl, ◌∙◌, ap, subst}
use Rattle.slab_layout.specs.declared.head.Head.{Head}
use Rattle.slab_layout.specs.Heads.{head_bytes}
use Rattle.slab_reading.specs.Opened.{AddsMarked}
use Rattle.slab_reading.proofs.run.add_slot.Goals as goal

pub returns-in_ok-add_marked-in-Some-clause-added : goal.returns-in_ok-add_marked-in-Some-clause-added
returns-in_ok-add_marked-in-Some-clause-added c =
    let told = c.in-Some.ensures.is in
    inl (
      c.if-mark-ne1.false,
      record { written = c.in-Some.ensures.some ∙ ap (head_bytes c.args.key) told },
      subst (λ (h : Head). AddsMarked c.args.slot h c.args.opened.now c.add_marked.new.self) told c.in_ok-add_marked-in-Some.ensures.added,
    )
