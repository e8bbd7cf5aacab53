use Rattle.std.proofs.Common.{◌≡◌, ◌≤◌, [], ◌∷◌, ◌++◌, length, map, Some, arith, sym, ap, ◌∙◌}
use Rattle.std.proofs.lemmas.List.Elements.{All-pop, All-push, All-same}
use Rattle.event_clock.specs.declared.rule.View.{View}
use Rattle.event_clock.specs.Passes.{Holder, ClockId, clock_id, share_of}
use Rattle.event_clock.proofs.Steps.{takes_in}
use Rattle.event_clock.proofs.Passes.{shares_push}
use Rattle.event_clock.proofs.clock.join_all.Goals as goal

pub join_seat-requires : goal.join_seat-requires
join_seat-requires c =
    let i = c.loop-pass.invariant in
    let keeper = c.loop-pass.keeper in
    let other = c.into_seat in
    let table = c.args.table.now.shared in
    let own = (All-pop (λ (p : Holder). p.clock ≡ clock_id table.table_id table.key) c.loop-pass.passes c.pop-in-loop-pass.new.self (Some c.in-Some-pop.pass) c.in-Some-pop.ensures.items i.0).1 in (
      i.1,
      other.ensures.table ∙ ap (λ (k : ClockId). k.table) own,
      other.ensures.bare,
      omega (arith, c.requires.word),
      takes_in table.key keeper.id keeper.me.0 other.result.id other.result.me.0 i.3,
    )

pub loop-pass-preserved : goal.loop-pass-preserved
loop-pass-preserved c =
    let i = c.loop-pass.invariant in
    let keeper = c.loop-pass.keeper in
    let other = c.into_seat in
    let table = c.args.table.now.shared in
    let rest = c.pop-in-loop-pass.new.self in
    let pass = c.in-Some-pop.pass in
    let own = All-pop (λ (p : Holder). p.clock ≡ clock_id table.table_id table.key) c.loop-pass.passes rest (Some pass) c.in-Some-pop.ensures.items i.0 in
    let after = ap (λ m. m.0) c.join_seat.ensures.2 in
    let shares = ap (λ (v : View). v.shares) after ∙ ap (λ l. l ++ keeper.me.0.shares) other.ensures.shares in (
      own.0,
      c.join_seat.ensures.0 ∙ i.1,
      ap (λ (v : View). v.passes) after ∙ i.2,
      omega (arith, ap length shares),
      ap (λ l. map share_of rest ++ l) shares ∙ shares_push rest pass keeper.me.0.shares ∙ ap (λ l. map share_of l ++ keeper.me.0.shares) (sym c.in-Some-pop.ensures.items) ∙ i.4,
      λ most above all.
          let seen = ap (λ (v : View). v.seen) after in
          let P : Holder → Type 0 = λ p. p.seen ≤ most in
          i.5 most (omega (arith, seen, above)) (All-same P c.loop-pass.passes (rest ++ pass ∷ []) c.in-Some-pop.ensures.items (All-push P rest pass all (omega (arith, seen, above, other.ensures.seen)))),
    )
