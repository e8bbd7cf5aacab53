use Rattle.std.proofs.Common.{◌≡◌, ◌∙◌, ◌+◌, ◌-◌, length, take, drop, refl, sym, ap, subst, arith, Some, None}
use Rattle.std.proofs.lemmas.List.{length-take, length-drop}
use Rattle.std.specs.List.{All, zip}
use Rattle.wire_forms.specs.Ops.{Fits}
use Rattle.quorum_rules.specs.Limits.{Numbers}
use Rattle.store_front.specs.Values.{AreBlocks, found_in}
use Rattle.store_front.proofs.Asking.{HasGone, goes_on, cut_off, all_heard, heard_asked, none_ok}
use Rattle.store_front.proofs.Valuing.{all_slice, apart_slice}
use Rattle.store_front.proofs.operations.perform_all.Goals as goal

pub perform-requires-clause-fits : goal.perform-requires-clause-fits
perform-requires-clause-fits g c =
    let ops = c.args.ops.now in
    let now = subst (λ (n : Numbers). All (Fits n) ops) (sym c.loop-at.invariant.config) c.requires.fits in
    λ lifetimes within. all_slice (Fits c.loop-at.store.config) ops c.loop-at.at c.min.result (omega (arith, c.min.ensures)) now

pub perform-requires-clause-apart : goal.perform-requires-clause-apart
perform-requires-clause-apart g c =
    λ lifetimes within. apart_slice c.args.ops.now c.loop-at.at c.min.result (omega (arith, c.min.ensures)) c.requires.apart

pub returns-in_err-outcomes-clause-calls : goal.returns-in_err-outcomes-clause-calls
returns-in_err-outcomes-clause-calls g c =
    let cut = cut_off g.D.Disk.pending g.D.Disk.seen g.D.Disk.most g.D.Disk.moment g.D.Disk.left_since c.args.store.now.config c.args.store.now c.loop-at.store c.args.ops.now c.loop-at.at c.min.result c.args.done.now.found.entries c.loop-at.done.found.entries c.args.done.now.written.keys c.loop-at.done.written.keys c.loop-at.invariant.gone
    (omega (arith, c.min.ensures)) (take (c.min.result - c.loop-at.at) (drop c.loop-at.at c.args.ops.now)) refl None c.perform.new.self c.in_err-outcomes.ensures.performed in
    (cut.0, cut.1, cut.2, none_ok _ c.from_residual.result c.from_residual.ensures.0)

pub returns-in_err-hear_all-clause-calls : goal.returns-in_err-hear_all-clause-calls
returns-in_err-hear_all-clause-calls g c =
    let outcomes = c.in_ok-outcomes.outcomes.items in
    let cut = cut_off g.D.Disk.pending g.D.Disk.seen g.D.Disk.most g.D.Disk.moment g.D.Disk.left_since c.args.store.now.config c.args.store.now c.loop-at.store c.args.ops.now c.loop-at.at c.min.result c.args.done.now.found.entries c.loop-at.done.found.entries c.args.done.now.written.keys c.loop-at.done.written.keys c.loop-at.invariant.gone
    (omega (arith, c.min.ensures)) (take (c.min.result - c.loop-at.at) (drop c.loop-at.at c.args.ops.now)) refl (Some outcomes) c.perform.new.self c.in_ok-outcomes.ensures.performed in
    (cut.0, cut.1, cut.2, none_ok _ c.from_residual-in_err-hear_all.result c.from_residual-in_err-hear_all.ensures.0)

pub loop-at-preserved : goal.loop-at-preserved
loop-at-preserved g c =
    let inv = c.loop-at.invariant in
    let heard = c.in_ok-hear_all.ensures in
    let config = c.args.store.now.config in
    let ops = c.args.ops.now in
    let outcomes = c.in_ok-outcomes.outcomes.items in
    let batch = take (c.min.result - c.loop-at.at) (drop c.loop-at.at ops) in
    let long : length batch ≡ c.min.result - c.loop-at.at = omega (arith, length-take (c.min.result - c.loop-at.at) (drop c.loop-at.at ops), length-drop c.loop-at.at ops, c.min.ensures) in
    let place : c.loop-at.at + length batch ≡ c.min.result = omega (arith, long, c.min.ensures, inv.within, c.loop-at-test.true) in
    let same : c.config.result.now ≡ config = c.config.ensures in
    record {
      config = c.perform.ensures.config ∙ inv.config;
      within = omega (arith, place, c.min.ensures);
      blocks = subst (λ (k : Numbers). AreBlocks k c.hear_all.new.self.found) same heard.blocks;
      gone =
          subst (λ n. HasGone g.D.Disk.pending g.D.Disk.seen g.D.Disk.most g.D.Disk.moment g.D.Disk.left_since config c.args.store.now c.perform.new.self ops n c.args.done.now.found.entries c.hear_all.new.self.found.entries c.args.done.now.written.keys c.hear_all.new.self.written.keys) (sym place)
          (goes_on g.D.Disk.pending g.D.Disk.seen g.D.Disk.most g.D.Disk.moment g.D.Disk.left_since config c.args.store.now c.loop-at.store ops c.loop-at.at c.min.result c.args.done.now.found.entries c.loop-at.done.found.entries c.args.done.now.written.keys c.loop-at.done.written.keys inv.gone
          (omega (arith, place)) batch refl outcomes c.perform.new.self c.hear_all.new.self.found.entries c.hear_all.new.self.written.keys c.in_ok-outcomes.ensures.performed
          (heard.found ∙ ap (λ (k : Numbers). found_in k c.loop-at.done.found.entries (zip batch outcomes)) same) heard.written);
    }

pub returns-clause-calls : goal.returns-clause-calls
returns-clause-calls g c =
    let h = c.loop-at.invariant.gone in
    let all = all_heard g.D.Disk.pending g.D.Disk.seen g.D.Disk.most g.D.Disk.moment g.D.Disk.left_since c.args.store.now.config c.args.store.now c.loop-at.store c.args.ops.now c.loop-at.at c.args.done.now.found.entries c.loop-at.done.found.entries c.args.done.now.written.keys c.loop-at.done.written.keys h (omega (arith, c.loop-at-test.false)) in
    (h.calls, h.leads_there, heard_asked c.args.ops.now h.calls all, (all, h.found_is, h.written_is))
