use Rattle.std.proofs.Common.{◌∙◌, sym, subst}
use Rattle.std.proofs.lemmas.Result.{on_ok_weaker}
use Rattle.std.specs.List.{All}
use Rattle.wire_forms.specs.Ops.{Fits}
use Rattle.store_device.specs.Told.{AreApart}
use Rattle.store_front.specs.Asking.{AreAsked, AreHeard}
use Rattle.store_front.proofs.Asking.{write_calls}
use Rattle.store_front.proofs.Valuing.{writes_all_fit, writes_apart}
use Rattle.store_front.proofs.operations.write_blocks.Goals as goal

pub perform_all-requires-clause-fits : goal.perform_all-requires-clause-fits
perform_all-requires-clause-fits g c =
    λ lifetimes within.
    subst (All (Fits c.args.store.now.config)) (sym c.deref.ensures.value)
    (subst (All (Fits c.args.store.now.config)) (sym c.in_ok-ops.ensures.ops) (writes_all_fit c.args.store.now.config c.args.values.entries c.requires.values))

pub perform_all-requires-clause-apart : goal.perform_all-requires-clause-apart
perform_all-requires-clause-apart g c =
    λ lifetimes within. subst AreApart (sym c.deref.ensures.value) (writes_apart c.in_ok-ops.ops.items c.args.values.entries c.in_ok-ops.ensures.ops c.writes_of.ensures.ascending)

pub returns-clause-found : goal.returns-clause-found
returns-clause-found g c =
    let made = c.perform_all.ensures.calls in
    let asks = c.deref.ensures.value ∙ c.in_ok-ops.ensures.ops in
    on_ok_weaker c.perform_all.result (λ h. h.1 ∙ write_calls c.args.store.now.config c.args.done.now.found.entries made.0 c.args.values.entries (subst (λ ops. AreHeard ops made.0) asks h.0)) made.3

pub returns-clause-calls : goal.returns-clause-calls
returns-clause-calls g c =
    let made = c.perform_all.ensures.calls in
    let asks = c.deref.ensures.value ∙ c.in_ok-ops.ensures.ops in
    (made.0, made.1, subst (λ ops. AreAsked ops made.0) asks made.2, on_ok_weaker c.perform_all.result (λ h. (subst (λ ops. AreHeard ops made.0) asks h.0, h.2)) made.3)
