use Rattle.std.proofs.Common.{◌∙◌, sym, ap, subst}
use Rattle.std.specs.List.{All}
use Rattle.wire_forms.specs.Ops.{Fits}
use Rattle.store_device.specs.Told.{AreApart}
use Rattle.store_front.specs.Asking.{told_in, AreAsked, AreHeard}
use Rattle.store_front.specs.Values.{found_in}
use Rattle.store_front.proofs.Asking.{read_calls}
use Rattle.store_front.proofs.Valuing.{reads_all_fit, reads_apart}
use Rattle.store_front.proofs.operations.read_blocks.Goals as goal

pub perform_all-requires-clause-fits : goal.perform_all-requires-clause-fits
perform_all-requires-clause-fits g c =
    λ lifetimes within.
    subst (All (Fits c.args.store.now.config)) (sym c.deref.ensures.value)
    (subst (All (Fits c.args.store.now.config)) (sym c.in_ok-ops.ensures.ops) (reads_all_fit c.args.store.now.config c.args.blocks.now.keys c.requires))

pub perform_all-requires-clause-apart : goal.perform_all-requires-clause-apart
perform_all-requires-clause-apart g c =
    λ lifetimes within. subst AreApart (sym c.deref.ensures.value) (reads_apart c.in_ok-ops.ops.items c.args.blocks.now.keys c.in_ok-ops.ensures.ops c.reads_of.ensures.ascending)

pub returns-clause-calls : goal.returns-clause-calls
returns-clause-calls g c =
    let made = c.in_ok-perform_all.ensures.calls in
    let asks = c.deref.ensures.value ∙ c.in_ok-ops.ensures.ops in
    let all = subst (λ ops. AreHeard ops made.0) asks made.3.0 in (
      made.0,
      made.1,
      subst (λ ops. AreAsked ops made.0) asks made.2,
      (
        all,
        made.3.1 ∙ ap (λ z. found_in c.args.store.now.config z (told_in made.0)) c.new-done.ensures.found,
        made.3.2 ∙ read_calls _ made.0 c.args.blocks.now.keys all ∙ c.new-done.ensures.written,
      ),
    )
