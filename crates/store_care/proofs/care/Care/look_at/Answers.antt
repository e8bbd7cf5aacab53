use Rattle.std.proofs.Common.{◌≡◌, ℕ, OnOk, Option, None, Some, option_copied, refl, ap, subst, ◌∙◌}
use Rattle.quorum_rules.specs.Limits.{Numbers}
use Rattle.store_care.specs.Given.{Given, given, given_by}
use Rattle.store_care.specs.Steps.{HasLookedAt}
use Rattle.store_care.proofs.Looked.{nothing_given}
use Rattle.store_care.proofs.care.Care.look_at.Goals as goal

pub returns-in-Some-clause-looked : goal.returns-in-Some-clause-looked
returns-in-Some-clause-looked g c =
    let store = c.args.store.now in
    let o = option_copied c.args.outcome in
    let e : Some (given_by c.in-Some.stamp.now c.in-Some.value.now) ≡ given store.config.size o =
    c.in-Some.ensures ∙ ap (λ (n : ℕ). given n o) (c.size.ensures.is ∙ ap (λ (n : Numbers). n.size) c.config.ensures) in
    subst (λ (given_here : Option Given). OnOk c.look_at_value.result (HasLookedAt store.config c.args.newest.now store c.args.block given_here
    c.args.self.now c.look_at_value.new.self c.args.lacking.now c.look_at_value.new.lacking)) e c.look_at_value.ensures.looked

pub returns-in-None-clause-looked : goal.returns-in-None-clause-looked
returns-in-None-clause-looked g c =
    let store = c.args.store.now in
    let o = option_copied c.args.outcome in
    let e : None ≡ given store.config.size o =
    c.in-None.ensures ∙ ap (λ (n : ℕ). given n o) (c.size.ensures.is ∙ ap (λ (n : Numbers). n.size) c.config.ensures) in
    subst (λ (given_here : Option Given). HasLookedAt store.config c.args.newest.now store c.args.block given_here
    c.args.self.now (record { tallies = c.args.self.now.tallies; failed = c.saturating_add-self.result }) c.args.lacking.now c.args.lacking.now) e
    (nothing_given store.config c.args.newest.now store c.args.block c.args.self.now
    (record { tallies = c.args.self.now.tallies; failed = c.saturating_add-self.result }) c.args.lacking.now refl c.saturating_add-self.ensures)
