use Rattle.std.proofs.Common.{◌≡◌, ◌++◌, ℕ, OnOk, Option, None, Some, is_none, option_copied, refl, sym, ap, subst, ◌∙◌}
use Rattle.std.proofs.lemmas.List.{append-nil}
use Rattle.store_care.specs.Given.{Given, given, given_by}
use Rattle.store_care.specs.Tallies.{one_more_if}
use Rattle.store_care.specs.Filling.{asks_by}
use Rattle.store_care.proofs.Looks.{always}
use Rattle.store_care.proofs.filling.Filled.ask_of.Goals as goal

pub returns-in-Some : goal.returns-in-Some
returns-in-Some c =
    let config = c.args.config.now in
    let o = option_copied c.args.outcome in
    let start = c.args.self.now in
    let e : Some (given_by c.in-Some.stamp.now c.in-Some.value.now) ≡ given config.size o = c.in-Some.ensures ∙ ap (λ (n : ℕ). given n o) c.size.ensures.is in
    record {
      asks = subst (λ (g : Option Given). OnOk c.add_ask.result (c.add_ask.new.asks.items ≡ c.args.asks.now.items ++ asks_by config c.args.number c.args.block g)) e c.add_ask.ensures;
      missed = subst (λ (g : Option Given). OnOk c.add_ask.result (start ≡ record start { missed = one_more_if (is_none g) start.missed })) e (always c.add_ask.result refl);
    }

pub returns-in-None : goal.returns-in-None
returns-in-None c =
    let config = c.args.config.now in
    let o = option_copied c.args.outcome in
    let start = c.args.self.now in
    let e : None ≡ given config.size o = c.in-None.ensures ∙ ap (λ (n : ℕ). given n o) c.size.ensures.is in
    record {
      asks = subst (λ (g : Option Given). c.args.asks.now.items ≡ c.args.asks.now.items ++ asks_by config c.args.number c.args.block g) e (sym (append-nil c.args.asks.now.items));
      missed = subst (λ (g : Option Given). record start { missed = c.saturating_add-self.result } ≡ record start { missed = one_more_if (is_none g) start.missed }) e
          (ap (λ (n : ℕ). record start { missed = n }) c.saturating_add-self.ensures);
    }
