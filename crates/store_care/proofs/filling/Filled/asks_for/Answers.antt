use Rattle.std.proofs.Common.{◌≡◌, ◌<◌, ◌++◌, ℕ, List, length, Option, is_none, option_copied, add-one, sym, ap, ◌∙◌}
use Rattle.std.proofs.lemmas.List.{get_or-map}
use Rattle.protocol.specs.Messages.{Ask}
use Rattle.protocol.specs.Operations.{Outcome}
use Rattle.protocol.specs.Seen.{block_of}
use Rattle.store_care.specs.Given.{block_at, given}
use Rattle.store_care.specs.Tallies.{failed_reads, one_more_if}
use Rattle.store_care.specs.Filling.{asks_by, asks_for}
use Rattle.store_care.specs.declared.filling.Filled.{Filled}
use Rattle.store_care.proofs.filling.Filled.asks_for.Goals as goal

pub loop-k-preserved : goal.loop-k-preserved
loop-k-preserved c =
    let k = c.loop-k.k in
    let config = c.args.config.now in
    let number = c.args.number in
    let reads = c.args.reads.now in
    let outcomes = c.args.outcomes.now in
    let inv = c.loop-k.invariant in
    let e = c.in_ok-ask_of.ensures in
    let op = c.index-reads-k.result in
    let o = option_copied c.outcome_at-outcome.result in
    let lt : k < length reads = c.loop-k-test.true in
    let at : c.block_of.result ≡ block_at reads k = c.block_of.ensures ∙ ap block_of c.index-reads-k.is ∙ sym (get_or-map block_of reads k op 0 lt) in
    let start = c.args.self.now in
    record {
      asks = e.asks ∙ ap (λ (asks : List Ask). asks ++ asks_by config number c.block_of.result (given config.size o)) inv.asks
          ∙ ap (λ (b : ℕ). asks_for config number reads outcomes k ++ asks_by config number b (given config.size o)) at
          ∙ ap (λ (p : Option Outcome). asks_for config number reads outcomes k ++ asks_by config number (block_at reads k) (given config.size p)) c.outcome_at-outcome.ensures
          ∙ sym (ap (asks_for config number reads outcomes) (add-one k));
      missed = e.missed
          ∙ ap (λ (f : Filled). record f { missed = one_more_if (is_none (given config.size o)) f.missed }) inv.missed
          ∙ ap (λ (p : Option Outcome). record start { missed = one_more_if (is_none (given config.size p)) (failed_reads config.size outcomes k start.missed) }) c.outcome_at-outcome.ensures
          ∙ sym (ap (λ (n : ℕ). record start { missed = failed_reads config.size outcomes n start.missed }) (add-one k));
    }
