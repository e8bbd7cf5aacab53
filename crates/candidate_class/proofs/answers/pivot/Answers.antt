use Rattle.std.proofs.Common.{◌≡◌, ◌<◌, ◌≤◌, ◌∙◌, ℕ, length, take, Option, ap, arith}
use Rattle.stamp_order.specs.declared.Stamp.{Stamp}
use Rattle.stamp_order.specs.Stamps.{up_to}
use Rattle.quorum_rules.specs.Limits.{repairable_of}
use Rattle.protocol.specs.Reach.{highest}
use Rattle.protocol.specs.Instance.{setting}
use Rattle.protocol.specs.Operations.{stamps}
use Rattle.candidate_class.specs.Answers.{by_node}
use Rattle.candidate_class.specs.Stamps.{stamp_at}
use Rattle.candidate_class.proofs.lemmas.Nodes.{stamps_taken}
use Rattle.candidate_class.proofs.lemmas.Reaching.{highest_none}
use Rattle.candidate_class.proofs.answers.pivot.Goals as goal

pub returns-clause-value : goal.returns-clause-value
returns-clause-value c =
    let n : ℕ = c.args.config.now.n in
    let f : ℕ → Option Stamp = stamps (setting c.args.config.now) (by_node c.args.answers.now) c.args.bound.now in
    let xs = c.stamps_of-stamps.result in
    let places = c.stamps_of-stamps.ensures.places in
    let most = c.n-n.ensures.valid.nodes.1 in
    let room : n ≤ length xs = omega (arith, places, most) in
    let taken = stamps_taken (setting c.args.config.now) c.args.bound.now n c.args.answers.now c.requires.nodes xs room c.stamps_of-stamps.ensures.stamps c.n-n.result c.n-n.ensures.is in
    c.pivot_of.ensures.value
    ∙ ap (λ k. highest up_to k (stamp_at (take c.n-n.result xs)) c.repairable.result) taken.0
    ∙ ap (λ g. highest up_to n g c.repairable.result) taken.1
    ∙ ap (λ k. highest up_to n f k) c.repairable.ensures.is

pub returns-clause-none : goal.returns-clause-none
returns-clause-none c =
    let f : ℕ → Option Stamp = stamps (setting c.args.config.now) (by_node c.args.answers.now) c.args.bound.now in
    let e : c.pivot_of.result ≡ highest up_to c.args.config.now.n f (repairable_of c.args.config.now) = returns-clause-value c in
    let honest = c.repairable.ensures.honest in
    let is = c.repairable.ensures.is in
    let pos : 0 < repairable_of c.args.config.now = omega (arith, honest, is) in
    rw e (highest_none c.args.config.now.n (repairable_of c.args.config.now) f pos)
