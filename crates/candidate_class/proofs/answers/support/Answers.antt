use Rattle.std.proofs.Common.{◌≤◌, ◌∙◌, ℕ, Bool, length, take, ap, arith}
use Rattle.protocol.specs.Count.{count}
use Rattle.protocol.specs.Instance.{setting}
use Rattle.protocol.specs.Operations.{valid}
use Rattle.protocol.proofs.lemmas.Seeing.{funext}
use Rattle.candidate_class.specs.Answers.{by_node}
use Rattle.candidate_class.specs.Stamps.{stamp_at, is_stamp}
use Rattle.candidate_class.proofs.lemmas.Nodes.{stamps_taken, is_stamp-stamp_of}
use Rattle.candidate_class.proofs.answers.support.Goals as goal

pub returns : goal.returns
returns c =
    let n : ℕ = c.args.config.now.n in
    let s = setting c.args.config.now in
    let stamp = c.args.stamp.now in
    let xs = c.stamps_of-stamps.result in
    let places = c.stamps_of-stamps.ensures.places in
    let most = c.n-n.ensures.valid.nodes.1 in
    let room : n ≤ length xs = omega (arith, places, most) in
    let taken = stamps_taken s c.args.bound.now n c.args.answers.now c.requires.nodes xs room c.stamps_of-stamps.ensures.stamps c.n-n.result c.n-n.ensures.is in
    c.support_of.ensures
    ∙ ap (λ k. count k (λ i. is_stamp stamp (stamp_at (take c.n-n.result xs) i))) taken.0
    ∙ ap (λ g. count n (λ i. is_stamp stamp (g i))) taken.1
    ∙ ap (λ (p : ℕ → Bool). count n p) (funext _ _ (λ i. is_stamp-stamp_of stamp (valid s i c.args.bound.now (by_node c.args.answers.now i))))
