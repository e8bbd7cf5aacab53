use Rattle.std.proofs.Common.{sym, ◌∙◌, inl, inr, ◌<◌, length}
use Rattle.protocol.specs.Instance.{setting}
use Rattle.node_core.proofs.lemmas.Refusals.{bad_length, time_zero, bad_verifier, bad_digest, fine, differ, agree, matched, unmatched}
use Rattle.node_core.proofs.node.Node.refusal.Goals as goal
use Rattle.node_core.proofs.node.Node.refusal.Goals.{then-len-n-via-then-len-n, then-len-n-via-else-len-n+then-len-share}

pub returns-then-len-n : goal.returns-then-len-n
returns-then-len-n c =
    let n = c.n-n.ensures.is in
    let share = c.share-share.ensures.is in
    rw (← c.self.view_is) (bad_length (setting c.self.inside.config) c.self.inside.number c.args.version.now
    (elim c.then-len-n.branch [
      | then-len-n-via-then-len-n w ↦ inl (λ e. w.if-len-n.true (c.len.ensures ∙ e ∙ sym n))
      | then-len-n-via-else-len-n+then-len-share w ↦ inr (λ e. w.if-len-share.true (w.len-else-len-n.ensures ∙ e ∙ sym share))
    ]))

pub returns-then-version-eq0 : goal.returns-then-version-eq0
returns-then-version-eq0 c =
    let n = c.n-n.ensures.is in
    let share = c.share-share.ensures.is in
    let sums = sym c.len.ensures ∙ c.if-len-n.false ∙ n in
    let shares = sym c.len-else-len-n.ensures ∙ c.if-len-share.false ∙ share in
    rw (← c.self.view_is) (time_zero (setting c.self.inside.config) c.self.inside.number c.args.version.now sums shares c.if-version-eq0.true)

pub returns-then-ne : goal.returns-then-ne
returns-then-ne c =
    let n = c.n-n.ensures.is in
    let share = c.share-share.ensures.is in
    let sums = sym c.len.ensures ∙ c.if-len-n.false ∙ n in
    let shares = sym c.len-else-len-n.ensures ∙ c.if-len-share.false ∙ share in
    let said = differ _ _ _ c.ne.ensures c.if-ne.true in
    rw (← c.self.view_is) (bad_verifier (setting c.self.inside.config) c.self.inside.number c.args.version.now sums shares c.if-version-eq0.false (λ e. said (e ∙ sym c.verifier.ensures)))

pub returns-then-not-matches : goal.returns-then-not-matches
returns-then-not-matches c =
    let n = c.n-n.ensures.is in
    let share = c.share-share.ensures.is in
    let sums = sym c.len.ensures ∙ c.if-len-n.false ∙ n in
    let shares = sym c.len-else-len-n.ensures ∙ c.if-len-share.false ∙ share in
    let verified = agree _ _ _ c.ne.ensures c.if-ne.false ∙ c.verifier.ensures in
    let tells = rw (c.from.ensures, c.as_slice.ensures.value) at c.matches.ensures in
    let below : c.self.inside.number < length c.args.version.now.sum = rw sums c.self.invariant.below in
    rw (← c.self.view_is) (bad_digest (setting c.self.inside.config) c.self.inside.number c.args.version.now sums shares c.if-version-eq0.false verified (unmatched c.args.version.now.sum c.self.inside.number _ _ tells below c.if-not-matches.true))

pub returns : goal.returns
returns c =
    let n = c.n-n.ensures.is in
    let share = c.share-share.ensures.is in
    let sums = sym c.len.ensures ∙ c.if-len-n.false ∙ n in
    let shares = sym c.len-else-len-n.ensures ∙ c.if-len-share.false ∙ share in
    let verified = agree _ _ _ c.ne.ensures c.if-ne.false ∙ c.verifier.ensures in
    let tells = rw (c.from.ensures, c.as_slice.ensures.value) at c.matches.ensures in
    rw (← c.self.view_is) (fine (setting c.self.inside.config) c.self.inside.number c.args.version.now sums shares c.if-version-eq0.false verified (matched c.args.version.now.sum c.self.inside.number _ _ tells c.if-not-matches.false))
