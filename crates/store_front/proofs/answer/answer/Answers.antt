use Rattle.std.proofs.Common.{◌≡◌, ◌∙◌, List, map, ap, subst}
use Rattle.std.proofs.lemmas.Result.{IfOk-weaker}
use Rattle.quorum_rules.specs.Limits.{Numbers}
use Rattle.wire_forms.specs.declared.op.Op.TheVariants.{Read}
use Rattle.store_front.specs.declared.round.Asked.{Asked}
use Rattle.store_front.specs.Asking.{told_in, AreAsked, AreHeard}
use Rattle.store_front.specs.Rounds.{requests_of, values_left}
use Rattle.store_front.specs.Replies.{replies_of}
use Rattle.store_front.specs.Values.{value_at, is_in, given_by, write_of, written_in}
use Rattle.store_front.proofs.Answering.{together_of, reads_begun, writes_begun, all_done, any_err}
use Rattle.store_front.proofs.answer.answer.Goals as goal

pub returns-in_err-done-clause-cut : goal.returns-in_err-done-clause-cut
returns-in_err-done-clause-cut g c =
    let config = c.args.store.now.config in
    let asked = c.args.round.now.asked.items in
    let made = c.in_err-done.ensures.calls in
    any_err _ c.from_residual.result
    (reads_begun g.D.Disk.pending g.D.Disk.seen g.D.Disk.most g.D.Disk.moment g.D.Disk.left_since config (requests_of asked) (together_of config asked c.requires.asked c.requires.apart)
    made.0 c.args.store.now c.read_blocks.new.store made.1 (subst (λ ks. AreAsked (map Read ks) made.0) c.requires.read made.2))

pub returns-in_err-values-clause-cut : goal.returns-in_err-values-clause-cut
returns-in_err-values-clause-cut g c =
    let config = c.args.store.now.config in
    let asked = c.args.round.now.asked.items in
    let made = c.in_ok-done.ensures.calls in
    any_err _ c.from_residual-in_err-values.result
    (reads_begun g.D.Disk.pending g.D.Disk.seen g.D.Disk.most g.D.Disk.moment g.D.Disk.left_since config (requests_of asked) (together_of config asked c.requires.asked c.requires.apart)
    made.0 c.args.store.now c.read_blocks.new.store made.1 (subst (λ ks. AreAsked (map Read ks) made.0) c.requires.read made.2))

pub returns-in_err-write_blocks-clause-cut : goal.returns-in_err-write_blocks-clause-cut
returns-in_err-write_blocks-clause-cut g c =
    let config = c.args.store.now.config in
    let asked = c.args.round.now.asked.items in
    let made = c.in_ok-done.ensures.calls in
    let wrote = c.in_err-write_blocks.ensures.calls in
    let all = subst (λ ks. AreHeard (map Read ks) made.0) c.requires.read made.3.0 in
    let same : c.config.result.now ≡ config = c.config.ensures ∙ c.read_blocks.ensures.config in
    let values : c.in_ok-values.values.entries ≡ values_left config (given_by config made.0) (requests_of asked) =
    c.in_ok-values.ensures.values
    ∙ ap (λ (k : Numbers). values_left k (value_at c.in_ok-done.done.found.entries) (requests_of c.deref.result.now)) same
    ∙ ap (λ (xs : List Asked). values_left config (value_at c.in_ok-done.done.found.entries) (requests_of xs)) c.deref.ensures.value
    ∙ ap (λ es. values_left config (value_at es) (requests_of asked)) made.3.1 in
    any_err _ c.from_residual-in_err-write_blocks.result
    (writes_begun g.D.Disk.pending g.D.Disk.seen g.D.Disk.most g.D.Disk.moment g.D.Disk.left_since config (requests_of asked) (together_of config asked c.requires.asked c.requires.apart)
    made.0 c.args.store.now c.read_blocks.new.store made.1 all wrote.0 c.write_blocks.new.store wrote.1 (subst (λ es. AreAsked (map write_of es) wrote.0) values wrote.2))

pub returns-clause-cut : goal.returns-clause-cut
returns-clause-cut g c =
    let config = c.args.store.now.config in
    let asked = c.args.round.now.asked.items in
    let made = c.in_ok-done.ensures.calls in
    let wrote = c.in_ok-write_blocks.ensures.calls in
    let all = subst (λ ks. AreHeard (map Read ks) made.0) c.requires.read made.3.0 in
    let same : c.config.result.now ≡ config = c.config.ensures ∙ c.read_blocks.ensures.config in
    let values : c.in_ok-values.values.entries ≡ values_left config (given_by config made.0) (requests_of asked) =
    c.in_ok-values.ensures.values
    ∙ ap (λ (k : Numbers). values_left k (value_at c.in_ok-done.done.found.entries) (requests_of c.deref.result.now)) same
    ∙ ap (λ (xs : List Asked). values_left config (value_at c.in_ok-done.done.found.entries) (requests_of xs)) c.deref.ensures.value
    ∙ ap (λ es. values_left config (value_at es) (requests_of asked)) made.3.1 in
    any_err _ c.replies.result
    (writes_begun g.D.Disk.pending g.D.Disk.seen g.D.Disk.most g.D.Disk.moment g.D.Disk.left_since config (requests_of asked) (together_of config asked c.requires.asked c.requires.apart)
    made.0 c.args.store.now c.read_blocks.new.store made.1 all wrote.0 c.write_blocks.new.store wrote.1 (subst (λ es. AreAsked (map write_of es) wrote.0) values wrote.2))

pub returns-clause-answered : goal.returns-clause-answered
returns-clause-answered g c =
    let config = c.args.store.now.config in
    let asked = c.args.round.now.asked.items in
    let made = c.in_ok-done.ensures.calls in
    let wrote = c.in_ok-write_blocks.ensures.calls in
    let all = subst (λ ks. AreHeard (map Read ks) made.0) c.requires.read made.3.0 in
    let same : c.config.result.now ≡ config = c.config.ensures ∙ c.read_blocks.ensures.config in
    let values : c.in_ok-values.values.entries ≡ values_left config (given_by config made.0) (requests_of asked) =
    c.in_ok-values.ensures.values
    ∙ ap (λ (k : Numbers). values_left k (value_at c.in_ok-done.done.found.entries) (requests_of c.deref.result.now)) same
    ∙ ap (λ (xs : List Asked). values_left config (value_at c.in_ok-done.done.found.entries) (requests_of xs)) c.deref.ensures.value
    ∙ ap (λ es. values_left config (value_at es) (requests_of asked)) made.3.1 in
    let found = c.write_blocks.new.done.found.entries in
    let written = c.write_blocks.new.done.written.keys in
    let still : c.config-2.result.now ≡ config = c.config-2.ensures ∙ c.write_blocks.ensures.config ∙ c.read_blocks.ensures.config in
    let gone = all_done g.D.Disk.pending g.D.Disk.seen g.D.Disk.most g.D.Disk.moment g.D.Disk.left_since config (requests_of asked) (together_of config asked c.requires.asked c.requires.apart)
    made.0 c.args.store.now c.read_blocks.new.store made.1 all wrote.0 c.write_blocks.new.store wrote.1 in
    IfOk-weaker c.replies.result _ _
    (λ text is. gone text.items (subst (λ es. AreHeard (map write_of es) wrote.0) values wrote.3.0) found written (c.in_ok-write_blocks.ensures.found ∙ made.3.1) (wrote.3.1 ∙ ap (λ ks. written_in ks (told_in wrote.0)) made.3.2)
    (is
    ∙ ap (λ (k : Numbers). replies_of k (value_at found) (is_in written) (requests_of c.deref-2.result.now)) still
    ∙ ap (λ (xs : List Asked). replies_of config (value_at found) (is_in written) (requests_of xs)) c.deref-2.ensures.value))
    c.replies.ensures
