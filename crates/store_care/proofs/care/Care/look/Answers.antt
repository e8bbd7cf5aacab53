use Rattle.std.proofs.Common.{◌≡◌, ◌-◌, ◌∷◌, [], ℕ, List, length, map, OnOk, Option, None, Some, Vec, Global, refl, sym, ap, subst, ◌∙◌, arith}
use Rattle.std.specs.List.{All, range_with_len}
use Rattle.quorum_rules.specs.Limits.{Numbers}
use Rattle.wire_forms.specs.declared.op.Op.{Op}
use Rattle.protocol.specs.Messages.{Version}
use Rattle.protocol.specs.Operations.{Outcome}
use Rattle.store_device.specs.Stores.{SeenStore}
use Rattle.store_device.specs.Calls.{Call, HasPerformed}
use Rattle.store_care.specs.Given.{reads_from, IsWrittenBack}
use Rattle.store_care.specs.Holdings.{newest_of}
use Rattle.store_care.specs.Looking.{HasCounted}
use Rattle.store_care.specs.Steps.{HasLooked, IsRestored}
use Rattle.store_care.proofs.Reading.{length-reads_from}
use Rattle.store_care.proofs.Looks.{on_err, on_ok, as_many, performed, counted_in_all, did_read, did_restore}
use Rattle.store_care.proofs.care.Care.look.Goals as goal

pub reads_of-requires : goal.reads_of-requires
reads_of-requires g c = omega (arith, c.requires.there, c.blocks-2.ensures.is, c.blocks-2.ensures.most, ap (λ (n : Numbers). n.blocks) c.config.ensures)

pub perform-requires-clause-few : goal.perform-requires-clause-few
perform-requires-clause-few g c κs within =
    omega (arith, c.requires.few, ap (λ (ops : List Op). length ops) (c.deref.ensures.value ∙ c.in_ok-reads.ensures.reads), length-reads_from c.args.first c.args.count)

pub returns-in_err-outcomes-clause-calls : goal.returns-in_err-outcomes-clause-calls
returns-in_err-outcomes-clause-calls g c =
    let D = g.D.Disk in
    let new = c.perform.new.store in
    let ops = c.deref.result.now in
    did_read D.pending D.seen D.most D.moment D.left_since c.args.first c.args.count c.args.store.now new new ops None
    (λ (calls : List (Call _)). OnOk c.from_residual-in_err-outcomes.result (HasCounted c.args.first c.args.count c.args.self.now c.args.self.now c.args.store.now calls))
    (c.deref.ensures.value ∙ c.in_ok-reads.ensures.reads)
    (subst (λ (s : SeenStore _). HasPerformed D.pending D.seen D.most D.moment D.left_since ops None s new) c.newest_of_all.ensures.same c.in_err-outcomes.ensures.err)
    refl (on_err _ c.from_residual-in_err-outcomes.result c.from_residual-in_err-outcomes.ensures.0)

pub look_at_all-requires-clause-few : goal.look_at_all-requires-clause-few
look_at_all-requires-clause-few g c =
    let end = c.min-end.result in
    let many : length c.deref-3.result.now ≡ end - c.args.first =
    as_many (λ (v : Vec (Option Version) Global). v.items) (newest_of c.args.store.now) c.deref-3.result.now c.args.first (end - c.args.first)
    (ap (map (λ (v : Vec (Option Version) Global). v.items)) c.deref-3.ensures.value ∙ c.in_ok-before.ensures.newest) in
    omega (arith, many, c.min-end.ensures, c.requires.there, c.blocks-2.ensures.is, c.blocks-2.ensures.most, ap (λ (n : Numbers). n.blocks) c.config.ensures)

pub look_at_all-requires-clause-there : goal.look_at_all-requires-clause-there
look_at_all-requires-clause-there g c =
    let end = c.min-end.result in
    let many : length c.deref-3.result.now ≡ end - c.args.first =
    as_many (λ (v : Vec (Option Version) Global). v.items) (newest_of c.args.store.now) c.deref-3.result.now c.args.first (end - c.args.first)
    (ap (map (λ (v : Vec (Option Version) Global). v.items)) c.deref-3.ensures.value ∙ c.in_ok-before.ensures.newest) in
    omega (arith, many, c.min-end.ensures, c.requires.there, ap (λ (n : Numbers). n.blocks) c.perform.ensures.config, ap (λ (s : SeenStore _). s.config.blocks) c.newest_of_all.ensures.same)

pub returns-in_err-lacking-clause-calls : goal.returns-in_err-lacking-clause-calls
returns-in_err-lacking-clause-calls g c =
    let D = g.D.Disk in
    let mid = c.perform.new.store in
    let new = c.look_at_all.new.store in
    let ops = c.deref.result.now in
    let outcomes = c.in_ok-outcomes.outcomes.items in
    did_read D.pending D.seen D.most D.moment D.left_since c.args.first c.args.count c.args.store.now mid new ops (Some outcomes)
    (λ (calls : List (Call _)). OnOk c.from_residual-in_err-lacking.result (HasCounted c.args.first c.args.count c.args.self.now c.look_at_all.new.self c.args.store.now calls))
    (c.deref.ensures.value ∙ c.in_ok-reads.ensures.reads)
    (subst (λ (s : SeenStore _). HasPerformed D.pending D.seen D.most D.moment D.left_since ops (Some outcomes) s mid) c.newest_of_all.ensures.same c.in_ok-outcomes.ensures.ok)
    c.look_at_all.ensures.same (on_err _ c.from_residual-in_err-lacking.result c.from_residual-in_err-lacking.ensures.0)

pub returns-clause-calls : goal.returns-clause-calls
returns-clause-calls g c =
    let D = g.D.Disk in
    let first = c.args.first in
    let count = c.args.count in
    let old = c.args.store.now in
    let mid = c.perform.new.store in
    let new = c.restore.new.store in
    let ops = c.deref.result.now in
    let outcomes = c.in_ok-outcomes.outcomes.items in
    let lacking = c.in_ok-lacking.lacking in
    let again = lacking.again.items in
    let start = c.args.self.now in
    let between = c.look_at_all.new.self in
    let then = c.restore.new.self in
    let calls = c.restore.ensures.calls in
    let told = calls.0 in
    let end = c.min-end.result in
    let items = λ (v : Vec (Option Version) Global). v.items in
    let before = c.deref-3.result.now in
    let are : map items before ≡ map (newest_of old) (range_with_len first (end - first)) = ap (map items) c.deref-3.ensures.value ∙ c.in_ok-before.ensures.newest in
    let many : length before ≡ end - first = as_many items (newest_of old) before first (end - first) are in
    let all : length before ≡ count = omega (arith, many, c.min-end.ensures, c.requires.there, c.blocks-2.ensures.is, ap (λ (n : Numbers). n.blocks) c.config.ensures) in
    let config : old.config ≡ mid.config = sym (c.perform.ensures.config ∙ ap (λ (s : SeenStore _). s.config) c.newest_of_all.ensures.same) in
    let same : c.look_at_all.new.store.config.n ≡ old.config.n = ap (λ (s : SeenStore _). s.config.n) c.look_at_all.ensures.same ∙ ap (λ (m : Numbers). m.n) (sym config) in
    let looked : HasLooked old mid first outcomes count start between lacking =
    subst (λ (os : List (Option Outcome)). HasLooked old mid first os count start between lacking) c.deref-2.ensures.value
    (subst (λ (n : ℕ). HasLooked old mid first c.deref-2.result.now n start between lacking) all
    (c.in_ok-lacking.ensures.looked old config (are ∙ ap (λ (n : ℕ). map (newest_of old) (range_with_len first n)) (sym many)))) in
    let back : All (IsWrittenBack (reads_from first count) outcomes) again =
    subst (λ (os : List (Option Outcome)). All (IsWrittenBack (reads_from first count) os) again) c.deref-2.ensures.value
    (subst (λ (n : ℕ). All (IsWrittenBack (reads_from first n) c.deref-2.result.now) again) all c.in_ok-lacking.ensures.lacking.written_back) in
    let More : List (Call _) → Type 0 = λ calls. OnOk c.restore.result (HasCounted first count start then old calls) in
    did_restore D.pending D.seen D.most D.moment D.left_since first count old mid new ops again outcomes told More
    (c.deref.ensures.value ∙ c.in_ok-reads.ensures.reads)
    (subst (λ (s : SeenStore _). HasPerformed D.pending D.seen D.most D.moment D.left_since ops (Some outcomes) s mid) c.newest_of_all.ensures.same c.in_ok-outcomes.ensures.ok)
    (subst (λ (s : SeenStore _). HasPerformed D.pending D.seen D.most D.moment D.left_since again told s new) c.look_at_all.ensures.same calls.1)
    back
    (on_ok c.restore.result
    (λ r. subst (λ (t : Option (List (Option Outcome))). HasCounted first count start then old (performed (reads_from first count) (Some outcomes) mid ∷ performed again t new ∷ [])) (sym r.1)
    (counted_in_all first count outcomes lacking old mid new start between then r.0 looked
    (subst (λ (n : ℕ). IsRestored n new lacking r.0 (length again) between then) same r.2)))
    calls.2)
