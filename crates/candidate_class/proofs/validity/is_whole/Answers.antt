use Rattle.std.proofs.Common.{◌<◌, ◌||◌, true, false, length, refl, sym, ◌∙◌, ap, ltb}
use Rattle.stamp_order.specs.Stamps.{same_stamp}
use Rattle.protocol.specs.Instance.{setting}
use Rattle.candidate_class.proofs.lemmas.Compared.{whole_by_parts, lengths_tell, same_tells, entry_tells}
use Rattle.candidate_class.proofs.validity.is_whole.Goals as goal

pub returns-then-not-has_verifier : goal.returns-then-not-has_verifier
returns-then-not-has_verifier c =
    let lengths = lengths_tell _ _ _ _ c.has_lengths.result c.has_lengths.ensures ∙ c.if-not-has_lengths.false in
    let verified = same_tells _ _ c.has_verifier.result c.has_verifier.ensures ∙ c.if-not-has_verifier.true in
    sym (whole_by_parts (setting c.args.config.now) c.args.node c.args.version.now true false _ _ lengths verified refl refl)

pub returns-then-has_digest : goal.returns-then-has_digest
returns-then-has_digest c =
    let lengths = lengths_tell _ _ _ _ c.has_lengths.result c.has_lengths.ensures ∙ c.if-not-has_lengths.false in
    let verified = same_tells _ _ c.has_verifier.result c.has_verifier.ensures ∙ c.if-not-has_verifier.false in
    let sums = (c.has_lengths.ensures.0 c.if-not-has_lengths.false).0 in
    let inside : c.args.node < length c.args.version.now.sum = rw sums c.requires.node in
    let digests = same_tells _ _ c.has_digest.result (entry_tells c.args.version.now.sum c.args.node _ c.has_digest.result inside c.has_digest.ensures) ∙ c.if-has_digest.true in
    let time = sym (c.has_time.ensures ∙ ap (λ f. ltb 0 c.args.version.now.stamp.time || same_stamp c.args.version.now.stamp f) c.requires.first) in
    sym (whole_by_parts (setting c.args.config.now) c.args.node c.args.version.now true true true c.has_time.result lengths verified digests time)

pub returns-else-has_digest : goal.returns-else-has_digest
returns-else-has_digest c =
    let lengths = lengths_tell _ _ _ _ c.has_lengths.result c.has_lengths.ensures ∙ c.if-not-has_lengths.false in
    let verified = same_tells _ _ c.has_verifier.result c.has_verifier.ensures ∙ c.if-not-has_verifier.false in
    let sums = (c.has_lengths.ensures.0 c.if-not-has_lengths.false).0 in
    let inside : c.args.node < length c.args.version.now.sum = rw sums c.requires.node in
    let digests = same_tells _ _ c.has_digest.result (entry_tells c.args.version.now.sum c.args.node _ c.has_digest.result inside c.has_digest.ensures) ∙ c.if-has_digest.false in
    c.if-has_digest.false ∙ sym (whole_by_parts (setting c.args.config.now) c.args.node c.args.version.now true true false _ lengths verified digests refl)
