use Rattle.cross_sum.specs.Digest.{flat}
use Rattle.std.proofs.Common.{◌≡◌, ◌*◌, ◌+◌, take, length, All, List, ℕ, sym, subst, arith}
use Rattle.message_texts.proofs.lemmas.Spelling.{one_digest_more, all_32_more}
use Rattle.message_texts.proofs.reading.digests.Goals as goal

pub loop-i-preserved : goal.loop-i-preserved
loop-i-preserved c =
    let more = one_digest_more c.args.bytes.now c.loop-i.digests.items c.loop-i.i c.copy_from_slice.new.self (omega arith) c.loop-i.invariant.0 c.copy_from_slice.ensures.after in
    let each = all_32_more c.loop-i.digests.items c.copy_from_slice.new.self c.loop-i.invariant.1 more.1 in (
      subst (λ (ds : List (List ℕ)). flat ds ≡ take (32 * (c.loop-i.i + 1)) c.args.bytes.now) (sym c.in_ok-push.ensures.items) more.0,
      subst (λ (ds : List (List ℕ)). All (λ d. length d ≡ 32) ds) (sym c.in_ok-push.ensures.items) each,
    )
