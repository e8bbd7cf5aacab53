use Rattle.std.proofs.Common.{◌≡◌, ℕ, ◌+◌, ◌*◌, List, ◌++◌, replicate, ◌∙◌, ap}
use Rattle.std.proofs.lemmas.List.{length-replicate}
use Rattle.quorum_rules.specs.Limits.{share_of}
use Rattle.slot_disk.specs.Slots.{head_of}
use Rattle.slot_disk.proofs.lemmas.Codec.{zeros_apart, zero_digests}
use Rattle.slot_disk.proofs.piece.prune_piece.Goals as goal

pub returns-clause-piece : goal.returns-clause-piece
returns-clause-piece c =
    let config = c.args.config.now in
    let head = head_of 1 c.args.block c.args.stamp.now in
    let zeros : c.deref.result.now ≡ replicate (32 * config.n + share_of config + 1) 0 =
    c.deref.ensures.value ∙ c.in_ok-zeros.ensures.items_if_clones_equal (λ y same. same) ∙ (λ i. replicate (32 * c.n.ensures.is i + c.share.ensures.is i + 1) 0) in
    c.in_ok-extend_from_slice.ensures.items
    ∙ ap (λ (l : List ℕ). l ++ c.deref.result.now) (c.in_ok-write_head.ensures ∙ ap (λ (l : List ℕ). l ++ head) c.in_ok-piece.ensures.items)
    ∙ ap (λ (l : List ℕ). head ++ l) zeros
    ∙ zeros_apart config.n (share_of config) head

pub returns-clause-fits : goal.returns-clause-fits
returns-clause-fits c =
    let config = c.args.config.now in
    record {
      block = c.ranges.block.fits;
      time = c.stamp_ranges.ensures.time;
      client = c.stamp_ranges.ensures.client;
      verifier = c.stamp_ranges.ensures.verifier;
      count = length-replicate config.n _;
      digests = zero_digests config.n;
      share = length-replicate (share_of config) 0;
    }
