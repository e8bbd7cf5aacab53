use Rattle.std.proofs.Common.{◌≡◌, ◌++◌, ◌∙◌, ap}
use Rattle.std.specs.Int.{w64, to_be_bytes}
use Rattle.sqlite_disk.specs.Digest.{digest}
use Rattle.slab_layout.specs.Heads.{covered}
use Rattle.slab_codec.proofs.head.head_piece.Goals as goal

pub returns : goal.returns
returns c =
    let check : c.digest_of-check.result ≡ digest c.args.key (covered c.args.head.now) =
    c.digest_of-check.ensures.value ∙ ap (digest c.args.key) (c.deref.ensures.value ∙ c.in_ok-piece.ensures) in
    c.in_ok-put_long.ensures ∙ (λ i. c.in_ok-piece.ensures i ++ to_be_bytes w64 (check i))
