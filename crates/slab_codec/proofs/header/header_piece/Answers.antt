use Rattle.std.proofs.Common.{◌≡◌, ◌++◌, ◌∙◌, ap}
use Rattle.std.specs.Int.{w64, to_be_bytes}
use Rattle.sqlite_disk.specs.Digest.{digest}
use Rattle.slab_layout.specs.Headers.{header_front}
use Rattle.slab_codec.proofs.header.header_piece.Goals as goal

pub returns : goal.returns
returns c =
    let h = c.args.header.now in
    let check : c.digest_of-check.result ≡ digest h.key (header_front h.config h.number h.key) =
    c.digest_of-check.ensures.value ∙ ap (digest h.key) (c.deref.ensures.value ∙ c.in_ok-piece.ensures) in
    c.in_ok-put_long.ensures ∙ (λ i. c.in_ok-piece.ensures i ++ to_be_bytes w64 (check i))
