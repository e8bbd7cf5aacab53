use Rattle.std.proofs.Common.{◌≡◌, ◌∙◌, ◌-◌, ◌*◌, ◌++◌, ◌∷◌, [], OnOk, length, slice_range, ap, subst, sym}
use Rattle.std.proofs.lemmas.List.{append_assoc}
use Rattle.block_device.specs.declared.pieces.Piece.{Piece}
use Rattle.block_device.specs.declared.steps.BlockStep.TheVariants.{Read, Whole, Merge}
use Rattle.block_device.specs.Pieces.{piece_in}
use Rattle.block_device.specs.Ranges.{bytes_in}
use Rattle.block_device.proofs.Cut.{piece_bytes, put_by_whole, put_by_part}
use Rattle.block_device.proofs.cutting.add_put_steps.Goals as goal

pub returns-then-is_whole : goal.returns-then-is_whole
returns-then-is_whole c =
    let config = c.args.config.now in
    let start = c.args.start in
    let bytes = c.args.bytes.now in
    let k = c.args.block in
    let is : c.piece_of-piece.result ≡ piece_in config.size start (length bytes) k = cc in
    let whole = c.is_whole.ensures.0 c.if-is_whole.true in
    let held : c.in_ok-part.part ≡ bytes_in config.size start bytes k =
    c.in_ok-part.ensures
    ∙ ap (λ z. slice_range z c.piece_of-piece.result.from c.piece_of-piece.result.to) c.as_slice.ensures.value
    ∙ ap (λ (p : Piece). slice_range bytes p.from p.to) is
    ∙ piece_bytes config start bytes k c.requires in
    let steps = ap (λ z. Whole k z ∷ []) held ∙ sym (put_by_whole config start bytes k c.requires (sym (ap (λ (p : Piece). p.at) is) ∙ whole.0) (sym (ap (λ (p : Piece). p.end) is) ∙ whole.1 ∙ c.size.ensures.is)) in
    subst (λ z. OnOk c.push.result (c.push.new.self ≡ c.args.steps.now ++ z)) steps c.push.ensures.ok

pub returns : goal.returns
returns c =
    let config = c.args.config.now in
    let start = c.args.start in
    let bytes = c.args.bytes.now in
    let k = c.args.block in
    let is : c.piece_of-piece.result ≡ piece_in config.size start (length bytes) k = cc in
    let held : c.in_ok-part.part ≡ bytes_in config.size start bytes k =
    c.in_ok-part.ensures
    ∙ ap (λ z. slice_range z c.piece_of-piece.result.from c.piece_of-piece.result.to) c.as_slice.ensures.value
    ∙ ap (λ (p : Piece). slice_range bytes p.from p.to) is
    ∙ piece_bytes config start bytes k c.requires in
    let at : c.piece_of-piece.result.at ≡ start - k * config.size = ap (λ (p : Piece). p.at) is in
    let apart = put_by_part config start bytes k c.requires
    (λ w. let all = c.is_whole.ensures.1 (ap (λ (p : Piece). p.at) is ∙ w.0, ap (λ (p : Piece). p.end) is ∙ w.1 ∙ sym c.size.ensures.is) in let none = c.if-is_whole.false in cc) in
    let steps =
    ap (λ z. Read k ∷ Merge k c.piece_of-piece.result.at z ∷ []) held
    ∙ ap (λ z. Read k ∷ Merge k z (bytes_in config.size start bytes k) ∷ []) at
    ∙ sym apart in
    let two = append_assoc c.args.steps.now (Read k ∷ []) (Merge k c.piece_of-piece.result.at c.in_ok-part.part ∷ []) in
    subst (λ z. OnOk c.push-3.result (c.push-3.new.self ≡ z))
    (ap (λ z. z ++ Merge k c.piece_of-piece.result.at c.in_ok-part.part ∷ []) c.in_ok-push.ensures.ok ∙ two ∙ ap (λ z. c.args.steps.now ++ z) steps)
    c.push-3.ensures.ok
