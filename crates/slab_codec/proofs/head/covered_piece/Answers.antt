use Rattle.std.proofs.Common.{◌≡◌, List, ℕ, ◌++◌, ◌∙◌, ap}
use Rattle.std.specs.Int.{w32, w64, to_be_bytes}
use Rattle.slab_codec.proofs.head.covered_piece.Goals as goal

pub returns : goal.returns
returns c =
    let h = c.args.head.now in
    let block = to_be_bytes w32 h.block in
    let time = to_be_bytes w64 h.stamp.time in
    let client = to_be_bytes w32 h.stamp.client in
    let number = to_be_bytes w64 h.number in
    let one : c.put_word.new.piece.items ≡ block = c.in_ok-put_word.ensures ∙ ap (λ (l : List ℕ). l ++ block) c.in_ok-piece.ensures.items in
    let two : c.put_long.new.piece.items ≡ block ++ time = c.in_ok-put_long.ensures ∙ ap (λ (l : List ℕ). l ++ time) one in
    let three : c.put_word-2.new.piece.items ≡ block ++ time ++ client = c.in_ok-put_word-2.ensures ∙ ap (λ (l : List ℕ). l ++ client) two in
    let four : c.put_bytes.new.piece.items ≡ block ++ time ++ client ++ h.stamp.verifier = c.in_ok-put_bytes.ensures ∙ ap (λ (l : List ℕ). l ++ h.stamp.verifier) three in
    let five : c.put_long-2.new.piece.items ≡ block ++ time ++ client ++ h.stamp.verifier ++ number = c.in_ok-put_long-2.ensures ∙ ap (λ (l : List ℕ). l ++ number) four in
    c.in_ok-put_long-3.ensures ∙ ap (λ (l : List ℕ). l ++ to_be_bytes w64 h.data_check) five
