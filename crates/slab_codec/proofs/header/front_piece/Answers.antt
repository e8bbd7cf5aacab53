use Rattle.std.proofs.Common.{◌≡◌, List, [], ◌∷◌, ℕ, ◌++◌, ◌∙◌, ap}
use Rattle.std.specs.Int.{w32, w64, to_be_bytes}
use Rattle.quorum_rules.specs.Limits.{edition_number}
use Rattle.slab_layout.specs.Headers.{magic}
use Rattle.slab_codec.proofs.header.front_piece.Goals as goal

pub returns : goal.returns
returns c =
    let h = c.args.header.now in
    let k = h.config in
    let numbers : List ℕ = edition_number k.edition ∷ k.n ∷ k.t ∷ k.b ∷ k.qc ∷ k.m ∷ h.number ∷ 0 ∷ [] in
    let size = to_be_bytes w32 k.size in
    let blocks = to_be_bytes w32 k.blocks in
    let one : c.put_bytes.new.piece.items ≡ magic = c.in_ok-put_bytes.ensures ∙ ap (λ (l : List ℕ). l ++ magic) c.in_ok-piece.ensures.items in
    let two : c.put_bytes-2.new.piece.items ≡ magic ++ numbers =
    c.in_ok-put_bytes-2.ensures ∙ ap (λ (l : List ℕ). l ++ c.numbers_of.result) one ∙ ap (λ (l : List ℕ). magic ++ l) c.numbers_of.ensures in
    let three : c.put_word.new.piece.items ≡ magic ++ numbers ++ size =
    c.in_ok-put_word.ensures ∙ ap (λ (l : List ℕ). l ++ to_be_bytes w32 c.size.result) two ∙ ap (λ (n : ℕ). magic ++ numbers ++ to_be_bytes w32 n) c.size.ensures.is in
    let four : c.put_word-2.new.piece.items ≡ magic ++ numbers ++ size ++ blocks =
    c.in_ok-put_word-2.ensures ∙ ap (λ (l : List ℕ). l ++ to_be_bytes w32 c.blocks-2.result) three ∙ ap (λ (n : ℕ). magic ++ numbers ++ size ++ to_be_bytes w32 n) c.blocks-2.ensures.is in
    c.in_ok-put_long.ensures ∙ ap (λ (l : List ℕ). l ++ to_be_bytes w64 h.key) four
