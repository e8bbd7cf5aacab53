use Rattle.std.proofs.Common.{◌≡◌, ◌∷◌, [], ◌++◌, List, ℕ, ◌∙◌, ap}
use Rattle.std.specs.Int.{w32, w64, to_be_bytes}
use Rattle.slot_disk.proofs.lemmas.Codec.{five_behind}
use Rattle.slot_disk.proofs.piece.write_head.Goals as goal

pub returns : goal.returns
returns c =
    let p = c.args.piece.now.items in
    let kind = c.args.kind ∷ [] in
    let block = to_be_bytes w32 c.args.block in
    let time = to_be_bytes w64 c.args.stamp.now.time in
    let client = to_be_bytes w32 c.args.stamp.now.client in
    let first : c.extend_from_slice.new.self.items ≡ (p ++ kind) ++ block =
    c.in_ok-extend_from_slice.ensures.items ∙ ap (λ (l : List ℕ). l ++ c.to_be_bytes.result) c.in_ok-push.ensures.items ∙ ap (λ (l : List ℕ). (p ++ kind) ++ l) c.to_be_bytes.ensures in
    let second : c.extend_from_slice-2.new.self.items ≡ ((p ++ kind) ++ block) ++ time =
    c.in_ok-extend_from_slice-2.ensures.items ∙ ap (λ (l : List ℕ). l ++ c.to_be_bytes-2.result) first ∙ ap (λ (l : List ℕ). ((p ++ kind) ++ block) ++ l) c.to_be_bytes-2.ensures in
    let third : c.extend_from_slice-3.new.self.items ≡ (((p ++ kind) ++ block) ++ time) ++ client =
    c.in_ok-extend_from_slice-3.ensures.items ∙ ap (λ (l : List ℕ). l ++ c.to_be_bytes-3.result) second ∙ ap (λ (l : List ℕ). (((p ++ kind) ++ block) ++ time) ++ l) c.to_be_bytes-3.ensures in
    c.in_ok-extend_from_slice-4.ensures.items ∙ ap (λ (l : List ℕ). l ++ c.args.stamp.now.verifier) third ∙ five_behind p kind block time client c.args.stamp.now.verifier
