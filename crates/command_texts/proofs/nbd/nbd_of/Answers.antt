use Rattle.std.proofs.Common.{◌≡◌, [], ◌∷◌, get_or, ap, sym, ◌∙◌, arith}
use Rattle.std.specs.Prelude.{codes, string_bytes}
use Rattle.command_texts.specs.Words.{texts}
use Rattle.command_texts.proofs.NbdForms.{eight_texts, is_nbd_word}
use Rattle.command_texts.proofs.nbd.nbd_of.Goals as goal

pub returns-in-len8-clause-some : goal.returns-in-len8-clause-some
returns-in-len8-clause-some c =
    let words = c.args.words.now in
    let parts = eight_texts words c.word-item.result c.n-item.result c.t-item.result c.b-item.result c.qc-item.result c.m-item.result c.size-item.result c.blocks-item.result (let low = c.in-len8.len_at_least in let high = c.in-len8.len_below in omega arith) in
    let name : string_bytes (get_or words 0 c.word-item.result) ≡ codes "nbd" = ap string_bytes (sym c.word-item.is) ∙ sym c.as_str.ensures.value ∙ is_nbd_word c.as_str.result.now c.if-eq.ensures in
    let n : string_bytes (get_or words 1 c.n-item.result) ≡ c.as_str-in-len8.result.now = ap string_bytes (sym c.n-item.is) ∙ sym c.as_str-in-len8.ensures.value in
    let t : string_bytes (get_or words 2 c.t-item.result) ≡ c.as_str-in-len8-2.result.now = ap string_bytes (sym c.t-item.is) ∙ sym c.as_str-in-len8-2.ensures.value in
    let b : string_bytes (get_or words 3 c.b-item.result) ≡ c.as_str-in-len8-3.result.now = ap string_bytes (sym c.b-item.is) ∙ sym c.as_str-in-len8-3.ensures.value in
    let qc : string_bytes (get_or words 4 c.qc-item.result) ≡ c.as_str-in-len8-4.result.now = ap string_bytes (sym c.qc-item.is) ∙ sym c.as_str-in-len8-4.ensures.value in
    let m : string_bytes (get_or words 5 c.m-item.result) ≡ c.as_str-in-len8-5.result.now = ap string_bytes (sym c.m-item.is) ∙ sym c.as_str-in-len8-5.ensures.value in
    let size : string_bytes (get_or words 6 c.size-item.result) ≡ c.as_str-in-len8-6.result.now = ap string_bytes (sym c.size-item.is) ∙ sym c.as_str-in-len8-6.ensures.value in
    let blocks : string_bytes (get_or words 7 c.blocks-item.result) ≡ c.as_str-in-len8-7.result.now = ap string_bytes (sym c.blocks-item.is) ∙ sym c.as_str-in-len8-7.ensures.value in
    let all : texts words ≡ codes "nbd" ∷ c.as_str-in-len8.result.now ∷ c.as_str-in-len8-2.result.now ∷ c.as_str-in-len8-3.result.now ∷ c.as_str-in-len8-4.result.now ∷ c.as_str-in-len8-5.result.now ∷ c.as_str-in-len8-6.result.now ∷ c.as_str-in-len8-7.result.now ∷ [] = cc in
    rw all c.config_of.ensures.some
