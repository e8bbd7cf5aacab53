use Rattle.std.proofs.Common.{◌≡◌, false, true, sym, ◌∙◌, ap}
use Rattle.std.specs.Prelude.{length}
use Rattle.std.proofs.lemmas.Bool.{ne_eqb, eq-eqb}
use Rattle.store_words.specs.Words.{texts}
use Rattle.store_words.specs.Causes.{counted, value_of}
use Rattle.store_words.proofs.Spelled.{too_few, seven_texts, behind_seven, texts_length}
use Rattle.store_words.proofs.words.to_create.Goals as goal

pub returns-in_default-clause-cause : goal.returns-in_default-clause-cause
returns-in_default-clause-cause c = too_few c.args.words.now c.in_default.len_below

pub returns-then-folders-n-clause-cause : goal.returns-then-folders-n-clause-cause
returns-then-folders-n-clause-cause c =
    let t = seven_texts c.args.words.now _ _ _ _ _ _ _ c.n-item.is c.t-item.is c.b-item.is c.qc-item.is c.m-item.is c.size-item.is c.blocks-item.is c.in-len7-up.len_at_least in
    let n : c.n.result ≡ value_of c.as_str.result.now = c.n.ensures.is ∙ ap (λ z. z.n) c.in_ok-config.ensures.is in
    let other = ne_eqb (length (texts (behind_seven c.args.words.now))) (value_of c.as_str.result.now)
    (λ same. c.if-folders-n.true (sym (texts_length (behind_seven c.args.words.now)) ∙ same ∙ sym n)) in
    rw (t, ← c.as_str.ensures.value, ← c.as_str-2.ensures.value, ← c.as_str-3.ensures.value, ← c.as_str-4.ensures.value, ← c.as_str-5.ensures.value, ← c.as_str-6.ensures.value, ← c.as_str-7.ensures.value) (c.in_ok-config.ensures.well _ ∙ ap counted other)

pub returns-clause-cause : goal.returns-clause-cause
returns-clause-cause c =
    let t = seven_texts c.args.words.now _ _ _ _ _ _ _ c.n-item.is c.t-item.is c.b-item.is c.qc-item.is c.m-item.is c.size-item.is c.blocks-item.is c.in-len7-up.len_at_least in
    let n : c.n.result ≡ value_of c.as_str.result.now = c.n.ensures.is ∙ ap (λ z. z.n) c.in_ok-config.ensures.is in
    let same = eq-eqb (length (texts (behind_seven c.args.words.now))) (value_of c.as_str.result.now)
    (texts_length (behind_seven c.args.words.now) ∙ c.if-folders-n.false ∙ n) in
    rw (t, ← c.as_str.ensures.value, ← c.as_str-2.ensures.value, ← c.as_str-3.ensures.value, ← c.as_str-4.ensures.value, ← c.as_str-5.ensures.value, ← c.as_str-6.ensures.value, ← c.as_str-7.ensures.value) (c.in_ok-config.ensures.well _ ∙ ap counted same)
