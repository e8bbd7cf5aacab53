use Rattle.std.proofs.Common.{◌≡◌, ◌++◌, length, All, sym, ap, subst, ◌∙◌, arith}
use Rattle.std.proofs.lemmas.Result.{IfOk-weaker}
use Rattle.gf_field.specs.Fragments.{HaveElements, IsDecoded, decoded, string_len, string_at}
use Rattle.gf_field.proofs.lemmas.FragmentLaws.{decoded_exists, decoded-fragments, length-decoded}
use Rattle.cross_sum.specs.Parts.{numbers, strings}
use Rattle.ida_code.specs.Lent.{lent}
use Rattle.ida_code.proofs.Whole.{shape, shape-m, lengths-lent, concat-more, decoded-from}
use Rattle.ida_code.proofs.shape.CodeShape.decode.Goals as goal

pub push_string_at-requires-clause-lengths : goal.push_string_at-requires-clause-lengths
push_string_at-requires-clause-lengths g c =
    let m : c.self.inside.m ≡ c.args.self.now.m = shape-m c.self.inside.n c.self.inside.m c.args.self.now c.self.view_is in
    let len : c.div_ceil-len.result ≡ string_len c.args.self.now.m c.args.size = c.div_ceil-len.ensures ∙ ap (λ m. string_len m c.args.size) m in
    let same : lent c.as_slice.result.now ≡ strings c.args.parts.now = ap lent c.as_slice.ensures.value ∙ c.in_ok-strings.ensures.value in
    lengths-lent c.as_slice.result.now (strings c.args.parts.now) c.div_ceil-len.result same
    (subst (λ n. All (λ s. length s ≡ n) (strings c.args.parts.now)) (sym len) c.requires.lengths)

pub loop-k-preserved : goal.loop-k-preserved
loop-k-preserved g c =
    let same : lent c.as_slice.result.now ≡ strings c.args.parts.now = ap lent c.as_slice.ensures.value ∙ c.in_ok-strings.ensures.value in
    c.in_ok-push_string_at.ensures
    ∙ ap (λ ss. c.loop-k.out.items ++ string_at c.div_ceil-len.result c.in_ok-points.points.numbers.items ss c.loop-k.k) same
    ∙ concat-more c.div_ceil-len.result c.in_ok-points.points.numbers.items (strings c.args.parts.now) c.loop-k.k c.loop-k.out.items c.loop-k.invariant

pub returns-clause-value : goal.returns-clause-value
returns-clause-value g c =
    let m : c.self.inside.m ≡ c.args.self.now.m = shape-m c.self.inside.n c.self.inside.m c.args.self.now c.self.view_is in
    let len : c.div_ceil-len.result ≡ string_len c.args.self.now.m c.args.size = c.div_ceil-len.ensures ∙ ap (λ m. string_len m c.args.size) m in
    IfOk-weaker c.shared.result _ _ (λ d h.
    decoded-from c.args.size c.args.self.now.m c.loop-k.k c.div_ceil-len.result c.in_ok-points.points.numbers.items (strings c.args.parts.now) d c.loop-k.out.items
    (h ∙ c.truncate.ensures.items) c.loop-k.invariant (omega arith) len
    ∙ ap (λ xs. decoded c.args.self.now.m c.args.size xs (strings c.args.parts.now)) (c.in_ok-points.ensures ∙ c.in_ok-numbers_of.ensures)) c.shared.ensures

pub returns-clause-determined : goal.returns-clause-determined
returns-clause-determined g c =
    let is = shape c.self.inside.n c.self.inside.m c.args.self.now c.self.view_is c.self.invariant in
    let elements = subst HaveElements c.in_ok-strings.ensures.value c.in_ok-strings.ensures.elements in
    IfOk-weaker c.shared.result _ _ (λ d h. subst (λ d. IsDecoded c.args.self.now.m c.args.size (numbers c.args.parts.now) (strings c.args.parts.now) d) (sym h)
    (decoded_exists c.args.self.now.n c.args.self.now.m c.args.size (numbers c.args.parts.now) (strings c.args.parts.now) is c.requires elements)) (returns-clause-value g c)

pub returns-clause-inverse : goal.returns-clause-inverse
returns-clause-inverse g c =
    let is = shape c.self.inside.n c.self.inside.m c.args.self.now c.self.view_is c.self.invariant in
    let elements = subst HaveElements c.in_ok-strings.ensures.value c.in_ok-strings.ensures.elements in
    IfOk-weaker c.shared.result _ _ (λ d h. λ D size fragments.
    h
    ∙ decoded-fragments c.args.self.now.n c.args.self.now.m c.args.size (numbers c.args.parts.now) (strings c.args.parts.now) D is elements size c.requires fragments) (returns-clause-value g c)

pub returns-clause-len : goal.returns-clause-len
returns-clause-len g c =
    let is = shape c.self.inside.n c.self.inside.m c.args.self.now c.self.view_is c.self.invariant in
    IfOk-weaker c.shared.result _ _ (λ d h. ap length h ∙ length-decoded c.args.self.now.m c.args.size (numbers c.args.parts.now) (strings c.args.parts.now) is.some) (returns-clause-value g c)
