use Rattle.std.proofs.Common.{◌≡◌, ℕ, ◌∙◌, ◌+◌, ◌/◌, ◌<◌, ◌≤◌, Fits, w32, ap, sym, subst, arith}
use Rattle.std.specs.Int.{div_ceil}
use Rattle.quorum_rules.specs.Limits.{Numbers}
use Rattle.quorum_rules.proofs.lemmas.FaultLaws.{blocks_at_most}
use Rattle.nbd_front.specs.declared.request.Request.{Request}
use Rattle.store_front.proofs.Reaching.{end_within, first_before_end, reaches, served}
use Rattle.store_front.proofs.blocks.blocks_of.Goals as goal

end_is : (c : Numbers) (r : Request) (end size len : ℕ) → end ≡ div_ceil (r.offset + len) size → len ≡ r.len → size ≡ c.size → end ≡ div_ceil (r.offset + r.len) c.size
end_is c r end size len is long sized = is ∙ ap (λ n. div_ceil (r.offset + n) size) long ∙ ap (λ n. div_ceil (r.offset + r.len) n) sized

pub overflow_cast-result : goal.overflow_cast-result
overflow_cast-result c =
    let config = c.args.config.now in
    let r = c.args.request.now in
    let size : c.from-size.result ≡ config.size = c.from-size.ensures ∙ c.size.ensures.is in
    let is = served config r (sym c.is_served.ensures ∙ c.if-not-is_served.false) in
    let sized : 0 < config.size = omega (arith, c.size.ensures.valid.size) in
    let few = blocks_at_most config c.size.ensures.valid in
    let before = first_before_end config.size r.offset r.len sized is.some in
    let last = end_within config.size config.blocks (r.offset + r.len) sized is.within in
    subst (λ n. Fits w32 (r.offset / n)) (sym size) (omega (arith, before, last, few))

pub overflow_cast-result-2 : goal.overflow_cast-result-2
overflow_cast-result-2 c =
    let config = c.args.config.now in
    let r = c.args.request.now in
    let size : c.from-size.result ≡ config.size = c.from-size.ensures ∙ c.size.ensures.is in
    let end = end_is config r c.div_ceil.result c.from-size.result c.from.result c.div_ceil.ensures c.from.ensures size in
    let is = served config r (sym c.is_served.ensures ∙ c.if-not-is_served.false) in
    let last = subst (λ n. n ≤ config.blocks) (sym end) (end_within config.size config.blocks (r.offset + r.len) (omega (arith, c.size.ensures.valid.size)) is.within) in
    omega (arith, last, blocks_at_most config c.size.ensures.valid)

pub returns-clause-reached : goal.returns-clause-reached
returns-clause-reached c =
    let config = c.args.config.now in
    let r = c.args.request.now in
    let size : c.from-size.result ≡ config.size = c.from-size.ensures ∙ c.size.ensures.is in
    let end = end_is config r c.div_ceil.result c.from-size.result c.from.result c.div_ceil.ensures c.from.ensures size in
    let is = sym c.is_served.ensures ∙ c.if-not-is_served.false in
    λ k low high.
    reaches config r k is (omega (arith, c.size.ensures.valid.size)) (subst (λ n. r.offset / n ≤ k) size low) (subst (λ n. k < n) end high)

pub returns-clause-within : goal.returns-clause-within
returns-clause-within c =
    let config = c.args.config.now in
    let r = c.args.request.now in
    let size : c.from-size.result ≡ config.size = c.from-size.ensures ∙ c.size.ensures.is in
    let end = end_is config r c.div_ceil.result c.from-size.result c.from.result c.div_ceil.ensures c.from.ensures size in
    let is = served config r (sym c.is_served.ensures ∙ c.if-not-is_served.false) in
    subst (λ n. n ≤ config.blocks) (sym end) (end_within config.size config.blocks (r.offset + r.len) (omega (arith, c.size.ensures.valid.size)) is.within)

pub returns-clause-most : goal.returns-clause-most
returns-clause-most c = omega (arith, returns-clause-within c, blocks_at_most c.args.config.now c.size.ensures.valid)
