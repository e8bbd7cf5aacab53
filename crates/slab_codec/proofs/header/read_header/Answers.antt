use Rattle.std.proofs.Common.{◌≡◌, ℕ, sym, ◌∙◌, subst}
use Rattle.std.proofs.lemmas.Bool.{false≢true}
use Rattle.quorum_rules.specs.Limits.{Numbers}
use Rattle.slab_layout.specs.Headers.{IsHeader}
use Rattle.slab_codec.proofs.header.read_header.Goals as goal

pub returns-clause-none : goal.returns-clause-none
returns-clause-none c k number key is =
    let h = c.in-Some.header in
    let bytes = c.args.bytes.now in
    let told = c.in-Some.ensures.some k number key is in
    let its : IsHeader h.config h.number h.key bytes =
    subst (λ (x : Numbers). IsHeader x h.number h.key bytes) (sym told.0)
    (subst (λ (n : ℕ). IsHeader k n h.key bytes) (sym told.1) (subst (λ (x : ℕ). IsHeader k number x bytes) (sym told.2) is)) in
    false≢true (sym c.if-branch.false ∙ c.in_ok-is_header.ensures.not its)
