-- Lemmas of `Closing`.
use Rattle.std.proofs.Common.{◌≡◌, ◌+◌, ◌<◌, ◌∷◌, [], length, length-append, length-set, ap, sym, subst, ◌∙◌, refl, arith, rules}
use Rattle.std.specs.declared.option.Option.TheVariants.{Some}
use Rattle.std.specs.Prelude.{slice_get, slice_set}
use Rattle.std.proofs.lemmas.Option.{slice_get_read}
use Rattle.phase_threads.proofs.Closing.{HaveGiven, given_more, whole_more, has_chit, all_given}
use Rattle.phase_threads.proofs.close.last_chits.Goals as goal

pub loop-i-init : goal.loop-i-init
loop-i-init c = (refl, ap length c.new-chits.ensures, (λ k was now x lt a b d. absurd (omega arith)), (λ k was le at. at))

pub unreachable-requires : goal.unreachable-requires
unreachable-requires c =
    let inv = c.loop-i.invariant in
    let portions = c.loop-i.portions.items in
    let portion = c.index_mut-portion.result.now in
    let n : c.len-i-end.result ≡ length c.args.portions.now.items = search rules in
    let within : c.loop-i.i < length portions = omega (arith, n, inv.0) in
    let at : slice_get portions c.loop-i.i ≡ Some portion = slice_get_read portions (length portions) c.loop-i.i portion refl within c.index_mut-portion.ensures.value in
    let some = has_chit c.args.portions.now.items portions c.loop-i.i portion c.requires inv.3 at in
    let none = ap length c.in_default.ensures.none in
    omega (arith, some, none)

pub loop-i-preserved : goal.loop-i-preserved
loop-i-preserved c =
    let inv = c.loop-i.invariant in
    let old = c.args.portions.now.items in
    let portions = c.loop-i.portions.items in
    let portion = c.index_mut-portion.result.now in
    let now = c.pop.new.self in
    let chit = c.in-Some.chit in
    let n : c.len-i-end.result ≡ length old = search rules in
    let within : c.loop-i.i < length portions = omega (arith, n, inv.0) in
    let at : slice_get portions c.loop-i.i ≡ Some portion = slice_get_read portions (length portions) c.loop-i.i portion refl within c.index_mut-portion.ensures.value in
    let popped = c.in-Some.ensures.items in
    let pushed = c.in_ok-push.ensures.ok in
    let few = ap length pushed in (
      length-set portions c.loop-i.i now ∙ inv.0,
      omega (arith, few, inv.1, length-append c.loop-i.chits (chit ∷ [])),
      subst (HaveGiven (c.loop-i.i + 1) old (slice_set portions c.loop-i.i now)) (sym pushed) (given_more old portions c.loop-i.chits c.loop-i.i portion now chit inv.2 inv.3 inv.1 at popped),
      whole_more old portions c.loop-i.chits c.loop-i.i portion now chit inv.2 inv.3 inv.1 at popped,
    )

pub returns : goal.returns
returns c =
    let inv = c.loop-i.invariant in
    let n : c.len-i-end.result ≡ length c.args.portions.now.items = search rules in
    let stops = c.loop-i-test.false in
    let far = c.loop-i.auto in
    let all : c.loop-i.i ≡ length c.args.portions.now.items = omega (arith, n, stops, far) in
    all_given c.args.portions.now.items c.loop-i.portions.items c.loop-i.chits c.loop-i.i inv.0 inv.1 all inv.2
