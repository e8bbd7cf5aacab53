use Rattle.std.proofs.Common.{◌≡◌, ◌≤◌, ◌<◌, List, length, Some, sym, ◌∙◌, ap, subst, arith}
use Rattle.std.specs.List.{slice_get}
use Rattle.std.specs.Option.{option_map}
use Rattle.std.proofs.lemmas.Bool.Decides.{nat_tests}
use Rattle.std.proofs.lemmas.Option.{slice_get_past, slice_get-get_or}
use Rattle.stamp_order.specs.declared.Stamp.{Stamp}
use Rattle.node_core.specs.Index.{version_of}
use Rattle.node_core.proofs.Finding.{none_there, content_there}
use Rattle.node_core.proofs.kept.Kept.get.Goals as goal

pub returns-in_err-stamp : goal.returns-in_err-stamp
returns-in_err-stamp c =
    let order = c.self.inside.order.items in
    let told = c.in_err-stamp.ensures.lookup.0 in
    let far_off : length c.deref.result.now ≤ c.args.k = grind (arith, nat_tests, told) in
    let far : length order ≤ c.args.k = subst (λ (l : List Stamp). length l ≤ c.args.k) c.deref.ensures.value far_off in
    rw (c.from_residual.ensures, ← c.self.view_is) (none_there order c.self.inside.by_stamp c.self.invariant c.args.k (slice_get_past order c.args.k far))

pub returns-in_err-content : goal.returns-in_err-content
returns-in_err-content c =
    let order = c.self.inside.order.items in
    let stamp = c.in_ok-stamp.stamp.now in
    let told = c.in_ok-stamp.ensures.lookup.0 in
    let below : c.args.k < length c.deref.result.now = grind (arith, nat_tests, told) in
    let stamp_is : slice_get c.deref.result.now c.args.k ≡ Some stamp = slice_get-get_or c.deref.result.now c.args.k stamp below ∙ ap Some (sym c.in_ok-stamp.ensures.lookup.1) in
    let here = subst (λ (l : List Stamp). slice_get l c.args.k ≡ Some stamp) c.deref.ensures.value stamp_is in
    rw (c.from_residual-in_err-content.ensures, ← c.self.view_is)
    (ap (option_map (version_of stamp)) c.in_err-content.ensures.value ∙ content_there order c.self.inside.by_stamp c.self.invariant c.args.k stamp here)

pub returns : goal.returns
returns c =
    let order = c.self.inside.order.items in
    let stamp = c.in_ok-stamp.stamp.now in
    let told = c.in_ok-stamp.ensures.lookup.0 in
    let below : c.args.k < length c.deref.result.now = grind (arith, nat_tests, told) in
    let stamp_is : slice_get c.deref.result.now c.args.k ≡ Some stamp = slice_get-get_or c.deref.result.now c.args.k stamp below ∙ ap Some (sym c.in_ok-stamp.ensures.lookup.1) in
    let here = subst (λ (l : List Stamp). slice_get l c.args.k ≡ Some stamp) c.deref.ensures.value stamp_is in
    rw (← c.self.view_is)
    (ap (option_map (version_of stamp)) c.in_ok-content.ensures.value ∙ content_there order c.self.inside.by_stamp c.self.invariant c.args.k stamp here)
