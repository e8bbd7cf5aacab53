use Rattle.std.proofs.Common.{◌≡◌, ℕ, List, ◌++◌, ◌+◌, map, take, drop, sym, ap, ◌∙◌, arith, length-drop}
use Rattle.std.proofs.Math.Seq.{take-add}
use Rattle.std.proofs.lemmas.List.{map-append, take_all}
use Rattle.cross_sum.specs.Digest.{digest}
use Rattle.cross_sum.proofs.digests.digests_of.Goals as goal

-- the digests of the strings before a group, and of the group
joined : (n k : ℕ) (strings rest before group after : List (List ℕ)) → rest ≡ drop n strings → before ≡ map digest (take n strings) → group ≡ map digest (take k rest)
    → after ≡ before ++ group → after ≡ map digest (take (n + k) strings)
joined n k strings rest before group after er eb eg ea =
    ea ∙ ap (λ l. l ++ group) eb ∙ ap (λ l. map digest (take n strings) ++ l) (eg ∙ ap (λ l. map digest (take k l)) er)
    ∙ sym (ap (map digest) (take-add n k strings) ∙ map-append digest (take n strings) (take k (drop n strings)))

pub groups-preserved : goal.groups-preserved
groups-preserved c = (
  let w = c.equal_neighbours-count.ensures.within in let t = c.groups-test.true in omega arith,
  joined c.groups.done c.equal_neighbours-count.result c.args.strings.now _ _ _ _ (take_all _ _ (omega (arith, length-drop c.groups.done c.args.strings.now))) c.groups.invariant.1 c.first_digests-group.ensures.digests
      c.in_ok-extend_from_slice.ensures.items,
)
