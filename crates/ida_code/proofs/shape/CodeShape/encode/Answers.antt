use Rattle.std.proofs.Common.{◌≡◌, ◌++◌, length, take, map, All, sym, ap, subst, ◌∙◌, arith}
use Rattle.std.specs.List.{range_with_len}
use Rattle.std.proofs.lemmas.List.{map-id}
use Rattle.std.proofs.lemmas.List.FromFn.{length-range_with_len}
use Rattle.gf_field.specs.Polynomials.{AreDistinct}
use Rattle.gf_field.specs.Fragments.{HaveElements, IsFragments, string_len, string_at, rows_of, fragments_of}
use Rattle.gf_field.proofs.lemmas.FragmentLaws.{fragments_exist, range_distinct, length-rows_of}
use Rattle.ida_code.proofs.Whole.{shape, shape-n, shape-m, rows_elements, rows_lengths, rows_of-strings, rows_taken, strings-more, fragments_of-from}
use Rattle.ida_code.proofs.shape.CodeShape.encode.Goals as goal

pub of-requires : goal.of-requires
of-requires g c = subst AreDistinct (sym c.in_ok-first_numbers.ensures) (range_distinct c.self.inside.m)

pub loop-i-init : goal.loop-i-init
loop-i-init g c =
    let m = c.self.inside.m in
    let D = c.args.block.now in
    let len : c.div_ceil-len.result ≡ string_len m (length D) = c.div_ceil-len.ensures ∙ ap (λ z. string_len m z) c.len.ensures in
    c.in_ok-shares.ensures ∙ ap (λ b. rows_of m b) c.as_slice.ensures.value
    ∙ rows_of-strings c.self.inside.n m c.div_ceil-len.result D c.self.invariant c.as_slice.ensures.bytes len

pub slice_bounds-rows-end : goal.slice_bounds-rows-end
slice_bounds-rows-end g c =
    let m = c.self.inside.m in
    let D = c.args.block.now in
    let len = c.div_ceil-len.ensures ∙ ap (λ z. string_len m z) c.len.ensures in
    let taken : take m c.as_slice-in-loop-i.result.now ≡ rows_of m D =
    ap (take m) c.as_slice-in-loop-i.ensures
    ∙ rows_taken c.self.inside.n m c.div_ceil-len.result c.loop-i.i D c.loop-i.shares c.self.invariant c.as_slice.ensures.bytes len c.loop-i.auto.i c.loop-i.invariant in
    sym (ap length taken ∙ length-rows_of m D)

pub push_string_at-requires-clause-count : goal.push_string_at-requires-clause-count
push_string_at-requires-clause-count g c =
    let m = c.self.inside.m in
    let D = c.args.block.now in
    let len = c.div_ceil-len.ensures ∙ ap (λ z. string_len m z) c.len.ensures in
    let taken : take m c.as_slice-in-loop-i.result.now ≡ rows_of m D =
    ap (take m) c.as_slice-in-loop-i.ensures
    ∙ rows_taken c.self.inside.n m c.div_ceil-len.result c.loop-i.i D c.loop-i.shares c.self.invariant c.as_slice.ensures.bytes len c.loop-i.auto.i c.loop-i.invariant in
    ap length (c.in_ok-points.ensures ∙ c.in_ok-first_numbers.ensures) ∙ length-range_with_len 0 m ∙ sym (ap length taken ∙ length-rows_of m D)

pub push_string_at-requires-clause-lengths : goal.push_string_at-requires-clause-lengths
push_string_at-requires-clause-lengths g c =
    let m = c.self.inside.m in
    let D = c.args.block.now in
    let len = c.div_ceil-len.ensures ∙ ap (λ z. string_len m z) c.len.ensures in
    let taken : take m c.as_slice-in-loop-i.result.now ≡ rows_of m D =
    ap (take m) c.as_slice-in-loop-i.ensures
    ∙ rows_taken c.self.inside.n m c.div_ceil-len.result c.loop-i.i D c.loop-i.shares c.self.invariant c.as_slice.ensures.bytes len c.loop-i.auto.i c.loop-i.invariant in
    subst (λ ss. All (λ s. length s ≡ c.div_ceil-len.result) ss) (sym taken) (rows_lengths m c.div_ceil-len.result D c.self.invariant.some len)

pub push_string_at-requires-clause-elements : goal.push_string_at-requires-clause-elements
push_string_at-requires-clause-elements g c =
    let m = c.self.inside.m in
    let D = c.args.block.now in
    let len = c.div_ceil-len.ensures ∙ ap (λ z. string_len m z) c.len.ensures in
    let taken : take m c.as_slice-in-loop-i.result.now ≡ rows_of m D =
    ap (take m) c.as_slice-in-loop-i.ensures
    ∙ rows_taken c.self.inside.n m c.div_ceil-len.result c.loop-i.i D c.loop-i.shares c.self.invariant c.as_slice.ensures.bytes len c.loop-i.auto.i c.loop-i.invariant in
    subst HaveElements (sym (map-id (take m c.as_slice-in-loop-i.result.now) ∙ taken)) (rows_elements m D c.self.invariant.some c.as_slice.ensures.bytes)

pub loop-i-preserved : goal.loop-i-preserved
loop-i-preserved g c =
    let m = c.self.inside.m in
    let D = c.args.block.now in
    let len = c.div_ceil-len.ensures ∙ ap (λ z. string_len m z) c.len.ensures in
    let taken : take m c.as_slice-in-loop-i.result.now ≡ rows_of m D =
    ap (take m) c.as_slice-in-loop-i.ensures
    ∙ rows_taken c.self.inside.n m c.div_ceil-len.result c.loop-i.i D c.loop-i.shares c.self.invariant c.as_slice.ensures.bytes len c.loop-i.auto.i c.loop-i.invariant in
    let strings = map-id (take m c.as_slice-in-loop-i.result.now) ∙ taken in
    let L = c.div_ceil-len.result in
    let share : c.in_ok-shared.field-0 ≡ string_at L (range_with_len 0 m) (rows_of m D) c.loop-i.i =
    c.in_ok-shared.ensures ∙ c.in_ok-push_string_at.ensures
    ∙ ap (λ o. o ++ string_at L c.in_ok-points.points.numbers.items (map (λ b. b) (take m c.as_slice-in-loop-i.result.now)) c.loop-i.i) c.in_ok-share.ensures.items
    ∙ ap (λ xs. string_at L xs (map (λ b. b) (take m c.as_slice-in-loop-i.result.now)) c.loop-i.i) (c.in_ok-points.ensures ∙ c.in_ok-first_numbers.ensures)
    ∙ ap (λ ss. string_at L (range_with_len 0 m) ss c.loop-i.i) strings in
    c.in_ok-push.ensures.ok
    ∙ strings-more L (range_with_len 0 m) (rows_of m D) c.loop-i.i c.in_ok-shared.field-0 c.loop-i.shares c.loop-i.invariant share

pub returns-clause-value : goal.returns-clause-value
returns-clause-value g c =
    let n : c.self.inside.n ≡ c.args.self.now.n = shape-n c.self.inside.n c.self.inside.m c.args.self.now c.self.view_is in
    let m : c.self.inside.m ≡ c.args.self.now.m = shape-m c.self.inside.n c.self.inside.m c.args.self.now c.self.view_is in
    let bound = c.loop-i.auto.i-end c.self.invariant.enough in
    fragments_of-from c.args.self.now.n c.self.inside.m c.loop-i.i c.div_ceil-len.result c.args.block.now c.loop-i.shares
    c.loop-i.invariant (omega arith) (c.div_ceil-len.ensures ∙ ap (λ z. string_len c.self.inside.m z) c.len.ensures)
    ∙ ap (λ m. fragments_of c.args.self.now.n m c.args.block.now) m

pub returns-clause-fragments : goal.returns-clause-fragments
returns-clause-fragments g c =
    let is = shape c.self.inside.n c.self.inside.m c.args.self.now c.self.view_is c.self.invariant in
    subst (λ s. IsFragments c.args.self.now.n c.args.self.now.m c.args.block.now s) (sym (returns-clause-value g c))
    (fragments_exist c.args.self.now.n c.args.self.now.m c.args.block.now is c.as_slice.ensures.bytes)
