use Rattle.std.proofs.Common.{◌≡◌, inl, inr, ℕ, ◌<◌, ◌≤◌, true, List, length, get_or, sym, ap, subst, ◌∙◌, arith, IsTrue, eqb, eqb-true}
use Rattle.std.proofs.lemmas.Bool.{cases_lt, cases_Bool, eqb-false}
use Rattle.std.proofs.lemmas.Grind.{common_steps}
use Rattle.slab_layout.specs.Shapes.{answer_at, answers_for, slab_len}
use Rattle.slab_node.specs.Left.{nothing}
use Rattle.slab_node.specs.Changes.{ChangesOnly, AreAllOf, is_among}
use Rattle.slab_node.proofs.lemmas.Batching.{at_end, answer_comes, answer_same_at}
use Rattle.slab_node.proofs.lemmas.Changing.{among_at, changes_torn, answer_is, writes_on}
use Rattle.slab_node.proofs.clearing.put_answers.Goals as goal

default_same : (xs : List ℕ) (i d e : ℕ) → i < length xs → get_or xs i d ≡ get_or xs i e
default_same xs i d e lt = grind (arith, common_steps)

pub write_at-requires-clause-within : goal.write_at-requires-clause-within
write_at-requires-clause-within g c clean =
    let was : IsTrue (g.F.SlabFile.is_clean c.args.file.now) = sym c.loop-block.invariant.clean ∙ clean in
    omega (arith, c.requires.long was, c.loop-block.invariant.bytes.no_shorter, c.answer_at.ensures.within)

pub returns-in_err-write_at-clause-bytes : goal.returns-in_err-write_at-clause-bytes
returns-in_err-write_at-clause-bytes g c =
    let F = g.F.SlabFile in
    let s = c.args.shape in
    let i = c.loop-block.block-index in
    let all = c.args.blocks.now in
    let x : ℕ = get_or all i 0 in
    let old = c.args.file.now in
    let mid = c.loop-block.file in
    let new = c.write_at.new.self in
    let base = F.seen old in
    let inv = c.loop-block.invariant in
    let lt : i < length all = omega (arith, c.loop-block-test.true, c.loop-block.auto.block-index-end) in
    let here : x < s.blocks = c.requires.blocks i 0 lt in
    let loose : is_among all x ≡ true = among_at all i 0 lt in
    let place : c.answer_at.result ≡ answer_at s x = c.answer_at.ensures.place ∙ ap (answer_at s) c.from.ensures in
    let may : AreAllOf s nothing nothing (is_among all) c.answer_at.result 1 = answer_is s nothing nothing (is_among all) x c.answer_at.result here loose place in
    changes_torn s nothing nothing (is_among all) base c.answer_at.result 1 (F.seen mid) (F.seen new) inv.bytes may c.write_at.ensures.others

pub returns-in_err-write_at-clause-any_moment : goal.returns-in_err-write_at-clause-any_moment
returns-in_err-write_at-clause-any_moment g c only =
    let F = g.F.SlabFile in
    let s = c.args.shape in
    let i = c.loop-block.block-index in
    let all = c.args.blocks.now in
    let x : ℕ = get_or all i 0 in
    let old = c.args.file.now in
    let mid = c.loop-block.file in
    let new = c.write_at.new.self in
    let base = F.seen old in
    let inv = c.loop-block.invariant in
    let lt : i < length all = omega (arith, c.loop-block-test.true, c.loop-block.auto.block-index-end) in
    let here : x < s.blocks = c.requires.blocks i 0 lt in
    let loose : is_among all x ≡ true = among_at all i 0 lt in
    let place : c.answer_at.result ≡ answer_at s x = c.answer_at.ensures.place ∙ ap (answer_at s) c.from.ensures in
    let may : AreAllOf s nothing nothing (is_among all) c.answer_at.result 1 = answer_is s nothing nothing (is_among all) x c.answer_at.result here loose place in
    let so_far = inv.time only in
    writes_on s nothing nothing (is_among all) F.moment F.left_since F.may_leave base c.answer_at.result 1 old mid new so_far
    (at_end F.moment F.left_since F.may_leave old mid (ChangesOnly s nothing nothing (is_among all) base) so_far (g.met.F.SlabFile.counts_now mid)) may c.write_at.ensures.crash c.write_at.ensures.time

pub loop-block-preserved : goal.loop-block-preserved
loop-block-preserved g c =
    let F = g.F.SlabFile in
    let s = c.args.shape in
    let i = c.loop-block.block-index in
    let all = c.args.blocks.now in
    let x : ℕ = get_or all i 0 in
    let old = c.args.file.now in
    let mid = c.loop-block.file in
    let new = c.write_at.new.self in
    let base = F.seen old in
    let inv = c.loop-block.invariant in
    let lt : i < length all = omega (arith, c.loop-block-test.true, c.loop-block.auto.block-index-end) in
    let here : x < s.blocks = c.requires.blocks i 0 lt in
    let loose : is_among all x ≡ true = among_at all i 0 lt in
    let place : c.answer_at.result ≡ answer_at s x = c.answer_at.ensures.place ∙ ap (answer_at s) c.from.ensures in
    let may : AreAllOf s nothing nothing (is_among all) c.answer_at.result 1 = answer_is s nothing nothing (is_among all) x c.answer_at.result here loose place in
    record {
      usable = c.write_at.ensures.usable;
      clean = c.write_at.ensures.clean ∙ inv.clean;
      calm = c.in_ok-write_at.ensures.faults ∙ inv.calm;
      longer = omega (arith, inv.longer, c.write_at.ensures.others.no_shorter);
      bytes = changes_torn s nothing nothing (is_among all) base c.answer_at.result 1 (F.seen mid) (F.seen new) inv.bytes may c.write_at.ensures.others;
      told = λ clean j d low.
          let below : j < length all = omega (arith, low, lt) in
          let bound : get_or all j d < s.blocks = c.requires.blocks j d below in
          let was_clean : IsTrue (F.is_clean old) = sym inv.clean ∙ sym c.write_at.ensures.clean ∙ clean in
          let long : slab_len s ≤ length base = c.requires.long was_clean in
          let come : answers_for s (F.seen new) x ≡ c.args.answers = answer_comes s (F.seen new) c.answer_at.result x c.answer_byte-byte.result place (c.in_ok-write_at.ensures.written (omega arith)) ∙ c.answer_byte-byte.ensures in
          elim (cases_Bool (eqb (get_or all j d) x)) [
            | inl same ↦ subst (λ (n : ℕ). answers_for s (F.seen new) n ≡ c.args.answers) (sym (eqb-true _ _ same)) come
            | inr differs ↦ elim (cases_lt j i) [
              | inl earlier ↦
                  answer_same_at s (F.seen mid) (F.seen new) c.answer_at.result x (get_or all j d) place c.write_at.ensures.others
                  (omega (arith, bound, long, inv.bytes.no_shorter)) (eqb-false _ _ differs) ∙ inv.told (sym c.write_at.ensures.clean ∙ clean) j d earlier
              | inr from ↦
                  let is_last : j ≡ i = omega (arith, from, low) in
                  let it : x ≡ get_or all j d = default_same all i 0 d lt ∙ ap (λ (n : ℕ). get_or all n d) (sym is_last) in
                  absurd (eqb-false _ _ differs (sym it))
            ]
          ];
      time = λ only.
          let so_far = inv.time only in
          writes_on s nothing nothing (is_among all) F.moment F.left_since F.may_leave base c.answer_at.result 1 old mid new so_far
          (at_end F.moment F.left_since F.may_leave old mid (ChangesOnly s nothing nothing (is_among all) base) so_far (g.met.F.SlabFile.counts_now mid)) may c.write_at.ensures.crash c.write_at.ensures.time;
    }

pub returns-clause-told : goal.returns-clause-told
returns-clause-told g c clean i d lt =
    let low : i < c.loop-block.block-index = omega (arith, lt, c.loop-block-test.false, c.loop-block.auto.block-index-end) in
    c.loop-block.invariant.told clean i d low
