use Rattle.std.proofs.Common.{ℕ, ◌++◌, subst, sym, ◌∙◌, arith, length-append}
use Rattle.std.specs.Fork.{AcceptsAt, ChangesAt}
use Rattle.thread_spread.proofs.Places.{Each, each_of_parts, of_the_rest}
use Rattle.thread_spread.proofs.spread.+parts.Goals as goal

pub parts_from-part_and_rest-requires-clause-rest : goal.parts_from-part_and_rest-requires-clause-rest
parts_from-part_and_rest-requires-clause-rest g t c κs within = record {
  room = (let room = c.requires.accepts.room in let cut = c.split_at_mut-part.ensures.back_len in omega (arith, room, cut));
  each =
      let cut = c.split_at_mut-part in
      of_the_rest (AcceptsAt g.F.Fn c.args.f.now) c.args.base c.min-len.result c.args.s.now cut.result.0.now cut.result.1.now
      cut.ensures.value cut.ensures.front_len c.requires.accepts.each;
}

pub parts_from-returns : goal.parts_from-returns
parts_from-returns g t c = record {
  len = (
      let all = length-append c.part_and_rest.new.part c.part_and_rest.new.rest in
      let front = c.part_and_rest.ensures.part.len in
      let back = c.part_and_rest.ensures.rest.len in
      let cut = c.split_at_mut-part.ensures in
      let first = cut.front_len in
      let second = cut.back_len in
      omega (arith, all, front, back, first, second));
  each =
      let cut = c.split_at_mut-part in
      let R : ℕ → g.row.T.Denot → g.row.T.Denot → Type 0 = ChangesAt g.F.Fn c.args.f.now in
      let made = each_of_parts R c.args.base c.min-len.result cut.result.0.now cut.result.1.now c.part_and_rest.new.part c.part_and_rest.new.rest
      cut.ensures.front_len (c.part_and_rest.ensures.part.len ∙ cut.ensures.front_len) c.part_and_rest.ensures.part.each c.part_and_rest.ensures.rest.each in
      subst (λ xs. Each R c.args.base xs (c.part_and_rest.new.part ++ c.part_and_rest.new.rest)) (sym cut.ensures.value) made;
}
