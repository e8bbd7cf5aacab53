use Rattle.std.proofs.Common.{◌≡◌, ◌∙◌, ap, map, arith}
use Rattle.std.specs.List.{range_with_len}
use Rattle.gf_field.specs.Fragments.{row}
use Rattle.ida_code.proofs.Cut.{rows-more, rest-more, first-rows}
use Rattle.ida_code.proofs.rows.rows_of.Goals as goal

pub loop-preserved : goal.loop-preserved
loop-preserved c =
    let k = c.loop.counter in
    let rest = c.loop.rest.now in
    let D = c.args.block.now in
    let invariant = c.loop.invariant in (
      c.in_ok-push.ensures.ok
          ∙ rows-more c.args.m k c.args.len c.min.result D rest c.split_at.result.0.now c.in_ok-padded.field-0 c.loop.rows c.requires.some (omega arith) c.requires.len
          c.min.ensures invariant.1 c.split_at.ensures.front c.in_ok-padded.ensures invariant.0,
      rest-more k c.args.len c.min.result D rest c.split_at.result.1.now c.min.ensures invariant.1 c.split_at.ensures.back,
    )

pub returns : goal.returns
returns c =
    let all : c.loop.counter ≡ c.args.m = omega arith in
    c.loop.invariant.0 ∙ ap (λ n. map (row c.args.m c.args.block.now) (range_with_len 0 n)) all ∙ first-rows c.args.m c.args.block.now
