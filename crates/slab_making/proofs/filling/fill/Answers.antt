use Rattle.std.proofs.Common.{◌≡◌, ℕ, ◌+◌, ◌*◌, ◌<◌, ◌≤◌, List, length, take, get_or, refl, sym, ◌∙◌, ap, arith, IsTrue, length-take}
use Rattle.std.specs.Int.{div_ceil}
use Rattle.std.proofs.lemmas.Grind.{div_ceil_times}
use Rattle.std.proofs.lemmas.List.{length-replicate, get_or-replicate, get_or-take}
use Rattle.sqlite_disk.specs.Disk.{Torn}
use Rattle.slab_file.proofs.lemmas.Moments.{leaves_both}
use Rattle.slab_making.specs.Made.{BeginsWithZero}
use Rattle.slab_making.proofs.Writes.{torn_within, torn_itself, begins, at_end, fill_more}
use Rattle.slab_making.proofs.filling.fill.Goals as goal

below_count : (count i end : ℕ) → end ≡ div_ceil count 65536 → i < end → i * 65536 ≤ count
below_count count i end is lt = (let t = div_ceil_times count 65536 (omega arith) in let e : end * 65536 ≡ div_ceil count 65536 * 65536 = ap (λ (n : ℕ). n * 65536) is in omega (arith, lt, e, t.1))

above_count : (count i end : ℕ) → end ≡ div_ceil count 65536 → end ≤ i → count ≤ i * 65536
above_count count i end is le = (let t = div_ceil_times count 65536 (omega arith) in let e : end * 65536 ≡ div_ceil count 65536 * 65536 = ap (λ (n : ℕ). n * 65536) is in omega (arith, le, e, t.0))

pub loop-i-init : goal.loop-i-init
loop-i-init g c =
    let F = g.F.SlabFile in
    let old = c.args.file.now in
    record {
      usable = c.requires.usable;
      clean = refl;
      piece = c.in_ok-piece.ensures;
      torn = torn_itself c.args.at c.args.count (F.seen old);
      filled = λ clean k from low high. absurd (omega (arith, from, low));
      time = λ each. begins F.moment F.left_since F.may_leave old BeginsWithZero (g.met.F.SlabFile.only_now old) each;
    }

pub put_part-requires-clause-within : goal.put_part-requires-clause-within
put_part-requires-clause-within g c clean =
    let F = g.F.SlabFile in
    let old = c.args.file.now in
    let mid = c.loop-i.file in
    let i = c.loop-i.i in
    let at = c.args.at in
    let count = c.args.count in
    let len = c.min-len.result in
    let piece = c.deref.result.now in
    let inv = c.loop-i.invariant in
    let low : i * 65536 ≤ count = below_count count i c.div_ceil-i-end.result c.div_ceil-i-end.ensures (omega (arith, c.loop-i-test.true, c.loop-i.auto.i-end)) in
    let whole : length piece ≡ 65536 = ap length (c.deref.ensures.value ∙ inv.piece) ∙ length-replicate 65536 c.args.byte in
    let small : len ≤ 65536 = omega (arith, c.min-len.ensures) in
    let long : length (take len piece) ≡ len = omega (arith, length-take len piece, whole, small) in
    let fits : i * 65536 + len ≤ count = omega (arith, low, c.min-len.ensures) in
    omega (arith, long, fits, inv.torn.no_shorter, c.requires.within (sym inv.clean ∙ clean))

pub returns-in_err-put_part-clause-others : goal.returns-in_err-put_part-clause-others
returns-in_err-put_part-clause-others g c =
    let F = g.F.SlabFile in
    let old = c.args.file.now in
    let mid = c.loop-i.file in
    let i = c.loop-i.i in
    let at = c.args.at in
    let count = c.args.count in
    let len = c.min-len.result in
    let piece = c.deref.result.now in
    let inv = c.loop-i.invariant in
    let low : i * 65536 ≤ count = below_count count i c.div_ceil-i-end.result c.div_ceil-i-end.ensures (omega (arith, c.loop-i-test.true, c.loop-i.auto.i-end)) in
    let whole : length piece ≡ 65536 = ap length (c.deref.ensures.value ∙ inv.piece) ∙ length-replicate 65536 c.args.byte in
    let small : len ≤ 65536 = omega (arith, c.min-len.ensures) in
    let long : length (take len piece) ≡ len = omega (arith, length-take len piece, whole, small) in
    let fits : i * 65536 + len ≤ count = omega (arith, low, c.min-len.ensures) in
    torn_within at count (at + i * 65536) (length (take len piece)) (F.seen old) (F.seen mid) (F.seen c.put_part.new.file) inv.torn (omega arith) (omega (arith, long, fits)) c.put_part.ensures.others

pub returns-in_err-put_part-clause-clean : goal.returns-in_err-put_part-clause-clean
returns-in_err-put_part-clause-clean g c = c.put_part.ensures.clean ∙ c.loop-i.invariant.clean

pub returns-in_err-put_part-clause-any_moment : goal.returns-in_err-put_part-clause-any_moment
returns-in_err-put_part-clause-any_moment g c each =
    let F = g.F.SlabFile in
    let old = c.args.file.now in
    let mid = c.loop-i.file in
    let so_far = c.loop-i.invariant.time each in
    leaves_both F.moment F.left_since F.may_leave old mid c.put_part.new.file BeginsWithZero so_far
    (c.put_part.ensures.any_moment (at_end F.moment F.left_since F.may_leave old mid BeginsWithZero so_far (g.met.F.SlabFile.counts_now mid)))

pub loop-i-preserved : goal.loop-i-preserved
loop-i-preserved g c =
    let F = g.F.SlabFile in
    let old = c.args.file.now in
    let mid = c.loop-i.file in
    let i = c.loop-i.i in
    let at = c.args.at in
    let count = c.args.count in
    let len = c.min-len.result in
    let piece = c.deref.result.now in
    let inv = c.loop-i.invariant in
    let low : i * 65536 ≤ count = below_count count i c.div_ceil-i-end.result c.div_ceil-i-end.ensures (omega (arith, c.loop-i-test.true, c.loop-i.auto.i-end)) in
    let whole : length piece ≡ 65536 = ap length (c.deref.ensures.value ∙ inv.piece) ∙ length-replicate 65536 c.args.byte in
    let small : len ≤ 65536 = omega (arith, c.min-len.ensures) in
    let long : length (take len piece) ≡ len = omega (arith, length-take len piece, whole, small) in
    let fits : i * 65536 + len ≤ count = omega (arith, low, c.min-len.ensures) in
    let new = c.put_part.new.file in
    record {
      usable = c.put_part.ensures.usable;
      clean = c.put_part.ensures.clean ∙ inv.clean;
      piece = inv.piece;
      torn = torn_within at count (at + i * 65536) (length (take len piece)) (F.seen old) (F.seen mid) (F.seen new) inv.torn (omega arith) (omega (arith, long, fits)) c.put_part.ensures.others;
      filled = λ clean k from below high.
          let was_clean : IsTrue (F.is_clean old) = sym inv.clean ∙ sym c.put_part.ensures.clean ∙ clean in
          let within : at + count ≤ length (F.seen mid) = omega (arith, c.requires.within was_clean, inv.torn.no_shorter) in
          let torn : Torn (at + i * 65536) len (F.seen mid) (F.seen new) = rw (← long) c.put_part.ensures.others in
          fill_more at (i * 65536) len count c.args.byte (take len piece) (F.seen mid) (F.seen new)
          (λ j lt. get_or-take len piece j 0 lt ∙ ap (λ (l : List ℕ). get_or l j 0) (c.deref.ensures.value ∙ inv.piece) ∙ get_or-replicate 65536 j c.args.byte 0 (omega (arith, lt, small)))
          long within fits
          (λ j low_j high_j. inv.filled (sym c.put_part.ensures.clean ∙ clean) j low_j high_j (omega (arith, high_j, low)))
          torn (λ some. c.in_ok-put_part.ensures.written (omega (arith, some, long)))
          k from (omega (arith, below, high, c.min-len.ensures, low));
      time = λ each.
          let so_far = inv.time each in
          leaves_both F.moment F.left_since F.may_leave old mid new BeginsWithZero so_far
          (c.put_part.ensures.any_moment (at_end F.moment F.left_since F.may_leave old mid BeginsWithZero so_far (g.met.F.SlabFile.counts_now mid)));
    }

pub returns-clause-filled : goal.returns-clause-filled
returns-clause-filled g c clean k from to =
    let all : c.args.count ≤ c.loop-i.i * 65536 = above_count c.args.count c.loop-i.i c.div_ceil-i-end.result c.div_ceil-i-end.ensures (omega (arith, c.loop-i-test.false, c.loop-i.auto.i-end)) in
    c.loop-i.invariant.filled clean k from (omega (arith, to, all)) to
