use Rattle.std.proofs.Common.{◌≡◌, ◌<◌, ◌+◌, ◌++◌, ◌∷◌, [], ℕ, Bool, List, length, sym, ◌∙◌, ap, subst, arith}
use Rattle.std.proofs.lemmas.List.{length_push}
use Rattle.protocol.specs.Count.{count}
use Rattle.slab_engine.specs.Seen.{listed}
use Rattle.slab_engine.specs.Batches.{AreFreeBelow}
use Rattle.slab_engine.proofs.Picking.{free_other, free_more, count_true, count_false}
use Rattle.slab_engine.proofs.free.pick_slots.Goals as goal
use Rattle.slab_engine.proofs.free.pick_slots.Goals.{then-free-slot+in_ok-push, else-free-slot}

pub loop-slot-preserved : goal.loop-slot-preserved
loop-slot-preserved c =
    let free : List Bool = c.args.free.now in
    let n = c.loop-slot.slot in
    let old : List ℕ = c.loop-slot.slots.items in
    let so_far = c.loop-slot.invariant in
    let fewer : length old < c.args.wanted = (let a = c.len.ensures in let b = c.if-len-wanted.false in let d = so_far.1 in omega (arith, a, b, d)) in
    elim c.if-free-slot.branch [
      | then-free-slot+in_ok-push w ↦
          let is : c.if-free-slot.slots.items ≡ old ++ n ∷ [] = (λ j. (w.slots-is j).items) ∙ w.in_ok-push.ensures.items in
          let long : length c.if-free-slot.slots.items ≡ length old + 1 = ap length is ∙ length_push old n in (
            subst (λ (xs : List ℕ). AreFreeBelow free (n + 1) xs) (sym is) (free_more free n old so_far.0 w.if-free-slot.true),
            omega (arith, long, fewer),
            λ zero. long ∙ ap (λ k. k + 1) (so_far.2 zero) ∙ sym (count_true n (listed free) w.if-free-slot.true),
          )
      | else-free-slot w ↦
          let is : c.if-free-slot.slots.items ≡ old = λ j. (w.slots-is j).items in
          let long : length c.if-free-slot.slots.items ≡ length old = ap length is in (
            subst (λ (xs : List ℕ). AreFreeBelow free (n + 1) xs) (sym is) (free_other free n old so_far.0),
            omega (arith, long, fewer),
            λ zero. long ∙ so_far.2 zero ∙ sym (count_false n (listed free) w.if-free-slot.false),
          )
    ]

pub returns-clause-none : goal.returns-clause-none
returns-clause-none c zero =
    let at = c.loop-slot.invariant in
    let long = c.len-2.ensures in
    let differs = c.if-len-wanted-2.false in
    let ends = c.loop-slot-test.false in
    let auto = c.loop-slot.auto in
    let top : c.loop-slot.slot ≡ length c.args.free.now = (let a = auto.slot-end (omega (arith, zero)) in omega (arith, ends, a)) in
    let all = at.2 zero ∙ ap (λ n. count n (listed c.args.free.now)) top in
    let le = at.1 in
    omega (arith, all, le, long, differs)
