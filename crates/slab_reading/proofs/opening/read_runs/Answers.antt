use Rattle.std.proofs.Common.{◌≡◌, ℕ, ◌+◌, ◌-◌, ◌*◌, List, sym, ◌∙◌, subst, arith}
use Rattle.slab_reading.specs.Opened.{IsOpenedFrom}
use Rattle.slab_reading.proofs.lemmas.ReadCalls.{reads_both}
use Rattle.slab_reading.proofs.opening.read_runs.Goals as goal

pub loop-i-preserved : goal.loop-i-preserved
loop-i-preserved g c =
    let F = g.F.SlabFile in
    let s = c.args.shape in
    let key = c.args.key in
    let i = c.loop-i.i in
    let inv = c.loop-i.invariant in
    let base : List ℕ = F.seen c.args.file.now in
    let mid : List ℕ = F.seen c.loop-i.file in
    let same : mid ≡ base = inv.reads.bytes in
    let end : ℕ = s.count - 1024 * i in
    let first : ℕ = c.saturating_sub.result in
    let next : first ≡ s.count - 1024 * (i + 1) = omega (arith, c.saturating_sub.ensures) in
    let new = c.read_run.new.opened in
    record {
      reads = reads_both F.seen F.may_leave F.moment F.left_since F.is_usable F.is_clean c.args.file.now c.loop-i.file c.read_run.new.file inv.reads c.read_run.ensures.reads;
      faults = c.in_ok-read_run.ensures.calm ∙ inv.faults;
      count = c.read_run.ensures.count;
      opened = λ clean was.
          let before : IsOpenedFrom s key base end c.loop-i.opened = inv.opened (c.read_run.ensures.reads.clean clean) was in
          let after : IsOpenedFrom s key mid first new =
          c.in_ok-read_run.ensures.opened clean (subst (λ (b : List ℕ). IsOpenedFrom s key b end c.loop-i.opened) (sym same) before) in
          subst (λ (n : ℕ). IsOpenedFrom s key base n new) next (subst (λ (b : List ℕ). IsOpenedFrom s key b first new) same after);
    }
