use Rattle.std.proofs.Common.{◌≡◌, ℕ, ◌+◌, ◌-◌, ◌*◌, ◌<◌, true, List, length, get_or, refl, sym, ◌∙◌, subst, arith}
use Rattle.std.specs.Prelude.{slice_range}
use Rattle.std.proofs.lemmas.Result.{err_from_is_err_and}
use Rattle.slab_layout.specs.Shapes.{is_marked, head_at, part}
use Rattle.slab_reading.specs.Opened.{AreNoHead, IsRun, IsNoHead, IsOpenedFrom}
use Rattle.slab_reading.proofs.lemmas.ReadCalls.{damaged_weaker}
use Rattle.slab_reading.proofs.Steps.{slot_added, slot_marked, head_read}
use Rattle.slab_reading.proofs.run.add_run.Goals as goal

pub loop-i-preserved : goal.loop-i-preserved
loop-i-preserved c =
    let s = c.args.shape in
    let key = c.args.key in
    let first = c.args.first in
    let marks : List ℕ = c.args.marks.now in
    let heads : List ℕ = c.args.heads.now in
    let i = c.loop-i.i in
    let inv = c.loop-i.invariant in
    let place : ℕ = length marks - 1 - i in
    let within : place < length marks = omega (arith, c.loop-i-test.true) in
    let lt : first + place < s.count = omega (arith, within, c.requires.within) in
    let here : first + (length marks - i) ≡ first + place + 1 = omega (arith, c.loop-i-test.true) in
    let next : first + place ≡ first + (length marks - (i + 1)) = omega (arith, c.loop-i-test.true) in
    let old = c.loop-i.opened in
    let new = c.add_slot.new.opened in
    record {
      count = c.add_slot.ensures.count ∙ inv.count;
      opened = λ bytes run was.
          let before : IsOpenedFrom s key bytes (first + place + 1) old = subst (λ (n : ℕ). IsOpenedFrom s key bytes n old) here (inv.opened bytes run was) in
          let after : IsOpenedFrom s key bytes (first + place) new =
          slot_added s bytes first place marks heads within c.requires.len run key (get_or marks place 0) (slice_range heads (72 * place) (72 * place + 72)) old new lt refl refl
          c.in_ok-add_slot.ensures.added before in
          subst (λ (n : ℕ). IsOpenedFrom s key bytes n new) next after;
    }

pub returns-clause-opened : goal.returns-clause-opened
returns-clause-opened c bytes run was =
    let first = c.args.first in
    let done : first + (length c.args.marks.now - c.loop-i.i) ≡ first = omega (arith, c.loop-i-test.false) in
    subst (λ (n : ℕ). IsOpenedFrom c.args.shape c.args.key bytes n c.loop-i.opened) done (c.loop-i.invariant.opened bytes run was)

pub returns-in_err-add_slot-clause-damaged : goal.returns-in_err-add_slot-clause-damaged
returns-in_err-add_slot-clause-damaged c =
    let s = c.args.shape in
    let key = c.args.key in
    let first = c.args.first in
    let marks : List ℕ = c.args.marks.now in
    let heads : List ℕ = c.args.heads.now in
    let place : ℕ = length marks - 1 - c.loop-i.i in
    let within : place < length marks = omega (arith, c.loop-i-test.true) in
    let lt : first + place < s.count = omega (arith, within, c.requires.within) in
    let range : List ℕ = slice_range heads (72 * place) (72 * place + 72) in
    let P : ℕ → Type 0 = λ d. (d ≡ first + place) × (get_or marks place 0 ≡ 1) × AreNoHead key range in
    let Q : ℕ → Type 0 = λ d. (d < s.count) × ((bytes : List ℕ) → IsRun s bytes first marks heads → (is_marked s bytes d ≡ true) × IsNoHead s key bytes d) in
    let weaker : (d : ℕ) → P d → Q d = λ d p. (
      omega (arith, p.0, lt),
      λ bytes run.
          let head : AreNoHead key (part bytes (head_at s (first + place)) 72) =
          subst (λ (b : List ℕ). AreNoHead key b) (sym (head_read s bytes first place marks heads within c.requires.len run p.1)) p.2 in
          let both : (is_marked s bytes (first + place) ≡ true) × IsNoHead s key bytes (first + place) =
          (slot_marked s bytes first place marks heads within c.requires.len run p.1, head) in
          subst (λ (k : ℕ). (is_marked s bytes k ≡ true) × IsNoHead s key bytes k) (sym p.0) both,
    ) in
    let told = err_from_is_err_and c.from_residual.result c.from_residual.ensures.1 in
    rw (told.1, told.2) (damaged_weaker P Q weaker c.in_err-add_slot.field-0.0 c.in_err-add_slot.ensures.damaged)
