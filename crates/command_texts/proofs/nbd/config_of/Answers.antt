use Rattle.std.proofs.Common.{◌≡◌, true, false, refl, sym, subst}
use Rattle.quorum_rules.specs.Limits.{Numbers, IsValid}
use Rattle.quorum_rules.specs.Faults.{numbers}
use Rattle.quorum_rules.specs.declared.Edition.TheVariants.{One}
use Rattle.command_texts.specs.Words.{IsNbd}
use Rattle.command_texts.proofs.NbdForms.{AreRead, spelled, no_n, no_t, no_b, no_qc, no_m, no_size, no_blocks, is_nbd, no_config}
use Rattle.command_texts.proofs.nbd.config_of.Goals as goal

pub returns-in_err-n-clause-none : goal.returns-in_err-n-clause-none
returns-in_err-n-clause-none c = rw c.from_residual.ensures (no_n c.args.n.now c.args.t.now c.args.b.now c.args.qc.now c.args.m.now c.args.size.now c.args.blocks.now c.in_err-n.ensures)

pub returns-in_err-t-clause-none : goal.returns-in_err-t-clause-none
returns-in_err-t-clause-none c = rw c.from_residual-in_err-t.ensures (no_t c.args.n.now c.args.t.now c.args.b.now c.args.qc.now c.args.m.now c.args.size.now c.args.blocks.now c.in_err-t.ensures)

pub returns-in_err-b-clause-none : goal.returns-in_err-b-clause-none
returns-in_err-b-clause-none c = rw c.from_residual-in_err-b.ensures (no_b c.args.n.now c.args.t.now c.args.b.now c.args.qc.now c.args.m.now c.args.size.now c.args.blocks.now c.in_err-b.ensures)

pub returns-in_err-qc-clause-none : goal.returns-in_err-qc-clause-none
returns-in_err-qc-clause-none c = rw c.from_residual-in_err-qc.ensures (no_qc c.args.n.now c.args.t.now c.args.b.now c.args.qc.now c.args.m.now c.args.size.now c.args.blocks.now c.in_err-qc.ensures)

pub returns-in_err-m-clause-none : goal.returns-in_err-m-clause-none
returns-in_err-m-clause-none c = rw c.from_residual-in_err-m.ensures (no_m c.args.n.now c.args.t.now c.args.b.now c.args.qc.now c.args.m.now c.args.size.now c.args.blocks.now c.in_err-m.ensures)

pub returns-in_err-size-clause-none : goal.returns-in_err-size-clause-none
returns-in_err-size-clause-none c = rw c.from_residual-in_err-size.ensures (no_size c.args.n.now c.args.t.now c.args.b.now c.args.qc.now c.args.m.now c.args.size.now c.args.blocks.now c.in_err-size.ensures)

pub returns-in_err-blocks-clause-none : goal.returns-in_err-blocks-clause-none
returns-in_err-blocks-clause-none c = rw c.from_residual-in_err-blocks.ensures (no_blocks c.args.n.now c.args.t.now c.args.b.now c.args.qc.now c.args.m.now c.args.size.now c.args.blocks.now c.in_err-blocks.ensures)

pub returns-in-Ok-clause-some : goal.returns-in-Ok-clause-some
returns-in-Ok-clause-some c =
    let made : Numbers = numbers One c.in_ok-n.n c.in_ok-t.t c.in_ok-b.b c.in_ok-qc.qc c.in_ok-m.m c.in_ok-size.size c.in_ok-blocks.blocks in
    let read : AreRead c.args.n.now c.args.t.now c.args.b.now c.args.qc.now c.args.m.now c.args.size.now c.args.blocks.now made = record { edition = refl; n = c.in_ok-n.ensures; t = c.in_ok-t.ensures; b = c.in_ok-b.ensures; qc = c.in_ok-qc.ensures; m = c.in_ok-m.ensures; size = c.in_ok-size.ensures; blocks = c.in_ok-blocks.ensures } in
    let valid : IsValid made = c.in-Ok.ensures.valid.0 refl in
    subst (λ (z : Numbers). IsNbd (spelled c.args.n.now c.args.t.now c.args.b.now c.args.qc.now c.args.m.now c.args.size.now c.args.blocks.now) z) (sym c.in-Ok.ensures.ok) (is_nbd c.args.n.now c.args.t.now c.args.b.now c.args.qc.now c.args.m.now c.args.size.now c.args.blocks.now made read valid)

pub returns-in-Err-clause-none : goal.returns-in-Err-clause-none
returns-in-Err-clause-none c =
    let made : Numbers = numbers One c.in_ok-n.n c.in_ok-t.t c.in_ok-b.b c.in_ok-qc.qc c.in_ok-m.m c.in_ok-size.size c.in_ok-blocks.blocks in
    let read : AreRead c.args.n.now c.args.t.now c.args.b.now c.args.qc.now c.args.m.now c.args.size.now c.args.blocks.now made = record { edition = refl; n = c.in_ok-n.ensures; t = c.in_ok-t.ensures; b = c.in_ok-b.ensures; qc = c.in_ok-qc.ensures; m = c.in_ok-m.ensures; size = c.in_ok-size.ensures; blocks = c.in_ok-blocks.ensures } in
    no_config c.args.n.now c.args.t.now c.args.b.now c.args.qc.now c.args.m.now c.args.size.now c.args.blocks.now made read (λ valid. let e : false ≡ true = c.in-Err.ensures.valid.1 valid in cc)
