use Rattle.std.proofs.Common.{◌≡◌, ◌≤◌, sym, ◌∙◌, ap, arith}
use Rattle.std.proofs.lemmas.Bool.{false≢true}
use Rattle.slab_layout.specs.Heads.{head_bytes}
use Rattle.slab_layout.proofs.lemmas.Codec.{written_head, never_written}
use Rattle.slab_codec.proofs.head.read_head.Goals as goal

pub fits_check-requires : goal.fits_check-requires
fits_check-requires c = omega (arith, c.requires)

pub returns-then-fits_check-clause-some : goal.returns-then-fits_check-clause-some
returns-then-fits_check-clause-some c =
    written_head c.args.key c.args.bytes.now c.requires c.byte_ranges.ensures (c.fits_check.ensures.0 c.if-fits_check.true)
    ∙ ap (head_bytes c.args.key) (sym c.told_head.ensures)

pub returns-clause-none : goal.returns-clause-none
returns-clause-none c h place is =
    false≢true (sym c.if-fits_check.false ∙ c.fits_check.ensures.1 (never_written c.args.key c.args.bytes.now h place is))
