use Rattle.picture_svg.proofs.document.described.Goals as goal

pub returns : goal.returns
returns c = (c.as_slice.result.now, c.in_ok-description.ensures)
