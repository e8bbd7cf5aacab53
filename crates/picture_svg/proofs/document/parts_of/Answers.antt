use Rattle.std.proofs.Common.{◌∙◌}
use Rattle.picture_svg.proofs.document.parts_of.Goals as goal

pub returns-clause-says : goal.returns-clause-says
returns-clause-says c = (c.in_ok-legend.legend, c.into_items-words.ensures ∙ c.in_ok-texts.ensures)
