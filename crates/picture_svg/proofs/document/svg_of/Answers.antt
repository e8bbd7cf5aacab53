use Rattle.picture_svg.proofs.document.svg_of.Goals as goal

pub returns : goal.returns
returns c =
    let parts = c.in_ok-parts in
    record {
      parts = parts.parts;
      is = c.in_ok-text.ensures;
      title = parts.ensures.title;
      description = parts.ensures.description;
      plain = parts.ensures.plain;
      says = parts.ensures.says;
    }
