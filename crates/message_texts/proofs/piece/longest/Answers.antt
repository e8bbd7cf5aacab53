use Rattle.std.proofs.Common.{arith}
use Rattle.message_texts.specs.Pieces.{IsOfForms, message_forms}
use Rattle.message_texts.specs.Texts.{IsText}
use Rattle.message_texts.proofs.Fronts.{same_texts}
use Rattle.message_texts.proofs.Grammar.{text_of_form, form_of_text}
use Rattle.message_texts.proofs.piece.longest.Goals as goal

pub returns : goal.returns
returns c = same_texts (IsOfForms message_forms) IsText c.args.text.now c.furthest.result (λ x is. text_of_form x is) (λ x is. form_of_text x is) (c.furthest.ensures.some (omega arith))
