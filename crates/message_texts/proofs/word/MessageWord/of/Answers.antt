use Rattle.std.proofs.Common.{rules, tests, ◌∙◌}
use Rattle.std.specs.Str.{bytes_eq}
use Rattle.std.proofs.lemmas.Iterator.{YieldsList-from_slice}
use Rattle.std.proofs.lemmas.Iterator.Search.{find_from_yields_List}
use Rattle.message_texts.specs.Words.{word_text, words}
use Rattle.message_texts.proofs.word.MessageWord.of.Goals as goal

pub returns : goal.returns
returns c = c.copied.ensures ∙ find_from_yields_List (λ w. bytes_eq c.args.field.now (word_text w)) _ _ c.find.result c.find.ensures.ran (YieldsList-from_slice words c.iter.ensures.rest) (λ x b q k. search (rules, tests))
