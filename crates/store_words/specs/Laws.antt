-- What is said of words and causes.
use Rattle.std.specs.Prelude.{◌≡◌, ℕ, List}
use Rattle.std.specs.declared.option.Option.TheVariants.{None}
use Rattle.store_words.specs.declared.words.Command.{Command}
use Rattle.store_words.specs.Words.{Asks}
use Rattle.store_words.specs.Causes.{cause}

-- words that ask for something have no cause
abbrev pub WordsHaveNoCause : Type 0
WordsHaveNoCause = (words : List (List ℕ)) (command : Command) (folders : List (List ℕ)) → Asks words command folders → cause words ≡ None
