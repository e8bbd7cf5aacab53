-- The words of messages' texts.
use Rattle.std.specs.Prelude.{ℕ, List, [], ◌∷◌, codes, find, Option}
use Rattle.std.specs.Str.{bytes_eq}
use Rattle.message_texts.specs.declared.word.MessageWord.{MessageWord}
use Rattle.message_texts.specs.declared.word.MessageWord.TheVariants.{Ask, Answer, Time, Read, Write, All, AtMost, Below, Found, Nothing, Ack, Refused}

-- how a word is spelled
abbrev pub word_text : MessageWord → List ℕ
word_text Ask = codes "ask"
word_text Answer = codes "answer"
word_text Time = codes "time"
word_text Read = codes "read"
word_text Write = codes "write"
word_text All = codes "all"
word_text AtMost = codes "atmost"
word_text Below = codes "below"
word_text Found = codes "found"
word_text Nothing = codes "nothing"
word_text Ack = codes "ack"
word_text Refused = codes "refused"

abbrev pub words : List MessageWord
words = Ask ∷ Answer ∷ Time ∷ Read ∷ Write ∷ All ∷ AtMost ∷ Below ∷ Found ∷ Nothing ∷ Ack ∷ Refused ∷ []

-- the word that is spelled so
abbrev pub word_of : List ℕ → Option MessageWord
word_of field = find (λ word. bytes_eq field (word_text word)) words
