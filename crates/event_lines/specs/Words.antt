-- The words that event lines begin with.
use Rattle.std.specs.Prelude.{ℕ, List, [], ◌∷◌, codes, find, Option}
use Rattle.std.specs.Str.{bytes_eq}
pub use Rattle.event_lines.specs.declared.word.Form.{Form}
use Rattle.event_lines.specs.declared.word.Form.TheVariants.{Write, Read, Resend, Call, Give, Hear, Lost, Crash, False, Sound, Mix, Prune, Back, Restart, Put, Get, Next}
pub use Rattle.event_lines.specs.declared.word.Speech.{Speech}
use Rattle.event_lines.specs.declared.word.Speech.TheVariants.{Lie, Tell, Poke}
pub use Rattle.event_lines.specs.declared.word.LineWord.{LineWord}
use Rattle.event_lines.specs.declared.word.LineWord.TheVariants.{Form as Fields, Speech as Message}

-- how a word is spelled
abbrev pub form_text : Form → List ℕ
form_text Write = codes "write"
form_text Read = codes "read"
form_text Resend = codes "resend"
form_text Call = codes "call"
form_text Give = codes "give"
form_text Hear = codes "hear"
form_text Lost = codes "lost"
form_text Crash = codes "crash"
form_text False = codes "false"
form_text Sound = codes "sound"
form_text Mix = codes "mix"
form_text Prune = codes "prune"
form_text Back = codes "back"
form_text Restart = codes "restart"
form_text Put = codes "put"
form_text Get = codes "get"
form_text Next = codes "next"

abbrev pub speech_text : Speech → List ℕ
speech_text Lie = codes "lie"
speech_text Tell = codes "tell"
speech_text Poke = codes "poke"

abbrev pub word_text : LineWord → List ℕ
word_text (Fields form) = form_text form
word_text (Message speech) = speech_text speech

abbrev pub words : List LineWord
words =
    Fields Write
    ∷ Fields Read
    ∷ Fields Resend
    ∷ Fields Call
    ∷ Fields Give
    ∷ Fields Hear
    ∷ Fields Lost
    ∷ Fields Crash
    ∷ Fields False
    ∷ Fields Sound
    ∷ Fields Mix
    ∷ Fields Prune
    ∷ Fields Back
    ∷ Fields Restart
    ∷ Fields Put
    ∷ Fields Get
    ∷ Fields Next
    ∷ Message Lie
    ∷ Message Tell
    ∷ Message Poke
    ∷ []

-- the word that is spelled so
abbrev pub word_of : List ℕ → Option LineWord
word_of field = find (λ word. bytes_eq field (word_text word)) words
