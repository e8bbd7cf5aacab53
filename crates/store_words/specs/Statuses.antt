-- What the program ends with.
use Rattle.std.specs.Prelude.{ℕ, ◌==◌, Bool, nat_le, if◌then◌else◌}
use Rattle.store_words.specs.declared.status.Status.{Status}
use Rattle.store_words.specs.declared.status.Status.TheVariants.{Done, Mended, BadWords, Failed, TooFew}
use Rattle.store_words.specs.declared.refusal.Refusal.{Refusal}
use Rattle.store_words.specs.declared.refusal.Refusal.TheVariants.{BadWords as Words, NoText, NoMemory, NoStore, TooManyDown, Unread}

-- the number of a status
abbrev pub number_of : Status → ℕ
number_of Done = 0
number_of Mended = 1
number_of BadWords = 2
number_of Failed = 3
number_of TooFew = 4

-- the status where so many nodes are down, and so many may be
abbrev pub status_of_down : ℕ → ℕ → Status
status_of_down down most = if down == 0 then Done else (if nat_le down most then Mended else TooFew)

-- the status of a scrub that found all well, or something that it mended
abbrev pub status_of_scrub : Bool → Status
status_of_scrub lacking = if lacking then Mended else Done

-- the status of a command that isn't done
abbrev pub status_of_refusal : Refusal → Status
status_of_refusal (Words why) = BadWords
status_of_refusal NoText = BadWords
status_of_refusal NoMemory = Failed
status_of_refusal (NoStore folders) = TooFew
status_of_refusal (TooManyDown down most) = TooFew
status_of_refusal (Unread blocks) = TooFew
