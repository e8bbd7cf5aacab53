-- What the program ends with, and why.
use Rattle.std.specs.Prelude.{ℕ, ◌==◌, ⊤, Bool, if◌then◌else◌, List, length, filter, is_some, Option, Result}
use Rattle.std.specs.declared.result.Result.TheVariants.{Ok, Err}
use Rattle.store_words.specs.declared.down.Down.{Down}
use Rattle.store_words.specs.declared.refusal.Refusal.{Refusal}
use Rattle.store_words.specs.declared.refusal.Refusal.TheVariants.{BadWords, NoText, NoMemory, NoStore, TooManyDown, Unread}
use Rattle.store_words.specs.declared.status.Status.{Status}
use Rattle.store_words.specs.declared.status.Status.TheVariants.{Done, Mended}
use Rattle.store_words.specs.Statuses.{status_of_refusal, status_of_scrub}

-- the words were those of a command
abbrev pub IsUnderstood : Refusal → Type 0
IsUnderstood (BadWords why) = ⊥
IsUnderstood NoText = ⊥
IsUnderstood NoMemory = ⊤
IsUnderstood (NoStore folders) = ⊤
IsUnderstood (TooManyDown down most) = ⊤
IsUnderstood (Unread blocks) = ⊤

-- the status of what was done, or wasn't
abbrev pub status_of : Result Status Refusal → Status
status_of (Ok status) = status
status_of (Err refusal) = status_of_refusal refusal

-- how many nodes are down
abbrev pub down_count : List (Option Down) → ℕ
down_count down = length (filter is_some down)

-- blocks that couldn't be read or written again refuse the scrub; else its status tells whether some node didn't hold what was read
abbrev pub scrub_end : ℕ → Bool → Result Status Refusal
scrub_end failed lacking = if failed == 0 then Ok (status_of_scrub lacking) else Err (Unread failed)

-- blocks that a new node doesn't hold refuse its renewal
abbrev pub filling_end : ℕ → Result Status Refusal
filling_end missed = if missed == 0 then Ok Done else Err (Unread missed)

-- a renewal mended something, though the scrub behind it found nothing more
abbrev pub renewal_status : Status → Status
renewal_status Done = Mended
renewal_status status = status
