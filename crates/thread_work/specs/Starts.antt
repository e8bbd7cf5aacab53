-- Thread states whose threads go by one word.
use Rattle.std.specs.Prelude.{◌≡◌, ℕ, Bool, true, false}
use Rattle.thread_work.specs.declared.at_once.Begun.{Begun}
use Rattle.thread_work.specs.declared.at_once.Begun.TheVariants.{There, Here}

-- by the word, a thread state was worked or stays as it was
pub record GoesBy {P : Type 0} (works : P → P → Type 0) (word : Bool) (before after : P) : Type 0 where
  pub went : word ≡ true → works before after
  pub stayed : word ≡ false → after ≡ before

-- the lock whose word it goes by
abbrev pub lock_of : {P C : Type 0} → Begun P C → ℕ
lock_of (There thread) = thread.promise.word.now.id
lock_of (Here ended) = ended.word.of

-- what is left of the thread state goes by the word
abbrev pub IsBegun : {P C : Type 0} → (C → P → P → Type 0) → C → P → Begun P C → Type 0
IsBegun works work state (There thread) = (thread.promise.work.now ≡ work) × (thread.promise.state.value ≡ state)
IsBegun works work state (Here ended) = GoesBy (works work) ended.word.value state ended.state
