-- What contracts see of the two sides of an inbox: of a putter, before its last word and after it,
-- and of the taker.
use Rattle.std.specs.Prelude.{◌≡◌, ℕ, ◌<◌, ◌≤◌, Bool, true, false, List, [], ◌∷◌, ◌++◌, map, All, Option, Some, None, slice_get, ◌==◌}
use Rattle.std.specs.List.{filter}
use Rattle.atomic_table.specs.Seated.{TableId}
use Rattle.atomic_table.specs.declared.badge.Badge.{Badge}
use Rattle.crossbeam_channel.specs.declared.flavors.array.Key.{Key}
use Rattle.crossbeam_channel.specs.Claims.{Pass, view}
use Rattle.inboxes.specs.declared.rule.Parcel.{Parcel}
use Rattle.inboxes.specs.declared.rule.Role.TheVariants.{Sends, Takes}
use Rattle.inboxes.specs.declared.rule.View.{View}
use Rattle.inboxes.specs.Parcels.{words_of, has_ended, IsOrderly, items_of, lasts_in, start, heard_more}

-- which inbox it is, and its place
pub record InboxId (T P : Type 0) : Type 0 where
  pub ring : TableId
  pub keys : Badge (Key (Parcel T P))
  pub place : P

-- how many items it holds at a time: its ring has a slot for each
abbrev pub room_of : {T P : Type 0} → InboxId T P → ℕ
room_of inbox = inbox.ring.slots

-- a putter: its inbox, its number, and the items that it put. The same after its last word
pub record Putting (T P : Type 0) : Type 0 where
  pub inbox : InboxId T P
  pub number : ℕ
  pub put : List T

-- a taker: its inbox, how many senders there are, and what it took: items with the numbers of their
-- senders, and the senders' last words
pub record Taking (T P : Type 0) : Type 0 where
  pub inbox : InboxId T P
  pub senders : ℕ
  pub heard : List (ℕ × Option T)

-- the last words of these senders
abbrev pub last_words : {T : Type 0} → List ℕ → List (ℕ × Option T)
last_words froms = map (λ p. (p, None)) froms

module _ {T : Type 0} where
  -- the items among these, each with its sender's number
  abbrev pub took_in : List (ℕ × Option T) → List (ℕ × T)
  took_in [] = []
  took_in ((p, Some x) ∷ hs) = (p, x) ∷ took_in hs
  took_in ((p, None) ∷ hs) = took_in hs

  -- the items of one sender
  abbrev pub items_from : ℕ → List (ℕ × T) → List T
  items_from p items = map (λ i. i.1) (filter (λ i. i.0 == p) items)

module _ {T P : Type 0} where
  -- what the pass knows
  abbrev pub known_by : Pass (Parcel T P) (View T P) → View T P
  known_by pass = view pass

  abbrev pub inbox_of : Pass (Parcel T P) (View T P) → P → InboxId T P
  inbox_of pass place = record { ring = pass.table_id; keys = pass.me.0.of; place = place }

  -- the sender with this pass, place and number
  abbrev pub putting_of : Pass (Parcel T P) (View T P) → P → ℕ → Putting T P
  putting_of pass place number = record {
    inbox = inbox_of pass place;
    number = number;
    put = items_of (known_by pass).said;
  }

  -- a putter that has put nothing
  abbrev pub new_putter : InboxId T P → ℕ → Putting T P
  new_putter inbox number = record { inbox = inbox; number = number; put = [] }

  -- the first putters of the list, so many, have put nothing, and their numbers are their places
  abbrev pub AreNew : InboxId T P → List (Putting T P) → ℕ → Type 0
  AreNew inbox putters count = (i : ℕ) → i < count → slice_get putters i ≡ Some (new_putter inbox i)

  -- the putter after it put an item
  abbrev pub put_more : Putting T P → T → Putting T P
  put_more p item = record { inbox = p.inbox; number = p.number; put = p.put ++ item ∷ [] }

  -- the taker after it took these
  abbrev pub took_more : Taking T P → List (ℕ × Option T) → Taking T P
  took_more t more = record { inbox = t.inbox; senders = t.senders; heard = t.heard ++ more }

  -- the items that the taker took, each with its sender's number
  abbrev pub took : Taking T P → List (ℕ × T)
  took t = took_in t.heard

  -- whether the last word of a sender was taken
  abbrev pub was_last_taken : ℕ → Taking T P → Bool
  was_last_taken p t = has_ended (words_of p t.heard)

  -- the last word of each sender was taken
  abbrev pub IsDone : Taking T P → Type 0
  IsDone t = (p : ℕ) → p < t.senders → was_last_taken p t ≡ true

  -- the taker took next this item of this sender, after last words that it passed over
  abbrev pub TookNext : Taking T P → ℕ → T → Taking T P → Type 0
  TookNext t from item u =
      (passed : List ℕ) × (u ≡ took_more t (last_words passed ++ (from, Some item) ∷ []))

  -- the taker took nothing but last words
  abbrev pub TookLasts : Taking T P → Taking T P → Type 0
  TookLasts t u = (passed : List ℕ) × (u ≡ took_more t (last_words passed))

  -- what was taken of a sender is what it put, in its order, and then its last word
  abbrev pub IsSettled : Taking T P → Putting T P → Type 0
  IsSettled t sent = words_of sent.number t.heard ≡ map Some sent.put ++ None ∷ []

  -- two passes of one inbox
  abbrev pub IsSameSeat : Pass (Parcel T P) (View T P) → Pass (Parcel T P) (View T P) → Type 0
  IsSameSeat old new = (new.table_id ≡ old.table_id) × (new.me.0.of ≡ old.me.0.of)

  -- TookNext and TookLasts, of what the taker's pass knows
  abbrev pub HeardNext : View T P → ℕ → T → View T P → Type 0
  HeardNext v from item w =
      (passed : List ℕ) × (w ≡ heard_more v (last_words passed ++ (from, Some item) ∷ []))

  abbrev pub HeardLasts : View T P → View T P → Type 0
  HeardLasts v w = (passed : List ℕ) × (w ≡ heard_more v (last_words passed))

  -- what the pass of a putter knows
  pub record IsSending (v : View T P) (place : P) (number : ℕ) : Type 0 where
    pub senders : ℕ
    pub starts : v.start ≡ Some (start place senders)
    pub role : v.role ≡ Sends number
    pub going : has_ended v.said ≡ false

  -- what a sender's pass knows after its last word
  pub record IsSent (v : View T P) (number : ℕ) : Type 0 where
    pub role : v.role ≡ Sends number
    pub ended : v.said ≡ map Some (items_of v.said) ++ None ∷ []

  -- what the pass of a taker knows
  pub record IsTaking (v : View T P) (place : P) (senders lasts : ℕ) : Type 0 where
    pub made : ℕ
    pub starts : v.start ≡ Some (start place senders)
    pub role : v.role ≡ Takes made
    pub count : lasts ≡ lasts_in v.heard
    pub most : lasts ≤ senders
    pub known : All (λ h. h.0 < senders) v.heard
    pub orderly : (p : ℕ) → IsOrderly (words_of p v.heard)
