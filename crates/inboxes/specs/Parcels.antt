-- The parcels in the channel and the views, which are what passes know: the rule that each step keeps,
-- and what each step does. A word is an item or, as None, a sender's last word.
use Rattle.std.specs.Prelude.{◌≡◌, ℕ, ◌+◌, ◌<◌, ◌≤◌, ◌⊎◌, Bool, true, false, List, [], ◌∷◌, ◌++◌, map, All, Option, Some, None, IfSome, count_by, ◌==◌, is_none}
use Rattle.std.specs.List.{filter}
use mathlib.Core.Option.{some}
use lib.ListN.{get_elem?}
use Rattle.std.specs.declared.snapshot.Snapshot.{Snapshot}
use Rattle.inboxes.specs.declared.rule.Parcel.{Parcel}
use Rattle.inboxes.specs.declared.rule.Parcel.TheVariants.{Open, Said}
use Rattle.inboxes.specs.declared.rule.Role.{Role}
use Rattle.inboxes.specs.declared.rule.Role.TheVariants.{Opens, Opening, Sends, Takes, Tells, Spent}
use Rattle.inboxes.specs.declared.rule.Start.{Start}
use Rattle.inboxes.specs.declared.rule.Account.{Account}
use Rattle.inboxes.specs.declared.rule.View.{View}

module _ {T : Type 0} where
  -- the words of one sender, of those of all
  abbrev pub words_of : ℕ → List (ℕ × Option T) → List (Option T)
  words_of p log = map (λ h. h.1) (filter (λ h. h.0 == p) log)

  -- the last word is among these
  abbrev pub has_ended : List (Option T) → Bool
  has_ended [] = false
  has_ended (Some x ∷ ws) = has_ended ws
  has_ended (None ∷ ws) = true

  -- nothing comes after the last word
  abbrev pub IsOrderly : List (Option T) → Type 0
  IsOrderly [] = Unit {0}
  IsOrderly (Some x ∷ ws) = IsOrderly ws
  IsOrderly (None ∷ ws) = ws ≡ []

  -- the items among these
  abbrev pub items_of : List (Option T) → List T
  items_of [] = []
  items_of (Some x ∷ ws) = x ∷ items_of ws
  items_of (None ∷ ws) = items_of ws

  -- how many last words there are
  abbrev pub lasts_in : List (ℕ × Option T) → ℕ
  lasts_in log = count_by (λ h. is_none h.1) log

abbrev pub start : {P : Type 0} → P → ℕ → Start P
start place senders = record { place = place; senders = senders }

-- the number of senders made, or the number of the sender
abbrev pub number_of : Role → ℕ
number_of Opens = 0
number_of Opening = 0
number_of (Sends from) = from
number_of (Takes made) = made
number_of Tells = 0
number_of Spent = 0

module _ {T : Type 0} where
  -- what an account says of all that was said: it is one of so many senders, which has ended
  abbrev pub IsTold : ℕ → List (ℕ × Option T) → Option (Account T) → Type 0
  IsTold senders log None = Unit {0}
  IsTold senders log (Some account) =
      (account.from < senders)
      × (has_ended account.said ≡ true)
      × (account.said ≡ words_of account.from log)

  -- the taker has heard all that the sender said, once it has heard the sender's last word
  abbrev pub SettlesWith : ℕ → List (ℕ × Option T) → Option (Account T) → Type 0
  SettlesWith senders heard None = Unit {0}
  SettlesWith senders heard (Some account) =
      (account.from < senders)
      × (has_ended (words_of account.from heard) ≡ true
      → words_of account.from heard ≡ account.said)

module _ {T P : Type 0} where
  -- the first pass, before it sends the place
  abbrev pub newcomer : View T P
  newcomer = record { role = Opens; start = None; said = []; heard = []; told = None }

  -- a pass whose account was taken in
  abbrev pub spent : View T P
  spent = record { role = Spent; start = None; said = []; heard = []; told = None }

  -- the first pass, while the place lies in the channel
  abbrev pub opening : Start P → View T P
  opening s = record { role = Opening; start = Some s; said = []; heard = []; told = None }

  abbrev pub opening_of : Parcel T P → View T P
  opening_of (Open place senders) = opening (start place.value senders)
  opening_of (Said from word) = newcomer

  -- the taker's pass, which has made so many senders
  abbrev pub taking : Option (Start P) → ℕ → List (ℕ × Option T) → View T P
  taking s made heard =
      record { role = Takes made; start = s; said = []; heard = heard; told = None }

  -- a sender's pass
  abbrev pub sending : Option (Start P) → ℕ → List (Option T) → View T P
  sending s from said =
      record { role = Sends from; start = s; said = said; heard = []; told = None }

  abbrev pub post_of : ℕ × Option T → Parcel T P
  post_of h = Said h.0 h.1

  -- the view after one more sender was made, and that sender's
  abbrev pub with_one_more : View T P → View T P
  with_one_more v = record v { role = Takes (number_of v.role + 1) }

  abbrev pub next_sender : View T P → View T P
  next_sender v = sending v.start (number_of v.role) []

  -- an account of what a sender said
  abbrev pub account_of : View T P → View T P
  account_of v = record {
    role = Tells;
    start = None;
    said = [];
    heard = [];
    told = Some (record { from = number_of v.role; said = v.said });
  }

  abbrev pub with_account : View T P → View T P → View T P
  with_account v w = record v { told = w.told }

  -- the view after this was said
  abbrev pub said_more : View T P → Option T → View T P
  said_more v word = record v { said = v.said ++ word ∷ [] }

  -- the view after this was heard
  abbrev pub heard_more : View T P → List (ℕ × Option T) → View T P
  heard_more v more = record v { heard = v.heard ++ more }

  -- a sender puts a word of its own
  abbrev pub Says : View T P → Parcel T P → View T P → Type 0
  Says v (Open place senders) w = ⊥
  Says v (Said from word) w = w ≡ said_more v word

  -- what the taker learns of the account that it was given
  abbrev pub Settles : View T P → Type 0
  Settles v = IfSome v.start (λ s. SettlesWith s.senders v.heard v.told)

  -- what holds of view j, by its role: `got` was taken and `log` said in all, so many senders were
  -- made, `seat p` is the pass of sender p, and `taker` the pass that takes
  abbrev pub Knows : Start P → List (ℕ × Option T) → List (ℕ × Option T) → ℕ → (ℕ → ℕ) → ℕ → ℕ
      → View T P → Role → Type 0
  Knows s got log made seat taker j v Opens = ⊥
  Knows s got log made seat taker j v Opening = ⊥
  Knows s got log made seat taker j v (Sends p) =
      (v.start ≡ Some s) × (p < made) × (p < s.senders) × (seat p ≡ j)
      × (v.said ≡ words_of p log)
  Knows s got log made seat taker j v (Takes m) =
      (v.start ≡ Some s) × (m ≡ made) × (taker ≡ j) × (v.heard ≡ got)
      × IsTold s.senders log v.told
  Knows s got log made seat taker j v Tells = IsTold s.senders log v.told
  Knows s got log made seat taker j v Spent = Unit {0}

module _ {T P : Type 0} (fits : P → T → Type 0) where
  -- a word is of one of the senders, and its item fits the place
  abbrev pub FitsWord : Start P → ℕ × Option T → Type 0
  FitsWord s h = (h.0 < s.senders) × IfSome h.1 (fits s.place)

  -- the rule of an inbox that is open: `got` was taken, `rest` waits
  pub record IsOpen (s : Start P) (items : List (Parcel T P)) (views : List (View T P)) : Type 0 where
    pub got : List (ℕ × Option T)
    pub rest : List (ℕ × Option T)
    pub made : ℕ
    pub seat : ℕ → ℕ
    pub taker : ℕ
    pub waits : items ≡ map post_of rest
    pub fit : All (FitsWord s) (got ++ rest)
    pub orderly : (p : ℕ) → IsOrderly (words_of p (got ++ rest))
    pub unmade : (p : ℕ) → made ≤ p → words_of p (got ++ rest) ≡ []
    pub each : (j : ℕ) (v : View T P) → get_elem? views j ≡ some v
        → Knows s got (got ++ rest) made seat taker j v v.role

  -- the parcel that opens an inbox lies in the channel
  pub record IsOpening (items : List (Parcel T P)) (views : List (View T P)) : Type 0 where
    pub place : Snapshot P
    pub senders : ℕ
    pub parcel : items ≡ Open place senders ∷ []
    pub alone : views ≡ opening (start place.value senders) ∷ []

  -- the rule: nothing was sent yet, or the place lies in the channel, or the inbox is open
  abbrev pub Keeps : List (Parcel T P) → List (View T P) → Type 0
  Keeps items views =
      (((items ≡ []) × (views ≡ newcomer ∷ [])) ⊎ IsOpening items views)
      ⊎ ((s : Start P) × IsOpen s items views)

  -- the taker takes a word of a sender whose last word it has not taken
  abbrev pub HearsWord : View T P → ℕ × Option T → View T P → Type 0
  HearsWord v h w =
      (w ≡ heard_more v (h ∷ []))
      × (has_ended (words_of h.0 v.heard) ≡ false)
      × IfSome v.start (λ s. FitsWord s h)

  abbrev pub Hears : View T P → Parcel T P → View T P → Type 0
  Hears v (Open place senders) w = ⊥
  Hears v (Said from word) w = HearsWord v (from, word) w
