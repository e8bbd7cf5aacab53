-- The texts that are a history's, and what is wrong with a line of another text.
use Rattle.std.specs.Prelude.{◌≡◌, ◌==◌, ℕ, ◌-◌, ◌^◌, ◌<◌, ◌≤◌, Bool, true, false, not, ◌&&◌, ◌||◌, nat_lt, nat_le, if◌then◌else◌, List, [], ◌∷◌, length, take, drop, codes, filter_map, count_by, slice_get, Option, is_some, is_none, option_map, option_and_then, unwrap_or, IfSome, IsSomeAnd}
use Rattle.std.specs.declared.option.Option.TheVariants.{None, Some}
use Rattle.std.specs.declared.cmp.Ordering.TheVariants.{Less}
use Rattle.std.specs.Ordering.{is_lt}
use Rattle.std.specs.List.{list_any}
use Rattle.std.specs.Str.{bytes_eq}
use Rattle.text_lines.specs.Lines.{fields_of, parts_at}
use Rattle.text_lines.specs.Fields.{number_of, value_of, IsBytes}
use Rattle.line_forms.specs.Kinds.{has_wrong_count}
use Rattle.line_forms.specs.Tables.{first_of}
use Rattle.line_forms.specs.Texts.{Grammar, is_empty}
use Rattle.line_forms.specs.declared.cause.Cause.{Cause}
use Rattle.line_forms.specs.declared.cause.Cause.TheVariants.{UnknownWord, WrongCount, BadNumber, OutOfRange, BadValue, NotSorted, Count}
use Rattle.history_making.specs.declared.entry.Kind.{Kind}
use Rattle.history_making.specs.declared.entry.Kind.TheVariants.{Read, Write, Foreign}
use Rattle.history_making.specs.declared.entry.Entry.{Entry}
use Rattle.history_making.specs.declared.entry.Spent.{Spent}
use Rattle.history_making.specs.declared.entry.Counts.{Counts}
use Rattle.history_book.specs.declared.numbers.StampNumbers.{StampNumbers}
use Rattle.history_book.specs.declared.numbers.Numbers.{Numbers}
use Rattle.history_making.specs.Books.{Book}
use Rattle.history_making.specs.Orders.{key_cmp}

infixl 10 ◌>>=◌
-- the next step, where there is a value
abbrev pub ◌>>=◌ : {A B : Type 0} → Option A → (A → Option B) → Option B
o >>= f = option_and_then f o

abbrev pub last_of : {A : Type 0} → List A → Option A
last_of xs = slice_get xs (length xs - 1)

-- ---- what has a text

abbrev pub IsPlace : Option ℕ → Type 0
IsPlace place = IsSomeAnd place (λ p. p < 2 ^ 64)

abbrev pub IsPlaceOrNone : Option ℕ → Type 0
IsPlaceOrNone place = IfSome place (λ p. p < 2 ^ 64)

-- a read has a start and an end, a write a start, and a foreign write neither
abbrev pub HasPlaces : Kind → Option ℕ → Option ℕ → Type 0
HasPlaces Read start end = IsPlace start × IsPlace end
HasPlaces Write start end = IsPlace start × IsPlaceOrNone end
HasPlaces Foreign start end = (start ≡ None) × (end ≡ None)

-- an entry that a line can tell
pub record IsTold (e : Entry) : Type 0 where
  pub block : e.block < 2 ^ 32
  pub time : e.time < 2 ^ 64
  pub writer : e.writer < 2 ^ 32
  pub mark : 1 ≤ e.mark
  pub mark_fits : e.mark < 2 ^ 32
  pub client : e.client < 2 ^ 32
  pub places : HasPlaces e.kind e.start e.end
  pub bytes : IsBytes e.value
  pub some_bytes : 1 ≤ length e.value

-- an entry that may stand after these: its value has the length of the first one's, and it stands strictly above the last
pub record MayFollow (before : List Entry) (e : Entry) : Type 0 where
  pub told : IsTold e
  pub size : IfSome (slice_get before 0) (λ first. length e.value ≡ length first.value)
  pub above : IfSome (last_of before) (λ last. key_cmp last e ≡ Less)

pub record IsToldSpent (x : Spent) : Type 0 where
  pub client : x.client < 2 ^ 32
  pub start : x.start < 2 ^ 64
  pub end : x.end < 2 ^ 64

-- a spent write that may stand after these: it starts after the last
pub record MayFollowSpent (before : List Spent) (x : Spent) : Type 0 where
  pub told : IsToldSpent x
  pub later : IfSome (last_of before) (λ last. last.start < x.start)

abbrev pub AreToldEntries : List Entry → Type 0
AreToldEntries entries = (i : ℕ) (e : Entry) → slice_get entries i ≡ Some e → MayFollow (take i entries) e

abbrev pub AreToldSpent : List Spent → Type 0
AreToldSpent spent = (i : ℕ) (x : Spent) → slice_get spent i ≡ Some x → MayFollowSpent (take i spent) x

-- a read or a write that has an end
abbrev pub is_done : Kind → Option ℕ → Bool
is_done Foreign end = false
is_done kind end = is_some end

abbrev pub done_count : List Entry → ℕ
done_count entries = count_by (λ e. is_done e.kind e.end) entries

-- counts with numbers of 64 bits, of which those of what is done and spent are right
pub record AreCounts (entries : List Entry) (xs : List Spent) (c : Counts) : Type 0 where
  pub done_fits : c.done < 2 ^ 64
  pub spent_fits : c.spent < 2 ^ 64
  pub pending : c.pending < 2 ^ 64
  pub repaired : c.repaired < 2 ^ 64
  pub rounds : c.rounds < 2 ^ 64
  pub done : c.done ≡ done_count entries
  pub spent : c.spent ≡ length xs

-- a history that a report tells
pub record IsReport (book : Book) : Type 0 where
  pub entries : AreToldEntries book.entries
  pub spent : AreToldSpent book.spent
  pub counts : AreCounts book.entries book.spent book.counts

-- ---- what fields spell

abbrev pub field : List (List ℕ) → ℕ → List ℕ
field fields i = unwrap_or (slice_get fields i) []

abbrev pub kind_told : List ℕ → Option Kind
kind_told word = if bytes_eq word (codes "read") then Some Read else (if bytes_eq word (codes "write") then Some Write else (if bytes_eq word (codes "foreign") then Some Foreign else None))

-- three numbers with a dot between two
abbrev pub stamp_of_parts : List (List ℕ) → Option StampNumbers
stamp_of_parts (t ∷ c ∷ k ∷ []) = do
  time ← number_of (2 ^ 64) t
  writer ← number_of (2 ^ 32) c
  mark ← number_of (2 ^ 32) k
  Some (record { time = time; writer = writer; mark = mark })
stamp_of_parts _ = None

unfoldable pub stamp_told : List ℕ → Option StampNumbers
stamp_told field = stamp_of_parts (parts_at 46 field)

abbrev pub some_place : List ℕ → Option (Option ℕ)
some_place field = option_map Some (number_of (2 ^ 64) field)

abbrev pub no_place : List ℕ → Option (Option ℕ)
no_place field = if bytes_eq field (codes "-") then Some None else None

abbrev pub start_told : Kind → List ℕ → Option (Option ℕ)
start_told Foreign field = no_place field
start_told kind field = some_place field

abbrev pub end_told : Kind → List ℕ → Option (Option ℕ)
end_told Read field = some_place field
end_told Write field = if bytes_eq field (codes "-") then Some None else some_place field
end_told Foreign field = no_place field

-- the numbers of an entry line of this kind
unfoldable pub numbers_told : Kind → List ℕ → List ℕ → List ℕ → List ℕ → List ℕ → Option Numbers
numbers_told kind b s c st e = do
  block ← number_of (2 ^ 32) b
  stamp ← stamp_told s
  client ← number_of (2 ^ 32) c
  start ← start_told kind st
  end ← end_told kind e
  Some (record { block = block; stamp = stamp; client = client; start = start; end = end })

abbrev pub entry_with : Kind → Numbers → List ℕ → Entry
entry_with kind n value = record { block = n.block; time = n.stamp.time; writer = n.stamp.writer; mark = n.stamp.mark; kind = kind; client = n.client; start = n.start; end = n.end; value = value }

-- the numbers of an entry line, by its kind
abbrev pub numbers_in : List (List ℕ) → Option Numbers
numbers_in (b ∷ s ∷ w ∷ c ∷ st ∷ e ∷ v ∷ []) = do
  kind ← kind_told w
  numbers_told kind b s c st e
numbers_in _ = None

-- the entry that a line spells
abbrev pub entry_told : List (List ℕ) → Option Entry
entry_told (b ∷ s ∷ w ∷ c ∷ st ∷ e ∷ v ∷ []) = do
  kind ← kind_told w
  n ← numbers_told kind b s c st e
  value ← value_of v
  Some (entry_with kind n value)
entry_told _ = None

unfoldable pub spent_numbers : List ℕ → List ℕ → List ℕ → Option Spent
spent_numbers c s e = do
  client ← number_of (2 ^ 32) c
  start ← number_of (2 ^ 64) s
  end ← number_of (2 ^ 64) e
  Some (record { client = client; start = start; end = end })

-- the spent write that a line spells
abbrev pub spent_told : List (List ℕ) → Option Spent
spent_told (w ∷ c ∷ s ∷ e ∷ []) = spent_numbers c s e
spent_told _ = None

-- the field begins with the name, which ends in a `=`
abbrev pub has_name : List ℕ → List ℕ → Bool
has_name name field = bytes_eq (take (length name) field) name

-- the number after the name
unfoldable pub count_told : List ℕ → List ℕ → Option ℕ
count_told name field = if has_name name field then number_of (2 ^ 64) (drop (length name) field) else None

unfoldable pub count_numbers : List ℕ → List ℕ → List ℕ → List ℕ → List ℕ → Option Counts
count_numbers d s p r o = do
  done ← count_told (codes "done=") d
  spent ← count_told (codes "spent=") s
  pending ← count_told (codes "pending=") p
  repaired ← count_told (codes "repaired=") r
  rounds ← count_told (codes "rounds=") o
  Some (record { done = done; spent = spent; pending = pending; repaired = repaired; rounds = rounds })

-- the counts that a line spells
abbrev pub counts_told : List (List ℕ) → Option Counts
counts_told (w ∷ d ∷ s ∷ p ∷ r ∷ o ∷ []) = count_numbers d s p r o
counts_told _ = None

-- ---- what is wrong with an entry line

abbrev pub has_other_kind : List (List ℕ) → Bool
has_other_kind (b ∷ s ∷ w ∷ more) = is_none (kind_told w)
has_other_kind _ = false

abbrev pub is_zero_mark : Option Numbers → Bool
is_zero_mark None = false
is_zero_mark (Some n) = n.stamp.mark == 0

-- another length than that of the first entry's value
abbrev pub has_other_size : List Entry → List ℕ → Bool
has_other_size [] value = false
has_other_size (first ∷ more) value = not (length value == length first.value)

-- no value, an empty one, or one of another length
abbrev pub is_bad_value : List Entry → Option (List ℕ) → Bool
is_bad_value before None = true
is_bad_value before (Some value) = length value == 0 || has_other_size before value

abbrev pub stands_above : Option Entry → Entry → Bool
stands_above None e = true
stands_above (Some last) e = is_lt (key_cmp last e)

abbrev pub is_not_above : List Entry → Option Entry → Bool
is_not_above before None = false
is_not_above before (Some e) = not (stands_above (last_of before) e)

-- nothing is wrong with the entry's mark, value and place
pub record IsRightAfter (before : List Entry) (e : Entry) : Type 0 where
  pub mark : (e.mark == 0) ≡ false
  pub value : is_bad_value before (Some e.value) ≡ false
  pub above : stands_above (last_of before) e ≡ true

-- the causes of an entry line by its mark, its value and its place after these entries
abbrev pub value_causes : List Entry → Kind → Numbers → Option (List ℕ) → List (Bool × Cause)
value_causes before kind n value =
    (n.stamp.mark == 0, OutOfRange) ∷ (is_bad_value before value, BadValue) ∷ (is_not_above before (option_map (entry_with kind n) value), NotSorted) ∷ []

-- the causes of an entry line after these entries and spent writes
abbrev pub entry_causes : List Entry → List Spent → List (List ℕ) → List (Bool × Cause)
entry_causes entries spent fields =
    (not (is_empty spent), UnknownWord)
    ∷ (has_other_kind fields, UnknownWord)
    ∷ (has_wrong_count 7 fields, WrongCount)
    ∷ (is_none (numbers_in fields), BadNumber)
    ∷ (is_zero_mark (numbers_in fields), OutOfRange)
    ∷ (is_bad_value entries (value_of (field fields 6)), BadValue)
    ∷ (is_not_above entries (entry_told fields), NotSorted)
    ∷ []

-- ---- what is wrong with the other lines

abbrev pub is_not_later : Option Spent → Option Spent → Bool
is_not_later (Some last) (Some x) = nat_le x.start last.start
is_not_later _ _ = false

-- the causes of a line with the word of spent writes
abbrev pub spent_causes : List Spent → List (List ℕ) → List (Bool × Cause)
spent_causes spent fields =
    (has_wrong_count 4 fields, WrongCount) ∷ (is_none (spent_told fields), BadNumber) ∷ (is_not_later (last_of spent) (spent_told fields), NotSorted) ∷ []

-- the field is there, and begins otherwise
abbrev pub lacks_name : List ℕ → Option (List ℕ) → Bool
lacks_name name None = false
lacks_name name (Some field) = not (has_name name field)

abbrev pub has_other_name : List (List ℕ) → Bool
has_other_name fields =
    lacks_name (codes "done=") (slice_get fields 1) || lacks_name (codes "spent=") (slice_get fields 2) || lacks_name (codes "pending=") (slice_get fields 3) || lacks_name (codes "repaired=") (slice_get fields 4) || lacks_name (codes "rounds=") (slice_get fields 5)

abbrev pub are_other_counts : List Entry → List Spent → Option Counts → Bool
are_other_counts entries spent None = false
are_other_counts entries spent (Some c) = not (c.done == done_count entries) || not (c.spent == length spent)

abbrev pub end_causes : List Entry → List Spent → List (List ℕ) → List (Bool × Cause)
end_causes entries spent fields =
    (has_other_name fields, UnknownWord)
    ∷ (has_wrong_count 6 fields, WrongCount)
    ∷ (is_none (counts_told fields), BadNumber)
    ∷ (are_other_counts entries spent (counts_told fields), Count)
    ∷ []

-- ---- reports

abbrev pub begins_with_digit : List ℕ → Bool
begins_with_digit [] = false
begins_with_digit (c ∷ word) = nat_le 48 c && nat_lt c 58

-- what is wrong with a line after these entries and spent writes, by its first field
abbrev pub line_cause : List Entry → List Spent → List (List ℕ) → Option Cause
line_cause entries spent fields =
    if begins_with_digit (field fields 0) then first_of (entry_causes entries spent fields)
    else (if bytes_eq (field fields 0) (codes "spent") then first_of (spent_causes spent fields)
    else (if bytes_eq (field fields 0) (codes "end") then first_of (end_causes entries spent fields) else Some UnknownWord))

-- what lines tell
abbrev pub entries_in : List (List ℕ) → List Entry
entries_in lines = filter_map (λ line. entry_told (fields_of line)) lines

abbrev pub spent_in : List (List ℕ) → List Spent
spent_in lines = filter_map (λ line. spent_told (fields_of line)) lines

abbrev pub has_end : List (List ℕ) → Bool
has_end lines = list_any (λ line. bytes_eq (field (fields_of line) 0) (codes "end")) lines

abbrev pub report_cause : List (List ℕ) → List ℕ → Option Cause
report_cause before line = if has_end before then Some UnknownWord else line_cause (entries_in before) (spent_in before) (fields_of line)

-- the texts that are a history's
abbrev pub report : Grammar
report = record { cause = report_cause; may_end = has_end }
