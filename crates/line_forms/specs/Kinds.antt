-- What a field of a line may be, and what is wrong with a line whose form says so of each field.
use Rattle.std.specs.Prelude.{ℕ, ◌==◌, ◌+◌, ◌^◌, Bool, true, false, not, ◌&&◌, ◌||◌, nat_lt, nat_le, List, [], ◌∷◌, length, Option, Some, None, is_none}
use Rattle.std.specs.List.{list_any}
use Rattle.std.specs.Str.{bytes_eq}
use Rattle.text_lines.specs.Fields.{number_of, value_of}
use Rattle.line_forms.specs.Tables.{first_of}
use Rattle.line_forms.specs.declared.cause.Cause.{Cause}
use Rattle.line_forms.specs.declared.cause.Cause.TheVariants.{UnknownWord, WrongCount, BadNumber, OutOfRange, BadValue}

pub data Kind : Type 0 where
  -- one of these fixed words
  word : List (List ℕ) → Kind
  -- a number below the limit of its type, which is to be from the second to below the third
  number : ℕ → ℕ → ℕ → Kind
  -- a value of so many bytes
  value : ℕ → Kind
  -- a value of any length
  bytes : Kind

-- ---- the kinds by name

-- a number of 32 bits
abbrev pub any_u32 : Kind
any_u32 = number (2 ^ 32) 0 (2 ^ 32)

-- a number of 64 bits: a time, a message of the pool, a place or length of a device
abbrev pub any_u64 : Kind
any_u64 = number (2 ^ 64) 0 (2 ^ 64)

abbrev pub client : Kind
client = number (2 ^ 32) 1 1001

-- a node of n
abbrev pub node : ℕ → Kind
node n = number (2 ^ 8) 0 n

-- a block of so many
abbrev pub block : ℕ → Kind
block blocks = number (2 ^ 32) 0 blocks

-- a count of at most so many
abbrev pub count_to : ℕ → Kind
count_to most = number (2 ^ 64) 0 (most + 1)

-- ---- what is wrong with one field

-- none of the fixed words
abbrev pub is_other_word : Kind → List ℕ → Bool
is_other_word (word words) field = not (list_any (λ w. bytes_eq field w) words)
is_other_word (number limit from end) field = false
is_other_word (value len) field = false
is_other_word bytes field = false

-- no number of its type
abbrev pub is_bad_number : Kind → List ℕ → Bool
is_bad_number (word words) field = false
is_bad_number (number limit from end) field = is_none (number_of limit field)
is_bad_number (value len) field = false
is_bad_number bytes field = false

abbrev pub is_beyond : ℕ → ℕ → Option ℕ → Bool
is_beyond from end None = false
is_beyond from end (Some n) = not (nat_le from n && nat_lt n end)

-- a number that may not stand here
abbrev pub is_outside : Kind → List ℕ → Bool
is_outside (word words) field = false
is_outside (number limit from end) field = is_beyond from end (number_of limit field)
is_outside (value len) field = false
is_outside bytes field = false

abbrev pub has_other_length : ℕ → Option (List ℕ) → Bool
has_other_length len None = true
has_other_length len (Some v) = not (length v == len)

-- no value, or one of another length
abbrev pub is_bad_value : Kind → List ℕ → Bool
is_bad_value (word words) field = false
is_bad_value (number limit from end) field = false
is_bad_value (value len) field = has_other_length len (value_of field)
is_bad_value bytes field = is_none (value_of field)

-- ---- what is wrong with the fields of a line

-- the test holds of some field, by its kind
abbrev pub some_field : (Kind → List ℕ → Bool) → List Kind → List (List ℕ) → Bool
some_field test [] fields = false
some_field test (kind ∷ form) [] = false
some_field test (kind ∷ form) (field ∷ fields) = test kind field || some_field test form fields

-- a field is empty where a space stands at an end of the line or beside another
abbrev pub has_empty_field : List (List ℕ) → Bool
has_empty_field fields = list_any (λ field. length field == 0) fields

abbrev pub has_wrong_count : ℕ → List (List ℕ) → Bool
has_wrong_count count fields = not (length fields == count) || has_empty_field fields

-- the causes of a line of this form, in their order
abbrev pub form_causes : List Kind → List (List ℕ) → List (Bool × Cause)
form_causes form fields =
    (some_field is_other_word form fields, UnknownWord)
    ∷ (has_wrong_count (length form) fields, WrongCount)
    ∷ (some_field is_bad_number form fields, BadNumber)
    ∷ (some_field is_outside form fields, OutOfRange)
    ∷ (some_field is_bad_value form fields, BadValue)
    ∷ []

abbrev pub form_cause : List Kind → List (List ℕ) → Option Cause
form_cause form fields = first_of (form_causes form fields)
