-- The texts of messages, told by the forms of their fields.
use Rattle.std.specs.Prelude.{ℕ, ◌==◌, ◌%◌, ◌^◌, Bool, true, false, ◌&&◌, nat_le, List, [], ◌∷◌, length, codes, Option, Some, None, is_some}
use Rattle.std.specs.List.{list_any}
use Rattle.std.specs.Str.{bytes_eq}
use Rattle.text_lines.specs.Lines.{parts_at}
use Rattle.text_lines.specs.Fields.{number_of, value_of}
use Rattle.wire_forms.specs.declared.message.Body.{Body}
use Rattle.wire_forms.specs.declared.message.Body.TheVariants.{Ask, Answer}

-- ---- which body a message has

abbrev pub is_ask : Body → Bool
is_ask (Ask ask) = true
is_ask (Answer reply) = false

abbrev pub is_answer : Body → Bool
is_answer (Ask ask) = false
is_answer (Answer reply) = true

-- ---- what a field of a message's text may be

pub data Part : Type 0 where
  -- one of these words
  word : List (List ℕ) → Part
  -- a number below the limit of its type
  number : ℕ → Part
  -- a stamp: a time, a client and a digest's digits, with a point between two
  stamp : Part
  -- a value of a multiple of so many bytes, and of at most so many
  value : ℕ → ℕ → Part

abbrev pub is_digest : Option (List ℕ) → Bool
is_digest None = false
is_digest (Some bytes) = length bytes == 32

abbrev pub is_stamp : List (List ℕ) → Bool
is_stamp (time ∷ client ∷ digits ∷ []) = is_some (number_of (2 ^ 64) time) && is_some (number_of (2 ^ 32) client) && is_digest (value_of (120 ∷ digits))
is_stamp _ = false

abbrev pub is_value : ℕ → ℕ → Option (List ℕ) → Bool
is_value group most None = false
is_value group most (Some bytes) = (length bytes % group == 0) && nat_le (length bytes) most

-- the field is such a part
abbrev pub is_part : Part → List ℕ → Bool
is_part (word words) field = list_any (λ w. bytes_eq field w) words
is_part (number limit) field = is_some (number_of limit field)
is_part stamp field = is_stamp (parts_at 46 field)
is_part (value group most) field = is_value group most (value_of field)

-- the fields are such parts, one by one
abbrev pub are_parts : List Part → List (List ℕ) → Bool
are_parts [] [] = true
are_parts (part ∷ form) (field ∷ fields) = is_part part field && are_parts form fields
are_parts _ _ = false

-- ---- the forms

abbrev pub only : List ℕ → Part
only text = word (text ∷ [])

-- the fields of an ask of a client to a node, of an operation and a phase, for a block
abbrev pub ask : List Part → List Part
ask request = only (codes "ask") ∷ number (2 ^ 32) ∷ number (2 ^ 8) ∷ number (2 ^ 64) ∷ number (2 ^ 64) ∷ number (2 ^ 32) ∷ request

-- the fields of an answer to a client of a node, of an operation and a phase
abbrev pub answer : List Part → List Part
answer reply = only (codes "answer") ∷ number (2 ^ 32) ∷ number (2 ^ 8) ∷ number (2 ^ 64) ∷ number (2 ^ 64) ∷ reply

-- a stamp, a cross checksum and a fragment
abbrev pub version : List Part
version = stamp ∷ value 32 1024 ∷ value 1 16384 ∷ []

abbrev pub reasons : Part
reasons = word (codes "1" ∷ codes "2" ∷ codes "3" ∷ codes "4" ∷ codes "5" ∷ [])

abbrev pub ask_forms : List (List Part)
ask_forms =
    ask (only (codes "time") ∷ [])
    ∷ ask (only (codes "read") ∷ only (codes "all") ∷ [])
    ∷ ask (only (codes "read") ∷ only (codes "atmost") ∷ stamp ∷ [])
    ∷ ask (only (codes "read") ∷ only (codes "below") ∷ stamp ∷ [])
    ∷ ask (only (codes "write") ∷ version)
    ∷ []

abbrev pub answer_forms : List (List Part)
answer_forms =
    answer (only (codes "time") ∷ number (2 ^ 64) ∷ [])
    ∷ answer (only (codes "found") ∷ version)
    ∷ answer (only (codes "nothing") ∷ [])
    ∷ answer (only (codes "ack") ∷ [])
    ∷ answer (only (codes "refused") ∷ reasons ∷ [])
    ∷ []

-- the fields are of one of these forms
abbrev pub are_of : List (List Part) → List (List ℕ) → Bool
are_of forms fields = list_any (λ form. are_parts form fields) forms
