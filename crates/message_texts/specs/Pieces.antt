-- The forms of messages' texts, piece by piece.
use Rattle.std.specs.Prelude.{◌≡◌, ℕ, ◌%◌, ◌^◌, ◌≤◌, Bool, true, false, not, ◌&&◌, ◌||◌, ◌==◌, nat_le, nat_lt, if◌then◌else◌, List, [], ◌∷◌, length, codes, decimal, ◌⊎◌}
use Rattle.std.specs.List.{AllPass, list_all}
use Rattle.message_texts.specs.Longest.{Then}
use Rattle.message_texts.specs.declared.piece.Piece.{Piece}
use Rattle.message_texts.specs.declared.piece.Piece.TheVariants.{Byte, Number, Digits}

-- a hexadecimal digit in lower case
abbrev pub is_low_digit : ℕ → Bool
is_low_digit c = (nat_le 48 c && nat_le c 57) || (nat_le 97 c && nat_le c 102)

-- the piece has this text
abbrev pub IsPiece : Piece → List ℕ → Type 0
IsPiece (Byte b) text = text ≡ b ∷ []
IsPiece (Number most) text = (n : ℕ) × (n ≤ most) × (text ≡ decimal n)
IsPiece (Digits group least most) text = AllPass is_low_digit text × (least ≤ length text) × (length text ≤ most) × (length text % group ≡ 0)

-- which piece a letter of a form stands for; any other byte stands for itself
abbrev pub piece_of : ℕ → Piece
piece_of letter =
    if letter == 67 then Number 4294967295
    else (if letter == 73 then Number 255
    else (if letter == 78 then Number 18446744073709551615
    else (if letter == 72 then Digits 64 64 64
    else (if letter == 83 then Digits 64 0 2048
    else (if letter == 70 then Digits 2 0 32768
    else Byte letter)))))

-- the form has this text: its pieces one after the other
abbrev pub IsForm : List ℕ → List ℕ → Type 0
IsForm [] text = text ≡ []
IsForm (letter ∷ form) text = Then (IsPiece (piece_of letter)) (IsForm form) text

-- one of the forms has this text
abbrev pub IsOfForms : List (List ℕ) → List ℕ → Type 0
IsOfForms [] text = ⊥
IsOfForms (form ∷ forms) text = IsForm form text ⊎ IsOfForms forms text

-- the piece is no digit
abbrev pub ends_digits : Piece → Bool
ends_digits (Byte b) = not (is_low_digit b)
ends_digits (Number most) = false
ends_digits (Digits group least most) = false

-- nothing of the form begins with a digit
abbrev pub has_no_digit_first : List ℕ → Bool
has_no_digit_first [] = true
has_no_digit_first (letter ∷ form) = ends_digits (piece_of letter)

-- the number fits its type; the most digits are a multiple of the group, and no fewer than the least
abbrev pub is_fillable : Piece → Bool
is_fillable (Byte b) = true
is_fillable (Number most) = nat_lt most (2 ^ 64)
is_fillable (Digits group least most) = nat_lt 0 group && nat_le least most && (most % group == 0)

-- where the piece ends before a text of the form is seen there
abbrev pub is_told_apart : Piece → List ℕ → Bool
is_told_apart (Byte b) form = true
is_told_apart (Number most) form = has_no_digit_first form
is_told_apart (Digits group least most) form = has_no_digit_first form

-- each piece can be filled, and is told apart from what follows
abbrev pub is_sound : List ℕ → Bool
is_sound [] = true
is_sound (letter ∷ form) = is_fillable (piece_of letter) && is_told_apart (piece_of letter) form && is_sound form

-- each form is sound
abbrev pub are_sound : List (List ℕ) → Bool
are_sound forms = list_all is_sound forms

-- the forms of messages' texts
abbrev pub message_forms : List (List ℕ)
message_forms =
    codes "ask C I N N C time"
    ∷ codes "ask C I N N C read all"
    ∷ codes "ask C I N N C read atmost N.C.H"
    ∷ codes "ask C I N N C read below N.C.H"
    ∷ codes "ask C I N N C write N.C.H xS xF"
    ∷ codes "answer C I N N time N"
    ∷ codes "answer C I N N found N.C.H xS xF"
    ∷ codes "answer C I N N nothing"
    ∷ codes "answer C I N N ack"
    ∷ codes "answer C I N N refused 1"
    ∷ codes "answer C I N N refused 2"
    ∷ codes "answer C I N N refused 3"
    ∷ codes "answer C I N N refused 4"
    ∷ codes "answer C I N N refused 5"
    ∷ []
