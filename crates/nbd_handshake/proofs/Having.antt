-- Each input has an end.
use Rattle.std.proofs.Common.{◌≡◌, ◌≢◌, ◌⊎◌, ℕ, zero, suc, ◌+◌, ◌<◌, ◌≤◌, Bool, true, false, List, [], ◌∷◌, ◌++◌, length, take, drop, refl, sym, ◌∙◌, ap, subst, arith, inl, inr, append_assoc, length-append, take-take, Ok, Err}
use Rattle.std.specs.Int.{w32, from_be_bytes}
use Rattle.std.specs.List.{All, concat}
use Rattle.std.proofs.lemmas.Bool.{cases_eq, cases_lt}
use Rattle.std.proofs.lemmas.List.{take-append-drop, length-take-le}
use Rattle.std.proofs.lemmas.List.Elements.{All-append, All-cons, All-nil}
use Rattle.nbd_handshake.specs.declared.course.Course.{Course}
use Rattle.nbd_handshake.specs.declared.course.Course.TheVariants as courses
use Rattle.nbd_handshake.specs.declared.ending.Agreement.TheVariants.{Transmission, Departure}
use Rattle.nbd_handshake.specs.declared.ending.HandshakeFault.TheVariants.{UnknownFlags, BadMagic, Cut, UnknownExport, TooManyOptions}
use Rattle.nbd_handshake.specs.Numbers.{option_magic, most_options}
use Rattle.nbd_handshake.specs.Options.{flags_of, are_known, head_len, data_len, option_of, course_of, IsOption, IsPart}
use Rattle.nbd_handshake.specs.Handshakes.{End, Goes, GoOn, AreOpen, EndsWith, AreFlags, IsRest, EndsSo}
use Rattle.nbd_handshake.proofs.Parts.{same_len, is_short}
use Rattle.nbd_handshake.proofs.Going.{cut_of, concat_more, all_more}

-- an end that the input has
abbrev HasEnd : List ℕ → Type 0
HasEnd input = (end : End) × EndsSo end input

are_same_or_not : (xs ys : List ℕ) → (xs ≡ ys) ⊎ (xs ≢ ys)
are_same_or_not [] [] = inl refl
are_same_or_not [] (y ∷ ys) = inr (λ e. cc)
are_same_or_not (x ∷ xs) [] = inr (λ e. cc)
are_same_or_not (x ∷ xs) (y ∷ ys) = elim (cases_eq x y) [
  | inr other ↦ inr (λ e. other cc)
  | inl same ↦ elim (are_same_or_not xs ys) [
    | inl rest ↦ inl (ap (λ z. z ∷ xs) same ∙ ap (λ zs. y ∷ zs) rest)
    | inr other ↦ inr (λ e. other cc)
  ]
]

-- ---- behind known flags
module _ (flags : List ℕ) (are : AreFlags flags) where
  module _ (options : List (List ℕ)) (rest : List ℕ) (whole : All IsOption options) (few : length options ≤ most_options) where
    here : (end : End) → IsRest end flags options rest → HasEnd (flags ++ (concat options ++ rest))
    here end is = (end, record { flags = flags; options = options; rest = rest; follow = inl are; whole = whole; few = few; told = refl; last = is })

  module _ (options : List (List ℕ)) (whole : All IsOption options) (more : GoOn options) (few : length options < most_options) where
    open_here : AreOpen options
    open_here = record { more = more; few = few }

    cut_here : (rest : List ℕ) → 0 < length rest → IsPart rest → HasEnd (flags ++ (concat options ++ rest))
    cut_here rest some part =
        here options rest whole (omega (arith, few)) (Err (Cut (length flags + length (concat options)))) (refl, open_here, some, cut_of flags rest are part)

    -- one of these ends it
    with_last : (bytes rest : List ℕ) → IsOption bytes → (end : End) → IsRest end flags (options ++ bytes ∷ []) rest → HasEnd (flags ++ (concat options ++ (bytes ++ rest)))
    with_last bytes rest is end last =
        let e = here (options ++ bytes ∷ []) rest (all_more options bytes whole is) (omega (arith, few, length-append options (bytes ∷ []))) end last in
        subst (λ z. HasEnd (flags ++ z)) (ap (λ z. z ++ rest) (concat_more options bytes) ∙ append_assoc (concat options) bytes rest) e

    last_of : (course : Course) (bytes : List ℕ) → Goes course bytes → EndsWith course (options ++ bytes ∷ []) (length (concat options))
    last_of course bytes goes = record { before = options; last = bytes; all = refl; more = more; goes = goes; begins = refl }

  -- the option with which bytes begin that are long enough
  module _ (rest : List ℕ) (magic : take 8 rest ≡ option_magic) (all : head_len + data_len rest ≤ length rest) where
    abbrev front : List ℕ
    front = take (head_len + data_len rest) rest

    abbrev back : List ℕ
    back = drop (head_len + data_len rest) rest

    parts : front ++ back ≡ rest
    parts = take-append-drop (head_len + data_len rest) rest

    front_len : length front ≡ head_len + data_len rest
    front_len = length-take-le (head_len + data_len rest) rest all

    front_option : IsOption front
    front_option =
        let same : data_len front ≡ data_len rest = sym (same_len front back (omega (arith, front_len))) ∙ ap data_len parts in
        record { magic = take-take 8 (head_len + data_len rest) rest (omega arith) ∙ magic; size = omega (arith, front_len, same) }

  -- what stands behind options that all go on
  looked : (options : List (List ℕ)) (rest : List ℕ) → 0 < length rest → All IsOption options → GoOn options → length options < most_options
      → ((bytes more : List ℕ) → IsOption bytes → Goes courses.More bytes → HasEnd (flags ++ (concat (options ++ bytes ∷ []) ++ more))) → HasEnd (flags ++ (concat options ++ rest))
  looked options rest some whole more few next = elim (cases_lt (length rest) 8) [
    | inl short ↦ cut_here options whole more few rest some (is_short rest (omega (arith, short)) (λ l. absurd (omega (arith, l, short))))
    | inr eight ↦ elim (are_same_or_not (take 8 rest) option_magic) [
      | inr wrong ↦ here options rest whole (omega (arith, few)) (Err (BadMagic (4 + length (concat options)))) (refl, are, record { more = more; few = few }, eight, wrong)
      | inl magic ↦ elim (cases_lt (length rest) head_len) [
        | inl short ↦ cut_here options whole more few rest some (is_short rest short (λ l. magic))
        | inr long ↦ elim (cases_lt (length rest) (head_len + data_len rest)) [
          | inl short ↦ cut_here options whole more few rest some (record { magic = λ l. magic; short = λ l. short })
          | inr all ↦ subst (λ z. HasEnd (flags ++ (concat options ++ z))) (parts rest magic all)
              (by_course (front rest magic all) (back rest magic all) (front_option rest magic all) (course_of (option_of (front rest magic all))) refl)
        ]
      ]
    ]
  ]
    where
      by_course : (bytes behind : List ℕ) (is : IsOption bytes) (c : Course) → Goes c bytes → HasEnd (flags ++ (concat options ++ (bytes ++ behind)))
      by_course bytes behind is courses.More goes =
          subst (λ z. HasEnd (flags ++ z)) (ap (λ z. z ++ behind) (concat_more options bytes) ∙ append_assoc (concat options) bytes behind) (next bytes behind is goes)
      by_course bytes behind is courses.Transmit goes =
          with_last options whole more few bytes behind is (Ok Transmission) (length (concat options), last_of options whole more few courses.Transmit bytes goes)
      by_course bytes behind is courses.Leave goes =
          with_last options whole more few bytes behind is (Ok Departure) (inl (length (concat options), last_of options whole more few courses.Leave bytes goes))
      by_course bytes behind is courses.Unknown goes =
          with_last options whole more few bytes behind is (Err (UnknownExport (4 + length (concat options)))) (length (concat options), refl, last_of options whole more few courses.Unknown bytes goes)

  found : (fuel : ℕ) (options : List (List ℕ)) (rest : List ℕ) → All IsOption options → GoOn options → fuel + length options ≡ most_options → HasEnd (flags ++ (concat options ++ rest))
  found zero options rest whole more full =
      here options rest whole (omega (arith, full)) (Err TooManyOptions) (omega (arith, full), more)
  found (suc k) options [] whole more full =
      let few : length options < most_options = omega (arith, full) in
      here options [] whole (omega (arith, few)) (Ok Departure) (inr (record { more = more; few = few }, refl))
  found (suc k) options (x ∷ xs) whole more full =
      looked options (x ∷ xs) (omega arith) whole more (omega (arith, full))
      (λ bytes behind is goes. found k (options ++ bytes ∷ []) behind (all_more options bytes whole is)
      (All-append (Goes courses.More) options (bytes ∷ []) more (All-cons (Goes courses.More) bytes [] goes (All-nil (Goes courses.More)))) (omega (arith, full, length-append options (bytes ∷ []))))

-- ---- from the first byte on
without_flags : (input : List ℕ) (end : End) → IsRest end [] [] input → HasEnd input
without_flags input end is = (end, record { flags = []; options = []; rest = input; follow = inr (refl, refl); whole = All-nil IsOption; few = omega arith; told = refl; last = is })

open_at_first : AreOpen []
open_at_first = record { more = All-nil (Goes courses.More); few = omega arith }

by_flags : (input : List ℕ) → 4 ≤ length input → (known : Bool) → are_known (flags_of input) ≡ known → HasEnd input
by_flags input long false is = without_flags input (Err UnknownFlags) (refl, long, is)
by_flags input long true is =
    let size = length-take-le 4 input long in
    let known : are_known (flags_of (take 4 input)) ≡ true = ap (λ xs. are_known (from_be_bytes w32 xs)) (take-take 4 4 input (omega arith)) ∙ is in
    subst HasEnd (take-append-drop 4 input) (found (take 4 input) (record { size = size; known = known }) 256 [] (drop 4 input) (All-nil IsOption) (All-nil (Goes courses.More)) refl)

pub some_end : (input : List ℕ) → HasEnd input
some_end [] = without_flags [] (Ok Departure) (inr (open_at_first, refl))
some_end (x ∷ xs) = elim (cases_lt (length (x ∷ xs)) 4) [
  | inl short ↦ without_flags (x ∷ xs) (Err (Cut 0)) (refl, open_at_first, omega arith, short)
  | inr long ↦ by_flags (x ∷ xs) long (are_known (flags_of (x ∷ xs))) refl
]
