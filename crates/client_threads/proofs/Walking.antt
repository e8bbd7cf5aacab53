-- What a loop made of the items so far.
use Rattle.std.proofs.Common.{◌≡◌, ℕ, ◌+◌, ◌<◌, List, [], ◌∷◌, ◌++◌, Option, map, take, length, get_or, refl, sym, ap, ◌∙◌, append_assoc}
use Rattle.std.specs.Prelude.{option_to_list}
use Rattle.std.specs.declared.option.Option.TheVariants.{None, Some}
use Rattle.std.specs.List.{All, cons_option, filter_map, flat_map}
use Rattle.std.proofs.lemmas.List.{map_push, take_more, append-nil}
use Rattle.std.proofs.lemmas.List.Concat.{flat_map-append}
use Rattle.std.proofs.lemmas.List.Elements.{All-head, All-tail, filter_map-append}

-- what was made of one item more is at the end
pub made_more : {A B : Type 0} (f : A → B) (start made more : List B) (done : List A) (x : A) (y : B) → more ≡ made ++ y ∷ [] → made ≡ start ++ map f done → y ≡ f x → more ≡ start ++ map f (done ++ x ∷ [])
made_more f start made more done x y is was same =
    is ∙ ap (λ l. l ++ y ∷ []) was ∙ ap (λ z. (start ++ map f done) ++ z ∷ []) same ∙ append_assoc start (map f done) (f x ∷ []) ∙ ap (λ l. start ++ l) (sym (map_push f done x))

-- what holds of all holds of one in the middle
pub all_mid : {X : Type 0} (P : X → Type 0) (xs ys : List X) (x : X) → All P (xs ++ x ∷ ys) → P x
all_mid P [] ys x a = All-head P x ys a
all_mid P (z ∷ xs) ys x a = all_mid P xs ys x (All-tail P z (xs ++ x ∷ ys) a)

cons_one : {B : Type 0} (o : Option B) → cons_option o [] ≡ option_to_list o
cons_one None = refl
cons_one (Some y) = refl

-- what one item more adds that may give something
pub filter_more : {A B C : Type 0} (g : A → C) (f : C → Option B) (xs : List A) (i : ℕ) (d : A) → i < length xs
    → filter_map f (map g (take (i + 1) xs)) ≡ filter_map f (map g (take i xs)) ++ option_to_list (f (g (get_or xs i d)))
filter_more {A} {B} {C} g f xs i d l =
    ap (λ (ys : List A). filter_map f (map g ys)) (take_more xs i d l) ∙ ap (filter_map f) (map_push g (take i xs) (get_or xs i d))
    ∙ filter_map-append f (map g (take i xs)) (g (get_or xs i d) ∷ []) ∙ ap (λ (ys : List B). filter_map f (map g (take i xs)) ++ ys) (cons_one (f (g (get_or xs i d))))

-- what was made of what one item more may give
pub walked_more : {B : Type 0} (start made more walked next : List B) (o : Option B) → more ≡ made ++ option_to_list o → made ≡ start ++ walked → next ≡ walked ++ option_to_list o → more ≡ start ++ next
walked_more {B} start made more walked next o is was same =
    is ∙ ap (λ (l : List B). l ++ option_to_list o) was ∙ append_assoc start walked (option_to_list o) ∙ ap (λ (l : List B). start ++ l) (sym same)

-- what one item more adds that gives a list
pub flat_more : {A B : Type 0} (f : A → List B) (xs : List A) (i : ℕ) (d : A) → i < length xs → flat_map f (take (i + 1) xs) ≡ flat_map f (take i xs) ++ f (get_or xs i d)
flat_more {A} {B} f xs i d l =
    ap (flat_map f) (take_more xs i d l) ∙ flat_map-append f (take i xs) (get_or xs i d ∷ []) ∙ ap (λ (ys : List B). flat_map f (take i xs) ++ ys) (append-nil (f (get_or xs i d)))
