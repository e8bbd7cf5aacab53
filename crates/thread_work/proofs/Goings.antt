-- Thread states that went by one word were all worked, or all stay as they were.
use Rattle.std.proofs.Common.{◌≡◌, ℕ, suc, Bool, true, false, List, [], ◌∷◌, length, refl, sym, ◌∙◌, arith}
use Rattle.std.specs.declared.option.Option.TheVariants.{Some}
use Rattle.std.specs.Prelude.{slice_get}
use Rattle.thread_work.specs.Pairwise.{Beside}
use Rattle.thread_work.specs.Starts.{GoesBy}
use Rattle.thread_work.proofs.lemmas.Places.{beside_right}

-- what is so through the items between
pub through : {X Y Z : Type 0} (R : X → Y → Type 0) (T : X → Z → Type 0) (xs : List X) (ys : List Y) (zs : List Z) → Beside (λ (i : ℕ) (x : X) (y : Y). R x y) xs ys → Beside (λ (i : ℕ) (y : Y) (z : Z). (x : X) → R x y → T x z) ys zs
    → Beside (λ (i : ℕ) (x : X) (z : Z). T x z) xs zs
through R T xs ys zs one two = record {
  count = one.count ∙ two.count;
  each = λ i x z a b. let y = beside_right (λ i x y. R x y) xs ys i x one a in two.each i y.0 z y.1 b x y.2;
}

same_lists : {A : Type 0} (xs ys : List A) → length xs ≡ length ys → ((i : ℕ) (x y : A) → slice_get xs i ≡ Some x → slice_get ys i ≡ Some y → y ≡ x) → ys ≡ xs
same_lists [] [] count f = refl
same_lists [] (y ∷ ys) count f = absurd (omega arith)
same_lists (x ∷ xs) [] count f = absurd (omega arith)
same_lists (x ∷ xs) (y ∷ ys) count f =
    let head : y ≡ x = f 0 x y refl refl in
    let tail : ys ≡ xs = same_lists xs ys (omega arith) (λ i a b p q. f (suc i) a b p q) in
    cc

pub by_same_word : {P : Type 0} (works : P → P → Type 0) (word heard : Bool) (p q : P) → word ≡ heard → GoesBy works heard p q → GoesBy works word p q
by_same_word works word heard p q same by = record { went = λ go. by.went (sym same ∙ go); stayed = λ stay. by.stayed (sym same ∙ stay) }

module _ {P : Type 0} (works : P → P → Type 0) (word : Bool) (states ended : List P) (by : Beside (λ (i : ℕ) (p q : P). GoesBy works word p q) states ended) where
  pub all_worked : word ≡ true → Beside (λ (i : ℕ) (p q : P). works p q) states ended
  all_worked go = record { count = by.count; each = λ i x y a b. (by.each i x y a b).went go }

  pub all_same : word ≡ false → ended ≡ states
  all_same stay = same_lists states ended by.count (λ i x y a b. (by.each i x y a b).stayed stay)
