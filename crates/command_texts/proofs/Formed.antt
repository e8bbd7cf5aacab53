-- What is said of each byte of a string, and of each digest.
use Rattle.std.proofs.Common.{◌≡◌, ℕ, zero, suc, ◌+◌, ◌<◌, List, [], ◌∷◌, ◌++◌, length, take, get_or, arith, sym, subst}
use Rattle.std.proofs.lemmas.List.{take_more}
use Rattle.std.specs.Prelude.{slice_index}
use Rattle.std.specs.List.{All, AllByRecursion}
use Rattle.std.proofs.lemmas.List.Elements.{recursion_from_All, All-from_recursion}
use Rattle.cross_sum.specs.Digest.{flat}
use Rattle.text_lines.specs.Fields as text
use Rattle.message_texts.specs.Texts.{IsBytes, IsDigest}

each_byte : (xs : List ℕ) → AllByRecursion (λ b. b < 256) xs → (i : ℕ) → slice_index xs i < 256
each_byte [] h i = omega arith
each_byte (x ∷ xs) h zero = h.0
each_byte (x ∷ xs) h (suc i) = each_byte xs h.1 i

pub value_bytes : (xs : List ℕ) → AllByRecursion (λ b. b < 256) xs → text.IsBytes xs
unfolding text.IsBytes
value_bytes xs h = each_byte xs h

both_bytes : (xs ys : List ℕ) → AllByRecursion (λ b. b < 256) xs → AllByRecursion (λ b. b < 256) ys → AllByRecursion (λ b. b < 256) (xs ++ ys)
both_bytes [] ys h k = k
both_bytes (x ∷ xs) ys h k = (h.0, both_bytes xs ys h.1 k)

flat_bytes : (sum : List (List ℕ)) → AllByRecursion IsDigest sum → AllByRecursion (λ b. b < 256) (flat sum)
flat_bytes [] h = tt
flat_bytes (d ∷ sum) h = both_bytes d (flat sum) (recursion_from_All (λ b. b < 256) d h.0.bytes) (flat_bytes sum h.1)

lengths : (sum : List (List ℕ)) → AllByRecursion IsDigest sum → AllByRecursion (λ d. length d ≡ 32) sum
lengths [] h = tt
lengths (d ∷ sum) h = (h.0.count, lengths sum h.1)

pub sum_bytes : (sum : List (List ℕ)) → AllByRecursion IsDigest sum → IsBytes (flat sum)
sum_bytes sum h = All-from_recursion (λ b. b < 256) (flat sum) (flat_bytes sum h)

pub sum_lengths : (sum : List (List ℕ)) → AllByRecursion IsDigest sum → All (λ d. length d ≡ 32) sum
sum_lengths sum h = All-from_recursion (λ d. length d ≡ 32) sum (lengths sum h)

digest_push : (ds : List (List ℕ)) (d : List ℕ) → AllByRecursion IsDigest ds → IsDigest d → AllByRecursion IsDigest (ds ++ d ∷ [])
digest_push [] d h is = (is, tt)
digest_push (x ∷ ds) d h is = (h.0, digest_push ds d h.1 is)

pub digest_more : (xs : List (List ℕ)) (k : ℕ) → k < length xs → AllByRecursion IsDigest (take k xs) → IsDigest (get_or xs k []) → AllByRecursion IsDigest (take (k + 1) xs)
digest_more xs k l h is = subst (AllByRecursion IsDigest) (sym (take_more xs k [] l)) (digest_push (take k xs) (get_or xs k []) h is)
