-- Pieces of a text, one after the other.
use Rattle.std.proofs.Common.{◌≡◌, ℕ, ◌+◌, ◌<◌, ◌≤◌, ◌/◌, ◌%◌, List, [], ◌∷◌, ◌++◌, take, length, Some, Result, refl, sym, ap, ◌∙◌, append_assoc}
use Rattle.std.specs.Prelude.{OnOk, slice_get, slice_index}
use Rattle.std.proofs.lemmas.List.{append-nil, take_more, take_all}
use Rattle.std.proofs.lemmas.Option.{slice_get_within, get_or_from_slice_get}
use Rattle.std.proofs.lemmas.List.Concat.{flat_map-append}
use Rattle.std.proofs.lemmas.Result.{on_ok_weaker}
use Rattle.hex.specs.Hex.{encode_lower, encode_with, lower_digits}
use Rattle.cross_sum.specs.Digest.{flat}
use Rattle.message_texts.specs.Texts.{spaced, sum_text}

pub ruleset joining = (append_assoc, append-nil)

-- fields after a first one
pub after_field : {T E : Type 0} (r : Result T E) (old mid new field : List ℕ) (fields : List (List ℕ)) → mid ≡ old ++ spaced (field ∷ []) → OnOk r (new ≡ mid ++ spaced fields) → OnOk r (new ≡ old ++ spaced (field ∷ fields))
unfolding spaced
after_field r old mid new field fields e h =
    on_ok_weaker r (λ n. n ∙ ap (λ (t : List ℕ). t ++ spaced fields) e ∙ simp (append_assoc, append-nil)) h

pub encode-append : (a b : List ℕ) → encode_lower (a ++ b) ≡ encode_lower a ++ encode_lower b
unfolding encode_with
encode-append [] b = refl
encode-append (x ∷ a) b = ap (λ (t : List ℕ). slice_index lower_digits (x / 16) ∷ slice_index lower_digits (x % 16) ∷ t) (encode-append a b)

-- one digest more
pub next_digest : (old text : List ℕ) (sum : List (List ℕ)) (i : ℕ) (d : List ℕ) → slice_get sum i ≡ Some d → text ≡ old ++ (32 ∷ 120 ∷ encode_lower (flat (take i sum)))
    → text ++ encode_lower d ≡ old ++ (32 ∷ 120 ∷ encode_lower (flat (take (i + 1) sum)))
next_digest old text sum i d at e =
    let within : i < length sum = slice_get_within sum i d at in
    let taken : take (i + 1) sum ≡ take i sum ++ d ∷ [] = take_more sum i [] within ∙ ap (λ (x : List ℕ). take i sum ++ x ∷ []) (get_or_from_slice_get sum i d [] at) in
    let joined : flat (take (i + 1) sum) ≡ flat (take i sum) ++ d = ap flat taken ∙ flat_map-append (λ x. x) (take i sum) (d ∷ []) ∙ ap (λ (x : List ℕ). flat (take i sum) ++ x) (append-nil d) in
    ap (λ (x : List ℕ). x ++ encode_lower d) e
    ∙ append_assoc old (32 ∷ 120 ∷ encode_lower (flat (take i sum))) (encode_lower d)
    ∙ ap (λ (x : List ℕ). old ++ (32 ∷ 120 ∷ x)) (sym (ap encode_lower joined ∙ encode-append (flat (take i sum)) d))

-- all digests, in one field
pub all_digests : (old text : List ℕ) (sum : List (List ℕ)) (i : ℕ) → length sum ≤ i → text ≡ old ++ (32 ∷ 120 ∷ encode_lower (flat (take i sum))) → text ≡ old ++ spaced (sum_text sum ∷ [])
unfolding spaced
all_digests old text sum i le e = e ∙ ap (λ (x : List (List ℕ)). old ++ (32 ∷ 120 ∷ encode_lower (flat x))) (take_all i sum le) ∙ ap (λ (x : List ℕ). old ++ x) (sym (append-nil (32 ∷ sum_text sum)))
