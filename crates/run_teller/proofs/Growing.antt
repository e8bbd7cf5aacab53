-- Lists and texts that grow.
use Rattle.std.proofs.Common.{◌≡◌, ℕ, zero, suc, ◌+◌, List, [], ◌∷◌, ◌++◌, sym, ap, ◌∙◌, append_assoc, add-one, add-zero, arith}
use Rattle.std.specs.List.{flat_map, range_with_len}
use Rattle.std.proofs.lemmas.List.{append-nil}
use Rattle.std.proofs.lemmas.List.Concat.{flat_map-append}
use Rattle.wire_forms.specs.Liars.{Liars}
use Rattle.picture_svg.specs.declared.picture.Lifeline.{Lifeline}
use Rattle.run_teller.specs.Columns.{column_if_any, clients_among}

-- one number more
range_more : (from count : ℕ) → range_with_len from (count + 1) ≡ range_with_len from count ++ (from + count) ∷ []
range_more from zero = ap (λ (k : ℕ). k ∷ []) (sym (add-zero from))
range_more from (suc count) =
    let last : from + 1 + count ≡ from + suc count = omega arith in
    rw add-one
    (ap (λ (xs : List ℕ). from ∷ xs)
    (ap (range_with_len (from + 1)) (sym (add-one count)) ∙ range_more (from + 1) count ∙ ap (λ (k : ℕ). range_with_len (from + 1) count ++ k ∷ []) last))

-- one client more
pub client_more : (liars : Liars) (named : List ℕ) (count client : ℕ) (old now next : List Lifeline) → 1 + count ≡ client → now ≡ old ++ clients_among count liars named → next ≡ now ++ column_if_any liars named client
    → next ≡ old ++ clients_among (count + 1) liars named
client_more liars named count client old now next e h k =
    k ∙ ap (λ (x : List Lifeline). x ++ column_if_any liars named client) h ∙ append_assoc old (clients_among count liars named) (column_if_any liars named client)
    ∙ ap (λ (x : List Lifeline). old ++ x)
    (ap (λ (x : List Lifeline). clients_among count liars named ++ x) (ap (column_if_any liars named) (sym e) ∙ sym (append-nil (column_if_any liars named (1 + count))))
    ∙ sym (flat_map-append (column_if_any liars named) (range_with_len 1 count) ((1 + count) ∷ []))
    ∙ ap (flat_map (column_if_any liars named)) (sym (range_more 1 count)))
