-- Lists of strings that are lent, one longer.
use Rattle.std.proofs.Common.{◌≡◌, ℕ, ◌+◌, ◌<◌, ◌≤◌, inl, inr, List, [], ◌∷◌, ◌++◌, length, get_or, take, sym, ap, arith}
use Rattle.std.specs.Borrow.{Bor}
use Rattle.std.proofs.lemmas.List.{map_push, map_more, get_or_past, get_or_push, get_or_append_left, length_push}
use Rattle.std.proofs.lemmas.Bool.{cases_order}
use Rattle.cross_sum.specs.declared.part.Part.{Part}
use Rattle.cross_sum.specs.Parts.{strings}
use Rattle.gf_field.specs.Polynomials.{AreElements}
use Rattle.gf_field.specs.Fragments.{byte, HaveElements}
use Rattle.gf_field.proofs.lemmas.FragmentLaws.{element_or_zero}
use Rattle.ida_code.specs.Lent.{lent}

pub lent-push : (refs : List (Bor (List ℕ))) (r : Bor (List ℕ)) → lent (refs ++ r ∷ []) ≡ lent refs ++ r.now ∷ []
lent-push refs r = map_push (λ (r : Bor (List ℕ)). r.now) refs r

pub strings-more : (parts : List Part) (i : ℕ) (d : Part) → i < length parts → strings (take (i + 1) parts) ≡ strings (take i parts) ++ (get_or parts i d).bytes ∷ []
strings-more parts i d h = map_more (λ (p : Part). p.bytes) parts i d h

byte_past : (ss : List (List ℕ)) (k j : ℕ) → length ss ≤ k → byte ss k j < 256
byte_past ss k j h = let e : byte ss k j ≡ 0 = ap (λ r. get_or r j 0) (get_or_past ss k [] h) in omega arith

pub HaveElements-push : (ss : List (List ℕ)) (s : List ℕ) → HaveElements ss → AreElements s → HaveElements (ss ++ s ∷ [])
HaveElements-push ss s h hs k j =
    elim (cases_order k (length ss)) [
      | inl last ↦
          let e : byte (ss ++ s ∷ []) k j ≡ get_or s j 0 = ap (λ r. get_or r j 0) (get_or_push ss s [] k (sym last)) in
          let f = element_or_zero s j hs in omega arith
      | inr other ↦ elim other [
        | inl before ↦
            let e : byte (ss ++ s ∷ []) k j ≡ byte ss k j = ap (λ r. get_or r j 0) (get_or_append_left ss (s ∷ []) [] k before) in
            let f = h k j in omega arith
        | inr past ↦ byte_past (ss ++ s ∷ []) k j (let l = length_push ss s in omega arith)
      ]
    ]

pub HaveElements-none : HaveElements []
HaveElements-none k j = byte_past [] k j (omega arith)
