-- The next answers of all nodes are taken, node by node.
use Rattle.std.proofs.Common.{◌≡◌, ℕ, ◌+◌, ◌<◌, List, [], ◌∷◌, ◌++◌, length, map, Option, refl, sym, ap, ◌∙◌, arith, append_assoc, append-nil, length-append}
use Rattle.std.specs.Prelude.{slice_get, slice_set}
use Rattle.std.specs.declared.option.Option.TheVariants.{None, Some}
use Rattle.std.proofs.lemmas.List.{length-map, reverse-reverse, map-append}
use Rattle.protocol.specs.Messages.{Reply}
use Rattle.lists.proofs.lemmas.Members.{slice_get-seam}
use Rattle.batch_clients.specs.Batches.{reply_at, column}
use Rattle.batch_clients.specs.Parts.{turned, rest_of}

turned_twice : (x : Option (List Reply)) → turned (turned x) ≡ x
turned_twice None = refl
turned_twice (Some replies) = ap (λ (xs : List Reply). Some xs) (reverse-reverse replies)

pub turned_back : (answers : List (Option (List Reply))) → map turned (map turned answers) ≡ answers
turned_back [] = refl
turned_back (x ∷ answers) = let head = turned_twice x in let tail = turned_back answers in λ j. head j ∷ tail j

seam_set : {A : Type 0} (xs : List A) (x y : A) (ys : List A) → slice_set (xs ++ x ∷ ys) (length xs) y ≡ xs ++ y ∷ ys
seam_set [] x y ys = refl
seam_set (z ∷ xs) x y ys = ap (λ l. z ∷ l) (seam_set xs x y ys)

-- the answers of the nodes before this one were taken
pub record IsTaking (all now : List (Option (List Reply))) (next : List (Option Reply)) (node : ℕ) : Type 0 where
  pub done : List (Option (List Reply))
  pub rest : List (Option (List Reply))
  pub parts : all ≡ done ++ rest
  pub now_is : now ≡ map rest_of done ++ rest
  pub next_is : next ≡ column 0 done
  pub place : length done ≡ node

pub taking_begins : (all : List (Option (List Reply))) → IsTaking all all [] 0
taking_begins all = record { done = []; rest = all; parts = refl; now_is = refl; next_is = refl; place = refl }

module _ (all now : List (Option (List Reply))) (next : List (Option Reply)) (node : ℕ) where
  pub length_taking : IsTaking all now next node → length now ≡ length all
  length_taking h =
      ap length h.now_is ∙ length-append (map rest_of h.done) h.rest ∙ ap (λ (k : ℕ). k + length h.rest) (length-map h.done rest_of) ∙ sym (length-append h.done h.rest) ∙ sym (ap length h.parts)

  taken : (h : IsTaking all now next node) (rest ys : List (Option (List Reply))) (x y w : Option (List Reply)) → h.rest ≡ y ∷ ys → slice_get now node ≡ Some x → w ≡ rest_of x
      → (new : List (Option (List Reply))) → new ≡ slice_set now node w → (more : List (Option Reply)) → more ≡ next ++ reply_at 0 x ∷ [] → IsTaking all new more (node + 1)
  taken h rest ys x y w is at left new set more push =
      let long : length (map rest_of h.done) ≡ node = length-map h.done rest_of ∙ h.place in
      let split : now ≡ map rest_of h.done ++ y ∷ ys = h.now_is ∙ ap (λ l. map rest_of h.done ++ l) is in
      let found : slice_get now node ≡ Some y = ap (slice_get now) (sym long) ∙ ap (λ l. slice_get l (length (map rest_of h.done))) split ∙ slice_get-seam (map rest_of h.done) y ys in
      let some : Some x ≡ Some y = sym at ∙ found in
      let same : x ≡ y = cc in
      record {
        done = h.done ++ y ∷ [];
        rest = ys;
        parts = h.parts ∙ ap (λ l. h.done ++ l) is ∙ sym (append_assoc h.done (y ∷ []) ys);
        now_is =
            set ∙ ap (λ l. slice_set l node w) split ∙ ap (λ k. slice_set (map rest_of h.done ++ y ∷ ys) k w) (sym long) ∙ seam_set (map rest_of h.done) y w ys
            ∙ ap (λ z. map rest_of h.done ++ z ∷ ys) (left ∙ ap rest_of same)
            ∙ sym (append_assoc (map rest_of h.done) (rest_of y ∷ []) ys)
            ∙ ap (λ l. l ++ ys) (sym (map-append rest_of h.done (y ∷ [])));
        next_is = push ∙ ap (λ l. l ++ reply_at 0 x ∷ []) h.next_is ∙ ap (λ z. column 0 h.done ++ reply_at 0 z ∷ []) same ∙ sym (map-append (reply_at 0) h.done (y ∷ []));
        place = length-append h.done (y ∷ []) ∙ ap (λ (k : ℕ). k + 1) h.place;
      }

  pub taking_goes_on : (h : IsTaking all now next node) → node < length all → (x w : Option (List Reply)) → slice_get now node ≡ Some x → w ≡ rest_of x
      → (new : List (Option (List Reply))) → new ≡ slice_set now node w → (more : List (Option Reply)) → more ≡ next ++ reply_at 0 x ∷ [] → IsTaking all new more (node + 1)
  taking_goes_on h lt x w at left new set more push = by h.rest refl
    where
      by : (l : List (Option (List Reply))) → h.rest ≡ l → IsTaking all new more (node + 1)
      by [] e = absurd (let q = ap length h.parts ∙ length-append h.done h.rest ∙ ap (λ l. length h.done + length l) e in omega (arith, lt, q, h.place))
      by (y ∷ ys) e = taken h [] ys x y w e at left new set more push

  pub taking_ends : (h : IsTaking all now next node) → node ≡ length all → (now ≡ map rest_of all) × (next ≡ column 0 all)
  taking_ends h end = by h.rest refl
    where
      by : (l : List (Option (List Reply))) → h.rest ≡ l → (now ≡ map rest_of all) × (next ≡ column 0 all)
      by [] e =
          let whole : all ≡ h.done = h.parts ∙ ap (λ l. h.done ++ l) e ∙ append-nil h.done in
          (h.now_is ∙ ap (λ l. map rest_of h.done ++ l) e ∙ append-nil (map rest_of h.done) ∙ ap (map rest_of) (sym whole), h.next_is ∙ ap (column 0) (sym whole))
      by (y ∷ ys) e = absurd (let q = ap length h.parts ∙ length-append h.done h.rest ∙ ap (λ l. length h.done + length l) e in omega (arith, q, end, h.place))
