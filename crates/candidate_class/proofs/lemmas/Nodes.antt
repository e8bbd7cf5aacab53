-- Answers as a function from nodes, and the stamps of the valid ones.
use Rattle.std.proofs.Common.{◌≡◌, ℕ, ◌+◌, ◌<◌, ◌≤◌, cond, List, [], ◌∷◌, ◌++◌, length, take, get_or, Option, refl, sym, ◌∙◌, ap, inl, inr, arith, eqb}
use Rattle.std.specs.declared.option.Option.TheVariants.{None, Some}
use Rattle.std.specs.List.{slice_index_or, slice_set, Contains, AllByRecursion}
use Rattle.std.proofs.lemmas.Bool.{cases_lt}
use Rattle.std.proofs.lemmas.Bool.Decides.{eqb_tells}
use Rattle.std.proofs.lemmas.List.{take_more, get_or-take, get_or_past, length-take-le}
use Rattle.std.proofs.lemmas.List.Elements.{recursion_from_All}
use Rattle.stamp_order.specs.declared.Stamp.{Stamp}
use Rattle.stamp_order.specs.declared.Bound.{Bound}
use Rattle.protocol.specs.Count.{update}
use Rattle.protocol.specs.Messages.{Reply, Version}
use Rattle.protocol.specs.Setting.{Setting}
use Rattle.protocol.specs.Operations.{stamp_of, valid, stamps, carries}
use Rattle.protocol.proofs.lemmas.Seeing.{funext, at_list}
use Rattle.candidate_class.specs.Answers.{by_node, AreOfNodes}
use Rattle.candidate_class.specs.Stamps.{is_stamp}
use Rattle.candidate_class.specs.declared.answers.Answer.{Answer}
use Rattle.lists.proofs.lemmas.Members.{Contains-head, Contains-rest}

-- one more answer, of another node
pub by_node-push : (answers : List Answer) (a : Answer) → ((c : Answer) → Contains answers c → c.node ≡ a.node → ⊥) → (i : ℕ) → by_node (answers ++ a ∷ []) i ≡ update (by_node answers) a.node (Some a.reply) i
by_node-push [] a h i = refl
by_node-push (c ∷ answers) a h i =
    ap (λ o. cond (eqb i c.node) (Some c.reply) o) (by_node-push answers a (λ d k. h d (Contains-rest d c answers k)) i)
    ∙ elim (eqb_tells i c.node) [
      | inl e ↦ elim (eqb_tells i a.node) [ inl f ↦ absurd (h c (Contains-head c answers) (sym e.1 ∙ f.1)) | inr f ↦ rw (e.0, f.0) refl ]
      | inr e ↦ rw e.0 refl
    ]

-- no answer is of a node past the last
by_node_past : (n : ℕ) (answers : List Answer) → AllByRecursion (λ a. a.node < n) answers → (i : ℕ) → n ≤ i → by_node answers i ≡ None
by_node_past n [] h i l = refl
by_node_past n (a ∷ answers) h i l = elim (eqb_tells i a.node) [
  | inl e ↦ absurd (let m = h.0 in let f = e.1 in omega arith)
  | inr e ↦ rw e.0 (by_node_past n answers h.1 i l)
]

-- the stamps of the valid answers, with one more answer
pub stamps-update : (s : Setting) (answers : ℕ → Option Reply) (bound : Bound) (node : ℕ) (reply : Reply) (i : ℕ) → stamps s (update answers node (Some reply)) bound i ≡ update (stamps s answers bound) node (stamp_of (valid s node bound (Some reply))) i
stamps-update s answers bound node reply i = elim (eqb_tells i node) [
  | inl e ↦ rw e.0 (ap (λ j. stamp_of (valid s j bound (Some reply))) e.1)
  | inr e ↦ rw e.0 refl
]

module _ (s : Setting) (bound : Bound) (n : ℕ) (answers : List Answer) (are : AreOfNodes n answers) where
  others : (k : ℕ) (a : Answer) → k < length answers → a ≡ get_or answers k a → (c : Answer) → Contains (take k answers) c → c.node ≡ a.node → ⊥
  others k a l e c (j, inside, is) same =
      let size = length-take-le k answers (omega arith) in
      let m : j < k = omega (arith, inside, size) in
      let at : get_or answers j c ≡ c = sym (get_or-take k answers j c m) ∙ is in
      let apart = are.different j k c m l in
      apart (ap (λ (x : Answer). x.node) at ∙ same ∙ ap (λ (x : Answer). x.node) (e ∙ default k a c l))
    where
      default : (k : ℕ) (a c : Answer) → k < length answers → get_or answers k a ≡ get_or answers k c
      default k a c l = Rattle.std.proofs.lemmas.List.get_or_default answers k a c l

  -- the stamps of the first answers, with the next one
  pub stamps_next : (k : ℕ) (a : Answer) → k < length answers → a ≡ get_or answers k a → (stamp : Option Stamp) → stamp ≡ stamp_of (valid s a.node bound (Some a.reply))
      → (old : List (Option Stamp)) → a.node < length old → ((i : ℕ) → slice_index_or old i None ≡ stamps s (by_node (take k answers)) bound i)
      → (i : ℕ) → slice_index_or (slice_set old a.node stamp) i None ≡ stamps s (by_node (take (k + 1) answers)) bound i
  stamps_next k a l e stamp is old inside h i =
      let f : (λ j. slice_index_or old j None) ≡ stamps s (by_node (take k answers)) bound = funext _ _ h in
      let more : take (k + 1) answers ≡ take k answers ++ a ∷ [] = take_more answers k a l ∙ ap (λ x. take k answers ++ x ∷ []) (sym e) in
      let pushed = by_node-push (take k answers) a (others k a l e) i in
      at_list old None stamp a.node inside i
      ∙ ap (λ (g : ℕ → Option Stamp). update g a.node stamp i) f
      ∙ ap (λ o. update (stamps s (by_node (take k answers)) bound) a.node o i) is
      ∙ sym (stamps-update s (by_node (take k answers)) bound a.node a.reply i)
      ∙ ap (λ o. stamp_of (valid s i bound o)) (sym pushed)
      ∙ ap (λ xs. stamp_of (valid s i bound (by_node xs i))) (sym more)

  -- the stamps of the first n places are all
  stamps_all : (xs : List (Option Stamp)) → n ≤ length xs → ((i : ℕ) → slice_index_or xs i None ≡ stamps s (by_node answers) bound i) → (λ i. slice_index_or (take n xs) i None) ≡ stamps s (by_node answers) bound
  stamps_all xs l h = funext _ _ (λ i. elim (cases_lt i n) [
    | inl m ↦ get_or-take n xs i None m ∙ h i
    | inr m ↦
        (let size = length-take-le n xs l in
        let past = by_node_past n answers (recursion_from_All (λ a. a.node < n) answers are.below) i m in
        get_or_past (take n xs) i None (omega arith) ∙ ap (λ o. stamp_of (valid s i bound o)) (sym past))
  ])

  pub stamps_taken : (xs : List (Option Stamp)) → n ≤ length xs → ((i : ℕ) → slice_index_or xs i None ≡ stamps s (by_node answers) bound i) → (m : ℕ) → m ≡ n
      → (length (take m xs) ≡ n) × ((λ i. slice_index_or (take m xs) i None) ≡ stamps s (by_node answers) bound)
  stamps_taken xs l h m e = rw e (length-take-le n xs l, stamps_all xs l h)

pub node_below : (n : ℕ) (answers : List Answer) → AreOfNodes n answers → (k : ℕ) (a : Answer) → k < length answers → a ≡ get_or answers k a → a.node < n
node_below n answers are k a l e = let b = are.below k a l in rw (← e) at b

-- a version carries the stamp that is its own
pub is_stamp-stamp_of : (stamp : Stamp) (o : Option Version) → is_stamp stamp (stamp_of o) ≡ carries stamp o
is_stamp-stamp_of stamp None = refl
is_stamp-stamp_of stamp (Some v) = refl
