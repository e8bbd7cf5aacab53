-- The answers that carry the pivot, and what they decode to.
use Rattle.std.proofs.Common.{◌≡◌, ℕ, zero, suc, ◌-◌, ◌<◌, ◌≤◌, Bool, true, false, cond, List, [], ◌∷◌, length, take, map, Option, refl, sym, ◌∙◌, ap, subst, arith}
use Rattle.std.specs.Prelude.{slice_get}
use Rattle.std.specs.declared.option.Option.TheVariants.{None, Some}
use Rattle.std.specs.List.{Contains}
use Rattle.std.proofs.lemmas.List.{length-map}
use Rattle.std.proofs.lemmas.Option.{slice_get-get_or}
use Rattle.quorum_rules.specs.Limits.{Numbers, IsValid}
use Rattle.stamp_order.specs.declared.Stamp.{Stamp}
use Rattle.stamp_order.specs.declared.Bound.{Bound}
use Rattle.stamp_order.specs.Stamps.{same_stamp}
use Rattle.cross_sum.specs.Digest.{digest}
use Rattle.cross_sum.specs.declared.part.Part.{Part}
use Rattle.cross_sum.specs.Parts.{numbers, strings}
use Rattle.gf_field.specs.Fragments.{AreParts, string_len, decoded}
use Rattle.wire_forms.specs.declared.message.Version.{Version}
use Rattle.wire_forms.specs.declared.message.Reply.{Reply}
use Rattle.wire_forms.specs.declared.message.Reply.TheVariants.{TimeIs, Found, Nothing, Ack, Refused}
use Rattle.protocol.specs.Count.{count, collect, kept_where}
use Rattle.protocol.specs.Setting.{Setting, IsAscending}
use Rattle.protocol.specs.Instance.{setting, nobody, part_numbers, part_strings, IsCluster}
use Rattle.protocol.specs.Operations.{stamp_of, is_valid, is_whole, valid, carries, only_if, numbered, part_of, stamps as stamps_of, support, carriers, chosen, candidate, sum_of_first}
use Rattle.protocol.proofs.lemmas.Counting.{both_true}
use Rattle.protocol.proofs.lemmas.Seeing.{funext}
use Rattle.protocol.proofs.lemmas.Lists.{Contains-take, Contains-collect}
use Rattle.protocol.proofs.lemmas.Parts.{length_chosen, ascending_chosen}
use Rattle.protocol.proofs.lemmas.Rounds.{whole_facts, valid_was}
use Rattle.protocol.proofs.lemmas.Cluster.{are_parts, cluster_valid}
use Rattle.candidate_class.specs.Stamps.{stamp_at, is_stamp}
use Rattle.candidate_class.proofs.lemmas.Nodes.{is_stamp-stamp_of}
use Rattle.operation_core.specs.Counting.{answer_at}
use Rattle.read_core.specs.Candidates.{found_in, carrier, shown_parts, CarryWhole}
use Rattle.operation_core.proofs.lemmas.Counts.{count_none}
use Rattle.lists.proofs.lemmas.Members.{Contains-head, Contains-map_cases}

-- an answer carries the stamp if it's valid with it
carried : (s : Setting) (bound : Bound) (p : Stamp) (i : ℕ) (o : Option Reply) → only_if (is_stamp p (stamp_of (valid s i bound o))) (numbered i (found_in o)) ≡ only_if (carries p (valid s i bound o)) (numbered i (valid s i bound o))
carried s bound p i None = refl
carried s bound p i (Some (TimeIs time)) = refl
carried s bound p i (Some Nothing) = refl
carried s bound p i (Some Ack) = refl
carried s bound p i (Some (Refused reason)) = refl
carried s bound p i (Some (Found v)) = at (is_valid s i bound v)
  where
    at : (b : Bool) → only_if (is_stamp p (stamp_of (kept_where b v))) (Some (i, v)) ≡ only_if (carries p (kept_where b v)) (numbered i (kept_where b v))
    at true = refl
    at false = refl

carrier_was : (p : Stamp) (i : ℕ) (o : Option Version) (q : ℕ × Version) → only_if (carries p o) (numbered i o) ≡ Some q → (v : Version) × (o ≡ Some v) × ((i, v) ≡ q)
carrier_was p i None q e = absurd (cc)
carrier_was p i (Some v) q e = at (same_stamp v.stamp p) e
  where
    at : (b : Bool) → cond b (Some (i, v)) None ≡ Some q → (u : Version) × (Some v ≡ Some u) × ((i, u) ≡ q)
    at true f = (v, refl, cc)
    at false f = absurd (cc)

first_of_take : (m : ℕ) (xs : List (ℕ × Version)) → 1 ≤ m → sum_of_first (take m xs) ≡ sum_of_first xs
first_of_take zero xs l = absurd (omega arith)
first_of_take (suc k) [] l = refl
first_of_take (suc k) (x ∷ xs) l = refl

pub numbers-shown : (parts : List Part) → numbers parts ≡ part_numbers (shown_parts parts)
numbers-shown [] = refl
numbers-shown (p ∷ parts) = ap (λ (xs : List ℕ). p.number ∷ xs) (numbers-shown parts)

pub strings-shown : (parts : List Part) → strings parts ≡ part_strings (shown_parts parts)
strings-shown [] = refl
strings-shown (p ∷ parts) = ap (λ (xs : List (List ℕ)). p.bytes ∷ xs) (strings-shown parts)

module _ (c : Numbers) (good : IsValid c) (bound : Bound) (answers : List (Option Reply)) (stamps : List (Option Stamp)) (are : stamp_at stamps ≡ stamps_of (setting c) (answer_at answers) bound) (p : Stamp) where
  s : Setting
  s = setting c

  cluster : IsCluster c nobody
  cluster = record { config = good; few = (let none = count_none c.n nobody (λ i. refl) in omega (arith, none)) }

  carrier-is : (i : ℕ) → carrier answers stamps p i ≡ only_if (carries p (valid (setting c) i bound (answer_at answers i))) (numbered i (valid (setting c) i bound (answer_at answers i)))
  carrier-is i = ap (λ (f : ℕ → Option Stamp). only_if (is_stamp p (f i)) (numbered i (found_in (answer_at answers i)))) are ∙ carried (setting c) bound p i (answer_at answers i)

  pub carriers_are : collect c.n (carrier answers stamps p) ≡ carriers (setting c) (answer_at answers) bound p
  carriers_are = ap (λ (f : ℕ → Option (ℕ × Version)). collect c.n f) (funext _ _ carrier-is)

  -- who carries the stamp has its fragment's digest in its own cross checksum
  pub carry_whole : length answers ≡ c.n → CarryWhole answers stamps p
  carry_whole places i v l e =
      let w = carrier_was p i (valid (setting c) i bound (answer_at answers i)) (i, v) (sym (carrier-is i) ∙ e) in
      let was = valid_was (setting c) i bound (answer_at answers i) w.0 w.1 in
      let facts = whole_facts (setting c) i w.0 (both_true _ _ was.1).1 in
      let here : slice_get w.0.sum i ≡ Some (digest w.0.fragment) =
      slice_get-get_or w.0.sum i [] (let n = facts.sum_length in omega (arith, n, places, l)) ∙ ap (λ (d : List ℕ). Some d) (sym facts.digests) in
      let same : w.0 ≡ v = ap (λ (q : ℕ × Version). q.1) w.2 in
      subst (λ (u : Version). slice_get u.sum i ≡ Some (digest u.fragment)) same here

  pub support_is : count c.n (λ i. is_stamp p (stamp_at stamps i)) ≡ support (setting c) (answer_at answers) bound p
  support_is =
      ap (λ (f : ℕ → Option Stamp). count c.n (λ i. is_stamp p (f i))) are
      ∙ ap (λ (f : ℕ → Bool). count c.n f) (funext _ _ (λ i. is_stamp-stamp_of p (valid (setting c) i bound (answer_at answers i))))

  chosen_is : (q : ℕ × Version) → Contains (chosen (setting c) (answer_at answers) bound p) q → (q.0 < c.n) × (is_whole (setting c) q.0 q.1 ≡ true)
  chosen_is q k =
      let r = Contains-collect c.n (λ i. only_if (carries p (valid (setting c) i bound (answer_at answers i))) (numbered i (valid (setting c) i bound (answer_at answers i)))) q (Contains-take c.m (carriers (setting c) (answer_at answers) bound p) q k) in
      let w = carrier_was p r.0 (valid (setting c) r.0 bound (answer_at answers r.0)) q r.2 in
      let v = valid_was (setting c) r.0 bound (answer_at answers r.0) w.0 w.1 in
      rw (← w.2) (r.1, (both_true _ _ v.1).1)

  module _ (enough : c.qc - c.t ≤ support (setting c) (answer_at answers) bound p) where
    len : length (chosen (setting c) (answer_at answers) bound p) ≡ c.m
    len = length_chosen (setting c) (cluster_valid c nobody nobody cluster) (answer_at answers) bound p enough

    pub sum_length : length (sum_of_first (chosen (setting c) (answer_at answers) bound p)) ≡ c.n
    sum_length = at (chosen (setting c) (answer_at answers) bound p) len chosen_is
      where
        at : (qs : List (ℕ × Version)) → length qs ≡ c.m → ((q : ℕ × Version) → Contains qs q → (q.0 < c.n) × (is_whole (setting c) q.0 q.1 ≡ true)) → length (sum_of_first qs) ≡ c.n
        at [] e each = absurd (let some = good.shares.0 in omega (arith, e, some))
        at (q ∷ qs) e each = (whole_facts (setting c) q.0 q.1 (each q (Contains-head q qs)).1).sum_length

    pub sum_is : sum_of_first (collect c.n (carrier answers stamps p)) ≡ sum_of_first (chosen (setting c) (answer_at answers) bound p)
    sum_is = ap sum_of_first carriers_are ∙ sym (first_of_take c.m (carriers (setting c) (answer_at answers) bound p) good.shares.0)

    module _ (parts : List Part) (shown : shown_parts parts ≡ map part_of (take c.m (collect c.n (carrier answers stamps p)))) where
      are_chosen : shown_parts parts ≡ map part_of (chosen (setting c) (answer_at answers) bound p)
      are_chosen = shown ∙ ap (λ (xs : List (ℕ × Version)). map part_of (take c.m xs)) carriers_are

      pub decoded_is : decoded c.m c.size (numbers parts) (strings parts) ≡ candidate (setting c) (answer_at answers) bound p
      decoded_is =
          ap (λ (xs : List ℕ). decoded c.m c.size xs (strings parts)) (numbers-shown parts)
          ∙ ap (λ (xs : List (List ℕ)). decoded c.m c.size (part_numbers (shown_parts parts)) xs) (strings-shown parts)
          ∙ ap (λ (ps : List (ℕ × List ℕ)). decoded c.m c.size (part_numbers ps) (part_strings ps)) are_chosen

      each_part : (ps : List (ℕ × List ℕ)) → ps ≡ map part_of (chosen (setting c) (answer_at answers) bound p) → (q : ℕ × List ℕ) → Contains ps q → (q.0 < c.n) × (length q.1 ≡ string_len c.m c.size)
      each_part ps e q k =
          let r = Contains-map_cases part_of (chosen (setting c) (answer_at answers) bound p) q (rw e at k) in
          let h = chosen_is r.0 r.1 in
          rw r.2 (h.0, (whole_facts (setting c) r.0.0 r.0.1 h.1).fragment_length)

      pairs_are : (ps : List (ℕ × List ℕ)) → ps ≡ map part_of (chosen (setting c) (answer_at answers) bound p) → AreParts c.n c.m (string_len c.m c.size) (part_numbers ps) (part_strings ps)
      pairs_are ps e =
          let count : length ps ≡ c.m = ap length e ∙ length-map (chosen (setting c) (answer_at answers) bound p) part_of ∙ len in
          let up : IsAscending ps = rw e (ascending_chosen (setting c) (cluster_valid c nobody nobody cluster) (answer_at answers) bound p) in
          are_parts c ps count up (each_part ps e)

      pub parts_are : AreParts c.n c.m (string_len c.m c.size) (numbers parts) (strings parts)
      parts_are = rw (numbers-shown parts, strings-shown parts) (pairs_are (shown_parts parts) are_chosen)
