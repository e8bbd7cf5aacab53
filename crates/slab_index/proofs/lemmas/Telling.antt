-- Slots tell of their versions.
use Rattle.std.proofs.Common.{◌≡◌, ℕ, true, false, ◌||◌, max, List, [], ◌∷◌, map, refl, sym, ◌∙◌, ap, inl, inr}
use Rattle.std.proofs.Common.{append_assoc, length-drop, ◌+◌, ◌-◌, ◌<◌, ◌≤◌, zero, suc, ◌++◌, length, get_or, take, drop, arith}
use Rattle.std.proofs.lemmas.Bool.{cases_Bool}
use Rattle.std.proofs.lemmas.List.{drop_more, take_all}
use Rattle.std.specs.Prelude.{Option, option_map, nat_lt}
use Rattle.std.specs.declared.option.Option.TheVariants.{None, Some}
use Rattle.stamp_order.specs.declared.Stamp.{Stamp}
use Rattle.stamp_order.specs.declared.Bound.{Bound}
use Rattle.stamp_order.specs.Stamps.{has, up_to, same_stamp}
use Rattle.protocol.specs.Messages.{Version}
use Rattle.protocol.specs.Nodes.{greatest_in, keeps, greatest_time, later}
use Rattle.slab_index.specs.Kept.{Kept, stamp_of, later_kept, greatest_kept, keeps_stamp, latest_time, put_kept, IsPlaceOf, SlotsTell}

-- one more from the end
pub last_first : (ks : List Kept) (i : ℕ) (d : Kept) → i < length ks → drop (length ks - (i + 1)) ks ≡ get_or ks (length ks - 1 - i) d ∷ drop (length ks - i) ks
last_first ks i d lt =
    let at : length ks - (i + 1) ≡ length ks - 1 - i = omega arith in
    let next : length ks - 1 - i + 1 ≡ length ks - i = omega (arith, lt) in
    ap (λ n. drop n ks) at ∙ drop_more ks (length ks - 1 - i) d (omega (arith, lt)) ∙ ap (λ n. get_or ks (length ks - 1 - i) d ∷ drop n ks) next

module _ (version : Kept → Version) (same : (k : Kept) → (version k).stamp ≡ stamp_of k) where
  later_same : (k : Kept) (o : Option Kept) → later (version k) (option_map version o) ≡ version (later_kept k o)
  later_same k None = refl
  later_same k (Some u) =
      let tests : up_to (version u).stamp (version k).stamp ≡ up_to (stamp_of u) (stamp_of k) = λ i. up_to (same u i) (same k i) in
      elim (cases_Bool (up_to (stamp_of u) (stamp_of k))) [
        | inl below ↦ rw (tests ∙ below) (rw below refl)
        | inr above ↦ rw (tests ∙ above) (rw above refl)
      ]

  greatest_same : (bound : Bound) (ks : List Kept) → greatest_in bound (map version ks) ≡ option_map version (greatest_kept bound ks)
  greatest_same bound [] = refl
  greatest_same bound (k ∷ ks) =
      let tests : has bound (version k).stamp ≡ has bound (stamp_of k) = ap (has bound) (same k) in
      let rest = greatest_same bound ks in
      elim (cases_Bool (has bound (stamp_of k))) [
        | inl hit ↦ rw (tests ∙ hit) (rw hit (ap (λ o. Some (later (version k) o)) rest ∙ ap Some (later_same k (greatest_kept bound ks))))
        | inr miss ↦ rw (tests ∙ miss) (rw miss rest)
      ]

  stamps_same : (ks : List Kept) (stamp : Stamp) → keeps (map version ks) stamp ≡ keeps_stamp ks stamp
  stamps_same [] stamp = refl
  stamps_same (k ∷ ks) stamp = λ i. same_stamp (same k i) stamp || stamps_same ks stamp i

  time_same : (ks : List Kept) → greatest_time (map version ks) ≡ latest_time ks
  time_same [] = refl
  time_same (k ∷ ks) = λ i. max (same k i).time (time_same ks i)

pub slots_tell : (version : Kept → Version) (ks : List Kept) → SlotsTell version ks
slots_tell version ks same = record {
  greatest = λ bound. greatest_same version same bound ks;
  stamps = stamps_same version same ks;
  time = time_same version same ks;
}

not_less : (a b : ℕ) → b ≤ a → nat_lt a b ≡ false
not_less a b le = grind arith

less : (a b : ℕ) → a < b → nat_lt a b ≡ true
less a b lt = grind arith

-- one more goes to its place
pub put_at : (k : Kept) (ks : List Kept) (place : ℕ) → IsPlaceOf ks k.number place → put_kept k ks ≡ take place ks ++ k ∷ drop place ks
put_at k [] zero is = refl
put_at k [] (suc place) is = absurd (omega (arith, is.within))
put_at k (x ∷ xs) zero is = rw (less k.number x.number (is.at k (omega arith))) refl
put_at k (x ∷ xs) (suc place) is =
    rw (not_less k.number x.number (is.before 0 k (omega arith)))
    (ap (λ l. x ∷ l) (put_at k xs place (record {
      within = omega (arith, is.within);
      before = λ i d lt. is.before (suc i) d (omega (arith, lt));
      at = λ d lt. is.at d (omega (arith, lt));
    })))

-- a copy of parts of a list, with one between them
pub put_between : (k : Kept) (ks : List Kept) (place : ℕ) → IsPlaceOf ks k.number place → (a b d e : List Kept) → a ≡ [] → b ≡ a ++ take place ks → d ≡ b ++ k ∷ []
    → e ≡ d ++ take (length ks - place) (drop place ks) → e ≡ put_kept k ks
put_between k ks place is a b d e none first one last =
    last ∙ (λ i. one i ++ take (length ks - place) (drop place ks)) ∙ (λ i. (first i ++ k ∷ []) ++ take (length ks - place) (drop place ks))
    ∙ (λ i. ((none i ++ take place ks) ++ k ∷ []) ++ take (length ks - place) (drop place ks))
    ∙ ap (λ l. (take place ks ++ k ∷ []) ++ l) (take_all (length ks - place) (drop place ks) (omega (arith, length-drop place ks)))
    ∙ append_assoc (take place ks) (k ∷ []) (drop place ks) ∙ sym (put_at k ks place is)
