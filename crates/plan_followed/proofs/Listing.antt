-- The blocks that have a stamp, in order.
use Rattle.std.proofs.Common.{◌≡◌, ◌⊎◌, ℕ, ◌+◌, ◌<◌, List, [], ◌∷◌, ◌++◌, length, get_or, All, Option, refl, sym, ◌∙◌, ap, subst, inl, inr, arith}
use Rattle.std.specs.Prelude.{slice_get}
use Rattle.std.specs.declared.option.Option.TheVariants.{None, Some}
use Rattle.std.specs.List.{Contains, AllByRecursion}
use Rattle.std.proofs.lemmas.List.Elements.{Contains-append_left, Contains-push, Contains-push_cases, All-contains}
use Rattle.std.proofs.lemmas.Option.{slice_get-get_or}
use Rattle.stamp_order.specs.declared.Stamp.{Stamp}
use Rattle.protocol.specs.Report.{Ascend}
use Rattle.plan_followed.specs.declared.prunes.BlockStamp.{BlockStamp}
use Rattle.plan_followed.specs.Prunings.{blocks_of, ArePrunings}
use Rattle.plan_followed.specs.Tops.{IsTop, AreTops, AreListed}
use Rattle.lists.proofs.lemmas.Members.{Contains-none, Contains-map_cases, all_push}
use Rattle.protocol.proofs.lemmas.Starts.{ascend_push}
use Rattle.journals.proofs.lemmas.Lists.{all_below}

blocks_more : (xs : List BlockStamp) (x : BlockStamp) → blocks_of (xs ++ x ∷ []) ≡ blocks_of xs ++ x.block ∷ []
blocks_more [] x = refl
blocks_more (y ∷ xs) x = ap (λ (l : List ℕ). y.block ∷ l) (blocks_more xs x)

pub none_listed : (tops : List (Option Stamp)) → AreListed 0 tops []
none_listed tops = record { ascend = tt; below = tt; sound = λ x h. absurd (Contains-none x h); all = λ b s l e. absurd (omega arith) }

up_to_here : (b n : ℕ) → b < n + 1 → (b < n) ⊎ (b ≡ n)
up_to_here b n l = grind arith

-- a block more that has no stamp
pub left_out : (n : ℕ) (tops : List (Option Stamp)) (ps : List BlockStamp) → AreListed n tops ps → slice_get tops n ≡ Some None → AreListed (n + 1) tops ps
left_out n tops ps h e = record {
  ascend = h.ascend;
  below = all_below (blocks_of ps) n (n + 1) (omega arith) h.below;
  sound = h.sound;
  all = λ b s l at. elim (up_to_here b n l) [ inl k ↦ h.all b s k at | inr q ↦ absurd (let w : slice_get tops b ≡ Some None = rw q e in cc) ];
}

-- a block more that has one
pub put_in : (n : ℕ) (tops : List (Option Stamp)) (ps : List BlockStamp) (x : BlockStamp) → AreListed n tops ps → x.block ≡ n → slice_get tops n ≡ Some (Some x.stamp) → AreListed (n + 1) tops (ps ++ x ∷ [])
put_in n tops ps x h own e =
    let first : AllByRecursion (λ m. m < x.block) (blocks_of ps) = subst (λ (k : ℕ). AllByRecursion (λ m. m < k) (blocks_of ps)) (sym own) h.below in
    record {
      ascend = subst Ascend (sym (blocks_more ps x)) (ascend_push (blocks_of ps) x.block h.ascend first);
      below = subst (AllByRecursion (λ m. m < n + 1)) (sym (blocks_more ps x)) (all_push (λ m. m < n + 1) (blocks_of ps) x.block (all_below (blocks_of ps) n (n + 1) (omega arith) h.below) (omega (arith, own)));
      sound = λ y there. elim (Contains-push_cases ps x y there) [
        | inl t ↦ h.sound y t
        | inr q ↦ subst (λ (z : BlockStamp). slice_get tops z.block ≡ Some (Some z.stamp)) q (rw own e)
      ];
      all = λ b s l at. subst (λ (ns : List ℕ). Contains ns b) (sym (blocks_more ps x)) (elim (up_to_here b n l) [
        | inl k ↦ Contains-append_left (blocks_of ps) (x.block ∷ []) b (h.all b s k at)
        | inr q ↦ subst (λ (k : ℕ). Contains (blocks_of ps ++ x.block ∷ []) k) (own ∙ sym q) (Contains-push (blocks_of ps) x.block)
      ]);
    }

-- ---- the whole

module _ (late early : List BlockStamp) (blocks : ℕ) (tops : List (Option Stamp)) (ps : List BlockStamp) (h : AreTops late (late ++ early) tops) (listed : AreListed blocks tops ps) where
  top_of : (x : BlockStamp) → Contains ps x → IsTop late (late ++ early) x.block x.stamp
  top_of x there = h.each x.block (Some x.stamp) (listed.sound x there)

  in_list : (b : ℕ) → b < blocks → Contains (blocks_of late) b → (top : Option Stamp) → slice_get tops b ≡ Some top → Contains (blocks_of ps) b
  in_list b l named None e = absurd (h.each b None e named)
  in_list b l named (Some s) e = listed.all b s l e

  pub pruned : length tops ≡ blocks → All (λ x. x.block < blocks) late → ArePrunings (late ++ early) late ps
  pruned long within = record {
    ascend = listed.ascend;
    all = λ b named.
        let from = Contains-map_cases (λ (x : BlockStamp). x.block) late b named in
        let low : from.0.block < blocks = All-contains (λ x. x.block < blocks) late from.0 within from.1 in
        let l : b < blocks = subst (λ (n : ℕ). n < blocks) (sym from.2) low in
        let at : slice_get tops b ≡ Some (get_or tops b None) = slice_get-get_or tops b None (omega (arith, l, long)) in
        in_list b l named (get_or tops b None) at;
    fresh = λ x there. (top_of x there).named;
    given = λ x there. (top_of x there).given;
    greatest = λ x y there other same. (top_of x there).greatest y other same;
  }
