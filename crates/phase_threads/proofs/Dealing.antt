-- Hands to which things are dealt, the last portion's first.
use Rattle.std.proofs.Common.{◌≡◌, ◌≢◌, ℕ, ◌+◌, ◌≤◌, ◌<◌, List, [], ◌∷◌, ◌++◌, length, length-set, length-append, refl, sym, ap, ◌∙◌, arith, inl, inr}
use Rattle.std.specs.declared.option.Option.TheVariants.{Some}
use Rattle.std.specs.Prelude.{◌⊎◌, All, slice_get, slice_set}
use Rattle.std.proofs.lemmas.Option.{slice_get_within}
use Rattle.thread_work.proofs.lemmas.Places.{all_from_places, slice_get-unique, slice_get-set_cases}
use Rattle.phase_threads.specs.Portions.{AreDealt}
use Rattle.lists.proofs.lemmas.Members.{all_at_place, at_place, slice_get-append_left, slice_get-seam}

-- the things from this place on are dealt
pub record AreDealtFrom {A : Type 0} (old : List (List A)) (things : List A) (portions : List (List A)) (left : List A) : Type 0 where
  pub count : length portions ≡ length old
  pub all : length things ≡ length old
  pub dealt : (k : ℕ) (was now : List A) (x : A) → length left ≤ k → slice_get old k ≡ Some was → slice_get portions k ≡ Some now → slice_get things k ≡ Some x → now ≡ was ++ x ∷ []
  pub whole : (k : ℕ) (now : List A) → k < length left → slice_get portions k ≡ Some now → slice_get old k ≡ Some now
  pub rest : (k : ℕ) (x : A) → slice_get left k ≡ Some x → slice_get things k ≡ Some x

module _ {A : Type 0} where
  pub none_dealt : (portions : List (List A)) (things : List A) → length things ≡ length portions → AreDealtFrom portions things portions things
  none_dealt portions things all = record {
    count = refl;
    all = all;
    dealt = λ k was now x le a b d. absurd (let lt = slice_get_within things k x d in omega (arith, lt, le));
    whole = λ k now lt at. at;
    rest = λ k x at. at;
  }

  pub all_dealt : (old portions : List (List A)) (things left : List A) → AreDealtFrom old things portions left → left ≡ [] → AreDealt old things portions
  all_dealt old portions things left d none = record { count = d.count; each = λ k was now x a b t. d.dealt k was now x (let e = ap length none in omega (arith, e)) a b t }

  pub next_within : (old portions : List (List A)) (things left less : List A) (x : A) → AreDealtFrom old things portions left → left ≡ less ++ x ∷ [] → length less < length portions
  next_within old portions things left less x d is =
      let at = d.rest (length less) x (ap (λ l. slice_get l (length less)) is ∙ slice_get-seam less x []) in
      let lt = slice_get_within things (length less) x at in
      omega (arith, lt, d.count, d.all)

  module _ (old portions : List (List A)) (things left less : List A) (x : A) (portion : List A) (d : AreDealtFrom old things portions left) (is : left ≡ less ++ x ∷ []) (at : slice_get portions (length less) ≡ Some portion) where
    longer : length left ≡ length less + 1
    longer = ap length is ∙ length-append less (x ∷ [])

    own : slice_get things (length less) ≡ Some x
    own = d.rest (length less) x (ap (λ l. slice_get l (length less)) is ∙ slice_get-seam less x [])

    dealt_at : (k : ℕ) (was now : List A) (y : A) → length less ≤ k → slice_get old k ≡ Some was → slice_get things k ≡ Some y → ((k ≡ length less) × (now ≡ portion ++ x ∷ [])) ⊎ ((k ≢ length less) × (slice_get portions k ≡ Some now)) → now ≡ was ++ y ∷ []
    dealt_at k was now y le a t (inl p) =
        let first : slice_get old (length less) ≡ Some portion = d.whole (length less) portion (let n = longer in omega (arith, n)) at in
        let same : portion ≡ was = slice_get-unique old (length less) portion was first (ap (slice_get old) (sym p.0) ∙ a) in
        let thing : x ≡ y = slice_get-unique things (length less) x y own (ap (slice_get things) (sym p.0) ∙ t) in
        p.1 ∙ (λ j. same j ++ thing j ∷ [])
    dealt_at k was now y le a t (inr p) = d.dealt k was now y (let apart = p.0 in let n = longer in omega (arith, n)) a p.1 t

    whole_at : (k : ℕ) (now : List A) → k < length less → ((k ≡ length less) × (now ≡ portion ++ x ∷ [])) ⊎ ((k ≢ length less) × (slice_get portions k ≡ Some now)) → slice_get old k ≡ Some now
    whole_at k now lt (inl p) = absurd (let e = p.0 in omega arith)
    whole_at k now lt (inr p) = d.whole k now (let n = longer in omega (arith, n)) p.1

    pub deal_more : AreDealtFrom old things (slice_set portions (length less) (portion ++ x ∷ [])) less
    deal_more = record {
      count = length-set portions (length less) (portion ++ x ∷ []) ∙ d.count;
      all = d.all;
      dealt = λ k was now y le a b t. dealt_at k was now y le a t (slice_get-set_cases portions (length less) k now (portion ++ x ∷ []) b);
      whole = λ k now lt b. whole_at k now lt (slice_get-set_cases portions (length less) k now (portion ++ x ∷ []) b);
      rest = λ k y b. d.rest k y (ap (λ l. slice_get l k) is ∙ slice_get-append_left less (x ∷ []) k y b);
    }

  -- what portions that are alike are dealt, of things that are alike
  pub dealt_alike : (old new : List (List A)) (things : List A) (portion : List A) (x : A) → AreDealt old things new → length things ≡ length old → All (λ h. h ≡ portion) old → All (λ y. y ≡ x) things → All (λ h. h ≡ portion ++ x ∷ []) new
  dealt_alike old new things portion x dealt count same alike =
      all_from_places (λ (h : List A). h ≡ portion ++ x ∷ []) new
      (λ k now at.
      let lt = slice_get_within new k now at in
      let was = at_place old k (omega (arith, lt, dealt.count)) in
      let thing = at_place things k (omega (arith, lt, dealt.count, count)) in
      let is = all_at_place (λ (h : List A). h ≡ portion) old k was.0 same was.1 in
      let one = all_at_place (λ (y : A). y ≡ x) things k thing.0 alike thing.1 in
      dealt.each k was.0 now thing.0 was.1 at thing.1 ∙ (λ j. is j ++ one j ∷ []))
