-- The greatest stamps of blocks, with one read more.
use Rattle.std.proofs.Common.{◌≡◌, ◌⊎◌, ℕ, ◌+◌, ◌<◌, List, [], ◌∷◌, ◌++◌, take, length, get_or, replicate, append_assoc, Option, refl, sym, ◌∙◌, ap, subst, inl, inr, arith, add-one}
use Rattle.std.specs.Prelude.{IfSome, slice_get, slice_set}
use Rattle.std.specs.declared.option.Option.TheVariants.{None, Some}
use Rattle.std.specs.List.{Contains}
use Rattle.std.proofs.Math.Seq.{take-suc}
use Rattle.std.proofs.lemmas.Bool.Decides.{eqb_tells}
use Rattle.std.proofs.lemmas.Grind.{common_steps}
use Rattle.std.proofs.lemmas.List.Elements.{Contains-append_left, Contains-push, Contains-push_cases}
use Rattle.std.proofs.lemmas.Option.{slice_get_within, slice_get-get_or, get_or_from_slice_get}
use Rattle.std.proofs.lemmas.List.{get_or-set_same, get_or-set_other, get_or-replicate, length-replicate}
use Rattle.stamp_order.specs.declared.Stamp.{Stamp}
use Rattle.stamp_order.specs.Stamps.{◌≼◌}
use Rattle.protocol.proofs.lemmas.Order.{≼-trans}
use Rattle.plan_followed.specs.declared.prunes.BlockStamp.{BlockStamp}
use Rattle.plan_followed.specs.Prunings.{blocks_of}
use Rattle.plan_followed.specs.Tops.{IsOneOf, IsTop, IsTopOf, AreTops}
use Rattle.lists.proofs.lemmas.Members.{Contains-none, Contains-map}

-- ---- lists

set_cases : {A : Type 0} (xs : List A) (i : ℕ) (v : A) (k : ℕ) (y : A) → slice_get (slice_set xs i v) k ≡ Some y → ((k ≡ i) × (v ≡ y)) ⊎ ((k ≡ i → ⊥) × (slice_get xs k ≡ Some y))
set_cases xs i v k y e =
    let g : get_or (slice_set xs i v) k y ≡ y = get_or_from_slice_get (slice_set xs i v) k y y e in
    let l : k < length (slice_set xs i v) = slice_get_within (slice_set xs i v) k y e in
    let w : k < length xs = grind (arith, common_steps, l) in
    elim (eqb_tells k i) [
      | inl h ↦ inl (h.1, sym (get_or-set_same xs i v y (subst (λ (n : ℕ). n < length xs) h.1 w)) ∙ ap (λ (n : ℕ). get_or (slice_set xs i v) n y) (sym h.1) ∙ g)
      | inr h ↦ inr (h.1, slice_get-get_or xs k y w ∙ ap Some (sym (get_or-set_other xs i k v y h.1) ∙ g))
    ]

-- ---- one read more

module _ (late wide reads : List BlockStamp) (x : BlockStamp) (more : (b : ℕ) → Contains (blocks_of late) b → Contains (blocks_of wide) b) (less : (b : ℕ) → (b ≡ x.block → ⊥) → Contains (blocks_of wide) b → Contains (blocks_of late) b) where
  -- another block's stamp stays the greatest
  other : (b : ℕ) (top : Option Stamp) → (b ≡ x.block → ⊥) → IsTopOf late reads b top → IsTopOf wide (reads ++ x ∷ []) b top
  other b None apart h = λ there. h (less b apart there)
  other b (Some s) apart h = record {
    named = more b h.named;
    given = Contains-append_left reads (x ∷ []) (record { block = b; stamp = s }) h.given;
    greatest = λ y there same. elim (Contains-push_cases reads x y there) [
      | inl t ↦ h.greatest y t same
      | inr e ↦ absurd (apart (sym same ∙ sym (ap (λ (z : BlockStamp). z.block) e)))
    ];
  }

  given_one : (old : Option Stamp) (s : Stamp) → IsTopOf late reads x.block old → IsOneOf old x.stamp s → Contains (reads ++ x ∷ []) (record { block = x.block; stamp = s })
  given_one old s h (inl e) = subst (λ (t : Stamp). Contains (reads ++ x ∷ []) (record { block = x.block; stamp = t })) (sym e) (Contains-push reads x)
  given_one old s h (inr e) = (let k : IsTop late reads x.block s = subst (IsTopOf late reads x.block) e h in Contains-append_left reads (x ∷ []) (record { block = x.block; stamp = s }) k.given)

  old_below : (old : Option Stamp) (s : Stamp) → IsTopOf late reads x.block old → (old ≡ None → (y : BlockStamp) → Contains reads y → y.block ≡ x.block → ⊥) → IfSome old (λ t. t ≼ s) → (y : BlockStamp) → Contains reads y → y.block ≡ x.block → y.stamp ≼ s
  old_below None s h none l y there same = absurd (none refl y there same)
  old_below (Some t) s h none l y there same = ≼-trans y.stamp t s (h.greatest y there same) l

  -- the greater one of its block's stamp and of its own
  own : (old : Option Stamp) (s : Stamp) → IsTopOf late reads x.block old → (old ≡ None → (y : BlockStamp) → Contains reads y → y.block ≡ x.block → ⊥) → Contains (blocks_of wide) x.block → IsOneOf old x.stamp s → IfSome old (λ t. t ≼ s) → x.stamp ≼ s → IsTop wide (reads ++ x ∷ []) x.block s
  own old s h none named one l k = record {
    named = named;
    given = given_one old s h one;
    greatest = λ y there same. elim (Contains-push_cases reads x y there) [
      | inl t ↦ old_below old s h none l y t same
      | inr e ↦ subst (λ (z : BlockStamp). z.stamp ≼ s) e k
    ];
  }

  raised : (tops : List (Option Stamp)) (old : Option Stamp) (s : Stamp) → AreTops late reads tops → slice_get tops x.block ≡ Some old → (old ≡ None → (y : BlockStamp) → Contains reads y → y.block ≡ x.block → ⊥) → Contains (blocks_of wide) x.block → IsOneOf old x.stamp s → IfSome old (λ t. t ≼ s) → x.stamp ≼ s → AreTops wide (reads ++ x ∷ []) (slice_set tops x.block (Some s))
  raised tops old s h e none named one l k =
      let mine = own old s (h.each x.block old e) none named one l k in
      record {
        each = λ b top at. elim (set_cases tops x.block (Some s) b top at) [
          | inl q ↦ subst (λ (n : ℕ). IsTopOf wide (reads ++ x ∷ []) n top) (sym q.0) (subst (IsTopOf wide (reads ++ x ∷ []) x.block) q.1 mine)
          | inr q ↦ other b top q.0 (h.each b top q.1)
        ];
      }

blocks_more : (xs : List BlockStamp) (x : BlockStamp) → blocks_of (xs ++ x ∷ []) ≡ blocks_of xs ++ x.block ∷ []
blocks_more [] x = refl
blocks_more (y ∷ xs) x = ap (λ (l : List ℕ). y.block ∷ l) (blocks_more xs x)

more_blocks : (xs : List BlockStamp) (x : BlockStamp) (b : ℕ) → Contains (blocks_of xs) b → Contains (blocks_of (xs ++ x ∷ [])) b
more_blocks xs x b h = subst (λ (l : List ℕ). Contains l b) (sym (blocks_more xs x)) (Contains-append_left (blocks_of xs) (x.block ∷ []) b h)

last_block : (xs : List BlockStamp) (x : BlockStamp) → Contains (blocks_of (xs ++ x ∷ [])) x.block
last_block xs x = subst (λ (l : List ℕ). Contains l x.block) (sym (blocks_more xs x)) (Contains-push (blocks_of xs) x.block)

less_blocks : (xs : List BlockStamp) (x : BlockStamp) (b : ℕ) → (b ≡ x.block → ⊥) → Contains (blocks_of (xs ++ x ∷ [])) b → Contains (blocks_of xs) b
less_blocks xs x b apart h = elim (Contains-push_cases (blocks_of xs) x.block b (subst (λ (l : List ℕ). Contains l b) (blocks_more xs x) h)) [ inl t ↦ t | inr e ↦ absurd (apart (sym e)) ]

none_yet : (xs : List BlockStamp) (b : ℕ) (old : Option Stamp) → IsTopOf xs xs b old → old ≡ None → (y : BlockStamp) → Contains xs y → y.block ≡ b → ⊥
none_yet xs b None h e y there same = h (subst (Contains (blocks_of xs)) same (Contains-map (λ (z : BlockStamp). z.block) xs y there))
none_yet xs b (Some s) h e y there same = absurd (cc)

-- a late read more
pub noted : (xs : List BlockStamp) (tops : List (Option Stamp)) (x : BlockStamp) (old : Option Stamp) (s : Stamp) → AreTops xs xs tops → slice_get tops x.block ≡ Some old → IsOneOf old x.stamp s → IfSome old (λ t. t ≼ s) → x.stamp ≼ s → AreTops (xs ++ x ∷ []) (xs ++ x ∷ []) (slice_set tops x.block (Some s))
noted xs tops x old s h e one l k = raised xs (xs ++ x ∷ []) xs x (more_blocks xs x) (less_blocks xs x) tops old s h e (none_yet xs x.block old (h.each x.block old e)) (last_block xs x) one l k

-- a read more, of a block that a late one is of
pub heard : (late reads : List BlockStamp) (tops : List (Option Stamp)) (x : BlockStamp) (old s : Stamp) → AreTops late reads tops → slice_get tops x.block ≡ Some (Some old) → IsOneOf (Some old) x.stamp s → old ≼ s → x.stamp ≼ s → AreTops late (reads ++ x ∷ []) (slice_set tops x.block (Some s))
heard late reads tops x old s h e one l k =
    let before : IsTop late reads x.block old = h.each x.block (Some old) e in
    raised late late reads x (λ b t. t) (λ b apart t. t) tops (Some old) s h e (λ no. absurd (let w : None ≡ Some old = sym no in cc)) before.named one l k

-- a read more, of another block
pub passed : (late reads : List BlockStamp) (tops : List (Option Stamp)) (x : BlockStamp) → AreTops late reads tops → slice_get tops x.block ≡ Some None → AreTops late (reads ++ x ∷ []) tops
passed late reads tops x h e = record { each = λ b top at. elim (eqb_tells b x.block) [ inl q ↦ same b top at q.1 | inr q ↦ other late late reads x (λ c t. t) (λ c apart t. t) b top q.1 (h.each b top at) ] }
  where
    same : (b : ℕ) (top : Option Stamp) → slice_get tops b ≡ Some top → b ≡ x.block → IsTopOf late (reads ++ x ∷ []) b top
    same b top at q =
        let here : slice_get tops b ≡ Some None = rw q e in
        let w : top ≡ None = cc in
        subst (IsTopOf late (reads ++ x ∷ []) b) (sym w) (h.each b None here)

-- ---- in a loop

abbrev pub none_named : BlockStamp
none_named = record { block = 0; stamp = record { time = 0; client = 0; verifier = [] } }

module _ (given : List BlockStamp) (k : ℕ) (d : BlockStamp) (l : k < length given) where
  abbrev here : BlockStamp
  here = get_or given k d

  one_more : take (k + 1) given ≡ take k given ++ here ∷ []
  one_more = rw add-one (take-suc given k d l)

  pub noted_more : (tops : List (Option Stamp)) (old : Option Stamp) (s : Stamp) → AreTops (take k given) (take k given) tops → slice_get tops here.block ≡ Some old → IsOneOf old here.stamp s → IfSome old (λ t. t ≼ s) → here.stamp ≼ s → AreTops (take (k + 1) given) (take (k + 1) given) (slice_set tops here.block (Some s))
  noted_more tops old s h e one above own = subst (λ (xs : List BlockStamp). AreTops xs xs (slice_set tops here.block (Some s))) (sym one_more) (noted (take k given) tops here old s h e one above own)

  more_read : (late reads : List BlockStamp) (tops : List (Option Stamp)) → AreTops late ((reads ++ take k given) ++ here ∷ []) tops → AreTops late (reads ++ take (k + 1) given) tops
  more_read late reads tops h = subst (λ (xs : List BlockStamp). AreTops late xs tops) (append_assoc reads (take k given) (here ∷ []) ∙ ap (λ (xs : List BlockStamp). reads ++ xs) (sym one_more)) h

  pub heard_more : (late reads : List BlockStamp) (tops : List (Option Stamp)) (old s : Stamp) → AreTops late (reads ++ take k given) tops → slice_get tops here.block ≡ Some (Some old) → IsOneOf (Some old) here.stamp s → old ≼ s → here.stamp ≼ s → AreTops late (reads ++ take (k + 1) given) (slice_set tops here.block (Some s))
  heard_more late reads tops old s h e one above own = more_read late reads (slice_set tops here.block (Some s)) (heard late (reads ++ take k given) tops here old s h e one above own)

  pub passed_more : (late reads : List BlockStamp) (tops : List (Option Stamp)) → AreTops late (reads ++ take k given) tops → slice_get tops here.block ≡ Some None → AreTops late (reads ++ take (k + 1) given) tops
  passed_more late reads tops h e = more_read late reads tops (passed late (reads ++ take k given) tops here h e)

-- no stamps yet
pub none_noted : (n : ℕ) (tops : List (Option Stamp)) → tops ≡ replicate n None → AreTops [] [] tops
none_noted n tops all = record { each = λ b top at. none b top (get_or_from_slice_get tops b top None at) (slice_get_within tops b top at) }
  where
    none : (b : ℕ) (top : Option Stamp) → get_or tops b None ≡ top → b < length tops → IsTopOf [] [] b top
    none b None e l = λ named. Contains-none b named
    none b (Some s) e l = absurd (
        let low : b < n = simp (all, length-replicate) at l in
        let w : get_or tops b None ≡ None = rw all (get_or-replicate n b None None low) in
        cc)
