-- Why a version is refused, test by test.
use Rattle.std.proofs.Common.{◌≡◌, ◌⊎◌, ℕ, ◌<◌, Bool, true, false, cond, not, ◌||◌, List, [], length, Option, refl, sym, ◌∙◌, ap, inl, inr, arith, eqb}
use Rattle.std.specs.declared.option.Option.TheVariants.{None, Some}
use Rattle.std.specs.List.{slice_get, slice_index_or}
use Rattle.std.proofs.lemmas.Bool.Decides.{nat_tests}
use Rattle.std.proofs.lemmas.Option.{get_or_from_slice_get, slice_get-get_or}
use Rattle.std.proofs.lemmas.Slice.Eq.{bytes_eq-Decides}
use Rattle.std.specs.Str.{bytes_eq}
use Rattle.wire_forms.specs.declared.message.Reason.TheVariants.{BadLength, TimeZero, BadVerifier, BadDigest}
use Rattle.protocol.specs.Messages.{flat, Version, Reason}
use Rattle.protocol.specs.Setting.{Setting, digest_at, same}
use Rattle.protocol.specs.Nodes.{refusal}
use Rattle.protocol.proofs.lemmas.Rounds.{same-≡, same-refl}
use Rattle.std.proofs.lemmas.Bool.{cases_Bool}

same_false : (xs ys : List ℕ) → (xs ≡ ys → ⊥) → same xs ys ≡ false
same_false xs ys h = elim (cases_Bool (same xs ys)) [ inl e ↦ absurd (h (same-≡ xs ys e)) | inr e ↦ e ]

same_true : (xs ys : List ℕ) → xs ≡ ys → same xs ys ≡ true
same_true xs ys e = rw e (same-refl ys)

-- what a comparison of bytes says
pub differ : (xs ys : List ℕ) (r : Bool) → r ≡ not (bytes_eq xs ys) → r ≡ true → xs ≡ ys → ⊥
differ xs ys r e t same = let p = (bytes_eq-Decides xs ys).1 same in let q = rw p at e in cc

pub agree : (xs ys : List ℕ) (r : Bool) → r ≡ not (bytes_eq xs ys) → r ≡ false → xs ≡ ys
agree xs ys r e t = at (bytes_eq xs ys) refl e
  where
    at : (b : Bool) → bytes_eq xs ys ≡ b → r ≡ not b → xs ≡ ys
    at true h f = (bytes_eq-Decides xs ys).0 h
    at false h f = absurd (cc)

-- what a comparison with an entry of a list says
module _ (ds : List (List ℕ)) (i : ℕ) (d : List ℕ) (r : Bool) (tells : (r ≡ true → slice_get ds i ≡ Some d) × (slice_get ds i ≡ Some d → r ≡ true)) where
  pub unmatched : i < length ds → r ≡ false → d ≡ slice_index_or ds i [] → ⊥
  unmatched l f e = let g : slice_get ds i ≡ Some d = slice_get-get_or ds i [] l ∙ ap Some (sym e) in let t = tells.1 g in cc

  pub matched : r ≡ true → d ≡ slice_index_or ds i []
  matched t = sym (get_or_from_slice_get ds i d [] (tells.0 t))

module _ (s : Setting) (i : ℕ) (v : Version) where
  pub bad_length : (length v.sum ≡ s.n → ⊥) ⊎ (length v.fragment ≡ s.share → ⊥) → Some BadLength ≡ refusal s i v
  bad_length (inl h) = let e : eqb (length v.sum) s.n ≡ false = grind (arith, nat_tests) in rw e refl
  bad_length (inr h) = let e : eqb (length v.fragment) s.share ≡ false = grind (arith, nat_tests) in rw e (either (eqb (length v.sum) s.n) _)
    where
      either : (b : Bool) (y : Option Reason) → Some BadLength ≡ cond (not b || true) (Some BadLength) y
      either true y = refl
      either false y = refl

  module _ (sums : length v.sum ≡ s.n) (shares : length v.fragment ≡ s.share) where
    lengths : (eqb (length v.sum) s.n ≡ true) × (eqb (length v.fragment) s.share ≡ true)
    lengths = (grind (arith, nat_tests), grind (arith, nat_tests))

    pub time_zero : v.stamp.time ≡ 0 → Some TimeZero ≡ refusal s i v
    time_zero h = let e : eqb v.stamp.time 0 ≡ true = grind (arith, nat_tests) in rw (lengths.0, lengths.1, e) refl

    module _ (later : v.stamp.time ≡ 0 → ⊥) where
      late : eqb v.stamp.time 0 ≡ false
      late = grind (arith, nat_tests)

      pub bad_verifier : (v.stamp.verifier ≡ s.digest (flat v.sum) → ⊥) → Some BadVerifier ≡ refusal s i v
      bad_verifier h = rw (lengths.0, lengths.1, late, same_false _ _ h) refl

      module _ (verified : v.stamp.verifier ≡ s.digest (flat v.sum)) where
        pub bad_digest : (s.digest v.fragment ≡ digest_at s v.sum i → ⊥) → Some BadDigest ≡ refusal s i v
        bad_digest h = rw (lengths.0, lengths.1, late, same_true _ _ verified, same_false _ _ h) refl

        pub fine : s.digest v.fragment ≡ digest_at s v.sum i → None ≡ refusal s i v
        fine h = rw (lengths.0, lengths.1, late, same_true _ _ verified, same_true _ _ h) refl
