-- The calls of a look, and what was counted in all.
use Rattle.std.proofs.Common.{◌≡◌, ℕ, List, [], ◌∷◌, map, length, true, is_err, Option, None, Some, Result, Ok, Err, OnOk, IfOk, IfErr, refl, sym, ap, subst, ◌∙◌}
use Rattle.std.specs.List.{All, range_with_len}
use Rattle.std.proofs.lemmas.Bool.{false≢true}
use Rattle.std.proofs.lemmas.List.{length-map}
use Rattle.std.proofs.lemmas.List.FromFn.{length-map-range_with_len}
use Rattle.std.specs.Option.{option_map}
use Rattle.std.specs.Result.{result_ok}
use Rattle.wire_forms.specs.declared.op.Op.{Op}
use Rattle.protocol.specs.Operations.{Outcome}
use Rattle.disk_model.specs.Crash.{Pending}
use Rattle.store_device.specs.Stores.{SeenStore}
use Rattle.store_device.specs.Calls.{Call, Leads, HasPerformed}
use Rattle.store_device.specs.Calls.Deed.{Performs}
use Rattle.store_care.specs.Given.{reads_from, IsWrittenBack}
use Rattle.store_care.specs.Tallies.{with_blocks, with_writes, still_lacks, failed_writes}
use Rattle.store_care.specs.Looking.{AreLook, HasCounted}
use Rattle.store_care.specs.Steps.{HasLooked, IsRestored}
use Rattle.store_care.specs.declared.care.Care.{Care}
use Rattle.store_care.specs.declared.care.Lacking.{Lacking}
use Rattle.store_care.proofs.Changing.{then_changed}

-- what is said where it went well, of something else that follows
pub on_ok : {A E P Q : Type 0} → (r : Result A E) → (P → Q) → OnOk r P → OnOk r Q
on_ok (Ok x) f h = f h
on_ok (Err e) f h = h

-- the call that performed a batch
abbrev pub performed : {D : Type 0} → List Op → Option (List (Option Outcome)) → SeenStore D → Call D
performed ops told store = record { deed = Performs ops told; store = store }

module _ {D : Type 0} (first count : ℕ) (outcomes : List (Option Outcome)) (lacking : Lacking) (before mid last : SeenStore D) (old between new : Care) where
  pub counted_in_all : (told : List (Option Outcome))
      → HasLooked before mid first outcomes count old between lacking
      → IsRestored before.config.n last lacking told (length lacking.again.items) between new
      → HasCounted first count old new before (performed (reads_from first count) (Some outcomes) mid ∷ performed lacking.again.items (Some told) last ∷ [])
  counted_in_all told looked restored =
      let ops = lacking.again.items in
      let test = still_lacks before mid first outcomes in
      let h = restored test looked.seats in
      record {
        read = performed (reads_from first count) (Some outcomes) mid;
        again = performed ops (Some told) last;
        are = refl;
        outcomes = outcomes;
        reads = refl;
        ops = ops;
        told = told;
        writes = refl;
        tallies = then_changed (λ seat. with_blocks before mid first outcomes seat count) (λ seat. with_writes test last ops told seat (length ops)) before.config.n
            old.tallies.items between.tallies.items new.tallies.items looked.tallies h.tallies;
        failed = h.failed ∙ ap (failed_writes told (length ops)) looked.failed;
      }

module _ {D : Type 0} (pending : D → Pending) (seen : D → List ℕ) (capacity : D → ℕ) (moment : D → ℕ) (left_since : D → ℕ → List ℕ → Type 0) (first count : ℕ) where
  -- what calls of a look did, and more of them
  abbrev pub DidLook : SeenStore D → SeenStore D → (List (Call D) → Type 0) → Type 0
  DidLook old new More = (calls : List (Call D)) × Leads pending seen capacity moment left_since old calls new × AreLook first count calls × More calls

  abbrev pub Performed : List Op → Option (List (Option Outcome)) → SeenStore D → SeenStore D → Type 0
  Performed ops told old new = HasPerformed pending seen capacity moment left_since ops told old new

  pub did_nothing : (old new : SeenStore D) (More : List (Call D) → Type 0) → new ≡ old → More [] → DidLook old new More
  did_nothing old new More same more = ([], same, tt, more)

  pub did_read : (old mid new : SeenStore D) (ops : List Op) (told : Option (List (Option Outcome))) (More : List (Call D) → Type 0)
      → ops ≡ reads_from first count → Performed ops told old mid → new ≡ mid
      → More (performed (reads_from first count) told mid ∷ [])
      → DidLook old new More
  did_read old mid new ops told More are h same more =
      (performed (reads_from first count) told mid ∷ [], (subst (λ (ops : List Op). Performed ops told old mid) are h, same), record { told = told; is = refl }, more)

  pub did_restore : (old mid new : SeenStore D) (ops again : List Op) (outcomes : List (Option Outcome)) (told : Option (List (Option Outcome)))
      (More : List (Call D) → Type 0)
      → ops ≡ reads_from first count → Performed ops (Some outcomes) old mid → Performed again told mid new
      → All (IsWrittenBack (reads_from first count) outcomes) again
      → More (performed (reads_from first count) (Some outcomes) mid ∷ performed again told new ∷ [])
      → DidLook old new More
  did_restore old mid new ops again outcomes told More are h restored back more = (
    performed (reads_from first count) (Some outcomes) mid ∷ performed again told new ∷ [],
    (subst (λ (ops : List Op). Performed ops (Some outcomes) old mid) are h, (restored, refl)),
    record { outcomes = outcomes; reads = refl; ops = again; told = told; writes = refl; written_back = back },
    more,
  )

-- what is said of a result, said where it went well, and where it didn't
pub ok_is : {A E X : Type 0} (P : Option X → Type 0) (f : A → X) (r : Result A E) → P (option_map f (result_ok r)) → IfOk r (λ a. P (Some (f a)))
ok_is P f (Ok a) h = h
ok_is P f (Err e) h = tt

pub err_is : {A E X : Type 0} (P : Option X → Type 0) (f : A → X) (r : Result A E) → P (option_map f (result_ok r)) → IfErr r (λ e. P None)
err_is P f (Ok a) h = tt
err_is P f (Err e) h = h

-- nothing is said of how it went where it failed
pub on_err : {A E : Type 0} (P : Type 0) (r : Result A E) → is_err r ≡ true → OnOk r P
on_err P (Ok x) h = absurd (false≢true h)
on_err P (Err e) h = tt

-- as many as there are numbers
pub as_many : {V X : Type 0} (f : V → X) (h : ℕ → X) (vs : List V) (a n : ℕ) → map f vs ≡ map h (range_with_len a n) → length vs ≡ n
as_many f h vs a n are = sym (length-map vs f) ∙ ap length are ∙ length-map-range_with_len h a n

-- what is so anyway
pub always : {A E P : Type 0} → (r : Result A E) → P → OnOk r P
always (Ok x) h = h
always (Err e) h = tt
