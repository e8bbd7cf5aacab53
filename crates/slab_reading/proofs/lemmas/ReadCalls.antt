-- Calls that only read are one such call.
use Rattle.std.proofs.Common.{◌≡◌, ℕ, Bool, List, refl, ◌∙◌, IsTrue}
use Rattle.slab_file.specs.Moments.{Elapses}
use Rattle.slab_file.proofs.lemmas.Moments.{leaves_now, leaves_more, leaves_both}
use Rattle.slot_disk.proofs.lemmas.Moments.{leaves_only_weaker}
use Rattle.slab_reading.specs.declared.fault.OpenFault.{OpenFault}
use Rattle.slab_reading.specs.declared.fault.OpenFault.TheVariants.{NoMemory, Failed, Damaged}
use Rattle.slab_reading.specs.Opened.{IfDamaged}
use Rattle.slab_reading.specs.Reading.{OnlyReads}

module _ {F : Type 0} (seen : F → List ℕ) (may_leave : F → List ℕ → Type 0) (moment : F → ℕ) (left_since : F → ℕ → List ℕ → Type 0) (is_usable is_clean : F → Bool) where
  pub reads_none : (old : F) → IsTrue (is_usable old) → ((c : List ℕ) → left_since old (moment old) c → may_leave old c) → OnlyReads seen may_leave moment left_since is_usable is_clean old old
  reads_none old usable only = record {
    bytes = refl;
    usable = usable;
    clean = λ clean. clean;
    crash = λ c may. may;
    any_moment = leaves_now moment left_since may_leave old (may_leave old) only;
  }

  pub reads_once : (old new : F) → ((c : List ℕ) → left_since old (moment old) c → may_leave old c) → seen new ≡ seen old → IsTrue (is_usable new) → (IsTrue (is_clean new) → IsTrue (is_clean old))
      → ((c : List ℕ) → may_leave new c → may_leave old c) → Elapses moment left_since may_leave old new → OnlyReads seen may_leave moment left_since is_usable is_clean old new
  reads_once old new only bytes usable clean crash time = record {
    bytes = bytes;
    usable = usable;
    clean = clean;
    crash = crash;
    any_moment = leaves_more moment left_since may_leave old old new (may_leave old) (leaves_now moment left_since may_leave old (may_leave old) only) time crash;
  }

  pub reads_both : (old mid new : F) → OnlyReads seen may_leave moment left_since is_usable is_clean old mid → OnlyReads seen may_leave moment left_since is_usable is_clean mid new
      → OnlyReads seen may_leave moment left_since is_usable is_clean old new
  reads_both old mid new first second = record {
    bytes = second.bytes ∙ first.bytes;
    usable = second.usable;
    clean = λ clean. first.clean (second.clean clean);
    crash = λ c may. first.crash c (second.crash c may);
    any_moment =
        leaves_both moment left_since may_leave old mid new (may_leave old) first.any_moment
        (leaves_only_weaker moment left_since mid new (may_leave mid) (may_leave old) first.crash second.any_moment);
  }

-- what holds of a damaged slot
pub damaged_weaker : (P Q : ℕ → Type 0) → ((slot : ℕ) → P slot → Q slot) → (e : OpenFault) → IfDamaged P e → IfDamaged Q e
damaged_weaker P Q weaker NoMemory p = tt
damaged_weaker P Q weaker (Failed fault) p = tt
damaged_weaker P Q weaker (Damaged slot) p = weaker slot p
