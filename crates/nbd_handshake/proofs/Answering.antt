-- Which of its forms a reply has.
use Rattle.std.proofs.Common.{◌≡◌, ◌==◌, ℕ, Bool, true, false, not, if◌then◌else◌, List, [], ◌++◌, eq-eqb, Result, Ok, Err, OnOk, OnErr}
use Rattle.std.proofs.lemmas.Bool.{ne_eqb}
use Rattle.nbd_handshake.specs.declared.export.Export.{Export}
use Rattle.nbd_handshake.specs.Numbers.{export_name, list, ack}
use Rattle.nbd_handshake.specs.Options.{ClientOption, asks_about, answer_of}
use Rattle.nbd_handshake.specs.Replies.{option_reply, about, listed, export_of, reply_to}

-- what is so at `Ok`, and follows from what was so
pub on_ok : {T E : Type 0} {P Q : Type 0} (r : Result T E) → (P → Q) → OnOk r P → OnOk r Q
on_ok (Ok x) f h = f h
on_ok (Err e) f h = h

-- what is so is so where a call failed
pub any_err : {T E : Type 0} (P : Type 0) (r : Result T E) → P → OnErr r P
any_err P (Ok x) h = tt
any_err P (Err e) h = h

abbrev chosen : Bool → Bool → Bool → Bool → (x y z v w : List ℕ) → List ℕ
chosen a b d l x y z v w = if a then x else (if not b then y else (if d then z else (if l then v else w)))

module _ (e : Export) (short : Bool) (o : ClientOption) (named : o.number ≡ export_name → ⊥) where
  abbrev by_tests : Bool → Bool → Bool → Bool → List ℕ
  by_tests a b d l =
      chosen a b d l (export_of e short o.bytes) (option_reply o.number (answer_of o) []) (about e o.number ++ option_reply o.number ack [])
      (listed ++ option_reply o.number ack []) (option_reply o.number ack [])

  -- the answer isn't ACK
  pub refused : (answer_of o ≡ ack → ⊥) → reply_to e short o ≡ option_reply o.number (answer_of o) []
  refused other = λ i. by_tests (ne_eqb o.number export_name named i) (ne_eqb (answer_of o) ack other i) (asks_about o.number) (o.number == list)

  module _ (good : answer_of o ≡ ack) where
    pub told : asks_about o.number ≡ true → reply_to e short o ≡ about e o.number ++ option_reply o.number ack []
    told asks = λ i. by_tests (ne_eqb o.number export_name named i) (eq-eqb (answer_of o) ack good i) (asks i) (o.number == list)

    module _ (none : asks_about o.number ≡ false) where
      pub lists : o.number ≡ list → reply_to e short o ≡ listed ++ option_reply o.number ack []
      lists is = λ i. by_tests (ne_eqb o.number export_name named i) (eq-eqb (answer_of o) ack good i) (none i) (eq-eqb o.number list is i)

      pub ends : (o.number ≡ list → ⊥) → reply_to e short o ≡ option_reply o.number ack []
      ends other = λ i. by_tests (ne_eqb o.number export_name named i) (eq-eqb (answer_of o) ack good i) (none i) (ne_eqb o.number list other i)
