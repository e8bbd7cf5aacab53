-- Inboxes that are settled with one putter after another, the last seat's first.
use Rattle.std.proofs.Common.{◌≡◌, ℕ, zero, suc, ◌≤◌, ◌<◌, List, [], ◌∷◌, ◌++◌, length, length-append, refl, sym, ap, subst, ◌∙◌, arith, inl, inr}
use Rattle.std.specs.declared.option.Option.TheVariants.{Some}
use Rattle.std.specs.Prelude.{◌⊎◌, slice_get}
use Rattle.std.proofs.lemmas.Option.{slice_get_within}
use Rattle.thread_work.specs.Pairwise.{Beside}
use Rattle.thread_work.proofs.lemmas.Places.{slice_get-unique}
use Rattle.inboxes.specs.Sides.{Taking}
use Rattle.client_endpoints.specs.declared.answered.Answered.{Answered}
use Rattle.client_endpoints.specs.declared.answered.ClientPlace.{ClientPlace}
use Rattle.client_endpoints.specs.declared.mail.ByMail.{ByMail}
use Rattle.node_workers.specs.Workers.{AnswerPutter}
use Rattle.node_workers.specs.Closed.{IsOfMail, HasAllOf}
use Rattle.lists.proofs.lemmas.Members.{slice_get-append_left, slice_get-seam}

-- a way by mail, with this taker of its answers
abbrev pub with_answers : ByMail → Taking Answered ClientPlace → ByMail
with_answers m t = record m { answers = t }

pub answers_same : (m : ByMail) (t : Taking Answered ClientPlace) → t ≡ m.answers → with_answers m t ≡ m
answers_same m t is = ap (with_answers m) is

-- the putters from this place on are settled
pub record AreSettledFrom (mails : List ByMail) (row left : List AnswerPutter) : Type 0 where
  pub rest : (k : ℕ) (s : AnswerPutter) → slice_get left k ≡ Some s → slice_get row k ≡ Some s
  pub done : (k : ℕ) (m : ByMail) (s : AnswerPutter) → length left ≤ k → slice_get mails k ≡ Some m → slice_get row k ≡ Some s → HasAllOf k m s

pub none_settled : (mails : List ByMail) (row : List AnswerPutter) → AreSettledFrom mails row row
none_settled mails row = record { rest = λ k s at. at; done = λ k m s le at here. absurd (let lt = slice_get_within row k s here in omega (arith, lt, le)) }

pub all_settled : (mails : List ByMail) (row left : List AnswerPutter) → Beside IsOfMail mails row → AreSettledFrom mails row left → left ≡ [] → Beside HasAllOf mails row
all_settled mails row left own s none = record { count = own.count; each = λ k m x at here. s.done k m x (let e = ap length none in omega (arith, e)) at here }

module _ (mails : List ByMail) (row left less : List AnswerPutter) (x : AnswerPutter) (own : Beside IsOfMail mails row) (s : AreSettledFrom mails row left) (is : left ≡ less ++ x ∷ []) where
  here : slice_get row (length less) ≡ Some x
  here = s.rest (length less) x (ap (λ l. slice_get l (length less)) is ∙ slice_get-seam less x [])

  pub next_within : length less < length mails
  next_within = let lt = slice_get_within row (length less) x here in omega (arith, lt, own.count)

  pub next_own : (m : ByMail) → slice_get mails (length less) ≡ Some m → x.inbox ≡ m.answers.inbox
  next_own m at = own.each (length less) m x at here

  module _ (m : ByMail) (at : slice_get mails (length less) ≡ Some m) (items : HasAllOf (length less) m x) where
    split : (k : ℕ) → length less ≤ k → (k ≡ length less) ⊎ (length left ≤ k)
    split k le = elim (one_more (length less) k le) [ inl e ↦ inl e | inr lt ↦ inr (let n = ap length is in omega (arith, lt, n, length-append less (x ∷ []))) ]
      where
        one_more : (n k : ℕ) → n ≤ k → (k ≡ n) ⊎ (n < k)
        one_more zero zero le = inl refl
        one_more zero (suc k) le = inr (omega arith)
        one_more (suc n) zero le = absurd (omega arith)
        one_more (suc n) (suc k) le = up n k (one_more n k (omega arith))
          where
            up : (n k : ℕ) → (k ≡ n) ⊎ (n < k) → (suc k ≡ suc n) ⊎ (suc n < suc k)
            up n k (inl e) = inl (ap suc e)
            up n k (inr lt) = inr (omega arith)

    done_at : (k : ℕ) (n : ByMail) (y : AnswerPutter) → slice_get mails k ≡ Some n → slice_get row k ≡ Some y → (k ≡ length less) ⊎ (length left ≤ k) → HasAllOf k n y
    done_at k n y there of (inl e) =
        let mail : m ≡ n = slice_get-unique mails (length less) m n at (ap (slice_get mails) (sym e) ∙ there) in
        let same : x ≡ y = slice_get-unique row (length less) x y here (ap (slice_get row) (sym e) ∙ of) in
        subst (λ u. HasAllOf k u y) mail (subst (λ u. HasAllOf k m u) same items)
    done_at k n y there of (inr le) = s.done k n y le there of

    pub settled_more : AreSettledFrom mails row less
    settled_more = record {
      rest = λ k y b. s.rest k y (ap (λ l. slice_get l k) is ∙ slice_get-append_left less (x ∷ []) k y b);
      done = λ k n y le there of. done_at k n y there of (split k le);
    }
