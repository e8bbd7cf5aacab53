-- What the taker takes is what senders put, in their order, as contracts see it after each step.
use Rattle.std.proofs.Common.{◌≡◌, ℕ, ◌+◌, ◌<◌, ◌≤◌, Bool, true, false, cond, inl, inr, List, [], ◌∷◌, ◌++◌, map, All, Option, Some, None, IfSome, IfNone, refl, sym, ap, subst, ◌∙◌, arith, append_assoc, append-nil}
use Rattle.std.specs.Prelude.{is_none, nat_eq}
use Rattle.std.specs.List.{filter}
use Rattle.std.proofs.lemmas.List.{map-append}
use Rattle.std.proofs.lemmas.List.Elements.{All-nil, All-cons, All-head, All-tail, All-push, All-same}
use Rattle.crossbeam_channel.specs.Claims.{Pass}
use Rattle.inboxes.specs.declared.rule.Parcel.{Parcel}
use Rattle.inboxes.specs.declared.rule.View.{View}
use Rattle.inboxes.specs.Parcels.{words_of, has_ended, IsOrderly, items_of, lasts_in, start, heard_more, FitsWord, HearsWord}
use Rattle.inboxes.specs.Sides.{Putting, Taking, inbox_of, last_words, IsSameSeat, IsTaking, took_in, items_from, took, IsSettled}
use Rattle.inboxes.proofs.lemmas.SenderWords.{same_or_not, items_all, words_push, words_push_apart, orderly_push, going_push, going_whole, items_last}
use Rattle.inboxes.proofs.AllEnded.{lasts_push}

pub if_none : {X : Type 0} {A B : Type 0} → (A → B) → (r : Option X) → IfNone r A → IfNone r B
if_none f None is = f is
if_none f (Some x) is = is

pub ended_push : {T : Type 0} (ws ws' : List (Option T)) → ws' ≡ ws ++ None ∷ [] → has_ended ws ≡ false → ws' ≡ map Some (items_of ws') ++ None ∷ []
ended_push ws ws' is going =
    is ∙ ap (λ l. l ++ None ∷ []) (going_whole ws going ∙ ap (map Some) (sym (ap items_of is ∙ items_last ws)))

module _ {T : Type 0} where
  took-append : (xs ys : List (ℕ × Option T)) → took_in (xs ++ ys) ≡ took_in xs ++ took_in ys
  took-append [] ys = refl
  took-append ((p, Some x) ∷ xs) ys = ap (λ l. (p, x) ∷ l) (took-append xs ys)
  took-append ((p, None) ∷ xs) ys = took-append xs ys

  took_lasts : (passed : List ℕ) (ys : List (ℕ × Option T)) → took_in (last_words passed ++ ys) ≡ took_in ys
  took_lasts [] ys = refl
  took_lasts (p ∷ passed) ys = took_lasts passed ys

  pub took_next : (heard heard' : List (ℕ × Option T)) (passed : List ℕ) (p : ℕ) (x : T) → heard' ≡ heard ++ (last_words passed ++ (p, Some x) ∷ []) → took_in heard' ≡ took_in heard ++ (p, x) ∷ []
  took_next heard heard' passed p x is =
      ap took_in is ∙ took-append heard (last_words passed ++ (p, Some x) ∷ []) ∙ ap (λ l. took_in heard ++ l) (took_lasts passed ((p, Some x) ∷ []))

  pub took_none : (heard heard' : List (ℕ × Option T)) (passed : List ℕ) → heard' ≡ heard ++ last_words passed → took_in heard' ≡ took_in heard
  took_none heard heard' passed is =
      ap took_in is ∙ took-append heard (last_words passed) ∙ ap (λ l. took_in heard ++ l) (ap took_in (sym (append-nil (last_words passed))) ∙ took_lasts passed []) ∙ append-nil (took_in heard)

  -- what is known of each sender among the words is known of it among the items
  pub took_from : (n : ℕ) (heard : List (ℕ × Option T)) → All (λ h. h.0 < n) heard → All (λ i. i.0 < n) (took_in heard)
  took_from n [] known = All-nil (λ (i : ℕ × T). i.0 < n)
  took_from n ((p, Some x) ∷ heard) known =
      All-cons (λ (i : ℕ × T). i.0 < n) (p, x) (took_in heard) (All-head (λ (h : ℕ × Option T). h.0 < n) (p, Some x) heard known) (took_from n heard (All-tail (λ (h : ℕ × Option T). h.0 < n) (p, Some x) heard known))
  took_from n ((p, None) ∷ heard) known =
      took_from n heard (All-tail (λ (h : ℕ × Option T). h.0 < n) (p, None) heard known)

  kept_in : (b : Bool) (p : ℕ) (x : T) (fs : List (ℕ × Option T)) (is : List (ℕ × T)) → items_of (map (λ h. h.1) fs) ≡ map (λ i. i.1) is
      → items_of (map (λ h. h.1) (cond b ((p, Some x) ∷ fs) fs)) ≡ map (λ i. i.1) (cond b ((p, x) ∷ is) is)
  kept_in true p x fs is same = ap (λ l. x ∷ l) same
  kept_in false p x fs is same = same

  left_out : (b : Bool) (p : ℕ) (fs : List (ℕ × Option T)) → items_of (map (λ h. h.1) (cond b ((p, None) ∷ fs) fs)) ≡ items_of (map (λ h. h.1) fs)
  left_out true p fs = refl
  left_out false p fs = refl

  -- the items among a sender's words are the sender's among the items
  items_of_words : (p : ℕ) (heard : List (ℕ × Option T)) → items_of (words_of p heard) ≡ items_from p (took_in heard)
  items_of_words p [] = refl
  items_of_words p ((q, Some x) ∷ heard) =
      kept_in (nat_eq q p) q x (filter (λ h. nat_eq h.0 p) heard) (filter (λ i. nat_eq i.0 p) (took_in heard)) (items_of_words p heard)
  items_of_words p ((q, None) ∷ heard) =
      left_out (nat_eq q p) q (filter (λ h. nat_eq h.0 p) heard) ∙ items_of_words p heard

module _ {T P : Type 0} where
  pub settled_items : (t : Taking T P) (sent : Putting T P) → IsSettled t sent → items_from sent.number (took t) ≡ sent.put
  settled_items t sent is = sym (items_of_words sent.number t.heard) ∙ ap items_of is ∙ items_all sent.put

  pub same_inbox : (pass pass' : Pass (Parcel T P) (View T P)) (place : P) → IsSameSeat pass pass' → inbox_of pass' place ≡ inbox_of pass place
  same_inbox pass pass' place same = λ k. record { ring = same.0 k; keys = same.1 k; place = place }

  pub same_putting : (a b : Putting T P) → a.inbox ≡ b.inbox → a.number ≡ b.number → a.put ≡ b.put → a ≡ b
  same_putting a b inbox number put = λ k. record { inbox = inbox k; number = number k; put = put k }

  pub lasts_more : (v v' w : View T P) (passed : List ℕ) (from : ℕ) → v' ≡ heard_more v (last_words passed) → w ≡ heard_more v' ((from, None) ∷ []) → w ≡ heard_more v (last_words (passed ++ from ∷ []))
  lasts_more v v' w passed from before now =
      let more : (v.heard ++ last_words passed) ++ (from, None) ∷ [] ≡ v.heard ++ last_words (passed ++ from ∷ []) =
      append_assoc v.heard (last_words passed) ((from, None) ∷ []) ∙ ap (λ l. v.heard ++ l) (sym (map-append (λ (p : ℕ). (p, None)) passed (from ∷ []))) in
      now ∙ ap (λ v. heard_more v ((from, None) ∷ [])) before ∙ ap (λ l. record v { heard = l }) more

module _ {T P : Type 0} (fits : P → T → Type 0) where
  pub takes_more : (v w : View T P) (place : P) (senders lasts lasts' : ℕ) (h : ℕ × Option T) → IsTaking v place senders lasts → HearsWord fits v h w → lasts' ≡ lasts + cond (is_none h.1) 1 0 → lasts' ≤ senders → IsTaking w place senders lasts'
  takes_more v w place senders lasts lasts' h is hears count most =
      let heard : w.heard ≡ v.heard ++ h ∷ [] = ap (λ (v : View T P). v.heard) hears.0 in
      let fit : FitsWord fits (start place senders) h = subst (λ o. IfSome o (λ s. FitsWord fits s h)) is.starts hears.2 in
      let P' : ℕ × Option T → Type 0 = λ h. h.0 < senders in
      record {
        made = is.made;
        starts = ap (λ (v : View T P). v.start) hears.0 ∙ is.starts;
        role = ap (λ (v : View T P). v.role) hears.0 ∙ is.role;
        count = omega (arith, count, is.count, lasts_push v.heard h, ap lasts_in heard);
        most = most;
        known = All-same P' w.heard (v.heard ++ h ∷ []) heard (All-push P' v.heard h is.known fit.0);
        orderly = λ p.
            elim (same_or_not h.0 p) [
              | inl same ↦ subst IsOrderly (sym (ap (words_of p) heard ∙ ap (λ q. words_of p (v.heard ++ (q, h.1) ∷ [])) same ∙ words_push p v.heard h.1))
                  (orderly_push (words_of p v.heard) h.1 (ap (λ q. has_ended (words_of q v.heard)) (sym same) ∙ hears.1))
              | inr apart ↦ subst IsOrderly (sym (ap (words_of p) heard ∙ words_push_apart p h.0 v.heard h.1 apart)) (is.orderly p)
            ];
      }

  pub goes_on : (v w : View T P) (p : ℕ) (x : T) → HearsWord fits v (p, Some x) w → has_ended (words_of p w.heard) ≡ false
  goes_on v w p x hears =
      ap (λ (v : View T P). has_ended (words_of p v.heard)) hears.0 ∙ ap has_ended (words_push p v.heard (Some x)) ∙ going_push (words_of p v.heard) x hears.1

  pub from_sender : (v w : View T P) (place : P) (senders lasts : ℕ) (h : ℕ × Option T) → IsTaking v place senders lasts → HearsWord fits v h w → h.0 < senders
  from_sender v w place senders lasts h is hears =
      let fit : FitsWord fits (start place senders) h = subst (λ o. IfSome o (λ s. FitsWord fits s h)) is.starts hears.2 in
      fit.0
