-- Seats that are handed asks, work, and give their answers, as a phase of a store.
use Rattle.std.specs.Prelude.{All, is_some}
use Rattle.std.proofs.Common.{◌≡◌, inl, inr, ℕ, ◌<◌, ◌≤◌, ◌||◌, Bool, false, List, length, map, get_or, Option, Some, None, refl, sym, ◌∙◌, ap, subst, arith}
use Rattle.std.specs.List.{slice_get}
use Rattle.std.specs.Option.{option_map}
use Rattle.std.proofs.lemmas.Bool.{cases_Bool}
use Rattle.std.proofs.lemmas.List.{length-map, get_or-map}
use Rattle.std.proofs.lemmas.Option.{slice_get-map, slice_get_within, get_or_from_slice_get}
use Rattle.lists.proofs.lemmas.Members.{at_place}
use Rattle.quorum_rules.specs.Limits.{Numbers}
use Rattle.wire_forms.specs.declared.op.Op.{Op}
use Rattle.protocol.specs.Messages.{Ask, Reply}
use Rattle.protocol.specs.Instance.{setting}
use Rattle.disk_model.specs.Crash.{Pending, MayLeave}
use Rattle.version_disk.specs.Stored.{Stored}
use Rattle.batch_clients.specs.Batches.{Running, asks_to, after_answers, AreAsksOf, AreAnswersTo}
use Rattle.store_device.specs.Stores.{SeenStore, seat_at}
use Rattle.store_device.specs.Told.{AreApart}
use Rattle.store_device.specs.Working.{HasAnswered, WorksIn, AreHanded}
use Rattle.store_device.specs.Answered.{HaveReplied, RepliesIn}
use Rattle.store_device.specs.Going.{IsGoing, store_of}
use Rattle.store_device.proofs.Asked.{count_replies}
use Rattle.store_device.proofs.Seats.{when_true, when_false}
use Rattle.store_device.proofs.Turns.{IsTurn}
use Rattle.store_device.proofs.Batches.{are_own, own_asks, goes_on}

module _ {D : Type 0} (pending : D → Pending) (seen : D → List ℕ) (moment : D → ℕ) (left_since : D → ℕ → List ℕ → Type 0) where
  -- a node that answers answers each of its asks
  pub each_answered : (asks : List Ask) (replies : List Reply) (old new : Option (Stored D))
      → WorksIn pending seen moment left_since asks (Some replies) old new → length replies ≡ length asks
  each_answered asks replies None new works = absurd (let e : Some replies ≡ None = works.1 in cc)
  each_answered asks replies (Some was) new works = elim (cases_Bool was.broken) [
    | inl broken ↦ absurd (let down = when_true _ _ was.broken broken works in let e : Some replies ≡ None = down.1 in cc)
    | inr whole ↦ (
        let up = when_false _ _ was.broken whole works in
        let done : HasAnswered pending seen asks replies was up.0 = up.2.done in
        ap (λ (l : List Reply). length l) done.replies ∙ count_replies asks was.node)
  ]

  -- seats, before and after they are handed what operations ask of their nodes, after these have worked, and after their answers are taken
  module _ {X : Type 0} (node : X → Option (Stored D)) (asks : X → List Ask) (replies : X → Option (List Reply)) (c : Numbers)
      (runs : List Running) (given : List (List Ask)) (first handed worked last : List X)
      (long : length first ≡ c.n) (asked : AreAsksOf (setting c) runs given)
      (nodes : map node handed ≡ map node first) (are : map asks handed ≡ given) (count : length worked ≡ length handed)
      (each : (i : ℕ) (d : X) → i < length handed
      → WorksIn pending seen moment left_since (asks (get_or handed i d)) (replies (get_or worked i d)) (node (get_or handed i d))
      (node (get_or worked i d)))
      (kept : map node last ≡ map node worked) where
    as_many : length handed ≡ c.n
    as_many = sym (length-map handed node) ∙ ap length nodes ∙ length-map first node ∙ long

    -- what happens in one seat
    record IsOne (i : ℕ) : Type 0 where
      pub was : X
      pub is : X
      pub was_there : slice_get handed i ≡ Some was
      pub is_there : slice_get worked i ≡ Some is
      pub works : WorksIn pending seen moment left_since (asks was) (replies is) (node was) (node is)

    one : (i : ℕ) → i < c.n → IsOne i
    one i l =
        let a = at_place handed i (let m = as_many in omega arith) in
        let b = at_place worked i (let m = as_many in omega arith) in
        let was : get_or handed i a.0 ≡ a.0 = get_or_from_slice_get handed i a.0 a.0 a.1 in
        let is : get_or worked i a.0 ≡ b.0 = get_or_from_slice_get worked i b.0 a.0 b.1 in
        let here = each i a.0 (let m = as_many in omega arith) in
        record {
          was = a.0;
          is = b.0;
          was_there = a.1;
          is_there = b.1;
          works = subst (λ (x : X). WorksIn pending seen moment left_since (asks x) (replies b.0) (node x) (node b.0)) was
              (subst (λ (y : X). WorksIn pending seen moment left_since (asks (get_or handed i a.0)) (replies y)
              (node (get_or handed i a.0)) (node y)) is here);
        }

    asks_are : (i : ℕ) (l : i < c.n) (o : IsOne i) → asks o.was ≡ asks_to (setting c) i runs
    asks_are i l o =
        let e : Some (asks o.was) ≡ slice_get given i = sym (slice_get-map asks handed i ∙ ap (option_map asks) o.was_there)
        ∙ ap (λ (l : List (List Ask)). slice_get l i) are in
        let f : slice_get given i ≡ Some (asks_to (setting c) i runs) = asked.each i l in
        cc

    answer_at : (i : ℕ) (o : IsOne i) → slice_get (map replies worked) i ≡ Some (replies o.is)
    answer_at i o = slice_get-map replies worked i ∙ ap (option_map replies) o.is_there

    seat_in : (seats : List X) (i : ℕ) (x : X) → slice_get seats i ≡ Some x → seat_at (store_of c (map node seats)) i ≡ node x
    seat_in seats i x there = get_or-map node seats i x None (slice_get_within seats i x there)
        ∙ ap node (get_or_from_slice_get seats i x x there)

    works_at : (i : ℕ) (l : i < c.n) (o : IsOne i)
        → WorksIn pending seen moment left_since (asks_to (setting c) i runs) (replies o.is) (seat_at (store_of c (map node first)) i)
        (seat_at (store_of c (map node last)) i)
    works_at i l o =
        let old : seat_at (store_of c (map node first)) i ≡ node o.was = ap (λ (l : List (Option (Stored D))). seat_at (store_of c l) i)
        (sym nodes) ∙ seat_in handed i o.was o.was_there in
        let new : seat_at (store_of c (map node last)) i ≡ node o.is = ap (λ (l : List (Option (Stored D))). seat_at (store_of c l) i)
        kept ∙ seat_in worked i o.is o.is_there in
        subst (λ (l : List Ask). WorksIn pending seen moment left_since l (replies o.is) (seat_at (store_of c (map node first)) i)
        (seat_at (store_of c (map node last)) i)) (asks_are i l o)
        (subst (λ (s : Option (Stored D)). WorksIn pending seen moment left_since (asks o.was) (replies o.is) s
        (seat_at (store_of c (map node last)) i)) (sym old)
        (subst (λ (s : Option (Stored D)). WorksIn pending seen moment left_since (asks o.was) (replies o.is) (node o.was) s) (sym new)
        o.works))

    pub are_handed : AreHanded pending seen moment left_since (λ i. asks_to (setting c) i runs) (map replies worked)
        (store_of c (map node first)) (store_of c (map node last))
    are_handed = record {
      config = refl;
      count = length-map worked replies ∙ count ∙ as_many;
      each = λ i l. let o = one i l in (replies o.is, answer_at i o, works_at i l o);
    }

    pub are_answers : AreAnswersTo (setting c) runs (map replies worked)
    are_answers = record {
      count = length-map worked replies ∙ count ∙ as_many;
      each = λ i told there. (
          let l : i < c.n = (let w = slice_get_within (map replies worked) i (Some told) there in let m = length-map worked replies in let
          n = as_many in omega arith) in
          let o = one i l in
          let same : replies o.is ≡ Some told = (let e = answer_at i o in cc) in
          each_answered (asks_to (setting c) i runs) told (seat_at (store_of c (map node first)) i) (seat_at (store_of c (map node last)) i)
          (subst (λ (a : Option (List Reply)). WorksIn pending seen moment left_since (asks_to (setting c) i runs) a
          (seat_at (store_of c (map node first)) i) (seat_at (store_of c (map node last)) i)) same (works_at i l o)));
    }

    -- each node that is up in the end and has room answered, where none found too little memory for that
    module _ (most : D → ℕ) (starved : X → Bool)
        (replied : (i : ℕ) (d : X) → i < length handed
        → RepliesIn seen most (length (asks (get_or handed i d))) (starved (get_or worked i d) || is_some (replies (get_or worked i d)))
        (node (get_or handed i d)) (node (get_or worked i d)))
        (none : All (λ (x : X). starved x ≡ false) worked) where
      replies_at : (i : ℕ) (l : i < c.n) (o : IsOne i)
          → RepliesIn seen most (length (asks_to (setting c) i runs)) (is_some (replies o.is)) (seat_at (store_of c (map node first)) i)
          (seat_at (store_of c (map node last)) i)
      replies_at i l o =
          let was : get_or handed i o.was ≡ o.was = get_or_from_slice_get handed i o.was o.was o.was_there in
          let is : get_or worked i o.was ≡ o.is = get_or_from_slice_get worked i o.is o.was o.is_there in
          let here = replied i o.was (let m = as_many in omega arith) in
          let fed : starved o.is ≡ false = subst (λ (y : X). starved y ≡ false) is (none i o.was (let m = as_many in omega arith)) in
          let both : RepliesIn seen most (length (asks o.was)) (starved o.is || is_some (replies o.is)) (node o.was) (node o.is) =
          subst (λ (x : X). RepliesIn seen most (length (asks x)) (starved o.is || is_some (replies o.is)) (node x) (node o.is)) was
          (subst (λ (y : X). RepliesIn seen most (length (asks (get_or handed i o.was))) (starved y || is_some (replies y))
          (node (get_or handed i o.was)) (node y)) is here) in
          let told : RepliesIn seen most (length (asks o.was)) (is_some (replies o.is)) (node o.was) (node o.is) =
          subst (λ (b : Bool). RepliesIn seen most (length (asks o.was)) (b || is_some (replies o.is)) (node o.was) (node o.is)) fed both in
          let old : seat_at (store_of c (map node first)) i ≡ node o.was = ap (λ (l : List (Option (Stored D))). seat_at (store_of c l) i)
          (sym nodes) ∙ seat_in handed i o.was o.was_there in
          let new : seat_at (store_of c (map node last)) i ≡ node o.is = ap (λ (l : List (Option (Stored D))). seat_at (store_of c l) i)
          kept ∙ seat_in worked i o.is o.is_there in
          subst (λ (l : List Ask). RepliesIn seen most (length l) (is_some (replies o.is)) (seat_at (store_of c (map node first)) i)
          (seat_at (store_of c (map node last)) i)) (asks_are i l o)
          (subst (λ (s : Option (Stored D)). RepliesIn seen most (length (asks o.was)) (is_some (replies o.is)) s
          (seat_at (store_of c (map node last)) i)) (sym old)
          (subst (λ (s : Option (Stored D)). RepliesIn seen most (length (asks o.was)) (is_some (replies o.is)) (node o.was) s) (sym new)
          told))

      pub have_replied : HaveReplied seen most (λ i. asks_to (setting c) i runs) (map replies worked) (store_of c (map node first))
          (store_of c (map node last))
      have_replied i l = let o = one i l in (replies o.is, answer_at i o, replies_at i l o)

  -- a phase of a store, as its operations go on
  pub phase_goes_on : (counts_now : (disk : D) (t : ℕ) (bytes : List ℕ) → t ≤ moment disk → MayLeave (pending disk) bytes
      → left_since disk t bytes)
      (c : Numbers) (start now then : SeenStore D) (ops : List Op) (runs : List Running) (answers : List (Option (List Reply)))
      → now.config ≡ c → AreApart ops → IsGoing pending seen moment left_since start now ops runs
      → AreHanded pending seen moment left_since (λ i. asks_to (setting c) i runs) answers now then
      → IsGoing pending seen moment left_since start then ops (after_answers (setting c) 0 answers runs)
  phase_goes_on counts_now c start now then ops runs answers is apart going handed =
      let same : c ≡ start.config = sym is ∙ going.config in
      let asks = λ (i : ℕ). asks_to (setting start.config) i runs in
      let there : AreHanded pending seen moment left_since asks answers now then = subst
      (λ (d : Numbers). AreHanded pending seen moment left_since (λ i. asks_to (setting d) i runs) answers now then) same handed in
      let turn : IsTurn pending seen moment left_since counts_now start now then asks answers = record {
        count = there.count ∙ ap (λ (d : Numbers). d.n) going.config;
        seats = going.seats;
        each = λ i l. there.each i (subst (λ (d : Numbers). i < d.n) (sym going.config) l);
        own = λ i l. own_asks pending seen moment left_since start now 1 ops runs going.operations (are_own ops apart) i;
      } in
      subst (λ (d : Numbers). IsGoing pending seen moment left_since start then ops (after_answers (setting d) 0 answers runs)) (sym same)
      (goes_on pending seen moment left_since start now counts_now then asks answers turn ops runs going apart
      (λ i. refl) there.config)
