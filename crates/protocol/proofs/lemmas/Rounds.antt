-- What the answers that a task counted say when there are enough of them.
use Rattle.std.proofs.Common.{◌≡◌, ◌⊎◌, ℕ, ◌+◌, ◌-◌, ◌<◌, ◌≤◌, Bool, true, false, cond, ◌||◌, List, [], ◌∷◌, length, map, Option, refl, sym, ◌∙◌, ap, inl, inr, arith, leb, ltb}
use Rattle.std.specs.declared.option.Option.TheVariants.{None, Some}
use Rattle.std.specs.List.{Contains}
use Rattle.std.specs.Ordering.{is_eq}
use Rattle.std.proofs.lemmas.Bool.Decides.{nat_tests}
use Rattle.std.proofs.lemmas.List.{length-map}
use Rattle.std.proofs.lemmas.Map.Lookups.{exact_bytes}
use Rattle.protocol.specs.Count.{count}
use Rattle.protocol.specs.Reach.{reaches}
use Rattle.stamp_order.specs.declared.Stamp.{Stamp}
use Rattle.stamp_order.specs.declared.Bound.{Bound}
use Rattle.stamp_order.specs.Stamps.{has, up_to, same_stamp, ◌≼◌}
use Rattle.protocol.specs.Messages.{flat, IsFormed, Version, Reply}
use Rattle.wire_forms.specs.declared.Reply.TheVariants.{TimeIs, Found, Nothing, Ack, Refused}
use Rattle.wire_forms.specs.declared.Body.TheVariants.{Answer as Answers}
use Rattle.protocol.proofs.lemmas.Tests.{not_true}
use Rattle.protocol.proofs.lemmas.Forming.{sum_formed, flat_inj}
use Rattle.protocol.proofs.Tied.{exact_lists, lists_total}
use Rattle.protocol.specs.Setting.{Setting, IsValid, IsBlock, IsFragment, same_digests, IsAscending, honest, first_stamp, digest_at, same, Sound}
use Rattle.protocol.specs.Operations.{Task, Stage, is_answered, is_of_kind, time_of, time_or_zero, stamp_of, is_whole, is_valid, valid, answered, drawn_from, stamps, pivot, carriers, chosen, candidate, carries, only_if, numbered, sum_of_first, part_of}
use Rattle.protocol.specs.Operations.Stage.{Times, Versions}
use Rattle.protocol.specs.World.{World, under_way}
use Rattle.protocol.specs.History.{NoClash, IsValue, IsSeen}
use Rattle.protocol.specs.History.IsSeen.{in_message, sum_seen, fragment_seen}
use Rattle.protocol.proofs.lemmas.Lists.{Contains-take, Contains-collect}
use Rattle.std.proofs.lemmas.Cmp.{tied_itself, nat_list_cmp_total}
use Rattle.protocol.proofs.lemmas.Counting.{count_not, both_true}
use Rattle.protocol.proofs.lemmas.Order.{≼-refl, before-≼, lower_time, same_stamp-≡, stamps_order, times_order}
use Rattle.protocol.proofs.lemmas.Highest.{highest_above, highest_is}
use Rattle.protocol.proofs.Invariant.{Quorum, IsSafe, IsFresh, IsOpen, Fits, Accepts}
use Rattle.lists.proofs.lemmas.Members.{Contains-head, Contains-rest, Contains-map_cases}
use Rattle.std.proofs.lemmas.Bool.{eqb-true}

-- the same bytes
pub same-≡ : (xs ys : List ℕ) → same xs ys ≡ true → xs ≡ ys
unfolding same
same-≡ xs ys h = exact_bytes xs ys (equal _ h)
  where
    equal : (o : Rattle.std.specs.declared.cmp.Ordering.Ordering) → is_eq o ≡ true → o ≡ Rattle.std.specs.declared.cmp.Ordering.TheVariants.Equal
    equal o h = grind arith

pub same-refl : (xs : List ℕ) → same xs xs ≡ true
unfolding same
same-refl xs = rw (tied_itself nat_list_cmp_total xs) refl

-- the same digests
pub same_digests-≡ : (xs ys : List (List ℕ)) → same_digests xs ys ≡ true → xs ≡ ys
unfolding same_digests
same_digests-≡ xs ys h = exact_lists xs ys (equal _ h)
  where
    equal : (o : Rattle.std.specs.declared.cmp.Ordering.Ordering) → is_eq o ≡ true → o ≡ Rattle.std.specs.declared.cmp.Ordering.TheVariants.Equal
    equal o h = grind arith

pub same_digests-refl : (xs : List (List ℕ)) → same_digests xs xs ≡ true
unfolding same_digests
same_digests-refl xs = rw (tied_itself lists_total xs) refl

pub record WholeFacts (s : Setting) (i : ℕ) (v : Version) : Type 0 where
  pub sum_length : length v.sum ≡ s.n
  pub fragment_length : length v.fragment ≡ s.share
  pub verifier : v.stamp.verifier ≡ s.digest (flat v.sum)
  pub digests : s.digest v.fragment ≡ digest_at s v.sum i
  pub time : (0 < v.stamp.time) ⊎ (v.stamp ≡ first_stamp s)

pub whole_facts : (s : Setting) (i : ℕ) (v : Version) → is_whole s i v ≡ true → WholeFacts s i v
whole_facts s i v h =
    let a = both_true _ _ h in
    let b = both_true _ _ a.0 in
    let c = both_true _ _ b.0 in
    let d = both_true _ _ c.0 in
    record {
      sum_length = eqb-true _ _ d.0;
      fragment_length = eqb-true _ _ d.1;
      verifier = same-≡ _ _ c.1;
      digests = same-≡ _ _ b.1;
      time = time_or (ltb 0 v.stamp.time) refl (same_stamp v.stamp (first_stamp s)) refl a.1;
    }
  where
    time_or : (p : Bool) → ltb 0 v.stamp.time ≡ p → (q : Bool) → same_stamp v.stamp (first_stamp s) ≡ q → p || q ≡ true → (0 < v.stamp.time) ⊎ (v.stamp ≡ first_stamp s)
    time_or true e q f h = inl (grind (arith, nat_tests))
    time_or false e true f h = inr (same_stamp-≡ _ _ f)
    time_or false e false f h = absurd (cc)

pub first_below : (s : Setting) (i : ℕ) (v : Version) → is_whole s i v ≡ true → first_stamp s ≼ v.stamp
first_below s i v h =
    elim (whole_facts s i v h).time [ inl l ↦ before-≼ _ _ (lower_time (first_stamp s) v.stamp l) | inr e ↦ rw e (≼-refl (first_stamp s)) ]

pub answered_is : (o : Option Reply) → is_answered o ≡ true → (reply : Reply) × (o ≡ Some reply)
answered_is None h = absurd (cc)
answered_is (Some reply) h = (reply, refl)

found_is : (s : Setting) (w : World) (i block : ℕ) (bound : Bound) (reply : Reply) → Fits s w i block (Versions bound) reply → (v : Version) × (reply ≡ Found v) × (is_valid s i bound v ≡ true) × Accepts s w i block v.stamp
found_is s w i block bound (Found v) h = (v, refl, h.0, h.1)
found_is s w i block bound (TimeIs time) h = absurd h
found_is s w i block bound Nothing h = absurd h
found_is s w i block bound Ack h = absurd h
found_is s w i block bound (Refused reason) h = absurd h

time_is : (stage : Stage) (reply : Reply) → stage ≡ Times → is_of_kind stage reply ≡ true → (time : ℕ) × (reply ≡ TimeIs time)
time_is stage (TimeIs time) e h = (time, refl)
time_is stage (Found v) e h = absurd (let k : is_of_kind Times (Found v) ≡ true = rw e at h in cc)
time_is stage Nothing e h = absurd (let k : is_of_kind Times Nothing ≡ true = rw e at h in cc)
time_is stage Ack e h = absurd (let k : is_of_kind Times Ack ≡ true = rw e at h in cc)
time_is stage (Refused reason) e h = absurd (let k : is_of_kind Times (Refused reason) ≡ true = rw e at h in cc)

valid_is : (s : Setting) (i : ℕ) (bound : Bound) (o : Option Reply) (v : Version) → o ≡ Some (Found v) → is_valid s i bound v ≡ true → valid s i bound o ≡ Some v
valid_is s i bound o v e h = rw (e, h) refl

-- what is valid was found, and is whole
pub valid_was : (s : Setting) (i : ℕ) (bound : Bound) (o : Option Reply) (v : Version) → valid s i bound o ≡ Some v → (o ≡ Some (Found v)) × (is_valid s i bound v ≡ true)
valid_was s i bound None v e = absurd (cc)
valid_was s i bound (Some (TimeIs time)) v e = absurd (cc)
valid_was s i bound (Some Nothing) v e = absurd (cc)
valid_was s i bound (Some Ack) v e = absurd (cc)
valid_was s i bound (Some (Refused reason)) v e = absurd (cc)
valid_was s i bound (Some (Found u)) v e = at (is_valid s i bound u) refl e
  where
    at : (b : Bool) → is_valid s i bound u ≡ b → cond b (Some u) None ≡ Some v → (Some (Found u) ≡ Some (Found v)) × (is_valid s i bound v ≡ true)
    at true h f = let q : u ≡ v = cc in (ap (λ (x : Version). Some (Found x)) q, rw (← q) h)
    at false h f = absurd (cc)

pub honest_many : (s : Setting) → IsValid s → s.n ≤ count s.n (honest s) + s.b
honest_many s valid = omega (arith, count_not s.n s.lying_node, valid.liars)

pub is_honest : (s : Setting) (i : ℕ) → honest s i ≡ true → s.lying_node i ≡ false
is_honest s i h = not_true (s.lying_node i) h

fresh_as : (s : Setting) (w : World) (block start : ℕ) (stamp : Stamp) (reply : Reply) (p q : Stage) → p ≡ q → IsFresh s w block start stamp p reply → IsFresh s w block start stamp q reply
fresh_as s w block start stamp reply p q e h = rw e at h

module _ (s : Setting) (good : IsValid s) (w : World) (safe : IsSafe s w) (c : ℕ) (task : Task) (busy : under_way w c ≡ Some task) (answers : ℕ → Option Reply)
    (heard : (i : ℕ) (reply : Reply) → answers i ≡ Some reply → Contains w.pool (record { client = c; node = i; tag = record { op = task.op; phase = task.phase }; body = Answers reply }) × (is_of_kind task.stage reply ≡ true))
    (enough : s.n ≤ answered s answers + s.t) where
  pub fits_at : (i : ℕ) (reply : Reply) → i < s.n → honest s i ≡ true → answers i ≡ Some reply → Fits s w i task.block task.stage reply
  fits_at i reply l h e =
      safe.answered _ task reply (heard i reply e).0 refl (safe.tasks c task busy).correct l (is_honest s i h) (record { client = busy; op = refl; phase = refl })

  fresh_at : (stamp : Stamp) (end : ℕ) (q : Quorum s w task.block stamp end) → end < task.start → (i : ℕ) (reply : Reply) → i < s.n → q.members i ≡ true → answers i ≡ Some reply → IsFresh s w task.block task.start stamp task.stage reply
  fresh_at stamp end q late i reply l m e =
      q.fresh _ reply task (heard i reply e).0 refl l m (safe.tasks c task busy).correct (record { client = busy; op = refl; phase = refl }) refl late

  -- the time drawn from isn't below what was completed before the start
  pub drawn_above : task.stage ≡ Times → (stamp : Stamp) (end : ℕ) → Quorum s w task.block stamp end → end < task.start → stamp.time ≤ drawn_from s answers
  drawn_above stage stamp end q late =
      let top = highest_above leb times_order s.n (s.b + 1) (λ i. time_of (answers i)) stamp.time q.members (λ i. is_answered (answers i)) (omega arith)
      (omega (arith, q.enough, enough, good.quorum_low)) each in
      let e : drawn_from s answers ≡ top.0 = ap time_or_zero top.1 in
      rw e (upto stamp.time top.0 top.2)
    where
      upto : (x y : ℕ) → leb x y ≡ true → x ≤ y
      upto x y h = grind (arith, nat_tests)

      reached : (i time : ℕ) → answers i ≡ Some (TimeIs time) → stamp.time ≤ time → reaches leb stamp.time (time_of (answers i)) ≡ true
      reached i time e h = let t : leb stamp.time time ≡ true = grind (arith, nat_tests) in rw e t

      each : (i : ℕ) → i < s.n → q.members i ≡ true → is_answered (answers i) ≡ true → reaches leb stamp.time (time_of (answers i)) ≡ true
      each i l m a =
          let r = answered_is (answers i) a in
          let k = time_is task.stage r.0 stage (heard i r.0 r.1).1 in
          let f : answers i ≡ Some (TimeIs k.0) = r.1 ∙ ap Some k.1 in
          let g : IsFresh s w task.block task.start stamp Times (TimeIs k.0) = fresh_as s w task.block task.start stamp (TimeIs k.0) task.stage Times stage (fresh_at stamp end q late i (TimeIs k.0) l m f) in
          reached i k.0 f g

  module _ (bound : Bound) (stage : task.stage ≡ Versions bound) where
    -- an honest node's counted answer is a valid one, of a version accepted there
    pub honest_valid : (i : ℕ) (reply : Reply) → i < s.n → honest s i ≡ true → answers i ≡ Some reply
        → (v : Version) × (reply ≡ Found v) × (valid s i bound (answers i) ≡ Some v) × (is_whole s i v ≡ true) × Accepts s w i task.block v.stamp
    honest_valid i reply l h e =
        let f = found_is s w i task.block bound reply (rw stage at (fits_at i reply l h e)) in
        (f.0, f.1, valid_is s i bound (answers i) f.0 (e ∙ ap Some f.1) f.2, (both_true _ _ f.2).1, f.3)

    reached : (stamp : Stamp) (i : ℕ) (v : Version) → valid s i bound (answers i) ≡ Some v → stamp ≼ v.stamp → reaches up_to stamp (stamps s answers bound i) ≡ true
    reached stamp i v e h = rw e h

    first_each : (i : ℕ) → i < s.n → honest s i ≡ true → is_answered (answers i) ≡ true → reaches up_to (first_stamp s) (stamps s answers bound i) ≡ true
    first_each i l h a =
        let r = answered_is (answers i) a in
        let f = honest_valid i r.0 l h r.1 in
        reached (first_stamp s) i f.0 f.2 (first_below s i f.0 f.3)

    -- there is a pivot: a round is never outvoted
    pub some_pivot : (p : Stamp) × (pivot s answers bound ≡ Some p) × (first_stamp s ≼ p)
    some_pivot =
        highest_above up_to stamps_order s.n (s.qc - s.t) (stamps s answers bound) (first_stamp s) (honest s) (λ i. is_answered (answers i))
        (omega (arith, good.quorum_low)) (omega (arith, honest_many s good, enough, good.quorum_high, good.liars_few)) first_each

    -- the pivot isn't below what was completed before the start
    pub pivot_above : (p : Stamp) → pivot s answers bound ≡ Some p → (stamp : Stamp) (end : ℕ) → Quorum s w task.block stamp end → end < task.start → has bound stamp ≡ true → IsOpen s w task.block task.start bound → stamp ≼ p
    pivot_above p is stamp end q late inside wide =
        let top = highest_above up_to stamps_order s.n (s.qc - s.t) (stamps s answers bound) stamp q.members (λ i. is_answered (answers i))
        (omega (arith, good.quorum_low)) (omega (arith, q.enough, enough, good.quorum_low)) each in
        let e : top.0 ≡ p = (let a = top.1 in cc) in
        rw e at top.2
      where
        open_honest : (i : ℕ) → q.members i ≡ true → honest s i ≡ true
        open_honest i m = rw (q.are_honest i m) refl

        each : (i : ℕ) → i < s.n → q.members i ≡ true → is_answered (answers i) ≡ true → reaches up_to stamp (stamps s answers bound i) ≡ true
        each i l m a =
            let r = answered_is (answers i) a in
            let f = honest_valid i r.0 l (open_honest i m) r.1 in
            let g : IsFresh s w task.block task.start stamp (Versions bound) (Found f.0) = fresh_as s w task.block task.start stamp (Found f.0) task.stage (Versions bound) stage (fresh_at stamp end q late i (Found f.0) l m (r.1 ∙ ap Some f.1)) in
            reached stamp i f.0 f.2 (g inside wide)

    -- a node below n gave the pivot validly
    pub pivot_given : (p : Stamp) → pivot s answers bound ≡ Some p → (i : ℕ) × (v : Version) × (i < s.n) × (valid s i bound (answers i) ≡ Some v) × (v.stamp ≡ p)
    pivot_given p is =
        let g = highest_is up_to stamps_order s.n (s.qc - s.t) (stamps s answers bound) p is in
        let v = stamped (valid s g.0 bound (answers g.0)) g.2 in
        (g.0, v.0, g.1, v.1, v.2)
      where
        stamped : (o : Option Version) → stamp_of o ≡ Some p → (v : Version) × (o ≡ Some v) × (v.stamp ≡ p)
        stamped None e = absurd (cc)
        stamped (Some v) e = (v, refl, cc)

    pub pivot_time : (p : Stamp) → pivot s answers bound ≡ Some p → (0 < p.time) ⊎ (p ≡ first_stamp s)
    pivot_time p is =
        let g = pivot_given p is in
        let u = valid_was s g.0 bound (answers g.0) g.1 g.3 in
        let t = (whole_facts s g.0 g.1 (both_true _ _ u.1).1).time in
        elim t [ inl l ↦ inl (rw (← g.4) l) | inr e ↦ inr (sym g.4 ∙ e) ]

    carrier_is : (p : Stamp) (i : ℕ) (o : Option Version) (q : ℕ × Version) → only_if (carries p o) (numbered i o) ≡ Some q → (q.0 ≡ i) × (o ≡ Some q.1) × (q.1.stamp ≡ p)
    carrier_is p i None q e = absurd (cc)
    carrier_is p i (Some v) q e = at (same_stamp v.stamp p) refl e
      where
        at : (b : Bool) → same_stamp v.stamp p ≡ b → cond b (Some (i, v)) None ≡ Some q → (q.0 ≡ i) × (Some v ≡ Some q.1) × (q.1.stamp ≡ p)
        at true h f =
            let g : (i, v) ≡ q = (cc) in
            (sym (ap (λ (x : ℕ × Version). x.0) g), ap (λ (x : ℕ × Version). Some x.1) g, (let k : v ≡ q.1 = ap (λ (x : ℕ × Version). x.1) g in rw (← k) (same_stamp-≡ v.stamp p h)))
        at false h f = absurd (cc)

    -- each chosen answer was given validly by a node below n, and carries the stamp
    pub chosen_is : (p : Stamp) (q : ℕ × Version) → Contains (chosen s answers bound p) q → (q.0 < s.n) × (answers q.0 ≡ Some (Found q.1)) × (is_whole s q.0 q.1 ≡ true) × (q.1.stamp ≡ p)
    chosen_is p q h =
        let k = Contains-take s.m (carriers s answers bound p) q h in
        let r = Contains-collect s.n (λ i. only_if (carries p (valid s i bound (answers i))) (numbered i (valid s i bound (answers i)))) q k in
        let t = carrier_is p r.0 (valid s r.0 bound (answers r.0)) q r.2 in
        let u = valid_was s r.0 bound (answers r.0) q.1 t.1 in
        (rw t.0 r.1, rw t.0 u.0, rw t.0 (both_true _ _ u.1).1, t.2)

    -- what was heard is formed
    found_formed : (i : ℕ) (v : Version) → answers i ≡ Some (Found v) → IsFormed v
    found_formed i v e = safe.formed _ (heard i (Found v) e).0

    part_fits : (p : Stamp) (q : ℕ × List ℕ) → Contains (map part_of (chosen s answers bound p)) q → (q.0 < s.n) × IsFragment s q.1
    part_fits p q h =
        let k = Contains-map_cases part_of (chosen s answers bound p) q h in
        let r = chosen_is p k.0 k.1 in
        let e : q.0 ≡ k.0.0 = ap (λ (x : ℕ × List ℕ). x.0) k.2 in
        (rw e r.0, (ap (λ (x : ℕ × List ℕ). length x.1) k.2 ∙ (whole_facts s k.0.0 k.0.1 r.2).fragment_length, (let f = (found_formed k.0.0 k.0.1 r.1).1 in let g : q.1 ≡ k.0.1.fragment = ap (λ (x : ℕ × List ℕ). x.1) k.2 in rw g f)))

    pub candidate_size : (p : Stamp) → length (chosen s answers bound p) ≡ s.m → IsAscending (map part_of (chosen s answers bound p)) → IsBlock s (candidate s answers bound p)
    candidate_size p long ascending = good.decoded-block (map part_of (chosen s answers bound p)) (length-map (chosen s answers bound p) part_of ∙ long) ascending (part_fits p)

    -- where the verdict is that the candidate is sound, it is what the stamp is for
    pub candidate_good : (p : Stamp) → IsBlock s (candidate s answers bound p) → same_digests (s.sum_of (candidate s answers bound p)) (sum_of_first (chosen s answers bound p)) ≡ true → Sound s p (candidate s answers bound p)
    candidate_good p size h = at (chosen s answers bound p) refl (same_digests-≡ _ _ h)
      where
        long : length (s.sum_of (candidate s answers bound p)) ≡ s.n
        long = good.length-sum (candidate s answers bound p) size

        at : (xs : List (ℕ × Version)) → chosen s answers bound p ≡ xs → s.sum_of (candidate s answers bound p) ≡ sum_of_first (chosen s answers bound p) → Sound s p (candidate s answers bound p)
        at [] e f = absurd (let g : s.sum_of (candidate s answers bound p) ≡ [] = f ∙ ap sum_of_first e in let l : length (s.sum_of (candidate s answers bound p)) ≡ 0 = ap length g in omega (arith, long, good.quorum_low, good.quorum_high))
        at (q ∷ qs) e f =
            let r = chosen_is p q (rw e (Contains-head q qs)) in
            let v : q.1.stamp.verifier ≡ s.digest (flat q.1.sum) = (whole_facts s q.0 q.1 r.2).verifier in
            let g : s.sum_of (candidate s answers bound p) ≡ q.1.sum = f ∙ ap sum_of_first e in
            sym (ap (λ (x : Stamp). x.verifier) r.3) ∙ v ∙ ap (λ (x : List (List ℕ)). s.digest (flat x)) (sym g)

    -- under NoClash a stamp of a value that was seen isn't poisonous
    module _ (apart : NoClash s w) (value : List ℕ) (of_run : IsValue s w value) (size : IsBlock s value) (p : Stamp) (sound : Sound s p value) where
      sum_is : (i : ℕ) (v : Version) → answers i ≡ Some (Found v) → is_whole s i v ≡ true → v.stamp ≡ p → v.sum ≡ s.sum_of value
      sum_is i v e h f =
          let facts = whole_facts s i v h in
          let seen : IsSeen s w (flat v.sum) = in_message {m = record { client = c; node = i; tag = record { op = task.op; phase = task.phase }; body = Answers (Found v) }} (heard i (Found v) e).0 (Contains-head (flat v.sum) (v.fragment ∷ [])) in
          flat_inj v.sum (s.sum_of value) (found_formed i v e).0 (sum_formed s good value size) (facts.sum_length ∙ sym (good.length-sum value size))
          (apart (flat v.sum) (flat (s.sum_of value)) seen (sum_seen of_run) (sym facts.verifier ∙ ap (λ (x : Stamp). x.verifier) f ∙ sound))

      fragment_is : (i : ℕ) (v : Version) → i < s.n → answers i ≡ Some (Found v) → is_whole s i v ≡ true → v.stamp ≡ p → v.fragment ≡ s.fragment_of value i
      fragment_is i v l e h f =
          let facts = whole_facts s i v h in
          let seen : IsSeen s w v.fragment =
          in_message {m = record { client = c; node = i; tag = record { op = task.op; phase = task.phase }; body = Answers (Found v) }} (heard i (Found v) e).0 (Contains-rest v.fragment (flat v.sum) (v.fragment ∷ []) (Contains-head v.fragment [])) in
          apart v.fragment (s.fragment_of value i) seen (fragment_seen of_run l) (facts.digests ∙ ap (λ (x : List (List ℕ)). digest_at s x i) (sum_is i v e h f) ∙ good.digests value i size l)

      part_is : (q : ℕ × List ℕ) → Contains (map part_of (chosen s answers bound p)) q → (q.0 < s.n) × (q.1 ≡ s.fragment_of value q.0)
      part_is q h =
          let k = Contains-map_cases part_of (chosen s answers bound p) q h in
          let r = chosen_is p k.0 k.1 in
          let e : q.0 ≡ k.0.0 = ap (λ (x : ℕ × List ℕ). x.0) k.2 in
          (rw e r.0, ap (λ (x : ℕ × List ℕ). x.1) k.2 ∙ fragment_is k.0.0 k.0.1 r.0 r.1 r.2 r.3 ∙ ap (s.fragment_of value) (sym e))

      candidate_is : length (chosen s answers bound p) ≡ s.m → IsAscending (map part_of (chosen s answers bound p)) → candidate s answers bound p ≡ value
      candidate_is long ascending = good.decodes value (map part_of (chosen s answers bound p)) size (length-map (chosen s answers bound p) part_of ∙ long) ascending part_is

      pub not_poisonous : length (chosen s answers bound p) ≡ s.m → IsAscending (map part_of (chosen s answers bound p)) → same_digests (s.sum_of (candidate s answers bound p)) (sum_of_first (chosen s answers bound p)) ≡ true
      not_poisonous long ascending = at (chosen s answers bound p) refl
        where
          at : (xs : List (ℕ × Version)) → chosen s answers bound p ≡ xs → same_digests (s.sum_of (candidate s answers bound p)) (sum_of_first (chosen s answers bound p)) ≡ true
          at [] e = absurd (let l : length (chosen s answers bound p) ≡ 0 = ap length e in omega (arith, l, long, good.shares_some))
          at (q ∷ qs) e =
              let r = chosen_is p q (rw e (Contains-head q qs)) in
              let f : sum_of_first (chosen s answers bound p) ≡ s.sum_of value = ap sum_of_first e ∙ sum_is q.0 q.1 r.1 r.2 r.3 in
              rw (candidate_is long ascending, f) (same_digests-refl (s.sum_of value))
