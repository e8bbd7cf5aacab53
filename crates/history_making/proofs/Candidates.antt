-- Candidates of records, and the entries of a history among them.
use Rattle.std.proofs.Common.{◌≡◌, ◌⊎◌, ℕ, ◌<◌, ◌≤◌, Bool, true, false, cond, List, [], ◌∷◌, map, count_by, filter_map, Option, refl, sym, ◌∙◌, ap, inl, inr, arith, eqb}
use Rattle.std.specs.declared.option.Option.TheVariants.{None, Some}
use Rattle.std.specs.List.{Contains, AllByRecursion, cons_option}
use Rattle.std.proofs.lemmas.Bool.{eqb-true, cases_Bool}
use Rattle.stamp_order.specs.declared.Stamp.{Stamp}
use Rattle.run_words.specs.declared.outcome.Outcome.TheVariants.{Wrote, Spent, Gave, Outvoted}
use Rattle.protocol.specs.Operations.{Work, Outcome, How}
use Rattle.protocol.specs.Operations.Work.{Reads, Writes}
use Rattle.protocol.specs.World.{Record}
use Rattle.protocol.specs.History.{Entry, read_entry, write_entry}
use Rattle.protocol.specs.History.Kind.{Write, Foreign, Read}
use Rattle.protocol.specs.Report.{Ascend}
use Rattle.history_making.proofs.lemmas.Counted.{count_cons}
use Rattle.history_making.specs.Drafts.{read_candidate_of, write_candidate_of, candidate_by, candidate, candidates, starts_at, HaveStarts, AreCandidates}
use Rattle.lists.proofs.lemmas.Members.{Contains-head, Contains-none, Contains-rest, Contains-cons_cases}

-- ---- what a function gives of a list

pub given_by : {X Y : Type 0} (f : X → Option Y) (xs : List X) (y : Y) → Contains (filter_map f xs) y → (x : X) × Contains xs x × (f x ≡ Some y)
given_by f [] y h = absurd (Contains-none y h)
given_by {X} {Y} f (x ∷ xs) y h = at (f x) refl (given_by f xs y) h
  where
    at : (o : Option Y) → f x ≡ o → (Contains (filter_map f xs) y → (z : X) × Contains xs z × (f z ≡ Some y)) → Contains (cons_option o (filter_map f xs)) y → (z : X) × Contains (x ∷ xs) z × (f z ≡ Some y)
    at None q rest k = let r = rest k in (r.0, Contains-rest r.0 x xs r.1, r.2)
    at (Some w) q rest k = elim (Contains-cons_cases y w (filter_map f xs) k) [ inl i ↦ (x, Contains-head x xs, q ∙ ap Some (sym i)) | inr l ↦ (let r = rest l in (r.0, Contains-rest r.0 x xs r.1, r.2)) ]

pub gives : {X Y : Type 0} (f : X → Option Y) (xs : List X) (x : X) (y : Y) → Contains xs x → f x ≡ Some y → Contains (filter_map f xs) y
gives f [] x y h q = absurd (Contains-none x h)
gives {X} {Y} f (z ∷ xs) x y h q = at (f z) refl (λ l. gives f xs x y l q) (Contains-cons_cases x z xs h)
  where
    at : (o : Option Y) → f z ≡ o → (Contains xs x → Contains (filter_map f xs) y) → (x ≡ z) ⊎ Contains xs x → Contains (cons_option o (filter_map f xs)) y
    at None p rest (inl i) = absurd (let g : f x ≡ f z = ap f i in cc)
    at None p rest (inr l) = rest l
    at (Some w) p rest (inl i) = (let g : f x ≡ f z = ap f i in let e : y ≡ w = cc in rw e (Contains-head w (filter_map f xs)))
    at (Some w) p rest (inr l) = Contains-rest y w (filter_map f xs) (rest l)

-- ---- the candidate of a record

pub record IsReadOf (r : Record) (e : Entry) : Type 0 where
  pub work : r.work ≡ Reads
  pub how : How
  pub rounds : ℕ
  pub gave : r.outcome ≡ Some (Gave e.stamp e.value how rounds)
  pub is : e ≡ read_entry r e.stamp e.value

pub record IsWriteOf (r : Record) (e : Entry) : Type 0 where
  pub work : r.work ≡ Writes e.value
  pub chose : r.stamp ≡ Some e.stamp
  pub is : e ≡ write_entry r e.stamp e.value

pub candidate_cases : (r : Record) (e : Entry) → candidate r ≡ Some e → IsReadOf r e ⊎ IsWriteOf r e
candidate_cases r e h = at r.work refl h
  where
    from : (x : Entry) → Some x ≡ Some e → e ≡ x
    from x h = cc

    read : r.work ≡ Reads → (o : Option Outcome) → r.outcome ≡ o → read_candidate_of r o ≡ Some e → IsReadOf r e ⊎ IsWriteOf r e
    read w None q h = absurd (cc)
    read w (Some (Wrote t)) q h = absurd (cc)
    read w (Some Spent) q h = absurd (cc)
    read w (Some (Outvoted nodes)) q h = absurd (cc)
    read w (Some (Gave t v how n)) q h =
        let i = from (read_entry r t v) h in
        inl (record { work = w; how = how; rounds = n; gave = rw i q; is = rw i refl })

    write : (v : List ℕ) → r.work ≡ Writes v → (t : Option Stamp) → r.stamp ≡ t → write_candidate_of r v t ≡ Some e → IsReadOf r e ⊎ IsWriteOf r e
    write v w None q h = absurd (cc)
    write v w (Some t) q h =
        let i = from (write_entry r t v) h in
        inr (record { work = rw i w; chose = rw i q; is = rw i refl })

    at : (w : Work) → r.work ≡ w → candidate_by r w ≡ Some e → IsReadOf r e ⊎ IsWriteOf r e
    at Reads q h = read q r.outcome refl h
    at (Writes v) q h = write v q r.stamp refl h

pub read_candidate : (r : Record) (t : Stamp) (v : List ℕ) (how : How) (n : ℕ) → r.work ≡ Reads → r.outcome ≡ Some (Gave t v how n) → candidate r ≡ Some (read_entry r t v)
read_candidate r t v how n w g = ap (candidate_by r) w ∙ ap (read_candidate_of r) g

pub write_candidate : (r : Record) (t : Stamp) (v : List ℕ) → r.work ≡ Writes v → r.stamp ≡ Some t → candidate r ≡ Some (write_entry r t v)
write_candidate r t v w c = ap (candidate_by r) w ∙ ap (write_candidate_of r v) c

-- ---- the starts of candidates

candidate_start : (r : Record) (e : Entry) → candidate r ≡ Some e → e.start ≡ Some r.start
candidate_start r e h = elim (candidate_cases r e h) [ inl k ↦ ap (λ (x : Entry). x.start) k.is | inr k ↦ ap (λ (x : Entry). x.start) k.is ]

none_start : (n : ℕ) (rs : List Record) → AllByRecursion (λ m. n < m) (map (λ r. r.start) rs) → count_by (starts_at n) (candidates rs) ≡ 0
none_start n [] h = refl
none_start n (r ∷ rs) h = at (candidate r) refl (none_start n rs h.1)
  where
    other : (e : Entry) → e.start ≡ Some r.start → cond {A = ℕ} (starts_at n e) 1 0 ≡ 0
    other e q = elim (cases_Bool (eqb r.start n)) [
      | inl b ↦ (let i = eqb-true r.start n b in absurd (omega (arith, h.0, i)))
      | inr b ↦ rw (q, b) refl
    ]

    at : (o : Option Entry) → candidate r ≡ o → count_by (starts_at n) (candidates rs) ≡ 0 → count_by (starts_at n) (cons_option o (candidates rs)) ≡ 0
    at None q rest = rest
    at (Some e) q rest = omega (arith, rest, count_cons (starts_at n) e (candidates rs), other e (candidate_start r e q))

once : (n : ℕ) (rs : List Record) → Ascend (map (λ r. r.start) rs) → count_by (starts_at n) (candidates rs) ≤ 1
once n [] h = omega arith
once n (r ∷ rs) h = at (candidate r) refl (once n rs h.1)
  where
    bit : (b : Bool) → cond {A = ℕ} b 1 0 ≤ 1
    bit true = omega arith
    bit false = omega arith

    at : (o : Option Entry) → candidate r ≡ o → count_by (starts_at n) (candidates rs) ≤ 1 → count_by (starts_at n) (cons_option o (candidates rs)) ≤ 1
    at None q rest = rest
    at (Some e) q rest = elim (cases_Bool (eqb r.start n)) [
      | inl b ↦ (let i = eqb-true r.start n b in let z = none_start r.start rs h.0 in let y : count_by (starts_at n) (candidates rs) ≡ 0 = rw i at z in omega (arith, count_cons (starts_at n) e (candidates rs), y, bit (starts_at n e)))
      | inr b ↦ (let s = candidate_start r e q in let y : cond {A = ℕ} (starts_at n e) 1 0 ≡ 0 = rw (s, b) refl in omega (arith, count_cons (starts_at n) e (candidates rs), y, rest))
    ]

pub candidates_start : (rs : List Record) → Ascend (map (λ r. r.start) rs) → HaveStarts (candidates rs)
candidates_start rs h = record { some = λ e k. let g = given_by candidate rs e k in (g.0.start, candidate_start g.0 e g.2); once = λ n. once n rs h }

pub are_candidates : (rs : List Record) → AreCandidates (candidates rs)
are_candidates rs e k f =
    let g = given_by candidate rs e k in
    elim (candidate_cases g.0 e g.2) [
      | inl r ↦ (let i = ap (λ (x : Entry). x.kind) r.is in let j : Read ≡ Foreign = sym i ∙ f in cc)
      | inr w ↦ (let i = ap (λ (x : Entry). x.kind) w.is in let j : Write ≡ Foreign = sym i ∙ f in cc)
    ]
