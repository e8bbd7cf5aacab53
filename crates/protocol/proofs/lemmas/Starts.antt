-- Records stand in order of start.
use Rattle.std.proofs.Common.{◌≡◌, ℕ, ◌+◌, ◌<◌, ◌≤◌, Bool, true, false, cond, ◌&&◌, List, [], ◌∷◌, ◌++◌, map, refl, ap, arith, eqb, length}
use Rattle.std.specs.List.{Contains, AllByRecursion}
use Rattle.std.proofs.lemmas.Bool.Decides.{nat_tests}
use Rattle.protocol.specs.Messages.{Message}
use Rattle.protocol.specs.Setting.{Setting, IsValid}
use Rattle.protocol.specs.World.{World, Record, Event, happens, Allowed, IsAnswerTo, heard, open_record, with_record, replaced_by}
use Rattle.protocol.specs.World.Event.{Start, Resend, Give, Hear, CrashNode, CrashClient, Lie, Prune, Back}
use Rattle.protocol.specs.Report.{Ascend}
use Rattle.protocol.proofs.lemmas.Counting.{both_true}
use Rattle.protocol.proofs.Growing.{given_records, resent_records, pruned_records}
use Rattle.protocol.proofs.Invariant.{IsSafe}
use Rattle.protocol.proofs.Heard.{heard_case}
use Rattle.lists.proofs.lemmas.Members.{Contains-head, Contains-rest, all_push}

abbrev pub starts : List Record → List ℕ
starts rs = map (λ r. r.start) rs

starts_push : (rs : List Record) (r : Record) → starts (rs ++ r ∷ []) ≡ starts rs ++ r.start ∷ []
starts_push [] r = refl
starts_push (x ∷ rs) r = ap (λ (ns : List ℕ). x.start ∷ ns) (starts_push rs r)

is : (m n : ℕ) → eqb m n ≡ true → n ≡ m
is m n h = grind (arith, nat_tests)

replaced_start : (r x : Record) → (replaced_by r x).start ≡ x.start
replaced_start r x = at (eqb x.client r.client && eqb x.start r.start) refl
  where
    at : (b : Bool) → eqb x.client r.client && eqb x.start r.start ≡ b → (cond b r x).start ≡ x.start
    at true e = is x.start r.start (both_true _ _ e).1
    at false e = refl

starts_kept : (rs : List Record) (r : Record) → starts (with_record rs r) ≡ starts rs
starts_kept [] r = refl
starts_kept (x ∷ rs) r = rw (replaced_start r x, starts_kept rs r) refl

pub ascend_push : (ns : List ℕ) (n : ℕ) → Ascend ns → AllByRecursion (λ m. m < n) ns → Ascend (ns ++ n ∷ [])
ascend_push [] n h l = (tt, tt)
ascend_push (m ∷ ns) n h l = (all_push (λ k. m < k) ns n h.0 l.0, ascend_push ns n h.1 l.1)

all_starts : (rs : List Record) (n : ℕ) → ((r : Record) → Contains rs r → r.start < n) → AllByRecursion (λ m. m < n) (starts rs)
all_starts [] n h = tt
all_starts (r ∷ rs) n h = (h r (Contains-head r rs), all_starts rs n (λ x k. h x (Contains-rest x r rs k)))

module _ (s : Setting) (good : IsValid s) (w : World) (safe : IsSafe s w) (up : Ascend (starts w.records)) (place : ℕ) where
  -- the world's records stand in order of start
  abbrev InOrder : World → Type 0
  InOrder v = Ascend (starts v.records)

  begins : (r : Record) → w.place < place → r.start ≡ place → Ascend (starts (w.records ++ r ∷ []))
  begins r l e = rw (starts_push w.records r) (ascend_push (starts w.records) r.start up (all_starts w.records r.start (λ x h. let k = (safe.records x h).start in omega (arith, k, l, e))))

  replaced : (r : Record) → Ascend (starts (with_record w.records r))
  replaced r = rw (starts_kept w.records r) up

  hears : w.place ≤ place → (c : ℕ) (m : Message) → Contains w.pool m → w.client_crashed c ≡ false → IsAnswerTo s c m → InOrder (heard s w place c m m.body)
  hears later c m there alive h =
      heard_case s good w safe place later c InOrder up
      (λ task answers busy sent. replaced _) (λ task answers busy sent enough stage e. replaced _) (λ task answers busy sent enough outcome e. replaced _) m there alive h

  pub happens_in_order : (e : Event) → Allowed s w place e → InOrder (happens s w place e)
  happens_in_order (Start c block work) h = begins (open_record c (Rattle.protocol.specs.Operations.begun (Rattle.protocol.specs.World.last_op w c + 1) block work place)) h.later refl
  happens_in_order (Resend c) h = rw (resent_records s w place c (w.task c)) up
  happens_in_order (Give i m) h = rw (given_records s w place i m m.body) up
  happens_in_order (Hear c m) h = hears h.later c m h.sent h.up h.answers
  happens_in_order (CrashNode i) h = up
  happens_in_order (CrashClient c) h = up
  happens_in_order (Lie m) h = up
  happens_in_order (Prune i block) h = rw (pruned_records s w place i block (Rattle.protocol.specs.World.greatest_given block w.records)) up
  happens_in_order (Back c) h = up

-- ascending numbers of at most `most` are few
pub ascend_few : (most : ℕ) (x : ℕ) (xs : List ℕ) → Ascend (x ∷ xs) → ((y : ℕ) → Contains (x ∷ xs) y → y ≤ most) → x + length xs ≤ most
ascend_few most x [] up all = let top = all x (Contains-head x []) in omega (arith, top)
ascend_few most x (y ∷ ys) up all =
    let rest = ascend_few most y ys up.1 (λ z k. all z (Contains-rest z x (y ∷ ys) k)) in
    let above : x < y = up.0.0 in
    omega (arith, rest, above)

pub starts_few : (most : ℕ) (xs : List ℕ) → Ascend xs → ((y : ℕ) → Contains xs y → y ≤ most) → length xs ≤ most + 1
starts_few most [] up all = omega arith
starts_few most (x ∷ xs) up all = let few = ascend_few most x xs up all in omega (arith, few)
