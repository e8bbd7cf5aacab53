-- The records of all clients are those of the run.
use Rattle.std.proofs.Common.{◌≡◌, ◌⊎◌, ℕ, suc, ◌+◌, ◌<◌, ◌≤◌, Bool, true, false, cond, List, [], ◌∷◌, map, Option, refl, sym, ◌∙◌, ap, subst, inl, inr, arith, eqb}
use Rattle.std.specs.declared.option.Option.TheVariants.{None, Some}
use Rattle.std.specs.List.{Contains, AllByRecursion}
use Rattle.std.specs.List.Sorted.{IsPermutation, IsNonDecreasingBy}
use Rattle.std.proofs.lemmas.List.{map-append}
use Rattle.std.proofs.lemmas.List.Elements.{Contains-append_cases, Contains-append_left, Contains-append_right}
use Rattle.std.proofs.lemmas.List.Sorted.{IsPermutation-map, IsPermutation-sym, Contains-permutation, sum_by-IsPermutation}
use Rattle.run_words.specs.declared.record.Record.{Record as ToldRecord}
use Rattle.protocol.specs.World.{Record}
use Rattle.protocol.specs.Report.{Ascend}
use Rattle.protocol.specs.Seen.{record_of}
use Rattle.quorum_rules.specs.Limits.{Numbers}
use Rattle.protocol.specs.Messages.{Message}
use Rattle.protocol.specs.Seen.{Hearing}
use Rattle.protocol.specs.Seen.Hearing.{Ignored}
use Rattle.operation_core.specs.Clients.{hears}
use Rattle.journals.specs.declared.desk.DeskAct.{DeskAct}
use Rattle.journals.specs.declared.desk.DeskAct.TheVariants.{Start, Crash, Call}
use Rattle.journals.specs.declared.desk.DeskEntry.{DeskEntry}
use Rattle.journals.specs.declared.desk.DeskJournal.{DeskJournal}
use Rattle.journals.specs.declared.whole.Journals.{Journals}
use Rattle.journals.specs.Desks.{DeskState, new_desk, by_hearing, desk_told, desk_after, desk_after_all, LiarCalls, DeskKept}
use Rattle.journals.specs.Steps.{Conduct}
use Rattle.journals.specs.Steps.Step.{AtDesk}
use Rattle.journals.specs.Journals.{setting_for, at_desk, IsEntry, AreOfRun}
use Rattle.journals.specs.Records.{records_in, told_records, AreTold}
use Rattle.journal_records.specs.Records.{AreAllRecords}
use Rattle.journal_records.proofs.Owning.{all_above}
use Rattle.journal_records.proofs.Starts.{starts, starts_of, times, times-cons, times-cases, kept_starts, StartsAt, starts_there, starts_once, one_or_none, times-append}
use Rattle.lists.proofs.lemmas.Members.{Contains-head, Contains-none, Contains-rest, Contains-cons_cases, Contains-one}
use Rattle.journals.proofs.lemmas.Lists.{own_entries}

-- ---- whose they are

pub has_told : (config : Numbers) (ds : List DeskJournal) (d : DeskJournal) (r : Record) → Contains ds d → Contains (records_in config d) r → Contains (told_records config ds) r
has_told config [] d r there told = absurd (Contains-none d there)
has_told config (x ∷ ds) d r there told = elim (Contains-cons_cases d x ds there) [
  | inl is ↦ Contains-append_left (records_in config x) (told_records config ds) r (subst (λ (y : DeskJournal). Contains (records_in config y) r) is told)
  | inr later ↦ Contains-append_right (records_in config x) (told_records config ds) r (has_told config ds d r later told)
]

-- the record is one of a client among these
record IsTold (config : Numbers) (ds : List DeskJournal) (r : Record) : Type 0 where
  desk : DeskJournal
  there : Contains ds desk
  told : Contains (records_in config desk) r

is_told : (config : Numbers) (ds : List DeskJournal) (r : Record) → Contains (told_records config ds) r → IsTold config ds r
is_told config [] r h = absurd (Contains-none r h)
is_told config (d ∷ ds) r h = elim (Contains-append_cases (records_in config d) (told_records config ds) r h) [
  | inl now ↦ record { desk = d; there = Contains-head d ds; told = now }
  | inr later ↦ (let t = is_told config ds r later in record { desk = t.desk; there = Contains-rest t.desk d ds t.there; told = t.told })
]

-- ---- a lying client has none

-- nothing is under way, and nothing has ended
record IsIdle (d : DeskState) : Type 0 where
  task : d.client.seen.task ≡ None
  ended : d.ended ≡ []

idle_told : (d : DeskState) (n : ℕ) (reply : Option Message) → IsIdle d → IsIdle (desk_told d n reply)
idle_told d n None idle = idle
idle_told d n (Some m) idle =
    let none : hears d.client d.client.seen.task m ≡ Ignored = ap (λ t. hears d.client t m) idle.task in
    record {
      task = ap (λ (h : Hearing). (by_hearing d.client h).seen.task) none ∙ idle.task;
      ended = rw (none, idle.task, idle.ended) refl;
    }

idle_act : (d : DeskState) (n : ℕ) (a : DeskAct) → LiarCalls d.client.id a → IsIdle d → IsIdle (desk_after d n a)
idle_act d n (Start op) calls idle = absurd calls
idle_act d n Crash calls idle = absurd calls
idle_act d n (Call way ask reply) calls idle = idle_told d n reply idle

liar_idle : (d : DeskState) (es : List DeskEntry) → DeskKept true d es → IsIdle d → IsIdle (desk_after_all d es)
liar_idle d [] kept idle = idle
liar_idle d (e ∷ es) kept idle = liar_idle (desk_after d e.number e.act) es kept.1 (idle_act d e.number e.act kept.0 idle)

liar_records : (config : Numbers) (d : DeskJournal) → DeskKept true (new_desk config d.client) d.entries → records_in config d ≡ []
liar_records config d kept =
    let idle = liar_idle (new_desk config d.client) d.entries kept (record { task = refl; ended = refl }) in
    rw (idle.ended, idle.task) refl

-- ---- no two start at one place

module _ (conduct : Conduct) (j : Journals) (of_run : AreOfRun conduct j) (order : Ascend (map (λ d. d.client) j.desks)) where
  kept_as : (d : DeskJournal) → Contains j.desks d → (b : Bool) → (setting_for j).lying_client d.client ≡ b → DeskKept b (new_desk j.config d.client) d.entries
  kept_as d there b is =
      subst (λ (es : List DeskEntry). DeskKept b (new_desk j.config d.client) es) (own_entries j.desks order d there)
      (subst (λ (b : Bool). DeskKept b (new_desk j.config d.client) (at_desk j d.client)) is (of_run.kept.desks d.client).goes)

  pub kept_desks : (d : DeskJournal) → Contains j.desks d → (setting_for j).lying_client d.client ≡ false → DeskKept false (new_desk j.config d.client) d.entries
  kept_desks d there correct = kept_as d there false correct

  pub no_records : (d : DeskJournal) → Contains j.desks d → (setting_for j).lying_client d.client ≡ true → records_in j.config d ≡ []
  no_records d there lying = liar_records j.config d (kept_as d there true lying)

  -- so whoever has one is correct
  by_whom : (d : DeskJournal) (r : Record) → Contains j.desks d → Contains (records_in j.config d) r → (setting_for j).lying_client d.client ≡ false
  by_whom d r there h = at ((setting_for j).lying_client d.client) refl
    where
      at : (b : Bool) → (setting_for j).lying_client d.client ≡ b → b ≡ false
      at true e = absurd (Contains-none r (subst (λ (l : List Record). Contains l r) (no_records d there e) h))
      at false e = refl

  ascends : (d : DeskJournal) → Contains j.desks d → Ascend (map (λ (e : DeskEntry). e.number) d.entries)
  ascends d there = subst (λ (es : List DeskEntry). Ascend (map (λ (e : DeskEntry). e.number) es)) (own_entries j.desks order d there) (of_run.kept.desks d.client).ascends

  -- a client's records start where its journal starts operations, if there are some
  starts_by : (d : DeskJournal) → Contains j.desks d → (starts (records_in j.config d) ≡ []) ⊎ (starts (records_in j.config d) ≡ starts_of d.entries)
  starts_by d there = at ((setting_for j).lying_client d.client) refl
    where
      at : (b : Bool) → (setting_for j).lying_client d.client ≡ b → (starts (records_in j.config d) ≡ []) ⊎ (starts (records_in j.config d) ≡ starts_of d.entries)
      at true e = inl (ap starts (no_records d there e))
      at false e = inr (kept_starts d.client (new_desk j.config d.client) d.entries (kept_desks d there e) refl)

  -- one of these clients did something of its own at the number of this place
  record ActsAt (ds : List DeskJournal) (place : ℕ) : Type 0 where
    desk : DeskJournal
    there : Contains ds desk
    number : ℕ
    at : number + 1 ≡ place
    act : DeskAct
    entry : IsEntry j number (AtDesk desk.client act)

  acts_by : (d : DeskJournal) (place : ℕ) → Contains j.desks d → 1 ≤ times place (starts (records_in j.config d)) → ActsAt (d ∷ []) place
  acts_by d place there some = elim (starts_by d there) [
    | inl none ↦ absurd (let z : 1 ≤ times place [] = subst (λ (l : List ℕ). 1 ≤ times place l) none some in omega (arith, z))
    | inr are ↦ (let h : StartsAt d.entries place = starts_there d.entries place (subst (λ (l : List ℕ). 1 ≤ times place l) are some) in
        record {
          desk = d;
          there = Contains-head d [];
          number = h.entry.number;
          at = h.at;
          act = h.entry.act;
          entry = (h.own, subst (λ (es : List DeskEntry). Contains es h.entry) (sym (own_entries j.desks order d there)) h.there);
        })
  ]

  -- those of the first client, and those of the others
  apart : (d : DeskJournal) (ds : List DeskJournal) (place : ℕ) → times place (starts (told_records j.config (d ∷ ds))) ≡ times place (starts (records_in j.config d)) + times place (starts (told_records j.config ds))
  apart d ds place = ap (times place) (map-append (λ (r : Record). r.start) (records_in j.config d) (told_records j.config ds)) ∙ times-append place (starts (records_in j.config d)) (starts (told_records j.config ds))

  acts_in : (ds : List DeskJournal) (place : ℕ) → ((d : DeskJournal) → Contains ds d → Contains j.desks d) → 1 ≤ times place (starts (told_records j.config ds)) → ActsAt ds place
  acts_in [] place sub some = absurd (omega (arith, some))
  acts_in (d ∷ ds) place sub some = elim (one_or_none (times place (starts (records_in j.config d)))) [
    | inl none ↦ (let sum = apart d ds place in
        let a = acts_in ds place (λ x h. sub x (Contains-rest x d ds h)) (omega (arith, some, sum, none)) in
        record { desk = a.desk; there = Contains-rest a.desk d ds a.there; number = a.number; at = a.at; act = a.act; entry = a.entry })
    | inr now ↦ (let a = acts_by d place (sub d (Contains-head d ds)) now in
        record { desk = a.desk; there = subst (λ (x : DeskJournal). Contains (d ∷ ds) x) (sym (Contains-one a.desk d a.there)) (Contains-head d ds); number = a.number; at = a.at; act = a.act; entry = a.entry })
  ]

  -- not at the desk of the first client and at another's
  not_both : (d : DeskJournal) (ds : List DeskJournal) (place : ℕ) → AllByRecursion (λ k. d.client < k) (map (λ d. d.client) ds) → ActsAt (d ∷ []) place → ActsAt ds place → ⊥
  not_both d ds place above one other =
      let same : one.number ≡ other.number = (let a = one.at in let b = other.at in omega (arith, a, b)) in
      let steps : AtDesk one.desk.client one.act ≡ AtDesk other.desk.client other.act =
      of_run.numbers.once one.number (AtDesk one.desk.client one.act) (AtDesk other.desk.client other.act) one.entry (subst (λ (n : ℕ). IsEntry j n (AtDesk other.desk.client other.act)) (sym same) other.entry) in
      let clients : one.desk.client ≡ other.desk.client = cc in
      let own : one.desk.client ≡ d.client = ap (λ (x : DeskJournal). x.client) (Contains-one one.desk d one.there) in
      let more = all_above d.client ds above other.desk other.there in
      omega (arith, clients, own, more)

  at_most_once : (d : DeskJournal) (place : ℕ) → Contains j.desks d → times place (starts (records_in j.config d)) ≤ 1
  at_most_once d place there = elim (starts_by d there) [
    | inl none ↦ subst (λ (l : List ℕ). times place l ≤ 1) (sym none) (omega arith)
    | inr are ↦ subst (λ (l : List ℕ). times place l ≤ 1) (sym are) (starts_once d.entries place (ascends d there))
  ]

  told_once : (ds : List DeskJournal) (place : ℕ) → Ascend (map (λ d. d.client) ds) → ((d : DeskJournal) → Contains ds d → Contains j.desks d) → times place (starts (told_records j.config ds)) ≤ 1
  told_once [] place up sub = omega arith
  told_once (d ∷ ds) place up sub = by_count (one_or_none (times place (starts (records_in j.config d)))) (one_or_none (times place (starts (told_records j.config ds)))) (told_once ds place up.1 (λ x h. sub x (Contains-rest x d ds h)))
    where
      by_count : (times place (starts (records_in j.config d)) < 1) ⊎ (1 ≤ times place (starts (records_in j.config d))) → (times place (starts (told_records j.config ds)) < 1) ⊎ (1 ≤ times place (starts (told_records j.config ds))) → times place (starts (told_records j.config ds)) ≤ 1
          → times place (starts (told_records j.config (d ∷ ds))) ≤ 1
      by_count (inl none) two rest = let sum = apart d ds place in omega (arith, sum, none, rest)
      by_count (inr one) (inl none) rest = let sum = apart d ds place in let once = at_most_once d place (sub d (Contains-head d ds)) in omega (arith, sum, none, once)
      by_count (inr one) (inr two) rest =
          absurd (not_both d ds place up.0 (acts_by d place (sub d (Contains-head d ds)) one) (acts_in ds place (λ x h. sub x (Contains-rest x d ds h)) two))

-- ---- by start

-- all places are there at most once
abbrev IsOnce : List ToldRecord → Type 0
IsOnce rs = (place : ℕ) → times place (starts (map record_of rs)) ≤ 1

counts : (rs : List ToldRecord) (y : ToldRecord) → Contains rs y → 1 ≤ times y.start (starts (map record_of rs))
counts [] y h = absurd (Contains-none y h)
counts (x ∷ rs) y h = at (counts rs y) (times-cases y.start x.start (starts (map record_of rs)))
  where
    at : (Contains rs y → 1 ≤ times y.start (starts (map record_of rs)))
        → ((x.start ≡ y.start) × (times y.start (x.start ∷ starts (map record_of rs)) ≡ 1 + times y.start (starts (map record_of rs)))) ⊎ ((x.start ≡ y.start → ⊥) × (times y.start (x.start ∷ starts (map record_of rs)) ≡ times y.start (starts (map record_of rs))))
        → 1 ≤ times y.start (x.start ∷ starts (map record_of rs))
    at rest (inl same) = let one = same.1 in omega (arith, one)
    at rest (inr other) = elim (Contains-cons_cases y x rs h) [
      | inl is ↦ absurd (other.0 (ap (λ (r : ToldRecord). r.start) (sym is)))
      | inr later ↦ (let some = rest later in let kept = other.1 in omega (arith, some, kept))
    ]

-- so what isn't lower is higher
strictly : (x : ToldRecord) (rs : List ToldRecord) → IsOnce (x ∷ rs) → (y : ToldRecord) → Contains rs y → x.start ≤ y.start → x.start < y.start
strictly x rs once y h low = at (times-cases y.start x.start (starts (map record_of rs)))
  where
    at : ((x.start ≡ y.start) × (times y.start (x.start ∷ starts (map record_of rs)) ≡ 1 + times y.start (starts (map record_of rs)))) ⊎ ((x.start ≡ y.start → ⊥) × (times y.start (x.start ∷ starts (map record_of rs)) ≡ times y.start (starts (map record_of rs))))
        → x.start < y.start
    at (inl same) = absurd (let two = same.1 in let some = counts rs y h in let one = once y.start in omega (arith, two, some, one))
    at (inr other) = let apart = other.0 in omega (arith, low, apart)

all_later : (n : ℕ) (rs : List ToldRecord) → ((y : ToldRecord) → Contains rs y → n < y.start) → AllByRecursion (λ k. n < k) (starts (map record_of rs))
all_later n [] later = tt
all_later n (y ∷ rs) later = (later y (Contains-head y rs), all_later n rs (λ z h. later z (Contains-rest z y rs h)))

once_behind : (x : ToldRecord) (rs : List ToldRecord) → IsOnce (x ∷ rs) → IsOnce rs
once_behind x rs once place = let one = once place in let sum = times-cons place x.start (starts (map record_of rs)) in omega (arith, one, sum)

ascend_from : (rs : List ToldRecord) → IsNonDecreasingBy (λ r. r.start) rs → IsOnce rs → Ascend (starts (map record_of rs))
ascend_from [] up once = tt
ascend_from (x ∷ rs) up once = (
  all_later x.start rs (λ y h. strictly x rs once y h (let low = up 0 (suc h.0) y (omega arith) (omega (arith, h.1)) in rw h.2 at low)),
  ascend_from rs (λ i k d le within. up (suc i) (suc k) d (omega (arith, le)) (omega (arith, within))) (once_behind x rs once),
)

module _ (conduct : Conduct) (j : Journals) (of_run : AreOfRun conduct j) (order : Ascend (map (λ d. d.client) j.desks)) where
  -- the records of all clients, in the order of their starts, are those of the run
  pub are_all : (told sorted : List ToldRecord) → AreTold j (map record_of told) → IsPermutation told sorted → IsNonDecreasingBy (λ r. r.start) sorted → AreAllRecords j (map record_of sorted)
  are_all told sorted is moved up =
      let records = IsPermutation-map record_of told sorted moved in
      let places = IsPermutation-map (λ (r : Record). r.start) (map record_of told) (map record_of sorted) records in
      record {
        ascend = ascend_from sorted up (λ place.
            let once = told_once conduct j of_run order j.desks place order (λ d h. h) in
            let same = sum_by-IsPermutation (λ (x : ℕ). cond {A = ℕ} (eqb x place) 1 0) (starts (map record_of told)) (starts (map record_of sorted)) places in
            let from = ap (λ (rs : List Record). times place (starts rs)) is in
            omega (arith, once, same, from));
        all = λ r h.
            let here : Contains (map record_of told) r = subst (λ (rs : List Record). Contains rs r) (sym is) (has_told j.config j.desks h.desk r h.there h.told) in
            Contains-permutation (map record_of told) (map record_of sorted) r records here;
        only = λ r h.
            let here : Contains (map record_of told) r = Contains-permutation (map record_of sorted) (map record_of told) r (IsPermutation-sym (map record_of told) (map record_of sorted) records) h in
            let t = is_told j.config j.desks r (subst (λ (rs : List Record). Contains rs r) is here) in
            record { desk = t.desk; there = t.there; correct = by_whom conduct j of_run order t.desk r t.there t.told; told = t.told };
      }
