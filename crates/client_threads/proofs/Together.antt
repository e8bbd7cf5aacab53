-- The passes of a run, when they are put together and its clock is closed; and the journals and records of its desks.
use Rattle.std.proofs.Common.{◌≡◌, ℕ, ◌+◌, List, [], ◌∷◌, ◌++◌, map, refl, sym, ◌∙◌, ap, subst, arith, append_assoc, append-nil}
use Rattle.std.specs.List.{Contains, All}
use Rattle.std.proofs.lemmas.List.{map_push}
use Rattle.std.proofs.lemmas.List.Sums.{sum_by_push}
use Rattle.std.proofs.lemmas.List.Elements.{Contains-get_or, All-append, All-push, All-contains}
use Rattle.quorum_rules.specs.Limits.{Numbers}
use Rattle.event_clock.specs.declared.rule.Share.{Share}
use Rattle.event_clock.specs.Passes.{ClockId, Holder, HasFullPass, IsOneFull, Tally, share_of}
use Rattle.event_clock.specs.Views.{times, times_drawn, IsDrawnOnce}
use Rattle.locked_nodes.specs.Cells.{CellView, KeptCell}
use Rattle.protocol.specs.World.{Record}
use Rattle.client_desks.specs.Desks.{DeskView, KeptDesk, records_at}
use Rattle.phase_threads.specs.Standing.{IsDeskAt, AreCells, journal_at}
use Rattle.journals.specs.declared.desk.DeskJournal.{DeskJournal}
use Rattle.journals.specs.Desks.{new_desk, desk_after_all}
use Rattle.journals.specs.Records.{client_records, records_in, told_records}
use Rattle.phase_threads.specs.declared.duty.Seat.{Seat}
use Rattle.client_duties.specs.declared.work.ClientDuty.{ClientDuty}
use Rattle.client_threads.specs.Running.{desks_of, kept_records}
use Rattle.client_threads.proofs.Threading.{desks_pushed}
use Rattle.client_threads.proofs.Rounds.{cells_tick}
use Rattle.thread_work.proofs.lemmas.Places.{Walked, walk_on}
use Rattle.client_threads.proofs.Walking.{made_more}
use Rattle.lists.proofs.lemmas.Members.{Contains-head, Contains-rest, Contains-map_cases, Contains-map}

-- all passes, in the order in which they are put together
abbrev pub passes_of : List CellView → List DeskView → Holder → List Holder
passes_of cells desks keeper = (map (λ c. c.pass) cells ++ map (λ d. d.pass) desks) ++ keeper ∷ []

pub together : (cells : List CellView) (desks : List DeskView) (keeper : Holder) (a b c d : List Holder) → a ≡ [] → b ≡ a ++ map (λ (x : CellView). x.pass) cells → c ≡ b ++ map (λ (x : DeskView). x.pass) desks
    → d ≡ c ++ keeper ∷ [] → d ≡ passes_of cells desks keeper
together cells desks keeper a b c d none row table last =
    let row' = map (λ (x : CellView). x.pass) cells in
    let table' = map (λ (x : DeskView). x.pass) desks in
    last ∙ ap (λ (l : List Holder). l ++ keeper ∷ []) (table ∙ ap (λ (l : List Holder). l ++ table') (row ∙ ap (λ (l : List Holder). l ++ row') none))

all_by : {X : Type 0} (P : X → Type 0) (xs : List X) → ((x : X) → Contains xs x → P x) → All P xs
all_by P xs f k d lt = f _ (Contains-get_or xs k d lt)

row_ticks : (config : Numbers) (clock : ClockId) (cells : List CellView) → AreCells config clock cells → All KeptCell cells → All (λ p. p.clock ≡ clock) (map (λ (c : CellView). c.pass) cells)
row_ticks config clock cells are kept = all_by (λ (p : Holder). p.clock ≡ clock) (map (λ (c : CellView). c.pass) cells) (λ p there.
    let q = Contains-map_cases (λ (c : CellView). c.pass) cells p there in
    ap (λ (h : Holder). h.clock) q.2 ∙ (All-contains KeptCell cells q.0 kept q.1).own.0 ∙ All-contains (λ (c : CellView). c.charter.pass.clock ≡ clock) cells q.0 (cells_tick config clock cells are) q.1)

desks_tick : (config : Numbers) (clock : ClockId) (desks : List DeskView) → All (IsDeskAt config clock) desks → All (λ p. p.clock ≡ clock) (map (λ (d : DeskView). d.pass) desks)
desks_tick config clock desks are = all_by (λ (p : Holder). p.clock ≡ clock) (map (λ (d : DeskView). d.pass) desks) (λ p there.
    let q = Contains-map_cases (λ (d : DeskView). d.pass) desks p there in
    ap (λ (h : Holder). h.clock) q.2 ∙ (All-contains (IsDeskAt config clock) desks q.0 are q.1).ticks)

-- they are all of the clock
pub all_tick : (config : Numbers) (clock : ClockId) (cells : List CellView) (desks : List DeskView) (keeper : Holder) → AreCells config clock cells → All KeptCell cells → All (IsDeskAt config clock) desks → keeper.clock ≡ clock
    → All (λ p. p.clock ≡ clock) (passes_of cells desks keeper)
all_tick config clock cells desks keeper are kept at k =
    let P = λ (p : Holder). p.clock ≡ clock in
    let row = map (λ (x : CellView). x.pass) cells in
    let table = map (λ (x : DeskView). x.pass) desks in
    All-push P (row ++ table) keeper (All-append P row table (row_ticks config clock cells are kept) (desks_tick config clock desks at)) k

-- a pass that drew nothing changes nothing
undrawn : (x : ℕ) (ps : List Holder) (p : Holder) → p.drawn ≡ [] → times_drawn x (map share_of (ps ++ p ∷ [])) ≡ times_drawn x (map share_of ps)
undrawn x ps p none =
    let more = sum_by_push (λ (s : Share). times x s.drawn) (map share_of ps) (share_of p) in
    let zero : times x p.drawn ≡ 0 = ap (times x) none in
    ap (times_drawn x) (map_push share_of ps p) ∙ omega (arith, more, zero)

shared : {X : Type 0} (f : X → Holder) (xs : List X) → map share_of (map f xs) ≡ map (λ x. share_of (f x)) xs
shared f [] = refl
shared f (x ∷ xs) = ap (λ (l : List Share). share_of (f x) ∷ l) (shared f xs)

both : (ps qs : List Holder) → map share_of (ps ++ qs) ≡ map share_of ps ++ map share_of qs
both [] qs = refl
both (p ∷ ps) qs = ap (λ (l : List Share). share_of p ∷ l) (both ps qs)

-- what they drew is what cells and clients drew
pub drawn_once : (n : ℕ) (cells : List CellView) (desks : List DeskView) (keeper : Holder) → keeper.drawn ≡ []
    → IsDrawnOnce n (map share_of (passes_of cells desks keeper)) → IsDrawnOnce n (map (λ (c : CellView). share_of c.pass) cells ++ map (λ (d : DeskView). share_of d.pass) desks)
drawn_once n cells desks keeper k once x =
    let row = map (λ (y : CellView). y.pass) cells in
    let table = map (λ (y : DeskView). y.pass) desks in
    let same : map share_of (row ++ table) ≡ map (λ (y : CellView). share_of y.pass) cells ++ map (λ (y : DeskView). share_of y.pass) desks =
    both row table ∙ ap (λ (l : List Share). l ++ map share_of table) (shared (λ (y : CellView). y.pass) cells) ∙ ap (λ (l : List Share). map (λ (y : CellView). share_of y.pass) cells ++ l) (shared (λ (y : DeskView). y.pass) desks) in
    sym (ap (times_drawn x) same) ∙ sym (undrawn x (row ++ table) keeper k) ∙ once x

-- a full pass has a full share
pub full_share : (t : Tally) (passes : List Holder) → t.shares ≡ map share_of passes → IsOneFull passes → HasFullPass t
full_share t passes is full = record {
  share = share_of full.pass;
  there = subst (λ (l : List Share). Contains l (share_of full.pass)) (sym is) (Contains-map share_of passes full.pass full.there);
  full = full.full;
}

-- the desks of the seats so far gave their journals, passes and records
abbrev pub Finished : List (Seat ClientDuty) → List Holder → List (Seat ClientDuty) → ℕ → List DeskJournal → List Holder → List Record → Type 0
Finished all old rest n desks passes records =
    (done : List (Seat ClientDuty)) × Walked all done rest n × (desks ≡ map journal_at (desks_of done)) × (passes ≡ old ++ map (λ d. d.pass) (desks_of done)) × All KeptDesk (desks_of done) × (records ≡ kept_records (desks_of done))

kept_more : (ds : List DeskView) (d : DeskView) → kept_records (ds ++ d ∷ []) ≡ kept_records ds ++ records_at d
kept_more [] d = append-nil (records_at d)
kept_more (x ∷ ds) d = ap (λ (l : List Record). records_at x ++ l) (kept_more ds d) ∙ sym (append_assoc (records_at x) (kept_records ds) (records_at d))

pub one_finished : (all : List (Seat ClientDuty)) (old : List Holder) (rest next : List (Seat ClientDuty)) (n m : ℕ) (desks more : List DeskJournal) (passes others : List Holder) (records told : List Record) (seat : Seat ClientDuty) (journal : DeskJournal) (pass : Holder)
    → Finished all old rest n desks passes records → rest ≡ seat ∷ next → m + 1 ≡ n → more ≡ desks ++ journal ∷ [] → journal.client ≡ seat.desk.id → journal.entries ≡ seat.desk.entries
    → others ≡ passes ++ pass ∷ [] → pass ≡ seat.desk.pass → KeptDesk seat.desk → told ≡ records ++ records_at seat.desk → Finished all old next m more others told
one_finished all old rest next n m desks more passes others records told seat journal pass inv is one added client entries put its kept with =
    let was = desks_of inv.0 in
    let same = sym (desks_pushed inv.0 seat) in
    let given : journal ≡ journal_at seat.desk = λ i. record { client = client i; entries = entries i } in (
      inv.0 ++ seat ∷ [],
      walk_on all inv.0 rest next seat n m inv.1 is one,
      made_more journal_at [] desks more was seat.desk journal added inv.2 given ∙ ap (map journal_at) same,
      made_more (λ (x : DeskView). x.pass) old passes others was seat.desk pass put inv.3 its ∙ ap (λ (l : List DeskView). old ++ map (λ (x : DeskView). x.pass) l) same,
      subst (All KeptDesk) same (All-push KeptDesk was seat.desk inv.4 kept),
      with ∙ ap (λ (l : List Record). l ++ records_at seat.desk) inv.5 ∙ sym (kept_more was seat.desk) ∙ ap kept_records same,
    )

-- the records that desks of one cluster keep are those that their journals tell
pub kept_told : (config : Numbers) (ds : List DeskView) → ((d : DeskView) → Contains ds d → d.config ≡ config) → kept_records ds ≡ told_records config (map journal_at ds)
kept_told config [] same = refl
kept_told config (d ∷ ds) same =
    let own : records_at d ≡ records_in config (journal_at d) = ap (λ (k : Numbers). client_records d.id (desk_after_all (new_desk k d.id) d.entries)) (same d (Contains-head d ds)) in
    let rest = kept_told config ds (λ x k. same x (Contains-rest x d ds k)) in
    λ i. own i ++ rest i
