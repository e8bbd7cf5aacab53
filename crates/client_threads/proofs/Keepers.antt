-- A pass that meets others one by one.
use Rattle.std.proofs.Common.{◌≡◌, ℕ, zero, suc, ◌+◌, ◌<◌, ◌≤◌, List, [], ◌∷◌, length, map, set, get_or, refl, sym, ◌∙◌, ap, subst, arith}
use Rattle.std.specs.Prelude.{slice_get}
use Rattle.std.specs.declared.option.Option.TheVariants.{Some}
use Rattle.std.specs.List.{AllZip, All}
use Rattle.std.proofs.lemmas.List.Elements.{All-nil, All-cons, All-head, All-tail}
use Rattle.std.proofs.lemmas.Option.{slice_get-get_or}
use Rattle.event_clock.specs.Passes.{Holder, met}
use Rattle.locked_nodes.specs.Cells.{CellView, KeptCell, met_cell}
use Rattle.client_desks.specs.Desks.{DeskView, KeptDesk, met_desk}
use Rattle.phase_threads.specs.declared.duty.Seat.{Seat}
use Rattle.client_duties.specs.declared.work.ClientDuty.{ClientDuty}
use Rattle.client_threads.specs.Met.{IsKeeper, HasMetCell, HasMetDesk, HasMetSeat}
use Rattle.client_threads.proofs.Stepping.{Partly, partly_more}
use Rattle.client_threads.proofs.Stepping.Partly.{Same, Done}

-- ---- lists beside each other

pub partly_map : {X : Type 0} (R S : X → X → Type 0) (xs ys : List X) (i : ℕ) → ((x y : X) → R x y → S x y) → Partly R xs ys i → Partly S xs ys i
partly_map R S xs ys i h (Same more) = Same more
partly_map R S xs ys i h (Done a b more rest j s p) = Done a b more rest j (h a b s) (partly_map R S more rest j h p)

pub zip_right : {X Y : Type 0} (R : X → Y → Type 0) (Q : Y → Type 0) (xs : List X) (ys : List Y) → ((x : X) (y : Y) → R x y → Q y) → AllZip R xs ys → All Q ys
zip_right R Q [] [] h z = All-nil Q
zip_right R Q [] (y ∷ ys) h z = absurd z
zip_right R Q (x ∷ xs) [] h z = absurd z
zip_right R Q (x ∷ xs) (y ∷ ys) h z = All-cons Q y ys (h x y z.0) (zip_right R Q xs ys h z.1)

-- ---- passes

pub same_keeper : (p : Holder) → IsKeeper p p
same_keeper p = record { clock = refl; number = refl; drawn = refl; seen = omega arith }

pub keeper_then : (p q r : Holder) → IsKeeper p q → IsKeeper q r → IsKeeper p r
keeper_then p q r a b = record { clock = b.clock ∙ a.clock; number = b.number ∙ a.number; drawn = b.drawn ∙ a.drawn; seen = omega (arith, a.seen, b.seen) }

pub met_keeper : (p q : Holder) → IsKeeper p (met p q)
met_keeper p q = record { clock = refl; number = refl; drawn = refl; seen = omega arith }

pub keeper_on : (p q r s : Holder) → IsKeeper p q → s ≡ met q r → IsKeeper p s
keeper_on p q r s a is = subst (IsKeeper p) (sym is) (keeper_then p q (met q r) a (met_keeper q r))

-- what has seen one number at least and another one at most
pub record IsWithin (least most : ℕ) (p : Holder) : Type 0 where
  pub low : least ≤ p.seen
  pub high : p.seen ≤ most

more_within : (low high next : ℕ) (p : Holder) → high ≤ next → IsWithin low high p → IsWithin low next p
more_within low high next p le h = record { low = h.low; high = omega (arith, le, h.high) }

met_within : (low : ℕ) (keeper pass : Holder) → low ≤ keeper.seen → IsWithin low (met keeper pass).seen (met pass keeper)
met_within low keeper pass le = record { low = omega (arith, le); high = omega arith }

-- ---- cells

pub record MeetsCell (low high : ℕ) (old new : CellView) : Type 0 where
  pub met : HasMetCell old new
  pub within : IsWithin low high new.pass
  pub kept : KeptCell new

pub cells_on : (low high next : ℕ) (xs ys : List CellView) (i : ℕ) → high ≤ next → Partly (MeetsCell low high) xs ys i → Partly (MeetsCell low next) xs ys i
cells_on low high next xs ys i le p =
    partly_map (MeetsCell low high) (MeetsCell low next) xs ys i (λ x y m. record { met = m.met; within = more_within low high next y.pass le m.within; kept = m.kept }) p

pub meets_cell : (low : ℕ) (keeper keeper' : Holder) (cell new : CellView) → low ≤ keeper.seen → keeper' ≡ met keeper cell.pass → new ≡ met_cell cell keeper → KeptCell new → MeetsCell low keeper'.seen cell new
meets_cell low keeper keeper' cell new le is made kept =
    let has : HasMetCell cell (met_cell cell keeper) = record { charter = refl; journal = refl; pass = met_keeper cell.pass keeper } in
    let w : IsWithin low keeper'.seen (met cell.pass keeper) = subst (λ (h : Holder). IsWithin low h.seen (met cell.pass keeper)) (sym is) (met_within low keeper cell.pass le) in
    record {
      met = subst (HasMetCell cell) (sym made) has;
      within = subst (λ (c : CellView). IsWithin low keeper'.seen c.pass) (sym made) w;
      kept = kept;
    }

-- ---- seats

pub record MeetsSeat (low high : ℕ) (old new : Seat ClientDuty) : Type 0 where
  pub met : HasMetSeat old new
  pub within : IsWithin low high new.desk.pass
  pub kept : KeptDesk new.desk

pub seats_on : (low high next : ℕ) (xs ys : List (Seat ClientDuty)) (i : ℕ) → high ≤ next → Partly (MeetsSeat low high) xs ys i → Partly (MeetsSeat low next) xs ys i
seats_on low high next xs ys i le p =
    partly_map (MeetsSeat low high) (MeetsSeat low next) xs ys i (λ x y m. record { met = m.met; within = more_within low high next y.desk.pass le m.within; kept = m.kept }) p

pub meets_seat : (low : ℕ) (keeper keeper' : Holder) (old new : Seat ClientDuty) → low ≤ keeper.seen → keeper' ≡ met keeper old.desk.pass → new.desk ≡ met_desk old.desk keeper → new.duty ≡ old.duty → KeptDesk new.desk → MeetsSeat low keeper'.seen old new
meets_seat low keeper keeper' old new le is made duty kept =
    let has : HasMetDesk old.desk (met_desk old.desk keeper) = record { config = refl; id = refl; lying = refl; entries = refl; pass = met_keeper old.desk.pass keeper } in
    let w : IsWithin low keeper'.seen (met old.desk.pass keeper) = subst (λ (h : Holder). IsWithin low h.seen (met old.desk.pass keeper)) (sym is) (met_within low keeper old.desk.pass le) in
    record {
      met = record { duty = duty; desk = subst (HasMetDesk old.desk) (sym made) has };
      within = subst (λ (d : DeskView). IsWithin low keeper'.seen d.pass) (sym made) w;
      kept = kept;
    }

pub all_desks : (seats : List (Seat ClientDuty)) → All (λ s. KeptDesk s.desk) seats → All KeptDesk (map (λ s. s.desk) seats)
all_desks [] a = All-nil KeptDesk
all_desks (s ∷ seats) a = All-cons KeptDesk s.desk (map (λ s. s.desk) seats) (a 0 s (omega arith)) (all_desks seats (λ k d lt. a (suc k) d (omega (arith, lt))))

-- what holds of the item at a place, whatever stands for one that isn't there
pub at_any : {X : Type 0} (P : X → Type 0) (xs : List X) (i : ℕ) (x : X) → i < length xs → x ≡ get_or xs i x → P x → (d : X) → P (get_or xs i d)
at_any P xs i x lt is p d =
    let same : Some (get_or xs i x) ≡ Some (get_or xs i d) = sym (slice_get-get_or xs i x lt) ∙ slice_get-get_or xs i d lt in
    subst P (is ∙ cc) p

pub item_at : {X : Type 0} (xs : List X) (i : ℕ) (x : X) → i < length xs → x ≡ get_or xs i x → slice_get xs i ≡ Some x
item_at xs i x lt is = slice_get-get_or xs i x lt ∙ ap (λ y. Some y) (sym is)

pub partly_next : {X : Type 0} (R : X → X → Type 0) (xs ys : List X) (i : ℕ) (x y : X) → Partly R xs ys i → slice_get ys i ≡ Some x → R x y → Partly R xs (set ys i y) (i + 1)
partly_next R xs ys i x y p at r = (let e : suc i ≡ i + 1 = omega arith in subst (Partly R xs (set ys i y)) e (partly_more R xs ys i x y p at r))

pub set_all : {X : Type 0} (P : X → Type 0) (xs : List X) (i : ℕ) (y : X) → All P xs → P y → All P (set xs i y)
set_all P [] i y a p = All-nil P
set_all P (x ∷ xs) zero y a p = All-cons P y xs p (All-tail P x xs a)
set_all P (x ∷ xs) (suc i) y a p = All-cons P x (set xs i y) (All-head P x xs a) (set_all P xs i y (All-tail P x xs a) p)
