-- No operation that has ended goes on beyond a crash of its client.
use Rattle.std.proofs.Common.{◌≡◌, ℕ, ◌<◌, Bool, true, List, [], ◌∷◌, ◌++◌, Option, refl, sym, ap, subst, ◌∙◌, inl, inr, arith}
use Rattle.std.specs.declared.option.Option.TheVariants.{None, Some}
use Rattle.std.specs.List.{Contains}
use Rattle.std.proofs.lemmas.List.Elements.{Contains-append_cases}
use Rattle.quorum_rules.specs.Limits.{Numbers}
use Rattle.run_words.specs.declared.line.Line.TheVariants.{CrashClient}
use Rattle.protocol.specs.Setting.{Setting, first_stamp}
use Rattle.protocol.specs.World.{World, Record, start_world}
use Rattle.protocol.specs.Lines.{Line, Run, IsRun, plays}
use Rattle.protocol.specs.Instance.{InEachRun, IsCluster, setting_of}
use Rattle.protocol.specs.Laws.{RunsComeApart, StartsAscend, RecordsAreTold, BegunStay, EndedStay, CrashedNeverEnd}
use Rattle.protocol.proofs.lemmas.Counting.{update-same}
use Rattle.lists.proofs.lemmas.Members.{Contains-none, Contains-cons_cases, Contains-map_cases}
use Rattle.linear_runs.specs.Linear.{Act, Operation}
use Rattle.linear_runs.specs.Durable.{Crash, IsNotSpanned}
use Rattle.linear_runs.specs.Of.{op_of, done_by, known, unknown, unknown_write, operations, crash_at, crashes_of}
use Rattle.linear_runs.specs.Laws.{EndedAreKept}
use Rattle.linear_runs.proofs.lemmas.Matching.{filter_map_is, filter_map_has}
use Rattle.linear_runs.proofs.lemmas.Runs.{one_start, done_is}

-- a list at one of its members
parted : {X : Type 0} (xs : List X) (x : X) → Contains xs x → (front : List X) × (rest : List X) × (xs ≡ front ++ x ∷ rest)
parted [] x h = absurd (Contains-none x h)
parted {X} (y ∷ xs) x h =
    let later = parted xs x in
    elim (Contains-cons_cases x y xs h) [
      | inl e ↦ ([], xs, rw e refl)
      | inr k ↦ (let r = later k in (y ∷ r.0, r.1, ap (λ (zs : List X). y ∷ zs) r.2))
    ]

-- the line at which a client crashes
crash_is : (place : ℕ) (line : Line) (crash : Crash) → crash_at place line ≡ Some crash → (line ≡ CrashClient crash.client) × (place ≡ crash.place)
crash_is place (CrashClient client) crash e = let q : record { client = client; place = place } ≡ crash = cc in (ap (λ (k : Crash). CrashClient k.client) q, ap (λ (k : Crash). k.place) q)
crash_is place _ crash e = absurd (cc)

-- what a run has of its laws, at each beginning of it
module _ (c : Numbers) (nodes clients : ℕ → Bool) (good : IsCluster c nodes) (apart : (s : Setting) (w : World) → RunsComeApart s w) (up : InEachRun StartsAscend) (told : InEachRun RecordsAreTold) (begun : InEachRun BegunStay)
    (ended : InEachRun EndedStay) (cut : InEachRun CrashedNeverEnd) (lines : List (ℕ × Line)) (w : World) (run : IsRun (setting_of c nodes clients) lines w) where
  abbrev s : Setting
  s = setting_of c nodes clients

  -- a record and the operation that it makes
  record Makes (o : Operation) : Type 0 where
    of : Record
    there : Contains w.records of
    does : done_by of of.work of.outcome ≡ Some o
    act : Act
    is : o ≡ op_of of act

  makes_of : (o : Operation) → Contains (known w.records) o → Makes o
  makes_of o k =
      let m = filter_map_is (λ r. done_by r r.work r.outcome) w.records o k in
      let d = done_is m.0 m.0.work m.0.outcome o m.2 in
      record { of = m.0; there = m.1; does = m.2; act = d.0; is = d.1 }

  pub kept : EndedAreKept s w
  kept more last o end on k e =
      let m = makes_of o k in
      let f : m.of.end ≡ Some end = sym (ap (λ (z : Operation). z.end) m.is) ∙ e in
      let l = ((told c nodes clients good lines w run m.of m.there).end end f).1 in
      let there = (ended c nodes clients good lines w run more last m.of end on f l).0 m.there in
      filter_map_has (λ r. done_by r r.work r.outcome) last.records m.of o there m.does

  -- the run up to the line of a crash, and from there on
  module _ (crash : Crash) (front rest : List (ℕ × Line)) (v : World) (before : IsRun s front v) (after : Run s v ((crash.place, CrashClient crash.client) ∷ rest) w) where
    abbrev down : World
    down = plays s v crash.place (CrashClient crash.client)

    with_crash : IsRun s (front ++ (crash.place, CrashClient crash.client) ∷ []) down
    with_crash = (apart s (start_world s) front ((crash.place, CrashClient crash.client) ∷ []) down).1 (v, before, (after.0, after.1, after.2, refl))

    -- the client's operation as it stood when the client crashed
    stood : (r : Record) (end : ℕ) → Contains w.records r → r.client ≡ crash.client → r.end ≡ Some end → (y : Record) → Contains v.records y → y.client ≡ r.client → y.start ≡ r.start → (z : Option ℕ) → y.end ≡ z → end < crash.place
    stood r end there of_client e y k same start None f =
        let stays = (cut c nodes clients good (front ++ (crash.place, CrashClient crash.client) ∷ []) down with_crash rest w y after.3 k f (is_down y.client (same ∙ of_client))).0 in
        let one = one_start w.records (up c nodes clients good lines w run) y r stays there start in
        absurd (let q = ap (λ (x : Record). x.end) one in cc)
      where
        is_down : (client : ℕ) → client ≡ crash.client → down.client_crashed client ≡ true
        is_down client q = rw q (update-same v.client_crashed crash.client true)
    stood r end there of_client e y k same start (Some last) f =
        let early = ((told c nodes clients good front v before y k).end last f).1 in
        let stays = (ended c nodes clients good front v before ((crash.place, CrashClient crash.client) ∷ rest) w y last after f early).0 k in
        let one = one_start w.records (up c nodes clients good lines w run) y r stays there start in
        let q = ap (λ (x : Record). x.end) one in
        let g : last ≡ end = cc in
        let l = after.0 in
        omega (arith, early, g, l)

    ends_before : (r : Record) (end : ℕ) → Contains w.records r → r.client ≡ crash.client → r.start < crash.place → r.end ≡ Some end → end < crash.place
    ends_before r end there of_client l e =
        let h = (begun c nodes clients good (front ++ (crash.place, CrashClient crash.client) ∷ []) down with_crash rest w r after.3 (omega (arith, l))).1 (r, there, (refl, refl)) in
        stood r end there of_client e h.0 h.1 h.2.0 h.2.1 h.0.end refl

  pub cut_off : (crash : Crash) (o : Operation) → Contains (crashes_of lines) crash → Contains (operations s w) o → IsNotSpanned crash o
  cut_off crash o there k start end of_client began l e =
      elim (Contains-append_cases (known w.records) (unknown (first_stamp s) w.records) o k) [
        | inl m ↦ (
            let r = makes_of o m in
            let of : r.of.client ≡ crash.client = (let q = ap (λ (z : Operation). z.client) r.is in cc) in
            let from : r.of.start ≡ start = (let q = ap (λ (z : Operation). z.start) r.is in cc) in
            let to : r.of.end ≡ Some end = sym (ap (λ (z : Operation). z.end) r.is) ∙ e in
            let x = filter_map_is (λ t. crash_at t.0 t.1) lines crash there in
            let is = crash_is x.0.0 x.0.1 crash x.2 in
            let parts = parted lines x.0 x.1 in
            let same : x.0 ≡ (crash.place, CrashClient crash.client) = (λ i. (is.1 i, is.0 i)) in
            let whole = (apart s (start_world s) parts.0 (x.0 ∷ parts.1) w).0 (subst (λ (ls : List (ℕ × Line)). IsRun s ls w) parts.2 run) in
            ends_before crash parts.0 parts.1 whole.0 whole.1 (subst (λ (t : ℕ × Line). Run s whole.0 (t ∷ parts.1) w) same whole.2) r.of end r.there of (omega (arith, from, l)) to)
        | inr m ↦ (
            let x = Contains-map_cases unknown_write _ o m in
            let n : o.client ≡ None = ap (λ (z : Operation). z.client) x.2 in
            absurd (cc))
      ]
