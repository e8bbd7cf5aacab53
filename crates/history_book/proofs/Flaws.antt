-- A history has no flaw exactly where it is legal and in time.
use Rattle.std.proofs.Common.{◌≡◌, ◌≢◌, ◌⊎◌, ℕ, suc, zero, Option, ◌-◌, ◌<◌, ◌≤◌, Bool, true, false, List, [], ◌∷◌, length, map, get_or, Some, None, refl, sym, ap, subst, ◌∙◌, arith, inl, inr}
use Rattle.std.specs.Prelude.{slice_get, IfNone, IfSome, is_some}
use Rattle.std.specs.List.Sorted.{IsNonDecreasingBy}
use Rattle.std.specs.Str.{bytes_eq}
use Rattle.std.proofs.lemmas.Bool.{cases_eq, cases_lt}
use Rattle.std.proofs.lemmas.List.{length-map}
use Rattle.std.proofs.lemmas.Option.{slice_get_within, slice_get_cases, get_or_from_slice_get, slice_get-map}
use Rattle.std.proofs.lemmas.Slice.Eq.{bytes_eq-Decides}
use Rattle.protocol.specs.History.{Entry as FullEntry, LegalFrom, legal_at, values_after}
use Rattle.history_making.specs.declared.entry.Kind.{Kind}
use Rattle.history_making.specs.declared.entry.Kind.TheVariants.{Read, Write, Foreign}
use Rattle.history_making.specs.declared.entry.Entry.{Entry}
use Rattle.history_book.specs.declared.judging.FlawKind.{FlawKind}
use Rattle.history_book.specs.declared.judging.FlawKind.TheVariants.{Value, Time}
use Rattle.history_book.specs.declared.judging.Flaw.{Flaw}
use Rattle.history_book.specs.declared.judging.Sweep.{Sweep}
use Rattle.history_book.specs.Judging.{entry_of, zeros_of, IsLegal, IsInTime, HasNoWrite, IsLastWrite, IsValueFlaw, IsTimeFlaw, IsFlaw, HasNoFlaw, TellsFirstFlaw}
use Rattle.history_making.specs.Kinds.{full_kind}
use Rattle.history_book.specs.Sweeps.{IsSweep, IsOfBlockBefore}

-- ---- a sweep comes to the next block

at_most : (entries : List Entry) (i j : ℕ) (x y : Entry) → IsNonDecreasingBy (λ e. e.block) entries → i ≤ j → slice_get entries i ≡ Some x → slice_get entries j ≡ Some y → x.block ≤ y.block
at_most entries i j x y sorted le p q =
    let h = sorted i j x le (slice_get_within entries j y q) in
    let a = get_or_from_slice_get entries i x x p in
    let b = get_or_from_slice_get entries j y x q in
    omega (arith, h, ap (λ (e : Entry). e.block) a, ap (λ (e : Entry). e.block) b)

-- the entry at a place of the list
element : (entries : List Entry) (i : ℕ) → i < length entries → (x : Entry) × (slice_get entries i ≡ Some x)
element entries i lt =
    elim ((slice_get_cases entries i).1) [
      | inl h ↦ (h.0, h.2)
      | inr h ↦ absurd (omega (arith, h.0))
    ]

-- no entry of a block that differs from that of the entry before
none_yet : (entries : List Entry) (place block : ℕ) (e : Entry) → IsNonDecreasingBy (λ e. e.block) entries → slice_get entries place ≡ Some e → IsOfBlockBefore entries place block → block ≢ e.block
    → (k : ℕ) (f : Entry) → k < place → slice_get entries k ≡ Some f → f.block ≡ e.block → ⊥
none_yet entries place block e sorted there of_block differs k f lt at same =
    let within = slice_get_within entries place e there in
    let before = element entries (place - 1) (omega arith) in
    let g = before.0 in
    let is : g.block ≡ block = of_block (place - 1) g (omega arith) before.1 in
    let low : f.block ≤ g.block = at_most entries k (place - 1) f g sorted (omega arith) at before.1 in
    let high : g.block ≤ e.block = at_most entries (place - 1) place g e sorted (omega arith) before.1 there in
    differs (omega arith)

abbrev fresh : ℕ → Sweep
fresh block = record { block = block; last_write = None; latest_start = None }

-- what is known of the block of the next entry
pub moved : (entries : List Entry) (place : ℕ) (e : Entry) (s r : Sweep) → IsNonDecreasingBy (λ e. e.block) entries → slice_get entries place ≡ Some e → IsSweep entries place s → IsOfBlockBefore entries place s.block
    → (s.block ≡ e.block → r ≡ s) → (s.block ≢ e.block → r ≡ fresh e.block) → (e.block ≡ r.block) × IsSweep entries place r
moved entries place e s r sorted there known of_block same other =
    elim (cases_eq s.block e.block) [
      | inl is ↦ subst (λ (t : Sweep). (e.block ≡ t.block) × IsSweep entries place t) (sym (same is)) (sym is, known)
      | inr differs ↦
          let none = none_yet entries place s.block e sorted there of_block differs in
          let new : IsSweep entries place (fresh e.block) = record {
            write = λ k f lt at q. absurd (none k f lt at q);
            starts = λ k f start lt at q h. none k f lt at q;
          } in
          subst (λ (t : Sweep). (e.block ≡ t.block) × IsSweep entries place t) (sym (other differs)) (refl, new)
    ]

-- ---- the values of blocks

abbrev next_values : Entry → (ℕ → List ℕ) → ℕ → List ℕ
next_values e values = values_after (full_kind e.kind) (entry_of e) values

-- the blocks' values after so many entries
abbrev values_at : (ℕ → List ℕ) → List Entry → ℕ → ℕ → List ℕ
values_at values [] place = values
values_at values (e ∷ es) zero = values
values_at values (e ∷ es) (suc place) = values_at (next_values e values) es place

kept : (kind : Kind) (e : FullEntry) (values : ℕ → List ℕ) (block : ℕ) → (e.block ≡ block → kind ≡ Read) → values_after (full_kind kind) e values block ≡ values block
kept Read e values block h = refl
kept Write e values block h =
    elim (cases_eq block e.block) [
      | inl is ↦ absurd (let clash : Write ≡ Read = h (sym is) in cc)
      | inr differs ↦ grind arith
    ]
kept Foreign e values block h =
    elim (cases_eq block e.block) [
      | inl is ↦ absurd (let clash : Foreign ≡ Read = h (sym is) in cc)
      | inr differs ↦ grind arith
    ]

written : (kind : Kind) (e : FullEntry) (values : ℕ → List ℕ) (block : ℕ) → kind ≢ Read → e.block ≡ block → values_after (full_kind kind) e values block ≡ e.value
written Read e values block writes is = absurd (writes refl)
written Write e values block writes is = grind arith
written Foreign e values block writes is = grind arith

no_write : (es : List Entry) (values : ℕ → List ℕ) (place block : ℕ) → HasNoWrite es block place → values_at values es place block ≡ values block
no_write [] values place block h = refl
no_write (e ∷ es) values zero block h = refl
no_write (e ∷ es) values (suc place) block h =
    no_write es (next_values e values) place block (λ k f lt at is. h (suc k) f (omega arith) at is) ∙ kept e.kind (entry_of e) values block (λ is. h 0 e (omega arith) refl is)

last_write : (es : List Entry) (values : ℕ → List ℕ) (place block at : ℕ) (write : Entry) → IsLastWrite es block place at write → values_at values es place block ≡ write.value
last_write [] values place block at write h = let clash : None ≡ Some write = h.there in absurd cc
last_write (e ∷ es) values zero block at write h = absurd (let lt = h.before in omega arith)
last_write (e ∷ es) values (suc place) block zero write h =
    let there : Some e ≡ Some write = h.there in
    let same : e ≡ write = cc in
    let after : values_at (next_values e values) es place block ≡ next_values e values block = no_write es (next_values e values) place block (λ k f lt at is. h.last (suc k) f (omega arith) (omega arith) at is) in
    let here : next_values write values block ≡ write.value = written write.kind (entry_of write) values block h.writes h.of_block in
    after ∙ ap (λ (f : Entry). next_values f values block) same ∙ here
last_write (e ∷ es) values (suc place) block (suc at) write h =
    let lt = h.before in
    last_write es (next_values e values) place block at write (record {
      before = omega arith;
      there = h.there;
      of_block = h.of_block;
      writes = h.writes;
      last = λ k f low high there is. h.last (suc k) f (omega arith) (omega arith) there is;
    })

-- each read gives the value of its block
abbrev EachGives : (ℕ → List ℕ) → List Entry → Type 0
EachGives values es = (place : ℕ) (e : Entry) → slice_get es place ≡ Some e → e.kind ≡ Read → e.value ≡ values_at values es place e.block

legal_here : (kind : Kind) (e : FullEntry) (values : ℕ → List ℕ) → (kind ≡ Read → e.value ≡ values e.block) → legal_at (full_kind kind) e values
legal_here Read e values h = h refl
legal_here Write e values h = tt
legal_here Foreign e values h = tt

here_legal : (kind : Kind) (e : FullEntry) (values : ℕ → List ℕ) → legal_at (full_kind kind) e values → kind ≡ Read → e.value ≡ values e.block
here_legal Read e values h reads = h
here_legal Write e values h reads = absurd cc
here_legal Foreign e values h reads = absurd cc

legal : (es : List Entry) (values : ℕ → List ℕ) → EachGives values es → LegalFrom values (map entry_of es)
legal [] values h = tt
legal (e ∷ es) values h = (legal_here e.kind (entry_of e) values (λ reads. h 0 e refl reads), legal es (next_values e values) (λ place f there reads. h (suc place) f there reads))

each_gives : (es : List Entry) (values : ℕ → List ℕ) → LegalFrom values (map entry_of es) → EachGives values es
each_gives [] values h place e there reads = let clash : None ≡ Some e = there in absurd cc
each_gives (e ∷ es) values h zero f there reads =
    let some : Some e ≡ Some f = there in
    let same : e ≡ f = cc in
    subst (λ (g : Entry). g.value ≡ values g.block) same (here_legal e.kind (entry_of e) values h.0 (ap (λ (g : Entry). g.kind) same ∙ reads))
each_gives (e ∷ es) values h (suc place) f there reads = each_gives es (next_values e values) h.1 place f there reads

-- ---- flaws of the value

is_write : (kind : Kind) → (kind ≡ Read) ⊎ (kind ≢ Read)
is_write Read = inl refl
is_write Write = inr (λ e. cc)
is_write Foreign = inr (λ e. cc)

abbrev HasLastWrite : List Entry → ℕ → ℕ → Type 0
HasLastWrite es block place = (at : ℕ) × (write : Entry) × IsLastWrite es block place at write

none_more : (e : Entry) (es : List Entry) (block place : ℕ) → HasNoWrite es block place → (e.block ≡ block → e.kind ≡ Read) → HasNoWrite (e ∷ es) block (suc place)
none_more e es block place none here zero f lt there is =
    let some : Some e ≡ Some f = there in
    let same : e ≡ f = cc in
    subst (λ (g : Entry). g.block ≡ block → g.kind ≡ Read) same here is
none_more e es block place none here (suc k) f lt there is = none k f (omega arith) there is

last_first : (e : Entry) (es : List Entry) (block place : ℕ) → HasNoWrite es block place → e.block ≡ block → e.kind ≢ Read → IsLastWrite (e ∷ es) block (suc place) 0 e
last_first e es block place none is writes = record {
  before = omega arith;
  there = refl;
  of_block = is;
  writes = writes;
  last = later;
}
  where
    later : (k : ℕ) (f : Entry) → 0 < k → k < suc place → slice_get (e ∷ es) k ≡ Some f → f.block ≡ block → f.kind ≡ Read
    later zero f low high there same = absurd (omega arith)
    later (suc k) f low high there same = none k f (omega arith) there same

last_more : (e : Entry) (es : List Entry) (block place at : ℕ) (write : Entry) → IsLastWrite es block place at write → IsLastWrite (e ∷ es) block (suc place) (suc at) write
last_more e es block place at write h = record {
  before = (let lt = h.before in omega arith);
  there = h.there;
  of_block = h.of_block;
  writes = h.writes;
  last = later;
}
  where
    later : (k : ℕ) (f : Entry) → suc at < k → k < suc place → slice_get (e ∷ es) k ≡ Some f → f.block ≡ block → f.kind ≡ Read
    later zero f low high there same = absurd (omega arith)
    later (suc k) f low high there same = h.last k f (omega arith) (omega arith) there same

-- there is a last write, or none
find_write : (es : List Entry) (block place : ℕ) → HasNoWrite es block place ⊎ HasLastWrite es block place
find_write [] block place = inl (λ k f lt there is. let clash : None ≡ Some f = there in absurd cc)
find_write (e ∷ es) block zero = inl (λ k f lt there is. absurd (omega arith))
find_write (e ∷ es) block (suc place) =
    elim (find_write es block place) [
      | inl none ↦ elim (cases_eq e.block block) [
        | inl is ↦ elim (is_write e.kind) [
          | inl reads ↦ inl (none_more e es block place none (λ _. reads))
          | inr writes ↦ inr (0, e, last_first e es block place none is writes)
        ]
        | inr other ↦ inl (none_more e es block place none (λ is. absurd (other is)))
      ]
      | inr h ↦ inr (suc h.0, h.1, last_more e es block place h.0 h.1 h.2)
    ]

-- where values aren't different they are the same
same_bytes : (x y : List ℕ) → (x ≢ y → ⊥) → x ≡ y
same_bytes x y h = by_test (bytes_eq x y) refl
  where
    by_test : (b : Bool) → bytes_eq x y ≡ b → x ≡ y
    by_test true e = (bytes_eq-Decides x y).0 e
    by_test false e = absurd (h (λ same. let clash : false ≡ true = sym e ∙ (bytes_eq-Decides x y).1 same in cc))

abbrev zeros_at : List Entry → ℕ → List ℕ
zeros_at entries block = zeros_of entries

gives : (entries : List Entry) → ((i j : ℕ) → IsValueFlaw entries i j → ⊥) → EachGives (zeros_at entries) entries
gives entries none place e there reads =
    elim (find_write entries e.block place) [
      | inl unwritten ↦
          same_bytes e.value _ (λ differs. none place place (record {
            read = e;
            there = there;
            reads = reads;
            wrong = inr (record { own = refl; none = unwritten; differs = λ same. differs (same ∙ sym (no_write entries (zeros_at entries) place e.block unwritten)) });
          }))
      | inr h ↦
          same_bytes e.value _ (λ differs. none h.0 place (record {
            read = e;
            there = there;
            reads = reads;
            wrong = inl (record { write = h.1; last = h.2; differs = λ same. differs (same ∙ sym (last_write entries (zeros_at entries) place e.block h.0 h.1 h.2)) });
          }))
    ]

value_illegal : (entries : List Entry) (i j : ℕ) → IsValueFlaw entries i j → IsLegal entries → ⊥
value_illegal entries i j flaw h =
    let right = each_gives entries (zeros_at entries) h j flaw.read flaw.there flaw.reads in
    elim flaw.wrong [
      | inl w ↦ w.differs (right ∙ last_write entries (zeros_at entries) j flaw.read.block i w.write w.last)
      | inr z ↦ z.differs (right ∙ no_write entries (zeros_at entries) j flaw.read.block z.none)
    ]

-- ---- flaws of the time

told_at : (entries : List Entry) (i : ℕ) (x : Entry) (d : FullEntry) → slice_get entries i ≡ Some x → get_or (map entry_of entries) i d ≡ entry_of x
told_at entries i x d there =
    let told : slice_get (map entry_of entries) i ≡ Some (entry_of x) = slice_get-map entry_of entries i ∙ rw there refl in
    get_or_from_slice_get (map entry_of entries) i (entry_of x) d told

in_time : (entries : List Entry) → ((i j : ℕ) → IsTimeFlaw entries i j → ⊥) → IsInTime entries
in_time entries none i j d low high differ same end start ends starts lt =
    let size = length-map entries entry_of in
    let x = element entries i (omega arith) in
    let y = element entries j (omega arith) in
    let at_i = told_at entries i x.0 d x.1 in
    let at_j = told_at entries j y.0 d y.1 in
    elim (cases_lt i j) [
      | inl h ↦ h
      | inr h ↦ absurd (none j i (record {
        order = omega arith;
        earlier = y.0;
        later = x.0;
        there = y.1;
        there_too = x.1;
        block = ap (λ (e : FullEntry). e.block) (sym at_j) ∙ sym same ∙ ap (λ (e : FullEntry). e.block) at_i;
        start = start;
        end = end;
        starts = ap (λ (e : FullEntry). e.start) (sym at_j) ∙ starts;
        ends = ap (λ (e : FullEntry). e.end) (sym at_i) ∙ ends;
        before = lt;
      }))
    ]

time_late : (entries : List Entry) (i j : ℕ) → IsTimeFlaw entries i j → IsInTime entries → ⊥
time_late entries i j flaw h =
    let size = length-map entries entry_of in
    let low = slice_get_within entries i flaw.earlier flaw.there in
    let high = slice_get_within entries j flaw.later flaw.there_too in
    let d = entry_of flaw.earlier in
    let at_i = told_at entries i flaw.earlier d flaw.there in
    let at_j = told_at entries j flaw.later d flaw.there_too in
    let order = flaw.order in
    let lt : j < i = h j i d (omega arith) (omega arith) (λ e. omega arith)
    (ap (λ (e : FullEntry). e.block) at_j ∙ sym flaw.block ∙ sym (ap (λ (e : FullEntry). e.block) at_i))
    flaw.end flaw.start (ap (λ (e : FullEntry). e.end) at_j ∙ flaw.ends) (ap (λ (e : FullEntry). e.start) at_i ∙ flaw.starts) flaw.before in
    omega arith

-- ---- both

flaw_within : (kind : FlawKind) (entries : List Entry) (i j : ℕ) → IsFlaw kind entries i j → j < length entries
flaw_within Value entries i j flaw = slice_get_within entries j flaw.read flaw.there
flaw_within Time entries i j flaw = slice_get_within entries j flaw.later flaw.there_too

-- without a flaw up to its end a history is legal and in time
pub sound : (entries : List Entry) (place : ℕ) → length entries ≤ place → HasNoFlaw entries place → IsLegal entries × IsInTime entries
sound entries place all none =
    let never : (kind : FlawKind) (i j : ℕ) → IsFlaw kind entries i j → ⊥ = λ kind i j flaw. let low = none kind i j flaw in let high = flaw_within kind entries i j flaw in omega arith in
    (legal entries (zeros_at entries) (gives entries (λ i j. never Value i j)), in_time entries (λ i j. never Time i j))

-- and with one it isn't
pub flawed : (kind : FlawKind) (entries : List Entry) (i j : ℕ) → IsFlaw kind entries i j → IsLegal entries × IsInTime entries → ⊥
flawed Value entries i j flaw h = value_illegal entries i j flaw h.0
flawed Time entries i j flaw h = time_late entries i j flaw h.1

pub told_flawed : (entries : List Entry) (r : Option Flaw) → IfSome r (TellsFirstFlaw entries) → IfSome r (λ _. IsLegal entries × IsInTime entries → ⊥)
told_flawed entries None h = tt
told_flawed entries (Some flaw) h = λ right. flawed flaw.kind entries h.0 h.1 h.4.flaw.is right

pub where_none : {A : Type 0} (P : Type 0) (r : Option A) → is_some r ≡ false → IfNone r P → P
where_none P None none h = h
where_none P (Some x) none h = absurd cc
