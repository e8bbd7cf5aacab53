-- Steps that are done one after the other: a block that is left to them holds what the steps make of it.
use Rattle.std.proofs.Common.{◌≡◌, ℕ, ◌+◌, ◌≤◌, ◌⊎◌, List, [], ◌∷◌, map, refl, sym, ap, ◌∙◌, subst, inl, inr, arith}
use Rattle.std.specs.List.{Contains}
use Rattle.std.proofs.lemmas.Bool.{cases_eq, eq-eqb, ne_eqb}
use Rattle.block_device.specs.declared.steps.BlockStep.{BlockStep}
use Rattle.block_device.specs.declared.steps.BlockStep.TheVariants.{Read as Reads, Whole, Merge}
use Rattle.block_device.specs.Device.{Device, but_at, merged, after_step, after, reads}
use Rattle.protocol.specs.Count.{update}
use Rattle.protocol.specs.Setting.{Setting}
use Rattle.protocol.specs.History.{Entry, Kind}
use Rattle.protocol.specs.History.Kind.{Read, Write}
use Rattle.protocol.proofs.lemmas.Counting.{update-cases}
use Rattle.node_device.specs.Moments.{values_at, HasEndedBefore, HasBegunFrom, IsQuiet}
use Rattle.node_device.specs.Commands.{IsStep, seen_after, AreSteps}
use Rattle.node_device.proofs.Moments.{IsOrderly, unchanged, read_gives, write_leaves}
use Rattle.lists.proofs.lemmas.Members.{Contains-head, Contains-none, Contains-rest, Contains-cons_cases}

but_at-here : (f : ℕ → List ℕ) (k j : ℕ) (value : List ℕ) → j ≡ k → but_at f k value j ≡ value
but_at-here f k j value e = rw (eq-eqb j k e) refl

but_at-apart : (f : ℕ → List ℕ) (k j : ℕ) (value : List ℕ) → (j ≡ k → ⊥) → but_at f k value j ≡ f j
but_at-apart f k j value apart = rw (ne_eqb j k apart) refl

-- a write sees nothing
sees_nothing : (kind : Kind) (e : Entry) (seen : ℕ → List ℕ) → kind ≡ Write → seen_after kind e seen ≡ seen
sees_nothing kind e seen w = rw w refl

not_read : (kind : Kind) → kind ≡ Write → kind ≡ Read → ⊥
not_read kind w r = absurd cc

-- of the device and the steps: what the block holds and what was seen of it are the history's
pub record IsAt (s : Setting) (h : List Entry) (place k : ℕ) (seen : ℕ → List ℕ) (d : Device) : Type 0 where
  pub held : d.held k ≡ values_at s h place k
  pub saw : d.seen k ≡ seen k

-- steps that read blocks of some, and do nothing else
abbrev pub AreReads : (ℕ → Type 0) → List BlockStep → Type 0
AreReads some [] = Unit {0}
AreReads some (Reads k ∷ steps) = some k × AreReads some steps
AreReads some (Whole k value ∷ steps) = ⊥
AreReads some (Merge k at bytes ∷ steps) = ⊥

module _ (s : Setting) (h : List Entry) (o : IsOrderly s h) where
  weaker : (p q : ℕ) (e : Entry) → HasBegunFrom q e → p ≤ q → HasBegunFrom p e
  weaker p q e b l = (b.0, b.1, omega (arith, b.2, l))

  -- each operation of the steps begins at the first place or later
  pub own_late : (steps : List BlockStep) (own : List Entry) (seen : ℕ → List ℕ) (from until : ℕ) → ((e : Entry) → Contains own e → Contains h e) → AreSteps seen from steps own until
      → (from ≤ until) × ((f : Entry) → Contains own f → HasBegunFrom from f)
  own_late [] [] seen from until there are = (are, λ f c. absurd (Contains-none f c))
  own_late (step ∷ steps) (e ∷ own) seen from until there are =
      let end = are.2.0 in
      let order = o.told e (there e (Contains-head e own)) are.1.0 end are.1.1 are.2.1 in
      let rest = own_late steps own (seen_after e.kind e seen) (end + 1) until (λ f c. there f (Contains-rest f e own c)) are.2.2 in (
        omega (arith, are.1.2, order, rest.0),
        λ f c. elim (Contains-cons_cases f e own c) [
          | inl same ↦ subst (HasBegunFrom from) (sym same) are.1
          | inr behind ↦ weaker from (end + 1) f (rest.1 f behind) (omega (arith, are.1.2, order))
        ],
      )
  own_late [] (e ∷ own) seen from until there are = absurd are
  own_late (step ∷ steps) [] seen from until there are = absurd are

  module _ (step : BlockStep) (steps : List BlockStep) (e : Entry) (own : List Entry) (seen : ℕ → List ℕ) (from until : ℕ)
      (there : (f : Entry) → Contains (e ∷ own) f → Contains h f) (are : AreSteps seen from (step ∷ steps) (e ∷ own) until) where
    abbrev pub end : ℕ
    end = are.2.0

    here : Contains h e
    here = there e (Contains-head e own)

    in_order : are.1.0 ≤ end
    in_order = o.told e here are.1.0 end are.1.1 are.2.1

    there_rest : (f : Entry) → Contains own f → Contains h f
    there_rest f c = there f (Contains-rest f e own c)

    rest_late : (end + 1 ≤ until) × ((f : Entry) → Contains own f → HasBegunFrom (end + 1) f)
    rest_late = own_late steps own (seen_after e.kind e seen) (end + 1) until there_rest are.2.2

    -- while the step is done nobody else works on the block
    alone : (k : ℕ) → IsQuiet h (e ∷ own) from until k → (f : Entry) → Contains h f → f.block ≡ k → (f ≡ e) ⊎ HasEndedBefore from f ⊎ HasBegunFrom (end + 1) f
    alone k quiet f c block = elim (quiet f c block) [
      | inl mine ↦ elim (Contains-cons_cases f e own mine) [ inl same ↦ inl same | inr behind ↦ inr (inr (rest_late.1 f behind)) ]
      | inr (inl ended) ↦ inr (inl ended)
      | inr (inr begun) ↦ inr (inr (weaker (end + 1) until f begun rest_late.0))
    ]

    -- nor while the others are done
    pub quiet_rest : (k : ℕ) → IsQuiet h (e ∷ own) from until k → IsQuiet h own (end + 1) until k
    quiet_rest k quiet f c block = elim (quiet f c block) [
      | inl mine ↦ elim (Contains-cons_cases f e own mine) [ inl same ↦ inr (inl (end, ap (λ (x : Entry). x.end) same ∙ are.2.1, omega arith)) | inr behind ↦ inl behind ]
      | inr (inl ended) ↦ inr (inl (ended.0, ended.1, omega (arith, ended.2, are.1.2, in_order)))
      | inr (inr begun) ↦ inr (inr begun)
    ]

    module _ (k : ℕ) (quiet : IsQuiet h (e ∷ own) from until k) where
      same : (e.kind ≡ Read) ⊎ (e.block ≡ k → ⊥) → values_at s h (end + 1) k ≡ values_at s h from k
      same why = unchanged s h o k from (end + 1) (omega (arith, are.1.2, in_order)) (λ f c block. elim (alone k quiet f c block) [
        | inl it ↦ elim why [ inl read ↦ inl (ap (λ (x : Entry). x.kind) it ∙ read) | inr apart ↦ absurd (apart (ap (λ (x : Entry). x.block) (sym it) ∙ block)) ]
        | inr other ↦ inr other
      ])

      gives : e.kind ≡ Read → e.block ≡ k → e.value ≡ values_at s h from k
      gives read block =
          read_gives s h o e here from are.1.0 end are.1.1 are.2.1 are.1.2 (λ f c b. alone k quiet f c (b ∙ block)) read ∙ ap (values_at s h from) block

      leaves : e.kind ≡ Write → e.block ≡ k → values_at s h (end + 1) k ≡ e.value
      leaves write block =
          ap (values_at s h (end + 1)) (sym block) ∙ write_leaves s h o e here from are.1.0 end are.1.1 are.2.1 are.1.2 (λ f c b. alone k quiet f c (b ∙ block)) (not_read e.kind write)

      -- one step
      pub goes_on : (d : Device) → IsAt s h from k seen d → IsAt s h (end + 1) k (seen_after e.kind e seen) (after_step step d)
      goes_on d at = by step are.0
        where
          kept : (kind : Kind) → kind ≡ Read → seen_after kind e seen k ≡ update seen e.block e.value k
          kept kind r = rw r refl

          by : (x : BlockStep) → IsStep seen x e → IsAt s h (end + 1) k (seen_after e.kind e seen) (after_step x d)
          by (Reads j) is = record {
            held = at.held ∙ sym (same (inl is.0));
            saw = elim (cases_eq k j) [
              | inl this ↦ but_at-here d.seen j k (d.held j) this ∙ ap d.held (sym this) ∙ at.held ∙ sym (gives is.0 (is.1 ∙ sym this)) ∙ sym (seen_here (is.1 ∙ sym this)) ∙ sym (kept e.kind is.0)
              | inr apart ↦ but_at-apart d.seen j k (d.held j) apart ∙ at.saw ∙ sym (seen_apart (λ b. apart (sym b ∙ is.1))) ∙ sym (kept e.kind is.0)
            ];
          }
            where
              seen_here : e.block ≡ k → update seen e.block e.value k ≡ e.value
              seen_here b = elim (update-cases seen e.block e.value k) [ inl u ↦ u.1 | inr u ↦ absurd (u.0 (sym b)) ]

              seen_apart : (e.block ≡ k → ⊥) → update seen e.block e.value k ≡ seen k
              seen_apart b = elim (update-cases seen e.block e.value k) [ inl u ↦ absurd (b (sym u.0)) | inr u ↦ u.1 ]
          by (Whole j value) is = record {
            held = elim (cases_eq k j) [
              | inl this ↦ but_at-here d.held j k value this ∙ sym is.2 ∙ sym (leaves is.0 (is.1 ∙ sym this))
              | inr apart ↦ but_at-apart d.held j k value apart ∙ at.held ∙ sym (same (inr (λ b. apart (sym b ∙ is.1))))
            ];
            saw = at.saw ∙ ap (λ (f : ℕ → List ℕ). f k) (sym (sees_nothing e.kind e seen is.0));
          }
          by (Merge j place bytes) is = record {
            held = elim (cases_eq k j) [
              | inl this ↦ but_at-here d.held j k (merged (d.seen j) place bytes) this ∙ ap (λ z. merged z place bytes) (ap d.seen (sym this) ∙ at.saw ∙ ap seen this) ∙ sym is.2 ∙ sym (leaves is.0 (is.1 ∙ sym this))
              | inr apart ↦ but_at-apart d.held j k (merged (d.seen j) place bytes) apart ∙ at.held ∙ sym (same (inr (λ b. apart (sym b ∙ is.1))))
            ];
            saw = at.saw ∙ ap (λ (f : ℕ → List ℕ). f k) (sym (sees_nothing e.kind e seen is.0));
          }

      -- where the step reads the block
      pub step_gives : (d : Device) → IsAt s h from k seen d → e.kind ≡ Read → e.block ≡ k → e.value ≡ d.held k
      step_gives d at read block = gives read block ∙ sym at.held

  -- ---- all steps
  pub steps_leave : (steps : List BlockStep) (own : List Entry) (seen : ℕ → List ℕ) (from until : ℕ) → ((e : Entry) → Contains own e → Contains h e) → AreSteps seen from steps own until
      → (k : ℕ) → IsQuiet h own from until k → (d : Device) → IsAt s h from k seen d → values_at s h until k ≡ (after steps d).held k
  steps_leave [] [] seen from until there are k quiet d at =
      unchanged s h o k from until are (λ f c block. elim (quiet f c block) [ inl mine ↦ absurd (Contains-none f mine) | inr other ↦ inr other ]) ∙ sym at.held
  steps_leave (step ∷ steps) (e ∷ own) seen from until there are k quiet d at =
      steps_leave steps own (seen_after e.kind e seen) (are.2.0 + 1) until (λ f c. there f (Contains-rest f e own c)) are.2.2 k
      (quiet_rest step steps e own seen from until there are k quiet) (after_step step d) (goes_on step steps e own seen from until there are k quiet d at)
  steps_leave [] (e ∷ own) seen from until there are k quiet d at = absurd are
  steps_leave (step ∷ steps) [] seen from until there are k quiet d at = absurd are

  pub reads_give : (steps : List BlockStep) (own : List Entry) (seen : ℕ → List ℕ) (from until : ℕ) → ((e : Entry) → Contains own e → Contains h e) → AreSteps seen from steps own until
      → (some : ℕ → Type 0) → AreReads some steps → ((k : ℕ) → some k → IsQuiet h own from until k) → (d : Device) → ((k : ℕ) → some k → IsAt s h from k seen d) → map (λ (e : Entry). e.value) own ≡ reads steps d
  reads_give [] [] seen from until there are some only quiet d at = refl
  reads_give (Reads j ∷ steps) (e ∷ own) seen from until there are some only quiet d at =
      let first : e.value ≡ d.held j = step_gives (Reads j) steps e own seen from until there are j (quiet j only.0) d (at j only.0) are.0.0 are.0.1 in
      let rest = reads_give steps own (seen_after e.kind e seen) (are.2.0 + 1) until (λ f c. there f (Contains-rest f e own c)) are.2.2 some only.1
      (λ k q. quiet_rest (Reads j) steps e own seen from until there are k (quiet k q)) (after_step (Reads j) d) (λ k q. goes_on (Reads j) steps e own seen from until there are k (quiet k q) d (at k q)) in
      ap (λ z. z ∷ map (λ (x : Entry). x.value) own) first ∙ ap (λ z. d.held j ∷ z) rest
  reads_give (Whole j value ∷ steps) own seen from until there are some only quiet d at = absurd only
  reads_give (Merge j place bytes ∷ steps) own seen from until there are some only quiet d at = absurd only
  reads_give [] (e ∷ own) seen from until there are some only quiet d at = absurd are
  reads_give (Reads j ∷ steps) [] seen from until there are some only quiet d at = absurd are
