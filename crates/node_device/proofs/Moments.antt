-- One operation of a block that is left to it: what the block holds before and after it.
use Rattle.std.proofs.Common.{◌≡◌, ℕ, ◌+◌, ◌≤◌, ◌⊎◌, true, false, List, ◌∷◌, ◌++◌, Option, refl, sym, ap, ◌∙◌, subst, inl, inr, arith}
use Rattle.std.specs.declared.option.Option.TheVariants.{None, Some}
use Rattle.std.specs.List.{Contains}
use Rattle.std.proofs.lemmas.Bool.{lt-ltb, le-ltb}
use Rattle.std.proofs.lemmas.List.Elements.{Contains-append_left, Contains-append_right}
use Rattle.protocol.specs.Setting.{Setting, zeros}
use Rattle.protocol.specs.History.{Entry, Kind, LegalFrom, InTime, legal_at}
use Rattle.protocol.specs.History.Kind.{Read}
use Rattle.node_device.specs.Moments.{had_ended, values_from, values_at, HasEndedBefore, HasBegunFrom}
use Rattle.node_device.proofs.Splits.{Split, split, none_late_before, none_early_behind}
use Rattle.node_device.proofs.Values.{next, next_read, next_sets, values_behind, values_append, legal_between, same_values, kept_values, counted_values}
use Rattle.lists.proofs.lemmas.Members.{Contains-rest}

-- a history that is legal and in time, whose operations end no sooner than they begin
pub record IsOrderly (s : Setting) (h : List Entry) : Type 0 where
  pub legal : LegalFrom (λ block. zeros s) h
  pub in_time : InTime h
  pub told : (e : Entry) → Contains h e → (start end : ℕ) → e.start ≡ Some start → e.end ≡ Some end → start ≤ end

pub ended_by : (p q : ℕ) (e : Entry) → HasEndedBefore p e → p ≤ q → had_ended q e.end ≡ true
ended_by p q e h l = rw h.1 (lt-ltb h.0 q (omega (arith, h.2, l)))

not_by : (p : ℕ) (x : Option ℕ) → ((end : ℕ) → x ≡ Some end → p ≤ end) → had_ended p x ≡ false
not_by p None h = refl
not_by p (Some end) h = le-ltb end p (h end refl)

module _ (s : Setting) (h : List Entry) (o : IsOrderly s h) where
  pub not_ended_by : (p q : ℕ) (e : Entry) → Contains h e → HasBegunFrom q e → p ≤ q → had_ended p e.end ≡ false
  not_ended_by p q e there begun l = not_by p e.end (λ end is. omega (arith, o.told e there begun.0 end begun.1 is, begun.2, l))

  -- at two places between which nothing but reads and work on other blocks is done
  pub unchanged : (k p q : ℕ) → p ≤ q → ((e : Entry) → Contains h e → e.block ≡ k → (e.kind ≡ Read) ⊎ HasEndedBefore p e ⊎ HasBegunFrom q e) → values_at s h q k ≡ values_at s h p k
  unchanged k p q l others = same_values k h q p (λ block. zeros s) (λ block. zeros s) refl (λ e there block. elim (others e there block) [
    | inl read ↦ inl read
    | inr (inl ended) ↦ inr (ended_by p q e ended l ∙ sym (ended_by p p e ended (omega arith)))
    | inr (inr begun) ↦ inr (not_ended_by q q e there begun (omega arith) ∙ sym (not_ended_by p q e there begun l))
  ])

  -- the entry's operation is the only one on its block from one place up to another
  module _ (e : Entry) (there : Contains h e) (from start end : ℕ) (begun : e.start ≡ Some start) (ended : e.end ≡ Some end) (late : from ≤ start)
      (alone : (f : Entry) → Contains h f → f.block ≡ e.block → (f ≡ e) ⊎ HasEndedBefore from f ⊎ HasBegunFrom (end + 1) f) where
    parts : Split h e
    parts = split e h there

    order : InTime (parts.front ++ e ∷ parts.back)
    order = subst InTime parts.is o.in_time

    in_order : start ≤ end
    in_order = o.told e there start end begun ended

    in_front : (f : Entry) → Contains parts.front f → Contains h f
    in_front f c = subst (λ (l : List Entry). Contains l f) (sym parts.is) (Contains-append_left parts.front (e ∷ parts.back) f c)

    in_back : (f : Entry) → Contains parts.back f → Contains h f
    in_back f c = subst (λ (l : List Entry). Contains l f) (sym parts.is) (Contains-append_right parts.front (e ∷ parts.back) f (Contains-rest f e parts.back c))

    abbrev before : ℕ → ℕ → List ℕ
    before p = values_from (λ block. zeros s) p parts.front

    whole : (p k : ℕ) → values_at s h p k ≡ values_from (next (had_ended p e.end) e.kind e (before p)) p parts.back k
    whole p k =
        ap (λ (l : List Entry). values_from (λ block. zeros s) p l k) parts.is
        ∙ ap (λ (f : ℕ → List ℕ). f k) (values_append (λ block. zeros s) p parts.front (e ∷ parts.back))

    -- a read gives what the block held
    pub read_gives : e.kind ≡ Read → e.value ≡ values_at s h from e.block
    read_gives read =
        let given : e.value ≡ values_behind (λ block. zeros s) parts.front e.block =
        subst (λ (kind : Kind). legal_at kind e (values_behind (λ block. zeros s) parts.front)) read (legal_between (λ block. zeros s) parts.front parts.back e (subst (LegalFrom (λ block. zeros s)) parts.is o.legal)) in
        let counted : before from e.block ≡ values_behind (λ block. zeros s) parts.front e.block =
        counted_values e.block parts.front from (λ block. zeros s) (λ block. zeros s) refl (λ f c block. elim (alone f (in_front f c) block) [
          | inl same ↦ inl (ap (λ (x : Entry). x.kind) same ∙ read)
          | inr (inl early) ↦ inr (ended_by from from f early (omega arith))
          | inr (inr behind) ↦ absurd (none_late_before parts.front parts.back e order f c block end behind.0 ended behind.1 (omega (arith, behind.2)))
        ]) in
        let kept : values_from (next (had_ended from e.end) e.kind e (before from)) from parts.back e.block ≡ before from e.block =
        kept_values e.block parts.back from _ (before from e.block) (ap (λ (f : ℕ → List ℕ). f e.block) (next_read (had_ended from e.end) e.kind e (before from) read)) (λ f c block. elim (alone f (in_back f c) block) [
          | inl same ↦ inl (ap (λ (x : Entry). x.kind) same ∙ read)
          | inr (inl early) ↦ absurd (none_early_behind parts.front parts.back e order f c block early.0 start early.1 begun (omega (arith, early.2, late)))
          | inr (inr behind) ↦ inr (inl (not_ended_by from (end + 1) f (in_back f c) behind (omega (arith, in_order, late))))
        ]) in
        given ∙ sym counted ∙ sym kept ∙ sym (whole from e.block)

    -- after a write the block holds its value
    pub write_leaves : (e.kind ≡ Read → ⊥) → values_at s h (end + 1) e.block ≡ e.value
    write_leaves write =
        let done : had_ended (end + 1) e.end ≡ true = ended_by (end + 1) (end + 1) e (end, ended, omega arith) (omega arith) in
        whole (end + 1) e.block
        ∙ kept_values e.block parts.back (end + 1) _ e.value (next_sets (had_ended (end + 1) e.end) e.kind e (before (end + 1)) done write) (λ f c block. elim (alone f (in_back f c) block) [
          | inl same ↦ inr (inr (ap (λ (x : Entry). x.value) same))
          | inr (inl early) ↦ absurd (none_early_behind parts.front parts.back e order f c block early.0 start early.1 begun (omega (arith, early.2, late)))
          | inr (inr behind) ↦ inr (inl (not_ended_by (end + 1) (end + 1) f (in_back f c) behind (omega arith)))
        ])
