-- What one block holds: entries of other blocks, reads, and writes that had not ended leave it as it is.
use Rattle.std.proofs.Common.{◌≡◌, ℕ, ◌⊎◌, Bool, true, false, cond, List, [], ◌∷◌, ◌++◌, length, refl, sym, ap, ◌∙◌, inl, inr}
use Rattle.std.specs.List.{Contains}
use Rattle.std.proofs.lemmas.Bool.{cases_eq}
use Rattle.protocol.specs.Count.{update}
use Rattle.protocol.specs.History.{Entry, Kind, LegalFrom, legal_at, values_after}
use Rattle.protocol.specs.History.Kind.{Read, Write, Foreign}
use Rattle.protocol.proofs.lemmas.Counting.{update-cases, update-same}
use Rattle.node_device.specs.Moments.{had_ended, values_from}
use Rattle.lists.proofs.lemmas.Members.{Contains-head, Contains-rest}

-- the values after an entry, if it is counted
abbrev pub next : Bool → Kind → Entry → (ℕ → List ℕ) → ℕ → List ℕ
next b kind e values = cond b (values_after kind e values) values

pub next_read : (b : Bool) (kind : Kind) (e : Entry) (v : ℕ → List ℕ) → kind ≡ Read → next b kind e v ≡ v
next_read true kind e v h = rw h refl
next_read false kind e v h = refl

set_apart : (v : ℕ → List ℕ) (j k : ℕ) (x : List ℕ) → (j ≡ k → ⊥) → update v j x k ≡ v k
set_apart v j k x apart = elim (update-cases v j x k) [ inl h ↦ absurd (apart (sym h.0)) | inr h ↦ h.1 ]

pub next_apart : (b : Bool) (kind : Kind) (e : Entry) (v : ℕ → List ℕ) (k : ℕ) → (e.block ≡ k → ⊥) → next b kind e v k ≡ v k
next_apart true Read e v k apart = refl
next_apart true Write e v k apart = set_apart v e.block k e.value apart
next_apart true Foreign e v k apart = set_apart v e.block k e.value apart
next_apart false kind e v k apart = refl

set_same : (u v : ℕ → List ℕ) (j k : ℕ) (x : List ℕ) → u k ≡ v k → update u j x k ≡ update v j x k
set_same u v j k x same = elim (cases_eq k j) [
  | inl e ↦ rw e (update-same u j x ∙ sym (update-same v j x))
  | inr apart ↦ set_apart u j k x (λ e. apart (sym e)) ∙ same ∙ sym (set_apart v j k x (λ e. apart (sym e)))
]

pub next_same : (b : Bool) (kind : Kind) (e : Entry) (u v : ℕ → List ℕ) (k : ℕ) → u k ≡ v k → next b kind e u k ≡ next b kind e v k
next_same true Read e u v k same = same
next_same true Write e u v k same = set_same u v e.block k e.value same
next_same true Foreign e u v k same = set_same u v e.block k e.value same
next_same false kind e u v k same = same

pub next_sets : (b : Bool) (kind : Kind) (e : Entry) (v : ℕ → List ℕ) → b ≡ true → (kind ≡ Read → ⊥) → next b kind e v e.block ≡ e.value
next_sets true Read e v counted write = absurd (write refl)
next_sets true Write e v counted write = update-same v e.block e.value
next_sets true Foreign e v counted write = update-same v e.block e.value
next_sets false kind e v counted write = absurd cc

-- the values after all entries
abbrev pub values_behind : (ℕ → List ℕ) → List Entry → ℕ → List ℕ
values_behind values [] = values
values_behind values (e ∷ es) = values_behind (values_after e.kind e values) es

pub values_append : (u : ℕ → List ℕ) (p : ℕ) (xs ys : List Entry) → values_from u p (xs ++ ys) ≡ values_from (values_from u p xs) p ys
values_append u p [] ys = refl
values_append u p (x ∷ xs) ys = values_append (next (had_ended p x.end) x.kind x u) p xs ys

pub legal_between : (v : ℕ → List ℕ) (front back : List Entry) (e : Entry) → LegalFrom v (front ++ e ∷ back) → legal_at e.kind e (values_behind v front)
legal_between v [] back e h = h.0
legal_between v (f ∷ front) back e h = legal_between (values_after f.kind f v) front back e h.1

module _ (k : ℕ) where
  -- ---- one entry
  same_next : (e : Entry) (b c : Bool) (u v : ℕ → List ℕ) → u k ≡ v k → (e.block ≡ k → (e.kind ≡ Read) ⊎ (b ≡ c)) → next b e.kind e u k ≡ next c e.kind e v k
  same_next e b c u v same h = elim (cases_eq e.block k) [
    | inl here ↦ elim (h here) [
      | inl read ↦ ap (λ (f : ℕ → List ℕ). f k) (next_read b e.kind e u read) ∙ same ∙ ap (λ (f : ℕ → List ℕ). f k) (sym (next_read c e.kind e v read))
      | inr equal ↦ ap (λ (x : Bool). next x e.kind e u k) equal ∙ next_same c e.kind e u v k same
    ]
    | inr apart ↦ next_apart b e.kind e u k apart ∙ same ∙ sym (next_apart c e.kind e v k apart)
  ]

  kept_next : (e : Entry) (b : Bool) (u : ℕ → List ℕ) (x : List ℕ) → u k ≡ x → (e.block ≡ k → (e.kind ≡ Read) ⊎ (b ≡ false) ⊎ (e.value ≡ x)) → next b e.kind e u k ≡ x
  kept_next e b u x is h = elim (cases_eq e.block k) [
    | inl here ↦ elim (h here) [
      | inl read ↦ ap (λ (f : ℕ → List ℕ). f k) (next_read b e.kind e u read) ∙ is
      | inr (inl not) ↦ ap (λ (c : Bool). next c e.kind e u k) not ∙ is
      | inr (inr value) ↦ set_or_kept b e.kind here value
    ]
    | inr apart ↦ next_apart b e.kind e u k apart ∙ is
  ]
    where
      set_or_kept : (c : Bool) (kind : Kind) → e.block ≡ k → e.value ≡ x → next c kind e u k ≡ x
      set_or_kept true Read here value = is
      set_or_kept true Write here value = ap (λ (j : ℕ). update u j e.value k) here ∙ update-same u k e.value ∙ value
      set_or_kept true Foreign here value = ap (λ (j : ℕ). update u j e.value k) here ∙ update-same u k e.value ∙ value
      set_or_kept false kind here value = is

  -- ---- a list of entries
  -- at two places: the same writes of the block are counted
  pub same_values : (es : List Entry) (p q : ℕ) (u v : ℕ → List ℕ) → u k ≡ v k → ((e : Entry) → Contains es e → e.block ≡ k → (e.kind ≡ Read) ⊎ (had_ended p e.end ≡ had_ended q e.end)) → values_from u p es k ≡ values_from v q es k
  same_values [] p q u v same h = same
  same_values (e ∷ es) p q u v same h =
      same_values es p q (next (had_ended p e.end) e.kind e u) (next (had_ended q e.end) e.kind e v)
      (same_next e (had_ended p e.end) (had_ended q e.end) u v same (h e (Contains-head e es)))
      (λ f c. h f (Contains-rest f e es c))

  -- each write of the block that is counted has this value
  pub kept_values : (es : List Entry) (p : ℕ) (u : ℕ → List ℕ) (x : List ℕ) → u k ≡ x → ((e : Entry) → Contains es e → e.block ≡ k → (e.kind ≡ Read) ⊎ (had_ended p e.end ≡ false) ⊎ (e.value ≡ x)) → values_from u p es k ≡ x
  kept_values [] p u x is h = is
  kept_values (e ∷ es) p u x is h =
      kept_values es p (next (had_ended p e.end) e.kind e u) x (kept_next e (had_ended p e.end) u x is (h e (Contains-head e es))) (λ f c. h f (Contains-rest f e es c))

  -- each write of the block is counted
  pub counted_values : (es : List Entry) (p : ℕ) (u v : ℕ → List ℕ) → u k ≡ v k → ((e : Entry) → Contains es e → e.block ≡ k → (e.kind ≡ Read) ⊎ (had_ended p e.end ≡ true)) → values_from u p es k ≡ values_behind v es k
  counted_values [] p u v same h = same
  counted_values (e ∷ es) p u v same h =
      counted_values es p (next (had_ended p e.end) e.kind e u) (next true e.kind e v) (same_next e (had_ended p e.end) true u v same (h e (Contains-head e es))) (λ f c. h f (Contains-rest f e es c))

  -- blocks of one size
  pub length_values : (es : List Entry) (p : ℕ) (u : ℕ → List ℕ) (n : ℕ) → length (u k) ≡ n → ((e : Entry) → Contains es e → length e.value ≡ n) → length (values_from u p es k) ≡ n
  length_values [] p u n is h = is
  length_values (e ∷ es) p u n is h =
      length_values es p (next (had_ended p e.end) e.kind e u) n (one (had_ended p e.end) e.kind) (λ f c. h f (Contains-rest f e es c))
    where
      set : length (update u e.block e.value k) ≡ n
      set = elim (update-cases u e.block e.value k) [ inl j ↦ ap length j.1 ∙ h e (Contains-head e es) | inr j ↦ ap length j.1 ∙ is ]

      one : (b : Bool) (kind : Kind) → length (next b kind e u k) ≡ n
      one true Read = is
      one true Write = set
      one true Foreign = set
      one false kind = is
