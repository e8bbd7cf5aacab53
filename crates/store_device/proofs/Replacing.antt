-- A node with another disk is rebuilt on one block after the other.
use Rattle.std.proofs.Common.{◌≡◌, ℕ, zero, suc, ◌<◌, ◌≤◌, Bool, true, false, cond, eqb, List, [], ◌∷◌, ◌++◌, refl, sym, ◌∙◌, ap, subst, inl, inr, arith, append_assoc}
use Rattle.std.proofs.lemmas.Bool.{cases_lt, eq-eqb}
use Rattle.std.proofs.lemmas.List.{append-nil}
use Rattle.quorum_rules.specs.Limits.{Numbers}
use Rattle.protocol.specs.Instance.{setting}
use Rattle.node_core.specs.Seen.{versions_in}
use Rattle.block_phases.specs.Executions.{StampedValue}
use Rattle.block_turns.specs.Turns.{Standing, away_in, standing_after}
use Rattle.block_turns.specs.Turns.Turn.{Changed as ChangedThere, Renewed as RenewedThere}
use Rattle.block_turns.specs.Lives.{renewed}
use Rattle.store_device.specs.Stores.{Nodes}
use Rattle.store_device.specs.Lives.{Moment, turn_on, standing_on}
use Rattle.store_device.specs.Lives.Turn.{Lost, Renewed}
use Rattle.store_device.specs.Sessions.{given_in, HasLived, NodesAreReplaced}
use Rattle.store_device.proofs.LifeOnBlocks.{standing_more}
use Rattle.store_device.proofs.Sessions.{nodes_lost, nodes_rebuilt}

module _ (c : Numbers) (node : ℕ) (new : Nodes) where
  -- the node is lost, and keeps this
  abbrev lost : Moment
  lost = record { turn = Lost node; nodes = new }

  abbrev again : ℕ → Moment
  again block = record { turn = Renewed block node; nodes = new }

  -- so many blocks are rebuilt on it
  abbrev rebuilt_to : ℕ → List Moment
  rebuilt_to zero = []
  rebuilt_to (suc k) = rebuilt_to k ++ again k ∷ []

  -- a block that is rebuilt was acknowledged no further
  given_again : (b : Standing) (block other : ℕ) → (standing_after b (turn_on block (Renewed other node))).ended ≡ b.ended
  given_again b block other = at (eqb other block)
    where
      at : (t : Bool) → (standing_after b (cond t (RenewedThere node) ChangedThere)).ended ≡ b.ended
      at true = refl
      at false = refl

  -- and the node stays present where it was
  present_again : (b : Standing) (block other : ℕ) → away_in b node ≡ false → away_in (standing_after b (turn_on block (Renewed other node))) node ≡ false
  present_again b block other there = at (eqb other block)
    where
      at : (t : Bool) → away_in (standing_after b (cond t (RenewedThere node) ChangedThere)) node ≡ false
      at true = rw (eq-eqb node node refl) refl
      at false = there

  module _ (life : List Moment) (has : HasLived c life new)
      (ready : (block : ℕ) → block < c.blocks
      → (x : StampedValue) × (earlier : List StampedValue) × (given_in c life block ≡ x ∷ earlier)
      × (versions_in (new node) block ≡ renewed (setting c) x node)) where
    record IsRebuilt (k : ℕ) : Type 0 where
      lived : HasLived c (life ++ rebuilt_to k) new
      given : (block : ℕ) → given_in c (life ++ rebuilt_to k) block ≡ given_in c life block
      present : (block : ℕ) → block < k → away_in (standing_on c block (life ++ rebuilt_to k)) node ≡ false

    one_more : (k : ℕ) → k < c.blocks → IsRebuilt k → IsRebuilt (suc k)
    one_more k below is =
        let x = ready k below in
        let step = nodes_rebuilt c (life ++ rebuilt_to k) new new k node x.0 x.1 is.lived below (is.given k ∙ x.2) x.3 (λ other apart. refl) (λ i block l apart. refl) in
        let assoc = append_assoc life (rebuilt_to k) (again k ∷ []) in
        record {
          lived = subst (λ (l : List Moment). HasLived c l new) assoc step.0;
          given = λ block. (
              ap (λ (l : List Moment). given_in c l block) (sym assoc)
              ∙ ap (λ (b : Standing). b.ended) (standing_more c block (life ++ rebuilt_to k) (again k ∷ []))
              ∙ given_again (standing_on c block (life ++ rebuilt_to k)) block k ∙ is.given block);
          present = λ block lt. subst (λ (l : List Moment). away_in (standing_on c block l) node ≡ false) assoc (elim (cases_lt block k) [
            | inl before ↦
                ap (λ (b : Standing). away_in b node) (standing_more c block (life ++ rebuilt_to k) (again k ∷ []))
                ∙ present_again (standing_on c block (life ++ rebuilt_to k)) block k (is.present block before)
            | inr behind ↦ (
                let same : k ≡ block = omega (arith, lt, behind) in
                subst (λ (j : ℕ). away_in (standing_on c j ((life ++ rebuilt_to k) ++ again k ∷ [])) node ≡ false) same step.1)
          ]);
        }

    all_of : (k : ℕ) → k ≤ c.blocks → IsRebuilt k
    all_of zero few = record {
      lived = subst (λ (l : List Moment). HasLived c l new) (sym (append-nil life)) has;
      given = λ block. ap (λ (l : List Moment). given_in c l block) (append-nil life);
      present = λ block lt. absurd (omega (arith, lt));
    }
    all_of (suc k) few = one_more k (omega (arith, few)) (all_of k (omega (arith, few)))

pub nodes_replaced : (c : Numbers) → NodesAreReplaced c
nodes_replaced c life old new node has others ready =
    let gone = lost c node new in
    let without : HasLived c (life ++ gone ∷ []) new = nodes_lost c life old new node has others in
    let all = all_of c node new (life ++ gone ∷ []) without still c.blocks (omega arith) in
    let assoc = append_assoc life (gone ∷ []) (rebuilt_to c node new c.blocks) in (
      gone ∷ rebuilt_to c node new c.blocks,
      subst (λ (l : List Moment). HasLived c l new) assoc all.lived,
      λ block there. subst (λ (l : List Moment). away_in (standing_on c block l) node ≡ false) assoc (all.present block there),
    )
  where
    still : (block : ℕ) → block < c.blocks
        → (x : StampedValue) × (earlier : List StampedValue) × (given_in c (life ++ lost c node new ∷ []) block ≡ x ∷ earlier)
        × (versions_in (new node) block ≡ renewed (setting c) x node)
    still block there =
        let x = ready block there in (
          x.0,
          x.1,
          ap (λ (b : Standing). b.ended) (standing_more c block life (lost c node new ∷ [])) ∙ x.2,
          x.3,
        )
