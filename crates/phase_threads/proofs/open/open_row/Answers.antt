use Rattle.std.proofs.Common.{◌≡◌, ◌++◌, ◌∷◌, [], List, length, sym, ap, subst, ◌∙◌, All}
use Rattle.std.specs.Vec.Iter.{into_iter_items, into_iter_len}
use Rattle.receipt_lock.specs.Chits.{Holder as Chit, new_chit}
use Rattle.locked_nodes.specs.declared.charter.Item.{Item}
use Rattle.thread_work.specs.Pairwise.{Beside}
use Rattle.phase_threads.specs.Phased.{IsVaultOf, new_portion}
use Rattle.thread_work.proofs.lemmas.Places.{none_beside, push_beside, walk_on, walk_end}
use Rattle.phase_threads.proofs.Dealing.{dealt_alike}
use Rattle.phase_threads.proofs.Opening.{portion_more, vault_at}
use Rattle.phase_threads.proofs.open.open_row.Goals as goal

pub loop-cell-init : goal.loop-cell-init
loop-cell-init c =
    let gives = c.into_iter-cell-iterator.ensures.into_iter_gives in
    let none = c.new-vaults.ensures.items in (
      [],
      (sym gives.0, gives.1 ∙ c.args.cells.ok.0 ∙ ap length (sym gives.0)),
      subst (Beside (IsVaultOf c.args.count) []) (sym none) (none_beside (IsVaultOf c.args.count)),
      c.in_ok-portions.ensures.count,
      subst (λ l. All (λ (h : List (Chit Item)). h ≡ new_portion l) c.in_ok-portions.portions.items) (sym none) c.in_ok-portions.ensures.empty,
    )

pub loop-cell-preserved : goal.loop-cell-preserved
loop-cell-preserved c =
    let inv = c.loop-cell.invariant in
    let steps = c.in-Some.ensures.steps in
    let cell = c.in-Some.cell in
    let vault = c.in_ok-vault.vault in
    let was = c.loop-cell.vaults.items in
    let pushed = c.in_ok-push.ensures.items in
    let old = c.loop-cell.portions.items in
    let new = c.deal.new.portions.items in
    let chits = c.in_ok-vault.chits in
    let count : length chits ≡ length old = c.in_ok-vault.ensures.count ∙ sym inv.3 in
    let dealt = dealt_alike old new chits (new_portion was) (new_chit vault.id) c.in_ok-deal.ensures count inv.4 c.in_ok-vault.ensures.chits in (
      inv.0 ++ cell ∷ [],
      walk_on c.args.cells.items inv.0 (into_iter_items c.loop-cell.cell-iterator) (into_iter_items c.next.new.self) cell (into_iter_len c.loop-cell.cell-iterator) (into_iter_len c.next.new.self) inv.1 steps.0 steps.1,
      subst (Beside (IsVaultOf c.args.count) (inv.0 ++ cell ∷ [])) (sym pushed) (push_beside (IsVaultOf c.args.count) inv.0 was cell vault inv.2 (vault_at c.args.count 0 (length inv.0) cell vault c.in_ok-vault.ensures.vault)),
      c.in_ok-deal.ensures.count ∙ inv.3,
      subst (λ l. All (λ (h : List (Chit Item)). h ≡ l) new) (sym (portion_more was vault) ∙ ap new_portion (sym pushed)) dealt,
    )

pub returns-clause-vaults : goal.returns-clause-vaults
returns-clause-vaults c =
    let inv = c.loop-cell.invariant in
    let all = walk_end c.args.cells.items inv.0 (into_iter_items c.loop-cell.cell-iterator) (into_iter_len c.loop-cell.cell-iterator) inv.1 c.in-None.ensures.steps.0 in
    subst (λ l. Beside (IsVaultOf c.args.count) l c.loop-cell.vaults.items) (sym all) inv.2

pub returns-clause-portions : goal.returns-clause-portions
returns-clause-portions c = let inv = c.loop-cell.invariant in (inv.3, inv.4)
