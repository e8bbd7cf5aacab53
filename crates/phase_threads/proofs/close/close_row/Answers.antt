use Rattle.std.proofs.Common.{◌≡◌, ◌++◌, ◌∷◌, [], List, length, map, reverse, sym, ap, subst, ◌∙◌, All, length-append}
use Rattle.std.specs.Vec.Iter.{into_iter_items, into_iter_len}
use Rattle.receipt_lock.specs.Chits.{Holder as Chit, Deposit}
use Rattle.locked_nodes.specs.declared.charter.Item.{Item}
use Rattle.locked_nodes.specs.Cells.{items}
use Rattle.thread_work.specs.Pairwise.{Beside}
use Rattle.phase_threads.specs.Phased.{IsClosed}
use Rattle.thread_work.proofs.lemmas.Places.{none_beside, push_beside, walk_on, walk_end}
use Rattle.phase_threads.proofs.Closing.{AreWithout, all_portions, none_empty, without_more, chits_are, chits_own, chits_rest}
use Rattle.phase_threads.proofs.close.close_row.Goals as goal
use Rattle.lists.proofs.lemmas.Members.{all_at_place, slice_get-seam}

pub loop-vault-init : goal.loop-vault-init
loop-vault-init c =
    let gives = c.into_iter-vault-iterator.ensures.into_iter_gives in
    let portions = c.args.portions.items in (
      [],
      (sym gives.0, gives.1 ∙ c.args.vaults.ok.0 ∙ ap length (sym gives.0)),
      subst (Beside (IsClosed portions) []) (sym c.new-cells.ensures.items) (none_beside (IsClosed portions)),
      all_portions portions,
    )

pub last_chits-requires : goal.last_chits-requires
last_chits-requires c =
    let inv = c.loop-vault.invariant in
    let vault = c.in-Some.vault in
    let rest = into_iter_items c.next.new.self in
    let list = inv.1.0 ∙ ap (λ l. inv.0 ++ l) c.in-Some.ensures.steps.0 in
    none_empty c.args.portions.items c.loop-vault.portions.items inv.0 vault rest (subst (λ (vs : List (Deposit Item)). All (λ h. map (λ (x : Chit Item). x.vault) (reverse h) ≡ map (λ (v : Deposit Item). v.id) vs) c.args.portions.items) list c.requires.own) inv.3

pub close-requires-clause-own : goal.close-requires-clause-own
close-requires-clause-own c =
    let inv = c.loop-vault.invariant in
    let vault = c.in-Some.vault in
    let rest = into_iter_items c.next.new.self in
    let list = inv.1.0 ∙ ap (λ l. inv.0 ++ l) c.in-Some.ensures.steps.0 in
    let own = subst (λ (vs : List (Deposit Item)). All (λ h. map (λ (x : Chit Item). x.vault) (reverse h) ≡ map (λ (v : Deposit Item). v.id) vs) c.args.portions.items) list c.requires.own in
    chits_own c.args.portions.items c.loop-vault.portions.items inv.0 vault rest own c.last_chits.new.portions.items c.in_ok-chits.chits inv.3 c.in_ok-chits.ensures

pub close-requires-clause-rest : goal.close-requires-clause-rest
close-requires-clause-rest c =
    let inv = c.loop-vault.invariant in
    let vault = c.in-Some.vault in
    let rest = into_iter_items c.next.new.self in
    let list = inv.1.0 ∙ ap (λ l. inv.0 ++ l) c.in-Some.ensures.steps.0 in
    let own = subst (λ (vs : List (Deposit Item)). All (λ h. map (λ (x : Chit Item). x.vault) (reverse h) ≡ map (λ (v : Deposit Item). v.id) vs) c.args.portions.items) list c.requires.own in
    chits_rest c.args.portions.items c.loop-vault.portions.items inv.0 vault rest own c.last_chits.new.portions.items c.in_ok-chits.chits inv.3 c.in_ok-chits.ensures c.requires.rest

pub close-requires-clause-all : goal.close-requires-clause-all
close-requires-clause-all c =
    let inv = c.loop-vault.invariant in
    let vault = c.in-Some.vault in
    let rest = into_iter_items c.next.new.self in
    let list = inv.1.0 ∙ ap (λ l. inv.0 ++ l) c.in-Some.ensures.steps.0 in
    let at = all_at_place (λ (v : Deposit Item). v.chits ≡ length c.args.portions.items) (inv.0 ++ vault ∷ rest) (length inv.0) vault (subst (All (λ (v : Deposit Item). v.chits ≡ length c.args.portions.items)) list c.requires.all) (slice_get-seam inv.0 vault rest) in
    c.in_ok-chits.ensures.all ∙ sym inv.3.count ∙ sym at

pub loop-vault-preserved : goal.loop-vault-preserved
loop-vault-preserved c =
    let inv = c.loop-vault.invariant in
    let steps = c.in-Some.ensures.steps in
    let vault = c.in-Some.vault in
    let rest = into_iter_items c.next.new.self in
    let portions = c.args.portions.items in
    let cell = c.close.result in
    let list = inv.1.0 ∙ ap (λ l. inv.0 ++ l) steps.0 in
    let own = subst (λ (vs : List (Deposit Item)). All (λ h. map (λ (x : Chit Item). x.vault) (reverse h) ≡ map (λ (v : Deposit Item). v.id) vs) portions) list c.requires.own in
    let chits = c.in_ok-chits.chits in
    let taken = c.in_ok-chits.ensures in
    let settled = c.close.ensures in
    let closed : IsClosed portions (length inv.0) vault cell = record {
      chits = chits;
      of = chits_are portions c.loop-vault.portions.items inv.0 vault rest own c.last_chits.new.portions.items chits inv.3 taken;
      settled = settled;
      one = c.each_entry_has_one_receipt.ensures.one vault.id.begun (items cell) chits settled;
      stands = c.each_entry_has_one_receipt.ensures.stands vault.id.begun (items cell) chits settled;
    } in (
      inv.0 ++ vault ∷ [],
      walk_on c.args.vaults.items inv.0 (into_iter_items c.loop-vault.vault-iterator) rest vault (into_iter_len c.loop-vault.vault-iterator) (into_iter_len c.next.new.self) inv.1 steps.0 steps.1,
      subst (Beside (IsClosed portions) (inv.0 ++ vault ∷ [])) (sym c.in_ok-push.ensures.items) (push_beside (IsClosed portions) inv.0 c.loop-vault.cells.items vault cell inv.2 closed),
      subst (λ n. AreWithout n portions c.last_chits.new.portions.items) (sym (length-append inv.0 (vault ∷ []))) (without_more portions c.loop-vault.portions.items inv.0 vault rest own c.last_chits.new.portions.items chits inv.3 taken),
    )

pub returns : goal.returns
returns c =
    let inv = c.loop-vault.invariant in
    let all = walk_end c.args.vaults.items inv.0 (into_iter_items c.loop-vault.vault-iterator) (into_iter_len c.loop-vault.vault-iterator) inv.1 c.in-None.ensures.steps.0 in
    subst (λ l. Beside (IsClosed c.args.portions.items) l c.loop-vault.cells.items) (sym all) inv.2
