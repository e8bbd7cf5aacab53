-- Which lines fit.
use Rattle.std.proofs.Common.{◌≡◌, ℕ, ◌<◌, ◌≤◌, Bool, true, List, [], ◌∷◌, length, nat_lt, nat_eq, refl, sym, subst, ◌∙◌, arith}
use Rattle.std.specs.Prelude.{IsTrue, ◌↔◌}
use Rattle.std.proofs.lemmas.Bool.Decides.{nat_tests}
use Rattle.std.specs.BTreeSet.{BTreeSet}
use Rattle.stamp_order.specs.declared.Stamp.{Stamp}
use Rattle.wire_forms.specs.declared.op.Op.{Op}
use Rattle.wire_forms.specs.declared.op.Op.TheVariants.{Read as ReadOp, Write as WriteOp}
use Rattle.protocol.specs.Messages.{IsBytes}
use Rattle.protocol.specs.Setting.{Setting}
use Rattle.protocol.specs.Lines.{FitsLine, start_line}
use Rattle.journals.specs.declared.node.NodeAct.{NodeAct}
use Rattle.journals.specs.declared.node.NodeAct.TheVariants.{Pruned}
use Rattle.journals.specs.declared.desk.DeskAct.{DeskAct}
use Rattle.journals.specs.declared.desk.DeskAct.TheVariants.{Start, Crash, Call}
use Rattle.journals.specs.Steps.Step.{AtNode, AtDesk}
use Rattle.journals.specs.Merging.{line_of}
use Rattle.merge_trace.specs.Numbered.{own_step, AreNew}
use Rattle.merge_trace.proofs.Adding.{one_new_fits}

less : (a b : ℕ) → nat_lt a b ≡ true → a < b
less a b e = grind (arith, nat_tests)

is_less : (a b : ℕ) → a < b → nat_lt a b ≡ true
is_less a b l = grind (arith, nat_tests)

same : (a b : ℕ) → nat_eq a b ≡ true → a ≡ b
same a b e = grind (arith, nat_tests)

is_same : (a b : ℕ) → a ≡ b → nat_eq a b ≡ true
is_same a b e = grind (arith, nat_tests)

module _ (s : Setting) (n : ℕ) (blocks : n ≡ s.blocks) where
  pub prune_fits : (i block : ℕ) (stamp : Stamp) (act : NodeAct) → act ≡ Pruned block stamp → IsTrue (nat_lt block n) ↔ ((k : ℕ) → FitsLine s (line_of s k (AtNode i act)))
  prune_fits i block stamp act e = subst (λ (a : NodeAct). IsTrue (nat_lt block n) ↔ ((k : ℕ) → FitsLine s (line_of s k (AtNode i a)))) (sym e) ((λ yes k. subst (λ (m : ℕ). block < m) blocks (less block n yes)), λ h. is_less block n (subst (λ (m : ℕ). block < m) (sym blocks) (h 0)))

  pub read_fits : (block : ℕ) (op : Op) → op ≡ ReadOp block → IsTrue (nat_lt block n) ↔ ((c : ℕ) → FitsLine s (start_line c op))
  read_fits block op e = subst (λ (o : Op). IsTrue (nat_lt block n) ↔ ((c : ℕ) → FitsLine s (start_line c o))) (sym e) ((λ yes c. subst (λ (m : ℕ). block < m) blocks (less block n yes)), λ h. is_less block n (subst (λ (m : ℕ). block < m) (sym blocks) (h 0)))

  pub write_fits : (block long size : ℕ) (value : List ℕ) (op : Op) → op ≡ WriteOp block value → block < n → IsBytes value → long ≡ length value → size ≡ s.size → IsTrue (nat_eq long size) ↔ ((c : ℕ) → FitsLine s (start_line c op))
  write_fits block long size value op e low bytes count whole =
      subst (λ (o : Op). IsTrue (nat_eq long size) ↔ ((c : ℕ) → FitsLine s (start_line c o))) (sym e) ((λ yes c. (subst (λ (m : ℕ). block < m) blocks low, (sym count ∙ same long size yes ∙ whole, bytes))), λ h. is_same long size (count ∙ (h 0).1.0 ∙ sym whole))

  pub high_write : (block : ℕ) (value : List ℕ) (op : Op) → op ≡ WriteOp block value → n ≤ block → IsTrue (nat_lt block n) ↔ ((c : ℕ) → FitsLine s (start_line c op))
  high_write block value op e high =
      subst (λ (o : Op). IsTrue (nat_lt block n) ↔ ((c : ℕ) → FitsLine s (start_line c o))) (sym e) ((λ yes. absurd (let l = less block n yes in omega (arith, l, high))), λ h. is_less block n (subst (λ (m : ℕ). block < m) (sym blocks) (h 0).0))

module _ (s : Setting) where
  any_client : (c d : ℕ) (op : Op) → FitsLine s (start_line c op) → FitsLine s (start_line d op)
  any_client c d (ReadOp block) h = h
  any_client c d (WriteOp block value) h = h

  pub start_fits : (c : ℕ) (op : Op) (act : DeskAct) (b : Bool) → act ≡ Start op → (IsTrue b ↔ ((d : ℕ) → FitsLine s (start_line d op))) → IsTrue b ↔ ((k : ℕ) → FitsLine s (line_of s k (AtDesk c act)))
  start_fits c op act b e h = subst (λ (a : DeskAct). IsTrue b ↔ ((k : ℕ) → FitsLine s (line_of s k (AtDesk c a)))) (sym e) ((λ yes k. h.0 yes c), λ k. h.1 (λ d. any_client c d op (k 0)))

-- a step of a client's own
pub own_is : (c n : ℕ) (act : DeskAct) → ((way : _) (ask : _) (reply : _) → act ≡ Call way ask reply → ⊥) → own_step c n act ≡ (n, AtDesk c act) ∷ []
own_is c n (Start op) own = refl
own_is c n Crash own = refl
own_is c n (Call way ask reply) own = absurd (own way ask reply refl)

pub own_fits : (s : Setting) (set : BTreeSet ℕ) (c n : ℕ) (act : DeskAct) → own_step c n act ≡ (n, AtDesk c act) ∷ [] → AreNew s set (own_step c n act) → (k : ℕ) → FitsLine s (line_of s k (AtDesk c act))
own_fits s set c n act e h = one_new_fits s set n (AtDesk c act) (subst (AreNew s set) e h)
