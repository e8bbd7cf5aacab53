-- What is so of a version that a node accepts.
use Rattle.std.proofs.Common.{◌≡◌, ℕ, ◌<◌, ◌≤◌, Bool, true, false, cond, ltb, List, Option, refl, subst, arith}
use Rattle.std.specs.declared.option.Option.TheVariants.{None, Some}
use Rattle.std.proofs.lemmas.Bool.Decides.{nat_tests}
use Rattle.protocol.specs.Messages.{Version, Ask, Request, Reason}
use Rattle.wire_forms.specs.declared.Request.TheVariants.{Time, Read, Write}
use Rattle.wire_forms.specs.declared.Reason.TheVariants.{BadLength, TimeZero}
use Rattle.protocol.specs.Setting.{Setting}
use Rattle.protocol.specs.Nodes.{refusal, added, added_in, accepts, keeps}
use Rattle.lists.proofs.lemmas.Tests.{nonzero_positive}

-- the block is there, the stamp is new in it, and its time isn't 0
pub record IsNewIn (s : Setting) (vs : List Version) (ask : Ask) (v : Version) : Type 0 where
  pub there : ask.block < s.blocks
  pub new : keeps vs v.stamp ≡ false
  pub later : 1 ≤ v.stamp.time

tested : (a b : Bool) (rest : Option Reason) → cond a (Some BadLength) (cond b (Some TimeZero) rest) ≡ None → b ≡ false
tested true b rest e = absurd (cc)
tested false true rest e = absurd (cc)
tested false false rest e = refl

not_zero : (s : Setting) (i : ℕ) (v : Version) → refusal s i v ≡ None → 1 ≤ v.stamp.time
not_zero s i v e = nonzero_positive v.stamp.time (tested _ _ _ e)

module _ (s : Setting) (i : ℕ) (vs : List Version) (ask : Ask) (v : Version) where
  of_write : (w : Version) (o : Option Reason) (k : Bool) → refusal s i w ≡ o → keeps vs w.stamp ≡ k → ask.block < s.blocks → added o vs w ≡ Some v → IsNewIn s vs ask v
  of_write w (Some reason) k r n l e = absurd (cc)
  of_write w None true r n l e = let none = rw n at e in absurd (cc)
  of_write w None false r n l e =
      let some = rw n at e in
      let is : w ≡ v = cc in
      subst (IsNewIn s vs ask) is (record { there = l; new = n; later = not_zero s i w r })

  of_request : (q : Request) → ask.block < s.blocks → added_in s i vs q ≡ Some v → IsNewIn s vs ask v
  of_request Time l e = absurd (cc)
  of_request (Read bound) l e = absurd (cc)
  of_request (Write w) l e = of_write w (refusal s i w) (keeps vs w.stamp) refl refl l e

  at : (b : Bool) → ltb ask.block s.blocks ≡ b → cond b (added_in s i vs ask.request) None ≡ Some v → IsNewIn s vs ask v
  at true l e = of_request ask.request (grind (arith, nat_tests)) e
  at false l e = absurd (cc)

  -- a version that the node accepts
  pub accepted_is_new : accepts s i vs ask ≡ Some v → IsNewIn s vs ask v
  accepted_is_new e = at (ltb ask.block s.blocks) refl e
