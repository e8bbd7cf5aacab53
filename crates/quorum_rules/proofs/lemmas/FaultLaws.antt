-- Numbers have no fault exactly where they are valid.
use Rattle.std.proofs.Common.{◌≡◌, ◌↔◌, ℕ, ◌≤◌, Bool, true, false, not, ◌&&◌, nat_lt, nat_le, if◌then◌else◌, Option, refl, ◌∙◌, arith, lit≤}
use Rattle.std.specs.declared.option.Option.TheVariants.{None, Some}
use Rattle.quorum_rules.specs.Limits.{Numbers, IsValid, IsOfScripts, is_of_scripts, most_size, most_blocks}
use Rattle.quorum_rules.specs.declared.Edition.{Edition}
use Rattle.quorum_rules.specs.declared.Edition.TheVariants.{One, Two, Three, Four}
use Rattle.quorum_rules.specs.Faults.{fault, is_outside}
use Rattle.quorum_rules.specs.declared.ConfigFault.{ConfigFault}

-- where a table of faults says none, its first test fails and so do the others
pub first_fails : (b : Bool) (e : ConfigFault) (o : Option ConfigFault) → (if b then Some e else o) ≡ None → (b ≡ false) × (o ≡ None)
first_fails true e o h = cc
first_fails false e o h = (refl, h)

-- where the first test fails the others decide
pub first_passed : (b : Bool) (e : ConfigFault) (o : Option ConfigFault) → b ≡ false → (if b then Some e else o) ≡ o
first_passed true e o h = cc
first_passed false e o h = refl

pub inside_bounds : (most x : ℕ) → is_outside most x ≡ false → (1 ≤ x) × (x ≤ most)
inside_bounds most x h = grind arith

pub not_outside : (most x : ℕ) → 1 ≤ x → x ≤ most → is_outside most x ≡ false
not_outside most x h k = grind arith

pub not_less : (x y : ℕ) → nat_lt x y ≡ false → y ≤ x
not_less x y h = grind arith

pub is_not_less : (x y : ℕ) → y ≤ x → nat_lt x y ≡ false
is_not_less x y h = grind arith

pub both_at_most : (x y p q : ℕ) → not (nat_le x y && nat_le p q) ≡ false → (x ≤ y) × (p ≤ q)
both_at_most x y p q h = grind arith

pub are_both : (x y p q : ℕ) → x ≤ y → p ≤ q → not (nat_le x y && nat_le p q) ≡ false
are_both x y p q h k = grind arith

pub valid_of_none : (c : Numbers) → fault c ≡ None → IsValid c
valid_of_none c h =
    let p1 = first_fails _ _ _ h in
    let p2 = first_fails _ _ _ p1.1 in
    let p3 = first_fails _ _ _ p2.1 in
    let p4 = first_fails _ _ _ p3.1 in
    let p5 = first_fails _ _ _ p4.1 in
    let p6 = first_fails _ _ _ p5.1 in
    let p7 = first_fails _ _ _ p6.1 in
    record {
      nodes = inside_bounds _ _ p1.0;
      liars = not_less _ _ p2.0;
      low = not_less _ _ p3.0;
      high = not_less _ _ p4.0;
      shares = both_at_most _ _ _ _ p5.0;
      size = inside_bounds _ _ p6.0;
      blocks = inside_bounds _ _ p7.0;
    }

pub none_of_valid : (c : Numbers) → IsValid c → fault c ≡ None
none_of_valid c v =
    first_passed _ _ _ (not_outside _ _ v.nodes.0 v.nodes.1)
    ∙ first_passed _ _ _ (is_not_less _ _ v.liars)
    ∙ first_passed _ _ _ (is_not_less _ _ v.low)
    ∙ first_passed _ _ _ (is_not_less _ _ v.high)
    ∙ first_passed _ _ _ (are_both _ _ _ _ v.shares.0 v.shares.1)
    ∙ first_passed _ _ _ (not_outside _ _ v.size.0 v.size.1)
    ∙ first_passed _ _ _ (not_outside _ _ v.blocks.0 v.blocks.1)

pub fault-valid : (c : Numbers) → (fault c ≡ None) ↔ IsValid c
fault-valid c = (valid_of_none c, none_of_valid c)

pub most_of_all : (edition : Edition) → most_size edition ≤ 65536
most_of_all One = lit≤ tt
most_of_all Two = lit≤ tt
most_of_all Three = lit≤ tt
most_of_all Four = lit≤ tt

-- in no edition has a block more bytes
pub size_at_most : (c : Numbers) → IsValid c → c.size ≤ 65536
size_at_most c v = omega (arith, v.size.1, most_of_all c.edition)

pub most_blocks_of_all : (edition : Edition) → most_blocks edition ≤ 268435456
most_blocks_of_all One = lit≤ tt
most_blocks_of_all Two = lit≤ tt
most_blocks_of_all Three = lit≤ tt
most_blocks_of_all Four = lit≤ tt

-- in no edition are there more blocks
pub blocks_at_most : (c : Numbers) → IsValid c → c.blocks ≤ 268435456
blocks_at_most c v = omega (arith, v.blocks.1, most_blocks_of_all c.edition)

most_of_scripts : (edition : Edition) → is_of_scripts edition ≡ true → (most_size edition ≤ 16384) × (most_blocks edition ≤ 4096)
most_of_scripts One named = (lit≤ tt, lit≤ tt)
most_of_scripts Two named = (lit≤ tt, lit≤ tt)
most_of_scripts Three named = cc
most_of_scripts Four named = cc

-- where a script can describe the cluster a block has no more bytes
pub script_size_at_most : (c : Numbers) → IsValid c → IsOfScripts c → c.size ≤ 16384
script_size_at_most c v named = omega (arith, v.size.1, (most_of_scripts c.edition named).0)

-- and there are no more blocks
pub script_blocks_at_most : (c : Numbers) → IsValid c → IsOfScripts c → c.blocks ≤ 4096
script_blocks_at_most c v named = omega (arith, v.blocks.1, (most_of_scripts c.edition named).1)
