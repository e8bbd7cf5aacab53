-- The premises can be met: the example's setting is valid, and its run is one.
use Rattle.std.proofs.Common.{◌≡◌, ℕ, zero, suc, ◌<◌, List, [], ◌∷◌, length, refl, arith, eqb}
use Rattle.std.specs.List.{Contains}
use Rattle.protocol.specs.Setting.{IsValid, IsBlock, digest_at}
use Rattle.quorum_rules.specs.Limits.{Numbers}
use Rattle.quorum_rules.specs.declared.Edition.TheVariants.{One}
use Rattle.protocol.specs.Instance.{IsCluster}
use Rattle.protocol.proofs.Example.{toy, second_of_first}
use Rattle.lists.proofs.lemmas.Members.{Contains-head}

one_part : (value : List ℕ) (parts : List (ℕ × List ℕ)) → length parts ≡ 1 → ((q : ℕ × List ℕ) → Contains parts q → q.1 ≡ value) → second_of_first parts ≡ value
one_part value [] e h = absurd (omega arith)
one_part value (p ∷ ps) e h = h p (Contains-head p ps)

one_block : (parts : List (ℕ × List ℕ)) → length parts ≡ 1 → ((q : ℕ × List ℕ) → Contains parts q → IsBlock toy q.1) → IsBlock toy (second_of_first parts)
one_block [] e h = absurd (omega arith)
one_block (p ∷ ps) e h = h p (Contains-head p ps)

toy_digest_at : (value : List ℕ) (i : ℕ) → i < 3 → digest_at toy (toy.sum_of value) i ≡ toy.digest value
toy_digest_at value zero l = refl
toy_digest_at value (suc zero) l = refl
toy_digest_at value (suc (suc zero)) l = refl
toy_digest_at value (suc (suc (suc i))) l = absurd (omega (arith, l))

pub toy_valid : IsValid toy
toy_valid = record {
  liars_few = omega arith;
  quorum_low = omega arith;
  quorum_high = omega arith;
  shares_some = omega arith;
  shares_few = omega arith;
  liars = omega arith;
  length-digest = λ x. refl;
  length-sum = λ value h. refl;
  digests = λ value i h l. toy_digest_at value i l;
  length-fragment = λ value i h l. h.0;
  bytes-fragment = λ value i h. h.1;
  decodes = λ value parts h k a each. one_part value parts k (λ q r. (each q r).1);
  decoded-block = λ parts k a each. one_block parts k (λ q r. (each q r).1);
}

-- five nodes, of which one may fail or lie
abbrev five_numbers : Numbers
five_numbers = record { edition = One; n = 5; t = 1; b = 1; qc = 3; m = 2; size = 2; blocks = 2 }

pub five_cluster : IsCluster five_numbers (λ i. eqb i 4)
five_cluster = record {
  config = record { nodes = (omega arith, omega arith); liars = omega arith; low = omega arith; high = omega arith; shares = (omega arith, omega arith); size = (omega arith, omega arith); blocks = (omega arith, omega arith) };
  few = omega arith;
}
