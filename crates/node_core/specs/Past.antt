-- What a node was before it added a version, and after.
use Rattle.std.specs.Prelude.{◌≡◌, ℕ, zero, suc, ◌<◌, ◌≤◌, List, refl}
use Rattle.std.specs.Coded.{Coded, code_by, coded×, coded_ℕ, coded_list}
use Rattle.quorum_rules.specs.declared.Edition.{Edition}
use Rattle.quorum_rules.specs.declared.Edition.TheVariants.{One, Two, Three, Four}
use Rattle.quorum_rules.specs.Limits.{Numbers, edition_number}
use Rattle.stamp_order.specs.declared.Stamp.{Stamp}
use Rattle.protocol.specs.Messages.{Version}
use Rattle.node_core.specs.Seen.{SeenNode, versions_in, with_versions, without}

-- a node added a version: what it was before, and what it was then
pub record Addition : Type 0 where
  pub before : SeenNode
  pub after : SeenNode

-- without the version of this stamp the node is what it was before
pub record IsUndone (before after : SeenNode) (block : ℕ) (stamp : Stamp) : Type 0 where
  pub there : block < after.config.blocks
  pub later : 1 ≤ stamp.time
  pub undoes : with_versions after block (without stamp (versions_in after block)) ≡ before

-- how proofs store a node
abbrev edition_of : ℕ → Edition
edition_of zero = One
edition_of (suc zero) = One
edition_of (suc (suc zero)) = Two
edition_of (suc (suc (suc zero))) = Three
edition_of (suc (suc (suc (suc _)))) = Four

pub edition_of-number : (e : Edition) → edition_of (edition_number e) ≡ e
edition_of-number One = refl
edition_of-number Two = refl
edition_of-number Three = refl
edition_of-number Four = refl

abbrev edition_code : Coded Edition
edition_code = code_by ℕ coded_ℕ edition_number edition_of edition_of-number

abbrev numbers_code : Coded Numbers
numbers_code =
    code_by (Edition × (ℕ × (ℕ × (ℕ × (ℕ × (ℕ × (ℕ × ℕ)))))))
    (coded× edition_code (coded× coded_ℕ (coded× coded_ℕ (coded× coded_ℕ (coded× coded_ℕ (coded× coded_ℕ (coded× coded_ℕ coded_ℕ)))))))
    (λ c. (c.edition, (c.n, (c.t, (c.b, (c.qc, (c.m, (c.size, c.blocks))))))))
    (λ p. record {
      edition = p.0;
      n = p.1.0;
      t = p.1.1.0;
      b = p.1.1.1.0;
      qc = p.1.1.1.1.0;
      m = p.1.1.1.1.1.0;
      size = p.1.1.1.1.1.1.0;
      blocks = p.1.1.1.1.1.1.1;
    })
    (λ _. refl)

abbrev stamp_code : Coded Stamp
stamp_code =
    code_by (ℕ × (ℕ × List ℕ)) (coded× coded_ℕ (coded× coded_ℕ (coded_list coded_ℕ)))
    (λ s. (s.time, (s.client, s.verifier))) (λ p. record { time = p.0; client = p.1.0; verifier = p.1.1 }) (λ _. refl)

abbrev version_code : Coded Version
version_code =
    code_by (Stamp × (List (List ℕ) × List ℕ)) (coded× stamp_code (coded× (coded_list (coded_list coded_ℕ)) (coded_list coded_ℕ)))
    (λ v. (v.stamp, (v.sum, v.fragment))) (λ p. record { stamp = p.0; sum = p.1.0; fragment = p.1.1 }) (λ _. refl)

abbrev pub node_code : Coded SeenNode
node_code =
    code_by (Numbers × (ℕ × List (List Version))) (coded× numbers_code (coded× coded_ℕ (coded_list (coded_list version_code))))
    (λ n. (n.config, (n.number, n.blocks))) (λ p. record { config = p.0; number = p.1.0; blocks = p.1.1 }) (λ _. refl)
