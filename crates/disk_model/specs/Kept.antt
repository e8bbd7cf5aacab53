-- What a disk keeps of its past for proofs.
use Rattle.std.specs.Prelude.{ℕ, List, refl}
use Rattle.std.specs.Coded.{Coded, code_by, coded×, coded_ℕ, coded_list}
use Rattle.disk_model.specs.declared.range.WrittenRange.{WrittenRange}
use Rattle.disk_model.specs.Crash.{Pending}

-- what a crash depends on now, and what it depended on at each sync before
pub record Kept : Type 0 where
  pub now : Pending
  pub before : List Pending

abbrev range_code : Coded WrittenRange
range_code = code_by (ℕ × ℕ) (coded× coded_ℕ coded_ℕ) (λ r. (r.at, r.count)) (λ p. record { at = p.0; count = p.1 }) (λ _. refl)

abbrev pending_code : Coded Pending
pending_code =
    code_by (List ℕ × (List WrittenRange × ℕ)) (coded× (coded_list coded_ℕ) (coded× (coded_list range_code) coded_ℕ))
    (λ p. (p.synced, (p.written, p.longest))) (λ t. record { synced = t.0; written = t.1.0; longest = t.1.1 }) (λ _. refl)

-- it is stored as the pair of its fields
abbrev pub kept_code : Coded Kept
kept_code = code_by (Pending × List Pending) (coded× pending_code (coded_list pending_code)) (λ k. (k.now, k.before)) (λ p. record { now = p.0; before = p.1 }) (λ _. refl)
