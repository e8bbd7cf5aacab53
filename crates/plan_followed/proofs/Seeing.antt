-- What a client has seen of a block.
use Rattle.std.proofs.Common.{◌≡◌, ℕ, ◌+◌, ◌==◌, cond, ◌&&◌, Bool, true, false, List, [], ◌∷◌, ◌++◌, map, fold, replicate, unwrap_or, Option, refl, ap, ◌∙◌}
use Rattle.std.specs.declared.option.Option.TheVariants.{None, Some}
use Rattle.std.proofs.lemmas.Bool.{eq-eqb}
use Rattle.wire_forms.specs.declared.op.Op.TheVariants.{Write}
use Rattle.block_device.specs.Device.{merged}
use Rattle.block_device.specs.Latest.{latest_read, or_else, read_by}
use Rattle.protocol.specs.Operations.{Task}
use Rattle.protocol.specs.World.{Record, open_record}
use Rattle.protocol.specs.Seen.{started_task}
use Rattle.journals.specs.Agreement.{ended_record}
use Rattle.journals.specs.Desks.{DeskState, Ended}
use Rattle.journals.specs.Records.{record_of_task, open_records, client_records}
use Rattle.plan_followed.specs.Laws.{MergesIntoSeen, shown_by, seen_after}

module _ (c block : ℕ) where
  -- what is under way gave nothing
  alike : (b : Bool) (o : Option (List ℕ)) → cond b o o ≡ o
  alike true o = refl
  alike false o = refl

  read_by-open : (task : Task) → read_by c block (open_record c task) ≡ None
  read_by-open task = alike ((c == c) && (task.block == block)) None

  latest_read-open : (o : Option Task) → latest_read c block (record_of_task c o) ≡ None
  latest_read-open None = refl
  latest_read-open (Some task) = read_by-open task

  read_by-ended : (x : Ended) → read_by c block (ended_record c x) ≡ shown_by block x
  read_by-ended x = rw (eq-eqb c c refl) refl

  -- the later one, or else the one before it
  unwrap_or-or_else : (later here : Option (List ℕ)) (seen : List ℕ) → unwrap_or (or_else later here) seen ≡ unwrap_or later (unwrap_or here seen)
  unwrap_or-or_else None here seen = refl
  unwrap_or-or_else (Some value) here seen = refl

  latest_read-ended : (xs : List Ended) (rs : List Record) (seen : List ℕ) → latest_read c block rs ≡ None
      → unwrap_or (latest_read c block (map (ended_record c) xs ++ rs)) seen ≡ fold (λ seen x. unwrap_or (shown_by block x) seen) seen xs
  latest_read-ended [] rs seen none = ap (λ (o : Option (List ℕ)). unwrap_or o seen) none
  latest_read-ended (x ∷ xs) rs seen none =
      let rest = latest_read c block (map (ended_record c) xs ++ rs) in
      unwrap_or-or_else rest (read_by c block (ended_record c x)) seen
      ∙ ap (λ (o : Option (List ℕ)). unwrap_or rest (unwrap_or o seen)) (read_by-ended x)
      ∙ latest_read-ended xs rs (unwrap_or (shown_by block x) seen) none

pub merges_into_seen : MergesIntoSeen
merges_into_seen size c d block at bytes =
    ap (λ (old : List ℕ). Write block (merged old at bytes))
    (latest_read-ended c block d.ended (open_records c d) (replicate size 0) (latest_read-open c block (started_task (d.began + 1) d.client.seen.task)))
