-- A plan that a number makes is one whose blocks have one client each.
use Rattle.std.proofs.Common.{◌≡◌, ℕ, suc, ◌+◌, ◌%◌, ◌≤◌, Bool, true, false, List, [], ◌∷◌, length, map, refl, ap, ◌∙◌}
use Rattle.std.specs.Prelude.{nat_le, if◌then◌else◌}
use Rattle.std.specs.declared.option.Option.TheVariants.{None}
use Rattle.std.specs.List.{AllByRecursion, range_with_len}
use Rattle.std.proofs.lemmas.List.FromFn.{length-range_with_len}
use Rattle.wire_forms.specs.Liars.{has_number}
use Rattle.wire_forms.specs.declared.rule.Rule.TheVariants.{Bad}
use Rattle.wire_forms.specs.declared.op.Op.{Op}
use Rattle.wire_forms.specs.declared.op.Op.TheVariants.{Read, Write}
use Rattle.protocol.specs.Seen.{block_of}
use Rattle.soak_loads.specs.Plain.{deeds_of}
use Rattle.plan_words.specs.declared.fault.Fault.{Fault}
use Rattle.plan_words.specs.declared.fault.Fault.TheVariants.{LiarNode, Lose, Hold}
use Rattle.plan_words.specs.declared.job.Job.{Job}
use Rattle.plan_words.specs.declared.job.Job.TheVariants.{Block, Device, Phase}
use Rattle.plan_words.specs.Named.{liars_of}
use Rattle.soak_loads.specs.MadePlans.{generator, word_at, job_of, work_of, plan_of}
use Rattle.soak_loads.specs.Owners.{on_block, IsOwned, BlocksHaveOneClient}
use Rattle.plan_followed.specs.Asked.{client_crash}
use Rattle.soak_loads.specs.Loads.{IsByOwner, HasOwners, OwnersAreDone, OwnersArePlain, LoadsAreDone, LoadsArePlain}

-- the rules, by whether there is a second client
abbrev rules_by : Bool → List Fault
rules_by b = LiarNode 4 Bad ∷ Lose 1 1 2 ∷ (if b then Hold 2 2 3 ∷ [] else [])

reliable_by : (b : Bool) (c : ℕ) → (has_number (liars_of (rules_by b)).clients c ≡ false) × (client_crash (rules_by b) c ≡ None)
reliable_by true c = (refl, refl)
reliable_by false c = (refl, refl)

-- whose a block is
abbrev owner_of : ℕ → ℕ → ℕ
owner_of clients block = 1 + block % clients

same_block : (op : Op) → on_block op ≡ block_of op
same_block (Read block) = refl
same_block (Write block value) = refl

by_owner : (clients : ℕ) (job : Job) → IsOwned clients job → IsByOwner (owner_of clients) job
by_owner clients (Block client op) h = h ∙ ap (owner_of clients) (same_block op)
by_owner clients (Device client op) h = absurd h
by_owner clients Phase h = absurd h

all_by_owner : (clients : ℕ) (work : List Job) → AllByRecursion (IsOwned clients) work → AllByRecursion (IsByOwner (owner_of clients)) work
all_by_owner clients [] h = tt
all_by_owner clients (job ∷ work) h = (by_owner clients job h.0, all_by_owner clients work h.1)

load_owners : BlocksHaveOneClient → (number clients ops : ℕ) → 1 ≤ clients → HasOwners (plan_of number clients ops)
load_owners one number clients ops some = record {
  reliable = λ c. reliable_by (nat_le 2 clients) c;
  owner = owner_of clients;
  owned = all_by_owner clients (work_of number clients ops) (one number clients ops some);
}

-- each number of the plan's is an operation
load_long : (number clients ops : ℕ) → length (deeds_of (work_of number clients ops)) ≡ ops
load_long number clients ops = all (range_with_len 0 ops) ∙ length-range_with_len 0 ops
  where
    all : (ks : List ℕ) → length (deeds_of (map (λ k. job_of clients k (word_at (generator number) k)) ks)) ≡ length ks
    all [] = refl
    all (k ∷ ks) = ap suc (all ks)

pub loads_done : OwnersAreDone → BlocksHaveOneClient → LoadsAreDone
loads_done done one number clients ops some j drawn lines w h book of_plan merged run tells =
    let all = done (plan_of number clients ops) (load_owners one number clients ops some) j drawn lines w h book of_plan merged run tells in
    (all.0 ∙ load_long number clients ops, all.1)

pub loads_plain : OwnersArePlain → BlocksHaveOneClient → LoadsArePlain
loads_plain plain one number clients ops some = plain number (plan_of number clients ops) (load_owners one number clients ops some)
