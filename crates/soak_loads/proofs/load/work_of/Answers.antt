use Rattle.std.proofs.Common.{ℕ, ◌+◌, List, [], ◌∷◌, ◌++◌, sym, ap, ◌∙◌, arith}
use Rattle.std.proofs.lemmas.List.FromFn.{map-range_with_len_more}
use Rattle.rand_pcg.specs.Lcg.{Lcg, next}
use Rattle.rand_pcg.specs.Pcg.{multiplier_64, pcg32}
use Rattle.plan_words.specs.declared.job.Job.{Job}
use Rattle.soak_loads.specs.MadePlans.{generator, word_at, job_of, work_of}
use Rattle.soak_loads.proofs.Words.{no_steps, one_step_more}
use Rattle.soak_loads.proofs.load.work_of.Goals as goal

pub loop-j-init : goal.loop-j-init
loop-j-init c = (c.new-words.ensures ∙ no_steps 64 multiplier_64 (generator c.args.number), c.new-work.ensures)

pub loop-j-preserved : goal.loop-j-preserved
loop-j-preserved c =
    let g = generator c.args.number in
    let f = λ (j : ℕ). job_of c.args.clients j (word_at g j) in
    let j = c.loop-j.j in
    let word = ap (λ (p : ℕ × Lcg). p.0) c.next_word-word.ensures ∙ ap (λ (h : Lcg). (pcg32 h).0) c.loop-j.invariant.0 in (
      ap (λ (p : ℕ × Lcg). p.1) c.next_word-word.ensures ∙ ap (next 64 multiplier_64) c.loop-j.invariant.0 ∙ one_step_more 64 multiplier_64 j g,
      c.in_ok-push.ensures.ok
          ∙ ap (λ (jobs : List Job). jobs ++ c.in_ok-job_of.field-0 ∷ []) c.loop-j.invariant.1
          ∙ ap (λ (job : Job). work_of c.args.number c.args.clients j ++ job ∷ []) (c.in_ok-job_of.ensures ∙ ap (job_of c.args.clients j) word)
          ∙ sym (map-range_with_len_more f 0 j j (omega arith)),
    )
