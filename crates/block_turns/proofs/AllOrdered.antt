-- The lives of all blocks, of which each turn has a number in one sequence, and crashes between turns.
use Rattle.std.proofs.Common.{ℕ, ◌≤◌, Bool, eqb, List, refl, sym, subst, inl, inr, arith}
use Rattle.std.specs.List.{Contains}
use Rattle.std.proofs.lemmas.Bool.{eq-eqb, eqb-true, cases_lt}
use Rattle.lists.proofs.lemmas.Members.{filter_has}
use Rattle.protocol.specs.Count.{count}
use Rattle.protocol.specs.Setting.{Setting, zeros}
use Rattle.linear_runs.specs.Linear.{Operation, IsLinear, Linearizable}
use Rattle.linear_runs.specs.Durable.{Crash, IsNotSpanned}
use Rattle.linear_runs.specs.Meaning.{EachTakesTime, BlocksComeTogether}
use Rattle.linear_runs.proofs.lemmas.Matching.{filter_none}
use Rattle.block_turns.specs.Turns.{Moment, turns_of}
use Rattle.block_turns.specs.Laws.{LivesAreLinearizable}
use Rattle.block_turns.specs.AllBlocks.{setting_on, AreLives, LivesAreLinearAsOne, LivesAreDurable, OneLifeIsDurable}
use Rattle.block_turns.proofs.lemmas.TurnsTold.{IsAtOnce, told_at_once, told_as_at_once, told_as_linear, told_linear, none_linear}

-- what ends at the turn at which it began goes on beyond no crash
not_spanned : (block : ℕ) (crash : Crash) (o : Operation) → IsAtOnce block o → IsNotSpanned crash o
not_spanned block crash o is start end by began less ended = let e = is.at_once start end began ended in omega (arith, less, e)

module _ (s : Setting) (linear : (lying : ℕ → Bool) → count s.n lying ≤ s.b → LivesAreLinearizable (setting_on s lying)) where
  module _ (lying : ℕ → ℕ → Bool) (lives : ℕ → List Moment) (number : ℕ → ℕ → ℕ) (ops : List Operation)
      (are : AreLives s lying lives number ops) where
    each_at_once : (o : Operation) → Contains ops o → IsAtOnce o.block o
    each_at_once o there =
        let l = are.inside o there in
        told_as_at_once (number o.block) o.block 0 (turns_of (lives o.block)) o (subst (λ (os : List Operation). Contains os o) (are.of_lives o.block l)
        (filter_has (λ (p : Operation). eqb p.block o.block) ops o there (eq-eqb o.block o.block refl)))

    each_linear : Linearizable (zeros s) ops
    each_linear block = elim (cases_lt block s.blocks) [
      | inl l ↦ subst (λ (os : List Operation). IsLinear (zeros s) os) (sym (are.of_lives block l))
          (told_as_linear (number block) (λ j k low. are.rises block j k l low) block (turns_of (lives block)) (zeros s)
          (linear (lying block) (are.few block l) block (lives block) (are.each block l) (are.apart block l)))
      | inr high ↦ subst (λ (os : List Operation). IsLinear (zeros s) os)
          (sym (filter_none (λ (o : Operation). eqb o.block block) ops (λ o there e.
          let l = are.inside o there in
          let f = eqb-true o.block block e in
          omega (arith, l, f, high)))) (none_linear (zeros s))
    ]

    take_time : EachTakesTime (zeros s) ops
    take_time o start end there began ended = let e = (each_at_once o there).at_once start end began ended in omega (arith, e)

  pub lives_as_one : ((first : List ℕ) (ops : List Operation) → BlocksComeTogether first ops) → LivesAreLinearAsOne s
  lives_as_one together lying lives number ops are = together (zeros s) ops (take_time lying lives number ops are) (each_linear lying lives number ops are)

  pub lives_durable : LivesAreDurable s
  lives_durable lying lives number ops crashes are = record {
    linearizable = each_linear lying lives number ops are;
    cut_off = λ crash o crashed there. not_spanned o.block crash o (each_at_once lying lives number ops are o there);
  }

pub one_life_durable : (s : Setting) → LivesAreLinearizable s → OneLifeIsDurable s
one_life_durable s linear block life crashes is apart = record {
  linearizable = told_linear block 0 (turns_of life) (zeros s) (linear block life is apart);
  cut_off = λ crash o crashed there. not_spanned block crash o (told_at_once block 0 (turns_of life) o there);
}
