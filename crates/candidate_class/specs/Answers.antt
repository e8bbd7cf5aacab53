-- Answers of nodes, seen as the function from nodes to answers.
use Rattle.std.specs.Prelude.{◌≡◌, ℕ, ◌<◌, List, [], ◌∷◌, Option, All, AllPairs}
use Rattle.std.specs.declared.option.Option.TheVariants.{Some}
use Rattle.wire_forms.specs.declared.message.Reply.{Reply}
use Rattle.protocol.specs.Count.{update}
use Rattle.protocol.specs.Operations.{no_answers}
use Rattle.candidate_class.specs.declared.answers.Answer.{Answer}

-- the answer of each node, if it is among these
abbrev pub by_node : List Answer → ℕ → Option Reply
by_node [] = no_answers
by_node (a ∷ rest) = update (by_node rest) a.node (Some a.reply)

-- the answers are those of different nodes below n
pub record AreOfNodes (n : ℕ) (answers : List Answer) : Type 0 where
  pub below : All (λ a. a.node < n) answers
  pub different : AllPairs (λ a c. a.node ≡ c.node → ⊥) answers
