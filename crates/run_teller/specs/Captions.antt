-- What the numbers of a cluster mean, in two lines.
use Rattle.std.specs.Prelude.{ℕ, List, [], ◌∷◌, ◌++◌, codes, decimal}
use Rattle.quorum_rules.specs.Limits.{Numbers, wait_of, complete_of, repairable_of}

abbrev pub nodes_line : Numbers → List ℕ
nodes_line c =
    codes "nodes: " ++ (decimal c.n ++ (codes "; may fail: " ++ (decimal c.t ++ (codes "; may lie: " ++ (decimal c.b
    ++ (codes "; fragments that give a block back: " ++ decimal c.m))))))

abbrev pub answers_line : Numbers → List ℕ
answers_line c =
    codes "answers that a phase waits for: " ++ (decimal (wait_of c) ++ (codes "; that make a version complete: " ++ (decimal (complete_of c)
    ++ (codes "; that let a read repair it: " ++ decimal (repairable_of c)))))

abbrev pub caption_of : Numbers → List (List ℕ)
caption_of c = nodes_line c ∷ answers_line c ∷ []
