-- What a picture shows, in words: its title and its description.
use Rattle.std.specs.Prelude.{ℕ, Bool, true, false, ◌-◌, ◌==◌, List, [], ◌∷◌, ◌++◌, length, codes, decimal, count_by, if◌then◌else◌}
use Rattle.std.specs.List.{flat_map}
use Rattle.picture_svg.specs.Names.{actor_text}
use Rattle.picture_svg.specs.declared.picture.Actor.{Actor}
use Rattle.picture_svg.specs.declared.picture.Actor.TheVariants.{Client, Node}
use Rattle.picture_svg.specs.declared.picture.Lifeline.{Lifeline}
use Rattle.picture_svg.specs.declared.picture.Outcomes.{Outcomes}

-- so many of a kind
abbrev pub many : ℕ → List ℕ → List ℕ
many count kind = decimal count ++ (codes " " ++ (kind ++ (if count == 1 then [] else codes "s")))

abbrev pub is_node : Actor → Bool
is_node (Client client) = false
is_node (Node node) = true

abbrev pub nodes_among : List Lifeline → ℕ
nodes_among lifelines = count_by (λ l. is_node l.actor) lifelines

-- how many nodes and clients there are
abbrev pub title_text : List Lifeline → List ℕ
title_text lifelines =
    codes "A run of " ++ (many (nodes_among lifelines) (codes "node")
    ++ (codes " and " ++ many (length lifelines - nodes_among lifelines) (codes "client")))

-- who lies
abbrev pub liar_of : Lifeline → List Actor
liar_of l = if l.is_liar then l.actor ∷ [] else []

abbrev pub liars_among : List Lifeline → List Actor
liars_among lifelines = flat_map liar_of lifelines

-- a name after another
abbrev pub next_name : Actor → List ℕ
next_name actor = codes ", " ++ actor_text actor

-- a sentence about who does something, or that nobody does
abbrev pub sentence : List ℕ → List ℕ → List Actor → List ℕ
sentence deed doing [] = codes "Nobody " ++ (deed ++ codes ". ")
sentence deed doing (actor ∷ actors) = doing ++ (codes ": " ++ (actor_text actor ++ (flat_map next_name actors ++ codes ". ")))

-- a number and what follows it
abbrev pub counted : ℕ → List ℕ → List ℕ
counted count what = decimal count ++ what

-- what became of how many operations
abbrev pub outcomes_text : Outcomes → List ℕ
outcomes_text o = codes "Operations: " ++ (counted o.done (codes " done, ") ++ (counted o.spent (codes " spent, ") ++ counted o.pending (codes " pending.")))

-- how long the script is, who lies, who crashes, and what became of the operations
abbrev pub description_text : ℕ → List Lifeline → List Actor → Outcomes → List ℕ
description_text rows lifelines crashed outcomes =
    many rows (codes "line") ++ (codes " of a script. "
    ++ (sentence (codes "lies") (codes "Lying") (liars_among lifelines)
    ++ (sentence (codes "crashes") (codes "Crashing") crashed
    ++ outcomes_text outcomes)))
