-- Who a script of a plan's run declares lying.
use Rattle.plan_words.specs.declared.plan.Plan.{Plan}
use Rattle.script_text.specs.Replays.{AreAscendingLiars}

-- the liars of a plan that fits are those of a script
abbrev pub HasScriptLiars : Plan → Type 0
HasScriptLiars plan = AreAscendingLiars plan.config plan.liars
