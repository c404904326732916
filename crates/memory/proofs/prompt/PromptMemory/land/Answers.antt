use Rattle.std.proofs.Common.{refl}
use Rattle.memory.specs.Meaning.{Land}
use Rattle.memory.proofs.Prompts.{prompt_rules}
use Rattle.memory.proofs.prompt.PromptMemory.land.Goals as goal

pub returns : goal.returns
returns c = record { call = (refl, refl); rule = prompt_rules (Land c.args._side c.args._pick) _ _ (refl) }
