use Rattle.std.proofs.Common.{refl}
use Rattle.memory.specs.Meaning.{Bar}
use Rattle.memory.proofs.Prompts.{prompt_rules}
use Rattle.memory.proofs.prompt.PromptMemory.bar.Goals as goal

pub returns : goal.returns
returns c = record { call = (refl, refl); rule = prompt_rules (Bar c.args._side) _ _ (refl) }
