use Rattle.std.proofs.Common.{refl}
use Rattle.memory.specs.Meaning.{Drain}
use Rattle.memory.proofs.Prompts.{prompt_rules}
use Rattle.memory.proofs.prompt.PromptMemory.drain.Goals as goal

pub returns : goal.returns
returns c = record { call = (refl, refl); rule = prompt_rules Drain _ _ (refl) }
