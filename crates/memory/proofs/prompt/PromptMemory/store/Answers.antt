use Rattle.memory.specs.Meaning.{Store}
use Rattle.memory.proofs.Prompts.{prompt_rules}
use Rattle.memory.proofs.prompt.PromptMemory.store.Goals as goal

pub returns : goal.returns
returns c = record {
  call = ((c.in_ok-check.ensures, c.write.ensures.means), c.write.ensures.owner);
  rule = prompt_rules (Store c.args._side c.args.address c.args.word) _ _ (c.in_ok-check.ensures, c.write.ensures.means);
}
