use Rattle.memory.proofs.Lines.{bar_joins}
use Rattle.memory.proofs.line.Line.bar.Goals as goal

pub returns : goal.returns
returns c = bar_joins c.args.self.now.waiting.items c.args.self.now.fenced
