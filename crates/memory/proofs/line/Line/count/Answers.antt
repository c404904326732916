use Rattle.std.proofs.Common.{sym, ◌∙◌}
use Rattle.memory.proofs.Lines.{line_count}
use Rattle.memory.proofs.line.Line.count.Goals as goal

pub returns-clause-count : goal.returns-clause-count
returns-clause-count c = c.len.ensures.value ∙ sym (line_count c.args.self.now.waiting.items c.args.self.now.fenced)
