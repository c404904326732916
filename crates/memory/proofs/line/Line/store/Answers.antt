use Rattle.std.proofs.Common.{false, List, refl, ap, ◌∙◌, arith}
use Rattle.memory.specs.declared.line.Waiting.{Waiting}
use Rattle.memory.specs.Line.{line_of}
use Rattle.memory.proofs.Lines.{line_count, store_joins}
use Rattle.memory.proofs.line.Line.store.Goals as goal

pub push-requires : goal.push-requires
push-requires c = omega (arith, line_count c.args.self.now.waiting.items c.args.self.now.fenced)

pub returns : goal.returns
returns c = ap (λ (z : List Waiting). line_of z false) c.push.ensures.items ∙ store_joins c.args.self.now.waiting.items c.args.self.now.fenced (record { address = c.args.address; word = c.args.word; barred = c.args.self.now.fenced }) refl
