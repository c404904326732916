use Rattle.std.proofs.Common.{◌≡◌, ℕ, sym, subst, add-one, arith}
use Rattle.memory.specs.Buffer.{parts, Sends, none, more}
use Rattle.memory.proofs.Buffers.{sends_length}
use Rattle.memory.proofs.buffer.Buffer.send_many.Goals as goal

pub loop-init : goal.loop-init
loop-init g c = none

pub send_one-requires : goal.send_one-requires
send_one-requires g c = omega (arith, sends_length g.M.Memory c.args.side (parts c.args.self.now) c.loop.invariant, c.loop-test.true, c.requires)

pub loop-preserved : goal.loop-preserved
loop-preserved g c = subst (λ (n : ℕ). Sends g.M.Memory c.args.side (parts c.args.self.now) n (parts c.send_one.new.self)) (sym (add-one c.loop.counter)) (more c.loop.invariant c.send_one.ensures)

pub returns : goal.returns
returns g c = let over : c.loop.counter ≡ c.args.n = omega arith in subst (λ (n : ℕ). Sends g.M.Memory c.args.side (parts c.args.self.now) n (parts c.loop.self)) over c.loop.invariant
