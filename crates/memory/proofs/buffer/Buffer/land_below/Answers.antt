use Rattle.std.proofs.Common.{sym, refl, subst, arith}
use Rattle.memory.specs.Meaning.{Land}
use Rattle.memory.specs.Buffer.{parts, with_below, Does, LandsBelow, waits_below, no_store, sends}
use Rattle.memory.proofs.Owns.{parts_of}
use Rattle.memory.proofs.buffer.Buffer.land_below.Goals as goal
use Rattle.memory.proofs.buffer.Buffer.land_below.Goals.{then-count-gt0-via-then-count-gt0, then-count-gt0-via-else-count-gt0+then-send_through}

pub returns-then-count-gt0 : goal.returns-then-count-gt0
returns-then-count-gt0 g c =
    let y = c.land.new.self in
    elim c.then-count-gt0.branch [
      | then-count-gt0-via-then-count-gt0 w ↦ subst (λ z. Does g.M.Memory (Land c.args.side c.args.pick) z.1.0 y → LandsBelow g.M.Memory c.args.side c.args.pick (parts c.args.self.now) (with_below y (parts_of z.1.0 z.1.1.0 z.1.1.1.0))) (sym w.self-is) (λ h. waits_below c.count.ensures w.if-count-gt0.true h refl) c.land.ensures
      | then-count-gt0-via-else-count-gt0+then-send_through w ↦ subst (λ z. Does g.M.Memory (Land c.args.side c.args.pick) z.1.0 y → LandsBelow g.M.Memory c.args.side c.args.pick (parts c.args.self.now) (with_below y (parts_of z.1.0 z.1.1.0 z.1.1.1.0))) (sym w.self-is) (λ h. sends c.count.ensures w.if-count-gt0.false w.if-send_through.ensures.2 w.if-send_through.ensures.1 h refl) c.land.ensures
    ]

pub returns-else-send_through : goal.returns-else-send_through
returns-else-send_through g c = no_store c.count.ensures c.if-count-gt0.false c.if-send_through.ensures (omega arith)
