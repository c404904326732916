use Rattle.std.proofs.Common.{◌≡◌, ◌-◌, length, get_or, take, remove, ap, ◌∙◌, subst, arith}
use Rattle.std.proofs.lemmas.List.{take_all, get_or_default}
use Rattle.memory.specs.Line.{blank}
use Rattle.memory.proofs.Lines.{closed_start, closed_more}
use Rattle.memory.proofs.line.close.Goals as goal

pub loop-i-init : goal.loop-i-init
loop-i-init c = closed_start c.args.at c.args.waiting.now

pub loop-i-preserved : goal.loop-i-preserved
loop-i-preserved c =
    let v = get_or c.loop-i.waiting c.loop-i.i blank in
    closed_more c.args.at c.loop-i.i c.args.waiting.now c.loop-i.waiting v (omega arith) (omega arith) c.loop-i.auto.waiting (get_or_default c.loop-i.waiting c.loop-i.i blank v (omega arith)) c.loop-i.invariant

pub returns : goal.returns
returns c =
    let l = c.args.waiting.now in
    let over : c.loop-i.i ≡ length l = omega arith in
    subst (λ n. take (n - 1) c.loop-i.waiting ≡ remove l c.args.at) over (c.loop-i.invariant.moved ∙ ap (λ z. remove z c.args.at) (take_all c.loop-i.i l (omega arith)))
