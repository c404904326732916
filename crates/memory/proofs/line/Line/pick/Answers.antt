use Rattle.std.proofs.Common.{◌≡◌, ℕ, ◌%◌, List, [], ap, ◌∙◌, sym, subst, arith}
use Rattle.memory.specs.declared.line.Waiting.{Waiting}
use Rattle.memory.specs.Line.{ready, line_of, Numbered, TakenOut}
use Rattle.memory.proofs.Lines.{taken_out}
use Rattle.memory.proofs.line.Line.pick.Goals as goal

pub returns : goal.returns
returns c =
    let l = c.args.self.now.waiting.items in
    let f = c.args.self.now.fenced in
    let i = c.in_ok-at.at in
    let count : c.count_ready-ready.result ≡ ready [] (line_of l f) = c.count_ready-ready.ensures f ∙ ap (λ (z : List Waiting). ready [] (line_of z f)) c.as_slice-waiting.ensures.value in
    let number : Numbered (c.args.pick % ready [] (line_of l f)) l i = subst (λ (n : ℕ). Numbered (c.args.pick % n) l i) count (subst (λ (z : List Waiting). Numbered (c.args.pick % c.count_ready-ready.result) z i) c.as_slice-waiting.ensures.value c.in_ok-at.ensures) in
    (omega (arith, count, c.if-ready-eq0.false), subst (λ z. TakenOut (c.args.pick % ready [] (line_of l f)) (line_of l f) c.take_out.result.address c.take_out.result.word (line_of z f)) (sym c.take_out.ensures.items) (taken_out l f c.take_out.result i (c.args.pick % ready [] (line_of l f)) number c.take_out.ensures.value))
