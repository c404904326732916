use Rattle.std.proofs.Common.{◌≡◌, ◌-◌, rules, not, ap, ◌∙◌, get_or, drop, length, length-drop, arith}
use borrow.Author.Tests.{tests}
use Rattle.std.specs.List.{list_any}
use Rattle.std.proofs.lemmas.List.{take_all}
use Rattle.std.proofs.lemmas.Iterator.{YieldsList-from_slice, YieldsList-from_zip}
use Rattle.std.proofs.lemmas.Iterator.Consumers.{YieldsList-at}
use Rattle.std.proofs.lemmas.Iterator.Search.{any_from_yields_List}
use Rattle.memory.specs.Line.{holds_back, blank}
use Rattle.memory.proofs.Lines.{followed, unheld}
use Rattle.memory.proofs.line.can_land.Goals as goal

pub returns : goal.returns
returns c =
    let l = c.args.waiting.now in
    let a = (get_or l c.args.at blank).address in
    let held : c.any.result ≡ list_any (λ p. holds_back p.0 p.1 a) (followed l c.args.at) = any_from_yields_List (λ p. holds_back p.0 p.1 a) c.any.new.self _ c.any.result c.any.ensures.ran (YieldsList-from_zip (YieldsList-at c.zip.ensures.first (YieldsList-from_slice _ cc)) (YieldsList-from_slice _ (c.zip.ensures.second.0 ∙ take_all (length l - 1) (drop 1 l) (omega (arith, length-drop 1 l))))) (λ x b q k. search (rules, tests)) in
    ap not held ∙ unheld l a c.args.at c.requires
