use Rattle.std.proofs.Common.{◌≡◌, rules, unwrap_or, ap, ◌∙◌, arith}
use borrow.Author.Tests.{tests}
use Rattle.std.specs.Option.{option_map}
use Rattle.std.proofs.lemmas.Iterator.Adapters.{YieldsList-from_rev_slice}
use Rattle.std.proofs.lemmas.Iterator.Search.{find_from_yields_List}
use Rattle.std.proofs.lemmas.Grind.{common_steps}
use Rattle.memory.proofs.Lines.{youngest_to, youngest_seen}
use Rattle.memory.proofs.line.youngest.Goals as goal

pub returns : goal.returns
returns c f w =
    let found : option_map (λ v. v.now) c.find.result ≡ youngest_to c.args.address c.args.waiting.now = find_from_yields_List _ c.find.new.self _ c.find.result c.find.ensures.ran (YieldsList-from_rev_slice c.args.waiting.now cc) (λ x b q k. search (rules, tests)) in
    let word : c.map.result ≡ option_map (λ v. v.word) (option_map (λ v. v.now) c.find.result) = grind (arith, common_steps) in
    ap (λ o. unwrap_or o w) (word ∙ ap (option_map (λ v. v.word)) found) ∙ youngest_seen c.args.address c.args.waiting.now f w
